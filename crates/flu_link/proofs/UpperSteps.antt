-- The steps of the upper end keep the rule.
use Rattle.std.proofs.Common.{◌≡◌, ℕ, ◌+◌, ◌<◌, ◌≤◌, ◌^◌, ◌⊎◌, Bool, true, false, ◌||◌, if◌then◌else◌, List, []}
use Rattle.std.proofs.Common.{◌∷◌, get_or, set, sym, refl, ap, ◌∙◌, subst, ⊎_elim, arith, Option, Some, None}
use mathlib.Core.Logic.{dite}
use mathlib.Core.Option as maybe
use native.Mathlib.Decide.{ℕ_discrete}
use lib.ListN.{get_elem?}
use Rattle.atomic_table.specs.Table.{Act, keeps, takes, gives, step, Valid, homes_after, carried_after, Allows}
use Rattle.flu_fork.specs.declared.lots.Lot.{Lot}
use Rattle.flu_fork.specs.Lots.{LotFits}
use Rattle.flu_fork.specs.Serving.{GrownFrom, AsksAbove}
use Rattle.flu_link.specs.declared.notes.UpperSeat.{UpperSeat}
use Rattle.flu_link.specs.declared.notes.LowerSeat.{LowerSeat}
use Rattle.flu_link.specs.declared.notes.View.TheVariants.{Top}
use Rattle.flu_link.specs.Seats.{Sat, ask, loan}
use Rattle.flu_link.specs.Rule.{Follows, Agrees, Linked, Kept}
use Rattle.flu_link.specs.Steps.{peeked_up, Fetches, looks_up, fetches, stores_itag, stores_index, asks, lends, stops_up, sees_stop_up}
use Rattle.flu_link.proofs.Stepping.{Homes, UpperGoes, upper_steps, aside_agrees, aside_shows, loaded}
use Rattle.flu_link.proofs.Stepping.{found, Top-is, bool_cases, stop_small, looked_up, stored, same_lot}

-- one more look of the upper end, which leaves the slot where it is
look : (u : UpperSeat) (low : LowerSeat) (words : List ℕ) (homes : Homes) → Linked u low words homes
    → Linked (peeked_up u (get_or words 0 0)) low (set words 0 (get_or words 0 0)) homes
look u low words homes k = let same = found words _ k.phase k.words_are in record {
  phase = k.phase;
  stop = k.stop;
  home = k.home;
  words_are = loaded words _ 0 k.words_are;
  homes_are = k.homes_are;
  one_case = k.one_case;
  follows = looked_up _ _ _ _ k.follows same;
  lies = record {
    upper_out = λ o. let x = k.lies.upper_out o in (x.0, same ∙ x.0, x.2, x.3);
    lower_out = k.lies.lower_out;
    at_home = λ a b. let h = k.lies.at_home a b in (h.0, h.1, aside_shows u low k.phase _ _ _ _ _ _ h.0 h.2);
  };
  agrees = aside_agrees u low k.phase _ _ _ _ _ _ k.agrees;
  stops = record { is = k.stops.is; upper_found = k.stops.upper_found; lower_found = k.stops.lower_found };
}

up_still : (up low phase : ℕ) → Follows up low phase → up ≤ 1 → phase ≤ 1
up_still up low phase f le = dite (ℕ_discrete up 0) (λ e. f.upper_lent e) (λ ne. let one : up ≡ 1 = omega arith in let same = f.upper_held one in omega arith)

pub looks : (n id : ℕ) (m : Sat) (u : UpperSeat) → m.0 ≡ Top u → Allows Kept n id m 0 (λ y. y) (looks_up (step n 0 0 0 maybe.none) m)
looks n id m u is = upper_steps n id m u 0 (λ y. y) (looks_up (step n 0 0 0 maybe.none) m) is (λ low words homes k. (
  peeked_up u (get_or words 0 0),
  keeps,
  tt,
  look u low words homes k,
  λ v e. (
    ap (λ z. (Top (peeked_up z (get_or words 0 0)), m.1)) (Top-is u v m is e),
    λ le. subst (λ (z : ℕ). z ≤ 1) (sym (found words _ k.phase k.words_are))
        (up_still u.phase low.phase k.phase k.follows (subst (λ (z : UpperSeat). z.phase ≤ 1) (sym (Top-is u v m is e)) le)),
    λ one. found words _ k.phase k.words_are ∙ k.follows.upper_held (ap (λ (z : UpperSeat). z.phase) (Top-is u v m is e) ∙ one),
  ),
))

-- the slot is with the lower end only where it stores next
lower_home : (u : UpperSeat) (low : LowerSeat) (words : List ℕ) (homes : Homes) (k : Linked u low words homes) → k.phase ≡ 3 → low.out ≡ false
lower_home u low words homes k three = ⊎_elim (λ (o : low.out ≡ true). absurd (let x = k.lies.lower_out o in let y : k.phase < 3 = x.2 in omega arith))
    (λ o. o) (bool_cases low.out)

abbrev pub UpperStep : UpperSeat → List (ℕ × Option Lot) → ℕ → (ℕ → ℕ) → (ℕ → Sat → Type 0) → LowerSeat → List ℕ → Homes → Type 0
UpperStep u cs i f told low words homes = (u' : UpperSeat) × (a : Act (Option Lot)) × Valid homes cs a
    × Linked u' low (set words i (f (get_or words i 0))) (homes_after homes cs a) × told (get_or words i 0) (Top u', carried_after cs a)

-- the slot is taken, with what it has
took : (u u' : UpperSeat) (low : LowerSeat) (words : List ℕ) (homes : Homes) (k : Linked u low words homes) → u'.phase ≡ k.phase → u'.out ≡ true
    → u'.taken ≡ true → k.phase ≡ 3
    → (u'.case ≡ u.case) × (u'.lower ≡ u.lower) × (u'.ask ≡ u.ask) × (u'.stopped ≡ u.stopped) × (u'.stop_found ≡ u.stop_found) → Agrees u' low k.phase
    → Linked u' low (set words 0 (get_or words 0 0)) (set homes 0 maybe.none)
took u u' low words homes k same out taken three eq a = record {
  phase = k.phase;
  stop = k.stop;
  home = maybe.none;
  words_are = loaded words _ 0 k.words_are ∙ ap (λ (z : Rattle.flu_fork.specs.declared.lots.Ask.Ask). k.phase ∷ z.itag.0 ∷ z.index ∷ k.stop ∷ []) (sym eq.2);
  homes_are = ap (λ h. set h 0 maybe.none) k.homes_are;
  one_case = (k.one_case.0 ∙ sym eq.0, k.one_case.1 ∙ sym eq.1);
  follows = looked_up _ _ _ _ k.follows same;
  lies = record {
    upper_out = λ _. (three, same ∙ three, taken, lower_home u low words homes k three);
    lower_out = k.lies.lower_out;
    at_home = λ wrong. cc;
  };
  agrees = a;
  stops = record {
    is = k.stops.is ∙ ap (λ z. if (z || low.stopped) then 1 else 0) (sym eq.3);
    upper_found = subst (λ z. z ≤ k.stop) (sym eq.4) k.stops.upper_found;
    lower_found = k.stops.lower_found;
  };
}

pub fetch : (n id : ℕ) (m : Sat) (u : UpperSeat) → m.0 ≡ Top u → Allows Kept n id m 0 (λ y. y) (fetches (step n 0 0 0 maybe.none) m)
fetch n id m u is = upper_steps n id m u 0 (λ y. y) (fetches (step n 0 0 0 maybe.none) m) is go
  where
    tells : (y : ℕ) (m' : Sat) → Fetches u m.1 y m' → (v : UpperSeat) → m.0 ≡ Top v → Fetches v m.1 y m'
    tells y m' t v e = subst (λ z. Fetches z m.1 y m') (Top-is u v m is e) t

    go : UpperGoes n id u m.1 0 (λ y. y) (fetches (step n 0 0 0 maybe.none) m)
    go low words homes k =
        let y : ℕ = get_or words 0 0 in let same : y ≡ k.phase = found words _ k.phase k.words_are in
        let still : u.phase ≤ 1 → y ≤ 1 = λ le. subst (λ (z : ℕ). z ≤ 1) (sym same) (up_still u.phase low.phase k.phase k.follows le) in
        let sure : u.phase ≡ 3 → y ≡ 3 = λ e. same ∙ k.follows.upper_given e in
        let G : Type 0 = UpperStep u m.1 0 (λ y. y) (fetches (step n 0 0 0 maybe.none) m) low words homes in
        let stay : Fetches u m.1 y (Top (peeked_up u y), m.1) → G = λ t. (peeked_up u y, keeps, tt, look u low words homes k, tells y _ t) in
        dite (ℕ_discrete y 3)
        (λ three. let three' : k.phase ≡ 3 = sym same ∙ three in ⊎_elim
        (λ (o : u.out ≡ true). let x = k.lies.upper_out o in stay record {
          still = still;
          sure = sure;
          other = λ ne. absurd (ne three);
          had = λ _ _. (refl, x.2);
          nothing = λ _ wrong. cc;
          lot = λ _ wrong. cc;
        })
        (λ (o : u.out ≡ false). let h = k.lies.at_home o (lower_home u low words homes k three') in ⊎_elim
        (λ (t : u.taken ≡ true). let none : h.0 ≡ None = h.2.taken three' t in (
          record (peeked_up u y) { out = true },
          takes 0 None,
          ap (λ l. get_elem? l 0) k.homes_are ∙ ap maybe.some (h.1 ∙ ap maybe.some none),
          took u (record (peeked_up u y) { out = true }) low words homes k same refl t three' (refl, refl, refl, refl, refl)
              (aside_agrees u low k.phase _ _ _ _ _ _ k.agrees),
          tells y _ record { still = still; sure = sure; other = λ ne. absurd (ne three); had = λ _ wrong. cc; nothing = λ _ _ _. refl; lot = λ _ wrong. cc },
        ))
        (λ (t : u.taken ≡ false). let g = h.2.given three' t in (
          record (peeked_up u y) { out = true; taken = true; received = (g.0).upto },
          takes 0 (Some g.0),
          ap (λ l. get_elem? l 0) k.homes_are ∙ ap maybe.some (h.1 ∙ ap maybe.some g.1),
          took u (record (peeked_up u y) { out = true; taken = true; received = (g.0).upto }) low words homes k same refl refl three'
              (refl, refl, refl, refl, refl) record {
                grown = k.agrees.grown;
                same = λ lt. absurd (omega arith);
                same_taken = λ _. g.4;
                held = k.agrees.held;
                held_out = k.agrees.held_out;
                asked = λ two. absurd (omega arith);
                itag = k.agrees.itag;
                index = k.agrees.index;
                none = k.agrees.none;
              },
          tells y _ record {
            still = still;
            sure = sure;
            other = λ ne. absurd (ne three);
            had = λ _ wrong. cc;
            nothing = λ _ _ wrong. cc;
            lot = λ _ _. (g.0, refl, g.2, g.3);
          },
        ))
        (bool_cases u.taken))
        (bool_cases u.out))
        (λ ne. stay record {
          still = still;
          sure = sure;
          other = λ _. refl;
          had = λ z. absurd (ne z);
          nothing = λ z. absurd (ne z);
          lot = λ z. absurd (ne z);
        })

-- while the upper end stores next at Held, it may change the words of the ask
asking : (u : UpperSeat) (low : LowerSeat) (words : List ℕ) (homes : Homes) (k : Linked u low words homes) → u.phase ≡ 1 → (itag index : ℕ) (words' : List ℕ)
    → words' ≡ k.phase ∷ itag ∷ index ∷ k.stop ∷ []
    → Linked (record u { ask = ask itag index }) low words' homes
asking u low words homes k held itag index words' are = let f = k.follows in let one : k.phase ≡ 1 = f.upper_held held in
    let two : low.phase ≡ 2 → ⊥ = λ z. let x = f.lower_asked z in omega arith in record {
      phase = k.phase;
      stop = k.stop;
      home = k.home;
      words_are = are;
      homes_are = k.homes_are;
      one_case = k.one_case;
      follows = f;
      lies = record {
        upper_out = k.lies.upper_out;
        lower_out = k.lies.lower_out;
        at_home = λ a b. let h = k.lies.at_home a b in (
          h.0,
          h.1,
          record {
            lent = h.2.lent;
            empty = h.2.empty;
            taken = h.2.taken;
            given = λ z. absurd (omega arith);
          },
        );
      };
      agrees = let a = k.agrees in record {
        grown = a.grown;
        same = a.same;
        same_taken = a.same_taken;
        held = a.held;
        held_out = a.held_out;
        asked = λ z. absurd (omega arith);
        itag = λ z. absurd (two z);
        index = λ z. absurd (two z);
        none = a.none;
      };
      stops = record { is = k.stops.is; upper_found = k.stops.upper_found; lower_found = k.stops.lower_found };
    }

pub itag_stores : (n id : ℕ) (m : Sat) (u : UpperSeat) (x : ℕ) → m.0 ≡ Top u → u.phase ≡ 1
    → Allows Kept n id m 1 (λ _. x) (λ _. stores_itag (step n 1 x 0 maybe.none) m x)
itag_stores n id m u x is held = upper_steps n id m u 1 (λ _. x) (λ _. stores_itag (step n 1 x 0 maybe.none) m x) is (λ low words homes k. (
  record u { ask = ask x u.ask.index },
  keeps,
  tt,
  asking u low words homes k held x u.ask.index _ (stored words _ _ _ _ 1 x k.words_are),
  λ v e. ap (λ (z : UpperSeat). (Top (record z { ask = ask x z.ask.index }), m.1)) (Top-is u v m is e),
))

pub index_stores : (n id : ℕ) (m : Sat) (u : UpperSeat) (x : ℕ) → m.0 ≡ Top u → u.phase ≡ 1
    → Allows Kept n id m 2 (λ _. x) (λ _. stores_index (step n 2 x 0 maybe.none) m x)
index_stores n id m u x is held = upper_steps n id m u 2 (λ _. x) (λ _. stores_index (step n 2 x 0 maybe.none) m x) is (λ low words homes k. (
  record u { ask = ask u.ask.itag.0 x },
  keeps,
  tt,
  asking u low words homes k held u.ask.itag.0 x _ (stored words _ _ _ _ 2 x k.words_are),
  λ v e. ap (λ (z : UpperSeat). (Top (record z { ask = ask z.ask.itag.0 x }), m.1)) (Top-is u v m is e),
))

-- what may be asked
pub record MayAsk (u : UpperSeat) : Type 0 where
  pub above : AsksAbove u.case u.lower u.ask
  pub index : u.ask.index ≡ get_or u.lent.upto u.ask.itag.0 0
  pub small : u.ask.itag.0 < 2 ^ 32

pub asked_stores : (n id : ℕ) (m : Sat) (u : UpperSeat) → m.0 ≡ Top u → u.phase ≡ 1 → MayAsk u
    → Allows Kept n id m 0 (λ _. 2) (λ _. asks (step n 0 2 0 maybe.none) m 2)
asked_stores n id m u is held may = upper_steps n id m u 0 (λ _. 2) (λ _. asks (step n 0 2 0 maybe.none) m 2) is (λ low words homes k.
    let f = k.follows in let one : k.phase ≡ 1 = f.upper_held held in
    let two : low.phase ≡ 2 → ⊥ = λ z. let x = f.lower_asked z in omega arith in
    let not_out : low.out ≡ true → ⊥ = λ o. (k.lies.lower_out o).1 one in (
      record u { phase = 2; taken = false },
      keeps,
      tt,
      record {
        phase = 2;
        stop = k.stop;
        home = k.home;
        words_are = stored words _ _ _ _ 0 2 k.words_are;
        homes_are = k.homes_are;
        one_case = k.one_case;
        follows = record {
          four = omega arith;
          upper_lent = λ z. omega arith;
          upper_held = λ z. omega arith;
          upper_asked = λ z. omega arith;
          upper_given = λ z. omega arith;
          lower_lent = λ z. let x = f.lower_lent z in omega arith;
          lower_held = λ z. (omega arith, omega arith);
          lower_asked = λ z. refl;
          lower_given = λ z. absurd ((f.lower_given z).0 one);
        };
        lies = record {
          upper_out = λ o. let x = (k.lies.upper_out o).0 in absurd (omega arith);
          lower_out = λ o. absurd (not_out o);
          at_home = λ a b. let h = k.lies.at_home a b in (
            h.0,
            h.1,
            record {
              lent = λ z. absurd (omega arith);
              empty = λ _ _. h.2.empty (omega arith) (omega arith);
              taken = λ z. absurd (omega arith);
              given = λ z. absurd (omega arith);
            },
          );
        };
        agrees = let a = k.agrees in record {
          grown = λ _. a.grown (omega arith);
          same = λ _. a.same (omega arith);
          same_taken = λ wrong. cc;
          held = λ _ _. a.held (omega arith) (omega arith);
          held_out = a.held_out;
          asked = λ _. (refl, may.above, may.index, may.small);
          itag = λ z. absurd (two z);
          index = λ z. absurd (two z);
          none = a.none;
        };
        stops = record { is = k.stops.is; upper_found = k.stops.upper_found; lower_found = k.stops.lower_found };
      },
      λ v e. ap (λ (z : UpperSeat). (Top (record z { phase = 2; taken = false }), m.1)) (Top-is u v m is e),
    ))

-- what may be lent
pub record MayLend (u : UpperSeat) (lot : Lot) : Type 0 where
  pub fits : LotFits u.case u.lower lot
  pub grown : GrownFrom u.case u.lower u.received lot.upto
  pub free : u.taken ≡ true

pub lent_stores : (n id : ℕ) (m : Sat) (u : UpperSeat) (lot : Lot) → m.0 ≡ Top u → m.1 ≡ (0, Some lot) ∷ [] → u.phase ≡ 3 → u.out ≡ true → MayLend u lot
    → Allows Kept n id m 0 (λ _. 0) (λ _. lends (step n 0 0 0 maybe.none) m 0)
lent_stores n id m u lot is has given out may = upper_steps n id m u 0 (λ _. 0) (λ _. lends (step n 0 0 0 maybe.none) m 0) is (λ low words homes k.
    let f = k.follows in let three : k.phase ≡ 3 = f.upper_given given in
    let inside : low.out ≡ false = (k.lies.upper_out out).3 in
    let u' : UpperSeat = record u { phase = 0; lent = loan lot; out = false } in
    let two : low.phase ≡ 2 → ⊥ = λ z. let x = f.lower_asked z in omega arith in
    let linked : Linked u' low (set words 0 0) (set homes 0 (maybe.some (Some lot))) = record {
      phase = 0;
      stop = k.stop;
      home = maybe.some (Some lot);
      words_are = stored words _ _ _ _ 0 0 k.words_are;
      homes_are = ap (λ h. set h 0 (maybe.some (Some lot))) k.homes_are;
      one_case = k.one_case;
      follows = record {
        four = omega arith;
        upper_lent = λ z. omega arith;
        upper_held = λ z. absurd (omega arith);
        upper_asked = λ z. absurd (omega arith);
        upper_given = λ z. absurd (omega arith);
        lower_lent = λ z. refl;
        lower_held = λ z. let x = (f.lower_held z).1 in absurd (omega arith);
        lower_asked = λ z. absurd (two z);
        lower_given = λ z. ((λ x. omega arith), λ x. omega arith);
      };
      lies = record {
        upper_out = λ wrong. cc;
        lower_out = λ wrong. cc;
        at_home = λ _ _. (
          Some lot,
          refl,
          record {
            lent = λ _. (lot, refl, may.fits, refl);
            empty = λ z. absurd (omega arith);
            taken = λ z. absurd (omega arith);
            given = λ z. absurd (omega arith);
          },
        );
      };
      agrees = let a = k.agrees in record {
        grown = λ _. subst (λ b. GrownFrom u.case u.lower b lot.upto) (a.same_taken may.free) may.grown;
        same = λ _. a.same_taken may.free;
        same_taken = a.same_taken;
        held = λ z. absurd (omega arith);
        held_out = λ wrong. cc;
        asked = λ z. absurd (omega arith);
        itag = λ z. absurd (two z);
        index = λ z. absurd (two z);
        none = a.none;
      };
      stops = record { is = k.stops.is; upper_found = k.stops.upper_found; lower_found = k.stops.lower_found };
    } in (
      u',
      gives,
      tt,
      subst (λ cs. Linked u' low (set words 0 0) (homes_after homes cs gives)) (sym has) linked,
      λ v lot' e e'. λ j. (
        Top (record (Top-is u v m is e j) { phase = 0; lent = loan (same_lot lot lot' m.1 has e' j); out = false }),
        carried_after (has j) gives,
      ),
    ))

pub stops_here : (n id : ℕ) (m : Sat) (u : UpperSeat) → m.0 ≡ Top u → Allows Kept n id m 3 (λ _. 1) (λ _. stops_up (step n 3 1 0 maybe.none) m 1)
stops_here n id m u is = upper_steps n id m u 3 (λ _. 1) (λ _. stops_up (step n 3 1 0 maybe.none) m 1) is (λ low words homes k.
    let small = stop_small (u.stopped || low.stopped) k.stop k.stops.is in (
      record u { stopped = true },
      keeps,
      tt,
      record {
        phase = k.phase;
        stop = 1;
        home = k.home;
        words_are = stored words _ _ _ _ 3 1 k.words_are;
        homes_are = k.homes_are;
        one_case = k.one_case;
        follows = k.follows;
        lies = record {
          upper_out = k.lies.upper_out;
          lower_out = k.lies.lower_out;
          at_home = λ a b. let h = k.lies.at_home a b in
              (h.0, h.1, aside_shows u low k.phase _ _ _ _ _ _ h.0 h.2);
        };
        agrees = aside_agrees u low k.phase _ _ _ _ _ _ k.agrees;
        stops = let a = k.stops.upper_found in let b = k.stops.lower_found in record { is = refl; upper_found = omega arith; lower_found = omega arith };
      },
      λ v e. ap (λ (z : UpperSeat). (Top (record z { stopped = true }), m.1)) (Top-is u v m is e),
    ))

pub stop_looks_here : (n id : ℕ) (m : Sat) (u : UpperSeat) → m.0 ≡ Top u → Allows Kept n id m 3 (λ y. y) (sees_stop_up (step n 3 0 0 maybe.none) m)
stop_looks_here n id m u is = upper_steps n id m u 3 (λ y. y) (sees_stop_up (step n 3 0 0 maybe.none) m) is (λ low words homes k.
    let y : ℕ = get_or words 3 0 in let same : y ≡ k.stop = ap (λ l. get_or l 3 0) k.words_are in
    let small = stop_small (u.stopped || low.stopped) k.stop k.stops.is in (
      record u { stop_looks = u.stop_looks + 1; stop_found = y },
      keeps,
      tt,
      record {
        phase = k.phase;
        stop = k.stop;
        home = k.home;
        words_are = loaded words _ 3 k.words_are;
        homes_are = k.homes_are;
        one_case = k.one_case;
        follows = k.follows;
        lies = record {
          upper_out = k.lies.upper_out;
          lower_out = k.lies.lower_out;
          at_home = λ a b. let h = k.lies.at_home a b in
              (h.0, h.1, aside_shows u low k.phase _ _ _ _ _ _ h.0 h.2);
        };
        agrees = aside_agrees u low k.phase _ _ _ _ _ _ k.agrees;
        stops = record { is = k.stops.is; upper_found = omega arith; lower_found = k.stops.lower_found };
      },
      λ v e. let v_is = Top-is u v m is e in (
        ap (λ (z : UpperSeat). (Top (record z { stop_looks = z.stop_looks + 1; stop_found = y }), m.1)) v_is,
        omega arith,
        subst (λ (z : UpperSeat). z.stop_found ≤ y) v_is (let a = k.stops.upper_found in omega arith),
        λ it. same ∙ (k.stops.is ∙ ap (λ (b : Bool). if (b || low.stopped) then 1 else 0) (ap (λ (z : UpperSeat). z.stopped) v_is ∙ it)),
      ),
    ))

-- the seat has the slot, empty, or has no slot
abbrev pub IsEmptyHanded : UpperSeat → List (ℕ × Option Lot) → Type 0
IsEmptyHanded u cs = ((u.out ≡ false) × (cs ≡ [])) ⊎ ((u.out ≡ true) × (cs ≡ (0, None) ∷ []))
