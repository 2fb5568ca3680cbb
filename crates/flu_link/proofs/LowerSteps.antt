-- The steps of the lower end keep the rule.
use Rattle.std.proofs.Common.{◌≡◌, ◌≢◌, ℕ, ◌+◌, ◌<◌, ◌≤◌, ◌^◌, Bool, true, false, ◌||◌, if◌then◌else◌, List, [], ◌∷◌}
use Rattle.std.proofs.Common.{get_or, set, sym, refl, ap, ◌∙◌, subst, ⊎_elim, arith, Option, Some, None, IfSome}
use mathlib.Core.Logic.{dite}
use mathlib.Core.Option as maybe
use native.Mathlib.Decide.{ℕ_discrete}
use lib.ListN.{get_elem?}
use Rattle.atomic_table.specs.Table.{Act, keeps, takes, gives, step, Valid, homes_after, carried_after, Allows}
use Rattle.flu_fork.specs.declared.content.Content.{Content}
use Rattle.flu_fork.specs.declared.lots.Lot.{Lot}
use Rattle.flu_link.specs.declared.notes.Loan.{Loan}
use Rattle.flu_fork.specs.Lots.{LotFits}
use Rattle.flu_fork.specs.Serving.{GrownFrom, Served, AsksAbove}
use Rattle.flu_link.specs.declared.notes.UpperSeat.{UpperSeat}
use Rattle.flu_link.specs.declared.notes.LowerSeat.{LowerSeat}
use Rattle.flu_link.specs.declared.notes.View.TheVariants.{Bottom}
use Rattle.flu_link.specs.Seats.{Sat, ask, loan, lent_counts}
use Rattle.flu_link.specs.Rule.{Follows, Agrees, Linked, Kept}
use Rattle.flu_link.specs.Steps.{peeked_low, Holds, Replies, looks_low, holds, replies, stores_held, gives_lot, sees_itag, sees_index, stops_low, sees_stop_low}
use Rattle.flu_link.proofs.Stepping.{Homes, LowerGoes, lower_steps, low_shows, low_agrees, loaded, found}
use Rattle.flu_link.proofs.Stepping.{Bottom-is, bool_cases, or_true, stop_small, looked_low, stored, same_lot}

-- the parts of the ask that were noted stay right where the phase is found
noted : (part : Option ℕ) (was now p x : ℕ) → now ≡ p → (was ≡ 2 → IfSome part (λ i. i ≡ x)) → (was ≢ 2 → part ≡ None) → now ≡ 2 → IfSome part (λ i. i ≡ x)
noted part was now p x same known none two = dite (ℕ_discrete was 2) known (λ ne. subst (λ o. IfSome o (λ i. i ≡ x)) (sym (none ne)) tt)

-- what the two counts say, where the lower end finds the phase
found_agrees : (u : UpperSeat) (l l' : LowerSeat) (p : ℕ) → Follows u.phase l.phase p → l'.phase ≡ p
    → (l'.given ≡ l.given) × (l'.itag ≡ l.itag) × (l'.index ≡ l.index)
    → (0 < p → p < 3 → l'.held ≡ u.lent) → (l'.out ≡ true → l'.held ≡ u.lent) → Agrees u l p → Agrees u l' p
found_agrees u l l' p f same eq held held_out a = record {
  grown = λ z. subst (λ b. GrownFrom u.case u.lower b u.lent.upto) (sym eq.0) (a.grown z);
  same = λ z. a.same z ∙ sym eq.0;
  same_taken = λ z. a.same_taken z ∙ sym eq.0;
  held = held;
  held_out = held_out;
  asked = a.asked;
  itag = λ z. subst (λ o. IfSome o (λ i. i ≡ u.ask.itag.0)) (sym eq.1) (noted l.itag l.phase l'.phase p u.ask.itag.0 same a.itag (λ ne. (a.none ne).0) z);
  index = λ z. subst (λ o. IfSome o (λ i. i ≡ u.ask.index)) (sym eq.2) (noted l.index l.phase l'.phase p u.ask.index same a.index (λ ne. (a.none ne).1) z);
  none = λ ne. dite (ℕ_discrete l.phase 2) (λ two. let x = f.lower_asked two in absurd (ne (omega arith)))
      (λ other. let n = a.none other in (eq.1 ∙ n.0, eq.2 ∙ n.1));
}

-- one more look of the lower end, which leaves the slot where it is
look : (u : UpperSeat) (l : LowerSeat) (words : List ℕ) (homes : Homes) → Linked u l words homes
    → Linked u (peeked_low l (get_or words 0 0)) (set words 0 (get_or words 0 0)) homes
look u l words homes k = let same = found words _ k.phase k.words_are in record {
  phase = k.phase;
  stop = k.stop;
  home = k.home;
  words_are = loaded words _ 0 k.words_are;
  homes_are = k.homes_are;
  one_case = k.one_case;
  follows = looked_low _ _ _ _ k.follows same;
  lies = record {
    upper_out = k.lies.upper_out;
    lower_out = λ o. let x = k.lies.lower_out o in (sym same, x.1, x.2);
    at_home = λ a b. let h = k.lies.at_home a b in (h.0, h.1, low_shows u l _ k.phase h.0 refl h.2);
  };
  agrees = found_agrees u l (peeked_low l (get_or words 0 0)) k.phase k.follows same (refl, refl, refl) k.agrees.held k.agrees.held_out k.agrees;
  stops = record { is = k.stops.is; upper_found = k.stops.upper_found; lower_found = k.stops.lower_found };
}

low_still : (up low phase : ℕ) → Follows up low phase → 1 ≤ low → low ≤ 2 → (1 ≤ phase) × (phase ≤ 2)
low_still up low phase f a b = dite (ℕ_discrete low 1) (λ e. f.lower_held e)
    (λ ne. let two : low ≡ 2 = omega arith in let same = f.lower_asked two in (omega arith, omega arith))

pub looks : (n id : ℕ) (m : Sat) (l : LowerSeat) → m.0 ≡ Bottom l → Allows Kept n id m 0 (λ y. y) (looks_low (step n 0 0 0 maybe.none) m)
looks n id m l is = lower_steps n id m l 0 (λ y. y) (looks_low (step n 0 0 0 maybe.none) m) is (λ u words homes k. (
  peeked_low l (get_or words 0 0),
  keeps,
  tt,
  look u l words homes k,
  λ v e. (
    ap (λ z. (Bottom (peeked_low z (get_or words 0 0)), m.1)) (Bottom-is l v m is e),
    λ a b. subst (λ (z : ℕ). (1 ≤ z) × (z ≤ 2)) (sym (found words _ k.phase k.words_are))
        (low_still u.phase l.phase k.phase k.follows (subst (λ (z : LowerSeat). 1 ≤ z.phase) (sym (Bottom-is l v m is e)) a)
        (subst (λ (z : LowerSeat). z.phase ≤ 2) (sym (Bottom-is l v m is e)) b)),
    λ two. found words _ k.phase k.words_are ∙ k.follows.lower_asked (ap (λ (z : LowerSeat). z.phase) (Bottom-is l v m is e) ∙ two),
  ),
))

-- the slot is with the upper end only where it stores next
upper_home : (u : UpperSeat) (l : LowerSeat) (words : List ℕ) (homes : Homes) (k : Linked u l words homes) → k.phase < 3 → u.out ≡ false
upper_home u l words homes k small = ⊎_elim (λ (o : u.out ≡ true). absurd (let x = k.lies.upper_out o in let y : k.phase ≡ 3 = x.0 in omega arith)) (λ o. o)
    (bool_cases u.out)

-- the slot is taken by the lower end
took : (u : UpperSeat) (l : LowerSeat) (words : List ℕ) (homes : Homes) (k : Linked u l words homes) (held : Loan) → k.phase < 3 → k.phase ≢ 1 → held ≡ u.lent
    → Linked u (record (peeked_low l (get_or words 0 0)) { out = true; held = held }) (set words 0 (get_or words 0 0)) (set homes 0 maybe.none)
took u l words homes k held small other are = let same = found words _ k.phase k.words_are in record {
  phase = k.phase;
  stop = k.stop;
  home = maybe.none;
  words_are = loaded words _ 0 k.words_are;
  homes_are = ap (λ h. set h 0 maybe.none) k.homes_are;
  one_case = k.one_case;
  follows = looked_low _ _ _ _ k.follows same;
  lies = record {
    upper_out = λ o. let x = k.lies.upper_out o in absurd (let three : k.phase ≡ 3 = x.0 in omega arith);
    lower_out = λ _. (sym same, other, small);
    at_home = λ _ wrong. cc;
  };
  agrees = found_agrees u l (record (peeked_low l (get_or words 0 0)) { out = true; held = held }) k.phase k.follows same (refl, refl, refl) (λ _ _. are)
      (λ _. are) k.agrees;
  stops = record { is = k.stops.is; upper_found = k.stops.upper_found; lower_found = k.stops.lower_found };
}

abbrev pub LowerStep : LowerSeat → List (ℕ × Option Lot) → ℕ → (ℕ → ℕ) → (ℕ → Sat → Type 0) → UpperSeat → List ℕ → Homes → Type 0
LowerStep l cs i f told up words homes = (l' : LowerSeat) × (a : Act (Option Lot)) × Valid homes cs a
    × Linked up l' (set words i (f (get_or words i 0))) (homes_after homes cs a) × told (get_or words i 0) (Bottom l', carried_after cs a)

pub hold : (n id : ℕ) (m : Sat) (l : LowerSeat) → m.0 ≡ Bottom l → l.out ≡ false → Allows Kept n id m 0 (λ y. y) (holds (step n 0 0 0 maybe.none) m)
hold n id m l is inside = lower_steps n id m l 0 (λ y. y) (holds (step n 0 0 0 maybe.none) m) is go
  where
    tells : (y : ℕ) (m' : Sat) → Holds l m.1 y m' → (v : LowerSeat) → m.0 ≡ Bottom v → Holds v m.1 y m'
    tells y m' t v e = subst (λ z. Holds z m.1 y m') (Bottom-is l v m is e) t

    go : LowerGoes n id l m.1 0 (λ y. y) (holds (step n 0 0 0 maybe.none) m)
    go u words homes k =
        let y : ℕ = get_or words 0 0 in let same : y ≡ k.phase = found words _ k.phase k.words_are in
        let still : 1 ≤ l.phase → l.phase ≤ 2 → (1 ≤ y) × (y ≤ 2) = λ a b.
        subst (λ (z : ℕ). (1 ≤ z) × (z ≤ 2)) (sym same) (low_still u.phase l.phase k.phase k.follows a b) in
        dite (ℕ_discrete y 0)
        (λ lent. let lent' : k.phase ≡ 0 = sym same ∙ lent in
        let h = k.lies.at_home (upper_home u l words homes k (omega arith)) inside in let g = h.2.lent lent' in
        let cases = k.one_case in (
          record (peeked_low l y) { out = true; held = loan g.0 },
          takes 0 (Some g.0),
          ap (λ l. get_elem? l 0) k.homes_are ∙ ap maybe.some (h.1 ∙ ap maybe.some g.1),
          took u l words homes k (loan g.0) (omega arith) (λ z. omega arith) g.3,
          tells y _ record {
            still = still;
            other = λ ne. absurd (ne lent);
            lot = λ _. (
              g.0,
              refl,
              subst (λ (z : Content × ℕ). LotFits z.0 z.1 g.0) (λ j. (sym cases.0 j, sym cases.1 j)) g.2,
              subst (λ (z : Content × ℕ). GrownFrom z.0 z.1 l.given (g.0).upto) (λ j. (sym cases.0 j, sym cases.1 j))
                  (subst (λ (z : Loan). GrownFrom u.case u.lower l.given z.upto) (sym g.3) (k.agrees.grown (omega arith))),
            );
          },
        ))
        (λ ne. (peeked_low l y, keeps, tt, look u l words homes k, tells y _ record { still = still; other = λ _. refl; lot = λ z. absurd (ne z) }))

pub reply : (n id : ℕ) (m : Sat) (l : LowerSeat) → m.0 ≡ Bottom l → l.out ≡ false → Allows Kept n id m 0 (λ y. y) (replies (step n 0 0 0 maybe.none) m)
reply n id m l is inside = lower_steps n id m l 0 (λ y. y) (replies (step n 0 0 0 maybe.none) m) is go
  where
    tells : (y : ℕ) (m' : Sat) → Replies l m.1 y m' → (v : LowerSeat) → m.0 ≡ Bottom v → Replies v m.1 y m'
    tells y m' t v e = subst (λ z. Replies z m.1 y m') (Bottom-is l v m is e) t

    -- where a part of the ask is noted, the phase is still Asked
    sure : (u : UpperSeat) (words : List ℕ) (homes : Homes) → Linked u l words homes → (i : ℕ) → l.itag ≡ Some i → get_or words 0 0 ≡ 2
    sure u words homes k i e = dite (ℕ_discrete l.phase 2) (λ two. found words _ k.phase k.words_are ∙ k.follows.lower_asked two)
        (λ ne. absurd (let none : l.itag ≡ None = (k.agrees.none ne).0 in cc))

    go : LowerGoes n id l m.1 0 (λ y. y) (replies (step n 0 0 0 maybe.none) m)
    go u words homes k =
        let y : ℕ = get_or words 0 0 in let same : y ≡ k.phase = found words _ k.phase k.words_are in
        dite (ℕ_discrete y 2)
        (λ asked. let asked' : k.phase ≡ 2 = sym same ∙ asked in
        let h = k.lies.at_home (upper_home u l words homes k (omega arith)) inside in let none : h.0 ≡ None = h.2.empty (omega arith) (omega arith) in (
          record (peeked_low l y) { out = true },
          takes 0 None,
          ap (λ l. get_elem? l 0) k.homes_are ∙ ap maybe.some (h.1 ∙ ap maybe.some none),
          took u l words homes k l.held (omega arith) (λ z. omega arith) (k.agrees.held (omega arith) (omega arith)),
          tells y _ record { other = λ ne. absurd (ne asked); slot = λ _. refl; noted = sure u words homes k },
        ))
        (λ ne. (
          peeked_low l y,
          keeps,
          tt,
          look u l words homes k,
          tells y _ record {
            other = λ _. refl;
            slot = λ z. absurd (ne z);
            noted = sure u words homes k;
          },
        ))

pub held_stores : (n id : ℕ) (m : Sat) (l : LowerSeat) → m.0 ≡ Bottom l → m.1 ≡ (0, None) ∷ [] → l.phase ≡ 0 → l.out ≡ true
    → Allows Kept n id m 0 (λ _. 1) (λ _. stores_held (step n 0 1 0 maybe.none) m 1)
held_stores n id m l is has lent out = lower_steps n id m l 0 (λ _. 1) (λ _. stores_held (step n 0 1 0 maybe.none) m 1) is (λ u words homes k.
    let f = k.follows in let zero' : k.phase ≡ 0 = f.lower_lent lent in
    let l' : LowerSeat = record l { phase = 1; out = false; itag = None; index = None } in
    let linked : Linked u l' (set words 0 1) (set homes 0 (maybe.some None)) = record {
      phase = 1;
      stop = k.stop;
      home = maybe.some None;
      words_are = stored words _ _ _ _ 0 1 k.words_are;
      homes_are = ap (λ h. set h 0 (maybe.some None)) k.homes_are;
      one_case = k.one_case;
      follows = record {
        four = omega arith;
        upper_lent = λ z. omega arith;
        upper_held = λ z. refl;
        upper_asked = λ z. let x = f.upper_asked z in omega arith;
        upper_given = λ z. let x = f.upper_given z in omega arith;
        lower_lent = λ z. absurd (omega arith);
        lower_held = λ z. (omega arith, omega arith);
        lower_asked = λ z. absurd (omega arith);
        lower_given = λ z. absurd (omega arith);
      };
      lies = record {
        upper_out = λ o. let x = k.lies.upper_out o in absurd (let three : k.phase ≡ 3 = x.0 in omega arith);
        lower_out = λ wrong. cc;
        at_home = λ _ _. (
          None,
          refl,
          record {
            lent = λ z. absurd (omega arith);
            empty = λ _ _. refl;
            taken = λ z. absurd (omega arith);
            given = λ z. absurd (omega arith);
          },
        );
      };
      agrees = let a = k.agrees in record {
        grown = λ _. a.grown (omega arith);
        same = λ _. a.same (omega arith);
        same_taken = a.same_taken;
        held = λ _ _. a.held_out out;
        held_out = λ wrong. cc;
        asked = λ z. absurd (omega arith);
        itag = λ z. absurd (omega arith);
        index = λ z. absurd (omega arith);
        none = λ _. (refl, refl);
      };
      stops = record { is = k.stops.is; upper_found = k.stops.upper_found; lower_found = k.stops.lower_found };
    } in (
      l',
      gives,
      tt,
      subst (λ cs. Linked u l' (set words 0 1) (homes_after homes cs gives)) (sym has) linked,
      λ v e. λ j. (Bottom (record (Bottom-is l v m is e j) { phase = 1; out = false; itag = None; index = None }), carried_after (has j) gives),
    ))

-- what may be given
pub record MayGive (l : LowerSeat) (lot : Lot) (itag index : ℕ) : Type 0 where
  pub fits : LotFits l.case l.lower lot
  pub itag_noted : l.itag ≡ Some itag
  pub index_noted : l.index ≡ Some index
  pub served : Served l.case l.lower (lent_counts l.held) (ask itag index) lot

pub given_stores : (n id : ℕ) (m : Sat) (l : LowerSeat) (lot : Lot) (itag index : ℕ) → m.0 ≡ Bottom l → m.1 ≡ (0, Some lot) ∷ [] → l.phase ≡ 2 → l.out ≡ true
    → MayGive l lot itag index → Allows Kept n id m 0 (λ _. 3) (λ _. gives_lot (step n 0 3 0 maybe.none) m 3)
given_stores n id m l lot itag index is has asked out may = lower_steps n id m l 0 (λ _. 3) (λ _. gives_lot (step n 0 3 0 maybe.none) m 3) is
    (λ u words homes k.
    let f = k.follows in let two : k.phase ≡ 2 = f.lower_asked asked in
    let l' : LowerSeat = record l { phase = 3; out = false; given = lot.upto; itag = None; index = None } in
    let a = k.agrees in let cases = k.one_case in
    let itag_is : itag ≡ u.ask.itag.0 = subst (λ o. IfSome o (λ i. i ≡ u.ask.itag.0)) may.itag_noted (a.itag asked) in
    let index_is : index ≡ u.ask.index = subst (λ o. IfSome o (λ i. i ≡ u.ask.index)) may.index_noted (a.index asked) in
    let fits : LotFits u.case u.lower lot = subst (λ (z : Content × ℕ). LotFits z.0 z.1 lot) (λ j. (cases.0 j, cases.1 j)) may.fits in
    let served : Served u.case u.lower (lent_counts u.lent) u.ask lot =
    subst (λ (z : Content × ℕ × Loan × ℕ × ℕ). Served z.0 z.1 (lent_counts z.2) (ask z.3 z.4) lot)
    (λ j. (cases.0 j, cases.1 j, a.held_out out j, itag_is j, index_is j)) may.served in
    let linked : Linked u l' (set words 0 3) (set homes 0 (maybe.some (Some lot))) = record {
      phase = 3;
      stop = k.stop;
      home = maybe.some (Some lot);
      words_are = stored words _ _ _ _ 0 3 k.words_are;
      homes_are = ap (λ h. set h 0 (maybe.some (Some lot))) k.homes_are;
      one_case = k.one_case;
      follows = record {
        four = omega arith;
        upper_lent = λ z. let x = f.upper_lent z in omega arith;
        upper_held = λ z. let x = f.upper_held z in omega arith;
        upper_asked = λ z. omega arith;
        upper_given = λ z. refl;
        lower_lent = λ z. absurd (omega arith);
        lower_held = λ z. absurd (omega arith);
        lower_asked = λ z. absurd (omega arith);
        lower_given = λ z. ((λ x. omega arith), λ x. omega arith);
      };
      lies = record {
        upper_out = λ o. let x = k.lies.upper_out o in absurd (let three : k.phase ≡ 3 = x.0 in omega arith);
        lower_out = λ wrong. cc;
        at_home = λ _ _. (
          Some lot,
          refl,
          record {
            lent = λ z. absurd (omega arith);
            empty = λ _ z. absurd (omega arith);
            taken = λ _ wrong. absurd (let t : u.taken ≡ false = (a.asked two).0 in cc);
            given = λ _ _. (lot, refl, fits, served, refl);
          },
        );
      };
      agrees = record {
        grown = λ z. absurd (omega arith);
        same = λ z. absurd (omega arith);
        same_taken = λ wrong. absurd (let t : u.taken ≡ false = (a.asked two).0 in cc);
        held = λ _ z. absurd (omega arith);
        held_out = λ wrong. cc;
        asked = λ z. absurd (omega arith);
        itag = λ z. absurd (omega arith);
        index = λ z. absurd (omega arith);
        none = λ _. (refl, refl);
      };
      stops = record { is = k.stops.is; upper_found = k.stops.upper_found; lower_found = k.stops.lower_found };
    } in (
      l',
      gives,
      tt,
      subst (λ cs. Linked u l' (set words 0 3) (homes_after homes cs gives)) (sym has) linked,
      λ v lot' e e'. λ j. (
        Bottom (record (Bottom-is l v m is e j) {
          phase = 3;
          out = false;
          given = (same_lot lot lot' m.1 has e' j).upto;
          itag = None;
          index = None;
        }),
        carried_after (has j) gives,
      ),
    ))

-- a note of the lower end that changes only the parts of the ask
noting : (u : UpperSeat) (l : LowerSeat) (words words' : List ℕ) (homes : Homes) (k : Linked u l words homes) (itag index : Option ℕ) → words' ≡ words
    → l.phase ≡ 2 → IfSome itag (λ i. i ≡ u.ask.itag.0) → IfSome index (λ i. i ≡ u.ask.index)
    → Linked u (record l { itag = itag; index = index }) words' homes
noting u l words words' homes k itag index same asked a b = record {
  phase = k.phase;
  stop = k.stop;
  home = k.home;
  words_are = same ∙ k.words_are;
  homes_are = k.homes_are;
  one_case = k.one_case;
  follows = k.follows;
  lies = record {
    upper_out = k.lies.upper_out;
    lower_out = k.lies.lower_out;
    at_home = λ c d. let h = k.lies.at_home c d in
        (h.0, h.1, low_shows u l _ k.phase h.0 refl h.2);
  };
  agrees = let g = k.agrees in record {
    grown = g.grown;
    same = g.same;
    same_taken = g.same_taken;
    held = g.held;
    held_out = g.held_out;
    asked = g.asked;
    itag = λ _. a;
    index = λ _. b;
    none = λ ne. absurd (ne asked);
  };
  stops = record { is = k.stops.is; upper_found = k.stops.upper_found; lower_found = k.stops.lower_found };
}

pub itag_sees : (n id : ℕ) (m : Sat) (l : LowerSeat) → m.0 ≡ Bottom l → l.phase ≡ 2 → Allows Kept n id m 1 (λ y. y) (sees_itag (step n 1 0 0 maybe.none) m)
itag_sees n id m l is asked = lower_steps n id m l 1 (λ y. y) (sees_itag (step n 1 0 0 maybe.none) m) is (λ u words homes k.
    let y : ℕ = get_or words 1 0 in let same : y ≡ u.ask.itag.0 = ap (λ l. get_or l 1 0) k.words_are in
    let small : u.ask.itag.0 < 2 ^ 32 = (k.agrees.asked (k.follows.lower_asked asked)).3 in (
      record l { itag = Some y },
      keeps,
      tt,
      noting u l words _ homes k (Some y) l.index (loaded words words 1 refl) asked same (k.agrees.index asked),
      λ v e. (ap (λ (z : LowerSeat). (Bottom (record z { itag = Some y }), m.1)) (Bottom-is l v m is e), omega arith),
    ))

pub index_sees : (n id : ℕ) (m : Sat) (l : LowerSeat) → m.0 ≡ Bottom l → l.phase ≡ 2 → Allows Kept n id m 2 (λ y. y) (sees_index (step n 2 0 0 maybe.none) m)
index_sees n id m l is asked = lower_steps n id m l 2 (λ y. y) (sees_index (step n 2 0 0 maybe.none) m) is (λ u words homes k.
    let y : ℕ = get_or words 2 0 in let same : y ≡ u.ask.index = ap (λ l. get_or l 2 0) k.words_are in
    let two : k.phase ≡ 2 = k.follows.lower_asked asked in let cases = k.one_case in
    let good = k.agrees.asked two in let held : l.held ≡ u.lent = k.agrees.held (omega arith) (omega arith) in (
      record l { index = Some y },
      keeps,
      tt,
      noting u l words _ homes k l.itag (Some y) (loaded words words 2 refl) asked (k.agrees.itag asked) same,
      λ v i e e'. let v_is = Bottom-is l v m is e in
          let itag_is : i ≡ u.ask.itag.0 = subst (λ o. IfSome o (λ i. i ≡ u.ask.itag.0)) (ap (λ (z : LowerSeat). z.itag) v_is ∙ e') (k.agrees.itag asked) in (
            ap (λ (z : LowerSeat). (Bottom (record z { index = Some y }), m.1)) v_is,
            subst (λ (z : LowerSeat). AsksAbove z.case z.lower (ask i y)) v_is
                (subst (λ (z : Content × ℕ × ℕ × ℕ). AsksAbove z.0 z.1 (ask z.2 z.3))
                (λ j. (sym cases.0 j, sym cases.1 j, sym itag_is j, sym same j)) good.1),
            subst (λ (z : LowerSeat). y ≡ get_or z.held.upto i 0) v_is (subst (λ (z : Loan × ℕ). y ≡ get_or z.0.upto z.1 0) (λ j. (sym held j, sym itag_is j))
                (same ∙ good.2)),
          ),
    ))

pub stops_here : (n id : ℕ) (m : Sat) (l : LowerSeat) → m.0 ≡ Bottom l → Allows Kept n id m 3 (λ _. 1) (λ _. stops_low (step n 3 1 0 maybe.none) m 1)
stops_here n id m l is = lower_steps n id m l 3 (λ _. 1) (λ _. stops_low (step n 3 1 0 maybe.none) m 1) is (λ u words homes k.
    let small = stop_small (u.stopped || l.stopped) k.stop k.stops.is in (
      record l { stopped = true },
      keeps,
      tt,
      record {
        phase = k.phase;
        stop = 1;
        home = k.home;
        words_are = stored words _ _ _ _ 3 1 k.words_are;
        homes_are = k.homes_are;
        one_case = k.one_case;
        follows = k.follows;
        lies = record {
          upper_out = k.lies.upper_out;
          lower_out = k.lies.lower_out;
          at_home = λ a b. let h = k.lies.at_home a b in
              (h.0, h.1, low_shows u l _ k.phase h.0 refl h.2);
        };
        agrees = low_agrees u l k.phase _ _ _ _ k.agrees;
        stops = let a = k.stops.upper_found in let b = k.stops.lower_found in
            record { is = ap (λ z. if z then 1 else 0) (sym (or_true u.stopped)); upper_found = omega arith; lower_found = omega arith };
      },
      λ v e. ap (λ (z : LowerSeat). (Bottom (record z { stopped = true }), m.1)) (Bottom-is l v m is e),
    ))

pub stop_looks_here : (n id : ℕ) (m : Sat) (l : LowerSeat) → m.0 ≡ Bottom l → Allows Kept n id m 3 (λ y. y) (sees_stop_low (step n 3 0 0 maybe.none) m)
stop_looks_here n id m l is = lower_steps n id m l 3 (λ y. y) (sees_stop_low (step n 3 0 0 maybe.none) m) is (λ u words homes k.
    let y : ℕ = get_or words 3 0 in let same : y ≡ k.stop = ap (λ l. get_or l 3 0) k.words_are in
    let small = stop_small (u.stopped || l.stopped) k.stop k.stops.is in (
      record l { stop_looks = l.stop_looks + 1; stop_found = y },
      keeps,
      tt,
      record {
        phase = k.phase;
        stop = k.stop;
        home = k.home;
        words_are = loaded words _ 3 k.words_are;
        homes_are = k.homes_are;
        one_case = k.one_case;
        follows = k.follows;
        lies = record {
          upper_out = k.lies.upper_out;
          lower_out = k.lies.lower_out;
          at_home = λ a b. let h = k.lies.at_home a b in
              (h.0, h.1, low_shows u l _ k.phase h.0 refl h.2);
        };
        agrees = low_agrees u l k.phase _ _ _ _ k.agrees;
        stops = record { is = k.stops.is; upper_found = k.stops.upper_found; lower_found = omega arith };
      },
      λ v e. let v_is = Bottom-is l v m is e in (
        ap (λ (z : LowerSeat). (Bottom (record z { stop_looks = z.stop_looks + 1; stop_found = y }), m.1)) v_is,
        omega arith,
        subst (λ (z : LowerSeat). z.stop_found ≤ y) v_is (let a = k.stops.lower_found in omega arith),
        λ it. same ∙ (k.stops.is ∙ (ap (λ (b : Bool). if (u.stopped || b) then 1 else 0) (ap (λ (z : LowerSeat). z.stopped) v_is ∙ it)
            ∙ ap (λ (b : Bool). if b then 1 else 0) (or_true u.stopped))),
      ),
    ))
