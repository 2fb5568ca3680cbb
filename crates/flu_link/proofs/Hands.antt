-- What an end knows after its steps, in the words of its contracts.
use Rattle.std.proofs.Common.{◌≡◌, ◌≢◌, ℕ, ◌≤◌, ◌⊎◌, true, false, List, [], ◌∷◌, get_or, sym, refl, ap}
use Rattle.std.proofs.Common.{◌∙◌, subst, ⊎_elim, inr, Option, Some, None, IfSome, IfNone, IsSome}
use Rattle.std.specs.Prelude.{OnSome}
use Rattle.atomic_table.specs.Table.{rest}
use Rattle.atomic_table.specs.Seated.{TableId}
use Rattle.flu_fork.specs.declared.lots.Lot.{Lot}
use Rattle.flu_fork.specs.Lots.{LotFits}
use Rattle.flu_fork.specs.Serving.{GrownFrom, Served}
use Rattle.flu_link.specs.declared.notes.UpperSeat.{UpperSeat}
use Rattle.flu_link.specs.declared.notes.LowerSeat.{LowerSeat}
use Rattle.flu_link.specs.declared.notes.View.{View}
use Rattle.flu_link.specs.declared.notes.View.TheVariants.{Top, Bottom, Joined}
use Rattle.flu_link.specs.Seats.{Sat, ask, loan, lent_counts, both_sides, upper_or, lower_or}
use Rattle.flu_link.specs.Notes.{UpperNote, LowerNote, found_below, after_take, found_above, after_hold, after_asked}
use Rattle.flu_link.specs.Steps.{peeked_up, peeked_low, Fetches, Holds, Replies, AtEnd}
use Rattle.flu_link.specs.Ends.{upper_note, lower_note, both_parts, IsUpper, IsLower, Closes}
use Rattle.flu_link.proofs.Stepping.{bool_cases}
use Rattle.flu_link.proofs.UpperSteps.{IsEmptyHanded}

pub upper_now : (d : UpperSeat) (table mine : TableId) (m : Sat) (u : UpperSeat) (cs : List (ℕ × Option Lot)) → mine ≡ table → table.words ≡ 4
    → m ≡ (Top u, cs) → IsEmptyHanded u cs → IsUpper d table mine m
upper_now d table mine m u cs here words is hand = subst (IsUpper d table mine) (sym is) record { here = here; words = words; top = refl; hand = hand }

pub lower_now : (d : LowerSeat) (table mine : TableId) (m : Sat) (l : LowerSeat) → mine ≡ table → table.words ≡ 4 → m ≡ (Bottom l, []) → l.out ≡ false
    → IsLower d table mine m
lower_now d table mine m l here words is inside = subst (IsLower d table mine)
    (sym is) record { here = here; words = words; bottom = refl; inside = inside; bare = refl }

-- what contracts see of an end whose seat is this
pub upper_told : (d : UpperSeat) (link link' : TableId) (m : Sat) (u : UpperSeat) (cs : List (ℕ × Option Lot)) → link' ≡ link → m ≡ (Top u, cs)
    → upper_note link' (upper_or d m.0) ≡ upper_note link u
upper_told d link link' m u cs same is = λ j. upper_note (same j) (upper_or d (is j).0)

pub lower_told : (d : LowerSeat) (link link' : TableId) (m : Sat) (l : LowerSeat) (cs : List (ℕ × Option Lot)) → link' ≡ link → m ≡ (Bottom l, cs)
    → lower_note link' (lower_or d m.0) ≡ lower_note link l
lower_told d link link' m l cs same is = λ j. lower_note (same j) (lower_or d (is j).0)

-- the slot in hand, over an exchange
pub swapped : (m m' : Sat) (w : View) (v x : Option Lot) → m ≡ (w, (0, v) ∷ []) → m' ≡ (m.0, (0, x) ∷ rest m.1) → m' ≡ (w, (0, x) ∷ [])
swapped m m' w v x is is' = is' ∙ ap (λ (z : Sat). (z.0, (0, x) ∷ rest z.1)) is

pub got : (m : Sat) (w : View) (v x : Option Lot) → m ≡ (w, (0, v) ∷ []) → m.1 ≡ (0, x) ∷ rest m.1 → x ≡ v
got m w v x is is' = sym (ap (λ (l : List (ℕ × Option Lot)). (get_or l 0 (0, v)).1) is') ∙ ap (λ (z : Sat). (get_or z.1 0 (0, v)).1) is

pub in_hand : (m : Sat) (w : View) (v : Option Lot) → m ≡ (w, (0, v) ∷ []) → (old : Option Lot) × (m.1 ≡ (0, old) ∷ rest m.1)
in_hand m w v is = (v, ap (λ (z : Sat). z.1) is ∙ sym (ap (λ (z : Sat). (0, v) ∷ rest z.1) is))

-- what the upper end knows where it found Given, with nothing in the slot or with a lot
abbrev pub took_nothing : UpperSeat → UpperSeat
took_nothing u = record (peeked_up u 3) { out = true }

abbrev pub took_lot : UpperSeat → Lot → UpperSeat
took_lot u lot = record (peeked_up u 3) { out = true; taken = true; received = lot.upto }

abbrev pub TookAs : UpperSeat → Sat → Option Lot → Type 0
TookAs u m None = (m ≡ (Top (took_nothing u), (0, None) ∷ [])) × (u.taken ≡ true)
TookAs u m (Some lot) = (m ≡ (Top (took_lot u lot), (0, Some lot) ∷ [])) × LotFits u.case u.lower lot × Served u.case u.lower (lent_counts u.lent) u.ask lot
    × (u.taken ≡ false)

pub record Took (u : UpperSeat) (m : Sat) (v : Option Lot) : Type 0 where
  pub what : TookAs u m v

pub took : (u : UpperSeat) (cs : List (ℕ × Option Lot)) (n : ℕ) (m : Sat) → Fetches u cs n m → IsEmptyHanded u cs → n ≡ 3 → (v : Option Lot) × Took u m v
took u cs n m f hand three = subst (λ (k : ℕ). Fetches u cs k m → (v : Option Lot) × Took u m v) (sym three) (λ g. ⊎_elim
    (λ (t : (u.out ≡ false) × (cs ≡ [])). ⊎_elim
    (λ (e : u.taken ≡ true). (None, record { what = (g.nothing refl t.0 e ∙ ap (λ l. (Top (took_nothing u), (0, None) ∷ l)) t.1, e) }))
    (λ (e : u.taken ≡ false). let h = g.lot refl e in (
      Some h.0,
      record {
        what =
            (h.1 ∙ ap (λ l. (Top (took_lot u h.0), (0, Some h.0) ∷ l)) t.1, h.2, h.3, e);
      },
    ))
    (bool_cases u.taken))
    (λ (t : (u.out ≡ true) × (cs ≡ (0, None) ∷ [])). let h = g.had refl t.0 in
    (None, record { what = (h.0 ∙ (λ j. (Top (record (peeked_up u 3) { out = t.0 j }), t.1 j)), h.1) }))
    hand) f

-- where no ask stands, it has nothing
pub took_none : (u : UpperSeat) (m : Sat) (v : Option Lot) → Took u m v → u.taken ≡ true → m ≡ (Top (took_nothing u), (0, None) ∷ [])
took_none u m None t free = t.what.0
took_none u m (Some lot) t free = absurd (let e : u.taken ≡ false = t.what.3 in cc)

pub took_hand : (u : UpperSeat) (m : Sat) (v : Option Lot) → Took u m v → (old : Option Lot) × (m.1 ≡ (0, old) ∷ rest m.1)
took_hand u m None t = in_hand m _ None t.what.0
took_hand u m (Some lot) t = in_hand m _ (Some lot) t.what.0

-- what the upper end notes where it only looked
pub record PeekedUp (old new : UpperNote) (n : ℕ) : Type 0 where
  pub note : new ≡ found_below old new.phase
  pub phase : new.phase ≡ n

pub peeked : (d : UpperSeat) (table link : TableId) (before : Sat) (old new : UpperNote) (n : ℕ) → IsUpper d table link before
    → upper_note link (upper_or d before.0) ≡ old
    → new ≡ upper_note link (peeked_up (upper_or d before.0) n) → PeekedUp old new n
peeked d table link before old new n _ same is =
    let e : new ≡ found_below old n = is ∙ ap (λ (z : UpperNote). found_below z n) same in
    record { note = e ∙ ap (λ (z : UpperNote). found_below old z.phase) (sym e); phase = ap (λ (z : UpperNote). z.phase) e }

-- what `try_take` tells, once it has exchanged the slot
pub record Takes (old new : UpperNote) (result : Option Lot) : Type 0 where
  pub note : IfSome result (λ lot. new ≡ after_take old lot)
  pub fits : IfSome result (LotFits old.case old.lower)
  pub served : IfSome result (Served old.case old.lower old.lent old.ask)
  pub asked : OnSome result (old.taken ≡ false)
  pub none : IfNone result ((new ≡ found_below old new.phase) × ((new.phase ≢ 3) ⊎ (old.taken ≡ true)))

told_taken : (d u : UpperSeat) (old : UpperNote) (link link' : TableId) (m m' : Sat) (v x : Option Lot) → upper_note link u ≡ old → link' ≡ link → Took u m v
    → m.1 ≡ (0, x) ∷ rest m.1 → m' ≡ (m.0, (0, None) ∷ rest m.1)
    → Takes old (upper_note link' (upper_or d m'.0)) x
told_taken d u old link link' m m' None x same here t is is' =
    let after = swapped m m' (Top (took_nothing u)) None None t.what.0 is' in
    let e : upper_note link' (upper_or d m'.0) ≡ found_below old 3 = upper_told d link link' m' (took_nothing u) _ here after
    ∙ ap (λ (z : UpperNote). found_below z 3) same in
    subst (λ (r : Option Lot). Takes old (upper_note link' (upper_or d m'.0)) r) (sym (got m (Top (took_nothing u)) None x t.what.0 is)) record {
      note = tt;
      fits = tt;
      served = tt;
      asked = tt;
      none = (e ∙ ap (λ (z : UpperNote). found_below old z.phase) (sym e), inr (sym (ap (λ (z : UpperNote). z.taken) same) ∙ t.what.1));
    }
told_taken d u old link link' m m' (Some lot) x same here t is is' =
    let after = swapped m m' (Top (took_lot u lot)) (Some lot) None t.what.0 is' in
    subst (λ (r : Option Lot). Takes old (upper_note link' (upper_or d m'.0)) r) (sym (got m (Top (took_lot u lot)) (Some lot) x t.what.0 is)) record {
      note = upper_told d link link' m' (took_lot u lot) _ here after ∙ ap (λ (z : UpperNote). after_take z lot) same;
      fits = subst (λ (z : UpperNote). LotFits z.case z.lower lot) same t.what.1;
      served = subst (λ (z : UpperNote). Served z.case z.lower z.lent z.ask lot) same t.what.2;
      asked = sym (ap (λ (z : UpperNote). z.taken) same) ∙ t.what.3;
      none = tt;
    }

pub takes : (d : UpperSeat) (table link link' : TableId) (before : Sat) (old : UpperNote) (m m' : Sat) (v x : Option Lot) → IsUpper d table link before
    → upper_note link (upper_or d before.0) ≡ old
    → link' ≡ link → Took (upper_or d before.0) m v → m.1 ≡ (0, x) ∷ rest m.1 → m' ≡ (m.0, (0, None) ∷ rest m.1)
    → Takes old (upper_note link' (upper_or d m'.0)) x
takes d table link link' before old m m' v x _ = told_taken d (upper_or d before.0) old link link' m m' v x

-- and the seat after it
pub emptied : (d u : UpperSeat) (table mine : TableId) (m m' : Sat) (v : Option Lot) → mine ≡ table → table.words ≡ 4 → Took u m v
    → m' ≡ (m.0, (0, None) ∷ rest m.1) → IsUpper d table mine m'
emptied d u table mine m m' None here words t is' = upper_now d table mine m' _ _ here words (swapped m m' (Top (took_nothing u)) None None t.what.0 is')
    (inr (refl, refl))
emptied d u table mine m m' (Some lot) here words t is' = upper_now d table mine m' _ _ here words
    (swapped m m' (Top (took_lot u lot)) (Some lot) None t.what.0 is') (inr (refl, refl))

-- ---- the lower end

-- what it notes where it only looked
pub record PeekedLow (old new : LowerNote) (n : ℕ) : Type 0 where
  pub note : new ≡ found_above old new.phase
  pub phase : new.phase ≡ n

pub peeked_below : (d : LowerSeat) (table link : TableId) (before : Sat) (old new : LowerNote) (n : ℕ) → IsLower d table link before
    → lower_note link (lower_or d before.0) ≡ old
    → new ≡ lower_note link (peeked_low (lower_or d before.0) n) → PeekedLow old new n
peeked_below d table link before old new n _ same is =
    let e : new ≡ found_above old n = is ∙ ap (λ (z : LowerNote). found_above z n) same in
    record { note = e ∙ ap (λ (z : LowerNote). found_above old z.phase) (sym e); phase = ap (λ (z : LowerNote). z.phase) e }

-- the same seat, with no slot in hand
pub bared : (m : Sat) (w : View) (cs : List (ℕ × Option Lot)) (x : List (ℕ × Option Lot)) → m ≡ (w, x) → x ≡ cs → m ≡ (w, cs)
bared m w cs x is same = is ∙ ap (λ z. (w, z)) same

-- what the lower end has where it found Lent
pub record Held (l : LowerSeat) (m : Sat) : Type 0 where
  pub lot : Lot
  pub seat : m ≡ (Bottom (record (peeked_low l 0) { out = true; held = loan lot }), (0, Some lot) ∷ [])
  pub fits : LotFits l.case l.lower lot
  pub grown : GrownFrom l.case l.lower l.given lot.upto

pub held : (l : LowerSeat) (cs : List (ℕ × Option Lot)) (n : ℕ) (m : Sat) → Holds l cs n m → cs ≡ [] → n ≡ 0 → Held l m
held l cs n m h bare lent = subst (λ (k : ℕ). Holds l cs k m → Held l m) (sym lent) (λ g. let t = g.lot refl in
    record { lot = t.0; seat = bared m _ ((0, Some t.0) ∷ []) _ t.1 (ap (λ z. (0, Some t.0) ∷ z) bare); fits = t.2; grown = t.3 }) h

-- what `try_hold` tells at its end
pub record HoldTells (old new : LowerNote) (result : Option Lot) : Type 0 where
  pub note : IfSome result (λ lot. new ≡ after_hold old lot)
  pub fits : IfSome result (LotFits old.case old.lower)
  pub grown : IfSome result (λ lot. GrownFrom old.case old.lower old.given lot.upto)
  pub none : IfNone result ((new ≡ found_above old new.phase) × (new.phase ≢ 0))
  pub still : IfNone result (1 ≤ old.phase → old.phase ≤ 2 → (1 ≤ new.phase) × (new.phase ≤ 2))

told_held : (d l : LowerSeat) (old : LowerNote) (link link' : TableId) (m m' : Sat) (h : Held l m) (x : Option Lot) → lower_note link l ≡ old → link' ≡ link
    → m.1 ≡ (0, x) ∷ rest m.1
    → m' ≡ (Bottom (record (peeked_low l 0) { phase = 1; out = false; held = loan h.lot; itag = None; index = None }), [])
    → HoldTells old (lower_note link' (lower_or d m'.0)) x
told_held d l old link link' m m' h x same here is is' = subst (λ (r : Option Lot). HoldTells old (lower_note link' (lower_or d m'.0)) r)
    (sym (got m _ (Some h.lot) x h.seat is)) record {
      note = lower_told d link link' m' _ _ here is' ∙ ap (λ (z : LowerNote). after_hold z h.lot) same;
      fits = subst (λ (z : LowerNote). LotFits z.case z.lower h.lot) same h.fits;
      grown = subst (λ (z : LowerNote). GrownFrom z.case z.lower z.given (h.lot).upto) same h.grown;
      none = tt;
      still = tt;
    }

pub hold_tells : (d : LowerSeat) (table link link' : TableId) (before : Sat) (old : LowerNote) (m m' : Sat) (h : Held (lower_or d before.0) m)
    (x : Option Lot) → IsLower d table link before
    → lower_note link (lower_or d before.0) ≡ old → link' ≡ link → m.1 ≡ (0, x) ∷ rest m.1
    → m' ≡ (Bottom (record (peeked_low (lower_or d before.0) 0) { phase = 1; out = false; held = loan h.lot; itag = None; index = None }), [])
    → HoldTells old (lower_note link' (lower_or d m'.0)) x
hold_tells d table link link' before old m m' h x _ = told_held d (lower_or d before.0) old link link' m m' h x

-- both parts of the ask are noted
pub parts : (a b : Option ℕ) → IsSome (both_parts a b) → (i : ℕ) × (k : ℕ) × (a ≡ Some i) × (b ≡ Some k)
parts (Some i) (Some k) p = (i, k, refl, refl)
parts (Some i) None p = absurd (let wrong : false ≡ true = p in cc)
parts None (Some k) p = absurd (let wrong : false ≡ true = p in cc)
parts None None p = absurd (let wrong : false ≡ true = p in cc)

pub record Noted (l : LowerSeat) (old : LowerNote) : Type 0 where
  pub itag : ℕ
  pub index : ℕ
  pub itag_is : l.itag ≡ Some itag
  pub index_is : l.index ≡ Some index
  pub ask_is : old.ask ≡ Some (ask itag index)

pub noted : (d : LowerSeat) (table link : TableId) (before : Sat) (old : LowerNote) → IsLower d table link before
    → lower_note link (lower_or d before.0) ≡ old → IsSome old.ask → Noted (lower_or d before.0) old
noted d table link before old _ same some =
    let p = parts (lower_or d before.0).itag (lower_or d before.0).index (subst (λ (z : LowerNote). IsSome z.ask) (sym same) some) in
    record { itag = p.0; index = p.1; itag_is = p.2; index_is = p.3; ask_is = sym (ap (λ (z : LowerNote). z.ask) same) ∙ (λ j. both_parts (p.2 j) (p.3 j)) }

pub replied : (l : LowerSeat) (cs : List (ℕ × Option Lot)) (n : ℕ) (m : Sat) → Replies l cs n m → cs ≡ [] → n ≡ 2
    → m ≡ (Bottom (record (peeked_low l 2) { out = true }), (0, None) ∷ [])
replied l cs n m r bare asked = subst (λ (k : ℕ). Replies l cs k m → m ≡ (Bottom (record (peeked_low l 2) { out = true }), (0, None) ∷ [])) (sym asked)
    (λ g. bared m _ _ _ (g.slot refl) (ap (λ z. (0, None) ∷ z) bare)) r

pub asked_note : (d : LowerSeat) (table link : TableId) (before : Sat) (old : LowerNote) (n i k : ℕ) → IsLower d table link before
    → lower_note link (lower_or d before.0) ≡ old → n ≡ 2
    → lower_note link (record (peeked_low (lower_or d before.0) n) { itag = Some i; index = Some k }) ≡ after_asked old (ask i k)
asked_note d table link before old n i k _ same two = (λ j. lower_note link
    (record (peeked_low (lower_or d before.0) (two j)) { itag = Some i; index = Some k })) ∙ ap (λ (z : LowerNote). after_asked z (ask i k)) same

-- ---- both ends

pub joined : (m m' o : Sat) (u : UpperSeat) (l : LowerSeat) → m.0 ≡ Top u → o.0 ≡ Bottom l → m' ≡ (both_sides m.0 o.0, m.1) → m'.0 ≡ Joined u l
joined m m' o u l top bottom is = ap (λ (z : Sat). z.0) is ∙ λ j. both_sides (top j) (bottom j)

-- what the closed link had in the slot
pub last : (u : UpperSeat) (l : LowerSeat) (n : ℕ) (cs : List (ℕ × Option Lot)) (slot x : Option Lot) → cs ≡ (0, slot) ∷ [] → cs ≡ (0, x) ∷ rest cs
    → AtEnd u l n slot → AtEnd u l n x
last u l n cs slot x a b c = subst (AtEnd u l n) (ap (λ (z : List (ℕ × Option Lot)). (get_or z 0 (0, slot)).1) (sym a ∙ b)) c

pub closed : (u : UpperSeat) (l : LowerSeat) (link link' : TableId) (n : ℕ) (x : Option Lot) → AtEnd u l n x
    → Closes (upper_note link u) (lower_note link' l) n x
closed u l link link' n x c = record {
  follows = c.follows;
  lent = λ z. let t = (c.shows).lent z in (t.0, t.1, t.2, ap lent_counts t.3);
  empty = (c.shows).empty;
  taken = (c.shows).taken;
  given = (c.shows).given;
}

pub agreed : (u : UpperSeat) (l : LowerSeat) (n : ℕ) (x : Option Lot) → AtEnd u l n x → u.phase ≤ 1 → l.phase ≡ 1
    → (x ≡ None) × (lent_counts l.held ≡ lent_counts u.lent)
agreed u l n x c a b = let t = c.counts a b in (t.0, ap lent_counts t.1)

pub hand_kept : (u : UpperSeat) (m m' : Sat) (w : View) → m.0 ≡ Top u → m' ≡ (w, m.1) → IsEmptyHanded u m.1 → IsEmptyHanded u m'.1
hand_kept u m m' w top is hand = subst (IsEmptyHanded u) (sym (ap (λ (z : Sat). z.1) is)) hand
