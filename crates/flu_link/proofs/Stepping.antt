-- A step of one end keeps the rule where it keeps what ties the two ends together.
use Rattle.std.proofs.Common.{◌≡◌, ◌≢◌, ℕ, ◌≤◌, ◌⊎◌, Bool, true, false, ◌||◌, if◌then◌else◌, List, [], ◌∷◌}
use Rattle.std.proofs.Common.{get_or, set, sym, refl, ap, ◌∙◌, subst, ⊎_elim, inl, inr, arith, Option, Some}
use mathlib.Core.Option as maybe
use lib.Seq.{set-get_or}
use Rattle.atomic_table.specs.Table.{State, Act, Valid, homes_after, carried_after, Allows}
use Rattle.atomic_table.proofs.Lists.{at_set}
use Rattle.flu_fork.specs.declared.lots.Lot.{Lot}
use Rattle.flu_link.specs.declared.notes.UpperSeat.{UpperSeat}
use Rattle.flu_link.specs.declared.notes.LowerSeat.{LowerSeat}
use Rattle.flu_link.specs.declared.notes.View.{View}
use Rattle.flu_link.specs.declared.notes.View.TheVariants.{Fresh, Top, Bottom, Joined, Closed}
use Rattle.flu_link.specs.Seats.{Sat}
use Rattle.flu_link.specs.Rule.{Follows, Shows, Agrees, Linked, Knows, Kept}

abbrev pub St : Type 0
St = State (Option Lot) View

abbrev pub Homes : Type 0
Homes = List (maybe.Option (Option Lot))

-- what a seat knows stays true where the note of the other end changes
upper_moved : (upper lower mode : ℕ) (up up' : UpperSeat) (low : LowerSeat) (seat : ℕ) (v : View) → mode ≡ 1 → seat ≢ upper
    → Knows upper lower mode up low seat v → Knows upper lower mode up' low seat v
upper_moved upper lower mode up up' low seat (Fresh u) one other k = absurd (other k.0)
upper_moved upper lower mode up up' low seat (Top u) one other k = absurd (other k.0)
upper_moved upper lower mode up up' low seat (Bottom l) one other k = k
upper_moved upper lower mode up up' low seat (Joined u l) one other k = absurd (other k.0)
upper_moved upper lower mode up up' low seat Closed one other k = tt

lower_moved : (upper lower mode : ℕ) (up : UpperSeat) (low low' : LowerSeat) (seat : ℕ) (v : View) → mode ≡ 1 → seat ≢ lower
    → Knows upper lower mode up low seat v → Knows upper lower mode up low' seat v
lower_moved upper lower mode up low low' seat (Fresh u) one other k = absurd (let z : mode ≡ 0 = k.2 in omega arith)
lower_moved upper lower mode up low low' seat (Top u) one other k = k
lower_moved upper lower mode up low low' seat (Bottom l) one other k = absurd (other k.0)
lower_moved upper lower mode up low low' seat (Joined u l) one other k = absurd (let z : mode ≡ 2 = k.3 in omega arith)
lower_moved upper lower mode up low low' seat Closed one other k = tt

-- what a step of the upper end is to show
abbrev pub UpperGoes : ℕ → ℕ → UpperSeat → List (ℕ × Option Lot) → ℕ → (ℕ → ℕ) → (ℕ → Sat → Type 0) → Type 0
UpperGoes n id u cs i f told = (low : LowerSeat) (words : List ℕ) (homes : Homes) → Linked u low words homes
    → (u' : UpperSeat) × (a : Act (Option Lot)) × Valid homes cs a × Linked u' low (set words i (f (get_or words i 0))) (homes_after homes cs a)
    × told (get_or words i 0) (Top u', carried_after cs a)

pub upper_steps : (n id : ℕ) (m : Sat) (u : UpperSeat) (i : ℕ) (f : ℕ → ℕ) (told : ℕ → Sat → Type 0) → m.0 ≡ Top u → UpperGoes n id u m.1 i f told
    → Allows Kept n id m i f told
upper_steps n id m u i f told is goes s r wide at small =
    let k : Knows r.upper r.lower r.mode r.up r.low id (Top u) = subst (Knows r.upper r.lower r.mode r.up r.low id) is (r.each id m.0 at) in
    let one : r.mode ≡ 1 = k.2 in
    let g = goes r.low s.words s.homes (subst (λ z. Linked z r.low s.words s.homes) (sym k.1) (r.linked (omega arith))) in (
      Top g.0,
      g.1,
      g.2,
      record {
        upper = r.upper;
        lower = r.lower;
        mode = r.mode;
        up = g.0;
        low = r.low;
        linked = λ _. g.3;
        each = λ seat v e. ⊎_elim
            (λ t. subst (Knows r.upper r.lower r.mode g.0 r.low seat) t.1 (t.0 ∙ k.0, refl, one))
            (λ t. upper_moved r.upper r.lower r.mode r.up g.0 r.low seat v one (λ z. t.0 (z ∙ sym k.0)) (r.each seat v t.1))
            (at_set s.views id seat (Top g.0) v e);
      },
      g.4,
    )

abbrev pub LowerGoes : ℕ → ℕ → LowerSeat → List (ℕ × Option Lot) → ℕ → (ℕ → ℕ) → (ℕ → Sat → Type 0) → Type 0
LowerGoes n id l cs i f told = (up : UpperSeat) (words : List ℕ) (homes : Homes) → Linked up l words homes
    → (l' : LowerSeat) × (a : Act (Option Lot)) × Valid homes cs a × Linked up l' (set words i (f (get_or words i 0))) (homes_after homes cs a)
    × told (get_or words i 0) (Bottom l', carried_after cs a)

pub lower_steps : (n id : ℕ) (m : Sat) (l : LowerSeat) (i : ℕ) (f : ℕ → ℕ) (told : ℕ → Sat → Type 0) → m.0 ≡ Bottom l → LowerGoes n id l m.1 i f told
    → Allows Kept n id m i f told
lower_steps n id m l i f told is goes s r wide at small =
    let k : Knows r.upper r.lower r.mode r.up r.low id (Bottom l) = subst (Knows r.upper r.lower r.mode r.up r.low id) is (r.each id m.0 at) in
    let one : r.mode ≡ 1 = k.2 in
    let g = goes r.up s.words s.homes (subst (λ z. Linked r.up z s.words s.homes) (sym k.1) (r.linked (omega arith))) in (
      Bottom g.0,
      g.1,
      g.2,
      record {
        upper = r.upper;
        lower = r.lower;
        mode = r.mode;
        up = r.up;
        low = g.0;
        linked = λ _. g.3;
        each = λ seat v e. ⊎_elim
            (λ t. subst (Knows r.upper r.lower r.mode r.up g.0 seat) t.1 (t.0 ∙ k.0, refl, one))
            (λ t. lower_moved r.upper r.lower r.mode r.up r.low g.0 seat v one (λ z. t.0 (z ∙ sym k.0)) (r.each seat v t.1))
            (at_set s.views id seat (Bottom g.0) v e);
      },
      g.4,
    )

-- the upper note with other numbers that no claim on the lots reads
abbrev pub aside : UpperSeat → ℕ → Bool → ℕ → Bool → ℕ → ℕ → UpperSeat
aside u phase out looks stopped stop_looks stop_found = record u {
  phase = phase;
  out = out;
  looks = looks;
  stopped = stopped;
  stop_looks = stop_looks;
  stop_found = stop_found;
}

pub aside_agrees : (u : UpperSeat) (low : LowerSeat) (p phase : ℕ) (out : Bool) (looks : ℕ) (stopped : Bool) (stop_looks stop_found : ℕ) → Agrees u low p
    → Agrees (aside u phase out looks stopped stop_looks stop_found) low p
aside_agrees u low p phase out looks stopped stop_looks stop_found a = record {
  grown = a.grown;
  same = a.same;
  same_taken = a.same_taken;
  held = a.held;
  held_out = a.held_out;
  asked = a.asked;
  itag = a.itag;
  index = a.index;
  none = a.none;
}

pub aside_shows : (u : UpperSeat) (low : LowerSeat) (p phase : ℕ) (out : Bool) (looks : ℕ) (stopped : Bool) (stop_looks stop_found : ℕ) (slot : Option Lot)
    → Shows u low p slot → Shows (aside u phase out looks stopped stop_looks stop_found) low p slot
aside_shows u low p phase out looks stopped stop_looks stop_found slot s = record { lent = s.lent; empty = s.empty; taken = s.taken; given = s.given }

-- the lower note with other numbers that no claim on the lots reads
abbrev pub apart_from : LowerSeat → ℕ → Bool → ℕ → ℕ → LowerSeat
apart_from l looks stopped stop_looks stop_found = record l { looks = looks; stopped = stopped; stop_looks = stop_looks; stop_found = stop_found }

-- nor do they read these
pub low_shows : (u : UpperSeat) (l l' : LowerSeat) (p : ℕ) (slot : Option Lot) → l'.given ≡ l.given → Shows u l p slot → Shows u l' p slot
low_shows u l l' p slot same s = record {
  lent = s.lent;
  empty = s.empty;
  taken = s.taken;
  given = λ a b. let g = s.given a b in (g.0, g.1, g.2, g.3, g.4 ∙ sym same);
}

pub low_agrees : (u : UpperSeat) (l : LowerSeat) (p looks : ℕ) (stopped : Bool) (stop_looks stop_found : ℕ) → Agrees u l p
    → Agrees u (apart_from l looks stopped stop_looks stop_found) p
low_agrees u l p looks stopped stop_looks stop_found a = record {
  grown = a.grown;
  same = a.same;
  same_taken = a.same_taken;
  held = a.held;
  held_out = a.held_out;
  asked = a.asked;
  itag = a.itag;
  index = a.index;
  none = a.none;
}

-- a load leaves the words as they were
pub loaded : (words ws : List ℕ) (i : ℕ) → words ≡ ws → set words i (get_or words i 0) ≡ ws
loaded words ws i same = set-get_or words i 0 ∙ same

-- the phase word as found
pub found : (words ws : List ℕ) (p : ℕ) → words ≡ p ∷ ws → get_or words 0 0 ≡ p
found words ws p same = ap (λ l. get_or l 0 0) same

pub Top-is : (u v : UpperSeat) (m : Sat) → m.0 ≡ Top u → m.0 ≡ Top v → u ≡ v
Top-is u v m a b = (let e : Top u ≡ Top v = sym a ∙ b in cc)

pub Bottom-is : (u v : LowerSeat) (m : Sat) → m.0 ≡ Bottom u → m.0 ≡ Bottom v → u ≡ v
Bottom-is u v m a b = (let e : Bottom u ≡ Bottom v = sym a ∙ b in cc)

pub bool_cases : (b : Bool) → (b ≡ true) ⊎ (b ≡ false)
bool_cases true = inl refl
bool_cases false = inr refl

pub or_true : (b : Bool) → (b || true) ≡ true
or_true true = refl
or_true false = refl

pub stop_small : (b : Bool) (stop : ℕ) → stop ≡ (if b then 1 else 0) → stop ≤ 1
stop_small true stop e = omega arith
stop_small false stop e = omega arith

pub looked_up : (up up' low p : ℕ) → Follows up low p → up' ≡ p → Follows up' low p
looked_up up up' low p f same = record {
  four = f.four;
  upper_lent = λ z. omega arith;
  upper_held = λ z. omega arith;
  upper_asked = λ z. omega arith;
  upper_given = λ z. omega arith;
  lower_lent = f.lower_lent;
  lower_held = f.lower_held;
  lower_asked = f.lower_asked;
  lower_given = f.lower_given;
}

pub looked_low : (up low low' p : ℕ) → Follows up low p → low' ≡ p → Follows up low' p
looked_low up low low' p f same = record {
  four = f.four;
  upper_lent = f.upper_lent;
  upper_held = f.upper_held;
  upper_asked = f.upper_asked;
  upper_given = f.upper_given;
  lower_lent = λ z. omega arith;
  lower_held = λ z. (omega arith, omega arith);
  lower_asked = λ z. omega arith;
  lower_given = λ z. ((λ x. omega arith), λ x. omega arith);
}

pub stored : (words : List ℕ) (p a b c i x : ℕ) → words ≡ p ∷ a ∷ b ∷ c ∷ [] → set words i x ≡ set (p ∷ a ∷ b ∷ c ∷ []) i x
stored words p a b c i x same = ap (λ l. set l i x) same

pub same_lot : (a b : Lot) (cs : List (ℕ × Option Lot)) → cs ≡ (0, Some a) ∷ [] → cs ≡ (0, Some b) ∷ [] → a ≡ b
same_lot a b cs p q = let e : Some a ≡ Some b = ap (λ (l : List (ℕ × Option Lot)). (get_or l 0 (0, Some a)).1) (sym p ∙ q) in cc
