-- The making and the closing of a link keep the rule.
use Rattle.std.proofs.Common.{◌≡◌, ◌≢◌, ℕ, zero, suc, ◌⊎◌, true, false, List, [], ◌∷◌, ◌++◌, length, get_or}
use Rattle.std.proofs.Common.{set, sym, refl, ap, ◌∙◌, subst, ⊎_elim, inl, inr, arith, Option, None}
use mathlib.Core.Option as maybe
use lib.ListN.{get_elem?}
use Rattle.atomic_table.specs.Table.{keeps, takes, step, opening, Allows, Splits, Joins}
use Rattle.atomic_table.proofs.Lists.{at_set}
use Rattle.flu_fork.specs.declared.content.Content.{Content}
use Rattle.flu_fork.specs.declared.lots.Lot.{Lot}
use Rattle.flu_link.specs.declared.notes.UpperSeat.{UpperSeat}
use Rattle.flu_link.specs.declared.notes.LowerSeat.{LowerSeat}
use Rattle.flu_link.specs.declared.notes.View.{View}
use Rattle.flu_link.specs.declared.notes.View.TheVariants.{Fresh, Top, Bottom, Joined, Closed}
use Rattle.flu_link.specs.Seats.{Sat, upper_seat, lower_seat, fresh, upper_side, lower_side, both_sides}
use Rattle.flu_link.specs.Rule.{Follows, Shows, Linked, Knows, Kept}
use Rattle.flu_link.specs.Steps.{AtEnd, ends}
use Rattle.flu_link.proofs.Stepping.{Homes, found}
use Rattle.flu_link.proofs.UpperSteps.{IsEmptyHanded}

pub starts : (case : Content) (node : ℕ) → Kept (opening (3 ∷ 0 ∷ 0 ∷ 0 ∷ []) (None ∷ []) (fresh case node))
starts case node = record {
  upper = 0;
  lower = 0;
  mode = 0;
  up = u;
  low = l;
  linked = λ _. record {
    phase = 3;
    stop = 0;
    home = maybe.some None;
    words_are = refl;
    homes_are = refl;
    one_case = (refl, refl);
    follows = record {
      four = omega arith;
      upper_lent = λ z. absurd (omega arith);
      upper_held = λ z. absurd (omega arith);
      upper_asked = λ z. omega arith;
      upper_given = λ z. refl;
      lower_lent = λ z. absurd (omega arith);
      lower_held = λ z. absurd (omega arith);
      lower_asked = λ z. absurd (omega arith);
      lower_given = λ z. ((λ x. omega arith), λ x. omega arith);
    };
    lies = record {
      upper_out = λ wrong. cc;
      lower_out = λ wrong. cc;
      at_home = λ _ _. (None, refl, record { lent = λ z. absurd (omega arith); empty = λ _ _. refl; taken = λ _ _. refl; given = λ _ wrong. cc });
    };
    agrees = record {
      grown = λ z. absurd (omega arith);
      same = λ z. refl;
      same_taken = λ z. refl;
      held = λ _ z. refl;
      held_out = λ wrong. cc;
      asked = λ z. absurd (omega arith);
      itag = λ z. absurd (omega arith);
      index = λ z. absurd (omega arith);
      none = λ _. (refl, refl);
    };
    stops = record { is = refl; upper_found = omega arith; lower_found = omega arith };
  };
  each = each;
}
  where
    u : UpperSeat
    u = upper_seat case node

    l : LowerSeat
    l = lower_seat case node

    each : (seat : ℕ) (v : View) → get_elem? (fresh case node ∷ []) seat ≡ maybe.some v → Knows 0 0 0 (upper_seat case node) (lower_seat case node) seat v
    each zero v e = subst (Knows 0 0 0 (upper_seat case node) (lower_seat case node) 0) (maybe.some-injective (fresh case node) v e) (refl, refl, refl, refl)
    each (suc j) v e = cc

at_end : {A : Type 0} (l : List A) (a b : A) (j : ℕ) → get_elem? (l ++ a ∷ []) j ≡ maybe.some b → (get_elem? l j ≡ maybe.some b) ⊎ ((j ≡ length l) × (a ≡ b))
at_end [] a b zero e = inr (refl, maybe.some-injective a b e)
at_end [] a b (suc j) e = cc
at_end (x ∷ xs) a b zero e = inl e
at_end (x ∷ xs) a b (suc j) e = ⊎_elim inl (λ t. inr (ap suc t.0, t.1)) (at_end xs a b j e)

-- no seat but the upper end's knows anything before the lower end is made
alone : (upper lower mode lower' : ℕ) (up : UpperSeat) (low : LowerSeat) (seat : ℕ) (v : View) → mode ≡ 0 → seat ≢ upper
    → Knows upper lower mode up low seat v → Knows upper lower' 1 up low seat v
alone upper lower mode lower' up low seat (Fresh u) zero' other k = absurd (other k.0)
alone upper lower mode lower' up low seat (Top u) zero' other k = absurd (other k.0)
alone upper lower mode lower' up low seat (Bottom l) zero' other k = absurd (let z : mode ≡ 1 = k.2 in omega arith)
alone upper lower mode lower' up low seat (Joined u l) zero' other k = absurd (other k.0)
alone upper lower mode lower' up low seat Closed zero' other k = tt

pub splits : (id : ℕ) (v : View) (u : UpperSeat) → v ≡ Fresh u → Splits Kept id v (upper_side v) (lower_side v)
splits id v u is = subst (λ z. Splits Kept id z (upper_side z) (lower_side z)) (sym is) (λ s r at.
    let k : Knows r.upper r.lower r.mode r.up r.low id (Fresh u) = r.each id (Fresh u) at in
    let views' : List View = set s.views id (Top u) in record {
      upper = r.upper;
      lower = length views';
      mode = 1;
      up = r.up;
      low = r.low;
      linked = λ _. r.linked (omega arith);
      each = λ seat w e. ⊎_elim
          (λ t. ⊎_elim
          (λ (p : (seat ≡ id) × (Top u ≡ w)). subst (Knows r.upper (length views') 1 r.up r.low seat) p.1 (p.0 ∙ k.0, k.1, refl))
          (λ p. alone r.upper r.lower r.mode (length views') r.up r.low seat w k.2 (λ z. p.0 (z ∙ sym k.0)) (r.each seat w p.1))
          (at_set s.views id seat (Top u) w t))
          (λ t. subst (Knows r.upper (length views') 1 r.up r.low seat) t.1 (t.0, ap (λ (z : UpperSeat). lower_seat z.case z.lower) k.1 ∙ sym k.3, refl))
          (at_end views' (lower_side (Fresh u)) w seat e);
    })

-- what other seats know stays true where both ends are joined
joining : (upper lower mode : ℕ) (up : UpperSeat) (low : LowerSeat) (seat : ℕ) (v : View) → mode ≡ 1 → seat ≢ upper → seat ≢ lower
    → Knows upper lower mode up low seat v → Knows upper lower 2 up low seat v
joining upper lower mode up low seat (Fresh u) one a b k = absurd (a k.0)
joining upper lower mode up low seat (Top u) one a b k = absurd (a k.0)
joining upper lower mode up low seat (Bottom l) one a b k = absurd (b k.0)
joining upper lower mode up low seat (Joined u l) one a b k = absurd (a k.0)
joining upper lower mode up low seat Closed one a b k = tt

pub joins : (id other : ℕ) (v w : View) (u : UpperSeat) (l : LowerSeat) → v ≡ Top u → w ≡ Bottom l → Joins Kept id v other w (both_sides v w) Closed
joins id other v w u l v_is w_is = subst (λ (z : View × View). Joins Kept id z.0 other z.1 (both_sides z.0 z.1) Closed) (λ j. (sym v_is j, sym w_is j))
    (λ s r at apart at'.
    let k : Knows r.upper r.lower r.mode r.up r.low id (Top u) = r.each id (Top u) at in
    let both : View = Joined u l in
    let k' : Knows r.upper r.lower r.mode r.up r.low other (Bottom l) =
    ⊎_elim (λ (t : (other ≡ id) × (both ≡ Bottom l)). absurd (apart t.0)) (λ t. r.each other (Bottom l) t.1)
    (at_set s.views id other both (Bottom l) at') in record {
      upper = r.upper;
      lower = r.lower;
      mode = 2;
      up = r.up;
      low = r.low;
      linked = λ _. r.linked (let z : r.mode ≡ 1 = k.2 in omega arith);
      each = λ seat x e. ⊎_elim
          (λ (t : (seat ≡ other) × (Closed ≡ x)). subst (Knows r.upper r.lower 2 r.up r.low seat) t.1 tt)
          (λ t. ⊎_elim
          (λ (p : (seat ≡ id) × (both ≡ x)). subst (Knows r.upper r.lower 2 r.up r.low seat) p.1 (p.0 ∙ k.0, k.1, k'.1, refl))
          (λ p. joining r.upper r.lower r.mode r.up r.low seat x k.2 (λ z. p.0 (z ∙ sym k.0)) (λ z. t.0 (z ∙ sym k'.0)) (r.each seat x p.1))
          (at_set s.views id seat both x t.1))
          (at_set (set s.views id both) other seat Closed x e);
    })

-- and where the link is closed
closing : (upper lower mode : ℕ) (up : UpperSeat) (low : LowerSeat) (seat : ℕ) (v : View) → mode ≡ 2 → seat ≢ upper → Knows upper lower mode up low seat v
    → Knows upper lower 3 up low seat v
closing upper lower mode up low seat (Fresh u) two a k = absurd (a k.0)
closing upper lower mode up low seat (Top u) two a k = absurd (a k.0)
closing upper lower mode up low seat (Bottom l) two a k = absurd (let z : mode ≡ 1 = k.2 in omega arith)
closing upper lower mode up low seat (Joined u l) two a k = absurd (a k.0)
closing upper lower mode up low seat Closed two a k = tt

pub closes : (n id : ℕ) (m : Sat) (u : UpperSeat) (l : LowerSeat) → m.0 ≡ Joined u l → IsEmptyHanded u m.1 → l.out ≡ false
    → Allows Kept n id m 0 (λ y. y) (ends (step n 0 0 0 maybe.none) m)
closes n id m u l is hand inside s r wide at small =
    let k : Knows r.upper r.lower r.mode r.up r.low id (Joined u l) = subst (Knows r.upper r.lower r.mode r.up r.low id) is (r.each id m.0 at) in
    let g : Linked u l s.words s.homes = subst (λ (z : UpperSeat × LowerSeat). Linked z.0 z.1 s.words s.homes) (λ j. (sym k.1 j, sym k.2 j))
    (r.linked (let z : r.mode ≡ 2 = k.3 in omega arith)) in
    let y : ℕ = get_or s.words 0 0 in let same : y ≡ g.phase = found s.words _ g.phase g.words_are in
    let told : (slot : Option Lot) → Shows u l g.phase slot → AtEnd u l y slot = λ slot shows. record {
      follows = subst (Follows u.phase l.phase) (sym same) g.follows;
      shows = subst (λ z. Shows u l z slot) (sym same) shows;
      counts = λ a b. let x = g.follows.lower_held b in let x0 = x.0 in let f0 = g.follows.upper_lent in let f1 = g.follows.upper_held in
          (shows.empty (omega arith) (omega arith), g.agrees.held (omega arith) (omega arith));
    } in
    let kept : (words : List ℕ) (homes : Homes) → Kept record { words = words; homes = homes; views = set s.views id Closed } = λ words homes. record {
      upper = r.upper;
      lower = r.lower;
      mode = 3;
      up = r.up;
      low = r.low;
      linked = λ z. absurd (omega arith);
      each = λ seat x e. ⊎_elim
          (λ (t : (seat ≡ id) × (Closed ≡ x)). subst (Knows r.upper r.lower 3 r.up r.low seat) t.1 tt)
          (λ t. closing r.upper r.lower r.mode r.up r.low seat x k.3 (λ z. t.0 (z ∙ sym k.0)) (r.each seat x t.1))
          (at_set s.views id seat Closed x e);
    } in
    ⊎_elim
    (λ t. let h = g.lies.at_home t.0 inside in (
      Closed,
      takes 0 h.0,
      ap (λ l. get_elem? l 0) g.homes_are ∙ ap maybe.some h.1,
      kept _ _,
      λ v w e. (h.0, ap (λ cs. (0, h.0) ∷ cs) t.1, same_notes y h.0 v w e (told h.0 h.2)),
    ))
    (λ t. let x = g.lies.upper_out t.0 in (
      Closed,
      keeps,
      tt,
      kept _ _,
      λ v w e. (
        None,
        t.1,
        same_notes y None v w e (told None record {
          lent = λ z. absurd (let three : g.phase ≡ 3 = x.0 in omega arith);
          empty = λ _ _. refl;
          taken = λ _ _. refl;
          given = λ _ wrong. absurd (let it : u.taken ≡ true = x.2 in cc);
        }),
      ),
    ))
    hand
  where
    same_notes : (y : ℕ) (slot : Option Lot) (v : UpperSeat) (w : LowerSeat) → m.0 ≡ Joined v w → AtEnd u l y slot → AtEnd v w y slot
    same_notes y slot v w e c = let both : Joined u l ≡ Joined v w = sym is ∙ e in let a : u ≡ v = cc in let b : l ≡ w = cc in
        subst (λ (z : UpperSeat × LowerSeat). AtEnd z.0 z.1 y slot) (λ j. (a j, b j)) c
