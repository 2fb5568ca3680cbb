-- The demo job is accepted: its views add to the same cells, its updates own cells of their own keys, and its ticks depend on all
-- that they conflict with.
use Rattle.std.proofs.Common.{◌≡◌, refl, sym, ap, ◌∙◌, subst, ℕ, ◌<◌, ◌==◌, ◌&&◌, ◌||◌, List, [], ◌∷◌, Bool, true, false, inl, inr, ◌⊎◌, zero, suc}
use Rattle.std.proofs.Common.{if◌then◌else◌, arith, nat_lt}
use Rattle.std.specs.Prelude.{Contains, IsTrue, slice_get}
use Rattle.std.specs.List.{list_all, list_any}
use Rattle.std.proofs.lemmas.Bool.{false≢true}
use Rattle.std.proofs.lemmas.Bool.Decides.{Decides-eqb, Decides-ltb}
use Rattle.flu_model.specs.declared.events.Cell.{Cell}
use Rattle.flu_model.specs.declared.events.Tag.{Tag}
use Rattle.flu_model.specs.declared.jobs.Program.{Program}
use Rattle.flu_model.specs.declared.modes.Mode.{Mode}
use Rattle.flu_model.specs.declared.modes.Mode.TheVariants.{None as NoMode, Add as AddMode, Own}
use Rattle.flu_model.specs.Itags.{is_dependent, ties_tags}
use Rattle.flu_model.specs.Listing.{itags_of_sources, tag}
use Rattle.flu_model.specs.Modes.{mode_of, mode_among, modes_conflict, means, IsInUniverse, IsAccepted}
use Rattle.flu_model.specs.Updates.{actions_of}
use Rattle.flu_gen.specs.DemoJob.{IsDemoJob, demo_kinds, demo_depends, demo_sources, of_key}

-- ---- the modes of the three kinds on a cell
view_mode : Bool → Mode
view_mode same = if same || false then AddMode else NoMode

update_mode : Bool → Mode
update_mode same = if ((same || false) || false) || (same || false) then Own else NoMode

tick_mode : Bool → Mode
tick_mode of_views = if of_views || false then Own else NoMode

-- the mode of a kind of the demo job with a key
mode_in : ℕ → ℕ → Cell → Mode
mode_in kind key c = mode_among 1 (actions_of (slice_get demo_kinds kind)) key c

view_is : (key : ℕ) (c : Cell) → mode_in 0 key c ≡ view_mode (means key c (of_key 0))
unfolding mode_in view_mode
view_is key c = refl

update_is : (key : ℕ) (c : Cell) → mode_in 1 key c ≡ update_mode (means key c (of_key 1))
unfolding mode_in update_mode
update_is key c = refl

tick_is : (key : ℕ) (c : Cell) → mode_in 2 key c ≡ tick_mode (c.family == 0)
unfolding mode_in tick_mode
tick_is key c = refl

-- ---- which modes conflict
two_views : (m n : Bool) → IsTrue (modes_conflict (view_mode m) (view_mode n)) → ⊥
unfolding view_mode
two_views true true e = false≢true e
two_views true false e = false≢true e
two_views false true e = false≢true e
two_views false false e = false≢true e

view_and_update : (m n : Bool) → IsTrue (modes_conflict (view_mode m) (update_mode n)) → IsTrue m × IsTrue n
unfolding view_mode update_mode
view_and_update true true e = (refl, refl)
view_and_update true false e = absurd (false≢true e)
view_and_update false true e = absurd (false≢true e)
view_and_update false false e = absurd (false≢true e)

update_and_view : (m n : Bool) → IsTrue (modes_conflict (update_mode m) (view_mode n)) → IsTrue m × IsTrue n
unfolding view_mode update_mode
update_and_view true true e = (refl, refl)
update_and_view true false e = absurd (false≢true e)
update_and_view false true e = absurd (false≢true e)
update_and_view false false e = absurd (false≢true e)

two_updates : (m n : Bool) → IsTrue (modes_conflict (update_mode m) (update_mode n)) → IsTrue m × IsTrue n
unfolding update_mode
two_updates true true e = (refl, refl)
two_updates true false e = absurd (false≢true e)
two_updates false true e = absurd (false≢true e)
two_updates false false e = absurd (false≢true e)

update_and_tick : (m n : Bool) → IsTrue (modes_conflict (update_mode m) (tick_mode n)) → IsTrue m × IsTrue n
unfolding update_mode tick_mode
update_and_tick true true e = (refl, refl)
update_and_tick true false e = absurd (false≢true e)
update_and_tick false true e = absurd (false≢true e)
update_and_tick false false e = absurd (false≢true e)

tick_and_update : (m n : Bool) → IsTrue (modes_conflict (tick_mode m) (update_mode n)) → IsTrue m × IsTrue n
unfolding update_mode tick_mode
tick_and_update true true e = (refl, refl)
tick_and_update true false e = absurd (false≢true e)
tick_and_update false true e = absurd (false≢true e)
tick_and_update false false e = absurd (false≢true e)

-- ---- numbers that are tested
left_of : (x y : Bool) → IsTrue (x && y) → IsTrue x
left_of true y e = refl
left_of false y e = e

right_of : (x y : Bool) → IsTrue (x && y) → IsTrue y
right_of true y e = e
right_of false y e = absurd (false≢true e)

same_number : (a b : ℕ) → IsTrue (a == b) → a ≡ b
same_number a b e = (Decides-eqb a b).0 e

is_same_number : (a b : ℕ) → a ≡ b → IsTrue (a == b)
is_same_number a b e = (Decides-eqb a b).1 e

-- the family and the key of a cell that a reference means
family_of : (family key : ℕ) (c : Cell) → IsTrue (means key c (of_key family)) → family ≡ c.family
family_of family key c e = same_number family c.family (left_of (family == c.family) (key == c.key) e)

key_of : (family key : ℕ) (c : Cell) → IsTrue (means key c (of_key family)) → key ≡ c.key
key_of family key c e = same_number key c.key (right_of (family == c.family) (key == c.key) e)

-- ---- two kinds
tied : ℕ → ℕ → ℕ → ℕ → Bool
tied x y k l = list_any (ties_tags (tag x k) (tag y l)) demo_depends

abbrev AreTied : ℕ → ℕ → ℕ → ℕ → Cell → Type 0
AreTied x y k l c = IsTrue (modes_conflict (mode_in x k c) (mode_in y l c)) → IsTrue (tied x y k l)

-- a conflict of kinds whose modes are these
at_modes : (x y k l : ℕ) (c : Cell) (m n : Mode) → mode_in x k c ≡ m → mode_in y l c ≡ n → IsTrue (modes_conflict (mode_in x k c) (mode_in y l c))
    → IsTrue (modes_conflict m n)
at_modes x y k l c m n first second e = sym (λ i. modes_conflict (first i) (second i)) ∙ e

view_view : (k l : ℕ) (c : Cell) → AreTied 0 0 k l c
view_view k l c e = absurd (two_views (means k c (of_key 0)) (means l c (of_key 0)) (at_modes 0 0 k l c _ _ (view_is k c) (view_is l c) e))

view_update : (k l : ℕ) (c : Cell) → AreTied 0 1 k l c
view_update k l c e =
    let both = view_and_update (means k c (of_key 0)) (means l c (of_key 1)) (at_modes 0 1 k l c _ _ (view_is k c) (update_is l c) e) in
    absurd (omega (arith, family_of 0 k c both.0, family_of 1 l c both.1))

update_view : (k l : ℕ) (c : Cell) → AreTied 1 0 k l c
update_view k l c e =
    let both = update_and_view (means k c (of_key 1)) (means l c (of_key 0)) (at_modes 1 0 k l c _ _ (update_is k c) (view_is l c) e) in
    absurd (omega (arith, family_of 1 k c both.0, family_of 0 l c both.1))

update_tick : (k l : ℕ) (c : Cell) → AreTied 1 2 k l c
update_tick k l c e =
    let both = update_and_tick (means k c (of_key 1)) (c.family == 0) (at_modes 1 2 k l c _ _ (update_is k c) (tick_is l c) e) in
    absurd (omega (arith, family_of 1 k c both.0, same_number c.family 0 both.1))

tick_update : (k l : ℕ) (c : Cell) → AreTied 2 1 k l c
tick_update k l c e =
    let both = tick_and_update (c.family == 0) (means l c (of_key 1)) (at_modes 2 1 k l c _ _ (tick_is k c) (update_is l c) e) in
    absurd (omega (arith, same_number c.family 0 both.0, family_of 1 l c both.1))

-- updates of one key are declared dependent
same_key : (b : Bool) → IsTrue b → IsTrue (b || false)
same_key true e = refl
same_key false e = e

update_update : (k l : ℕ) (c : Cell) → AreTied 1 1 k l c
unfolding tied
update_update k l c e =
    let both = two_updates (means k c (of_key 1)) (means l c (of_key 1)) (at_modes 1 1 k l c _ _ (update_is k c) (update_is l c) e) in
    same_key (k == l) (is_same_number k l (key_of 1 k c both.0 ∙ sym (key_of 1 l c both.1)))

view_tick : (k l : ℕ) (c : Cell) → AreTied 0 2 k l c
unfolding tied
view_tick k l c e = refl

tick_view : (k l : ℕ) (c : Cell) → AreTied 2 0 k l c
unfolding tied
tick_view k l c e = refl

tick_tick : (k l : ℕ) (c : Cell) → AreTied 2 2 k l c
unfolding tied
tick_tick k l c e = refl

-- ---- all kinds
abbrev IsKind : ℕ → Type 0
IsKind x = (x ≡ 0) ⊎ ((x ≡ 1) ⊎ (x ≡ 2))

with_view : (y k l : ℕ) (c : Cell) → IsKind y → AreTied 0 y k l c
with_view y k l c (inl e) = subst (λ y. AreTied 0 y k l c) (sym e) (view_view k l c)
with_view y k l c (inr (inl e)) = subst (λ y. AreTied 0 y k l c) (sym e) (view_update k l c)
with_view y k l c (inr (inr e)) = subst (λ y. AreTied 0 y k l c) (sym e) (view_tick k l c)

with_update : (y k l : ℕ) (c : Cell) → IsKind y → AreTied 1 y k l c
with_update y k l c (inl e) = subst (λ y. AreTied 1 y k l c) (sym e) (update_view k l c)
with_update y k l c (inr (inl e)) = subst (λ y. AreTied 1 y k l c) (sym e) (update_update k l c)
with_update y k l c (inr (inr e)) = subst (λ y. AreTied 1 y k l c) (sym e) (update_tick k l c)

with_tick : (y k l : ℕ) (c : Cell) → IsKind y → AreTied 2 y k l c
with_tick y k l c (inl e) = subst (λ y. AreTied 2 y k l c) (sym e) (tick_view k l c)
with_tick y k l c (inr (inl e)) = subst (λ y. AreTied 2 y k l c) (sym e) (tick_update k l c)
with_tick y k l c (inr (inr e)) = subst (λ y. AreTied 2 y k l c) (sym e) (tick_tick k l c)

with_both : (x y k l : ℕ) (c : Cell) → IsKind x → IsKind y → AreTied x y k l c
with_both x y k l c (inl e) other = subst (λ x. AreTied x y k l c) (sym e) (with_view y k l c other)
with_both x y k l c (inr (inl e)) other = subst (λ x. AreTied x y k l c) (sym e) (with_update y k l c other)
with_both x y k l c (inr (inr e)) other = subst (λ x. AreTied x y k l c) (sym e) (with_tick y k l c other)

-- ---- the demo job
each_passes : {X : Type 0} (test : X → Bool) (xs : List X) (x : X) → IsTrue (list_all test xs) → Contains xs x → IsTrue (test x)
each_passes test [] x all found = absurd (omega (arith, found.1))
each_passes test (y ∷ ys) x all (zero, lt, same) = subst (λ z. IsTrue (test z)) same (left_of (test y) (list_all test ys) all)
each_passes test (y ∷ ys) x all (suc k, lt, same) = each_passes test ys x (right_of (test y) (list_all test ys) all) (k, omega (arith, lt), same)

below_three : (x : ℕ) → x < 3 → IsKind x
below_three zero lt = inl refl
below_three (suc zero) lt = inr (inl refl)
below_three (suc (suc zero)) lt = inr (inr refl)
below_three (suc (suc (suc x))) lt = absurd (omega (arith, lt))

kind_listed : (p : Program) (t : Tag) → IsDemoJob p → IsInUniverse p t → IsKind t.kind
kind_listed p t demo listed =
    let found = subst (λ sources. Contains (itags_of_sources 0 sources) (t, listed.0)) demo.sources listed.1 in
    below_three t.kind (small (each_passes (λ (e : Tag × ℕ). nat_lt e.0.kind 3) (itags_of_sources 0 demo_sources) (t, listed.0) refl found))
  where
    small : IsTrue (nat_lt t.kind 3) → t.kind < 3
    small e = (Decides-ltb t.kind 3).0 e

mode_is : (p : Program) (t : Tag) (c : Cell) → IsDemoJob p → mode_of p t c ≡ mode_in t.kind t.key c
unfolding mode_in
mode_is p t c demo = λ i. mode_among (demo.version i) (actions_of (slice_get (demo.kinds i) t.kind)) t.key c

tied_is : (p : Program) (a b : Tag) → IsDemoJob p → is_dependent p a b ≡ tied a.kind b.kind a.key b.key
unfolding tied
tied_is p a b demo = ap (λ depends. list_any (ties_tags a b) depends) demo.depends

pub demo_accepted : (p : Program) → IsDemoJob p → IsAccepted p
demo_accepted p demo a b c first second conflict =
    tied_is p a b demo
    ∙ with_both a.kind b.kind a.key b.key c (kind_listed p a demo first) (kind_listed p b demo second)
    (at_conflict (mode_is p a c demo) (mode_is p b c demo) conflict)
  where
    at_conflict : mode_of p a c ≡ mode_in a.kind a.key c → mode_of p b c ≡ mode_in b.kind b.key c → IsTrue (modes_conflict (mode_of p a c) (mode_of p b c))
        → IsTrue (modes_conflict (mode_in a.kind a.key c) (mode_in b.kind b.key c))
    at_conflict same also e = sym (λ i. modes_conflict (same i) (also i)) ∙ e
