-- Owners by their places and by their count.
use Rattle.std.proofs.Common.{◌≡◌, ◌<◌, ◌≤◌, ◌+◌, ℕ, zero, suc, Bool, true, false, cond, Some, None, List, [], ◌∷◌, length, inl, inr, refl, sym, ap, subst, ◌∙◌}
use Rattle.std.proofs.Common.{arith}
use Rattle.std.specs.Prelude.{nat_lt, ◌==◌, count_by}
use Rattle.std.specs.List.{position_or_len}
use Rattle.std.proofs.lemmas.Bool.{cases_lt, cases_eq, ne_eqb}
use Rattle.std.proofs.lemmas.Grind.{common_steps}
use Rattle.std.proofs.lemmas.List.Sums.{sum_by-cons}
use Rattle.flu_lemmas.proofs.OnlyOne.{count_by-cons}
use Rattle.flu_lemmas.proofs.Prefixes.{chosen}
use Rattle.flu_lemmas.proofs.Searches.{eq_true}
use Rattle.flu_lemmas.proofs.Tests.{lt_true, true_lt, not_both}
use Rattle.flu_model.specs.declared.events.Itag.{Itag}
use Rattle.flu_model.specs.declared.jobs.Program.{Program}
use Rattle.flu_model.specs.declared.plans.Node.{Node}
use Rattle.flu_model.specs.Owners.{node_owns, owns, owner_of}
use Rattle.flu_model.specs.Itags.{count_of_itags}
use Rattle.flu_valid.specs.declared.faults.Invalid.{Invalid}
use Rattle.flu_valid.specs.declared.faults.Invalid.TheVariants.{Unowned, OwnedTwice, Clash}
use Rattle.flu_valid.specs.Faults.{HasOneOwner, IsReached, HasNoOwner, HasFirstOwners, IsFirstPlanFault}
use Rattle.flu_valid.specs.LoopSearch.{IsSoleOwner, IsFaultOf}

-- ---- places
-- how many nodes stand before the first owner
abbrev place : Program → Itag → List Node → ℕ
place p i nodes = position_or_len (node_owns p i) nodes

abbrev pub IsFirstOwner : Program → Itag → List Node → ℕ → Type 0
IsFirstOwner p i nodes a = (owns p nodes a i ≡ true) × ((w : ℕ) → w < a → owns p nodes w i ≡ false)

one_later : (p : Program) (i : Itag) (x : Node) (xs : List Node) (k : ℕ) → node_owns p i x ≡ false → IsFirstOwner p i xs k → IsFirstOwner p i (x ∷ xs) (suc k)
one_later p i x xs k e first = (first.0, earlier)
  where
    earlier : (w : ℕ) → w < suc k → owns p (x ∷ xs) w i ≡ false
    earlier zero lt = e
    earlier (suc w) lt = first.1 w (omega arith)

at_place : (p : Program) (i : Itag) (nodes : List Node) (a : ℕ) → place p i nodes ≡ a → a < length nodes → IsFirstOwner p i nodes a
at_place p i [] a e lt = absurd (omega arith)
at_place p i (x ∷ xs) a e lt = at_test (node_owns p i x) refl (at_place p i xs)
  where
    at_test : (b : Bool) → node_owns p i x ≡ b → ((k : ℕ) → place p i xs ≡ k → k < length xs → IsFirstOwner p i xs k) → IsFirstOwner p i (x ∷ xs) a
    at_test true t h = let here = rw t at e in subst (IsFirstOwner p i (x ∷ xs)) here (t, λ w less. absurd (omega arith))
    at_test false t h =
        let there = rw t at e in
        let more : suc (place p i xs) ≡ a = omega arith in
        subst (IsFirstOwner p i (x ∷ xs)) more (one_later p i x xs (place p i xs) t (h (place p i xs) refl (omega arith)))

no_place : (p : Program) (i : Itag) (nodes : List Node) → length nodes ≤ place p i nodes → HasNoOwner p nodes i
no_place p i [] le w = refl
no_place p i (x ∷ xs) le w = at_test (node_owns p i x) refl (no_place p i xs) w
  where
    at_test : (b : Bool) → node_owns p i x ≡ b → (length xs ≤ place p i xs → HasNoOwner p xs i) → (v : ℕ) → owns p (x ∷ xs) v i ≡ false
    at_test true t h v = absurd (let le2 = rw t at le in omega arith)
    at_test false t h zero = t
    at_test false t h (suc v) = let le2 = rw t at le in h (omega arith) v

pub first_owner_is : (p : Program) (nodes : List Node) (i : Itag) (a : ℕ) → owner_of p nodes i ≡ Some a → IsFirstOwner p i nodes a
first_owner_is p nodes i a e =
    elim (chosen (nat_lt (place p i nodes) (length nodes)) (Some (place p i nodes)) None (Some a) e) [
      | inl found ↦ (let same : place p i nodes ≡ a = inside (place p i nodes) a found.1 in let lt = true_lt (place p i nodes) (length nodes) found.0 in
          at_place p i nodes a same (omega arith))
      | inr none ↦ absurd (not_none a none.1)
    ]
  where
    inside : (m n : ℕ) → Some m ≡ Some n → m ≡ n
    inside m n s = cc

    not_none : (n : ℕ) → None ≡ Some n → ⊥
    not_none n s = cc

pub no_owner_is : (p : Program) (nodes : List Node) (i : Itag) → owner_of p nodes i ≡ None → HasNoOwner p nodes i
no_owner_is p nodes i e =
    elim (cases_lt (place p i nodes) (length nodes)) [
      | inl lt ↦ absurd (not_none (place p i nodes) (sym (ap (λ b. cond b (Some (place p i nodes)) None) (lt_true (place p i nodes) (length nodes) lt)) ∙ e))
      | inr le ↦ no_place p i nodes le
    ]
  where
    not_none : (n : ℕ) → Some n ≡ None → ⊥
    not_none n s = cc

-- an owner after which there is none, and before which there is none, is the only one
pub sole_owner_is : (p : Program) (nodes : List Node) (i : Itag) (a : ℕ) → IsFirstOwner p i nodes a → ((w : ℕ) → a < w → owns p nodes w i ≡ false)
    → IsSoleOwner p nodes i a
sole_owner_is p nodes i a first later v =
    elim (cases_eq v a) [
      | inl same ↦ ap (λ w. owns p nodes w i) same ∙ first.0 ∙ sym (eq_true v a same)
      | inr other ↦ elim (cases_lt v a) [
        | inl lt ↦ first.1 v lt ∙ sym (ne_eqb v a other)
        | inr le ↦ later v (omega arith) ∙ sym (ne_eqb v a other)
      ]
    ]

pub owners_are_first : (p : Program) (nodes : List Node) (i : Itag) (a b : ℕ) → IsFirstOwner p i nodes a → a < b → owns p nodes b i ≡ true
    → ((w : ℕ) → a < w → w < b → owns p nodes w i ≡ false) → HasFirstOwners p nodes i a b
owners_are_first p nodes i a b first lt second between = record {
  in_order = lt;
  first = first.0;
  second = second;
  no_other = λ w less owned.
      elim (cases_eq w a) [
        | inl same ↦ same
        | inr other ↦ elim (cases_lt w a) [
          | inl before ↦ absurd (not_both (owns p nodes w i) owned (first.1 w before))
          | inr le ↦ absurd (not_both (owns p nodes w i) owned (between w (omega arith) less))
        ]
      ];
}

-- ---- counts
pub none_counted : (p : Program) (nodes : List Node) (i : Itag) → HasNoOwner p nodes i → count_by (node_owns p i) nodes ≡ 0
none_counted p [] i none = refl
none_counted p (x ∷ xs) i none =
    let rest : count_by (node_owns p i) xs ≡ 0 = none_counted p xs i (λ w. none (suc w)) in
    count_by-cons (node_owns p i) x xs false (none zero) ∙ omega arith

same_later : (v w : ℕ) → (suc v == suc w) ≡ (v == w)
same_later v w = grind (arith, common_steps)

pub sole_counted : (p : Program) (nodes : List Node) (i : Itag) (w : ℕ) → IsSoleOwner p nodes i w → HasOneOwner p nodes i
sole_counted p [] i w sole = absurd (not_both (w == w) (eq_true w w refl) (sym (sole w)))
sole_counted p (x ∷ xs) i zero sole =
    let rest : count_by (node_owns p i) xs ≡ 0 = none_counted p xs i (λ v. sole (suc v) ∙ ne_eqb (suc v) 0 (λ e. omega arith)) in
    count_by-cons (node_owns p i) x xs true (sole zero) ∙ omega arith
sole_counted p (x ∷ xs) i (suc w) sole =
    let rest : count_by (node_owns p i) xs ≡ 1 = sole_counted p xs i w (λ v. sole (suc v) ∙ same_later v w) in
    count_by-cons (node_owns p i) x xs false (sole zero ∙ ne_eqb 0 (suc w) (λ e. omega arith)) ∙ omega arith

some_counted : (p : Program) (nodes : List Node) (i : Itag) (w : ℕ) → owns p nodes w i ≡ true → 1 ≤ count_by (node_owns p i) nodes
some_counted p [] i w owned = cc
some_counted p (x ∷ xs) i zero owned = let here = count_by-cons (node_owns p i) x xs true owned in omega arith
some_counted p (x ∷ xs) i (suc w) owned =
    let rest : 1 ≤ count_by (node_owns p i) xs = some_counted p xs i w owned in
    let here = count_by-cons (node_owns p i) x xs (node_owns p i x) refl in
    omega arith

two_counted : (p : Program) (nodes : List Node) (i : Itag) (a b : ℕ) → a < b → owns p nodes a i ≡ true → owns p nodes b i ≡ true
    → 2 ≤ count_by (node_owns p i) nodes
two_counted p [] i a b lt first second = cc
two_counted p (x ∷ xs) i a zero lt first second = absurd (omega arith)
two_counted p (x ∷ xs) i zero (suc b) lt first second =
    let here = count_by-cons (node_owns p i) x xs true first in
    let rest : 1 ≤ count_by (node_owns p i) xs = some_counted p xs i b second in
    omega arith
two_counted p (x ∷ xs) i (suc a) (suc b) lt first second =
    let rest : 2 ≤ count_by (node_owns p i) xs = two_counted p xs i a b (omega arith) first second in
    let here = count_by-cons (node_owns p i) x xs (node_owns p i x) refl in
    omega arith

pub none_is_not_one : (p : Program) (nodes : List Node) (i : Itag) → HasNoOwner p nodes i → HasOneOwner p nodes i → ⊥
none_is_not_one p nodes i none one = let nothing = none_counted p nodes i none in omega arith

pub two_are_not_one : (p : Program) (nodes : List Node) (i : Itag) (a b : ℕ) → HasFirstOwners p nodes i a b → HasOneOwner p nodes i → ⊥
two_are_not_one p nodes i a b two one = let both = two_counted p nodes i a b two.in_order two.first two.second in omega arith

-- what is wrong with the owners of an itag is the first fault where all before it have one owner
pub fault_is_first : (p : Program) (nodes : List Node) (i : Itag) (why : Invalid) → i.0 < count_of_itags p
    → ((k : Itag) → k.0 < i.0 → HasOneOwner p nodes k) → IsFaultOf p nodes i why → IsFirstPlanFault p nodes why
fault_is_first p nodes i (Unowned k) lt before fault =
    subst (λ n. IsReached p nodes n × HasNoOwner p nodes n) (sym fault.0) (record { in_range = lt; before = before }, fault.1)
fault_is_first p nodes i (OwnedTwice k a b) lt before fault =
    subst (λ n. IsReached p nodes n × HasFirstOwners p nodes n a b) (sym fault.0) (record { in_range = lt; before = before }, fault.1)
fault_is_first p nodes i (Clash a k b l) lt before fault = absurd fault
