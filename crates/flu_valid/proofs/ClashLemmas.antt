-- The first clash, and a plan without one.
use Rattle.std.proofs.Common.{◌≡◌, ◌<◌, ◌≤◌, ℕ, zero, suc, true, false, List, [], ◌∷◌, length, inl, inr, refl, sym, ap, subst, ◌∙◌, arith}
use Rattle.std.specs.Prelude.{◌||◌, IfNone, Option, Some, None}
use Rattle.std.specs.Ordering.{nat_cmp, ordering_then, is_lt}
use Rattle.std.specs.declared.cmp.Ordering.{Ordering}
use Rattle.std.specs.declared.cmp.Ordering.TheVariants.{Equal, Greater}
use Rattle.std.specs.Cmp.{nat_cmp_is}
use Rattle.std.proofs.lemmas.Bool.{cases_lt, cases_eq}
use Rattle.flu_lemmas.proofs.Booleans.{or_turns}
use Rattle.flu_lemmas.proofs.Searches.{eq_true}
use Rattle.flu_lemmas.proofs.Tests.{false_if_not, not_both}
use Rattle.flu_model.specs.declared.events.Itag.{Itag}
use Rattle.flu_model.specs.declared.jobs.Program.{Program}
use Rattle.flu_model.specs.declared.plans.Node.{Node}
use Rattle.flu_model.specs.Itags.{count_of_itags, tag_of_itag, is_dependent}
use Rattle.flu_model.specs.Owners.{owns, is_within, are_related}
use Rattle.flu_model.specs.Validity.{IsValid}
use Rattle.flu_laws.specs.Lawful.{DependencyTurns}
use Rattle.flu_valid.specs.declared.faults.Invalid.{Invalid}
use Rattle.flu_valid.specs.declared.faults.Invalid.TheVariants.{Unowned, OwnedTwice, Clash}
use Rattle.flu_valid.specs.Faults.{HasOneOwner, IsClash, IsFirstClash, IsFirstPlanFault}
use Rattle.flu_valid.specs.LoopSearch.{NoneOfNodes, NoneOfNode, AreFirstItags, IsFirstOfNode}
use Rattle.flu_valid.proofs.OwnerLemmas.{none_is_not_one, two_are_not_one}

-- ---- the first clash
not_before : (x y : ℕ) → (x < y → ⊥) → y ≤ x
not_before x y h = elim (cases_lt x y) [ inl lt ↦ absurd (h lt) | inr le ↦ le ]

-- what is not before by one number, and by the next where the first are equal, is not before by both
later : (a b : ℕ) (rest : Ordering) → b ≤ a → (a ≡ b → is_lt rest ≡ false) → is_lt (ordering_then (nat_cmp a b) rest) ≡ false
later a b rest le equal =
    elim (cases_eq a b) [
      | inl same ↦ ap (λ o. is_lt (ordering_then o rest)) (sym (nat_cmp_is a b Equal same)) ∙ equal same
      | inr other ↦ (let less : b < a = omega arith in ap (λ o. is_lt (ordering_then o rest)) (sym (nat_cmp_is a b Greater less)))
    ]

not_less : (a b : ℕ) → b ≤ a → is_lt (nat_cmp a b) ≡ false
not_less a b le =
    elim (cases_eq a b) [
      | inl same ↦ ap is_lt (sym (nat_cmp_is a b Equal same))
      | inr other ↦ (let less : b < a = omega arith in ap is_lt (sym (nat_cmp_is a b Greater less)))
    ]

abbrev number : ℕ → Itag
number n = record { 0 = n }

pub first_is : (p : Program) (nodes : List Node) (a b : ℕ) (i j : Itag) → ((d : ℕ) → d < a → NoneOfNode p nodes d)
    → ((e : ℕ) → e < b → NoneOfNodes p nodes a e) → AreFirstItags p nodes a b i j → IsFirstClash p nodes a i b j
first_is p nodes a b i j before_a before_b first = record {
  clash = first.clash;
  first = λ d k e l clash.
      later d a _ (not_before d a (λ lt. before_a d lt e k l clash))
      (λ same_a.
      (let at_a : IsClash p nodes a k e l = subst (λ n. IsClash p nodes n k e l) same_a clash in
      later e b _ (not_before e b (λ lt. before_b e lt k l at_a))
      (λ same_b.
      (let at_b : IsClash p nodes a k b l = subst (λ n. IsClash p nodes a k n l) same_b at_a in
      later k.0 i.0 _ (not_before k.0 i.0 (λ lt. first.before_i k lt l at_b))
      (λ same_i.
      (let at_i : IsClash p nodes a i b l = subst (λ n. IsClash p nodes a (number n) b l) same_i at_b in
      not_less l.0 j.0 (not_before l.0 j.0 (λ lt. first.before_j l lt at_i))))))));
}

-- ---- without a clash
within_itself : (nodes : List Node) (a : ℕ) → 0 < length nodes → is_within nodes a a ≡ true
within_itself [] a some = absurd (omega arith)
within_itself (x ∷ xs) a some = rw (eq_true a a refl) refl

pub owner_is_there : (p : Program) (nodes : List Node) (w : ℕ) (i : Itag) → owns p nodes w i ≡ true → w < length nodes
owner_is_there p [] w i owned = cc
owner_is_there p (x ∷ xs) zero i owned = omega arith
owner_is_there p (x ∷ xs) (suc w) i owned = let there : w < length xs = owner_is_there p xs w i owned in omega arith

related_to_itself : (nodes : List Node) (a : ℕ) → 0 < length nodes → are_related nodes a a ≡ true
related_to_itself nodes a some = ap (λ b. b || is_within nodes a a) (within_itself nodes a some)

related_turns : (nodes : List Node) (a b : ℕ) → are_related nodes a b ≡ are_related nodes b a
related_turns nodes a b = or_turns (is_within nodes a b) (is_within nodes b a)

valid_if_none : (p : Program) (nodes : List Node) → DependencyTurns → ((k : Itag) → k.0 < count_of_itags p → HasOneOwner p nodes k)
    → ((a : ℕ) → NoneOfNode p nodes a) → IsValid p nodes
valid_if_none p nodes turns counted none = record {
  one_owner = counted;
  independent = λ a b i j hi hj first second unrelated.
      false_if_not (is_dependent p (tag_of_itag p i) (tag_of_itag p j)) (λ dependent.
      elim (cases_eq a b) [
        | inl same ↦
            (let there : a < length nodes = owner_is_there p nodes a i first in
            let related : are_related nodes a b ≡ true = ap (are_related nodes a) (sym same) ∙ related_to_itself nodes a (omega arith) in
            not_both (are_related nodes a b) related unrelated)
        | inr other ↦ elim (cases_lt a b) [
          | inl lt ↦ none a b i j (record {
            i_in_range = hi;
            j_in_range = hj;
            in_order = lt;
            unrelated = unrelated;
            first = first;
            second = second;
            dependent =
                dependent;
          })
          | inr le ↦ none b a j i (record {
            i_in_range = hj;
            j_in_range = hi;
            in_order = omega arith;
            unrelated = related_turns nodes b a ∙ unrelated;
            first = second;
            second = first;
            dependent = turns p (tag_of_itag p j) (tag_of_itag p i) ∙ dependent;
          })
        ]
      ]);
}

-- ---- a fault keeps a plan from being valid
pub fault_is_not_valid : (p : Program) (nodes : List Node) (why : Invalid) → IsFirstPlanFault p nodes why → IsValid p nodes → ⊥
fault_is_not_valid p nodes (Unowned i) fault valid = none_is_not_one p nodes i fault.1 (valid.one_owner i fault.0.in_range)
fault_is_not_valid p nodes (OwnedTwice i a b) fault valid = two_are_not_one p nodes i a b fault.1 (valid.one_owner i fault.0.in_range)
fault_is_not_valid p nodes (Clash a i b j) fault valid =
    let clash = fault.1.clash in
    not_both (is_dependent p (tag_of_itag p i) (tag_of_itag p j)) clash.dependent
    (valid.independent a b i j clash.i_in_range clash.j_in_range clash.first clash.second clash.unrelated)

pub clash_is_first : (p : Program) (nodes : List Node) (a : ℕ) (why : Invalid) → ((k : Itag) → k.0 < count_of_itags p → HasOneOwner p nodes k)
    → ((d : ℕ) → d < a → NoneOfNode p nodes d) → IsFirstOfNode p nodes a why → IsFirstPlanFault p nodes why
clash_is_first p nodes a (Unowned k) counted before first = absurd first
clash_is_first p nodes a (OwnedTwice k d e) counted before first = absurd first
clash_is_first p nodes a (Clash d i b j) counted before first =
    (counted, subst (λ n. IsFirstClash p nodes n i b j) (sym first.0) (first_is p nodes a b i j before first.2 first.1))

pub valid_where_none : (p : Program) (nodes : List Node) (found : Option Invalid) → DependencyTurns
    → ((k : Itag) → k.0 < count_of_itags p → HasOneOwner p nodes k) → IfNone found ((a : ℕ) → NoneOfNode p nodes a) → IfNone found (IsValid p nodes)
valid_where_none p nodes None turns counted none = valid_if_none p nodes turns counted none
valid_where_none p nodes (Some why) turns counted none = tt
