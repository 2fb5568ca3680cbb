-- The search for the least cut, and how its components are grouped.
use Rattle.std.proofs.Common.{◌≡◌, ◌<◌, ◌≤◌, ◌+◌, ℕ, true, false, cond, List, [], ◌∷◌, ◌++◌, length, get_or, take, drop, refl, ap, subst, arith}
use Rattle.std.specs.Prelude.{IsTrue, nat_lt}
use Rattle.std.proofs.lemmas.List.{drop_all, drop_more}
use Rattle.flu_lemmas.specs.Totals.{total}
use Rattle.flu_planner.specs.Graphs.{Graph, IsApart, AreComponents, is_rising, rising}
use Rattle.flu_planner.specs.Cuts.{removal_order, removed, remaining, is_removed_first}
use Rattle.flu_planner.specs.Groups.{grouped, goes_left}
use Rattle.flu_lemmas.specs.Counting.{times}
use Rattle.flu_planner.specs.LoopSearch.{IsFirstApart, IsPartingOnce}
use Rattle.flu_lemmas.proofs.Counting.{times_append, times_in_order, times_parted}
use Rattle.flu_planner.proofs.Rising.{rising_in_order}
use Rattle.flu_planner.proofs.Searching.{none_apart}

pub rest_rising : (order : List ℕ) (n : ℕ) → ((k : ℕ) → times k order ≤ 1) → IsTrue (is_rising (rising (drop n order)))
rest_rising order n once = rising_in_order (drop n order) (λ k. let parts = times_parted k n order in let all = once k in omega arith)

-- where all is removed nothing falls apart
pub never_past : (g : Graph) (order : List ℕ) (n : ℕ) → length order ≤ n → IsApart g (rising (drop n order)) → ⊥
never_past g order n le a = none_apart g (subst (λ xs. IsApart g (rising xs)) (drop_all n order le) a)

-- ---- groups
pub grouped_more : (rates left right : List ℕ) (components : List (List ℕ)) (i : ℕ) (d : List ℕ) → i < length components
    → grouped rates left right (drop i components) ≡ cond (goes_left rates left right)
    (grouped rates (left ++ get_or components i d) right (drop (i + 1) components))
    (grouped rates left (right ++ get_or components i d) (drop (i + 1) components))
grouped_more rates left right components i d lt = ap (grouped rates left right) (drop_more components i d lt)

pub grouped_once : (k : ℕ) (rates left right : List ℕ) (cs : List (List ℕ))
    → times k (grouped rates left right cs).0 + times k (grouped rates left right cs).1 ≡ times k left + times k right + total (times k) cs
grouped_once k rates left right [] = omega arith
grouped_once k rates left right (c ∷ cs) =
    elim (goes_left rates left right) as (λ b. let groups = cond b (grouped rates (left ++ c) right cs) (grouped rates left (right ++ c) cs) in
    times k groups.0 + times k groups.1 ≡ times k left + times k right + total (times k) (c ∷ cs)) [
      | true ↦ (let rest = grouped_once k rates (left ++ c) right cs in let more = times_append k left c in omega arith)
      | false ↦ (let rest = grouped_once k rates left (right ++ c) cs in let more = times_append k right c in omega arith)
    ]

-- ---- partings
pub parted : (g : Graph) (rates itags : List ℕ) (count : ℕ) (components : List (List ℕ)) → ((k : ℕ) → times k itags ≤ 1)
    → IsFirstApart g (removal_order rates itags) count → AreComponents g rates (remaining rates itags count) components
    → ((k : ℕ) → total (times k) components ≡ times k (remaining rates itags count))
    → IsPartingOnce g rates itags (removed rates itags count) (rising (grouped rates [] [] components).0) (rising (grouped rates [] [] components).1)
parted g rates itags count components single first are once =
    let order : List ℕ = removal_order rates itags in
    let groups = grouped rates [] [] components in
    let all : (k : ℕ) → times k (removed rates itags count) + times k groups.0 + times k groups.1 ≡ times k itags =
    λ k.
    (let own = times_in_order k nat_lt (take count order) in
    let others = times_in_order k nat_lt (drop count order) in
    let parts = times_parted k count order in
    let whole = times_in_order k (is_removed_first rates) itags in
    let both = grouped_once k rates [] [] components in
    let found = once k in
    omega arith) in
    record {
      parting = record {
        count = count;
        least_cut = record { apart = first.apart; least = first.least };
        own_removed = refl;
        components = components;
        are = are;
        left_group = refl;
        right_group = refl;
      };
      once = λ k. (let left = times_in_order k nat_lt groups.0 in let right = times_in_order k nat_lt groups.1 in let sum = all k in omega arith);
      left_in_order = rising_in_order groups.0 (λ k. let sum = all k in let one = single k in omega arith);
      right_in_order = rising_in_order groups.1 (λ k. let sum = all k in let one = single k in omega arith);
    }
