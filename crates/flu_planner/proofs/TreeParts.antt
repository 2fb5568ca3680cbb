-- What a parting of itags says: each itag goes to one part, and none of the left part is joined to one of the right part.
use Rattle.std.proofs.Common.{◌≡◌, ◌≤◌, ◌+◌, ℕ, true, false, cond, ◌⊎◌, inl, inr, List, [], ◌∷◌, ◌++◌, take, drop, refl, sym, ap, subst, ◌∙◌, arith}
use Rattle.std.specs.Prelude.{nat_lt, Contains}
use Rattle.std.proofs.lemmas.Bool.{cases_lt}
use Rattle.std.proofs.lemmas.List.Elements.{Contains-append_left, Contains-append_right, Contains-append_cases}
use Rattle.std.proofs.lemmas.List.Sorted.{Contains-permutation, IsPermutation-sym}
use Rattle.std.proofs.lemmas.Grind.{common_steps}
use Rattle.flu_lemmas.proofs.Sorting.{in_order-permutation}
use Rattle.flu_lemmas.proofs.Tests.{both, false_if_not}
use Rattle.flu_planner.specs.Graphs.{Graph, AreConnected, IsComponent, AreComponents, IsInTurn, comes_first, rising}
use Rattle.flu_planner.specs.Cuts.{is_removed_first, removal_order, removed, remaining}
use Rattle.flu_planner.specs.Groups.{goes_left, grouped}
use Rattle.flu_planner.specs.Greedy.{IsParting}
use Rattle.flu_lemmas.specs.Counting.{times}
use Rattle.flu_lemmas.proofs.Containing.{contains_here, contains_later, contains_cases, contains_none}
use Rattle.flu_lemmas.proofs.Counting.{times_if_contained, contained_if_times, times_append, times_moved, times_parted}
use Rattle.flu_planner.proofs.Rising.{rising_once, rising_same}

-- ---- in rising order
pub times_rising : (i : ℕ) (xs : List ℕ) → times i (rising xs) ≡ times i xs
times_rising i xs = times_moved i xs (rising xs) (in_order-permutation nat_lt xs)

pub contains_rising : (i : ℕ) (xs : List ℕ) → Contains xs i → Contains (rising xs) i
contains_rising i xs c = Contains-permutation xs (rising xs) i (in_order-permutation nat_lt xs) c

pub contained_rising : (i : ℕ) (xs : List ℕ) → Contains (rising xs) i → Contains xs i
contained_rising i xs c = Contains-permutation (rising xs) xs i (IsPermutation-sym xs (rising xs) (in_order-permutation nat_lt xs)) c

-- ---- what is removed and what remains
pub times_of_cut : (rates itags : List ℕ) (count i : ℕ) → times i (removed rates itags count) + times i (remaining rates itags count) ≡ times i itags
times_of_cut rates itags count i =
    let order = removal_order rates itags in
    let front = times_rising i (take count order) in
    let back = times_rising i (drop count order) in
    let parts = times_parted i count order in
    let whole = times_moved i itags order (in_order-permutation (is_removed_first rates) itags) in
    omega (arith, front, back, parts, whole)

pub remaining_in : (rates itags : List ℕ) (count i : ℕ) → Contains (remaining rates itags count) i → Contains itags i
remaining_in rates itags count i there =
    let some = times_if_contained i (remaining rates itags count) there in
    let cut = times_of_cut rates itags count i in
    contained_if_times i itags (omega (arith, some, cut))

-- ---- components
abbrev pub joined : List (List ℕ) → List ℕ
joined [] = []
joined (c ∷ cs) = c ++ joined cs

pub in_joined : (i : ℕ) (c : List ℕ) (cs : List (List ℕ)) → Contains cs c → Contains c i → Contains (joined cs) i
in_joined i c [] there inside = absurd (contains_none c there)
in_joined i c (d ∷ cs) there inside =
    elim (contains_cases d c cs there) [
      | inl same ↦ Contains-append_left d (joined cs) i (subst (λ (e : List ℕ). Contains e i) (sym same) inside)
      | inr later ↦ Contains-append_right d (joined cs) i (in_joined i c cs later inside)
    ]

pub from_joined : (i : ℕ) (cs : List (List ℕ)) → Contains (joined cs) i → (c : List ℕ) × Contains cs c × Contains c i
from_joined i [] there = absurd (contains_none i there)
from_joined i (d ∷ cs) there =
    elim (Contains-append_cases d (joined cs) i there) [
      | inl here ↦ (d, contains_here d cs, here)
      | inr later ↦ (let more = from_joined i cs later in (more.0, contains_later d more.0 cs more.1, more.2))
    ]

-- components that share an itag are equal
pub same_component : (g : Graph) (itags c d : List ℕ) (i : ℕ) → IsComponent g itags c → IsComponent g itags d → Contains c i → Contains d i → c ≡ d
same_component g itags c d i one other in_c in_d =
    rising_same c d one.in_order other.in_order
    (λ j here. other.closed i j in_d (one.inside j here) (one.connected i j in_c here))
    (λ j here. one.closed i j in_c (other.inside j here) (other.connected i j in_d here))

pub not_before_itself : (rates c : List ℕ) → comes_first rates c c ≡ true → ⊥
not_before_itself rates c e = grind (arith, common_steps)

-- components in turn share no itag
pub joined_once : (g : Graph) (rates itags : List ℕ) (cs : List (List ℕ)) → ((c : List ℕ) → Contains cs c → IsComponent g itags c)
    → IsInTurn (comes_first rates) cs → (i : ℕ) → times i (joined cs) ≤ 1
joined_once g rates itags [] each turn i = omega arith
joined_once g rates itags (c ∷ cs) each turn i =
    let parts = times_append i c (joined cs) in
    let here = each c (contains_here c cs) in
    let once = rising_once c here.in_order i in
    let rest = joined_once g rates itags cs (λ d there. each d (contains_later c d cs there)) turn.1 i in
    elim (cases_lt 0 (times i c)) [
      | inr none ↦ omega (arith, parts, none, rest)
      | inl some ↦ elim (cases_lt 0 (times i (joined cs))) [
        | inr none ↦ omega (arith, parts, none, once)
        | inl more ↦
            (let in_c : Contains c i = contained_if_times i c (omega (arith, some)) in
            let found = from_joined i cs (contained_if_times i (joined cs) (omega (arith, more))) in
            let d = found.0 in
            let same : c ≡ d = same_component g itags c d i here (each d (contains_later c d cs found.1)) in_c found.2 in
            absurd (not_before_itself rates c (subst (λ (e : List ℕ). comes_first rates c e ≡ true) (sym same) (turn.0 d found.1))))
      ]
    ]

-- all components together are the itags
pub joined_is_all : (g : Graph) (rates itags : List ℕ) (cs : List (List ℕ)) → AreComponents g rates itags cs → (i : ℕ) → times i itags ≤ 1
    → times i (joined cs) ≡ times i itags
joined_is_all g rates itags cs are i once =
    let few = joined_once g rates itags cs are.each are.in_turn i in
    elim (cases_lt 0 (times i itags)) [
      | inl some ↦
          (let found = are.every i (contained_if_times i itags (omega (arith, some))) in
          let more = times_if_contained i (joined cs) (in_joined i found.0 cs found.1 found.2) in
          omega (arith, few, once, some, more))
      | inr none ↦ elim (cases_lt 0 (times i (joined cs))) [
        | inr nothing ↦ omega (arith, none, nothing)
        | inl some ↦
            (let found = from_joined i cs (contained_if_times i (joined cs) (omega (arith, some))) in
            let more = times_if_contained i itags ((are.each found.0 found.1).inside i found.2) in
            absurd (omega (arith, none, more)))
      ]
    ]

-- ---- groups
pub times_of_groups : (rates left right : List ℕ) (cs : List (List ℕ)) (i : ℕ)
    → times i (grouped rates left right cs).0 + times i (grouped rates left right cs).1 ≡ times i left + times i right + times i (joined cs)
times_of_groups rates left right [] i = omega arith
times_of_groups rates left right (c ∷ cs) i =
    elim (goes_left rates left right) as (λ b. times i (cond b (grouped rates (left ++ c) right cs) (grouped rates left (right ++ c) cs)).0 + times i
    (cond b (grouped rates (left ++ c) right cs) (grouped rates left (right ++ c) cs)).1 ≡ times i left + times i right + times i (c ++ joined cs)) [
      | true ↦
          (let rest = times_of_groups rates (left ++ c) right cs i in
          let more = times_append i left c in
          let parts = times_append i c (joined cs) in
          omega (arith, rest, more, parts))
      | false ↦
          (let rest = times_of_groups rates left (right ++ c) cs i in
          let more = times_append i right c in
          let parts = times_append i c (joined cs) in
          omega (arith, rest, more, parts))
    ]

-- what a list contains, another does
abbrev pub IsPart : List ℕ → List ℕ → Type 0
IsPart xs ys = (i : ℕ) → Contains xs i → Contains ys i

-- what stands in a group stays there
pub record Stay (left right : List ℕ) (groups : List ℕ × List ℕ) : Type 0 where
  pub in_left : IsPart left groups.0
  pub in_right : IsPart right groups.1

groups_stay : (rates left right : List ℕ) (cs : List (List ℕ)) → Stay left right (grouped rates left right cs)
groups_stay rates left right [] = record { in_left = λ i c. c; in_right = λ i c. c }
groups_stay rates left right (c ∷ cs) =
    elim (goes_left rates left right) as (λ b. Stay left right (cond b (grouped rates (left ++ c) right cs) (grouped rates left (right ++ c) cs))) [
      | true ↦
          (let rest = groups_stay rates (left ++ c) right cs in
          record { in_left = λ i there. rest.in_left i (Contains-append_left left c i there); in_right = rest.in_right })
      | false ↦
          (let rest = groups_stay rates left (right ++ c) cs in
          record { in_left = rest.in_left; in_right = λ i there. rest.in_right i (Contains-append_left right c i there) })
    ]

-- a component goes to one group as a whole
abbrev IsWholeIn : List ℕ → List ℕ × List ℕ → Type 0
IsWholeIn c groups = IsPart c groups.0 ⊎ IsPart c groups.1

goes_whole : (rates left right : List ℕ) (cs : List (List ℕ)) (c : List ℕ) → Contains cs c → IsWholeIn c (grouped rates left right cs)
goes_whole rates left right [] c there = absurd (contains_none c there)
goes_whole rates left right (d ∷ cs) c there =
    elim (goes_left rates left right) as (λ b. IsWholeIn c (cond b (grouped rates (left ++ d) right cs) (grouped rates left (right ++ d) cs))) [
      | true ↦ elim (contains_cases d c cs there) [
        | inl same ↦ inl (λ i inside. (groups_stay rates (left ++ d) right cs).in_left i
            (Contains-append_right left d i (subst (λ (e : List ℕ). Contains e i) (sym same) inside)))
        | inr later ↦ goes_whole rates (left ++ d) right cs c later
      ]
      | false ↦ elim (contains_cases d c cs there) [
        | inl same ↦ inr (λ i inside. (groups_stay rates left (right ++ d) cs).in_right i
            (Contains-append_right right d i (subst (λ (e : List ℕ). Contains e i) (sym same) inside)))
        | inr later ↦ goes_whole rates left (right ++ d) cs c later
      ]
    ]

-- ---- one step is a walk
joined_are_connected : (g : Graph) (itags : List ℕ) (i j : ℕ) → g i j ≡ true → Contains itags j → AreConnected g itags i j
joined_are_connected g itags i j e there = record {
  walk = j ∷ [];
  joined = both (g i j) true e refl;
  inside = λ k c. elim (contains_cases j k [] c) [
    | inl same ↦ subst (λ (n : ℕ). Contains itags n) same there
    | inr none ↦ absurd (contains_none k none)
  ];
  ends = refl;
}

-- ---- a parting
module _ (g : Graph) (rates itags own left right : List ℕ) (once : (i : ℕ) → times i itags ≤ 1) (p : IsParting g rates itags own left right) where
  abbrev lefts : List ℕ
  lefts = (grouped rates [] [] p.components).0

  abbrev rights : List ℕ
  rights = (grouped rates [] [] p.components).1

  abbrev remain : List ℕ
  remain = remaining rates itags p.count

  few_remain : (i : ℕ) → times i remain ≤ 1
  few_remain i = let cut = times_of_cut rates itags p.count i in let few = once i in omega (arith, cut, few)

  in_groups : (i : ℕ) → times i lefts + times i rights ≡ times i remain
  in_groups i =
      let all = joined_is_all g rates remain p.components p.are i (few_remain i) in
      let parts = times_of_groups rates [] [] p.components i in
      omega (arith, all, parts)

  -- each itag goes to one part
  pub parted_times : (i : ℕ) → times i own + (times i left + times i right) ≡ times i itags
  parted_times i =
      let cut = times_of_cut rates itags p.count i in
      let groups = in_groups i in
      let one : times i own ≡ times i (removed rates itags p.count) = ap (times i) p.own_removed in
      let two : times i left ≡ times i lefts = ap (times i) p.left_group ∙ times_rising i lefts in
      let three : times i right ≡ times i rights = ap (times i) p.right_group ∙ times_rising i rights in
      omega (arith, cut, groups, one, two, three)

  not_in_both : (i : ℕ) → Contains lefts i → Contains rights i → ⊥
  not_in_both i a b =
      let one = times_if_contained i lefts a in
      let two = times_if_contained i rights b in
      let groups = in_groups i in
      let few = few_remain i in
      omega (arith, one, two, groups, few)

  remains : (i : ℕ) → 1 ≤ times i lefts + times i rights → Contains remain i
  remains i le = let groups = in_groups i in contained_if_times i remain (omega (arith, le, groups))

  -- two itags that are joined are in the same group
  not_joined : (i j : ℕ) → Contains lefts i → Contains rights j → (g i j ≡ true → ⊥) × (g j i ≡ true → ⊥)
  not_joined i j a b =
      let some_i = times_if_contained i lefts a in
      let some_j = times_if_contained j rights b in
      let rest_i = remains i (omega (arith, some_i)) in
      let rest_j = remains j (omega (arith, some_j)) in
      let of_i = p.are.every i rest_i in
      let of_j = p.are.every j rest_j in (
        λ e. (let same : Contains of_i.0 j = (p.are.each of_i.0 of_i.1).closed i j of_i.2 rest_j (joined_are_connected g remain i j e rest_j) in
            elim (goes_whole rates [] [] p.components of_i.0 of_i.1) [
              | inl l ↦ not_in_both j (l j same) b
              | inr r ↦ not_in_both i a (r i of_i.2)
            ]),
        λ e. (let same : Contains of_j.0 i = (p.are.each of_j.0 of_j.1).closed j i of_j.2 rest_i (joined_are_connected g remain j i e rest_i) in
            elim (goes_whole rates [] [] p.components of_j.0 of_j.1) [
              | inl l ↦ not_in_both j (l j of_j.2) b
              | inr r ↦ not_in_both i a (r i same)
            ]),
      )

  pub parted_apart : (i j : ℕ) → Contains left i → Contains right j → (g i j ≡ false) × (g j i ≡ false)
  parted_apart i j a b =
      let in_left : Contains lefts i = contained_rising i lefts (subst (λ (xs : List ℕ). Contains xs i) p.left_group a) in
      let in_right : Contains rights j = contained_rising j rights (subst (λ (xs : List ℕ). Contains xs j) p.right_group b) in
      let not = not_joined i j in_left in_right in
      (false_if_not (g i j) not.0, false_if_not (g j i) not.1)
