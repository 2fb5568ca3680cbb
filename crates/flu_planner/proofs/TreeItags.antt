-- The itags that the nodes of a greedy tree own: each of the itags that it is made of stands in one node.
use Rattle.std.proofs.Common.{◌≡◌, ◌<◌, ◌≤◌, ◌+◌, ℕ, zero, suc, cond, List, [], ◌∷◌, ◌++◌, length, refl, ap, arith}
use Rattle.std.specs.Prelude.{nat_lt, ◌==◌, Contains}
use Rattle.std.proofs.lemmas.Grind.{common_steps}
use Rattle.flu_lemmas.specs.Totals.{total}
use Rattle.flu_lemmas.proofs.Tests.{lt_true}
use Rattle.flu_model.specs.declared.jobs.Program.{Program}
use Rattle.flu_model.specs.Itags.{count_of_itags}
use Rattle.flu_planner.specs.Graphs.{Graph}
use Rattle.flu_planner.specs.Greedy.{Tree, Leaf, Inner, IsParting, IsGreedy}
use Rattle.flu_planner.specs.Plans.{all_itags}
use Rattle.flu_lemmas.specs.Counting.{times}
use Rattle.flu_lemmas.proofs.Containing.{contains_here, contains_later}
use Rattle.flu_lemmas.proofs.Ranges.{range_below, range_has}
use Rattle.flu_lemmas.proofs.Counting.{times-cons, times_if_contained, contained_if_times, times_append}
use Rattle.flu_planner.proofs.Rising.{rising_once, rising_range}
use Rattle.flu_planner.proofs.TreeParts.{parted_times}

-- the itags that the nodes of a tree own, node after node in preorder
abbrev pub owned_in : Tree → List ℕ
owned_in (Leaf own) = own
owned_in (Inner own left right) = own ++ (owned_in left ++ owned_in right)

-- each itag is listed once at most
abbrev pub AreOnce : List ℕ → Type 0
AreOnce itags = (i : ℕ) → times i itags ≤ 1

pub parts_once : (g : Graph) (rates itags own left right : List ℕ) → AreOnce itags → IsParting g rates itags own left right → AreOnce left × AreOnce right
parts_once g rates itags own left right once p = (
  λ i. (let few = once i in let parts = parted_times g rates itags own left right once p i in omega (arith, few, parts)),
  λ i. (let few = once i in let parts = parted_times g rates itags own left right once p i in omega (arith, few, parts)),
)

pub owned_times : (g : Graph) (rates : List ℕ) (depth : ℕ) (itags : List ℕ) (tree : Tree) → IsGreedy g rates depth itags tree → AreOnce itags → (i : ℕ)
    → times i (owned_in tree) ≡ times i itags
owned_times g rates depth itags (Leaf own) greedy once i = ap (times i) greedy.0
owned_times g rates zero itags (Inner own left right) greedy once i = absurd greedy
owned_times g rates (suc depth) itags (Inner own left right) greedy once i =
    let few = parts_once g rates itags own greedy.0 greedy.1 once greedy.2 in
    let parts = parted_times g rates itags own greedy.0 greedy.1 once greedy.2 i in
    let one = owned_times g rates depth greedy.0 left greedy.3 few.0 i in
    let two = owned_times g rates depth greedy.1 right greedy.4 few.1 i in
    let first = times_append i own (owned_in left ++ owned_in right) in
    let second = times_append i (owned_in left) (owned_in right) in
    omega (arith, parts, one, two, first, second)

pub owned_is_given : (g : Graph) (rates : List ℕ) (depth : ℕ) (itags : List ℕ) (tree : Tree) → IsGreedy g rates depth itags tree → AreOnce itags → (i : ℕ)
    → Contains (owned_in tree) i → Contains itags i
owned_is_given g rates depth itags tree greedy once i there =
    let some = times_if_contained i (owned_in tree) there in
    let same = owned_times g rates depth itags tree greedy once i in
    contained_if_times i itags (omega (arith, some, same))

-- ---- all itags of a job
pub all_once : (p : Program) → AreOnce (all_itags p)
all_once p i = rising_once (all_itags p) (rising_range 0 (count_of_itags p)) i

pub all_within : (p : Program) (i : ℕ) → Contains (all_itags p) i → i < count_of_itags p
all_within p i there = range_below (count_of_itags p) i there

pub all_have : (p : Program) (i : ℕ) → i < count_of_itags p → times i (all_itags p) ≡ 1
all_have p i lt =
    let some = times_if_contained i (all_itags p) (range_has 0 (count_of_itags p) i (omega arith) (omega (arith, lt))) in
    let few = all_once p i in
    omega (arith, some, few)

-- ---- how many they are
below : ℕ → List ℕ → ℕ
below n xs = total (λ j. cond (nat_lt j n) 1 0) xs

below_none : (xs : List ℕ) → below 0 xs ≡ 0
unfolding below
below_none [] = refl
below_none (x ∷ xs) = let rest : total (λ j. cond (nat_lt j 0) 1 0) xs ≡ 0 = below_none xs in grind (arith, common_steps, rest)

below_here : (n x : ℕ) → cond {A = ℕ} (nat_lt x (suc n)) 1 0 ≡ cond (nat_lt x n) 1 0 + cond (x == n) 1 0
below_here n x = grind (arith, common_steps)

below_more : (n : ℕ) (xs : List ℕ) → below (suc n) xs ≡ below n xs + times n xs
unfolding below
below_more n [] = omega arith
below_more n (x ∷ xs) =
    let rest : total (λ j. cond (nat_lt j (suc n)) 1 0) xs ≡ total (λ j. cond (nat_lt j n) 1 0) xs + times n xs = below_more n xs in
    let here = below_here n x in
    let first = times-cons n x xs in
    omega (arith, rest, here, first)

below_few : (n : ℕ) (xs : List ℕ) → AreOnce xs → below n xs ≤ n
below_few zero xs once = let none = below_none xs in omega (arith, none)
below_few (suc n) xs once = let more = below_more n xs in let rest = below_few n xs once in let few = once n in omega (arith, more, rest, few)

below_all : (n : ℕ) (xs : List ℕ) → ((i : ℕ) → Contains xs i → i < n) → below n xs ≡ length xs
unfolding below
below_all n [] within = refl
below_all n (x ∷ xs) within =
    let rest : total (λ j. cond (nat_lt j n) 1 0) xs ≡ length xs = below_all n xs (λ i there. within i (contains_later x i xs there)) in
    let here : cond {A = ℕ} (nat_lt x n) 1 0 ≡ 1 = ap (λ b. cond b 1 0) (lt_true x n (within x (contains_here x xs))) in
    omega (arith, rest, here)

-- numbers below n, each listed once at most, are at most n
pub few_numbers : (n : ℕ) (xs : List ℕ) → AreOnce xs → ((i : ℕ) → Contains xs i → i < n) → length xs ≤ n
few_numbers n xs once within = let all = below_all n xs within in let few = below_few n xs once in omega (arith, all, few)
