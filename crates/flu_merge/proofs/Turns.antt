-- Events that stand in turn: of two that tie the first is before the second. Their merged list keeps the order of those that tie.
use Rattle.std.proofs.Common.{◌≡◌, ℕ, ◌≤◌, ◌<◌, Bool, true, false, cond, List, [], ◌∷◌, ◌++◌, inl, inr, refl, sym, ap, ◌∙◌, arith}
use Rattle.std.specs.Prelude.{⊤, not, ◌&&◌, Contains, IsPermutation, sum_by}
use Rattle.std.specs.Cmp.{IsStrictWeakOrder}
use Rattle.std.specs.List.{filter, AllByRecursion}
use Rattle.std.specs.List.Sorted.{ties, IsStableByKey}
use Rattle.std.specs.Ordering.{nat_cmp, is_lt}
use Rattle.std.proofs.lemmas.Bool.Decides.{nat_tests}
use Rattle.std.proofs.lemmas.Grind.{common_steps}
use Rattle.std.proofs.lemmas.List.Elements.{All-contains, All-contains_itself, All-from_recursion, recursion_from_All}
use Rattle.std.proofs.lemmas.List.Sorted.{All-permutation, sum_by-IsPermutation}
use Rattle.std.proofs.lemmas.List.Sums.{sum_by-cons}
use Rattle.flu_lemmas.proofs.Containing.{contains_cases, contains_none}
use Rattle.flu_lemmas.proofs.Elements.{all_map, all_append, all_filter}
use Rattle.flu_lemmas.proofs.InTime.{earlier-ranks}
use Rattle.flu_lemmas.proofs.Sorting.{IsRising, only_rising}
use Rattle.flu_model.specs.declared.events.Event.{Event}
use Rattle.flu_model.specs.Merging.{is_before}

-- ---- the order of events
pub before_ranks : IsStrictWeakOrder is_before
before_ranks = earlier-ranks (λ (x : Event). x.time) (λ x. x.itag.0)

pub before_by_time : (x y : Event) → x.time < y.time → is_before x y ≡ true
before_by_time x y less = grind (arith, common_steps)

pub before_by_itag : (x y : Event) → x.time ≡ y.time → x.itag.0 < y.itag.0 → is_before x y ≡ true
before_by_itag x y same less = grind (arith, common_steps)

not_before : (x y : Event) → is_before y x ≡ false → x.time ≤ y.time
not_before x y e = grind (arith, common_steps)

-- ---- a test of a list
-- what does not pass counts as nothing
counted : {X : Type 0} → (X → Bool) → (X → ℕ) → X → ℕ
counted q f x = cond (q x) (f x) 0

sum_of_passing : {X : Type 0} (q : X → Bool) (f : X → ℕ) (xs : List X) → sum_by f (filter q xs) ≡ sum_by (counted q f) xs
unfolding counted
sum_of_passing q f [] = refl
sum_of_passing q f (x ∷ xs) = by (q x) refl (sum_of_passing q f xs)
  where
    by : (b : Bool) → q x ≡ b → sum_by f (filter q xs) ≡ sum_by (counted q f) xs
        → sum_by f (cond b (x ∷ filter q xs) (filter q xs)) ≡ sum_by (counted q f) (x ∷ xs)
    by true e rest =
        let here : counted q f x ≡ f x = ap (λ b. cond b (f x) 0) e in
        omega (arith, sum_by-cons f x (filter q xs), sum_by-cons (counted q f) x xs, here, rest)
    by false e rest =
        let here : counted q f x ≡ 0 = ap (λ b. cond b (f x) 0) e in
        omega (arith, sum_by-cons (counted q f) x xs, here, rest)

all_passing : {X : Type 0} (P : X → Type 0) (q : X → Bool) (xs : List X) → AllByRecursion P xs → AllByRecursion P (filter q xs)
all_passing P q xs all = all_filter P q xs (all_map P (λ x. q x ≡ true → P x) xs (λ x h e. h) all)

rising_passing : {X : Type 0} (lt : X → X → Bool) (q : X → Bool) (xs : List X) → IsRising lt xs → IsRising lt (filter q xs)
rising_passing lt q [] up = tt
rising_passing lt q (x ∷ xs) up = by (q x) (rising_passing lt q xs up.1)
  where
    by : (b : Bool) → IsRising lt (filter q xs) → IsRising lt (cond b (x ∷ filter q xs) (filter q xs))
    by true rest = (all_passing (λ y. lt y x ≡ false) q xs up.0, rest)
    by false rest = rest

-- ---- numbers that tie
number_ties : ℕ → ℕ → Bool
number_ties m n = not (is_lt (nat_cmp m n)) && not (is_lt (nat_cmp n m))

ties_are_equal : (m n : ℕ) → number_ties m n ≡ true → m ≡ n
unfolding number_ties
ties_are_equal m n e = grind (arith, nat_tests)

not_less : (m n : ℕ) → m ≤ n → is_lt (nat_cmp n m) ≡ false
not_less m n le = grind (arith, nat_tests)

module _ (key : Event → ℕ) where
  -- of two events that tie the first is before the second
  abbrev pub Later : Event → Event → Type 0
  Later x y = key x ≡ key y → is_before x y ≡ true

  abbrev pub InTurn : List Event → Type 0
  InTurn [] = ⊤
  InTurn (x ∷ xs) = AllByRecursion (Later x) xs × InTurn xs

  pub in_turn-append : (xs ys : List Event) → InTurn xs → InTurn ys → AllByRecursion (λ x. AllByRecursion (Later x) ys) xs → InTurn (xs ++ ys)
  in_turn-append [] ys one two cross = two
  in_turn-append (x ∷ xs) ys one two cross = (all_append (Later x) xs ys one.0 cross.0, in_turn-append xs ys one.1 two cross.1)

  abbrev tied : Event → Event → Bool
  tied w x = ties (λ (x y : Event). is_lt (nat_cmp (key x) (key y))) w x

  tied_key : (w x : Event) → tied w x ≡ true → key w ≡ key x
  unfolding number_ties
  tied_key w x e = ties_are_equal (key w) (key x) e

  never : {A : Type 0} (b : Bool) → b ≡ true → b ≡ false → A
  never b e f = absurd cc

  -- two events that tie, neither of which is before the other, are one
  one_event : (xs : List Event) → InTurn xs → (x y : Event) → Contains xs x → Contains xs y → key x ≡ key y → is_before x y ≡ false → is_before y x ≡ false
      → x ≡ y
  one_event [] turn x y in_x in_y same e f = absurd (contains_none x in_x)
  one_event (z ∷ zs) turn x y in_x in_y same e f =
      elim (contains_cases z x zs in_x) [
        | inl is_x ↦ elim (contains_cases z y zs in_y) [
          | inl is_y ↦ sym is_x ∙ is_y
          | inr later_y ↦ (let after = All-contains (Later z) zs y (All-from_recursion (Later z) zs turn.0) later_y in
              never (is_before x y) (ap (λ w. is_before w y) (sym is_x) ∙ after (ap key is_x ∙ same)) e)
        ]
        | inr later_x ↦ elim (contains_cases z y zs in_y) [
          | inl is_y ↦ (let after = All-contains (Later z) zs x (All-from_recursion (Later z) zs turn.0) later_x in
              never (is_before y x) (ap (λ w. is_before w x) (sym is_y) ∙ after (ap key is_y ∙ sym same)) f)
          | inr later_y ↦ one_event zs turn.1 x y later_x later_y same e f
        ]
      ]

  -- those that tie with one rise strictly
  turn_rising : (w : Event) (xs : List Event) → InTurn xs → IsRising is_before (filter (tied w) xs)
  turn_rising w [] turn = tt
  turn_rising w (x ∷ xs) turn = by (tied w x) refl (turn_rising w xs turn.1)
    where
      by : (b : Bool) → tied w x ≡ b → IsRising is_before (filter (tied w) xs)
          → IsRising is_before (cond b (x ∷ filter (tied w) xs) (filter (tied w) xs))
      by true e rest = (
        all_filter (λ y. is_before y x ≡ false) (tied w) xs
            (all_map (Later x) (λ y. tied w y ≡ true → is_before y x ≡ false) xs
            (λ y later f. before_ranks.one_way x y (later (sym (tied_key w x e) ∙ tied_key w y f))) turn.0),
        rest,
      )
      by false e rest = rest

  -- THE MERGED EVENTS keep the order of those that tie
  pub turn_stays : (xs ys : List Event) → InTurn xs → IsPermutation xs ys → IsRising is_before ys → IsStableByKey key nat_cmp xs ys
  turn_stays xs ys turn moved up w =
      let P : Event → Type 0 = λ x. Contains xs x × (tied w x ≡ true) in
      only_rising is_before before_ranks P
      (λ x y px py e f. one_event xs turn x y px.0 py.0 (sym (tied_key w x px.1) ∙ tied_key w y py.1) e f)
      (filter (tied w) ys) (filter (tied w) xs)
      (all_filter P (tied w) ys (all_map (Contains xs) (λ x. tied w x ≡ true → P x) ys (λ x there e. (there, e))
      (recursion_from_All (Contains xs) ys (All-permutation (Contains xs) xs ys moved (All-contains_itself xs)))))
      (all_filter P (tied w) xs (all_map (Contains xs) (λ x. tied w x ≡ true → P x) xs (λ x there e. (there, e))
      (recursion_from_All (Contains xs) xs (All-contains_itself xs))))
      (rising_passing is_before (tied w) ys up) (turn_rising w xs turn)
      (λ f. sum_of_passing (tied w) f ys ∙ sum_by-IsPermutation (counted (tied w) f) xs ys moved ∙ sym (sum_of_passing (tied w) f xs))

  -- and rise by a key that does not fall as times rise
  pub rising_keys : ((x y : Event) → x.time ≤ y.time → key x ≤ key y) → (xs : List Event) → IsRising is_before xs
      → IsRising (λ (x y : Event). is_lt (nat_cmp (key x) (key y))) xs
  rising_keys grows [] up = tt
  rising_keys grows (x ∷ xs) up = (
    all_map (λ y. is_before y x ≡ false) (λ y. is_lt (nat_cmp (key y) (key x)) ≡ false) xs
        (λ y e. not_less (key x) (key y) (grows x y (not_before x y e))) up.0,
    rising_keys grows xs up.1,
  )
