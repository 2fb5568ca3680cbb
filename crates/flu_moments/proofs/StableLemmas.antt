-- The merge is the only stable sort of all rows by time.
use Rattle.std.proofs.Common.{◌≡◌, ℕ, ◌<◌, Bool, true, false, cond, List, [], ◌∷◌, inl, inr, refl, sym, ap, ◌∙◌, arith}
use Rattle.std.specs.Prelude.{nat_le, not, ◌&&◌}
use Rattle.std.specs.Cmp.{IsStrictWeakOrder}
use Rattle.std.specs.List.{AllByRecursion, filter}
use Rattle.std.specs.List.Sorted.{ties, IsStableBy}
use Rattle.std.specs.Ordering.{nat_cmp, is_lt}
use Rattle.std.proofs.lemmas.Bool.{cases_lt}
use Rattle.std.proofs.lemmas.Bool.Decides.{nat_tests}
use Rattle.std.proofs.lemmas.Cmp.{nat_cmp_total}
use Rattle.std.proofs.lemmas.List.Sorted.{ranks_by}
use Rattle.flu_lemmas.specs.Sorting.{put_in_order, in_order}
use Rattle.flu_lemmas.proofs.Elements.{all_map}
use Rattle.flu_lemmas.proofs.Sorting.{IsRising, rising_from_sorted, sorted_from_rising, in_order-permutation}
use Rattle.flu_moments.specs.MergeLaws.{MergeIsStableSort}
use Rattle.flu_moments.specs.Merging.{Row, all_rows, merged}
use Rattle.flu_moments.proofs.MergeLemmas.{all_put}

-- ---- numbers
not_before : (m n : ℕ) → nat_le m n ≡ true → is_lt (nat_cmp n m) ≡ false
not_before m n e = grind (arith, nat_tests)

not_before_all : (m n o : ℕ) → nat_le m n ≡ true → is_lt (nat_cmp o n) ≡ false → is_lt (nat_cmp o m) ≡ false
not_before_all m n o e f = grind (arith, nat_tests)

goes_after : (m n : ℕ) → nat_le m n ≡ false → is_lt (nat_cmp m n) ≡ false
goes_after m n e = grind (arith, nat_tests)

number_ties : ℕ → ℕ → Bool
number_ties m n = not (is_lt (nat_cmp m n)) && not (is_lt (nat_cmp n m))

ties_itself : (m : ℕ) → number_ties m m ≡ true
unfolding number_ties
ties_itself m = grind (arith, nat_tests)

ties_no_lesser : (w m n : ℕ) → nat_le m n ≡ false → number_ties w m ≡ true → number_ties w n ≡ false
unfolding number_ties
ties_no_lesser w m n e f = grind (arith, nat_tests)

ties_no_greater : (m n o : ℕ) → m < n → is_lt (nat_cmp o n) ≡ false → number_ties m o ≡ false
unfolding number_ties
ties_no_greater m n o less e = grind (arith, nat_tests)

module _ {X : Type 0} (key : X → ℕ) where
  abbrev before : X → X → Bool
  before x y = is_lt (nat_cmp (key x) (key y))

  abbrev up_to : X → X → Bool
  up_to x y = nat_le (key x) (key y)

  ranks : IsStrictWeakOrder before
  ranks = ranks_by nat_cmp_total key

  -- ---- in order
  put_rising : (x : X) (ys : List X) → IsRising before ys → IsRising before (put_in_order up_to x ys)
  put_rising x [] up = (tt, tt)
  put_rising x (y ∷ ys) up =
      elim (up_to x y) as (λ b. up_to x y ≡ b → IsRising before (cond b (x ∷ y ∷ ys) (y ∷ put_in_order up_to x ys))) [
        | true ↦ λ le. (
          (
            not_before (key x) (key y) le,
            all_map (λ z. before z y ≡ false) (λ z. before z x ≡ false) ys (λ z h. not_before_all (key x) (key y) (key z) le h) up.0,
          ),
          up,
        )
        | false ↦ λ gt. (all_put (λ z. before z y ≡ false) up_to x ys (goes_after (key x) (key y) gt) up.0, put_rising x ys up.1)
      ] refl

  rising : (xs : List X) → IsRising before (in_order up_to xs)
  rising [] = tt
  rising (x ∷ xs) = put_rising x (in_order up_to xs) (rising xs)

  -- ---- those that tie keep their order
  filter_put : (p : X → Bool) (x : X) → ((y : X) → up_to x y ≡ false → p x ≡ true → p y ≡ false) → (ys : List X)
      → filter p (put_in_order up_to x ys) ≡ filter p (x ∷ ys)
  filter_put p x skip [] = refl
  filter_put p x skip (y ∷ ys) =
      elim (up_to x y) as (λ b. up_to x y ≡ b → filter p (cond b (x ∷ y ∷ ys) (y ∷ put_in_order up_to x ys)) ≡ filter p (x ∷ y ∷ ys)) [
        | true ↦ λ le. refl
        | false ↦ λ gt. over (p x) refl gt (filter_put p x skip ys)
      ] refl
    where
      over : (c : Bool) → p x ≡ c → up_to x y ≡ false → filter p (put_in_order up_to x ys) ≡ filter p (x ∷ ys)
          → filter p (y ∷ put_in_order up_to x ys) ≡ filter p (x ∷ y ∷ ys)
      over true holds gt rest =
          let misses : p y ≡ false = skip y gt holds in
          ap (λ c. cond c (y ∷ filter p (put_in_order up_to x ys)) (filter p (put_in_order up_to x ys))) misses
          ∙ rest
          ∙ ap (λ c. cond (p x) (x ∷ cond c (y ∷ filter p ys) (filter p ys)) (cond c (y ∷ filter p ys) (filter p ys))) (sym misses)
      over false misses gt rest =
          ap (λ zs. cond (p y) (y ∷ zs) zs) rest
          ∙ ap (λ c. cond (p y) (y ∷ cond c (x ∷ filter p ys) (filter p ys)) (cond c (x ∷ filter p ys) (filter p ys))) misses
          ∙ sym (ap (λ c. cond c (x ∷ filter p (y ∷ ys)) (filter p (y ∷ ys))) misses)

  stays : (xs : List X) → IsStableBy before xs (in_order up_to xs)
  unfolding number_ties
  stays [] w = refl
  stays (x ∷ xs) w =
      filter_put (ties before w) x (λ y. ties_no_lesser (key w) (key x) (key y)) (in_order up_to xs)
      ∙ ap (λ zs. cond (ties before w x) (x ∷ zs) zs) (stays xs w)

  -- ---- and there is one such list
  none_pass : (p : X → Bool) (zs : List X) → AllByRecursion (λ z. p z ≡ false) zs → filter p zs ≡ []
  none_pass p [] all = refl
  none_pass p (z ∷ zs) all = ap (λ c. cond c (z ∷ filter p zs) (filter p zs)) all.0 ∙ none_pass p zs all.1

  passes : (p : X → Bool) (x : X) (xs : List X) → p x ≡ true → filter p (x ∷ xs) ≡ x ∷ filter p xs
  passes p x xs holds = ap (λ c. cond c (x ∷ filter p xs) (filter p xs)) holds

  fails : (p : X → Bool) (x : X) (xs : List X) → p x ≡ false → filter p (x ∷ xs) ≡ filter p xs
  fails p x xs misses = ap (λ c. cond c (x ∷ filter p xs) (filter p xs)) misses

  -- nothing that begins later has what the first ties with
  not_later : (x y : X) (xs ys : List X) → IsRising before (y ∷ ys) → filter (ties before x) (x ∷ xs) ≡ filter (ties before x) (y ∷ ys) → key x < key y → ⊥
  unfolding number_ties
  not_later x y xs ys up same less =
      let itself : is_lt (nat_cmp (key y) (key y)) ≡ false = grind (arith, nat_tests) in
      let none : filter (ties before x) (y ∷ ys) ≡ [] = none_pass (ties before x) (y ∷ ys) (
        ties_no_greater (key x) (key y) (key y) less itself,
        all_map (λ z. before z y ≡ false) (λ z. ties before x z ≡ false) ys (λ z h. ties_no_greater (key x) (key y) (key z) less h) up.0,
      ) in
      let some = passes (ties before x) x xs (ties_itself (key x)) in
      cc

  only : (xs ys : List X) → IsRising before xs → IsRising before ys → ((w : X) → filter (ties before w) xs ≡ filter (ties before w) ys) → xs ≡ ys
  unfolding number_ties
  only [] [] up up' same = refl
  only [] (y ∷ ys) up up' same = let here = passes (ties before y) y ys (ties_itself (key y)) in let e = same y in cc
  only (x ∷ xs) [] up up' same = let here = passes (ties before x) x xs (ties_itself (key x)) in let e = same x in cc
  only (x ∷ xs) (y ∷ ys) up up' same =
      let keys : key x ≡ key y = elim (cases_lt (key x) (key y)) [
        | inl less ↦ absurd (not_later x y xs ys up' (same x) less)
        | inr le ↦ elim (cases_lt (key y) (key x)) [ inl less ↦ absurd (not_later y x ys xs up (sym (same y)) less) | inr le' ↦ omega arith ]
      ] in
      let tied : ties before x y ≡ true = ap (number_ties (key x)) (sym keys) ∙ ties_itself (key x) in
      let one = passes (ties before x) x xs (ties_itself (key x)) in
      let two = passes (ties before x) y ys tied in
      let e = same x in
      let first : x ≡ y = cc in
      let rest : xs ≡ ys = only xs ys up.1 up'.1 (λ w. tails w (ties before w x) refl (ap (number_ties (key w)) (sym keys)) (same w)) in
      λ i. first i ∷ rest i
    where
      tails : (w : X) (b : Bool) → ties before w x ≡ b → ties before w y ≡ ties before w x → filter (ties before w) (x ∷ xs) ≡ filter (ties before w) (y ∷ ys)
          → filter (ties before w) xs ≡ filter (ties before w) ys
      tails w true holds alike e =
          let one = passes (ties before w) x xs holds in
          let two = passes (ties before w) y ys (alike ∙ holds) in
          cc
      tails w false misses alike e = sym (fails (ties before w) x xs misses) ∙ e ∙ fails (ties before w) y ys (alike ∙ misses)

pub merge_is_stable : {X : Type 0} → MergeIsStableSort X
merge_is_stable {X} =
    let time : Row X → ℕ = λ r. r.time in
    record {
      is = λ files. record {
        all = in_order-permutation (up_to time) (all_rows files);
        by_time = sorted_from_rising (before time) (merged files) (rising time (all_rows files));
        stable = stays time (all_rows files);
      };
      only = λ files rows s. only time rows (merged files) (rising_from_sorted (before time) (ranks time) rows s.by_time) (rising time (all_rows files))
          (λ w. s.stable w ∙ sym (stays time (all_rows files) w));
    }
