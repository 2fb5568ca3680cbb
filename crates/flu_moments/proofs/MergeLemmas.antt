-- Rows in the order of their moments are the merge of the files.
use Rattle.std.proofs.Common.{◌≡◌, ◌⊎◌, ℕ, ◌+◌, ◌<◌, ◌≤◌, Bool, true, false, cond, List, [], ◌∷◌, ◌++◌, length, map, inl, inr, refl, sym, ap, subst, ◌∙◌, arith}
use Rattle.std.specs.Prelude.{⊤, ◌==◌, nat_le, count_by, Contains, IsPermutation}
use Rattle.std.specs.List.{AllByRecursion}
use Rattle.std.specs.List.Sorted.{IsSortedBy}
use Rattle.std.specs.Ordering.{nat_cmp, is_lt}
use Rattle.std.specs.declared.cmp.Ordering.TheVariants.{Equal}
use Rattle.std.proofs.lemmas.Bool.{cases_lt}
use Rattle.std.proofs.lemmas.Bool.Decides.{nat_tests}
use Rattle.std.proofs.lemmas.Cmp.{on_total, nat_cmp_total}
use Rattle.std.proofs.lemmas.Grind.{common_steps}
use Rattle.std.proofs.lemmas.List.{map-append}
use Rattle.std.proofs.lemmas.List.Elements.{All-head, All-tail, All-from_recursion, All-contains}
use Rattle.std.proofs.lemmas.List.Sorted.{IsPermutation-sym, IsPermutation-trans}
use Rattle.flu_lemmas.specs.Counting.{times}
use Rattle.flu_lemmas.specs.Sorting.{put_in_order, in_order}
use Rattle.flu_lemmas.proofs.Containing.{contains_cases, contains_none}
use Rattle.flu_lemmas.proofs.Elements.{all_map, all_append}
use Rattle.flu_lemmas.proofs.OnlyOne.{count_by-cons}
use Rattle.flu_lemmas.proofs.Sorting.{IsRising, sorted_from_rising, in_order-permutation, only_sorted}
use Rattle.flu_moments.specs.Laws.{IsPlace}
use Rattle.flu_moments.specs.Merging.{Row, Placed, placed_after, placed_from, moment_of, all_rows, HaveAtMost, IsByMoment, merged}
use Rattle.flu_moments.proofs.MomentLemmas.{moments_from_order}

-- ---- putting in order keeps what holds of each element
pub all_put : {X : Type 0} (P : X → Type 0) (before : X → X → Bool) (x : X) (ys : List X)
    → P x → AllByRecursion P ys → AllByRecursion P (put_in_order before x ys)
all_put P before x [] px all = (px, tt)
all_put P before x (y ∷ ys) px all =
    elim (before x y) as (λ b. AllByRecursion P (cond b (x ∷ y ∷ ys) (y ∷ put_in_order before x ys))) [
      | true ↦ (px, all)
      | false ↦ (all.0, all_put P before x ys px all.1)
    ]

all_in_order : {X : Type 0} (P : X → Type 0) (before : X → X → Bool) (xs : List X) → AllByRecursion P xs → AllByRecursion P (in_order before xs)
all_in_order P before [] all = tt
all_in_order P before (x ∷ xs) all = all_put P before x (in_order before xs) all.0 (all_in_order P before xs all.1)

-- ---- putting in order by what f gives
map-put : {X Y : Type 0} (f : X → Y) (before : Y → Y → Bool) (x : X) (ys : List X)
    → map f (put_in_order (λ a b. before (f a) (f b)) x ys) ≡ put_in_order before (f x) (map f ys)
map-put f before x [] = refl
map-put f before x (y ∷ ys) =
    elim (before (f x) (f y)) as (λ b. map f (cond b (x ∷ y ∷ ys) (y ∷ put_in_order (λ a b. before (f a) (f b)) x ys))
    ≡ cond b (f x ∷ f y ∷ map f ys) (f y ∷ put_in_order before (f x) (map f ys))) [
      | true ↦ refl
      | false ↦ ap (λ zs. f y ∷ zs) (map-put f before x ys)
    ]

map-in_order : {X Y : Type 0} (f : X → Y) (before : Y → Y → Bool) (xs : List X)
    → map f (in_order (λ a b. before (f a) (f b)) xs) ≡ in_order before (map f xs)
map-in_order f before [] = refl
map-in_order f before (x ∷ xs) = map-put f before x (in_order (λ a b. before (f a) (f b)) xs) ∙ ap (put_in_order before (f x)) (map-in_order f before xs)

-- ---- numbers
one_more_time : (a : ℕ) (earlier : List ℕ) → times a (a ∷ earlier) ≡ times a earlier + 1
one_more_time a earlier = let here = count_by-cons (λ j. j == a) a earlier true (let e : (a == a) ≡ true = grind (arith, common_steps) in e) in omega arith

times-grows : (i a : ℕ) (earlier : List ℕ) → times i earlier ≤ times i (a ∷ earlier)
times-grows i a earlier = let here = count_by-cons (λ j. j == i) a earlier (a == i) refl in omega arith

not_less : (m n : ℕ) → m < n → is_lt (nat_cmp n m) ≡ false
not_less m n less = grind (arith, nat_tests)

equal_numbers : (m n : ℕ) → nat_cmp m n ≡ Equal → m ≡ n
equal_numbers m n e = grind (arith, nat_tests)

module _ {X : Type 0} where
  abbrev time : Placed X → ℕ
  time p = p.row.time

  -- ---- where rows stand
  -- of two rows of one time the second is of a later source, or at a later place of the same
  abbrev Later : Placed X → Placed X → Type 0
  Later x y = time x ≡ time y → (x.source < y.source) ⊎ ((x.source ≡ y.source) × (x.place < y.place))

  abbrev InTurn : List (Placed X) → Type 0
  InTurn [] = ⊤
  InTurn (x ∷ xs) = AllByRecursion (Later x) xs × InTurn xs

  abbrev HasPlace : ℕ → ℕ → Placed X → Type 0
  HasPlace sources ties p = IsPlace sources ties p.source p.place

  -- the rows of a source after some others
  in_source : (source : ℕ) (earlier : List ℕ) (rows : List (Row X))
      → AllByRecursion (λ (p : Placed X). (p.source ≡ source) × (times p.row.time earlier ≤ p.place)) (placed_after source earlier rows)
  in_source source earlier [] = tt
  in_source source earlier (r ∷ rows) = (
    (refl, omega arith),
    all_map (λ (p : Placed X). (p.source ≡ source) × (times p.row.time (r.time ∷ earlier) ≤ p.place))
        (λ (p : Placed X). (p.source ≡ source) × (times p.row.time earlier ≤ p.place)) (placed_after source (r.time ∷ earlier) rows)
        (λ p h. (h.0, (let grows = times-grows p.row.time r.time earlier in let le = h.1 in omega arith))) (in_source source (r.time ∷ earlier) rows),
  )

  source_in_turn : (source : ℕ) (earlier : List ℕ) (rows : List (Row X)) → InTurn (placed_after source earlier rows)
  source_in_turn source earlier [] = tt
  source_in_turn source earlier (r ∷ rows) = (
    all_map (λ (p : Placed X). (p.source ≡ source) × (times p.row.time (r.time ∷ earlier) ≤ p.place))
        (Later (record { row = r; source = source; place = times r.time earlier })) (placed_after source (r.time ∷ earlier) rows)
        (λ p h same. inr (
          sym h.0,
          (let le : times r.time (r.time ∷ earlier) ≤ p.place = subst (λ t. times t (r.time ∷ earlier) ≤ p.place) (sym same) h.1 in
              let more = one_more_time r.time earlier in omega arith),
        ))
        (in_source source (r.time ∷ earlier) rows),
    source_in_turn source (r.time ∷ earlier) rows,
  )

  has_places : (sources ties source : ℕ) (earlier : List ℕ) (rows : List (Row X)) → source < sources
      → ((t : ℕ) → times t earlier + count_by (λ (r : Row X). r.time == t) rows ≤ ties)
      → AllByRecursion (HasPlace sources ties) (placed_after source earlier rows)
  has_places sources ties source earlier [] at few = tt
  has_places sources ties source earlier (r ∷ rows) at few = (
    record {
      source_in_range = at;
      place_in_range = (let all = few r.time in
          let here = count_by-cons (λ (q : Row X). q.time == r.time) r rows true (let e : (r.time == r.time) ≡ true = grind (arith, common_steps) in e) in
          omega arith);
    },
    has_places sources ties source (r.time ∷ earlier) rows at
        (λ t. (let all = few t in
        let here = count_by-cons (λ (q : Row X). q.time == t) r rows (r.time == t) refl in
        let there = count_by-cons (λ j. j == t) r.time earlier (r.time == t) refl in
        omega arith)),
  )

  -- the rows of all sources
  from_source : (source : ℕ) (files : List (List (Row X))) → AllByRecursion (λ (p : Placed X). source ≤ p.source) (placed_from source files)
  from_source source [] = tt
  from_source source (file ∷ files) =
      all_append (λ (p : Placed X). source ≤ p.source) (placed_after source [] file) (placed_from (source + 1) files)
      (all_map (λ (p : Placed X). (p.source ≡ source) × (times p.row.time [] ≤ p.place)) (λ (p : Placed X). source ≤ p.source) (placed_after source [] file)
      (λ p h. (let same = h.0 in omega arith)) (in_source source [] file))
      (all_map (λ (p : Placed X). source + 1 ≤ p.source) (λ (p : Placed X). source ≤ p.source) (placed_from (source + 1) files) (λ p h. omega arith)
      (from_source (source + 1) files))

  in_turn-append : (xs ys : List (Placed X)) → InTurn xs → InTurn ys → AllByRecursion (λ x. AllByRecursion (Later x) ys) xs → InTurn (xs ++ ys)
  in_turn-append [] ys one two cross = two
  in_turn-append (x ∷ xs) ys one two cross = (all_append (Later x) xs ys one.0 cross.0, in_turn-append xs ys one.1 two cross.1)

  all_in_turn : (source : ℕ) (files : List (List (Row X))) → InTurn (placed_from source files)
  all_in_turn source [] = tt
  all_in_turn source (file ∷ files) =
      in_turn-append (placed_after source [] file) (placed_from (source + 1) files) (source_in_turn source [] file) (all_in_turn (source + 1) files)
      (all_map (λ (p : Placed X). (p.source ≡ source) × (times p.row.time [] ≤ p.place)) (λ x. AllByRecursion (Later x) (placed_from (source + 1) files))
      (placed_after source [] file)
      (λ x h. all_map (λ (p : Placed X). source + 1 ≤ p.source) (Later x) (placed_from (source + 1) files)
      (λ y le same. inl (let here = h.0 in omega arith)) (from_source (source + 1) files))
      (in_source source [] file))

  all_have_places : (sources ties source : ℕ) (files : List (List (Row X))) → source + length files ≤ sources → HaveAtMost ties files
      → AllByRecursion (HasPlace sources ties) (placed_from source files)
  all_have_places sources ties source [] within few = tt
  all_have_places sources ties source (file ∷ files) within few =
      all_append (HasPlace sources ties) (placed_after source [] file) (placed_from (source + 1) files)
      (has_places sources ties source [] file (omega arith)
      (λ t. (let here = All-head (λ (file : List (Row X)). (time : ℕ) → count_by (λ (r : Row X). r.time == time) file ≤ ties) file files few t in omega arith)))
      (all_have_places sources ties (source + 1) files (omega arith)
      (All-tail (λ (file : List (Row X)). (time : ℕ) → count_by (λ (r : Row X). r.time == time) file ≤ ties) file files few))

  rows_of_source : (source : ℕ) (earlier : List ℕ) (rows : List (Row X)) → map (λ (p : Placed X). p.row) (placed_after source earlier rows) ≡ rows
  rows_of_source source earlier [] = refl
  rows_of_source source earlier (r ∷ rows) = ap (λ zs. r ∷ zs) (rows_of_source source (r.time ∷ earlier) rows)

  rows_of_all : (source : ℕ) (files : List (List (Row X))) → map (λ (p : Placed X). p.row) (placed_from source files) ≡ all_rows files
  rows_of_all source [] = refl
  rows_of_all source (file ∷ files) =
      map-append (λ (p : Placed X). p.row) (placed_after source [] file) (placed_from (source + 1) files)
      ∙ ap (λ zs. zs ++ map (λ (p : Placed X). p.row) (placed_from (source + 1) files)) (rows_of_source source [] file)
      ∙ ap (λ zs. file ++ zs) (rows_of_all (source + 1) files)

  module _ (sources ties : ℕ) where
    abbrev at : Placed X → ℕ
    at p = moment_of sources ties p

    abbrev by_time : Placed X → Placed X → Bool
    by_time x y = nat_le x.row.time y.row.time

    -- ---- the rows that are put in order by time rise by their moments
    abbrev Strict : List (Placed X) → Type 0
    Strict [] = ⊤
    Strict (x ∷ xs) = AllByRecursion (λ y. at x < at y) xs × Strict xs

    in_order_of_rows : (x y : Placed X) → HasPlace sources ties x → HasPlace sources ties y → Later x y → by_time x y ≡ true → at x < at y
    in_order_of_rows x y px py later le =
        moments_from_order sources ties x.row.time x.source x.place y.row.time y.source y.place px py
        (let times_rise : x.row.time ≤ y.row.time = grind (arith, nat_tests) in
        elim (cases_lt x.row.time y.row.time) [ inl less ↦ inl less | inr ge ↦ (let same : x.row.time ≡ y.row.time = omega arith in inr (same, later same)) ])

    out_of_order : (x y : Placed X) → HasPlace sources ties x → HasPlace sources ties y → by_time x y ≡ false → at y < at x
    out_of_order x y px py gt =
        moments_from_order sources ties y.row.time y.source y.place x.row.time x.source x.place py px
        (inl (let less : y.row.time < x.row.time = grind (arith, nat_tests) in less))

    put_strict : (x : Placed X) (ys : List (Placed X)) → HasPlace sources ties x → AllByRecursion (HasPlace sources ties) ys → AllByRecursion (Later x) ys
        → Strict ys → Strict (put_in_order by_time x ys)
    put_strict x [] px pys later up = (tt, tt)
    put_strict x (y ∷ ys) px pys later up =
        elim (by_time x y) as (λ b. by_time x y ≡ b → Strict (cond b (x ∷ y ∷ ys) (y ∷ put_in_order by_time x ys))) [
          | true ↦ λ le.
              let first : at x < at y = in_order_of_rows x y px pys.0 later.0 le in
              ((first, all_map (λ z. at y < at z) (λ z. at x < at z) ys (λ z h. omega arith) up.0), up)
          | false ↦ λ gt.
              (all_put (λ z. at y < at z) by_time x ys (out_of_order x y px pys.0 gt) up.0, put_strict x ys px pys.1 later.1 up.1)
        ] refl

    in_order_strict : (xs : List (Placed X)) → AllByRecursion (HasPlace sources ties) xs → InTurn xs → Strict (in_order by_time xs)
    in_order_strict [] ps turn = tt
    in_order_strict (x ∷ xs) ps turn =
        put_strict x (in_order by_time xs) ps.0 (all_in_order (HasPlace sources ties) by_time xs ps.1) (all_in_order (Later x) by_time xs turn.0)
        (in_order_strict xs ps.1 turn.1)

    strict_rising : (xs : List (Placed X)) → Strict xs → IsRising (λ x y. is_lt (nat_cmp (at x) (at y))) xs
    strict_rising [] up = tt
    strict_rising (x ∷ xs) up =
        (all_map (λ y. at x < at y) (λ y. is_lt (nat_cmp (at y) (at x)) ≡ false) xs (λ y. not_less (at x) (at y)) up.0, strict_rising xs up.1)

    strict_ties : (zs : List (Placed X)) → Strict zs → (x y : Placed X) → Contains zs x → Contains zs y → at x ≡ at y → x ≡ y
    strict_ties [] up x y in_x in_y same = absurd (contains_none x in_x)
    strict_ties (z ∷ zs) up x y in_x in_y same =
        elim (contains_cases z x zs in_x) [
          | inl e ↦ elim (contains_cases z y zs in_y) [
            | inl f ↦ sym e ∙ f
            | inr later ↦ (let above = All-contains (λ w. at z < at w) zs y (All-from_recursion (λ w. at z < at w) zs up.0) later in
                let is : at z ≡ at x = ap at e in absurd (omega arith))
          ]
          | inr there ↦ elim (contains_cases z y zs in_y) [
            | inl f ↦ (let above = All-contains (λ w. at z < at w) zs x (All-from_recursion (λ w. at z < at w) zs up.0) there in
                let is : at z ≡ at y = ap at f in absurd (omega arith))
            | inr later ↦ strict_ties zs up.1 x y there later same
          ]
        ]

    -- ---- the law
    pub moments_merge : (files : List (List (Row X))) (rows : List (Placed X)) → length files ≤ sources → HaveAtMost ties files
        → IsByMoment sources ties files rows → map (λ (p : Placed X). p.row) rows ≡ merged files
    moments_merge files rows within few is =
        let all : List (Placed X) = placed_from 0 files in
        let z : List (Placed X) = in_order by_time all in
        let cmp = λ (x y : Placed X). nat_cmp (at x) (at y) in
        let up : Strict z = in_order_strict all (all_have_places sources ties 0 files (omega arith) few) (all_in_turn 0 files) in
        let sorted : IsSortedBy (λ x y. is_lt (nat_cmp (at x) (at y))) z = sorted_from_rising (λ x y. is_lt (nat_cmp (at x) (at y))) z (strict_rising z up) in
        let moved : IsPermutation z rows = IsPermutation-trans z all rows (IsPermutation-sym all z (in_order-permutation by_time all)) is.all in
        let same : z ≡ rows = only_sorted cmp (on_total at nat_cmp_total) z rows
        (λ x y in_x in_y e. strict_ties z up x y in_x in_y (equal_numbers (at x) (at y) e)) sorted is.sorted moved in
        ap (map (λ (p : Placed X). p.row)) (sym same)
        ∙ map-in_order (λ (p : Placed X). p.row) (λ x y. nat_le x.time y.time) all
        ∙ ap (in_order (λ (x y : Row X). nat_le x.time y.time)) (rows_of_all 0 files)
