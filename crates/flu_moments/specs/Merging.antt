-- THE MERGE of the files of the sources, and the order of their rows by moments.
use Rattle.std.specs.Prelude.{ℕ, ◌+◌, ◌==◌, ◌≤◌, nat_le, List, [], ◌∷◌, ◌++◌, map, All, count_by, IsPermutation, IsSortedByKey}
use Rattle.std.specs.List.{flat_map}
use Rattle.std.specs.List.Sorted.{IsStableByKey}
use Rattle.std.specs.Ordering.{nat_cmp}
use Rattle.flu_lemmas.specs.Counting.{times}
use Rattle.flu_lemmas.specs.Sorting.{in_order}
use Rattle.flu_moments.specs.Moments.{moment}

-- a row of a file: its time, and what else it has
pub record Row (X : Type 0) : Type 0 where
  pub time : ℕ
  pub rest : X

-- a row with its source and its place among the rows that the source has at its time
pub record Placed (X : Type 0) : Type 0 where
  pub row : Row X
  pub source : ℕ
  pub place : ℕ

-- the rows of a source in the file's order, after rows of these times: the place of a row is the number of rows before it with its time
abbrev pub placed_after : {X : Type 0} → ℕ → List ℕ → List (Row X) → List (Placed X)
placed_after source earlier [] = []
placed_after source earlier (r ∷ rows) =
    record { row = r; source = source; place = times r.time earlier } ∷ placed_after source (r.time ∷ earlier) rows

abbrev pub moment_of : {X : Type 0} → ℕ → ℕ → Placed X → ℕ
moment_of sources ties p = moment sources ties p.row.time p.source p.place

-- the moments of the rows of a source, in the file's order
abbrev pub moments_of : {X : Type 0} → ℕ → ℕ → ℕ → List (Row X) → List ℕ
moments_of sources ties source rows = map (moment_of sources ties) (placed_after source [] rows)

-- the rows of all sources from this one on, file after file as declared
abbrev pub placed_from : {X : Type 0} → ℕ → List (List (Row X)) → List (Placed X)
placed_from source [] = []
placed_from source (file ∷ files) = placed_after source [] file ++ placed_from (source + 1) files

abbrev pub all_rows : {X : Type 0} → List (List (Row X)) → List (Row X)
all_rows files = flat_map (λ file. file) files

-- no source has more rows at one time than `ties`
abbrev pub HaveAtMost : {X : Type 0} → ℕ → List (List (Row X)) → Type 0
HaveAtMost {X} ties files = All (λ (file : List (Row X)). (time : ℕ) → count_by (λ (r : Row X). r.time == time) file ≤ ties) files

-- all rows in the order of their moments
pub record IsByMoment {X : Type 0} (sources ties : ℕ) (files : List (List (Row X))) (rows : List (Placed X)) : Type 0 where
  pub all : IsPermutation (placed_from 0 files) rows
  pub sorted : IsSortedByKey (moment_of sources ties) nat_cmp rows

-- the same rows by time, of which those at one time keep their order
pub record IsStableSort {X : Type 0} (rows sorted : List (Row X)) : Type 0 where
  pub all : IsPermutation rows sorted
  pub by_time : IsSortedByKey (λ (r : Row X). r.time) nat_cmp sorted
  pub stable : IsStableByKey (λ (r : Row X). r.time) nat_cmp rows sorted

-- THE MERGE: the stable sort, by time, of the files put one after the other as declared
abbrev pub merged : {X : Type 0} → List (List (Row X)) → List (Row X)
merged {X} files = in_order (λ (x y : Row X). nat_le x.time y.time) (all_rows files)
