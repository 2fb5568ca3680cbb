-- The law of the merge.
use Rattle.std.specs.Prelude.{◌≡◌, ℕ, ◌≤◌, List, length, map}
use Rattle.flu_moments.specs.Merging.{Row, Placed, HaveAtMost, IsByMoment, IsStableSort, all_rows, merged}

-- the rows in the order of their moments are the merge
abbrev pub MomentsMerge : Type 0 → Type 0
MomentsMerge X =
    (sources ties : ℕ) (files : List (List (Row X))) (rows : List (Placed X)) → length files ≤ sources → HaveAtMost ties files
    → IsByMoment sources ties files rows → map (λ (p : Placed X). p.row) rows ≡ merged files

-- the merge is a stable sort of all rows by time, and there is no other
pub record MergeIsStableSort (X : Type 0) : Type 0 where
  pub is : (files : List (List (Row X))) → IsStableSort (all_rows files) (merged files)
  pub only : (files : List (List (Row X))) (rows : List (Row X)) → IsStableSort (all_rows files) rows → rows ≡ merged files
