-- Which sources are read where nodes of a plan are apart.
use Rattle.std.specs.Prelude.{◌≡◌, ℕ, Bool, true, ◌==◌, ◌&&◌, None, List, []}
use Rattle.std.specs.List.{flat_map, list_any, range_with_len, AllByRecursion}
use Rattle.flu_model.specs.declared.events.Item.{Item}
use Rattle.flu_model.specs.declared.jobs.Program.{Program}
use Rattle.flu_model.specs.declared.plans.Node.{Node}
use Rattle.flu_model.specs.Itags.{count_of_itags, source_of_itag}
use Rattle.flu_model.specs.Rules.{is_clock}
use Rattle.flu_outside.specs.Outside.{Contents}
use Rattle.flu_streams.specs.Good.{lists_of, lists_beside}
use Rattle.flu_apart.specs.Classes.{itag}
use Rattle.flu_contribution.specs.Sharing.{needs_itag, is_itag_of_none}
use Rattle.flu_selected.specs.Laws.{selected, read_ranks, first_read_fault}
use Rattle.flu_selected.specs.Spans.{span_of_ranks}

-- a source lists an itag that passes a test
abbrev pub lists_one : Program → (ℕ → Bool) → ℕ → Bool
lists_one p test s = list_any (λ i. test i && (source_of_itag p (itag i) == s)) (range_with_len 0 (count_of_itags p))

-- THE SOURCES THAT A NODE APART READS: those that list an itag that it needs
abbrev pub reads : Program → List Node → ℕ → ℕ → Bool
reads p nodes w s = lists_one p (needs_itag p nodes w) s

-- THE SOURCES THAT THE ONE THAT COMBINES READS: those that list an itag that is inside none of the nodes
abbrev pub reads_rest : Program → List Node → List ℕ → ℕ → Bool
reads_rest p nodes ws s = lists_one p (is_itag_of_none p nodes ws) s

-- what a node apart has read: the lists of the sources that it reads; an itag of another source has its end alone. Clocks tick among the rows that it
-- has read.
abbrev pub part_read : Program → List Node → Contents → ℕ → List (List Item)
part_read p nodes left w = lists_of p (selected p (reads p nodes w) left)

-- what the one that combines has read, where clocks tick among rows elsewhere too, which stand there
abbrev pub rest_read : Program → List Node → List ℕ → List ℕ → Contents → List (List Item)
rest_read p nodes ws beside left = lists_beside p beside (selected p (reads_rest p nodes ws) left)

-- WHAT THE NODES TELL of where the rows that they read stand: of each the first and the last
abbrev pub all_told : Program → List Node → Contents → List ℕ → List ℕ
all_told p nodes left ws = flat_map (λ w. span_of_ranks (read_ranks p (reads p nodes w) left)) ws

-- where the job has a clock, these are what the nodes tell
abbrev pub AreTold : Program → List Node → Contents → List ℕ → List ℕ → Type 0
AreTold p nodes left ws beside = list_any is_clock p.sources ≡ true → beside ≡ all_told p nodes left ws

-- ---- defects

-- THE SOURCES THAT ARE READ HAVE NO DEFECT, where the items that are counted are those of the read ones alone, and clocks tick among rows elsewhere too
abbrev pub IsReadGood : Program → List ℕ → (ℕ → Bool) → Contents → Type 0
IsReadGood p beside is_read left = first_read_fault p beside is_read left ≡ None

-- no source that one of the nodes reads has a defect for this node, which knows of no rows elsewhere
abbrev pub EachReadsGood : Program → List Node → Contents → List ℕ → Type 0
EachReadsGood p nodes left ws = AllByRecursion (λ w. IsReadGood p [] (reads p nodes w) left) ws
