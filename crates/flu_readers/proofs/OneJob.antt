-- Programs of one job: where nodes are apart, each reads the same.
use Rattle.std.proofs.Common.{◌≡◌, sym, ◌∙◌, ℕ, List, [], ◌∷◌, length, Bool, ◌==◌, ◌&&◌}
use Rattle.std.specs.Prelude.{slice_index_or}
use Rattle.std.specs.List.{flat_map, list_any, range_with_len}
use Rattle.flu_model.specs.declared.jobs.Program.{Program}
use Rattle.flu_model.specs.declared.jobs.Source.{Source}
use Rattle.flu_model.specs.declared.plans.Node.{Node}
use Rattle.flu_model.specs.Erasure.{IsSameJob}
use Rattle.flu_model.specs.Listing.{tag, itags_of_sources}
use Rattle.flu_contribution.specs.OneJob.{JobsContributeTheSame}
use Rattle.flu_outside.specs.Outside.{Contents}
use Rattle.flu_selected.specs.OneJob.{JobsSelectTheSame}
use Rattle.flu_selected.specs.Spans.{span_of_ranks}
use Rattle.flu_streams.specs.OneJob.{JobsReadTheSame}
use Rattle.flu_readers.specs.OneJob.{ReadTheSameParts}
use Rattle.flu_readers.specs.Reading.{reads, reads_rest, part_read, rest_read, all_told, IsReadGood, EachReadsGood}

-- what is the same of two programs of a job, by the laws below
pub record LawsBelow : Type 0 where
  pub reading : JobsReadTheSame
  pub contributing : JobsContributeTheSame
  pub selecting : JobsSelectTheSame

-- one of the sources, this one, lists an itag that passes a test
lists_among : List Source → (ℕ → Bool) → ℕ → Bool
lists_among sources test s =
    list_any (λ i. test i && ((slice_index_or (itags_of_sources 0 sources) i (tag 0 0, 0)).1 == s)) (range_with_len 0 (length (itags_of_sources 0 sources)))

module _ (laws : LawsBelow) (p q : Program) (same : IsSameJob p q) where
  same_reads : reads p ≡ reads q
  unfolding lists_among
  same_reads = λ j nodes w s. lists_among (same j).sources ((laws.contributing p q same).needed j nodes w) s

  same_reads_rest : reads_rest p ≡ reads_rest q
  unfolding lists_among
  same_reads_rest = λ j nodes ws s. lists_among (same j).sources ((laws.contributing p q same).rest j nodes ws) s

  same_part : part_read p ≡ part_read q
  same_part = λ j nodes left w. (laws.reading p q same).lists j [] ((laws.selecting p q same).files j (same_reads j nodes w) left)

  same_rest : rest_read p ≡ rest_read q
  same_rest = λ j nodes ws beside left. (laws.reading p q same).lists j beside ((laws.selecting p q same).files j (same_reads_rest j nodes ws) left)

  same_told : all_told p ≡ all_told q
  same_told = λ j nodes left ws. flat_map (λ w. span_of_ranks ((laws.selecting p q same).ranks j (same_reads j nodes w) left)) ws

  same_good : (beside : List ℕ) (is_read : ℕ → Bool) (left : Contents) → IsReadGood p beside is_read left → IsReadGood q beside is_read left
  same_good beside is_read left good = sym (λ j. (laws.selecting p q same).faults j beside is_read left) ∙ good

  same_each_good : (nodes : List Node) (left : Contents) (ws : List ℕ) → EachReadsGood p nodes left ws → EachReadsGood q nodes left ws
  same_each_good nodes left [] all = all
  same_each_good nodes left (w ∷ ws) (first, others) = (
    sym (λ j. (laws.selecting p q same).faults j [] (same_reads j nodes w) left) ∙ first,
    same_each_good nodes left ws others,
  )

  pub same_parts : ReadTheSameParts p q
  same_parts = record {
    sources = same_reads;
    sources_of_rest = same_reads_rest;
    part = same_part;
    rest = same_rest;
    told = same_told;
    good = same_good;
    each_good = same_each_good;
  }
