use Rattle.std.proofs.Common.{sym, ◌∙◌, refl}
use Rattle.flu_lemmas.proofs.Searches.{found_again, not_again}
use Rattle.flu_rules.proofs.DistinctLemmas.{files_step, asks_file, asks_no_file}
use Rattle.flu_rules.proofs.distinct.have_own_files.Goals as goal
use Rattle.flu_rules.proofs.distinct.have_own_files.Goals.{else-is_none-via-then-is_none+else-reads_file, else-is_none-via-else-is_none}

pub returns-then-reads_file : goal.returns-then-reads_file
returns-then-reads_file c =
    found_again _ _ _ _ c.loop-index.invariant
    (files_step c.args.sources.now c.loop-index.index c.index-sources-index.result c.as_str.result.now c.loop-index-test.true c.index-sources-index.is
    c.as_str.ensures)
    (asks_file _ _ _ (c.if-is_none.ensures) (sym c.reads_file.ensures ∙ c.if-reads_file.true))

pub loop-index-preserved : goal.loop-index-preserved
loop-index-preserved c = elim c.else-is_none.branch [
  | else-is_none-via-then-is_none+else-reads_file w ↦ not_again _ _ _ _ c.loop-index.invariant
      (files_step c.args.sources.now c.loop-index.index c.index-sources-index.result w.as_str.result.now c.loop-index-test.true c.index-sources-index.is
      w.as_str.ensures)
      (asks_file _ _ _ (w.if-is_none.ensures) (sym w.reads_file.ensures ∙ w.if-reads_file.false))
  | else-is_none-via-else-is_none w ↦ not_again _ _ _ _ c.loop-index.invariant
      (files_step c.args.sources.now c.loop-index.index c.index-sources-index.result c.index-sources-index.result.file c.loop-index-test.true
      c.index-sources-index.is refl)
      (asks_no_file _ _ (w.if-is_none.ensures))
]
