use Rattle.std.proofs.Common.{sym, ◌∙◌}
use Rattle.flu_lemmas.proofs.Searches.{found_again, not_again}
use Rattle.flu_rules.proofs.DistinctLemmas.{families_step}
use Rattle.flu_rules.proofs.distinct.have_own_names.Goals as goal

pub returns-then-is_declared : goal.returns-then-is_declared
returns-then-is_declared c =
    found_again _ _ _ _ c.loop-index.invariant
    (families_step c.args.lists.now c.args.families.now c.args.kinds.now c.args.sources.now c.loop-index.index c.index-families-index.result c.as_str.result.now
    c.loop-index-test.true c.index-families-index.is c.as_str.ensures)
    (sym c.is_declared.ensures ∙ c.if-is_declared.true)

pub loop-index-preserved : goal.loop-index-preserved
loop-index-preserved c =
    not_again _ _ _ _ c.loop-index.invariant
    (families_step c.args.lists.now c.args.families.now c.args.kinds.now c.args.sources.now c.loop-index.index c.index-families-index.result c.as_str.result.now
    c.loop-index-test.true c.index-families-index.is c.as_str.ensures)
    (sym c.is_declared.ensures ∙ c.if-is_declared.false)
