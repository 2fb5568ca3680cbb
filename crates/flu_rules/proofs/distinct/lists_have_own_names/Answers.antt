use Rattle.std.proofs.Common.{sym, ◌∙◌}
use Rattle.flu_lemmas.proofs.Searches.{found_again, not_again}
use Rattle.flu_rules.proofs.DistinctLemmas.{lists_step}
use Rattle.flu_rules.proofs.distinct.lists_have_own_names.Goals as goal

pub returns-then-names_list : goal.returns-then-names_list
returns-then-names_list c =
    found_again _ _ _ _ c.loop-index.invariant
    (lists_step c.args.lists.now c.loop-index.index c.index-lists-index.result c.name.result.now c.loop-index-test.true c.index-lists-index.is
    c.name.ensures)
    (sym c.names_list.ensures ∙ c.if-names_list.true)

pub loop-index-preserved : goal.loop-index-preserved
loop-index-preserved c =
    not_again _ _ _ _ c.loop-index.invariant
    (lists_step c.args.lists.now c.loop-index.index c.index-lists-index.result c.name.result.now c.loop-index-test.true c.index-lists-index.is
    c.name.ensures)
    (sym c.names_list.ensures ∙ c.if-names_list.false)
