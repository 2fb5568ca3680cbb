use Rattle.std.proofs.Common.{sym, ◌∙◌}
use Rattle.flu_lemmas.proofs.Searches.{found_again, not_again}
use Rattle.flu_rules.proofs.TagLemmas.{tags_step_at}
use Rattle.flu_rules.proofs.tags.are_distinct.Goals as goal

pub returns-then-is_listed_by : goal.returns-then-is_listed_by
returns-then-is_listed_by c =
    found_again _ _ _ _ c.loop-index.invariant (tags_step_at c.args.tags.now c.loop-index.index _ c.loop-index-test.true)
    (sym c.is_listed_by.ensures ∙ c.if-is_listed_by.true)

pub loop-index-preserved : goal.loop-index-preserved
loop-index-preserved c =
    not_again _ _ _ _ c.loop-index.invariant (tags_step_at c.args.tags.now c.loop-index.index _ c.loop-index-test.true)
    (sym c.is_listed_by.ensures ∙ c.if-is_listed_by.false)
