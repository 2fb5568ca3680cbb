use Rattle.std.proofs.Common.{◌∙◌}
use Rattle.flu_fork.proofs.Noting.{noted, noted_as}
use Rattle.flu_fork.proofs.case.Case.note.Goals as goal

pub invariant_of-result : goal.invariant_of-result
invariant_of-result c =
    let n =
    noted c.args.self.now _ _ _ _ (c.of.ensures ∙ c.checked.ensures) (c.of-2.ensures ∙ c.valid.ensures) (c.of-3.ensures ∙ c.streams.ensures)
    (c.of-4.ensures ∙ c.opening.ensures) in
    (n.of_job, (n.one_each, (n.opening_sorts, tt)))

pub returns : goal.returns
returns c =
    noted_as c.args.self.now c.of.result.value c.of-2.result.value c.of-3.result.value c.of-4.result.value (c.of.ensures ∙ c.checked.ensures)
    (c.of-2.ensures ∙ c.valid.ensures)
    (c.of-3.ensures ∙ c.streams.ensures) (c.of-4.ensures ∙ c.opening.ensures) _ _ _
