use Rattle.std.proofs.Common.{rules}
use Rattle.flu_run.specs.EndNotes.{end_note}
use Rattle.flu_run.proofs.tree.settle_right.Goals as goal

pub gather-requires-clause-left : goal.gather-requires-clause-left
gather-requires-clause-left g c = (end_note c.args.given.1.value, c.requires.rest.left, c.requires.left)

pub gather-requires-clause-right : goal.gather-requires-clause-right
gather-requires-clause-right g c = (end_note c.args.given.2.value, search rules, search rules)
