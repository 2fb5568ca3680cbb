use Rattle.flu_run.specs.EndNotes.{end_note}
use Rattle.flu_run.proofs.Settling.{keeps_turned}
use Rattle.flu_run.proofs.leaf.work.Goals as goal

pub returns : goal.returns
returns g c =
    keeps_turned c.take_turns-turned.result (end_note c.args.end) _ c.settle.result c.take_turns-turned.ensures.same c.settle.ensures.cut c.settle.ensures.kept
