use Rattle.std.proofs.Common.{ap}
use Rattle.flu_run.specs.EndNotes.{end_note}
use Rattle.flu_run.proofs.Readying.{is_ready}
use Rattle.flu_run.proofs.tree.prepare.Goals as goal

pub returns-clause-ready : goal.returns-clause-ready
returns-clause-ready g c =
    is_ready c.laws_below.ensures c.hands_turn.ensures.start c.hands_turn.ensures.shut _ c.args.at.0 c.args.at.1 c.args.at.2 _ _ _ _ _ _ _ _ _
    c.requires.starts c.requires.kids
    (ap end_note c.of.ensures) (ap end_note c.of-2.ensures)
    (ap end_note c.of-3.ensures) c.in-Ok-new_worker.ensures c.in-Ok.ensures.link c.in-Ok-reach_out.ensures.link
