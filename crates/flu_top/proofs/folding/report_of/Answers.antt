use Rattle.flu_model.specs.Listed.{listed}
use Rattle.flu_top.proofs.Sequence.{is_reported}
use Rattle.flu_top.proofs.folding.report_of.Goals as goal

pub returns-clause-reported : goal.returns-clause-reported
returns-clause-reported g c =
    is_reported c.args.program c.in_ok-report.report (listed c.in-Ok.streams) _ _ c.in-Ok.ensures.good c.in-Ok.ensures.lists c.in-Ok.ensures.read_out
    c.in_ok-report.ensures
