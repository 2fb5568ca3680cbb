use Rattle.std.proofs.Common.{◌++◌}
use Rattle.std.specs.Prelude.{codes}
use Rattle.flu_lines.specs.Names.{itag_text}
use Rattle.flu_lines.specs.Lines.{plan_line}
use Rattle.flu_lines.proofs.Written.{writes_front, writes_both}
use Rattle.flu_lines.proofs.WrittenPlans.{unowned_steps}
use Rattle.flu_lines.proofs.plan_lines.write_unowned.Goals as goal

pub returns-in_err-write_all : goal.returns-in_err-write_all
returns-in_err-write_all g c =
    let itag = itag_text c.args.program.now c.args.itag in
    writes_front (codes "flumina: plan: ") (itag ++ codes " has no owner\n") (plan_line (itag ++ codes " has no owner")) _ _ _ _ _ c.from_residual.result
    (unowned_steps itag) c.from_residual.ensures.0 c.in_err-write_all.ensures

pub returns : goal.returns
returns g c =
    let itag = itag_text c.args.program.now c.args.itag in
    writes_both (codes "flumina: plan: ") (itag ++ codes " has no owner\n") (plan_line (itag ++ codes " has no owner")) _ _ _ _ _ _ c.write_itag.result
    (unowned_steps itag) c.in_ok-write_all.ensures c.write_itag.ensures
