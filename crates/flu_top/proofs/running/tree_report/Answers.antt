use Rattle.std.proofs.Common.{sym, subst}
use Rattle.std.proofs.lemmas.Result.{IfOk-weaker}
use Rattle.flu_model.specs.Contents.{Contents}
use Rattle.flu_model.specs.Listed.{listed}
use Rattle.flu_model.specs.Sorts.{IsStateOf}
use Rattle.flu_cells.specs.Holding.{held}
use Rattle.flu_deps.specs.Checking.{program_of}
use Rattle.flu_top.proofs.RunReports.{outputs_report}
use Rattle.flu_top.proofs.running.tree_report.Goals as goal

pub batch-requires-clause-sorts : goal.batch-requires-clause-sorts
batch-requires-clause-sorts g c κs within =
    let families = (program_of c.engine_of-engine.result.checked.now).families in
    subst (λ (s : Contents). IsStateOf families s) (sym c.new.ensures) (λ d. tt)

pub returns : goal.returns
returns g c =
    let p = program_of c.args.planned.now.checked in
    IfOk-weaker c.report_text.result _ _
    (λ text order. outputs_report p _ c.program.result.now (held c.new.result)
    (listed c.args.streams.now) c.in_ok-outs.outs text c.engine_of-engine.ensures c.program.ensures c.new.ensures c.in_ok-outs.ensures.outputs order)
    c.report_text.ensures.order
