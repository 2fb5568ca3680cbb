use Rattle.std.proofs.Common.{ap, ◌∙◌}
use Rattle.flu_model.specs.Folding.{final_outputs}
use Rattle.flu_model.specs.Listed.{listed}
use Rattle.flu_model.specs.Reports.{report}
use Rattle.flu_top.proofs.folding.fold_report.Goals as goal

pub returns : goal.returns
returns c =
    let p = c.args.program.now in
    let outputs = c.in_ok-state.ensures.outputs ∙ ap (λ s. final_outputs p s (listed c.args.streams.now)) c.new.ensures in
    c.in_ok-report.ensures.report ∙ ap (report p) outputs
