use Rattle.flu_trace.proofs.OneEnding.{one_ending}
use Rattle.flu_trace.proofs.laws.a_trace_has_one_ending.Goals as goal

pub returns : goal.returns
returns c =
    let d = c.steps_determine.ensures in
    one_ending (record { start = d.start; step = d.step; enabled = d.enabled; is_final = d.end })
