use Rattle.std.proofs.Common.{◌≡◌, take}
use Rattle.std.specs.String.{string_bytes}
use Rattle.flu_command.specs.Simulating.{lines_of_steps}
use Rattle.flu_top.proofs.traces.lines_of.Given as goal

abbrev pub invariant-loop-step : goal.invariant-loop-step
invariant-loop-step l = string_bytes l.text ≡ lines_of_steps (take l.step-index l.steps)
