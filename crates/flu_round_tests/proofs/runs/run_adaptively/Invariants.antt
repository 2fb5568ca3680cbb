use Rattle.std.proofs.Common.{◌≡◌}
use Rattle.flu_deps.specs.Checking.{program_of}
use Rattle.flu_streams.specs.declared.held.Stage.{Stage}
use Rattle.flu_round_tests.proofs.runs.run_adaptively.Given as goal

abbrev pub invariant-loop : goal.invariant-loop
invariant-loop g l = (program_of l.engine.checked ≡ l.rounds.held.program) × (l.rounds.held.stage ≡ Stage.Filling)
