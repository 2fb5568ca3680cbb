use Rattle.std.proofs.Common.{◌≡◌}
use Rattle.flu_streams.specs.declared.held.Stage.{Stage}
use Rattle.flu_round_tests.proofs.runs.go_on.Given as goal

abbrev pub invariant-loop : goal.invariant-loop
invariant-loop g l = (g.N.Engine.program_of l.engine ≡ l.rounds.held.program) × (l.rounds.held.stage ≡ Stage.Filling)
