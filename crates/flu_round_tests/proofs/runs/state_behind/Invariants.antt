use Rattle.std.proofs.Common.{◌≡◌}
use Rattle.flu_streams.specs.declared.held.Stage.{Stage}
use Rattle.flu_round_tests.proofs.runs.state_behind.Given as goal

abbrev pub invariant-loop : goal.invariant-loop
invariant-loop g l = (g.N.Engine.program_of l.engine ≡ l.run.held.program) × (l.run.held.stage ≡ Stage.Filling)
    × (g.N.Engine.program_of l.engine ≡ g.N.Engine.program_of l.fn.engine)
