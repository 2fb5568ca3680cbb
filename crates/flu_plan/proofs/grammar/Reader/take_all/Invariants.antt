use Rattle.std.proofs.Common.{◌≡◌, drop}
use Rattle.flu_plan.specs.Faults.{each}
use Rattle.flu_plan.specs.Machine.{turn_of, step}
use Rattle.flu_plan.proofs.grammar.Reader.take_all.Given as goal

abbrev pub invariant-loop-token : goal.invariant-loop-token
invariant-loop-token l = each step (turn_of l.self) (drop l.token-index l.tokens) ≡ each step (turn_of l.fn.self) l.tokens
