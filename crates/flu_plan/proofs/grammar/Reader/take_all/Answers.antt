use Rattle.std.proofs.Common.{◌∙◌, sym, arith}
use Rattle.flu_plan.specs.Faults.{each}
use Rattle.flu_plan.specs.Machine.{turn_of, step}
use Rattle.flu_plan.proofs.FaultLemmas.{fails_through}
use Rattle.flu_lemmas.proofs.Loops.{each-next-at, each-fault-at, each-end}
use Rattle.flu_plan.proofs.grammar.Reader.take_all.Goals as goal

pub returns-in-Err : goal.returns-in-Err
returns-in-Err c =
    fails_through _ _ (each step (turn_of c.args.self.now) c.args.tokens.now)
    (λ e h. sym c.loop-token.invariant ∙ each-fault-at step _ (turn_of c.loop-token.self) e c.args.tokens.now c.loop-token.token-index c.loop-token-test.true h)
    c.in-Err.ensures

pub loop-token-preserved : goal.loop-token-preserved
loop-token-preserved c =
    sym (each-next-at step _ (turn_of c.loop-token.self) (turn_of c.take.new.self) c.args.tokens.now c.loop-token.token-index c.loop-token-test.true
    c.in-Ok.ensures)
    ∙ c.loop-token.invariant

pub returns : goal.returns
returns c =
    sym c.loop-token.invariant
    ∙ each-end step (turn_of c.loop-token.self) c.args.tokens.now c.loop-token.token-index (omega arith)
