use Rattle.flu_net.specs.declared.steps.Step.TheVariants.{Arrive, Handle, Ask, Take, Give, Hold, Lend}
use Rattle.flu_trace.proofs.StepLines.{same_as}
use Rattle.flu_trace.proofs.reading.read_step.Goals as goal

pub returns-in-Some-clause-back : goal.returns-in-Some-clause-back
returns-in-Some-clause-back c = λ s is.
    same_as s (Arrive (record { 0 = c.in-Some.i })) c.args.line.now is c.in-Some.ensures.some.0 c.in-Some.ensures.some.1

pub returns-in-Some-number_behind-clause-back : goal.returns-in-Some-number_behind-clause-back
returns-in-Some-number_behind-clause-back c = λ s is.
    same_as s (Handle c.in-Some-number_behind.w) c.args.line.now is c.in-Some-number_behind.ensures.some.0 c.in-Some-number_behind.ensures.some.1

pub returns-in-Some-number_behind-2-clause-back : goal.returns-in-Some-number_behind-2-clause-back
returns-in-Some-number_behind-2-clause-back c = λ s is.
    same_as s (Give c.in-Some-number_behind-2.w) c.args.line.now is c.in-Some-number_behind-2.ensures.some.0 c.in-Some-number_behind-2.ensures.some.1

pub returns-in-Some-number_behind-3-clause-back : goal.returns-in-Some-number_behind-3-clause-back
returns-in-Some-number_behind-3-clause-back c = λ s is.
    same_as s (Hold c.in-Some-number_behind-3.w) c.args.line.now is c.in-Some-number_behind-3.ensures.some.0 c.in-Some-number_behind-3.ensures.some.1

pub returns-in-Some-edge_behind-clause-back : goal.returns-in-Some-edge_behind-clause-back
returns-in-Some-edge_behind-clause-back c = λ s is.
    same_as s (Ask c.in-Some-edge_behind.w c.in-Some-edge_behind.side) c.args.line.now is c.in-Some-edge_behind.ensures.some.0
    c.in-Some-edge_behind.ensures.some.1

pub returns-in-Some-edge_behind-2-clause-back : goal.returns-in-Some-edge_behind-2-clause-back
returns-in-Some-edge_behind-2-clause-back c = λ s is.
    same_as s (Take c.in-Some-edge_behind-2.w c.in-Some-edge_behind-2.side) c.args.line.now is c.in-Some-edge_behind-2.ensures.some.0
    c.in-Some-edge_behind-2.ensures.some.1

pub returns-in-Some-edge_behind-3-clause-back : goal.returns-in-Some-edge_behind-3-clause-back
returns-in-Some-edge_behind-3-clause-back c = λ s is.
    same_as s (Lend c.in-Some-edge_behind-3.w c.in-Some-edge_behind-3.side) c.args.line.now is c.in-Some-edge_behind-3.ensures.some.0
    c.in-Some-edge_behind-3.ensures.some.1
