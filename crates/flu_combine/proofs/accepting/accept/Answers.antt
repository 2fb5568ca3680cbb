use Rattle.std.proofs.Common.{◌≡◌, false, ap, sym, subst, ◌∙◌}
use Rattle.flu_deps.specs.Checking.{program_of}
use Rattle.flu_streams.specs.Clocks.{AreEarly}
use Rattle.flu_combine.specs.Partials.{times_fit}
use Rattle.flu_combine.specs.Reading.{ranks_told}
use Rattle.flu_combine.proofs.Judging.{accepted, defect_of_head, wrong_times}
use Rattle.flu_deps.specs.Validated.{plan_of}
use Rattle.flu_combine.proofs.accepting.accept.Goals as goal

pub returns-in-Err-clause-refused : goal.returns-in-Err-clause-refused
returns-in-Err-clause-refused c = rw c.program.ensures at (c.in-Err.ensures.refused (plan_of c.args.v.now).nodes c.args.nodes.now)

pub returns-in-Err-judge-clause-refused : goal.returns-in-Err-judge-clause-refused
returns-in-Err-judge-clause-refused c =
    let read = rw c.program.ensures at c.in-Ok.ensures.read in
    defect_of_head _ _ _ _ c.in-Ok.received c.in-Err-judge.defect c.requires.few read c.in-Err-judge.ensures.defect

pub returns-then-not-times_fit-clause-refused : goal.returns-then-not-times_fit-clause-refused
returns-then-not-times_fit-clause-refused c =
    let read = rw c.program.ensures at c.in-Ok.ensures.read in
    let same : c.program-2.result.now ≡ program_of c.args.c.now = c.program-2.ensures in
    let wrong : c.times_fit.result ≡ false = cc c.if-not-times_fit.ensures in
    wrong_times _ _ _ _ c.in-Ok.received c.in-Ok-judge.node c.requires.few read c.in-Ok-judge.ensures.node c.in-Ok-judge.ensures.apart
    (ap (λ p. times_fit p c.in-Ok.received.head.first c.in-Ok.received.last) (sym same) ∙ sym c.times_fit.ensures ∙ wrong)

pub returns-clause-partial : goal.returns-clause-partial
returns-clause-partial c =
    let read = rw c.program.ensures at c.in-Ok.ensures.read in
    accepted _ _ _ c.in-Ok-judge.node c.in-Ok.received _ c.requires.few read c.in-Ok-judge.ensures.node c.of.ensures

pub returns-clause-early : goal.returns-clause-early
returns-clause-early c = subst (λ p. AreEarly p (ranks_told c.told_by.result)) c.program-3.ensures c.told_by.ensures.early
