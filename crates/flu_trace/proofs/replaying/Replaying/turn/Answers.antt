use Rattle.std.proofs.Common.{◌≡◌, true, false, Err, ap, ◌∙◌}
use Rattle.flu_net.specs.declared.steps.StepFault.TheVariants.{NotEnabled}
use Rattle.flu_net.specs.Enabled.{is_enabled}
use Rattle.flu_trace.proofs.Replays.{made_on, told_bad, told_made, told_not_enabled}
use Rattle.flu_trace.proofs.replaying.Replaying.turn.Goals as goal

pub returns-in_default-take_step-clause-faults : goal.returns-in_default-take_step-clause-faults
returns-in_default-take_step-clause-faults g c =
    let left = g.F.Files.left in
    let was = c.args.self.now in
    told_bad c.args.name.now was.held c.fill.new.self c.take_step.new.held c.in-Ok.found was.lines c.in-Some.line was.net (left c.args.files.now)
    (left c.fill.new.files) c.in-Ok.ensures.bytes c.in-Ok.ensures.last c.in_default-take_step.ensures c.in-Some.ensures.1 c.rule.ensures

pub returns-in-Err-NotEnabled-clause-faults : goal.returns-in-Err-NotEnabled-clause-faults
returns-in-Err-NotEnabled-clause-faults g c =
    let left = g.F.Files.left in
    let was = c.args.self.now in
    let off : is_enabled was.net c.in-Some-take_step.step ≡ false =
    c.step.ensures.not_enabled.0 (c.in-Err-NotEnabled.is ∙ ap Err c.in-Err-NotEnabled.field-0-is) in
    told_not_enabled c.args.name.now was.held c.fill.new.self c.take_step.new.held c.in-Ok.found c.in-Some-take_step.step was.lines c.in-Some.line was.net
    (left c.args.files.now) (left c.fill.new.files) c.in-Ok.ensures.bytes c.in-Ok.ensures.last c.in-Some-take_step.ensures c.in-Some.ensures.1 c.rule.ensures off

pub returns-clause-goes : goal.returns-clause-goes
returns-clause-goes g c =
    let left = g.F.Files.left in
    let was = c.args.self.now in
    let step = c.in-Some-take_step.step in
    let on : is_enabled was.net step ≡ true =
    made_on c.step.result c.in-Ok-step.field-0 NotEnabled (is_enabled was.net step) c.step.ensures.not_enabled.1 c.in-Ok-step.is in
    told_made c.args.name.now was.held c.fill.new.self c.take_step.new.held c.in-Ok.found step was.lines c.in-Some.line was.net c.step.new.self
    (left c.args.files.now) (left c.fill.new.files) c.in-Ok.ensures.bytes c.in-Ok.ensures.last c.in-Some-take_step.ensures c.in-Some.ensures.1
    (record { enabled = on; made = c.in-Ok-step.ensures.made })
