use Rattle.std.proofs.Common.{◌≡◌, true, sym, ◌∙◌}
use Rattle.flu_net.specs.Enabled.{is_enabled}
use Rattle.flu_net.proofs.Made.{kept_case, still_there, there_if_enabled}
use Rattle.flu_net.proofs.net.Net.step.Goals as goal

pub returns-in-Ok-clause-left : goal.returns-in-Ok-clause-left
returns-in-Ok-clause-left c =
    let enabled : is_enabled c.args.self.now c.args.s ≡ true = sym c.enabled.ensures ∙ c.if-not-enabled.false in
    c.steps_are_bounded.ensures.step c.args.s c.args.self.now c.make.new.self
    (c.rule.ensures (there_if_enabled c.args.self.now c.args.s enabled)) (record { enabled = enabled; made = c.in-Ok.ensures.made })

pub returns-in-Ok-clause-case : goal.returns-in-Ok-clause-case
returns-in-Ok-clause-case c = kept_case c.args.s c.args.self.now c.make.new.self c.in-Ok.ensures.made

pub returns-in-Ok-clause-stays : goal.returns-in-Ok-clause-stays
returns-in-Ok-clause-stays c =
    still_there c.args.s c.args.self.now c.make.new.self
    (there_if_enabled c.args.self.now c.args.s (sym c.enabled.ensures ∙ c.if-not-enabled.false)) c.in-Ok.ensures.made
