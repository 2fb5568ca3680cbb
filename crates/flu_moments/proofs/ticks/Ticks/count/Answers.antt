use Rattle.std.proofs.Common.{length, sym, ap, ◌∙◌}
use Rattle.flu_moments.proofs.StepLemmas.{length-steps}
use Rattle.flu_moments.proofs.ticks.Ticks.count.Goals as goal

pub returns : goal.returns
returns c = let t = c.self.inside in sym (length-steps t.time t.every t.left) ∙ ap length c.self.view_is
