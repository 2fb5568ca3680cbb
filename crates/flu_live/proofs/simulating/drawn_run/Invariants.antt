use Rattle.std.proofs.Common.{◌≡◌}
use Rattle.std.specs.Prelude.{is_some}
use Rattle.flu_net.specs.Measure.{steps_left}
use Rattle.flu_live.specs.Drawing.{IsOnItsWay, kept_in}
use Rattle.flu_live.specs.Possible.{all_steps, enabled_steps}
use Rattle.flu_live.proofs.simulating.drawn_run.Given as goal

abbrev pub invariant-steps : goal.invariant-steps
invariant-steps l = record {
  way : IsOnItsWay l.case l.run;
  seed : l.run.seed ≡ l.seed;
  kept : is_some (kept_in l.run.kept) ≡ is_some (kept_in l.fn.kept);
  enabled : l.enabled.items ≡ enabled_steps l.run.net;
  all : l.steps.items ≡ all_steps l.case;
}

abbrev pub decreases-steps : goal.decreases-steps
decreases-steps l = steps_left l.run.net
