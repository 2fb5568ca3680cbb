use Rattle.std.proofs.Common.{ℕ, ap, ◌∙◌, refl, slice_index, arith}
use Rattle.std.proofs.Math.ListN.{get_or-map}
use Rattle.flu_run.proofs.feeding.feed_all.Goals as goal

-- nothing is fed yet
pub loop-i-init : goal.loop-i-init
loop-i-init c = record {
  limits = refl;
  long = refl;
  behind = λ j lt. absurd (omega arith);
  ahead = λ j le. ap (λ counts. slice_index counts j) c.requires.fresh ∙ get_or-map (λ (n : ℕ). 0) c.args.feeder.now.limits j 0;
}
