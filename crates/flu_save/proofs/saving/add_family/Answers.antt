use Rattle.std.proofs.Common.{arith, below_more, subst}
use Rattle.std.proofs.lemmas.Grind.{common_steps}
use Rattle.flu_save.specs.Checkpoint.{HasWordWidth}
use Rattle.flu_save.proofs.saving.add_family.Goals as goal

pub loop-key-preserved : goal.loop-key-preserved
loop-key-preserved c = record {
  entries = grind (arith, common_steps);
  width = below_more _ _ c.loop-key.invariant.width (subst HasWordWidth c.get-worth.ensures c.number_held.ensures.width);
}
