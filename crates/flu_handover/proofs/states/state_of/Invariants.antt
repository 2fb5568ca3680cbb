use Rattle.std.proofs.Common.{◌≡◌, take}
use Rattle.flu_cells.specs.Holding.{held}
use Rattle.flu_model.specs.Contents.{Contents}
use Rattle.flu_save.specs.Checkpoint.{cells_held, IsSavable}
use Rattle.flu_handover.specs.Handing.{amounts_of}
use Rattle.flu_handover.proofs.Filled.{among}
use Rattle.flu_handover.proofs.states.state_of.Given as goal

abbrev pub invariant-loop-amount : goal.invariant-loop-amount
invariant-loop-amount l = record {
  savable : IsSavable l.p.families (held l.state);
  found : (s : Contents) → IsSavable l.p.families s → l.amounts ≡ amounts_of l.p.families s
      → held l.state ≡ among s (take l.amount-index (cells_held l.p.families s));
}
