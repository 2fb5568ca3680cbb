use Rattle.std.proofs.Common.{◌≡◌, ℕ, ◌<◌, ◌++◌, map, take, get_or}
use Rattle.flu_cells.specs.Holding.{held}
use Rattle.flu_model.specs.Contents.{cell}
use Rattle.flu_save.specs.Checkpoint.{HasWordWidth}
use Rattle.flu_handover.specs.Parts.{amount_of}
use Rattle.flu_handover.proofs.amounts.add_family.Given as goal

abbrev pub invariant-loop-key : goal.invariant-loop-key
invariant-loop-key l = record {
  amounts : l.amounts.items ≡ l.fn.amounts.items ++ map (λ k. amount_of (held l.s) (cell l.family k)) (take l.key-index l.key-items);
  width : (i : ℕ) → i < l.key-index → HasWordWidth (held l.s (cell l.family (get_or l.key-items i 0)));
}
