use Rattle.std.proofs.Common.{◌≡◌, map, take}
use Rattle.serde_json.specs.View.{view}
use Rattle.flu_cells.specs.Holding.{held}
use Rattle.flu_model.specs.Contents.{Contents}
use Rattle.flu_save.specs.Checkpoint.{cells_held, entries_of, IsSavable}
use Rattle.flu_save.proofs.States.{among}
use Rattle.flu_save.proofs.reading.state_of.Given as goal

abbrev pub invariant-loop-entry : goal.invariant-loop-entry
invariant-loop-entry l = record {
  savable : IsSavable l.p.families (held l.state);
  found : (s : Contents) → IsSavable l.p.families s → map view l.entries ≡ entries_of l.p.families s
      → held l.state ≡ among s (take l.entry-index (cells_held l.p.families s));
}
