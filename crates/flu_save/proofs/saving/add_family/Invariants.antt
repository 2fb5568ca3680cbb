use Rattle.std.proofs.Common.{◌≡◌, ℕ, ◌<◌, ◌++◌, map, take, get_or}
use Rattle.serde_json.specs.View.{view}
use Rattle.flu_cells.specs.Holding.{held}
use Rattle.flu_model.specs.Contents.{cell}
use Rattle.flu_save.specs.Checkpoint.{number_held, entry, HasWordWidth}
use Rattle.flu_save.proofs.saving.add_family.Given as goal

abbrev pub invariant-loop-key : goal.invariant-loop-key
invariant-loop-key l = record {
  entries :
      map view l.entries.items
      ≡ map view l.fn.entries.items ++ map (λ k. entry l.family.name k (number_held (held l.s (cell l.number k)))) (take l.key-index l.key-items);
  width : (i : ℕ) → i < l.key-index → HasWordWidth (held l.s (cell l.number (get_or l.key-items i 0)));
}
