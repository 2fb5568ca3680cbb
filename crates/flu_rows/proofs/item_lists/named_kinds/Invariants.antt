use Rattle.std.proofs.Common.{◌≡◌, take, map}
use Rattle.flu_model.specs.Erasure.{plain_kind}
use Rattle.flu_rows.specs.ItemNames.{item_lists}
use Rattle.flu_rows.proofs.item_lists.named_kinds.Given as goal

abbrev pub invariant-loop-kind : goal.invariant-loop-kind
invariant-loop-kind l = record { so_far : l.named.items ≡ item_lists l.lists (map plain_kind (take l.kind-index l.kinds)) }
