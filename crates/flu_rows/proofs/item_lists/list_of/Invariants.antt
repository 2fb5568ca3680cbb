use Rattle.std.proofs.Common.{◌≡◌, ℕ, List, None, take}
use Rattle.std.specs.List.{find}
use Rattle.flu_model.specs.Numberings.{Numbering}
use Rattle.flu_model.specs.Rules.{is_same_text}
use Rattle.flu_rows.proofs.item_lists.list_of.Given as goal

abbrev pub invariant-loop-kind : goal.invariant-loop-kind
invariant-loop-kind l = record { none : find (λ (e : List ℕ × Numbering). is_same_text e.0 l.name) (take l.kind-index l.kinds) ≡ None }
