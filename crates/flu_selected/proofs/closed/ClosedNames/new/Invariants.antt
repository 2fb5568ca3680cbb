use Rattle.std.proofs.Common.{◌≡◌, List, ℕ, take}
use Rattle.std.specs.BTreeMap.{get_by_text}
use Rattle.flu_selected.specs.Selecting.{whole_lines}
use Rattle.flu_selected.proofs.closed.ClosedNames.new.Given as goal

abbrev pub invariant-loop-name : goal.invariant-loop-name
invariant-loop-name l = (q : List ℕ) → get_by_text l.lines q ≡ whole_lines (take l.name-index l.names) q
