use Rattle.std.proofs.Common.{◌≡◌, ◌∷◌, take}
use Rattle.flu_arrive.specs.Notes.{zeros}
use Rattle.flu_arrive.proofs.ends.make_row.Given as goal

abbrev pub invariant-loop : goal.invariant-loop
invariant-loop l = l.row.items ≡ 0 ∷ zeros (take l.index l.limits)
