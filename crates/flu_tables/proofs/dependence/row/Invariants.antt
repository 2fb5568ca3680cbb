use Rattle.std.proofs.Common.{◌≡◌, map, take}
use Rattle.flu_model.specs.Itags.{is_dependent}
use Rattle.flu_tables.proofs.dependence.row.Given as goal

abbrev pub invariant-loop-b : goal.invariant-loop-b
invariant-loop-b l = l.row.items ≡ map (is_dependent l.p l.a) (take l.b-index l.tags)
