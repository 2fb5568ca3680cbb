use Rattle.std.proofs.Common.{◌≡◌, map, take}
use Rattle.flu_model.specs.Itags.{is_dependent}
use Rattle.flu_tables.proofs.dependence.rows_among.Given as goal

abbrev pub invariant-loop-a : goal.invariant-loop-a
invariant-loop-a l = map (λ row. row.items) l.rows.items ≡ map (λ a. map (is_dependent l.p a) l.tags) (take l.a-index l.tags)
