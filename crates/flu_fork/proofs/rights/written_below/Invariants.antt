use Rattle.std.proofs.Common.{◌≡◌}
use Rattle.std.specs.Prelude.{◌&&◌}
use Rattle.std.specs.List.{list_any, range_with_len}
use Rattle.flu_model.specs.declared.events.Cell.{Cell}
use Rattle.flu_deps.specs.Validated.{plan_of}
use Rattle.flu_cells.specs.Sets.{is_in}
use Rattle.flu_laws.specs.Uses.{writes}
use Rattle.flu_fork.specs.Classes.{below, mode_by}
use Rattle.flu_fork.proofs.rights.written_below.Given as goal

abbrev pub invariant-loop-i : goal.invariant-loop-i
invariant-loop-i l = (c : Cell) → is_in l.set c ≡ list_any (λ i. below l.p (plan_of l.v).nodes l.w i && writes (mode_by l.p i c)) (range_with_len 0 l.i)
