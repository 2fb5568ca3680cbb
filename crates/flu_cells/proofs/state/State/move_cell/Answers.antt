use Rattle.std.proofs.Common.{sym, ◌∙◌}
use Rattle.flu_cells.specs.Holding.{held}
use Rattle.flu_cells.proofs.Parting.{left_one, moved_some, moved_none}
use Rattle.flu_cells.proofs.state.State.move_cell.Goals as goal

pub returns-in_ok-hold-in-Some : goal.returns-in_ok-hold-in-Some
returns-in_ok-hold-in-Some c = (
  c.take.ensures.left ∙ left_one _ _,
  c.in_ok-hold-in-Some.ensures.ok ∙ moved_some (held c.args.self.now) _ _ _ (sym c.in-Some.ensures.worth),
)

pub returns-in-None : goal.returns-in-None
returns-in-None c = (
  c.take.ensures.left ∙ left_one _ _,
  moved_none (held c.args.self.now) _ _ (sym c.in-None.ensures.worth),
)
