-- The order of cells.
use Rattle.std.proofs.Common.{◌≡◌, false}
use Rattle.std.specs.Cmp.{IsStrictWeakOrder}
use Rattle.flu_lemmas.proofs.TwoNumbers as two
use Rattle.flu_model.specs.declared.events.Cell.{Cell}
use Rattle.flu_model.specs.Contents.{cell}
use Rattle.flu_model.specs.Order.{is_cell_before}

pub cells_rank : IsStrictWeakOrder is_cell_before
cells_rank = two.by_two-ranks (λ (c : Cell). c.family) (λ (c : Cell). c.key)

pub not_before_itself : (c : Cell) → is_cell_before c c ≡ false
not_before_itself = two.not_before_itself (λ (c : Cell). c.family) (λ (c : Cell). c.key)

-- no cell of a family is before its first
pub first_of_family : (c : Cell) → is_cell_before c (cell c.family 0) ≡ false
first_of_family c = two.none_before_zero c.family c.key
