-- The cells that actions name, among which the first conflict of two tags is. Where a family is meant as a whole, its first cell is named:
-- it stands for all those that nothing else names.
use Rattle.std.specs.Prelude.{ℕ, Bool, true, ◌&&◌, Option, Some, None, List, [], ◌∷◌, ◌++◌, if◌then◌else◌}
use Rattle.flu_model.specs.declared.events.Cell.{Cell}
use Rattle.flu_model.specs.declared.jobs.Expr.{Expr}
use Rattle.flu_model.specs.declared.jobs.Expr.TheVariants.{Lit, Value, Key, Item, Time, Read, Has, Neg', Not', Two'}
use Rattle.flu_model.specs.declared.jobs.Piece.{Piece}
use Rattle.flu_model.specs.declared.jobs.Piece.TheVariants.{Plain, Value as ValueField, Key as KeyField, Item as ItemField, Time as TimeField}
use Rattle.flu_model.specs.declared.jobs.Piece.TheVariants.{Read as ReadField, CellValue, FamilyCell}
use Rattle.flu_model.specs.declared.jobs.Act.{Act}
use Rattle.flu_model.specs.declared.jobs.Act.TheVariants.{Add, Raise, Set, Clear, ClearFamily, Emit, Flush}
use Rattle.flu_model.specs.declared.jobs.Action.{Action}
use Rattle.flu_model.specs.Contents.{cell}
use Rattle.flu_model.specs.Expressions.{cell_of}
use Rattle.flu_model.specs.Order.{is_cell_before}

-- the cells that an expression reads, for a tag with this key
abbrev pub expr_cells : ℕ → Expr → List Cell
expr_cells key (Lit n) = []
expr_cells key Value = []
expr_cells key Key = []
expr_cells key Item = []
expr_cells key Time = []
expr_cells key (Read r) = cell_of r key 0 ∷ []
expr_cells key (Has r) = cell_of r key 0 ∷ []
expr_cells key (Neg' p e) = expr_cells key e
expr_cells key (Not' p e) = expr_cells key e
expr_cells key (Two' op p a q b) = expr_cells key a ++ expr_cells key b

abbrev pub guard_cells : ℕ → Option Expr → List Cell
guard_cells key None = []
guard_cells key (Some e) = expr_cells key e

abbrev pub piece_cells : ℕ → Piece → List Cell
piece_cells key (Plain t) = []
piece_cells key ValueField = []
piece_cells key KeyField = []
piece_cells key ItemField = []
piece_cells key TimeField = []
piece_cells key (ReadField r) = cell_of r key 0 ∷ []
piece_cells key CellValue = []
piece_cells key (FamilyCell f) = cell f 0 ∷ []

abbrev pub pieces_cells : ℕ → List Piece → List Cell
pieces_cells key [] = []
pieces_cells key (q ∷ qs) = piece_cells key q ++ pieces_cells key qs

abbrev pub act_cells : ℕ → Act → List Cell
act_cells key (Add r e) = cell_of r key 0 ∷ expr_cells key e
act_cells key (Raise r e) = cell_of r key 0 ∷ expr_cells key e
act_cells key (Set r e) = cell_of r key 0 ∷ expr_cells key e
act_cells key (Clear r) = cell_of r key 0 ∷ []
act_cells key (ClearFamily f) = cell f 0 ∷ []
act_cells key (Emit qs) = pieces_cells key qs
act_cells key (Flush f qs) = cell f 0 ∷ pieces_cells key qs

abbrev pub action_cells : ℕ → Action → List Cell
action_cells key a = guard_cells key a.guard ++ act_cells key a.act

abbrev pub actions_cells : ℕ → List Action → List Cell
actions_cells key [] = []
actions_cells key (a ∷ all) = action_cells key a ++ actions_cells key all

-- ---- the first cell of a list that passes a test
-- no cell, or one after c
abbrev pub is_before_best : Cell → Option Cell → Bool
is_before_best c None = true
is_before_best c (Some d) = is_cell_before c d

-- the best so far, or c if it passes and is before that
abbrev pub better : (Cell → Bool) → Option Cell → Cell → Option Cell
better passes best c = if is_before_best c best && passes c then Some c else best

abbrev pub best_among : (Cell → Bool) → Option Cell → List Cell → Option Cell
best_among passes best [] = best
best_among passes best (c ∷ cs) = best_among passes (better passes best c) cs
