-- What a written expression means, under a version and a kind.
use Rattle.std.specs.Prelude.{◌≡◌, ◌≤◌, ℕ, true, List, None}
use Rattle.flu_model.specs.declared.jobs.Family.{Family}
use Rattle.flu_model.specs.declared.jobs.CellRef.{CellRef}
use Rattle.flu_model.specs.declared.jobs.Op.{Op}
use Rattle.flu_model.specs.Erasure.{Term, Literal, EventValue, EventKey, EventItem, EventTime, CellRead, CellHeld, Negative, Negation, Operation}
use Rattle.flu_model.specs.Versions.{op_divides}
use Rattle.flu_text.specs.declared.written.WrittenNumber.{WrittenNumber}
use Rattle.flu_syntax.specs.declared.tree.WrittenKey.TheVariants as k
use Rattle.flu_syntax.specs.declared.tree.WrittenRef.{WrittenRef}
use Rattle.flu_syntax.specs.Tree.{Tree, NumberTree, ValueTree, KeyTree, TimeTree, ReadTree, HasTree, ParenTree, NegTree, NotTree, TwoTree}
use Rattle.flu_layout.specs.Spelling.{name_of}
use Rattle.flu_parse.specs.Terms.{height}
use Rattle.flu_grammar.specs.Means.{Under, HasItems, IsItemWord}
use Rattle.flu_grammar.specs.Cells.{MeansCell}

-- in version 3 the name `item` without brackets means the event's item
abbrev pub IsItem : List ℕ → ℕ → WrittenRef → Type 0
IsItem text version r = (r.key ≡ k.Alone) × IsItemWord version (name_of text r.family)

pub data MeansTerm (text : List ℕ) (families : List Family) (under : Under) : Tree → Term → Type 0 where
  -- a number means itself
  means_number : (n : WrittenNumber) → MeansTerm text families under (NumberTree n) (Literal n.value)
  -- `value` is the event's value, of a kind that has one
  means_value : (at : ℕ) → under.has_value ≡ true → MeansTerm text families under (ValueTree at) EventValue
  -- `key` is the key of the event's tag, of a keyed kind
  means_key : (at : ℕ) → under.keyed ≡ true → MeansTerm text families under (KeyTree at) EventKey
  -- `item` is the event's item, in version 3, of a kind with items
  means_item : (r : WrittenRef) → IsItem text under.version r → HasItems under → MeansTerm text families under (ReadTree r) EventItem
  -- `time` is the event's time
  means_time : (at : ℕ) → MeansTerm text families under (TimeTree at) EventTime
  -- any other cell means what it holds, and `has` before one means whether it is not neutral
  means_read : (r : WrittenRef) (c : CellRef) → ¬ IsItem text under.version r → MeansCell text families under None r c
      → MeansTerm text families under (ReadTree r) (CellRead c)
  means_held : (at : ℕ) (r : WrittenRef) (c : CellRef) → MeansCell text families under None r c
      → MeansTerm text families under (HasTree at r) (CellHeld c)
  -- parentheses mean what is in them
  means_inside : (at : ℕ) (e : Tree) (t : Term) → MeansTerm text families under e t → MeansTerm text families under (ParenTree at e) t
  -- a unary operator means itself, of what its operand means
  means_negative : (at : ℕ) (e : Tree) (t : Term) → MeansTerm text families under e t
      → MeansTerm text families under (NegTree at e) (Negative t)
  means_negation : (at : ℕ) (e : Tree) (t : Term) → MeansTerm text families under e t
      → MeansTerm text families under (NotTree at e) (Negation t)
  -- an operator means itself, of what its left operand means on the left and what its right one means on the right; `/` and `%` are
  -- there in version 3
  means_operation : (op : Op) (at : ℕ) (left right : Tree) (a b : Term) → (op_divides op ≡ true → under.version ≡ 3) → MeansTerm text families under left a
      → MeansTerm text families under right b → MeansTerm text families under (TwoTree op at left right) (Operation op a b)

-- an expression of height 32 at most
pub record MeansExpression (text : List ℕ) (families : List Family) (under : Under) (written : Tree) (term : Term) : Type 0 where
  pub low : height written ≤ 32
  pub means : MeansTerm text families under written term
