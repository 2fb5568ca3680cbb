-- Which rule a part of a written job breaks if a fault is reported for it: each fault comes by one of these rules, and at that place.
use Rattle.std.specs.Prelude.{◌≡◌, ◌≢◌, ◌<◌, ◌≤◌, ◌||◌, ◌+◌, ℕ, Bool, true, false, List, length, Option, Some, None, is_some, slice_get}
use Rattle.flu_lemmas.specs.Items.{Pairs}
use Rattle.flu_model.specs.declared.limits.What.TheVariants.{Key, Height, Actions}
use Rattle.flu_model.specs.declared.jobs.Sort.{Sort}
use Rattle.flu_model.specs.declared.jobs.Family.{Family}
use Rattle.flu_model.specs.declared.jobs.Op.{Op}
use Rattle.flu_model.specs.declared.jobs.Piece.{Piece}
use Rattle.flu_model.specs.Contents.{key_count}
use Rattle.flu_model.specs.Versions.{op_divides}
use Rattle.flu_text.specs.declared.written.WrittenSpan.{WrittenSpan}
use Rattle.flu_text.specs.declared.written.WrittenNumber.{WrittenNumber}
use Rattle.flu_syntax.specs.declared.tokens.Verb.{Verb}
use Rattle.flu_syntax.specs.declared.tree.WrittenKey.{WrittenKey}
use Rattle.flu_syntax.specs.declared.tree.WrittenKey.TheVariants as k
use Rattle.flu_syntax.specs.declared.tree.WrittenRef.{WrittenRef}
use Rattle.flu_syntax.specs.Tree.{Tree, ValueTree, KeyTree, ReadTree, HasTree, ParenTree, NegTree}
use Rattle.flu_syntax.specs.Tree.{NotTree, TwoTree, Deed, Writes, Clears, Emits, Flushes, Action}
use Rattle.flu_layout.specs.Spelling.{name_of, inside, written_value}
use Rattle.flu_parse.specs.declared.pieces.WrittenPiece.{WrittenPiece}
use Rattle.flu_parse.specs.declared.pieces.WrittenPiece.TheVariants as w
use Rattle.flu_parse.specs.declared.faults.JobFault.{JobFault}
use Rattle.flu_parse.specs.declared.faults.JobFault.TheVariants as j
use Rattle.flu_parse.specs.Terms.{height}
use Rattle.flu_parse.specs.Templates.{template_at}
use Rattle.flu_parse.specs.Actions.{sort_for}
use Rattle.flu_grammar.specs.Means.{Under, HasItems}
use Rattle.flu_grammar.specs.Cells.{family_name, HasSort}
use Rattle.flu_grammar.specs.Terms.{IsItem}
use Rattle.flu_grammar.specs.Templates.{AreCut, MeansPiece, MayBePrinted}
use Rattle.flu_grammar.specs.Actions.{MeansKeyedFamily}
use Rattle.flu_grammar.specs.Faults.{NoneIsNamed}

-- the family of a written name is declared
pub record IsFamily (text : List ℕ) (families : List Family) (written : WrittenSpan) (family : Family) : Type 0 where
  pub number : ℕ
  pub here : slice_get families number ≡ Some family
  pub name : family.name ≡ name_of text written

-- ---- cells

-- whether there are brackets after a cell's name
abbrev pub has_brackets : WrittenKey → Bool
has_brackets k.Alone = false
has_brackets (k.OwnKey place) = true
has_brackets (k.OwnItem place) = true
has_brackets (k.Fixed n) = true

pub data BreaksKey (under : Under) : WrittenKey → JobFault → Type 0 where
  -- `key` may only be used under a keyed kind, and `item` only in version 3 under one with items
  key_of_unkeyed : (place : ℕ) → under.keyed ≡ false → BreaksKey under (k.OwnKey place) (j.WrongShape place)
  item_of_none : (place : ℕ) → ¬ HasItems under → BreaksKey under (k.OwnItem place) (j.WrongShape place)
  -- a key is at most 65,535
  key_too_great : (n : WrittenNumber) → key_count ≤ written_value n.value → BreaksKey under (k.Fixed n) (j.OverLimit Key (written_value n.value))

pub data BreaksCell (text : List ℕ) (families : List Family) (under : Under) (wanted : Option Sort) (written : WrittenRef) : JobFault → Type 0 where
  cell_unknown : NoneIsNamed family_name families (name_of text written.family)
      → BreaksCell text families under wanted written (j.UnknownName written.family.from)
  -- the verb needs a family of another sort
  cell_of_other_sort : (family : Family) → IsFamily text families written.family family → ¬ HasSort wanted family.sort
      → BreaksCell text families under wanted written (j.WrongShape written.family.from)
  -- a keyed family has brackets and another has none
  cell_brackets : (family : Family) → IsFamily text families written.family family → family.keyed ≢ has_brackets written.key
      → BreaksCell text families under wanted written (j.WrongShape written.family.from)
  cell_key : (fault : JobFault) → BreaksKey under written.key fault → BreaksCell text families under wanted written fault

-- ---- expressions

pub data BreaksTerm (text : List ℕ) (families : List Family) (under : Under) : Tree → JobFault → Type 0 where
  -- `value` may only be used under an `int` kind, and `key` under a keyed one
  value_of_none : (at : ℕ) → under.has_value ≡ false → BreaksTerm text families under (ValueTree at) (j.WrongShape at)
  key_of_unkeyed_kind : (at : ℕ) → under.keyed ≡ false → BreaksTerm text families under (KeyTree at) (j.WrongShape at)
  -- in version 3 `item` alone may only be used under a kind with items; any other name is that of a cell
  item_of_no_items : (r : WrittenRef) → IsItem text under.version r → ¬ HasItems under
      → BreaksTerm text families under (ReadTree r) (j.WrongShape r.family.from)
  in_read : (r : WrittenRef) (fault : JobFault) → ¬ IsItem text under.version r → BreaksCell text families under None r fault
      → BreaksTerm text families under (ReadTree r) fault
  in_held : (at : ℕ) (r : WrittenRef) (fault : JobFault) → BreaksCell text families under None r fault
      → BreaksTerm text families under (HasTree at r) fault
  inside_parentheses : (at : ℕ) (e : Tree) (fault : JobFault) → BreaksTerm text families under e fault
      → BreaksTerm text families under (ParenTree at e) fault
  in_negative : (at : ℕ) (e : Tree) (fault : JobFault) → BreaksTerm text families under e fault
      → BreaksTerm text families under (NegTree at e) fault
  in_negation : (at : ℕ) (e : Tree) (fault : JobFault) → BreaksTerm text families under e fault
      → BreaksTerm text families under (NotTree at e) fault
  on_the_left : (op : Op) (at : ℕ) (a b : Tree) (fault : JobFault) → BreaksTerm text families under a fault
      → BreaksTerm text families under (TwoTree op at a b) fault
  on_the_right : (op : Op) (at : ℕ) (a b : Tree) (fault : JobFault) → BreaksTerm text families under b fault
      → BreaksTerm text families under (TwoTree op at a b) fault
  -- `/` and `%` may only be used in version 3
  division : (op : Op) (at : ℕ) (a b : Tree) → op_divides op ≡ true → under.version ≢ 3 → BreaksTerm text families under (TwoTree op at a b) (j.WrongShape at)

pub data BreaksExpression (text : List ℕ) (families : List Family) (under : Under) (e : Tree) : JobFault → Type 0 where
  in_term : (fault : JobFault) → BreaksTerm text families under e fault → BreaksExpression text families under e fault
  -- the height is at most 32
  too_high : 32 < height e → BreaksExpression text families under e (j.OverLimit Height 33)

-- ---- templates: all faults are at the text's place

pub data BreaksPiece (text : List ℕ) (families : List Family) (under : Under) (in_flush : Bool) : WrittenPiece → Type 0 where
  piece_value : under.has_value ≡ false → BreaksPiece text families under in_flush w.Value
  piece_key : (in_flush || under.keyed) ≡ false → BreaksPiece text families under in_flush w.Key
  piece_item : ¬ HasItems under → BreaksPiece text families under in_flush w.Item
  piece_brackets : (r : WrittenRef) (family : Family) → IsFamily text families r.family family → family.keyed ≢ has_brackets r.key
      → BreaksPiece text families under in_flush (w.Read r)
  piece_own_key : (r : WrittenRef) (place : ℕ) → r.key ≡ k.OwnKey place → under.keyed ≡ false → BreaksPiece text families under in_flush (w.Read r)
  piece_own_item : (r : WrittenRef) (place : ℕ) → r.key ≡ k.OwnItem place → ¬ HasItems under → BreaksPiece text families under in_flush (w.Read r)

pub data BreaksTemplate (text : List ℕ) (families : List Family) (under : Under) (flushed : Option ℕ) (s : WrittenSpan) : JobFault → Type 0 where
  -- a field before the first brace that has no partner names no family
  field_unknown : (i : ℕ) (r : WrittenRef) → slice_get (template_at text under.version (is_some flushed) s).pieces i ≡ Some (w.Read r)
      → NoneIsNamed family_name families (name_of text r.family) → BreaksTemplate text families under flushed s (j.UnknownName s.from)
  family_unknown : (i : ℕ) (name : WrittenSpan) → slice_get (template_at text under.version (is_some flushed) s).pieces i ≡ Some (w.Family name)
      → NoneIsNamed family_name families (name_of text name) → BreaksTemplate text families under flushed s (j.UnknownName s.from)
  -- the template is no sequence of plain pieces and fields: a brace has no partner, or a field no form
  no_pieces : ((parts : List WrittenPiece) → AreCut text under.version (is_some flushed) true (s.from + 1) (inside text s) parts → ⊥)
      → BreaksTemplate text families under flushed s (j.WrongShape s.from)
  wrong_piece : (parts : List WrittenPiece) → AreCut text under.version (is_some flushed) true (s.from + 1) (inside text s) parts
      → (i : ℕ) (piece : WrittenPiece) → slice_get parts i ≡ Some piece → BreaksPiece text families under (is_some flushed) piece
      → BreaksTemplate text families under flushed s (j.WrongShape s.from)
  field_key : (parts : List WrittenPiece) → AreCut text under.version (is_some flushed) true (s.from + 1) (inside text s) parts
      → (i : ℕ) (r : WrittenRef) (n : WrittenNumber) → slice_get parts i ≡ Some (w.Read r) → r.key ≡ k.Fixed n → key_count ≤ written_value n.value
      → BreaksTemplate text families under flushed s (j.OverLimit Key (written_value n.value))
  -- what is printed of a flush has at most 256 bytes too
  printed_too_long : (parts : List WrittenPiece) (pieces : List Piece) → AreCut text under.version (is_some flushed) true (s.from + 1) (inside text s) parts
      → Pairs (MeansPiece text families under flushed) parts pieces → ¬ MayBePrinted families flushed pieces
      → BreaksTemplate text families under flushed s (j.WrongShape s.from)

-- ---- actions

-- all cells of a keyed family are cleared
pub record ClearsWhole (text : List ℕ) (families : List Family) (under : Under) (r : WrittenRef) : Type 0 where
  pub version : under.version ≡ 3
  pub alone : r.key ≡ k.Alone
  pub family : Family
  pub is : IsFamily text families r.family family
  pub keyed : family.keyed ≡ true

pub data BreaksDeed (text : List ℕ) (families : List Family) (under : Under) : Deed → JobFault → Type 0 where
  in_cell : (verb : Verb) (r : WrittenRef) (e : Tree) (fault : JobFault) → BreaksCell text families under (Some (sort_for verb)) r fault
      → BreaksDeed text families under (Writes verb r e) fault
  in_amount : (verb : Verb) (r : WrittenRef) (e : Tree) (fault : JobFault) → BreaksExpression text families under e fault
      → BreaksDeed text families under (Writes verb r e) fault
  -- what is cleared is one cell, but in version 3 the name of a keyed family without brackets is right
  in_cleared : (r : WrittenRef) (fault : JobFault) → ¬ ClearsWhole text families under r → BreaksCell text families under None r fault
      → BreaksDeed text families under (Clears r) fault
  in_emitted : (s : WrittenSpan) (fault : JobFault) → BreaksTemplate text families under None s fault → BreaksDeed text families under (Emits s) fault
  flushed_unknown : (name s : WrittenSpan) → NoneIsNamed family_name families (name_of text name)
      → BreaksDeed text families under (Flushes name s) (j.UnknownName name.from)
  -- `flush` needs a keyed family
  flushed_unkeyed : (name s : WrittenSpan) (family : Family) → IsFamily text families name family → family.keyed ≡ false
      → BreaksDeed text families under (Flushes name s) (j.WrongShape name.from)
  in_flushed : (name s : WrittenSpan) (number : ℕ) (fault : JobFault) → MeansKeyedFamily text families name number
      → BreaksTemplate text families under (Some number) s fault → BreaksDeed text families under (Flushes name s) fault

pub data BreaksAction (text : List ℕ) (families : List Family) (under : Under) (a : Action) : JobFault → Type 0 where
  in_deed : (fault : JobFault) → BreaksDeed text families under a.deed fault → BreaksAction text families under a fault
  in_guard : (e : Tree) (fault : JobFault) → a.guard ≡ Some e → BreaksExpression text families under e fault
      → BreaksAction text families under a fault

pub data BreaksActions (text : List ℕ) (families : List Family) (under : Under) (actions : List Action) : JobFault → Type 0 where
  in_action : (i : ℕ) (a : Action) (fault : JobFault) → slice_get actions i ≡ Some a → BreaksAction text families under a fault
      → BreaksActions text families under actions fault
  -- a kind has at most 32
  too_many_actions : 32 < length actions → BreaksActions text families under actions (j.OverLimit Actions 33)
