-- What a written action means, under a version and a kind.
use Rattle.std.specs.Prelude.{◌≡◌, ℕ, true, List, Some, None, slice_get}
use Rattle.flu_model.specs.declared.jobs.Sort.TheVariants.{Sum, Max, Last}
use Rattle.flu_model.specs.declared.jobs.Family.{Family}
use Rattle.flu_model.specs.declared.jobs.CellRef.{CellRef}
use Rattle.flu_model.specs.declared.jobs.Piece.{Piece}
use Rattle.flu_model.specs.Erasure.{Term, PlainAct, Adding, Raising, Setting, Clearing, ClearingFamily, Emitting, Flushing, PlainAction}
use Rattle.flu_text.specs.declared.written.WrittenSpan.{WrittenSpan}
use Rattle.flu_syntax.specs.declared.tokens.Verb.TheVariants as verb
use Rattle.flu_syntax.specs.declared.tree.WrittenKey.TheVariants as k
use Rattle.flu_syntax.specs.declared.tree.WrittenRef.{WrittenRef}
use Rattle.flu_syntax.specs.Tree.{Tree, Deed, Writes, Clears, Emits, Flushes, Action}
use Rattle.flu_layout.specs.Spelling.{name_of}
use Rattle.flu_grammar.specs.Means.{IfWritten, Under}
use Rattle.flu_grammar.specs.Cells.{MeansCell}
use Rattle.flu_grammar.specs.Terms.{MeansExpression}
use Rattle.flu_grammar.specs.Templates.{MeansTemplate}

-- the keyed family of this name has this number
pub record MeansKeyedFamily (text : List ℕ) (families : List Family) (written : WrittenSpan) (number : ℕ) : Type 0 where
  pub family : Family
  pub here : slice_get families number ≡ Some family
  pub name : family.name ≡ name_of text written
  pub keyed : family.keyed ≡ true

pub data MeansDeed (text : List ℕ) (families : List Family) (under : Under) : Deed → PlainAct → Type 0 where
  -- `add` needs a sum, `raise` a maximum and `set` a last value
  means_add : (r : WrittenRef) (e : Tree) (c : CellRef) (t : Term) → MeansCell text families under (Some Sum) r c
      → MeansExpression text families under e t → MeansDeed text families under (Writes verb.Add r e) (Adding c t)
  means_raise : (r : WrittenRef) (e : Tree) (c : CellRef) (t : Term) → MeansCell text families under (Some Max) r c
      → MeansExpression text families under e t → MeansDeed text families under (Writes verb.Raise r e) (Raising c t)
  means_set : (r : WrittenRef) (e : Tree) (c : CellRef) (t : Term) → MeansCell text families under (Some Last) r c
      → MeansExpression text families under e t → MeansDeed text families under (Writes verb.Set r e) (Setting c t)
  means_clear : (r : WrittenRef) (c : CellRef) → MeansCell text families under None r c → MeansDeed text families under (Clears r) (Clearing c)
  -- in version 3 the name of a keyed family without brackets means all of its cells
  means_clear_family : (r : WrittenRef) (number : ℕ) → under.version ≡ 3 → r.key ≡ k.Alone → MeansKeyedFamily text families r.family number
      → MeansDeed text families under (Clears r) (ClearingFamily number)
  means_emit : (s : WrittenSpan) (ps : List Piece) → MeansTemplate text families under None s ps → MeansDeed text families under (Emits s) (Emitting ps)
  -- `flush` needs a keyed family
  means_flush : (name s : WrittenSpan) (number : ℕ) (ps : List Piece) → MeansKeyedFamily text families name number
      → MeansTemplate text families under (Some number) s ps → MeansDeed text families under (Flushes name s) (Flushing number ps)

-- an action means what it does, and its guard if it has one
pub record MeansAction (text : List ℕ) (families : List Family) (under : Under) (written : Action) (action : PlainAction) : Type 0 where
  pub act : MeansDeed text families under written.deed action.act
  pub guard : IfWritten (MeansExpression text families under) written.guard action.guard
