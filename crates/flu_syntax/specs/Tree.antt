-- A job as it is written, as plain data: without the places in memory of the boxes of its expressions.
use Rattle.std.specs.Prelude.{ℕ, Bool, List, map, Option, option_map}
use Rattle.flu_model.specs.declared.jobs.Op.{Op}
use Rattle.flu_model.specs.declared.jobs.Sort.{Sort}
use Rattle.flu_syntax.specs.declared.tokens.Verb.{Verb}
use Rattle.flu_syntax.specs.declared.tokens.Verb.TheVariants as verb
use Rattle.flu_text.specs.declared.written.WrittenSpan.{WrittenSpan}
use Rattle.flu_text.specs.declared.written.WrittenNumber.{WrittenNumber}
use Rattle.flu_syntax.specs.declared.tree.WrittenRef.{WrittenRef}
use Rattle.flu_syntax.specs.declared.tree.WrittenTag.{WrittenTag}
use Rattle.flu_syntax.specs.declared.tree.WrittenCells.{WrittenCells}
use Rattle.flu_syntax.specs.declared.tree.WrittenItem.{WrittenItem}
use Rattle.flu_syntax.specs.declared.tree.WrittenRelation.{WrittenRelation}
use Rattle.flu_syntax.specs.declared.tree.WrittenExpr.{WrittenExpr}
use Rattle.flu_syntax.specs.declared.tree.WrittenExpr.TheVariants.{Number, Value, Key, Time, Read, Has, Paren', Neg', Not', Two'}
use Rattle.flu_syntax.specs.declared.tree.WrittenAct.{WrittenAct}
use Rattle.flu_syntax.specs.declared.tree.WrittenAct.TheVariants as act
use Rattle.flu_syntax.specs.declared.tree.WrittenAction.{WrittenAction}
use Rattle.flu_syntax.specs.declared.tree.WrittenDeclaration.{WrittenDeclaration}
use Rattle.flu_syntax.specs.declared.tree.WrittenDeclaration.TheVariants as declaration
use Rattle.flu_syntax.specs.declared.tree.WrittenHead.{WrittenHead}
use Rattle.flu_syntax.specs.declared.tree.WrittenJob.{WrittenJob}

-- an expression, with the places of its words
pub data Tree : Type 0 where
  NumberTree : (n : WrittenNumber) → Tree
  ValueTree : (at : ℕ) → Tree
  KeyTree : (at : ℕ) → Tree
  TimeTree : (at : ℕ) → Tree
  ReadTree : (cell : WrittenRef) → Tree
  HasTree : (at : ℕ) (cell : WrittenRef) → Tree
  ParenTree : (at : ℕ) (inner : Tree) → Tree
  NegTree : (at : ℕ) (inner : Tree) → Tree
  NotTree : (at : ℕ) (inner : Tree) → Tree
  TwoTree : (o : Op) (at : ℕ) (left right : Tree) → Tree

abbrev pub view : WrittenExpr → Tree
view (Number n) = NumberTree n
view (Value at) = ValueTree at
view (Key at) = KeyTree at
view (Time at) = TimeTree at
view (Read cell) = ReadTree cell
view (Has at cell) = HasTree at cell
view (Paren' at p inner) = ParenTree at (view inner)
view (Neg' at p inner) = NegTree at (view inner)
view (Not' at p inner) = NotTree at (view inner)
view (Two' o at p left q right) = TwoTree o at (view left) (view right)

-- what an action does
pub data Deed : Type 0 where
  Writes : (verb : Verb) (cell : WrittenRef) (amount : Tree) → Deed
  Clears : (cell : WrittenRef) → Deed
  Emits : (text : WrittenSpan) → Deed
  Flushes : (family text : WrittenSpan) → Deed

abbrev pub deed_of : WrittenAct → Deed
deed_of (act.Add cell e) = Writes verb.Add cell (view e)
deed_of (act.Raise cell e) = Writes verb.Raise cell (view e)
deed_of (act.Set cell e) = Writes verb.Set cell (view e)
deed_of (act.Clear cell) = Clears cell
deed_of (act.Emit text) = Emits text
deed_of (act.Flush family text) = Flushes family text

pub record Action : Type 0 where
  pub at : ℕ
  pub deed : Deed
  pub guard : Option Tree

abbrev pub action_of : WrittenAction → Action
action_of a = record { at = a.at; deed = deed_of a.act; guard = option_map view a.guard }

-- a declaration
pub data Declaration : Type 0 where
  Cell : (name : WrittenSpan) (cells : WrittenCells) (sort : Sort) → Declaration
  Tag : (name : WrittenSpan) (keyed : Bool) (item : Option WrittenItem) (has_value : Bool) → Declaration
  Names : (at : ℕ) (name : WrittenSpan) (texts : List WrittenSpan) → Declaration
  Depends : (a b : WrittenSpan) (relation : WrittenRelation) → Declaration
  On : (kind : WrittenSpan) (actions : List Action) → Declaration
  Source : (name file : WrittenSpan) (rate slack : Option WrittenNumber) (tags : List WrittenTag) → Declaration
  Clock : (at : ℕ) (name : WrittenSpan) (every : WrittenNumber) (rate : Option WrittenNumber) (tag : WrittenSpan) → Declaration

abbrev pub declaration_of : WrittenDeclaration → Declaration
declaration_of (declaration.Cell name cells sort) = Cell name cells sort
declaration_of (declaration.Tag name keyed item has_value) = Tag name keyed item has_value
declaration_of (declaration.Names at name texts) = Names at name texts
declaration_of (declaration.Depends a b relation) = Depends a b relation
declaration_of (declaration.On kind actions) = On kind (map action_of actions)
declaration_of (declaration.Source name file rate slack tags) = Source name file rate slack tags
declaration_of (declaration.Clock at name every rate tag) = Clock at name every rate tag

abbrev pub Declarations : Type 0
Declarations = List Declaration

-- a whole job: its head, if one is written, and the declarations
pub record Job : Type 0 where
  pub head : Option WrittenHead
  pub declarations : Declarations

abbrev pub job_of : WrittenJob → Job
job_of job = record { head = job.head; declarations = map declaration_of job.declarations }
