-- Jobs as plain data: without where the boxes of their expressions lie in memory. Two jobs are the same where their plain data is.
use Rattle.std.specs.Prelude.{◌≡◌, ℕ, ℤ, Bool, List, map, Option, option_map}
use Rattle.flu_calendar.specs.declared.unit.Unit.{Unit}
use Rattle.flu_model.specs.declared.jobs.CellRef.{CellRef}
use Rattle.flu_model.specs.declared.jobs.Op.{Op}
use Rattle.flu_model.specs.declared.jobs.Piece.{Piece}
use Rattle.flu_model.specs.declared.jobs.Expr.{Expr}
use Rattle.flu_model.specs.declared.jobs.Expr.TheVariants.{Lit, Value, Key, Item, Time, Read, Has, Neg', Not', Two'}
use Rattle.flu_model.specs.declared.jobs.Act.{Act}
use Rattle.flu_model.specs.declared.jobs.Act.TheVariants.{Add, Raise, Set, Clear, ClearFamily, Emit, Flush}
use Rattle.flu_model.specs.declared.jobs.Action.{Action}
use Rattle.flu_model.specs.declared.jobs.Kind.{Kind}
use Rattle.flu_model.specs.declared.jobs.Family.{Family}
use Rattle.flu_model.specs.declared.jobs.Depend.{Depend}
use Rattle.flu_model.specs.declared.jobs.Source.{Source}
use Rattle.flu_model.specs.declared.jobs.Program.{Program}
use Rattle.flu_model.specs.Numberings.{Numbering}

-- an expression as it is written
pub data Term : Type 0 where
  Literal : (n : ℤ) → Term
  EventValue : Term
  EventKey : Term
  EventItem : Term
  EventTime : Term
  CellRead : (r : CellRef) → Term
  CellHeld : (r : CellRef) → Term
  Negative : (e : Term) → Term
  Negation : (e : Term) → Term
  Operation : (op : Op) (a b : Term) → Term

abbrev pub term_of : Expr → Term
term_of (Lit n) = Literal n
term_of Value = EventValue
term_of Key = EventKey
term_of Item = EventItem
term_of Time = EventTime
term_of (Read r) = CellRead r
term_of (Has r) = CellHeld r
term_of (Neg' p e) = Negative (term_of e)
term_of (Not' p e) = Negation (term_of e)
term_of (Two' op p a q b) = Operation op (term_of a) (term_of b)

-- what an action does, as it is written
pub data PlainAct : Type 0 where
  Adding : (r : CellRef) (e : Term) → PlainAct
  Raising : (r : CellRef) (e : Term) → PlainAct
  Setting : (r : CellRef) (e : Term) → PlainAct
  Clearing : (r : CellRef) → PlainAct
  ClearingFamily : (f : ℕ) → PlainAct
  Emitting : (ps : List Piece) → PlainAct
  Flushing : (f : ℕ) (ps : List Piece) → PlainAct

abbrev pub plain_act : Act → PlainAct
plain_act (Add r e) = Adding r (term_of e)
plain_act (Raise r e) = Raising r (term_of e)
plain_act (Set r e) = Setting r (term_of e)
plain_act (Clear r) = Clearing r
plain_act (ClearFamily f) = ClearingFamily f
plain_act (Emit ps) = Emitting ps
plain_act (Flush f ps) = Flushing f ps

pub record PlainAction : Type 0 where
  pub act : PlainAct
  pub guard : Option Term

abbrev pub plain_action : Action → PlainAction
plain_action a = record { act = plain_act a.act; guard = option_map term_of a.guard }

pub record PlainKind : Type 0 where
  pub name : List ℕ
  pub keyed : Bool
  pub has_item : Bool
  pub list : Option ℕ
  pub has_value : Bool
  pub actions : List PlainAction

abbrev pub plain_kind : Kind → PlainKind
plain_kind k = record {
  name = k.name;
  keyed = k.keyed;
  has_item = k.has_item;
  list = k.list;
  has_value = k.has_value;
  actions = map plain_action k.actions;
}

-- a job as it is written
pub record Job : Type 0 where
  pub version : ℕ
  pub ties : ℕ
  pub iso : Option Unit
  pub lists : List Numbering
  pub families : List Family
  pub kinds : List PlainKind
  pub depends : List Depend
  pub sources : List Source

abbrev pub job_of : Program → Job
job_of p = record {
  version = p.version;
  ties = p.ties;
  iso = p.iso;
  lists = p.lists;
  families = p.families;
  kinds = map plain_kind p.kinds;
  depends = p.depends;
  sources = p.sources;
}

-- two programs are the same job
abbrev pub IsSameJob : Program → Program → Type 0
IsSameJob p q = job_of p ≡ job_of q
