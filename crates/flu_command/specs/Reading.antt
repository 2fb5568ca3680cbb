-- How a command reads its job's sources, and whether they have a defect that it sees.
use Rattle.std.specs.Prelude.{◌≡◌, ℕ, List, [], ◌∷◌, ◌++◌, Bool, true, false, Option, Some, None, option_map, ⊤, slice_get}
use Rattle.flu_outside.specs.Outside.{Contents}
use Rattle.flu_model.specs.declared.events.Item.{Item}
use Rattle.flu_model.specs.declared.jobs.Source.{Source}
use Rattle.flu_model.specs.declared.jobs.Program.{Program}
use Rattle.flu_model.specs.Moments.{timing_of}
use Rattle.flu_model.specs.Folding.{final_state}
use Rattle.flu_rows.specs.declared.rows.Next.{Next}
use Rattle.flu_streams.specs.declared.faults.SourceFault.{SourceFault}
use Rattle.flu_streams.specs.declared.faults.Why.{Why}
use Rattle.flu_streams.specs.declared.border.Border.{Border}
use Rattle.flu_streams.specs.declared.border.Border.TheVariants.{At}
use Rattle.flu_streams.specs.Rounds.{defect_in, IsRoundFault, lists_between}
use Rattle.flu_rounds.specs.Written.{AreSound, RanFrom, WouldWriteFrom, lines_in}
use Rattle.flu_save.specs.Checkpoint.{save}
use Rattle.flu_command.specs.Behind.{emptied_each, fault_behind}
use Rattle.flu_command.specs.Openings.{Opening}

-- not at all; all of them, before any event is run; or in rounds, each of which is run before the next one is read
pub data Reading : Type 0 where
  Unread : Reading
  Whole : Reading
  InRounds : Reading

abbrev pub is_read : Reading → Bool
is_read Unread = false
is_read Whole = true
is_read InRounds = true

-- ---- sources that are read after some texts
-- their lines: those of their files; a clock has none
abbrev pub lines_behind : List (List ℕ) → Contents → Program → ℕ → List Next
lines_behind texts left p = lines_in p (emptied_each texts left)

-- none has a defect: in rounds by all tests except the one on how many items are held, since a round holds few
abbrev pub AreSourcesGood : Reading → List (List ℕ) → Contents → Program → Type 0
AreSourcesGood Unread texts left p = ⊤
AreSourcesGood Whole texts left p = fault_behind texts left p ≡ None
AreSourcesGood InRounds texts left p = AreSound p (lines_behind texts left p)

-- one of them has a defect in these lines
pub record HasDefectIn (p : Program) (lines : ℕ → List Next) : Type 0 where
  pub at : ℕ
  pub source : Source
  pub is : slice_get p.sources at ≡ Some source
  pub row : ℕ
  pub why : Why
  pub defect : defect_in (timing_of p at) p.kinds source (lines at) ≡ Some (row, why)

-- one of them has a defect
abbrev pub HasDefect : Reading → List (List ℕ) → Contents → Program → Type 0
HasDefect Unread texts left p = ⊥
HasDefect Whole texts left p = (fault : SourceFault) × (fault_behind texts left p ≡ Some fault)
HasDefect InRounds texts left p = HasDefectIn p (lines_behind texts left p)

-- ---- rounds
-- a round is ready as soon as each source has this many settled rows, if no other number is asked for
abbrev pub rows_in_round : ℕ
rows_in_round = 4096

-- the greatest border, which is the border of the last checkpoint
abbrev pub greatest_border : ℕ
greatest_border = 9223372036854775807

-- THE CHECKPOINT OF A BORDER: of the state of the fold of the rows above the opening's border and up to this one
abbrev pub checkpoint_at : Program → Opening → ℕ → (ℕ → List Next) → List ℕ
checkpoint_at p o t lines = save p t (final_state p o.cells (lists_between p o.border (At t) lines))

-- what a run that saves has put last, once it has come to a border by some rounds: nothing before the first one
abbrev pub put_by : Program → Opening → List (List (List Item)) → Option ℕ → (ℕ → List Next) → Option (List ℕ)
put_by p o [] border lines = None
put_by p o (round ∷ rounds) border lines = option_map (λ t. checkpoint_at p o t lines) border

-- THE ROUNDS UP TO SOME ROUND meet no defect, and wrote this: the report of the events up to their border, and nothing before the first;
-- and this was put last, if the run saves
pub record HaveWritten (p : Program) (o : Opening) (lines : ℕ → List Next) (text : List ℕ) (put : Option (List ℕ)) : Type 0 where
  pub border : Option ℕ
  pub ran : RanFrom p o.rows o.border o.cells lines border text
  pub saved : put ≡ put_by p o ran.done border ran.before

-- THE NEXT ROUND MEETS THIS DEFECT: no round before it meets any
pub record MeetsDefect (p : Program) (o : Opening) (lines : ℕ → List Next) (text : List ℕ) (put : Option (List ℕ)) (fault : SourceFault) : Type 0 where
  pub border : Option ℕ
  pub ran : RanFrom p o.rows o.border o.cells lines border text
  pub saved : put ≡ put_by p o ran.done border ran.before
  pub meets : IsRoundFault p o.rows border lines ran.before fault

-- THE NEXT ROUND'S REPORT is this: with it, the text is the report of the events up to that round's end
pub record ReportsNext (p : Program) (o : Opening) (lines : ℕ → List Next) (text : List ℕ) (put : Option (List ℕ)) (more : List ℕ) : Type 0 where
  pub border : Option ℕ
  pub ran : RanFrom p o.rows o.border o.cells lines border text
  pub saved : put ≡ put_by p o ran.done border ran.before
  pub end : Border
  pub now : ℕ → List Next
  pub next : WouldWriteFrom p o.rows o.border o.cells lines border ran.before now end (text ++ more)
