-- What the steps do.
use Rattle.std.specs.Prelude.{◌≡◌, ℕ, ◌+◌, false, Some, map, slice_get, slice_index, slice_set}
use Rattle.flu_model.specs.declared.events.Itag.{Itag}
use Rattle.flu_fork.specs.declared.lots.Ask.{Ask as AskNote}
use Rattle.flu_fork.specs.declared.lots.Lot.{Lot}
use Rattle.flu_fork.specs.Lots.{LotFits}
use Rattle.flu_fork.specs.Serving.{Served}
use Rattle.flu_worker.specs.declared.hand.Side.{Side}
use Rattle.flu_worker.specs.Calls.{HoldsLot, GivesLot, HandlesEvent, CountsEvent, LendsPart, IsFitPart, TakesPart, KeepsTarget, IsAskable}
use Rattle.flu_worker.specs.Choosing.{next_of, target_of}
use Rattle.flu_worker.specs.Keeping.{HasRule}
use Rattle.flu_worker.specs.Notes.{WorkerNote}
use Rattle.flu_net.specs.declared.edges.Edge.TheVariants.{Home, Lent, Held, Asked, Given}
use Rattle.flu_net.specs.declared.steps.Step.{Step}
use Rattle.flu_net.specs.declared.steps.Step.TheVariants.{Arrive, Handle, Ask, Take, Give, Hold, Lend}
use Rattle.flu_net.specs.Notes.{NetNote, kid_of, asked_of}

-- a worker that has seen this many items of an itag
abbrev pub seeing : ℕ → ℕ → WorkerNote → WorkerNote
seeing i count n = record n { seen = slice_set n.seen i count }

-- ARRIVE: one more item of the itag is seen, by all workers at once
abbrev pub arrived : NetNote → Itag → NetNote
arrived n i =
    let count = slice_index n.seen i.0 + 1 in
    record n { seen = slice_set n.seen i.0 count; workers = map (seeing i.0 count) n.workers }

-- the other steps: worker w is replaced by one that keeps a worker's rule, and perhaps an edge is replaced
pub record IsStepOf (w : ℕ) (old new : NetNote) : Type 0 where
  pub was : WorkerNote
  pub is : WorkerNote
  pub rule : HasRule is
  pub at : slice_get old.workers w ≡ Some was
  pub case : new.case ≡ old.case
  pub gone : new.gone ≡ false
  pub seen : new.seen ≡ old.seen
  pub workers : new.workers ≡ slice_set old.workers w is

pub record Handles (w : ℕ) (old new : NetNote) : Type 0 where
  pub step : IsStepOf w old new
  pub event : AskNote
  pub next : next_of step.was ≡ Some event
  pub does : HandlesEvent event step.was step.is
  pub counts : CountsEvent old.case event step.was.counts step.is.counts old.outs new.outs
  pub edges : new.edges ≡ old.edges

pub record Asks (w : ℕ) (s : Side) (old new : NetNote) : Type 0 where
  pub step : IsStepOf w old new
  pub kid : ℕ
  pub is_kid : kid_of old.case w s ≡ Some kid
  pub target : AskNote
  pub aims : target_of step.was (asked_of old w) ≡ Some target
  pub does : KeepsTarget (Some target) step.was step.is
  pub askable : IsAskable step.is target
  pub edges : new.edges ≡ slice_set old.edges kid (Asked target)
  pub outs : new.outs ≡ old.outs

pub record Takes (w : ℕ) (s : Side) (old new : NetNote) : Type 0 where
  pub step : IsStepOf w old new
  pub kid : ℕ
  pub is_kid : kid_of old.case w s ≡ Some kid
  pub lot : Lot
  pub given : slice_get old.edges kid ≡ Some (Given lot)
  pub does : TakesPart s lot step.was step.is
  pub edges : new.edges ≡ slice_set old.edges kid Home
  pub outs : new.outs ≡ old.outs

pub record Gives (w : ℕ) (old new : NetNote) : Type 0 where
  pub step : IsStepOf w old new
  pub ask : AskNote
  pub asked : slice_get old.edges w ≡ Some (Asked ask)
  pub lot : Lot
  pub does : GivesLot lot step.was step.is
  pub fits : LotFits step.was.case step.was.node lot
  pub served : Served step.was.case step.was.node step.was.held ask lot
  pub edges : new.edges ≡ slice_set old.edges w (Given lot)
  pub outs : new.outs ≡ old.outs

pub record Holds (w : ℕ) (old new : NetNote) : Type 0 where
  pub step : IsStepOf w old new
  pub lot : Lot
  pub lent : slice_get old.edges w ≡ Some (Lent lot)
  pub does : HoldsLot lot step.was step.is
  pub edges : new.edges ≡ slice_set old.edges w Held
  pub outs : new.outs ≡ old.outs

pub record Lends (w : ℕ) (s : Side) (old new : NetNote) : Type 0 where
  pub step : IsStepOf w old new
  pub kid : ℕ
  pub is_kid : kid_of old.case w s ≡ Some kid
  pub lot : Lot
  pub does : LendsPart s lot step.was step.is
  pub part : IsFitPart s lot step.was
  pub edges : new.edges ≡ slice_set old.edges kid (Lent lot)
  pub outs : new.outs ≡ old.outs

abbrev pub Makes : Step → NetNote → NetNote → Type 0
Makes (Arrive i) old new = new ≡ arrived old i
Makes (Handle w) old new = Handles w old new
Makes (Ask w s) old new = Asks w s old new
Makes (Take w s) old new = Takes w s old new
Makes (Give w) old new = Gives w old new
Makes (Hold w) old new = Holds w old new
Makes (Lend w s) old new = Lends w s old new
