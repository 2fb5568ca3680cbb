-- A thread that ended with a lot keeps its promise.
use Rattle.std.specs.Prelude.{⊤, List}
use Rattle.flu_model.specs.declared.events.Out.{Out}
use Rattle.flu_fork.specs.declared.content.Content.{Content}
use Rattle.flu_fork.specs.declared.lots.Lot.{Lot}
use Rattle.flu_fork.specs.Classes.{below}
use Rattle.flu_fork.specs.Lots.{job, nodes, setting_of, LotFits}
use Rattle.flu_fork.specs.Texts.{HasTexts, IsComplete}
use Rattle.flu_link.specs.Notes.{LowerNote}
use Rattle.flu_run.specs.declared.handed.Ended.{Ended}
use Rattle.flu_run.specs.declared.handed.Ended.TheVariants.{Done, Cut}
use Rattle.flu_run.specs.EndNotes.{end_note}
use Rattle.flu_run.specs.Final.{IsDone}

abbrev pub Keeps : LowerNote → Ended → Type 0
Keeps given (Done d) = IsDone given (end_note d.end) d.lot d.outs
Keeps given (Cut why) = ⊤

-- a lot of the root with all events, and the outputs of all events
pub record IsWhole (k : Content) (lot : Lot) (outs : List Out) : Type 0 where
  pub fits : LotFits k 0 lot
  pub all : IsComplete (setting_of k) (below (job k) (nodes k) 0) lot.upto
  pub texts : HasTexts (setting_of k) (below (job k) (nodes k) 0) lot.upto outs

-- the root's thread ended with the whole
abbrev pub EndsWhole : Content → Ended → Type 0
EndsWhole k (Done d) = IsWhole k d.lot d.outs
EndsWhole k (Cut why) = ⊤
