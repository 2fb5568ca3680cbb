-- What a subtree's thread hands on.
use Rattle.std.specs.Prelude.{◌≡◌, ℕ, List}
use Rattle.flu_model.specs.declared.events.Out.{Out}
use Rattle.flu_fork.specs.declared.content.Content.{Content}
use Rattle.flu_fork.specs.declared.lots.Lot.{Lot}
use Rattle.flu_fork.specs.Classes.{below}
use Rattle.flu_fork.specs.Completing.{BringsAll}
use Rattle.flu_fork.specs.Lots.{job, nodes, setting_of}
use Rattle.flu_fork.specs.Serving.{LotCounts}
use Rattle.flu_fork.specs.Texts.{HasTexts}
use Rattle.flu_link.specs.Notes.{LowerNote, phase_held}
use Rattle.flu_run.specs.EndNotes.{IsSameEnd}

-- THE PROMISE of a subtree: a lot that brings all, by the one that was lent; and the outputs of the events of the subtree, each event's once
pub record IsFinal (k : Content) (v : ℕ) (lent : LotCounts) (lot : Lot) (outs : List Out) : Type 0 where
  pub brings : BringsAll k v lent lot
  pub texts : HasTexts (setting_of k) (below (job k) (nodes k) v) lot.upto outs

-- and the end that it was given, which noted Held last
pub record IsDone (given back : LowerNote) (lot : Lot) (outs : List Out) : Type 0 where
  pub same : IsSameEnd given back
  pub phase : back.phase ≡ phase_held
  pub final : IsFinal given.case given.lower back.held lot outs
