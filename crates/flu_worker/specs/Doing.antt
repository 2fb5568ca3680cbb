-- What an update emits, and what it does to the lot in a hand.
use Rattle.std.specs.Prelude.{◌≡◌, ℕ, ◌+◌, List, ◌∷◌, ◌++◌, slice_index, slice_set}
use Rattle.flu_model.specs.declared.events.Out.{Out}
use Rattle.flu_laws.specs.Spans.{Moment}
use Rattle.flu_fork.specs.declared.content.Content.{Content}
use Rattle.flu_fork.specs.declared.lots.Ask.{Ask}
use Rattle.flu_fork.specs.declared.lots.Lot.{Lot}
use Rattle.flu_fork.specs.Settings.{moments}
use Rattle.flu_fork.specs.Lots.{job, setting_of, LotFits}
use Rattle.flu_fork.specs.Texts.{outputs_then}
use Rattle.flu_worker.specs.declared.holding.Holding.{Holding}
use Rattle.flu_worker.specs.Holding.{IsHeldAs}
use Rattle.flu_worker.specs.Moving.{IsWholeOf}

-- the outputs of the event in the fold are appended
abbrev pub PutsOut : Content → Ask → List Out → List Out → Type 0
PutsOut k x old new =
    (before after : List Moment) (m : Moment) → moments (setting_of k) ≡ before ++ m ∷ after → m.event.itag ≡ x.itag → m.index ≡ x.index
    → new ≡ old ++ outputs_then (job k) m

-- the lot of a whole hand has one more event counted, and still fits the node
pub record DoneIn (k : Content) (w : ℕ) (x : Ask) (old new : Holding) : Type 0 where
  pub lot : Lot
  pub was : IsWholeOf old lot
  pub more : Lot
  pub fits : LotFits k w more
  pub since : more.since ≡ lot.since
  pub upto : more.upto ≡ slice_set lot.upto x.itag.0 (slice_index lot.upto x.itag.0 + 1)
  pub held : IsHeldAs k w more new
