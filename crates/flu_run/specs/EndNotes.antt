-- What contracts see of the end above a worker, and what a thread leaves unchanged.
use Rattle.std.specs.Prelude.{◌≡◌, ◌≤◌, false, [], None}
use Rattle.atomic_table.specs.Seated.{TableId}
use Rattle.flu_fork.specs.declared.content.Content.{Content}
use Rattle.flu_fork.specs.Laws.{no_counts}
use Rattle.flu_fork.specs.Lots.{job}
use Rattle.flu_fork.specs.Serving.{none_counted}
use Rattle.flu_link.specs.Notes.{UpperNote, LowerNote, phase_held, phase_asked}
use Rattle.flu_run.specs.declared.ends.End.{End}
use Rattle.flu_run.specs.declared.ends.End.TheVariants.{Linked, Top}

-- above the root there is no link
abbrev pub no_link : TableId
no_link = record { words = 0; slots = 0; views_name = 0; atom = 0; block = 0; offset = 0; slot_names = [] }

-- the end above the root, which has no link: it holds the opening lot, and is never asked
abbrev pub top_start : Content → LowerNote
top_start k = record {
  link = no_link;
  case = k;
  lower = 0;
  phase = phase_held;
  held = none_counted k;
  given = no_counts (job k);
  ask = None;
  looks = 0;
  stopped = false;
  stop_looks = 0;
  stop_found = 0;
}

abbrev pub end_note : End → LowerNote
end_note (Linked l) = l
end_note (Top k) = top_start k

-- the end of the same link
pub record IsSameEnd (old new : LowerNote) : Type 0 where
  pub link : new.link ≡ old.link
  pub case : new.case ≡ old.case
  pub lower : new.lower ≡ old.lower

-- what is known about lots is as before; the phase may be another, and the end may have stopped
pub record IsSameLoan (old new : LowerNote) : Type 0 where
  pub link : new.link ≡ old.link
  pub case : new.case ≡ old.case
  pub lower : new.lower ≡ old.lower
  pub held : new.held ≡ old.held
  pub given : new.given ≡ old.given
  pub ask : new.ask ≡ old.ask

-- a check of the phase: while the end holds a lot, the upper end can only ask for it
pub record LooksUp (old new : LowerNote) : Type 0 where
  pub same : IsSameLoan old new
  pub still : phase_held ≤ old.phase → old.phase ≤ phase_asked → (phase_held ≤ new.phase) × (new.phase ≤ phase_asked)

-- a stop, or a check whether to stop
pub record LooksAside (old new : LowerNote) : Type 0 where
  pub same : IsSameLoan old new
  pub phase : new.phase ≡ old.phase

-- and the same for the end below
pub record LooksAsideBelow (old new : UpperNote) : Type 0 where
  pub link : new.link ≡ old.link
  pub case : new.case ≡ old.case
  pub lower : new.lower ≡ old.lower
  pub phase : new.phase ≡ old.phase
  pub lent : new.lent ≡ old.lent
  pub received : new.received ≡ old.received
  pub ask : new.ask ≡ old.ask
  pub taken : new.taken ≡ old.taken
