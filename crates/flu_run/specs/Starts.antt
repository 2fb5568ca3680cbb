-- The end that a thread is started with.
use Rattle.std.specs.Prelude.{◌≡◌, ◌⊎◌, ℕ, ◌<◌, Some, length}
use Rattle.atomic_table.specs.Seated.{TableId}
use Rattle.flu_fork.specs.declared.content.Content.{Content}
use Rattle.flu_fork.specs.declared.lots.Ask.{Ask}
use Rattle.flu_fork.specs.Lots.{nodes}
use Rattle.flu_worker.specs.Notes.{WorkerNote}
use Rattle.flu_worker.specs.Ties.{AskedFor, HangsFrom}
use Rattle.flu_link.specs.Notes.{UpperNote, LowerNote, lower_start}
use Rattle.flu_run.specs.EndNotes.{top_start}

-- nothing has gone over its link; or there is nothing above
pub record StartsAt (k : Content) (w : ℕ) (l : LowerNote) : Type 0 where
  pub there : w < length (nodes k)
  pub link : TableId
  pub is : ((0 < w) × (l ≡ lower_start link k w)) ⊎ ((w ≡ 0) × (l ≡ top_start k))

-- what was asked when the end above was checked
pub record IsAskedNow (n : WorkerNote) (l : LowerNote) (y : Ask) : Type 0 where
  pub noted : l.ask ≡ Some y
  pub tie : HangsFrom n (AskedFor y)

-- the other end of a link, as it was when the link was made
pub record EndStarts (u : UpperNote) (l : LowerNote) : Type 0 where
  pub link : l.link ≡ u.link
  pub case : l.case ≡ u.case
  pub lower : l.lower ≡ u.lower
