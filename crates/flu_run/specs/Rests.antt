-- What a worker with children has before its threads are started, and once it has no event left.
use Rattle.std.specs.Prelude.{◌≡◌, ℕ, ◌<◌, List, [], Some, length}
use Rattle.flu_model.specs.declared.events.Out.{Out}
use Rattle.atomic_table.specs.Seated.{TableId}
use Rattle.flu_fork.specs.declared.content.Content.{Content}
use Rattle.flu_fork.specs.Laws.{no_counts}
use Rattle.flu_fork.specs.Lots.{job, nodes, kids}
use Rattle.flu_worker.specs.declared.hand.Side.TheVariants.{Left, Right}
use Rattle.flu_worker.specs.Notes.{WorkerNote}
use Rattle.flu_worker.specs.Calls.{IsFinished}
use Rattle.flu_link.specs.Notes.{UpperNote, LowerNote, phase_held, upper_start, lower_start}
use Rattle.flu_run.specs.EndNotes.{IsSameEnd}
use Rattle.flu_run.specs.Starts.{StartsAt, EndStarts}
use Rattle.flu_run.specs.Stays.{IsSameUpper}
use Rattle.flu_run.specs.Ties.{Hangs, Lets, Tells}

-- the same worker and ends, where the end above noted Held, with no event left
pub record Rests (n0 : WorkerNote) (l0 : LowerNote) (u0 v0 : UpperNote) (n : WorkerNote) (l : LowerNote) (u v : UpperNote) (outs : List Out) : Type 0 where
  pub case : n.case ≡ n0.case
  pub node : n.node ≡ n0.node
  pub end : IsSameEnd l0 l
  pub left_end : IsSameUpper u0 u
  pub right_end : IsSameUpper v0 v
  pub hangs : Hangs n l
  pub phase : l.phase ≡ phase_held
  pub tells : Tells n outs
  pub left : Lets Left n u
  pub right : Lets Right n v
  pub finished : IsFinished n

-- a worker with no event left, for an end that was given, with the ends below as they were made
pub record Settles (k : Content) (w : ℕ) (given left_given right_given : LowerNote) (n : WorkerNote) (l : LowerNote) (u v : UpperNote)
    (outs : List Out) : Type 0 where
  pub case : n.case ≡ k
  pub node : n.node ≡ w
  pub same : IsSameEnd given l
  pub rests : Rests n l u v n l u v outs
  pub left : EndStarts u left_given
  pub right : EndStarts v right_given

-- the two ends of a new link to a node
pub record MadeLink (k : Content) (v : ℕ) (u : UpperNote) (l : LowerNote) : Type 0 where
  pub link : TableId
  pub upper : u ≡ upper_start link k v
  pub lower : l ≡ lower_start link k v

-- a worker with children, its ends and theirs, before any thread is started
pub record IsReady (k : Content) (at : ℕ × ℕ × ℕ) (from left_from right_from : LowerNote) (n : WorkerNote) (l : LowerNote) (u v : UpperNote)
    (left_low right_low : LowerNote) : Type 0 where
  pub there : at.0 < length (nodes k)
  pub are_kids : kids k at.0 ≡ Some (at.1, at.2)
  pub case : n.case ≡ k
  pub node : n.node ≡ at.0
  pub seen : n.seen ≡ no_counts (job k)
  pub given : from ≡ l
  pub left_given : left_from ≡ left_low
  pub right_given : right_from ≡ right_low
  pub hangs : Hangs n l
  pub tells : Tells n []
  pub left : Lets Left n u
  pub right : Lets Right n v
  pub left_end : EndStarts u left_low
  pub right_end : EndStarts v right_low
  pub left_starts : StartsAt k at.1 left_low
  pub right_starts : StartsAt k at.2 right_low
  pub left_later : at.0 < at.1
  pub right_later : at.0 < at.2
