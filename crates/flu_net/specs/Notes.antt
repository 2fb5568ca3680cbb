-- What contracts see of a net.
use Rattle.std.specs.Prelude.{ℕ, Bool, Option, Some, None, List, slice_get}
use Rattle.flu_model.specs.declared.events.Out.{Out}
use Rattle.flu_fork.specs.declared.content.Content.{Content}
use Rattle.flu_fork.specs.declared.lots.Ask.{Ask}
use Rattle.flu_fork.specs.Lots.{kids}
use Rattle.flu_worker.specs.declared.hand.Side.{Side}
use Rattle.flu_worker.specs.Hands.{at_side}
use Rattle.flu_worker.specs.Notes.{WorkerNote}
use Rattle.flu_net.specs.declared.edges.Edge.{Edge}
use Rattle.flu_net.specs.declared.edges.Edge.TheVariants.{Home, Lent, Held, Asked, Given}

pub record NetNote : Type 0 where
  pub case : Content
  -- whether memory ran out in a step: such a net must be discarded
  pub gone : Bool
  -- how many items of each itag are seen
  pub seen : List ℕ
  -- the workers and the edges by their nodes; the edge of a node is the one above it, and the root's is always Home
  pub workers : List WorkerNote
  pub edges : List Edge
  -- what was emitted
  pub outs : List Out

-- the child of a node at a side, if the node has children
abbrev pub side_of : Side → Option (ℕ × ℕ) → Option ℕ
side_of s None = None
side_of s (Some pair) = Some (at_side s pair.0 pair.1)

abbrev pub kid_of : Content → ℕ → Side → Option ℕ
kid_of k w s = side_of s (kids k w)

-- the edge to that child
abbrev pub edge_at : List Edge → Option ℕ → Option Edge
edge_at edges None = None
edge_at edges (Some v) = slice_get edges v

abbrev pub edge_below : NetNote → ℕ → Side → Option Edge
edge_below n w s = edge_at n.edges (kid_of n.case w s)

-- what is asked over an edge
abbrev pub asked_over : Option Edge → Option Ask
asked_over None = None
asked_over (Some Home) = None
asked_over (Some (Lent lot)) = None
asked_over (Some Held) = None
asked_over (Some (Asked y)) = Some y
asked_over (Some (Given lot)) = None

-- what is asked of a worker
abbrev pub asked_of : NetNote → ℕ → Option Ask
asked_of n w = asked_over (slice_get n.edges w)
