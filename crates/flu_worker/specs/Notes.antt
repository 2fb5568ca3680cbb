-- What contracts see of a worker.
use Rattle.std.specs.Prelude.{ℕ, Option, List}
use Rattle.flu_fork.specs.declared.content.Content.{Content}
use Rattle.flu_fork.specs.declared.lots.Ask.{Ask}
use Rattle.flu_fork.specs.Classes.{Itags, own, below, above}
use Rattle.flu_fork.specs.Lots.{job, nodes}
use Rattle.flu_fork.specs.Serving.{LotCounts}
use Rattle.flu_worker.specs.declared.hand.Hand.{Hand}
use Rattle.flu_worker.specs.declared.hand.Side.{Side}
use Rattle.flu_worker.specs.declared.hand.Side.TheVariants.{Left, Right}
use Rattle.flu_worker.specs.declared.holding.Holding.{Holding}

pub record WorkerNote : Type 0 where
  -- the case that it works on, and its node of the plan
  pub case : Content
  pub node : ℕ
  -- what it has in its hand: its shape and the lots; and its target, if it keeps one
  pub hand : Hand
  pub holding : Holding
  pub kept : Option Ask
  -- how many items of each itag it has seen, and how many events it has counted
  pub seen : List ℕ
  pub counts : List ℕ
  -- the counts of the lot held last, and the upto of the lot given last
  pub held : LotCounts
  pub given : List ℕ
  -- the counts of the part lent last to each child, and the upto of the lot taken last from each
  pub lent_left : LotCounts
  pub lent_right : LotCounts
  pub taken_left : List ℕ
  pub taken_right : List ℕ

abbrev pub lent_to : Side → WorkerNote → LotCounts
lent_to Left n = n.lent_left
lent_to Right n = n.lent_right

abbrev pub taken_from : Side → WorkerNote → List ℕ
taken_from Left n = n.taken_left
taken_from Right n = n.taken_right

-- the itags of the worker's node, of the nodes above it, and of its subtree
abbrev pub own_of : WorkerNote → Itags
own_of n = own (job n.case) (nodes n.case) n.node

abbrev pub above_of : WorkerNote → Itags
above_of n = above (job n.case) (nodes n.case) n.node

abbrev pub below_of : WorkerNote → Itags
below_of n = below (job n.case) (nodes n.case) n.node
