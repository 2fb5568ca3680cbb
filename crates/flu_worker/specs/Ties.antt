-- TIES of worker, edge and lot: how a worker relates to the edge above it and to those below it.
--
-- An edge of the tree is seen from two sides: from below by the worker whose lot goes over it, and from above by the worker of the parent node. What an edge is,
-- part of a net's state or a link between two threads, is left open here: only where it has the lot, what is asked over it, and the counts of lots are used.
use Rattle.std.specs.Prelude.{◌≡◌, ℕ, true, false, Some, List, slice_index}
use Rattle.flu_fork.specs.declared.lots.Ask.{Ask}
use Rattle.flu_fork.specs.Serving.{AsksAbove, LotCounts}
use Rattle.flu_worker.specs.declared.hand.Side.{Side}
use Rattle.flu_worker.specs.Hands.{is_open, is_out, may_take}
use Rattle.flu_worker.specs.Notes.{WorkerNote, lent_to, taken_from}

-- ---- from below

-- the lot is away from the worker below, or with it, or asked back from it for an event
pub data FromBelow : Type 0 where
  Away : FromBelow
  Here : FromBelow
  AskedFor : Ask → FromBelow

-- an ask names the next event, by the lot held, of an itag above the node
pub record IsAsked (n : WorkerNote) (y : Ask) : Type 0 where
  pub opened : is_open n.hand ≡ true
  pub above : AsksAbove n.case n.node y
  pub next : y.index ≡ slice_index n.held.upto y.itag.0

-- THE EDGE ABOVE: the worker has its lot, or parts of it are out, if the edge has the lot below
abbrev pub HangsFrom : WorkerNote → FromBelow → Type 0
HangsFrom n Away = is_open n.hand ≡ false
HangsFrom n Here = is_open n.hand ≡ true
HangsFrom n (AskedFor y) = IsAsked n y

-- ---- from above

-- the part is with the worker above, or it was lent, or it is asked back for an event and has not come back
pub data FromAbove : Type 0 where
  AtHome : FromAbove
  LentOut : FromAbove
  Recalled : Ask → FromAbove

-- a part is asked back for the target that the worker keeps
pub record IsRecalled (s : Side) (n : WorkerNote) (y : Ask) : Type 0 where
  pub take : may_take s n.hand ≡ true
  pub kept : n.kept ≡ Some y

-- THE EDGE BELOW, at a side: the part is out if the edge does not have it above
abbrev pub LetsTo : Side → WorkerNote → FromAbove → Type 0
LetsTo s n AtHome = is_out s n.hand ≡ false
LetsTo s n LentOut = is_out s n.hand ≡ true
LetsTo s n (Recalled y) = IsRecalled s n y

-- THE LOTS over it: the counts of the one lent last, and the upto of the one given last, are those that the worker knows
pub record IsLoan (s : Side) (n : WorkerNote) (down : LotCounts) (up : List ℕ) : Type 0 where
  pub lent : down ≡ lent_to s n
  pub given : up ≡ taken_from s n
