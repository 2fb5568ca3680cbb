-- The shares of the nodes.
use Rattle.std.specs.Prelude.{◌≡◌, ℕ, Option, Some, None, List, [], length, slice_get}
use Rattle.flu_model.specs.declared.events.Itag.{Itag}
use Rattle.flu_model.specs.declared.jobs.Program.{Program}
use Rattle.flu_model.specs.declared.plans.Node.{Node}
use Rattle.flu_model.specs.Owners.{owns, ancestors_own}
use Rattle.flu_tables.specs.declared.shares.Share.{Share}
use Rattle.flu_tables.specs.Lists.{itags_where}

-- the itags that are listed in it
abbrev pub own_of : Option Share → List Itag
own_of None = []
own_of (Some share) = share.own.items

abbrev pub above_of : Option Share → List Itag
above_of None = []
above_of (Some share) = share.above.items

-- it is node w's
pub record IsShareOf (p : Program) (nodes : List Node) (w : ℕ) (share : Share) : Type 0 where
  pub own : share.own.items ≡ itags_where p (owns p nodes w)
  pub above : share.above.items ≡ itags_where p (ancestors_own p nodes w)

-- they are those of all nodes
pub record AreShares (p : Program) (nodes : List Node) (shares : List Share) : Type 0 where
  pub one_each : length shares ≡ length nodes
  pub of_nodes : (w : ℕ) (share : Share) → slice_get shares w ≡ Some share → IsShareOf p nodes w share
