-- What the tables hold.
use Rattle.std.specs.Prelude.{◌≡◌, ℕ, Bool, List, slice_get}
use Rattle.flu_model.specs.declared.events.Itag.{Itag}
use Rattle.flu_model.specs.declared.jobs.Program.{Program}
use Rattle.flu_model.specs.declared.plans.Node.{Node}
use Rattle.flu_model.specs.Owners.{owns, ancestors_own}
use Rattle.flu_deps.specs.Dependencies.{itags_depend}
use Rattle.flu_tables.specs.declared.shares.Share.{Share}
use Rattle.flu_tables.specs.Lists.{itags_where}
use Rattle.flu_tables.specs.LoopShares.{own_of, above_of}
use Rattle.flu_tables.specs.LoopRows.{place_in}

-- of every number of a node, and of any two numbers of itags
pub record AreTold (p : Program) (nodes : List Node) (shares : List Share) (count : ℕ) (rows : List (List Bool)) : Type 0 where
  pub own : (w : ℕ) → own_of (slice_get shares w) ≡ itags_where p (owns p nodes w)
  pub above : (w : ℕ) → above_of (slice_get shares w) ≡ itags_where p (ancestors_own p nodes w)
  pub depend : (i j : Itag) → place_in rows count i j ≡ itags_depend p i j
