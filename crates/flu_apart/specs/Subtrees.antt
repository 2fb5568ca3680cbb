-- The subtree of a node: what its tables have for each itag.
use Rattle.std.specs.Prelude.{◌≡◌, ℕ, ◌<◌, Bool, false, List, slice_index_or}
use Rattle.flu_model.specs.declared.events.Tag.{Tag}
use Rattle.flu_model.specs.declared.jobs.Program.{Program}
use Rattle.flu_model.specs.declared.plans.Node.{Node}
use Rattle.flu_model.specs.Itags.{count_of_itags}
use Rattle.flu_model.specs.Listing.{tag}
use Rattle.flu_deps.specs.Validated.{plan_of}
use Rattle.flu_apart.specs.declared.classes.Subtree.{Subtree}
use Rattle.flu_apart.specs.Classes.{tag_at, inside}

-- the job, the nodes of the plan, and the node
abbrev pub job : Subtree → Program
job s = s.program.now

abbrev pub nodes : Subtree → List Node
nodes s = (plan_of s.valid.now).nodes

abbrev pub node : Subtree → ℕ
node s = s.node

-- two tables have for each itag before n its tag, and whether it is of the subtree
pub record HasItags (p : Program) (plan : List Node) (w : ℕ) (table : List Tag) (there : List Bool) (n : ℕ) : Type 0 where
  pub tags : (i : ℕ) → i < n → slice_index_or table i (tag 0 0) ≡ tag_at p i
  pub inside : (i : ℕ) → i < n → slice_index_or there i false ≡ inside p plan w i

-- the tables have that for all itags of the job
abbrev pub IsSubtree : Subtree → Type 0
IsSubtree s = HasItags (job s) (nodes s) (node s) s.tags s.inside (count_of_itags (job s))
