-- The nodes of a plan, and the owners of itags in a table.
use Rattle.std.specs.Prelude.{◌≡◌, ℕ, ◌<◌, Option, Some, None, List, slice_get, slice_index}
use Rattle.flu_model.specs.declared.events.Itag.{Itag}
use Rattle.flu_model.specs.declared.jobs.Program.{Program}
use Rattle.flu_model.specs.declared.plans.Node.{Node}
use Rattle.flu_model.specs.Itags.{count_of_itags}
use Rattle.flu_model.specs.Owners.{owner_of}
use Rattle.flu_model.specs.Validity.{IsValid}

abbrev pub kids_of : Option Node → Option (ℕ × ℕ)
kids_of None = None
kids_of (Some node) = node.kids

-- the children of node w, if it exists and has some
abbrev pub kids_at : List Node → ℕ → Option (ℕ × ℕ)
kids_at nodes w = kids_of (slice_get nodes w)

-- a plan is valid for a job, and a table has the owner of each itag of the job at its number
pub record HasOwners (p : Program) (nodes : List Node) (table : List ℕ) : Type 0 where
  pub valid : IsValid p nodes
  pub owner : (i : Itag) → i.0 < count_of_itags p → owner_of p nodes i ≡ Some (slice_index table i.0)
