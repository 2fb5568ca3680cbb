-- Owners in a valid plan.
use Rattle.std.specs.Prelude.{◌≡◌, ◌↔◌, ℕ, ◌<◌, true, Some, List, length}
use Rattle.flu_model.specs.declared.events.Itag.{Itag}
use Rattle.flu_model.specs.declared.jobs.Program.{Program}
use Rattle.flu_model.specs.declared.plans.Node.{Node}
use Rattle.flu_model.specs.Itags.{count_of_itags}
use Rattle.flu_model.specs.Owners.{owns, owner_of}
use Rattle.flu_model.specs.Validity.{IsValid}

-- the owner of an itag: a node, and the only one that owns it
pub record IsOwned (p : Program) (nodes : List Node) (i : Itag) : Type 0 where
  pub owner : ℕ
  pub is : owner_of p nodes i ≡ Some owner
  pub there : owner < length nodes
  pub alone : (w : ℕ) → (owns p nodes w i ≡ true) ↔ (owner_of p nodes i ≡ Some w)

-- OWNERS: each itag has an owner, and a node owns it exactly if the node is its owner
abbrev pub ItagsAreOwned : Type 0
ItagsAreOwned = (p : Program) (nodes : List Node) (i : Itag) → IsValid p nodes → i.0 < count_of_itags p → IsOwned p nodes i
