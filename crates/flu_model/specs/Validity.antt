-- When a plan is valid for a job.
use Rattle.std.specs.Prelude.{◌≡◌, ℕ, ◌<◌, false, IsTrue, List, count_by}
use Rattle.flu_model.specs.declared.events.Itag.{Itag}
use Rattle.flu_model.specs.declared.jobs.Program.{Program}
use Rattle.flu_model.specs.declared.plans.Node.{Node}
use Rattle.flu_model.specs.Itags.{count_of_itags, tag_of_itag, is_dependent}
use Rattle.flu_model.specs.Owners.{node_owns, owns, are_related}

-- each itag has exactly one owner, and the itags of nodes of which neither is above the other are independent
pub record IsValid (p : Program) (nodes : List Node) : Type 0 where
  pub one_owner : (i : Itag) → i.0 < count_of_itags p → count_by (node_owns p i) nodes ≡ 1
  pub independent : (a b : ℕ) (i j : Itag) → i.0 < count_of_itags p → j.0 < count_of_itags p → IsTrue (owns p nodes a i) → IsTrue (owns p nodes b j)
      → are_related nodes a b ≡ false → is_dependent p (tag_of_itag p i) (tag_of_itag p j) ≡ false
