-- The owner of an itag.
use Rattle.std.proofs.Common.{◌≡◌, ℕ, Some, List, inl, inr, sym, ap, ◌∙◌}
use Rattle.std.specs.Prelude.{◌==◌}
use Rattle.std.proofs.lemmas.Bool.{cases_eq, ne_eqb}
use Rattle.flu_lemmas.proofs.Searches.{eq_true}
use Rattle.flu_lemmas.proofs.Tests.{false_if_not}
use Rattle.flu_model.specs.declared.events.Itag.{Itag}
use Rattle.flu_model.specs.declared.jobs.Program.{Program}
use Rattle.flu_model.specs.declared.plans.Node.{Node}
use Rattle.flu_model.specs.Owners.{owns, owner_of}
use Rattle.flu_deps.specs.Owners.{IsOwned}

-- the owner is the node that owns the itag
pub owner_tells : (p : Program) (nodes : List Node) (w v : ℕ) (i : Itag) → IsOwned p nodes i → owner_of p nodes i ≡ Some v
    → (v == w) ≡ owns p nodes w i
owner_tells p nodes w v i owned is =
    elim (cases_eq v w) [
      | inl same ↦ eq_true v w same ∙ sym ((owned.alone w).1 (is ∙ ap (λ n. Some n) same))
      | inr other ↦ ne_eqb v w other ∙ sym (false_if_not _ (λ h. other (of_some v w (sym is ∙ (owned.alone w).0 h))))
    ]
  where
    of_some : (a b : ℕ) → Some a ≡ Some b → a ≡ b
    of_some a b e = cc
