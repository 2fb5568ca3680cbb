-- The actions of an event's kind fit.
use Rattle.std.proofs.Common.{◌≡◌, ℕ, zero, suc, Bool, true, false, List, [], ◌∷◌, refl}
use Rattle.std.specs.Prelude.{slice_get}
use Rattle.std.specs.List.{list_all}
use Rattle.flu_model.specs.declared.jobs.Family.{Family}
use Rattle.flu_model.specs.declared.jobs.Kind.{Kind}
use Rattle.flu_model.specs.Updates.{actions_of}
use Rattle.flu_model.specs.Rules.{kind_fits, action_fits}
use Rattle.flu_lemmas.proofs.Tests.{and_left, and_right}

pub found_fits : (families : List Family) (kinds : List Kind) (n : ℕ) → list_all (kind_fits families) kinds ≡ true
    → (keyed : Bool) × ((has_value : Bool) × (list_all (action_fits families keyed has_value) (actions_of (slice_get kinds n)) ≡ true))
found_fits families [] n e = (false, (false, refl))
found_fits families (k ∷ ks) zero e = (k.keyed, (k.has_value, and_right _ _ (and_left _ _ e)))
found_fits families (k ∷ ks) (suc n) e = found_fits families ks n (and_right _ _ e)
