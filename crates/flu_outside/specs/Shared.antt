-- Names that are not there share one count.
use Rattle.std.proofs.Common.{◌≡◌, ◌∙◌, refl, sym, ℕ, List, Option, Some, None}
use Rattle.std.specs.Prelude.{IsSome, option_map}
use Rattle.std.specs.Option.{option_map_or}
use Rattle.flu_outside.specs.Outside.{ShareOneCount}

-- if nothing is found, the count is the one for missing names
absent_count : {X : Type 0} (rest : X → List ℕ) (count : X → ℕ) (missing : ℕ) (found : Option X) → ¬ IsSome (option_map rest found)
    → option_map_or count found missing ≡ missing
absent_count rest count missing None absent = refl
absent_count rest count missing (Some x) absent = absurd (absent refl)

pub share_one_count : {X : Type 0} (rest : X → List ℕ) (count : X → ℕ) (missing : ℕ) (found : List ℕ → Option X)
    → ShareOneCount (Some (λ n. option_map rest (found n))) (λ n. option_map_or count (found n) missing)
share_one_count rest count missing found a b no_a no_b = absent_count rest count missing (found a) no_a
    ∙ sym (absent_count rest count missing (found b) no_b)
