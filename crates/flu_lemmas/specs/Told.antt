-- Facts about two values, which are known or are not.
use Rattle.std.specs.Prelude.{Option, Some, None, ⊤}

-- a fact about the values before and after, of which both are known or neither is
abbrev pub WhereTold : {A : Type 0} → Option A → Option A → (A → A → Type 0) → Type 0
WhereTold None None P = ⊤
WhereTold None (Some b) P = ⊥
WhereTold (Some a) None P = ⊥
WhereTold (Some a) (Some b) P = P a b
