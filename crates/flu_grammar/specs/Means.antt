-- Notions of which the meanings of texts are made.
use Rattle.std.specs.Prelude.{◌≡◌, ℕ, Bool, true, List, Option, Some, None, slice_get, codes}

-- no two elements are the same
abbrev pub AllDiffer : {X : Type 0} → List X → Type 0
AllDiffer {X} xs = (i j : ℕ) (x : X) → slice_get xs i ≡ Some x → slice_get xs j ≡ Some x → i ≡ j

-- what is written means this, and nothing is meant if nothing is written
abbrev pub IfWritten : {W X : Type 0} → (W → X → Type 0) → Option W → Option X → Type 0
IfWritten Means None None = Unit {0}
IfWritten Means None (Some x) = ⊥
IfWritten Means (Some w) None = ⊥
IfWritten Means (Some w) (Some x) = Means w x

-- the element of this number has the name
abbrev pub IsNamed : {X : Type 0} → (X → List ℕ) → List X → List ℕ → ℕ → Type 0
IsNamed {X} name_of xs name number = (x : X) × (slice_get xs number ≡ Some x) × (name_of x ≡ name)

-- what a term, a text or an action stands under: the version of the language, and what the kind of its `on` has
pub record Under : Type 0 where
  pub version : ℕ
  pub keyed : Bool
  pub has_item : Bool
  pub has_value : Bool

-- `item` may be used: in version 3, under a kind with items
abbrev pub HasItems : Under → Type 0
HasItems under = (under.version ≡ 3) × (under.has_item ≡ true)

-- in version 3 the word `item` means the event's item where a cell, or which one of a family, may be named
abbrev pub IsItemWord : ℕ → List ℕ → Type 0
IsItemWord version word = (version ≡ 3) × (word ≡ codes "item")
