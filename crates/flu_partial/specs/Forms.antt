-- Which bytes are the line of a head, and which of a contribution; and which faults they have else.
use Rattle.std.specs.Prelude.{◌≡◌, ℕ, ◌+◌, ◌<◌, ◌≤◌, Some, List, length, IsUtf8, ⊤}
use Rattle.serde_json.specs.Data.{Data}
use Rattle.serde_json.specs.Read.{read}
use Rattle.flu_partial.specs.declared.fault.LineFault.{LineFault}
use Rattle.flu_partial.specs.declared.fault.LineFault.TheVariants.{OverLimit, NotJson, WrongForm, NoMemory}
use Rattle.flu_partial.specs.declared.values.PartialHead.{PartialHead}
use Rattle.flu_partial.specs.declared.values.Contribution.{Contribution}
use Rattle.flu_partial.specs.Partial.{head_text, contribution_text, IsHead, IsContribution}

-- how many bytes a line may have, without its line feed
abbrev pub most_bytes : ℕ
most_bytes = 536870912

abbrev pub IsShort : List ℕ → Type 0
IsShort bytes = length bytes ≤ most_bytes

-- the bytes are UTF-8 and a JSON text of this value
abbrev pub IsJsonOf : List ℕ → Data → Type 0
IsJsonOf bytes d = IsUtf8 bytes × (read bytes ≡ Some d)

-- THE LINE OF A HEAD, without its line feed: just its text
pub record IsHeadLine (h : PartialHead) (bytes : List ℕ) : Type 0 where
  pub short : IsShort bytes
  pub utf8 : IsUtf8 bytes
  pub head : IsHead h
  pub text : bytes ≡ head_text h

-- THE LINE OF A CONTRIBUTION, without its line feed: just its text
pub record IsContributionLine (c : Contribution) (bytes : List ℕ) : Type 0 where
  pub short : IsShort bytes
  pub utf8 : IsUtf8 bytes
  pub contribution : IsContribution c
  pub text : bytes ≡ contribution_text c

-- WHY BYTES ARE NO LINE of what was wanted: in this order, each if no earlier one applies
abbrev pub IsFaultOf : {X : Type 0} → (X → List ℕ → Type 0) → List ℕ → LineFault → Type 0
IsFaultOf IsLine bytes (OverLimit count) = (most_bytes < length bytes) × (count ≡ most_bytes + 1)
IsFaultOf IsLine bytes NotJson = IsShort bytes × ((d : Data) → IsJsonOf bytes d → ⊥)
IsFaultOf {X} IsLine bytes WrongForm = IsShort bytes × ((d : Data) × IsJsonOf bytes d) × ((x : X) → IsLine x bytes → ⊥)
IsFaultOf IsLine bytes NoMemory = ⊤
