-- Which words are whose, and what a call of them does.
use Rattle.std.specs.Prelude.{◌≡◌, ℕ, List, true, false, Option, Ok}
use Rattle.flu_outside.specs.Outside.{Contents}
use Rattle.flu_words.specs.Words.{Command, command_in}
use Rattle.flu_words.specs.Parts.{PartCommand, is_part_call, part_in}
use Rattle.flu_command.specs.Outside.{Outside, Faults}
use Rattle.flu_top.specs.Outcome.{Outcome, ReadOnly, FaultsFirst, HidesNothing, Completes}
use Rattle.flu_parts.specs.Outcome.{PartOutcome, PartReadOnly, PartFaultsFirst, PartHidesNothing}
use Rattle.flu_parts.specs.Calling.{PartCompletes}
use Rattle.flu_calls.specs.Calls.{CallOutcome, CallReadOnly, CallFaultsFirst, CallHidesNothing, CallCompletes}

-- ---- whose words they are
-- words that are one of the eight commands begin with no part command
abbrev pub CommandsAreNoPartCalls : Type 0
CommandsAreNoPartCalls = (words : List (List ℕ)) (command : Command) → command_in words ≡ Ok command → is_part_call words ≡ false

-- words that are a part command begin with one
abbrev pub PartCommandsArePartCalls : Type 0
PartCommandsArePartCalls = (words : List (List ℕ)) (command : PartCommand) → part_in words ≡ Ok command → is_part_call words ≡ true

-- ---- words that begin with no part command: what `flu_top` says of a call holds, and so does each of its laws
abbrev pub OthersHaveOutcomes : Type 0
OthersHaveOutcomes =
    (words : List (List ℕ)) (old new : Outside) (status : ℕ) → is_part_call words ≡ false
    → CallOutcome words old new status → Outcome words old new status

abbrev pub OthersAreRead : Type 0
OthersAreRead =
    (words : List (List ℕ)) (old new : Option Contents) (status : ℕ) → is_part_call words ≡ false
    → CallReadOnly words old new status → ReadOnly words old new status

abbrev pub OthersHaveFaultsFirst : Type 0
OthersHaveFaultsFirst =
    (words : List (List ℕ)) (left : Option Contents) (before now : Faults) (status : ℕ) → is_part_call words ≡ false
    → CallFaultsFirst words left before now status → FaultsFirst words left before now status

abbrev pub OthersHideNothing : Type 0
OthersHideNothing =
    (words : List (List ℕ)) (old new : Option Contents) (before now : Faults) (status : ℕ) → is_part_call words ≡ false
    → CallHidesNothing words old new before now status → HidesNothing words old new before now status

abbrev pub OthersComplete : Type 0
OthersComplete =
    (words : List (List ℕ)) (told : Option Contents) (before now : Faults) (status : ℕ) → is_part_call words ≡ false
    → CallCompletes words told before now status → Completes words told before now status

-- ---- words that begin with one: what `flu_parts` says of a call holds
abbrev pub PartsHaveOutcomes : Type 0
PartsHaveOutcomes =
    (words : List (List ℕ)) (old new : Outside) (status : ℕ) → is_part_call words ≡ true
    → CallOutcome words old new status → PartOutcome words old new status

abbrev pub PartsAreRead : Type 0
PartsAreRead =
    (words : List (List ℕ)) (old new : Option Contents) (status : ℕ) → is_part_call words ≡ true
    → CallReadOnly words old new status → PartReadOnly words old new

abbrev pub PartsHaveFaultsFirst : Type 0
PartsHaveFaultsFirst =
    (words : List (List ℕ)) (left : Option Contents) (before now : Faults) (status : ℕ) → is_part_call words ≡ true
    → CallFaultsFirst words left before now status → PartFaultsFirst words left before now status

abbrev pub PartsHideNothing : Type 0
PartsHideNothing =
    (words : List (List ℕ)) (old new : Option Contents) (before now : Faults) (status : ℕ) → is_part_call words ≡ true
    → CallHidesNothing words old new before now status → PartHidesNothing words old new before now status

abbrev pub PartsComplete : Type 0
PartsComplete =
    (words : List (List ℕ)) (told : Option Contents) (before now : Faults) (status : ℕ) → is_part_call words ≡ true
    → CallCompletes words told before now status → PartCompletes words told before now status
