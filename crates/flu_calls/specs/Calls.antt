-- WHAT A CALL OF THE PROGRAM DOES: where its words begin with a part command, what `flu_parts` says of such a call, and else what `flu_top` says.
use Rattle.std.specs.Prelude.{ℕ, List, Bool, true, false, Option}
use Rattle.flu_outside.specs.Outside.{Contents}
use Rattle.flu_words.specs.Parts.{is_part_call}
use Rattle.flu_command.specs.Outside.{Outside, Faults}
use Rattle.flu_top.specs.Outcome.{Outcome, ReadOnly, FaultsFirst, HidesNothing, Completes}
use Rattle.flu_parts.specs.Outcome.{PartOutcome, PartReadOnly, PartFaultsFirst, PartHidesNothing}
use Rattle.flu_parts.specs.Calling.{PartCompletes}

-- the first of two facts if a test is true, and else the second
abbrev pub Chosen : Bool → Type 0 → Type 0 → Type 0
Chosen true A B = A
Chosen false A B = B

-- THE OUTCOME: what the status says about the words, about what the files held and hold, and about what out and err got
abbrev pub CallOutcome : List (List ℕ) → Outside → Outside → ℕ → Type 0
CallOutcome words old new number = Chosen (is_part_call words) (PartOutcome words old new number) (Outcome words old new number)

-- what was read
abbrev pub CallReadOnly : List (List ℕ) → Option Contents → Option Contents → ℕ → Type 0
CallReadOnly words old new status = Chosen (is_part_call words) (PartReadOnly words old new) (ReadOnly words old new status)

-- the faults of the outside
abbrev pub CallFaultsFirst : List (List ℕ) → Option Contents → Faults → Faults → ℕ → Type 0
CallFaultsFirst words left before now status =
    Chosen (is_part_call words) (PartFaultsFirst words left before now status) (FaultsFirst words left before now status)

-- a read fault hides nothing
abbrev pub CallHidesNothing : List (List ℕ) → Option Contents → Option Contents → Faults → Faults → ℕ → Type 0
CallHidesNothing words old new before now status =
    Chosen (is_part_call words) (PartHidesNothing words old new before now status) (HidesNothing words old new before now status)

-- if nothing failed, the status is the one that the words and the files call for, or the one for out of memory
abbrev pub CallCompletes : List (List ℕ) → Option Contents → Faults → Faults → ℕ → Type 0
CallCompletes words told before now status =
    Chosen (is_part_call words) (PartCompletes words told before now status) (Completes words told before now status)
