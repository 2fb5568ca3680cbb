-- The words of the two commands of partials.
use Rattle.std.specs.Prelude.{ℕ, ◌+◌, ◌≡◌, nat_lt, List, [], ◌∷◌, ◌++◌, Bool, false, not, ◌&&◌, ◌||◌, IsTrue, if◌then◌else◌, Option, Some, None, Result, Ok, Err}
use Rattle.std.specs.Prelude.{map, string_bytes, codes}
use Rattle.std.specs.List.{list_any}
use Rattle.std.specs.Str.{bytes_eq}
use Rattle.flu_words.specs.declared.parts.PartCommand.{PartCommand as NamedPart}
use Rattle.flu_words.specs.declared.parts.PartCommand.TheVariants as named
use Rattle.flu_words.specs.Words.{is_file_name, both_and_rest, command_in}

-- what the words ask for, with the names of its files, and that of the node whose partial is written
pub data PartCommand : Type 0 where
  Partial : (job plan node : List ℕ) → PartCommand
  Combine : (job plan : List ℕ) → (partials : List (List ℕ)) → PartCommand

-- a command without the places of its names in memory
abbrev pub plain_part : NamedPart → PartCommand
plain_part (named.Partial job plan node) = Partial job.now plan.now node.now
plain_part (named.Combine job plan partials) = Combine job.now plan.now (map string_bytes partials.now)

-- whether the first word is one of the two commands
abbrev pub is_part_call : List (List ℕ) → Bool
is_part_call [] = false
is_part_call (w ∷ ws) = bytes_eq w (codes "partial") || bytes_eq w (codes "combine")

-- NODE in the words after PLAN: one word, which could also name a file
abbrev pub partial_of : List ℕ → List ℕ → List (List ℕ) → Result PartCommand ℕ
partial_of job plan [] = Err 3
partial_of job plan (node ∷ []) = if is_file_name node then Ok (Partial job plan node) else Err 3
partial_of job plan (node ∷ w ∷ ws) = if is_file_name node then Err 4 else Err 3

-- a word that names a file, which none of the earlier words names
abbrev pub is_new_file : List (List ℕ) → List ℕ → Bool
is_new_file earlier w = is_file_name w && not (list_any (bytes_eq w) earlier)

-- The place of the first word that is not one more FILE. The words stand from the place `at` on, behind JOB, PLAN and the FILEs so far, which
-- are `earlier`. The first FILE stands at 3, so a 65th would stand at 67.
abbrev pub first_misfit : List (List ℕ) → ℕ → List (List ℕ) → Option ℕ
first_misfit earlier at [] = None
first_misfit earlier at (w ∷ ws) =
    if nat_lt at 67 && is_new_file earlier w then first_misfit (earlier ++ w ∷ []) (at + 1) ws else Some at

abbrev pub unless_misfit : Option ℕ → PartCommand → Result PartCommand ℕ
unless_misfit None command = Ok command
unless_misfit (Some at) command = Err at

-- the FILEs in the words after PLAN: at least one, and no word that is none
abbrev pub combine_of : List ℕ → List ℕ → List (List ℕ) → Result PartCommand ℕ
combine_of job plan [] = Err 3
combine_of job plan (w ∷ ws) = unless_misfit (first_misfit (job ∷ plan ∷ []) 3 (w ∷ ws)) (Combine job plan (w ∷ ws))

-- a command whose first two names, JOB and PLAN, are these, from the words after them
abbrev pub on_names : (List ℕ → List ℕ → List (List ℕ) → Result PartCommand ℕ) → Result (List ℕ × List ℕ × List (List ℕ)) ℕ → Result PartCommand ℕ
on_names command (Ok begun) = command begun.0 begun.1 begun.2
on_names command (Err at) = Err at

abbrev pub part_of : List ℕ → List (List ℕ) → Result PartCommand ℕ
part_of w ws =
    if bytes_eq w (codes "partial") then on_names partial_of (both_and_rest ws)
    else if bytes_eq w (codes "combine") then on_names combine_of (both_and_rest ws) else Err 0

-- the command that words are: `partial JOB PLAN NODE` or `combine JOB PLAN FILE ..`; or the number from 0 of the first word that does not
-- fit, which is the number of words if one is missing
abbrev pub part_in : List (List ℕ) → Result PartCommand ℕ
part_in [] = Err 0
part_in (w ∷ ws) = part_of w ws

-- LAW OF LANGUAGES: words that begin with a command of partials are none of the other commands
abbrev pub LanguagesAreApart : Type 0
LanguagesAreApart = (words : List (List ℕ)) → IsTrue (is_part_call words) → command_in words ≡ Err 0
