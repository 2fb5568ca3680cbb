-- The words of a command that combines name a partial.
use Rattle.std.proofs.Common.{◌≡◌, subst, ℕ, Bool, true, false, List, [], ◌∷◌, Option, Some, None, Result, Ok, Err, if◌then◌else◌}
use Rattle.std.specs.Prelude.{codes}
use Rattle.std.specs.Str.{bytes_eq}
use Rattle.flu_words.specs.Parts.{PartCommand, Partial, Combine, partial_of, combine_of, first_misfit, unless_misfit, on_names, part_in}
use Rattle.flu_words.specs.Words.{is_file_name, both_and_rest}
use Rattle.flu_parts.specs.Planned.{NamesSome}

-- what was read is this command
abbrev Gives : Result PartCommand ℕ → PartCommand → Type 0
Gives read command = read ≡ Ok command

of_same : (found command : PartCommand) → NamesSome found → Gives (Ok found) command → NamesSome command
of_same found command some is = let same : found ≡ command = cc in subst NamesSome same some

of_partial : (job plan : List ℕ) (ws : List (List ℕ)) (command : PartCommand) → Gives (partial_of job plan ws) command → NamesSome command
of_partial job plan [] command is = absurd cc
of_partial job plan (node ∷ []) command is = by (is_file_name node) is
  where
    by : (fits : Bool) → Gives (if fits then Ok (Partial job plan node) else Err 3) command → NamesSome command
    by true is = of_same (Partial job plan node) command tt is
    by false is = absurd cc
of_partial job plan (node ∷ w ∷ ws) command is = by (is_file_name node) is
  where
    by : (fits : Bool) → Gives (if fits then Err 4 else Err 3) command → NamesSome command
    by true is = absurd cc
    by false is = absurd cc

of_combine : (job plan : List ℕ) (ws : List (List ℕ)) (command : PartCommand) → Gives (combine_of job plan ws) command → NamesSome command
of_combine job plan [] command is = absurd cc
of_combine job plan (w ∷ ws) command is = by (first_misfit (job ∷ plan ∷ []) 3 (w ∷ ws)) is
  where
    by : (misfit : Option ℕ) → Gives (unless_misfit misfit (Combine job plan (w ∷ ws))) command → NamesSome command
    by None is = of_same (Combine job plan (w ∷ ws)) command (λ none. cc) is
    by (Some at) is = absurd cc

module _ (command : PartCommand) where
  of_names : (how : List ℕ → List ℕ → List (List ℕ) → Result PartCommand ℕ) (begun : Result (List ℕ × List ℕ × List (List ℕ)) ℕ)
      → ((job plan : List ℕ) (ws : List (List ℕ)) → Gives (how job plan ws) command → NamesSome command) → Gives (on_names how begun) command
      → NamesSome command
  of_names how (Ok begun) named is = named begun.0 begun.1 begun.2 is
  of_names how (Err at) named is = absurd cc

  pub some_named : (words : List (List ℕ)) → part_in words ≡ Ok command → NamesSome command
  some_named [] is = absurd cc
  some_named (w ∷ ws) is = by (bytes_eq w (codes "partial")) (bytes_eq w (codes "combine")) is
    where
      by : (is_partial is_combine : Bool)
          → Gives (if is_partial then on_names partial_of (both_and_rest ws) else if is_combine then on_names combine_of (both_and_rest ws) else Err 0) command
          → NamesSome command
      by true other is = of_names partial_of (both_and_rest ws) (λ job plan rest. of_partial job plan rest command) is
      by false true is = of_names combine_of (both_and_rest ws) (λ job plan rest. of_combine job plan rest command) is
      by false false is = absurd cc
