-- Words are one command at most, and then have no fault; and what is not there has no name.
use Rattle.std.proofs.Common.{◌≡◌, sym, ◌∙◌, ℕ, List, Option, Some, None, Ok, Err}
use Rattle.flu_words.specs.Words.{Command, command_in}

pub same_command : (words : List (List ℕ)) (a b : Command) → command_in words ≡ Ok a → command_in words ≡ Ok b → a ≡ b
same_command words a b first second = let e = sym first ∙ second in cc

pub no_command : (words : List (List ℕ)) (command : Command) (at : ℕ) → command_in words ≡ Ok command → command_in words ≡ Err at → ⊥
no_command words command at is bad = let e = sym is ∙ bad in cc

pub not_named : (o : Option (List ℕ)) (name : List ℕ) → o ≡ None → o ≡ Some name → ⊥
not_named o name none named = let e = sym none ∙ named in cc
