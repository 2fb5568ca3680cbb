-- Lists of names: texts that a job numbers from 0, by which rows and texts call items and keys.
use Rattle.std.specs.Prelude.{ℕ, Option, option_and_then, unwrap_or, List, position, slice_get}
use Rattle.std.specs.Fmt.{decimal}
use Rattle.std.specs.Str.{bytes_eq}

-- WHAT A LIST SAYS: its own name, and the texts that it numbers, in their order
pub record Numbering : Type 0 where
  pub name : List ℕ
  pub texts : List (List ℕ)

-- the text of a number, where the list has one
abbrev pub text_at : Numbering → ℕ → Option (List ℕ)
text_at l n = slice_get l.texts n

-- the number of a text, where it is in the list
abbrev pub number_of : Numbering → List ℕ → Option ℕ
number_of l text = position (bytes_eq text) l.texts

-- the list that is meant, if one is
abbrev pub list_at : List Numbering → Option ℕ → Option Numbering
list_at lists l = option_and_then (λ number. slice_get lists number) l

-- A NUMBER AS IT IS SHOWN: by its name in the list that is meant, or as a number where there is none
abbrev pub shown_number : List Numbering → Option ℕ → ℕ → List ℕ
shown_number lists l n = unwrap_or (option_and_then (λ list. text_at list n) (list_at lists l)) (decimal n)
