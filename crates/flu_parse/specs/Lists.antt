-- Written lists of names, and which of them name keys and items.
use Rattle.std.specs.Prelude.{ℕ, not, List, [], ◌∷◌, ◌++◌, length, position, Option, Some, None, Ok}
use Rattle.std.specs.List.{list_any}
use Rattle.std.specs.Str.{bytes_eq}
use Rattle.flu_model.specs.declared.jobs.Family.{Family}
use Rattle.flu_model.specs.declared.limits.What.TheVariants.{Names}
use Rattle.flu_model.specs.Erasure.{PlainKind}
use Rattle.flu_model.specs.ListRules.{is_listed_text}
use Rattle.flu_text.specs.declared.written.WrittenSpan.{WrittenSpan}
use Rattle.flu_syntax.specs.declared.tree.WrittenBy.{WrittenBy}
use Rattle.flu_layout.specs.Spelling.{name_of, inside}
use Rattle.flu_parse.specs.declared.faults.JobFault.TheVariants as f
use Rattle.flu_parse.specs.Faults.{Found, ◌>>=◌, ◌>>◌, unless, room, each}
use Rattle.flu_parse.specs.Naming.{Naming, is_version_3, known}

-- ---- the texts of a list

-- one more text, of at most 65,536, which is none of those before it
unfoldable pub with_text : List ℕ → List (List ℕ) → WrittenSpan → Found (List (List ℕ))
with_text text done s = do
  unless (is_listed_text (inside text s)) (f.WrongShape s.from)
  room Names 65536 (length done)
  unless (not (list_any (bytes_eq (inside text s)) done)) (f.TwiceNamed s.from)
  Ok (done ++ inside text s ∷ [])

abbrev pub texts_of : List ℕ → List WrittenSpan → Found (List (List ℕ))
texts_of text texts = each (with_text text) [] texts

-- ---- what a list names

-- the number of the list that is named, if one is; only version 3 has lists
abbrev pub list_of : List ℕ → Naming → Option WrittenBy → Found (Option ℕ)
list_of text n None = Ok None
list_of text n (Some by) = do
  unless (is_version_3 n) (f.WrongShape by.at)
  number ← known by.list.from (position (bytes_eq (name_of text by.list)) n.lists)
  Ok (Some number)

-- families, or kinds, each with its list
abbrev pub listed_families : List Family → List (Option ℕ) → List Family
listed_families [] ls = []
listed_families (family ∷ families) [] = family ∷ families
listed_families (family ∷ families) (l ∷ ls) = record family { list = l } ∷ listed_families families ls

abbrev pub listed_kinds : List PlainKind → List (Option ℕ) → List PlainKind
listed_kinds [] ls = []
listed_kinds (kind ∷ kinds) [] = kind ∷ kinds
listed_kinds (kind ∷ kinds) (l ∷ ls) = record kind { list = l } ∷ listed_kinds kinds ls
