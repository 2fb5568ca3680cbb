-- Names that are the files of sources.
use Rattle.std.proofs.Common.{◌≡◌, ◌+◌, ◌<◌, refl, sym, ap, ◌∙◌, subst, ℕ, length, get_or, string_bytes, String}
use Rattle.std.proofs.Common.{List, [], ◌∷◌, Bool, true, false, Option, Some, None, cond, map, inl, inr}
use Rattle.std.specs.Prelude.{◌||◌, ◌&&◌, not, if◌then◌else◌, Contains, position, option_map, slice_index_or}
use Rattle.std.specs.List.{list_any, cons_option}
use Rattle.std.specs.Str.{bytes_eq}
use Rattle.std.proofs.lemmas.Bool.{false≢true}
use Rattle.std.specs.Global.{Global}
use Rattle.std.proofs.lemmas.List.{get_or-map}
use Rattle.std.proofs.lemmas.Map.Views.{Contains-from_any}
use Rattle.std.proofs.lemmas.Option.{get_or_from_slice_get}
use Rattle.std.proofs.lemmas.Slice.Eq.{bytes_eq-Decides}
use Rattle.flu_lemmas.proofs.Containing.{contains_none, contains_cases}
use Rattle.flu_lemmas.proofs.Places.{position-cons, position_passes}
use Rattle.flu_model.specs.declared.jobs.Program.{Program}
use Rattle.flu_model.specs.declared.jobs.Source.{Source}
use Rattle.flu_model.specs.Rules.{is_clock}
use Rattle.flu_streams.specs.Files.{files_of}
use Rattle.flu_selected.specs.Selecting.{is_among}
use Rattle.flu_parts.specs.Causes.{has_file, is_file_of}
use Rattle.flu_parts.specs.Written.{AreNoSources}

-- ---- what a search tells
not_both : (i : ℕ) → Some i ≡ None → ⊥
not_both i e = cc

rest_none : (o : Option ℕ) → option_map (λ (i : ℕ). i + 1) o ≡ None → o ≡ None
rest_none None e = refl
rest_none (Some i) e = absurd (cc)

-- where no place is found, no element passes
pub none_passes : {X : Type 0} (p : X → Bool) (xs : List X) → position p xs ≡ None → list_any p xs ≡ false
none_passes p [] none = refl
none_passes p (x ∷ xs) none = by_test (p x) refl (none_passes p xs)
  where
    by_test : (b : Bool) → p x ≡ b → (position p xs ≡ None → list_any p xs ≡ false) → list_any p (x ∷ xs) ≡ false
    by_test true here later = absurd (not_both 0
        (sym (ap (λ (b : Bool). cond b (Some 0) (option_map (λ (i : ℕ). i + 1) (position p xs))) here) ∙ sym (position-cons p x xs) ∙ none))
    by_test false other later =
        ap (λ (b : Bool). b || list_any p xs) other
        ∙ later (rest_none (position p xs)
        (sym (ap (λ (b : Bool). cond b (Some 0) (option_map (λ (i : ℕ). i + 1) (position p xs))) other) ∙ sym (position-cons p x xs) ∙ none))

or_true : (b : Bool) → (b || true) ≡ true
or_true true = refl
or_true false = refl

-- an element that passes is among those that do
any_at : {X : Type 0} (p : X → Bool) (xs : List X) (x : X) → Contains xs x → p x ≡ true → list_any p xs ≡ true
any_at p [] x there passes = absurd (contains_none x there)
any_at p (y ∷ ys) x there passes = elim (contains_cases y x ys there) [
  | inl same ↦ ap (λ (b : Bool). b || list_any p ys) (ap p same ∙ passes)
  | inr later ↦ ap (λ (b : Bool). p y || b) (any_at p ys x later passes) ∙ or_true (p y)
]

pub among : (names : List (List ℕ)) (name : List ℕ) → Contains names name → is_among names name ≡ true
among names name there = any_at (bytes_eq name) names name there ((bytes_eq-Decides name name).1 refl)

pub among_there : (names : List (List ℕ)) (name : List ℕ) → is_among names name ≡ true → Contains names name
among_there names name is = Contains-from_any (λ x y same. (bytes_eq-Decides x y).0 same) name names is

-- ---- files of sources
-- a name is among the files where a source has it
pub among_files : (sources : List Source) (name : List ℕ) → is_among (files_of sources) name ≡ is_file_of sources name
among_files [] name = refl
among_files (s ∷ rest) name = by (is_clock s) (among_files rest name)
  where
    by : (clock : Bool) → is_among (files_of rest) name ≡ is_file_of rest name
        → is_among (cons_option (if clock then None else Some s.file) (files_of rest)) name ≡ (not clock && bytes_eq name s.file || is_file_of rest name)
    by true later = later
    by false later = ap (λ (b : Bool). bytes_eq name s.file || b) later

found_file : (sources : List Source) (name : List ℕ) → Contains (files_of sources) name → is_file_of sources name ≡ true
found_file sources name there = sym (among_files sources name) ∙ among (files_of sources) name there

-- no name is the file of a source where none is found
pub no_sources : (names : List (List ℕ)) (p : Program) → position (is_file_of p.sources) names ≡ None → AreNoSources names p
no_sources names p none name named file =
    false≢true (sym (none_passes (is_file_of p.sources) names none) ∙ any_at (is_file_of p.sources) names name named (found_file p.sources name file))

-- a name that is found to be the file of a source has such a source
pub source_found : (names : List (List ℕ)) (sources : List Source) (place : ℕ) (name : List ℕ) → position (is_file_of sources) names ≡ Some place
    → slice_index_or names place [] ≡ name → position (has_file name) sources ≡ None → ⊥
source_found names sources place name found is none =
    let passed = position_passes (is_file_of sources) names place found in
    let same : passed.0 ≡ name = sym (get_or_from_slice_get names place passed.0 [] passed.1) ∙ is in
    false≢true (sym (none_passes (has_file name) sources none) ∙ subst (λ (n : List ℕ). is_file_of sources n ≡ true) same passed.2)

-- ---- strings
pub none_as_texts : (names : List (String Global)) → map string_bytes names ≡ [] → names ≡ []
none_as_texts [] none = refl
none_as_texts (name ∷ names) none = absurd cc

pub bytes_at : (names : List (String Global)) (place : ℕ) (name : String Global) → place < length names → name ≡ get_or names place name
    → slice_index_or (map string_bytes names) place [] ≡ string_bytes name
bytes_at names place name lt is = get_or-map string_bytes names place name [] lt ∙ ap string_bytes (sym is)
