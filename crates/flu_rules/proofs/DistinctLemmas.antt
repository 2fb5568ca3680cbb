-- Lists whose elements all differ, one list behind another, and names and files that are met again.
use Rattle.std.proofs.Common.{◌≡◌, ◌<◌, ◌+◌, ◌-◌, ℕ, List, [], ◌∷◌, ◌++◌, map, length, take, drop, get_or, ap, refl, sym, ◌∙◌}
use Rattle.std.specs.Prelude.{◌&&◌, ◌||◌, not, Bool, true, false}
use Rattle.std.specs.List.{list_any, filter_map}
use Rattle.std.proofs.lemmas.List.Folds.{list_any-append}
use Rattle.std.proofs.lemmas.List.{drop_more}
use Rattle.flu_model.specs.declared.jobs.Family.{Family}
use Rattle.flu_model.specs.declared.jobs.Kind.{Kind}
use Rattle.flu_model.specs.declared.jobs.Source.{Source}
use Rattle.flu_model.specs.Numberings.{Numbering}
use Rattle.flu_model.specs.Rules.{is_same_text, have_own_names, have_own_files, is_clock, file_of_source}
use Rattle.flu_rules.specs.Names.{names_of}
use Rattle.flu_lemmas.proofs.Searches.{list_any-map, rest_whole}

-- a name is one of all where a family, a kind, a source or a list has it
pub declared : (name : List ℕ) (lists : List Numbering) (families : List Family) (kinds : List Kind) (sources : List Source)
    → list_any (is_same_text name) (names_of lists families kinds sources)
    ≡ (list_any (λ family. is_same_text name family.name) families || list_any (λ kind. is_same_text name kind.name) kinds
    || list_any (λ source. is_same_text name source.name) sources || list_any (λ list. is_same_text name list.name) lists)
declared name lists families kinds sources =
    let family_names = map (λ (f : Family). f.name) families in
    let kind_names = map (λ (k : Kind). k.name) kinds in
    let source_names = map (λ (s : Source). s.name) sources in
    let list_names = map (λ (l : Numbering). l.name) lists in
    list_any-append (is_same_text name) (family_names ++ kind_names ++ source_names) list_names
    ∙ ap (λ b. b || list_any (is_same_text name) list_names) (
    list_any-append (is_same_text name) (family_names ++ kind_names) source_names
    ∙ ap (λ b. b || list_any (is_same_text name) source_names) (list_any-append (is_same_text name) family_names kind_names)
    ∙ ap (λ b. b || list_any (is_same_text name) kind_names || list_any (is_same_text name) source_names)
    (list_any-map (is_same_text name) (λ (f : Family). f.name) families)
    ∙ ap (λ b. list_any (λ (f : Family). is_same_text name f.name) families || b || list_any (is_same_text name) source_names)
    (list_any-map (is_same_text name) (λ (k : Kind). k.name) kinds)
    ∙ ap (λ b. list_any (λ (f : Family). is_same_text name f.name) families || list_any (λ (k : Kind). is_same_text name k.name) kinds || b)
    (list_any-map (is_same_text name) (λ (s : Source). s.name) sources)
    )
    ∙ ap (λ b. list_any (λ (f : Family). is_same_text name f.name) families || list_any (λ (k : Kind). is_same_text name k.name) kinds
    || list_any (λ (s : Source). is_same_text name s.name) sources || b)
    (list_any-map (is_same_text name) (λ (l : Numbering). l.name) lists)

-- the list from a place on: what stands there, and the rest, as a slice from the next place gives it
pub from_place : {X : Type 0} (xs : List X) (i : ℕ) (x : X) → i < length xs → x ≡ get_or xs i x → drop i xs ≡ x ∷ take (length xs - (i + 1)) (drop (i + 1) xs)
from_place xs i x lt is = drop_more xs i x lt ∙ ap (λ y. y ∷ drop (i + 1) xs) (sym is) ∙ ap (λ ys. x ∷ ys) (sym (rest_whole xs (i + 1)))

pub families_step : (lists : List Numbering) (families : List Family) (kinds : List Kind) (sources : List Source) (i : ℕ) (family : Family) (name : List ℕ)
    → i < length families
    → family ≡ get_or families i family → name ≡ family.name
    → have_own_names lists (drop i families) kinds sources
    ≡ (not (list_any (is_same_text name) (names_of lists (take (length families - (i + 1)) (drop (i + 1) families)) kinds sources))
    && have_own_names lists (drop (i + 1) families) kinds sources)
families_step lists families kinds sources i family name lt is named =
    let rest = take (length families - (i + 1)) (drop (i + 1) families) in
    ap (λ fs. have_own_names lists fs kinds sources) (from_place families i family lt is)
    ∙ ap (λ n. not (list_any (is_same_text n) (names_of lists rest kinds sources)) && have_own_names lists rest kinds sources) (sym named)
    ∙ ap (λ fs. not (list_any (is_same_text name) (names_of lists rest kinds sources)) && have_own_names lists fs kinds sources) (rest_whole families (i + 1))

pub kinds_step : (lists : List Numbering) (kinds : List Kind) (sources : List Source) (i : ℕ) (kind : Kind) (name : List ℕ) → i < length kinds
    → kind ≡ get_or kinds i kind
    → name ≡ kind.name
    → have_own_names lists [] (drop i kinds) sources
    ≡ (not (list_any (is_same_text name) (names_of lists [] (take (length kinds - (i + 1)) (drop (i + 1) kinds)) sources))
    && have_own_names lists [] (drop (i + 1) kinds) sources)
kinds_step lists kinds sources i kind name lt is named =
    let rest = take (length kinds - (i + 1)) (drop (i + 1) kinds) in
    ap (λ ks. have_own_names lists [] ks sources) (from_place kinds i kind lt is)
    ∙ ap (λ n. not (list_any (is_same_text n) (names_of lists [] rest sources)) && have_own_names lists [] rest sources) (sym named)
    ∙ ap (λ ks. not (list_any (is_same_text name) (names_of lists [] rest sources)) && have_own_names lists [] ks sources) (rest_whole kinds (i + 1))

pub sources_step : (lists : List Numbering) (sources : List Source) (i : ℕ) (source : Source) (name : List ℕ) → i < length sources
    → source ≡ get_or sources i source
    → name ≡ source.name
    → have_own_names lists [] [] (drop i sources)
    ≡ (not (list_any (is_same_text name) (names_of lists [] [] (take (length sources - (i + 1)) (drop (i + 1) sources))))
    && have_own_names lists [] [] (drop (i + 1) sources))
sources_step lists sources i source name lt is named =
    let rest = take (length sources - (i + 1)) (drop (i + 1) sources) in
    ap (λ ss. have_own_names lists [] [] ss) (from_place sources i source lt is)
    ∙ ap (λ n. not (list_any (is_same_text n) (names_of lists [] [] rest)) && have_own_names lists [] [] rest) (sym named)
    ∙ ap (λ ss. not (list_any (is_same_text name) (names_of lists [] [] rest)) && have_own_names lists [] [] ss) (rest_whole sources (i + 1))

pub lists_step : (lists : List Numbering) (i : ℕ) (list : Numbering) (name : List ℕ) → i < length lists → list ≡ get_or lists i list → name ≡ list.name
    → have_own_names (drop i lists) [] [] []
    ≡ (not (list_any (λ (other : Numbering). is_same_text name other.name) (take (length lists - (i + 1)) (drop (i + 1) lists)))
    && have_own_names (drop (i + 1) lists) [] [] [])
lists_step lists i list name lt is named =
    let rest = take (length lists - (i + 1)) (drop (i + 1) lists) in
    ap (λ ls. have_own_names ls [] [] []) (from_place lists i list lt is)
    ∙ ap (λ b. not b && have_own_names rest [] [] []) (list_any-map (is_same_text list.name) (λ (l : Numbering). l.name) rest)
    ∙ ap (λ n. not (list_any (λ (other : Numbering). is_same_text n other.name) rest) && have_own_names rest [] [] []) (sym named)
    ∙ ap (λ ls. not (list_any (λ (other : Numbering). is_same_text name other.name) rest) && have_own_names ls [] [] []) (rest_whole lists (i + 1))

-- a source that is no clock has the file
abbrev has_file : List ℕ → Source → Bool
has_file file s = not (is_clock s) && is_same_text file s.file

read_one : (file : List ℕ) (s : Source) (sources : List Source) (b : Bool) → is_clock s ≡ b
    → list_any (is_same_text file) (filter_map file_of_source sources) ≡ list_any (has_file file) sources
    → list_any (is_same_text file) (filter_map file_of_source (s ∷ sources)) ≡ list_any (has_file file) (s ∷ sources)
read_one file s sources true is behind = rw is behind
read_one file s sources false is behind = rw is (ap (λ b. is_same_text file s.file || b) behind)

pub read_again : (file : List ℕ) (sources : List Source) → list_any (is_same_text file) (filter_map file_of_source sources) ≡ list_any (has_file file) sources
read_again file [] = refl
read_again file (s ∷ sources) = read_one file s sources (is_clock s) refl (read_again file sources)

-- a source and those behind it
read_once : (s : Source) (sources : List Source)
    → have_own_files (s ∷ sources)
    ≡ (not (not (is_clock s) && list_any (is_same_text s.file) (filter_map file_of_source sources)) && have_own_files sources)
read_once s sources = by (is_clock s) refl
  where
    by : (b : Bool) → is_clock s ≡ b
        → have_own_files (s ∷ sources)
        ≡ (not (not (is_clock s) && list_any (is_same_text s.file) (filter_map file_of_source sources)) && have_own_files sources)
    by true is = rw is refl
    by false is = rw is refl

pub files_step : (sources : List Source) (i : ℕ) (source : Source) (file : List ℕ) → i < length sources → source ≡ get_or sources i source → file ≡ source.file
    → have_own_files (drop i sources)
    ≡ (not (not (is_clock source) && list_any (is_same_text file) (filter_map file_of_source (take (length sources - (i + 1)) (drop (i + 1) sources))))
    && have_own_files (drop (i + 1) sources))
files_step sources i source file lt is filed =
    let rest = take (length sources - (i + 1)) (drop (i + 1) sources) in
    ap (λ ss. have_own_files ss) (from_place sources i source lt is)
    ∙ read_once source rest
    ∙ ap (λ n. not (not (is_clock source) && list_any (is_same_text n) (filter_map file_of_source rest)) && have_own_files rest) (sym filed)
    ∙ ap (λ ss. not (not (is_clock source) && list_any (is_same_text file) (filter_map file_of_source rest)) && have_own_files ss) (rest_whole sources (i + 1))

-- a source that is no clock is asked for, and a clock is not
pub asks_file : (clock again b : Bool) → clock ≡ false → again ≡ b → (not clock && again) ≡ b
asks_file clock again b is e = rw is e

pub asks_no_file : (clock again : Bool) → clock ≡ true → (not clock && again) ≡ false
asks_no_file clock again is = rw is refl
