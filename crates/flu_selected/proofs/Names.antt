-- Which files are closed: those of the sources that are not read, and no others, since sources have files of their own. A clock has none.
use Rattle.std.proofs.Common.{◌≡◌, ℕ, ◌∙◌, refl, sym, ap, subst, Bool, true, false, not, List, [], ◌∷◌, ◌++◌, length, append_assoc}
use Rattle.std.specs.Prelude.{◌||◌, Option, Some, None, if◌then◌else◌}
use Rattle.std.specs.List.{list_any, filter_map, AllByRecursion, cons_option}
use Rattle.std.specs.Str.{bytes_eq}
use Rattle.std.proofs.lemmas.Bool.{or_parts}
use Rattle.std.proofs.lemmas.List.Folds.{list_any-append}
use Rattle.std.proofs.lemmas.Slice.Eq.{bytes_eq-Decides}
use Rattle.flu_lemmas.proofs.Booleans.{or_true}
use Rattle.flu_lemmas.proofs.Elements.{all_of_both}
use Rattle.flu_lemmas.proofs.Tests.{and_left, and_right, not_true, false_if_not}
use Rattle.flu_model.specs.declared.jobs.Source.{Source}
use Rattle.flu_model.specs.declared.jobs.Program.{Program}
use Rattle.flu_model.specs.Rules.{is_same_text, are_distinct, is_clock}
use Rattle.flu_streams.specs.Before.{with_before, each_with_before}
use Rattle.flu_streams.specs.Clocks.{Declared}
use Rattle.flu_streams.specs.Files.{files_of}
use Rattle.flu_selected.specs.Laws.{closed_file, closed_files}
use Rattle.flu_selected.specs.Selecting.{is_among}

-- the file of a source, if it has one, is closed exactly where the source is not read
abbrev pub ClosesFile : (ℕ → Bool) → List (List ℕ) → Declared → Type 0
ClosesFile is_read names e = is_clock e.1 ≡ false → is_among names e.1.file ≡ not (is_read (length e.0))

abbrev pub ClosesOthers : (ℕ → Bool) → List (List ℕ) → List Declared → Type 0
ClosesOthers is_read names numbered = AllByRecursion (ClosesFile is_read names) numbered

itself : (name : List ℕ) → bytes_eq name name ≡ true
itself name = (bytes_eq-Decides name name).1 refl

turned_false : (a b : List ℕ) → bytes_eq a b ≡ false → bytes_eq b a ≡ false
turned_false a b e =
    false_if_not (bytes_eq b a) (λ same. let is : b ≡ a = (bytes_eq-Decides b a).0 same in
    let other : bytes_eq a b ≡ true = (bytes_eq-Decides a b).1 (sym is) in cc)

-- what differs from the files of all of some sources is not among the closed ones of them
apart_more : (name : List ℕ) (b : Bool) (file : Option (List ℕ)) (names closed : List (List ℕ)) → list_any (bytes_eq name) (cons_option file names) ≡ false
    → (list_any (bytes_eq name) names ≡ false → is_among closed name ≡ false) → is_among (cons_option (if b then None else file) closed) name ≡ false
apart_more name true None names closed none later = later none
apart_more name false None names closed none later = later none
apart_more name true (Some file) names closed none later = later (or_parts (bytes_eq name file) (list_any (bytes_eq name) names) none).1
apart_more name false (Some file) names closed none later =
    let both = or_parts (bytes_eq name file) (list_any (bytes_eq name) names) none in rw both.0 (later both.1)

apart : (is_read : ℕ → Bool) (name : List ℕ) (before sources : List Source) → list_any (bytes_eq name) (files_of sources) ≡ false
    → is_among (filter_map (closed_file is_read) (with_before before sources)) name ≡ false
apart is_read name before [] none = refl
apart is_read name before (s ∷ rest) none =
    apart_more name (is_read (length before)) (if is_clock s then None else Some s.file) (files_of rest)
    (filter_map (closed_file is_read) (with_before (before ++ s ∷ []) rest)) none (apart is_read name (before ++ s ∷ []) rest)

-- none of some sources has this file
first_apart : (name file : List ℕ) (clock : Bool) (names : List (List ℕ)) → list_any (bytes_eq name) (cons_option (if clock then None else Some file) names) ≡ false
    → (clock ≡ false → bytes_eq file name ≡ false) × (list_any (bytes_eq name) names ≡ false)
first_apart name file true names none = ((λ is. absurd cc), none)
first_apart name file false names none =
    let both = or_parts (bytes_eq name file) (list_any (bytes_eq name) names) none in ((λ is. turned_false name file both.0), both.1)

all_apart : (name : List ℕ) (sources : List Source) → list_any (bytes_eq name) (files_of sources) ≡ false
    → AllByRecursion (λ (s : Source). is_clock s ≡ false → bytes_eq s.file name ≡ false) sources
all_apart name [] none = tt
all_apart name (s ∷ rest) none = let both = first_apart name s.file (is_clock s) (files_of rest) none in (both.0, all_apart name rest both.1)

one_more : (names : List (List ℕ)) (name file : List ℕ) → is_among names file ≡ false → bytes_eq file name ≡ false → is_among (names ++ name ∷ []) file ≡ false
one_more names name file none other = rw (list_any-append (bytes_eq file) names (name ∷ []), none, other) refl

-- these names are none of the files of some sources
abbrev AreApart : List (List ℕ) → List Source → Type 0
AreApart names sources = AllByRecursion (λ (s : Source). is_clock s ≡ false → is_among names s.file ≡ false) sources

-- of a source and the later ones, where these names come before their closed files
closes_more : (is_read : ℕ → Bool) (names : List (List ℕ)) (before : List Source) (s : Source) (rest : List Source) (b clock : Bool) → is_clock s ≡ clock
    → (is_clock s ≡ false → is_among names s.file ≡ false) → AreApart names rest
    → are_distinct is_same_text (cons_option (if clock then None else Some s.file) (files_of rest)) ≡ true
    → ((more : List (List ℕ)) → AreApart more rest → are_distinct is_same_text (files_of rest) ≡ true
    → ClosesOthers is_read (more ++ filter_map (closed_file is_read) (with_before (before ++ s ∷ []) rest)) (with_before (before ++ s ∷ []) rest))
    → (is_clock s ≡ false
    → is_among (names ++ cons_option (if b then None else (if clock then None else Some s.file))
    (filter_map (closed_file is_read) (with_before (before ++ s ∷ []) rest))) s.file ≡ not b)
    × ClosesOthers is_read (names ++ cons_option (if b then None else (if clock then None else Some s.file))
    (filter_map (closed_file is_read) (with_before (before ++ s ∷ []) rest)))
    (with_before (before ++ s ∷ []) rest)
closes_more is_read names before s rest true true ticks here none distinct later = ((λ file. absurd cc), later names none distinct)
closes_more is_read names before s rest false true ticks here none distinct later = ((λ file. absurd cc), later names none distinct)
closes_more is_read names before s rest true false ticks here none distinct later =
    let closed = filter_map (closed_file is_read) (with_before (before ++ s ∷ []) rest) in
    let other = not_true (list_any (is_same_text s.file) (files_of rest))
    (and_left (not (list_any (is_same_text s.file) (files_of rest))) (are_distinct is_same_text (files_of rest)) distinct) in
    let more = and_right (not (list_any (is_same_text s.file) (files_of rest))) (are_distinct is_same_text (files_of rest)) distinct in (
      (λ file. rw (list_any-append (bytes_eq s.file) names closed, here file, apart is_read s.file (before ++ s ∷ []) rest other) refl),
      later names none more,
    )
closes_more is_read names before s rest false false ticks here none distinct later =
    let closed = filter_map (closed_file is_read) (with_before (before ++ s ∷ []) rest) in
    let other = not_true (list_any (is_same_text s.file) (files_of rest))
    (and_left (not (list_any (is_same_text s.file) (files_of rest))) (are_distinct is_same_text (files_of rest)) distinct) in
    let more = and_right (not (list_any (is_same_text s.file) (files_of rest))) (are_distinct is_same_text (files_of rest)) distinct in
    let apart_now : AreApart (names ++ s.file ∷ []) rest =
    all_of_both (λ (t : Source). is_clock t ≡ false → is_among names t.file ≡ false) (λ (t : Source). is_clock t ≡ false → bytes_eq t.file s.file ≡ false)
    (λ (t : Source). is_clock t ≡ false → is_among (names ++ s.file ∷ []) t.file ≡ false) rest (λ t a b file. one_more names s.file t.file (a file) (b file))
    none (all_apart s.file rest other) in
    let there : is_among (names ++ s.file ∷ closed) s.file ≡ true =
    list_any-append (bytes_eq s.file) names (s.file ∷ closed) ∙ ap (λ b. is_among names s.file || (b || is_among closed s.file)) (itself s.file)
    ∙ or_true (is_among names s.file) in (
      (λ file. there),
      subst (λ all. ClosesOthers is_read all (with_before (before ++ s ∷ []) rest)) (append_assoc names (s.file ∷ []) closed)
          (later (names ++ s.file ∷ []) apart_now more),
    )

closes : (is_read : ℕ → Bool) (names : List (List ℕ)) (before sources : List Source) → AreApart names sources
    → are_distinct is_same_text (files_of sources) ≡ true
    → ClosesOthers is_read (names ++ filter_map (closed_file is_read) (with_before before sources)) (with_before before sources)
closes is_read names before [] none distinct = tt
closes is_read names before (s ∷ rest) none distinct =
    closes_more is_read names before s rest (is_read (length before)) (is_clock s) refl none.0 none.1 distinct
    (λ more apart_more. closes is_read more (before ++ s ∷ []) rest apart_more)

none_before : (sources : List Source) → AreApart [] sources
none_before [] = tt
none_before (s ∷ rest) = ((λ file. refl), none_before rest)

pub closes_others : (p : Program) (is_read : ℕ → Bool) → ClosesOthers is_read (closed_files p is_read) (each_with_before p.sources)
closes_others p is_read = closes is_read [] [] p.sources (none_before p.sources) p.own_files
