-- Names that are met again, and the search for a word that is not one more file.
use Rattle.std.proofs.Common.{◌≡◌, ℕ, ◌+◌, ◌<◌, ◌≤◌, Bool, true, false, List, ◌∷◌, Option, Some, map, length, take, drop, get_or, ap, sym, ◌∙◌, arith}
use Rattle.std.specs.Prelude.{◌&&◌, nat_lt, if◌then◌else◌}
use Rattle.std.specs.List.{list_any}
use Rattle.std.specs.Str.{bytes_eq}
use Rattle.std.proofs.lemmas.List.{drop_more, map_more}
use Rattle.std.proofs.lemmas.Grind.{common_steps}
use Rattle.flu_lemmas.proofs.Searches.{list_any-map}
use Rattle.flu_words.specs.Parts.{first_misfit, is_new_file}

-- a word is one of the names of some things if one of these has it as its name
pub among_names : {X : Type 0} (word : List ℕ) (name : X → List ℕ) (xs : List X)
    → list_any (bytes_eq word) (map name xs) ≡ list_any (λ x. bytes_eq word (name x)) xs
among_names word name xs = list_any-map (bytes_eq word) name xs

-- whether there is room for the word at a place, which is that of a new file
abbrev pub is_one_more : {X : Type 0} → (X → List ℕ) → List ℕ → List ℕ → List X → ℕ → X → Bool
is_one_more name job plan files i file = nat_lt (3 + i) 67 && is_new_file (job ∷ plan ∷ map name (take i files)) (name file)

-- the search from a place on, with what stands before it
abbrev pub misfit_from : {X : Type 0} → (X → List ℕ) → List ℕ → List ℕ → List X → ℕ → Option ℕ
misfit_from name job plan files i = first_misfit (job ∷ plan ∷ map name (take i files)) (3 + i) (map name (drop i files))

misfit_step : {X : Type 0} (name : X → List ℕ) (job plan : List ℕ) (files : List X) (i : ℕ) (file : X) → i < length files → file ≡ get_or files i file
    → misfit_from name job plan files i
    ≡ (if is_one_more name job plan files i file then misfit_from name job plan files (i + 1) else Some (3 + i))
misfit_step name job plan files i file lt is =
    let here = map name (take i files) in
    let rest = map name (drop (i + 1) files) in
    let at = get_or files i file in
    let goes_on = λ (w : List ℕ) (earlier : List (List ℕ)) (place : ℕ). if nat_lt (3 + i) 67 && is_new_file (job ∷ plan ∷ here) w
    then first_misfit (job ∷ plan ∷ earlier) place rest else Some (3 + i) in
    ap (λ ws. first_misfit (job ∷ plan ∷ here) (3 + i) (map name ws)) (drop_more files i file lt)
    ∙ ap (λ earlier. goes_on (name at) earlier (3 + i + 1)) (sym (map_more name files i file lt))
    ∙ ap (λ w. goes_on w (map name (take (i + 1) files)) (3 + i + 1)) (sym (ap name is))
    ∙ ap (goes_on (name file) (map name (take (i + 1) files))) (omega arith)

-- the search ends at a word that is not one more file, and goes on behind one that is
pub ends_here : {X : Type 0} (name : X → List ℕ) (job plan : List ℕ) (files : List X) (i : ℕ) (file : X) (whole : Option ℕ) → i < length files
    → file ≡ get_or files i file → misfit_from name job plan files i ≡ whole → is_one_more name job plan files i file ≡ false → Some (3 + i) ≡ whole
ends_here name job plan files i file whole lt is kept none =
    ap (λ (b : Bool). if b then misfit_from name job plan files (i + 1) else Some (3 + i)) (sym none) ∙ sym (misfit_step name job plan files i file lt is) ∙ kept

pub goes_on : {X : Type 0} (name : X → List ℕ) (job plan : List ℕ) (files : List X) (i : ℕ) (file : X) (whole : Option ℕ) → i < length files
    → file ≡ get_or files i file → misfit_from name job plan files i ≡ whole → is_one_more name job plan files i file ≡ true
    → misfit_from name job plan files (i + 1) ≡ whole
goes_on name job plan files i file whole lt is kept more =
    ap (λ (b : Bool). if b then misfit_from name job plan files (i + 1) else Some (3 + i)) (sym more) ∙ sym (misfit_step name job plan files i file lt is) ∙ kept

-- there is room for 64 files
pub no_room : (i : ℕ) (fits : Bool) → 64 ≤ i → (nat_lt (3 + i) 67 && fits) ≡ false
no_room i fits many = grind (arith, common_steps)

pub no_file : (i : ℕ) (fits : Bool) → fits ≡ false → (nat_lt (3 + i) 67 && fits) ≡ false
no_file i fits none = grind (arith, common_steps)

pub room : (i : ℕ) (fits : Bool) → i < 64 → fits ≡ true → (nat_lt (3 + i) 67 && fits) ≡ true
room i fits few is = grind (arith, common_steps)
