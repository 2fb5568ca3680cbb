-- The value of a checkpoint: how its entries grow family by family, that it has no float, and how deep it nests.
use Rattle.std.proofs.Common.{◌≡◌, ℕ, suc, ◌+◌, ◌<◌, ◌≤◌, ◌++◌, ◌||◌, false, Option, Some, List, [], ◌∷◌, map, length, get_or, refl, sym, ap, subst, ◌∙◌, arith}
use Rattle.std.proofs.Common.{append-nil, zero-add}
use Rattle.std.specs.Prelude.{slice_get}
use Rattle.std.specs.List.{flat_map, range_with_len}
use Rattle.std.proofs.lemmas.Grind.{flat_map-append}
use Rattle.std.proofs.lemmas.List.{map-append}
use Rattle.std.proofs.lemmas.Simd.{map-map}
use Rattle.std.proofs.lemmas.Option.{slice_get-get_or}
use Rattle.serde_json.specs.Data.{Data, depth, items_depth}
use Rattle.serde_json.specs.Read.{max_depth}
use Rattle.serde_json.specs.View.{items_of}
use Rattle.serde_json.specs.Written.{has_float, items_have_float}
use Rattle.flu_lemmas.proofs.Elements.{all_append}
use Rattle.flu_lemmas.proofs.Ranges.{range_append}
use Rattle.flu_model.specs.declared.events.Cell.{Cell}
use Rattle.flu_model.specs.declared.jobs.Family.{Family}
use Rattle.flu_model.specs.declared.jobs.Program.{Program}
use Rattle.flu_model.specs.Contents.{Contents, cell, held_keys}
use Rattle.flu_model.specs.Templates.{family_name}
use Rattle.flu_save.specs.Checkpoint.{number_held, entry, entry_of, cells_of_family, cells_held, checkpoint, HasWordWidth}
use Rattle.flu_save.specs.Widths.{HaveWordWidth, AllHaveWordWidth}

-- the cells of the first families, and their entries
abbrev pub first_cells : Contents → ℕ → List Cell
first_cells s n = flat_map (cells_of_family s) (range_with_len 0 n)

abbrev pub first_entries : List Family → Contents → ℕ → List Data
first_entries families s n = map (entry_of families s) (first_cells s n)

next_cells : (s : Contents) (i : ℕ) → first_cells s (i + 1) ≡ first_cells s i ++ cells_of_family s i
next_cells s i =
    ap (flat_map (cells_of_family s)) (range_append 0 i 1)
    ∙ ap (λ n. flat_map (cells_of_family s) (range_with_len 0 i ++ n ∷ [])) (zero-add i)
    ∙ flat_map-append (cells_of_family s) (range_with_len 0 i) (i ∷ [])
    ∙ ap (λ cs. first_cells s i ++ cs) (append-nil (cells_of_family s i))

-- the entries of one family
abbrev pub family_entries : Family → Contents → ℕ → List Data
family_entries f s number = map (λ k. entry f.name k (number_held (s (cell number k)))) (held_keys s number)

named : (families : List Family) (s : Contents) (number : ℕ) (o : Option Family) (f : Family) → o ≡ Some f → (ks : List ℕ)
    → map (λ k. entry (family_name o) k (number_held (s (cell number k)))) ks ≡ map (λ k. entry f.name k (number_held (s (cell number k)))) ks
named families s number o f e ks = ap (λ (u : Option Family). map (λ k. entry (family_name u) k (number_held (s (cell number k)))) ks) e

of_family : (families : List Family) (s : Contents) (number : ℕ) (f : Family) → slice_get families number ≡ Some f
    → map (entry_of families s) (cells_of_family s number) ≡ family_entries f s number
of_family families s number f e = map-map (entry_of families s) (cell number) (held_keys s number)
    ∙ named families s number (slice_get families number) f e (held_keys s number)

pub next_family : (families : List Family) (s : Contents) (number i : ℕ) (f : Family) → number ≡ i → i < length families → f ≡ get_or families i f
    → first_entries families s i ++ family_entries f s number ≡ first_entries families s (i + 1)
next_family families s number i f same lt is =
    let there : slice_get families i ≡ Some f = slice_get-get_or families i f lt ∙ ap Some (sym is) in
    ap (λ n. first_entries families s i ++ family_entries f s n) same
    ∙ ap (λ ds. first_entries families s i ++ ds) (sym (of_family families s i f there))
    ∙ sym (ap (map (entry_of families s)) (next_cells s i) ∙ map-append (entry_of families s) (first_cells s i) (cells_of_family s i))

-- ---- the width of values
by_index : (s : Contents) (f : ℕ) (ks : List ℕ) → HaveWordWidth s f ks → AllHaveWordWidth s (map (cell f) ks)
by_index s f [] h = tt
by_index s f (k ∷ ks) h = (h 0 (omega arith), by_index s f ks (λ i lt. h (suc i) (omega (arith, lt))))

pub next_width : (s : Contents) (number i : ℕ) → number ≡ i → AllHaveWordWidth s (first_cells s i) → HaveWordWidth s number (held_keys s number)
    → AllHaveWordWidth s (first_cells s (i + 1))
next_width s number i same before here =
    let more = subst (λ n. AllHaveWordWidth s (cells_of_family s n)) same (by_index s number (held_keys s number) here) in
    subst (AllHaveWordWidth s) (sym (next_cells s i)) (all_append (λ (c : Cell). HasWordWidth (s c)) (first_cells s i) (cells_of_family s i) before more)

-- ---- no float, and no deep nesting
entries_without_float : (families : List Family) (s : Contents) (cs : List Cell) → items_have_float (items_of (map (entry_of families s) cs)) ≡ false
entries_without_float families s [] = refl
entries_without_float families s (c ∷ cs) = entries_without_float families s cs

pub without_float : (p : Program) (t : ℕ) (s : Contents) → has_float (checkpoint p t s) ≡ false
without_float p t s = ap (λ b. b || false) (entries_without_float p.families s (cells_held p.families s))

entries_depth : (families : List Family) (s : Contents) (cs : List Cell) → items_depth (items_of (map (entry_of families s) cs)) ≤ 1
entries_depth families s [] = omega arith
entries_depth families s (c ∷ cs) = omega (arith, entries_depth families s cs)

pub few_levels : (p : Program) (t : ℕ) (s : Contents) → depth (checkpoint p t s) ≤ max_depth
few_levels p t s = omega (arith, entries_depth p.families s (cells_held p.families s))
