-- The amounts of a state, family by family, and when amounts are the same.
use Rattle.std.proofs.Common.{◌≡◌, ℕ, suc, ◌+◌, ◌++◌, ◌∷◌, List, [], map, ap, sym, subst, ◌∙◌, append-nil, zero-add, arith}
use Rattle.std.specs.Prelude.{◌==◌, ◌&&◌}
use Rattle.std.specs.Bool.{Decides}
use Rattle.std.specs.List.{flat_map, range_with_len}
use Rattle.std.specs.Ordering.{int_eq}
use Rattle.std.proofs.lemmas.Bool.Decides.{Decides-int_eq}
use Rattle.std.proofs.lemmas.Grind.{flat_map-append}
use Rattle.std.proofs.lemmas.List.{map-append}
use Rattle.flu_lemmas.proofs.Elements.{all_append}
use Rattle.flu_lemmas.proofs.Ranges.{range_append}
use Rattle.flu_lemmas.proofs.Searches.{eq_true}
use Rattle.flu_lemmas.proofs.Tests.{and_left, and_right, both, true_eq}
use Rattle.flu_model.specs.declared.events.Cell.{Cell}
use Rattle.flu_model.specs.Contents.{Contents, cell, held_keys}
use Rattle.flu_partial.specs.declared.values.Amount.{Amount}
use Rattle.flu_save.specs.Checkpoint.{cells_of_family, HasWordWidth}
use Rattle.flu_save.specs.Widths.{HaveWordWidth, AllHaveWordWidth}
use Rattle.flu_handover.specs.Parts.{amount_of}

-- the cells of the first families
abbrev pub first_cells : Contents → ℕ → List Cell
first_cells s n = flat_map (cells_of_family s) (range_with_len 0 n)

next_cells : (s : Contents) (i : ℕ) → first_cells s (i + 1) ≡ first_cells s i ++ cells_of_family s i
next_cells s i =
    ap (flat_map (cells_of_family s)) (range_append 0 i 1)
    ∙ ap (λ n. flat_map (cells_of_family s) (range_with_len 0 i ++ n ∷ [])) (zero-add i)
    ∙ flat_map-append (cells_of_family s) (range_with_len 0 i) (i ∷ [])
    ∙ ap (λ cs. first_cells s i ++ cs) (append-nil (cells_of_family s i))

pub next_family : (s : Contents) (i : ℕ) (old new : List Amount) → old ≡ map (amount_of s) (first_cells s i)
    → new ≡ old ++ map (amount_of s) (cells_of_family s i) → new ≡ map (amount_of s) (first_cells s (i + 1))
next_family s i old new was is =
    is ∙ ap (λ xs. xs ++ map (amount_of s) (cells_of_family s i)) was
    ∙ sym (ap (map (amount_of s)) (next_cells s i) ∙ map-append (amount_of s) (first_cells s i) (cells_of_family s i))

-- ---- the width of values
by_index : (s : Contents) (f : ℕ) (ks : List ℕ) → HaveWordWidth s f ks → AllHaveWordWidth s (map (cell f) ks)
by_index s f [] h = tt
by_index s f (k ∷ ks) h = (h 0 (omega arith), by_index s f ks (λ i lt. h (suc i) (omega (arith, lt))))

pub next_width : (s : Contents) (i : ℕ) → AllHaveWordWidth s (first_cells s i) → HaveWordWidth s i (held_keys s i) → AllHaveWordWidth s (first_cells s (i + 1))
next_width s i before here =
    subst (AllHaveWordWidth s) (sym (next_cells s i))
    (all_append (λ (c : Cell). HasWordWidth (s c)) (first_cells s i) (cells_of_family s i) before (by_index s i (held_keys s i) here))

-- ---- two amounts are the same where their families, keys and values are
pub amounts_decide : (a b : Amount) → Decides (((a.cell.family == b.cell.family) && (a.cell.key == b.cell.key)) && int_eq a.value b.value) (a ≡ b)
amounts_decide a b =
    let family = a.cell.family == b.cell.family in
    let key = a.cell.key == b.cell.key in
    let value = int_eq a.value b.value in (
      λ t.
          let cell = and_left (family && key) value t in
          let families = true_eq a.cell.family b.cell.family (and_left family key cell) in
          let keys = true_eq a.cell.key b.cell.key (and_right family key cell) in
          let values = (Decides-int_eq a.value b.value).0 (and_right (family && key) value t) in
          λ i. record { cell = record { family = families i; key = keys i }; value = values i },
      λ e.
          both (family && key) value
          (both family key (eq_true a.cell.family b.cell.family (ap (λ (x : Amount). x.cell.family) e))
          (eq_true a.cell.key b.cell.key (ap (λ (x : Amount). x.cell.key) e)))
          ((Decides-int_eq a.value b.value).1 (ap (λ (x : Amount). x.value) e)),
    )
