-- The opening state fits the root, and the two parts of what fits a node fit its children.
use Rattle.std.proofs.Common.{◌≡◌, ◌<◌, ℕ, Bool, true, false, cond, Some, None, List, length, map, inl, inr, refl, sym, ap, ◌∙◌, arith}
use Rattle.std.specs.Prelude.{nat_lt, slice_index}
use Rattle.std.specs.List.{range_with_len}
use Rattle.std.proofs.lemmas.Bool.{cases_Bool, cases_lt, not_from_false}
use Rattle.std.proofs.lemmas.Grind.{common_steps}
use Rattle.std.proofs.lemmas.List.{get_or_past}
use Rattle.std.proofs.lemmas.List.FromFn.{get_or-map-range_with_len, length-map-range_with_len}
use Rattle.flu_lemmas.proofs.Tests.{and_left, and_right, both, false_if_not, not_both, not_true}
use Rattle.flu_model.specs.declared.events.Cell.{Cell}
use Rattle.flu_model.specs.declared.jobs.Program.{Program}
use Rattle.flu_model.specs.Contents.{Contents}
use Rattle.flu_model.specs.Itags.{count_of_itags}
use Rattle.flu_deps.specs.Owned.{kids_at}
use Rattle.flu_deps.specs.Trees.{Siblings}
use Rattle.flu_laws.specs.Spans.{Moment, is_below}
use Rattle.flu_fork.specs.LawsBelow.{LawsBelow}
use Rattle.flu_fork.specs.Settings.{Setting, IsSetting, moments}
use Rattle.flu_fork.specs.Classes.{below, beside, is_moved, is_needed, is_base, is_away}
use Rattle.flu_fork.specs.Fitting.{Fits}
use Rattle.flu_fork.specs.Parts.{left_part, right_part}
use Rattle.flu_fork.specs.Laws.{no_counts, OpeningFits, PartsFit, ForksFit}
use Rattle.flu_fork.proofs.Sides.{left_and_right}
use Rattle.flu_fork.proofs.Cells.{not_needed_not_moved, root_base, left_base, right_base, all_needed_is_base, beside_across, beside_down, away_up}
use Rattle.flu_fork.proofs.Effects.{none_chosen, no_span}

-- ---- no counts
pub counts_at : (n : ℕ) (f : ℕ → ℕ) (i : ℕ) → i < n → slice_index (map f (range_with_len 0 n)) i ≡ f i
counts_at n f i lt = get_or-map-range_with_len f 0 n i i 0 lt (omega arith)

no_count : (p : Program) (i : ℕ) → slice_index (no_counts p) i ≡ 0
no_count p i =
    elim (cases_lt i (count_of_itags p)) [
      | inl lt ↦ counts_at (count_of_itags p) (λ j. 0) i lt
      | inr le ↦
          (let size : length (no_counts p) ≡ count_of_itags p = length-map-range_with_len (λ j. 0) 0 (count_of_itags p) in get_or_past (no_counts p) i 0
          (omega arith))
    ]

not_below_none : (p : Program) (m : Moment) → is_below (no_counts p) m ≡ false
not_below_none p m = ap (nat_lt m.index) (no_count p m.event.itag.0) ∙ never m.index
  where
    never : (n : ℕ) → nat_lt n 0 ≡ false
    never n = grind (arith, common_steps)

pub opening_law : LawsBelow → OpeningFits
opening_law laws k ok = record {
  since_each = length-map-range_with_len (λ j. 0) 0 (count_of_itags k.program);
  upto_each = length-map-range_with_len (λ j. 0) 0 (count_of_itags k.program);
  since_first = λ i. omega arith;
  there = λ i. (let none = no_count k.program i in omega arith);
  prefix = λ before after m split counted. absurd (not_both _ counted (not_below_none k.program m));
  cells = record {
    base = λ c base. sym (none_chosen k.program c (is_below (no_counts k.program)) (moments k) (k.opening c) (not_below_none k.program));
    away = λ c away. absurd (not_both _ (root_base laws k ok c) (not_true _ (and_left _ _ away)));
    rest = λ c not_base here. absurd (not_both _ (root_base laws k ok c) not_base);
  };
}

-- ---- the parts
module _ (laws : LawsBelow) (k : Setting) (w left right : ℕ) (s : Contents) (since upto : List ℕ)
    (ok : IsSetting k) (there : w < length k.nodes) (kids : kids_at k.nodes w ≡ Some (left, right)) (fits : Fits k w s since upto) where
  abbrev moves : Cell → Bool
  moves c = is_moved k.program (below k.program k.nodes right) c

  abbrev goes : Cell → Bool
  goes c = is_needed k.program (below k.program k.nodes right) c

  siblings : Siblings k.nodes w left right
  siblings = left_and_right laws k ok w left right kids

  -- what the left part holds
  left_gone : (c : Cell) → moves c ≡ true → left_part k.program k.nodes right s c ≡ None
  left_gone c h = ap (λ b. cond b None (s c)) h

  left_kept : (c : Cell) → moves c ≡ false → left_part k.program k.nodes right s c ≡ s c
  left_kept c h = ap (λ b. cond b None (s c)) h

  -- what the right part holds
  right_there : (c : Cell) → goes c ≡ true → right_part k.program k.nodes right s c ≡ s c
  right_there c h = ap (λ b. cond b (s c) None) h

  right_none : (c : Cell) → goes c ≡ false → right_part k.program k.nodes right s c ≡ None
  right_none c h = ap (λ b. cond b (s c) None) h

  -- a cell that stays, and is not base at the left child, is not base at the node
  not_base_up : (c : Cell) → moves c ≡ false → is_base k.program k.nodes left c ≡ false → is_base k.program k.nodes w c ≡ false
  not_base_up c stays not_base = false_if_not _ (λ h. not_both _ (left_base laws k ok w left right c kids ∙ both _ _ h (not_from_false _ stays)) not_base)

  -- what is neither base nor away at the left child is not needed beside it
  not_beside : (c : Cell) → is_base k.program k.nodes left c ≡ false → is_away k.program k.nodes left c ≡ false
      → is_needed k.program (beside k.program k.nodes left) c ≡ false
  not_beside c not_base here = false_if_not _ (λ h. not_both _ (both _ _ (not_from_false _ not_base) h) here)

  left_fits : Fits k left (left_part k.program k.nodes right s) since upto
  left_fits = record {
    since_each = fits.since_each;
    upto_each = fits.upto_each;
    since_first = fits.since_first;
    there = fits.there;
    prefix = fits.prefix;
    cells = record {
      base = λ c base. (let both_are = sym (left_base laws k ok w left right c kids) ∙ base in
          left_kept c (not_true _ (and_right (is_base k.program k.nodes w c) _ both_are)) ∙ fits.cells.base c (and_left _ _ both_are));
      away = λ c away. elim (cases_Bool (moves c)) [
        | inl h ↦ left_gone c h
        | inr stays ↦
            left_kept c stays
            ∙ fits.cells.away c (away_up laws k ok w left right c siblings (not_base_up c stays (not_true _ (and_left _ _ away))) away)
      ];
      rest = λ c not_base here.
          (let alone = not_beside c not_base here in
          let stays : moves c ≡ false =
          not_needed_not_moved k.program (below k.program k.nodes right) c
          (false_if_not _ (λ h. not_both _ (beside_across laws k ok w left right c siblings h) alone)) in
          left_kept c stays
          ∙ fits.cells.rest c (not_base_up c stays not_base)
          (false_if_not _ (λ h. not_both _ (beside_down laws k ok w left right c siblings (and_right _ _ h)) alone)));
    };
  }

  -- a cell that is not base at the right child does not go there
  not_base_stays : (c : Cell) → is_base k.program k.nodes right c ≡ false → goes c ≡ false
  not_base_stays c not_base = false_if_not _ (λ h. not_both _ (all_needed_is_base laws k ok right c siblings.second.there h) not_base)

  right_fits : Fits k right (right_part k.program k.nodes right s) upto upto
  right_fits = record {
    since_each = fits.upto_each;
    upto_each = fits.upto_each;
    since_first = λ i. omega arith;
    there = fits.there;
    prefix = fits.prefix;
    cells = record {
      base = λ c base. (let both_are = sym (right_base laws k ok w left right c kids) ∙ base in
          right_there c (and_right (is_base k.program k.nodes w c) _ both_are) ∙ fits.cells.base c (and_left _ _ both_are));
      away = λ c away. right_none c (not_base_stays c (not_true _ (and_left _ _ away)));
      rest = λ c not_base here. right_none c (not_base_stays c not_base) ∙ sym (no_span k.program (moments k) c upto);
    };
  }

  parts_fit : PartsFit k left right s since upto
  parts_fit = record {
    left_fits = left_fits;
    right_fits = right_fits;
    paired = record {
      left_first = fits.since_first;
      left_outside = λ i h. refl;
      left_inside = λ i h. omega arith;
      right_outside = λ i h. refl;
      right_inside = λ i h. omega arith;
    };
  }

pub forks_law : LawsBelow → ForksFit
forks_law laws k w left right s since upto ok there kids fits = parts_fit laws k w left right s since upto ok there kids fits
