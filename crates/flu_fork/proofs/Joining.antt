-- What fits the two children of a node, with paired counts, comes together to what fits the node.
use Rattle.std.proofs.Common.{◌≡◌, ◌≤◌, ◌<◌, ℕ, Bool, true, false, cond, Some, None, List, [], ◌∷◌, length, inl, inr, refl, sym, ap, subst, ◌∙◌, arith}
use Rattle.std.specs.Prelude.{nat_lt, nat_le, ◌&&◌, ◌||◌, not, slice_index}
use Rattle.std.specs.List.{AllByRecursion}
use Rattle.std.proofs.lemmas.Bool.{cases_Bool, cases_lt, and_right as and_false_right, le-ltb, not_from_false}
use Rattle.std.proofs.lemmas.Grind.{common_steps}
use Rattle.std.proofs.lemmas.List.{get_or_past}
use Rattle.std.proofs.lemmas.List.FromFn.{length-map-range_with_len}
use Rattle.flu_lemmas.proofs.Elements.{all_map, all_front, all_of_both, all_at_place, all_from_places}
use Rattle.flu_lemmas.proofs.Numbers.{le_lower, never_between}
use Rattle.flu_lemmas.proofs.Tests.{and_left, and_right, both, true_le, false_if_not, not_both}
use Rattle.flu_model.specs.declared.events.Cell.{Cell}
use Rattle.flu_model.specs.declared.jobs.Program.{Program}
use Rattle.flu_model.specs.Contents.{Contents, joined_worth}
use Rattle.flu_model.specs.Itags.{count_of_itags}
use Rattle.flu_deps.specs.Owned.{kids_at}
use Rattle.flu_deps.specs.Trees.{Siblings}
use Rattle.flu_laws.specs.Lots.{depends_on}
use Rattle.flu_laws.specs.Spans.{Moment, is_below, is_between, value_below, span, AreAtMost}
use Rattle.flu_laws.specs.Uses.{needs, writes, mode_at}
use Rattle.flu_fork.specs.Settings.{Setting, IsSetting, events_at, moments}
use Rattle.flu_fork.specs.LawsBelow.{LawsBelow}
use Rattle.flu_fork.specs.Classes.{below, is_needed, is_moved, is_copied, is_base, is_away}
use Rattle.flu_fork.specs.Fitting.{IsPrefix, Fits}
use Rattle.flu_fork.specs.Parts.{joined_state, joined_counts, ArePaired}
use Rattle.flu_fork.specs.Laws.{JoinsFit}
use Rattle.flu_fork.proofs.Sides.{left_and_right, right_and_left, not_below_both, across}
use Rattle.flu_fork.proofs.Cells.{some_there, moved_if_written, moved_not_copied, copied_not_moved, not_needed_not_moved}
use Rattle.flu_fork.proofs.Cells.{not_needed_not_copied, lawful, uses_depend, away_unwritten, left_base, right_base}
use Rattle.flu_fork.proofs.Cells.{needed_is_base_up, not_base_down, away_kid, away_up, needed_away, copied_unwritten_right}
use Rattle.flu_fork.proofs.Moments.{moments_in_range, moments_sorted}
use Rattle.flu_fork.proofs.Effects.{same_effects, IsApart, AreOldFirst, appended}
use Rattle.flu_fork.proofs.Forking.{counts_at}

-- ---- tests of numbers
-- below the later number is below the earlier one, or between them
split_below : (x a b : ℕ) → a ≤ b → nat_lt x b ≡ (nat_lt x a || (nat_le a x && nat_lt x b))
split_below x a b le = grind (arith, common_steps)

or_nothing : (a b : Bool) → b ≡ false → a ≡ (a || b)
or_nothing true b e = refl
or_nothing false b e = sym e

-- a condition that all of the second choice meets
met_by_second : (a b e : Bool) → (e ≡ true → a ≡ true) → (a && (b || e)) ≡ ((a && b) || e)
met_by_second true b e h = refl
met_by_second false b true h = h refl
met_by_second false b false h = refl

same_below : (us vs : List ℕ) (m : Moment) → slice_index us m.event.itag.0 ≡ slice_index vs m.event.itag.0 → is_below us m ≡ is_below vs m
same_below us vs m e = ap (nat_lt m.index) e

-- a prefix of a list but its first moment
prefix_rest : (p : Program) (m : Moment) (ms : List Moment) (upto : List ℕ) → IsPrefix p (m ∷ ms) upto → IsPrefix p ms upto
prefix_rest p m ms upto prefix = λ before after q split counted. (prefix (m ∷ before) after q (ap (λ us. m ∷ us) split) counted).1

module _ (laws : LawsBelow) (k : Setting) (w left right : ℕ) (s t : Contents) (left_since left_upto right_since right_upto : List ℕ)
    (ok : IsSetting k) (there : w < length k.nodes) (kids : kids_at k.nodes w ≡ Some (left, right))
    (left_fits : Fits k left s left_since left_upto) (right_fits : Fits k right t right_since right_upto)
    (paired : ArePaired k.program k.nodes left right left_since left_upto right_since right_upto) where
  abbrev upto : List ℕ
  upto = joined_counts k.program k.nodes right left_upto right_upto

  abbrev in_left : ℕ → Bool
  in_left i = below k.program k.nodes left i

  abbrev in_right : ℕ → Bool
  in_right i = below k.program k.nodes right i

  abbrev goes : Cell → Bool
  goes c = is_needed k.program (below k.program k.nodes right) c

  by_left : Siblings k.nodes w left right
  by_left = left_and_right laws k ok w left right kids

  by_right : Siblings k.nodes w right left
  by_right = right_and_left laws k ok w left right kids

  -- ---- the joined counts
  past_end : (us : List ℕ) (i : ℕ) → length us ≡ count_of_itags k.program → count_of_itags k.program ≤ i → slice_index us i ≡ 0
  past_end us i size le = get_or_past us i 0 (omega arith)

  upto_each : length upto ≡ count_of_itags k.program
  upto_each = length-map-range_with_len (λ i. cond (in_right i) (slice_index right_upto i) (slice_index left_upto i)) 0 (count_of_itags k.program)

  upto_in : (i : ℕ) → i < count_of_itags k.program → slice_index upto i ≡ cond (in_right i) (slice_index right_upto i) (slice_index left_upto i)
  upto_in i lt = counts_at (count_of_itags k.program) (λ j. cond (in_right j) (slice_index right_upto j) (slice_index left_upto j)) i lt

  upto_right : (i : ℕ) → in_right i ≡ true → slice_index upto i ≡ slice_index right_upto i
  upto_right i e =
      elim (cases_lt i (count_of_itags k.program)) [
        | inl lt ↦ upto_in i lt ∙ ap (λ b. cond b (slice_index right_upto i) (slice_index left_upto i)) e
        | inr le ↦ past_end upto i upto_each le ∙ sym (past_end right_upto i right_fits.upto_each le)
      ]

  upto_left : (i : ℕ) → in_right i ≡ false → slice_index upto i ≡ slice_index left_upto i
  upto_left i e =
      elim (cases_lt i (count_of_itags k.program)) [
        | inl lt ↦ upto_in i lt ∙ ap (λ b. cond b (slice_index right_upto i) (slice_index left_upto i)) e
        | inr le ↦ past_end upto i upto_each le ∙ sym (past_end left_upto i left_fits.upto_each le)
      ]

  -- outside the left subtree they are those of the right part
  upto_not_left : (i : ℕ) → in_left i ≡ false → slice_index upto i ≡ slice_index right_upto i
  upto_not_left i e =
      elim (cases_Bool (in_right i)) [
        | inl h ↦ upto_right i h
        | inr h ↦ upto_left i h ∙ paired.left_outside i e ∙ sym (paired.right_outside i h)
      ]

  since_first : AreAtMost left_since upto
  since_first i =
      elim (cases_Bool (in_right i)) [
        | inl h ↦ (let e = upto_right i h in let a = paired.left_first i in let b = paired.right_inside i h in omega arith)
        | inr h ↦ (let e = upto_left i h in let a = left_fits.since_first i in omega arith)
      ]

  all_there : (i : ℕ) → slice_index upto i ≤ length (events_at k i)
  all_there i =
      elim (cases_Bool (in_right i)) [
        | inl h ↦ (let e = upto_right i h in let a = right_fits.there i in omega arith)
        | inr h ↦ (let e = upto_left i h in let a = left_fits.there i in omega arith)
      ]

  -- ---- the counted events are a prefix
  InRange : Moment → Type 0
  InRange m = m.event.itag.0 < count_of_itags k.program

  -- dependent itags are not below different children
  not_across : (m q : Moment) → InRange m → InRange q → depends_on k.program m q ≡ true → in_left m.event.itag.0 ≡ true → in_right q.event.itag.0 ≡ false
  unfolding InRange
  not_across m q hm hq d e = false_if_not _ (λ h. not_both _ d (across laws k ok w left right m.event.itag.0 q.event.itag.0 by_left hm hq e h))

  not_across_back : (m q : Moment) → InRange m → InRange q → depends_on k.program m q ≡ true → in_right m.event.itag.0 ≡ true → in_left q.event.itag.0 ≡ false
  unfolding InRange
  not_across_back m q hm hq d e = false_if_not _ (λ h. not_both _ d (across laws k ok w right left m.event.itag.0 q.event.itag.0 by_right hm hq e h))

  all_in_range : AllByRecursion InRange (moments k)
  unfolding InRange
  all_in_range = moments_in_range laws k ok

  counted_before : List ℕ → Moment → Moment → Type 0
  counted_before us m q = depends_on k.program m q ≡ true → is_below us q ≡ true

  joined_prefix : IsPrefix k.program (moments k) upto
  unfolding counted_before
  joined_prefix front back m split counted =
      let m_in : InRange m = all_at_place InRange (moments k) front back m split all_in_range in
      let front_in : AllByRecursion InRange front = all_front InRange front (m ∷ back) (subst (AllByRecursion InRange) split all_in_range) in
      elim (cases_Bool (in_right m.event.itag.0)) [
        | inl mr ↦
            all_of_both (counted_before right_upto m) InRange (counted_before upto m) front
            (λ q h hq d. same_below upto right_upto q (upto_not_left q.event.itag.0 (not_across_back m q m_in hq d mr)) ∙ h d)
            (right_fits.prefix front back m split (sym (same_below upto right_upto m (upto_right m.event.itag.0 mr)) ∙ counted)) front_in
        | inr not_right ↦
            let from_left : AllByRecursion (counted_before left_upto m) front =
            left_fits.prefix front back m split (sym (same_below upto left_upto m (upto_left m.event.itag.0 not_right)) ∙ counted) in
            elim (cases_Bool (in_left m.event.itag.0)) [
              | inl ml ↦
                  all_of_both (counted_before left_upto m) InRange (counted_before upto m) front
                  (λ q h hq d. same_below upto left_upto q (upto_left q.event.itag.0 (not_across m q m_in hq d ml)) ∙ h d)
                  from_left front_in
              | inr not_left ↦
                  all_of_both (counted_before left_upto m) (counted_before right_upto m) (counted_before upto m) front
                  (λ q h g d. elim (cases_Bool (in_right q.event.itag.0)) [
                    | inl qr ↦ same_below upto right_upto q (upto_right q.event.itag.0 qr) ∙ g d
                    | inr qn ↦ same_below upto left_upto q (upto_left q.event.itag.0 qn) ∙ h d
                  ])
                  from_left (right_fits.prefix front back m split (sym (same_below upto right_upto m (upto_not_left m.event.itag.0 not_left)) ∙ counted))
            ]
      ]

  -- ---- the events that the right part counts alone
  abbrev is_new : Moment → Bool
  is_new m = is_between right_since right_upto m

  new_is_right : (m : Moment) → is_new m ≡ true → in_right m.event.itag.0 ≡ true
  new_is_right m new =
      elim (cases_Bool (in_right m.event.itag.0)) [
        | inl h ↦ h
        | inr h ↦
            absurd (not_both _ new (ap (λ n. nat_le (slice_index right_since m.event.itag.0) m.index && nat_lt m.index n)
            (paired.right_outside m.event.itag.0 h) ∙ never_between (slice_index right_since m.event.itag.0) m.index))
      ]

  new_is_not_old : (m : Moment) → is_new m ≡ true → is_below left_upto m ≡ false
  new_is_not_old m new =
      let i = m.event.itag.0 in
      let same : slice_index left_upto i ≡ slice_index right_since i =
      paired.left_outside i (not_below_both laws k ok w right left i by_right (new_is_right m new)) in
      let least : slice_index right_since i ≤ m.index = true_le (slice_index right_since i) m.index (and_left _ _ new) in
      le-ltb m.index (slice_index left_upto i) (omega arith)

  all_or_new : (m : Moment) → is_below upto m ≡ (is_below left_upto m || is_new m)
  all_or_new m =
      let i = m.event.itag.0 in
      elim (cases_Bool (in_right i)) [
        | inl h ↦
            let same : slice_index left_upto i ≡ slice_index right_since i = paired.left_outside i (not_below_both laws k ok w right left i by_right h) in
            same_below upto right_upto m (upto_right i h)
            ∙ split_below m.index (slice_index right_since i) (slice_index right_upto i) (paired.right_inside i h)
            ∙ sym (ap (λ n. nat_lt m.index n || is_new m) same)
        | inr h ↦
            same_below upto left_upto m (upto_left i h)
            ∙ or_nothing (is_below left_upto m) (is_new m) (ap (λ n. nat_le (slice_index right_since i) m.index && nat_lt m.index n)
            (paired.right_outside i h) ∙ never_between (slice_index right_since i) m.index)
      ]

  between_or_new : (m : Moment) → is_between left_since upto m ≡ (is_between left_since left_upto m || is_new m)
  between_or_new m =
      let i = m.event.itag.0 in
      ap (λ b. nat_le (slice_index left_since i) m.index && b) (all_or_new m)
      ∙ met_by_second (nat_le (slice_index left_since i) m.index) (is_below left_upto m) (is_new m)
      (λ new. le_lower (slice_index left_since i) (slice_index right_since i) m.index (paired.left_first i) (and_left _ _ new))

  -- ---- cells that the right subtree does not need
  module _ (c : Cell) (stays : goes c ≡ false) where
    new_is_quiet : (m : Moment) → InRange m → is_new m ≡ true → needs (mode_at k.program m.event c) ≡ false
    unfolding InRange
    new_is_quiet m lt new =
        false_if_not _ (λ h. not_both _ (some_there k.program needs (below k.program k.nodes right) c m.event.itag.0 lt (new_is_right m new) h) stays)

    abbrev Apart : (Moment → Bool) → (Moment → Bool) → Moment → Type 0
    Apart old all m = IsApart laws k.program (lawful laws k ok) c old is_new all m

    values_apart : AllByRecursion (Apart (is_below left_upto) (is_below upto)) (moments k)
    values_apart =
        all_map InRange (Apart (is_below left_upto) (is_below upto)) (moments k)
        (λ m lt. record { disjoint = new_is_not_old m; whole = all_or_new m; quiet = new_is_quiet m lt }) all_in_range

    spans_apart : AllByRecursion (Apart (is_between left_since left_upto) (is_between left_since upto)) (moments k)
    spans_apart =
        all_map InRange (Apart (is_between left_since left_upto) (is_between left_since upto)) (moments k)
        (λ m lt. record { disjoint = λ new. and_false_right _ _ (new_is_not_old m new); whole = between_or_new m; quiet = new_is_quiet m lt }) all_in_range

    needs_depend : (q n : Moment) → InRange q → InRange n → needs (mode_at k.program q.event c) ≡ true → writes (mode_at k.program n.event c) ≡ true
        → depends_on k.program q n ≡ true
    unfolding InRange
    needs_depend q n hq hn need write = uses_depend laws k ok q.event.itag.0 n.event.itag.0 c hq hn need write

    -- an old event that needs the cell comes before each new one that writes it
    old_first : (old all : Moment → Bool) → ((m : Moment) → old m ≡ true → is_below left_upto m ≡ true) → (ms : List Moment) → AllByRecursion InRange ms
        → IsPrefix k.program ms left_upto → AreOldFirst laws k.program (lawful laws k ok) c old is_new all ms
    unfolding InRange
    old_first old all counted [] in_range prefix = tt
    old_first old all counted (m ∷ ms) in_range prefix = (
      (λ new write. all_from_places (λ (q : Moment). old q ≡ true → needs (mode_at k.program q.event c) ≡ false) ms
          (λ before after q split was. false_if_not _ (λ need. not_both _
          ((prefix (m ∷ before) after q (ap (λ us. m ∷ us) split) (counted q was)).0
          (needs_depend q m (all_at_place InRange ms before after q split in_range.1) in_range.0 need write))
          (new_is_not_old m new)))),
      old_first old all counted ms in_range.1 (prefix_rest k.program m ms left_upto prefix),
    )

    values_add : joined_worth (value_below k.program (moments k) (k.opening c) c left_upto)
        (span k.program (moments k) c right_since right_upto) ≡ value_below k.program (moments k) (k.opening c) c upto
    values_add =
        appended laws k.program (lawful laws k ok) c (is_below left_upto) is_new (is_below upto) (moments k) (k.opening c) values_apart
        (old_first (is_below left_upto) (is_below upto) (λ m e. e) (moments k) all_in_range left_fits.prefix) (moments_sorted laws k ok) (ok.opening_sorts c)

    spans_add : joined_worth (span k.program (moments k) c left_since left_upto) (span k.program (moments k) c right_since right_upto) ≡ span k.program
        (moments k) c left_since upto
    spans_add =
        appended laws k.program (lawful laws k ok) c (is_between left_since left_upto) is_new (is_between left_since upto) (moments k) None spans_apart
        (old_first (is_between left_since left_upto) (is_between left_since upto) (λ m e. and_right _ _ e) (moments k) all_in_range left_fits.prefix)
        (moments_sorted laws k ok) tt

  -- ---- cells
  -- where no itag below the right child writes the cell, the counts of the left part say all of it; and the other way round
  value_by_left : (c : Cell) → ((m : Moment) → InRange m → in_right m.event.itag.0 ≡ true → writes (mode_at k.program m.event c) ≡ false)
      → value_below k.program (moments k) (k.opening c) c left_upto ≡ value_below k.program (moments k) (k.opening c) c upto
  value_by_left c quiet =
      same_effects laws.unwritten_keeps k.program c (is_below left_upto) (is_below upto) (moments k) (k.opening c)
      (all_map InRange (λ (m : Moment). writes (mode_at k.program m.event c) ≡ true → is_below left_upto m ≡ is_below upto m) (moments k)
      (λ m lt write. same_below left_upto upto m (sym (upto_left m.event.itag.0 (false_if_not _ (λ h. not_both _ write (quiet m lt h)))))) all_in_range)

  value_by_right : (c : Cell) → ((m : Moment) → InRange m → in_left m.event.itag.0 ≡ true → writes (mode_at k.program m.event c) ≡ false)
      → value_below k.program (moments k) (k.opening c) c right_upto ≡ value_below k.program (moments k) (k.opening c) c upto
  value_by_right c quiet =
      same_effects laws.unwritten_keeps k.program c (is_below right_upto) (is_below upto) (moments k) (k.opening c)
      (all_map InRange (λ (m : Moment). writes (mode_at k.program m.event c) ≡ true → is_below right_upto m ≡ is_below upto m) (moments k)
      (λ m lt write. same_below right_upto upto m (sym (upto_not_left m.event.itag.0 (false_if_not _ (λ h. not_both _ write (quiet m lt h)))))) all_in_range)

  -- ---- the joined state, without the copies in the right part
  abbrev copies : Cell → Bool
  copies c = is_copied k.program in_right c

  abbrev joined : Contents
  joined = joined_state k.program k.nodes right s t

  with_copy : (c : Cell) → copies c ≡ true → joined c ≡ s c
  with_copy c h = ap (λ b. joined_worth (s c) (cond b None (t c))) h ∙ (lawful laws k ok).mix_right (s c)

  without_copy : (c : Cell) → copies c ≡ false → joined c ≡ joined_worth (s c) (t c)
  without_copy c h = ap (λ b. joined_worth (s c) (cond b None (t c))) h

  right_not_base : (c : Cell) → goes c ≡ false → is_base k.program k.nodes right c ≡ false
  right_not_base c stays = right_base laws k ok w left right c kids ∙ and_false_right _ _ stays

  -- a cell that is not moved is base at the left child
  base_of_left : (c : Cell) → is_base k.program k.nodes w c ≡ true → is_moved k.program in_right c ≡ false
      → s c ≡ value_below k.program (moments k) (k.opening c) c left_upto
  base_of_left c base stays = left_fits.cells.base c (left_base laws k ok w left right c kids ∙ both _ _ base (not_from_false _ stays))

  -- a moved one is at the right child alone
  moved_base : (c : Cell) → is_base k.program k.nodes w c ≡ true → is_moved k.program in_right c ≡ true
      → joined c ≡ value_below k.program (moments k) (k.opening c) c upto
  unfolding InRange
  moved_base c base moved =
      let need : goes c ≡ true = and_left _ _ moved in
      let gone : is_base k.program k.nodes left c ≡ false = left_base laws k ok w left right c kids ∙ and_false_right _ _ (ap not moved) in
      let away : is_away k.program k.nodes left c ≡ true = needed_away laws k ok w left right c by_left gone need in
      without_copy c (moved_not_copied k.program in_right c moved)
      ∙ ap (λ x. joined_worth x (t c)) (left_fits.cells.away c away)
      ∙ right_fits.cells.base c (right_base laws k ok w left right c kids ∙ both _ _ base need)
      ∙ value_by_right c (λ m lt inside. away_unwritten laws k ok left m.event.itag.0 c lt inside away)

  copied_base : (c : Cell) → is_base k.program k.nodes w c ≡ true → copies c ≡ true → joined c ≡ value_below k.program (moments k) (k.opening c) c upto
  unfolding InRange
  copied_base c base copied =
      with_copy c copied
      ∙ base_of_left c base (copied_not_moved k.program in_right c copied)
      ∙ value_by_left c (λ m lt inside. copied_unwritten_right laws k ok right m.event.itag.0 c lt copied inside)

  kept_base : (c : Cell) → is_base k.program k.nodes w c ≡ true → goes c ≡ false → joined c ≡ value_below k.program (moments k) (k.opening c) c upto
  unfolding InRange
  kept_base c base stays =
      let left_is = base_of_left c base (not_needed_not_moved k.program in_right c stays) in
      without_copy c (not_needed_not_copied k.program in_right c stays)
      ∙ (elim (cases_Bool (is_away k.program k.nodes right c)) [
        | inl away ↦
            ap (joined_worth (s c)) (right_fits.cells.away c away)
            ∙ (lawful laws k ok).mix_right (s c)
            ∙ left_is
            ∙ value_by_left c (λ m lt inside. away_unwritten laws k ok right m.event.itag.0 c lt inside away)
        | inr here ↦
            (λ i. joined_worth (left_is i) (right_fits.cells.rest c (right_not_base c stays) here i))
            ∙ values_add c stays
      ])

  joined_base : (c : Cell) → is_base k.program k.nodes w c ≡ true → joined c ≡ value_below k.program (moments k) (k.opening c) c upto
  joined_base c base =
      elim (cases_Bool (goes c)) [
        | inr stays ↦ kept_base c base stays
        | inl need ↦ elim (cases_Bool (copies c)) [
          | inl copied ↦ copied_base c base copied
          | inr alone ↦ moved_base c base (moved_if_written k.program in_right c need alone)
        ]
      ]

  joined_away : (c : Cell) → is_away k.program k.nodes w c ≡ true → joined c ≡ None
  joined_away c away =
      let none : s c ≡ None = left_fits.cells.away c (away_kid laws k ok w left right c by_left away) in
      elim (cases_Bool (copies c)) [
        | inl copied ↦ with_copy c copied ∙ none
        | inr alone ↦ without_copy c alone ∙ (λ i. joined_worth (none i) (right_fits.cells.away c (away_kid laws k ok w right left c by_right away) i))
      ]

  joined_rest : (c : Cell) → is_base k.program k.nodes w c ≡ false → is_away k.program k.nodes w c ≡ false
      → joined c ≡ span k.program (moments k) c left_since upto
  joined_rest c not_base here =
      let stays : goes c ≡ false = false_if_not _ (λ h. not_both _ (needed_is_base_up laws k ok w right left c by_right h) not_base) in
      let left_not_base : is_base k.program k.nodes left c ≡ false = not_base_down laws k ok w left right c by_left not_base in
      let left_here : is_away k.program k.nodes left c ≡ false = false_if_not _ (λ h. not_both _ (away_up laws k ok w left right c by_left not_base h) here) in
      let right_here : is_away k.program k.nodes right c ≡ false =
      false_if_not _ (λ h. not_both _ (away_up laws k ok w right left c by_right not_base h) here) in
      without_copy c (not_needed_not_copied k.program in_right c stays)
      ∙ (λ i. joined_worth (left_fits.cells.rest c left_not_base left_here i) (right_fits.cells.rest c (right_not_base c stays) right_here i))
      ∙ spans_add c stays

  joined_fits : Fits k w joined left_since upto
  joined_fits = record {
    since_each = left_fits.since_each;
    upto_each = upto_each;
    since_first = since_first;
    there = all_there;
    prefix = joined_prefix;
    cells = record { base = joined_base; away = joined_away; rest = joined_rest };
  }

pub joins_law : LawsBelow → JoinsFit
joins_law laws k w left right s t left_since left_upto right_since right_upto ok there kids left_fits right_fits paired =
    joined_fits laws k w left right s t left_since left_upto right_since right_upto ok there kids left_fits right_fits paired
