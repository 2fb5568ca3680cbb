-- The places of contributions: before the events above the node, and at the end. No event is both inside a node and above it.
use Rattle.std.proofs.Common.{◌≡◌, ◌<◌, ◌+◌, ℕ, Bool, true, false, cond, Some, None, List, [], ◌∷◌, ◌++◌, length, refl, sym, ap, ◌∙◌, arith}
use Rattle.std.specs.Prelude.{Option, map}
use Rattle.std.specs.List.{filter}
use Rattle.flu_lemmas.proofs.Searches.{eq_true}
use Rattle.flu_lemmas.proofs.Tests.{and_left, and_right, not_both, false_if_not, not_true}
use Rattle.flu_lemmas.specs.Totals.{total}
use Rattle.flu_lemmas.proofs.Totals.{sum_by-total}
use Rattle.flu_model.specs.declared.events.Event.{Event}
use Rattle.flu_model.specs.declared.events.Itag.{Itag}
use Rattle.flu_model.specs.declared.jobs.Program.{Program}
use Rattle.flu_model.specs.declared.plans.Node.{Node}
use Rattle.flu_model.specs.Contents.{Contents}
use Rattle.flu_model.specs.Itags.{count_of_itags}
use Rattle.flu_deps.specs.Owners.{IsOwned}
use Rattle.flu_deps.specs.Trees.{IsOrdered}
use Rattle.flu_contribution.specs.Contributions.{is_inside, is_above, Contribution, opened, with_event, closed, contributions_from, contributions}
use Rattle.flu_contribution.specs.Laws.{AreInRange, HavePlaces}
use Rattle.flu_contribution.proofs.Using.{inside_by, above_by}

module _ (p : Program) (nodes : List Node) (w : ℕ) (there : w < length nodes) (order : IsOrdered nodes)
    (owned : (i : Itag) → i.0 < count_of_itags p → IsOwned p nodes i) where
  inside_not_above : (x : Event) → x.itag.0 < count_of_itags p → is_inside p nodes w x ≡ true → is_above p nodes w x ≡ false
  inside_not_above x lt inner =
      let o = owned x.itag lt in
      false_if_not _ (λ h.
      let above = sym (above_by p nodes w o.owner x.itag o.is) ∙ h in
      let down = order.later w o.owner o.there (sym (inside_by p nodes w o.owner x.itag o.is) ∙ inner) in
      let up = order.later o.owner w there (and_left _ _ above) in
      not_both _ (eq_true o.owner w (omega arith)) (not_true _ (and_right _ _ above)))

  befores : Contribution → List Event → List (Option Event)
  befores k xs = map (λ (c : Contribution). c.before) (contributions_from p nodes w k xs)

  places_by : (i a : Bool) (k : Contribution) (x : Event) (xs : List Event) → is_inside p nodes w x ≡ i → is_above p nodes w x ≡ a
      → (i ≡ true → a ≡ false)
      → befores (with_event p k x) xs ≡ map Some (filter (is_above p nodes w) xs) ++ (None ∷ [])
      → befores (opened p nodes w k.cells) xs ≡ map Some (filter (is_above p nodes w) xs) ++ (None ∷ [])
      → befores k xs ≡ map Some (filter (is_above p nodes w) xs) ++ (None ∷ [])
      → befores k (x ∷ xs) ≡ map Some (filter (is_above p nodes w) (x ∷ xs)) ++ (None ∷ [])
  unfolding befores
  places_by i a k x xs e f apart inner above other =
      let left : befores k (x ∷ xs) ≡ map (λ (c : Contribution). c.before) (cond i (contributions_from p nodes w (with_event p k x) xs)
      (cond a (closed p nodes w k x ∷ contributions_from p nodes w (opened p nodes w k.cells) xs) (contributions_from p nodes w k xs))) =
      λ j. map (λ (c : Contribution). c.before) (cond (e j) (contributions_from p nodes w (with_event p k x) xs)
      (cond (f j) (closed p nodes w k x ∷ contributions_from p nodes w (opened p nodes w k.cells) xs) (contributions_from p nodes w k xs))) in
      let right : map Some (filter (is_above p nodes w) (x ∷ xs)) ++ (None ∷ [])
      ≡ map Some (cond a (x ∷ filter (is_above p nodes w) xs) (filter (is_above p nodes w) xs)) ++ (None ∷ []) =
      λ j. map Some (cond (f j) (x ∷ filter (is_above p nodes w) xs) (filter (is_above p nodes w) xs)) ++ (None ∷ []) in
      left ∙ by i a apart ∙ sym right
    where
      by : (i a : Bool) → (i ≡ true → a ≡ false)
          → map (λ (c : Contribution). c.before) (cond i (contributions_from p nodes w (with_event p k x) xs)
          (cond a (closed p nodes w k x ∷ contributions_from p nodes w (opened p nodes w k.cells) xs) (contributions_from p nodes w k xs)))
          ≡ map Some (cond a (x ∷ filter (is_above p nodes w) xs) (filter (is_above p nodes w) xs)) ++ (None ∷ [])
      by true true h = let no = h refl in cc
      by true false h = inner
      by false true h = ap (λ l. Some x ∷ l) above
      by false false h = other

  places : (k : Contribution) (xs : List Event) → k.before ≡ None → AreInRange p xs
      → befores k xs ≡ map Some (filter (is_above p nodes w) xs) ++ (None ∷ [])
  unfolding befores
  places k [] e range = ap (λ o. o ∷ []) e
  places k (x ∷ xs) e range =
      places_by (is_inside p nodes w x) (is_above p nodes w x) k x xs refl refl (inside_not_above x range.0)
      (places (with_event p k x) xs refl range.1) (places (opened p nodes w k.cells) xs refl range.1) (places k xs e range.1)

  count_in : Contribution → List Event → ℕ
  count_in k xs = total (λ (c : Contribution). c.count) (contributions_from p nodes w k xs)

  -- how many events are inside
  inner_count : List Event → ℕ
  inner_count xs = total (λ (x : Event). cond (is_inside p nodes w x) 1 0) xs

  counts : (k : Contribution) (xs : List Event) → count_in k xs ≡ k.count + inner_count xs
  unfolding count_in inner_count
  counts k [] = omega arith
  counts k (x ∷ xs) =
      by (is_inside p nodes w x) (is_above p nodes w x) (counts (with_event p k x) xs) (counts (opened p nodes w k.cells) xs) (counts k xs)
    where
      by : (i a : Bool) → count_in (with_event p k x) xs ≡ k.count + 1 + inner_count xs
          → count_in (opened p nodes w k.cells) xs ≡ 0 + inner_count xs → count_in k xs ≡ k.count + inner_count xs
          → total (λ (c : Contribution). c.count) (cond i (contributions_from p nodes w (with_event p k x) xs)
          (cond a (closed p nodes w k x ∷ contributions_from p nodes w (opened p nodes w k.cells) xs) (contributions_from p nodes w k xs)))
          ≡ k.count + (cond i 1 0 + inner_count xs)
      by true a inner above other = omega arith
      by false true inner above other = omega arith
      by false false inner above other = omega arith

  pub have_places : (opening : Contents) (xs : List Event) → AreInRange p xs → HavePlaces p nodes w opening xs
  unfolding befores count_in inner_count
  have_places opening xs range = record {
    before = places (opened p nodes w opening) xs refl range;
    counts =
        sum_by-total (λ (c : Contribution). c.count) (contributions p nodes w opening xs)
        ∙ counts (opened p nodes w opening) xs
        ∙ zero_more (inner_count xs)
        ∙ sym (sum_by-total (λ (x : Event). cond (is_inside p nodes w x) 1 0) xs);
  }
    where
      zero_more : (n : ℕ) → 0 + n ≡ n
      zero_more n = omega arith
