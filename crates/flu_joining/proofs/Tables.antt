-- The events that a table of itags lets through, and queues of which none is left over.
use Rattle.std.proofs.Common.{◌≡◌, ◌<◌, ◌+◌, ℕ, Bool, true, false, cond, not, Some, None, List, [], ◌∷◌, length, inl, inr, refl, sym, ap, subst, ◌∙◌}
use Rattle.std.specs.Prelude.{Option, ◌||◌, ◌&&◌, position, option_map, slice_index_or}
use Rattle.std.specs.List.{list_any, list_all, filter}
use Rattle.std.proofs.lemmas.Bool.{cases_Bool}
use Rattle.flu_lemmas.proofs.Elements.{all_map, filter_same}
use Rattle.flu_lemmas.proofs.Places.{position-cons}
use Rattle.flu_model.specs.declared.events.Event.{Event}
use Rattle.flu_model.specs.declared.events.Item.{Item}
use Rattle.flu_model.specs.declared.events.Itag.{Itag}
use Rattle.flu_model.specs.declared.jobs.Program.{Program}
use Rattle.flu_model.specs.declared.plans.Node.{Node}
use Rattle.flu_model.specs.Itags.{count_of_itags}
use Rattle.flu_model.specs.Merging.{merged}
use Rattle.flu_model.specs.Owners.{owner_of, subtree_owns, is_within}
use Rattle.flu_model.specs.Streaming.{are_streams}
use Rattle.flu_contribution.specs.Combining.{is_of_none}
use Rattle.flu_contribution.specs.Laws.{AreInRange}
use Rattle.flu_contribution.specs.Sharing.{is_itag_of_none}
use Rattle.flu_joining.specs.Joining.{events_of_none}
use Rattle.flu_joining.specs.Parts.{has_itag}
use Rattle.flu_joining.proofs.Apart.{inside_by}
use Rattle.flu_joining.proofs.Ranges.{merged_in_range}

-- ---- itags
pub inside_one : (p : Program) (nodes : List Node) (ws : List ℕ) (i : Itag) (v : ℕ) → owner_of p nodes i ≡ Some v
    → list_any (λ w. is_within nodes w v) ws ≡ list_any (λ w. subtree_owns p nodes w i) ws
inside_one p nodes [] i v e = refl
inside_one p nodes (w ∷ ws) i v e =
    let here = sym (inside_by p nodes w v i e) in
    let more = inside_one p nodes ws i v e in
    λ j. here j || more j

-- ---- events
-- a table of the itags that are inside none of the nodes
abbrev pub IsTableOf : Program → List Node → List ℕ → List Bool → Type 0
IsTableOf p nodes ws table = (i : ℕ) → i < count_of_itags p → slice_index_or table i false ≡ is_itag_of_none p nodes ws i

module _ (p : Program) (nodes : List Node) (ws : List ℕ) (lists : List (List Item)) (one : length lists ≡ count_of_itags p)
    (streams : are_streams 0 lists ≡ true) where
  -- it lets the events of none through
  pub table_filter : (table : List Bool) (xs : List Event) (q : Program) → q ≡ p → xs ≡ merged lists → IsTableOf q nodes ws table
      → filter (has_itag table) xs ≡ events_of_none p nodes ws lists
  table_filter table xs q job all same =
      let table_of : IsTableOf p nodes ws table = subst (λ (j : Program). IsTableOf j nodes ws table) job same in
      ap (filter (has_itag table)) all
      ∙ filter_same (has_itag table) (is_of_none p nodes ws) (merged lists)
      (all_map (λ (x : Event). x.itag.0 < count_of_itags p) (λ (x : Event). has_itag table x ≡ is_of_none p nodes ws x) (merged lists)
      (λ x lt. table_of x.itag.0 lt) (merged_in_range p lists one streams))

  pub in_range : (xs : List Event) (q : Program) → q ≡ p → xs ≡ merged lists → AreInRange q xs
  in_range xs q job all =
      subst (λ (j : Program). AreInRange j xs) (sym job) (subst (λ (l : List Event). AreInRange p l) (sym all) (merged_in_range p lists one streams))

-- ---- queues
none_before : (o : Option ℕ) → option_map (λ i. i + 1) o ≡ None → o ≡ None
none_before None e = refl
none_before (Some i) e = absurd cc

some_none : (i : ℕ) → Some i ≡ None → ⊥
some_none i e = cc

-- where none fails a test, all pass it
pub none_fails : {X : Type 0} (f : X → Bool) (xs : List X) → position (λ x. not (f x)) xs ≡ None → list_all f xs ≡ true
none_fails f [] e = refl
none_fails {X} f (x ∷ xs) e =
    let steps = sym (position-cons (λ (y : X). not (f y)) x xs) ∙ e in
    elim (cases_Bool (f x)) [
      | inl pass ↦
          ap (λ b. b && list_all f xs) pass
          ∙ none_fails f xs (none_before (position (λ y. not (f y)) xs)
          (sym (ap (λ b. cond (not b) (Some 0) (option_map (λ i. i + 1) (position (λ (y : X). not (f y)) xs))) pass) ∙ steps))
      | inr fail ↦ absurd (some_none 0 (sym (ap (λ b. cond (not b) (Some 0) (option_map (λ i. i + 1) (position (λ (y : X). not (f y)) xs))) fail) ∙ steps))
    ]
