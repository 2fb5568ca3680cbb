-- The events of the rows of a source, itag by itag, are those of the rows.
use Rattle.std.proofs.Common.{◌≡◌, ℕ, zero, suc, ◌+◌, ◌≤◌, ◌<◌, Bool, true, false, cond, Option, Some, List, [], ◌∷◌, ◌++◌, map}
use Rattle.std.proofs.Common.{inl, inr, refl, sym, ap, subst, ◌∙◌, arith}
use Rattle.std.specs.Prelude.{⊤, ◌==◌, unwrap_or, IsPermutation}
use Rattle.std.specs.List.{filter_map, flat_map, range_with_len, AllByRecursion}
use Rattle.std.proofs.lemmas.Bool.{cases_eq}
use Rattle.std.proofs.lemmas.Bool.Decides.{nat_tests}
use Rattle.std.proofs.lemmas.List.Sorted.{IsPermutation-refl, IsPermutation-sym, IsPermutation-trans, IsPermutation-cons, IsPermutation-middle}
use Rattle.std.proofs.lemmas.List.Elements.{All-from_recursion, recursion_from_All}
use Rattle.std.proofs.lemmas.List.Sorted.{IsPermutation-append_right, All-permutation}
use Rattle.flu_lemmas.specs.Late.{is_less}
use Rattle.flu_lemmas.specs.Sorting.{put_in_order, in_order}
use Rattle.flu_lemmas.proofs.Sorting.{in_order-permutation}
use Rattle.flu_model.specs.declared.events.Event.{Event as EventOf}
use Rattle.flu_model.specs.declared.events.Item.{Item}
use Rattle.flu_model.specs.declared.events.Item.TheVariants.{Event as EventItem, Beat as BeatItem, End as EndItem}
use Rattle.flu_model.specs.declared.jobs.Kind.{Kind}
use Rattle.flu_model.specs.declared.jobs.Source.{Source}
use Rattle.flu_model.specs.Merging.{events_of, all_events}
use Rattle.flu_rows.specs.declared.row.Fields.{Fields}
use Rattle.flu_rows.specs.declared.row.Row.{Row}
use Rattle.flu_rows.specs.declared.row.Row.TheVariants.{Event, Beat, End}
use Rattle.flu_streams.specs.Good.{event_of, item_in, time_at, in_time_order, items_at}
use Rattle.flu_streams.specs.Holding.{item_of}
use Rattle.flu_streams.specs.Tags.{place_named, given_to, width}

-- ---- an event at one of some places
module _ (g h : ℕ → List EventOf) (x : EventOf) (n : ℕ) (here : h n ≡ x ∷ g n) (there : (place : ℕ) → (n ≡ place → ⊥) → h place ≡ g place) where
  not_among : (from len : ℕ) → n < from → flat_map g (range_with_len from len) ≡ flat_map h (range_with_len from len)
  not_among from zero less = refl
  not_among from (suc len) less =
      let own : g from ≡ h from = sym (there from (λ same. absurd (omega (arith, same, less)))) in
      let rest = not_among (from + 1) len (omega (arith, less)) in
      λ k. own k ++ rest k

  spread : (from len : ℕ) → from ≤ n → n < from + len
      → IsPermutation (x ∷ flat_map g (range_with_len from len)) (flat_map h (range_with_len from len))
  spread from zero le lt = absurd (omega (arith, le, lt))
  spread from (suc len) le lt =
      let rest : List EventOf = flat_map g (range_with_len (from + 1) len) in
      elim (cases_eq n from) [
        | inl same ↦ (let first : x ∷ g from ≡ h from = ap (λ i. x ∷ g i) (sym same) ∙ sym here ∙ ap h same in
            let others = not_among (from + 1) len (omega (arith, same)) in
            subst (λ l. IsPermutation (x ∷ (g from ++ rest)) l) (λ k. first k ++ others k) (IsPermutation-refl (x ∷ (g from ++ rest))))
        | inr other ↦ (let first : g from ≡ h from = sym (there from other) in
            let later = spread (from + 1) len (omega (arith, le, other)) (omega (arith, lt)) in
            subst (λ l. IsPermutation (x ∷ (g from ++ rest)) (l ++ flat_map h (range_with_len (from + 1) len))) first
            (IsPermutation-trans (x ∷ (g from ++ rest)) (g from ++ x ∷ rest) (g from ++ flat_map h (range_with_len (from + 1) len))
            (IsPermutation-sym (g from ++ x ∷ rest) (x ∷ (g from ++ rest)) (IsPermutation-middle (g from) x rest))
            (IsPermutation-append_right (g from) (x ∷ rest) (flat_map h (range_with_len (from + 1) len)) later)))
      ]

none_at_places : {X : Type 0} (f : ℕ → List X) → ((n : ℕ) → f n ≡ []) → (ns : List ℕ) → flat_map f ns ≡ []
none_at_places f none [] = refl
none_at_places f none (n ∷ ns) = ap (λ l. l ++ flat_map f ns) (none n) ∙ none_at_places f none ns

flat_of_map : {X Y Z : Type 0} (f : Y → List Z) (g : X → Y) (xs : List X) → flat_map f (map g xs) ≡ flat_map (λ x. f (g x)) xs
flat_of_map f g [] = refl
flat_of_map f g (x ∷ xs) = ap (λ l. f (g x) ++ l) (flat_of_map f g xs)

-- the end is no event
events_to_end : (items : List Item) → events_of (items ++ EndItem ∷ []) ≡ events_of items
events_to_end [] = refl
events_to_end (EventItem x ∷ items) = ap (λ l. x ∷ l) (events_to_end items)
events_to_end (BeatItem t ∷ items) = events_to_end items
events_to_end (EndItem ∷ items) = events_to_end items

module _ (kinds : List Kind) (s : Source) (first : ℕ) where
  abbrev own : List Row → List EventOf
  own rows = events_of (map (item_of kinds s first) rows)

  abbrev at_place : List Row → ℕ → List EventOf
  at_place rows place = events_of (filter_map (item_in kinds s first place) rows)

  -- the source lists the tag of an event
  abbrev pub IsListed : Row → Type 0
  IsListed (Event time name key fields) = (n : ℕ) × (place_named kinds s name key ≡ Some n) × (n < width s)
  IsListed (Beat time) = ⊤
  IsListed End = ⊤

  -- ---- the rows in order of time
  own_cons : (r : Row) (a b : List Row) → IsPermutation (own a) (own b) → IsPermutation (own (r ∷ a)) (own (r ∷ b))
  own_cons (Event time name key fields) a b moved = IsPermutation-cons _ (own a) (own b) moved
  own_cons (Beat time) a b moved = moved
  own_cons End a b moved = moved

  own_swap : (x y : Row) (rows : List Row) → IsPermutation (own (x ∷ y ∷ rows)) (own (y ∷ x ∷ rows))
  own_swap (Event time name key fields) (Event t n k f) rows =
      IsPermutation-middle (event_of time (first + unwrap_or (place_named kinds s name key) (width s)) (given_to kinds name fields) ∷ [])
      (event_of t (first + unwrap_or (place_named kinds s n k) (width s)) (given_to kinds n f)) (own rows)
  own_swap (Event time name key fields) (Beat t) rows = IsPermutation-refl _
  own_swap (Event time name key fields) End rows = IsPermutation-refl _
  own_swap (Beat time) (Event t n k f) rows = IsPermutation-refl _
  own_swap (Beat time) (Beat t) rows = IsPermutation-refl _
  own_swap (Beat time) End rows = IsPermutation-refl _
  own_swap End (Event t n k f) rows = IsPermutation-refl _
  own_swap End (Beat t) rows = IsPermutation-refl _
  own_swap End End rows = IsPermutation-refl _

  own_put : (before : Row → Row → Bool) (x : Row) (rows : List Row) → IsPermutation (own (x ∷ rows)) (own (put_in_order before x rows))
  own_put before x [] = IsPermutation-refl _
  own_put before x (y ∷ rows) =
      elim (before x y) as (λ b. IsPermutation (own (x ∷ y ∷ rows)) (own (cond b (x ∷ y ∷ rows) (y ∷ put_in_order before x rows)))) [
        | true ↦ IsPermutation-refl _
        | false ↦ IsPermutation-trans _ (own (y ∷ x ∷ rows)) _ (own_swap x y rows)
            (own_cons y (x ∷ rows) (put_in_order before x rows) (own_put before x rows))
      ]

  own_in_order : (before : Row → Row → Bool) (rows : List Row) → IsPermutation (own rows) (own (in_order before rows))
  own_in_order before [] = IsPermutation-refl []
  own_in_order before (x ∷ rows) =
      IsPermutation-trans _ (own (x ∷ in_order before rows)) _ (own_cons x rows (in_order before rows) (own_in_order before rows))
      (own_put before x (in_order before rows))

  -- ---- the rows of each itag
  event_here : (time : ℕ) (name : List ℕ) (key : Option ℕ) (fields : Fields) (rows : List Row) (n place : ℕ) → place_named kinds s name key ≡ Some n → n ≡ place
      → at_place (Event time name key fields ∷ rows) place
      ≡ event_of time (first + unwrap_or (place_named kinds s name key) (width s)) (given_to kinds name fields) ∷ at_place rows place
  event_here time name key fields rows n place named same =
      let test : (n == place) ≡ true = grind (arith, nat_tests) in
      rw (named, test) (ap (λ i. event_of time (first + i) (given_to kinds name fields) ∷ at_place rows place) (sym same))

  event_there : (time : ℕ) (name : List ℕ) (key : Option ℕ) (fields : Fields) (rows : List Row) (n place : ℕ) → place_named kinds s name key ≡ Some n
      → (n ≡ place → ⊥) → at_place (Event time name key fields ∷ rows) place ≡ at_place rows place
  event_there time name key fields rows n place named other =
      let test : (n == place) ≡ false = not_same (n == place) refl in
      rw (named, test) refl
    where
      not_same : (b : Bool) → (n == place) ≡ b → (n == place) ≡ false
      not_same true e = absurd (other (grind (arith, nat_tests)))
      not_same false e = e

  by_itag : (rows : List Row) → AllByRecursion IsListed rows → IsPermutation (own rows) (flat_map (at_place rows) (range_with_len 0 (width s)))
  by_itag [] all = subst (λ l. IsPermutation [] l) (sym (none_at_places (at_place []) (λ place. refl) (range_with_len 0 (width s)))) (IsPermutation-refl [])
  by_itag (Event time name key fields ∷ rows) all =
      let n : ℕ = all.0.0 in
      let x : EventOf = event_of time (first + unwrap_or (place_named kinds s name key) (width s)) (given_to kinds name fields) in
      IsPermutation-trans (x ∷ own rows) (x ∷ flat_map (at_place rows) (range_with_len 0 (width s))) _
      (IsPermutation-cons x (own rows) (flat_map (at_place rows) (range_with_len 0 (width s))) (by_itag rows all.1))
      (spread (at_place rows) (at_place (Event time name key fields ∷ rows)) x n (event_here time name key fields rows n n all.0.1 refl)
      (λ place. event_there time name key fields rows n place all.0.1) 0 (width s) (omega arith) (let lt = all.0.2 in omega (arith, lt)))
  by_itag (Beat time ∷ rows) all = by_itag rows all.1
  by_itag (End ∷ rows) all = by_itag rows all.1

  -- THE EVENTS OF THE LISTS of a source are those of its rows
  pub in_lists : (rows : List Row) → AllByRecursion IsListed rows
      → IsPermutation (own rows) (all_events (map (items_at kinds s first rows) (range_with_len 0 (width s))))
  in_lists rows all =
      let ordered : List Row = in_time_order rows in
      let places : List ℕ = range_with_len 0 (width s) in
      let listed : AllByRecursion IsListed ordered =
      recursion_from_All IsListed ordered
      (All-permutation IsListed rows ordered (in_order-permutation (is_less time_at) rows) (All-from_recursion IsListed rows all)) in
      let lists : flat_map (at_place ordered) places ≡ all_events (map (items_at kinds s first rows) places) =
      (λ k. flat_map (λ place. sym (events_to_end (filter_map (item_in kinds s first place) ordered)) k) places)
      ∙ sym (flat_of_map events_of (items_at kinds s first rows) places) in
      subst (λ l. IsPermutation (own rows) l) lists
      (IsPermutation-trans (own rows) (own ordered) (flat_map (at_place ordered) places) (own_in_order (is_less time_at) rows) (by_itag ordered listed))
