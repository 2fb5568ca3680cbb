-- The first and the last time of items that are looked at one after another.
use Rattle.std.proofs.Common.{◌≡◌, ℕ, ◌+◌, ◌<◌, min, max, Some, List, [], ◌∷◌, ◌++◌, length, take, get_or, refl, sym, ap, ◌∙◌, arith}
use Rattle.std.specs.Prelude.{Option}
use Rattle.std.specs.List.{flat_map, range_with_len, reduce, fold}
use Rattle.std.proofs.lemmas.Grind.{flat_map-append}
use Rattle.std.proofs.lemmas.List.{append-nil, take_more}
use Rattle.std.proofs.lemmas.List.Elements.{filter_map-append}
use Rattle.std.proofs.lemmas.List.Sums.{fold-append}
use Rattle.flu_lemmas.proofs.Ranges.{range_append}
use Rattle.flu_model.specs.declared.events.Item.{Item}
use Rattle.flu_model.specs.declared.events.Item.TheVariants.{Event as EventItem, Beat, End}
use Rattle.flu_sending.specs.Lines.{time_of, times_of}
use Rattle.flu_sending.specs.LoopSending.{chosen}

pub min_assoc : (a b c : ℕ) → min (min a b) c ≡ min a (min b c)
min_assoc a b c = omega arith

pub max_assoc : (a b c : ℕ) → max (max a b) c ≡ max a (max b c)
max_assoc a b c = omega arith

module _ (choose : ℕ → ℕ → ℕ) (assoc : (a b c : ℕ) → choose (choose a b) c ≡ choose a (choose b c)) where
  fold_chosen : (a b : ℕ) (ts : List ℕ) → fold choose (choose a b) ts ≡ choose a (fold choose b ts)
  fold_chosen a b [] = refl
  fold_chosen a b (t ∷ ts) = ap (λ n. fold choose n ts) (assoc a b t) ∙ fold_chosen a (choose b t) ts

  -- the choice among two lists of times is that of what is chosen in each
  pub reduce-append : (ts us : List ℕ) → reduce choose (ts ++ us) ≡ chosen choose (reduce choose ts) (reduce choose us)
  reduce-append [] us = refl
  reduce-append (t ∷ ts) [] = ap (λ xs. Some (fold choose t xs)) (append-nil ts)
  reduce-append (t ∷ ts) (u ∷ us) = ap Some (fold-append choose t ts (u ∷ us) ∙ fold_chosen (fold choose t ts) u us)

  time_alone : (item : Item) → reduce choose (times_of (item ∷ [])) ≡ time_of item
  time_alone (EventItem x) = refl
  time_alone (Beat t) = refl
  time_alone End = refl

  -- one item more
  pub item_more : (items : List Item) (i : ℕ) (d : Item) (before here after : Option ℕ) → i < length items
      → before ≡ reduce choose (times_of (take i items)) → here ≡ time_of (get_or items i d) → after ≡ chosen choose before here
      → after ≡ reduce choose (times_of (take (i + 1) items))
  item_more items i d before here after lt e f g =
      let item = get_or items i d in
      g
      ∙ (λ j. chosen choose (e j) (f j))
      ∙ sym (ap (λ (xs : List Item). reduce choose (times_of xs)) (take_more items i d lt)
      ∙ ap (reduce choose) (filter_map-append time_of (take i items) (item ∷ []))
      ∙ reduce-append (times_of (take i items)) (times_of (item ∷ []))
      ∙ ap (chosen choose (reduce choose (times_of (take i items)))) (time_alone item))

  -- the times of one itag more; `times` says which each itag has
  pub itag_more : (times : ℕ → List ℕ) (i : ℕ) (before here after : Option ℕ) → before ≡ reduce choose (flat_map times (range_with_len 0 i))
      → here ≡ reduce choose (times i) → after ≡ chosen choose before here → after ≡ reduce choose (flat_map times (range_with_len 0 (i + 1)))
  itag_more times i before here after e f g =
      let earlier = range_with_len 0 i in
      let none : 0 + i ≡ i = omega arith in
      g
      ∙ (λ j. chosen choose (e j) (f j))
      ∙ sym (ap (λ is. reduce choose (flat_map times is)) (range_append 0 i 1 ∙ ap (λ k. earlier ++ range_with_len k 1) none)
      ∙ ap (reduce choose) (flat_map-append times earlier (i ∷ []) ∙ ap (λ ts. flat_map times earlier ++ ts) (append-nil (times i)))
      ∙ reduce-append (flat_map times earlier) (times i))
