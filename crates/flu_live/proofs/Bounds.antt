-- Totals over the first itags, and events among the first items.
use Rattle.std.proofs.Common.{◌≡◌, ◌+◌, ◌<◌, ℕ, List, [], ◌∷◌, ◌++◌, length, get_or, take, ap, ◌∙◌, add-zero, arith}
use Rattle.std.specs.List.{range_with_len}
use Rattle.std.proofs.lemmas.List.{take_more}
use Rattle.flu_lemmas.specs.Totals.{total}
use Rattle.flu_lemmas.proofs.Ranges.{range_append}
use Rattle.flu_lemmas.proofs.Totals.{total-append}
use Rattle.flu_model.specs.declared.events.Item.{Item}
use Rattle.flu_model.specs.declared.events.Item.TheVariants.{Event as EventItem, Beat, End}
use Rattle.flu_model.specs.Merging.{events_of}

events_append : (xs ys : List Item) → length (events_of (xs ++ ys)) ≡ length (events_of xs) + length (events_of ys)
events_append [] ys = omega arith
events_append (EventItem x ∷ xs) ys = let rest : length (events_of (xs ++ ys)) ≡ length (events_of xs) + length (events_of ys) = events_append xs ys in
    omega (arith, rest)
events_append (Beat t ∷ xs) ys = events_append xs ys
events_append (End ∷ xs) ys = events_append xs ys

pub one_event_more : (items : List Item) (i : ℕ) (d : Item) (was here : ℕ) → i < length items → was ≡ length (events_of (take i items))
    → here ≡ length (events_of (get_or items i d ∷ []))
    → was + here ≡ length (events_of (take (i + 1) items))
one_event_more items i d was here there e f =
    let more : length (events_of (take (i + 1) items)) ≡ length (events_of (take i items)) + length (events_of (get_or items i d ∷ [])) =
    ap (λ l. length (events_of l)) (take_more items i d there) ∙ events_append (take i items) (get_or items i d ∷ []) in
    omega (arith, more, e, f)

pub total_more : (f : ℕ → ℕ) (n was here : ℕ) → was ≡ total f (range_with_len 0 n) → here ≡ f n → was + here ≡ total f (range_with_len 0 (n + 1))
total_more f n was here e h =
    let same : 0 + n ≡ n = omega arith in
    let more : total f (range_with_len 0 (n + 1)) ≡ total f (range_with_len 0 n) + f n =
    ap (total f) (range_append 0 n 1 ∙ ap (λ k. range_with_len 0 n ++ k ∷ []) same) ∙ total-append f (range_with_len 0 n) (n ∷ [])
    ∙ ap (λ m. total f (range_with_len 0 n) + m) (add-zero (f n)) in
    omega (arith, more, e, h)
