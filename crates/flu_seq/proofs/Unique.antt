-- Events in strict order are the only merged list of these events.
use Rattle.std.proofs.Common.{◌≡◌, ℕ, Bool, true, false, List, [], ◌∷◌, ◌++◌, refl, sym, ap, subst, ◌∙◌, arith}
use Rattle.std.specs.Prelude.{◌==◌, ◌&&◌, ◌||◌}
use Rattle.std.specs.Cmp.{IsStrictWeakOrder}
use Rattle.std.specs.Ordering.{int_eq, is_lt}
use Rattle.std.specs.List.{list_any, AllByRecursion}
use Rattle.std.specs.List.Sorted.{IsSortedBy}
use Rattle.std.proofs.lemmas.Grind.{common_steps}
use Rattle.std.proofs.lemmas.Int.{ints}
use Rattle.flu_lemmas.specs.Totals.{total}
use Rattle.flu_lemmas.proofs.Elements.{all_map, all_push, found, found_itself}
use Rattle.flu_lemmas.proofs.Sorting.{IsRising, rising_from_sorted, in_order-permutation, in_order-sorted_by, only_rising}
use Rattle.flu_lemmas.proofs.Tests.{not_both}
use Rattle.flu_lemmas.proofs.Totals.{sum_by-total, total-IsPermutation, all_from_total, total_from_all}
use Rattle.flu_lemmas.proofs.InTime.{earlier-cmp, earlier-ranks}
use Rattle.flu_model.specs.declared.events.Event.{Event}
use Rattle.flu_model.specs.declared.events.Item.{Item}
use Rattle.flu_model.specs.Merging.{is_before, event_cmp, all_events, merged, IsMerged}
use Rattle.flu_seq.specs.LoopHeads.{Strict}

-- ---- the order of events
is_before-cmp : (λ x y. is_lt (event_cmp x y)) ≡ is_before
is_before-cmp = earlier-cmp (λ (x : Event). x.time) (λ x. x.itag.0)

is_before-weak : IsStrictWeakOrder is_before
is_before-weak = earlier-ranks (λ (x : Event). x.time) (λ x. x.itag.0)

pub before_trans : (x y z : Event) → is_before x y ≡ true → is_before y z ≡ true → is_before x z ≡ true
before_trans x y z e f = grind (arith, common_steps)

pub strict-push : (done : List Event) (x : Event) → Strict done → AllByRecursion (λ (m : Event). is_before m x ≡ true) done → Strict (done ++ x ∷ [])
strict-push [] x s all = (tt, tt)
strict-push (m ∷ done) x s all = (all_push (λ (y : Event). is_before m y ≡ true) done x s.0 all.0, strict-push done x s.1 all.1)

strict-rising : (xs : List Event) → Strict xs → IsRising is_before xs
strict-rising [] s = tt
strict-rising (x ∷ xs) s = (all_map (λ y. is_before x y ≡ true) (λ y. is_before y x ≡ false) xs (λ y. is_before-weak.one_way x y) s.0, strict-rising xs s.1)

-- ---- equal events
same_event : Event → Event → Bool
same_event x y = (x.time == y.time) && (x.itag.0 == y.itag.0) && (x.item == y.item) && int_eq x.value y.value

same_event-itself : (x : Event) → same_event x x ≡ true
unfolding same_event
same_event-itself x = grind (arith, ints, common_steps)

same_event-is : (x y : Event) → same_event x y ≡ true → x ≡ y
unfolding same_event
same_event-is x y e =
    let t : x.time ≡ y.time = grind (arith, common_steps) in
    let i : x.itag.0 ≡ y.itag.0 = grind (arith, common_steps) in
    let n : x.item ≡ y.item = grind (arith, common_steps) in
    let v : x.value ≡ y.value = grind (arith, ints, common_steps) in
    λ k. record { time = t k; itag = record { 0 = i k }; item = n k; value = v k }

is_listed : List Event → Event → Bool
is_listed ys x = list_any (same_event x) ys

-- of events in strict order no two are in the same place of the order
no_ties : (ys : List Event) → Strict ys → (x y : Event) → is_listed ys x ≡ true → is_listed ys y ≡ true → is_before x y ≡ false → is_before y x ≡ false → x ≡ y
unfolding is_listed
no_ties [] s x y a b e f = cc
no_ties (z ∷ ys) s x y a b e f = by_tests (same_event x z) (same_event y z) refl refl a b (λ here there. no_ties ys s.1 x y here there e f)
  where
    by_tests : (p q : Bool) → same_event x z ≡ p → same_event y z ≡ q → (p || is_listed ys x) ≡ true → (q || is_listed ys y) ≡ true
        → (is_listed ys x ≡ true → is_listed ys y ≡ true → x ≡ y) → x ≡ y
    by_tests true true here there a b rest = same_event-is x z here ∙ sym (same_event-is y z there)
    by_tests true false here there a b rest =
        let before : is_before z y ≡ true = found same_event same_event-is same_event-itself (λ w. is_before z w ≡ true) y ys b s.0 in
        absurd (not_both (is_before x y) (ap (λ w. is_before w y) (same_event-is x z here) ∙ before) e)
    by_tests false true here there a b rest =
        let before : is_before z x ≡ true = found same_event same_event-is same_event-itself (λ w. is_before z w ≡ true) x ys a s.0 in
        absurd (not_both (is_before y x) (ap (λ w. is_before w x) (same_event-is y z there) ∙ before) f)
    by_tests false false here there a b rest = rest a b

only_one : (done events : List Event) → Strict done → IsRising is_before events → ((f : Event → ℕ) → total f events ≡ total f done) → events ≡ done
unfolding is_listed
only_one done events s up sums =
    let own : AllByRecursion (λ x. is_listed done x ≡ true) done = found_itself same_event same_event-is same_event-itself done in
    let theirs : AllByRecursion (λ x. is_listed done x ≡ true) events =
    all_from_total (is_listed done) events (sums _ ∙ total_from_all (is_listed done) done own) in
    only_rising is_before is_before-weak (λ x. is_listed done x ≡ true) (no_ties done s) events done theirs own up (strict-rising done s)
    (λ f. sum_by-total f events ∙ sums f ∙ sym (sum_by-total f done))

-- ---- the merged list
-- the plain program makes a merged list
pub merged-IsMerged : (lists : List (List Item)) → IsMerged lists (merged lists)
merged-IsMerged lists = record {
  all = in_order-permutation is_before (all_events lists);
  sorted = subst (λ lt. IsSortedBy lt (merged lists)) (sym is_before-cmp) (in_order-sorted_by is_before is_before-weak (all_events lists));
}

-- events in strict order with the totals of all events are the only merged list
pub only_merged : (lists : List (List Item)) (done : List Event) → Strict done → ((f : Event → ℕ) → total f done ≡ total f (all_events lists))
    → (events : List Event) → IsMerged lists events → events ≡ done
only_merged lists done s sums events m =
    only_one done events s (rising_from_sorted is_before is_before-weak events (subst (λ lt. IsSortedBy lt events) is_before-cmp m.sorted))
    (λ f. total-IsPermutation f (all_events lists) events m.all ∙ sym (sums f))
