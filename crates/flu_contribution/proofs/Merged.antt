-- What passes a test of the merged list is the merged list of what passes it; and the merged events of streams rise strictly.
use Rattle.std.proofs.Common.{◌≡◌, ◌≤◌, ◌+◌, ℕ, zero, suc, Bool, true, false, cond, not, List, [], ◌∷◌, ◌++◌, length, inl, inr, refl, sym, ap, ◌∙◌, arith}
use Rattle.std.specs.Prelude.{◌==◌, ◌&&◌, slice_index_or, ⊤}
use Rattle.std.specs.Cmp.{IsStrictWeakOrder}
use Rattle.std.specs.List.{filter, AllByRecursion}
use Rattle.std.proofs.lemmas.Bool.{cases_Bool, true_from_ne_false}
use Rattle.std.proofs.lemmas.Grind.{common_steps}
use Rattle.std.proofs.lemmas.List.Elements.{filter-append}
use Rattle.flu_lemmas.specs.Sorting.{put_in_order, in_order}
use Rattle.flu_lemmas.proofs.Elements.{all_map, all_append, all_filter}
use Rattle.flu_lemmas.proofs.InTime.{earlier-ranks}
use Rattle.flu_lemmas.proofs.Sorting.{IsRising, in_order-rising, in_order-permutation}
use Rattle.flu_lemmas.proofs.Tests.{and_left, and_right, not_both, true_eq, true_le}
use Rattle.flu_lemmas.proofs.Totals.{all-IsPermutation}
use Rattle.flu_model.specs.declared.events.Event.{Event}
use Rattle.flu_model.specs.declared.events.Item.{Item}
use Rattle.flu_model.specs.declared.events.Item.TheVariants.{Event as EventItem, Beat, End}
use Rattle.flu_model.specs.Merging.{is_before, events_of, all_events, merged}
use Rattle.flu_model.specs.Streaming.{is_stream_from, are_streams}
use Rattle.flu_contribution.specs.Sharing.{RiseStrictly}

-- ---- a test of a list that is put in order
put_first : {X : Type 0} (lt : X → X → Bool) (x : X) (ys : List X) → AllByRecursion (λ y. lt x y ≡ true) ys → put_in_order lt x ys ≡ x ∷ ys
put_first lt x [] all = refl
put_first lt x (y ∷ ys) all = ap (λ b. cond b (x ∷ y ∷ ys) (y ∷ put_in_order lt x ys)) all.0

-- what is before y is before all that is not
all_behind : {X : Type 0} (lt : X → X → Bool) → IsStrictWeakOrder lt → (x y : X) (ys : List X) → lt x y ≡ true → AllByRecursion (λ z. lt z y ≡ false) ys
    → AllByRecursion (λ z. lt x z ≡ true) ys
all_behind lt o x y [] less all = tt
all_behind lt o x y (z ∷ ys) less all =
    (true_from_ne_false (lt x z) (λ e. not_both (lt x y) less (o.chain x z y e all.0)), all_behind lt o x y ys less all.1)

filter_put : {X : Type 0} (lt : X → X → Bool) → IsStrictWeakOrder lt → (f : X → Bool) (x : X) (ys : List X) → IsRising lt ys
    → filter f (put_in_order lt x ys) ≡ cond (f x) (put_in_order lt x (filter f ys)) (filter f ys)
filter_put lt o f x [] up = refl
filter_put {X} lt o f x (y ∷ ys) up =
    elim (lt x y) as (λ b. lt x y ≡ b
    → filter f (cond b (x ∷ y ∷ ys) (y ∷ put_in_order lt x ys)) ≡ cond (f x) (put_in_order lt x (filter f (y ∷ ys))) (filter f (y ∷ ys))) [
      | true ↦ λ less.
          let all : AllByRecursion (λ z. lt x z ≡ true) (y ∷ ys) = (less, all_behind lt o x y ys less up.0) in
          let kept : AllByRecursion (λ z. lt x z ≡ true) (filter f (y ∷ ys)) =
          all_filter (λ z. lt x z ≡ true) f (y ∷ ys)
          (all_map (λ z. lt x z ≡ true) (λ z. f z ≡ true → lt x z ≡ true) (y ∷ ys) (λ z h e. h) all) in
          ap (λ l. cond (f x) l (filter f (y ∷ ys))) (sym (put_first lt x (filter f (y ∷ ys)) kept))
      | false ↦ λ not_less. ap (λ l. cond (f y) (y ∷ l) l) (filter_put lt o f x ys up.1) ∙ by not_less (f x) (f y)
    ] refl
  where
    by : lt x y ≡ false → (p q : Bool)
        → cond q (y ∷ cond p (put_in_order lt x (filter f ys)) (filter f ys)) (cond p (put_in_order lt x (filter f ys)) (filter f ys))
        ≡ cond p (put_in_order lt x (cond q (y ∷ filter f ys) (filter f ys))) (cond q (y ∷ filter f ys) (filter f ys))
    by e true true = sym (ap (λ b. cond b (x ∷ y ∷ filter f ys) (y ∷ put_in_order lt x (filter f ys))) e)
    by e true false = refl
    by e false true = refl
    by e false false = refl

pub filter_in_order : {X : Type 0} (lt : X → X → Bool) → IsStrictWeakOrder lt → (f : X → Bool) (xs : List X)
    → filter f (in_order lt xs) ≡ in_order lt (filter f xs)
filter_in_order lt o f [] = refl
filter_in_order {X} lt o f (x ∷ xs) =
    filter_put lt o f x (in_order lt xs) (in_order-rising lt o xs)
    ∙ ap (λ l. cond (f x) (put_in_order lt x l) l) (filter_in_order lt o f xs) ∙ by (f x)
  where
    by : (b : Bool) → cond b (put_in_order lt x (in_order lt (filter f xs))) (in_order lt (filter f xs)) ≡ in_order lt (cond b (x ∷ filter f xs) (filter f xs))
    by true = refl
    by false = refl

-- ---- the itags and the times of streams
stream_itags : (i low : ℕ) (items : List Item) → is_stream_from i low items ≡ true → AllByRecursion (λ (x : Event). x.itag.0 ≡ i) (events_of items)
stream_itags i low [] e = tt
stream_itags i low (EventItem x ∷ items) e = (true_eq x.itag.0 i (and_left _ _ (and_left _ _ e)), stream_itags i (x.time + 1) items (and_right _ _ e))
stream_itags i low (Beat t ∷ items) e = stream_itags i (t + 1) items (and_right _ _ e)
stream_itags i low (End ∷ []) e = tt
stream_itags i low (End ∷ x ∷ items) e = cc

stream_late : (i low : ℕ) (items : List Item) → is_stream_from i low items ≡ true → AllByRecursion (λ (x : Event). low ≤ x.time) (events_of items)
stream_late i low [] e = tt
stream_late i low (EventItem x ∷ items) e =
    let here = true_le low x.time (and_right (x.itag.0 == i) _ (and_left _ _ e)) in (
      here,
      all_map (λ (y : Event). x.time + 1 ≤ y.time) (λ (y : Event). low ≤ y.time) (events_of items) (λ y h. omega arith)
          (stream_late i (x.time + 1) items (and_right _ _ e)),
    )
stream_late i low (Beat t ∷ items) e =
    let here = true_le low t (and_left _ _ e) in
    all_map (λ (y : Event). t + 1 ≤ y.time) (λ (y : Event). low ≤ y.time) (events_of items) (λ y h. omega arith)
    (stream_late i (t + 1) items (and_right _ _ e))
stream_late i low (End ∷ []) e = tt
stream_late i low (End ∷ x ∷ items) e = cc

later_itags : (n i : ℕ) (lists : List (List Item)) → n ≤ i → are_streams i lists ≡ true → AllByRecursion (λ (x : Event). n ≤ x.itag.0) (all_events lists)
later_itags n i [] le e = tt
later_itags n i (items ∷ lists) le e =
    all_append (λ (x : Event). n ≤ x.itag.0) (events_of items) (all_events lists)
    (all_map (λ (x : Event). x.itag.0 ≡ i) (λ (x : Event). n ≤ x.itag.0) (events_of items) (λ x same. omega arith) (stream_itags i 0 items (and_left _ _ e)))
    (later_itags n (i + 1) lists (omega arith) (and_right _ _ e))

-- ---- streams of which the same events pass a test
same_events : (test : Event → Bool) (whole part : List (List Item)) → length part ≡ length whole
    → ((k : ℕ) → filter test (events_of (slice_index_or part k [])) ≡ filter test (events_of (slice_index_or whole k [])))
    → filter test (all_events part) ≡ filter test (all_events whole)
same_events test [] [] long alike = refl
same_events test [] (a ∷ part) long alike = absurd (omega (arith, long))
same_events test (b ∷ whole) [] long alike = absurd (omega (arith, long))
same_events test (b ∷ whole) (a ∷ part) long alike =
    let here : filter test (events_of a) ≡ filter test (events_of b) = alike 0 in
    let more = same_events test whole part (omega (arith, long)) (λ k. alike (suc k)) in
    filter-append test (events_of a) (all_events part)
    ∙ (λ j. here j ++ more j)
    ∙ sym (filter-append test (events_of b) (all_events whole))

is_before-weak : IsStrictWeakOrder is_before
is_before-weak = earlier-ranks (λ (x : Event). x.time) (λ x. x.itag.0)

pub lists_pass_alike : (test : Event → Bool) (whole part : List (List Item)) → length part ≡ length whole
    → ((i : ℕ) → filter test (events_of (slice_index_or part i [])) ≡ filter test (events_of (slice_index_or whole i [])))
    → filter test (merged part) ≡ filter test (merged whole)
lists_pass_alike test whole part long alike =
    filter_in_order is_before is_before-weak test (all_events part)
    ∙ ap (in_order is_before) (same_events test whole part long alike)
    ∙ sym (filter_in_order is_before is_before-weak test (all_events whole))

-- ---- and so with a test of itags
of_itag : (ℕ → Bool) → Event → Bool
of_itag test x = test x.itag.0

none_pass : (test : ℕ → Bool) (i : ℕ) (xs : List Event) → test i ≡ false → AllByRecursion (λ (x : Event). x.itag.0 ≡ i) xs → filter (of_itag test) xs ≡ []
unfolding of_itag
none_pass test i [] fails all = refl
none_pass test i (x ∷ xs) fails all =
    ap (λ b. cond b (x ∷ filter (of_itag test) xs) (filter (of_itag test) xs)) (ap test all.0 ∙ fails) ∙ none_pass test i xs fails all.1

-- the events of a list of streams have its number as their itag
itags_at : (i k : ℕ) (lists : List (List Item)) → are_streams i lists ≡ true
    → AllByRecursion (λ (x : Event). x.itag.0 ≡ i + k) (events_of (slice_index_or lists k []))
itags_at i k [] e = tt
itags_at i zero (items ∷ lists) e =
    all_map (λ (x : Event). x.itag.0 ≡ i) (λ (x : Event). x.itag.0 ≡ i + 0) (events_of items) (λ x is. omega (arith, is))
    (stream_itags i 0 items (and_left _ _ e))
itags_at i (suc k) (items ∷ lists) e =
    all_map (λ (x : Event). x.itag.0 ≡ i + 1 + k) (λ (x : Event). x.itag.0 ≡ i + suc k) (events_of (slice_index_or lists k []))
    (λ x is. omega (arith, is)) (itags_at (i + 1) k lists (and_right (is_stream_from i 0 items) _ e))

pub lists_agree : (test : ℕ → Bool) (whole part : List (List Item)) → are_streams 0 whole ≡ true → are_streams 0 part ≡ true → length part ≡ length whole
    → ((i : ℕ) → test i ≡ true → events_of (slice_index_or part i []) ≡ events_of (slice_index_or whole i []))
    → filter (λ (x : Event). test x.itag.0) (merged part) ≡ filter (λ (x : Event). test x.itag.0) (merged whole)
unfolding of_itag
lists_agree test whole part e f long agree = lists_pass_alike (of_itag test) whole part long alike
  where
    alike : (i : ℕ) → filter (of_itag test) (events_of (slice_index_or part i [])) ≡ filter (of_itag test) (events_of (slice_index_or whole i []))
    alike i = elim (cases_Bool (test i)) [
      | inl passes ↦ ap (filter (of_itag test)) (agree i passes)
      | inr fails ↦
          let same : 0 + i ≡ i = omega arith in
          none_pass test (0 + i) (events_of (slice_index_or part i [])) (ap test same ∙ fails) (itags_at 0 i part f)
          ∙ sym (none_pass test (0 + i) (events_of (slice_index_or whole i [])) (ap test same ∙ fails) (itags_at 0 i whole e))
    ]

-- ---- merged events rise strictly
is_other : Event → Event → Bool
is_other x y = not ((x.time == y.time) && (x.itag.0 == y.itag.0))

abbrev AreDistinct : List Event → Type 0
AreDistinct [] = ⊤
AreDistinct (x ∷ xs) = AllByRecursion (λ y. is_other x y ≡ true) xs × AreDistinct xs

later_other : (x y : Event) → x.time + 1 ≤ y.time → is_other x y ≡ true
unfolding is_other
later_other x y le = grind (arith, common_steps)

itag_other : (x y : Event) → x.itag.0 + 1 ≤ y.itag.0 → is_other x y ≡ true
unfolding is_other
itag_other x y le = grind (arith, common_steps)

before_trans : (x y z : Event) → is_before x y ≡ true → is_before y z ≡ true → is_before x z ≡ true
before_trans x y z e f = grind (arith, common_steps)

before_back : (x y : Event) → is_before x y ≡ false → is_other x y ≡ true → is_before y x ≡ true
unfolding is_other
before_back x y e f = grind (arith, common_steps)

distinct_append : (xs ys : List Event) → AreDistinct xs → AreDistinct ys
    → AllByRecursion (λ (x : Event). AllByRecursion (λ (y : Event). is_other x y ≡ true) ys) xs → AreDistinct (xs ++ ys)
distinct_append [] ys d e apart = e
distinct_append (x ∷ xs) ys d e apart = (all_append (λ (y : Event). is_other x y ≡ true) xs ys d.0 apart.0, distinct_append xs ys d.1 e apart.1)

stream_distinct : (i low : ℕ) (items : List Item) → is_stream_from i low items ≡ true → AreDistinct (events_of items)
stream_distinct i low [] e = tt
stream_distinct i low (EventItem x ∷ items) e = (
  all_map (λ (y : Event). x.time + 1 ≤ y.time) (λ (y : Event). is_other x y ≡ true) (events_of items) (later_other x)
      (stream_late i (x.time + 1) items (and_right _ _ e)),
  stream_distinct i (x.time + 1) items (and_right _ _ e),
)
stream_distinct i low (Beat t ∷ items) e = stream_distinct i (t + 1) items (and_right _ _ e)
stream_distinct i low (End ∷ []) e = tt
stream_distinct i low (End ∷ x ∷ items) e = cc

streams_distinct : (i : ℕ) (lists : List (List Item)) → are_streams i lists ≡ true → AreDistinct (all_events lists)
streams_distinct i [] e = tt
streams_distinct i (items ∷ lists) e =
    distinct_append (events_of items) (all_events lists) (stream_distinct i 0 items (and_left _ _ e)) (streams_distinct (i + 1) lists (and_right _ _ e))
    (all_map (λ (x : Event). x.itag.0 ≡ i) (λ (x : Event). AllByRecursion (λ (y : Event). is_other x y ≡ true) (all_events lists)) (events_of items)
    (λ x same.
    all_map (λ (y : Event). i + 1 ≤ y.itag.0) (λ (y : Event). is_other x y ≡ true) (all_events lists)
    (λ y le. itag_other x y (omega (arith, same))) (later_itags (i + 1) (i + 1) lists (omega arith) (and_right _ _ e)))
    (stream_itags i 0 items (and_left _ _ e)))

all_put : {X : Type 0} (P : X → Type 0) (lt : X → X → Bool) (x : X) (ys : List X) → P x → AllByRecursion P ys → AllByRecursion P (put_in_order lt x ys)
all_put P lt x [] px all = (px, tt)
all_put P lt x (y ∷ ys) px all =
    elim (lt x y) as (λ b. AllByRecursion P (cond b (x ∷ y ∷ ys) (y ∷ put_in_order lt x ys))) [
      | true ↦ (px, all)
      | false ↦ (all.0, all_put P lt x ys px all.1)
    ]

put_strictly : (x : Event) (ys : List Event) → RiseStrictly ys → AllByRecursion (λ (y : Event). is_other x y ≡ true) ys
    → RiseStrictly (put_in_order is_before x ys)
put_strictly x [] up other = (tt, tt)
put_strictly x (y ∷ ys) up other =
    elim (is_before x y) as (λ b. is_before x y ≡ b → RiseStrictly (cond b (x ∷ y ∷ ys) (y ∷ put_in_order is_before x ys))) [
      | true ↦ λ less. (
        (less, all_map (λ (z : Event). is_before y z ≡ true) (λ (z : Event). is_before x z ≡ true) ys (λ z more. before_trans x y z less more) up.0),
        up,
      )
      | false ↦ λ not_less. (
        all_put (λ (z : Event). is_before y z ≡ true) is_before x ys (before_back x y not_less other.0) up.0,
        put_strictly x ys up.1 other.1,
      )
    ] refl

in_order_strictly : (xs : List Event) → AreDistinct xs → RiseStrictly (in_order is_before xs)
in_order_strictly [] d = tt
in_order_strictly (x ∷ xs) d =
    put_strictly x (in_order is_before xs) (in_order_strictly xs d.1)
    (all-IsPermutation (is_other x) xs (in_order is_before xs) (in_order-permutation is_before xs) d.0)

pub merged_strictly : (lists : List (List Item)) → are_streams 0 lists ≡ true → RiseStrictly (merged lists)
merged_strictly lists e = in_order_strictly (all_events lists) (streams_distinct 0 lists e)
