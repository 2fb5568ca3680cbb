-- What is cut at a time is folded in turn.
use Rattle.std.proofs.Common.{◌≡◌, ℕ, ◌<◌, ◌≤◌, inl, inr, Bool, true, false, cond, List, [], ◌∷◌, ◌++◌, map, refl, sym, ap, ◌∙◌, append_assoc, arith}
use Rattle.std.specs.Prelude.{not, nat_lt, nat_le, ◌==◌, ◌&&◌}
use Rattle.std.specs.List.{filter, flat_map, list_all}
use Rattle.std.specs.Ordering.{is_lt}
use Rattle.std.proofs.lemmas.Bool.{cases_lt}
use Rattle.std.proofs.lemmas.Bool.Decides.{nat_tests}
use Rattle.std.proofs.lemmas.Grind.{flat_map-append}
use Rattle.std.proofs.lemmas.List.{append-nil, map-append}
use Rattle.std.proofs.lemmas.List.Elements.{filter-append}
use Rattle.std.proofs.lemmas.List.Folds.{list_all-append}
use Rattle.flu_lemmas.specs.Sorting.{in_order}
use Rattle.flu_lemmas.proofs.Tests.{and_left, and_right, both}
use Rattle.flu_model.specs.declared.events.Event.{Event}
use Rattle.flu_model.specs.declared.events.Item.{Item}
use Rattle.flu_model.specs.declared.events.Item.TheVariants.{Event as EventItem, Beat as BeatItem, End as EndItem}
use Rattle.flu_model.specs.declared.events.Out.{Out}
use Rattle.flu_model.specs.declared.events.Tag.{Tag}
use Rattle.flu_model.specs.declared.jobs.Program.{Program}
use Rattle.flu_model.specs.Contents.{Contents}
use Rattle.flu_model.specs.Folding.{outputs_at, outputs_with, state_after, outputs_of, final_state, final_outputs}
use Rattle.flu_model.specs.Merging.{is_before, events_of, all_events, merged}
use Rattle.flu_model.specs.Moments.{time_of_moment}
use Rattle.flu_model.specs.Reports.{Line, line_of, line_cmp, line_bytes, report}
use Rattle.flu_model.specs.Updates.{effect_of}
use Rattle.flu_streams.specs.Lists.{item_time}
use Rattle.flu_streams.specs.Borders.{AreCutAt, LawOfBorders, ItemsAreCut}
use Rattle.flu_streams.proofs.Moments.{time_up}
use Rattle.flu_streams.proofs.Cutting.{in_order-cut, all_early, all_late, kept_all, kept_none, not_not, later_is}

-- ---- the merged list
tests_apart : (a b t : ℕ) → nat_le a t ≡ true → nat_le b t ≡ false → b ≤ a → ⊥
tests_apart a b t e f le = grind (arith, nat_tests)

-- an event up to a time is before each later one
moment_before : (p : Program) (t m n : ℕ) → nat_le (time_of_moment p m) t ≡ true → nat_le (time_of_moment p n) t ≡ false → m < n
moment_before p t m n e f =
    elim (cases_lt m n) [
      | inl lt ↦ lt
      | inr ge ↦ absurd (tests_apart (time_of_moment p m) (time_of_moment p n) t e f (time_up p n m ge))
    ]

early_first : (p : Program) (t : ℕ) (x y : Event) → nat_le (time_of_moment p x.time) t ≡ true → nat_le (time_of_moment p y.time) t ≡ false
    → is_before x y ≡ true
early_first p t x y e f =
    let before = moment_before p t x.time y.time e f in
    let lt : nat_lt x.time y.time ≡ true = grind (arith, nat_tests) in
    rw lt refl

late_last : (p : Program) (t : ℕ) (x y : Event) → nat_le (time_of_moment p x.time) t ≡ false → nat_le (time_of_moment p y.time) t ≡ true
    → is_before x y ≡ false
late_last p t x y e f =
    let behind = moment_before p t y.time x.time f e in
    let lt : nat_lt x.time y.time ≡ false = grind (arith, nat_tests) in
    let eq : (x.time == y.time) ≡ false = grind (arith, nat_tests) in
    rw (lt, eq) refl

pub merged_cut : (p : Program) (t : ℕ) (whole first second : List (List Item)) → AreCutAt p t whole first second
    → merged whole ≡ merged first ++ merged second
merged_cut p t whole first second cut =
    in_order-cut is_before is_early (early_first p t) (late_last p t) (all_events whole)
    ∙ ap (λ (xs : List Event). in_order is_before (filter is_early (all_events whole)) ++ in_order is_before xs) (sym late)
    ∙ ap (λ (xs : List Event). in_order is_before xs ++ merged second) (sym cut.early)
  where
    is_early : Event → Bool
    is_early x = nat_le (time_of_moment p x.time) t

    late : all_events second ≡ filter (λ (x : Event). not (is_early x)) (all_events whole)
    late = cut.late ∙ (λ i. filter (λ (x : Event). later_is t (time_of_moment p x.time) i) (all_events whole))

-- ---- the fold
pub state_after-append : (p : Program) (s : Contents) (xs ys : List Event) → state_after p s (xs ++ ys) ≡ state_after p (state_after p s xs) ys
state_after-append p s [] ys = refl
state_after-append p s (x ∷ xs) ys = state_after-append p (effect_of p s x).cells xs ys

pub outputs_of-append : (p : Program) (s : Contents) (xs ys : List Event)
    → outputs_of p s (xs ++ ys) ≡ outputs_of p s xs ++ outputs_of p (state_after p s xs) ys
outputs_of-append p s [] ys = refl
outputs_of-append p s (x ∷ xs) ys =
    let e = effect_of p s x in
    ap (λ rest. outputs_with p x e.texts ++ rest) (outputs_of-append p e.cells xs ys)
    ∙ sym (append_assoc (outputs_with p x e.texts) (outputs_of p e.cells xs) (outputs_of p (state_after p e.cells xs) ys))

-- ---- the times of outputs
outputs_timed : (f : ℕ → Bool) (time : ℕ) (tag : Tag) (texts : List (List ℕ)) → f time ≡ true
    → list_all (λ (o : Out). f o.time) (outputs_at time tag texts) ≡ true
outputs_timed f time tag [] e = refl
outputs_timed f time tag (text ∷ texts) e = both (f time) _ e (outputs_timed f time tag texts e)

outputs_all : (f : ℕ → Bool) (p : Program) (s : Contents) (xs : List Event) → list_all (λ (x : Event). f (time_of_moment p x.time)) xs ≡ true
    → list_all (λ (o : Out). f o.time) (outputs_of p s xs) ≡ true
outputs_all f p s [] all = refl
outputs_all f p s (x ∷ xs) all =
    let e = effect_of p s x in
    let time = time_of_moment p x.time in
    list_all-append (λ (o : Out). f o.time) (outputs_with p x e.texts) (outputs_of p e.cells xs)
    ∙ both _ _ (outputs_timed f time _ e.texts (and_left (f time) _ all)) (outputs_all f p e.cells xs (and_right (f time) _ all))

-- ---- the report
line_first : (t : ℕ) (a b : Line) → nat_le a.time t ≡ true → nat_le b.time t ≡ false → is_lt (line_cmp a b) ≡ true
line_first t a b e f = let lt : nat_lt a.time b.time ≡ true = grind (arith, nat_tests) in rw lt refl

line_last : (t : ℕ) (a b : Line) → nat_le a.time t ≡ false → nat_le b.time t ≡ true → is_lt (line_cmp a b) ≡ false
line_last t a b e f =
    let lt : nat_lt a.time b.time ≡ false = grind (arith, nat_tests) in
    let eq : (a.time == b.time) ≡ false = grind (arith, nat_tests) in
    rw (lt, eq) refl

lines_all : (f : ℕ → Bool) (p : Program) (outs : List Out) → list_all (λ (l : Line). f l.time) (map (line_of p) outs) ≡ list_all (λ (o : Out). f o.time) outs
lines_all f p [] = refl
lines_all f p (o ∷ outs) = ap (λ b. f o.time && b) (lines_all f p outs)

report_cut : (p : Program) (t : ℕ) (us vs : List Out) → list_all (λ (o : Out). nat_le o.time t) us ≡ true
    → list_all (λ (o : Out). not (nat_le o.time t)) vs ≡ true
    → report p (us ++ vs) ≡ report p us ++ report p vs
report_cut p t us vs early late =
    let lt = λ (a b : Line). is_lt (line_cmp a b) in
    let f = λ (l : Line). nat_le l.time t in
    let g = λ (l : Line). not (nat_le l.time t) in
    let front = map (line_of p) us in
    let back = map (line_of p) vs in
    let front_early : list_all f front ≡ true = lines_all (λ n. nat_le n t) p us ∙ early in
    let back_late : list_all g back ≡ true = lines_all (λ n. not (nat_le n t)) p vs ∙ late in
    let front_twice : list_all (λ (l : Line). not (g l)) front ≡ true = (λ i. list_all (λ (l : Line). not_not (f l) i) front) ∙ front_early in
    let first : filter f (front ++ back) ≡ front = filter-append f front back ∙ ap (λ l. l ++ filter f back) (kept_all f front front_early)
    ∙ ap (λ l. front ++ l) (kept_none f back back_late) ∙ append-nil front in
    let second : filter g (front ++ back) ≡ back = filter-append g front back ∙ ap (λ l. l ++ filter g back) (kept_none g front front_twice)
    ∙ kept_all g back back_late in
    ap (λ ls. flat_map (line_bytes p.iso) (in_order lt ls)) (map-append (line_of p) us vs)
    ∙ ap (flat_map (line_bytes p.iso)) (in_order-cut lt f (line_first t) (line_last t) (front ++ back)
    ∙ ap (λ ls. in_order lt ls ++ in_order lt (filter g (front ++ back))) first ∙ ap (λ ls. in_order lt front ++ in_order lt ls) second)
    ∙ flat_map-append (line_bytes p.iso) (in_order lt front) (in_order lt back)

-- ---- the law
pub folds_in_turn : LawOfBorders
folds_in_turn p opening t whole first second cut =
    let events = merged_cut p t whole first second cut in
    let mid = final_state p opening first in
    let outputs = ap (outputs_of p opening) events ∙ outputs_of-append p opening (merged first) (merged second) in
    record {
      state = ap (state_after p opening) events ∙ state_after-append p opening (merged first) (merged second);
      outputs = outputs;
      lines = ap (report p) outputs ∙ report_cut p t (final_outputs p opening first) (final_outputs p mid second)
          (outputs_all (λ n. nat_le n t) p opening (merged first) early) (outputs_all (λ n. not (nat_le n t)) p mid (merged second) late);
    }
  where
    is_early : Event → Bool
    is_early x = nat_le (time_of_moment p x.time) t

    early : list_all is_early (merged first) ≡ true
    early = rw cut.early (all_early is_before is_early (early_first p t) (late_last p t) (all_events whole))

    late : list_all (λ (x : Event). not (is_early x)) (merged second) ≡ true
    late = rw (cut.late ∙ (λ i. filter (λ (x : Event). later_is t (time_of_moment p x.time) i) (all_events whole)))
        (all_late is_before is_early (early_first p t) (late_last p t) (all_events whole))

-- ---- items up to a time and later ones
kept_events : (f : ℕ → Bool) (items : List Item)
    → events_of (filter (λ (item : Item). f (item_time item)) items) ≡ filter (λ (x : Event). f x.time) (events_of items)
kept_events f [] = refl
kept_events f (EventItem x ∷ items) =
    elim (f x.time) as (λ b. events_of (cond b (EventItem x ∷ filter (λ (item : Item). f (item_time item)) items) (filter (λ (item : Item). f (item_time item))
    items)) ≡ cond b (x ∷ filter (λ (y : Event). f y.time) (events_of items)) (filter (λ (y : Event). f y.time) (events_of items))) [
      | true ↦ ap (λ l. x ∷ l) (kept_events f items)
      | false ↦ kept_events f items
    ]
kept_events f (BeatItem t ∷ items) =
    elim (f t) as (λ b. events_of (cond b (BeatItem t ∷ filter (λ (item : Item). f (item_time item)) items)
    (filter (λ (item : Item). f (item_time item)) items)) ≡ filter (λ (y : Event). f y.time) (events_of items)) [
      | true ↦ kept_events f items
      | false ↦ kept_events f items
    ]
kept_events f (EndItem ∷ items) =
    elim (f 0) as (λ b. events_of (cond b (EndItem ∷ filter (λ (item : Item). f (item_time item)) items) (filter (λ (item : Item). f (item_time item)) items))
    ≡ filter (λ (y : Event). f y.time) (events_of items)) [
      | true ↦ kept_events f items
      | false ↦ kept_events f items
    ]

kept_all_events : (f : ℕ → Bool) (lists : List (List Item))
    → all_events (map (filter (λ (item : Item). f (item_time item))) lists) ≡ filter (λ (x : Event). f x.time) (all_events lists)
kept_all_events f [] = refl
kept_all_events f (items ∷ lists) =
    ap (λ l. l ++ all_events (map (filter (λ (item : Item). f (item_time item))) lists)) (kept_events f items)
    ∙ ap (λ l. filter (λ (x : Event). f x.time) (events_of items) ++ l) (kept_all_events f lists)
    ∙ sym (filter-append (λ (x : Event). f x.time) (events_of items) (all_events lists))

pub items_are_cut : ItemsAreCut
items_are_cut p t lists = record {
  early = kept_all_events (λ n. nat_le (time_of_moment p n) t) lists;
  late = kept_all_events (λ n. nat_lt t (time_of_moment p n)) lists;
}
