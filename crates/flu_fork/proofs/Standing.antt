-- Each event of the streams stands in the fold: the one with this place among those of its itag.
use Rattle.std.proofs.Common.{◌≡◌, ◌<◌, ◌≤◌, ◌+◌, ℕ, zero, suc, Bool, true, false, cond, Some, List, [], ◌∷◌, ◌++◌, inl, inr, refl, sym, ap, subst, ◌∙◌, arith}
use Rattle.std.specs.Prelude.{◌==◌, ◌||◌, not, nat_le, slice_get, slice_index_or, ⊤}
use Rattle.std.specs.List.{filter, AllByRecursion}
use Rattle.std.proofs.lemmas.Bool.{cases_Bool, cases_eq, ne_eqb}
use Rattle.std.proofs.lemmas.List.Elements.{filter-append}
use Rattle.std.proofs.lemmas.Grind.{common_steps}
use Rattle.flu_lemmas.specs.Sorting.{put_in_order, in_order}
use Rattle.flu_lemmas.proofs.Elements.{all_map, all_append}
use Rattle.flu_lemmas.proofs.Searches.{eq_true}
use Rattle.flu_lemmas.proofs.Sorting.{in_order-permutation}
use Rattle.flu_lemmas.proofs.Tests.{and_left, and_right, true_le, not_both}
use Rattle.flu_lemmas.proofs.Totals.{all-IsPermutation}
use Rattle.flu_model.specs.declared.events.Event.{Event}
use Rattle.flu_model.specs.declared.events.Item.{Item}
use Rattle.flu_model.specs.declared.events.Item.TheVariants.{Event as EventItem, Beat, End}
use Rattle.flu_model.specs.declared.jobs.Program.{Program}
use Rattle.flu_model.specs.Contents.{Contents}
use Rattle.flu_model.specs.Merging.{is_before, events_of, all_events, merged}
use Rattle.flu_model.specs.Streaming.{is_stream_from, are_streams}
use Rattle.flu_model.specs.Updates.{effect_of}
use Rattle.flu_laws.specs.Spans.{Moment, history}
use Rattle.flu_fork.specs.Settings.{Setting, IsSetting, events_at, moments}
use Rattle.flu_fork.proofs.Moments.{stream_itags}

abbrev of_itag : ℕ → Event → Bool
of_itag i x = x.itag.0 == i

-- x is before y, or y is not of the itag
abbrev goes : ℕ → Event → Event → Bool
goes i x y = not (of_itag i y) || is_before x y

abbrev Ordered : ℕ → List Event → Type 0
Ordered i [] = ⊤
Ordered i (x ∷ xs) = (of_itag i x ≡ true → AllByRecursion (λ y. goes i x y ≡ true) xs) × Ordered i xs

keep_not : (i : ℕ) (x : Event) (xs : List Event) → of_itag i x ≡ false → filter (of_itag i) (x ∷ xs) ≡ filter (of_itag i) xs
keep_not i x xs e = ap (λ b. cond b (x ∷ filter (of_itag i) xs) (filter (of_itag i) xs)) e

keep : (i : ℕ) (x : Event) (xs : List Event) → of_itag i x ≡ true → filter (of_itag i) (x ∷ xs) ≡ x ∷ filter (of_itag i) xs
keep i x xs e = ap (λ b. cond b (x ∷ filter (of_itag i) xs) (filter (of_itag i) xs)) e

put_other : (i : ℕ) (x : Event) (ys : List Event) → of_itag i x ≡ false → filter (of_itag i) (put_in_order is_before x ys) ≡ filter (of_itag i) ys
put_other i x [] e = keep_not i x [] e
put_other i x (y ∷ ys) e =
    elim (is_before x y) as (λ b. filter (of_itag i) (cond b (x ∷ y ∷ ys) (y ∷ put_in_order is_before x ys)) ≡ filter (of_itag i) (y ∷ ys)) [
      | true ↦ keep_not i x (y ∷ ys) e
      | false ↦ ap (λ l. cond (of_itag i y) (y ∷ l) l) (put_other i x ys e)
    ]

no_later : (a b : Bool) → (not a || b) ≡ true → b ≡ false → a ≡ false
no_later true true e f = cc
no_later true false e f = cc
no_later false b e f = refl

put_first : (i : ℕ) (x : Event) (ys : List Event) → of_itag i x ≡ true → AllByRecursion (λ y. goes i x y ≡ true) ys
    → filter (of_itag i) (put_in_order is_before x ys) ≡ x ∷ filter (of_itag i) ys
put_first i x [] e all = keep i x [] e
put_first i x (y ∷ ys) e all =
    elim (is_before x y) as (λ b. is_before x y ≡ b
    → filter (of_itag i) (cond b (x ∷ y ∷ ys) (y ∷ put_in_order is_before x ys)) ≡ x ∷ filter (of_itag i) (y ∷ ys)) [
      | true ↦ λ h. keep i x (y ∷ ys) e
      | false ↦ λ h.
          (let apart : of_itag i y ≡ false = no_later (of_itag i y) (is_before x y) all.0 h in
          keep_not i y (put_in_order is_before x ys) apart ∙ put_first i x ys e all.1 ∙ ap (λ l. x ∷ l) (sym (keep_not i y ys apart)))
    ] refl

in_order_of : (i : ℕ) (xs : List Event) → Ordered i xs → filter (of_itag i) (in_order is_before xs) ≡ filter (of_itag i) xs
in_order_of i [] o = refl
in_order_of i (x ∷ xs) o =
    elim (cases_Bool (of_itag i x)) [
      | inl h ↦
          put_first i x (in_order is_before xs) h
          (all-IsPermutation (goes i x) xs (in_order is_before xs) (in_order-permutation is_before xs) (o.0 h))
          ∙ ap (λ l. x ∷ l) (in_order_of i xs o.1) ∙ sym (keep i x xs h)
      | inr h ↦ put_other i x (in_order is_before xs) h ∙ in_order_of i xs o.1 ∙ sym (keep_not i x xs h)
    ]

-- ---- one stream
later_goes : (i : ℕ) (x y : Event) → x.time + 1 ≤ y.time → goes i x y ≡ true
later_goes i x y le = grind (arith, common_steps)

pub stream_later : (i low : ℕ) (items : List Item) → is_stream_from i low items ≡ true → AllByRecursion (λ (y : Event). low ≤ y.time) (events_of items)
stream_later i low [] e = tt
stream_later i low (EventItem x ∷ items) e =
    let here : low ≤ x.time = true_le low x.time (and_right _ (nat_le low x.time) (and_left _ (is_stream_from i (x.time + 1) items) e)) in (
      here,
      all_map (λ (y : Event). x.time + 1 ≤ y.time) (λ (y : Event). low ≤ y.time) (events_of items) (λ y le. omega arith)
          (stream_later i (x.time + 1) items (and_right _ _ e)),
    )
stream_later i low (Beat t ∷ items) e =
    let here : low ≤ t = true_le low t (and_left (nat_le low t) (is_stream_from i (t + 1) items) e) in
    all_map (λ (y : Event). t + 1 ≤ y.time) (λ (y : Event). low ≤ y.time) (events_of items) (λ y le. omega arith)
    (stream_later i (t + 1) items (and_right _ _ e))
stream_later i low (End ∷ []) e = tt
stream_later i low (End ∷ y ∷ items) e = cc

stream_ordered : (j i low : ℕ) (items : List Item) → is_stream_from i low items ≡ true → Ordered j (events_of items)
stream_ordered j i low [] e = tt
stream_ordered j i low (EventItem x ∷ items) e = (
  (λ _. all_map (λ (y : Event). x.time + 1 ≤ y.time) (λ y. goes j x y ≡ true) (events_of items) (λ y le. later_goes j x y le)
      (stream_later i (x.time + 1) items (and_right _ _ e))),
  stream_ordered j i (x.time + 1) items (and_right _ _ e),
)
stream_ordered j i low (Beat t ∷ items) e = stream_ordered j i (t + 1) items (and_right _ _ e)
stream_ordered j i low (End ∷ []) e = tt
stream_ordered j i low (End ∷ y ∷ items) e = cc

-- ---- all streams
front_quiet : (i : ℕ) (xs ys : List Event) → AllByRecursion (λ x. of_itag i x ≡ false) xs → Ordered i ys → Ordered i (xs ++ ys)
front_quiet i [] ys quiet o = o
front_quiet i (x ∷ xs) ys quiet o = ((λ h. absurd (not_both _ h quiet.0)), front_quiet i xs ys quiet.1 o)

quiet_goes : (i : ℕ) (x : Event) (xs ys : List Event) → AllByRecursion (λ y. goes i x y ≡ true) xs → AllByRecursion (λ y. of_itag i y ≡ false) ys
    → AllByRecursion (λ y. goes i x y ≡ true) (xs ++ ys)
quiet_goes i x [] [] a q = tt
quiet_goes i x [] (y ∷ ys) a q = (ap (λ b. not b || is_before x y) q.0, quiet_goes i x [] ys tt q.1)
quiet_goes i x (y ∷ xs) ys a q = (a.0, quiet_goes i x xs ys a.1 q)

back_quiet : (i : ℕ) (xs ys : List Event) → Ordered i xs → AllByRecursion (λ y. of_itag i y ≡ false) ys → Ordered i ys → Ordered i (xs ++ ys)
back_quiet i [] ys o q oy = oy
back_quiet i (x ∷ xs) ys o q oy = ((λ h. quiet_goes i x xs ys (o.0 h) q), back_quiet i xs ys o.1 q oy)

none_kept : (i : ℕ) (xs : List Event) → AllByRecursion (λ x. of_itag i x ≡ false) xs → filter (of_itag i) xs ≡ []
none_kept i [] q = refl
none_kept i (x ∷ xs) q = keep_not i x xs q.0 ∙ none_kept i xs q.1

all_kept : (i : ℕ) (xs : List Event) → AllByRecursion (λ (x : Event). x.itag.0 ≡ i) xs → filter (of_itag i) xs ≡ xs
all_kept i [] q = refl
all_kept i (x ∷ xs) q = keep i x xs (eq_true x.itag.0 i q.0) ∙ ap (λ l. x ∷ l) (all_kept i xs q.1)

others : (i j : ℕ) (xs : List Event) → (j ≡ i → ⊥) → AllByRecursion (λ (x : Event). x.itag.0 ≡ j) xs → AllByRecursion (λ x. of_itag i x ≡ false) xs
others i j xs apart all =
    all_map (λ (x : Event). x.itag.0 ≡ j) (λ x. of_itag i x ≡ false) xs (λ x same. ne_eqb x.itag.0 i (λ e. apart (sym same ∙ e))) all

none_behind : (k i : ℕ) (lists : List (List Item)) → i < k → are_streams k lists ≡ true → AllByRecursion (λ x. of_itag i x ≡ false) (all_events lists)
none_behind k i [] lt e = tt
none_behind k i (items ∷ lists) lt e =
    all_append (λ x. of_itag i x ≡ false) (events_of items) (all_events lists)
    (others i k (events_of items) (λ same. omega arith) (stream_itags k 0 items (and_left _ _ e)))
    (none_behind (k + 1) i lists (omega arith) (and_right (is_stream_from k 0 items) (are_streams (k + 1) lists) e))

streams_ordered : (k i : ℕ) (lists : List (List Item)) → are_streams k lists ≡ true → Ordered i (all_events lists)
streams_ordered k i [] e = tt
streams_ordered k i (items ∷ lists) e =
    let here : is_stream_from k 0 items ≡ true = and_left _ _ e in
    let rest : are_streams (k + 1) lists ≡ true = and_right (is_stream_from k 0 items) (are_streams (k + 1) lists) e in
    elim (cases_eq k i) [
      | inl same ↦
          back_quiet i (events_of items) (all_events lists) (stream_ordered i k 0 items here) (none_behind (k + 1) i lists (omega arith) rest)
          (streams_ordered (k + 1) i lists rest)
      | inr other ↦
          front_quiet i (events_of items) (all_events lists) (others i k (events_of items) other (stream_itags k 0 items here))
          (streams_ordered (k + 1) i lists rest)
    ]

append_none : (xs : List Event) → xs ++ [] ≡ xs
append_none [] = refl
append_none (x ∷ xs) = ap (λ l. x ∷ l) (append_none xs)

streams_of : (k n i : ℕ) (lists : List (List Item)) → i ≡ k + n → are_streams k lists ≡ true
    → filter (of_itag i) (all_events lists) ≡ events_of (slice_index_or lists n [])
streams_of k n i [] at e = refl
streams_of k zero i (items ∷ lists) at e =
    let same : k ≡ i = omega arith in
    let here : AllByRecursion (λ (x : Event). x.itag.0 ≡ i) (events_of items) =
    subst (λ (u : ℕ). AllByRecursion (λ (x : Event). x.itag.0 ≡ u) (events_of items)) same (stream_itags k 0 items (and_left _ _ e)) in
    let rest = and_right (is_stream_from k 0 items) (are_streams (k + 1) lists) e in
    filter-append (of_itag i) (events_of items) (all_events lists)
    ∙ (λ t. all_kept i (events_of items) here t ++ none_kept i (all_events lists) (none_behind (k + 1) i lists (omega arith) rest) t)
    ∙ append_none (events_of items)
streams_of k (suc n) i (items ∷ lists) at e =
    filter-append (of_itag i) (events_of items) (all_events lists)
    ∙ ap (λ l. l ++ filter (of_itag i) (all_events lists))
    (none_kept i (events_of items) (others i k (events_of items) (λ same. omega arith) (stream_itags k 0 items (and_left _ _ e))))
    ∙ streams_of (k + 1) n i lists (omega arith) (and_right (is_stream_from k 0 items) (are_streams (k + 1) lists) e)

-- ---- moments
pub record Stands (ms : List Moment) (x : Event) (index : ℕ) : Type 0 where
  pub front : List Moment
  pub back : List Moment
  pub moment : Moment
  pub at : ms ≡ front ++ moment ∷ back
  pub event : moment.event ≡ x
  pub place : moment.index ≡ index

some_same : {x y : Event} → Some x ≡ Some y → x ≡ y
some_same e = cc

-- what comes behind an event
abbrev rest_of : Program → Contents → (ℕ → ℕ) → Event → List Event → List Moment
rest_of p s seen y xs = history p (effect_of p s y).cells (λ u. cond (u == y.itag.0) (seen u + 1) (seen u)) xs

stands : (p : Program) (s : Contents) (seen : ℕ → ℕ) (xs : List Event) (i j : ℕ) (x : Event) → slice_get (filter (of_itag i) xs) j ≡ Some x
    → Stands (history p s seen xs) x (seen i + j)
stands p s seen [] i j x e = cc
stands p s seen (y ∷ xs) i j x e =
    elim (cases_eq y.itag.0 i) [
      | inl same ↦
          here (λ n f. stands p (effect_of p s y).cells (λ u. cond (u == y.itag.0) (seen u + 1) (seen u)) xs i n x f) same j
          (sym (ap (λ l. slice_get l j) (keep i y xs (eq_true y.itag.0 i same))) ∙ e)
      | inr other ↦
          let up : cond (i == y.itag.0) (seen i + 1) (seen i) ≡ seen i =
          ap (λ b. cond b (seen i + 1) (seen i)) (ne_eqb i y.itag.0 (λ q. other (sym q))) in
          let r = stands p (effect_of p s y).cells (λ u. cond (u == y.itag.0) (seen u + 1) (seen u)) xs i j x
          (sym (ap (λ l. slice_get l j) (keep_not i y xs (ne_eqb y.itag.0 i other))) ∙ e) in
          record {
            front = now ∷ r.front;
            back = r.back;
            moment = r.moment;
            at = ap (λ l. now ∷ l) r.at;
            event = r.event;
            place = r.place ∙ ap (λ n. n + j) up;
          }
    ]
  where
    now : Moment
    now = record { event = y; index = seen y.itag.0; before = s }

    here : ((n : ℕ) → slice_get (filter (of_itag i) xs) n ≡ Some x → Stands (rest_of p s seen y xs) x (cond (i == y.itag.0) (seen i + 1) (seen i) + n))
        → y.itag.0 ≡ i → (j : ℕ) → slice_get (y ∷ filter (of_itag i) xs) j ≡ Some x → Stands (now ∷ rest_of p s seen y xs) x (seen i + j)
    here next same zero f = record {
      front = [];
      back = rest_of p s seen y xs;
      moment = now;
      at = refl;
      event = some_same f;
      place = ap seen same ∙ (omega arith);
    }
    here next same (suc j) f =
        let up : cond (i == y.itag.0) (seen i + 1) (seen i) ≡ seen i + 1 = ap (λ b. cond b (seen i + 1) (seen i)) (eq_true i y.itag.0 (sym same)) in
        let r = next j f in
        record {
          front = now ∷ r.front;
          back = r.back;
          moment = r.moment;
          at = ap (λ l. now ∷ l) r.at;
          event = r.event;
          place = r.place ∙ ap (λ n. n + j) up ∙ (omega arith);
        }

-- EACH EVENT STANDS IN THE FOLD
pub event_stands : (k : Setting) → IsSetting k → (i j : ℕ) (x : Event) → slice_get (events_at k i) j ≡ Some x → Stands (moments k) x j
event_stands k ok i j x e =
    let same : filter (of_itag i) (merged k.lists) ≡ events_at k i =
    in_order_of i (all_events k.lists) (streams_ordered 0 i k.lists ok.streams) ∙ streams_of 0 i i k.lists (omega arith) ok.streams in
    let r = stands k.program k.opening (λ u. 0) (merged k.lists) i j x (ap (λ l. slice_get l j) same ∙ e) in
    record { front = r.front; back = r.back; moment = r.moment; at = r.at; event = r.event; place = r.place ∙ (omega arith) }
