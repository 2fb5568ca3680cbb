-- The moments of the items that are held of a source are below 2^63, so borders that are above all of these part them alike.
use Rattle.std.proofs.Common.{◌≡◌, ℕ, ◌+◌, ◌*◌, ◌/◌, ◌^◌, ◌<◌, ◌≤◌, Bool, true, false, cond, eqb, List, [], ◌∷◌, length, map, None, refl, sym, ap, ◌∙◌, arith}
use Rattle.std.specs.Prelude.{nat_lt, nat_le, not, unwrap_or}
use Rattle.std.specs.List.{filter, list_all, list_any}
use Rattle.std.proofs.Math.Nat.{div-mul-le_self, mul-le-mul_left}
use Rattle.std.proofs.lemmas.Bool.Decides.{nat_tests}
use Rattle.flu_lemmas.specs.Counting.{times}
use Rattle.flu_lemmas.specs.Late.{put_late}
use Rattle.flu_lemmas.proofs.Late.{put_late-map}
use Rattle.flu_lemmas.proofs.Tests.{and_left, and_right, both}
use Rattle.flu_model.specs.declared.events.Item.{Item}
use Rattle.flu_model.specs.declared.events.Item.TheVariants.{Event as EventItem, Beat as BeatItem, End as EndItem}
use Rattle.flu_model.specs.declared.moments.Timing.{Timing}
use Rattle.flu_model.specs.Moments.{IsTiming, moment_at}
use Rattle.flu_streams.specs.declared.border.Border.{Border}
use Rattle.flu_streams.specs.declared.border.Border.TheVariants.{At}
use Rattle.flu_streams.specs.declared.inlet.Inlet.{Inlet}
use Rattle.flu_streams.specs.Lists.{item_time, times_in}
use Rattle.flu_streams.specs.LoopHeld.{count_to, taken_by}
use Rattle.flu_streams.specs.LoopMoments.{own_times, are_in_a_row, is_timed, item_at_time}
use Rattle.flu_streams.proofs.Between.{IsNext, counted, rises_times, row_put, apart_put}
use Rattle.flu_streams.specs.Rounds.{is_up_to}
use Rattle.flu_streams.proofs.Cutting.{later_is}
use Rattle.flu_streams.proofs.Moments.{from_border}

abbrev is_low : Item → Bool
is_low item = nat_lt (item_time item) (2 ^ 63)

low_moment : (timing : Timing) (fits : IsTiming timing) (l m : ℕ) → m / timing.scale ≤ l → l < 2 ^ 63 / timing.scale → m < 2 ^ 63
low_moment timing fits l m le lt =
    let within = from_border timing fits m l le in
    let turned : timing.scale * (l + 1) ≤ timing.scale * (2 ^ 63 / timing.scale) = mul-le-mul_left timing.scale (omega (arith, lt)) in
    let whole = div-mul-le_self (2 ^ 63) timing.scale in
    omega (arith, within, turned, whole)

low_moments : (timing : Timing) (fits : IsTiming timing) (l : ℕ) (items : List Item) → list_all (λ t. nat_le t l) (own_times timing items) ≡ true
    → l < 2 ^ 63 / timing.scale → list_all is_low items ≡ true
low_moments timing fits l [] within lt = refl
low_moments timing fits l (item ∷ items) within lt =
    let le = is_le (item_time item / timing.scale) l (and_left (nat_le (item_time item / timing.scale) l) _ within) in
    both _ _ (is_lt (item_time item) (low_moment timing fits l (item_time item) le lt))
    (low_moments timing fits l items (and_right (nat_le (item_time item / timing.scale) l) _ within) lt)
  where
    is_le : (a b : ℕ) → nat_le a b ≡ true → a ≤ b
    is_le a b e = grind (arith, nat_tests)

    is_lt : (m : ℕ) → m < 2 ^ 63 → nat_lt m (2 ^ 63) ≡ true
    is_lt m lt = grind (arith, nat_tests)

filter_same : (f g : Item → Bool) (items : List Item) → list_all is_low items ≡ true → ((item : Item) → item_time item < 2 ^ 63 → f item ≡ g item)
    → filter f items ≡ filter g items
filter_same f g [] low same = refl
filter_same f g (item ∷ items) low same =
    (λ i. cond (same item (is_lt (item_time item) (and_left (nat_lt (item_time item) (2 ^ 63)) _ low)) i) (item ∷ filter f items) (filter f items))
    ∙ ap (λ l. cond (g item) (item ∷ l) l) (filter_same f g items (and_right (nat_lt (item_time item) (2 ^ 63)) _ low) same)
  where
    is_lt : (a : ℕ) → nat_lt a (2 ^ 63) ≡ true → a < 2 ^ 63
    is_lt a e = grind (arith, nat_tests)

-- a border that parts all moments below 2^63 as another does
abbrev pub PartsAlike : ℕ → ℕ → Type 0
PartsAlike border other = (m : ℕ) → m < 2 ^ 63 → nat_le m border ≡ nat_le m other

module _ (h : Inlet) where
  held_low : list_all is_low h.items ≡ true
  held_low = low_moments h.timing h.fits (unwrap_or h.last 0) h.items h.within h.range

  pub later_alike : (border other : ℕ) → PartsAlike border other
      → filter (λ (item : Item). nat_lt border (item_time item)) h.items ≡ filter (λ (item : Item). nat_lt other (item_time item)) h.items
  later_alike border other alike =
      filter_same (λ (item : Item). nat_lt border (item_time item)) (λ (item : Item). nat_lt other (item_time item)) h.items held_low
      (λ item lt. later_is border (item_time item) ∙ ap not (alike (item_time item) lt) ∙ sym (later_is other (item_time item)))

  pub taken_alike : (border other : ℕ) → PartsAlike border other → taken_by (At border) h.items ≡ taken_by (At other) h.items
  taken_alike border other alike =
      filter_same (λ (item : Item). nat_le (item_time item) border) (λ (item : Item). nat_le (item_time item) other) h.items held_low
      (λ item lt. alike (item_time item) lt)

  pub taken_to : (border other : Border) → ((m : ℕ) → m < 2 ^ 63 → is_up_to border m ≡ is_up_to other m) → taken_by border h.items ≡ taken_by other h.items
  taken_to border other alike =
      filter_same (λ (item : Item). is_up_to border (item_time item)) (λ (item : Item). is_up_to other (item_time item)) h.items held_low
      (λ item lt. alike (item_time item) lt)

  pub count_alike : (border other : ℕ) → PartsAlike border other → count_to border h.items ≡ count_to other h.items
  count_alike border other alike = ap length (taken_alike border other alike)

-- the times of the later items
pub times_later : (g : ℕ → Bool) (items : List Item) → times_in (filter (λ (item : Item). g (item_time item)) items) ≡ filter g (times_in items)
times_later g [] = refl
times_later g (item ∷ items) =
    elim (g (item_time item)) as (λ b. times_in (cond b (item ∷ filter (λ (x : Item). g (item_time x)) items) (filter (λ (x : Item). g (item_time x)) items))
    ≡ cond b (item_time item ∷ filter g (times_in items)) (filter g (times_in items))) [
      | true ↦ ap (λ l. item_time item ∷ l) (times_later g items)
      | false ↦ times_later g items
    ]

-- what holds of all of some times holds of those of the later items
pub all_later : (p g : ℕ → Bool) (f : ℕ → ℕ) (ms : List ℕ) → list_all p (map f ms) ≡ true → list_all p (map f (filter g ms)) ≡ true
all_later p g f [] all = refl
all_later p g f (m ∷ ms) all =
    let rest = all_later p g f ms (and_right (p (f m)) _ all) in
    elim (g m) as (λ b. list_all p (map f (cond b (m ∷ filter g ms) (filter g ms))) ≡ true) [
      | true ↦ both _ _ (and_left (p (f m)) _ all) rest
      | false ↦ rest
    ]

-- ---- an item more
-- the moment of a row behind what is held is the next one of the source at its time
pub next_moment : (h : Inlet) (time x : ℕ) → x ≡ moment_at h.timing time (times time (own_times h.timing h.items))
    → times time (own_times h.timing h.items) < h.timing.ties → IsNext h.timing h.fits time None (times_in h.items) x
next_moment h time x is few =
    let n = counted h.timing h.fits time None (times_in h.items) h.in_a_row in
    (omega (arith, is, few, n), omega (arith, is, few))

pub none_has : (h : Inlet) (time x : ℕ) → IsNext h.timing h.fits time None (times_in h.items) x → list_any (λ m. eqb m x) (times_in h.items) ≡ false
none_has h time x next = apart_put h.timing h.fits time None 0 x (times_in h.items) (λ b e. absurd cc) (rises_times h.items h.rising) h.in_a_row next

pub times_put : (item : Item) (items : List Item) → times_in (put_late item_time item items) ≡ put_late (λ m. m) (item_time item) (times_in items)
times_put item items = put_late-map item_time item_time (λ m. m) (λ z. refl) item items

pub row_more : (h : Inlet) (time : ℕ) (item : Item) → IsNext h.timing h.fits time None (times_in h.items) (item_time item)
    → are_in_a_row h.timing None (times_in (put_late item_time item h.items)) ≡ true
row_more h time item next =
    rw (times_put item h.items)
    (row_put h.timing h.fits time None 0 (item_time item) (times_in h.items) (λ b e. absurd cc) (omega arith) (rises_times h.items h.rising) h.in_a_row next)

all_put : (p : ℕ → Bool) (f : ℕ → ℕ) (x : ℕ) (ms : List ℕ) → p (f x) ≡ true → list_all p (map f ms) ≡ true
    → list_all p (map f (put_late (λ m. m) x ms)) ≡ true
all_put p f x [] here all = both _ _ here refl
all_put p f x (m ∷ ms) here all =
    elim (nat_lt m x) as (λ b. list_all p (map f (cond b (m ∷ put_late (λ n. n) x ms) (x ∷ m ∷ ms))) ≡ true) [
      | true ↦ both _ _ (and_left (p (f m)) _ all) (all_put p f x ms here (and_right (p (f m)) _ all))
      | false ↦ both _ _ here all
    ]

all_up_to : (low high : ℕ) (ts : List ℕ) → low ≤ high → list_all (λ t. nat_le t low) ts ≡ true → list_all (λ t. nat_le t high) ts ≡ true
all_up_to low high [] le all = refl
all_up_to low high (t ∷ ts) le all =
    both _ _ (wider t low high le (and_left (nat_le t low) _ all)) (all_up_to low high ts le (and_right (nat_le t low) _ all))
  where
    wider : (t a b : ℕ) → a ≤ b → nat_le t a ≡ true → nat_le t b ≡ true
    wider t a b le e = grind (arith, nat_tests)

-- no item is later than the greatest time, which may be that of one more
pub within_more : (h : Inlet) (last time : ℕ) (item : Item) → unwrap_or h.last 0 ≤ last → item_time item / h.timing.scale ≤ last
    → list_all (λ t. nat_le t last) (own_times h.timing (put_late item_time item h.items)) ≡ true
within_more h last time item le own =
    rw (times_put item h.items) (all_put (λ t. nat_le t last) (λ m. m / h.timing.scale) (item_time item) (times_in h.items) (is_le (item_time item / h.timing.scale) last own)
    (all_up_to (unwrap_or h.last 0) last (own_times h.timing h.items) le h.within))
  where
    is_le : (a b : ℕ) → a ≤ b → nat_le a b ≡ true
    is_le a b le = grind (arith, nat_tests)

pub timed_at : (x : ℕ) (item : Item) → is_timed item ≡ true → item_time (item_at_time x item) ≡ x
timed_at x (EventItem e) is = refl
timed_at x (BeatItem t) is = refl
timed_at x EndItem is = absurd cc
