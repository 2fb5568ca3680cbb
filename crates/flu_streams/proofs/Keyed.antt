-- Items in a list and, after them, in the entries of a map under their times.
use Rattle.std.proofs.Common.{◌≡◌, ◌≢◌, inl, inr, ℕ, zero, suc, ◌+◌, ◌-◌, ◌<◌, ◌≤◌, true, false, eqb, List, [], ◌∷◌, ◌++◌, length, get_or, refl, sym, ap, ◌∙◌}
use Rattle.std.proofs.Common.{length-append, append_assoc, arith}
use Rattle.std.specs.Prelude.{nat_lt, nat_le}
use Rattle.std.specs.List.{All, filter, filter_map, list_any}
use Rattle.std.specs.Ordering.{nat_cmp, is_gt}
use Rattle.std.specs.BTreeMap.{insert_entry, is_at}
use Rattle.std.specs.BTreeMap.Range.{IsLeBy, range_contains}
use Rattle.std.specs.declared.ops.Bound.TheVariants.{Included, Unbounded}
use Rattle.std.specs.Map.{keys_of, values_of, lookup}
use Rattle.std.specs.Option.{is_some}
use Rattle.std.proofs.lemmas.Bool.{cases_Bool, cases_lt}
use Rattle.std.proofs.lemmas.Bool.Decides.{nat_tests}
use Rattle.std.specs.declared.cmp.Ordering.TheVariants.{Less, Equal, Greater}
use Rattle.std.proofs.lemmas.List.Elements.{All-head, All-tail, filter-append, filter_map-append}
use Rattle.flu_lemmas.proofs.Booleans.{or_false_left, or_false_right}
use Rattle.flu_lemmas.proofs.Searches.{eq_true}
use Rattle.flu_lemmas.proofs.Tests.{not_both}
use Rattle.flu_lemmas.specs.Late.{put_late, rises_from}
use Rattle.flu_lemmas.proofs.Late.{RisesFrom, rising, is_rising}
use Rattle.flu_model.specs.declared.events.Item.{Item}
use Rattle.flu_model.specs.declared.events.Item.TheVariants.{End}
use Rattle.flu_streams.specs.Lists.{item_time, times_in}
use Rattle.flu_streams.specs.declared.border.Border.{Border}
use Rattle.flu_streams.specs.Lists.{item_for}
use Rattle.flu_streams.specs.LoopHeld.{count_to, taken_by}
use Rattle.flu_streams.specs.Rounds.{is_up_to}
use Rattle.flu_streams.proofs.Placing.{up_to_last}
use Rattle.flu_streams.proofs.Counting.{count_none, count_late, count_enough, count_within}

-- an item that comes after those of the list is put among those of the map
pub put_after : (item : Item) (xs ys : List Item) → ((i : ℕ) → i < length xs → item_time (get_or xs i End) < item_time item)
    → put_late item_time item (xs ++ ys) ≡ xs ++ put_late item_time item ys
put_after item [] ys below = refl
put_after item (x ∷ xs) ys below =
    let lt = below 0 (omega arith) in
    let hit : nat_lt (item_time x) (item_time item) ≡ true = grind (arith, nat_tests) in
    rw hit (ap (λ l. x ∷ l) (put_after item xs ys (λ i less. below (suc i) (omega (arith, less)))))

-- ---- the entries of a map whose keys are the times of its items
abbrev pub AreKeyed : List (ℕ × Item) → Type 0
AreKeyed es = keys_of es ≡ times_in (values_of es)

head_keyed : (e : ℕ × Item) (es : List (ℕ × Item)) → AreKeyed (e ∷ es) → e.0 ≡ item_time e.1
head_keyed e es keyed = cc

pub rest_keyed : (e : ℕ × Item) (es : List (ℕ × Item)) → AreKeyed (e ∷ es) → AreKeyed es
rest_keyed e es keyed = cc

pub more_keyed : (e : ℕ × Item) (es : List (ℕ × Item)) → e.0 ≡ item_time e.1 → AreKeyed es → AreKeyed (e ∷ es)
more_keyed e es same keyed = cc

is_less_cmp : (a b : ℕ) → a < b → nat_cmp a b ≡ Less
is_less_cmp a b lt = grind (arith, nat_tests)

is_same_cmp : (a b : ℕ) → a ≡ b → nat_cmp a b ≡ Equal
is_same_cmp a b same = grind (arith, nat_tests)

is_more_cmp : (a b : ℕ) → b < a → nat_cmp a b ≡ Greater
is_more_cmp a b lt = grind (arith, nat_tests)

-- an item that is put in under its time
pub entries_late : (item : Item) (es : List (ℕ × Item)) → AreKeyed es → list_any (λ t. eqb t (item_time item)) (times_in (values_of es)) ≡ false
    → (values_of (insert_entry nat_cmp es (item_time item) item) ≡ put_late item_time item (values_of es))
    × AreKeyed (insert_entry nat_cmp es (item_time item) item)
entries_late item [] keyed apart = (refl, refl)
entries_late item (e ∷ es) keyed apart =
    let own = head_keyed e es keyed in
    let rest_apart = or_false_right (eqb (item_time e.1) (item_time item)) _ apart in
    let other : item_time e.1 ≢ item_time item = λ same. not_both (eqb (item_time e.1) (item_time item)) (eq_true (item_time e.1) (item_time item) same)
    (or_false_left (eqb (item_time e.1) (item_time item)) _ apart) in
    let rest = entries_late item es (rest_keyed e es keyed) rest_apart in
    elim (cases_lt (item_time item) (item_time e.1)) [
      | inl less ↦
          let c : nat_cmp (item_time item) e.0 ≡ Less = is_less_cmp (item_time item) e.0 (omega (arith, less, own)) in
          let miss : nat_lt (item_time e.1) (item_time item) ≡ false = grind (arith, nat_tests) in
          rw (c, miss) (refl, more_keyed (item_time item, item) (e ∷ es) refl keyed)
      | inr more ↦
          let c : nat_cmp (item_time item) e.0 ≡ Greater = is_more_cmp (item_time item) e.0 (omega (arith, more, own, other)) in
          let hit : nat_lt (item_time e.1) (item_time item) ≡ true = grind (arith, nat_tests) in
          rw (c, hit) (ap (λ l. e.1 ∷ l) rest.0, more_keyed e (insert_entry nat_cmp es (item_time item) item) own rest.1)
    ]

-- whether the map has a time
pub has_key : (time : ℕ) (es : List (ℕ × Item)) → AreKeyed es → is_some (lookup (is_at (nat_cmp time)) es) ≡ list_any (λ t. eqb t time) (times_in (values_of es))
has_key time [] keyed = refl
has_key time (e ∷ es) keyed =
    let own = head_keyed e es keyed in
    let rest = has_key time es (rest_keyed e es keyed) in
    elim (cases_lt time e.0) [
      | inl less ↦
          let c = is_less_cmp time e.0 less in
          let miss : eqb (item_time e.1) time ≡ false = grind (arith, nat_tests) in
          rw (c, miss) rest
      | inr le ↦ elim (cases_lt e.0 time) [
        | inl more ↦
            let c = is_more_cmp time e.0 more in
            let miss : eqb (item_time e.1) time ≡ false = grind (arith, nat_tests) in
            rw (c, miss) rest
        | inr same ↦
            let c = is_same_cmp time e.0 (omega (arith, le, same)) in
            let hit : eqb (item_time e.1) time ≡ true = grind (arith, nat_tests) in
            rw (c, hit) refl
      ]
    ]

-- an item before all of the map is its first
pub entry_first : (item : Item) (es : List (ℕ × Item)) (low : ℕ) → AreKeyed es → RisesFrom item_time low (item ∷ values_of es)
    → insert_entry nat_cmp es (item_time item) item ≡ (item_time item, item) ∷ es
entry_first item [] low keyed up = refl
entry_first item (e ∷ es) low keyed up =
    let own = head_keyed e es keyed in
    let lt = up.1.0 in
    let c : nat_cmp (item_time item) e.0 ≡ Less = is_less_cmp (item_time item) e.0 (omega (arith, lt, own)) in
    rw c refl

-- items in order of time, behind the first of them
pub rises_behind : (low : ℕ) (xs ys : List Item) → RisesFrom item_time low (xs ++ ys) → (from : ℕ) × RisesFrom item_time from ys
rises_behind low [] ys up = (low, up)
rises_behind low (x ∷ xs) ys up = rises_behind (item_time x + 1) xs ys up.1

-- the last item goes from the list to the map
pub moved : (early front : List Item) (x : Item) (es more : List (ℕ × Item)) → rises_from item_time 0 (early ++ values_of es) ≡ true → AreKeyed es
    → early ≡ front ++ (x ∷ []) → more ≡ insert_entry nat_cmp es (item_time x) x → (front ++ values_of more ≡ early ++ values_of es) × AreKeyed more
moved early front x es more up keyed is put =
    let whole : early ++ values_of es ≡ front ++ (x ∷ values_of es) = ap (λ l. l ++ values_of es) is ∙ append_assoc front (x ∷ []) (values_of es) in
    let behind = rises_behind 0 front (x ∷ values_of es) (rising item_time 0 (front ++ (x ∷ values_of es)) (ap (rises_from item_time 0) (sym whole) ∙ up)) in
    let now : more ≡ (item_time x, x) ∷ es = put ∙ entry_first x es behind.0 keyed behind.1 in
    (ap (λ l. front ++ values_of l) now ∙ sym whole, rw now (more_keyed (item_time x, x) es refl keyed))

-- the items before others are in order of time
pub rises_before : (low : ℕ) (xs ys : List Item) → RisesFrom item_time low (xs ++ ys) → RisesFrom item_time low xs
rises_before low [] ys up = tt
rises_before low (x ∷ xs) ys up = (up.0, rises_before (item_time x + 1) xs ys up.1)

pub front_rises : (xs ys : List Item) → rises_from item_time 0 (xs ++ ys) ≡ true → rises_from item_time 0 xs ≡ true
front_rises xs ys up = is_rising item_time 0 xs (rises_before 0 xs ys (rising item_time 0 (xs ++ ys) up))

-- how many of the items of a map come no later than a time
pub count_keyed : (t : ℕ) (es : List (ℕ × Item)) → AreKeyed es
    → length (filter (λ (e : ℕ × Item). range_contains nat_cmp Unbounded (Included t) e.0) es) ≡ count_to t (values_of es)
count_keyed t [] keyed = refl
count_keyed t (e ∷ es) keyed =
    let own = head_keyed e es keyed in
    let rest = count_keyed t es (rest_keyed e es keyed) in
    elim (cases_lt t e.0) [
      | inl less ↦
          let c = is_less_cmp t e.0 less in
          let miss : nat_le (item_time e.1) t ≡ false = grind (arith, nat_tests) in
          rw (c, miss) rest
      | inr le ↦
          let hit : nat_le (item_time e.1) t ≡ true = grind (arith, nat_tests) in
          elim (cases_lt e.0 t) [
            | inl more ↦ rw (is_more_cmp t e.0 more, hit) (ap suc rest)
            | inr same ↦ rw (is_same_cmp t e.0 (omega (arith, le, same)), hit) (ap suc rest)
          ]
    ]

-- where the first key of a map is after a time, all items are
pub all_after : (t own : ℕ) (es : List (ℕ × Item)) → AreKeyed es → t < own → All (IsLeBy nat_cmp own) (keys_of es)
    → filter (λ (item : Item). nat_lt t (item_time item)) (values_of es) ≡ values_of es
all_after t own [] keyed lt all = refl
all_after t own (e ∷ es) keyed lt all =
    let own_time = head_keyed e es keyed in
    let rest = all_after t own es (rest_keyed e es keyed) lt (All-tail (IsLeBy nat_cmp own) e.0 (keys_of es) all) in
    let here : IsLeBy nat_cmp own e.0 = All-head (IsLeBy nat_cmp own) e.0 (keys_of es) all in
    let le : own ≤ e.0 = elim (cases_lt e.0 own) [
      | inl less ↦ absurd (never (ap is_gt (sym (is_more_cmp own e.0 less)) ∙ here))
      | inr le ↦ le
    ] in
    let hit : nat_lt t (item_time e.1) ≡ true = grind (arith, nat_tests) in
    rw hit (ap (λ l. e.1 ∷ l) rest)
  where
    never : is_gt Greater ≡ false → ⊥
    never e = cc

-- ---- items in a list and then others
pub given_parts : (itag : ℕ) (end : Border) (early late : List Item) → filter_map (item_for itag) (taken_by end (early ++ late))
    ≡ filter_map (item_for itag) (taken_by end early) ++ filter_map (item_for itag) (taken_by end late)
given_parts itag end early late =
    ap (filter_map (item_for itag)) (filter-append (λ (item : Item). is_up_to end (item_time item)) early late)
    ∙ filter_map-append (item_for itag) (taken_by end early) (taken_by end late)

pub any_there : (xs ys : List Item) (n t : ℕ) → n < length xs → item_time (get_or xs n End) ≡ t → list_any (λ u. eqb u t) (times_in (xs ++ ys)) ≡ true
any_there [] ys n t lt e = absurd (omega (arith, lt))
any_there (x ∷ xs) ys zero t lt e = let hit : eqb (item_time x) t ≡ true = grind (arith, nat_tests) in rw hit refl
any_there (x ∷ xs) ys (suc n) t lt e =
    let rest = any_there xs ys n t (omega (arith, lt)) e in
    elim (cases_Bool (eqb (item_time x) t)) [ inl hit ↦ rw hit refl | inr miss ↦ rw miss rest ]

pub any_apart : (xs ys : List Item) (t : ℕ) → ((i : ℕ) → i < length xs → item_time (get_or xs i End) < t)
    → list_any (λ u. eqb u t) (times_in (xs ++ ys)) ≡ list_any (λ u. eqb u t) (times_in ys)
any_apart [] ys t below = refl
any_apart (x ∷ xs) ys t below =
    let lt = below 0 (omega arith) in
    let miss : eqb (item_time x) t ≡ false = grind (arith, nat_tests) in
    rw miss (any_apart xs ys t (λ i less. below (suc i) (omega (arith, less))))

-- items up to a time, the last of which has it not, are before it
pub all_before : (xs ys : List Item) (t : ℕ) → rises_from item_time 0 (xs ++ ys) ≡ true → ((i : ℕ) → i < length xs → item_time (get_or xs i End) ≤ t)
    → (0 < length xs → item_time (get_or xs (length xs - 1) End) ≢ t) → (i : ℕ) → i < length xs → item_time (get_or xs i End) < t
all_before xs ys t up few other i lt =
    let last = few (length xs - 1) (omega (arith, lt)) in
    let apart = other (omega (arith, lt)) in
    let k = up_to_last xs (length xs) i (front_rises xs ys up) (omega arith) lt in
    omega (arith, last, apart, k)

-- and so are items up to a time that none has
pub below_all : (xs ys : List Item) (t : ℕ) → ((i : ℕ) → i < length xs → item_time (get_or xs i End) ≤ t)
    → list_any (λ u. eqb u t) (times_in (xs ++ ys)) ≡ false → (i : ℕ) → i < length xs → item_time (get_or xs i End) < t
below_all xs ys t few none i lt =
    let k = few i lt in
    elim (cases_lt (item_time (get_or xs i End)) t) [
      | inl less ↦ less
      | inr le ↦ absurd (not_both _ (any_there xs ys i t lt (omega (arith, k, le))) none)
    ]

pub pushed_last : (item : Item) (xs : List Item) (es : List (ℕ × Item)) → ((i : ℕ) → i < length xs → item_time (get_or xs i End) < item_time item)
    → es ≡ [] → (xs ++ (item ∷ [])) ++ values_of es ≡ put_late item_time item (xs ++ values_of es)
pushed_last item xs es below none =
    append_assoc xs (item ∷ []) (values_of es) ∙ ap (λ l. xs ++ (item ∷ values_of l)) none
    ∙ sym (put_after item xs (values_of es) below ∙ ap (λ l. xs ++ put_late item_time item (values_of l)) none)

pub pushed_late : (item : Item) (xs : List Item) (es : List (ℕ × Item)) → ((i : ℕ) → i < length xs → item_time (get_or xs i End) < item_time item)
    → AreKeyed es → list_any (λ u. eqb u (item_time item)) (times_in (xs ++ values_of es)) ≡ false
    → (xs ++ values_of (insert_entry nat_cmp es (item_time item) item) ≡ put_late item_time item (xs ++ values_of es))
    × AreKeyed (insert_entry nat_cmp es (item_time item) item)
pushed_late item xs es below keyed apart =
    let put = entries_late item es keyed (sym (any_apart xs (values_of es) (item_time item) below) ∙ apart) in
    (ap (λ l. xs ++ l) put.0 ∙ sym (put_after item xs (values_of es) below), put.1)

-- ---- how many of them come no later than a time
count_append : (t : ℕ) (xs ys : List Item) → count_to t (xs ++ ys) ≡ count_to t xs + count_to t ys
count_append t xs ys =
    ap length (filter-append (λ (item : Item). nat_le (item_time item) t) xs ys)
    ∙ length-append (filter (λ (item : Item). nat_le (item_time item) t) xs) (filter (λ (item : Item). nat_le (item_time item) t) ys)

get_front : (xs ys : List Item) (n : ℕ) → n < length xs → get_or (xs ++ ys) n End ≡ get_or xs n End
get_front [] ys n lt = absurd (omega (arith, lt))
get_front (x ∷ xs) ys zero lt = refl
get_front (x ∷ xs) ys (suc n) lt = get_front xs ys n (omega (arith, lt))

pub count_front : (t n : ℕ) (xs ys : List Item) → rises_from item_time 0 (xs ++ ys) ≡ true → 1 ≤ n → n ≤ length xs
    → nat_le (item_time (get_or xs (n - 1) End)) t ≡ nat_le n (count_to t (xs ++ ys))
count_front t n xs ys up some few =
    let lt : n - 1 < length xs = omega (arith, some, few) in
    let here = ap item_time (get_front xs ys (n - 1) lt) in
    let size = length-append xs ys in
    let less : n - 1 < length (xs ++ ys) = omega (arith, lt, size) in
    let rises = rising item_time 0 (xs ++ ys) up in
    elim (cases_lt t (item_time (get_or xs (n - 1) End))) [
      | inl late ↦
          let k = count_late t 0 (xs ++ ys) (n - 1) rises less (omega (arith, late, here)) in
          let one : nat_le (item_time (get_or xs (n - 1) End)) t ≡ false = grind (arith, nat_tests) in
          let two : nat_le n (count_to t (xs ++ ys)) ≡ false = lt_le_false n (count_to t (xs ++ ys)) (omega (arith, k, some)) in
          one ∙ sym two
      | inr in_time ↦
          let k = count_enough t 0 (xs ++ ys) (n - 1) rises less (omega (arith, in_time, here)) in
          let one : nat_le (item_time (get_or xs (n - 1) End)) t ≡ true = grind (arith, nat_tests) in
          let two : nat_le n (count_to t (xs ++ ys)) ≡ true = le_le_true n (count_to t (xs ++ ys)) (omega (arith, k, some)) in
          one ∙ sym two
    ]
  where
    lt_le_false : (a b : ℕ) → b < a → nat_le a b ≡ false
    lt_le_false a b lt = grind (arith, nat_tests)

    le_le_true : (a b : ℕ) → a ≤ b → nat_le a b ≡ true
    le_le_true a b le = grind (arith, nat_tests)

-- where some of the later items come no later than a time, all of the first do
all_count : (t low : ℕ) (xs ys : List Item) → RisesFrom item_time low (xs ++ ys) → 0 < count_to t ys → count_to t xs ≡ length xs
all_count t low [] ys up some = refl
all_count t low (x ∷ xs) ys up some =
    elim (cases_lt t (item_time x)) [
      | inl late ↦
          let none = count_none t (item_time x + 1) (xs ++ ys) up.1 (omega (arith, late)) in
          let sum = count_append t xs ys in
          absurd (omega (arith, none, sum, some))
      | inr in_time ↦
          let hit : nat_le (item_time x) t ≡ true = grind (arith, nat_tests) in
          rw hit (ap suc (all_count t (item_time x + 1) xs ys up.1 some))
    ]

pub count_behind : (t n : ℕ) (xs ys : List Item) → rises_from item_time 0 (xs ++ ys) ≡ true → length xs < n
    → nat_le (n - length xs) (count_to t ys) ≡ nat_le n (count_to t (xs ++ ys))
count_behind t n xs ys up more =
    let sum = count_append t xs ys in
    let few = count_within t xs in
    elim (cases_lt 0 (count_to t ys)) [
      | inl some ↦
          let all = all_count t 0 xs ys (rising item_time 0 (xs ++ ys) up) some in
          same_test (n - length xs) (count_to t ys) n (count_to t (xs ++ ys)) (λ le. omega (arith, sum, all, le, more)) (λ le. omega (arith, sum, all, le, more))
      | inr none ↦
          same_test (n - length xs) (count_to t ys) n (count_to t (xs ++ ys)) (λ le. absurd (omega (arith, none, le, more)))
          (λ le. absurd (omega (arith, sum, few, none, le, more)))
    ]
  where
    same_test : (a b c d : ℕ) → (a ≤ b → c ≤ d) → (c ≤ d → a ≤ b) → nat_le a b ≡ nat_le c d
    same_test a b c d to from = elim (cases_lt b a) [
      | inl less ↦ let one : nat_le a b ≡ false = grind (arith, nat_tests) in
          elim (cases_lt d c) [
            | inl other ↦ let two : nat_le c d ≡ false = grind (arith, nat_tests) in one ∙ sym two
            | inr le ↦ absurd (omega (arith, less, from le))
          ]
      | inr le ↦ let one : nat_le a b ≡ true = grind (arith, nat_tests) in
          let k = to le in
          let two : nat_le c d ≡ true = grind (arith, nat_tests) in one ∙ sym two
    ]
