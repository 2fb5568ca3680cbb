-- How many items come no later than a time.
use Rattle.std.proofs.Common.{◌≡◌, inl, inr, ℕ, zero, suc, ◌+◌, ◌-◌, ◌<◌, ◌≤◌, Bool, true, false, cond, List, [], ◌∷◌, length, get_or, take, drop, Option, Some}
use Rattle.std.proofs.Common.{None, refl, sym, ap, subst, ◌∙◌, arith}
use Rattle.std.specs.Prelude.{nat_lt, nat_le, option_and_then, if◌then◌else◌}
use Rattle.std.specs.List.{filter, list_all}
use Rattle.std.proofs.lemmas.Bool.{cases_Bool}
use Rattle.std.proofs.lemmas.Bool.Decides.{nat_tests}
use Rattle.flu_lemmas.specs.Late.{put_late, rises_from}
use Rattle.flu_lemmas.proofs.Late.{RisesFrom, rising, is_rising, rises_lower, rises_at}
use Rattle.flu_lemmas.proofs.Tests.{and_left, and_right, both}
use Rattle.flu_model.specs.declared.events.Item.{Item}
use Rattle.flu_model.specs.declared.events.Item.TheVariants.{End}
use Rattle.flu_model.specs.declared.moments.Timing.{Timing}
use Rattle.flu_model.specs.Moments.{last_moment}
use Rattle.flu_streams.specs.Lists.{item_time}
use Rattle.flu_streams.specs.LoopHeld.{count_to, enough_of}
use Rattle.flu_streams.specs.Rounds.{is_above, settled}
use Rattle.flu_streams.specs.Tests.{margin}
use Rattle.flu_streams.proofs.RoundLaws.{settled_some}

-- ---- the front and the back of a list by a test
pub take_passing : {X : Type 0} (f : X → Bool) (d : X) (xs : List X) (n : ℕ) → n ≤ length xs → ((i : ℕ) → i < n → f (get_or xs i d) ≡ true)
    → ((i : ℕ) → n ≤ i → i < length xs → f (get_or xs i d) ≡ false) → take n xs ≡ filter f xs
take_passing f d [] zero few passes fails = refl
take_passing f d [] (suc n) few passes fails = absurd (omega (arith, few))
take_passing f d (x ∷ xs) zero few passes fails =
    let miss : f x ≡ false = fails 0 (omega arith) (omega arith) in
    rw miss (take_passing f d xs zero (omega arith) (λ i lt. absurd (omega (arith, lt))) (λ i le lt. fails (suc i) (omega arith) (omega (arith, lt))))
take_passing f d (x ∷ xs) (suc n) few passes fails =
    let hit : f x ≡ true = passes 0 (omega arith) in
    rw hit (ap (λ l. x ∷ l) (take_passing f d xs n (omega (arith, few)) (λ i lt. passes (suc i) (omega (arith, lt)))
    (λ i le lt. fails (suc i) (omega (arith, le)) (omega (arith, lt)))))

pub drop_failing : {X : Type 0} (f : X → Bool) (d : X) (xs : List X) (n : ℕ) → n ≤ length xs → ((i : ℕ) → i < n → f (get_or xs i d) ≡ false)
    → ((i : ℕ) → n ≤ i → i < length xs → f (get_or xs i d) ≡ true) → drop n xs ≡ filter f xs
drop_failing f d [] zero few fails passes = refl
drop_failing f d [] (suc n) few fails passes = absurd (omega (arith, few))
drop_failing f d (x ∷ xs) zero few fails passes =
    let hit : f x ≡ true = passes 0 (omega arith) (omega arith) in
    rw hit (ap (λ l. x ∷ l) (drop_failing f d xs zero (omega arith) (λ i lt. absurd (omega (arith, lt)))
    (λ i le lt. passes (suc i) (omega arith) (omega (arith, lt)))))
drop_failing f d (x ∷ xs) (suc n) few fails passes =
    let miss : f x ≡ false = fails 0 (omega arith) in
    rw miss (drop_failing f d xs n (omega (arith, few)) (λ i lt. fails (suc i) (omega (arith, lt)))
    (λ i le lt. passes (suc i) (omega (arith, le)) (omega (arith, lt))))

rises_passing : {X : Type 0} (number : X → ℕ) (f : X → Bool) (low : ℕ) (xs : List X) → RisesFrom number low xs → RisesFrom number low (filter f xs)
rises_passing number f low [] up = tt
rises_passing number f low (x ∷ xs) up =
    let rest = rises_passing number f (number x + 1) xs up.1 in
    elim (f x) as (λ b. RisesFrom number low (cond b (x ∷ filter f xs) (filter f xs))) [
      | true ↦ (up.0, rest)
      | false ↦ rises_lower number (number x + 1) low (filter f xs) (omega (arith, up.0)) rest
    ]

pub still_rises : (f : Item → Bool) (items : List Item) → rises_from item_time 0 items ≡ true → rises_from item_time 0 (filter f items) ≡ true
still_rises f items up = is_rising item_time 0 (filter f items) (rises_passing item_time f 0 items (rising item_time 0 items up))

pub all_late : {X : Type 0} (p : X → Bool) (number : X → ℕ) (x : X) (ys : List X) → p x ≡ true → list_all p ys ≡ true → list_all p (put_late number x ys) ≡ true
all_late p number x [] one all = both (p x) true one refl
all_late p number x (y ∷ ys) one all =
    elim (nat_lt (number y) (number x)) as (λ b. list_all p (if b then y ∷ put_late number x ys else x ∷ y ∷ ys) ≡ true) [
      | true ↦ both (p y) _ (and_left (p y) _ all) (all_late p number x ys one (and_right (p y) _ all))
      | false ↦ both (p x) _ one all
    ]

-- ---- counts
pub count_step : (u : ℕ) (x : Item) (xs : List Item) → item_time x ≤ u → count_to u (x ∷ xs) ≡ suc (count_to u xs)
count_step u x xs le = let e : nat_le (item_time x) u ≡ true = grind (arith, nat_tests) in rw e refl

count_skip : (u : ℕ) (x : Item) (xs : List Item) → u < item_time x → count_to u (x ∷ xs) ≡ count_to u xs
count_skip u x xs lt = let e : nat_le (item_time x) u ≡ false = grind (arith, nat_tests) in rw e refl

pub count_within : (u : ℕ) (items : List Item) → count_to u items ≤ length items
count_within u [] = omega arith
count_within u (x ∷ xs) =
    elim (nat_le (item_time x) u) as (λ b. length (cond b (x ∷ filter (λ (item : Item). nat_le (item_time item) u) xs)
    (filter (λ (item : Item). nat_le (item_time item) u) xs)) ≤ suc (length xs)) [
      | true ↦ omega (arith, count_within u xs)
      | false ↦ omega (arith, count_within u xs)
    ]

pub count_none : (u low : ℕ) (items : List Item) → RisesFrom item_time low items → u < low → count_to u items ≡ 0
count_none u low [] up lt = refl
count_none u low (x ∷ xs) up lt = count_skip u x xs (omega (arith, lt, up.0)) ∙ count_none u (item_time x + 1) xs up.1 (omega (arith, lt, up.0))

pub count_late : (u low : ℕ) (items : List Item) (n : ℕ) → RisesFrom item_time low items → n < length items → u < item_time (get_or items n End)
    → count_to u items ≤ n
count_late u low [] n up lt late = absurd (omega (arith, lt))
count_late u low (x ∷ xs) zero up lt late =
    let e = count_skip u x xs late ∙ count_none u (item_time x + 1) xs up.1 (omega (arith, late)) in omega (arith, e)
count_late u low (x ∷ xs) (suc n) up lt late =
    let rest = count_late u (item_time x + 1) xs n up.1 (omega (arith, lt)) late in
    elim (nat_le (item_time x) u) as (λ b. length (cond b (x ∷ filter (λ (item : Item). nat_le (item_time item) u) xs)
    (filter (λ (item : Item). nat_le (item_time item) u) xs)) ≤ suc n) [
      | true ↦ omega (arith, rest)
      | false ↦ omega (arith, rest)
    ]

pub count_enough : (u low : ℕ) (items : List Item) (n : ℕ) → RisesFrom item_time low items → n < length items → item_time (get_or items n End) ≤ u
    → n < count_to u items
count_enough u low [] n up lt in_time = absurd (omega (arith, lt))
count_enough u low (x ∷ xs) zero up lt in_time = let e = count_step u x xs in_time in omega (arith, e)
count_enough u low (x ∷ xs) (suc n) up lt in_time =
    let before = rises_at item_time low End (x ∷ xs) 0 (suc n) up (omega arith) lt in
    let e = count_step u x xs (omega (arith, before, in_time)) in
    let rest = count_enough u (item_time x + 1) xs n up.1 (omega (arith, lt)) in_time in
    omega (arith, e, rest)

-- ---- whether so many items are settled
-- the settled time, if this many of the items come no later
abbrev enough_at : Timing → ℕ → List Item → Option ℕ → Option ℕ
enough_at timing rows items found = option_and_then (λ u. if nat_le rows (count_to (last_moment timing u) items) then Some u else None) found

pub few_settled : (timing : Timing) (rows slack last : ℕ) (items : List Item) → margin timing slack ≤ last
    → nat_le rows (count_to (last_moment timing (last - margin timing slack)) items) ≡ false → enough_of timing rows slack (Some last) items ≡ None
few_settled timing rows slack last items le few =
    ap (enough_at timing rows items) (settled_some (margin timing slack) last le)
    ∙ ap (λ (b : Bool). if b then Some (last - margin timing slack) else None) few

pub many_settled : (timing : Timing) (rows slack last : ℕ) (items : List Item) → margin timing slack ≤ last
    → nat_le rows (count_to (last_moment timing (last - margin timing slack)) items) ≡ true
    → enough_of timing rows slack (Some last) items ≡ Some (last - margin timing slack)
many_settled timing rows slack last items le many =
    ap (enough_at timing rows items) (settled_some (margin timing slack) last le)
    ∙ ap (λ (b : Bool). if b then Some (last - margin timing slack) else None) many

-- what comes of it
pub record IsEnough (timing : Timing) (rows slack u : ℕ) (last : Option ℕ) (items : List Item) : Type 0 where
  pub settles : settled (margin timing slack) last ≡ Some u
  pub count : rows ≤ count_to (last_moment timing u) items

pub enough_is : (timing : Timing) (rows slack u : ℕ) (last : Option ℕ) (items : List Item) → enough_of timing rows slack last items ≡ Some u
    → IsEnough timing rows slack u last items
enough_is timing rows slack u last items e = by_time (settled (margin timing slack) last) refl e
  where
    le_of : (a b : ℕ) → nat_le a b ≡ true → a ≤ b
    le_of a b le = grind (arith, nat_tests)

    by_count : (v : ℕ) (b : Bool) → settled (margin timing slack) last ≡ Some v → nat_le rows (count_to (last_moment timing v) items) ≡ b
        → (if b then Some v else None) ≡ Some u → IsEnough timing rows slack u last items
    by_count v true at c e =
        let same : v ≡ u = some_is e in
        record {
          settles = at ∙ e;
          count = subst (λ t. rows ≤ count_to (last_moment timing t) items) same (le_of rows (count_to (last_moment timing v) items) c);
        }
      where
        some_is : {a b : ℕ} → Some a ≡ Some b → a ≡ b
        some_is e = cc
    by_count v false at c e = absurd cc

    by_time : (o : Option ℕ) → settled (margin timing slack) last ≡ o → enough_at timing rows items o ≡ Some u → IsEnough timing rows slack u last items
    by_time None at e = absurd cc
    by_time (Some v) at e = by_count v (nat_le rows (count_to (last_moment timing v) items)) at refl e

pub none_enough : (timing : Timing) (rows slack u : ℕ) (last : Option ℕ) (items : List Item) → enough_of timing rows slack last items ≡ None
    → settled (margin timing slack) last ≡ Some u → count_to (last_moment timing u) items < rows
none_enough timing rows slack u last items e at =
    by_count (count_to (last_moment timing u) items) (nat_le rows (count_to (last_moment timing u) items)) refl (ap (enough_at timing rows items) (sym at) ∙ e)
  where
    by_count : (count : ℕ) (b : Bool) → nat_le rows count ≡ b → (if b then Some u else None) ≡ None → count < rows
    by_count count true c e = absurd cc
    by_count count false c e = grind (arith, nat_tests)

above_more : (above : Option ℕ) (t u : ℕ) → is_above above t ≡ true → t ≤ u → is_above above u ≡ true
above_more None t u a le = refl
above_more (Some b) t u a le = grind (arith, nat_tests)

-- a time up to which one of some items comes is above all that these are above
pub above_at : (above : Option ℕ) (u : ℕ) (items : List Item) → list_all (λ (item : Item). is_above above (item_time item)) items ≡ true → 1 ≤ count_to u items
    → is_above above u ≡ true
above_at above u [] all one = absurd (omega (arith, one))
above_at above u (x ∷ xs) all one =
    elim (cases_Bool (nat_le (item_time x) u)) [
      | inl early ↦ let le : item_time x ≤ u = grind (arith, nat_tests) in above_more above (item_time x) u (and_left (is_above above (item_time x)) _ all) le
      | inr late ↦
          let lt : u < item_time x = grind (arith, nat_tests) in
          above_at above u xs (and_right (is_above above (item_time x)) _ all) (omega (arith, one, count_skip u x xs lt))
    ]
