-- How many moments of a source are held at a time: those from its first one at the time on follow one another.
use Rattle.std.proofs.Common.{◌≡◌, inl, inr, ℕ, zero, suc, ◌+◌, ◌-◌, ◌*◌, ◌/◌, ◌%◌, ◌<◌, ◌≤◌, max, Bool, true, false, cond, ◌&&◌, ◌||◌, ◌⊎◌, eqb, List, [], ◌∷◌, ◌++◌}
use Rattle.std.proofs.Common.{length, map, get_or, Option, Some, None, refl, sym, ap, ◌∙◌, arith, length-append}
use Rattle.std.specs.Prelude.{◌==◌, nat_lt, nat_le}
use Rattle.std.specs.BTreeMap.Range.{range_contains, entries_between}
use Rattle.std.specs.List.{filter, list_all, list_any, range_with_len}
use Rattle.std.specs.Map.{keys_of}
use Rattle.std.specs.Option.{option_map_or}
use Rattle.std.specs.Ordering.{nat_cmp}
use Rattle.std.specs.declared.ops.Bound.TheVariants.{Included, Excluded}
use Rattle.std.proofs.Math.Seq.{get_or-append_seam}
use Rattle.std.proofs.lemmas.Bool.{cases_Bool, cases_lt, cases_eq, ne_eqb, eq-eqb}
use Rattle.std.proofs.lemmas.Bool.Decides.{nat_tests}
use Rattle.std.proofs.lemmas.List.{map-append}
use Rattle.std.proofs.lemmas.List.Elements.{filter-append}
use Rattle.std.proofs.lemmas.List.FromFn.{get_or-range_with_len}
use Rattle.std.proofs.lemmas.Nat.{div-add-mod', div-mul-add, mod-mul-add}
use Rattle.flu_lemmas.specs.Counting.{times}
use Rattle.flu_lemmas.proofs.Counting.{times-cons, times_of_other}
use Rattle.flu_lemmas.specs.Late.{rises_from, put_late}
use Rattle.flu_lemmas.proofs.Late.{RisesFrom, rising}
use Rattle.flu_lemmas.proofs.Tests.{and_left, and_right, both}
use Rattle.flu_model.specs.declared.events.Item.{Item}
use Rattle.flu_model.specs.declared.events.Item.TheVariants.{End}
use Rattle.flu_model.specs.declared.moments.Timing.{Timing}
use Rattle.flu_model.specs.Moments.{IsTiming, last_moment}
use Rattle.flu_streams.specs.Lists.{item_time, times_in}
use Rattle.flu_streams.specs.LoopMoments.{between, Follow, follows, are_in_a_row}
use Rattle.flu_streams.proofs.Moments.{scale_some}
use Rattle.flu_streams.specs.Tests.{margin, same_time, test_behind}

is_in : ℕ → ℕ → ℕ → Bool
is_in from end m = nat_le from m && nat_lt m end

-- ---- parts of a list
pub between-append : (from end : ℕ) (xs ys : List Item) → between from end (times_in (xs ++ ys)) ≡ between from end (times_in xs) ++ between from end (times_in ys)
between-append from end xs ys =
    ap (between from end) (map-append item_time xs ys) ∙ filter-append (λ m. nat_le from m && nat_lt m end) (times_in xs) (times_in ys)

in_range : (from end m : ℕ) → from ≤ m → m < end → (nat_le from m && nat_lt m end) ≡ true
in_range from end m le lt = grind (arith, nat_tests)

below_range : (from end m : ℕ) → m < from → (nat_le from m && nat_lt m end) ≡ false
below_range from end m lt = grind (arith, nat_tests)

above_range : (from end m : ℕ) → end ≤ m → (nat_le from m && nat_lt m end) ≡ false
above_range from end m le = elim (cases_lt m from) [
  | inl less ↦ below_range from end m less
  | inr more ↦ past end m from more le
]
  where
    past : (end m from : ℕ) → from ≤ m → end ≤ m → (nat_le from m && nat_lt m end) ≡ false
    past end m from more le = grind (arith, nat_tests)

-- the keys of the entries between two bounds
pub keys_between : (from end : ℕ) (es : List (ℕ × Item))
    → keys_of (entries_between nat_cmp (Included from) (Excluded end) es) ≡ between from end (keys_of es)
keys_between from end [] = refl
keys_between from end (e ∷ es) =
    let rest = keys_between from end es in
    elim (cases_lt e.0 from) [
      | inl less ↦ rw (off_low e.0 less, below_range from end e.0 less) rest
      | inr le ↦ elim (cases_lt e.0 end) [
        | inl lt ↦ rw (on e.0 le lt, in_range from end e.0 le lt) (ap (λ l. e.0 ∷ l) rest)
        | inr past ↦ rw (off_high e.0 past, above_range from end e.0 past) rest
      ]
    ]
  where
    on : (k : ℕ) → from ≤ k → k < end → range_contains nat_cmp (Included from) (Excluded end) k ≡ true
    on k le lt = grind (arith, nat_tests)

    off_low : (k : ℕ) → k < from → range_contains nat_cmp (Included from) (Excluded end) k ≡ false
    off_low k lt = grind (arith, nat_tests)

    off_high : (k : ℕ) → end ≤ k → range_contains nat_cmp (Included from) (Excluded end) k ≡ false
    off_high k le = grind (arith, nat_tests)

-- the last of some numbers tells how many there are
pub last_counts : (from x : ℕ) (zs front : List ℕ) → Follow from zs → zs ≡ front ++ x ∷ [] → x + 1 ≡ from + length zs
last_counts from x zs front follow is =
    let size : length zs ≡ length front + 1 = ap length is ∙ length-append front (x ∷ []) in
    let here : get_or zs (length front) 0 ≡ x = ap (λ l. get_or l (length front) 0) is ∙ get_or-append_seam front x [] 0 in
    let there : get_or zs (length front) 0 ≡ from + length front =
    ap (λ l. get_or l (length front) 0) follow ∙ get_or-range_with_len from (length zs) (length front) 0 (omega (arith, size)) in
    omega (arith, size, sym here ∙ there)

-- the last item, if it is in the range, is the last of the numbers in the range
pub last_between : (from end n : ℕ) (xs : List Item) → n + 1 ≡ length xs → from ≤ item_time (get_or xs n End) → item_time (get_or xs n End) < end
    → (front : List ℕ) × (between from end (times_in xs) ≡ front ++ item_time (get_or xs n End) ∷ [])
last_between from end n [] size le lt = absurd (omega (arith, size))
last_between from end zero (x ∷ []) size le lt = ([], rw (in_range from end (item_time x) le lt) refl)
last_between from end (suc n) (x ∷ []) size le lt = absurd (omega (arith, size))
last_between from end zero (x ∷ y ∷ xs) size le lt = absurd (omega (arith, size))
last_between from end (suc n) (x ∷ y ∷ xs) size le lt =
    let rest = last_between from end n (y ∷ xs) (omega (arith, size)) le lt in
    elim (cases_Bool (nat_le from (item_time x) && nat_lt (item_time x) end)) [
      | inl hit ↦ (item_time x ∷ rest.0, rw hit (ap (λ l. item_time x ∷ l) rest.1))
      | inr miss ↦ (rest.0, rw miss rest.1)
    ]

-- items before the range
pub none_between : (from end : ℕ) (xs : List Item) → ((i : ℕ) → i < length xs → item_time (get_or xs i End) < from) → between from end (times_in xs) ≡ []
none_between from end [] below = refl
none_between from end (x ∷ xs) below =
    rw (below_range from end (item_time x) (below 0 (omega arith))) (none_between from end xs (λ i lt. below (suc i) (omega (arith, lt))))

-- ---- moments in a row
-- numbers that rise from one on
abbrev pub RisesBy : ℕ → List ℕ → Type 0
RisesBy low [] = Unit {0}
RisesBy low (m ∷ ms) = (low ≤ m) × RisesBy (m + 1) ms

none_from : (from end low : ℕ) (ms : List ℕ) → RisesBy low ms → end ≤ low → between from end ms ≡ []
none_from from end low [] up le = refl
none_from from end low (m ∷ ms) up le = rw (above_range from end m (omega (arith, le, up.0))) (none_from from end (m + 1) ms up.1 (omega (arith, le, up.0)))

-- what `follows` says of a moment
pub follows_parts : (timing : Timing) (before : Option ℕ) (m : ℕ) → follows timing before m ≡ true
    → (timing.offset ≤ m % timing.scale) × (m % timing.scale ≤ timing.offset + (timing.ties - 1))
    × (timing.offset < m % timing.scale → option_map_or (λ b. b + 1 == m) before false ≡ true)
follows_parts timing before m is =
    let low = and_left (nat_le (m % timing.scale) (timing.offset + (timing.ties - 1))) _ is in
    let high = and_right (nat_le (m % timing.scale) (timing.offset + (timing.ties - 1))) _ is in
    elim (cases_eq (m % timing.scale) timing.offset) [
      | inl same ↦ (omega (arith, same), is_low low, λ lt. absurd (omega (arith, same, lt)))
      | inr ne ↦
          let more = other (m % timing.scale == timing.offset) (ne_test ne) high in
          (is_more (and_left (nat_lt timing.offset (m % timing.scale)) _ more), is_low low, λ lt. and_right (nat_lt timing.offset (m % timing.scale)) _ more)
    ]
  where
    is_low : nat_le (m % timing.scale) (timing.offset + (timing.ties - 1)) ≡ true → m % timing.scale ≤ timing.offset + (timing.ties - 1)
    is_low e = grind (arith, nat_tests)

    is_more : nat_lt timing.offset (m % timing.scale) ≡ true → timing.offset ≤ m % timing.scale
    is_more e = grind (arith, nat_tests)

    ne_test : (m % timing.scale ≡ timing.offset → ⊥) → (m % timing.scale == timing.offset) ≡ false
    ne_test ne = ne_eqb (m % timing.scale) timing.offset ne

    other : (a : Bool) {b : Bool} → a ≡ false → (a || b) ≡ true → b ≡ true
    other true e o = absurd cc
    other false e o = o

next_is : (before : Option ℕ) (m : ℕ) → option_map_or (λ b. b + 1 == m) before false ≡ true → (b : ℕ) × (before ≡ Some b) × (b + 1 ≡ m)
next_is None m e = absurd cc
next_is (Some b) m e = (b, refl, test_eq e)
  where
    test_eq : (b + 1 == m) ≡ true → b + 1 ≡ m
    test_eq e = grind (arith, nat_tests)

module _ (timing : Timing) (fits : IsTiming timing) (time : ℕ) where
  abbrev pub first : ℕ
  first = time * timing.scale + timing.offset

  -- the moments of the source at the time begin here, after one before them
  abbrev pub start : Option ℕ → ℕ
  start None = first
  start (Some b) = max first (b + 1)

  -- all that is before is before the low end
  abbrev pub IsBefore : Option ℕ → ℕ → Type 0
  IsBefore before low = (b : ℕ) → before ≡ Some b → b + 1 ≤ low

  start_early : (before : Option ℕ) (low : ℕ) → IsBefore before low → low ≤ first → start before ≡ first
  start_early None low is le = refl
  start_early (Some b) low is le = let lt = is b refl in omega (arith, lt, le)

  -- the rest of a moment in the range
  rest_of : (m : ℕ) → first ≤ m → m < first + timing.ties → m % timing.scale ≡ timing.offset + (m - first)
  rest_of m le lt =
      let within = fits.within in
      let whole : m ≡ time * timing.scale + (timing.offset + (m - (time * timing.scale + timing.offset))) = omega (arith, le) in
      ap (λ n. n % timing.scale) whole ∙ mod-mul-add time timing.scale (timing.offset + (m - first)) (omega (arith, le, lt, within))

  starts_here : (before : Option ℕ) (m low : ℕ) → IsBefore before low → low ≤ m → follows timing before m ≡ true → first ≤ m → m < first + timing.ties
      → start before ≡ m
  starts_here before m low is up follow le lt =
      let parts = follows_parts timing before m follow in
      let rest = rest_of m le lt in
      elim (cases_eq m first) [
        | inl same ↦ start_first before is same
        | inr ne ↦ let next = next_is before m (parts.2 (omega (arith, rest, le, ne))) in ap start next.1 ∙ omega (arith, next.2, le)
      ]
    where
      start_first : (before : Option ℕ) → IsBefore before low → m ≡ first → start before ≡ m
      start_first None is same = sym same
      start_first (Some b) is same = let lt = is b refl in omega (arith, lt, up, same)

  pub in_a_row_follow : (before : Option ℕ) (low : ℕ) (ms : List ℕ) → IsBefore before low → RisesBy low ms → are_in_a_row timing before ms ≡ true
      → between first (first + timing.ties) ms ≡ range_with_len (start before) (length (between first (first + timing.ties) ms))
  in_a_row_follow before low [] is up row = refl
  in_a_row_follow before low (m ∷ ms) is up row =
      let follow = and_left (follows timing before m) _ row in
      let rest = in_a_row_follow (Some m) (m + 1) ms (λ b e. let same : m ≡ b = some_is e in omega (arith, same)) up.1 (and_right (follows timing before m) _ row) in
      elim (cases_lt m first) [
        | inl less ↦
            let same : start (Some m) ≡ start before = omega (arith, less, start_early before low is (omega (arith, less, up.0))) in
            rw (below_range first (first + timing.ties) m less) (rest ∙ ap (λ a. range_with_len a (length (between first (first + timing.ties) ms))) same)
        | inr le ↦ elim (cases_lt m (first + timing.ties)) [
          | inl lt ↦
              let here = starts_here before m low is up.0 follow le lt in
              let next : start (Some m) ≡ m + 1 = omega (arith, le) in
              rw (in_range first (first + timing.ties) m le lt, here)
              (ap (λ l. m ∷ l) (rest ∙ ap (λ a. range_with_len a (length (between first (first + timing.ties) ms))) next))
          | inr past ↦
              rw (above_range first (first + timing.ties) m past, none_from first (first + timing.ties) (m + 1) ms up.1 (omega (arith, past))) refl
        ]
      ]
    where
      some_is : {a b : ℕ} → Some a ≡ Some b → a ≡ b
      some_is e = cc

  -- an item has the time exactly where its moment is among the source's ones at the time
  at_time : (before : Option ℕ) (m : ℕ) → follows timing before m ≡ true → (m / timing.scale == time) ≡ (nat_le first m && nat_lt m (first + timing.ties))
  at_time before m follow =
      let parts = follows_parts timing before m follow in
      let whole = div-add-mod' m timing.scale in
      let some = fits.some in
      elim (cases_eq (m / timing.scale) time) [
        | inl same ↦
            let product : m / timing.scale * timing.scale ≡ time * timing.scale = ap (λ t. t * timing.scale) same in
            eq-eqb (m / timing.scale) time same
            ∙ sym (in_range first (first + timing.ties) m (omega (arith, product, whole, parts.0)) (omega (arith, product, whole, parts.1, some)))
        | inr ne ↦ ne_eqb (m / timing.scale) time ne ∙ sym (elim (cases_lt m first) [
          | inl less ↦ below_range first (first + timing.ties) m less
          | inr le ↦ elim (cases_lt m (first + timing.ties)) [
            | inl lt ↦ absurd (ne (is_time le lt))
            | inr past ↦ above_range first (first + timing.ties) m past
          ]
        ])
      ]
    where
      is_time : first ≤ m → m < first + timing.ties → m / timing.scale ≡ time
      is_time le lt =
          let within = fits.within in
          let whole : m ≡ time * timing.scale + (timing.offset + (m - (time * timing.scale + timing.offset))) = omega (arith, le) in
          ap (λ n. n / timing.scale) whole ∙ div-mul-add time timing.scale (timing.offset + (m - (time * timing.scale + timing.offset))) (omega (arith, le, lt, within))

  -- as many items have the time as there are moments from the source's first one on
  pub counted : (before : Option ℕ) (ms : List ℕ) → are_in_a_row timing before ms ≡ true
      → times time (map (λ m. m / timing.scale) ms) ≡ length (between first (first + timing.ties) ms)
  counted before [] row = refl
  counted before (m ∷ ms) row =
      let here = at_time before m (and_left (follows timing before m) _ row) in
      let rest = counted (Some m) ms (and_right (follows timing before m) _ row) in
      times-cons time (m / timing.scale) (map (λ n. n / timing.scale) ms) ∙ by_test (nat_le first m && nat_lt m (first + timing.ties)) here rest
    where
      by_test : (b : Bool) → (m / timing.scale == time) ≡ b
          → times time (map (λ n. n / timing.scale) ms) ≡ length (between first (first + timing.ties) ms)
          → cond (m / timing.scale == time) 1 0 + times time (map (λ n. n / timing.scale) ms)
          ≡ length (cond b (m ∷ between first (first + timing.ties) ms) (between first (first + timing.ties) ms))
      by_test true e rest = rw e (omega (arith, rest))
      by_test false e rest = rw e (omega (arith, rest))

-- ---- the tests of a time
rises_by : (low : ℕ) (items : List Item) → RisesFrom item_time low items → RisesBy low (times_in items)
rises_by low [] up = tt
rises_by low (x ∷ items) up = (up.0, rises_by (item_time x + 1) items up.1)

pub rises_times : (items : List Item) → rises_from item_time 0 items ≡ true → RisesBy 0 (times_in items)
rises_times items up = rises_by 0 items (rising item_time 0 items up)

-- no time is later than the greatest
pub none_at : (times' : List ℕ) (last time : ℕ) → list_all (λ t. nat_le t last) times' ≡ true → last < time → times time times' ≡ 0
none_at [] last time within lt = refl
none_at (t ∷ ts) last time within lt =
    let le = is_le t last (and_left (nat_le t last) _ within) in
    times_of_other time t ts (λ same. absurd (omega (arith, same, le, lt))) ∙ none_at ts last time (and_right (nat_le t last) _ within) lt
  where
    is_le : (a b : ℕ) → nat_le a b ≡ true → a ≤ b
    is_le a b e = grind (arith, nat_tests)

-- a time that is not late, and which fewer than too many have
pub test_passes : (timing : Timing) (slack last time : ℕ) (earlier : List ℕ) → last < time + margin timing slack → times time earlier < timing.ties
    → test_behind timing slack earlier (Some last) time ≡ None
test_passes timing slack last time earlier early few = rw (no (time + margin timing slack) last early, no timing.ties (times time earlier) few) refl
  where
    no : (a b : ℕ) → b < a → nat_le a b ≡ false
    no a b lt = grind (arith, nat_tests)

pub test_same : (timing : Timing) (slack last time : ℕ) (earlier : List ℕ) → last < time + margin timing slack → timing.ties ≤ times time earlier
    → test_behind timing slack earlier (Some last) time ≡ Some (same_time timing last time)
test_same timing slack last time earlier early many = rw (no (time + margin timing slack) last early, yes' timing.ties (times time earlier) many) refl
  where
    no : (a b : ℕ) → b < a → nat_le a b ≡ false
    no a b lt = grind (arith, nat_tests)

    yes' : (a b : ℕ) → a ≤ b → nat_le a b ≡ true
    yes' a b le = grind (arith, nat_tests)

-- ---- one moment more
-- no number that rises from above another is it
none_same : (x low : ℕ) (ms : List ℕ) → RisesBy low ms → x < low → list_any (λ m. eqb m x) ms ≡ false
none_same x low [] up lt = refl
none_same x low (m ∷ ms) up lt = rw (other m (omega (arith, lt, up.0))) (none_same x (m + 1) ms up.1 (omega (arith, lt, up.0)))
  where
    other : (m : ℕ) → x < m → eqb m x ≡ false
    other m lt = grind (arith, nat_tests)

follows_first : (timing : Timing) (before : Option ℕ) (m : ℕ) → m % timing.scale ≤ timing.offset + (timing.ties - 1) → m % timing.scale ≡ timing.offset
    → follows timing before m ≡ true
follows_first timing before m low same = rw (le_is (m % timing.scale) _ low, eq-eqb (m % timing.scale) timing.offset same) refl
  where
    le_is : (a b : ℕ) → a ≤ b → nat_le a b ≡ true
    le_is a b le = grind (arith, nat_tests)

follows_next : (timing : Timing) (b m : ℕ) → m % timing.scale ≤ timing.offset + (timing.ties - 1) → timing.offset < m % timing.scale → b + 1 ≡ m
    → follows timing (Some b) m ≡ true
follows_next timing b m low above next =
    rw (le_is (m % timing.scale) _ low, ne_eqb (m % timing.scale) timing.offset (λ same. omega (arith, same, above)), lt_is timing.offset _ above, eq-eqb (b + 1) m next)
    refl
  where
    le_is : (a b : ℕ) → a ≤ b → nat_le a b ≡ true
    le_is a b le = grind (arith, nat_tests)

    lt_is : (a b : ℕ) → a < b → nat_lt a b ≡ true
    lt_is a b lt = grind (arith, nat_tests)

module _ (timing : Timing) (fits : IsTiming timing) (time : ℕ) where
  -- the next moment of the source at the time, behind those of some moments that come after one
  abbrev pub IsNext : Option ℕ → List ℕ → ℕ → Type 0
  IsNext before ms x =
      (x ≡ start timing fits time before + length (between (first timing fits time) (first timing fits time + timing.ties) ms))
      × (x < first timing fits time + timing.ties)

  -- it follows what is before where none of the moments is at the time
  follows_start : (before : Option ℕ) (low x : ℕ) → IsBefore timing fits time before low → low ≤ x → x ≡ start timing fits time before
      → x < first timing fits time + timing.ties → follows timing before x ≡ true
  follows_start before low x is up at lt = by_first before is at (cases_eq x (first timing fits time))
    where
      low_end : first timing fits time ≤ x → x % timing.scale ≤ timing.offset + (timing.ties - 1)
      low_end le = let rest = rest_of timing fits time x le lt in omega (arith, rest, lt, le)

      by_first : (before : Option ℕ) → IsBefore timing fits time before low → x ≡ start timing fits time before
          → (x ≡ first timing fits time) ⊎ (x ≡ first timing fits time → ⊥) → follows timing before x ≡ true
      by_first None is at c = let rest = rest_of timing fits time x (omega (arith, at)) lt in
          follows_first timing None x (low_end (omega (arith, at))) (omega (arith, rest, at))
      by_first (Some b) is at (inl same) = let rest = rest_of timing fits time x (omega (arith, same)) lt in
          follows_first timing (Some b) x (low_end (omega (arith, same))) (omega (arith, rest, same))
      by_first (Some b) is at (inr ne) =
          let le : first timing fits time ≤ x = omega (arith, at) in
          let rest = rest_of timing fits time x le lt in
          follows_next timing b x (low_end le) (omega (arith, rest, le, ne)) (omega (arith, at, ne, le))

  -- where the next moment comes before a moment, that one is of a later time
  past_next : (before : Option ℕ) (low m x : ℕ) (ms : List ℕ) → IsBefore timing fits time before low → low ≤ m → follows timing before m ≡ true
      → IsNext before (m ∷ ms) x → x ≤ m → first timing fits time + timing.ties ≤ m
  past_next before low m x ms is up follow next le =
      elim (cases_lt m (first timing fits time + timing.ties)) [
        | inl lt ↦ (let from_first : first timing fits time ≤ x = starts_from before next.0 in
            let here = starts_here timing fits time before m low is up follow (omega (arith, from_first, le)) lt in
            let counts = ap (λ b. length (cond b (m ∷ between (first timing fits time) (first timing fits time + timing.ties) ms)
            (between (first timing fits time) (first timing fits time + timing.ties) ms)))
            (in_range (first timing fits time) (first timing fits time + timing.ties) m (omega (arith, from_first, le)) lt) in
            absurd (omega (arith, here, counts, next.0, le)))
        | inr past ↦ past
      ]
    where
      starts_from : (before : Option ℕ) → x ≡ start timing fits time before + length (between (first timing fits time) (first timing fits time + timing.ties) (m ∷ ms))
          → first timing fits time ≤ x
      starts_from None e = omega (arith, e)
      starts_from (Some b) e = omega (arith, e)

  next_later : (before : Option ℕ) (low m x : ℕ) (ms : List ℕ) → IsBefore timing fits time before low → low ≤ m → follows timing before m ≡ true
      → IsNext before (m ∷ ms) x → m < x → IsNext (Some m) ms x
  next_later before low m x ms is up follow next lt =
      elim (cases_lt m (first timing fits time)) [
        | inl less ↦ (let same : start timing fits time (Some m) ≡ start timing fits time before =
            omega (arith, less, start_early timing fits time before low is (omega (arith, less, up))) in
            let counts = ap (λ b. length (cond b (m ∷ between (first timing fits time) (first timing fits time + timing.ties) ms)
            (between (first timing fits time) (first timing fits time + timing.ties) ms)))
            (below_range (first timing fits time) (first timing fits time + timing.ties) m less) in
            (omega (arith, same, counts, next.0), next.1))
        | inr le ↦ (let here = starts_here timing fits time before m low is up follow le (omega (arith, lt, next.1)) in
            let counts = ap (λ b. length (cond b (m ∷ between (first timing fits time) (first timing fits time + timing.ties) ms)
            (between (first timing fits time) (first timing fits time + timing.ties) ms)))
            (in_range (first timing fits time) (first timing fits time + timing.ties) m le (omega (arith, lt, next.1))) in
            (omega (arith, here, counts, next.0, le), next.1))
      ]

  pub row_put : (before : Option ℕ) (low x : ℕ) (ms : List ℕ) → IsBefore timing fits time before low → low ≤ x → RisesBy low ms
      → are_in_a_row timing before ms ≡ true → IsNext before ms x → are_in_a_row timing before (put_late (λ m. m) x ms) ≡ true
  row_put before low x [] is above up row next = both _ _ (follows_start before low x is above (omega (arith, next.0)) next.1) refl
  row_put before low x (m ∷ ms) is above up row next =
      let follow = and_left (follows timing before m) _ row in
      let rest = and_right (follows timing before m) _ row in
      elim (cases_lt m x) [
        | inl lt ↦ rw (lt_is m x lt) (both _ _ follow (row_put (Some m) (m + 1) x ms (λ b e. let same : m ≡ b = some_is e in omega (arith, same)) (omega (arith, lt)) up.1 rest
            (next_later before low m x ms is up.0 follow next lt)))
        | inr le ↦ (let past = past_next before low m x ms is up.0 follow next le in
            let none = none_from (first timing fits time) (first timing fits time + timing.ties) (m + 1) ms up.1 (omega (arith, past)) in
            let counts = ap (λ b. length (cond b (m ∷ between (first timing fits time) (first timing fits time + timing.ties) ms)
            (between (first timing fits time) (first timing fits time + timing.ties) ms)))
            (above_range (first timing fits time) (first timing fits time + timing.ties) m past) ∙ ap length none in
            let parts = follows_parts timing before m follow in
            let first_at : m % timing.scale ≡ timing.offset = elim (cases_eq (m % timing.scale) timing.offset) [
              | inl same ↦ same
              | inr ne ↦ (let b = next_is before m (parts.2 (omega (arith, parts.0, ne))) in let early = is b.0 b.1 in
                  absurd (omega (arith, b.2, early, above, next.1, past)))
            ] in
            rw (not_lt m x le) (both _ _ (follows_start before low x is above (omega (arith, next.0, counts)) next.1)
            (both _ _ (follows_first timing (Some x) m parts.1 first_at) rest)))
      ]
    where
      some_is : {a b : ℕ} → Some a ≡ Some b → a ≡ b
      some_is e = cc

      lt_is : (a b : ℕ) → a < b → nat_lt a b ≡ true
      lt_is a b lt = grind (arith, nat_tests)

      not_lt : (a b : ℕ) → b ≤ a → nat_lt a b ≡ false
      not_lt a b le = grind (arith, nat_tests)

  pub apart_put : (before : Option ℕ) (low x : ℕ) (ms : List ℕ) → IsBefore timing fits time before low → RisesBy low ms
      → are_in_a_row timing before ms ≡ true → IsNext before ms x → list_any (λ m. eqb m x) ms ≡ false
  apart_put before low x [] is up row next = refl
  apart_put before low x (m ∷ ms) is up row next =
      let follow = and_left (follows timing before m) _ row in
      let rest = and_right (follows timing before m) _ row in
      elim (cases_lt m x) [
        | inl lt ↦ rw (other m x lt) (apart_put (Some m) (m + 1) x ms (λ b e. let same : m ≡ b = some_is e in omega (arith, same)) up.1 rest
            (next_later before low m x ms is up.0 follow next lt))
        | inr le ↦ (let past = past_next before low m x ms is up.0 follow next le in
            none_same x (x + 1) (m ∷ ms) (omega (arith, past, next.1), up.1) (omega arith))
      ]
    where
      some_is : {a b : ℕ} → Some a ≡ Some b → a ≡ b
      some_is e = cc

      other : (a b : ℕ) → a < b → eqb a b ≡ false
      other a b lt = grind (arith, nat_tests)

-- ---- the moments behind a border
kept_rest : (border low : ℕ) (ms : List ℕ) → RisesBy low ms → border < low → filter (λ m. nat_lt border m) ms ≡ ms
kept_rest border low [] up lt = refl
kept_rest border low (m ∷ ms) up lt = rw (kept m (omega (arith, lt, up.0))) (ap (λ l. m ∷ l) (kept_rest border (m + 1) ms up.1 (omega (arith, lt, up.0))))
  where
    kept : (m : ℕ) → border < m → nat_lt border m ≡ true
    kept m lt = grind (arith, nat_tests)

-- those of later times are in a row too
pub row_behind : (timing : Timing) (fits : IsTiming timing) (time low : ℕ) (before : Option ℕ) (ms : List ℕ) → RisesBy low ms
    → ((b : ℕ) → before ≡ Some b → b ≤ last_moment timing time) → are_in_a_row timing before ms ≡ true
    → are_in_a_row timing None (filter (λ m. nat_lt (last_moment timing time) m) ms) ≡ true
row_behind timing fits time low before [] up early row = refl
row_behind timing fits time low before (m ∷ ms) up early row =
    let follow = and_left (follows timing before m) _ row in
    let rest = and_right (follows timing before m) _ row in
    elim (cases_lt (last_moment timing time) m) [
      | inl later ↦ (let parts = follows_parts timing before m follow in
          let first_at : m % timing.scale ≡ timing.offset = elim (cases_eq (m % timing.scale) timing.offset) [
            | inl same ↦ same
            | inr ne ↦ (let b = next_is before m (parts.2 (omega (arith, parts.0, ne))) in
                absurd (inside b.0 (early b.0 b.1) b.2 (omega (arith, parts.0, ne)) later))
          ] in
          rw (kept m later, kept_rest (last_moment timing time) (m + 1) ms up.1 (omega (arith, later)))
          (both _ _ (follows_first timing None m parts.1 first_at) rest))
      | inr le ↦ rw (dropped m le) (row_behind timing fits time (m + 1) (Some m) ms up.1 (λ b e. let same : m ≡ b = some_is e in omega (arith, same, le)) rest)
    ]
  where
    some_is : {a b : ℕ} → Some a ≡ Some b → a ≡ b
    some_is e = cc

    kept : (m : ℕ) → last_moment timing time < m → nat_lt (last_moment timing time) m ≡ true
    kept m lt = grind (arith, nat_tests)

    dropped : (m : ℕ) → m ≤ last_moment timing time → nat_lt (last_moment timing time) m ≡ false
    dropped m le = grind (arith, nat_tests)

    -- the last moment of a time is followed by the first one of the next time
    inside : (b : ℕ) → b ≤ last_moment timing time → b + 1 ≡ m → 0 < m % timing.scale → last_moment timing time < m → ⊥
    inside b le next some lt =
        let scale = scale_some timing fits in
        let whole : m ≡ (time + 1) * timing.scale + 0 = omega (arith, le, next, lt, scale) in
        let none = ap (λ n. n % timing.scale) whole ∙ mod-mul-add (time + 1) timing.scale 0 scale in
        omega (arith, none, some)
