-- The first and the last time of the rows of sources without a defect tell where the first and the last row stand.
use Rattle.std.proofs.Common.{◌≡◌, ℕ, zero, suc, ◌+◌, ◌-◌, ◌*◌, ◌/◌, ◌<◌, ◌≤◌, min, max, inl, inr, Bool, true, false, Option, Some, None, List, [], ◌∷◌, ◌++◌}
use Rattle.std.proofs.Common.{map, length, length-append, get_or, refl, sym, ap, subst, ◌∙◌, arith}
use Rattle.std.specs.Prelude.{◌==◌, ◌&&◌, Contains, nat_le, nat_lt, slice_get, slice_index_or, sum_by, if◌then◌else◌}
use Rattle.std.specs.List.{flat_map, fold, list_all, list_any, range_with_len, reduce, AllByRecursion}
use Rattle.std.specs.Option.{option_map_or}
use Rattle.std.proofs.lemmas.Bool.{cases_lt}
use Rattle.std.proofs.lemmas.List.Elements.{All-contains, All-from_recursion, Contains-append_left, Contains-append_right, Contains-append_cases}
use Rattle.std.proofs.lemmas.List.{length-map}
use Rattle.std.proofs.lemmas.List.FromFn.{length-map-range_with_len, get_or-map-range_with_len, length-range_with_len}
use Rattle.std.proofs.lemmas.Nat.{le-div, div-mul-add}
use Rattle.std.proofs.Math.Nat.{div-mul-le_self}
use Rattle.flu_lemmas.proofs.Containing.{contains_here, contains_later, contains_cases, contains_none, contains_one}
use Rattle.flu_lemmas.proofs.Tests.{and_left, and_right, both, le_true, lt_true, true_le, true_lt}
use Rattle.flu_model.specs.Erasure.{job_of}
use Rattle.flu_model.specs.declared.events.Item.{Item}
use Rattle.flu_model.specs.declared.jobs.Keys.{Keys}
use Rattle.flu_model.specs.declared.jobs.Keys.TheVariants.{Alone, One, Range}
use Rattle.flu_model.specs.declared.jobs.Kind.{Kind}
use Rattle.flu_model.specs.declared.jobs.Program.{Program}
use Rattle.flu_model.specs.declared.jobs.Source.{Source}
use Rattle.flu_model.specs.declared.jobs.TagRef.{TagRef}
use Rattle.flu_model.specs.Itags.{count_of_itags, source_of_itag}
use Rattle.flu_model.specs.Listing.{tag, listed_keys, listed_tags}
use Rattle.flu_model.specs.Moments.{end_of_times, timing_of, moment_at}
use Rattle.flu_model.specs.Rules.{is_clock, listed_kind_fits, tag_ref_fits, source_fits}
use Rattle.flu_moments.specs.Clocks.{first_of as first_rank, last_of as last_rank}
use Rattle.flu_moments.specs.Moments.{moment}
use Rattle.flu_outside.specs.Outside.{Contents}
use Rattle.flu_outside.specs.Taking.{bytes_left}
use Rattle.flu_rows.specs.declared.row.Row.{Row}
use Rattle.flu_rows.specs.Reading.{read_file}
use Rattle.flu_rows.specs.Row.{form_of}
use Rattle.flu_apart.specs.Classes.{has_ticks}
use Rattle.flu_selected.specs.Spans.{span_of_ranks, span_told, moments_fit}
use Rattle.flu_sending.specs.Lines.{row_times, times_of as item_times, times_of_itag}
use Rattle.flu_streams.specs.Before.{each_with_before, with_before, first_some}
use Rattle.flu_streams.specs.Clocks.{Declared, ranks_of, items_of_ticks, lists_of_ticks}
use Rattle.flu_streams.specs.Good.{AreGood, at_moments, fault_of_clocks, fault_of_rows, fault_of_source, items_at, items_held, lines_in, lists_of}
use Rattle.flu_streams.specs.Good.{lists_of_rows, lists_of_source, ranks_in, rows_in, ticks_in}
use Rattle.flu_streams.specs.Tags.{width}
use Rattle.flu_streams.specs.Tests.{first_of, rows_of, times_of}
use Rattle.flu_streams.proofs.Spans.{clocks_are_newer, has_ties}
use Rattle.flu_readable.proofs.Placed.{among_at, placed, itag_of}
use Rattle.flu_readable.proofs.Ranks.{none_first, none_mapped, ranks_early, IsEarlyRank}
use Rattle.flu_readable.proofs.Rows.{IsListed, item_stands, row_gives, rows_listed}
use Rattle.flu_readable.specs.Laws.{TellsItsRows}

-- ---- members
in_flat : {X Y : Type 0} (f : X → List Y) (xs : List X) (x : X) (y : Y) → Contains xs x → Contains (f x) y → Contains (flat_map f xs) y
in_flat f [] x y there own = absurd (contains_none x there)
in_flat f (z ∷ xs) x y there own =
    elim (contains_cases z x xs there) [
      | inl same ↦ Contains-append_left (f z) (flat_map f xs) y (subst (λ w. Contains (f w) y) (sym same) own)
      | inr later ↦ Contains-append_right (f z) (flat_map f xs) y (in_flat f xs x y later own)
    ]

of_flat : {X Y : Type 0} (f : X → List Y) (xs : List X) (y : Y) → Contains (flat_map f xs) y → (x : X) × Contains xs x × Contains (f x) y
of_flat f [] y there = absurd (contains_none y there)
of_flat f (z ∷ xs) y there =
    elim (Contains-append_cases (f z) (flat_map f xs) y there) [
      | inl here ↦ (z, contains_here z xs, here)
      | inr later ↦ (let rest = of_flat f xs y later in (rest.0, contains_later z rest.0 xs rest.1, rest.2))
    ]

in_map : {X Y : Type 0} (f : X → Y) (xs : List X) (x : X) → Contains xs x → Contains (map f xs) (f x)
in_map f [] x there = absurd (contains_none x there)
in_map f (z ∷ xs) x there =
    elim (contains_cases z x xs there) [
      | inl same ↦ subst (λ y. Contains (f z ∷ map f xs) y) (ap f same) (contains_here (f z) (map f xs))
      | inr later ↦ contains_later (f z) (f x) (map f xs) (in_map f xs x later)
    ]

of_map : {X Y : Type 0} (f : X → Y) (xs : List X) (y : Y) → Contains (map f xs) y → (x : X) × Contains xs x × (f x ≡ y)
of_map f [] y there = absurd (contains_none y there)
of_map f (z ∷ xs) y there =
    elim (contains_cases (f z) y (map f xs) there) [
      | inl same ↦ (z, contains_here z xs, same)
      | inr later ↦ (let rest = of_map f xs y later in (rest.0, contains_later z rest.0 xs rest.1, rest.2))
    ]

in_range : (from count i : ℕ) → i < count → Contains (range_with_len from count) (from + i)
in_range from zero i lt = absurd (omega arith)
in_range from (suc count) zero lt =
    let none : from + 0 ≡ from = omega arith in subst (Contains (from ∷ range_with_len (from + 1) count)) (sym none) (contains_here from (range_with_len (from + 1) count))
in_range from (suc count) (suc i) lt =
    let next : from + 1 + i ≡ from + suc i = omega arith in
    contains_later from (from + suc i) (range_with_len (from + 1) count)
    (subst (Contains (range_with_len (from + 1) count)) next (in_range (from + 1) count i (omega arith)))

of_range : (from count x : ℕ) → Contains (range_with_len from count) x → x < from + count
of_range from zero x there = absurd (contains_none x there)
of_range from (suc count) x there =
    elim (contains_cases from x (range_with_len (from + 1) count) there) [
      | inl same ↦ omega (arith, same)
      | inr later ↦ (let lt = of_range (from + 1) count x later in omega (arith, lt))
    ]

-- ---- the least and the greatest of some numbers
fold_min : (x : ℕ) (xs : List ℕ) → Contains (x ∷ xs) (fold min x xs) × ((y : ℕ) → Contains (x ∷ xs) y → fold min x xs ≤ y)
fold_min x [] = (contains_here x [], λ y there. let same = contains_one x y there in omega (arith, same))
fold_min x (z ∷ zs) =
    let rest = fold_min (min x z) zs in (
      elim (contains_cases (min x z) (fold min (min x z) zs) zs rest.0) [
        | inl same ↦ elim (cases_lt x z) [
          | inl less ↦ (let is : x ≡ fold min (min x z) zs = omega (arith, same, less) in subst (Contains (x ∷ z ∷ zs)) is (contains_here x (z ∷ zs)))
          | inr le ↦ (let is : z ≡ fold min (min x z) zs = omega (arith, same, le) in
              subst (Contains (x ∷ z ∷ zs)) is (contains_later x z (z ∷ zs) (contains_here z zs)))
        ]
        | inr later ↦ contains_later x (fold min (min x z) zs) (z ∷ zs) (contains_later z (fold min (min x z) zs) zs later)
      ],
      λ y there.
          let least = rest.1 (min x z) (contains_here (min x z) zs) in
          elim (contains_cases x y (z ∷ zs) there) [
            | inl same ↦ omega (arith, same, least)
            | inr more ↦ elim (contains_cases z y zs more) [
              | inl same ↦ omega (arith, same, least)
              | inr later ↦ rest.1 y (contains_later (min x z) y zs later)
            ]
          ],
    )

fold_max : (x : ℕ) (xs : List ℕ) → Contains (x ∷ xs) (fold max x xs) × ((y : ℕ) → Contains (x ∷ xs) y → y ≤ fold max x xs)
fold_max x [] = (contains_here x [], λ y there. let same = contains_one x y there in omega (arith, same))
fold_max x (z ∷ zs) =
    let rest = fold_max (max x z) zs in (
      elim (contains_cases (max x z) (fold max (max x z) zs) zs rest.0) [
        | inl same ↦ elim (cases_lt x z) [
          | inl less ↦ (let is : z ≡ fold max (max x z) zs = omega (arith, same, less) in
              subst (Contains (x ∷ z ∷ zs)) is (contains_later x z (z ∷ zs) (contains_here z zs)))
          | inr le ↦ (let is : x ≡ fold max (max x z) zs = omega (arith, same, le) in subst (Contains (x ∷ z ∷ zs)) is (contains_here x (z ∷ zs)))
        ]
        | inr later ↦ contains_later x (fold max (max x z) zs) (z ∷ zs) (contains_later z (fold max (max x z) zs) zs later)
      ],
      λ y there.
          let most = rest.1 (max x z) (contains_here (max x z) zs) in
          elim (contains_cases x y (z ∷ zs) there) [
            | inl same ↦ omega (arith, same, most)
            | inr more ↦ elim (contains_cases z y zs more) [
              | inl same ↦ omega (arith, same, most)
              | inr later ↦ rest.1 y (contains_later (max x z) y zs later)
            ]
          ],
    )

first_there : (m : ℕ) (ms : List ℕ) → Contains (m ∷ ms) (first_rank m ms) × ((y : ℕ) → Contains (m ∷ ms) y → first_rank m ms ≤ y)
first_there m [] = (contains_here m [], λ y there. let same = contains_one m y there in omega (arith, same))
first_there m (z ∷ zs) =
    let rest = first_there z zs in (
      elim (cases_lt (first_rank z zs) m) [
        | inl less ↦ (let is : first_rank z zs ≡ min m (first_rank z zs) = omega (arith, less) in
            subst (Contains (m ∷ z ∷ zs)) is (contains_later m (first_rank z zs) (z ∷ zs) rest.0))
        | inr le ↦ (let is : m ≡ min m (first_rank z zs) = omega (arith, le) in subst (Contains (m ∷ z ∷ zs)) is (contains_here m (z ∷ zs)))
      ],
      λ y there. elim (contains_cases m y (z ∷ zs) there) [
        | inl same ↦ omega (arith, same)
        | inr later ↦ (let le = rest.1 y later in omega (arith, le))
      ],
    )

last_there : (m : ℕ) (ms : List ℕ) → Contains (m ∷ ms) (last_rank m ms) × ((y : ℕ) → Contains (m ∷ ms) y → y ≤ last_rank m ms)
last_there m [] = (contains_here m [], λ y there. let same = contains_one m y there in omega (arith, same))
last_there m (z ∷ zs) =
    let rest = last_there z zs in (
      elim (cases_lt m (last_rank z zs)) [
        | inl less ↦ (let is : last_rank z zs ≡ max m (last_rank z zs) = omega (arith, less) in
            subst (Contains (m ∷ z ∷ zs)) is (contains_later m (last_rank z zs) (z ∷ zs) rest.0))
        | inr le ↦ (let is : m ≡ max m (last_rank z zs) = omega (arith, le) in subst (Contains (m ∷ z ∷ zs)) is (contains_here m (z ∷ zs)))
      ],
      λ y there. elim (contains_cases m y (z ∷ zs) there) [
        | inl same ↦ omega (arith, same)
        | inr later ↦ (let le = rest.1 y later in omega (arith, le))
      ],
    )

div_le : (m n k : ℕ) → 1 ≤ k → m ≤ n → m / k ≤ n / k
div_le m n k some le = let part = div-mul-le_self m k in le-div (m / k) n k (omega (arith, some)) (omega (arith, le, part))

-- where moments are those of some ranks, so are the first and the last of them
module _ (p : Program) (moments ranks : List ℕ) (from : (m : ℕ) → Contains moments m → Contains ranks (m / p.ties))
    (to : (r : ℕ) → Contains ranks r → (m : ℕ) × Contains moments m × (m / p.ties ≡ r)) where
  span_of : span_told p (reduce min moments) (reduce max moments) ≡ span_of_ranks ranks
  span_of = by moments ranks from to
    where
      by : (moments ranks : List ℕ) → ((m : ℕ) → Contains moments m → Contains ranks (m / p.ties))
          → ((r : ℕ) → Contains ranks r → (m : ℕ) × Contains moments m × (m / p.ties ≡ r))
          → span_told p (reduce min moments) (reduce max moments) ≡ span_of_ranks ranks
      by [] [] from to = refl
      by [] (r ∷ ranks) from to = let own = to r (contains_here r ranks) in absurd (contains_none own.0 own.1)
      by (m ∷ moments) [] from to = absurd (contains_none (m / p.ties) (from m (contains_here m moments)))
      by (m ∷ moments) (r ∷ ranks) from to =
          let some = has_ties p in
          let least = fold_min m moments in
          let most = fold_max m moments in
          let first = first_there r ranks in
          let last = last_there r ranks in
          let above = first.1 (fold min m moments / p.ties) (from (fold min m moments) least.0) in
          let own = to (first_rank r ranks) first.0 in
          let below = div_le (fold min m moments) own.0 p.ties some (least.1 own.0 own.1) in
          let own_is = own.2 in
          let under = last.1 (fold max m moments / p.ties) (from (fold max m moments) most.0) in
          let far = to (last_rank r ranks) last.0 in
          let over = div_le far.0 (fold max m moments) p.ties some (most.1 far.0 far.1) in
          let far_is = far.2 in
          let start : fold min m moments / p.ties ≡ first_rank r ranks = omega (arith, above, below, own_is) in
          let finish : fold max m moments / p.ties ≡ last_rank r ranks = omega (arith, under, over, far_is) in
          λ i. start i ∷ finish i ∷ []

  fits_of : AllByRecursion (IsEarlyRank p) ranks → moments_fit p (reduce min moments) (reduce max moments) ≡ true
  fits_of early = by moments from
    where
      by : (moments : List ℕ) → ((m : ℕ) → Contains moments m → Contains ranks (m / p.ties)) → moments_fit p (reduce min moments) (reduce max moments) ≡ true
      by [] from = refl
      by (m ∷ moments) from =
          let least = (fold_min m moments).1 m (contains_here m moments) in
          let most = fold_max m moments in
          let above = most.1 m (contains_here m moments) in
          let rank = All-contains (IsEarlyRank p) ranks (fold max m moments / p.ties) (All-from_recursion (IsEarlyRank p) ranks early)
          (from (fold max m moments) most.0) in
          both (nat_le (fold min m moments) (fold max m moments)) (nat_lt (fold max m moments / p.ties / length p.sources) (end_of_times p))
          (le_true (fold min m moments) (fold max m moments) (omega (arith, least, above)))
          (lt_true (fold max m moments / p.ties / length p.sources) (end_of_times p) rank)

-- ---- each source lists an itag
keys_some : (o : Option Kind) (keys : Keys) → listed_kind_fits o keys ≡ true → 0 < length (listed_keys keys)
keys_some None keys fits = absurd cc
keys_some (Some k) Alone fits = omega arith
keys_some (Some k) (One key) fits = omega arith
keys_some (Some k) (Range lo hi) fits =
    let ordered = true_le lo hi (and_right k.keyed (nat_le lo hi) (and_left (k.keyed && nat_le lo hi) _ fits)) in
    let size = length-range_with_len lo (hi + 1 - lo) in
    omega (arith, ordered, size)

tags_some : (kinds : List Kind) (refs : List TagRef) → 0 < length refs → list_all (tag_ref_fits kinds) refs ≡ true → 0 < length (flat_map listed_tags refs)
tags_some kinds [] some fit = absurd (omega arith)
tags_some kinds (r ∷ refs) some fit =
    let keys = keys_some (slice_get kinds r.kind) r.keys (and_left (tag_ref_fits kinds r) (list_all (tag_ref_fits kinds) refs) fit) in
    let own = length-map (listed_keys r.keys) (λ k. tag r.kind k) in
    let all = length-append (listed_tags r) (flat_map listed_tags refs) in
    omega (arith, keys, own, all)

width_some : (kinds : List Kind) (s : Source) → source_fits kinds s ≡ true → 0 < width s
width_some kinds s fits =
    let most = and_left _ _ fits in
    tags_some kinds s.tags (true_lt 0 (length s.tags) (and_right _ _ (and_left _ _ most))) (and_right _ _ most)

passes_at : {X : Type 0} (test : X → Bool) (xs : List X) (i : ℕ) (x : X) → list_all test xs ≡ true → slice_get xs i ≡ Some x → test x ≡ true
passes_at test [] i x all at = absurd cc
passes_at test (y ∷ ys) zero x all at = let same : y ≡ x = cc in subst (λ z. test z ≡ true) same (and_left (test y) (list_all test ys) all)
passes_at test (y ∷ ys) (suc i) x all at = passes_at test ys i x (and_right (test y) (list_all test ys) all) at

none_at : {X Y : Type 0} (f : X → Option Y) (xs : List X) (x : X) → first_some f xs ≡ None → Contains xs x → f x ≡ None
none_at f [] x none there = absurd (contains_none x there)
none_at f (y ∷ ys) x none there =
    let parts = none_first (f y) (first_some f ys) none in
    elim (contains_cases y x ys there) [
      | inl same ↦ subst (λ z. f z ≡ None) same parts.0
      | inr later ↦ none_at f ys x parts.1 later
    ]

-- ---- moments and ranks
rank_of : (v count ties t i n : ℕ) → v ≡ 3 → 1 ≤ ties → 1 ≤ count
    → (t * (if v == 3 then max 1 count * ties else 1) + (if v == 3 then i * ties else 0) + min n (ties - 1)) / ties ≡ moment count 1 t i 0
rank_of v count ties t i n is some one =
    subst (λ w. (t * (if w == 3 then max 1 count * ties else 1) + (if w == 3 then i * ties else 0) + min n (ties - 1)) / ties ≡ moment count 1 t i 0) (sym is)
    (ap (λ m. m / ties) whole ∙ div-mul-add (t * count + i) ties (min n (ties - 1)) few ∙ rank)
  where
    most : max 1 count ≡ count
    most = omega (arith, one)

    few : min n (ties - 1) < ties
    few = omega (arith, some)

    rank : t * count + i ≡ moment count 1 t i 0
    rank = omega arith

    whole : t * (max 1 count * ties) + i * ties + min n (ties - 1) ≡ (t * count + i) * ties + min n (ties - 1)
    whole = ap (λ c. t * (c * ties) + i * ties + min n (ties - 1)) most ∙ omega arith

module _ (p : Program) (left : Contents) (clocks : list_any is_clock p.sources ≡ true) where
  abbrev rows : Declared → List Row
  rows e = rows_in (form_of (job_of p)) left e.1

  abbrev source_lists : Declared → List (List Item)
  source_lists e = lists_of_source p (rows e) (ticks_in p left e) e

  each_long : (e : Declared) → length (source_lists e) ≡ width e.1
  each_long e = by (is_clock e.1)
    where
      by : (b : Bool)
          → length (if b then lists_of_ticks (timing_of p (length e.0)) e.1 (sum_by width e.0) (ticks_in p left e)
          else lists_of_rows (timing_of p (length e.0)) p.kinds e.1 (sum_by width e.0) (rows e)) ≡ width e.1
      by true = length-map-range_with_len (λ place. items_of_ticks (timing_of p (length e.0)) (sum_by width e.0 + place) (ticks_in p left e)) 0 (width e.1)
      by false =
          length-map-range_with_len (items_at p.kinds e.1 (sum_by width e.0) (at_moments (timing_of p (length e.0)) [] (rows e))) 0 (width e.1)

  file_list : (e : Declared) (place : ℕ) → is_clock e.1 ≡ false → place < width e.1
      → get_or (source_lists e) place [] ≡ items_at p.kinds e.1 (sum_by width e.0) (at_moments (timing_of p (length e.0)) [] (rows e)) place
  file_list e place file within =
      let from_zero : 0 + place ≡ place = omega arith in
      ap (λ (b : Bool). get_or (if b then lists_of_ticks (timing_of p (length e.0)) e.1 (sum_by width e.0) (ticks_in p left e)
      else lists_of_rows (timing_of p (length e.0)) p.kinds e.1 (sum_by width e.0) (rows e)) place []) file
      ∙ get_or-map-range_with_len (items_at p.kinds e.1 (sum_by width e.0) (at_moments (timing_of p (length e.0)) [] (rows e))) 0 (width e.1) place place []
      within from_zero

  one_source : (sources : List Source) → list_any is_clock sources ≡ true → 1 ≤ length sources
  one_source [] any = absurd cc
  one_source (s ∷ sources) any = omega arith

  rank_at : (i t n : ℕ) → moment_at (timing_of p i) t n / p.ties ≡ moment (length p.sources) 1 t i 0
  rank_at i t n = rank_of p.version (length p.sources) p.ties t i n (clocks_are_newer p clocks) (has_ties p) (one_source p.sources clocks)

  -- an item stands where a row stands
  from_rows : (m : ℕ) → Contains (row_times p (lists_of p left)) m → Contains (ranks_in p left) (m / p.ties)
  from_rows m there =
      let lists = lists_of p left in
      let own = of_flat (times_of_itag p lists) (range_with_len 0 (count_of_itags p)) m there in
      let below = of_range 0 (count_of_itags p) own.0 own.1 in
      by own.0 (omega (arith, below)) (has_ticks p own.0) refl own.2
    where
      by : (i : ℕ) → i < count_of_itags p → (b : Bool) → has_ticks p i ≡ b
          → Contains (if b then [] else item_times (slice_index_or (lists_of p left) i [])) m → Contains (ranks_in p left) (m / p.ties)
      by i lt true ticks here = absurd (contains_none m here)
      by i lt false none here =
          let is = placed source_lists each_long [] p.sources i lt in
          let e = is.owner in
          let n = length e.0 in
          let at = among_at [] p.sources e is.among in
          let file : is_clock e.1 ≡ false = sym (ap (λ o. option_map_or is_clock o false) (ap (slice_get p.sources) is.number ∙ at)) ∙ none in
          let list = is.list ∙ file_list e is.place file is.within in
          let stands = item_stands p.kinds e.1 (sum_by width e.0) (timing_of p n) (rows e) is.place m (subst (λ l. Contains (item_times l) m) list here) in
          let rank : m / p.ties ≡ moment (length p.sources) 1 stands.time n 0 =
          ap (λ k. k / p.ties) stands.at ∙ rank_at n stands.time stands.before in
          in_flat (λ (d : Declared). ranks_of p (length d.0) (rows d)) (each_with_before p.sources) e (m / p.ties) is.among
          (subst (Contains (ranks_of p n (rows e))) (sym rank)
          (in_map (λ time. moment (length p.sources) 1 time n 0) (times_of (rows e)) stands.time stands.there))

  -- and where a row stands there is an item
  to_rows : fault_of_rows p left ≡ None → (r : ℕ) → Contains (ranks_in p left) r
      → (m : ℕ) × Contains (row_times p (lists_of p left)) m × (m / p.ties ≡ r)
  to_rows none r there =
      let own = of_flat (λ (d : Declared). ranks_of p (length d.0) (rows d)) (each_with_before p.sources) r there in
      let row = of_map (λ time. moment (length p.sources) 1 time (length own.0.0) 0) (times_of (rows own.0)) r own.2 in
      by own.0 own.1 row.0 row.1 row.2 (is_clock own.0.1) refl
    where
      by : (e : Declared) → Contains (each_with_before p.sources) e → (t : ℕ) → Contains (times_of (rows e)) t
          → moment (length p.sources) 1 t (length e.0) 0 ≡ r → (b : Bool) → is_clock e.1 ≡ b
          → (m : ℕ) × Contains (row_times p (lists_of p left)) m × (m / p.ties ≡ r)
      by e among t row is true clock =
          let no_rows : rows e ≡ [] = ap (λ (b : Bool). rows_of (if b then [] else read_file (form_of (job_of p)) (bytes_left left e.1.file))) clock in
          absurd (contains_none t (subst (λ l. Contains (times_of l) t) no_rows row))
      by e among t row is false file =
          let lists = lists_of p left in
          let n = length e.0 in
          let timing = timing_of p n in
          let first = sum_by width e.0 in
          let held = items_held (form_of (job_of p)) left e.0 in
          let lines = lines_in (form_of (job_of p)) left e.1 in
          let at = among_at [] p.sources e among in
          let sound = none_mapped _ (first_of timing p.kinds e.1 held lines)
          (none_at (λ (d : Declared). fault_of_source (timing_of p) (form_of (job_of p)) p.kinds left d.0 d.1) (each_with_before p.sources) e none among) in
          let some = width_some p.kinds e.1 (passes_at (source_fits p.kinds) p.sources n e.1 p.sources_fit at) in
          let given = row_gives p.kinds e.1 first timing (rows e) t some (rows_listed p.kinds e.1 timing held lines sound) row in
          let place = given.1.0 in
          let own = itag_of source_lists each_long [] p.sources e place among given.1.1 in
          let m = moment_at timing t given.0 in
          let zero_on : 0 + own.itag ≡ own.itag = omega arith in
          let ticks : has_ticks p own.itag ≡ false =
          ap (λ o. option_map_or is_clock o false) (ap (slice_get p.sources) own.of_source ∙ at) ∙ file in
          let list = own.has_list ∙ file_list e place file given.1.1 in (
            m,
            in_flat (times_of_itag p lists) (range_with_len 0 (count_of_itags p)) own.itag m
                (subst (Contains (range_with_len 0 (count_of_itags p))) zero_on (in_range 0 (count_of_itags p) own.itag own.below))
                (subst (λ (b : Bool). Contains (if b then [] else item_times (slice_index_or lists own.itag [])) m) (sym ticks)
                (subst (λ l. Contains (item_times l) m) (sym list) given.1.2)),
            rank_at n t given.0 ∙ is,
          )

  -- THE FIRST AND THE LAST TIME OF THE ROWS tell where the first and the last row stand
  pub tells : AreGood p left → TellsItsRows p left
  tells good =
      let none = (none_first (fault_of_rows p left) (fault_of_clocks p [] left) good).0 in
      record {
        fits = fits_of p (row_times p (lists_of p left)) (ranks_in p left) from_rows (to_rows none) (ranks_early p left none);
        told = span_of p (row_times p (lists_of p left)) (ranks_in p left) from_rows (to_rows none);
      }
