-- What a round's border is where clocks tick, and which ticks a round takes.
use Rattle.std.proofs.Common.{◌≡◌, ℕ, zero, suc, ◌+◌, ◌-◌, ◌*◌, ◌/◌, ◌^◌, ◌<◌, ◌≤◌, Bool, true, false, cond, ◌&&◌, List, [], ◌∷◌, ◌++◌, length, map, take}
use Rattle.std.proofs.Common.{Option, Some, None}
use Rattle.std.proofs.Common.{inl, inr, min, max, refl, sym, ap, subst, ◌∙◌, append_assoc, length-append, arith}
use Rattle.std.specs.Prelude.{slice_get, nat_le, is_some, ◌==◌, ⊤}
use Rattle.std.specs.List.{All, filter, flat_map, list_any}
use Rattle.std.proofs.lemmas.Bool.{cases_lt}
use Rattle.std.proofs.lemmas.Nat.{div-mul-add}
use Rattle.std.specs.Option.{option_map_or}
use Rattle.std.proofs.lemmas.Bool.Decides.{nat_tests}
use Rattle.std.proofs.lemmas.List.{append-nil, length-map}
use Rattle.std.proofs.lemmas.Option.{slice_get_within}
use Rattle.flu_lemmas.specs.Elements.{AtEach}
use Rattle.flu_lemmas.proofs.Places.{slice_get-there}
use Rattle.flu_lemmas.proofs.Tests.{both, le_true, not_both, false_if_not, true_le}
use Rattle.flu_model.specs.declared.jobs.Source.{Source}
use Rattle.flu_model.specs.declared.jobs.Program.{Program}
use Rattle.flu_model.specs.declared.events.Item.TheVariants.{End as EndItem}
use Rattle.flu_model.specs.declared.moments.Timing.{Timing}
use Rattle.flu_model.specs.Moments.{limit_of_times, end_of_times, moment_at}
use Rattle.flu_model.specs.Streaming.{is_stream_from}
use Rattle.flu_model.specs.Rules.{is_clock}
use Rattle.flu_moments.specs.Clocks.{steps, ticks_among}
use Rattle.flu_moments.specs.Moments.{moment}
use Rattle.flu_rows.specs.declared.rows.Next.{Next}
use Rattle.flu_streams.specs.declared.border.Border.{Border}
use Rattle.flu_streams.specs.declared.border.Border.TheVariants.{At, Closed}
use Rattle.flu_streams.specs.declared.clocks.Span.{Span}
use Rattle.flu_streams.specs.declared.inlet.Inlet.{Inlet}
use Rattle.flu_streams.specs.Before.{with_before}
use Rattle.flu_streams.specs.Clocks.{Declared, ranks_of, ticks_of, tick_at, items_of_ticks}
use Rattle.flu_streams.specs.LoopClocks.{HasSpan, ranks_in, span_with, span_from, span_of, ticks_in_span, last_in_span, IsAtMostLast, IsNotAbove, FewTicks}
use Rattle.flu_streams.specs.LoopClocks.{IsByTicks, EndsByTicks, Stays, Lowers, IsEarly, span_to}
use Rattle.flu_streams.specs.LoopHeld.{AreBehind, source_of, earlier_of}
use Rattle.flu_streams.specs.Rounds.{is_above, is_up_to, is_within, ranks, ticks_between, last_tick}
use Rattle.flu_streams.specs.Tests.{rows_of, times_of, least, greatest}
use Rattle.flu_streams.proofs.ClockTimes.{limit_of_ranks, end_is_within}
use Rattle.flu_streams.proofs.Ranks.{fewer, product_up}
use Rattle.flu_streams.proofs.TickItems.{first_one, other_ones}
use Rattle.flu_streams.proofs.Spans.{span_tells, span_with_has, period_some, any_clock, has_ties}

-- ---- ticks rise
abbrev pub Rises : ℕ → List ℕ → Type 0
Rises low [] = ⊤
Rises low (x ∷ xs) = (low ≤ x) × Rises (suc x) xs

pub rises_lower : (low lower : ℕ) (xs : List ℕ) → lower ≤ low → Rises low xs → Rises lower xs
rises_lower low lower [] le up = tt
rises_lower low lower (x ∷ xs) le up = (omega (arith, le, up.0), up.1)

pub rises_filter : (f : ℕ → Bool) (low : ℕ) (xs : List ℕ) → Rises low xs → Rises low (filter f xs)
rises_filter f low [] up = tt
rises_filter f low (x ∷ xs) up =
    let rest = rises_filter f (suc x) xs up.1 in
    elim (f x) as (λ b. Rises low (cond b (x ∷ filter f xs) (filter f xs))) [
      | true ↦ (up.0, rest)
      | false ↦ rises_lower (suc x) low (filter f xs) (omega (arith, up.0)) rest
    ]

steps_rise : (low from every count : ℕ) → 0 < every → low ≤ from → Rises low (steps from every count)
steps_rise low from every zero some le = tt
steps_rise low from every (suc count) some le = (le, steps_rise (suc from) (from + every) every count some (omega (arith, some)))

pub ticks_rise : (p : Program) (i : ℕ) (s : Source) (rows : List ℕ) → slice_get p.sources i ≡ Some s → Rises 0 (ticks_of p rows (take i p.sources, s))
ticks_rise p i s rows at = by_period s.every refl
  where
    by_rows : (every clock : ℕ) (rows : List ℕ) → 0 < every → Rises 0 (ticks_among (length p.sources) 1 every clock rows)
    by_rows every clock [] some = tt
    by_rows every clock (m ∷ ms) some = steps_rise 0 _ every _ some (omega arith)

    by_period : (o : Option ℕ) → s.every ≡ o
        → Rises 0 (option_map_or (λ every. ticks_among (length p.sources) 1 every (length (take i p.sources)) rows) o [])
    by_period None e = tt
    by_period (Some every) e = by_rows every (length (take i p.sources)) rows (period_some p i s every at e)

-- ---- how many ticks come up to one
none_up : (x t : ℕ) (xs : List ℕ) → Rises (suc x) xs → t ≤ x → length (filter (λ n. nat_le n t) xs) ≡ 0
none_up x t [] up le = refl
none_up x t (y ∷ xs) up le = by_test (nat_le y t) refl (none_up y t xs up.1 (omega (arith, up.0, le)))
  where
    by_test : (b : Bool) → nat_le y t ≡ b → length (filter (λ n. nat_le n t) xs) ≡ 0
        → length (cond b (y ∷ filter (λ n. nat_le n t) xs) (filter (λ n. nat_le n t) xs)) ≡ 0
    by_test true early rest = let k = true_le y t early in absurd (omega (arith, k, up.0, le))
    by_test false late rest = rest

pub few_up_to : (low t last k : ℕ) (xs : List ℕ) → Rises low xs → slice_get xs k ≡ Some last → t ≤ last → length (filter (λ n. nat_le n t) xs) ≤ k + 1
few_up_to low t last k [] up at le = absurd cc
few_up_to low t last zero (x ∷ xs) up at le =
    let same : x ≡ last = cc in
    let none = none_up x t xs up.1 (omega (arith, same, le)) in
    elim (nat_le x t) as (λ b. length (cond b (x ∷ filter (λ n. nat_le n t) xs) (filter (λ n. nat_le n t) xs)) ≤ 0 + 1) [
      | true ↦ omega (arith, none)
      | false ↦ omega (arith, none)
    ]
few_up_to low t last (suc k) (x ∷ xs) up at le =
    let rest = few_up_to (suc x) t last k xs up.1 at le in
    elim (nat_le x t) as (λ b. length (cond b (x ∷ filter (λ n. nat_le n t) xs) (filter (λ n. nat_le n t) xs)) ≤ suc k + 1) [
      | true ↦ omega (arith, rest)
      | false ↦ omega (arith, rest)
    ]

few_none : (k : ℕ) (xs : List ℕ) → slice_get xs k ≡ None → length xs ≤ k
few_none k [] at = omega arith
few_none zero (x ∷ xs) at = absurd cc
few_none (suc k) (x ∷ xs) at = let rest = few_none k xs at in omega (arith, rest)

filter_in_turn : (f g : ℕ → Bool) (xs : List ℕ) → filter (λ x. f x && g x) xs ≡ filter g (filter (λ x. f x && true) xs)
filter_in_turn f g [] = refl
filter_in_turn f g (x ∷ xs) =
    elim (f x) as (λ b. cond (b && g x) (x ∷ filter (λ n. f n && g n) xs) (filter (λ n. f n && g n) xs)
    ≡ filter g (cond (b && true) (x ∷ filter (λ n. f n && true) xs) (filter (λ n. f n && true) xs))) [
      | true ↦ ap (λ l. cond (g x) (x ∷ l) l) (filter_in_turn f g xs)
      | false ↦ filter_in_turn f g xs
    ]

-- an element of a filtered list passes
pub passes_at : (f : ℕ → Bool) (xs : List ℕ) (k x : ℕ) → slice_get (filter f xs) k ≡ Some x → f x ≡ true
passes_at f [] k x at = absurd cc
passes_at f (y ∷ xs) k x at = by_test (f y) k refl at (λ j e. passes_at f xs j x e)
  where
    by_test : (b : Bool) (k : ℕ) → f y ≡ b → slice_get (cond b (y ∷ filter f xs) (filter f xs)) k ≡ Some x
        → ((j : ℕ) → slice_get (filter f xs) j ≡ Some x → f x ≡ true) → f x ≡ true
    by_test true zero here at rest = let same : y ≡ x = cc in ap f (sym same) ∙ here
    by_test true (suc k) here at rest = rest k at
    by_test false k here at rest = rest k at

-- ---- no clock has more ticks than a round takes
pub few_ticks : (p : Program) (rows : ℕ) (above : Option ℕ) (span : Option Span) (end : Border) → 1 ≤ rows → IsAtMostLast p rows above span end
    → FewTicks p rows above span end
few_ticks p rows above span Closed one most i s at =
    let few = few_none (rows - 1) (ticks_in_span p above span Closed (take i p.sources, s)) (most i s at) in omega (arith, few)
few_ticks p rows above span (At t) one most i s at = by_last (last_in_span p rows above span (take i p.sources, s)) refl
  where
    early : List ℕ
    early = ticks_in_span p above span Closed (take i p.sources, s)

    parts : ticks_in_span p above span (At t) (take i p.sources, s) ≡ filter (λ n. nat_le n t) early
    parts = filter_in_turn (is_above above) (λ n. nat_le n t) (ticks_of p (ranks_in span) (take i p.sources, s))

    up : Rises 0 early
    up = rises_filter (is_within above Closed) 0 (ticks_of p (ranks_in span) (take i p.sources, s)) (ticks_rise p i s (ranks_in span) at)

    by_last : (o : Option ℕ) → last_in_span p rows above span (take i p.sources, s) ≡ o
        → length (ticks_in_span p above span (At t) (take i p.sources, s)) ≤ rows
    by_last None e =
        let few = few_none (rows - 1) early e in
        let less = fewer (λ n. nat_le n t) early in
        let same = ap length parts in
        omega (arith, few, less, same)
    by_last (Some last) e =
        let few = few_up_to 0 t last (rows - 1) early up e (most i s at last e) in
        let same = ap length parts in
        omega (arith, few, same, one)

pub fewer_ticks : (p : Program) (few most : ℕ) (above : Option ℕ) (span : Option Span) (end : Border) → few ≤ most → FewTicks p few above span end
    → FewTicks p most above span end
fewer_ticks p few most above span end le is i s at = let k = is i s at in omega (arith, k, le)

-- ---- the border of a round, clock by clock
-- a border is at most the last tick of a clock
abbrev pub IsAtMost : Program → ℕ → Option ℕ → Option Span → Border → Declared → Type 0
IsAtMost p rows above span (At t) e = (last : ℕ) → last_in_span p rows above span e ≡ Some last → t ≤ last
IsAtMost p rows above span Closed e = last_in_span p rows above span e ≡ None

pub at_most : (p : Program) (rows : ℕ) (above : Option ℕ) (span : Option Span) (border : Border)
    → ((i : ℕ) (s : Source) → slice_get p.sources i ≡ Some s → IsAtMost p rows above span border (take i p.sources, s)) → IsAtMostLast p rows above span border
at_most p rows above span (At t) each = each
at_most p rows above span Closed each = each

pub not_above : (end : Border) → IsNotAbove end end
not_above (At t) = omega arith
not_above Closed = refl

some_same : {a b : ℕ} → Some a ≡ Some b → a ≡ b
some_same e = cc

none_some : {P : Type 0} (last : ℕ) → None ≡ Some last → P
none_some last e = absurd (never e)
  where
    never : None ≡ Some last → ⊥
    never e = cc

-- where a source has no such tick
pub still_most : (p : Program) (rows : ℕ) (above : Option ℕ) (span : Option Span) (border : Border) (e : Declared)
    → last_in_span p rows above span e ≡ None → IsAtMost p rows above span border e
still_most p rows above span (At t) e none = λ last some. none_some last (sym none ∙ some)
still_most p rows above span Closed e none = none

-- where a source has one
pub lower_most : (p : Program) (rows : ℕ) (above : Option ℕ) (span : Option Span) (border : Border) (time : ℕ) (e : Declared)
    → IsAtMost p rows above span border e → IsAtMost p rows above span (earlier_of border (At time)) e
lower_most p rows above span (At t) time e is = λ last some. let k = is last some in omega (arith, k)
lower_most p rows above span Closed time e none = still_most p rows above span (At time) e none

pub lowest_most : (p : Program) (rows : ℕ) (above : Option ℕ) (span : Option Span) (border : Border) (time : ℕ) (e : Declared)
    → last_in_span p rows above span e ≡ Some time → IsAtMost p rows above span (earlier_of border (At time)) e
lowest_most p rows above span (At t) time e is = λ last some. let same : time ≡ last = some_same (sym is ∙ some) in omega (arith, same)
lowest_most p rows above span Closed time e is = λ last some. let same : time ≡ last = some_same (sym is ∙ some) in omega (arith, same)

pub lower_below : (border end : Border) (time : ℕ) → IsNotAbove border end → IsNotAbove (earlier_of border (At time)) end
lower_below (At t) (At u) time le = omega (arith, le)
lower_below (At t) Closed time le = tt
lower_below Closed end time is = subst (IsNotAbove (At time)) (sym is) tt

pub lower_ends : (p : Program) (rows : ℕ) (above : Option ℕ) (span : Option Span) (end border : Border) (i : ℕ) (s : Source) (time : ℕ)
    → slice_get p.sources i ≡ Some s → last_in_span p rows above span (take i p.sources, s) ≡ Some time → time < limit_of_times p
    → EndsByTicks p rows above span end border → EndsByTicks p rows above span end (earlier_of border (At time))
lower_ends p rows above span end Closed i s time at is lt ends = Lowers i s time at is lt refl
lower_ends p rows above span end (At t) i s time at is lt ends = elim (cases_lt time t) [
  | inl early ↦ Lowers i s time at is lt (ap At (omega (arith, early)))
  | inr late ↦ let same : t ≡ min t time = omega (arith, late) in subst (λ n. EndsByTicks p rows above span end (At n)) same ends
]

-- the border so far, of the sources before a number
pub record IsLowered (p : Program) (rows : ℕ) (above : Option ℕ) (span : Option Span) (end : Border) (number : ℕ) (border : Border) : Type 0 where
  pub below : IsNotAbove border end
  pub most : (i : ℕ) (s : Source) → i < number → slice_get p.sources i ≡ Some s → IsAtMost p rows above span border (take i p.sources, s)
  pub ends : EndsByTicks p rows above span end border

pub none_lowered : (p : Program) (rows : ℕ) (above : Option ℕ) (span : Option Span) (end : Border) → IsLowered p rows above span end 0 end
none_lowered p rows above span end = record { below = not_above end; most = λ i s lt at. absurd (omega (arith, lt)); ends = Stays refl }

module _ (p : Program) (rows : ℕ) (above : Option ℕ) (span : Option Span) (end old new : Border) (i : ℕ) (s : Source) where
  -- what is so of each earlier source, and of this one
  most_more : ((j : ℕ) (t : Source) → j < i → slice_get p.sources j ≡ Some t → IsAtMost p rows above span new (take j p.sources, t))
      → slice_get p.sources i ≡ Some s → IsAtMost p rows above span new (take i p.sources, s)
      → (j : ℕ) (t : Source) → j < i + 1 → slice_get p.sources j ≡ Some t → IsAtMost p rows above span new (take j p.sources, t)
  most_more earlier at own j t lt is = elim (cases_lt j i) [
    | inl before ↦ earlier j t before is
    | inr behind ↦
        let here : i ≡ j = omega (arith, lt, behind) in
        let same : s ≡ t = some_source (sym at ∙ ap (slice_get p.sources) here ∙ is) in
        subst (λ (x : Source). IsAtMost p rows above span new (take j p.sources, x)) same
        (subst (λ n. IsAtMost p rows above span new (take n p.sources, s)) here own)
  ]
    where
      some_source : {x y : Source} → Some x ≡ Some y → x ≡ y
      some_source e = cc

  pub more_lowered : (time : ℕ) → slice_get p.sources i ≡ Some s → last_in_span p rows above span (take i p.sources, s) ≡ Some time → time < limit_of_times p
      → new ≡ earlier_of old (At time) → IsLowered p rows above span end i old → IsLowered p rows above span end (i + 1) new
  more_lowered time at is lt same was = record {
    below = subst (λ b. IsNotAbove b end) (sym same) (lower_below old end time was.below);
    most = most_more (λ j t before there. subst (λ b. IsAtMost p rows above span b (take j p.sources, t)) (sym same)
        (lower_most p rows above span old time (take j p.sources, t) (was.most j t before there))) at
        (subst (λ b. IsAtMost p rows above span b (take i p.sources, s)) (sym same) (lowest_most p rows above span old time (take i p.sources, s) is));
    ends = subst (EndsByTicks p rows above span end) (sym same) (lower_ends p rows above span end old i s time at is lt was.ends);
  }

  pub still_lowered : (found : Option ℕ) → slice_get p.sources i ≡ Some s → last_in_span p rows above span (take i p.sources, s) ≡ found
      → ((time : ℕ) → found ≡ Some time → ⊥) → new ≡ old → IsLowered p rows above span end i old → IsLowered p rows above span end (i + 1) new
  still_lowered None at is other same was = record {
    below = subst (λ b. IsNotAbove b end) (sym same) was.below;
    most = most_more (λ j t before there. subst (λ b. IsAtMost p rows above span b (take j p.sources, t)) (sym same) (was.most j t before there)) at
        (still_most p rows above span new (take i p.sources, s) is);
    ends = subst (EndsByTicks p rows above span end) (sym same) was.ends;
  }
  still_lowered (Some time) at is other same was = absurd (other time refl)

pub all_lowered : (p : Program) (rows : ℕ) (above : Option ℕ) (span : Option Span) (end border : Border) (number : ℕ) → length p.sources ≤ number
    → IsLowered p rows above span end number border → IsByTicks p rows above span end border
all_lowered p rows above span end border number le is = record {
  below = is.below;
  most = at_most p rows above span border (λ i s at. let within = slice_get_within p.sources i s at in is.most i s (omega (arith, le, within)) at);
  ends = is.ends;
}

pub all_slot : (P : ℕ → Type 0) (xs : List ℕ) (k x : ℕ) → All P xs → slice_get xs k ≡ Some x → P x
all_slot P [] k x all at = absurd cc
all_slot P (y ∷ ys) zero x all at = let same : y ≡ x = cc in subst P same (first_one P y ys all)
all_slot P (y ∷ ys) (suc k) x all at = all_slot P ys k x (other_ones P y ys all) at

-- a source that is no clock has no ticks
none_in_span : (p : Program) (above : Option ℕ) (span : Option Span) (end : Border) (e : Declared) → is_clock e.1 ≡ false
    → ticks_in_span p above span end e ≡ []
none_in_span p above span end e goes = by_period e.1.every goes
  where
    by_period : (o : Option ℕ) → is_some o ≡ false
        → filter (is_within above end) (option_map_or (λ every. ticks_among (length p.sources) 1 every (length e.0) (ranks_in span)) o []) ≡ []
    by_period None goes = refl
    by_period (Some every) goes = absurd cc

pub no_ticks : (p : Program) (rows : ℕ) (above : Option ℕ) (span : Option Span) (e : Declared) → is_clock e.1 ≡ false → last_in_span p rows above span e ≡ None
no_ticks p rows above span e goes = ap (λ l. slice_get l (rows - 1)) (none_in_span p above span Closed e goes)

-- few are few in a span that is that one where a clock needs it
pub few_in_span : (p : Program) (most : ℕ) (above : Option ℕ) (span other : Option Span) (end : Border) (i : ℕ) (s : Source) → slice_get p.sources i ≡ Some s
    → (list_any is_clock p.sources ≡ true → span ≡ other) → FewTicks p most above other end
    → length (ticks_in_span p above span end (take i p.sources, s)) ≤ most
few_in_span p most above span other end i s at same few = by_kind (is_clock s) refl
  where
    by_kind : (b : Bool) → is_clock s ≡ b → length (ticks_in_span p above span end (take i p.sources, s)) ≤ most
    by_kind true ticks =
        subst (λ x. length (ticks_in_span p above x end (take i p.sources, s)) ≤ most) (sym (same (any_clock p.sources i s at ticks))) (few i s at)
    by_kind false goes = let none = ap length (none_in_span p above span end (take i p.sources, s) goes) in omega (arith, none)

none_any : (sources : List Source) (i : ℕ) (s : Source) → list_any is_clock sources ≡ false → slice_get sources i ≡ Some s → is_clock s ≡ false
none_any sources i s none at = false_if_not (is_clock s) (λ ticks. not_both (list_any is_clock sources) (any_clock sources i s at ticks) none)

-- so no clock, no lower border
pub none_lower : (p : Program) (rows : ℕ) (above : Option ℕ) (span : Option Span) (end : Border) → list_any is_clock p.sources ≡ false
    → IsByTicks p rows above span end end
none_lower p rows above span end none = record {
  below = not_above end;
  most = at_most p rows above span end (λ i s at. still_most p rows above span end (take i p.sources, s)
      (no_ticks p rows above span (take i p.sources, s) (none_any p.sources i s none at)));
  ends = Stays refl;
}

-- ---- a span of early rows
pub early_with : (sources number end : ℕ) (span : Option Span) (first last : Option ℕ) → number < sources
    → ((t : ℕ) → last ≡ Some t → (f : ℕ) → first ≡ Some f → f ≤ t) → ((t : ℕ) → last ≡ Some t → t < end) → IsEarly sources end span
    → IsEarly sources end (span_with sources number span first last)
early_with sources number end span None last own ordered early was = was
early_with sources number end span (Some f) None own ordered early was = was
early_with sources number end span (Some f) (Some l) own ordered early was = by_span span was
  where
    low : ℕ
    low = moment sources 1 f number 0

    high : ℕ
    high = moment sources 1 l number 0

    rising : low ≤ high
    rising = let le = ordered l refl f refl in let more = product_up f l sources le in omega (arith, more)

    below : high / sources < end
    below =
        let own_time = div-mul-add l sources number own in
        let same : high / sources ≡ l = ap (λ n. n / sources) (omega arith) ∙ own_time in
        let lt = early l refl in
        omega (arith, same, lt)

    some_is : {a b : Span} → Some a ≡ Some b → a ≡ b
    some_is e = cc

    by_span : (span : Option Span) → IsEarly sources end span → IsEarly sources end (span_to span low high)
    by_span None was s e = subst (λ (x : Span). (x.first ≤ x.last) × (x.last / sources < end)) (some_is e) (rising, below)
    by_span (Some x) was s e =
        let own = was x refl in
        subst (λ (x : Span). (x.first ≤ x.last) × (x.last / sources < end)) (some_is e) (
          omega (arith, own.0, rising),
          elim (cases_lt x.last high) [
            | inl less ↦ (let same : max x.last high ≡ high = omega (arith, less) in subst (λ n. n / sources < end) (sym same) below)
            | inr more ↦ (let same : max x.last high ≡ x.last = omega (arith, more) in subst (λ n. n / sources < end) (sym same) own.1)
          ],
        )

-- the times of the rows are such that the rows have ranks
pub early_ranks : (p : Program) (t : ℕ) → p.version ≡ 3 → 0 < length p.sources → t < end_of_times p → t < 2 ^ 63 / length p.sources
early_ranks p t newer some lt =
    let most = limit_of_ranks p newer (has_ties p) (omega (arith, some)) in
    let end = end_is_within p in
    omega (arith, lt, most, end)

-- ---- the list of a clock
pub stream_of_ticks : (timing : Timing) (itag low from : ℕ) (ticks : List ℕ) → 0 < timing.scale → Rises low ticks → from ≤ low * timing.scale + timing.offset
    → is_stream_from itag from (items_of_ticks timing itag ticks) ≡ true
stream_of_ticks timing itag low from [] some up le = refl
stream_of_ticks timing itag low from (t ∷ ticks) some up le =
    let more = product_up low t timing.scale up.0 in
    both ((itag == itag) && nat_le from (moment_at timing t 0)) (is_stream_from itag (moment_at timing t 0 + 1) (items_of_ticks timing itag ticks))
    (both (itag == itag) (nat_le from (moment_at timing t 0)) (same_itag itag) (le_true from (moment_at timing t 0) (omega (arith, le, more))))
    (stream_of_ticks timing itag (suc t) (moment_at timing t 0 + 1) ticks some up.1
    (let step : (t + 1) * timing.scale ≡ t * timing.scale + timing.scale = omega arith in omega (arith, some, step)))
  where
    same_itag : (n : ℕ) → (n == n) ≡ true
    same_itag n = grind (arith, nat_tests)

pub size_of_ticks : (timing : Timing) (itag : ℕ) (ticks : List ℕ) → length (items_of_ticks timing itag ticks) ≡ length ticks + 1
size_of_ticks timing itag ticks = length-append (map (tick_at timing itag) ticks) (EndItem ∷ []) ∙ ap (λ n. n + 1) (length-map ticks (tick_at timing itag))

-- ---- the span of what is held
-- what is known of each inlet: the least and the greatest time of the lines that were read of its source
abbrev AreSpanned : (ℕ → List Next) → ℕ → List Inlet → Type 0
AreSpanned lines number inlets =
    (j n : ℕ) (h : Inlet) → n ≡ number + j → slice_get inlets j ≡ Some h
    → (least (times_of (rows_of (lines n))) ≡ h.first) × (greatest (times_of (rows_of (lines n))) ≡ h.last)

abbrev own_ranks : Program → (ℕ → List Next) → Declared → List ℕ
own_ranks p lines e = ranks_of p (length e.0) (rows_of (lines (length e.0)))

span_has_from : (p : Program) (lines : ℕ → List Next) (number : ℕ) (earlier later : List Source) (inlets : List Inlet) (span : Option Span) (before : List ℕ)
    → number ≡ length earlier → length inlets ≡ length later → AreSpanned lines number inlets → HasSpan span before
    → HasSpan (span_from (length p.sources) number span inlets) (before ++ flat_map (own_ranks p lines) (with_before earlier later))
span_has_from p lines number earlier [] [] span before at count each has = subst (HasSpan span) (sym (append-nil before)) has
span_has_from p lines number earlier [] (h ∷ inlets) span before at count each has = absurd (omega (arith, count))
span_has_from p lines number earlier (s ∷ later) [] span before at count each has = absurd (omega (arith, count))
span_has_from p lines number earlier (s ∷ later) (h ∷ inlets) span before at count each has =
    let own = each 0 number h (omega arith) refl in
    let times = times_of (rows_of (lines number)) in
    let here = span_with_has (length p.sources) number span h.first h.last before times has own.0 own.1 in
    let same : map (λ time. moment (length p.sources) 1 time number 0) times ≡ own_ranks p lines (earlier, s) =
    ap (λ n. map (λ time. moment (length p.sources) 1 time n 0) (times_of (rows_of (lines n)))) at in
    let rest = span_has_from p lines (suc number) (earlier ++ s ∷ []) later inlets (span_with (length p.sources) number span h.first h.last)
    (before ++ map (λ time. moment (length p.sources) 1 time number 0) times)
    (omega (arith, at, length-append earlier (s ∷ []))) (omega (arith, count))
    (λ j n g e f. each (suc j) n g (omega (arith, e)) f) here in
    subst (HasSpan (span_from (length p.sources) number span (h ∷ inlets)))
    (ap (λ l. (before ++ l) ++ flat_map (own_ranks p lines) (with_before (earlier ++ s ∷ []) later)) same
    ∙ append_assoc before (own_ranks p lines (earlier, s)) (flat_map (own_ranks p lines) (with_before (earlier ++ s ∷ []) later))) rest

-- THE SPAN OF WHAT IS HELD is that of the rows that were read
pub span_has : (p : Program) (border : Option ℕ) (lines : ℕ → List Next) (inlets : List Inlet) → length inlets ≡ length p.sources
    → AreBehind p border lines inlets → HasSpan (span_of p inlets) (ranks p lines)
span_has p border lines inlets count behind =
    span_has_from p lines 0 [] p.sources inlets None [] refl count (λ j n h e f.
    let s = slice_get-there p.sources j (rw (← count) (slice_get_within inlets j h f)) in
    let is = behind j s.0 s.1 h f in
    let same : n ≡ j = omega (arith, e) in
    subst (λ k. (least (times_of (rows_of (lines k))) ≡ h.first) × (greatest (times_of (rows_of (lines k))) ≡ h.last)) (sym same)
    (sym is.earliest, sym is.last)) refl

-- so the ticks among those rows are those in the span
pub ticks_held : (p : Program) (above : Option ℕ) (end : Border) (lines : ℕ → List Next) (inlets : List Inlet) (e : Declared)
    → HasSpan (span_of p inlets) (ranks p lines)
    → ticks_in_span p above (span_of p inlets) end e ≡ ticks_between p above end lines e
ticks_held p above end lines inlets e has = ap (filter (is_within above end)) (span_tells p (span_of p inlets) (ranks p lines) e has)

pub last_held : (p : Program) (rows : ℕ) (above : Option ℕ) (lines : ℕ → List Next) (inlets : List Inlet) (e : Declared)
    → HasSpan (span_of p inlets) (ranks p lines)
    → last_in_span p rows above (span_of p inlets) e ≡ last_tick p rows above lines e
last_held p rows above lines inlets e has = ap (λ l. slice_get l (rows - 1)) (ticks_held p above Closed lines inlets e has)
