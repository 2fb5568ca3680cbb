-- The moments of rows: their times, how borders part them, and the rows between two borders at their moments.
use Rattle.std.proofs.Common.{◌≡◌, ℕ, ◌+◌, ◌-◌, ◌*◌, ◌/◌, ◌%◌, ◌^◌, ◌<◌, ◌≤◌, min, Bool, true, false, cond, ◌&&◌, List, [], ◌∷◌, ◌++◌, Option, Some, None}
use Rattle.std.proofs.Common.{refl, sym, ap, ◌∙◌, inl, inr, arith, append_assoc}
use Rattle.std.specs.Prelude.{nat_lt, nat_le, max, length, ◌==◌, ◌||◌, if◌then◌else◌}
use Rattle.std.specs.Option.{option_map_or}
use Rattle.std.proofs.Math.Nat.{mul-le-mul_left, div-mul-le_self}
use Rattle.std.proofs.lemmas.Bool.{cases_lt, cases_eq}
use Rattle.std.proofs.lemmas.Bool.Decides.{nat_tests}
use Rattle.std.proofs.lemmas.List.{append-nil}
use Rattle.std.proofs.lemmas.Nat.{div-mul-add, mod-mul-add, div_below, le-div}
use Rattle.flu_lemmas.specs.Counting.{times}
use Rattle.flu_lemmas.proofs.Counting.{times_append, times_of_other}
use Rattle.flu_lemmas.proofs.Tests.{and_left, and_right}
use Rattle.flu_model.specs.declared.jobs.Program.{Program}
use Rattle.flu_model.specs.declared.moments.Timing.{Timing}
use Rattle.flu_model.specs.Moments.{moments_a_time, time_of_moment, timing_of, moment_at, last_moment, IsTiming, end_of_times, limit_of_times}
use Rattle.flu_model.proofs.TimeLemmas.{end_within}
use Rattle.flu_calendar.specs.declared.unit.Unit.{Unit}
use Rattle.flu_calendar.specs.Units.{times_end}
use Rattle.flu_rows.specs.declared.row.Row.{Row}
use Rattle.flu_rows.specs.declared.row.Row.TheVariants.{Event, Beat, End}
use Rattle.flu_streams.specs.declared.border.Border.{Border}
use Rattle.flu_streams.specs.declared.border.Border.TheVariants.{At, Closed}
use Rattle.flu_streams.specs.Good.{with_time, at_moments, time_at}
use Rattle.flu_streams.specs.LoopMoments.{border_moment, end_moment}
use Rattle.flu_streams.specs.Rounds.{is_above, is_up_to, is_between, rows_between}
use Rattle.flu_streams.specs.Tests.{times_of}

-- ---- products
pub product_le : (a b w : ℕ) → a ≤ b → a * w ≤ b * w
product_le a b w le = let turned : w * a ≤ w * b = mul-le-mul_left w le in omega arith

-- ---- the time of a moment
module _ (timing : Timing) (fits : IsTiming timing) where
  pub scale_some : 0 < timing.scale
  scale_some = let some = fits.some in let within = fits.within in omega arith

  place_below : (before : ℕ) → timing.offset + min before (timing.ties - 1) < timing.scale
  place_below before = let some = fits.some in let within = fits.within in omega arith

  pub time_of-moment : (time before : ℕ) → moment_at timing time before / timing.scale ≡ time
  time_of-moment time before =
      let whole : moment_at timing time before ≡ time * timing.scale + (timing.offset + min before (timing.ties - 1)) = omega arith in
      ap (λ m. m / timing.scale) whole ∙ div-mul-add time timing.scale (timing.offset + min before (timing.ties - 1)) (place_below before)

  pub rest_of-moment : (time before : ℕ) → moment_at timing time before % timing.scale ≡ timing.offset + min before (timing.ties - 1)
  rest_of-moment time before =
      let whole : moment_at timing time before ≡ time * timing.scale + (timing.offset + min before (timing.ties - 1)) = omega arith in
      ap (λ m. m % timing.scale) whole ∙ mod-mul-add time timing.scale (timing.offset + min before (timing.ties - 1)) (place_below before)

  -- a border of moments parts them as its time parts their times
  pub up_to_border : (m time : ℕ) → m ≤ last_moment timing time → m / timing.scale ≤ time
  up_to_border m time le =
      let some = scale_some in
      let more = product_le 1 (time + 1) timing.scale (omega arith) in
      let below = div_below m timing.scale (time + 1) some (omega arith) in
      omega arith

  pub from_border : (m time : ℕ) → m / timing.scale ≤ time → m ≤ last_moment timing time
  from_border m time le =
      elim (cases_lt (last_moment timing time) m) [
        | inl above ↦ (let some = scale_some in let next = le-div (time + 1) m timing.scale some (omega arith) in absurd (omega arith))
        | inr within ↦ within
      ]

  pub border_test : (m time : ℕ) → nat_le m (last_moment timing time) ≡ nat_le (m / timing.scale) time
  border_test m time =
      elim (cases_lt time (m / timing.scale)) [
        | inl later ↦ elim (cases_lt (last_moment timing time) m) [
          | inl above ↦ grind (arith, nat_tests)
          | inr within ↦ let early = up_to_border m time within in absurd (omega (arith, early, later))
        ]
        | inr early ↦ let within = from_border m time early in grind (arith, nat_tests)
      ]

  pub above_test : (m time : ℕ) → nat_lt (last_moment timing time) m ≡ nat_lt time (m / timing.scale)
  above_test m time =
      elim (cases_lt time (m / timing.scale)) [
        | inl later ↦ elim (cases_lt (last_moment timing time) m) [
          | inl above ↦ grind (arith, nat_tests)
          | inr within ↦ let early = up_to_border m time within in absurd (omega (arith, early, later))
        ]
        | inr early ↦ let within = from_border m time early in grind (arith, nat_tests)
      ]

  pub is_above-moment : (border : Option ℕ) (m : ℕ) → is_above (border_moment timing border) m ≡ is_above border (m / timing.scale)
  is_above-moment None m = refl
  is_above-moment (Some b) m = above_test m b

  pub is_up_to-moment : (end : Border) (m : ℕ) → is_up_to (end_moment timing end) m ≡ is_up_to end (m / timing.scale)
  is_up_to-moment (At t) m = border_test m t
  is_up_to-moment Closed m = refl

  -- ---- rows at their moments
  pub at_moments-append : (earlier : List ℕ) (xs ys : List Row)
      → at_moments timing earlier (xs ++ ys) ≡ at_moments timing earlier xs ++ at_moments timing (earlier ++ times_of xs) ys
  at_moments-append earlier [] ys = ap (λ l. at_moments timing l ys) (sym (append-nil earlier))
  at_moments-append earlier (x ∷ xs) ys =
      ap (λ l. with_time (moment_at timing (time_at x) (times (time_at x) earlier)) x ∷ l)
      (at_moments-append (earlier ++ times_of (x ∷ [])) xs ys
      ∙ ap (λ l. at_moments timing (earlier ++ times_of (x ∷ [])) xs ++ at_moments timing l ys) (rest_of x))
    where
      rest_of : (x : Row) → (earlier ++ times_of (x ∷ [])) ++ times_of xs ≡ earlier ++ times_of (x ∷ xs)
      rest_of (Event time name key fields) = append_assoc earlier (time ∷ []) (times_of xs)
      rest_of (Beat time) = append_assoc earlier (time ∷ []) (times_of xs)
      rest_of End = append_assoc earlier [] (times_of xs)

  -- a row is between two borders where its moment is
  pub is_between-moment : (above : Option ℕ) (end : Border) (row : Row) (before : ℕ)
      → is_between (border_moment timing above) (end_moment timing end) (with_time (moment_at timing (time_at row) before) row) ≡ is_between above end row
  is_between-moment above end (Event time name key fields) before = both_tests time before
    where
      both_tests : (time before : ℕ)
          → (is_above (border_moment timing above) (moment_at timing time before) && is_up_to (end_moment timing end) (moment_at timing time before))
          ≡ (is_above above time && is_up_to end time)
      both_tests time before =
          (λ i. is_above-moment above (moment_at timing time before) i && is_up_to-moment end (moment_at timing time before) i)
          ∙ ap (λ t. is_above above t && is_up_to end t) (time_of-moment time before)
  is_between-moment above end (Beat time) before =
      (λ i. is_above-moment above (moment_at timing time before) i && is_up_to-moment end (moment_at timing time before) i)
      ∙ ap (λ t. is_above above t && is_up_to end t) (time_of-moment time before)
  is_between-moment above end End before = refl

  -- the times that are between two borders occur as often in two lists
  abbrev AreAlike : Option ℕ → Border → List ℕ → List ℕ → Type 0
  AreAlike above end xs ys = (t : ℕ) → (is_above above t && is_up_to end t) ≡ true → times t xs ≡ times t ys

  alike_more : (above : Option ℕ) (end : Border) (xs ys zs : List ℕ) → AreAlike above end xs ys → AreAlike above end (xs ++ zs) (ys ++ zs)
  alike_more above end xs ys zs alike t e = times_append t xs zs ∙ ap (λ n. n + times t zs) (alike t e) ∙ sym (times_append t ys zs)

  alike_less : (above : Option ℕ) (end : Border) (xs ys : List ℕ) (time : ℕ) → AreAlike above end xs ys
      → (is_above above time && is_up_to end time) ≡ false → AreAlike above end (xs ++ time ∷ []) ys
  alike_less above end xs ys time alike out t e =
      elim (cases_eq time t) [
        | inl same ↦ absurd (never (sym e ∙ ap (λ u. is_above above u && is_up_to end u) (sym same) ∙ out))
        | inr ne ↦ times_append t xs (time ∷ []) ∙ ap (λ n. times t xs + n) (times_of_other t time [] ne) ∙ omega arith ∙ alike t e
      ]
    where
      never : true ≡ false → ⊥
      never e = cc

  between_at : (above : Option ℕ) (end : Border) (xs ys : List ℕ) (rows : List Row) → AreAlike above end xs ys
      → rows_between (border_moment timing above) (end_moment timing end) (at_moments timing xs rows) ≡ at_moments timing ys (rows_between above end rows)
  between_at above end xs ys [] alike = refl
  between_at above end xs ys (row ∷ rows) alike = by_test (λ xs' ys' alike'. between_at above end xs' ys' rows alike') (is_between above end row) refl
    where
      More : Type 0
      More = (xs' ys' : List ℕ) → AreAlike above end xs' ys'
          → rows_between (border_moment timing above) (end_moment timing end) (at_moments timing xs' rows) ≡ at_moments timing ys' (rows_between above end rows)

      at : Row
      at = with_time (moment_at timing (time_at row) (times (time_at row) xs)) row

      moved : is_between (border_moment timing above) (end_moment timing end) at ≡ is_between above end row
      moved = is_between-moment above end row (times (time_at row) xs)

      kept : (row : Row) → is_between above end row ≡ true → with_time (moment_at timing (time_at row) (times (time_at row) xs)) row
          ≡ with_time (moment_at timing (time_at row) (times (time_at row) ys)) row
      kept (Event time name key fields) e = ap (λ n. Event (moment_at timing time n) name key fields) (alike time e)
      kept (Beat time) e = ap (λ n. Beat (moment_at timing time n)) (alike time e)
      kept End e = refl

      less : (row : Row) → is_between above end row ≡ false → AreAlike above end (xs ++ times_of (row ∷ [])) ys
      less (Event time name key fields) e = alike_less above end xs ys time alike e
      less (Beat time) e = alike_less above end xs ys time alike e
      less End e = λ t h. ap (times t) (append-nil xs) ∙ alike t h

      by_test : More → (b : Bool) → is_between above end row ≡ b
          → rows_between (border_moment timing above) (end_moment timing end) (at_moments timing xs (row ∷ rows))
          ≡ at_moments timing ys (rows_between above end (row ∷ rows))
      by_test more true e =
          ap (λ b. cond b (at ∷ rows_between (border_moment timing above) (end_moment timing end) (at_moments timing (xs ++ times_of (row ∷ [])) rows))
          (rows_between (border_moment timing above) (end_moment timing end) (at_moments timing (xs ++ times_of (row ∷ [])) rows))) (moved ∙ e)
          ∙ (λ i. kept row e i ∷ more (xs ++ times_of (row ∷ [])) (ys ++ times_of (row ∷ [])) (alike_more above end xs ys (times_of (row ∷ [])) alike) i)
          ∙ ap (λ b. at_moments timing ys (cond b (row ∷ rows_between above end rows) (rows_between above end rows))) (sym e)
      by_test more false e =
          ap (λ b. cond b (at ∷ rows_between (border_moment timing above) (end_moment timing end) (at_moments timing (xs ++ times_of (row ∷ [])) rows))
          (rows_between (border_moment timing above) (end_moment timing end) (at_moments timing (xs ++ times_of (row ∷ [])) rows))) (moved ∙ e)
          ∙ more (xs ++ times_of (row ∷ [])) ys (less row e)
          ∙ ap (λ b. at_moments timing ys (cond b (row ∷ rows_between above end rows) (rows_between above end rows))) (sym e)

  -- THE ROWS BETWEEN TWO BORDERS AT THEIR MOMENTS are the rows at their moments that are between the borders of moments
  pub between_moments : (above : Option ℕ) (end : Border) (rows : List Row)
      → at_moments timing [] (rows_between above end rows) ≡ rows_between (border_moment timing above) (end_moment timing end) (at_moments timing [] rows)
  between_moments above end rows = sym (between_at above end [] [] rows (λ t e. refl))

-- an end has no time
pub at_moments-end : (timing : Timing) (earlier : List ℕ) (rows : List Row)
    → at_moments timing earlier (rows ++ End ∷ []) ≡ at_moments timing earlier rows ++ End ∷ []
at_moments-end timing earlier [] = refl
at_moments-end timing earlier (row ∷ rows) =
    ap (λ l. with_time (moment_at timing (time_at row) (times (time_at row) earlier)) row ∷ l)
    (at_moments-end timing (earlier ++ times_of (row ∷ [])) rows)

-- ---- the timings of the sources of a program
ties_of_one : (ties : ℕ) → (ties == 1) ≡ true → ties ≡ 1
ties_of_one ties e = grind (arith, nat_tests)

abbrev scale_by : Bool → ℕ → ℕ → ℕ
scale_by several count ties = if several then max 1 count * ties else 1

scale_by-some : (several : Bool) (count ties : ℕ) → 1 ≤ ties → 0 < scale_by several count ties
scale_by-some true count ties some = let more = product_le 1 (max 1 count) ties (omega arith) in omega (arith, some, more)
scale_by-some false count ties some = omega arith

fits_by : (several : Bool) (count ties end i : ℕ) → 1 ≤ ties → ties ≤ 2 ^ 31 → (several || (ties == 1)) ≡ true → count ≤ 64 → i < count
    → end ≤ 2 ^ 63 / scale_by several count ties
    → IsTiming (record { several = several; scale = scale_by several count ties; offset = if several then i * ties else 0; ties = ties; end = end })
fits_by true count ties end i some most one few lt range =
    let own = product_le (i + 1) (max 1 count) ties (omega (arith, lt)) in
    let all = product_le (max 1 count) 64 ties (omega (arith, few)) in
    record { some = omega (arith, some); within = omega (arith, own); few = omega (arith, all, most); range = range }
fits_by false count ties end i some most one few lt range =
    let alone = ties_of_one ties one in
    record { some = omega (arith, some); within = omega (arith, alone); few = omega arith; range = range }

ties_range : (p : Program) → (nat_le 1 p.ties && nat_le p.ties (2 ^ 31)) ≡ true
ties_range p = and_left (nat_le 1 p.ties && nat_le p.ties (2 ^ 31)) ((p.version == 3) || (p.ties == 1)) p.known_ties

ties_some : (p : Program) → 1 ≤ p.ties
ties_some p = let e = and_left (nat_le 1 p.ties) (nat_le p.ties (2 ^ 31)) (ties_range p) in grind (arith, nat_tests)

ties_most : (p : Program) → p.ties ≤ 2 ^ 31
ties_most p = let e = and_right (nat_le 1 p.ties) (nat_le p.ties (2 ^ 31)) (ties_range p) in grind (arith, nat_tests)

limit_within : (most : ℕ) (iso : Option Unit) → option_map_or (λ (unit : Unit). min most (times_end unit)) iso most ≤ most
limit_within most None = omega arith
limit_within most (Some unit) = omega arith

pub end_limit : (p : Program) → limit_of_times p ≤ 2 ^ 63 / moments_a_time p
end_limit p = limit_within (2 ^ 63 / moments_a_time p) p.iso

-- times are below 2^63, and so are their moments
pub end_range : (p : Program) → end_of_times p ≤ 2 ^ 63 / moments_a_time p
end_range p =
    let first = end_within (limit_of_times p) p.sources in
    let most = limit_within (2 ^ 63 / moments_a_time p) p.iso in
    omega (arith, first, most)

pub timing_fits : (p : Program) (i : ℕ) → i < length p.sources → IsTiming (timing_of p i)
timing_fits p i lt =
    fits_by (p.version == 3) (length p.sources) p.ties (end_of_times p) i (ties_some p) (ties_most p)
    (and_right (nat_le 1 p.ties && nat_le p.ties (2 ^ 31)) ((p.version == 3) || (p.ties == 1)) p.known_ties) p.few_sources lt (end_range p)

pub timing_scale : (p : Program) (i : ℕ) → (timing_of p i).scale ≡ moments_a_time p
timing_scale p i = refl

pub moments_some : (p : Program) → 0 < moments_a_time p
moments_some p = scale_by-some (p.version == 3) (length p.sources) p.ties (ties_some p)

-- a later moment has no earlier time
pub time_up : (p : Program) (m n : ℕ) → m ≤ n → time_of_moment p m ≤ time_of_moment p n
time_up p m n le =
    let whole = div-mul-le_self m (moments_a_time p) in
    le-div (time_of_moment p m) n (moments_a_time p) (moments_some p) (omega (arith, whole, le))
