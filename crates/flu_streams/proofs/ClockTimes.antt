-- The times of rows and of ticks: rows are before the last multiple of each clock's period below the limit, so ticks are below the limit.
use Rattle.std.proofs.Common.{◌≡◌, ℕ, zero, suc, ◌+◌, ◌-◌, ◌*◌, ◌/◌, ◌%◌, ◌^◌, ◌<◌, ◌≤◌, min, max, List, [], ◌∷◌, length, take, filter}
use Rattle.std.proofs.Common.{Option, Some, None, refl, sym, ap, ◌∙◌, arith, subst, inl, inr}
use Rattle.std.specs.Prelude.{slice_get, Contains, ◌==◌, if◌then◌else◌}
use Rattle.std.specs.List.{All}
use Rattle.std.specs.Option.{option_map_or}
use Rattle.std.proofs.Math.Nat.{div-mul-le_self, mul-mod_left, mul-le-mul_left}
use Rattle.std.proofs.lemmas.Bool.{cases_lt}
use Rattle.std.proofs.lemmas.List.{length-take-le}
use Rattle.std.proofs.lemmas.List.Elements.{All-filter, All-weaker, All-cons, All-nil}
use Rattle.std.proofs.lemmas.Nat.{div_below, le-div, div-add-mod', mod_below}
use Rattle.std.proofs.lemmas.Option.{slice_get_within}
use Rattle.flu_lemmas.proofs.Containing.{contains_here, contains_later}
use Rattle.flu_calendar.specs.declared.unit.Unit.{Unit}
use Rattle.flu_calendar.specs.Units.{times_end}
use Rattle.flu_model.specs.declared.jobs.Program.{Program}
use Rattle.flu_model.specs.declared.jobs.Source.{Source}
use Rattle.flu_model.specs.Moments.{moments_a_time, limit_of_times, last_multiple, end_with_clocks, end_of_times}
use Rattle.flu_model.proofs.TimeLemmas.{end_within}
use Rattle.flu_moments.specs.Clocks.{tick_moment, IsNextTick, IsSpan, is_inside, ticks_among}
use Rattle.flu_moments.specs.Moments.{greatest_time}
use Rattle.flu_moments.specs.TickLaws.{TicksAreDetermined, TicksAreWithin}
use Rattle.flu_streams.specs.declared.border.Border.{Border}
use Rattle.flu_streams.specs.declared.border.Border.TheVariants.{At, Closed}
use Rattle.flu_streams.specs.declared.clocks.Span.{Span}
use Rattle.flu_streams.specs.Clocks.{ticks_of}
use Rattle.flu_streams.specs.LoopClocks.{ranks_in}
use Rattle.flu_streams.specs.Rounds.{is_within}
use Rattle.flu_streams.proofs.Moments.{product_le, moments_some}
use Rattle.flu_streams.proofs.Spans.{period_some, clock_is_newer}

-- ---- the limit and the end
limit_by : (o : Option Unit) (most : ℕ) → option_map_or (λ (unit : Unit). min most (times_end unit)) o most ≤ most
limit_by None most = omega arith
limit_by (Some unit) most = omega arith

pub limit_within : (p : Program) → limit_of_times p ≤ 2 ^ 63 / moments_a_time p
limit_within p = limit_by p.iso (2 ^ 63 / moments_a_time p)

pub end_is_within : (p : Program) → end_of_times p ≤ limit_of_times p
end_is_within p = end_within (limit_of_times p) p.sources

end_by_clock : (limit : ℕ) (sources : List Source) (i : ℕ) (s : Source) (every : ℕ) → slice_get sources i ≡ Some s → s.every ≡ Some every
    → end_with_clocks limit sources ≤ last_multiple limit every
end_by_clock limit [] i s every at is = absurd cc
end_by_clock limit (x ∷ xs) zero s every at is =
    let same : x ≡ s = cc in
    let own : option_map_or (last_multiple limit) x.every limit ≡ last_multiple limit every =
    ap (λ (y : Source). option_map_or (last_multiple limit) y.every limit) same ∙ ap (λ o. option_map_or (last_multiple limit) o limit) is in
    omega (arith, own)
end_by_clock limit (x ∷ xs) (suc i) s every at is = let rest = end_by_clock limit xs i s every at is in omega (arith, rest)

-- one time has as many ranks as there are sources, and no more than moments
fewer_times : (n count ties : ℕ) → 1 ≤ ties → 1 ≤ count → n / (count * ties) ≤ n / count
fewer_times n count ties some one =
    let q = n / (count * ties) in
    let wide : count ≤ count * ties = (let more = product_le 1 ties count some in omega (arith, more)) in
    let part : q * count ≤ q * (count * ties) = mul-le-mul_left q wide in
    let whole = div-mul-le_self n (count * ties) in
    le-div q n count one (omega (arith, part, whole))

times_by : (several ties count : ℕ) → several ≡ 3 → 1 ≤ ties → 1 ≤ count → 2 ^ 63 / (if several == 3 then max 1 count * ties else 1) ≤ 2 ^ 63 / count
times_by several ties count newer some one =
    let most : count ≡ max 1 count = omega (arith, one) in
    subst (λ v. 2 ^ 63 / (if v == 3 then max 1 count * ties else 1) ≤ 2 ^ 63 / count) (sym newer)
    (subst (λ m. 2 ^ 63 / (m * ties) ≤ 2 ^ 63 / count) most (fewer_times (2 ^ 63) count ties some one))

module _ (p : Program) (newer : p.version ≡ 3) (some : 1 ≤ p.ties) (one : 1 ≤ length p.sources) where
  pub limit_of_ranks : limit_of_times p ≤ 2 ^ 63 / length p.sources
  limit_of_ranks =
      let within = limit_within p in
      let less = times_by p.version p.ties (length p.sources) newer some one in
      omega (arith, within, less)

  -- a rank whose time is below the end is below 2^63
  pub rank_fits : (m : ℕ) → m / length p.sources < end_of_times p → m < 2 ^ 63
  rank_fits m lt =
      let limit = limit_of_ranks in
      let end = end_is_within p in
      let whole = div-mul-le_self (2 ^ 63) (length p.sources) in
      let step = product_le (m / length p.sources + 1) (2 ^ 63 / length p.sources) (length p.sources) (omega (arith, limit, end, lt)) in
      let split = div-add-mod' m (length p.sources) in
      let rest = mod_below m (length p.sources) one in
      omega (arith, whole, step, split, rest)

-- the multiple with which times end is behind each row
module _ (p : Program) (i : ℕ) (s : Source) (every : ℕ) (at : slice_get p.sources i ≡ Some s) (is : s.every ≡ Some every) (last : ℕ)
    (early : last / length p.sources < end_of_times p) where
  abbrev end : ℕ
  end = last_multiple (limit_of_times p) every

  in_front : last / length p.sources < end
  in_front = let le = end_by_clock (limit_of_times p) p.sources i s every at is in omega (arith, le, early)

  pub end_is_multiple : end % every ≡ 0
  end_is_multiple = mul-mod_left ((limit_of_times p - 1) / every) every

  pub end_is_behind : last < tick_moment (length p.sources) 1 i end
  end_is_behind =
      let within = slice_get_within p.sources i s at in
      let lt = in_front in
      let step = product_le (last / length p.sources + 1) end (length p.sources) (omega (arith, lt)) in
      let split = div-add-mod' last (length p.sources) in
      let rest = mod_below last (length p.sources) (omega (arith, within)) in
      omega (arith, step, split, rest)

  pub end_is_early : end < limit_of_times p
  end_is_early =
      let lt = in_front in
      let le = div-mul-le_self (limit_of_times p - 1) every in
      omega (arith, lt, le)

  -- the next tick is no later
  pub next_within : (time : ℕ) → IsNextTick (length p.sources) 1 every i last time → time < limit_of_times p
  next_within time next = let le = next.least end end_is_multiple end_is_behind in let lt = end_is_early in omega (arith, le, lt)

-- ---- the ticks that are found
abbrev pub until_of : Border → Option ℕ
until_of (At t) = Some t
until_of Closed = None

pub inside_is : (above : Option ℕ) (end : Border) → is_inside above (until_of end) ≡ is_within above end
inside_is None (At t) = refl
inside_is None Closed = refl
inside_is (Some a) (At t) = refl
inside_is (Some a) Closed = refl

pub two_span : (first last : ℕ) → first ≤ last → IsSpan first last (first ∷ last ∷ [])
two_span first last le = record {
  has_first = contains_here first (last ∷ []);
  has_last = contains_later first last (last ∷ []) (contains_here last []);
  between = All-cons (λ m. (first ≤ m) × (m ≤ last)) first (last ∷ []) (omega arith, le)
      (All-cons (λ m. (first ≤ m) × (m ≤ last)) last [] (le, omega arith) (All-nil (λ m. (first ≤ m) × (m ≤ last))));
}

pub ticks_are : (p : Program) (i : ℕ) (s : Source) (every : ℕ) (span : Span) → i ≤ length p.sources → s.every ≡ Some every
    → ticks_of p (ranks_in (Some span)) (take i p.sources, s) ≡ ticks_among (length p.sources) 1 every i (span.first ∷ span.last ∷ [])
ticks_are p i s every span le is =
    ap (λ o. option_map_or (λ k. ticks_among (length p.sources) 1 k (length (take i p.sources)) (span.first ∷ span.last ∷ [])) o []) is
    ∙ ap (λ n. ticks_among (length p.sources) 1 every n (span.first ∷ span.last ∷ [])) (length-take-le i p.sources le)
