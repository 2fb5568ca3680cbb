-- The ticks up to a border, among the rows of a front.
use Rattle.std.proofs.Common.{◌≡◌, ℕ, ◌<◌, ◌≤◌, Bool, true, false, cond, List, [], ◌∷◌, inl, inr, refl, sym, ap, subst, ◌∙◌, arith}
use Rattle.std.specs.Prelude.{Contains, nat_le}
use Rattle.std.specs.List.{filter}
use Rattle.std.proofs.lemmas.Bool.Decides.{nat_tests}
use Rattle.std.proofs.lemmas.List.Elements.{All-contains}
use Rattle.std.proofs.lemmas.List.Kept.{IsStrictlyIncreasing-filter}
use Rattle.flu_lemmas.proofs.Containing.{contains_here, contains_later, contains_cases, contains_none}
use Rattle.flu_moments.specs.Clocks.{tick_moment, IsTick, ticks_among}
use Rattle.flu_moments.specs.Moments.{border}
use Rattle.flu_moments.specs.TickLaws.{IsFrontAt, FrontsTellTicks}
use Rattle.flu_moments.proofs.ComputedLemmas.{ticks_are_computed}
use Rattle.flu_moments.proofs.MomentLemmas.{borders_part_times, time_of-moment}
use Rattle.flu_moments.proofs.StepLemmas.{only_rising}
use Rattle.flu_moments.proofs.TickLemmas.{tick_moment-rises, any_from_contains, any_within}

module _ (sources ties every clock at time : ℕ) (rows front : List ℕ) (is : IsFrontAt at rows front) (early : tick_moment sources ties clock time ≤ at) where
  abbrev tick_at : ℕ → ℕ
  tick_at = tick_moment sources ties clock

  among_front : IsTick sources ties every clock rows time → IsTick sources ties every clock front time
  among_front tick = record {
    multiple = tick.multiple;
    after_a_row =
        let row = any_within (λ m. m < tick_at time) rows tick.after_a_row in
        let under = row.2 in
        any_from_contains (λ m. m < tick_at time) row.0 front (All-contains (λ m. m ≤ at → Contains front m) rows row.0 is.whole row.1 (omega arith)) row.2;
    none_after_all = λ earlier multiple less.
        let row = any_within (λ m. at < m) front is.behind in
        let over = row.2 in
        let up = tick_moment-rises sources ties clock earlier time (omega arith) in
        any_from_contains (λ m. tick_at earlier ≤ m) row.0 front row.1 (omega arith);
  }

  among_all : IsTick sources ties every clock front time → IsTick sources ties every clock rows time
  among_all tick = record {
    multiple = tick.multiple;
    after_a_row =
        let row = any_within (λ m. m < tick_at time) front tick.after_a_row in
        any_from_contains (λ m. m < tick_at time) row.0 rows (All-contains (Contains rows) front row.0 is.within row.1) row.2;
    none_after_all = λ earlier multiple less.
        let row = any_within (λ m. tick_at earlier ≤ m) front (tick.none_after_all earlier multiple less) in
        any_from_contains (λ m. tick_at earlier ≤ m) row.0 rows (All-contains (Contains rows) front row.0 is.within row.1) row.2;
  }

-- ---- what a filter keeps
pub kept : (p : ℕ → Bool) (xs : List ℕ) (k : ℕ) → Contains (filter p xs) k → Contains xs k × (p k ≡ true)
kept p [] k there = absurd (contains_none k there)
kept p (x ∷ xs) k there =
    elim (p x) as (λ b. p x ≡ b → Contains (cond b (x ∷ filter p xs) (filter p xs)) k → Contains (x ∷ xs) k × (p k ≡ true)) [
      | true ↦ λ passes here.
          elim (contains_cases x k (filter p xs) here) [
            | inl e ↦ (subst (Contains (x ∷ xs)) e (contains_here x xs), ap p (sym e) ∙ passes)
            | inr later ↦ (let rest = kept p xs k later in (contains_later x k xs rest.0, rest.1))
          ]
      | false ↦ λ fails here. (let rest = kept p xs k here in (contains_later x k xs rest.0, rest.1))
    ] refl there

pub is_kept : (p : ℕ → Bool) (xs : List ℕ) (k : ℕ) → Contains xs k → p k ≡ true → Contains (filter p xs) k
is_kept p [] k there passes = absurd (contains_none k there)
is_kept p (x ∷ xs) k there passes =
    elim (p x) as (λ b. p x ≡ b → Contains (cond b (x ∷ filter p xs) (filter p xs)) k) [
      | true ↦ λ here.
          elim (contains_cases x k xs there) [
            | inl e ↦ subst (Contains (x ∷ filter p xs)) e (contains_here x (filter p xs))
            | inr later ↦ contains_later x k (filter p xs) (is_kept p xs k later passes)
          ]
      | false ↦ λ fails.
          elim (contains_cases x k xs there) [
            | inl e ↦ absurd (never (sym fails ∙ ap p e ∙ passes))
            | inr later ↦ is_kept p xs k later passes
          ]
    ] refl
  where
    never : false ≡ true → ⊥
    never e = cc

-- ---- the ticks up to a time
module _ (sources ties every clock last : ℕ) (any : 0 < ties) (at : clock < sources) (some : 0 < every) where
  abbrev up_to : ℕ → Bool
  up_to time = nat_le time last

  tick_is_early : (time : ℕ) → up_to time ≡ true → tick_moment sources ties clock time ≤ border sources ties last
  tick_is_early time e =
      let own = time_of-moment sources ties time clock 0 (record { source_in_range = at; place_in_range = any }) in
      let le : time ≤ last = grind (arith, nat_tests) in
      (borders_part_times sources ties last (tick_moment sources ties clock time) (omega arith) any).1 (omega arith)

  kept_among : (rows front : List ℕ) → ((time : ℕ) → up_to time ≡ true → IsTick sources ties every clock rows time → IsTick sources ties every clock front time)
      → (time : ℕ) → Contains (filter up_to (ticks_among sources ties every clock rows)) time
      → Contains (filter up_to (ticks_among sources ties every clock front)) time
  kept_among rows front same time there =
      let here = kept up_to (ticks_among sources ties every clock rows) time there in
      let tick = ((ticks_are_computed sources ties every clock rows any at some).each time).0 here.0 in
      is_kept up_to (ticks_among sources ties every clock front) time
      (((ticks_are_computed sources ties every clock front any at some).each time).1 (same time here.1 tick)) here.1

  same_lists : (rows front : List ℕ) → IsFrontAt (border sources ties last) rows front
      → filter up_to (ticks_among sources ties every clock rows) ≡ filter up_to (ticks_among sources ties every clock front)
  same_lists rows front is =
      only_rising (filter up_to (ticks_among sources ties every clock rows)) (filter up_to (ticks_among sources ties every clock front))
      (IsStrictlyIncreasing-filter up_to (ticks_among sources ties every clock rows) (ticks_are_computed sources ties every clock rows any at some).rising)
      (IsStrictlyIncreasing-filter up_to (ticks_among sources ties every clock front) (ticks_are_computed sources ties every clock front any at some).rising)
      (λ time. (
        kept_among rows front (λ t e. among_front sources ties every clock (border sources ties last) t rows front is (tick_is_early t e)) time,
        kept_among front rows (λ t e. among_all sources ties every clock (border sources ties last) t rows front is (tick_is_early t e)) time,
      ))

pub fronts_tell_ticks : FrontsTellTicks
fronts_tell_ticks = record {
  each = λ sources ties every clock at time rows front is early. (
    among_front sources ties every clock at time rows front is early,
    among_all sources ties every clock at time rows front is early,
  );
  lists = λ sources ties every clock last rows front any at some is. same_lists sources ties every clock last any at some rows front is;
}
