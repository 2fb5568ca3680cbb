-- Ticks follow rows.
use Rattle.std.proofs.Common.{◌≡◌, ℕ, zero, suc, ◌+◌, ◌*◌, ◌%◌, ◌<◌, ◌≤◌, List, [], ◌∷◌, inl, inr, refl, sym, ap, subst, ◌∙◌, arith}
use Rattle.std.specs.Prelude.{Contains, All, Any, slice_index}
use Rattle.std.proofs.lemmas.Bool.{cases_lt}
use Rattle.std.proofs.lemmas.List.Elements.{All-nil, All-cons, All-weaker, All-contains}
use Rattle.flu_lemmas.proofs.Containing.{contains_here, contains_later, contains_none}
use Rattle.flu_moments.specs.Clocks.{tick_moment, IsNextTick, IsTick, IsTicks, IsSpan, steps}
use Rattle.flu_moments.specs.TickLaws.{FollowsRows}
use Rattle.flu_moments.proofs.NextLemmas.{next_tick_exists}
use Rattle.flu_moments.proofs.StepLemmas.{multiple_more, length-steps, is_step}
use Rattle.flu_moments.proofs.TickLemmas.{any_from_contains, any_within, tick_from_range, steps_are_ticks, steps_between, only_ticks}

-- ---- the first and the last of some moments
least_of : (m : ℕ) (ms : List ℕ) → (first : ℕ) × Contains (m ∷ ms) first × All (λ x. first ≤ x) (m ∷ ms)
least_of m [] = (m, contains_here m [], All-cons (λ x. m ≤ x) m [] (omega arith) (All-nil (λ x. m ≤ x)))
least_of m (x ∷ xs) =
    let r = least_of x xs in
    elim (cases_lt r.0 m) [
      | inl less ↦ (r.0, contains_later m r.0 (x ∷ xs) r.1, All-cons (λ y. r.0 ≤ y) m (x ∷ xs) (omega arith) r.2)
      | inr le ↦ (
        m,
        contains_here m (x ∷ xs),
        All-cons (λ y. m ≤ y) m (x ∷ xs) (omega arith) (All-weaker (λ y. r.0 ≤ y) (λ y. m ≤ y) (λ y h. omega arith) (x ∷ xs) r.2),
      )
    ]

pub greatest_of : (m : ℕ) (ms : List ℕ) → (last : ℕ) × Contains (m ∷ ms) last × All (λ x. x ≤ last) (m ∷ ms)
greatest_of m [] = (m, contains_here m [], All-cons (λ x. x ≤ m) m [] (omega arith) (All-nil (λ x. x ≤ m)))
greatest_of m (x ∷ xs) =
    let r = greatest_of x xs in
    elim (cases_lt m r.0) [
      | inl less ↦ (r.0, contains_later m r.0 (x ∷ xs) r.1, All-cons (λ y. y ≤ r.0) m (x ∷ xs) (omega arith) r.2)
      | inr le ↦ (
        m,
        contains_here m (x ∷ xs),
        All-cons (λ y. y ≤ m) m (x ∷ xs) (omega arith) (All-weaker (λ y. y ≤ r.0) (λ y. y ≤ m) (λ y h. omega arith) (x ∷ xs) r.2),
      )
    ]

span_of : (m : ℕ) (ms : List ℕ) → IsSpan (least_of m ms).0 (greatest_of m ms).0 (m ∷ ms)
span_of m ms =
    let low = least_of m ms in
    let high = greatest_of m ms in
    record { has_first = low.1; has_last = high.1; between = λ k d lt. (low.2 k d lt, high.2 k d lt) }

-- ---- the number at a place of some steps
step_at : (first every count k : ℕ) → k < count → slice_index (steps first every count) k ≡ first + k * every
step_at first every zero k less = absurd (omega arith)
step_at first every (suc count) zero less = omega arith
step_at first every (suc count) (suc k) less = step_at (first + every) every count k (omega arith) ∙ omega arith

-- ---- what the ticks from one time to another follow
module _ (sources ties every clock first last : ℕ) (rows : List ℕ) (some : 0 < every) (span : IsSpan first last rows) (from to : ℕ)
    (begin : IsNextTick sources ties every clock first from) (end : IsNextTick sources ties every clock last to) (count : ℕ)
    (is : to ≡ from + count * every) where
  last_row : (before at : ℕ) → before % every ≡ 0 → before < to → at ≡ to
      → Any (λ m. (tick_moment sources ties clock before ≤ m) × (m < tick_moment sources ties clock at)) rows
  last_row before at multiple less same =
      let tick : IsTick sources ties every clock rows to =
      tick_from_range sources ties every clock first last rows some span from to begin end to end.multiple (omega arith) (omega arith) in
      let row = any_within (λ m. tick_moment sources ties clock before ≤ m) rows (tick.none_after_all before multiple less) in
      let high = (All-contains (λ m. (first ≤ m) × (m ≤ last)) rows row.0 span.between row.1).1 in
      let above : last < tick_moment sources ties clock at = subst (λ t. last < tick_moment sources ties clock t) (sym same) end.above in
      any_from_contains (λ m. (tick_moment sources ties clock before ≤ m) × (m < tick_moment sources ties clock at)) row.0 rows row.1 (row.2, omega arith)

  steps_follow : FollowsRows sources ties every clock rows (steps from every (suc count))
  steps_follow = record {
    each_row =
        let there : Contains (steps from every (suc count)) to =
        subst (Contains (steps from every (suc count))) (sym is) (is_step from every (suc count) count (omega arith)) in
        All-weaker (λ m. (first ≤ m) × (m ≤ last)) (λ m. Any (λ time. m < tick_moment sources ties clock time) (steps from every (suc count)))
        (λ m inside. any_from_contains (λ time. m < tick_moment sources ties clock time) to (steps from every (suc count)) there
        (let above = end.above in let high = inside.1 in omega arith)) rows span.between;
    no_gap = λ k less.
        let size = length-steps from every (suc count) in
        let here = step_at from every (suc count) k (omega arith) in
        let next = step_at from every (suc count) (k + 1) (omega arith) in
        omega arith;
    last = λ k size.
        let counted = length-steps from every (suc count) in
        let number : k + 1 ≡ count = omega arith in
        let here = step_at from every (suc count) k (omega arith) in
        let next = step_at from every (suc count) (k + 1) (omega arith) in
        let whole : (k + 1) * every ≡ count * every = ap (λ x. x * every) number in
        last_row (slice_index (steps from every (suc count)) k) (slice_index (steps from every (suc count)) (k + 1))
        (ap (λ x. x % every) here ∙ multiple_more from every k some begin.multiple) (omega arith) (omega arith);
    none = λ e. absurd (contains_none first (subst (λ xs. Contains xs first) e span.has_first));
  }

-- ---- all ticks
no_rows : (sources ties every clock : ℕ) (ticks : List ℕ) → IsTicks sources ties every clock [] ticks → ticks ≡ []
no_rows sources ties every clock [] is = refl
no_rows sources ties every clock (t ∷ ts) is =
    let row = any_within (λ m. m < tick_moment sources ties clock t) [] ((is.each t).0 (contains_here t ts)).after_a_row in
    absurd (contains_none row.0 row.1)

pub no_ticks : (sources ties every clock : ℕ) → IsTicks sources ties every clock [] []
no_ticks sources ties every clock = record {
  rising = λ k less. absurd (omega arith);
  each = λ time. (
    λ there. absurd (contains_none time there),
    λ tick. (let row = any_within (λ m. m < tick_moment sources ties clock time) [] tick.after_a_row in absurd (contains_none row.0 row.1)),
  );
}

module _ (sources ties every clock : ℕ) (any : 0 < ties) (at : clock < sources) (some : 0 < every) where
  next_of : (m : ℕ) → (time : ℕ) × IsNextTick sources ties every clock m time
  next_of m = next_tick_exists sources ties every clock m any at some

  -- the ticks of some rows, as steps that follow them
  steps_of : (m : ℕ) (ms : List ℕ)
      → (ticks : List ℕ) × IsTicks sources ties every clock (m ∷ ms) ticks × FollowsRows sources ties every clock (m ∷ ms) ticks
  steps_of m ms =
      let first = (least_of m ms).0 in
      let last = (greatest_of m ms).0 in
      let span = span_of m ms in
      let from = next_of first in
      let to = next_of last in
      let count = steps_between sources ties every clock first last (m ∷ ms) some span from.0 to.0 from.1 to.1 in (
        steps from.0 every (suc count.0),
        steps_are_ticks sources ties every clock first last (m ∷ ms) some span from.0 to.0 from.1 to.1 count.0 count.1,
        steps_follow sources ties every clock first last (m ∷ ms) some span from.0 to.0 from.1 to.1 count.0 count.1,
      )

  pub some_ticks : (rows : List ℕ) → (ticks : List ℕ) × IsTicks sources ties every clock rows ticks
  some_ticks [] = ([], no_ticks sources ties every clock)
  some_ticks (m ∷ ms) = let made = steps_of m ms in (made.0, made.1)

  pub ticks_follow : (rows ticks : List ℕ) → IsTicks sources ties every clock rows ticks → FollowsRows sources ties every clock rows ticks
  ticks_follow [] ticks is =
      let none = no_rows sources ties every clock ticks is in
      subst (FollowsRows sources ties every clock []) (sym none) (record {
        each_row = All-nil (λ m. Any (λ time. m < tick_moment sources ties clock time) []);
        no_gap = λ k less. absurd (omega arith);
        last = λ k size. absurd (omega arith);
        none = λ e. refl;
      })
  ticks_follow (m ∷ ms) ticks is =
      let made = steps_of m ms in
      subst (FollowsRows sources ties every clock (m ∷ ms)) (only_ticks sources ties every clock (m ∷ ms) made.0 ticks made.1 is) made.2
