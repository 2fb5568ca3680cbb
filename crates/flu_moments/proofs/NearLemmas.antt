-- How far ticks are behind rows, and that the first and the last row tell them.
use Rattle.std.proofs.Common.{◌≡◌, ℕ, ◌<◌, ◌≤◌, ◌%◌, min, max, inl, inr, List, [], ◌∷◌, ap, sym, ◌∙◌, arith}
use Rattle.std.specs.Prelude.{Contains}
use Rattle.std.proofs.lemmas.Bool.{cases_lt}
use Rattle.std.proofs.lemmas.List.Elements.{All-weaker, All-contains, All-contains_itself}
use Rattle.flu_lemmas.proofs.Containing.{contains_here, contains_later, contains_cases, contains_none, contains_one}
use Rattle.flu_moments.specs.Clocks.{tick_moment, IsTick, IsSpan, next_tick, first_of, last_of, ticks_between, ticks_among}
use Rattle.flu_moments.specs.TickLaws.{TicksAreWithin, SpansTellTicks}
use Rattle.flu_moments.proofs.ComputedLemmas.{ticks_are_computed}
use Rattle.flu_moments.proofs.TickLemmas.{any_within}

-- ---- the last tick
tick_is_within : (sources ties every clock first last end time : ℕ) (rows : List ℕ) → IsSpan first last rows → end % every ≡ 0
    → last < tick_moment sources ties clock end → IsTick sources ties every clock rows time → time ≤ end
tick_is_within sources ties every clock first last end time rows span multiple behind is =
    elim (cases_lt end time) [
      | inl far ↦ (let row = any_within (λ m. tick_moment sources ties clock end ≤ m) rows (is.none_after_all end multiple far) in
          let within = All-contains (λ m. (first ≤ m) × (m ≤ last)) rows row.0 span.between row.1 in
          let low = within.1 in
          let over = row.2 in
          absurd (omega arith))
      | inr le ↦ le
    ]

pub ticks_are_within : TicksAreWithin
ticks_are_within sources ties every clock first last end rows any at some span multiple behind =
    All-weaker (Contains (ticks_among sources ties every clock rows)) (λ time. time ≤ end)
    (λ time there. tick_is_within sources ties every clock first last end time rows span multiple behind
    (((ticks_are_computed sources ties every clock rows any at some).each time).0 there))
    (ticks_among sources ties every clock rows) (All-contains_itself (ticks_among sources ties every clock rows))

-- ---- the first and the last row
below : (m : ℕ) (ms : List ℕ) (x : ℕ) → Contains (m ∷ ms) x → first_of m ms ≤ x
below m [] x there = let same = contains_one m x there in omega (arith, same)
below m (y ∷ ys) x there =
    elim (contains_cases m x (y ∷ ys) there) [
      | inl same ↦ omega (arith, same)
      | inr later ↦ (let le = below y ys x later in omega (arith, le))
    ]

above : (m : ℕ) (ms : List ℕ) (x : ℕ) → Contains (m ∷ ms) x → x ≤ last_of m ms
above m [] x there = let same = contains_one m x there in omega (arith, same)
above m (y ∷ ys) x there =
    elim (contains_cases m x (y ∷ ys) there) [
      | inl same ↦ omega (arith, same)
      | inr later ↦ (let le = above y ys x later in omega (arith, le))
    ]

from_first : (m : ℕ) (ms : List ℕ) (b : ℕ) → ((x : ℕ) → Contains (m ∷ ms) x → b ≤ x) → b ≤ first_of m ms
from_first m [] b all = all m (contains_here m [])
from_first m (y ∷ ys) b all =
    let one = all m (contains_here m (y ∷ ys)) in
    let rest = from_first y ys b (λ x there. all x (contains_later m x (y ∷ ys) there)) in
    omega (arith, one, rest)

to_last : (m : ℕ) (ms : List ℕ) (b : ℕ) → ((x : ℕ) → Contains (m ∷ ms) x → x ≤ b) → last_of m ms ≤ b
to_last m [] b all = all m (contains_here m [])
to_last m (y ∷ ys) b all =
    let one = all m (contains_here m (y ∷ ys)) in
    let rest = to_last y ys b (λ x there. all x (contains_later m x (y ∷ ys) there)) in
    omega (arith, one, rest)

pub spans_tell_ticks : SpansTellTicks
spans_tell_ticks sources ties every clock first last [] span = absurd (contains_none first span.has_first)
spans_tell_ticks sources ties every clock first last (m ∷ ms) span =
    let within = All-contains (λ x. (first ≤ x) × (x ≤ last)) (m ∷ ms) in
    let low = below m ms first span.has_first in
    let low' = from_first m ms first (λ x there. (within x span.between there).0) in
    let high = above m ms last span.has_last in
    let high' = to_last m ms last (λ x there. (within x span.between there).1) in
    let ordered = (within first span.between span.has_first).1 in
    let firsts : first_of m ms ≡ first_of first (last ∷ []) = omega (arith, low, low', ordered) in
    let lasts : last_of m ms ≡ last_of first (last ∷ []) = omega (arith, high, high', ordered) in
    ap (λ f. ticks_between (next_tick sources ties every clock f) (next_tick sources ties every clock (last_of m ms)) every) firsts
    ∙ ap (λ l. ticks_between (next_tick sources ties every clock (first_of first (last ∷ []))) (next_tick sources ties every clock l) every) lasts
