use Rattle.std.proofs.Common.{◌↔◌, ℕ, ◌+◌, ◌<◌, ◌≤◌, sym, subst, arith}
use Rattle.flu_moments.specs.Clocks.{tick_moment}
use Rattle.flu_moments.proofs.NextLemmas.{from_its_time, from_next_time}
use Rattle.flu_moments.proofs.moments.Moments.first_time.Goals as goal

pub returns-then-moment-time : goal.returns-then-moment-time
returns-then-moment-time c =
    let m = c.args.self in
    let A : ℕ → Type 0 = λ t. c.args.moment < tick_moment m.sources m.ties c.args.clock t
    → (time : ℕ) → (c.args.moment < tick_moment m.sources m.ties c.args.clock time) ↔ (t ≤ time) in
    subst A (sym c.time_of-time.ensures) (from_its_time m.sources m.ties c.args.clock c.args.moment m.has_a_place c.requires.clock)
    (let above = c.if-moment-time.true in omega arith)

pub returns-else-moment-time : goal.returns-else-moment-time
returns-else-moment-time c =
    let m = c.args.self in
    let B : ℕ → Type 0 = λ t. tick_moment m.sources m.ties c.args.clock t ≤ c.args.moment
    → (time : ℕ) → (c.args.moment < tick_moment m.sources m.ties c.args.clock time) ↔ (t + 1 ≤ time) in
    subst B (sym c.time_of-time.ensures) (from_next_time m.sources m.ties c.args.clock c.args.moment m.has_a_place c.requires.clock)
    (let under = c.if-moment-time.false in omega arith)
