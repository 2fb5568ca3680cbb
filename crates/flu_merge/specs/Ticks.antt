-- The law that a round has read enough of the sources to tell the ticks of a clock.
use Rattle.std.specs.Prelude.{◌≡◌, ℕ, ◌<◌, nat_le, Option, None, List, length}
use Rattle.std.specs.List.{filter}
use Rattle.flu_lemmas.specs.Elements.{AtEach}
use Rattle.flu_model.specs.declared.jobs.Program.{Program}
use Rattle.flu_model.specs.Moments.{timing_of}
use Rattle.flu_moments.specs.Clocks.{ticks_among}
use Rattle.flu_rows.specs.declared.rows.Next.{Next}
use Rattle.flu_streams.specs.Rounds.{IsRoundAt, defect_in, ranks}

-- LAW OF TICKS IN ROUNDS: where no source has a defect, what a round has read of the sources tells the ticks up to its border, of a clock with any period
-- and any place among the sources
abbrev pub RoundsTellTicks : Type 0
RoundsTellTicks =
    (p : Program) (every number rows : ℕ) (above : Option ℕ) (whole before now : ℕ → List Next) (t : ℕ) → p.version ≡ 3 → 0 < every → number < length p.sources
    → AtEach (λ i s. defect_in (timing_of p i) p.kinds s (whole i) ≡ None) p.sources → IsRoundAt p rows above whole before now t
    → filter (λ time. nat_le time t) (ticks_among (length p.sources) 1 every number (ranks p whole))
    ≡ filter (λ time. nat_le time t) (ticks_among (length p.sources) 1 every number (ranks p now))
