-- Sources whose defects are mended.
use Rattle.std.specs.Prelude.{◌≡◌, ℕ, List, ◌++◌, Option, None}
use Rattle.flu_lemmas.specs.Elements.{AtEach}
use Rattle.flu_outside.specs.Outside.{Contents}
use Rattle.flu_model.specs.declared.jobs.Kind.{Kind}
use Rattle.flu_model.specs.declared.jobs.Source.{Source}
use Rattle.flu_model.specs.declared.jobs.Program.{Program}
use Rattle.flu_model.specs.declared.moments.Timing.{Timing}
use Rattle.flu_model.specs.Moments.{timing_of}
use Rattle.flu_model.specs.Contents.{Contents as State}
use Rattle.flu_rows.specs.declared.rows.Next.{Next}
use Rattle.flu_streams.specs.declared.border.Border.{Border}
use Rattle.flu_streams.specs.Rounds.{defect_in}
use Rattle.flu_rounds.specs.Written.{AreSound, RanFrom, WouldWriteFrom, lines_in}

-- THE LINES OF A SOURCE ARE MENDED: those before its first defect stay, whatever comes after them; and if it has none, all stay
pub record IsMended (timing : Timing) (kinds : List Kind) (s : Source) (whole mended : List Next) : Type 0 where
  pub fronts : (front rest : List Next) → whole ≡ front ++ rest → defect_in timing kinds s front ≡ None → (others : List Next) × (mended ≡ front ++ others)
  pub good : defect_in timing kinds s whole ≡ None → mended ≡ whole

-- THE SOURCES OF A JOB ARE MENDED: the lines of each are, and now none has a defect
pub record AreMended (p : Program) (left mended : Contents) : Type 0 where
  pub each : AtEach (λ i s. IsMended (timing_of p i) p.kinds s (lines_in p left i) (lines_in p mended i)) p.sources
  pub sound : AreSound p (lines_in p mended)

-- LAW OF MENDED SOURCES: the rounds that ran over sources ran over the mended ones too, with the same text; and so is it with a round more
-- after them
abbrev pub MendedRoundsGoOn : Type 0
MendedRoundsGoOn =
    (p : Program) (rows : ℕ) (whole mended : ℕ → List Next) → AtEach (λ i s. IsMended (timing_of p i) p.kinds s (whole i) (mended i)) p.sources
    → (border : Option ℕ) (opening : State) (above : Option ℕ) (text : List ℕ) → (ran : RanFrom p rows border opening whole above text)
    → (its : RanFrom p rows border opening mended above text)
    × ((now : ℕ → List Next) (end : Border) (more : List ℕ) → WouldWriteFrom p rows border opening whole above ran.before now end more
    → WouldWriteFrom p rows border opening mended above its.before now end more)
