-- The moments of rows, and the law that they are those of the laws of moments and have the rows' times.
use Rattle.std.specs.Prelude.{◌≡◌, ◌≢◌, ℕ, ◌<◌, length}
use Rattle.flu_model.specs.declared.jobs.Program.{Program}
use Rattle.flu_model.specs.Moments.{time_of_moment, timing_of, moment_at}
use Rattle.flu_moments.specs.Moments.{moment}

-- LAW OF THE MOMENTS OF ROWS, for each source and each row of it by its time and by how many rows before it the source has at this time
pub record RowsHaveTheirMoments : Type 0 where
  -- in version 3 the moment of a row is the one of flu_moments, whose laws say that it orders rows by time, by source and by place
  pub numbered : (p : Program) (i t n : ℕ) → p.version ≡ 3 → i < length p.sources → n < p.ties
      → moment_at (timing_of p i) t n ≡ moment (length p.sources) p.ties t i n
  -- before version 3 it is the row's time
  pub older : (p : Program) (i t n : ℕ) → p.version ≢ 3 → moment_at (timing_of p i) t n ≡ t
  -- and in each version its time is the row's
  pub time : (p : Program) (i t n : ℕ) → i < length p.sources → time_of_moment p (moment_at (timing_of p i) t n) ≡ t
