use Rattle.flu_moments.proofs.MomentLemmas.{borders_part_times, allowed_times_fit, one_row_at_a_time}
use Rattle.flu_moments.proofs.laws.borders_part_times.Goals as goal

pub returns-clause-borders : goal.returns-clause-borders
returns-clause-borders c = borders_part_times

pub returns-clause-allowed : goal.returns-clause-allowed
returns-clause-allowed c = allowed_times_fit

pub returns-clause-one : goal.returns-clause-one
returns-clause-one c = one_row_at_a_time
