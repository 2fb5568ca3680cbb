use Rattle.flu_moments.proofs.NearLemmas.{ticks_are_within, spans_tell_ticks}
use Rattle.flu_moments.proofs.ComputedLemmas.{ticks_are_computed}
use Rattle.flu_moments.proofs.FollowLemmas.{some_ticks, ticks_follow}
use Rattle.flu_moments.proofs.NextLemmas.{next_tick_exists}
use Rattle.flu_moments.proofs.TickLemmas.{only_next_tick, only_ticks}
use Rattle.flu_moments.proofs.laws.ticks_follow_rows.Goals as goal

pub returns-clause-determined : goal.returns-clause-determined
returns-clause-determined c = record {
  next = only_next_tick;
  some_next = next_tick_exists;
  ticks = only_ticks;
  some_ticks = λ sources ties every clock rows any at some. some_ticks sources ties every clock any at some rows;
}

pub returns-clause-follow : goal.returns-clause-follow
returns-clause-follow c = λ sources ties every clock rows ticks any at some. ticks_follow sources ties every clock any at some rows ticks

pub returns-clause-computed : goal.returns-clause-computed
returns-clause-computed c = ticks_are_computed

pub returns-clause-within : goal.returns-clause-within
returns-clause-within c = ticks_are_within

pub returns-clause-spans : goal.returns-clause-spans
returns-clause-spans c = spans_tell_ticks
