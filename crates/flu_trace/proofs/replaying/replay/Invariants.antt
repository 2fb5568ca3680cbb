use Rattle.std.proofs.Common.{◌≡◌, false}
use Rattle.flu_outside.specs.Outside.{WhereTold, SameCounts}
use Rattle.flu_outside.specs.Taking.{TakesFrom, CountsOf}
use Rattle.flu_net.specs.Measure.{steps_left}
use Rattle.flu_trace.specs.LoopReplaying.{IsReplayedBy}
use Rattle.flu_trace.proofs.replaying.replay.Given as goal

abbrev pub invariant-lines : goal.invariant-lines
invariant-lines g l =
    let left = g.F.Files.left in
    let faults = g.F.Files.faults in
    let puts = g.F.Files.put_faults in
    record {
      case : l.case ≡ l.run.net.case;
      gone : l.run.net.gone ≡ false;
      told : WhereTold (left l.fn.files) (left l.files) (IsReplayedBy l.case l.name l.run);
      taken : WhereTold (left l.fn.files) (left l.files) (TakesFrom l.name);
      counts : CountsOf (left l.fn.files) l.name (faults l.fn.files) (faults l.files);
      quiet : SameCounts (faults l.fn.files) (faults l.files);
      puts : SameCounts (puts l.fn.files) (puts l.files);
    }

abbrev pub decreases-lines : goal.decreases-lines
decreases-lines g l = steps_left l.run.net
