use Rattle.std.proofs.Common.{◌-◌, ◌+◌, [], vec_len}
use Rattle.flu_outside.specs.Outside.{WhereTold, SameCounts}
use Rattle.flu_outside.specs.Taking.{TakesFrom, KeepsBytes, CountsOf}
use Rattle.flu_outside.proofs.taking.read_whole.Given as goal

abbrev pub invariant-loop-files : goal.invariant-loop-files
invariant-loop-files g l =
    let left = g.F.Files.left in
    let faults = g.F.Files.faults in
    let put_faults = g.F.Files.put_faults in
    record {
      kept : WhereTold (left l.fn.files) (left l.files) (KeepsBytes l.name [] l.bytes.items);
      taken : WhereTold (left l.fn.files) (left l.files) (TakesFrom l.name);
      counts : CountsOf (left l.fn.files) l.name (faults l.fn.files) (faults l.files);
      quiet : SameCounts (faults l.fn.files) (faults l.files);
      puts : SameCounts (put_faults l.fn.files) (put_faults l.files);
    }

abbrev pub decreases-loop-files : goal.decreases-loop-files
decreases-loop-files g l = l.most + 1 - vec_len l.bytes
