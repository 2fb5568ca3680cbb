use Rattle.std.specs.Prelude.{◌≡◌}
use Rattle.flu_outside.specs.Outside.{SameCounts}
use Rattle.flu_deps.specs.Checking.{program_of}
use Rattle.flu_top.specs.Ending.{call}
use Rattle.flu_top.specs.ReadingAhead.{HasBegun, rounds_left}
use Rattle.flu_top.specs.Running.{plain_opening}
use Rattle.flu_top.proofs.ahead.rounds_ahead.Given as goal

abbrev pub invariant-loop-begun : goal.invariant-loop-begun
invariant-loop-begun g l =
    record {
      has : HasBegun l.fn.adapts (program_of l.fn.checked) l.engine (plain_opening l.fn.opening)
          (call (g.F.Files.left l.fn.files) (g.F.Files.left l.files) (g.F.Files.faults l.fn.files) (g.F.Files.faults l.files)
          (g.F.Files.put_faults l.fn.files) (g.F.Files.put_faults l.files)
          (g.K.Sink.taken l.fn.out) (g.K.Sink.taken l.out) (g.K.Sink.faults l.fn.out) (g.K.Sink.faults l.out))
          l.rounds l.begun;
      quiet : SameCounts (g.F.Files.faults l.fn.files) (g.F.Files.faults l.files);
      puts : SameCounts (g.F.Files.put_faults l.fn.files) (g.F.Files.put_faults l.files);
      written_quiet : g.K.Sink.faults l.out ≡ g.K.Sink.faults l.fn.out;
    }

abbrev pub decreases-loop-begun : goal.decreases-loop-begun
decreases-loop-begun g l = rounds_left l.begun.border
