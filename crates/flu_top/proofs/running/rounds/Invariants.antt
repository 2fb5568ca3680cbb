use Rattle.std.specs.Prelude.{option_map}
use Rattle.flu_outside.specs.Outside.{SameCounts}
use Rattle.flu_deps.specs.Checking.{program_of}
use Rattle.flu_top.specs.Ending.{call}
use Rattle.flu_top.specs.Running.{GoesOn, borders_above, plain_opening}
use Rattle.flu_top.proofs.running.rounds.Given as goal

abbrev pub invariant-loop-said : goal.invariant-loop-said
invariant-loop-said g l =
    record {
      goes : GoesOn l.fn.adapts (program_of l.fn.checked) l.engine (plain_opening l.fn.opening) (option_map (λ name. name.now) l.fn.save)
          (call (g.F.Files.left l.fn.files) (g.F.Files.left l.files) (g.F.Files.faults l.fn.files) (g.F.Files.faults l.files)
          (g.F.Files.put_faults l.fn.files) (g.F.Files.put_faults l.files)
          (g.K.Sink.taken l.fn.out) (g.K.Sink.taken l.out) (g.K.Sink.faults l.fn.out) (g.K.Sink.faults l.out))
          l.rounds;
      quiet : SameCounts (g.F.Files.faults l.fn.files) (g.F.Files.faults l.files);
    }

abbrev pub decreases-loop-said : goal.decreases-loop-said
decreases-loop-said g l = borders_above l.rounds.held.border
