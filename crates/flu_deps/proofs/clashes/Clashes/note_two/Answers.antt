use Rattle.std.proofs.Common.{refl}
use Rattle.flu_lemmas.proofs.Tests.{not_both}
use Rattle.flu_deps.specs.LoopClashes.{Noted, Apart}
use Rattle.flu_deps.proofs.ClashTables.{clashes_kept}
use Rattle.flu_deps.proofs.clashes.Clashes.note_two.Goals as goal

pub returns-then-not-meet : goal.returns-then-not-meet
returns-then-not-meet c = record {
  done = Apart (record {
    ours = c.args.visit.now.marks.any;
    theirs = c.args.theirs;
    here = record { marks = c.args.visit.now.marks; marked = c.requires.marked; any = refl };
    there = c.requires.theirs;
    none = λ family ours theirs. not_both c.meet.result (c.meet.ensures family ours theirs) c.if-not-meet.true;
  });
  kept = clashes_kept c.args.self.now;
  version = refl;
  marks = refl;
}

pub returns-clause-done : goal.returns-clause-done
returns-clause-done c = Noted c.note_pair.ensures.done
