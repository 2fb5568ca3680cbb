use Rattle.std.proofs.Common.{◌≡◌, false, refl, sym, ◌∙◌, rules}
use Rattle.flu_lemmas.specs.Told.{WhereTold}
use Rattle.flu_lemmas.proofs.Named.{counts_then, no_counts, none_taken, taken_then}
use Rattle.flu_trace.specs.LoopReplaying.{IsReplayedBy}
use Rattle.flu_trace.specs.Replaying.{ending_of}
use Rattle.flu_trace.proofs.Replays.{told_begun, told_complete, told_fault, told_on, told_so_far}
use Rattle.flu_trace.proofs.replaying.replay.Goals as goal

pub lines-init : goal.lines-init
lines-init g c =
    let at = g.F.Files.left c.args.files.now in
    let begun = c.in-Ok.ensures in
    record {
      case = sym begun.start.case;
      gone = begun.start.gone;
      told = told_begun c.args.case.now c.args.name.now c.in-Ok.run' at begun.start begun.held begun.lines;
      taken = none_taken c.args.name.now at;
      counts = no_counts c.args.name.now at (g.F.Files.faults c.args.files.now);
      quiet = λ n. refl;
      puts = λ n. refl;
    }

pub lines-preserved : goal.lines-preserved
lines-preserved g c =
    let left = g.F.Files.left in
    let faults = g.F.Files.faults in
    let name = c.args.name.now in
    let old = c.args.files.now in
    let mid = c.lines.files in
    let new = c.turn.new.files in
    let so_far = c.lines.invariant in
    let turn = c.in-Ok-turn.ensures in
    record {
      case = so_far.case ∙ sym turn.case;
      gone = turn.gone;
      told = told_on c.args.case.now name c.lines.run c.turn.new.self (left old) (left mid) (left new) so_far.told turn.goes;
      taken = taken_then name (left old) (left mid) (left new) so_far.taken c.turn.ensures.taken;
      counts = counts_then name (left old) (left mid) (faults old) (faults mid) (faults new) so_far.taken so_far.counts c.turn.ensures.counts;
      quiet = search rules;
      puts = search rules;
    }

pub returns-in-Err-clause-taken : goal.returns-in-Err-clause-taken
returns-in-Err-clause-taken g c =
    let left = g.F.Files.left in
    taken_then c.args.name.now (left c.args.files.now) (left c.lines.files) (left c.turn.new.files) c.lines.invariant.taken c.turn.ensures.taken

pub returns-in-Err-clause-faults : goal.returns-in-Err-clause-faults
returns-in-Err-clause-faults g c =
    let left = g.F.Files.left in
    told_so_far c.args.case.now c.args.name.now c.lines.run (ending_of c.in-Err.fault) (left c.args.files.now) (left c.lines.files) (left c.turn.new.files)
    c.lines.invariant.told c.in-Err.ensures.faults

pub returns-then-not-more-clause-complete : goal.returns-then-not-more-clause-complete
returns-then-not-more-clause-complete g c =
    let left = g.F.Files.left in
    let name = c.args.name.now in
    let turn = c.in-Ok-turn.ensures in
    let off : c.in-Ok-turn.more ≡ false = search rules in
    let by : WhereTold (left c.args.files.now) (left c.turn.new.files) (IsReplayedBy c.args.case.now name c.turn.new.self) =
    told_on c.args.case.now name c.lines.run c.turn.new.self (left c.args.files.now) (left c.lines.files)
    (left c.turn.new.files) c.lines.invariant.told turn.goes in
    told_complete c.args.case.now name c.turn.new.self c.end.result (left c.args.files.now) (left c.turn.new.files) by (turn.none off) (turn.end off)
    c.end.ensures.complete

pub returns-then-not-more-clause-faults : goal.returns-then-not-more-clause-faults
returns-then-not-more-clause-faults g c =
    let left = g.F.Files.left in
    let name = c.args.name.now in
    let turn = c.in-Ok-turn.ensures in
    let off : c.in-Ok-turn.more ≡ false = search rules in
    let by : WhereTold (left c.args.files.now) (left c.turn.new.files) (IsReplayedBy c.args.case.now name c.turn.new.self) =
    told_on c.args.case.now name c.lines.run c.turn.new.self (left c.args.files.now) (left c.lines.files)
    (left c.turn.new.files) c.lines.invariant.told turn.goes in
    told_fault c.args.case.now name c.turn.new.self c.end.result (left c.args.files.now) (left c.turn.new.files) by (turn.none off) (turn.end off)
    c.end.ensures.fault

pub returns-then-not-more-clause-taken : goal.returns-then-not-more-clause-taken
returns-then-not-more-clause-taken g c =
    let left = g.F.Files.left in
    taken_then c.args.name.now (left c.args.files.now) (left c.lines.files) (left c.turn.new.files) c.lines.invariant.taken c.turn.ensures.taken
