use Rattle.std.proofs.Common.{◌≡◌}
use Rattle.flu_live.proofs.Drawn.{whole_possible}
use Rattle.flu_live.proofs.Turns.{whole_of}
use Rattle.flu_live.proofs.simulating.trace.Goals as goal

pub returns-clause-drawn : goal.returns-clause-drawn
returns-clause-drawn c =
    let run = c.in_ok-run.ensures in
    let kept : c.in-Some.steps.items ≡ run.way.done = rw c.in-Some.is at run.way.kept in
    whole_of c.args.case.now c.in_ok-run.run' c.args.seed c.in-Some.steps.items run.way run.seed kept run.ended run.is_final

pub returns-clause-possible : goal.returns-clause-possible
returns-clause-possible c =
    let run = c.in_ok-run.ensures in
    let kept : c.in-Some.steps.items ≡ run.way.done = rw c.in-Some.is at run.way.kept in
    whole_possible c.args.case.now c.args.seed c.in-Some.steps.items c.in_ok-run.run'.steps c.in_ok-run.run'.mark
    (whole_of c.args.case.now c.in_ok-run.run' c.args.seed c.in-Some.steps.items run.way run.seed kept run.ended run.is_final)
