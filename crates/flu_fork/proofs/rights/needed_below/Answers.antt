use Rattle.std.specs.Prelude.{◌&&◌}
use Rattle.flu_lemmas.proofs.Listed.{test_turn}
use Rattle.flu_deps.specs.Validated.{plan_of}
use Rattle.flu_laws.specs.Uses.{needs}
use Rattle.flu_fork.specs.Classes.{below, mode_by}
use Rattle.flu_fork.proofs.rights.needed_below.Goals as goal

pub loop-i-preserved : goal.loop-i-preserved
loop-i-preserved c =
    let p = c.args.p.now in
    let inside = below p (plan_of c.args.v.now).nodes c.args.w in
    λ d. test_turn (λ j. inside j && needs (mode_by p j d)) c.loop-i.i _ _ (c.in_ok-add_needed_below.ensures d) (c.loop-i.invariant d)
