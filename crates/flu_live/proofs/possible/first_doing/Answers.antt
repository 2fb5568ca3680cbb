use Rattle.std.proofs.Common.{◌≡◌, length, ap, sym, ◌∙◌, arith}
use Rattle.flu_fork.specs.Lots.{nodes}
use Rattle.flu_live.specs.Possible.{enabled_among}
use Rattle.flu_live.proofs.Chosen.{doing_more, none_left}
use Rattle.flu_live.proofs.possible.first_doing.Goals as goal

pub loop-w-preserved : goal.loop-w-preserved
loop-w-preserved c = (
  c.loop-w.invariant.0,
  doing_more c.args.net.now c.loop-w.w c.loop-w.invariant.1
      (sym (ap (enabled_among c.args.net.now) c.steps_of.ensures) ∙ c.in-None.ensures.none),
)

pub returns-clause-none : goal.returns-clause-none
returns-clause-none c =
    let all : c.loop-w.w ≡ length (nodes c.args.net.now.case) = omega (arith, c.loop-w.invariant.0, ap (λ k. length (nodes k)) c.requires.case) in
    none_left c.args.net.now c.loop-w.w all c.requires.arrivals c.loop-w.invariant.1
