use Rattle.std.proofs.Common.{Some, sym, ap, ◌∙◌}
use Rattle.flu_net.specs.Effects.{seeing}
use Rattle.flu_net.specs.Showing.{MaySee}
use Rattle.flu_net.proofs.Shown.{less, shown_at, shown_more}
use Rattle.flu_net.proofs.showing.show.Goals as goal

may : (c : goal.After-index_mut) → MaySee c.args.case.now c.args.i.0 c.args.count c.index_mut.result.now
may c =
    c.requires c.loop-w.w c.index_mut.result.now
    (shown_at (seeing c.args.i.0 c.args.count) c.args.workers.now.items c.loop-w.workers.items c.loop-w.w c.index_mut.result.now c.loop-w.invariant.1
    (less (seeing c.args.i.0 c.args.count) c.args.workers.now.items c.loop-w.w _ c.loop-w-test.true c.loop-w.invariant.0)
    ∙ ap Some (sym c.index_mut.ensures.value))

pub see-requires-clause-case : goal.see-requires-clause-case
see-requires-clause-case c = (may c).case

pub see-requires-clause-in_range : goal.see-requires-clause-in_range
see-requires-clause-in_range c = (may c).in_range

pub see-requires-clause-forward : goal.see-requires-clause-forward
see-requires-clause-forward c = (may c).forward

pub see-requires-clause-there : goal.see-requires-clause-there
see-requires-clause-there c = (may c).there

pub loop-w-preserved : goal.loop-w-preserved
loop-w-preserved c = (
  c.loop-w.invariant.0,
  shown_more (seeing c.args.i.0 c.args.count) c.args.workers.now.items c.loop-w.workers.items c.loop-w.w c.index_mut.result.now c.loop-w.invariant.1
      (less (seeing c.args.i.0 c.args.count) c.args.workers.now.items c.loop-w.w _ c.loop-w-test.true c.loop-w.invariant.0) c.see.new.self
      (c.see.ensures ∙ ap (seeing c.args.i.0 c.args.count) c.index_mut.ensures.value),
)
