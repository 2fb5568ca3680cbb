use Rattle.flu_run.proofs.Rooted.{the_state, the_sorts, the_outputs}
use Rattle.flu_run.proofs.root.taken.Goals as goal

pub returns-clause-state : goal.returns-clause-state
returns-clause-state g c = the_state c.laws_below.ensures (g.H.HasCase.content c.args.holder.now) c.args.done.lot c.args.done.outs c.requires

pub returns-clause-sorts : goal.returns-clause-sorts
returns-clause-sorts g c = the_sorts c.laws_below.ensures (g.H.HasCase.content c.args.holder.now) c.args.done.lot c.args.done.outs c.requires

pub returns-clause-outputs : goal.returns-clause-outputs
returns-clause-outputs g c = the_outputs c.laws_below.ensures (g.H.HasCase.content c.args.holder.now) c.args.done.lot c.args.done.outs c.requires
