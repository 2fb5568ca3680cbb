use Rattle.std.proofs.Common.{◌≤◌, [], length, sym, subst}
use Rattle.std.specs.Prelude.{slice_index_or}
use Rattle.flu_model.specs.Listed.{listed}
use Rattle.flu_worker.specs.Notes.{WorkerNote}
use Rattle.flu_worker.proofs.Steps.{see_rule}
use Rattle.flu_worker.proofs.worker.Worker.see.Goals as goal

pub invariant_of-self : goal.invariant_of-self
invariant_of-self c =
    see_rule _ c.self.inside.mail c.see.new.self c.self.inside.holding c.self.invariant c.see.ensures.counts c.see.ensures.node c.see.ensures.at
    (c.see.ensures.over _ (subst (λ (x : WorkerNote). c.args.count ≤ length (slice_index_or (listed x.case.streams) c.args.i.0 []))
    (sym c.self.view_is) c.requires.there) c.self.invariant.mailed.over)
