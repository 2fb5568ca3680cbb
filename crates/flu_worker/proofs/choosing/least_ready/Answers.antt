use Rattle.std.proofs.Common.{sym, ◌∙◌}
use Rattle.flu_worker.specs.Choosing.{sight_at, own_itags, next_at}
use Rattle.flu_worker.proofs.EarliestLemmas.{none_is_ready, first_is_ready}
use Rattle.flu_worker.proofs.choosing.least_ready.Goals as goal

pub returns-then-takes : goal.returns-then-takes
returns-then-takes c =
    let s = sight_at c.args.case.now c.args.node c.args.mail.now in
    first_is_ready s (next_at s) (own_itags c.args.case.now c.args.node) c.in-Some.x (sym c.least_next.ensures ∙ c.in-Some.is)
    (sym c.takes.ensures ∙ c.if-takes.true)

pub returns-in-None : goal.returns-in-None
returns-in-None c =
    let s = sight_at c.args.case.now c.args.node c.args.mail.now in
    none_is_ready s (next_at s) (own_itags c.args.case.now c.args.node) (sym c.least_next.ensures ∙ c.in-None.is)
