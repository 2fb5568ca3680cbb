use Rattle.std.proofs.Common.{sym, ◌∙◌}
use Rattle.flu_worker.specs.Choosing.{sight_at}
use Rattle.flu_worker.proofs.Dues.{due_known, next_found, none_found}
use Rattle.flu_worker.proofs.choosing.search_next.Goals as goal

pub next_at-requires-clause-known : goal.next_at-requires-clause-known
next_at-requires-clause-known c =
    due_known c.laws_below.ensures (sight_at c.args.case.now c.args.node c.args.mail.now) c.in-Some.due (sym c.first_due.ensures ∙ c.in-Some.is)

pub returns-in-Some : goal.returns-in-Some
returns-in-Some c =
    c.next_at.ensures
    ∙ next_found c.laws_below.ensures (sight_at c.args.case.now c.args.node c.args.mail.now) c.in-Some.due (sym c.first_due.ensures ∙ c.in-Some.is)

pub returns-in-None : goal.returns-in-None
returns-in-None c = none_found (sight_at c.args.case.now c.args.node c.args.mail.now) (sym c.first_due.ensures ∙ c.in-None.is)
