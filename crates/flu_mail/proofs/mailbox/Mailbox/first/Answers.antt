use Rattle.std.proofs.Common.{◌≡◌, Option, sym, subst, ◌∙◌}
use Rattle.std.specs.Prelude.{IfSome}
use Rattle.flu_model.specs.declared.events.Event.{Event}
use Rattle.flu_model.specs.Listed.{listed}
use Rattle.flu_mail.specs.First.{IsFirstOwn}
use Rattle.flu_mail.specs.Mailboxes.{seen_of, counts_of}
use Rattle.flu_mail.specs.Orders.{IsLeastOf}
use Rattle.flu_mail.proofs.KeyLemmas.{first_in_range, first_there, is_first, none_is_known, none_is_next, one_may_come}
use Rattle.flu_mail.proofs.MailboxLemmas.{if_some}
use Rattle.flu_mail.proofs.mailbox.Mailbox.first.Goals as goal

pub next-requires-clause-in_range : goal.next-requires-clause-in_range
next-requires-clause-in_range c =
    let m = c.args.self.now in
    first_in_range (listed c.args.s.now) m c.in-Some-Next.field-0-0 c.in-Some-Next.itag c.requires.over
    (subst (IsLeastOf m.own) c.in-Some-Next.field-0-is c.in-Some-Next.ensures.some)

pub returns-in-Some-Next-clause-some : goal.returns-in-Some-Next-clause-some
returns-in-Some-Next-clause-some c = λ p nodes at.
    let m = c.args.self.now in
    let i = c.in-Some-Next.itag in
    let lists = listed c.args.s.now in
    if_some c.next.result (IsFirstOwn p nodes lists m.node (seen_of m) (counts_of m))
    (λ x is.
    is_first p nodes lists m c.in-Some-Next.field-0-0 i x c.args.s.now.good at c.requires.over
    (subst (IsLeastOf m.own) c.in-Some-Next.field-0-is c.in-Some-Next.ensures.some)
    (sym c.next.ensures.event ∙ is)
    (subst (λ (o : Option Event). IfSome o (λ y. y.itag ≡ i)) is c.next.ensures.itag))

pub returns-in-Some-Next-clause-none : goal.returns-in-Some-Next-clause-none
returns-in-Some-Next-clause-none c = λ p nodes at.
    let m = c.args.self.now in
    first_there p nodes (listed c.args.s.now) m c.in-Some-Next.field-0-0 c.in-Some-Next.itag c.next.result c.args.s.now.good c.requires.over
    (subst (IsLeastOf m.own) c.in-Some-Next.field-0-is c.in-Some-Next.ensures.some) c.next.ensures.event

pub returns-in-Some-Unseen-clause-none : goal.returns-in-Some-Unseen-clause-none
returns-in-Some-Unseen-clause-none c = λ p nodes at.
    let m = c.args.self.now in
    one_may_come p nodes (listed c.args.s.now) m at c.requires.over
    (subst (IsLeastOf m.own) c.in-Some-Unseen.field-0-is c.in-Some-Unseen.ensures.some)

pub returns-in-Some-Over-clause-none : goal.returns-in-Some-Over-clause-none
returns-in-Some-Over-clause-none c = λ p nodes at.
    let m = c.args.self.now in
    none_is_next p nodes (listed c.args.s.now) m c.args.s.now.good at c.requires.over
    (subst (IsLeastOf m.own) c.in-Some-Over.field-0-is c.in-Some-Over.ensures.some)

pub returns-in-None-clause-none : goal.returns-in-None-clause-none
returns-in-None-clause-none c = λ p nodes at. none_is_known p nodes (listed c.args.s.now) c.args.self.now at c.requires.over c.in-None.ensures.none
