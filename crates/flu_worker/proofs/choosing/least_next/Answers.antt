use Rattle.std.proofs.Common.{ℕ, subst}
use Rattle.flu_model.specs.declared.streams.Streams.{Streams}
use Rattle.flu_model.specs.Listed.{listed}
use Rattle.flu_fork.specs.Lots.{job, nodes}
use Rattle.flu_mail.specs.First.{IsFirstOwn}
use Rattle.flu_mail.specs.Mailboxes.{node_of, seen_of, counts_of}
use Rattle.flu_worker.specs.Choosing.{sight_at}
use Rattle.flu_worker.proofs.Firsts.{first_is_least}
use Rattle.flu_worker.proofs.choosing.least_next.Goals as goal

pub returns-in-Some : goal.returns-in-Some
returns-in-Some c =
    let k = c.args.case.now in
    let m = c.args.mail.now in
    let x = c.in-Some.x in
    first_is_least c.laws_below.ensures (sight_at k c.args.node m) x
    (subst (λ (w : ℕ). IsFirstOwn (job k) (nodes k) (listed k.streams) w (seen_of m) (counts_of m) x) c.requires.mail.node
    (subst (λ (s : Streams). IsFirstOwn (job k) (nodes k) (listed s) (node_of m) (seen_of m) (counts_of m) x) c.streams.ensures
    (c.in-Some.ensures.some (job k) (nodes k) c.requires.mail.at_node)))
