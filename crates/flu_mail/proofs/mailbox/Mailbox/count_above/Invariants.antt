use Rattle.std.proofs.Common.{◌≡◌, List, take}
use Rattle.flu_model.specs.declared.jobs.Program.{Program}
use Rattle.flu_model.specs.declared.plans.Node.{Node}
use Rattle.flu_model.specs.Listed.{listed}
use Rattle.flu_mail.specs.Mailboxes.{node_of, seen_of, counts_of, IsAt, IsOver}
use Rattle.flu_mail.proofs.CountLemmas.{IsSetTo}
use Rattle.flu_mail.proofs.mailbox.Mailbox.count_above.Given as goal

abbrev pub invariant-loop-i : goal.invariant-loop-i
invariant-loop-i l = record {
  over : IsOver (listed l.s) l.self;
  at : (p : Program) (nodes : List Node) → IsAt p nodes l.initial.self → IsAt p nodes l.self;
  seen : seen_of l.self ≡ seen_of l.initial.self;
  node : node_of l.self ≡ node_of l.initial.self;
  counts : IsSetTo (take l.i-index l.above) l.counts (counts_of l.initial.self) (counts_of l.self);
}
