use Rattle.std.specs.Vec.{with_item}
use Rattle.flu_lemmas.proofs.Places.{slice_get-there}
use Rattle.flu_mail.specs.declared.entries.Owner.TheVariants.{Node as OfNode, Ancestor as OfAncestor}
use Rattle.flu_mail.specs.declared.mailbox.Mailbox.{Mailbox}
use Rattle.flu_mail.proofs.KeyLemmas.{both_stay}
use Rattle.flu_mail.proofs.mailbox.Mailbox.put.Goals as goal

pub returns-clause-in_order : goal.returns-clause-in_order
returns-clause-in_order c =
    let m = c.args.self.now in
    let i = c.args.i.0 in
    let found = slice_get-there m.entries.items i c.requires.in_range in
    let n : Mailbox = record {
      node = m.node;
      leaf = m.leaf;
      entries = with_item m.entries i c.args.entry;
      own = c.reorder.new.order;
      above = c.reorder-2.new.order;
    } in
    both_stay m n
    (λ are. c.reorder.ensures m.entries.items found.0 found.1 (c.requires.owner OfNode found.0 found.1) are)
    (λ are. c.reorder-2.ensures m.entries.items found.0 found.1 (c.requires.owner OfAncestor found.0 found.1) are)
