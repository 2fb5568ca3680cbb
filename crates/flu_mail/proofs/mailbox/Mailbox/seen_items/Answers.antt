use Rattle.std.proofs.Common.{length, ap, arith}
use Rattle.flu_lemmas.proofs.Places.{slice_index-map}
use Rattle.flu_model.specs.Listed.{listed}
use Rattle.flu_mail.specs.declared.entries.Entry.{Entry}
use Rattle.flu_mail.proofs.MailboxLemmas.{entry_read}
use Rattle.flu_mail.proofs.mailbox.Mailbox.seen_items.Goals as goal

pub first_items-requires : goal.first_items-requires
first_items-requires c =
    let there =
    entry_read c.args.self.now (length (listed c.args.s.now)) c.args.i.0 c.index.result.now c.requires.over.one_each c.requires.in_range c.index.ensures in
    let within = (c.requires.over.over_items c.args.i.0 c.index.result.now there).seen in
    let same = ap length c.items.ensures in
    omega arith

pub returns : goal.returns
returns c =
    let there =
    entry_read c.args.self.now (length (listed c.args.s.now)) c.args.i.0 c.index.result.now c.requires.over.one_each c.requires.in_range c.index.ensures in
    let seen = slice_index-map (λ (e : Entry). e.seen) c.args.self.now.entries.items c.args.i.0 c.index.result.now there in
    cc
