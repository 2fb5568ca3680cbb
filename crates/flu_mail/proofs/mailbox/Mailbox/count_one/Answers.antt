use Rattle.std.proofs.Common.{◌≡◌, ◌+◌, [], length, ap, ◌∙◌, arith}
use Rattle.std.specs.Prelude.{slice_index, slice_index_or}
use Rattle.std.proofs.Math.ListN.{set}
use Rattle.flu_lemmas.proofs.Places.{slice_index-map}
use Rattle.flu_model.specs.Listed.{listed}
use Rattle.flu_mail.specs.declared.entries.Entry.{Entry}
use Rattle.flu_mail.specs.Mailboxes.{counts_of}
use Rattle.flu_mail.proofs.PlaceLemmas.{events_fit}
use Rattle.flu_mail.proofs.MailboxLemmas.{entry_read, few_items}
use Rattle.flu_mail.proofs.mailbox.Mailbox.count_one.Goals as goal

pub overflow_add-n : goal.overflow_add-n
overflow_add-n c =
    let m = c.args.self.now in
    let i = c.args.i.0 in
    let e = c.index.result.now in
    let items = slice_index_or (listed c.args.s.now) i [] in
    let there = entry_read m (length (listed c.args.s.now)) i e c.requires.over.one_each c.requires.in_range c.index.ensures in
    let count : slice_index (counts_of m) i ≡ e.count = slice_index-map (λ (x : Entry). x.count) m.entries.items i e there in
    let less = c.requires.there in
    let few = few_items c.args.s.now.lists.items i in
    let fit = events_fit items in
    omega arith

pub set_count-requires : goal.set_count-requires
set_count-requires c =
    let m = c.args.self.now in
    let i = c.args.i.0 in
    let e = c.index.result.now in
    let there = entry_read m (length (listed c.args.s.now)) i e c.requires.over.one_each c.requires.in_range c.index.ensures in
    let count : slice_index (counts_of m) i ≡ e.count = slice_index-map (λ (x : Entry). x.count) m.entries.items i e there in
    let less = c.requires.there in
    record { over = c.requires.over; in_range = c.requires.in_range; forward = omega arith; there = omega arith }

pub returns : goal.returns
returns c =
    let m = c.args.self.now in
    let i = c.args.i.0 in
    let e = c.index.result.now in
    let there = entry_read m (length (listed c.args.s.now)) i e c.requires.over.one_each c.requires.in_range c.index.ensures in
    let count : slice_index (counts_of m) i ≡ e.count = slice_index-map (λ (x : Entry). x.count) m.entries.items i e there in
    let one : e.count + 1 ≡ slice_index (counts_of m) i + 1 = omega arith in
    record {
      counts = c.set_count.ensures.counts ∙ ap (set (counts_of m) i) one;
      seen = c.set_count.ensures.seen;
      node = c.set_count.ensures.node;
      at = c.set_count.ensures.at;
      over = c.set_count.ensures.over;
    }
