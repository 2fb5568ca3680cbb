use Rattle.std.proofs.Common.{length, map, refl, ap, ◌∙◌}
use Rattle.std.proofs.lemmas.List.{map-set}
use Rattle.flu_lemmas.proofs.Places.{map-set_alike}
use Rattle.flu_mail.specs.declared.entries.Entry.{Entry}
use Rattle.flu_mail.specs.Mailboxes.{seen_of}
use Rattle.flu_mail.proofs.MailboxLemmas.{Changes, entry_read, entry_is, at_kept, over_kept, owner_kept, set_to_same}
use Rattle.flu_mail.proofs.mailbox.Mailbox.see.Goals as goal

pub returns-then-entry-count : goal.returns-then-entry-count
returns-then-entry-count c =
    let m = c.args.self.now in
    let e = c.index-entry.result.now in
    let there = entry_read m (length (seen_of m)) c.args.i.0 e refl c.requires.in_range c.index-entry.ensures in
    record {
      seen = set_to_same (λ (x : Entry). x.seen) m c.args.i.0 c.args.count e there c.if-entry-count.true;
      counts = refl;
      node = refl;
      at = λ p nodes at. at;
      over = λ lists within over. over;
    }

pub put-requires-clause-owner : goal.put-requires-clause-owner
put-requires-clause-owner c =
    let m = c.args.self.now in
    let e = c.index-entry.result.now in
    let there = entry_read m (length (seen_of m)) c.args.i.0 e refl c.requires.in_range c.index-entry.ensures in
    λ o x is.
    let same = entry_is m c.args.i.0 e x there is in
    owner_kept o (record e { seen = c.args.count }) x (ap (λ (z : Entry). z.own) same) (ap (λ (z : Entry). z.above) same)

pub returns : goal.returns
returns c =
    let m = c.args.self.now in
    let i = c.args.i.0 in
    let e = c.index-entry.result.now in
    let there = entry_read m (length (seen_of m)) i e refl c.requires.in_range c.index-entry.ensures in
    let v : Entry = record e { seen = c.args.count } in
    let change : Changes m c.put.new.self i e v = record {
      node = c.put.ensures.node;
      leaf = c.put.ensures.leaf;
      items = c.put.ensures.entries;
      there = there;
      owner = λ o. owner_kept o v e refl refl;
      in_order = c.put.ensures.in_order;
    } in
    record {
      seen = ap (map (λ (x : Entry). x.seen)) change.items ∙ map-set (λ (x : Entry). x.seen) m.entries.items i v;
      counts = ap (map (λ (x : Entry). x.count)) change.items ∙ map-set_alike (λ (x : Entry). x.count) m.entries.items i e v there refl;
      node = change.node;
      at = λ p nodes at. at_kept p nodes m c.put.new.self i e v change at;
      over = λ lists within over.
          let old = over.over_items i e there in
          over_kept lists m c.put.new.self i e v change (record {
            all = old.all;
            seen = within;
            count = old.count;
            place = old.place;
            time = old.time;
          }) over;
    }
