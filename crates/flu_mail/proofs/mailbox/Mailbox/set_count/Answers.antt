use Rattle.std.proofs.Common.{length, map, refl, ap, ◌∙◌}
use Rattle.std.specs.Prelude.{[], slice_get, slice_index_or}
use Rattle.std.proofs.lemmas.List.{map-set}
use Rattle.flu_lemmas.proofs.Places.{map-set_alike}
use Rattle.flu_model.specs.Listed.{listed}
use Rattle.flu_mail.specs.declared.entries.Entry.{Entry}
use Rattle.flu_mail.specs.Places.{place_of, event_in, time_in}
use Rattle.flu_mail.proofs.MailboxLemmas.{Changes, entry_read, entry_is, at_kept, over_kept, owner_kept, set_to_same}
use Rattle.flu_mail.proofs.PlaceLemmas.{pending_at_place}
use Rattle.flu_mail.proofs.mailbox.Mailbox.set_count.Goals as goal

pub returns-then-entry-n : goal.returns-then-entry-n
returns-then-entry-n c =
    let m = c.args.self.now in
    let e = c.index-entry.result.now in
    let there = entry_read m (length (listed c.args.s.now)) c.args.i.0 e c.requires.over.one_each c.requires.in_range c.index-entry.ensures in
    record {
      counts = set_to_same (λ (x : Entry). x.count) m c.args.i.0 c.args.n e there c.if-entry-n.true;
      seen = refl;
      node = refl;
      at = λ p nodes at. at;
      over = c.requires.over;
    }

pub put-requires-clause-owner : goal.put-requires-clause-owner
put-requires-clause-owner c =
    let m = c.args.self.now in
    let e = c.index-entry.result.now in
    let there = entry_read m (length (listed c.args.s.now)) c.args.i.0 e c.requires.over.one_each c.requires.in_range c.index-entry.ensures in
    λ o x is.
    let same = entry_is m c.args.i.0 e x there is in
    owner_kept o (record e { count = c.args.n; place = c.place_after-place.result; time = c.time_at-time.result }) x
    (ap (λ (z : Entry). z.own) same) (ap (λ (z : Entry). z.above) same)

pub returns : goal.returns
returns c =
    let m = c.args.self.now in
    let lists = listed c.args.s.now in
    let i = c.args.i.0 in
    let items = slice_index_or lists i [] in
    let e = c.index-entry.result.now in
    let there = entry_read m (length lists) i e c.requires.over.one_each c.requires.in_range c.index-entry.ensures in
    let v : Entry = record e { count = c.args.n; place = c.place_after-place.result; time = c.time_at-time.result } in
    let old = c.requires.over.over_items i e there in
    let place = c.place_after-place.ensures ∙ ap (λ is. place_of is c.args.n) c.items-items.ensures in
    let change : Changes m c.put.new.self i e v = record {
      node = c.put.ensures.node;
      leaf = c.put.ensures.leaf;
      items = c.put.ensures.entries;
      there = there;
      owner = λ o. owner_kept o v e refl refl;
      in_order = c.put.ensures.in_order;
    } in
    record {
      counts = ap (map (λ (x : Entry). x.count)) change.items ∙ map-set (λ (x : Entry). x.count) m.entries.items i v;
      seen = ap (map (λ (x : Entry). x.seen)) change.items ∙ map-set_alike (λ (x : Entry). x.seen) m.entries.items i e v there refl;
      node = change.node;
      at = λ p nodes at. at_kept p nodes m c.put.new.self i e v change at;
      over = over_kept lists m c.put.new.self i e v change
          (record {
            all = old.all;
            seen = old.seen;
            count = c.requires.there;
            place = place;
            time = c.time_at-time.ensures ∙ (λ k. time_in (event_in (slice_get (c.items-items.ensures k) (place k))))
                ∙ ap time_in (pending_at_place items c.args.n);
          })
          c.requires.over;
    }
