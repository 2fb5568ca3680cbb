use Rattle.std.proofs.Common.{◌≡◌, [], length, sym, ap, ◌∙◌}
use Rattle.std.specs.Prelude.{slice_get, slice_index, slice_index_or}
use Rattle.flu_lemmas.proofs.Places.{slice_index-map}
use Rattle.flu_model.specs.Listed.{listed}
use Rattle.flu_model.specs.Merging.{events_of}
use Rattle.flu_mail.specs.Places.{event_in}
use Rattle.flu_mail.specs.declared.entries.Entry.{Entry}
use Rattle.flu_mail.specs.Mailboxes.{counts_of}
use Rattle.flu_mail.proofs.PlaceLemmas.{pending_at_place}
use Rattle.flu_mail.proofs.MailboxLemmas.{entry_read, pending_itag}
use Rattle.flu_mail.proofs.mailbox.Mailbox.pending.Goals as goal

pub returns-clause-event : goal.returns-clause-event
returns-clause-event c =
    let lists = listed c.args.s.now in
    let m = c.args.self.now in
    let i = c.args.i.0 in
    let e = c.index.result.now in
    let there = entry_read m (length lists) i e c.requires.over.one_each c.requires.in_range c.index.ensures in
    let over = c.requires.over.over_items i e there in
    let items = slice_index_or lists i [] in
    let count : slice_index (counts_of m) i ≡ e.count = slice_index-map (λ (x : Entry). x.count) m.entries.items i e there in
    c.event_at.ensures
    ∙ ap (λ is. event_in (slice_get is e.place)) c.items.ensures
    ∙ ap (λ n. event_in (slice_get items n)) over.place
    ∙ pending_at_place items e.count
    ∙ ap (slice_get (events_of items)) (sym count)

pub returns-clause-itag : goal.returns-clause-itag
returns-clause-itag c =
    pending_itag (listed c.args.s.now) (counts_of c.args.self.now) c.args.i c.event_at.result c.args.s.now.good c.requires.in_range
    (λ x is. sym (returns-clause-event c) ∙ is)
