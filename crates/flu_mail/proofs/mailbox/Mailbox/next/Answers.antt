use Rattle.std.proofs.Common.{◌≡◌, [], Some, length, sym, ap, ◌∙◌}
use Rattle.std.specs.Prelude.{slice_get, slice_index, slice_index_or}
use Rattle.flu_lemmas.proofs.Places.{slice_index-map}
use Rattle.flu_model.specs.Listed.{listed}
use Rattle.flu_model.specs.declared.events.Event.{Event}
use Rattle.flu_mail.specs.Passing.{seen_items, next_event, pending_event}
use Rattle.flu_mail.specs.Places.{event_in}
use Rattle.flu_mail.specs.declared.entries.Entry.{Entry}
use Rattle.flu_mail.specs.Mailboxes.{seen_of, counts_of}
use Rattle.flu_mail.proofs.PassingLemmas.{still_there}
use Rattle.flu_mail.proofs.PlaceLemmas.{next_at_place}
use Rattle.flu_mail.proofs.MailboxLemmas.{entry_read, if_some, pending_itag}
use Rattle.flu_mail.proofs.mailbox.Mailbox.next.Goals as goal

pub returns-clause-event : goal.returns-clause-event
returns-clause-event c =
    let lists = listed c.args.s.now in
    let m = c.args.self.now in
    let i = c.args.i.0 in
    let e = c.index.result.now in
    let there = entry_read m (length lists) i e c.requires.over.one_each c.requires.in_range c.index.ensures in
    let over = c.requires.over.over_items i e there in
    let items = seen_items lists (seen_of m) i in
    let count : slice_index (counts_of m) i ≡ e.count = slice_index-map (λ (x : Entry). x.count) m.entries.items i e there in
    c.event_at.ensures
    ∙ ap (λ is. event_in (slice_get is e.place)) c.seen_items.ensures
    ∙ ap (λ n. event_in (slice_get items n)) over.place
    ∙ next_at_place (slice_index_or lists i []) (slice_index (seen_of m) i) e.count
    ∙ ap (next_event items) (sym count)

-- what is seen is there
is_pending : (c : goal.After-event_at) (x : Event) → c.event_at.result ≡ Some x
    → pending_event (listed c.args.s.now) (counts_of c.args.self.now) c.args.i.0 ≡ Some x
is_pending c x is =
    let lists = listed c.args.s.now in
    let m = c.args.self.now in
    let i = c.args.i.0 in
    still_there (slice_index_or lists i []) (slice_index (seen_of m) i) (slice_index (counts_of m) i) x (sym (returns-clause-event c) ∙ is)

pub returns-clause-pending : goal.returns-clause-pending
returns-clause-pending c =
    if_some c.event_at.result (λ x. pending_event (listed c.args.s.now) (counts_of c.args.self.now) c.args.i.0 ≡ Some x) (is_pending c)

pub returns-clause-itag : goal.returns-clause-itag
returns-clause-itag c =
    pending_itag (listed c.args.s.now) (counts_of c.args.self.now) c.args.i c.event_at.result c.args.s.now.good c.requires.in_range (is_pending c)
