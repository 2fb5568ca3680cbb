use Rattle.std.proofs.Common.{◌<◌, ◌+◌, List, ℕ, [], None, length, refl, sym, ap, subst, ◌∙◌, arith}
use Rattle.std.specs.Prelude.{slice_index, slice_index_or, slice_set}
use Rattle.flu_model.specs.declared.streams.Streams.{Streams}
use Rattle.flu_model.specs.Itags.{count_of_itags}
use Rattle.flu_model.specs.Listed.{listed}
use Rattle.flu_model.specs.Merging.{events_of}
use Rattle.flu_mail.specs.Mailboxes.{seen_of, counts_of}
use Rattle.flu_mail.specs.Passing.{pending_event}
use Rattle.flu_fork.specs.declared.content.Content.{Content}
use Rattle.flu_fork.specs.Lots.{job, LotFits}
use Rattle.flu_worker.specs.Agreeing.{IsExactFor}
use Rattle.flu_worker.specs.Calls.{HandlesEvent}
use Rattle.flu_worker.specs.Doing.{PutsOut}
use Rattle.flu_worker.specs.Hands.{is_whole}
use Rattle.flu_worker.specs.Holding.{hand_of}
use Rattle.flu_worker.specs.Notes.{WorkerNote}
use Rattle.flu_worker.specs.Rule.{Rule}
use Rattle.flu_worker.proofs.Handling.{whole_there, handle_known, handle_there, never_pending, handle_exact, handle_fits, lost_rule, handled_rule, handles}
use Rattle.flu_worker.proofs.Handling.{counts_event}
use Rattle.flu_worker.proofs.Ruling.{held_at, same_told}
use Rattle.flu_worker.proofs.Serving.{whole_next}
use Rattle.flu_worker.proofs.worker.Worker.handle.Goals as goal

pub pending-requires-clause-in_range : goal.pending-requires-clause-in_range
pending-requires-clause-in_range c =
    let v = c.args.self.now in
    let old = c.self.inside.mail in
    let was = c.self.inside.holding in
    let rule : Rule v old was = subst (λ (x : WorkerNote). Rule x old was) c.self.view_is c.self.invariant in
    let w = whole_there v old was rule (whole_next v c.args.x c.requires.next) in
    let known : c.args.x.itag.0 < count_of_itags (job c.args.case.now) =
    subst (λ (k : Content). c.args.x.itag.0 < count_of_itags (job k)) (sym c.requires.case)
    (handle_known c.laws_below.ensures v old was rule c.args.x c.requires.next w.0 w.1) in
    let one = c.args.case.now.one_each in
    subst (λ (s : Streams). c.args.x.itag.0 < length (listed s)) (sym c.streams.ensures) (omega arith)

pub unreachable-requires : goal.unreachable-requires
unreachable-requires c =
    let v = c.args.self.now in
    let old = c.self.inside.mail in
    let was = c.self.inside.holding in
    let rule : Rule v old was = subst (λ (x : WorkerNote). Rule x old was) c.self.view_is c.self.invariant in
    let w = whole_there v old was rule (whole_next v c.args.x c.requires.next) in
    let streams = c.streams.ensures ∙ ap (λ (k : Content). k.streams) c.requires.case in
    never_pending c.laws_below.ensures v old was rule c.args.x c.requires.next w.0 w.1
    (sym (c.pending.ensures.event ∙ ap (λ (s : Streams). pending_event (listed s) (counts_of old) c.args.x.itag.0) streams) ∙ c.in_default.is)

pub done_in-requires-clause-whole : goal.done_in-requires-clause-whole
done_in-requires-clause-whole c =
    let v = c.args.self.now in
    let old = c.self.inside.mail in
    let was = c.self.inside.holding in
    let rule : Rule v old was = subst (λ (x : WorkerNote). Rule x old was) c.self.view_is c.self.invariant in
    sym (ap is_whole rule.hand) ∙ whole_next v c.args.x c.requires.next

pub done_in-requires-clause-exact : goal.done_in-requires-clause-exact
done_in-requires-clause-exact c lot is =
    let v = c.args.self.now in
    let old = c.self.inside.mail in
    let was = c.self.inside.holding in
    let rule : Rule v old was = subst (λ (x : WorkerNote). Rule x old was) c.self.view_is c.self.invariant in
    let streams = c.streams.ensures ∙ ap (λ (k : Content). k.streams) c.requires.case in
    subst (λ (k : Content). IsExactFor k c.self.inside.node lot.upto c.args.x c.in-Some.event) (sym c.requires.case)
    (subst (λ (w : ℕ). IsExactFor v.case w lot.upto c.args.x c.in-Some.event) (sym (ap (λ (x : WorkerNote). x.node) c.self.view_is))
    (handle_exact c.laws_below.ensures v old was rule c.args.x c.requires.next lot is c.in-Some.event
    (sym (c.pending.ensures.event ∙ ap (λ (s : Streams). pending_event (listed s) (counts_of old) c.args.x.itag.0) streams) ∙ c.in-Some.is)))

pub done_in-requires-clause-fits : goal.done_in-requires-clause-fits
done_in-requires-clause-fits c lot is =
    let v = c.args.self.now in
    let old = c.self.inside.mail in
    let was = c.self.inside.holding in
    let rule : Rule v old was = subst (λ (x : WorkerNote). Rule x old was) c.self.view_is c.self.invariant in
    subst (λ (k : Content). LotFits k c.self.inside.node lot) (sym c.requires.case)
    (subst (λ (w : ℕ). LotFits v.case w lot) (sym (ap (λ (x : WorkerNote). x.node) c.self.view_is))
    (handle_fits c.laws_below.ensures v old was rule c.args.x c.requires.next lot is))

pub count_one-requires-clause-there : goal.count_one-requires-clause-there
count_one-requires-clause-there c =
    let v = c.args.self.now in
    let old = c.self.inside.mail in
    let was = c.self.inside.holding in
    let rule : Rule v old was = subst (λ (x : WorkerNote). Rule x old was) c.self.view_is c.self.invariant in
    let d = c.in_ok-done_in.ensures.done in
    subst (λ (s : Streams). slice_index (counts_of old) c.args.x.itag.0 < length (events_of (slice_index_or (listed s) c.args.x.itag.0 [])))
    (sym (c.streams-2.ensures ∙ ap (λ (k : Content). k.streams) c.requires.case))
    (handle_there c.laws_below.ensures v old was rule c.args.x c.requires.next d.lot d.was)

pub invariant_of-self : goal.invariant_of-self
invariant_of-self c =
    let v = c.args.self.now in
    let old = c.self.inside.mail in
    let was = c.self.inside.holding in
    let rule : Rule v old was = subst (λ (x : WorkerNote). Rule x old was) c.self.view_is c.self.invariant in
    let h = c.done_in.new.holding in
    subst (λ (x : WorkerNote). Rule (record x { hand = hand_of h; holding = h; kept = None }) old h) (sym c.self.view_is)
    (lost_rule v old was h rule c.in_err-done_in.ensures.gone)

pub invariant_of-self-2 : goal.invariant_of-self-2
invariant_of-self-2 c =
    let v = c.args.self.now in
    let old = c.self.inside.mail in
    let was = c.self.inside.holding in
    let rule : Rule v old was = subst (λ (x : WorkerNote). Rule x old was) c.self.view_is c.self.invariant in
    let node = ap (λ (x : WorkerNote). x.node) c.self.view_is in
    let new = c.count_one.new.self in
    let h = c.done_in.new.holding in
    let d = c.in_ok-done_in.ensures.done in
    let fits : LotFits v.case v.node d.more =
    subst (λ (k : Content). LotFits k v.node d.more) c.requires.case (subst (λ (w : ℕ). LotFits c.args.case.now w d.more) node d.fits) in
    let same =
    same_told v old new c.streams-2.result.now (c.streams-2.ensures
    ∙ ap (λ (k : Content). k.streams) c.requires.case) c.count_one.ensures.seen c.count_one.ensures.node
    c.count_one.ensures.at c.count_one.ensures.over in
    let set = c.count_one.ensures.counts ∙ ap (λ (u : List ℕ). slice_set u c.args.x.itag.0 (slice_index u c.args.x.itag.0 + 1)) rule.mailed.counts in
    let held = held_at c.args.case.now c.self.inside.node v d.more h (record { case = c.requires.case; node = node }) d.held in
    subst (λ (x : WorkerNote). Rule (record x { hand = hand_of h; holding = h; kept = None; seen = seen_of new; counts = counts_of new }) new h) (sym c.self.view_is)
    (subst (λ (u : List ℕ). Rule (record v { hand = hand_of h; holding = h; kept = None; seen = u; counts = counts_of new }) new h)
    (sym (c.count_one.ensures.seen ∙ rule.mailed.seen))
    (handled_rule c.laws_below.ensures v old was rule c.args.x c.requires.next d.lot d.was d.more fits d.since d.upto new same
    (counts_of new) refl set h held))

pub returns-clause-note : goal.returns-clause-note
returns-clause-note c =
    let v = c.args.self.now in
    let old = c.self.inside.mail in
    let was = c.self.inside.holding in
    let rule : Rule v old was = subst (λ (x : WorkerNote). Rule x old was) c.self.view_is c.self.invariant in
    let node = ap (λ (x : WorkerNote). x.node) c.self.view_is in
    let new = c.count_one.new.self in
    let h = c.done_in.new.holding in
    let d = c.in_ok-done_in.ensures.done in
    let fits : LotFits v.case v.node d.more =
    subst (λ (k : Content). LotFits k v.node d.more) c.requires.case (subst (λ (w : ℕ). LotFits c.args.case.now w d.more) node d.fits) in
    let same =
    same_told v old new c.streams-2.result.now (c.streams-2.ensures
    ∙ ap (λ (k : Content). k.streams) c.requires.case) c.count_one.ensures.seen c.count_one.ensures.node
    c.count_one.ensures.at c.count_one.ensures.over in
    let set = c.count_one.ensures.counts ∙ ap (λ (u : List ℕ). slice_set u c.args.x.itag.0 (slice_index u c.args.x.itag.0 + 1)) rule.mailed.counts in
    let held = held_at c.args.case.now c.self.inside.node v d.more h (record { case = c.requires.case; node = node }) d.held in
    subst (λ (x : WorkerNote). HandlesEvent c.args.x v (record x { hand = hand_of h; holding = h; kept = None; seen = seen_of new; counts = counts_of new }))
    (sym c.self.view_is)
    (subst (λ (u : List ℕ). HandlesEvent c.args.x v (record v { hand = hand_of h; holding = h; kept = None; seen = u; counts = counts_of new }))
    (sym (c.count_one.ensures.seen ∙ rule.mailed.seen))
    (handles c.laws_below.ensures v old was rule c.args.x c.requires.next d.lot d.was d.more fits d.since d.upto new same
    (counts_of new) refl set h held))

pub returns-clause-texts : goal.returns-clause-texts
returns-clause-texts c =
    let v = c.args.self.now in
    let old = c.self.inside.mail in
    let was = c.self.inside.holding in
    let rule : Rule v old was = subst (λ (x : WorkerNote). Rule x old was) c.self.view_is c.self.invariant in
    let node = ap (λ (x : WorkerNote). x.node) c.self.view_is in
    let new = c.count_one.new.self in
    let h = c.done_in.new.holding in
    let d = c.in_ok-done_in.ensures.done in
    let fits : LotFits v.case v.node d.more =
    subst (λ (k : Content). LotFits k v.node d.more) c.requires.case (subst (λ (w : ℕ). LotFits c.args.case.now w d.more) node d.fits) in
    let same =
    same_told v old new c.streams-2.result.now (c.streams-2.ensures
    ∙ ap (λ (k : Content). k.streams) c.requires.case) c.count_one.ensures.seen c.count_one.ensures.node
    c.count_one.ensures.at c.count_one.ensures.over in
    let set = c.count_one.ensures.counts ∙ ap (λ (u : List ℕ). slice_set u c.args.x.itag.0 (slice_index u c.args.x.itag.0 + 1)) rule.mailed.counts in
    counts_event c.laws_below.ensures v old was rule c.args.x c.requires.next d.lot d.was d.more fits d.since d.upto new same
    (counts_of new) refl set
    c.args.outs.now c.done_in.new.outs (subst (λ (k : Content). PutsOut k c.args.x c.args.outs.now c.done_in.new.outs) c.requires.case
    c.in_ok-done_in.ensures.outs)
