use Rattle.std.proofs.Common.{◌≡◌, List, ℕ, refl, sym, ap, subst, ◌∙◌}
use Rattle.flu_fork.specs.declared.content.Content.{Content}
use Rattle.flu_fork.specs.Lots.{job, nodes}
use Rattle.flu_fork.specs.Serving.{LotCounts}
use Rattle.flu_fork.specs.Serving as lots
use Rattle.flu_mail.specs.Mailboxes.{seen_of, counts_of}
use Rattle.flu_worker.specs.Calls.{HoldsLot}
use Rattle.flu_worker.specs.Holding.{hand_of}
use Rattle.flu_worker.specs.Notes.{WorkerNote}
use Rattle.flu_worker.specs.Rule.{Rule}
use Rattle.flu_worker.proofs.Ruling.{IsCaseAt, held_at, hold_rule, holds_lot, like_told, same_told}
use Rattle.flu_worker.proofs.worker.Worker.hold.Goals as goal

pub invariant_of-self-2 : goal.invariant_of-self-2
invariant_of-self-2 c =
    let v = c.args.self.now in
    let old = c.self.inside.mail in
    let new = c.count_above.new.self in
    let h = c.in_ok-self-inside.field-0 in
    let rule : Rule v old c.self.inside.holding = subst (λ (x : WorkerNote). Rule x old c.self.inside.holding) c.self.view_is c.self.invariant in
    let at : IsCaseAt c.args.case.now c.self.inside.node v = record { case = c.requires.case; node = ap (λ (x : WorkerNote). x.node) c.self.view_is } in
    let same =
    same_told v old new c.streams.result.now (c.streams.ensures
    ∙ ap (λ (k : Content). k.streams) c.requires.case) c.count_above.ensures.seen c.count_above.ensures.node
    c.count_above.ensures.at c.count_above.ensures.over in
    let like =
    like_told v old new c.tables.result.now c.args.case.now c.items.result.now c.args.lot.upto rule.mailed c.requires.case c.tables.ensures c.items.ensures
    (c.count_above.ensures.at (job v.case) (nodes v.case)) c.count_above.ensures.counts in
    let held =
    hold_rule c.laws_below.ensures v old c.self.inside.holding rule c.requires.empty c.args.lot c.requires.fits c.requires.grown new same
    (counts_of new) refl like h
    (held_at c.args.case.now c.self.inside.node v c.args.lot h at c.in_ok-self-inside.ensures) in
    let noted : record { since = c.of-since.result.value; upto = c.of-upto.result.value } ≡ lots.counts_of c.args.lot = λ i. record {
      since = c.of-since.ensures i;
      upto = c.of-upto.ensures i;
    } in
    subst (λ (x : WorkerNote). Rule
    (record x {
      hand = hand_of h;
      holding = h;
      seen = seen_of new;
      counts = counts_of new;
      held = record { since = c.of-since.result.value; upto = c.of-upto.result.value };
    }) new h)
    (sym c.self.view_is)
    (subst (λ (u : List ℕ). Rule
    (record v { hand = hand_of h; holding = h; seen = u; counts = counts_of new; held = record { since = c.of-since.result.value; upto = c.of-upto.result.value } }) new h)
    (sym (c.count_above.ensures.seen ∙ rule.mailed.seen))
    (subst (λ (m : LotCounts). Rule (record v { hand = hand_of h; holding = h; counts = counts_of new; held = m }) new h) (sym noted) held))

pub returns-clause-holds : goal.returns-clause-holds
returns-clause-holds c =
    let v = c.args.self.now in
    let old = c.self.inside.mail in
    let new = c.count_above.new.self in
    let h = c.in_ok-self-inside.field-0 in
    let rule : Rule v old c.self.inside.holding = subst (λ (x : WorkerNote). Rule x old c.self.inside.holding) c.self.view_is c.self.invariant in
    let at : IsCaseAt c.args.case.now c.self.inside.node v = record { case = c.requires.case; node = ap (λ (x : WorkerNote). x.node) c.self.view_is } in
    let same =
    same_told v old new c.streams.result.now (c.streams.ensures
    ∙ ap (λ (k : Content). k.streams) c.requires.case) c.count_above.ensures.seen c.count_above.ensures.node
    c.count_above.ensures.at c.count_above.ensures.over in
    let like =
    like_told v old new c.tables.result.now c.args.case.now c.items.result.now c.args.lot.upto rule.mailed c.requires.case c.tables.ensures c.items.ensures
    (c.count_above.ensures.at (job v.case) (nodes v.case)) c.count_above.ensures.counts in
    let held =
    holds_lot c.laws_below.ensures v old c.self.inside.holding rule c.requires.empty c.args.lot c.requires.fits c.requires.grown new same
    (counts_of new) refl like h
    (held_at c.args.case.now c.self.inside.node v c.args.lot h at c.in_ok-self-inside.ensures) in
    let noted : record { since = c.of-since.result.value; upto = c.of-upto.result.value } ≡ lots.counts_of c.args.lot = λ i. record {
      since = c.of-since.ensures i;
      upto = c.of-upto.ensures i;
    } in
    subst (λ (x : WorkerNote). HoldsLot c.args.lot v
    (record x {
      hand = hand_of h;
      holding = h;
      seen = seen_of new;
      counts = counts_of new;
      held = record { since = c.of-since.result.value; upto = c.of-upto.result.value };
    }))
    (sym c.self.view_is)
    (subst (λ (u : List ℕ). HoldsLot c.args.lot v
    (record v { hand = hand_of h; holding = h; seen = u; counts = counts_of new; held = record { since = c.of-since.result.value; upto = c.of-upto.result.value } }))
    (sym (c.count_above.ensures.seen ∙ rule.mailed.seen))
    (subst (λ (m : LotCounts). HoldsLot c.args.lot v (record v { hand = hand_of h; holding = h; counts = counts_of new; held = m })) (sym noted) held))
