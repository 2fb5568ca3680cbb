use Rattle.std.proofs.lemmas.Result.{err_from_is_err_and}
use Rattle.flu_partial.specs.declared.order.Reached.TheVariants.{Head}
use Rattle.flu_partial.specs.Forms.{IsHeadLine}
use Rattle.flu_receiving.specs.Faults.{parts_of, IsFaultFrom, IsFirstFault, IsUnread}
use Rattle.flu_receiving.specs.declared.receiving.Received.{Received}
use Rattle.flu_receiving.specs.Receiving.{IsRead}
use Rattle.flu_receiving.proofs.Steps.{memory_or, no_head, fault_of_head, fault_behind_head, only_memory, whole_of_sent, found_of_read}
use Rattle.std.proofs.Common.{inr, refl}
use Rattle.flu_receiving.specs.declared.fault.PartialFault.TheVariants.{Incomplete}
use Rattle.flu_receiving.proofs.receiving.read_partial.Goals as goal

pub returns-in_default-clause-found : goal.returns-in_default-clause-found
returns-in_default-clause-found c h cs whole sendable =
    let p = c.args.p.now in
    let bytes = c.args.bytes.now in
    only_memory c.contributions_have_one_text.ensures p bytes Incomplete h cs (inr (no_head p bytes c.in_default.ensures.none)) whole sendable

pub returns-in_err-head-clause-found : goal.returns-in_err-head-clause-found
returns-in_err-head-clause-found c h cs whole sendable =
    let e = c.in_err-head.field-0.0 in
    let p = c.args.p.now in
    let bytes = c.args.bytes.now in
    let line = c.in-Some.first.line.now in
    let q = err_from_is_err_and c.from_residual.result c.from_residual.ensures.1 in
    let fault = memory_or e (IsUnread IsHeadLine 1 line e) (IsFirstFault p bytes e)
    (λ f. fault_of_head p bytes line c.in-Some.first.rest.now e c.in-Some.ensures.line f) c.in_err-head.ensures.fault in
    rw (q.1, q.2) (only_memory c.contributions_have_one_text.ensures p bytes e h cs fault whole sendable)

pub returns-in_err-head-clause-fault : goal.returns-in_err-head-clause-fault
returns-in_err-head-clause-fault c =
    let e = c.in_err-head.field-0.0 in
    let p = c.args.p.now in
    let bytes = c.args.bytes.now in
    let line = c.in-Some.first.line.now in
    let q = err_from_is_err_and c.from_residual.result c.from_residual.ensures.1 in
    rw (q.1, q.2) (memory_or e (IsUnread IsHeadLine 1 line e) (IsFirstFault p bytes e)
    (λ f. fault_of_head p bytes line c.in-Some.first.rest.now e c.in-Some.ensures.line f) c.in_err-head.ensures.fault)

pub returns-in_err-behind-clause-found : goal.returns-in_err-behind-clause-found
returns-in_err-behind-clause-found c h cs whole sendable =
    let e = c.in_err-behind.field-0.0 in
    let p = c.args.p.now in
    let bytes = c.args.bytes.now in
    let line = c.in-Some.first.line.now in
    let behind = c.in-Some.first.rest.now in
    let q = err_from_is_err_and c.from_residual-in_err-behind.result c.from_residual-in_err-behind.ensures.1 in
    let fault = memory_or e (IsFaultFrom p 2 Head (parts_of behind) e) (IsFirstFault p bytes e)
    (λ f. fault_behind_head p bytes line behind c.in_ok-head.head e c.in-Some.ensures.line c.in_ok-head.ensures.head f) c.in_err-behind.ensures.fault in
    rw (q.1, q.2) (only_memory c.contributions_have_one_text.ensures p bytes e h cs fault whole sendable)

pub returns-in_err-behind-clause-fault : goal.returns-in_err-behind-clause-fault
returns-in_err-behind-clause-fault c =
    let e = c.in_err-behind.field-0.0 in
    let p = c.args.p.now in
    let bytes = c.args.bytes.now in
    let line = c.in-Some.first.line.now in
    let behind = c.in-Some.first.rest.now in
    let q = err_from_is_err_and c.from_residual-in_err-behind.result c.from_residual-in_err-behind.ensures.1 in
    rw (q.1, q.2) (memory_or e (IsFaultFrom p 2 Head (parts_of behind) e) (IsFirstFault p bytes e)
    (λ f. fault_behind_head p bytes line behind c.in_ok-head.head e c.in-Some.ensures.line c.in_ok-head.ensures.head f) c.in_err-behind.ensures.fault)

pub returns-clause-whole : goal.returns-clause-whole
returns-clause-whole c =
    let behind = c.in_ok-behind.behind in
    whole_of_sent c.args.p.now c.args.bytes.now c.in-Some.first.line.now c.in-Some.first.rest.now behind
    (record { head = c.in_ok-head.head; sent = behind.sent; last = behind.last }) c.in-Some.ensures.bytes c.in_ok-head.ensures.head c.in_ok-behind.ensures.sent
    refl refl

pub returns-clause-found : goal.returns-clause-found
returns-clause-found c h cs whole sendable =
    let behind = c.in_ok-behind.behind in
    let r : Received = record { head = c.in_ok-head.head; sent = behind.sent; last = behind.last } in
    let read : IsRead c.args.p.now c.args.bytes.now r =
    whole_of_sent c.args.p.now c.args.bytes.now c.in-Some.first.line.now c.in-Some.first.rest.now behind r c.in-Some.ensures.bytes c.in_ok-head.ensures.head
    c.in_ok-behind.ensures.sent refl refl in
    found_of_read c.heads_have_one_text.ensures c.contributions_have_one_text.ensures c.args.p.now c.args.bytes.now h cs r read whole
