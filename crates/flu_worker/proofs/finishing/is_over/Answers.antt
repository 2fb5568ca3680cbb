use Rattle.std.proofs.Common.{[], length, ap, ◌∙◌, arith}
use Rattle.std.specs.Prelude.{slice_index_or}
use Rattle.flu_model.specs.declared.streams.Streams.{Streams}
use Rattle.flu_model.specs.Listed.{listed}
use Rattle.flu_mail.specs.Mailboxes.{counts_of}
use Rattle.flu_mail.specs.Passing.{pending_event}
use Rattle.flu_worker.proofs.Ending.{over_told}
use Rattle.flu_worker.proofs.finishing.is_over.Goals as goal

pub returns-then-seen-items : goal.returns-then-seen-items
returns-then-seen-items c =
    let k = c.args.case.now in
    let one = k.one_each in
    let known = c.requires.known in
    over_told (listed k.streams) c.args.mail.now c.args.i.0 c.requires.over (omega arith) c.pending.result
    (c.pending.ensures.event ∙ ap (λ (s : Streams). pending_event (listed s) (counts_of c.args.mail.now) c.args.i.0) c.streams-s.ensures)
    c.is_none.result c.is_none.ensures c.seen.result c.seen.ensures
    (c.if-seen-items.true ∙ ap length (c.items.ensures ∙ ap (λ (s : Streams). slice_index_or (listed s) c.args.i.0 []) c.streams-s.ensures))
