use Rattle.std.proofs.Common.{ℕ, map, ap, ◌∙◌}
use Rattle.std.specs.List.{range_with_len}
use Rattle.flu_model.specs.Itags.{count_of_itags}
use Rattle.flu_deps.specs.Checking.{program_of}
use Rattle.flu_worker.proofs.Ruling.{note_is, new_mail, new_rule, is_new}
use Rattle.flu_worker.proofs.worker.Worker.new.Goals as goal

pub invariant_of-result : goal.invariant_of-result
invariant_of-result c =
    let k = c.args.case.now in
    let mail =
    new_mail k c.args.node c.in_ok-mail.mail c.checked.result.now c.valid.result.now c.streams.result.now c.checked.ensures c.valid.ensures c.streams.ensures
    c.in_ok-mail.ensures.at c.in_ok-mail.ensures.over c.in_ok-mail.ensures.node c.in_ok-mail.ensures.seen c.in_ok-mail.ensures.counts in
    let nil = c.in_ok-none.ensures
    ∙ ap (λ n. map (λ (i : ℕ). 0) (range_with_len 0 n)) (c.itag_count.ensures ∙ ap count_of_itags (c.program.ensures ∙ ap program_of c.checked-2.ensures)) in
    let note = note_is k c.note.result c.args.node c.in_ok-holding.holding _ _ c.in_ok-none.none _ _ _ _ _ _ _ _ _ c.note.ensures mail.seen mail.counts nil
    c.of.ensures c.of-2.ensures c.of-3.ensures c.of-4.ensures c.of-5.ensures c.of-6.ensures c.of-7.ensures c.of-8.ensures c.of-9.ensures in
    new_rule k c.args.node c.in_ok-mail.mail c.in_ok-holding.holding _ note c.requires mail c.in_ok-holding.ensures

pub returns : goal.returns
returns c =
    let k = c.args.case.now in
    let mail =
    new_mail k c.args.node c.in_ok-mail.mail c.checked.result.now c.valid.result.now c.streams.result.now c.checked.ensures c.valid.ensures c.streams.ensures
    c.in_ok-mail.ensures.at c.in_ok-mail.ensures.over c.in_ok-mail.ensures.node c.in_ok-mail.ensures.seen c.in_ok-mail.ensures.counts in
    let nil = c.in_ok-none.ensures
    ∙ ap (λ n. map (λ (i : ℕ). 0) (range_with_len 0 n)) (c.itag_count.ensures ∙ ap count_of_itags (c.program.ensures ∙ ap program_of c.checked-2.ensures)) in
    let note = note_is k c.note.result c.args.node c.in_ok-holding.holding _ _ c.in_ok-none.none _ _ _ _ _ _ _ _ _ c.note.ensures mail.seen mail.counts nil
    c.of.ensures c.of-2.ensures c.of-3.ensures c.of-4.ensures c.of-5.ensures c.of-6.ensures c.of-7.ensures c.of-8.ensures c.of-9.ensures in
    is_new k c.args.node c.in_ok-holding.holding _ note c.in_ok-holding.ensures
