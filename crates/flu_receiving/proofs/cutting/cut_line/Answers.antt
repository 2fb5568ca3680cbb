use Rattle.std.proofs.Common.{◌+◌, ◌∷◌, Option, Some, None, take, ap, ◌∙◌, sym, arith}
use Rattle.std.specs.Prelude.{IfNone}
use Rattle.std.proofs.lemmas.List.{take_rest}
use Rattle.flu_receiving.specs.Faults.{parts_of}
use Rattle.flu_receiving.proofs.Feeds.{parts_at, parts_none}
use Rattle.flu_receiving.proofs.cutting.cut_line.Goals as goal

if_none : {T : Type 0} (P : Type 0) (o : Option T) → P → IfNone o P
if_none P None h = h
if_none P (Some x) h = tt

pub returns-in_err-end-clause-none : goal.returns-in_err-end-clause-none
returns-in_err-end-clause-none c =
    let none = c.in_err-end.ensures in
    if_none _ c.from_residual.result (parts_none c.args.bytes.now (λ j lt hit. none j (omega arith) lt hit))

pub returns-clause-line : goal.returns-clause-line
returns-clause-line c =
    let there = c.in_ok-end.ensures in
    let bytes = c.args.bytes.now in
    let end = c.in_ok-end.end in
    parts_at bytes end there.0.high (λ j below hit. there.0.before j (omega arith) below hit) there.1
    ∙ ap (λ rest. take end bytes ∷ parts_of rest) (sym (take_rest bytes (end + 1)))
