use Rattle.std.proofs.Common.{◌≡◌, ◌++◌, Some, None}
use Rattle.std.specs.Prelude.{codes}
use Rattle.std.specs.Fmt.{decimal}
use Rattle.std.proofs.lemmas.Bool.Decides.{Decides-eqb}
use Rattle.std.proofs.lemmas.Slice.Eq.{strip_prefix_is, strip_suffix_is}
use Rattle.flu_worker.specs.declared.hand.Side.TheVariants.{Left, Right}
use Rattle.flu_trace.specs.Lines.{side_text}
use Rattle.flu_trace.proofs.StepLines.{if_none, is_edge, not_edge}
use Rattle.flu_trace.proofs.reading.edge_behind.Goals as goal

pub returns-in_err-edge-clause-none : goal.returns-in_err-edge-clause-none
returns-in_err-edge-clause-none c =
    if_none c.from_residual.result
    (λ n s lt. strip_prefix_is Decides-eqb c.args.line.now c.args.word.now None c.in_err-edge.ensures.cases (decimal n ++ side_text s))

pub returns-in_err-number_in-clause-none : goal.returns-in_err-number_in-clause-none
returns-in_err-number_in-clause-none c =
    let line = c.args.line.now in
    let word = c.args.word.now in
    let edge = c.in_ok-edge.edge in
    let number = c.in-Some.number in
    let front : line ≡ word ++ edge.now = strip_prefix_is Decides-eqb line word (Some edge) c.in_ok-edge.ensures.cases in
    let back : edge.now ≡ number.now ++ codes " left" = strip_suffix_is Decides-eqb edge.now (codes " left") (Some number) c.in-Some.ensures.cases in
    if_none c.from_residual-in_err-number_in.result (not_edge line word edge.now number.now Left front back c.in_err-number_in.ensures.none)

pub returns-in-Some-clause-some : goal.returns-in-Some-clause-some
returns-in-Some-clause-some c =
    let line = c.args.line.now in
    let word = c.args.word.now in
    let edge = c.in_ok-edge.edge in
    let number = c.in-Some.number in
    let front : line ≡ word ++ edge.now = strip_prefix_is Decides-eqb line word (Some edge) c.in_ok-edge.ensures.cases in
    let back : edge.now ≡ number.now ++ codes " left" = strip_suffix_is Decides-eqb edge.now (codes " left") (Some number) c.in-Some.ensures.cases in
    let is = c.in_ok-number_in.ensures.some in
    (is.0, is_edge line word edge.now number.now Left c.in_ok-number_in.field-0 front back is.1)

pub returns-in_err-number_in-2-clause-none : goal.returns-in_err-number_in-2-clause-none
returns-in_err-number_in-2-clause-none c =
    let line = c.args.line.now in
    let word = c.args.word.now in
    let edge = c.in_ok-edge.edge in
    let number = c.in_ok-number.number in
    let front : line ≡ word ++ edge.now = strip_prefix_is Decides-eqb line word (Some edge) c.in_ok-edge.ensures.cases in
    let back : edge.now ≡ number.now ++ codes " right" = strip_suffix_is Decides-eqb edge.now (codes " right") (Some number) c.in_ok-number.ensures.cases in
    if_none c.from_residual-in_err-number_in-2.result (not_edge line word edge.now number.now Right front back c.in_err-number_in-2.ensures.none)

pub returns-clause-some : goal.returns-clause-some
returns-clause-some c =
    let line = c.args.line.now in
    let word = c.args.word.now in
    let edge = c.in_ok-edge.edge in
    let number = c.in_ok-number.number in
    let front : line ≡ word ++ edge.now = strip_prefix_is Decides-eqb line word (Some edge) c.in_ok-edge.ensures.cases in
    let back : edge.now ≡ number.now ++ codes " right" = strip_suffix_is Decides-eqb edge.now (codes " right") (Some number) c.in_ok-number.ensures.cases in
    let is = c.in_ok-number_in-2.ensures.some in
    (is.0, is_edge line word edge.now number.now Right c.in_ok-number_in-2.field-0 front back is.1)
