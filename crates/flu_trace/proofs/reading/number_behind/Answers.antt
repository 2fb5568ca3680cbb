use Rattle.std.proofs.Common.{◌≡◌, ◌<◌, ℕ, List, ◌++◌, Some, None, ap, ◌∙◌}
use Rattle.std.specs.Fmt.{decimal}
use Rattle.std.proofs.lemmas.Bool.Decides.{Decides-eqb}
use Rattle.std.proofs.lemmas.Slice.Eq.{strip_prefix_is}
use Rattle.flu_trace.proofs.StepLines.{if_none, if_some}
use Rattle.flu_trace.proofs.reading.number_behind.Goals as goal

pub returns-in_err-number-clause-none : goal.returns-in_err-number-clause-none
returns-in_err-number-clause-none c =
    if_none c.from_residual.result (λ n lt. strip_prefix_is Decides-eqb c.args.line.now c.args.word.now None c.in_err-number.ensures.cases (decimal n))

pub returns-clause-some : goal.returns-clause-some
returns-clause-some c =
    let number = c.in_ok-number.number in
    let front : c.args.line.now ≡ c.args.word.now ++ number.now =
    strip_prefix_is Decides-eqb c.args.line.now c.args.word.now (Some number) c.in_ok-number.ensures.cases in
    if_some (λ n. (n < 1000) × (number.now ≡ decimal n)) _ c.number_in.result (λ n is. (is.0, front ∙ ap (λ (l : List ℕ). c.args.word.now ++ l) is.1))
    c.number_in.ensures.some
