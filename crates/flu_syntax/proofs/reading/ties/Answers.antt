use Rattle.std.proofs.lemmas.Result.{err_from_is_err_and}
use Rattle.flu_syntax.proofs.Parts.{tells}
use Rattle.flu_syntax.proofs.HeadVerdicts.{reads_no_ties, reads_ties, reads_no_count}
use Rattle.flu_syntax.proofs.reading.ties.Goals as goal

pub returns-in_default : goal.returns-in_default
returns-in_default c = record { run = λ version. reads_no_ties c.args.end version c.args.tokens.now c.in_default.ensures.front }

pub returns-in_err-number : goal.returns-in_err-number
returns-in_err-number c =
    let p = err_from_is_err_and c.from_residual.result c.from_residual.ensures.1 in
    record {
      run = rw (p.1, p.2) (λ version. tells _ _ _ c.in_err-number.ensures.front.0
          (reads_no_count c.args.end version c.in-Some.word c.args.tokens.now c.in-Some.rest.now c.in-Some.ensures.front c.in_err-number.ensures.front.1));
    }

pub returns : goal.returns
returns c = record {
  run = λ version. reads_ties c.args.end version c.in-Some.word c.in_ok-number.number c.args.tokens.now c.in-Some.rest.now c.in_ok-number.rest.now
      c.in-Some.ensures.front c.in_ok-number.ensures.front;
}
