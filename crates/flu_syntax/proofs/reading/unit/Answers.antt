use Rattle.std.proofs.lemmas.Result.{err_from_is_err_and}
use Rattle.flu_syntax.proofs.Parts.{tells}
use Rattle.flu_syntax.proofs.HeadVerdicts.{reads_no_unit, reads_unit, reads_no_name}
use Rattle.flu_syntax.proofs.reading.unit.Goals as goal

pub returns-in_default : goal.returns-in_default
returns-in_default c = record { run = λ version ties. reads_no_unit c.args.end version ties c.args.tokens.now c.in_default.ensures.front }

pub returns-in_err-name : goal.returns-in_err-name
returns-in_err-name c =
    let p = err_from_is_err_and c.from_residual.result c.from_residual.ensures.1 in
    record {
      run = rw (p.1, p.2) (λ version ties. tells _ _ _ c.in_err-name.ensures.front.0
          (reads_no_name c.args.end version ties c.in-Some.word c.args.tokens.now c.in-Some.rest.now c.in-Some.ensures.front c.in_err-name.ensures.front.1));
    }

pub returns : goal.returns
returns c = record {
  run = λ version ties. reads_unit c.args.end version ties c.in-Some.word c.in_ok-name.name c.args.tokens.now c.in-Some.rest.now c.in_ok-name.rest.now
      c.in-Some.ensures.front c.in_ok-name.ensures.front;
}
