use Rattle.std.proofs.Common.{◌∙◌}
use Rattle.std.proofs.lemmas.Result.{err_from_is_err_and}
use Rattle.flu_syntax.proofs.Parts.{tells}
use Rattle.flu_syntax.proofs.Runs.{Tells-through}
use Rattle.flu_syntax.proofs.HeadVerdicts.{reads_no_version, reads_version, reads_no_number}
use Rattle.flu_syntax.proofs.reading.head.Goals as goal

pub returns-in_default : goal.returns-in_default
returns-in_default c = record { run = reads_no_version c.args.end c.args.tokens.now c.in_default.ensures.front }

pub returns-in_err-version : goal.returns-in_err-version
returns-in_err-version c =
    let p = err_from_is_err_and c.from_residual.result c.from_residual.ensures.1 in
    let none = reads_no_number c.args.end c.in-Some.field-0-0 c.args.tokens.now c.in-Some.rest.now c.in-Some.ensures.front c.in_err-version.ensures.front.1 in
    record { run = rw (p.1, p.2) (tells _ _ _ c.in_err-version.ensures.front.0 none) }

pub returns-in_err-ties : goal.returns-in_err-ties
returns-in_err-ties c =
    let p = err_from_is_err_and c.from_residual-in_err-ties.result c.from_residual-in_err-ties.ensures.1 in
    let read = reads_version c.args.end c.in-Some.field-0-0 c.in_ok-version.version c.args.tokens.now c.in-Some.rest.now c.in_ok-version.rest.now
    c.in-Some.ensures.front c.in_ok-version.ensures.front in
    record { run = rw (p.1, p.2) (Tells-through _ _ _ read (c.in_err-ties.ensures.run c.in_ok-version.version)) }

pub returns-in_err-iso : goal.returns-in_err-iso
returns-in_err-iso c =
    let p = err_from_is_err_and c.from_residual-in_err-iso.result c.from_residual-in_err-iso.ensures.1 in
    let read = reads_version c.args.end c.in-Some.field-0-0 c.in_ok-version.version c.args.tokens.now c.in-Some.rest.now c.in_ok-version.rest.now
    c.in-Some.ensures.front c.in_ok-version.ensures.front
    ∙ c.in_ok-ties.ensures.run c.in_ok-version.version in
    record { run = rw (p.1, p.2) (Tells-through _ _ _ read (c.in_err-iso.ensures.run c.in_ok-version.version c.in_ok-ties.ties)) }

pub returns : goal.returns
returns c = record {
  run = reads_version c.args.end c.in-Some.field-0-0 c.in_ok-version.version c.args.tokens.now c.in-Some.rest.now c.in_ok-version.rest.now
      c.in-Some.ensures.front c.in_ok-version.ensures.front
      ∙ c.in_ok-ties.ensures.run c.in_ok-version.version
      ∙ c.in_ok-iso.ensures.run c.in_ok-version.version c.in_ok-ties.ties;
}
