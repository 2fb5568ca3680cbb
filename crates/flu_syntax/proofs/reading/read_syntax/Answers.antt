use Rattle.std.proofs.Common.{◌≡◌, ◌∙◌, Err, ap}
use Rattle.std.proofs.lemmas.Result.{err_from_is_err_and}
use Rattle.flu_syntax.specs.Tree.{job_of}
use Rattle.flu_syntax.specs.Machine.{Found, verdict, with_head}
use Rattle.flu_syntax.proofs.Runs.{Tells-through}
use Rattle.flu_syntax.proofs.Heads.{is_job, tells_with}
use Rattle.flu_syntax.proofs.Exact.{first_told, deep_told, no_job_told}
use Rattle.flu_syntax.proofs.reading.read_syntax.Goals as goal

pub returns-in_err-head : goal.returns-in_err-head
returns-in_err-head c =
    let p = err_from_is_err_and c.from_residual.result c.from_residual.ensures.1 in
    let told = c.in_err-head.ensures.run in
    let err : c.from_residual.result ≡ Err c.in_err-head.field-0.0 = rw (← p.2) p.1 in
    record {
      job = no_job_told c.from_residual.result c.in_err-head.field-0.0 _ err;
      unexpected = first_told c.from_residual.result c.in_err-head.field-0.0 c.args.end c.args.tokens.now err told;
      too_deep = deep_told c.from_residual.result c.in_err-head.field-0.0 c.args.end c.args.tokens.now err told;
      verdict = rw (p.1, p.2) told;
    }

pub returns-in_err-declarations : goal.returns-in_err-declarations
returns-in_err-declarations c =
    let p = err_from_is_err_and c.from_residual-in_err-declarations.result c.from_residual-in_err-declarations.ensures.1 in
    let fault = c.in_err-declarations.field-0.0 in
    let told = Tells-through _ _ _ c.in_ok-head.ensures.run (tells_with fault c.in_ok-head.head _ c.in_err-declarations.ensures.run) in
    let err : c.from_residual-in_err-declarations.result ≡ Err fault = rw (← p.2) p.1 in
    record {
      job = no_job_told c.from_residual-in_err-declarations.result fault _ err;
      unexpected = first_told c.from_residual-in_err-declarations.result fault c.args.end c.args.tokens.now err told;
      too_deep = deep_told c.from_residual-in_err-declarations.result fault c.args.end c.args.tokens.now err told;
      verdict = rw (p.1, p.2) told;
    }

pub returns : goal.returns
returns c =
    let job = job_of (record { head = c.in_ok-head.head; declarations = c.in_ok-declarations.declarations }) in
    let found : verdict c.args.end c.args.tokens.now ≡ Found job = c.in_ok-head.ensures.run
    ∙ ap (with_head c.in_ok-head.head) c.in_ok-declarations.ensures.run in
    record { job = is_job c.args.end c.args.tokens.now job found; unexpected = λ at e. cc; too_deep = λ e. cc; verdict = found }
