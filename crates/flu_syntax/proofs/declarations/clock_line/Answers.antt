use Rattle.std.proofs.Common.{◌∙◌}
use Rattle.std.proofs.lemmas.Result.{err_from_is_err_and}
use Rattle.flu_syntax.proofs.Runs.{Tells-through}
use Rattle.flu_syntax.proofs.Parts.{tells, run-expected, run-unexpected, run-named, run-no_name, run-number, run-no_number}
use Rattle.flu_syntax.specs.Tree.{Clock}
use Rattle.flu_syntax.proofs.Parts.{run-declared}
use Rattle.flu_syntax.proofs.Clocks.{clock_name, clock_every, clock_period, clock_colon, clock_tag}
use Rattle.flu_syntax.proofs.declarations.clock_line.Goals as goal

pub returns-in_err-clock-clause-run : goal.returns-in_err-clock-clause-run
returns-in_err-clock-clause-run c =
    let p = err_from_is_err_and c.from_residual.result c.from_residual.ensures.1 in
    rw (p.1, p.2) (λ job. tells _ _ _ c.in_err-clock.ensures.front.0
    (run-no_name c.args.end job c.args.tokens.now (clock_name c.args.at) c.in_err-clock.ensures.front.1))

pub returns-in_err-rest-clause-run : goal.returns-in_err-rest-clause-run
returns-in_err-rest-clause-run c =
    let name = c.in_ok-clock.clock in
    let p = err_from_is_err_and c.from_residual-in_err-rest.result c.from_residual-in_err-rest.ensures.1 in
    rw (p.1, p.2) (λ job. tells _ _ _ c.in_err-rest.ensures.front.0 (
    run-named c.args.end job c.args.tokens.now c.in_ok-clock.rest.now name (clock_name c.args.at) c.in_ok-clock.ensures.front
    ∙ run-unexpected c.args.end job c.in_ok-clock.rest.now (clock_every c.args.at name) c.in_err-rest.ensures.front.1))

pub returns-in_err-every-clause-run : goal.returns-in_err-every-clause-run
returns-in_err-every-clause-run c =
    let name = c.in_ok-clock.clock in
    let p = err_from_is_err_and c.from_residual-in_err-every.result c.from_residual-in_err-every.ensures.1 in
    rw (p.1, p.2) (λ job. tells _ _ _ c.in_err-every.ensures.front.0 (
    run-named c.args.end job c.args.tokens.now c.in_ok-clock.rest.now name (clock_name c.args.at) c.in_ok-clock.ensures.front
    ∙ run-expected c.args.end job c.in_ok-clock.rest.now c.in_ok-rest.rest.now c.in_ok-rest.field-0-0 (clock_every c.args.at name)
    c.in_ok-rest.ensures.front
    ∙ run-no_number c.args.end job c.in_ok-rest.rest.now (clock_period c.args.at name) c.in_err-every.ensures.front.1))

pub returns-in_err-rate-clause-run : goal.returns-in_err-rate-clause-run
returns-in_err-rate-clause-run c =
    let name = c.in_ok-clock.clock in
    let every = c.in_ok-every.every in
    let p = err_from_is_err_and c.from_residual-in_err-rate.result c.from_residual-in_err-rate.ensures.1 in
    rw (p.1, p.2) (λ job. Tells-through _ _ _ (
    run-named c.args.end job c.args.tokens.now c.in_ok-clock.rest.now name (clock_name c.args.at) c.in_ok-clock.ensures.front
    ∙ run-expected c.args.end job c.in_ok-clock.rest.now c.in_ok-rest.rest.now c.in_ok-rest.field-0-0 (clock_every c.args.at name)
    c.in_ok-rest.ensures.front
    ∙ run-number c.args.end job c.in_ok-rest.rest.now c.in_ok-every.rest.now every (clock_period c.args.at name) c.in_ok-every.ensures.front)
    (c.in_err-rate.ensures.clocks (job, c.args.at, name, every)))

pub returns-in_err-rest-2-clause-run : goal.returns-in_err-rest-2-clause-run
returns-in_err-rest-2-clause-run c =
    let name = c.in_ok-clock.clock in
    let every = c.in_ok-every.every in
    let p = err_from_is_err_and c.from_residual-in_err-rest-2.result c.from_residual-in_err-rest-2.ensures.1 in
    rw (p.1, p.2) (λ job. tells _ _ _ c.in_err-rest-2.ensures.front.0 (
    run-named c.args.end job c.args.tokens.now c.in_ok-clock.rest.now name (clock_name c.args.at) c.in_ok-clock.ensures.front
    ∙ run-expected c.args.end job c.in_ok-clock.rest.now c.in_ok-rest.rest.now c.in_ok-rest.field-0-0 (clock_every c.args.at name)
    c.in_ok-rest.ensures.front
    ∙ run-number c.args.end job c.in_ok-rest.rest.now c.in_ok-every.rest.now every (clock_period c.args.at name) c.in_ok-every.ensures.front
    ∙ c.in_ok-rate.ensures.clocks (job, c.args.at, name, every)
    ∙ run-unexpected c.args.end job c.in_ok-rate.rest.now (clock_colon c.args.at name every c.in_ok-rate.rate) c.in_err-rest-2.ensures.front.1))

pub returns-in_err-tag-clause-run : goal.returns-in_err-tag-clause-run
returns-in_err-tag-clause-run c =
    let name = c.in_ok-clock.clock in
    let every = c.in_ok-every.every in
    let rate = c.in_ok-rate.rate in
    let p = err_from_is_err_and c.from_residual-in_err-tag.result c.from_residual-in_err-tag.ensures.1 in
    rw (p.1, p.2) (λ job. tells _ _ _ c.in_err-tag.ensures.front.0 (
    run-named c.args.end job c.args.tokens.now c.in_ok-clock.rest.now name (clock_name c.args.at) c.in_ok-clock.ensures.front
    ∙ run-expected c.args.end job c.in_ok-clock.rest.now c.in_ok-rest.rest.now c.in_ok-rest.field-0-0 (clock_every c.args.at name)
    c.in_ok-rest.ensures.front
    ∙ run-number c.args.end job c.in_ok-rest.rest.now c.in_ok-every.rest.now every (clock_period c.args.at name) c.in_ok-every.ensures.front
    ∙ c.in_ok-rate.ensures.clocks (job, c.args.at, name, every)
    ∙ run-expected c.args.end job c.in_ok-rate.rest.now c.in_ok-rest-2.rest.now c.in_ok-rest-2.field-0-0 (clock_colon c.args.at name every rate)
    c.in_ok-rest-2.ensures.front
    ∙ run-no_name c.args.end job c.in_ok-rest-2.rest.now (clock_tag c.args.at name every rate) c.in_err-tag.ensures.front.1))

pub returns-clause-run : goal.returns-clause-run
returns-clause-run c =
    let name = c.in_ok-clock.clock in
    let every = c.in_ok-every.every in
    let rate = c.in_ok-rate.rate in
    λ job.
    run-named c.args.end job c.args.tokens.now c.in_ok-clock.rest.now name (clock_name c.args.at) c.in_ok-clock.ensures.front
    ∙ run-expected c.args.end job c.in_ok-clock.rest.now c.in_ok-rest.rest.now c.in_ok-rest.field-0-0 (clock_every c.args.at name)
    c.in_ok-rest.ensures.front
    ∙ run-number c.args.end job c.in_ok-rest.rest.now c.in_ok-every.rest.now every (clock_period c.args.at name) c.in_ok-every.ensures.front
    ∙ c.in_ok-rate.ensures.clocks (job, c.args.at, name, every)
    ∙ run-expected c.args.end job c.in_ok-rate.rest.now c.in_ok-rest-2.rest.now c.in_ok-rest-2.field-0-0 (clock_colon c.args.at name every rate)
    c.in_ok-rest-2.ensures.front
    ∙ run-named c.args.end job c.in_ok-rest-2.rest.now c.in_ok-tag.rest.now c.in_ok-tag.tag (clock_tag c.args.at name every rate)
    c.in_ok-tag.ensures.front
    ∙ run-declared c.args.end job (Clock c.args.at name every rate c.in_ok-tag.tag) c.in_ok-tag.rest.now
