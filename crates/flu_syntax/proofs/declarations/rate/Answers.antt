use Rattle.std.proofs.Common.{◌∙◌}
use Rattle.std.proofs.lemmas.Result.{err_from_is_err_and}
use Rattle.flu_text.specs.declared.words.Word.TheVariants as w
use Rattle.flu_names.specs.declared.reserved.Reserved.TheVariants as r
use Rattle.flu_syntax.specs.Machine.{SourceRate, RateNumber, ClockRate, ClockRateNumber}
use Rattle.flu_syntax.proofs.Parts.{tells, run-word, run-passed, run-number, run-no_number, source_rate, source_plain, rate_number}
use Rattle.flu_syntax.proofs.Clocks.{clock_rate, clock_plain, clock_rate_number}
use Rattle.flu_syntax.proofs.declarations.rate.Goals as goal

pub returns-in_default-clause-sources : goal.returns-in_default-clause-sources
returns-in_default-clause-sources c = λ here. run-passed c.args.end here.0 c.args.tokens.now (source_plain here.1 here.2) c.in_default.ensures.front

pub returns-in_err-rate-clause-sources : goal.returns-in_err-rate-clause-sources
returns-in_err-rate-clause-sources c =
    let p = err_from_is_err_and c.from_residual.result c.from_residual.ensures.1 in
    rw (p.1, p.2) (λ here. tells _ _ _ c.in_err-rate.ensures.front.0
    (run-word c.args.end here.0 (SourceRate here.1 here.2) (RateNumber here.1 here.2) (w.Reserved r.Rate) c.args.tokens.now c.in-Some.rest.now
    c.in-Some.field-0-0 (source_rate here.1 here.2) c.in-Some.ensures.front
    ∙ run-no_number c.args.end here.0 c.in-Some.rest.now (rate_number here.1 here.2) c.in_err-rate.ensures.front.1))

pub returns-clause-sources : goal.returns-clause-sources
returns-clause-sources c = λ here. run-word c.args.end here.0 (SourceRate here.1 here.2) (RateNumber here.1 here.2) (w.Reserved r.Rate) c.args.tokens.now
    c.in-Some.rest.now c.in-Some.field-0-0 (source_rate here.1 here.2) c.in-Some.ensures.front
    ∙ run-number c.args.end here.0 c.in-Some.rest.now c.in_ok-rate.rest.now c.in_ok-rate.rate (rate_number here.1 here.2) c.in_ok-rate.ensures.front

pub returns-in_default-clause-clocks : goal.returns-in_default-clause-clocks
returns-in_default-clause-clocks c = λ here. run-passed c.args.end here.0 c.args.tokens.now (clock_plain here.1 here.2 here.3) c.in_default.ensures.front

pub returns-in_err-rate-clause-clocks : goal.returns-in_err-rate-clause-clocks
returns-in_err-rate-clause-clocks c =
    let p = err_from_is_err_and c.from_residual.result c.from_residual.ensures.1 in
    rw (p.1, p.2) (λ here. tells _ _ _ c.in_err-rate.ensures.front.0
    (run-word c.args.end here.0 (ClockRate here.1 here.2 here.3) (ClockRateNumber here.1 here.2 here.3) (w.Reserved r.Rate) c.args.tokens.now c.in-Some.rest.now
    c.in-Some.field-0-0 (clock_rate here.1 here.2 here.3) c.in-Some.ensures.front
    ∙ run-no_number c.args.end here.0 c.in-Some.rest.now (clock_rate_number here.1 here.2 here.3) c.in_err-rate.ensures.front.1))

pub returns-clause-clocks : goal.returns-clause-clocks
returns-clause-clocks c = λ here. run-word c.args.end here.0 (ClockRate here.1 here.2 here.3) (ClockRateNumber here.1 here.2 here.3)
    (w.Reserved r.Rate) c.args.tokens.now
    c.in-Some.rest.now c.in-Some.field-0-0 (clock_rate here.1 here.2 here.3) c.in-Some.ensures.front
    ∙ run-number c.args.end here.0 c.in-Some.rest.now c.in_ok-rate.rest.now c.in_ok-rate.rate
    (clock_rate_number here.1 here.2 here.3) c.in_ok-rate.ensures.front
