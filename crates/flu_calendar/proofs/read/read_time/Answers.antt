use Rattle.std.proofs.Common.{◌≡◌, ℕ, ◌+◌, ◌*◌, ◌<◌, ◌^◌, Option, Some, None, IfNone, List, ◌∙◌, arith}
use Rattle.flu_calendar.specs.declared.unit.Unit.{Unit}
use Rattle.flu_calendar.specs.Texts.{IsTimeText}
use Rattle.flu_calendar.specs.TimeInText.{time_in_text}
use Rattle.flu_calendar.proofs.Computed.{value_found, none_found, time_below}
use Rattle.flu_calendar.proofs.Fractions.{time_fits}
use Rattle.flu_calendar.proofs.Pieces.{Parts, parts_of, time_said, rest_is}
use Rattle.flu_calendar.proofs.read.read_time.Goals as goal

says_none : (o : Option ℕ) (unit : Unit) (text : List ℕ) → ((t : ℕ) → Parts unit text t → ⊥) → IfNone o ((t : ℕ) → ¬ (IsTimeText unit text t))
says_none None unit text h = λ t says. h t (parts_of unit text t says)
says_none (Some n) unit text h = tt

pub returns-in_err-day-clause-says_none : goal.returns-in_err-day-clause-says_none
returns-in_err-day-clause-says_none c =
    says_none _ c.args.unit c.args.bytes.now (λ t parts. c.in_err-day.ensures.none parts.day_number parts.has_day)

pub returns-in_err-second-clause-says_none : goal.returns-in_err-second-clause-says_none
returns-in_err-second-clause-says_none c =
    says_none _ c.args.unit c.args.bytes.now (λ t parts. c.in_err-second.ensures.none parts.clock_seconds parts.has_clock)

pub returns-in_err-fraction-clause-says_none : goal.returns-in_err-fraction-clause-says_none
returns-in_err-fraction-clause-says_none c =
    says_none _ c.args.unit c.args.bytes.now
    (λ t parts. c.in_err-fraction.ensures.none parts.fraction_units (rw (rest_is c.args.bytes.now) parts.says_fraction))

pub overflow_add-result-2 : goal.overflow_add-result-2
overflow_add-result-2 c =
    let fits : (c.from.result * 86400 + c.from-2.result) * c.in_second.result + c.in_ok-fraction.fraction < 2 ^ 64 =
    time_fits c.args.unit c.from.result c.from-2.result c.in_second.result c.in_ok-fraction.fraction c.in_second.ensures
    (rw c.from.ensures c.in_ok-day.ensures.below_end) (rw c.from-2.ensures c.in_ok-second.ensures.in_day) c.in_ok-fraction.ensures.less in
    omega arith

pub returns-clause-says : goal.returns-clause-says
returns-clause-says c =
    rw (c.from.ensures, c.from-2.ensures, c.in_second.ensures)
    (time_said c.args.unit c.args.bytes.now c.in_ok-day.day c.in_ok-second.second c.in_ok-fraction.fraction
    c.in_ok-day.ensures.some c.in_ok-second.ensures.some (rw (rest_is c.args.bytes.now) at c.in_ok-fraction.ensures.some) c.if-bytes-lt-SECOND_LEN.false)

pub returns-clause-below_end : goal.returns-clause-below_end
returns-clause-below_end c =
    time_below c.args.unit c.from.result c.from-2.result c.in_second.result c.in_ok-fraction.fraction c.in_second.ensures
    (rw c.from.ensures c.in_ok-day.ensures.below_end) (rw c.from-2.ensures c.in_ok-second.ensures.in_day) c.in_ok-fraction.ensures.less

none_said : (unit : Unit) (text : List ℕ) → ((t : ℕ) → Parts unit text t → ⊥) → None ≡ time_in_text unit text
none_said unit text h = none_found unit text (λ t says. h t (parts_of unit text t says))

pub returns-then-bytes-lt-SECOND_LEN-clause-value : goal.returns-then-bytes-lt-SECOND_LEN-clause-value
returns-then-bytes-lt-SECOND_LEN-clause-value c =
    none_said c.args.unit c.args.bytes.now (λ t parts. let long = parts.long in let short = c.if-bytes-lt-SECOND_LEN.true in omega arith)

pub returns-in_err-day-clause-value : goal.returns-in_err-day-clause-value
returns-in_err-day-clause-value c =
    c.from_residual.ensures ∙ none_said c.args.unit c.args.bytes.now (λ t parts. c.in_err-day.ensures.none parts.day_number parts.has_day)

pub returns-in_err-second-clause-value : goal.returns-in_err-second-clause-value
returns-in_err-second-clause-value c =
    c.from_residual-in_err-second.ensures
    ∙ none_said c.args.unit c.args.bytes.now (λ t parts. c.in_err-second.ensures.none parts.clock_seconds parts.has_clock)

pub returns-in_err-fraction-clause-value : goal.returns-in_err-fraction-clause-value
returns-in_err-fraction-clause-value c =
    c.from_residual-in_err-fraction.ensures
    ∙ none_said c.args.unit c.args.bytes.now
    (λ t parts. c.in_err-fraction.ensures.none parts.fraction_units (rw (rest_is c.args.bytes.now) parts.says_fraction))

pub returns-clause-value : goal.returns-clause-value
returns-clause-value c =
    value_found c.args.unit c.args.bytes.now _ (rw (c.from.ensures, c.from-2.ensures, c.in_second.ensures)
    (time_said c.args.unit c.args.bytes.now c.in_ok-day.day c.in_ok-second.second c.in_ok-fraction.fraction
    c.in_ok-day.ensures.some c.in_ok-second.ensures.some (rw (rest_is c.args.bytes.now) at c.in_ok-fraction.ensures.some) c.if-bytes-lt-SECOND_LEN.false))
