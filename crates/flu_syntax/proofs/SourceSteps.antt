-- The turns of the lines of sources and clocks, as they are accepted.
use Rattle.std.proofs.Common.{◌≡◌, ℕ, List, ◌∷◌, ◌++◌, Option, Some, None, refl}
use Rattle.flu_text.specs.declared.words.Token.{Token}
use Rattle.flu_text.specs.declared.words.Word.TheVariants as w
use Rattle.flu_text.specs.declared.words.Contextual.TheVariants as contextual
use Rattle.flu_names.specs.declared.reserved.Reserved.TheVariants as r
use Rattle.flu_text.specs.declared.words.Mark.TheVariants as m
use Rattle.flu_text.specs.declared.written.WrittenSpan.{WrittenSpan}
use Rattle.flu_text.specs.declared.written.WrittenNumber.{WrittenNumber}
use Rattle.flu_syntax.specs.Tree.{Clock, Declarations}
use Rattle.flu_syntax.specs.Machine.{Declared}
use Rattle.flu_syntax.specs.Machine.{SourceName, SourceFile, SourceRate}
use Rattle.flu_syntax.specs.Machine.{RateNumber, SourceSlack, SlackNumber, SourceColon, TagKind}
use Rattle.flu_syntax.specs.Machine.{Goes}
use Rattle.flu_syntax.specs.Machine.{source_of, step}
use Rattle.flu_syntax.specs.Machine.{ClockName, ClockEvery, ClockPeriod, ClockRate, ClockRateNumber, ClockColon, ClockTag}
use Rattle.flu_text.specs.Signs.{Sign, Any, At, Spanned, Named, IsSign, AreSigns}
use Rattle.flu_syntax.specs.Grammar.{rate_signs, slack_signs}
use Rattle.flu_syntax.proofs.Parts.{run-passed, source_plain}
use Rattle.flu_syntax.proofs.Parts.{source_prompt}
use Rattle.flu_syntax.proofs.Clocks.{clock_plain}
use Rattle.flu_syntax.proofs.Accepts.{on_named, Same, ◌then◌, LeadsTo, takes_sign, NotWord, not_first}

pub source_name_step : (n : WrittenSpan) (t : Token) → IsSign (Named n) t → step SourceName t ≡ Goes (SourceFile n)
unfolding step
source_name_step n t h = on_named n t (λ name. SourceFile name) h

pub source_file_step : (n file : WrittenSpan) (t : Token) → IsSign (Spanned w.Text file) t → step (SourceFile n) t ≡ Goes (SourceRate n file)
unfolding step
source_file_step n file t h = rw (h.0, h.1, h.2) refl

source_rate_step : (n file : WrittenSpan) (t : Token) → IsSign (Any (w.Reserved r.Rate)) t → step (SourceRate n file) t ≡ Goes (RateNumber n file)
unfolding step
source_rate_step n file t h = rw h refl

rate_number_step : (n file : WrittenSpan) (rate : WrittenNumber) (t : Token) → IsSign (At (w.Number rate.value) rate.at) t
    → step (RateNumber n file) t ≡ Goes (SourceSlack n file (Some rate))
unfolding step
rate_number_step n file rate t h = rw (h.0, h.1) refl

source_slack_step : (n file : WrittenSpan) (rate : Option WrittenNumber) (t : Token) → IsSign (Any (w.Reserved r.Slack)) t
    → step (SourceSlack n file rate) t ≡ Goes (SlackNumber n file rate)
unfolding step
source_slack_step n file rate t h = rw h refl

slack_number_step : (n file : WrittenSpan) (rate : Option WrittenNumber) (slack : WrittenNumber) (t : Token) → IsSign (At (w.Number slack.value) slack.at) t
    → step (SlackNumber n file rate) t ≡ Goes (SourceColon n file rate (Some slack))
unfolding step
slack_number_step n file rate slack t h = rw (h.0, h.1) refl

pub source_colon_step : (n file : WrittenSpan) (rate slack : Option WrittenNumber) (t : Token) → IsSign (Any (w.Mark m.Colon)) t
    → step (SourceColon n file rate slack) t ≡ Goes (TagKind (source_of n file rate slack))
unfolding step
source_colon_step n file rate slack t h = rw h refl

abbrev pub behind_rate : Option WrittenNumber → List Sign → List Sign
behind_rate slack more = slack_signs slack ++ (Any (w.Mark m.Colon) ∷ more)

not_a_rate : (slack : Option WrittenNumber) (more : List Sign) → NotWord (w.Reserved r.Rate) (behind_rate slack more)
not_a_rate None more = λ e. cc
not_a_rate (Some slack) more = λ e. cc

pub accepts_rate : (most end : ℕ) (job : Declarations) (n file : WrittenSpan) (rate slack : Option WrittenNumber) (tokens : List Token) (more : List Sign)
    → AreSigns (rate_signs rate ++ behind_rate slack more) tokens
    → LeadsTo most end job (SourceRate n file) tokens job (SourceSlack n file rate) (behind_rate slack more)
accepts_rate most end job n file None slack tokens more h =
    (tokens, h, Same (run-passed end job tokens (source_plain n file) (not_first _ tokens (behind_rate slack more) h (not_a_rate slack more))))
accepts_rate most end job n file (Some rate) slack tokens more h =
    let number = At (w.Number rate.value) rate.at in
    let a = takes_sign most end job (SourceRate n file) (RateNumber n file) tokens (Any (w.Reserved r.Rate)) (number ∷ behind_rate slack more) h
    (source_rate_step n file) in
    let b = takes_sign most end job (RateNumber n file) (SourceSlack n file (Some rate)) a.0 number (behind_rate slack more) a.1
    (rate_number_step n file rate) in
    (b.0, b.1, a.2 then b.2)

pub accepts_slack : (most end : ℕ) (job : Declarations) (n file : WrittenSpan) (rate slack : Option WrittenNumber) (tokens : List Token) (more : List Sign)
    → AreSigns (behind_rate slack more) tokens
    → LeadsTo most end job (SourceSlack n file rate) tokens job (SourceColon n file rate slack) (Any (w.Mark m.Colon) ∷ more)
accepts_slack most end job n file rate None tokens more h =
    (tokens, h, Same (run-passed end job tokens (source_prompt n file rate) (not_first _ tokens (Any (w.Mark m.Colon) ∷ more) h (λ e. cc))))
accepts_slack most end job n file rate (Some slack) tokens more h =
    let number = At (w.Number slack.value) slack.at in
    let behind = Any (w.Mark m.Colon) ∷ more in
    let a = takes_sign most end job (SourceSlack n file rate) (SlackNumber n file rate) tokens (Any (w.Reserved r.Slack)) (number ∷ behind) h
    (source_slack_step n file rate) in
    let b = takes_sign most end job (SlackNumber n file rate) (SourceColon n file rate (Some slack)) a.0 number behind a.1
    (slack_number_step n file rate slack) in
    (b.0, b.1, a.2 then b.2)

pub clock_name_step : (at : ℕ) (n : WrittenSpan) (t : Token) → IsSign (Named n) t → step (ClockName at) t ≡ Goes (ClockEvery at n)
unfolding step
clock_name_step at n t h = on_named n t (λ name. ClockEvery at name) h

pub clock_every_step : (at : ℕ) (n : WrittenSpan) (t : Token) → IsSign (Any (w.Name contextual.Every)) t → step (ClockEvery at n) t ≡ Goes (ClockPeriod at n)
unfolding step
clock_every_step at n t h = rw h refl

pub clock_period_step : (at : ℕ) (n : WrittenSpan) (every : WrittenNumber) (t : Token) → IsSign (At (w.Number every.value) every.at) t
    → step (ClockPeriod at n) t ≡ Goes (ClockRate at n every)
unfolding step
clock_period_step at n every t h = rw (h.0, h.1) refl

clock_rate_step : (at : ℕ) (n : WrittenSpan) (every : WrittenNumber) (t : Token) → IsSign (Any (w.Reserved r.Rate)) t
    → step (ClockRate at n every) t ≡ Goes (ClockRateNumber at n every)
unfolding step
clock_rate_step at n every t h = rw h refl

clock_number_step : (at : ℕ) (n : WrittenSpan) (every rate : WrittenNumber) (t : Token) → IsSign (At (w.Number rate.value) rate.at) t
    → step (ClockRateNumber at n every) t ≡ Goes (ClockColon at n every (Some rate))
unfolding step
clock_number_step at n every rate t h = rw (h.0, h.1) refl

pub clock_colon_step : (at : ℕ) (n : WrittenSpan) (every : WrittenNumber) (rate : Option WrittenNumber) (t : Token) → IsSign (Any (w.Mark m.Colon)) t
    → step (ClockColon at n every rate) t ≡ Goes (ClockTag at n every rate)
unfolding step
clock_colon_step at n every rate t h = rw h refl

pub clock_tag_step : (at : ℕ) (n : WrittenSpan) (every : WrittenNumber) (rate : Option WrittenNumber) (tag : WrittenSpan) (t : Token) → IsSign (Named tag) t
    → step (ClockTag at n every rate) t ≡ Goes (Declared (Clock at n every rate tag))
unfolding step
clock_tag_step at n every rate tag t h = on_named tag t (λ tag. Declared (Clock at n every rate tag)) h

pub accepts_clock_rate : (most end : ℕ) (job : Declarations) (at : ℕ) (n : WrittenSpan) (every : WrittenNumber) (rate : Option WrittenNumber)
    (tokens : List Token) (more : List Sign) → AreSigns (rate_signs rate ++ (Any (w.Mark m.Colon) ∷ more)) tokens
    → LeadsTo most end job (ClockRate at n every) tokens job (ClockColon at n every rate) (Any (w.Mark m.Colon) ∷ more)
accepts_clock_rate most end job at n every None tokens more h =
    (tokens, h, Same (run-passed end job tokens (clock_plain at n every) (not_first _ tokens (Any (w.Mark m.Colon) ∷ more) h (λ e. cc))))
accepts_clock_rate most end job at n every (Some rate) tokens more h =
    let number = At (w.Number rate.value) rate.at in
    let behind = Any (w.Mark m.Colon) ∷ more in
    let a = takes_sign most end job (ClockRate at n every) (ClockRateNumber at n every) tokens (Any (w.Reserved r.Rate)) (number ∷ behind) h
    (clock_rate_step at n every) in
    let b = takes_sign most end job (ClockRateNumber at n every) (ClockColon at n every (Some rate)) a.0 number behind a.1
    (clock_number_step at n every rate) in
    (b.0, b.1, a.2 then b.2)
