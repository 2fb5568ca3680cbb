-- The turns of a clock's line.
use Rattle.std.proofs.Common.{◌≡◌, ◌≢◌, ℕ, Option, Some, None, refl}
use Rattle.flu_text.specs.declared.words.Token.{Token}
use Rattle.flu_text.specs.declared.words.Word.{Word}
use Rattle.flu_text.specs.declared.words.Word.TheVariants as w
use Rattle.flu_text.specs.declared.words.Contextual.TheVariants as contextual
use Rattle.flu_names.specs.declared.reserved.Reserved.TheVariants as r
use Rattle.flu_text.specs.declared.words.Mark.TheVariants as m
use Rattle.flu_text.specs.declared.written.WrittenSpan.{WrittenSpan}
use Rattle.flu_text.specs.declared.written.WrittenNumber.{WrittenNumber}
use Rattle.flu_syntax.specs.Tree.{Clock}
use Rattle.flu_text.specs.Signs.{span_of, number_of}
use Rattle.flu_syntax.specs.Machine.{Now}
use Rattle.flu_syntax.specs.Machine.{Declared}
use Rattle.flu_syntax.specs.Machine.{Goes, Refused}
use Rattle.flu_syntax.specs.Machine.{named, on_colon}
use Rattle.flu_syntax.specs.Machine.{step, whole}
use Rattle.flu_syntax.specs.Machine.{ClockName, ClockEvery, ClockPeriod, ClockRate, ClockRateNumber, ClockColon, ClockTag, on_every, clock_rate_step}
use Rattle.flu_syntax.proofs.Parts.{Expects, ExpectsNumber, ExpectsName, Passes, name_takes, name_only, colon_only, number_only}

pub clock_name : (at : ℕ) → ExpectsName (ClockName at) (λ name. ClockEvery at name)
unfolding step whole
clock_name at = record {
  takes = λ t named. name_takes t.word (ClockEvery at (span_of t)) named;
  refuses = λ t other. name_only t.word (ClockEvery at (span_of t)) other;
  none = refl;
}

every_only : (word : Word) (now : Now) → word ≢ w.Name contextual.Every → on_every word now ≡ Refused
every_only (w.Name contextual.Every) now ne = absurd (ne refl)
every_only _ now ne = refl

pub clock_every : (at : ℕ) (name : WrittenSpan) → Expects (ClockEvery at name) (w.Name contextual.Every) (λ t. ClockPeriod at name)
unfolding step whole
clock_every at name = record { takes = λ t e. rw e refl; refuses = λ t ne. every_only t.word (ClockPeriod at name) ne; none = refl }

pub clock_period : (at : ℕ) (name : WrittenSpan) → ExpectsNumber (ClockPeriod at name) (λ n. ClockRate at name n)
unfolding step whole
clock_period at name = record
    { takes = λ t n e. rw e refl; refuses = λ t nor. number_only t.word (λ n. ClockRate at name (number_of n t)) nor; none = refl }

pub clock_rate : (at : ℕ) (name : WrittenSpan) (every : WrittenNumber) (t : Token) → t.word ≡ w.Reserved r.Rate
    → step (ClockRate at name every) t ≡ Goes (ClockRateNumber at name every)
unfolding step
clock_rate at name every t e = rw e refl

no_clock_rate : (at : ℕ) (name : WrittenSpan) (every : WrittenNumber) (word : Word) → word ≢ w.Reserved r.Rate
    → clock_rate_step at name every word ≡ on_colon word (ClockTag at name every None)
no_clock_rate at name every (w.Reserved r.Rate) ne = absurd (ne refl)
no_clock_rate at name every _ ne = refl

pub clock_plain : (at : ℕ) (name : WrittenSpan) (every : WrittenNumber)
    → Passes (ClockRate at name every) (w.Reserved r.Rate) (ClockColon at name every None)
unfolding step whole
clock_plain at name every = record { whole = refl; same = λ t ne. no_clock_rate at name every t.word ne }

pub clock_rate_number : (at : ℕ) (name : WrittenSpan) (every : WrittenNumber)
    → ExpectsNumber (ClockRateNumber at name every) (λ n. ClockColon at name every (Some n))
unfolding step whole
clock_rate_number at name every = record {
  takes = λ t n e. rw e refl;
  refuses = λ t nor. number_only t.word (λ n. ClockColon at name every (Some (number_of n t))) nor;
  none = refl;
}

pub clock_colon : (at : ℕ) (name : WrittenSpan) (every : WrittenNumber) (rate : Option WrittenNumber)
    → Expects (ClockColon at name every rate) (w.Mark m.Colon) (λ t. ClockTag at name every rate)
unfolding step whole
clock_colon at name every rate = record
    { takes = λ t e. rw e refl; refuses = λ t ne. colon_only t.word (ClockTag at name every rate) ne; none = refl }

pub clock_tag : (at : ℕ) (name : WrittenSpan) (every : WrittenNumber) (rate : Option WrittenNumber)
    → ExpectsName (ClockTag at name every rate) (λ tag. Declared (Clock at name every rate tag))
unfolding step whole
clock_tag at name every rate = record {
  takes = λ t named. name_takes t.word (Declared (Clock at name every rate (span_of t))) named;
  refuses = λ t other. name_only t.word (Declared (Clock at name every rate (span_of t))) other;
  none = refl;
}
