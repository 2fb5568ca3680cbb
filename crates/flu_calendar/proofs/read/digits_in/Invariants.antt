use Rattle.std.proofs.Common.{◌≡◌, take, true}
use Rattle.std.specs.Char.{is_ascii_digit}
use Rattle.std.specs.List.{list_all}
use Rattle.flu_calendar.proofs.Fractions.{Stepped}
use Rattle.flu_calendar.proofs.read.digits_in.Given as goal

abbrev pub invariant-loop-digit : goal.invariant-loop-digit
invariant-loop-digit l = record {
  step : Stepped l.fn.unit l.digits l.digit-index l.units l.weight;
  digits : list_all is_ascii_digit (take l.digit-index l.digits) ≡ true;
}
