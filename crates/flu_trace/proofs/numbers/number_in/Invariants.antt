use Rattle.std.proofs.Common.{◌≡◌, ◌≤◌, ◌-◌, ◌^◌, min, get_or, length, take, true}
use Rattle.std.specs.Char.{is_ascii_digit}
use Rattle.std.specs.List.{list_all}
use Rattle.std.specs.Str.Parse.{digits_value}
use Rattle.flu_trace.proofs.numbers.number_in.Given as goal

abbrev pub invariant-loop-digit : goal.invariant-loop-digit
invariant-loop-digit l = record {
  zero : get_or l.digits 0 0 ≡ 48 → length l.digits ≤ 1;
  value : l.number ≡ min (digits_value 10 (take l.digit-index l.digits)) (2 ^ 32 - 1);
  digits : list_all is_ascii_digit (take l.digit-index l.digits) ≡ true;
}
