use Rattle.std.proofs.Common.{◌≡◌, true, get_or, sym, rules, arith}
use Rattle.std.specs.Char.{is_ascii_digit}
use Rattle.flu_rows.proofs.front.cut_text.Goals as goal

pub returns-clause-value : goal.returns-clause-value
returns-clause-value c =
    let first : is_ascii_digit (get_or c.args.bytes.now 0 0) ≡ true = search rules in
    record {
      field = c.in_ok-field.field.now;
      cuts = c.in_ok-field.ensures;
      is = sym c.in_ok-time.ensures.value;
      first = first;
      filled = omega arith;
    }
