use Rattle.std.proofs.Common.{ap, ◌∙◌, arith}
use Rattle.std.specs.Result.{result_ok}
use Rattle.std.specs.Int.{w128}
use Rattle.flu_partial.proofs.Numbers.{parse-signed_decimal_wide}
use Rattle.flu_partial.proofs.contributions.number_of.Goals as goal

pub returns : goal.returns
returns c n fits is = c.ok.ensures.value
    ∙ ap result_ok (parse-signed_decimal_wide w128 n c.args.text.now c.parse.result fits (omega (arith, fits.sfits)) is c.parse.ensures.value.0)
