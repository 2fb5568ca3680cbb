use Rattle.std.proofs.Common.{◌≡◌, map, length, take, ap, ◌∙◌, arith}
use Rattle.std.proofs.lemmas.Grind.{common_steps}
use Rattle.std.proofs.Math.Seq.{take-length}
use Rattle.serde_json.specs.Data.{array}
use Rattle.serde_json.specs.View.{view, items_of}
use Rattle.serde_json.specs.Written.{has_float}
use Rattle.serde_json.proofs.Views.{view-Array}
use Rattle.flu_partial.specs.Partial.{amount_value}
use Rattle.flu_partial.proofs.Exact.{amounts_exact}
use Rattle.flu_partial.proofs.printing.amounts_value.Goals as goal

pub loop-amount-preserved : goal.loop-amount-preserved
loop-amount-preserved c = grind (arith, common_steps)

pub returns : goal.returns
returns c =
    let xs = c.args.amounts.now in
    let count : c.loop-amount.amount-index ≡ length xs = omega (arith, c.loop-amount-test.false, c.loop-amount.auto.amount-index-end) in
    let all : map view c.loop-amount.values.items ≡ map amount_value xs = c.loop-amount.invariant ∙ ap (λ n. map amount_value (take n xs)) count ∙ ap (map amount_value) (take-length xs) in
    let value = view-Array c.loop-amount.values ∙ ap (λ ds. array (items_of ds)) all in
    record {
      value = value;
      exact = ap has_float value ∙ amounts_exact xs;
    }
