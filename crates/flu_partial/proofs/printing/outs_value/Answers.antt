use Rattle.std.proofs.Common.{◌≡◌, map, length, take, ap, ◌∙◌, arith}
use Rattle.std.proofs.lemmas.Grind.{common_steps}
use Rattle.std.proofs.Math.Seq.{take-length}
use Rattle.serde_json.specs.Data.{array}
use Rattle.serde_json.specs.View.{view, items_of}
use Rattle.serde_json.specs.Written.{has_float}
use Rattle.serde_json.proofs.Views.{view-Array}
use Rattle.flu_partial.specs.Partial.{emitted_value}
use Rattle.flu_partial.proofs.Exact.{outs_exact}
use Rattle.flu_partial.proofs.printing.outs_value.Goals as goal

pub loop-out-preserved : goal.loop-out-preserved
loop-out-preserved c = grind (arith, common_steps)

pub returns : goal.returns
returns c =
    let xs = c.args.outs.now in
    let count : c.loop-out.out-index ≡ length xs = omega (arith, c.loop-out-test.false, c.loop-out.auto.out-index-end) in
    let all : map view c.loop-out.entries.items ≡ map emitted_value xs = c.loop-out.invariant ∙ ap (λ n. map emitted_value (take n xs)) count ∙ ap (map emitted_value) (take-length xs) in
    let value = view-Array c.loop-out.entries ∙ ap (λ ds. array (items_of ds)) all in
    record {
      value = value;
      exact = ap has_float value ∙ outs_exact xs;
    }
