use Rattle.std.proofs.Common.{◌≡◌, ℕ, ◌++◌, List, map, length, take, ap, sym, subst, ◌∙◌, below_more, arith}
use Rattle.std.proofs.lemmas.Grind.{common_steps}
use Rattle.std.proofs.Math.Seq.{take-length}
use Rattle.std.proofs.lemmas.Simd.{map-map}
use Rattle.flu_cells.specs.Holding.{held}
use Rattle.flu_model.specs.Contents.{cell, held_keys}
use Rattle.flu_partial.specs.declared.values.Amount.{Amount}
use Rattle.flu_save.specs.Checkpoint.{HasWordWidth}
use Rattle.flu_handover.specs.Parts.{amount_of}
use Rattle.flu_handover.proofs.amounts.add_family.Goals as goal

pub loop-key-preserved : goal.loop-key-preserved
loop-key-preserved c = record {
  amounts = grind (arith, common_steps);
  width = below_more _ _ c.loop-key.invariant.width (subst HasWordWidth c.get.ensures c.number_held-value.ensures.width);
}

pub returns-clause-amounts : goal.returns-clause-amounts
returns-clause-amounts c =
    let s = held c.args.s.now in
    let f = c.args.family in
    let old = c.args.amounts.now.items in
    let keys = c.as_slice-key-items.result.now in
    let count : c.loop-key.key-index ≡ length keys = omega (arith, c.loop-key-test.false, c.loop-key.auto.key-index-end) in
    let all : take c.loop-key.key-index keys ≡ held_keys s f = ap (λ n. take n keys) count ∙ take-length keys ∙ c.as_slice-key-items.ensures.value
    ∙ c.in_ok-keys.ensures in
    c.loop-key.invariant.amounts
    ∙ ap (λ (ks : List ℕ). old ++ map (λ k. amount_of s (cell f k)) ks) all
    ∙ ap (λ (xs : List Amount). old ++ xs) (sym (map-map (amount_of s) (cell f) (held_keys s f)))
