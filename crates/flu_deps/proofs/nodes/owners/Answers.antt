use Rattle.std.proofs.Common.{◌≡◌, ◌<◌, ◌≤◌, Some, length, refl, sym, ap, ◌∙◌, arith}
use Rattle.std.specs.Prelude.{slice_index}
use Rattle.std.proofs.Math.ListN.{set}
use Rattle.std.proofs.lemmas.Grind.{get_or-set_at}
use Rattle.std.proofs.lemmas.List.{length-set, get_or-set_other}
use Rattle.flu_model.specs.Itags.{count_of_itags}
use Rattle.flu_model.specs.Owners.{owner_of}
use Rattle.flu_lemmas.proofs.Numbers.{one_more}
use Rattle.flu_deps.proofs.NodeLemmas.{has_root, zeros_below, set_below}
use Rattle.flu_deps.proofs.nodes.owners.Goals as goal

pub loop-i-init : goal.loop-i-init
loop-i-init c = record {
  size = refl;
  owner = λ k lt. absurd (omega arith);
  nodes = λ k lt. zeros_below 256 k _ lt (has_root c.args.plan.now.nodes c.args.plan.now.one_tree);
}

pub loop-i-preserved : goal.loop-i-preserved
loop-i-preserved c =
    let p = c.args.p.now in
    let nodes = c.args.plan.now.nodes in
    let old = c.loop-i.owners in
    let i = c.loop-i.i in
    let w = c.owner.result in
    let few : count_of_itags p ≤ 256 = p.few_itags in
    let size = c.loop-i.invariant.size in
    let within : i < length old = omega arith in
    record {
      size = length-set old i w ∙ size;
      owner = λ k lt.
          one_more (λ n. owner_of p nodes (record { 0 = n }) ≡ Some (slice_index (set old i w) n)) i
          (λ n less. c.loop-i.invariant.owner (record { 0 = n }) less ∙ sym (ap Some (get_or-set_other old i n w 0 (λ e. omega arith))))
          (c.owner.ensures.owner ∙ sym (ap Some (get_or-set_at old i i w 0 refl within)))
          k.0 lt;
      nodes = λ k lt. set_below old i w k (length nodes) lt c.loop-i.invariant.nodes c.owner.ensures.node;
    }
