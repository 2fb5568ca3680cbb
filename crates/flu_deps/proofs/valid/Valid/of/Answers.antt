use Rattle.flu_deps.proofs.valid.Valid.of.Goals as goal

pub invariant_of-result : goal.invariant_of-result
invariant_of-result c = record {
  nodes = c.owners-owners.ensures.nodes;
  valid = ∣ (c.program.result.now, c.owners-owners.ensures.owners) ∣₁;
}
