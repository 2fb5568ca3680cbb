use Rattle.std.proofs.Common.{get_or, refl, ◌∙◌}
use Rattle.flu_cells.specs.Holding.{held}
use Rattle.flu_contribution.proofs.KeptLemmas.{grown_more, grown_all}
use Rattle.flu_contribution.proofs.kept.add_family.Goals as goal

pub loop-key-preserved : goal.loop-key-preserved
loop-key-preserved c =
    let keys = c.as_slice-key-items.result.now in
    grown_more c.args.s.now (held c.args.state.now) c.loop-key.kept c.add_cell.new.kept c.args.family keys c.loop-key.key-index
    (get_or keys c.loop-key.key-index 0) refl c.in_ok-add_cell.ensures c.loop-key.invariant

pub returns : goal.returns
returns c =
    grown_all c.args.s.now (held c.args.state.now) c.loop-key.kept c.args.family c.as_slice-key-items.result.now c.loop-key.key-index
    (c.as_slice-key-items.ensures.value ∙ c.in_ok-keys.ensures) c.loop-key-test.false c.args.state.now.keys_in_range c.loop-key.invariant
