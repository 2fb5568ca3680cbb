use Rattle.flu_cells.specs.Holding.{held}
use Rattle.flu_handover.proofs.OfFamilies.{next_family, next_width}
use Rattle.flu_handover.proofs.amounts.amounts_of.Goals as goal

pub loop-family-preserved : goal.loop-family-preserved
loop-family-preserved c =
    let s = held c.args.s.now in
    let i = c.loop-family.family in
    record {
      amounts = next_family s i c.loop-family.amounts.items c.add_family.new.amounts.items c.loop-family.invariant.amounts
          c.in_ok-add_family.ensures.amounts;
      width = next_width s i c.loop-family.invariant.width c.in_ok-add_family.ensures.width;
    }
