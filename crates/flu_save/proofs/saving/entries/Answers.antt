use Rattle.std.proofs.Common.{◌+◌, ◌<◌, ◌++◌, length, get_or, ap, subst, ◌∙◌}
use Rattle.flu_cells.specs.Holding.{held}
use Rattle.flu_save.proofs.Values.{family_entries, next_family, next_width}
use Rattle.flu_save.proofs.saving.entries.Goals as goal

pub loop-family-preserved : goal.loop-family-preserved
loop-family-preserved c =
    let families = c.args.p.now.families in
    let s = held c.args.s.now in
    let f = c.family-item.result in
    let i = c.loop-family.family-index in
    let there = c.items-family-items.ensures in
    record {
      number = ap (λ n. n + 1) c.loop-family.invariant.number;
      entries =
          c.in_ok-add_family.ensures.entries
          ∙ ap (λ ds. ds ++ family_entries f s c.loop-family.number) c.loop-family.invariant.entries
          ∙ next_family families s c.loop-family.number i f c.loop-family.invariant.number
          (subst (λ xs. i < length xs) there c.loop-family-test.true) (c.family-item.is ∙ ap (λ xs. get_or xs i f) there);
      width = next_width s c.loop-family.number i c.loop-family.invariant.number c.loop-family.invariant.width c.in_ok-add_family.ensures.width;
    }
