use Rattle.std.proofs.Common.{◌≡◌, sym, ap, ◌∙◌}
use Rattle.std.specs.Prelude.{Bool, ◌==◌, ◌&&◌, ◌||◌, not}
use Rattle.flu_model.specs.declared.events.Cell.{Cell}
use Rattle.flu_model.specs.Contents.{is_same_cell}
use Rattle.flu_cells.specs.Entries.{overlay}
use Rattle.flu_cells.specs.Holding.{held}
use Rattle.flu_cells.specs.Sets.{is_in, is_in_but, only}
use Rattle.flu_cells.proofs.Moves.{nothing-overlay}
use Rattle.flu_cells.proofs.Parting.{in_families, in_cells, first_family_but, first_cell, copy_step}
use Rattle.flu_cells.proofs.state.State.copy_of.Goals as goal

pub loop-family-init : goal.loop-family-init
loop-family-init c =
    (λ i. overlay (c.new-copy.ensures i)
    (only (λ d. in_families (c.into_iter-family-iterator.ensures.into_iter_gives.0 i) d && not (is_in c.args.but.now d)) (held c.args.self.now)))
    ∙ nothing-overlay _

pub loop-family-preserved : goal.loop-family-preserved
loop-family-preserved c =
    let q : Cell → Bool = λ d. not (is_in c.args.but.now d) in
    copy_step (λ d. (d.family == c.in-Some.family.now) && q d) (λ d. in_families c.next.new.self d && q d)
    (λ d. in_families c.loop-family.family-iterator d && q d) (held c.args.self.now) (held c.loop-family.copy) _ _
    (ap (λ fs d. in_families fs d && q d) c.in-Some.ensures.steps ∙ first_family_but q _ _) c.loop-family.invariant c.in_ok-copy_family.ensures

pub loop-cell-init : goal.loop-cell-init
loop-cell-init c =
    let w = c.args.wanted.now in
    let s = held c.args.self.now in
    let t = held c.new-copy.result in
    let but = c.args.but.now in
    let of_families : Cell → Bool = λ d. in_families w.whole.keys d && not (is_in but d) in
    let after : held c.loop-family.copy ≡ overlay t (only of_families s) =
    ap (λ fs. overlay (held c.loop-family.copy) (only (λ d. in_families fs d && not (is_in but d)) s)) (sym c.in-None.ensures.steps.0)
    ∙ c.loop-family.invariant ∙ sym (ap (λ u. overlay u (only of_families s)) c.new-copy.ensures ∙ nothing-overlay _) in
    copy_step of_families (in_cells c.into_iter-cell-iterator.result) (is_in_but but w) s t (held c.loop-family.copy) (only (is_in_but but w) s)
    (ap (λ cs d. of_families d || in_cells cs d) (sym c.into_iter-cell-iterator.ensures.into_iter_gives.0))
    (ap (λ u. overlay u (only (is_in_but but w) s)) c.new-copy.ensures ∙ nothing-overlay _) after

pub loop-cell-preserved : goal.loop-cell-preserved
loop-cell-preserved c =
    copy_step (λ d. is_same_cell d c.in-Some-cell.cell.now) (in_cells c.next-in-loop-cell.new.self) (in_cells c.loop-cell.cell-iterator) (held c.args.self.now)
    (held c.loop-cell.copy) _ _ (ap in_cells c.in-Some-cell.ensures.steps ∙ first_cell _ _) c.loop-cell.invariant c.in_ok-copy_cell.ensures

pub returns : goal.returns
returns c = ap (λ cs. overlay (held c.loop-cell.copy) (only (in_cells cs) (held c.args.self.now))) (sym c.in-None-cell.ensures.steps.0) ∙ c.loop-cell.invariant
