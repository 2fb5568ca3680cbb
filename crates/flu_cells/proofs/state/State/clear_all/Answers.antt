use Rattle.std.proofs.Common.{◌≡◌, sym, ap, refl, ◌∙◌}
use Rattle.std.specs.Prelude.{Bool, ◌==◌, ◌&&◌, ◌||◌, not}
use Rattle.flu_model.specs.declared.events.Cell.{Cell}
use Rattle.flu_model.specs.Contents.{is_same_cell}
use Rattle.flu_cells.specs.Holding.{held}
use Rattle.flu_cells.specs.Sets.{is_in, is_in_but, only}
use Rattle.flu_cells.proofs.Parting.{in_families, in_cells, first_family_but, first_cell, left_one, clear_step}
use Rattle.flu_cells.proofs.state.State.clear_all.Goals as goal

pub loop-family-preserved : goal.loop-family-preserved
loop-family-preserved c =
    let q : Cell → Bool = λ d. not (is_in c.args.but.now d) in
    clear_step (λ d. (d.family == c.in-Some.family.now) && q d) (λ d. in_families c.next.new.self d && q d)
    (λ d. in_families c.loop-family.family-iterator d && q d) (held c.loop-family.self) _ _
    (ap (λ fs d. in_families fs d && q d) c.in-Some.ensures.steps ∙ first_family_but q _ _) c.loop-family.invariant c.clear_family_but.ensures

pub loop-cell-init : goal.loop-cell-init
loop-cell-init c =
    let w = c.args.unwanted.now in
    let but = c.args.but.now in
    let of_families : Cell → Bool = λ d. in_families w.whole.keys d && not (is_in but d) in
    let after : held c.loop-family.self ≡ only (λ d. not (of_families d)) (held c.args.self.now) =
    ap (λ fs. only (λ d. not (in_families fs d && not (is_in but d))) (held c.loop-family.self)) (sym c.in-None.ensures.steps.0)
    ∙ c.loop-family.invariant in
    clear_step of_families (in_cells c.into_iter-cell-iterator.result) (is_in_but but w) (held c.args.self.now) (held c.loop-family.self)
    (only (λ d. not (is_in_but but w d)) (held c.args.self.now))
    (ap (λ cs d. of_families d || in_cells cs d) (sym c.into_iter-cell-iterator.ensures.into_iter_gives.0)) refl after

pub loop-cell-preserved : goal.loop-cell-preserved
loop-cell-preserved c =
    clear_step (λ d. is_same_cell d c.in-Some-cell.cell.now) (in_cells c.next-in-loop-cell.new.self) (in_cells c.loop-cell.cell-iterator)
    (held c.loop-cell.self) _ _
    (ap in_cells c.in-Some-cell.ensures.steps ∙ first_cell _ _) c.loop-cell.invariant (c.clear.ensures ∙ left_one _ _)

pub returns : goal.returns
returns c = ap (λ cs. only (λ d. not (in_cells cs d)) (held c.loop-cell.self)) (sym c.in-None-cell.ensures.steps.0) ∙ c.loop-cell.invariant
