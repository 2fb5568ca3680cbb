use Rattle.std.proofs.Common.{◌≡◌, Some, sym, ap, subst, ◌∙◌}
use Rattle.flu_streams.specs.declared.border.Border.TheVariants.{At, Closed}
use Rattle.flu_streams.specs.declared.held.Stage.TheVariants.{Filling, Filled, Over}
use Rattle.flu_streams.specs.Holding.{Holding, Cuts, HoldsAtMost, most_held}
use Rattle.flu_streams.specs.Lists.{lists_in}
use Rattle.flu_streams.specs.LoopClocks.{FewTicks, span_of}
use Rattle.flu_streams.specs.LoopHeld.{AreTimed}
use Rattle.flu_streams.proofs.Bounds.{holds_few, holds_most, well_timed, still_caught_up, still_uncounted}
use Rattle.flu_streams.proofs.Cuts.{well_filled, cuts_at, cuts_closed, dropped_well, cut_lists, closed_if_not}
use Rattle.flu_streams.proofs.RoundOf.{holding}
use Rattle.flu_streams.proofs.Ticking.{fewer_ticks}
use Rattle.flu_streams.proofs.held.Held.cut.Goals as goal

pub returns-in_default-clause-lists : goal.returns-in_default-clause-lists
returns-in_default-clause-lists c = λ lines behind.
    let h = c.self.inside in
    let program_is : h.program.value ≡ c.args.p.now = ap (λ (v : Holding). v.program) c.self.view_is ∙ c.requires.program in
    c.new.ensures ∙ cut_lists c.args.self.now c.args.p.now h.program.value h.rows h.border h.stage h.sources.items c.args.b lines
    (lists_in c.in_ok-lists.lists) c.self.view_is program_is
    (rw c.deref.ensures.value at c.in_ok-lists.ensures.lists) behind

pub returns-clause-lists : goal.returns-clause-lists
returns-clause-lists c = λ lines behind.
    let h = c.self.inside in
    let program_is : h.program.value ≡ c.args.p.now = ap (λ (v : Holding). v.program) c.self.view_is ∙ c.requires.program in
    c.new-2.ensures ∙ cut_lists c.args.self.now c.args.p.now h.program.value h.rows h.border h.stage h.sources.items c.args.b lines
    (lists_in c.in_ok-lists.lists) c.self.view_is program_is
    (rw c.deref.ensures.value at c.in_ok-lists.ensures.lists) behind

pub returns-in_default-clause-cut : goal.returns-in_default-clause-cut
returns-in_default-clause-cut c =
    let h = c.self.inside in
    let stage_is : h.stage ≡ Filled c.args.b = ap (λ (v : Holding). v.stage) c.self.view_is ∙ c.requires.stage in
    let well = well_filled h.program.value h.rows h.border h.stage c.args.b h.sources.items c.self.invariant stage_is in
    let last : c.args.b ≡ Closed = closed_if_not c.args.b c.in_default.not-At in
    subst (λ b. Cuts c.args.self.now (holding h.program.value h.rows h.border Over h.sources.items) b) (sym last)
    (subst (λ v. Cuts v (holding h.program.value h.rows h.border Over h.sources.items) Closed) c.self.view_is
    (cuts_closed h.program.value h.rows h.border h.stage h.sources.items well.0))

pub invariant_of-self-2 : goal.invariant_of-self-2
invariant_of-self-2 c =
    let h = c.self.inside in
    let t = c.in-At.time in
    let stage_is : h.stage ≡ Filled (At t) = ap (λ (v : Holding). v.stage) c.self.view_is ∙ c.requires.stage ∙ ap Filled c.in-At.is in
    let well = well_filled h.program.value h.rows h.border h.stage (At t) h.sources.items c.self.invariant stage_is in (
      dropped_well h.program.value h.rows t h.border h.sources.items c.drop_all.new.inlets.items well.0 well.1 well.2 c.drop_all.ensures,
      still_uncounted t h.sources.items c.drop_all.new.inlets.items c.self.invariant.1 c.drop_all.ensures,
    )

pub returns-clause-cut : goal.returns-clause-cut
returns-clause-cut c =
    let h = c.self.inside in
    let t = c.in-At.time in
    let news = c.drop_all.new.inlets.items in
    let stage_is : h.stage ≡ Filled (At t) = ap (λ (v : Holding). v.stage) c.self.view_is ∙ c.requires.stage ∙ ap Filled c.in-At.is in
    let well = well_filled h.program.value h.rows h.border h.stage (At t) h.sources.items c.self.invariant stage_is in
    subst (λ b. Cuts c.args.self.now (holding h.program.value h.rows (Some t) Filling news) b) (sym c.in-At.is)
    (subst (λ v. Cuts v (holding h.program.value h.rows (Some t) Filling news) (At t)) c.self.view_is
    (cuts_at h.program.value h.rows t h.border h.stage h.sources.items news well.0 well.1 well.2 c.drop_all.ensures))

pub lists_to-requires-clause-caught : goal.lists_to-requires-clause-caught
lists_to-requires-clause-caught c =
    let h = c.self.inside in
    let stage_is : h.stage ≡ Filled c.args.b = ap (λ (v : Holding). v.stage) c.self.view_is ∙ c.requires.stage in
    let well = well_filled h.program.value h.rows h.border h.stage c.args.b h.sources.items c.self.invariant stage_is in
    rw c.deref.ensures.value well.2

pub lists_to-requires-clause-timed : goal.lists_to-requires-clause-timed
lists_to-requires-clause-timed c =
    let h = c.self.inside in
    let stage_is : h.stage ≡ Filled c.args.b = ap (λ (v : Holding). v.stage) c.self.view_is ∙ c.requires.stage in
    let program_is : h.program.value ≡ c.args.p.now = ap (λ (v : Holding). v.program) c.self.view_is ∙ c.requires.program in
    let well = well_filled h.program.value h.rows h.border h.stage c.args.b h.sources.items c.self.invariant stage_is in
    rw c.deref.ensures.value (subst (λ p. AreTimed p h.sources.items) program_is (well_timed h.program.value h.rows h.border h.sources.items well.0))

pub lists_to-requires-clause-few : goal.lists_to-requires-clause-few
lists_to-requires-clause-few c =
    let h = c.self.inside in
    let stage_is : h.stage ≡ Filled c.args.b = ap (λ (v : Holding). v.stage) c.self.view_is ∙ c.requires.stage in
    let program_is : h.program.value ≡ c.args.p.now = ap (λ (v : Holding). v.program) c.self.view_is ∙ c.requires.program in
    let well = well_filled h.program.value h.rows h.border h.stage c.args.b h.sources.items c.self.invariant stage_is in
    rw c.deref.ensures.value (subst (λ p. FewTicks p 4096 h.border (span_of p h.sources.items) c.args.b) program_is
    (fewer_ticks h.program.value h.rows 4096 h.border (span_of h.program.value h.sources.items) c.args.b well.0.most well.3))

pub lists_to-requires-clause-uncounted : goal.lists_to-requires-clause-uncounted
lists_to-requires-clause-uncounted c = rw c.deref.ensures.value c.self.invariant.1

pub returns-in_default-clause-few : goal.returns-in_default-clause-few
returns-in_default-clause-few c =
    let h = c.self.inside in
    let stage_is : h.stage ≡ Filled c.args.b = ap (λ (v : Holding). v.stage) c.self.view_is ∙ c.requires.stage in
    let well = well_filled h.program.value h.rows h.border h.stage c.args.b h.sources.items c.self.invariant stage_is in
    holds_few h.program.value h.rows h.border Over h.sources.items well.0 well.2

pub returns-in_default-clause-most : goal.returns-in_default-clause-most
returns-in_default-clause-most c =
    let h = c.self.inside in
    let stage_is : h.stage ≡ Filled c.args.b = ap (λ (v : Holding). v.stage) c.self.view_is ∙ c.requires.stage in
    let well = well_filled h.program.value h.rows h.border h.stage c.args.b h.sources.items c.self.invariant stage_is in
    subst (λ (v : Holding). HoldsAtMost (most_held v.program) (holding h.program.value h.rows h.border Over h.sources.items)) c.self.view_is
    (holds_most h.program.value h.rows h.border Over h.sources.items c.self.invariant.1
    (well_timed h.program.value h.rows h.border h.sources.items well.0))

pub returns-clause-few : goal.returns-clause-few
returns-clause-few c =
    let h = c.self.inside in
    let t = c.in-At.time in
    let news = c.drop_all.new.inlets.items in
    let stage_is : h.stage ≡ Filled (At t) = ap (λ (v : Holding). v.stage) c.self.view_is ∙ c.requires.stage ∙ ap Filled c.in-At.is in
    let well = well_filled h.program.value h.rows h.border h.stage (At t) h.sources.items c.self.invariant stage_is in
    holds_few h.program.value h.rows (Some t) Filling news
    (dropped_well h.program.value h.rows t h.border h.sources.items news well.0 well.1 well.2 c.drop_all.ensures)
    (still_caught_up t h.sources.items news well.2 c.drop_all.ensures)

pub returns-clause-most : goal.returns-clause-most
returns-clause-most c =
    let h = c.self.inside in
    let t = c.in-At.time in
    let news = c.drop_all.new.inlets.items in
    let stage_is : h.stage ≡ Filled (At t) = ap (λ (v : Holding). v.stage) c.self.view_is ∙ c.requires.stage ∙ ap Filled c.in-At.is in
    let well = well_filled h.program.value h.rows h.border h.stage (At t) h.sources.items c.self.invariant stage_is in
    let now = dropped_well h.program.value h.rows t h.border h.sources.items news well.0 well.1 well.2 c.drop_all.ensures in
    subst (λ (v : Holding). HoldsAtMost (most_held v.program) (holding h.program.value h.rows (Some t) Filling news)) c.self.view_is
    (holds_most h.program.value h.rows (Some t) Filling news
    (still_uncounted t h.sources.items news c.self.invariant.1 c.drop_all.ensures)
    (well_timed h.program.value h.rows (Some t) news now))

pub returns-in_err-lists-clause-most : goal.returns-in_err-lists-clause-most
returns-in_err-lists-clause-most c =
    let h = c.self.inside in
    let stage_is : h.stage ≡ Filled c.args.b = ap (λ (v : Holding). v.stage) c.self.view_is ∙ c.requires.stage in
    let well = well_filled h.program.value h.rows h.border h.stage c.args.b h.sources.items c.self.invariant stage_is in
    subst (λ (v : Holding). HoldsAtMost (most_held v.program) (holding h.program.value h.rows h.border Over h.sources.items)) c.self.view_is
    (holds_most h.program.value h.rows h.border Over h.sources.items c.self.invariant.1
    (well_timed h.program.value h.rows h.border h.sources.items well.0))
