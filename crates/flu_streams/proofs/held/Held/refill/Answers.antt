use Rattle.std.proofs.Common.{◌≡◌, length, Err, refl, sym, ap, subst, ◌∙◌}
use Rattle.flu_model.specs.declared.jobs.Program.{Program}
use Rattle.flu_outside.specs.Taking.{TookFronts}
use Rattle.flu_streams.specs.declared.border.Border.TheVariants.{Closed}
use Rattle.flu_streams.specs.declared.faults.GatherFault.TheVariants.{ReadFault}
use Rattle.flu_streams.specs.declared.held.Stage.TheVariants.{Filling, Filled, Over}
use Rattle.flu_streams.specs.Holding.{Holding, AreHeldBehind, ClosedAreReadOut, Fills, IsNewBorder, IsRefillFault, HidesNoRoundFault, HoldsAtMost, most_held}
use Rattle.flu_streams.specs.LoopHeld.{AreWell, AreTimed, HasRefilled, StopsAtSource}
use Rattle.flu_streams.proofs.Bounds.{holds_few, holds_most, well_timed}
use Rattle.flu_streams.proofs.Cuts.{well_filling}
use Rattle.flu_streams.proofs.Gatherings.{err_same}
use Rattle.flu_streams.specs.LoopClocks.{IsByTicks, span_of}
use Rattle.flu_streams.proofs.Filled.{ClocksAreShut, clocks_shut, fills_by_ticks}
use Rattle.flu_streams.proofs.RefillEnds.{lowered_border, closed_below, refill_well, refill_out, refill_closed, refill_fault, refill_hides}
use Rattle.flu_streams.proofs.RoundOf.{holding}
use Rattle.flu_streams.proofs.held.Held.refill.Goals as goal

pub refill_all-requires-clause-files : goal.refill_all-requires-clause-files
refill_all-requires-clause-files g c =
    let h = c.self.inside in
    let stage_is : h.stage ≡ Filling = ap (λ (v : Holding). v.stage) c.self.view_is ∙ c.requires.stage in
    let program_is : h.program.value ≡ c.args.p.now = ap (λ (v : Holding). v.program) c.self.view_is ∙ c.requires.program in
    let well = well_filling h.program.value h.rows h.border h.stage h.sources.items c.self.invariant stage_is in
    let here = subst (λ p. AreWell p h.rows h.border h.sources.items) program_is well in
    λ i s at inlet is. (here.each i s at inlet is).file

pub refill_all-requires-clause-clocks : goal.refill_all-requires-clause-clocks
refill_all-requires-clause-clocks g c =
    let h = c.self.inside in
    let stage_is : h.stage ≡ Filling = ap (λ (v : Holding). v.stage) c.self.view_is ∙ c.requires.stage in
    let program_is : h.program.value ≡ c.args.p.now = ap (λ (v : Holding). v.program) c.self.view_is ∙ c.requires.program in
    let well = well_filling h.program.value h.rows h.border h.stage h.sources.items c.self.invariant stage_is in
    subst (λ p. ClocksAreShut p h.sources.items) program_is (clocks_shut h.program.value h.rows h.border h.sources.items well)

pub border_by_ticks-end-requires-clause-some : goal.border_by_ticks-end-requires-clause-some
border_by_ticks-end-requires-clause-some g c =
    let h = c.self.inside in
    let stage_is : h.stage ≡ Filling = ap (λ (v : Holding). v.stage) c.self.view_is ∙ c.requires.stage in
    (well_filling h.program.value h.rows h.border h.stage h.sources.items c.self.invariant stage_is).some

pub border_by_ticks-end-requires-clause-count : goal.border_by_ticks-end-requires-clause-count
border_by_ticks-end-requires-clause-count g c =
    let h = c.self.inside in
    let stage_is : h.stage ≡ Filling = ap (λ (v : Holding). v.stage) c.self.view_is ∙ c.requires.stage in
    let program_is : h.program.value ≡ c.args.p.now = ap (λ (v : Holding). v.program) c.self.view_is ∙ c.requires.program in
    let well = well_filling h.program.value h.rows h.border h.stage h.sources.items c.self.invariant stage_is in
    rw c.as_slice.ensures.value (c.in-Ok.ensures.filled.all.size ∙ well.count ∙ ap (λ (p : Program). length p.sources) program_is)

pub border_by_ticks-end-requires-clause-timed : goal.border_by_ticks-end-requires-clause-timed
border_by_ticks-end-requires-clause-timed g c = rw c.as_slice.ensures.value c.in-Ok.ensures.timed

pub refill_all-requires-clause-timed : goal.refill_all-requires-clause-timed
refill_all-requires-clause-timed g c =
    let h = c.self.inside in
    let stage_is : h.stage ≡ Filling = ap (λ (v : Holding). v.stage) c.self.view_is ∙ c.requires.stage in
    let program_is : h.program.value ≡ c.args.p.now = ap (λ (v : Holding). v.program) c.self.view_is ∙ c.requires.program in
    let well = well_filling h.program.value h.rows h.border h.stage h.sources.items c.self.invariant stage_is in
    subst (λ p. AreTimed p h.sources.items) program_is (well_timed h.program.value h.rows h.border h.sources.items well)

pub refill_all-requires-clause-most : goal.refill_all-requires-clause-most
refill_all-requires-clause-most g c =
    let h = c.self.inside in
    let stage_is : h.stage ≡ Filling = ap (λ (v : Holding). v.stage) c.self.view_is ∙ c.requires.stage in
    (well_filling h.program.value h.rows h.border h.stage h.sources.items c.self.invariant stage_is).most

pub returns-in-Err-clause-most : goal.returns-in-Err-clause-most
returns-in-Err-clause-most g c =
    let h = c.self.inside in
    let news = c.refill_all.new.inlets.items in
    let program_is : h.program.value ≡ c.args.p.now = ap (λ (v : Holding). v.program) c.self.view_is ∙ c.requires.program in
    let timed = subst (λ p. AreTimed p news) (sym program_is) c.refill_all.ensures.timed in
    subst (λ (v : Holding). HoldsAtMost (most_held v.program) (holding h.program.value h.rows h.border Over news)) c.self.view_is
    (holds_most h.program.value h.rows h.border Over news c.refill_all.ensures.uncounted timed)

pub returns-clause-most : goal.returns-clause-most
returns-clause-most g c =
    let h = c.self.inside in
    let news = c.refill_all.new.inlets.items in
    let program_is : h.program.value ≡ c.args.p.now = ap (λ (v : Holding). v.program) c.self.view_is ∙ c.requires.program in
    let timed = subst (λ p. AreTimed p news) (sym program_is) c.refill_all.ensures.timed in
    subst (λ (v : Holding). HoldsAtMost (most_held v.program) (holding h.program.value h.rows h.border (Filled c.border_by_ticks-end.result) news))
    c.self.view_is
    (holds_most h.program.value h.rows h.border (Filled c.border_by_ticks-end.result) news c.refill_all.ensures.uncounted timed)

pub returns-clause-few : goal.returns-clause-few
returns-clause-few g c =
    let h = c.self.inside in
    let a = g.F.Files.left c.args.files.now in
    let b = g.F.Files.left c.refill_all.new.files in
    let news = c.refill_all.new.inlets.items in
    let stage_is : h.stage ≡ Filling = ap (λ (v : Holding). v.stage) c.self.view_is ∙ c.requires.stage in
    let program_is : h.program.value ≡ c.args.p.now = ap (λ (v : Holding). v.program) c.self.view_is ∙ c.requires.program in
    let well = well_filling h.program.value h.rows h.border h.stage h.sources.items c.self.invariant stage_is in
    let has = subst (λ p. HasRefilled p h.rows h.sources.items news a b c.in-Ok.end) (sym program_is) c.in-Ok.ensures.filled in
    let ticks = subst (λ p. IsByTicks p h.rows h.border (span_of p c.refill_all.new.inlets.items) c.in-Ok.end c.border_by_ticks-end.result) (sym program_is)
    (rw c.as_slice.ensures.value at c.border_by_ticks-end.ensures) in
    let now = refill_well h.program.value h.rows h.border h.sources.items news a b c.in-Ok.end c.border_by_ticks-end.result well has ticks
    c.refill_all.ensures.uncounted in
    holds_few h.program.value h.rows h.border (Filled c.border_by_ticks-end.result) news now.0.0 now.0.2

pub returns-in-Err-clause-fault : goal.returns-in-Err-clause-fault
returns-in-Err-clause-fault g c =
    let h = c.self.inside in
    let a = g.F.Files.left c.args.files.now in
    let b = g.F.Files.left c.refill_all.new.files in
    let stage_is : h.stage ≡ Filling = ap (λ (v : Holding). v.stage) c.self.view_is ∙ c.requires.stage in
    let program_is : h.program.value ≡ c.args.p.now = ap (λ (v : Holding). v.program) c.self.view_is ∙ c.requires.program in
    let well = well_filling h.program.value h.rows h.border h.stage h.sources.items c.self.invariant stage_is in
    let was = g.F.Files.faults c.args.files.now in
    let is = g.F.Files.faults c.refill_all.new.files in
    let stop = subst (λ p. StopsAtSource p h.rows h.sources.items a b was is c.in-Err.fault) (sym program_is) c.in-Err.ensures.stop in
    subst (λ v. IsRefillFault v a b c.in-Err.fault) c.self.view_is
    (refill_fault h.program.value h.rows h.border h.stage h.sources.items a b TookFronts c.in-Err.fault was is well.count
    (well_timed h.program.value h.rows h.border h.sources.items well) c.self.invariant.1
    c.in-Err.ensures.fronts stop)

pub returns-in-Err-clause-hides : goal.returns-in-Err-clause-hides
returns-in-Err-clause-hides g c = λ is_fault before behind.
    let h = c.self.inside in
    let a = g.F.Files.left c.args.files.now in
    let b = g.F.Files.left c.refill_all.new.files in
    let stage_is : h.stage ≡ Filling = ap (λ (v : Holding). v.stage) c.self.view_is ∙ c.requires.stage in
    let program_is : h.program.value ≡ c.args.p.now = ap (λ (v : Holding). v.program) c.self.view_is ∙ c.requires.program in
    let well = well_filling h.program.value h.rows h.border h.stage h.sources.items c.self.invariant stage_is in
    let was = g.F.Files.faults c.args.files.now in
    let is = g.F.Files.faults c.refill_all.new.files in
    let stop = subst (λ p. StopsAtSource p h.rows h.sources.items a b was is c.in-Err.fault) (sym program_is) c.in-Err.ensures.stop in
    subst (λ v. HidesNoRoundFault v a b was is before) c.self.view_is
    (refill_hides h.program.value h.rows h.border h.stage h.sources.items a b TookFronts c.in-Err.fault was is well.count
    (well_timed h.program.value h.rows h.border h.sources.items well) well.forms c.in-Err.ensures.fronts stop
    (err_same (Err c.in-Err.fault) c.in-Err.fault ReadFault refl is_fault) before
    (subst (λ v. AreHeldBehind v before) (sym c.self.view_is) behind))

pub invariant_of-self-2 : goal.invariant_of-self-2
invariant_of-self-2 g c =
    let h = c.self.inside in
    let a = g.F.Files.left c.args.files.now in
    let b = g.F.Files.left c.refill_all.new.files in
    let stage_is : h.stage ≡ Filling = ap (λ (v : Holding). v.stage) c.self.view_is ∙ c.requires.stage in
    let program_is : h.program.value ≡ c.args.p.now = ap (λ (v : Holding). v.program) c.self.view_is ∙ c.requires.program in
    let well = well_filling h.program.value h.rows h.border h.stage h.sources.items c.self.invariant stage_is in
    let has = subst (λ p. HasRefilled p h.rows h.sources.items c.refill_all.new.inlets.items a b c.in-Ok.end) (sym program_is) c.in-Ok.ensures.filled in
    let ticks = subst (λ p. IsByTicks p h.rows h.border (span_of p c.refill_all.new.inlets.items) c.in-Ok.end c.border_by_ticks-end.result) (sym program_is)
    (rw c.as_slice.ensures.value at c.border_by_ticks-end.ensures) in
    refill_well h.program.value h.rows h.border h.sources.items c.refill_all.new.inlets.items a b c.in-Ok.end c.border_by_ticks-end.result well has ticks
    c.refill_all.ensures.uncounted

pub returns-clause-round : goal.returns-clause-round
returns-clause-round g c = λ before behind.
    let h = c.self.inside in
    let a = g.F.Files.left c.args.files.now in
    let b = g.F.Files.left c.refill_all.new.files in
    let news = c.refill_all.new.inlets.items in
    let stage_is : h.stage ≡ Filling = ap (λ (v : Holding). v.stage) c.self.view_is ∙ c.requires.stage in
    let program_is : h.program.value ≡ c.args.p.now = ap (λ (v : Holding). v.program) c.self.view_is ∙ c.requires.program in
    let well = well_filling h.program.value h.rows h.border h.stage h.sources.items c.self.invariant stage_is in
    let has = subst (λ p. HasRefilled p h.rows h.sources.items news a b c.in-Ok.end) (sym program_is) c.in-Ok.ensures.filled in
    let ticks = subst (λ p. IsByTicks p h.rows h.border (span_of p c.refill_all.new.inlets.items) c.in-Ok.end c.border_by_ticks-end.result) (sym program_is)
    (rw c.as_slice.ensures.value at c.border_by_ticks-end.ensures) in
    let low = c.border_by_ticks-end.result in
    let now = refill_well h.program.value h.rows h.border h.sources.items news a b c.in-Ok.end low well has ticks c.refill_all.ensures.uncounted in
    subst (λ v. Fills v (holding h.program.value h.rows h.border (Filled low) news) a b low before) c.self.view_is
    (fills_by_ticks h.program.value h.rows h.border h.stage (Filled low) h.sources.items news a b TookFronts c.in-Ok.end low well.count
    (well_timed h.program.value h.rows h.border h.sources.items well)
    (clocks_shut h.program.value h.rows h.border news now.0.0) c.in-Ok.ensures.fronts has ticks
    before
    (subst (λ v. AreHeldBehind v before) (sym c.self.view_is) behind))

pub returns-clause-border : goal.returns-clause-border
returns-clause-border g c =
    let h = c.self.inside in
    let a = g.F.Files.left c.args.files.now in
    let b = g.F.Files.left c.refill_all.new.files in
    let stage_is : h.stage ≡ Filling = ap (λ (v : Holding). v.stage) c.self.view_is ∙ c.requires.stage in
    let program_is : h.program.value ≡ c.args.p.now = ap (λ (v : Holding). v.program) c.self.view_is ∙ c.requires.program in
    let well = well_filling h.program.value h.rows h.border h.stage h.sources.items c.self.invariant stage_is in
    let has = subst (λ p. HasRefilled p h.rows h.sources.items c.refill_all.new.inlets.items a b c.in-Ok.end) (sym program_is) c.in-Ok.ensures.filled in
    let ticks = subst (λ p. IsByTicks p h.rows h.border (span_of p c.refill_all.new.inlets.items) c.in-Ok.end c.border_by_ticks-end.result) (sym program_is)
    (rw c.as_slice.ensures.value at c.border_by_ticks-end.ensures) in
    subst (λ (v : Holding). IsNewBorder v.border c.border_by_ticks-end.result) c.self.view_is
    (lowered_border h.program.value h.rows h.border (span_of h.program.value c.refill_all.new.inlets.items) h.sources.items c.refill_all.new.inlets.items a b
    c.in-Ok.end c.border_by_ticks-end.result well has ticks)

pub returns-clause-read_out : goal.returns-clause-read_out
returns-clause-read_out g c = λ was.
    let h = c.self.inside in
    let a = g.F.Files.left c.args.files.now in
    let b = g.F.Files.left c.refill_all.new.files in
    let stage_is : h.stage ≡ Filling = ap (λ (v : Holding). v.stage) c.self.view_is ∙ c.requires.stage in
    let program_is : h.program.value ≡ c.args.p.now = ap (λ (v : Holding). v.program) c.self.view_is ∙ c.requires.program in
    let well = well_filling h.program.value h.rows h.border h.stage h.sources.items c.self.invariant stage_is in
    let has = subst (λ p. HasRefilled p h.rows h.sources.items c.refill_all.new.inlets.items a b c.in-Ok.end) (sym program_is) c.in-Ok.ensures.filled in
    refill_out h.program.value h.rows h.border h.stage
    (Filled c.border_by_ticks-end.result) h.sources.items c.refill_all.new.inlets.items a b c.in-Ok.end well has
    (subst (λ v. ClosedAreReadOut v a) (sym c.self.view_is) was)

pub returns-clause-closed : goal.returns-clause-closed
returns-clause-closed g c = λ is.
    let h = c.self.inside in
    let a = g.F.Files.left c.args.files.now in
    let b = g.F.Files.left c.refill_all.new.files in
    let stage_is : h.stage ≡ Filling = ap (λ (v : Holding). v.stage) c.self.view_is ∙ c.requires.stage in
    let program_is : h.program.value ≡ c.args.p.now = ap (λ (v : Holding). v.program) c.self.view_is ∙ c.requires.program in
    let well = well_filling h.program.value h.rows h.border h.stage h.sources.items c.self.invariant stage_is in
    let has = subst (λ p. HasRefilled p h.rows h.sources.items c.refill_all.new.inlets.items a b c.in-Ok.end) (sym program_is) c.in-Ok.ensures.filled in
    let ticks = subst (λ p. IsByTicks p h.rows h.border (span_of p c.refill_all.new.inlets.items) c.in-Ok.end c.border_by_ticks-end.result) (sym program_is)
    (rw c.as_slice.ensures.value at c.border_by_ticks-end.ensures) in
    let low : c.border_by_ticks-end.result ≡ Closed = cc in
    let last = closed_below c.border_by_ticks-end.result c.in-Ok.end ticks.below low in
    refill_closed h.program.value h.rows h.border
    (Filled c.border_by_ticks-end.result) h.sources.items c.refill_all.new.inlets.items a b c.in-Ok.end well has last
