use Rattle.std.proofs.Common.{◌≡◌, refl, sym, ap, ◌∙◌, subst, Result, Ok, Err}
use Rattle.std.specs.Result.{IsErrAnd}
use Rattle.flu_model.specs.declared.jobs.Program.{Program}
use Rattle.flu_model.specs.Listed.{listed}
use Rattle.flu_adaptive.specs.Observed.{IsObservedPlan}
use Rattle.flu_deps.specs.Checking.{program_of}
use Rattle.flu_deps.specs.Validated.{plan_of}
use Rattle.flu_streams.specs.declared.border.Border.{Border}
use Rattle.flu_streams.specs.declared.border.Border.TheVariants.{Closed}
use Rattle.flu_streams.specs.Counts.{grown}
use Rattle.flu_streams.specs.Holding.{Holding, AreClosed}
use Rattle.flu_rounds.specs.declared.faults.RoundsFault.{RoundsFault}
use Rattle.flu_rounds.specs.declared.faults.RoundsFault.TheVariants.{ReadFault}
use Rattle.flu_rounds.specs.Halves.{Begins, AppendsReport, AppendsPartOfReport}
use Rattle.flu_top.proofs.Roundings.{none_given}
use Rattle.flu_top.proofs.RunReports.{round_of_halves}
use Rattle.flu_top.proofs.running.round.Goals as goal

pub returns-in_err-border-clause-quiet : goal.returns-in_err-border-clause-quiet
returns-in_err-border-clause-quiet g c = λ differs n.
    c.in_err-border.ensures.quiet (none_given c.from_residual.result (Err c.in_err-border.field-0.0) c.in_err-border.field-0.0 ReadFault refl
    c.from_residual.ensures.1 differs) n

pub returns-in_err-finish-clause-part : goal.returns-in_err-finish-clause-part
returns-in_err-finish-clause-part g c = λ failed.
    let job = program_of c.args.engine.now.checked in
    let begun = c.in_ok-border.field-0 in
    c.halves_make_a_round.ensures.part job c.args.rounds.now c.begin.new.self.held (g.F.Files.left c.args.files.now)
    (g.F.Files.left c.begin.new.files) begun.border begun.opening c.in_ok-state.state (listed begun.rows)
    c.in_ok-state.outs (g.K.Sink.taken c.args.out.now) (g.K.Sink.taken c.finish.new.out)
    c.requires.program c.in_ok-border.ensures.rows (record { state' = c.in_ok-state.ensures.state; outs' = c.in_ok-state.ensures.outputs })
    (subst (λ (p : Program). AppendsPartOfReport p c.in_ok-state.outs (g.K.Sink.taken c.args.out.now) (g.K.Sink.taken c.finish.new.out))
    (c.program-program.ensures ∙ ap program_of c.checked.ensures)
    (c.finish.ensures.part (c.in_err-finish.was ∙ ap Err (sym (subst (λ (r : Result Border RoundsFault). IsErrAnd r
    (λ (f : RoundsFault). f ≡ c.in_err-finish.field-0.0)) failed c.from_residual-in_err-finish.ensures.1)))))

-- the border of a round that ended well
border_of : Result Border RoundsFault → Border
border_of (Ok border) = border
border_of (Err fault) = Closed

pub returns-clause-closed : goal.returns-clause-closed
unfolding border_of
returns-clause-closed g c is_closed =
    subst AreClosed (sym c.finish.ensures.held) (c.in_ok-border.ensures.closed (ap border_of is_closed))

pub returns-clause-written : goal.returns-clause-written
returns-clause-written g c before behind =
    let job = program_of c.args.engine.now.checked in
    let begun = c.in_ok-border.field-0 in
    let left = g.F.Files.left c.args.files.now in
    let left' = g.F.Files.left c.begin.new.files in
    let round = round_of_halves job c.args.rounds.now c.finish.new.self left left' begun.border begun.opening c.in_ok-state.state (listed begun.rows)
    c.in_ok-state.outs (g.K.Sink.taken c.args.out.now) (g.K.Sink.taken c.finish.new.out)
    c.requires.program (subst (λ (h : Holding). Begins c.args.rounds.now h left left' begun.border begun.opening (listed begun.rows))
    (sym c.finish.ensures.held) c.in_ok-border.ensures.rows)
    (record { state' = c.in_ok-state.ensures.state; outs' = c.in_ok-state.ensures.outputs }) c.in_ok-finish.ensures.state
    (subst (λ (p : Program). AppendsReport p c.in_ok-state.outs (g.K.Sink.taken c.args.out.now) (g.K.Sink.taken c.finish.new.out))
    (c.program-program.ensures ∙ ap program_of c.checked.ensures)
    c.in_ok-finish.ensures.written) before behind in
    (round.0, round.1, λ follows. c.in_ok-state.ensures.counts follows ∙ ap (grown c.args.engine.now.counts) round.2)

pub said_behind-requires-after_bounds : goal.said_behind-requires-after_bounds
said_behind-requires-after_bounds g c κs within follows =
    let note = c.batch.new.self in
    subst (λ (q : Program). IsObservedPlan q note.counts (plan_of note.valid).nodes) (sym (ap program_of c.batch.ensures.same))
    (c.in_ok-state.ensures.observed (sym c.batch.ensures.adapts ∙ follows))
