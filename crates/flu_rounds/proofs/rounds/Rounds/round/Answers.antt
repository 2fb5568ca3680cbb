use Rattle.std.proofs.Common.{◌≡◌, sym, ap, ◌∙◌, subst, Result, Err}
use Rattle.std.specs.Result.{IsErrAnd}
use Rattle.flu_model.specs.declared.jobs.Program.{Program}
use Rattle.flu_model.specs.Listed.{listed}
use Rattle.flu_streams.specs.declared.border.Border.{Border}
use Rattle.flu_streams.specs.Holding.{Holding}
use Rattle.flu_rounds.specs.declared.faults.RoundsFault.{RoundsFault}
use Rattle.flu_rounds.specs.Halves.{Begins, AppendsReport, AppendsPartOfReport}
use Rattle.flu_rounds.proofs.Halves.{law_of_halves, law_of_half}
use Rattle.flu_rounds.proofs.rounds.Rounds.round.Goals as goal

pub returns-in_err-finish-clause-part : goal.returns-in_err-finish-clause-part
returns-in_err-finish-clause-part g c = λ failed.
    let job = g.N.Engine.program_of c.args.engine.now in
    let begun = c.in_ok-border.field-0 in
    law_of_half job c.args.self.now c.begin.new.self.held (g.F.Files.left c.args.files.now)
    (g.F.Files.left c.begin.new.files) begun.border begun.opening c.in_ok-state.state (listed begun.rows)
    c.in_ok-state.outs (g.K.Sink.taken c.args.out.now) (g.K.Sink.taken c.finish.new.out)
    c.requires.program c.in_ok-border.ensures.rows (record { state' = c.in_ok-state.ensures.state; outs' = c.in_ok-state.ensures.outputs })
    (subst (λ (p : Program). AppendsPartOfReport p c.in_ok-state.outs (g.K.Sink.taken c.args.out.now) (g.K.Sink.taken c.finish.new.out))
    (c.program-2.ensures ∙ c.batch.ensures.same) (c.finish.ensures.part (c.in_err-finish.was ∙ ap Err (sym (subst (λ (r : Result Border RoundsFault).
    IsErrAnd r (λ (f : RoundsFault). f ≡ c.in_err-finish.field-0.0)) failed c.from_residual-in_err-finish.ensures.1)))))

pub returns-clause-written : goal.returns-clause-written
returns-clause-written g c =
    let job = g.N.Engine.program_of c.args.engine.now in
    let begun = c.in_ok-border.field-0 in
    let left = g.F.Files.left c.args.files.now in
    let left' = g.F.Files.left c.begin.new.files in
    law_of_halves job c.args.self.now c.finish.new.self left left' begun.border begun.opening c.in_ok-state.state (listed begun.rows)
    c.in_ok-state.outs (g.K.Sink.taken c.args.out.now) (g.K.Sink.taken c.finish.new.out)
    c.requires.program (subst (λ (h : Holding). Begins c.args.self.now h left left' begun.border begun.opening (listed begun.rows))
    (sym c.finish.ensures.held) c.in_ok-border.ensures.rows)
    (record { state' = c.in_ok-state.ensures.state; outs' = c.in_ok-state.ensures.outputs }) c.in_ok-finish.ensures.state
    (subst (λ (p : Program). AppendsReport p c.in_ok-state.outs (g.K.Sink.taken c.args.out.now) (g.K.Sink.taken c.finish.new.out))
    (c.program-2.ensures ∙ c.batch.ensures.same) c.in_ok-finish.ensures.written)
