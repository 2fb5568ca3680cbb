use Rattle.std.proofs.Common.{subst, List, ℕ, Some}
use Rattle.std.proofs.lemmas.Result.{err_from_is_err_and}
use Rattle.flu_cells.specs.Holding.{held}
use Rattle.flu_lemmas.proofs.Named.{fronts_at}
use Rattle.flu_save.specs.Forms.{IsFaultOf, IsSave}
use Rattle.flu_lines.specs.Answer.{refusal_of_save}
use Rattle.flu_top.specs.Running.{IsOpeningRefusal}
use Rattle.flu_top.proofs.Jobs.{if_err_at}
use Rattle.flu_top.proofs.Checkpoints.{checkpoint_is_refused, opened_saved, others_of_one}
use Rattle.flu_top.proofs.openings.resumed.Goals as goal

pub returns-in_err-bytes-clause-fronts : goal.returns-in_err-bytes-clause-fronts
returns-in_err-bytes-clause-fronts g c = fronts_at c.args.name.now _ _ c.read_whole.ensures.taken

pub returns-in_err-bytes-clause-others : goal.returns-in_err-bytes-clause-others
returns-in_err-bytes-clause-others g c = others_of_one c.args.name.now _ _ c.read_whole.ensures.taken

pub returns-in_err-saved-clause-refused : goal.returns-in_err-saved-clause-refused
returns-in_err-saved-clause-refused g c =
    let left = g.F.Files.left in
    let faults = g.F.Files.faults in
    let p = c.args.program.now in
    let name = c.args.name.now in
    let fault = c.in_err-saved.field-0.0 in
    let fails = subst (λ (bytes : List ℕ). IsFaultOf p bytes fault) c.deref.ensures.value c.in_err-saved.ensures.fault in
    if_err_at (IsOpeningRefusal (Some name) p (left c.args.files.now) (left c.read_whole.new.files) (faults c.args.files.now) (faults c.read_whole.new.files))
    c.from_residual-in_err-saved.result (refusal_of_save fault)
    (err_from_is_err_and c.from_residual-in_err-saved.result c.from_residual-in_err-saved.ensures.1)
    (checkpoint_is_refused p name c.in_ok-bytes.bytes.items fault _ _ (faults c.args.files.now)
    (faults c.read_whole.new.files) c.in_ok-bytes.ensures.whole fails)

pub returns-in_err-saved-clause-fronts : goal.returns-in_err-saved-clause-fronts
returns-in_err-saved-clause-fronts g c = fronts_at c.args.name.now _ _ c.read_whole.ensures.taken

pub returns-in_err-saved-clause-others : goal.returns-in_err-saved-clause-others
returns-in_err-saved-clause-others g c = others_of_one c.args.name.now _ _ c.read_whole.ensures.taken

pub returns-clause-opened : goal.returns-clause-opened
returns-clause-opened g c =
    let p = c.args.program.now in
    let t = c.in_ok-saved.saved.border in
    let s = held c.in_ok-saved.saved.state in
    opened_saved p c.args.name.now c.in_ok-bytes.bytes.items t s c.args.rows.count _ _ c.in_ok-bytes.ensures.whole c.read_whole.ensures.taken
    (subst (λ (bytes : List ℕ). IsSave p t s bytes) c.deref.ensures.value c.in_ok-saved.ensures.saved) c.args.rows.some

pub returns-clause-fronts : goal.returns-clause-fronts
returns-clause-fronts g c = fronts_at c.args.name.now _ _ c.read_whole.ensures.taken

pub returns-clause-others : goal.returns-clause-others
returns-clause-others g c = others_of_one c.args.name.now _ _ c.read_whole.ensures.taken
