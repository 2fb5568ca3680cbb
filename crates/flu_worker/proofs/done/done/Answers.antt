use Rattle.std.proofs.Common.{◌<◌, ◌++◌, List, [], ℕ, length, sym, ap, subst, ◌∙◌, arith}
use Rattle.std.specs.Prelude.{slice_index_or}
use Rattle.std.proofs.lemmas.Option.{slice_get_within}
use Rattle.flu_model.specs.declared.jobs.Program.{Program}
use Rattle.flu_model.specs.declared.streams.Streams.{Streams}
use Rattle.flu_model.specs.Listed.{listed}
use Rattle.flu_model.specs.Merging.{events_of}
use Rattle.flu_model.specs.Folding.{outputs_with}
use Rattle.flu_model.specs.Itags.{count_of_itags}
use Rattle.flu_model.specs.Updates.{effect_of}
use Rattle.flu_deps.specs.Checking.{program_of}
use Rattle.flu_cells.specs.Holding.{held}
use Rattle.flu_fork.specs.Fitting.{Fits}
use Rattle.flu_fork.specs.Lots.{setting_of}
use Rattle.flu_worker.proofs.Doing.{event_known, done_fits, done_puts}
use Rattle.flu_worker.proofs.done.done.Goals as goal

pub unreachable-requires : goal.unreachable-requires
unreachable-requires c =
    let i = c.args.x.itag.0 in
    let items = slice_index_or (listed c.args.case.now.streams) i [] in
    let long = ap length (c.items.ensures ∙ ap (λ (s : Streams). slice_index_or (listed s) i []) c.streams.ensures) in
    let few = c.laws_below.ensures.few_events items in
    let there = slice_get_within (events_of items) c.args.x.index c.args.event.now c.requires.exact.is in
    let late = c.if-x-items.true in
    omega arith

pub update-requires : goal.update-requires
update-requires c =
    subst (λ (p : Program). c.args.event.now.itag.0 < count_of_itags p) (sym (c.program.ensures ∙ ap program_of c.checked.ensures))
    (event_known c.laws_below.ensures c.args.case.now c.args.node c.args.lot.now c.args.x c.args.event.now c.requires.exact c.requires.fits)

pub returns-clause-fits : goal.returns-clause-fits
returns-clause-fits c =
    subst (λ (u : List ℕ). Fits (setting_of c.args.case.now) c.args.node (held c.update.new.s) c.args.lot.now.since u) (sym c.count_one.ensures)
    (done_fits c.laws_below.ensures c.args.case.now c.args.node c.args.lot.now c.args.x c.args.event.now c.requires.exact c.requires.fits (held c.update.new.s)
    (c.in_ok-update.ensures.cells
    ∙ ap (λ (p : Program). (effect_of p (held c.args.lot.now.state) c.args.event.now).cells) (c.program.ensures ∙ ap program_of c.checked.ensures)))

pub returns-clause-outs : goal.returns-clause-outs
returns-clause-outs c =
    done_puts c.laws_below.ensures c.args.case.now c.args.node c.args.lot.now c.args.x c.args.event.now c.requires.exact c.requires.fits c.args.outs.now
    c.update.new.outs
    (c.in_ok-update.ensures.outputs
    ∙ ap (λ (p : Program). c.args.outs.now ++ outputs_with p c.args.event.now (effect_of p (held c.args.lot.now.state) c.args.event.now).texts)
    (c.program.ensures ∙ ap program_of c.checked.ensures))
