use Rattle.std.proofs.Common.{ap, ◌∙◌, ◌≡◌, refl, arith}
use Rattle.flu_model.specs.declared.jobs.Program.{Program}
use Rattle.flu_model.specs.Updates.{effect_of}
use Rattle.flu_deps.specs.Checking.{program_of}
use Rattle.flu_cells.specs.Holding.{held}
use Rattle.flu_fork.specs.declared.lots.Lot.{Lot}
use Rattle.flu_fork.specs.Lots.{job}
use Rattle.flu_thread_tests.proofs.RowLemmas.{takes_fit}
use Rattle.flu_thread_tests.proofs.lots.takes.Goals as goal

pub count_one-requires-clause-in_range : goal.count_one-requires-clause-in_range
count_one-requires-clause-in_range c = let each = c.requires.next.each in let known = c.requires.next.known in omega arith

pub returns-clause-fits : goal.returns-clause-fits
returns-clause-fits c =
    let k = c.args.case.now in
    let old = c.args.lot.now in
    let new : Lot = record { state = c.update.new.s; since = old.since; upto = c.count_one.new.self } in
    let p = c.program.ensures ∙ ap program_of c.checked.ensures in
    let cells : held c.update.new.s ≡ (effect_of (job k) (held old.state) c.args.x.now).cells =
    c.in_ok-update.ensures.cells ∙ ap (λ (q : Program). (effect_of q (held old.state) c.args.x.now).cells) p in
    takes_fit k old new c.args.x.now c.contents_are_settings.ensures c.events_have_moments.ensures.moments c.prefixes_are_of_streams.ensures.exact
    c.updates_fit.ensures c.requires.next c.requires.fits cells refl c.count_one.ensures
