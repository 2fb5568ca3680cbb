use Rattle.std.proofs.Common.{ap, ◌∙◌, ◌+◌, ℕ, List}
use Rattle.std.specs.Prelude.{slice_index, slice_set}
use Rattle.flu_thread_tests.proofs.RowLemmas.{first, first_comes, fits_owner, serves}
use Rattle.flu_thread_tests.proofs.lots.with_first_event.Goals as goal

pub takes-requires-clause-next : goal.takes-requires-clause-next
takes-requires-clause-next c = first_comes c.args.case.now c.requires.row c.args.lot c.requires.unused.upto

pub takes-requires-clause-fits : goal.takes-requires-clause-fits
takes-requires-clause-fits c = fits_owner c.args.case.now 1 first c.args.lot c.requires.row.shape.left c.requires.unused.fits

pub returns : goal.returns
returns c =
    let told = c.in_ok-takes.ensures in
    serves c.args.case.now c.requires.row c.contents_are_settings.ensures c.itags_are_of_nodes.ensures.nodes c.clear_events_are_served.ensures.leaf
    c.takes.new.lot
    (told.fits 1 c.requires.row.shape.left) (told.since ∙ c.requires.unused.since)
    (told.upto ∙ ap (λ (us : List ℕ). slice_set us 0 (slice_index us 0 + 1)) c.requires.unused.upto)
