use Rattle.std.proofs.Common.{◌≡◌, ◌<◌, Some, None, sym, ap, ◌∙◌, arith}
use Rattle.std.proofs.lemmas.Result.{on_ok_weaker}
use Rattle.flu_model.specs.Contents.{with_worth, join, joined_worth}
use Rattle.flu_cells.specs.Entries.{far_held}
use Rattle.flu_cells.specs.Holding.{held}
use Rattle.flu_cells.proofs.Moves.{join-moved}
use Rattle.flu_cells.proofs.NearLemmas.{with_none}
use Rattle.flu_cells.proofs.FarLemmas.{cell_at, place_held, place_unset}
use Rattle.flu_cells.proofs.state.State.absorb_place.Goals as goal

pub joined-requires-clause-theirs : goal.joined-requires-clause-theirs
joined-requires-clause-theirs c v e =
    let fits : c.args.place < 18446744073709551616 = omega arith in
    c.requires.clean (cell_at c.args.place) v (place_held c.args.far.now c.args.place fits ∙ sym c.in-Some.ensures.value ∙ e)

pub hold-requires-clause-key : goal.hold-requires-clause-key
hold-requires-clause-key c =
    let fits : c.args.place < 18446744073709551616 = omega arith in
    c.requires.keys (cell_at c.args.place) c.in-Some.theirs (place_held c.args.far.now c.args.place fits ∙ sym c.in-Some.ensures.value)

pub returns-in-Some-clause-ok : goal.returns-in-Some-clause-ok
returns-in-Some-clause-ok c =
    let far = c.args.far.now in
    let k = cell_at c.args.place in
    let s = held c.args.self.now in
    let fits : c.args.place < 18446744073709551616 = omega arith in
    let left : far_held c.unset.new.self ≡ with_worth (far_held far) k None = place_unset far c.unset.new.self c.args.place None fits c.unset.ensures.left in
    on_ok_weaker c.hold.result
    (λ u. (λ i. join (u i) (left i))
    ∙ ap (λ w. join (with_worth s k w) (with_worth (far_held far) k None))
    (c.joined.ensures.value ∙ ap (λ w. joined_worth w (Some c.in-Some.theirs)) c.get.ensures)
    ∙ join-moved s (far_held far) k c.in-Some.theirs (place_held far c.args.place fits ∙ sym c.in-Some.ensures.value))
    c.hold.ensures.ok

pub returns-in-None-clause-ok : goal.returns-in-None-clause-ok
returns-in-None-clause-ok c =
    let far = c.args.far.now in
    let fits : c.args.place < 18446744073709551616 = omega arith in
    ap (join (held c.args.self.now))
    (place_unset far c.unset.new.self c.args.place None fits c.unset.ensures.left
    ∙ with_none (far_held far) (cell_at c.args.place) (place_held far c.args.place fits ∙ sym c.in-None.ensures.value))
