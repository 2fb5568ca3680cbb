use Rattle.std.proofs.Common.{◌≡◌, Some, None, sym, ap, ◌∙◌}
use Rattle.std.proofs.lemmas.Result.{on_ok_weaker}
use Rattle.flu_model.specs.Contents.{with_worth, join, joined_worth}
use Rattle.flu_cells.specs.Entries.{near_held}
use Rattle.flu_cells.specs.Holding.{held}
use Rattle.flu_cells.proofs.Moves.{join-moved}
use Rattle.flu_cells.proofs.NearLemmas.{cell_of, slot_held, slot_unset, with_none}
use Rattle.flu_cells.proofs.state.State.absorb_slot.Goals as goal

pub joined-requires-clause-theirs : goal.joined-requires-clause-theirs
joined-requires-clause-theirs c v e =
    c.requires.clean (cell_of c.args.slot) v (slot_held c.args.near.now c.args.slot c.requires.slot ∙ sym c.in-Some.ensures.value ∙ e)

pub returns-in-Some-clause-ok : goal.returns-in-Some-clause-ok
returns-in-Some-clause-ok c =
    let near = c.args.near.now in
    let k = cell_of c.args.slot in
    let s = held c.args.self.now in
    let left : near_held c.unset.new.self ≡ with_worth (near_held near) k None =
    slot_unset near c.unset.new.self c.args.slot None c.requires.slot c.unset.ensures.left in
    on_ok_weaker c.hold.result
    (λ u. (λ i. join (u i) (left i))
    ∙ ap (λ w. join (with_worth s k w) (with_worth (near_held near) k None))
    (c.joined.ensures.value ∙ ap (λ w. joined_worth w (Some c.in-Some.theirs)) c.get.ensures)
    ∙ join-moved s (near_held near) k c.in-Some.theirs (slot_held near c.args.slot c.requires.slot ∙ sym c.in-Some.ensures.value))
    c.hold.ensures.ok

pub returns-in-None-clause-ok : goal.returns-in-None-clause-ok
returns-in-None-clause-ok c =
    let near = c.args.near.now in
    ap (join (held c.args.self.now))
    (slot_unset near c.unset.new.self c.args.slot None c.requires.slot c.unset.ensures.left
    ∙ with_none (near_held near) (cell_of c.args.slot) (slot_held near c.args.slot c.requires.slot ∙ sym c.in-None.ensures.value))
