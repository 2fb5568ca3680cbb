use Rattle.std.proofs.Common.{sym, ap, ◌∙◌}
use Rattle.flu_dense.specs.Holding.{value_at, value_for}
use Rattle.flu_cells.proofs.NearLemmas.{in_slot, contents-far}
use Rattle.flu_cells.proofs.FarLemmas.{far_held-at}
use Rattle.flu_cells.proofs.state.State.get.Goals as goal

pub returns-in-Some : goal.returns-in-Some
returns-in-Some c =
    c.get.ensures ∙ ap (value_at c.args.self.now.near) c.in-Some.ensures.some.0
    ∙ sym (in_slot c.args.self.now.near c.args.self.now.far c.args.c c.in-Some.ensures.some.2)

pub returns-in-None : goal.returns-in-None
returns-in-None c =
    let s = c.args.self.now in
    c.get-in-None.ensures ∙ ap (value_for s.far) c.far_place.ensures.place
    ∙ sym (contents-far s.near s.far c.args.c c.in-None.ensures.none ∙ far_held-at s.far c.args.c c.far_place.ensures.has)
