use Rattle.std.proofs.lemmas.Option.{IfSome_then}
use Rattle.flu_model.specs.Contents.{cell}
use Rattle.flu_cells.specs.Entries.{far_held}
use Rattle.flu_cells.specs.Holding.{held}
use Rattle.flu_cells.proofs.NearLemmas.{far_part, by_part, in_range_or_none, some_value, value_some, none_weaker}
use Rattle.flu_cells.proofs.state.State.next_key.Goals as goal

pub returns-in-None-clause-found : goal.returns-in-None-clause-found
returns-in-None-clause-found c =
    let s = c.args.self.now in
    let f = c.args.family in
    IfSome_then c.far_key.result c.far_key.ensures.found
    (λ k at.
    let there = some_value (far_held s.far (cell f k)) at.2 in
    let is = far_part s.near s.far s.far_alone (cell f k) there.0 there.1 in
    (at.0, at.1, value_some (held s (cell f k)) there.0 is))

pub returns-in-None-clause-least : goal.returns-in-None-clause-least
returns-in-None-clause-least c =
    let s = c.args.self.now in
    let f = c.args.family in
    IfSome_then c.far_key.result c.far_key.ensures.least
    (λ k least j le lt. by_part s.near s.far (cell f j) (λ is. c.in-None.ensures.none j le is) (λ is. least j le lt))

pub returns-in-None-clause-none : goal.returns-in-None-clause-none
returns-in-None-clause-none c =
    let s = c.args.self.now in
    let f = c.args.family in
    none_weaker c.far_key.result
    (λ none j le. by_part s.near s.far (cell f j) (λ is. c.in-None.ensures.none j le is)
    (λ is. in_range_or_none (far_held s.far) (cell f j) (λ d w e. s.keys_in_range d w (far_part s.near s.far s.far_alone d w e)) (λ lt. none j le lt)))
    c.far_key.ensures.none
