use Rattle.std.proofs.Common.{◌∙◌, ap}
use Rattle.flu_cells.specs.Holding.{held}
use Rattle.flu_model.specs.Listed.{listed}
use Rattle.flu_rounds.proofs.Halves.{law_of_parts}
use Rattle.flu_rounds.proofs.rounds.Rounds.begin.Goals as goal

pub returns-clause-rows : goal.returns-clause-rows
returns-clause-rows g c =
    let begun = c.in_ok-opening.field-0 in
    (law_of_parts c.args.p.now c.args.self.now c.fill.new.self.held c.hand_out.new.self.held (g.F.Files.left c.args.files.now)
    (g.F.Files.left c.fill.new.files) c.in_ok-border.border begun.opening (listed begun.rows) c.requires.program
    (c.in_ok-opening.ensures.opening ∙ ap held c.fill.ensures.state) c.fill.ensures.same c.in_ok-border.ensures.filled
    c.in_ok-opening.ensures.cut c.in_ok-opening.ensures.lists).0

pub returns-clause-stands : goal.returns-clause-stands
returns-clause-stands g c =
    let begun = c.in_ok-opening.field-0 in
    (law_of_parts c.args.p.now c.args.self.now c.fill.new.self.held c.hand_out.new.self.held (g.F.Files.left c.args.files.now)
    (g.F.Files.left c.fill.new.files) c.in_ok-border.border begun.opening (listed begun.rows) c.requires.program
    (c.in_ok-opening.ensures.opening ∙ ap held c.fill.ensures.state) c.fill.ensures.same c.in_ok-border.ensures.filled
    c.in_ok-opening.ensures.cut c.in_ok-opening.ensures.lists).1
