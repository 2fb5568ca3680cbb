use Rattle.std.proofs.Common.{◌∙◌}
use Rattle.flu_cells.specs.Sets.{is_in}
use Rattle.flu_deps.specs.Validated.{plan_of}
use Rattle.flu_fork.specs.Classes.{below}
use Rattle.flu_fork.proofs.GatheringLemmas.{copied_are_read}
use Rattle.flu_fork.proofs.rights.read_alone.Goals as goal

pub returns : goal.returns
returns c =
    λ d.
    let p = c.args.p.now in
    let law = c.modes_are_of_actions.ensures in
    let written = c.in_ok-written.written in
    c.in_ok-read.ensures d
    ∙ copied_are_read law.needs law.writes p c.requires.version (below p (plan_of c.args.v.now).nodes c.args.w) d (is_in written d) (c.in_ok-written.ensures d)
