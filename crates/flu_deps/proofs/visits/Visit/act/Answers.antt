use Rattle.std.proofs.Common.{ap, sym, ◌∙◌}
use Rattle.std.specs.List.{list_all}
use Rattle.flu_lemmas.proofs.Tests.{both}
use Rattle.flu_deps.specs.declared.visits.Way.TheVariants.{Overwrite}
use Rattle.flu_deps.specs.declared.visits.Place.TheVariants.{All}
use Rattle.flu_deps.specs.LoopVisits.{piece_all, act_all}
use Rattle.flu_deps.specs.LoopFollows.{is_told}
use Rattle.flu_deps.proofs.VisitLemmas.{follows_through}
use Rattle.flu_deps.proofs.visits.Visit.act.Goals as goal

pub returns-in-Emit-clause-told : goal.returns-in-Emit-clause-told
returns-in-Emit-clause-told c = λ later f.
    ap (act_all (is_told later)) c.in-Emit.is
    ∙ ap (list_all (piece_all (is_told later))) (sym c.items.ensures)
    ∙ c.pieces.ensures.told later f

pub returns-in-Flush-clause-told : goal.returns-in-Flush-clause-told
returns-in-Flush-clause-told c = λ later f.
    ap (act_all (is_told later)) c.in-Flush.is
    ∙ both (is_told later Overwrite c.in-Flush.family All) _
    (c.touch-in-Flush.ensures.told later (follows_through c.touch-in-Flush.new.self c.pieces-in-Flush.new.self later c.pieces-in-Flush.ensures.follows f))
    (ap (list_all (piece_all (is_told later))) (sym c.items-in-Flush.ensures) ∙ c.pieces-in-Flush.ensures.told later f)
