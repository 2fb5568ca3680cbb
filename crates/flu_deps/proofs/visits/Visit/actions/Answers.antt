use Rattle.std.proofs.Common.{◌≤◌, length, refl, ap, sym, ◌∙◌, arith}
use Rattle.std.specs.List.{list_all}
use Rattle.std.proofs.lemmas.List.{take_all}
use Rattle.flu_deps.specs.LoopVisits.{action_all}
use Rattle.flu_deps.specs.LoopFollows.{is_told}
use Rattle.flu_deps.proofs.VisitLemmas.{follows_itself, follows_through, told_more}
use Rattle.flu_deps.proofs.visits.Visit.actions.Goals as goal

pub loop-action-init : goal.loop-action-init
loop-action-init c = (follows_itself c.args.self.now, λ later f. refl)

pub loop-action-preserved : goal.loop-action-preserved
loop-action-preserved c =
    let before = c.loop-action.self in
    let after = c.action.new.self in (
      follows_through c.args.self.now before after c.loop-action.invariant.0 c.action.ensures.follows,
      λ later f.
          told_more (action_all (is_told later)) c.args.actions.now c.loop-action.action-index c.action-item.result c.loop-action-test.true c.action-item.is
          (c.loop-action.invariant.1 later (follows_through before after later c.action.ensures.follows f)) (c.action.ensures.told later f),
    )

pub returns-clause-told : goal.returns-clause-told
returns-clause-told c = λ later f.
    let all = c.args.actions.now in
    let done : length all ≤ c.loop-action.action-index = omega arith in
    ap (list_all (action_all (is_told later))) (sym (take_all c.loop-action.action-index all done)) ∙ c.loop-action.invariant.1 later f
