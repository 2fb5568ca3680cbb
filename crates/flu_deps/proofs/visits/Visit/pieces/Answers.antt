use Rattle.std.proofs.Common.{◌≤◌, length, refl, ap, sym, ◌∙◌, arith}
use Rattle.std.specs.List.{list_all}
use Rattle.std.proofs.lemmas.List.{take_all}
use Rattle.flu_deps.specs.LoopVisits.{piece_all}
use Rattle.flu_deps.specs.LoopFollows.{is_told}
use Rattle.flu_deps.proofs.VisitLemmas.{follows_itself, follows_through, told_more}
use Rattle.flu_deps.proofs.visits.Visit.pieces.Goals as goal

pub loop-piece-init : goal.loop-piece-init
loop-piece-init c = (follows_itself c.args.self.now, λ later f. refl)

pub loop-piece-preserved : goal.loop-piece-preserved
loop-piece-preserved c =
    let before = c.loop-piece.self in
    let after = c.piece.new.self in (
      follows_through c.args.self.now before after c.loop-piece.invariant.0 c.piece.ensures.follows,
      λ later f.
          told_more (piece_all (is_told later)) c.args.pieces.now c.loop-piece.piece-index c.piece-item.result c.loop-piece-test.true c.piece-item.is
          (c.loop-piece.invariant.1 later (follows_through before after later c.piece.ensures.follows f)) (c.piece.ensures.told later f),
    )

pub returns-clause-told : goal.returns-clause-told
returns-clause-told c = λ later f.
    let all = c.args.pieces.now in
    let done : length all ≤ c.loop-piece.piece-index = omega arith in
    ap (list_all (piece_all (is_told later))) (sym (take_all c.loop-piece.piece-index all done)) ∙ c.loop-piece.invariant.1 later f
