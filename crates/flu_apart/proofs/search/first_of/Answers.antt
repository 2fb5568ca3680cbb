use Rattle.std.proofs.Common.{◌≡◌, None, ap, ◌∙◌, arith}
use Rattle.flu_model.specs.Itags.{count_of_itags}
use Rattle.flu_apart.specs.LoopSearch.{best_among, cells_upto}
use Rattle.flu_apart.specs.Subtrees.{job, nodes, node}
use Rattle.flu_apart.proofs.BestLemmas.{tag_step, tag_turn}
use Rattle.flu_apart.proofs.SearchLemmas.{first_found, none_found}
use Rattle.flu_apart.proofs.search.first_of.Goals as goal

pub loop-i-preserved : goal.loop-i-preserved
loop-i-preserved c =
    let s = c.args.s.now in
    tag_turn (job s) (nodes s) (node s) None c.loop-i.best c.among_actions-best.result c.loop-i.i
    (tag_step (job s) (nodes s) (node s) c.loop-i.best c.among_actions-best.result c.loop-i.i c.tag-tag.result c.actions_of-actions.result.now
    c.tag-tag.ensures c.actions_of-actions.ensures c.among_actions-best.ensures)
    c.loop-i.invariant

pub returns-clause-first : goal.returns-clause-first
returns-clause-first c =
    let s = c.args.s.now in
    let all : c.loop-i.i ≡ count_of_itags (job s) = omega arith in
    first_found (job s) (nodes s) (node s) c.loop-i.best
    (c.loop-i.invariant ∙ ap (λ n. best_among (job s) (nodes s) (node s) None (cells_upto (job s) n)) all)

pub returns-clause-none : goal.returns-clause-none
returns-clause-none c =
    let s = c.args.s.now in
    let all : c.loop-i.i ≡ count_of_itags (job s) = omega arith in
    none_found (job s) (nodes s) (node s) c.loop-i.best
    (c.loop-i.invariant ∙ ap (λ n. best_among (job s) (nodes s) (node s) None (cells_upto (job s) n)) all)
