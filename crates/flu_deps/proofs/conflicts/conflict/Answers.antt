use Rattle.std.proofs.Common.{◌≡◌, None, sym, subst}
use Rattle.std.specs.Prelude.{IfSome, IsTrue}
use Rattle.flu_model.specs.declared.events.Cell.{Cell}
use Rattle.flu_model.specs.Sorts.{is_cell_of}
use Rattle.flu_deps.specs.Conflicts.{conflicts_on}
use Rattle.flu_deps.specs.LoopNamed.{best_among}
use Rattle.flu_deps.proofs.BestLemmas.{best_is_one}
use Rattle.flu_deps.proofs.ConflictLemmas.{named, found_is, first_found, none_found}
use Rattle.flu_deps.proofs.DeclaredLemmas.{named_in}
use Rattle.flu_deps.proofs.conflicts.conflict.Goals as goal

is : (c : goal.After-among_actions)
    → c.among_actions.result ≡ best_among (conflicts_on c.args.p.now c.args.a c.args.b) None (named c.args.p.now c.args.a c.args.b)
is c =
    found_is c.args.p.now c.args.a c.args.b c.among_actions.result c.among_actions-best.result c.actions_of.result.now c.actions_of-2.result.now
    c.actions_of.ensures c.actions_of-2.ensures c.among_actions-best.ensures c.among_actions.ensures

pub returns-clause-first : goal.returns-clause-first
returns-clause-first c = first_found c.args.p.now c.args.a c.args.b c.among_actions.result (is c)

pub returns-clause-none : goal.returns-clause-none
returns-clause-none c = none_found c.args.p.now c.args.a c.args.b c.among_actions.result (is c)

pub returns-clause-declared : goal.returns-clause-declared
returns-clause-declared c = λ fits.
    let p = c.args.p.now in
    subst (λ o. IfSome o (λ (d : Cell). IsTrue (is_cell_of p.families d))) (sym (is c))
    (best_is_one (λ d. IsTrue (is_cell_of p.families d)) (conflicts_on p c.args.a c.args.b) (is_cell_of p.families) (λ d e h. e) None
    (named p c.args.a c.args.b) tt (named_in p c.args.a c.args.b fits))
