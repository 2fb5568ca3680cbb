use Rattle.std.proofs.Common.{◌≡◌, Some, None, sym, ◌∙◌}
use Rattle.flu_deps.specs.Checking.{program_of}
use Rattle.flu_deps.specs.Validated.{plan_of}
use Rattle.flu_apart.specs.Apart.{SharesNone, first_clock}
use Rattle.flu_apart.specs.Subtrees.{job, nodes, node}
use Rattle.flu_apart.proofs.ClockLemmas.{no_ticks, no_first, some_or_none}
use Rattle.flu_apart.proofs.SearchLemmas.{moved}
use Rattle.flu_apart.proofs.search.first_reason.Goals as goal

pub returns-in-Some-clause-some : goal.returns-in-Some-clause-some
returns-in-Some-clause-some c = λ may.
    let p = program_of c.args.c.now in
    let plan = (plan_of c.args.v.now).nodes in
    let s = c.of-subtree.result in
    let is = c.of-subtree.ensures in
    let found : first_clock p plan c.args.w ≡ Some c.in-Some.number =
    moved (λ q ns w. first_clock q ns w ≡ Some c.in-Some.number) (job s) p (nodes s) plan (node s) c.args.w is.job is.nodes is.node
    (sym c.first_clock.ensures ∙ c.in-Some.is) in
    some_or_none c.in-Some.number (sym found ∙ no_first p plan c.args.w may.no_clock)

pub returns-in-None-first_of-clause-none : goal.returns-in-None-first_of-clause-none
returns-in-None-first_of-clause-none c =
    let p = program_of c.args.c.now in
    let plan = (plan_of c.args.v.now).nodes in
    let s = c.of-subtree.result in
    let is = c.of-subtree.ensures in
    let none : first_clock p plan c.args.w ≡ None =
    moved (λ q ns w. first_clock q ns w ≡ None) (job s) p (nodes s) plan (node s) c.args.w is.job is.nodes is.node
    (sym c.first_clock.ensures ∙ c.in-None.is) in
    record {
      no_clock = no_ticks p plan c.args.w none;
      shares_none = moved SharesNone (job s) p (nodes s) plan (node s) c.args.w is.job is.nodes is.node c.in-None-first_of.ensures.none;
    }
