use Rattle.std.proofs.Common.{◌≡◌, ◌<◌, ◌-◌, ◌+◌, Some, length, sym, ◌∙◌, ap, arith}
use Rattle.std.specs.Prelude.{◌||◌}
use Rattle.std.proofs.lemmas.Bool.{ne_eqb}
use Rattle.flu_lemmas.proofs.Searches.{eq_true}
use Rattle.flu_model.specs.Owners.{parent_of}
use Rattle.flu_deps.proofs.NodeLemmas.{is_met, nowhere, one_step}
use Rattle.flu_deps.proofs.nodes.is_within.Goals as goal

pub climb-init : goal.climb-init
climb-init c =
    let nodes = c.args.plan.now.nodes in
    let all : length nodes - 0 ≡ length nodes = omega arith in
    ap (λ m. is_met c.args.w m nodes (Some c.args.v)) all

pub returns-then-u-w : goal.returns-then-u-w
returns-then-u-w c =
    let nodes = c.args.plan.now.nodes in
    let w = c.args.w in
    let u = c.in-Some.u in
    let k = c.climb._climbed in
    let lt : k < length nodes = omega (arith, ap length c.items-climbed-end.ensures) in
    sym (ap (λ b. b || is_met w (length nodes - (k + 1)) nodes (parent_of nodes u)) (eq_true u w c.if-u-w.true))
    ∙ sym (one_step w (length nodes) k u nodes lt)
    ∙ sym (ap (is_met w (length nodes - k) nodes) c.in-Some.is)
    ∙ c.climb.invariant

pub returns-in-None : goal.returns-in-None
returns-in-None c =
    let nodes = c.args.plan.now.nodes in
    let m = length nodes - c.climb._climbed in
    sym (nowhere c.args.w m nodes) ∙ sym (ap (is_met c.args.w m nodes) c.in-None.is) ∙ c.climb.invariant

pub climb-preserved : goal.climb-preserved
climb-preserved c =
    let nodes = c.args.plan.now.nodes in
    let w = c.args.w in
    let u = c.in-Some.u in
    let k = c.climb._climbed in
    let lt : k < length nodes = omega (arith, ap length c.items-climbed-end.ensures) in
    let m = length nodes - (k + 1) in
    ap (is_met w m nodes) c.parent-at.ensures.parent
    ∙ sym (ap (λ b. b || is_met w m nodes (parent_of nodes u)) (ne_eqb u w c.if-u-w.false))
    ∙ sym (one_step w (length nodes) k u nodes lt)
    ∙ sym (ap (is_met w (length nodes - k) nodes) c.in-Some.is)
    ∙ c.climb.invariant

pub returns : goal.returns
returns c =
    let nodes = c.args.plan.now.nodes in
    let done : length nodes - c.climb._climbed ≡ 0 = omega (arith, ap length c.items-climbed-end.ensures) in
    sym (ap (λ m. is_met c.args.w m nodes c.climb.at) done) ∙ c.climb.invariant
