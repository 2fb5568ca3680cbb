use Rattle.std.proofs.Common.{◌≡◌, Some, length, sym, ap, ◌∙◌}
use Rattle.std.proofs.lemmas.List.{length-set}
use Rattle.flu_deps.specs.declared.valid.Valid.{Valid}
use Rattle.flu_deps.specs.Owned.{kids_at}
use Rattle.flu_deps.specs.Validated.{plan_of}
use Rattle.flu_fork.specs.Lots.{kids}
use Rattle.flu_net.proofs.Bringing.{left_given, right_given, left_all, right_all, others_same, on_ok}
use Rattle.flu_net.proofs.joining.lot_at.Goals as goal

pub given_lot-at_left-requires : goal.given_lot-at_left-requires
given_lot-at_left-requires c =
    let are : kids c.args.case.now c.args.w ≡ Some c.in-Some.both = ap (λ (v : Valid). kids_at (plan_of v).nodes c.args.w) (sym c.valid.ensures)
    ∙ sym c.kids.ensures.kids ∙ c.in-Some.is in
    left_given c.laws_below.ensures c.args.case.now c.args.w c.in-Some.both.0 c.in-Some.both.1 are c.args.worker c.args.edges.now.items c.requires.parts
    c.put.result c.put.ensures.was

pub given_lot-at_right-requires : goal.given_lot-at_right-requires
given_lot-at_right-requires c =
    let are : kids c.args.case.now c.args.w ≡ Some c.in-Some.both = ap (λ (v : Valid). kids_at (plan_of v).nodes c.args.w) (sym c.valid.ensures)
    ∙ sym c.kids.ensures.kids ∙ c.in-Some.is in
    right_given c.laws_below.ensures c.args.case.now c.args.w c.in-Some.both.0 c.in-Some.both.1 are c.args.worker c.args.edges.now.items c.requires.parts
    c.put.new.edges.items c.put-2.result
    c.put.ensures.is c.put-2.ensures.was

pub inner_lot-requires-clause-left : goal.inner_lot-requires-clause-left
inner_lot-requires-clause-left c =
    let are : kids c.args.case.now c.args.w ≡ Some c.in-Some.both = ap (λ (v : Valid). kids_at (plan_of v).nodes c.args.w) (sym c.valid.ensures)
    ∙ sym c.kids.ensures.kids ∙ c.in-Some.is in
    left_all c.laws_below.ensures c.args.case.now c.args.w c.in-Some.both.0 c.in-Some.both.1 are c.args.worker c.args.edges.now.items c.requires.parts
    c.put.result c.given_lot-at_left.result
    c.put.ensures.was c.given_lot-at_left.ensures

pub inner_lot-requires-clause-right : goal.inner_lot-requires-clause-right
inner_lot-requires-clause-right c =
    let are : kids c.args.case.now c.args.w ≡ Some c.in-Some.both = ap (λ (v : Valid). kids_at (plan_of v).nodes c.args.w) (sym c.valid.ensures)
    ∙ sym c.kids.ensures.kids ∙ c.in-Some.is in
    right_all c.laws_below.ensures c.args.case.now c.args.w c.in-Some.both.0 c.in-Some.both.1 are c.args.worker c.args.edges.now.items c.requires.parts
    c.put.new.edges.items c.put-2.result
    c.given_lot-at_right.result c.put.ensures.is c.put-2.ensures.was c.given_lot-at_right.ensures

pub returns-clause-each : goal.returns-clause-each
returns-clause-each c =
    on_ok c.inner_lot.result _ (ap length c.put-2.ensures.is ∙ length-set _ _ _ ∙ ap length c.put.ensures.is ∙ length-set _ _ _)

pub returns-clause-others : goal.returns-clause-others
returns-clause-others c =
    let are : kids c.args.case.now c.args.w ≡ Some c.in-Some.both = ap (λ (v : Valid). kids_at (plan_of v).nodes c.args.w) (sym c.valid.ensures)
    ∙ sym c.kids.ensures.kids ∙ c.in-Some.is in
    on_ok c.inner_lot.result _
    (others_same c.laws_below.ensures c.args.case.now c.args.w c.in-Some.both.0 c.in-Some.both.1 are c.args.worker c.args.edges.now.items c.requires.parts
    c.put.new.edges.items
    c.put-2.new.edges.items c.put.ensures.is c.put-2.ensures.is)
