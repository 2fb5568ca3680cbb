use Rattle.std.proofs.Common.{◌≡◌, [], arith, sym}
use Rattle.std.proofs.lemmas.Bool.{eqb-true}
use Rattle.std.proofs.lemmas.List.{nil_from_length}
use Rattle.flu_planner.specs.Graphs.{Graph}
use Rattle.flu_planner.specs.LoopReaching.{IsReached}
use Rattle.flu_planner.specs.LoopTables.{graph_of}
use Rattle.flu_planner.proofs.Tables.{graph_turns}
use Rattle.flu_planner.proofs.Finding.{none_found, one_more_found, all_once, all_found}
use Rattle.flu_planner.proofs.components.components.Goals as goal

pub remaining-init : goal.remaining-init
remaining-init c =
    let g : Graph = graph_of c.args.table.now in
    let itags = c.args.itags.now in
    let rest : c.in_ok-rest.rest.items ≡ itags = c.in_ok-rest.ensures.items_if_clones_equal (λ x y e. e) in
    rw (c.new-components.ensures.items, rest) (none_found g c.args.rates.now itags c.requires)

pub remaining-preserved : goal.remaining-preserved
remaining-preserved c =
    let table = c.args.table.now in
    let g : Graph = graph_of table in
    let rest = c.remaining.rest.items in
    let found = c.in_ok-found.found in
    let reached : IsReached g rest found.connected.items found.rest.items = rw c.deref.ensures.value at c.in_ok-found.ensures in
    rw (c.in_ok-add_component.ensures, c.of.ensures, c.in_ok-component.ensures, c.deref-in-remaining.ensures.value)
    (one_more_found g (graph_turns table) c.args.rates.now c.args.itags.now c.remaining.components.items rest c.remaining.invariant found.connected.items
    found.rest.items reached)

pub remaining-smaller : goal.remaining-smaller
remaining-smaller c = (rw c.deref.ensures.value at c.in_ok-found.ensures).fewer

pub returns-clause-are : goal.returns-clause-are
returns-clause-are c =
    let e = eqb-true _ 0 (sym c.remaining-test.ensures) in
    let none : c.remaining.rest.items ≡ [] = nil_from_length c.remaining.rest.items (omega (arith, c.remaining.rest.ok.0)) in
    all_found (graph_of c.args.table.now) c.args.rates.now c.args.itags.now c.remaining.components.items c.remaining.rest.items none c.remaining.invariant

pub returns-clause-once : goal.returns-clause-once
returns-clause-once c =
    let e = eqb-true _ 0 (sym c.remaining-test.ensures) in
    let none : c.remaining.rest.items ≡ [] = nil_from_length c.remaining.rest.items (omega (arith, c.remaining.rest.ok.0)) in
    all_once (graph_of c.args.table.now) c.args.rates.now c.args.itags.now c.remaining.components.items c.remaining.rest.items none c.remaining.invariant
