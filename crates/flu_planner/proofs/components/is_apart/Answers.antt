use Rattle.std.proofs.Common.{◌≡◌, length, arith, sym}
use Rattle.std.specs.Prelude.{◌==◌}
use Rattle.std.proofs.lemmas.Bool.{eqb-true}
use Rattle.std.proofs.lemmas.Grind.{common_steps}
use Rattle.flu_planner.specs.LoopTables.{graph_of}
use Rattle.flu_planner.proofs.Tables.{graph_turns}
use Rattle.flu_planner.proofs.Searching.{none_tells, rest_tells}
use Rattle.flu_planner.proofs.components.is_apart.Goals as goal

pub returns-then-is_empty : goal.returns-then-is_empty
returns-then-is_empty c = none_tells (graph_of c.args.table.now) c.args.itags.now (eqb-true (length c.args.itags.now) 0 (sym c.if-is_empty.ensures))

pub returns : goal.returns
returns c =
    let table = c.args.table.now in
    let found = c.in_ok-found.found in
    let empty : c.is_empty-2.result ≡ (length found.rest.items == 0) = grind (arith, common_steps) in
    rest_tells (graph_of table)
    (graph_turns table) c.args.itags.now c.requires found.connected.items found.rest.items c.in_ok-found.ensures c.is_empty-2.result empty
