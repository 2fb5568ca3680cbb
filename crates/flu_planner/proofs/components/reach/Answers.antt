use Rattle.std.proofs.Common.{◌≡◌, ◌<◌, [], ◌∷◌, ◌++◌, length, get_or, drop, sym, ap, ◌∙◌, arith}
use Rattle.std.specs.List.{filter}
use Rattle.std.specs.Prelude.{not}
use Rattle.std.proofs.lemmas.Grind.{common_steps}
use Rattle.std.proofs.lemmas.List.{take_rest, get_or_read, nil_from_length}
use Rattle.flu_planner.specs.Graphs.{Graph}
use Rattle.flu_planner.specs.LoopTables.{graph_of}
use Rattle.flu_planner.proofs.Searching.{starts, goes_on, looks_on}
use Rattle.flu_planner.proofs.components.reach.Goals as goal
use Rattle.flu_planner.proofs.components.reach.Goals.{then-not-is_empty+in_ok-rest-2+in_ok-append, else-not-is_empty}

pub loop-head-init : goal.loop-head-init
loop-head-init c =
    let g : Graph = graph_of c.args.table.now in
    let itags = c.args.itags.now in
    let first : c.push.new.self.items ≡ get_or itags 0 0 ∷ [] = grind (arith, common_steps) in
    let rest : c.in_ok-rest.rest.items ≡ drop 1 itags = c.in_ok-rest.ensures.items_if_clones_equal (λ x y e. e) ∙ take_rest itags 1 in
    rw (first, rest) (starts g itags c.requires.some c.requires.rising)

pub loop-head-preserved : goal.loop-head-preserved
loop-head-preserved c =
    let g : Graph = graph_of c.args.table.now in
    let itags = c.args.itags.now in
    let head = c.loop-head.head in
    let connected = c.loop-head.connected.items in
    let rest = c.loop-head.rest.items in
    let i = get_or connected head 0 in
    let lt : head < length connected = grind (arith, common_steps) in
    let at_head : c.index-i.result.now ≡ i = get_or_read connected head c.index-i.result.now lt c.index-i.ensures 0 in
    elim c.if-not-is_empty.branch [
      | then-not-is_empty+in_ok-rest-2+in_ok-append w ↦
          let more : w.append.new.self.items ≡ connected ++ filter (g i) rest = w.in_ok-append.ensures.items
          ∙ ap (λ xs. connected ++ xs) (rw (c.deref.ensures.value, at_head) at c.in_ok-next.ensures) in
          let less : w.in_ok-rest-2.rest.items ≡ filter (λ j. not (g i j)) rest =
          rw (w.deref-then-not-is_empty.ensures.value, at_head) at w.in_ok-rest-2.ensures in
          rw (w.connected-is, w.rest-is, more, less) (goes_on g itags head connected rest lt c.loop-head.invariant)
      | else-not-is_empty w ↦
          let size : length c.in_ok-next.next.items ≡ 0 = grind (arith, common_steps) in
          let none : filter (g i) rest ≡ [] = sym (rw (c.deref.ensures.value, at_head) at c.in_ok-next.ensures)
          ∙ nil_from_length c.in_ok-next.next.items size in
          rw (w.connected-is, w.rest-is) (looks_on g itags head connected rest lt none c.loop-head.invariant)
    ]

pub loop-head-smaller : goal.loop-head-smaller
loop-head-smaller c =
    let sizes = c.loop-head.invariant.sizes in
    let lt : c.loop-head.head < length c.loop-head.connected.items = grind (arith, common_steps) in omega arith
