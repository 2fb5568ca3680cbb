use Rattle.std.proofs.Common.{not, List, [], sym, ap, ◌∙◌}
use Rattle.std.specs.Prelude.{position}
use Rattle.std.specs.List.{list_all}
use Rattle.flu_model.specs.declared.events.Event.{Event}
use Rattle.flu_model.specs.Contents.{Contents}
use Rattle.flu_model.specs.Listed.{listed}
use Rattle.flu_deps.specs.Checking.{program_of}
use Rattle.flu_deps.specs.Validated.{plan_of}
use Rattle.flu_lemmas.proofs.Places.{position-map}
use Rattle.flu_contribution.specs.Combining.{Combined}
use Rattle.flu_contribution.specs.Contributions.{Contribution}
use Rattle.flu_contribution.specs.Sending.{joined_from}
use Rattle.flu_joining.specs.declared.queue.Queue.{Queue}
use Rattle.flu_joining.specs.Joining.{is_last_alone, waiting_behind}
use Rattle.flu_joining.specs.Parts.{waiting_in, waiting_in_each}
use Rattle.flu_joining.proofs.Tables.{table_filter, in_range, none_fails}
use Rattle.flu_joining.proofs.joining.join_sent.Goals as goal

abbrev begin_with : Contents → Combined
begin_with cells = record { cells = cells; outputs = [] }

pub join_events-requires : goal.join_events-requires
join_events-requires c =
    let p = program_of c.args.c.now in
    in_range p (plan_of c.args.v.now).nodes c.args.nodes_apart.now (listed c.args.streams.now) c.requires.lists c.args.streams.now.good
    c.as_slice.result.now _ (c.new-fold.ensures.job ∙ c.program-3.ensures) (c.as_slice.ensures.value ∙ c.in_ok-events.ensures.same)

pub returns-in-Some-clause-left_over : goal.returns-in-Some-clause-left_over
returns-in-Some-clause-left_over c =
    let p = program_of c.args.c.now in
    let test : List Contribution → _ = λ ks. not (is_last_alone ks) in
    let through = table_filter p (plan_of c.args.v.now).nodes c.args.nodes_apart.now (listed c.args.streams.now) c.requires.lists c.args.streams.now.good
    c.of_none-table.result c.as_slice.result.now _ c.program.ensures (c.as_slice.ensures.value ∙ c.in_ok-events.ensures.same) c.of_none-table.ensures in
    ap (λ (ys : List Event). position test (waiting_behind (waiting_in_each c.args.queues.items) ys)) (sym through)
    ∙ ap (position test) (sym c.in_ok-join_events.ensures.queues)
    ∙ position-map test waiting_in c.join_events.new.queues.items
    ∙ ap (position (λ (q : Queue). not (is_last_alone (waiting_in q)))) (sym c.as_slice-2.ensures.value)
    ∙ sym c.in-Some.ensures

pub returns-clause-cells : goal.returns-clause-cells
returns-clause-cells c =
    let p = program_of c.args.c.now in
    let queues = waiting_in_each c.args.queues.items in
    let through = table_filter p (plan_of c.args.v.now).nodes c.args.nodes_apart.now (listed c.args.streams.now) c.requires.lists c.args.streams.now.good
    c.of_none-table.result c.as_slice.result.now _ c.program.ensures (c.as_slice.ensures.value ∙ c.in_ok-events.ensures.same) c.of_none-table.ensures in
    let job = c.new-fold.ensures.job ∙ c.program-3.ensures in
    let start = c.new-fold.ensures.combined ∙ ap begin_with c.new.ensures in
    c.end.ensures.cells
    ∙ ap (λ (r : Combined). r.cells)
    (c.in_ok-join_last.ensures.combined
    ∙ c.in_ok-join_events.ensures.combined
    ∙ (λ j. joined_from (job j) (start j) queues (through j)))

pub returns-clause-outputs : goal.returns-clause-outputs
returns-clause-outputs c =
    let p = program_of c.args.c.now in
    let queues = waiting_in_each c.args.queues.items in
    let through = table_filter p (plan_of c.args.v.now).nodes c.args.nodes_apart.now (listed c.args.streams.now) c.requires.lists c.args.streams.now.good
    c.of_none-table.result c.as_slice.result.now _ c.program.ensures (c.as_slice.ensures.value ∙ c.in_ok-events.ensures.same) c.of_none-table.ensures in
    let job = c.new-fold.ensures.job ∙ c.program-3.ensures in
    let start = c.new-fold.ensures.combined ∙ ap begin_with c.new.ensures in
    c.end.ensures.outputs
    ∙ ap (λ (r : Combined). r.outputs)
    (c.in_ok-join_last.ensures.combined
    ∙ c.in_ok-join_events.ensures.combined
    ∙ (λ j. joined_from (job j) (start j) queues (through j)))

pub returns-clause-used_up : goal.returns-clause-used_up
returns-clause-used_up c =
    let p = program_of c.args.c.now in
    let test : List Contribution → _ = λ ks. not (is_last_alone ks) in
    let through = table_filter p (plan_of c.args.v.now).nodes c.args.nodes_apart.now (listed c.args.streams.now) c.requires.lists c.args.streams.now.good
    c.of_none-table.result c.as_slice.result.now _ c.program.ensures (c.as_slice.ensures.value ∙ c.in_ok-events.ensures.same) c.of_none-table.ensures in
    let none = position-map test waiting_in c.join_events.new.queues.items
    ∙ ap (position (λ (q : Queue). not (is_last_alone (waiting_in q)))) (sym c.as_slice-2.ensures.value)
    ∙ sym c.in_default.ensures in
    ap (λ (ys : List Event). list_all is_last_alone (waiting_behind (waiting_in_each c.args.queues.items) ys)) (sym through)
    ∙ ap (list_all is_last_alone) (sym c.in_ok-join_events.ensures.queues)
    ∙ none_fails is_last_alone (waiting_in_each c.join_events.new.queues.items) none
