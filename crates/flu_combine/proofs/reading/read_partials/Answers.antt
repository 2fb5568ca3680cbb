use Rattle.std.proofs.Common.{◌≡◌, ◌<◌, ℕ, ◌+◌, ◌/◌, [], ◌∷◌, Err, length, ap, sym, subst, ◌∙◌}
use Rattle.std.proofs.lemmas.List.{length-append}
use Rattle.std.proofs.lemmas.List.Elements.{All-append}
use Rattle.flu_model.specs.Moments.{end_of_times}
use Rattle.flu_deps.specs.Checking.{program_of}
use Rattle.flu_deps.specs.Validated.{plan_of}
use Rattle.flu_contribution.specs.Laws.{AreNodesApart}
use Rattle.flu_lemmas.proofs.Named.{fronts_at, fronts_then}
use Rattle.flu_streams.specs.Clocks.{AreEarly}
use Rattle.flu_joining.specs.Parts.{waiting_in, waiting_in_each}
use Rattle.std.proofs.Common.{take}
use Rattle.flu_combine.specs.declared.fault.CombineFault.{CombineFault}
use Rattle.flu_combine.specs.declared.fault.CombineFault.TheVariants as combine
use Rattle.flu_combine.specs.declared.fault.Refused.{Refused}
use Rattle.flu_combine.specs.declared.fault.Refused.TheVariants.{ReadFault}
use Rattle.flu_combine.specs.Reading.{IsRefusedAt, ranks_told}
use Rattle.flu_combine.proofs.Readings.{fronts_read, others_more, cause_of, halted_at, at_place, among_names, read_step, apart_more, same_then}
use Rattle.flu_combine.proofs.reading.read_partials.Goals as goal

-- a refusal for a read that failed is one of the call
failed_at : (place : ℕ) (refused : Refused) (fault : CombineFault) → refused ≡ ReadFault → IsRefusedAt place refused fault → fault ≡ combine.ReadFault
failed_at place refused fault is at = subst (λ r. IsRefusedAt place r fault) is at

pub returns-in_err-add-in-Ok-clause-fronts : goal.returns-in_err-add-in-Ok-clause-fronts
returns-in_err-add-in-Ok-clause-fronts g c =
    let left = g.F.Files.left in
    let read = fronts_read (program_of c.args.c.now) (plan_of c.args.v.now).nodes (take c.partials.place c.args.names.now) c.partials.partials.nodes.items
    (waiting_in_each c.partials.partials.queues.items) c.partials.partials.told.items (left c.args.files.now) (left c.partials.files)
    c.partials.invariant.read in
    fronts_then (left c.args.files.now) (left c.partials.files) (left c.read_one-read.new.files) read
    (fronts_at c.as_str-in-partials-2.result.now (left c.partials.files) (left c.read_one-read.new.files) c.read_one-read.ensures.taken)

pub returns-in_err-add-in-Ok-clause-others : goal.returns-in_err-add-in-Ok-clause-others
returns-in_err-add-in-Ok-clause-others g c =
    let left = g.F.Files.left in
    let names = c.args.names.now in
    let place = c.partials.place in
    let name = c.as_str-in-partials-2.result.now in
    let at = at_place names place name c.index-names-place.result c.partials-test.true c.as_str-in-partials-2.ensures c.index-names-place.is in
    others_more names name (left c.args.files.now) (left c.partials.files)
    (left c.read_one-read.new.files) (among_names names place name c.partials-test.true at)
    c.partials.invariant.others c.read_one-read.ensures.taken

pub returns-in-Err-clause-cause : goal.returns-in-Err-clause-cause
returns-in-Err-clause-cause g c =
    let left = g.F.Files.left in
    let faults = g.F.Files.faults in
    let names = c.args.names.now in
    let place = c.partials.place in
    let name = c.as_str-in-partials-2.result.now in
    let at = at_place names place name c.index-names-place.result c.partials-test.true c.as_str-in-partials-2.ensures c.index-names-place.is in
    let refusal = rw c.as_slice.ensures.value at c.in-Err.ensures.refused in
    cause_of (program_of c.args.c.now) (plan_of c.args.v.now).nodes names place name c.partials.partials.nodes.items
    (waiting_in_each c.partials.partials.queues.items) c.partials.partials.told.items c.in-Err.refused c.refused_at.result (left c.args.files.now)
    (left c.partials.files) (left c.read_one-read.new.files) (faults c.args.files.now) (faults c.partials.files) (faults c.read_one-read.new.files)
    c.partials-test.true at c.refused_at.ensures c.partials.invariant.apart c.partials.invariant.read c.partials.invariant.quiet refusal

pub returns-in-Err-clause-hides : goal.returns-in-Err-clause-hides
returns-in-Err-clause-hides g c = λ is.
    let left = g.F.Files.left in
    let faults = g.F.Files.faults in
    let names = c.args.names.now in
    let place = c.partials.place in
    let name = c.as_str-in-partials-2.result.now in
    let at = at_place names place name c.index-names-place.result c.partials-test.true c.as_str-in-partials-2.ensures c.index-names-place.is in
    let refusal = rw c.as_slice.ensures.value at c.in-Err.ensures.refused in
    halted_at (program_of c.args.c.now) (plan_of c.args.v.now).nodes names place name c.partials.partials.nodes.items
    (waiting_in_each c.partials.partials.queues.items) c.partials.partials.told.items c.in-Err.refused c.refused_at.result (left c.args.files.now)
    (left c.partials.files) (left c.read_one-read.new.files) (faults c.args.files.now) (faults c.partials.files) (faults c.read_one-read.new.files)
    c.partials-test.true at c.refused_at.ensures c.partials.invariant.apart c.partials.invariant.read c.partials.invariant.quiet refusal
    (let e : c.refused_at.result ≡ combine.ReadFault = cc in e)

pub returns-in-Err-clause-quiet : goal.returns-in-Err-clause-quiet
returns-in-Err-clause-quiet g c = λ other.
    let faults = g.F.Files.faults in
    same_then (faults c.args.files.now) (faults c.partials.files) (faults c.read_one-read.new.files) c.partials.invariant.quiet
    (c.in-Err.ensures.quiet (λ e. other (ap Err (failed_at c.partials.place c.in-Err.refused c.refused_at.result (cc) c.refused_at.ensures))))

pub returns-in-Err-clause-fronts : goal.returns-in-Err-clause-fronts
returns-in-Err-clause-fronts g c =
    let left = g.F.Files.left in
    let read = fronts_read (program_of c.args.c.now) (plan_of c.args.v.now).nodes (take c.partials.place c.args.names.now) c.partials.partials.nodes.items
    (waiting_in_each c.partials.partials.queues.items) c.partials.partials.told.items (left c.args.files.now) (left c.partials.files)
    c.partials.invariant.read in
    fronts_then (left c.args.files.now) (left c.partials.files) (left c.read_one-read.new.files) read
    (fronts_at c.as_str-in-partials-2.result.now (left c.partials.files) (left c.read_one-read.new.files) c.read_one-read.ensures.taken)

pub returns-in-Err-clause-others : goal.returns-in-Err-clause-others
returns-in-Err-clause-others g c =
    let left = g.F.Files.left in
    let names = c.args.names.now in
    let place = c.partials.place in
    let name = c.as_str-in-partials-2.result.now in
    let at = at_place names place name c.index-names-place.result c.partials-test.true c.as_str-in-partials-2.ensures c.index-names-place.is in
    others_more names name (left c.args.files.now) (left c.partials.files)
    (left c.read_one-read.new.files) (among_names names place name c.partials-test.true at)
    c.partials.invariant.others c.read_one-read.ensures.taken

pub partials-preserved : goal.partials-preserved
partials-preserved g c =
    let left = g.F.Files.left in
    let faults = g.F.Files.faults in
    let puts = g.F.Files.put_faults in
    let p = program_of c.args.c.now in
    let nodes = (plan_of c.args.v.now).nodes in
    let names = c.args.names.now in
    let place = c.partials.place in
    let name = c.as_str-in-partials-2.result.now in
    let ws = c.partials.partials.nodes.items in
    let w = c.in-Ok.accepted.node in
    let rows = ranks_told c.in-Ok.accepted.told in
    let old = c.args.files.now in
    let mid = c.partials.files in
    let new = c.read_one-read.new.files in
    let at = at_place names place name c.index-names-place.result c.partials-test.true c.as_str-in-partials-2.ensures c.index-names-place.is in
    let beside = rw c.as_slice.ensures.value at c.in-Ok.ensures.apart in
    record {
      read = read_step p nodes names place name ws c.add.new.self.nodes.items w (waiting_in_each c.partials.partials.queues.items)
          (waiting_in_each c.add.new.self.queues.items) (waiting_in c.in-Ok.accepted.queue) c.partials.partials.told.items c.add.new.self.told.items rows
          (left old) (left mid) (left new) c.partials-test.true at c.in_ok-add-in-Ok.ensures.nodes c.in_ok-add-in-Ok.ensures.queues
          c.in_ok-add-in-Ok.ensures.told c.partials.invariant.read c.in-Ok.ensures.read;
      many_nodes = ap length c.in_ok-add-in-Ok.ensures.nodes
          ∙ length-append ws (w ∷ [])
          ∙ ap (λ (n : ℕ). n + 1) c.partials.invariant.many_nodes;
      many = ap length c.in_ok-add-in-Ok.ensures.queues
          ∙ length-append (waiting_in_each c.partials.partials.queues.items) (waiting_in c.in-Ok.accepted.queue ∷ [])
          ∙ ap (λ (n : ℕ). n + 1) c.partials.invariant.many;
      early = subst (AreEarly p) (sym c.in_ok-add-in-Ok.ensures.told)
          (All-append (λ rank. rank / length p.sources < end_of_times p) c.partials.partials.told.items rows c.partials.invariant.early c.in-Ok.ensures.early);
      apart = subst (AreNodesApart p nodes) (sym c.in_ok-add-in-Ok.ensures.nodes) (apart_more p nodes ws w c.partials.invariant.apart beside);
      others = others_more names name (left old) (left mid) (left new) (among_names names place name c.partials-test.true at)
          c.partials.invariant.others c.read_one-read.ensures.taken;
      quiet = same_then (faults old) (faults mid) (faults new) c.partials.invariant.quiet (c.in-Ok.ensures.quiet (λ e. (cc)));
      puts = same_then (puts old) (puts mid) (puts new) c.partials.invariant.puts c.read_one-read.ensures.puts;
    }
