use Rattle.std.proofs.Common.{ℕ, List, inr, sym, subst}
use Rattle.std.proofs.lemmas.Result.{IfOk-weaker, IfErr-weaker}
use Rattle.flu_lemmas.proofs.Named.{fronts_then}
use Rattle.flu_outside.specs.Outside.{WhereTold}
use Rattle.flu_outside.specs.Taking.{TookFronts}
use Rattle.flu_deps.specs.Checking.{program_of}
use Rattle.flu_deps.specs.Validated.{plan_of}
use Rattle.flu_contribution.specs.Laws.{AreNodesApart}
use Rattle.flu_joining.specs.Parts.{waiting_in_each}
use Rattle.flu_combine.specs.Reading.{AreRead}
use Rattle.flu_combine.proofs.Combinings.{combined_told, unread_told, cause_told, both_told, hides_behind}
use Rattle.flu_combine.proofs.combining.combined_text.Goals as goal

pub returns-in-Ok-clause-combined : goal.returns-in-Ok-clause-combined
returns-in-Ok-clause-combined g c =
    let left = g.F.Files.left in
    let p = program_of c.args.c.now in
    let nodes = (plan_of c.args.v.now).nodes in
    let names = c.args.names.now in
    let queues = waiting_in_each c.in-Ok.field-0.queues.items in
    let told = c.as_slice-in-Ok.result.now in
    let old = left c.args.files.now in
    let mid = left c.read_partials.new.files in
    let new = left c.rest_text.new.files in
    let apart = subst (AreNodesApart p nodes) (sym c.as_slice.ensures.value) c.in-Ok.ensures.apart in
    let read = subst (λ (ws : List ℕ). WhereTold old mid (AreRead p nodes names ws queues told)) (sym c.as_slice.ensures.value)
    (subst (λ (ranks : List ℕ). WhereTold old mid (AreRead p nodes names c.in-Ok.field-0.nodes.items queues ranks)) (sym c.as_slice-in-Ok.ensures.value)
    c.in-Ok.ensures.read) in
    IfOk-weaker c.rest_text.result _ _
    (λ text rest. combined_told p nodes names c.as_slice.result.now queues told text old mid new c.requires.some apart read rest c.rest_text.ensures.others)
    c.rest_text.ensures.rest

pub returns-in-Ok-clause-cause : goal.returns-in-Ok-clause-cause
returns-in-Ok-clause-cause g c =
    let left = g.F.Files.left in
    let faults = g.F.Files.faults in
    let p = program_of c.args.c.now in
    let nodes = (plan_of c.args.v.now).nodes in
    let names = c.args.names.now in
    let queues = waiting_in_each c.in-Ok.field-0.queues.items in
    let told = c.as_slice-in-Ok.result.now in
    let old = left c.args.files.now in
    let mid = left c.read_partials.new.files in
    let new = left c.rest_text.new.files in
    let apart = subst (AreNodesApart p nodes) (sym c.as_slice.ensures.value) c.in-Ok.ensures.apart in
    let read = subst (λ (ws : List ℕ). WhereTold old mid (AreRead p nodes names ws queues told)) (sym c.as_slice.ensures.value)
    (subst (λ (ranks : List ℕ). WhereTold old mid (AreRead p nodes names c.in-Ok.field-0.nodes.items queues ranks)) (sym c.as_slice-in-Ok.ensures.value)
    c.in-Ok.ensures.read) in
    IfErr-weaker c.rest_text.result _ _
    (λ fault is. cause_told p nodes names c.as_slice.result.now queues told fault old mid new (faults c.args.files.now) (faults c.read_partials.new.files)
    (faults c.rest_text.new.files) apart c.in-Ok.ensures.as_many read (c.in-Ok.ensures.quiet (λ e. (cc)))
    (both_told TookFronts mid new c.rest_text.ensures.fronts) is)
    c.rest_text.ensures.fault

pub returns-in-Ok-clause-fronts : goal.returns-in-Ok-clause-fronts
returns-in-Ok-clause-fronts g c =
    let left = g.F.Files.left in
    fronts_then (left c.args.files.now) (left c.read_partials.new.files) (left c.rest_text.new.files) c.in-Ok.ensures.fronts c.rest_text.ensures.fronts

pub returns-in-Ok-clause-others : goal.returns-in-Ok-clause-others
returns-in-Ok-clause-others g c =
    let left = g.F.Files.left in
    let p = program_of c.args.c.now in
    let nodes = (plan_of c.args.v.now).nodes in
    let names = c.args.names.now in
    let queues = waiting_in_each c.in-Ok.field-0.queues.items in
    let told = c.as_slice-in-Ok.result.now in
    let old = left c.args.files.now in
    let mid = left c.read_partials.new.files in
    let apart = subst (AreNodesApart p nodes) (sym c.as_slice.ensures.value) c.in-Ok.ensures.apart in
    let read = subst (λ (ws : List ℕ). WhereTold old mid (AreRead p nodes names ws queues told)) (sym c.as_slice.ensures.value)
    (subst (λ (ranks : List ℕ). WhereTold old mid (AreRead p nodes names c.in-Ok.field-0.nodes.items queues ranks)) (sym c.as_slice-in-Ok.ensures.value)
    c.in-Ok.ensures.read) in
    unread_told p nodes names c.as_slice.result.now queues told old mid (left c.rest_text.new.files) apart read c.in-Ok.ensures.others
    c.rest_text.ensures.others

pub returns-in-Ok-clause-hides : goal.returns-in-Ok-clause-hides
returns-in-Ok-clause-hides g c = λ is.
    let left = g.F.Files.left in
    let faults = g.F.Files.faults in
    let p = program_of c.args.c.now in
    let nodes = (plan_of c.args.v.now).nodes in
    let names = c.args.names.now in
    let queues = waiting_in_each c.in-Ok.field-0.queues.items in
    let told = c.as_slice-in-Ok.result.now in
    let old = left c.args.files.now in
    let mid = left c.read_partials.new.files in
    let new = left c.rest_text.new.files in
    let apart = subst (AreNodesApart p nodes) (sym c.as_slice.ensures.value) c.in-Ok.ensures.apart in
    let read = subst (λ (ws : List ℕ). WhereTold old mid (AreRead p nodes names ws queues told)) (sym c.as_slice.ensures.value)
    (subst (λ (ranks : List ℕ). WhereTold old mid (AreRead p nodes names c.in-Ok.field-0.nodes.items queues ranks)) (sym c.as_slice-in-Ok.ensures.value)
    c.in-Ok.ensures.read) in
    inr (hides_behind p nodes names c.as_slice.result.now queues told old mid new (faults c.args.files.now) (faults c.read_partials.new.files)
    (faults c.rest_text.new.files) apart read (c.in-Ok.ensures.quiet (λ e. (cc)))
    (both_told TookFronts mid new c.rest_text.ensures.fronts) (c.rest_text.ensures.hides is))
