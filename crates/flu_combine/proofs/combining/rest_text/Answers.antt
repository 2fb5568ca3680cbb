use Rattle.std.proofs.lemmas.Result.{IfOk-weaker, IfErr-weaker}
use Rattle.flu_deps.specs.Checking.{program_of}
use Rattle.flu_deps.specs.Validated.{plan_of}
use Rattle.flu_model.specs.Listed.{listed}
use Rattle.flu_joining.specs.Parts.{waiting_in_each}
use Rattle.flu_combine.proofs.Combinings.{rest_told, fault_told}
use Rattle.flu_combine.proofs.combining.rest_text.Goals as goal

pub returns-in-Ok-clause-rest : goal.returns-in-Ok-clause-rest
returns-in-Ok-clause-rest g c =
    let left = g.F.Files.left in
    IfOk-weaker c.joined_text.result _ _
    (λ text joined. rest_told (program_of c.args.c.now) (plan_of c.args.v.now).nodes c.args.nodes.now (waiting_in_each c.args.queues.items) c.args.told.now
    text (listed c.in-Ok.streams) (left c.args.files.now) (left c.gather_rest.new.files) c.in-Ok.ensures.good c.in-Ok.ensures.lists
    c.in-Ok.ensures.read_out joined)
    c.joined_text.ensures.joined

pub returns-in-Ok-clause-fault : goal.returns-in-Ok-clause-fault
returns-in-Ok-clause-fault g c =
    let left = g.F.Files.left in
    let faults = g.F.Files.faults in
    IfErr-weaker c.joined_text.result _ _
    (λ fault joined. fault_told (program_of c.args.c.now) (plan_of c.args.v.now).nodes c.args.nodes.now (waiting_in_each c.args.queues.items) c.args.told.now
    fault (listed c.in-Ok.streams) (left c.args.files.now) (left c.gather_rest.new.files) (faults c.args.files.now) (faults c.gather_rest.new.files)
    c.in-Ok.ensures.good c.in-Ok.ensures.lists joined)
    c.joined_text.ensures.fault
