use Rattle.std.proofs.lemmas.Result.{IfErr-weaker}
use Rattle.flu_model.specs.Listed.{listed}
use Rattle.flu_deps.specs.Checking.{program_of}
use Rattle.flu_deps.specs.Validated.{plan_of}
use Rattle.flu_lemmas.proofs.Named.{fronts_at, fronts_then}
use Rattle.flu_top.proofs.Replays.{are_read, replayed_behind, stays_behind, only_of_sources, only_of_both, behind_refusal}
use Rattle.flu_top.proofs.replaying.report_of.Goals as goal

pub returns-in-Err-Source-clause-only : goal.returns-in-Err-Source-clause-only
returns-in-Err-Source-clause-only g c = only_of_sources (program_of c.args.planned.checked) c.args.trace.now _ _ c.streams_of.ensures.others

pub returns-in-Err-ReadFault-clause-only : goal.returns-in-Err-ReadFault-clause-only
returns-in-Err-ReadFault-clause-only g c = only_of_sources (program_of c.args.planned.checked) c.args.trace.now _ _ c.streams_of.ensures.others

pub returns-in-Err-NoMemory-clause-only : goal.returns-in-Err-NoMemory-clause-only
returns-in-Err-NoMemory-clause-only g c = only_of_sources (program_of c.args.planned.checked) c.args.trace.now _ _ c.streams_of.ensures.others

pub returns-clause-replayed : goal.returns-clause-replayed
returns-clause-replayed g c =
    let p = program_of c.args.planned.checked in
    let left = g.F.Files.left in
    let lists = listed c.in-Ok.streams in
    replayed_behind p (plan_of c.args.planned.valid).nodes lists c.args.trace.now (left c.args.files.now) (left c.streams_of.new.files)
    (left c.net_report.new.files) c.net_report.result
    (are_read p lists _ _ c.in-Ok.ensures.good c.in-Ok.ensures.lists c.in-Ok.ensures.read_out c.streams_of.ensures.others) c.net_report.ensures.report
    c.net_report.ensures.complete c.net_report.ensures.end c.net_report.ensures.taken

pub returns-clause-stays : goal.returns-clause-stays
returns-clause-stays g c =
    let p = program_of c.args.planned.checked in
    let left = g.F.Files.left in
    let lists = listed c.in-Ok.streams in
    stays_behind p lists c.args.trace.now (left c.args.files.now) (left c.streams_of.new.files) (left c.net_report.new.files) c.net_report.result
    (are_read p lists _ _ c.in-Ok.ensures.good c.in-Ok.ensures.lists c.in-Ok.ensures.read_out c.streams_of.ensures.others) c.net_report.ensures.end
    c.net_report.ensures.taken

pub returns-clause-refused : goal.returns-clause-refused
returns-clause-refused g c =
    let p = program_of c.args.planned.checked in
    let left = g.F.Files.left in
    let faults = g.F.Files.faults in
    let lists = listed c.in-Ok.streams in
    IfErr-weaker c.net_report.result _ _
    (λ refusal refused. behind_refusal p (plan_of c.args.planned.valid).nodes lists c.args.trace.now (left c.args.files.now) (left c.streams_of.new.files)
    (left c.net_report.new.files)
    (faults c.args.files.now) (faults c.streams_of.new.files) (faults c.net_report.new.files) refusal
    (are_read p lists _ _ c.in-Ok.ensures.good c.in-Ok.ensures.lists c.in-Ok.ensures.read_out c.streams_of.ensures.others) c.net_report.ensures.taken
    c.streams_of.ensures.rise refused)
    c.net_report.ensures.refused

pub returns-clause-fronts : goal.returns-clause-fronts
returns-clause-fronts g c = fronts_then _ _ _ c.streams_of.ensures.fronts (fronts_at c.args.trace.now _ _ c.net_report.ensures.taken)

pub returns-clause-only : goal.returns-clause-only
returns-clause-only g c =
    let p = program_of c.args.planned.checked in
    let lists = listed c.in-Ok.streams in
    only_of_both p lists c.args.trace.now _ _ _ (are_read p lists _ _ c.in-Ok.ensures.good c.in-Ok.ensures.lists c.in-Ok.ensures.read_out
    c.streams_of.ensures.others) c.net_report.ensures.taken
