use Rattle.std.proofs.Common.{◌≡◌, subst, length}
use Rattle.std.specs.Prelude.{IfOk, IfErr, OnOk, IsErrOf}
use Rattle.flu_outside.specs.Outside.{WhereTold}
use Rattle.flu_model.specs.declared.jobs.Program.{Program}
use Rattle.flu_model.specs.Itags.{count_of_itags}
use Rattle.flu_model.specs.Listed.{listed}
use Rattle.flu_streams.specs.declared.faults.GatherFault.{GatherFault}
use Rattle.flu_streams.specs.Faults.{IsFirstFault, HidesNothing}
use Rattle.flu_streams.specs.Files.{files_of, LeavesOthers, AreReadOut}
use Rattle.flu_streams.specs.Good.{AreGood, lists_of}
use Rattle.flu_top.proofs.sources.streams_of.Goals as goal

pub returns-clause-good : goal.returns-clause-good
returns-clause-good g c = subst (λ (q : Program). OnOk c.gather.result
    (WhereTold (g.F.Files.left c.args.files.now) (g.F.Files.left c.gather.new.files) (λ old new. AreGood q old))) c.program.ensures c.gather.ensures.good

pub returns-clause-lists : goal.returns-clause-lists
returns-clause-lists g c = subst (λ (q : Program). IfOk c.gather.result
    (λ streams. WhereTold (g.F.Files.left c.args.files.now) (g.F.Files.left c.gather.new.files) (λ old new. listed streams ≡ lists_of q old)))
    c.program.ensures c.gather.ensures.lists

pub returns-clause-itags : goal.returns-clause-itags
returns-clause-itags g c = subst (λ (q : Program). IfOk c.gather.result (λ streams. length (listed streams) ≡ count_of_itags q)) c.program.ensures
    c.gather.ensures.itags

pub returns-clause-read_out : goal.returns-clause-read_out
returns-clause-read_out g c = subst (λ (q : Program). OnOk c.gather.result (AreReadOut (files_of q.sources) (g.F.Files.left c.gather.new.files)))
    c.program.ensures c.gather.ensures.read_out

pub returns-clause-fault : goal.returns-clause-fault
returns-clause-fault g c = subst (λ (q : Program). IfErr c.gather.result
    (IsFirstFault q (g.F.Files.left c.args.files.now) (g.F.Files.left c.gather.new.files))) c.program.ensures c.gather.ensures.fault

pub returns-clause-others : goal.returns-clause-others
returns-clause-others g c = subst (λ (q : Program). WhereTold (g.F.Files.left c.args.files.now) (g.F.Files.left c.gather.new.files)
    (LeavesOthers (files_of q.sources))) c.program.ensures c.gather.ensures.others

pub returns-clause-hides : goal.returns-clause-hides
returns-clause-hides g c = subst (λ (q : Program). IsErrOf c.gather.result GatherFault.ReadFault
    → HidesNothing q (g.F.Files.left c.args.files.now) (g.F.Files.left c.gather.new.files) (g.F.Files.faults c.args.files.now)
    (g.F.Files.faults c.gather.new.files)) c.program.ensures c.gather.ensures.hides

pub returns-clause-rise : goal.returns-clause-rise
returns-clause-rise g c n = c.gather.ensures.counts.rise n
