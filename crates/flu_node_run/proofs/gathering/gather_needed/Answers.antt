use Rattle.std.specs.Prelude.{[], OnOk, IfOk, IfErr, IsErrOf}
use Rattle.flu_outside.specs.Outside.{WhereTold}
use Rattle.flu_streams.specs.declared.faults.GatherFault.TheVariants as faults
use Rattle.flu_selected.specs.Gathering.{ReadAreGood, AreReadLists, ReadAreOut, IsFirstReadFault, LeavesUnread, CountsOfRead, HidesNone, ReadRose}
use Rattle.flu_node_run.proofs.Moved.{moved, is_read_as}
use Rattle.flu_node_run.proofs.gathering.gather_needed.Goals as goal

pub returns-clause-good : goal.returns-clause-good
returns-clause-good g c =
    moved (λ x. OnOk c.gather_selected.result (ReadAreGood x.0 [] x.1 (g.F.Files.left c.args.files.now) (g.F.Files.left c.gather_selected.new.files)))
    _ _ _ _ c.program.ensures (is_read_as _ _ _ c.as_slice.ensures c.sources_of_node-read.ensures.read) c.gather_selected.ensures.good

pub returns-clause-lists : goal.returns-clause-lists
returns-clause-lists g c =
    moved (λ x. IfOk c.gather_selected.result (AreReadLists x.0 [] x.1 (g.F.Files.left c.args.files.now) (g.F.Files.left c.gather_selected.new.files)))
    _ _ _ _ c.program.ensures (is_read_as _ _ _ c.as_slice.ensures c.sources_of_node-read.ensures.read) c.gather_selected.ensures.lists

pub returns-clause-read_out : goal.returns-clause-read_out
returns-clause-read_out g c =
    moved (λ x. OnOk c.gather_selected.result (ReadAreOut x.0 x.1 (g.F.Files.left c.gather_selected.new.files)))
    _ _ _ _ c.program.ensures (is_read_as _ _ _ c.as_slice.ensures c.sources_of_node-read.ensures.read) c.gather_selected.ensures.read_out

pub returns-clause-fault : goal.returns-clause-fault
returns-clause-fault g c =
    moved (λ x. IfErr c.gather_selected.result (IsFirstReadFault x.0 [] x.1 (g.F.Files.left c.args.files.now) (g.F.Files.left c.gather_selected.new.files)))
    _ _ _ _ c.program.ensures (is_read_as _ _ _ c.as_slice.ensures c.sources_of_node-read.ensures.read) c.gather_selected.ensures.fault

pub returns-clause-others : goal.returns-clause-others
returns-clause-others g c =
    moved (λ x. WhereTold (g.F.Files.left c.args.files.now) (g.F.Files.left c.gather_selected.new.files) (LeavesUnread x.0 x.1))
    _ _ _ _ c.program.ensures (is_read_as _ _ _ c.as_slice.ensures c.sources_of_node-read.ensures.read) c.gather_selected.ensures.others

pub returns-clause-counts : goal.returns-clause-counts
returns-clause-counts g c =
    moved (λ x. CountsOfRead x.0 x.1 (g.F.Files.left c.args.files.now)
    (g.F.Files.faults c.args.files.now) (g.F.Files.faults c.gather_selected.new.files))
    _ _ _ _ c.program.ensures (is_read_as _ _ _ c.as_slice.ensures c.sources_of_node-read.ensures.read) c.gather_selected.ensures.counts

pub returns-clause-hides : goal.returns-clause-hides
returns-clause-hides g c =
    moved (λ x. HidesNone c.gather_selected.result x.0 x.1 (g.F.Files.left c.args.files.now) (g.F.Files.left c.gather_selected.new.files)
    (g.F.Files.faults c.args.files.now) (g.F.Files.faults c.gather_selected.new.files))
    _ _ _ _ c.program.ensures (is_read_as _ _ _ c.as_slice.ensures c.sources_of_node-read.ensures.read) c.gather_selected.ensures.hides

pub returns-clause-read : goal.returns-clause-read
returns-clause-read g c =
    moved (λ x. IsErrOf c.gather_selected.result faults.ReadFault → ReadRose x.0 x.1 (g.F.Files.left c.args.files.now)
    (g.F.Files.faults c.args.files.now) (g.F.Files.faults c.gather_selected.new.files))
    _ _ _ _ c.program.ensures (is_read_as _ _ _ c.as_slice.ensures c.sources_of_node-read.ensures.read) c.gather_selected.ensures.read
