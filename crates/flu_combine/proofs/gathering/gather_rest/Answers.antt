use Rattle.std.proofs.Common.{ap, ◌∙◌}
use Rattle.std.specs.Prelude.{OnOk, IfOk, IfErr}
use Rattle.flu_outside.specs.Outside.{WhereTold}
use Rattle.flu_selected.specs.Gathering.{reads}
use Rattle.flu_selected.specs.Gathering.{ReadAreGood, AreReadLists, ReadAreOut, IsFirstReadFault, LeavesUnread, ReadRose, HidesNoReadDefect}
use Rattle.flu_combine.proofs.Combinings.{moved}
use Rattle.flu_combine.proofs.gathering.gather_rest.Goals as goal

pub returns-clause-good : goal.returns-clause-good
returns-clause-good g c =
    let left = g.F.Files.left in
    moved (λ q r. OnOk c.gather_selected.result (ReadAreGood q c.args.told.now r (left c.args.files.now) (left c.gather_selected.new.files))) _ _ _ _
    c.program.ensures (ap reads c.as_slice.ensures ∙ c.sources_of_rest-read.ensures.read) c.gather_selected.ensures.good

pub returns-clause-lists : goal.returns-clause-lists
returns-clause-lists g c =
    let left = g.F.Files.left in
    moved (λ q r. IfOk c.gather_selected.result (AreReadLists q c.args.told.now r (left c.args.files.now) (left c.gather_selected.new.files))) _ _ _ _
    c.program.ensures (ap reads c.as_slice.ensures ∙ c.sources_of_rest-read.ensures.read) c.gather_selected.ensures.lists

pub returns-clause-read_out : goal.returns-clause-read_out
returns-clause-read_out g c =
    let left = g.F.Files.left in
    moved (λ q r. OnOk c.gather_selected.result (ReadAreOut q r (left c.gather_selected.new.files))) _ _ _ _ c.program.ensures
    (ap reads c.as_slice.ensures ∙ c.sources_of_rest-read.ensures.read) c.gather_selected.ensures.read_out

pub returns-clause-fault : goal.returns-clause-fault
returns-clause-fault g c =
    let left = g.F.Files.left in
    moved (λ q r. IfErr c.gather_selected.result (IsFirstReadFault q c.args.told.now r (left c.args.files.now) (left c.gather_selected.new.files))) _ _ _ _
    c.program.ensures (ap reads c.as_slice.ensures ∙ c.sources_of_rest-read.ensures.read) c.gather_selected.ensures.fault

pub returns-clause-others : goal.returns-clause-others
returns-clause-others g c =
    let left = g.F.Files.left in
    moved (λ q r. WhereTold (left c.args.files.now) (left c.gather_selected.new.files) (LeavesUnread q r)) _ _ _ _ c.program.ensures
    (ap reads c.as_slice.ensures ∙ c.sources_of_rest-read.ensures.read) c.gather_selected.ensures.others

pub returns-clause-read : goal.returns-clause-read
returns-clause-read g c = λ is.
    let left = g.F.Files.left in
    let faults = g.F.Files.faults in
    moved (λ q r. ReadRose q r (left c.args.files.now) (faults c.args.files.now) (faults c.gather_selected.new.files)) _ _ _ _ c.program.ensures
    (ap reads c.as_slice.ensures ∙ c.sources_of_rest-read.ensures.read) (c.gather_selected.ensures.read is)

pub returns-clause-hides : goal.returns-clause-hides
returns-clause-hides g c = λ is.
    let left = g.F.Files.left in
    let faults = g.F.Files.faults in
    moved (λ q r. HidesNoReadDefect q r (left c.args.files.now) (left c.gather_selected.new.files) (faults c.args.files.now)
    (faults c.gather_selected.new.files)) _ _ _ _ c.program.ensures
    (ap reads c.as_slice.ensures ∙ c.sources_of_rest-read.ensures.read) (c.gather_selected.ensures.hides is)
