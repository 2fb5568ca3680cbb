use Rattle.std.proofs.Common.{◌≤◌, length, rules}
use Rattle.std.proofs.lemmas.Result.{IfErr-weaker}
use Rattle.flu_lemmas.proofs.Options.{IfOk-both}
use Rattle.flu_combine.specs.Reading.{ranks_told}
use Rattle.flu_combine.proofs.Readings.{one_read, refused_read}
use Rattle.flu_combine.proofs.reading.read_one.Goals as goal

pub returns-clause-read : goal.returns-clause-read
returns-clause-read g c =
    let left = g.F.Files.left in
    let few : length c.as_slice.result.now ≤ 536870912 = search rules in
    let took = rw (← c.as_slice.ensures.value) at c.in-Ok.ensures.whole in
    IfOk-both c.accept.result _ _ _
    (λ a is tells. one_read _ _ c.args.name.now c.as_slice.result.now a.node _ (ranks_told a.told) (left c.args.files.now)
    (left c.read_whole.new.files) few took c.in-Ok.ensures.taken is tells)
    c.accept.ensures.partial c.accept.ensures.tells

pub returns-clause-refused : goal.returns-clause-refused
returns-clause-refused g c =
    let left = g.F.Files.left in
    let faults = g.F.Files.faults in
    let few : length c.as_slice.result.now ≤ 536870912 = search rules in
    let took = rw (← c.as_slice.ensures.value) at c.in-Ok.ensures.whole in
    IfErr-weaker c.accept.result _ _
    (λ refused is. refused_read _ _ c.args.nodes.now c.args.name.now c.as_slice.result.now refused (left c.args.files.now)
    (left c.read_whole.new.files) (faults c.args.files.now) (faults c.read_whole.new.files) few took is)
    c.accept.ensures.refused
