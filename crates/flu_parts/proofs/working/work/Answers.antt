use Rattle.std.proofs.Common.{sym, ap, subst, map, string_bytes}
use Rattle.flu_deps.specs.Checking.{program_of}
use Rattle.flu_deps.specs.Validated.{plan_of}
use Rattle.flu_words.specs.Parts.{plain_part}
use Rattle.flu_top.specs.Ending.{call}
use Rattle.flu_parts.specs.Ending.{IsEndBehind}
use Rattle.flu_parts.specs.Planned.{NamesSome}
use Rattle.flu_parts.proofs.working.work.Goals as goal

pub combine_parts-requires-clause-some : goal.combine_parts-requires-clause-some
combine_parts-requires-clause-some g c =
    let some = subst (λ d. NamesSome (plain_part d)) c.in-Combine.is c.requires.some in
    λ none. some (ap (map string_bytes) none)

pub returns-in-Partial-clause-ends : goal.returns-in-Partial-clause-ends
returns-in-Partial-clause-ends g c =
    let left = g.F.Files.left in
    let faults = g.F.Files.faults in
    let puts = g.F.Files.put_faults in
    let taken = g.K.Sink.taken in
    let counts = g.K.Sink.faults in
    subst (λ d. IsEndBehind (plain_part d) (program_of c.args.checked.now) (plan_of c.args.valid.now).nodes
    (call (left c.args.files.now) (left c.write_part.new.files) (faults c.args.files.now) (faults c.write_part.new.files) (puts c.args.files.now)
    (puts c.write_part.new.files) (taken c.args.out.now) (taken c.write_part.new.out)
    (counts c.args.out.now) (counts c.write_part.new.out)) c.write_part.result) (sym c.in-Partial.is)
    (c.write_part.ensures.ends c.in-Partial.job.now c.in-Partial.plan.now)

pub returns-in-Combine-clause-ends : goal.returns-in-Combine-clause-ends
returns-in-Combine-clause-ends g c =
    let left = g.F.Files.left in
    let faults = g.F.Files.faults in
    let puts = g.F.Files.put_faults in
    let taken = g.K.Sink.taken in
    let counts = g.K.Sink.faults in
    subst (λ d. IsEndBehind (plain_part d) (program_of c.args.checked.now) (plan_of c.args.valid.now).nodes
    (call (left c.args.files.now) (left c.combine_parts.new.files) (faults c.args.files.now) (faults c.combine_parts.new.files) (puts c.args.files.now)
    (puts c.combine_parts.new.files) (taken c.args.out.now) (taken c.combine_parts.new.out)
    (counts c.args.out.now) (counts c.combine_parts.new.out)) c.combine_parts.result) (sym c.in-Combine.is)
    (c.combine_parts.ensures.ends c.in-Combine.job.now c.in-Combine.plan.now)
