use Rattle.std.proofs.Common.{◌<◌, sym, ◌∙◌, arith}
use Rattle.std.specs.List.{All}
use Rattle.std.specs.Ordering.{nat_cmp}
use Rattle.std.specs.BTreeMap.{keys}
use Rattle.std.specs.BTreeMap.Range.{IsLeBy}
use Rattle.flu_streams.proofs.Keyed.{all_after}
use Rattle.flu_streams.proofs.timed.drop_late.Goals as goal

pub returns-then-own-time-clause-left : goal.returns-then-own-time-clause-left
returns-then-own-time-clause-left c =
    let late = c.loop-own.late in
    let lt : c.args.time < c.in-Some.own.now = omega arith in
    let all : All (IsLeBy nat_cmp c.in-Some.own.now) (keys late) = c.in-Some.ensures.all_from in
    sym (all_after c.args.time c.in-Some.own.now late.entries c.loop-own.invariant.keyed lt all) ∙ c.loop-own.invariant.same
