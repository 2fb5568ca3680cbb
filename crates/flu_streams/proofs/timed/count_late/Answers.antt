use Rattle.std.proofs.Common.{◌≡◌, length, ap, ◌∙◌, rules}
use Rattle.std.specs.Ordering.{nat_cmp}
use Rattle.std.specs.BTreeMap.Range.{entries_between}
use Rattle.std.specs.declared.ops.Bound.TheVariants.{Included, Unbounded}
use Rattle.flu_streams.proofs.Keyed.{count_keyed}
use Rattle.flu_streams.proofs.timed.count_late.Goals as goal

pub returns : goal.returns
returns c =
    let all : c.count.result ≡ length c.range.result = search rules in
    let between : c.range.result ≡ entries_between nat_cmp Unbounded (Included c.args.time) c.args.late.now.entries = search rules in
    all ∙ ap length between ∙ count_keyed c.args.time c.args.late.now.entries c.requires.keyed
