use Rattle.std.proofs.Common.{rules, arith, ap, ◌<◌, ◌+◌, ◌≤◌, length, get_or}
use Rattle.flu_arrive.proofs.Keeps.{feeds, reads}
use Rattle.flu_arrive.proofs.ends.Feeder.feed_many.Goals as goal

pub overflow_add-count : goal.overflow_add-count
overflow_add-count c =
    let me = c.self.inside.place.me.0 in let i = c.args.i.0 in let inv = c.self.invariant.0 in
    let limits_is = ap (λ f. f.limits) c.self.view_is in let counts_is = ap (λ f. f.counts) c.self.view_is in
    let room : get_or me.counts i 0 + c.args.n ≤ get_or me.limits i 0 = rw (limits_is, counts_is) c.requires.limit in
    let near : i < length me.counts = (let n : i < length me.limits = rw limits_is c.requires.in_range in let l = inv.long in omega arith) in
    let x = reads me.counts c.self.inside.counts.items i c.index.result.now c.self.invariant.2 near c.index.ensures in
    let fits = inv.fits i in
    omega arith

pub store-requires : goal.store-requires
store-requires c =
    let me = c.self.inside.place.me.0 in let i = c.args.i.0 in let inv = c.self.invariant.0 in
    let limits_is = ap (λ f. f.limits) c.self.view_is in let counts_is = ap (λ f. f.counts) c.self.view_is in
    let room : get_or me.counts i 0 + c.args.n ≤ get_or me.limits i 0 = rw (limits_is, counts_is) c.requires.limit in
    let in_limits : i < length me.limits = rw limits_is c.requires.in_range in
    let near : i < length me.counts = (let l = inv.long in omega arith) in
    let x = reads me.counts c.self.inside.counts.items i c.index.result.now c.self.invariant.2 near c.index.ensures in
    (search rules, (let w = inv.wide in rw c.deref.ensures (omega arith)), feeds _ _ _ _ _ _ c.self.invariant.1 near (omega arith) (omega arith))
