use Rattle.std.proofs.Common.{[], ◌∷◌, length, length-append, ap, arith}
use Rattle.flu_deps.specs.Validated.{plan_of}
use Rattle.flu_fork.proofs.LotLemmas.{tables_turn}
use Rattle.flu_fork.proofs.rights.rights.Goals as goal

pub loop-w-preserved : goal.loop-w-preserved
loop-w-preserved c =
    let old = c.loop-w.tables.items in
    let one = c.in_ok-right_at.field-0 in
    record {
      so_many = omega (arith, ap length c.in_ok-push.ensures.items, length-append old (one ∷ []), c.loop-w.invariant.so_many);
      right = tables_turn c.args.p.now (plan_of c.args.v.now).nodes c.loop-w.w old _ one c.in_ok-push.ensures.items c.loop-w.invariant.so_many
          c.in_ok-right_at.ensures c.loop-w.invariant.right;
    }
