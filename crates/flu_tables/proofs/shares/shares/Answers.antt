use Rattle.std.proofs.Common.{[], ◌∷◌, length, length-append, ap, subst, sym, ◌∙◌, arith}
use Rattle.std.specs.Prelude.{slice_get}
use Rattle.flu_lemmas.proofs.Elements.{each_push}
use Rattle.flu_deps.specs.Validated.{plan_of}
use Rattle.flu_tables.specs.LoopShares.{IsShareOf}
use Rattle.flu_tables.proofs.shares.shares.Goals as goal

pub loop-w-preserved : goal.loop-w-preserved
loop-w-preserved c =
    let p = c.args.p.now in
    let nodes = (plan_of c.args.v.now).nodes in
    let old = c.loop-w.shares.items in
    let one = c.in_ok-share_of.field-0 in
    let had = c.loop-w.invariant.so_many in
    record {
      so_many = omega (arith, ap length c.in_ok-push.ensures.items, length-append old (one ∷ []), had);
      of_nodes = λ w share found.
          each_push (IsShareOf p nodes) old one c.loop-w.invariant.of_nodes (subst (λ k. IsShareOf p nodes k one) (sym had) c.in_ok-share_of.ensures)
          w share (ap (λ ss. slice_get ss w) (sym c.in_ok-push.ensures.items) ∙ found);
    }
