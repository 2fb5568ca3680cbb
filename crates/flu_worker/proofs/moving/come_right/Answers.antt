use Rattle.std.proofs.Common.{refl, sym, subst}
use Rattle.flu_worker.specs.declared.holding.Holding.{Holding}
use Rattle.flu_worker.specs.declared.holding.Holding.TheVariants.{Whole}
use Rattle.flu_worker.specs.Moving.{RightComes}
use Rattle.flu_worker.proofs.moving.come_right.Goals as goal

pub returns-in_ok-join-in-TakingLeft : goal.returns-in_ok-join-in-TakingLeft
returns-in_ok-join-in-TakingLeft c =
    let j = c.in_ok-join-in-TakingLeft in
    subst (λ (h : Holding). RightComes c.args.case.now c.args.node h c.args.lot (Whole j.field-0)) (sym c.in-TakingLeft.is) (record {
      lot = j.field-0;
      is = refl;
      fits = j.ensures.fits;
      counts = j.ensures.counts;
    })
