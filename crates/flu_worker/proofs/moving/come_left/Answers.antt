use Rattle.std.proofs.Common.{refl, sym, subst}
use Rattle.flu_worker.specs.declared.holding.Holding.{Holding}
use Rattle.flu_worker.specs.declared.holding.Holding.TheVariants.{Whole}
use Rattle.flu_worker.specs.Moving.{LeftComes}
use Rattle.flu_worker.proofs.moving.come_left.Goals as goal

pub returns-in_ok-join-in-TakingRight : goal.returns-in_ok-join-in-TakingRight
returns-in_ok-join-in-TakingRight c =
    let j = c.in_ok-join-in-TakingRight in
    subst (λ (h : Holding). LeftComes c.args.case.now c.args.node h c.args.lot (Whole j.field-0)) (sym c.in-TakingRight.is) (record {
      lot = j.field-0;
      is = refl;
      fits = j.ensures.fits;
      counts = j.ensures.counts;
    })
