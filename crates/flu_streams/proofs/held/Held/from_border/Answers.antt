use Rattle.std.proofs.Common.{sym, subst}
use Rattle.flu_streams.specs.LoopHeld.{AreWell}
use Rattle.flu_streams.proofs.RefillEnds.{fresh_well}
use Rattle.flu_streams.proofs.held.Held.from_border.Goals as goal

pub invariant_of-result : goal.invariant_of-result
invariant_of-result c = (
  subst (λ p. AreWell p c.args.rows c.args.border c.in_ok-sources.sources.items) (sym c.of.ensures)
      (fresh_well c.args.p.now c.args.rows c.args.border c.in_ok-sources.sources.items c.requires.some c.requires.few c.in_ok-sources.ensures.unread
      c.in_ok-sources.ensures.timed),
  c.in_ok-sources.ensures.uncounted,
)
