use Rattle.std.proofs.Common.{◌∙◌}
use Rattle.flu_thread_tests.proofs.RowLemmas.{zeros}
use Rattle.flu_thread_tests.proofs.lots.left_part.Goals as goal

pub returns : goal.returns
returns c = record {
  fits = (c.in_ok-left.ensures.fits _ _ c.requires.shape.root).left;
  since = c.in_ok-left.ensures.counts.left_since ∙ (c.in_ok-opening_lot.ensures.counts.since ∙ zeros _ c.requires.shape);
  upto = c.in_ok-left.ensures.counts.left_upto ∙ (c.in_ok-opening_lot.ensures.counts.upto ∙ zeros _ c.requires.shape);
}
