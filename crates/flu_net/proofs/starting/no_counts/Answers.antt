use Rattle.std.proofs.Common.{ℕ, refl}
use Rattle.flu_lemmas.proofs.Listed.{list_turn}
use Rattle.flu_net.proofs.starting.no_counts.Goals as goal

pub loop-itag-preserved : goal.loop-itag-preserved
loop-itag-preserved c = list_turn (λ (i : ℕ). 0) c.loop-itag._itag _ _ _ c.in_ok-push.ensures.items refl c.loop-itag.invariant
