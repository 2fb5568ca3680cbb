use Rattle.std.proofs.Common.{◌≡◌, sym, subst}
use Rattle.std.specs.List.Sorted.{IsPermutation}
use Rattle.flu_model.specs.Folding.{final_state, final_outputs}
use Rattle.flu_model.specs.Listed.{listed}
use Rattle.flu_model.specs.Sorts.{IsStateOf}
use Rattle.flu_cells.specs.Holding.{held}
use Rattle.flu_fork.specs.Lots.{job}
use Rattle.flu_live.proofs.simulating.Drawing.end.Goals as goal

pub joined-requires-clause-case : goal.joined-requires-clause-case
joined-requires-clause-case c = sym c.requires.way.case

pub joined-requires-clause-gone : goal.joined-requires-clause-gone
joined-requires-clause-gone c = c.requires.way.gone

pub joined-requires-clause-is_final : goal.joined-requires-clause-is_final
joined-requires-clause-is_final c = c.requires.is_final

pub returns-clause-state : goal.returns-clause-state
returns-clause-state c =
    subst (λ k. held c.in_ok-state.state ≡ final_state (job k) (held k.opening) (listed k.streams)) c.requires.way.case c.in_ok-state.ensures.state

pub returns-clause-sorts : goal.returns-clause-sorts
returns-clause-sorts c = subst (λ k. IsStateOf (job k).families (held c.in_ok-state.state)) c.requires.way.case c.in_ok-state.ensures.sorts

pub returns-clause-outputs : goal.returns-clause-outputs
returns-clause-outputs c =
    subst (λ k. IsPermutation (final_outputs (job k) (held k.opening) (listed k.streams)) c.in_ok-state.outs) c.requires.way.case c.in_ok-state.ensures.outputs

pub returns-clause-drawn : goal.returns-clause-drawn
returns-clause-drawn c = record {
  done = c.requires.way.done;
  run = record { net = c.args.self.net; last = c.args.self.last; run = c.requires.way.run; ended = c.requires.ended; is_final = c.requires.is_final };
}
