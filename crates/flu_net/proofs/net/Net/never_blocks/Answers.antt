use Rattle.std.proofs.Common.{◌≡◌, ap, subst, ◌∙◌}
use Rattle.flu_net.specs.Blocking.{AllKeep}
use Rattle.flu_net.specs.Notes.{NetNote}
use Rattle.flu_net.specs.Rule.{IsWell}
use Rattle.flu_net.proofs.Ended.{quiet_if_final}
use Rattle.flu_net.proofs.Resting.{final_if_quiet}
use Rattle.flu_net.proofs.net.Net.never_blocks.Goals as goal

pub returns : goal.returns
returns c = λ gone.
    let n = c.args.self.now in
    let rule = subst IsWell c.self.view_is c.self.invariant gone in
    let same : c.as_slice.result.now ≡ n.workers = c.as_slice.ensures.value ∙ ap (λ (x : NetNote). x.workers) c.self.view_is in
    let keep : AllKeep n.workers = subst AllKeep same c.all_keep.ensures in (
      (λ quiet. final_if_quiet c.laws_below.ensures n rule keep gone quiet),
      (λ final. quiet_if_final c.laws_below.ensures n rule keep final),
    )
