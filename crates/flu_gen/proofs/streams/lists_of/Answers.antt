use Rattle.std.proofs.Common.{◌≡◌, ap, ◌∙◌, arith}
use Rattle.std.proofs.lemmas.Grind.{common_steps}
use Rattle.flu_gen.specs.DemoStreams.{ended, of_itag}
use Rattle.flu_gen.proofs.Drawing.{list_pushed}
use Rattle.flu_gen.proofs.streams.lists_of.Goals as goal

pub loop-itag-preserved : goal.loop-itag-preserved
loop-itag-preserved c =
    let itag = c.loop-itag.itag in
    let drawn = c.in_ok-drawn.drawn.items in
    let same : c.as_slice.result.now ≡ drawn = grind (arith, common_steps) in
    list_pushed drawn itag _ _ _ c.in_ok-push.ensures.items (c.in_ok-items.ensures ∙ ap (λ l. ended (of_itag itag l)) same) c.loop-itag.invariant
