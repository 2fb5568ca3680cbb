use Rattle.std.proofs.Common.{◌++◌, [], ◌∷◌, sym, ap, ◌∙◌, zero-add}
use Rattle.std.proofs.lemmas.List.FromFn.{map-range_with_len_more}
use Rattle.flu_live.specs.Possible.{arrival}
use Rattle.flu_live.proofs.possible.arrivals.Goals as goal

pub loop-i-preserved : goal.loop-i-preserved
loop-i-preserved c =
    c.in_ok-push.ensures.items ∙ ap (λ l. l ++ arrival c.loop-i.i ∷ []) c.loop-i.invariant
    ∙ sym (map-range_with_len_more arrival 0 c.loop-i.i c.loop-i.i (zero-add c.loop-i.i))
