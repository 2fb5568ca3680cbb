use Rattle.std.proofs.Common.{ℕ, sym, ◌∷◌, ◌++◌, [], ◌∙◌, arith}
use Rattle.std.proofs.lemmas.List.FromFn.{map-range_with_len_more}
use Rattle.flu_model.specs.declared.events.Tag.{Tag}
use Rattle.flu_model.specs.Itags.{tag_of_itag}
use Rattle.flu_planner.proofs.dependencies.tags.Goals as goal

pub loop-i-preserved : goal.loop-i-preserved
loop-i-preserved c =
    let f : ℕ → Tag = λ i. tag_of_itag c.args.p.now (record { 0 = i }) in
    c.in_ok-push.ensures.items ∙ (λ k. c.loop-i.invariant k ++ c.tag_of.ensures.tag k ∷ [])
    ∙ sym (map-range_with_len_more f 0 c.loop-i.i c.loop-i.i (omega arith))
