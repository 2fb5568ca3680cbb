use Rattle.std.proofs.Common.{ℕ, ap, ◌∙◌}
use Rattle.flu_lemmas.proofs.Listed.{list_turn}
use Rattle.flu_model.specs.Itags.{tag_of_itag}
use Rattle.flu_model.specs.Reports.{text_of_tag}
use Rattle.flu_handover.specs.declared.tags.NamedTag.{NamedTag}
use Rattle.flu_handover.specs.Parts.{named_tag}
use Rattle.flu_handover.proofs.tags.named_tags.Goals as goal

pub loop-i-preserved : goal.loop-i-preserved
loop-i-preserved c =
    let p = c.args.p.now in
    let named : ℕ → NamedTag = λ i. named_tag p (tag_of_itag p (record { 0 = i })) in
    let text = c.in_ok-text.ensures ∙ ap (text_of_tag p) c.tag_of-tag.ensures.tag in
    list_turn named c.loop-i.i c.loop-i.tags.items c.push.new.self.items _ c.in_ok-push.ensures.items
    (λ k. record { tag = c.tag_of-tag.ensures.tag k; text = text k }) c.loop-i.invariant
