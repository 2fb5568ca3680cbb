use Rattle.std.proofs.Common.{sym, ap, Some, ◌∙◌}
use Rattle.std.specs.Cmp.Lexicographic.{bytes_decides}
use Rattle.std.proofs.lemmas.Option.{slice_get-get_or}
use Rattle.flu_handover.specs.declared.tags.NamedTag.{NamedTag}
use Rattle.flu_handover.proofs.tags.is_named_at.Goals as goal

pub returns-then-place-tags : goal.returns-then-place-tags
returns-then-place-tags c t =
    let n = c.index-tags-place.result in (
      c.if-place-tags.true,
      (
        n,
        slice_get-get_or c.args.tags.now c.args.place n c.if-place-tags.true ∙ ap Some (sym c.index-tags-place.is),
        ap (λ (x : NamedTag). x.text) c.index-tags-place.is ∙ sym c.as_str.ensures
            ∙ (bytes_decides c.as_str.result.now c.args.text.now).0 (sym c.eq.ensures ∙ t),
      ),
    )
