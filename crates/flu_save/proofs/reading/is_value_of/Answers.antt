use Rattle.std.proofs.Common.{◌≡◌, sym, ap, ◌∙◌}
use Rattle.std.specs.Cmp.Lexicographic.{bytes_decides}
use Rattle.serde_json.specs.Read.{read}
use Rattle.serde_json.specs.Written.{has_float, compact_text}
use Rattle.flu_cells.specs.Holding.{held}
use Rattle.flu_save.proofs.Families.{of_some}
use Rattle.flu_save.proofs.Values.{without_float}
use Rattle.flu_save.proofs.reading.is_value_of.Goals as goal

pub returns : goal.returns
returns c =
    let a = c.as_slice.result.now in
    let b = c.as_slice-2.result.now in (
      λ t.
          let same : c.in_ok-saved.saved.items ≡ c.in_ok-text.text.items = sym c.as_slice.ensures.value ∙ (bytes_decides a b).0 (sym c.eq.ensures ∙ t)
          ∙ c.as_slice-2.ensures.value in
          of_some _ _ (sym (c.in_ok-text.ensures.reads_back c.requires.depth) ∙ ap read (sym same) ∙ c.in_ok-saved.ensures.value.1),
      λ e.
          let plain = ap has_float e ∙ without_float c.args.p.now c.args.border (held c.args.state.now) in
          c.eq.ensures
          ∙ (bytes_decides a b).1 (c.as_slice.ensures.value ∙ c.in_ok-saved.ensures.text ∙ ap compact_text (sym e) ∙ sym
          (c.in_ok-text.ensures.text plain) ∙ sym c.as_slice-2.ensures.value),
    )
