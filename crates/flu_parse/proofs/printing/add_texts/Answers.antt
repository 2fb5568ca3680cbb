use Rattle.std.proofs.Common.{◌<◌, ◌∙◌, ◌++◌, [], length, take, append_assoc, sym, ap, arith}
use Rattle.std.specs.Prelude.{unwrap_or, option_map, codes}
use Rattle.std.specs.String.{string_bytes}
use Rattle.flu_model.specs.Numberings.{text_at}
use Rattle.flu_layout.specs.Laid.{quoted}
use Rattle.flu_layout.specs.Lists.{separated}
use Rattle.flu_parse.proofs.ListLemmas.{separated_more}
use Rattle.flu_parse.proofs.printing.add_texts.Goals as goal

pub loop-number-preserved : goal.loop-number-preserved
loop-number-preserved c =
    let texts = c.args.list.now.texts in
    let number = c.loop-number.number in
    let before = string_bytes c.args.text.now in
    let so_far = separated (codes ", ") quoted (take number texts) in
    let next = unwrap_or (option_map quoted (text_at c.args.list.now number)) [] in
    let some : number < length texts = omega (arith, c.loop-number-test.true, c.loop-number.invariant.0) in (
      c.loop-number.invariant.0,
      omega arith,
      c.in_ok-add_quoted-2.ensures ∙ ap (λ l. l ++ next) (c.in_ok-push_str.ensures.bytes ∙ ap (λ l. l ++ codes ", ") c.loop-number.invariant.2)
          ∙ append_assoc (before ++ so_far) (codes ", ") next ∙ append_assoc before so_far (codes ", " ++ next)
          ∙ ap (λ l. before ++ l) (sym (separated_more (codes ", ") quoted texts number c.loop-number.invariant.1 some)),
    )
