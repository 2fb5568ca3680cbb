use Rattle.std.proofs.Common.{◌≡◌, ◌∙◌, ap, [], ◌++◌, true, nat_lt, arith}
use Rattle.std.specs.Prelude.{codes}
use Rattle.std.proofs.lemmas.Bool.Decides.{nat_tests}
use Rattle.flu_model.specs.Itags.{count_of_itags}
use Rattle.flu_model.specs.Reports.{text_of_tag}
use Rattle.flu_lines.specs.Names.{source_name, itag_text}
use Rattle.flu_lines.proofs.Written.{writes_front, writes_both}
use Rattle.flu_lines.proofs.WrittenPlans.{itag_steps}
use Rattle.flu_lines.proofs.names.write_itag.Goals as goal

pub returns-in_err-write_tag : goal.returns-in_err-write_tag
returns-in_err-write_tag g c =
    let p = c.args.program.now in
    let lt : nat_lt c.args.itag.0 (count_of_itags p) ≡ true = grind (arith, nat_tests, c.if-itag-itag_count.false, c.itag_count.ensures) in
    writes_front (text_of_tag p c.tag_of.result ++ codes "@") (c.as_bytes-source.result.now ++ (c.args.behind.now ++ []))
    (itag_text p c.args.itag ++ c.args.behind.now) _ _ _ _ _ c.from_residual.result
    (itag_steps p c.args.itag c.tag_of.result c.as_bytes-source.result.now c.args.behind.now lt c.tag_of.ensures.tag
    (c.as_bytes-source.ensures.value ∙ (c.source_name.ensures ∙ ap (source_name p) c.source_of.ensures.source))) c.from_residual.ensures.0
    c.in_err-write_tag.ensures

pub returns : goal.returns
returns g c =
    let p = c.args.program.now in
    let lt : nat_lt c.args.itag.0 (count_of_itags p) ≡ true = grind (arith, nat_tests, c.if-itag-itag_count.false, c.itag_count.ensures) in
    writes_both (text_of_tag p c.tag_of.result ++ codes "@") (c.as_bytes-source.result.now ++ (c.args.behind.now ++ []))
    (itag_text p c.args.itag ++ c.args.behind.now) _ _ _ _ _ _ c.write_pieces.result
    (itag_steps p c.args.itag c.tag_of.result c.as_bytes-source.result.now c.args.behind.now lt c.tag_of.ensures.tag
    (c.as_bytes-source.ensures.value ∙ (c.source_name.ensures ∙ ap (source_name p) c.source_of.ensures.source))) c.in_ok-write_tag.ensures
    c.write_pieces.ensures
