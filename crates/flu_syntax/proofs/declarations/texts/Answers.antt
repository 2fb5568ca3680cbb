use Rattle.std.proofs.Common.{◌≡◌, ◌∙◌, ◌∷◌, ◌++◌, [], refl, arith}
use Rattle.std.proofs.lemmas.Result.{err_from_is_err_and}
use Rattle.std.proofs.lemmas.Grind.{common_steps}
use Rattle.flu_text.specs.declared.words.Word.TheVariants as w
use Rattle.flu_text.specs.declared.words.Mark.TheVariants as m
use Rattle.flu_text.specs.Signs.{span_of}
use Rattle.flu_syntax.specs.Machine.{NamesText, NamesEnd, texted}
use Rattle.flu_syntax.proofs.Parts.{tells, run-word, run-closed, run-expected, run-unexpected, names_text, names_comma, names_end}
use Rattle.flu_syntax.proofs.declarations.texts.Goals as goal

pub each-init : goal.each-init
each-init c = record { run = λ here. rw c.new-all.ensures.items refl; shorter = omega arith }

pub returns-in_err-text-clause-run : goal.returns-in_err-text-clause-run
returns-in_err-text-clause-run c =
    let p = err_from_is_err_and c.from_residual.result c.from_residual.ensures.1 in
    rw (p.1, p.2) (λ here. tells _ _ _ c.in_err-text.ensures.front.0 (c.each.invariant.run here
    ∙ run-unexpected c.args.end here.0 c.each.rest.now (names_text (record { at = here.1; name = here.2; texts = c.each.all.items }))
    c.in_err-text.ensures.front.1))

pub returns-in_default-clause-run : goal.returns-in_default-clause-run
returns-in_default-clause-run c =
    let items : c.push.new.self.items ≡ c.each.all.items ++ span_of c.in_ok-text.text ∷ [] = grind (arith, common_steps) in
    λ here. rw (c.of.ensures, items) (c.each.invariant.run here
    ∙ run-expected c.args.end here.0 c.each.rest.now c.in_ok-text.behind.now c.in_ok-text.text
    (names_text (record { at = here.1; name = here.2; texts = c.each.all.items })) c.in_ok-text.ensures.front
    ∙ run-closed c.args.end here.0 c.in_ok-text.behind.now
    (names_end (texted (record { at = here.1; name = here.2; texts = c.each.all.items }) (span_of c.in_ok-text.text))) c.in_default.ensures.front)

pub each-preserved : goal.each-preserved
each-preserved c =
    let items : c.push.new.self.items ≡ c.each.all.items ++ span_of c.in_ok-text.text ∷ [] = grind (arith, common_steps) in
    record {
      run = λ here.
          let so_far = texted (record { at = here.1; name = here.2; texts = c.each.all.items }) (span_of c.in_ok-text.text) in
          rw items
          (c.each.invariant.run here
          ∙ run-expected c.args.end here.0 c.each.rest.now c.in_ok-text.behind.now c.in_ok-text.text
          (names_text (record { at = here.1; name = here.2; texts = c.each.all.items })) c.in_ok-text.ensures.front
          ∙ run-word c.args.end here.0 (NamesEnd so_far) (NamesText so_far) (w.Mark m.Comma) c.in_ok-text.behind.now c.in-Some.more.now
          c.in-Some.field-0-0 (names_comma so_far) c.in-Some.ensures.front);
      shorter = grind (arith, common_steps);
    }
