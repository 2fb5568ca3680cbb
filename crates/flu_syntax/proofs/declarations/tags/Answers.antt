use Rattle.std.proofs.Common.{◌≡◌, ◌∙◌, ◌∷◌, ◌++◌, [], refl, arith}
use Rattle.std.proofs.lemmas.Result.{err_from_is_err_and}
use Rattle.std.proofs.lemmas.Grind.{common_steps}
use Rattle.flu_text.specs.declared.words.Word.TheVariants as w
use Rattle.flu_text.specs.declared.words.Mark.TheVariants as m
use Rattle.flu_syntax.specs.Machine.{TagKind, TagEnd, listed}
use Rattle.flu_syntax.proofs.Runs.{Tells-through}
use Rattle.flu_syntax.proofs.Parts.{run-word, run-closed, tag_comma, tags_end}
use Rattle.flu_syntax.proofs.declarations.tags.Goals as goal

pub each-init : goal.each-init
each-init c = record { run = λ here. rw c.new-all.ensures.items refl; shorter = omega arith }

pub returns-in_err-tag-clause-run : goal.returns-in_err-tag-clause-run
returns-in_err-tag-clause-run c =
    let p = err_from_is_err_and c.from_residual.result c.from_residual.ensures.1 in
    rw (p.1, p.2) (λ here. Tells-through _ _ _ (c.each.invariant.run here)
    (c.in_err-tag.ensures.run (here.before, record { name = here.name; file = here.file; rate = here.rate; slack = here.slack; all = c.each.all.items })))

pub returns-in_default-clause-run : goal.returns-in_default-clause-run
returns-in_default-clause-run c =
    let items : c.push.new.self.items ≡ c.each.all.items ++ c.in_ok-tag.tag ∷ [] = grind (arith, common_steps) in
    λ here. rw (c.of.ensures, items) (c.each.invariant.run here
    ∙ c.in_ok-tag.ensures.run (here.before, record { name = here.name; file = here.file; rate = here.rate; slack = here.slack; all = c.each.all.items })
    ∙ run-closed c.args.end here.before c.in_ok-tag.behind.now
    (tags_end (listed (record { name = here.name; file = here.file; rate = here.rate; slack = here.slack; all = c.each.all.items })
    c.in_ok-tag.tag)) c.in_default.ensures.front)

pub each-preserved : goal.each-preserved
each-preserved c =
    let items : c.push.new.self.items ≡ c.each.all.items ++ c.in_ok-tag.tag ∷ [] = grind (arith, common_steps) in
    record {
      run = λ here.
          rw items
          (c.each.invariant.run here
          ∙ c.in_ok-tag.ensures.run
          (here.before, record { name = here.name; file = here.file; rate = here.rate; slack = here.slack; all = c.each.all.items })
          ∙ run-word c.args.end here.before
          (TagEnd (listed (record { name = here.name; file = here.file; rate = here.rate; slack = here.slack; all = c.each.all.items })
          c.in_ok-tag.tag)) (TagKind
          (listed (record { name = here.name; file = here.file; rate = here.rate; slack = here.slack; all = c.each.all.items })
          c.in_ok-tag.tag)) (w.Mark m.Comma) c.in_ok-tag.behind.now c.in-Some.more.now c.in-Some.field-0-0
          (tag_comma (listed (record
          { name = here.name; file = here.file; rate = here.rate; slack = here.slack; all = c.each.all.items })
          c.in_ok-tag.tag)) c.in-Some.ensures.front);
      shorter = grind (arith, common_steps);
    }
