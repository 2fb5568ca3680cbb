use Rattle.std.proofs.Common.{◌≡◌, ◌∙◌, ◌∷◌, ◌++◌, [], map, refl, arith}
use Rattle.std.proofs.lemmas.Result.{err_from_is_err_and}
use Rattle.std.proofs.lemmas.Grind.{common_steps}
use Rattle.flu_text.specs.declared.words.Word.TheVariants as w
use Rattle.flu_text.specs.declared.words.Mark.TheVariants as m
use Rattle.flu_syntax.specs.Tree.{action_of}
use Rattle.flu_syntax.specs.Machine.{ActionStart, ActionEnd, acted}
use Rattle.flu_syntax.proofs.Runs.{Tells-through}
use Rattle.flu_syntax.proofs.Parts.{run-word, run-closed, action_semicolon, actions_end}
use Rattle.std.proofs.lemmas.List.{map_push}
use Rattle.flu_syntax.proofs.declarations.actions.Goals as goal

pub each-init : goal.each-init
each-init c = record { run = λ here. rw c.new-all.ensures.items refl; shorter = omega arith }

pub returns-in_err-action-clause-run : goal.returns-in_err-action-clause-run
returns-in_err-action-clause-run c =
    let p = err_from_is_err_and c.from_residual.result c.from_residual.ensures.1 in
    rw (p.1, p.2) (λ here. Tells-through _ _ _ (c.each.invariant.run here)
    (c.in_err-action.ensures.run (here.0, record { kind = here.1; all = map action_of c.each.all.items })))

pub returns-in_default-clause-run : goal.returns-in_default-clause-run
returns-in_default-clause-run c =
    let items : c.push.new.self.items ≡ c.each.all.items ++ c.in_ok-action.action ∷ [] = grind (arith, common_steps) in
    λ here. rw (c.of.ensures, items, map_push action_of c.each.all.items c.in_ok-action.action) (c.each.invariant.run here
    ∙ c.in_ok-action.ensures.run (here.0, record { kind = here.1; all = map action_of c.each.all.items })
    ∙ run-closed c.args.end here.0 c.in_ok-action.behind.now
    (actions_end (acted (record { kind = here.1; all = map action_of c.each.all.items }) (action_of c.in_ok-action.action).at
    (action_of c.in_ok-action.action).deed (action_of c.in_ok-action.action).guard)) c.in_default.ensures.front)

pub each-preserved : goal.each-preserved
each-preserved c =
    let items : c.push.new.self.items ≡ c.each.all.items ++ c.in_ok-action.action ∷ [] = grind (arith, common_steps) in
    record {
      run = λ here.
          rw (items, map_push action_of c.each.all.items c.in_ok-action.action)
          (c.each.invariant.run here ∙ c.in_ok-action.ensures.run (here.0, record { kind = here.1; all = map action_of c.each.all.items })
          ∙ run-word c.args.end here.0
          (ActionEnd (acted (record { kind = here.1; all = map action_of c.each.all.items }) (action_of c.in_ok-action.action).at
          (action_of c.in_ok-action.action).deed (action_of c.in_ok-action.action).guard))
          (ActionStart (acted (record { kind = here.1; all = map action_of c.each.all.items }) (action_of c.in_ok-action.action).at
          (action_of c.in_ok-action.action).deed (action_of c.in_ok-action.action).guard)) (w.Mark m.Semicolon) c.in_ok-action.behind.now
          c.in-Some.more.now c.in-Some.field-0-0
          (action_semicolon (acted (record { kind = here.1; all = map action_of c.each.all.items })
          (action_of c.in_ok-action.action).at (action_of c.in_ok-action.action).deed
          (action_of c.in_ok-action.action).guard)) c.in-Some.ensures.front);
      shorter = grind (arith, common_steps);
    }
