use Rattle.std.proofs.Common.{false, sym, ◌∙◌, arith}
use Rattle.std.specs.Prelude.{◌&&◌}
use Rattle.flu_lemmas.proofs.Listed.{test_turn}
use Rattle.flu_lemmas.proofs.Ranges.{any_in_range}
use Rattle.flu_model.specs.Itags.{count_of_itags}
use Rattle.flu_model.specs.Modes.{uses}
use Rattle.flu_apart.specs.Classes.{mode_at, inside}
use Rattle.flu_apart.specs.Subtrees.{job, nodes, node}
use Rattle.flu_apart.proofs.classes.Subtree.is_used.Goals as goal

pub loop-i-preserved : goal.loop-i-preserved
loop-i-preserved c =
    let s = c.args.self.now in
    sym (test_turn (λ i. inside (job s) (nodes s) (node s) i && uses (mode_at (job s) i c.args.c)) c.loop-i.i false false
    (sym c.if-has_user.false ∙ c.has_user.ensures) (sym c.loop-i.invariant))

pub returns-then-has_user : goal.returns-then-has_user
returns-then-has_user c =
    let s = c.args.self.now in
    sym (any_in_range (λ i. inside (job s) (nodes s) (node s) i && uses (mode_at (job s) i c.args.c)) 0 (count_of_itags (job s)) c.loop-i.i (omega arith)
    (omega arith) (sym c.has_user.ensures ∙ c.if-has_user.true))
