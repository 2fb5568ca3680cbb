use Rattle.std.proofs.Common.{false, not, sym, ap, ◌∙◌, arith}
use Rattle.std.specs.Prelude.{◌&&◌}
use Rattle.flu_lemmas.proofs.Listed.{test_turn}
use Rattle.flu_lemmas.proofs.Ranges.{any_in_range}
use Rattle.flu_model.specs.Itags.{count_of_itags}
use Rattle.flu_laws.specs.Uses.{needs}
use Rattle.flu_apart.specs.Classes.{mode_at, inside}
use Rattle.flu_apart.specs.Subtrees.{job, nodes, node}
use Rattle.flu_apart.proofs.classes.Subtree.is_contributed.Goals as goal

pub loop-i-preserved : goal.loop-i-preserved
loop-i-preserved c =
    let s = c.args.self.now in
    sym (test_turn (λ i. inside (job s) (nodes s) (node s) i && needs (mode_at (job s) i c.args.c)) c.loop-i.i false false
    (sym c.if-has_needer.false ∙ c.has_needer.ensures) (sym c.loop-i.invariant))

pub returns-then-has_needer : goal.returns-then-has_needer
returns-then-has_needer c =
    let s = c.args.self.now in
    sym (ap not (any_in_range (λ i. inside (job s) (nodes s) (node s) i && needs (mode_at (job s) i c.args.c)) 0 (count_of_itags (job s))
    c.loop-i.i (omega arith) (omega arith) (sym c.has_needer.ensures ∙ c.if-has_needer.true)))
