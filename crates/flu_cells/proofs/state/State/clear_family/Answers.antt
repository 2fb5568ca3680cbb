use Rattle.std.proofs.Common.{sym, ◌∙◌, arith}
use Rattle.std.specs.Prelude.{◌==◌}
use Rattle.flu_lemmas.proofs.Numbers.{same_number}
use Rattle.flu_lemmas.proofs.Tests.{true_eq}
use Rattle.flu_model.specs.Contents.{cell}
use Rattle.flu_cells.specs.Holding.{held}
use Rattle.flu_cells.proofs.NearLemmas.{clear_below-more, all_clear}
use Rattle.flu_cells.proofs.Parting.{cleared_more, cleared_none, left_family}
use Rattle.flu_cells.proofs.state.State.clear_family.Goals as goal

pub loop-key-preserved : goal.loop-key-preserved
loop-key-preserved c =
    let k = cell c.args.family c.in-Some.key in (
      cleared_more (λ d. d.family == c.args.family) (held c.loop-key.self) _ k (same_number c.args.family) c.clear.ensures ∙ c.loop-key.invariant.0,
      clear_below-more (held c.loop-key.self) _ c.args.family c.loop-key.from c.in-Some.key c.clear.ensures c.loop-key.invariant.1 c.in-Some.ensures.least,
      omega (arith, c.in-Some.ensures.found.1),
    )

pub returns : goal.returns
returns c =
    cleared_none (λ d. d.family == c.args.family) (held c.loop-key.self)
    (λ d in_family. all_clear (held c.loop-key.self) c.args.family c.loop-key.from c.loop-key.invariant.1 c.in_default.ensures.none d
    (true_eq d.family c.args.family in_family))
    ∙ c.loop-key.invariant.0
    ∙ sym (left_family _ _)
