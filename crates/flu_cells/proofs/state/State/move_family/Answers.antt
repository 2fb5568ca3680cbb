use Rattle.std.proofs.Common.{Bool, sym, subst, ◌∙◌, arith}
use Rattle.std.specs.Prelude.{◌==◌, not}
use Rattle.flu_lemmas.proofs.Tests.{true_eq}
use Rattle.flu_model.specs.declared.events.Cell.{Cell}
use Rattle.flu_model.specs.Contents.{cell, is_same_cell}
use Rattle.flu_cells.specs.Entries.{overlay}
use Rattle.flu_cells.specs.Holding.{held}
use Rattle.flu_cells.specs.Sets.{only, Moves}
use Rattle.flu_cells.proofs.NearLemmas.{clear_below-more, all_clear, same_or_family}
use Rattle.flu_cells.proofs.Parting.{left_one, moves_rest, moves_none}
use Rattle.flu_cells.proofs.state.State.move_family.Goals as goal

pub loop-key-preserved : goal.loop-key-preserved
loop-key-preserved c =
    let k = cell c.args.family c.in-Some.key in
    let moved = c.in_ok-move_cell.ensures in
    let e = only (λ d. not (d.family == c.args.family)) (held c.args.self.now) in
    let u = overlay (held c.args.other.now) (only (λ d. d.family == c.args.family) (held c.args.self.now)) in (
      moves_rest (λ d. is_same_cell d k) (λ d. d.family == c.args.family) (held c.loop-key.self) _ e (held c.loop-key.other) _ u
          (subst (λ (p : Cell → Bool). Moves p (held c.loop-key.self) e (held c.loop-key.other) u)
          (sym (same_or_family c.args.family c.in-Some.key)) c.loop-key.invariant.0) moved,
      clear_below-more (held c.loop-key.self) _ c.args.family c.loop-key.from c.in-Some.key
          (moved.0 ∙ sym (left_one (held c.loop-key.self) k)) c.loop-key.invariant.1
          c.in-Some.ensures.least,
      omega (arith, c.in-Some.ensures.found.1),
    )

pub returns : goal.returns
returns c =
    let none = moves_none (λ d. d.family == c.args.family) (held c.loop-key.self) _ (held c.loop-key.other) _
    (λ d in_family. all_clear (held c.loop-key.self) c.args.family c.loop-key.from c.loop-key.invariant.1 c.in_default.ensures.none d
    (true_eq d.family c.args.family in_family))
    c.loop-key.invariant.0 in
    (sym none.0, sym none.1)
