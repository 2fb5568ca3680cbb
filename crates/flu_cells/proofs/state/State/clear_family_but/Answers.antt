use Rattle.std.proofs.Common.{Bool, ap, ◌∙◌, arith}
use Rattle.std.specs.Prelude.{◌==◌, ◌&&◌, not}
use Rattle.flu_lemmas.proofs.Tests.{and_left, and_right, both, true_eq}
use Rattle.flu_model.specs.declared.events.Cell.{Cell}
use Rattle.flu_model.specs.Contents.{cell, is_same_cell}
use Rattle.flu_cells.specs.Holding.{held}
use Rattle.flu_cells.specs.Sets.{is_in, only}
use Rattle.flu_cells.proofs.NearLemmas.{clear_below-more, all_clear}
use Rattle.flu_cells.proofs.Parting.{cleared_one, cleared_none, left_more, none_within, shown_within}
use Rattle.flu_cells.proofs.state.State.clear_family_but.Goals as goal

pub loop-key-preserved : goal.loop-key-preserved
loop-key-preserved c =
    let q : Cell → Bool = λ d. not (is_in c.args.but.now d) in
    let k = cell c.args.family c.in-Some.key in
    let s = held c.loop-key.self in
    let here : Cell → Bool = λ d. is_same_cell d k && q d in
    let p : Cell → Bool = λ d. (d.family == c.args.family) && q d in (
      ap (only (λ d. not (p d))) c.clear_cell_but.ensures
          ∙ left_more p here s
          (λ d e. both (d.family == c.args.family) (q d)
          (and_left (d.family == c.args.family) (d.key == c.in-Some.key) (and_left (is_same_cell d k) (q d) e))
          (and_right (is_same_cell d k) (q d) e))
          ∙ c.loop-key.invariant.0,
      clear_below-more (only q s) _ c.args.family c.loop-key.from c.in-Some.key (ap (only q) c.clear_cell_but.ensures ∙ cleared_one q s k)
          c.loop-key.invariant.1
          (λ j le lt. none_within q s (cell c.args.family j) (c.in-Some.ensures.least j le lt)),
      omega (arith, c.in-Some.ensures.found.1),
    )

pub returns : goal.returns
returns c =
    let q : Cell → Bool = λ d. not (is_in c.args.but.now d) in
    let s = held c.loop-key.self in
    cleared_none (λ d. (d.family == c.args.family) && q d) s
    (λ d in_p. shown_within q s d (and_right (d.family == c.args.family) (q d) in_p)
    (all_clear (only q s) c.args.family c.loop-key.from c.loop-key.invariant.1
    (λ j le. none_within q s (cell c.args.family j) (c.in_default.ensures.none j le)) d
    (true_eq d.family c.args.family (and_left (d.family == c.args.family) (q d) in_p))))
    ∙ c.loop-key.invariant.0
