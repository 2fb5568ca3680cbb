use Rattle.std.proofs.Common.{◌+◌, drop, sym, ap, ◌∙◌}
use Rattle.std.specs.Prelude.{◌==◌, ◌&&◌, not}
use Rattle.std.proofs.lemmas.List.{drop_more}
use Rattle.std.proofs.Math.ListN.{drop_of_length-le}
use Rattle.flu_cells.specs.Entries.{overlay}
use Rattle.flu_cells.specs.Holding.{held}
use Rattle.flu_cells.specs.Sets.{is_in, only}
use Rattle.flu_cells.proofs.Parting.{has_key, by_keys_but, copied_key, copied_none}
use Rattle.flu_cells.proofs.state.State.copy_family.Goals as goal

pub loop-key-init : goal.loop-key-init
loop-key-init c =
    ap (λ js. overlay (held c.args.self.now) (only (λ d. (d.family == c.args.family) && has_key js d.key && not (is_in c.args.but.now d))
    (held c.args.other.now)))
    (c.as_slice-key-items.ensures.value ∙ c.in_ok-keys.ensures)
    ∙ ap (overlay (held c.args.self.now)) (by_keys_but (λ d. not (is_in c.args.but.now d)) (held c.args.other.now) c.args.family c.args.other.now.keys_in_range)

pub loop-key-preserved : goal.loop-key-preserved
loop-key-preserved c =
    copied_key (λ d. not (is_in c.args.but.now d)) (held c.args.other.now) (held c.loop-key.self) _ c.args.family _
    (drop (c.loop-key.key-index + 1) c.as_slice-key-items.result.now) c.in_ok-copy_cell_but.ensures
    ∙ ap (λ js. overlay (held c.loop-key.self) (only (λ d. (d.family == c.args.family) && has_key js d.key && not (is_in c.args.but.now d))
    (held c.args.other.now)))
    (sym (drop_more c.as_slice-key-items.result.now c.loop-key.key-index 0 c.loop-key-test.true))
    ∙ c.loop-key.invariant

pub returns : goal.returns
returns c =
    sym (copied_none (λ d. not (is_in c.args.but.now d)) (held c.args.other.now) (held c.loop-key.self) c.args.family)
    ∙ ap (λ js. overlay (held c.loop-key.self) (only (λ d. (d.family == c.args.family) && has_key js d.key && not (is_in c.args.but.now d))
    (held c.args.other.now)))
    (sym (drop_of_length-le c.as_slice-key-items.result.now c.loop-key-test.false))
    ∙ c.loop-key.invariant
