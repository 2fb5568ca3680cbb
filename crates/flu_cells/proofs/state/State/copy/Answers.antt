use Rattle.std.proofs.Common.{◌≡◌, sym, subst}
use Rattle.flu_cells.specs.Entries.{far_held, contents_of, IsWithoutNeutral, HasKeysInRange}
use Rattle.flu_cells.proofs.NearLemmas.{contents-same, far_alone-same}
use Rattle.flu_cells.proofs.FarLemmas.{far_held-same}
use Rattle.flu_cells.proofs.state.State.copy.Goals as goal

pub invariant_of-result : goal.invariant_of-result
invariant_of-result c =
    let far : far_held c.in_ok-copy-2.field-0 ≡ far_held c.args.self.now.far =
    far_held-same c.args.self.now.far c.in_ok-copy-2.field-0 c.in_ok-copy-2.ensures in
    let same : contents_of c.in_ok-copy.field-0 c.in_ok-copy-2.field-0 ≡ contents_of c.args.self.now.near c.args.self.now.far =
    contents-same _ _ _ _ c.in_ok-copy.ensures far in
    record {
      without_neutral = subst IsWithoutNeutral (sym same) c.args.self.now.without_neutral;
      keys_in_range = subst HasKeysInRange (sym same) c.args.self.now.keys_in_range;
      far_alone = far_alone-same c.args.self.now.far c.in_ok-copy-2.field-0 far c.args.self.now.far_alone;
    }

pub returns : goal.returns
returns c =
    let far : far_held c.in_ok-copy-2.field-0 ≡ far_held c.args.self.now.far =
    far_held-same c.args.self.now.far c.in_ok-copy-2.field-0 c.in_ok-copy-2.ensures in
    contents-same c.args.self.now.near c.in_ok-copy.field-0 c.args.self.now.far c.in_ok-copy-2.field-0 c.in_ok-copy.ensures far
