use Rattle.std.proofs.Common.{◌≡◌, None, ap}
use Rattle.flu_model.specs.Contents.{nothing_held}
use Rattle.flu_cells.specs.Entries.{far_held, contents_of}
use Rattle.flu_cells.proofs.NearLemmas.{contents-none}
use Rattle.flu_cells.proofs.FarLemmas.{far_held-none}
use Rattle.flu_cells.proofs.state.State.new.Goals as goal

pub invariant_of-result : goal.invariant_of-result
invariant_of-result c =
    let no_far : far_held c.new-2.result ≡ nothing_held = far_held-none c.new-2.result c.new-2.ensures in
    let none : contents_of c.new.result c.new-2.result ≡ nothing_held = contents-none c.new.result c.new-2.result c.new.ensures no_far in
    record {
      without_neutral = λ d w e. let never : contents_of c.new.result c.new-2.result d ≡ None = ap (λ s. s d) none in cc;
      keys_in_range = λ d w e. let never : contents_of c.new.result c.new-2.result d ≡ None = ap (λ s. s d) none in cc;
      far_alone = λ d w e. let never : far_held c.new-2.result d ≡ None = ap (λ s. s d) no_far in cc;
    }

pub returns : goal.returns
returns c = contents-none c.new.result c.new-2.result c.new.ensures (far_held-none c.new-2.result c.new-2.ensures)
