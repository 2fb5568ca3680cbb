use Rattle.std.proofs.Common.{sym}
use Rattle.flu_model.specs.Contents.{cell}
use Rattle.flu_cells.proofs.NearLemmas.{in_slot, near_from}
use Rattle.flu_cells.proofs.state.State.near.Goals as goal

pub returns-clause-cells : goal.returns-clause-cells
returns-clause-cells c f k family key = sym (in_slot c.args.self.now.near c.args.self.now.far (cell f k) (near_from (cell f k) family key))
