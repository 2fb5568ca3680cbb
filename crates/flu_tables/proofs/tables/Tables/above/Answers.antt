use Rattle.std.proofs.Common.{ap, ◌∙◌}
use Rattle.std.specs.Prelude.{slice_get}
use Rattle.flu_tables.specs.LoopShares.{above_of}
use Rattle.flu_tables.proofs.tables.Tables.above.Goals as goal

pub returns : goal.returns
returns c = c.above_of.ensures ∙ ap (λ ss. above_of (slice_get ss c.args.w)) c.as_slice.ensures.value ∙ c.args.self.now.told.above c.args.w
