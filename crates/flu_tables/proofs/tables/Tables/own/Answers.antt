use Rattle.std.proofs.Common.{ap, ◌∙◌}
use Rattle.std.specs.Prelude.{slice_get}
use Rattle.flu_tables.specs.LoopShares.{own_of}
use Rattle.flu_tables.proofs.tables.Tables.own.Goals as goal

pub returns : goal.returns
returns c = c.own_of.ensures ∙ ap (λ ss. own_of (slice_get ss c.args.w)) c.as_slice.ensures.value ∙ c.args.self.now.told.own c.args.w
