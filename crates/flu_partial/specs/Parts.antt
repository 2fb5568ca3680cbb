-- The parts that were read of a head.
use Rattle.std.specs.Prelude.{◌≡◌, Option, Some, None}
use Rattle.flu_partial.specs.declared.values.PartialHead.{PartialHead}
use Rattle.flu_partial.specs.declared.heads.HeadParts.{HeadParts}

abbrev pub AreHeadParts : Option HeadParts → PartialHead → Type 0
AreHeadParts None h = ⊥
AreHeadParts (Some r) h = (r.first ≡ h.first) × (r.job.now ≡ h.job) × (r.node.now ≡ h.node) × (r.plan.now ≡ h.plan)
