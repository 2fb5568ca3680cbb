-- The values of amounts and of outputs have no float.
use Rattle.std.proofs.Common.{◌≡◌, false, List, [], ◌∷◌, map, refl}
use Rattle.serde_json.specs.View.{items_of}
use Rattle.serde_json.specs.Written.{items_have_float}
use Rattle.flu_partial.specs.declared.values.Amount.{Amount}
use Rattle.flu_partial.specs.declared.values.Emitted.{Emitted}
use Rattle.flu_partial.specs.Partial.{amount_value, emitted_value}

pub amounts_exact : (amounts : List Amount) → items_have_float (items_of (map amount_value amounts)) ≡ false
amounts_exact [] = refl
amounts_exact (a ∷ more) = amounts_exact more

pub outs_exact : (outs : List Emitted) → items_have_float (items_of (map emitted_value outs)) ≡ false
outs_exact [] = refl
outs_exact (o ∷ more) = outs_exact more
