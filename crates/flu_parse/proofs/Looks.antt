-- What is known where looks find no fault.
use Rattle.std.proofs.Common.{◌≡◌, ℕ, ◌+◌, ◌<◌, Bool, true, false, Ok, refl}
use Rattle.std.specs.Prelude.{nat_lt}
use Rattle.flu_lemmas.proofs.Tests.{true_lt}
use Rattle.flu_model.specs.declared.limits.What.{What}
use Rattle.flu_parse.specs.declared.faults.JobFault.{JobFault}
use Rattle.flu_parse.specs.declared.faults.JobFault.TheVariants as f
use Rattle.flu_parse.specs.Faults.{Found, ◌>>◌, unless, room}

-- the test passed
pub passed : {B : Type 0} (b : Bool) (fault : JobFault) (g : Found B) (y : B) → (unless b fault >> g) ≡ Ok y → (b ≡ true) × (g ≡ Ok y)
passed true fault g y e = (refl, e)
passed false fault g y e = absurd cc

-- there was room
pub had_room : {B : Type 0} (what : What) (limit count : ℕ) (g : Found B) (y : B) → (room what limit count >> g) ≡ Ok y → (count < limit) × (g ≡ Ok y)
had_room what limit count g y e =
    let h = passed (nat_lt count limit) (f.OverLimit what (limit + 1)) g y e in
    (true_lt count limit h.0, h.1)
