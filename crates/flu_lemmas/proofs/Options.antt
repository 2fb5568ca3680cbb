-- What follows from what is said of an option, and of the value of a result.
use Rattle.std.proofs.Common.{◌≡◌, Option, None, Some, Result, Ok, Err, true, refl}
use Rattle.std.specs.Prelude.{is_some, IsSome, IfOk}

-- ---- options
-- the value of an option that has one
pub some_there : {X : Type 0} (o : Option X) → IsSome o → (x : X) × (o ≡ Some x)
some_there None e = cc
some_there (Some x) e = (x, refl)

pub pair_there : {X Y : Type 0} (o : Option (X × Y)) → is_some o ≡ true → (x : X) × (y : Y) × (o ≡ Some (x, y))
pair_there None e = cc
pair_there (Some both) e = (both.0, both.1, refl)

-- none is not some
pub none_or_some : {X : Type 0} (o : Option X) → o ≡ None → is_some o ≡ true → ⊥
none_or_some o none some = cc

-- ---- results
-- what holds of a value by two facts
pub IfOk-both : {T E : Type 0} (r : Result T E) (P Q R : T → Type 0) → ((x : T) → P x → Q x → R x) → IfOk r P → IfOk r Q → IfOk r R
IfOk-both (Ok x) P Q R f p q = f x p q
IfOk-both (Err e) P Q R f p q = tt
