-- A table with one entry changed.
use Rattle.std.proofs.Common.{◌≡◌, ◌<◌, ℕ, List, length, refl}
use Rattle.std.specs.Prelude.{slice_index_or}
use Rattle.std.proofs.Math.ListN.{set}
use Rattle.std.proofs.lemmas.Grind.{get_or-set_at}
use Rattle.std.proofs.lemmas.List.{get_or-set_other}

pub set_there : {X : Type 0} (xs : List X) (i : ℕ) (v d : X) → i < length xs → slice_index_or (set xs i v) i d ≡ v
set_there xs i v d lt = get_or-set_at xs i i v d refl lt

pub set_other : {X : Type 0} (xs : List X) (i k : ℕ) (v d : X) → (k ≡ i → ⊥) → slice_index_or (set xs i v) k d ≡ slice_index_or xs k d
set_other xs i k v d other = get_or-set_other xs i k v d other
