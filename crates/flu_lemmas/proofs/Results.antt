-- Facts of results.
use Rattle.std.proofs.Common.{Result, Ok, Err, OnErr}

pub on_err : {T E : Type 0} (P : Type 0) (r : Result T E) → P → OnErr r P
on_err P (Ok x) h = tt
on_err P (Err e) h = h
