-- What a sink has taken where some bytes are left.
use Rattle.std.proofs.Common.{◌≡◌, ℕ, ◌<◌, ◌≤◌, ◌+◌, ◌-◌, sym, ap, ◌∙◌, List, ◌++◌, length, take, arith, length-append}
use Rattle.std.proofs.Math.Seq.{take-append_seam, take-append-add}
use Rattle.flu_outside.specs.Writing.{AppendsPart}

pub appends_part : (bytes rest old new : List ℕ) → 0 < length rest → length rest ≤ length bytes → new ++ rest ≡ old ++ bytes → AppendsPart bytes old new
appends_part bytes rest old new some few e =
    let n : ℕ = length bytes - length rest in
    let size : length new ≡ length old + (length bytes - length rest) = omega (arith, ap length e, length-append new rest, length-append old bytes) in (
      n,
      omega arith,
      sym (take-append_seam new rest) ∙ ap (take (length new)) e ∙ ap (λ k. take k (old ++ bytes)) size
          ∙ take-append-add old bytes (length bytes - length rest),
    )
