use Rattle.std.proofs.Common.{◌≡◌, ℕ, false, length, get_or, inl, inr, arith}
use Rattle.std.specs.Prelude.{replicate}
use Rattle.std.proofs.lemmas.Bool.{cases_lt}
use Rattle.std.proofs.lemmas.List.{get_or-replicate, get_or_past, length-replicate}
use Rattle.flu_readers.proofs.read.SourcesRead.none.Goals as goal

none_passes : (n s : ℕ) → get_or (replicate n false) s false ≡ false
none_passes n s =
    let long : length (replicate n false) ≡ n = length-replicate n false in
    elim (cases_lt s n) [ inl lt ↦ get_or-replicate n s false false lt | inr past ↦ get_or_past (replicate n false) s false (omega arith) ]

pub returns : goal.returns
returns c = λ s. none_passes 64 s
