-- Names that are looked up, and one name more.
use Rattle.std.proofs.Common.{◌≡◌, ℕ, ◌+◌, cond, List, [], ◌∷◌, map, length, Option, Some, None, refl, sym, ap, ◌∙◌}
use Rattle.std.specs.Prelude.{nat_lt, not}
use Rattle.std.specs.List.{position, position_or_len}
use Rattle.std.specs.Str.{bytes_eq}
use Rattle.std.proofs.lemmas.List.{length-map}

prefix_by_bytes : {K : Type 0} (bytes : K → List ℕ) (name : List ℕ) (ks : List K)
    → position_or_len (λ k. bytes_eq name (bytes k)) ks ≡ position_or_len (bytes_eq name) (map bytes ks)
prefix_by_bytes bytes name [] = refl
prefix_by_bytes bytes name (k ∷ ks) = ap (λ n. cond (not (bytes_eq name (bytes k))) (1 + n) 0) (prefix_by_bytes bytes name ks)

-- a place found by bytes
abbrev found_at : ℕ → ℕ → Option ℕ
found_at place count = cond (nat_lt place count) (Some place) None

pub position_by_bytes : {K : Type 0} (bytes : K → List ℕ) (name : List ℕ) (ks : List K)
    → position (λ k. bytes_eq name (bytes k)) ks ≡ position (bytes_eq name) (map bytes ks)
position_by_bytes bytes name ks =
    ap (λ n. found_at n (length ks)) (prefix_by_bytes bytes name ks)
    ∙ ap (λ n. found_at (position_or_len (bytes_eq name) (map bytes ks)) n) (sym (length-map ks bytes))
