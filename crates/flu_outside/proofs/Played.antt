-- Calls that move at most given numbers of bytes, one after another, or fail.
use Rattle.std.proofs.Common.{◌≡◌, ℕ, ◌<◌, ◌≤◌, ◌+◌, ◌-◌, ◌^◌, ◌==◌, min, true, false, List, [], ◌∷◌, length, map, drop, Option, Some, None, refl, sym, ap, ◌∙◌}
use Rattle.std.proofs.Common.{subst, arith}
use Rattle.std.specs.Prelude.{⊤, unwrap_or, slice_get, IfSome}
use Rattle.std.specs.List.{list_any, AllByRecursion}
use Rattle.std.proofs.lemmas.Grind.{common_steps}
use Rattle.flu_outside.specs.Calls.{Calls, next_fails, after_call}
use Rattle.flu_outside.specs.Answers.{CanBeSet}

-- each call moves at most so many bytes, or fails
abbrev pub Meet : Calls → List (Option ℕ) → Type 0
Meet calls [] = ⊤
Meet calls (None ∷ later) = (next_fails calls ≡ true) × Meet (after_call calls) later
Meet calls (Some n ∷ later) = (next_fails calls ≡ false) × (calls.piece ≡ n) × Meet (after_call calls) later

-- the calls that fail, behind so many
abbrev failing_from : ℕ → List (Option ℕ) → List ℕ
failing_from k [] = []
failing_from k (None ∷ later) = (k + 1) ∷ failing_from (k + 1) later
failing_from k (Some n ∷ later) = failing_from (k + 1) later

abbrev piece_of : Option ℕ → ℕ
piece_of o = unwrap_or o 1

abbrev first_or : ℕ → List ℕ → ℕ
first_or piece pieces = unwrap_or (slice_get pieces 0) piece

-- so many calls were made
abbrev calls_at : ℕ → List ℕ → ℕ → List ℕ → Calls
calls_at k failing piece pieces = record { made = k; failing = failing; piece = piece; later = drop 1 pieces }

none_before : (k j : ℕ) (wanted : List (Option ℕ)) → j ≤ k → list_any (λ c. c == j) (failing_from k wanted) ≡ false
none_before k j [] few = refl
none_before k j (None ∷ later) few =
    let rest : list_any (λ c. c == j) (failing_from (k + 1) later) ≡ false = none_before (k + 1) j later (omega (arith, few)) in
    grind (arith, common_steps, rest, few)
none_before k j (Some n ∷ later) few = none_before (k + 1) j later (omega (arith, few))

first_again : (piece : ℕ) (pieces : List ℕ) → first_or (first_or piece pieces) pieces ≡ first_or piece pieces
first_again piece [] = refl
first_again piece (x ∷ xs) = refl

-- behind the first calls, which fail and which do not
agree_later : (k : ℕ) (failing : List ℕ) (o : Option ℕ) (later : List (Option ℕ))
    → ((j : ℕ) → k < j → list_any (λ c. c == j) failing ≡ list_any (λ c. c == j) (failing_from k (o ∷ later)))
    → (j : ℕ) → k + 1 < j → list_any (λ c. c == j) failing ≡ list_any (λ c. c == j) (failing_from (k + 1) later)
agree_later k failing None later agree j behind =
    let here : list_any (λ c. c == j) failing ≡ list_any (λ c. c == j) ((k + 1) ∷ failing_from (k + 1) later) = agree j (omega (arith, behind)) in
    grind (arith, common_steps, here, behind)
agree_later k failing (Some n) later agree j behind = agree j (omega (arith, behind))

meet : (k : ℕ) (failing : List ℕ) (piece : ℕ) (wanted : List (Option ℕ)) → k + length wanted < 2 ^ 64 - 1
    → ((j : ℕ) → k < j → list_any (λ c. c == j) failing ≡ list_any (λ c. c == j) (failing_from k wanted))
    → first_or piece (map piece_of wanted) ≡ piece
    → Meet (calls_at k failing piece (map piece_of wanted)) wanted
meet k failing piece [] few agree first = tt
meet k failing piece (None ∷ later) few agree first =
    let next : min (k + 1) (2 ^ 64 - 1) ≡ k + 1 = omega (arith, few) in
    let pieces : List ℕ = map piece_of later in
    let all : list_any (λ c. c == k + 1) failing ≡ list_any (λ c. c == k + 1) ((k + 1) ∷ failing_from (k + 1) later) = agree (k + 1) (omega arith) in
    let fails : list_any (λ c. c == k + 1) failing ≡ true = grind (arith, common_steps, all) in (
      ap (λ n. list_any (λ c. c == n) failing) next ∙ fails,
      subst (λ n. Meet (calls_at n failing (first_or piece pieces) pieces) later) (sym next)
          (meet (k + 1) failing (first_or piece pieces) later (omega (arith, few)) (agree_later k failing None later agree) (first_again piece pieces)),
    )
meet k failing piece (Some n ∷ later) few agree first =
    let next : min (k + 1) (2 ^ 64 - 1) ≡ k + 1 = omega (arith, few) in
    let pieces : List ℕ = map piece_of later in
    let passes : list_any (λ c. c == k + 1) failing ≡ false = agree (k + 1) (omega arith) ∙ none_before (k + 1) (k + 1) later (omega arith) in (
      ap (λ m. list_any (λ c. c == m) failing) next ∙ passes,
      sym first,
      subst (λ m. Meet (calls_at m failing (first_or piece pieces) pieces) later) (sym next)
          (meet (k + 1) failing (first_or piece pieces) later (omega (arith, few)) (agree_later k failing (Some n) later agree) (first_again piece pieces)),
    )

-- numbers of bytes that a call may move
abbrev pub IsPiece : Option ℕ → Type 0
IsPiece o = IfSome o (λ n. (0 < n) × (n < 2 ^ 64))

few_calls : (k : ℕ) (wanted : List (Option ℕ)) → k + length wanted < 2 ^ 64 - 1 → AllByRecursion (λ c. c < 2 ^ 64) (failing_from k wanted)
few_calls k [] few = tt
few_calls k (None ∷ later) few = (omega (arith, few), few_calls (k + 1) later (omega (arith, few)))
few_calls k (Some n ∷ later) few = few_calls (k + 1) later (omega (arith, few))

is_piece : (o : Option ℕ) → IsPiece o → (0 < piece_of o) × (piece_of o < 2 ^ 64)
is_piece None p = (omega arith, omega arith)
is_piece (Some n) p = p

are_pieces : (wanted : List (Option ℕ)) → AllByRecursion IsPiece wanted → AllByRecursion (λ n. (0 < n) × (n < 2 ^ 64)) (map piece_of wanted)
are_pieces [] all = tt
are_pieces (o ∷ later) all = (is_piece o all.0, are_pieces later all.1)

-- SOME CALLS can be set so
pub some_calls : (wanted : List (Option ℕ)) → length wanted < 2 ^ 64 - 1 → AllByRecursion IsPiece wanted → (calls : Calls) × CanBeSet calls × Meet calls wanted
some_calls [] few all =
    (calls_at 0 [] 1 [], record { made = refl; failing = tt; piece = (omega arith, omega arith); later = tt }, tt)
some_calls (o ∷ later) few all = (
  calls_at 0 (failing_from 0 (o ∷ later)) (piece_of o) (map piece_of (o ∷ later)),
  record { made = refl; failing = few_calls 0 (o ∷ later) (omega (arith, few)); piece = is_piece o all.0; later = are_pieces later all.1 },
  meet 0 (failing_from 0 (o ∷ later)) (piece_of o) (o ∷ later) (omega (arith, few)) (λ j behind. refl) refl,
)
