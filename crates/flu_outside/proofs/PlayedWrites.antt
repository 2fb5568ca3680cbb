-- A sink in memory plays any answers of writes.
use Rattle.std.proofs.Common.{◌≡◌, ℕ, ◌<◌, ◌≤◌, ◌+◌, ◌^◌, min, true, false, List, [], ◌∷◌, length, map, Option, Some, None, refl, ap, arith}
use Rattle.std.specs.Prelude.{unwrap_or, IfSome}
use Rattle.std.specs.List.{AllByRecursion}
use Rattle.std.proofs.lemmas.Grind.{common_steps}
use Rattle.flu_lemmas.specs.Totals.{total}
use Rattle.flu_outside.specs.Calls.{Calls, next_fails, after_call}
use Rattle.flu_outside.specs.Answers.{Written, IsWritten, AnswerWrites, TakesSome, LawOfWrites}
use Rattle.flu_outside.proofs.Played.{Meet, IsPiece, some_calls}

abbrev wanted_of : List Written → List (Option ℕ)
wanted_of writes = map (λ w. w.answer) writes

-- the calls behind a call
behind : (calls : Calls) (o : Option ℕ) (later : List (Option ℕ)) → Meet calls (o ∷ later) → Meet (after_call calls) later
behind calls None later meet = meet.1
behind calls (Some n) later meet = meet.2

-- one write
answers_so : (calls : Calls) (room held offered : ℕ) (o answer : Option ℕ) (later : List (Option ℕ)) → Meet calls (o ∷ later)
    → IfSome o (λ n. (0 < n) × (n ≤ offered)) → held + unwrap_or o 0 ≤ room → IsWritten calls room held offered answer → answer ≡ o
answers_so calls room held offered None None later meet some fits is = refl
answers_so calls room held offered None (Some n) later meet some fits is =
    let fails : next_fails calls ≡ true = meet.0 in absurd (grind (arith, common_steps, fails, is.0))
answers_so calls room held offered (Some n) None later meet some fits is =
    let whole : min offered calls.piece ≡ n = omega (arith, meet.1, some.1) in
    let passes : next_fails calls ≡ false = meet.0 in absurd (grind (arith, common_steps, passes, whole, fits, is))
answers_so calls room held offered (Some n) (Some m) later meet some fits is =
    let whole : m ≡ n = omega (arith, meet.1, some.1, is.1) in ap Some whole

play : (writes : List Written) (calls : Calls) (room held : ℕ) → AllByRecursion TakesSome writes → Meet calls (wanted_of writes)
    → held + total (λ w. unwrap_or w.answer 0) writes ≤ room → AnswerWrites calls room held writes
play [] calls room held all meet fits = tt
play (w ∷ later) calls room held all meet fits = λ answer is.
    let same : answer ≡ w.answer =
    answers_so calls room held w.offered w.answer answer (wanted_of later) meet all.0.1 (omega (arith, fits)) is in (
      same,
      play later (after_call calls) room (held + unwrap_or answer 0) all.1 (behind calls w.answer (wanted_of later) meet) (rw same (omega (arith, fits))),
    )

is_piece : (offered : ℕ) (o : Option ℕ) → offered < 2 ^ 64 → IfSome o (λ n. (0 < n) × (n ≤ offered)) → IsPiece o
is_piece offered None few some = tt
is_piece offered (Some n) few some = (some.0, omega (arith, few, some.1))

are_pieces : (writes : List Written) → AllByRecursion TakesSome writes → AllByRecursion IsPiece (wanted_of writes)
are_pieces [] all = tt
are_pieces (w ∷ later) all = (is_piece w.offered w.answer all.0.0 all.0.1, are_pieces later all.1)

same_length : (writes : List Written) → length (wanted_of writes) ≡ length writes
same_length writes = grind (arith, common_steps)

pub law_of_writes : LawOfWrites
law_of_writes writes few all =
    let some = some_calls (wanted_of writes) (rw (same_length writes) few) (are_pieces writes all) in
    (some.0, some.1, λ room fits. play writes some.0 room 0 all some.2 (omega (arith, fits)))
