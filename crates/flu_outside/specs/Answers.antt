-- What objects in memory answer, call by call, and the law that these can be any answers at all.
use Rattle.std.specs.Prelude.{◌≡◌, ℕ, ◌+◌, ◌-◌, ◌^◌, ◌<◌, ◌≤◌, min, Bool, true, false, not, ◌&&◌, nat_le, List, [], ◌∷◌, length, take, Option, Some, None}
use Rattle.std.specs.Prelude.{is_some, unwrap_or, IfSome, Result, Ok, Err, ⊤, bytes_eq, if◌then◌else◌}
use Rattle.std.specs.List.{flat_map, AllByRecursion}
use Rattle.flu_lemmas.specs.Named.{bytes_left}
use Rattle.flu_lemmas.specs.Totals.{total}
use Rattle.flu_outside.specs.Calls.{Calls, next_fails, after_call}
use Rattle.flu_outside.specs.Outside.{Contents, Takes, SameLeft}

-- ---- calls
-- calls that can be set: none was made, and a call moves one byte or more
pub record CanBeSet (calls : Calls) : Type 0 where
  pub made : calls.made ≡ 0
  pub failing : AllByRecursion (λ call. call < 2 ^ 64) calls.failing
  pub piece : (0 < calls.piece) × (calls.piece < 2 ^ 64)
  pub later : AllByRecursion (λ piece. (0 < piece) × (piece < 2 ^ 64)) calls.later

-- ---- takes
-- a take of a name into room for this many bytes, and its answer: these bytes, none at the end of the name; or it failed
pub record Taken : Type 0 where
  pub name : List ℕ
  pub room : ℕ
  pub answer : Option (List ℕ)

-- the answer, by a result and by what is in the buffer
abbrev pub answer_of : {E : Type 0} → Result ℕ E → List ℕ → Option (List ℕ)
answer_of (Ok n) buffer = Some (take n buffer)
answer_of (Err e) buffer = None

-- whether a take of files in memory succeeds: the call is not set to fail, and the name is there
abbrev pub succeeds : Calls → Contents → List ℕ → Bool
succeeds calls left name = not (next_fails calls) && is_some (left name)

-- A TAKE OF FILES IN MEMORY answers as many bytes as it can, or fails and leaves all as it was
abbrev pub IsTaken : Calls → Contents → Contents → List ℕ → ℕ → Option (List ℕ) → Type 0
IsTaken calls old new name room None = (succeeds calls old name ≡ false) × SameLeft old new
IsTaken calls old new name room (Some bytes) =
    (succeeds calls old name ≡ true) × (length bytes ≡ min (min room calls.piece) (length (bytes_left old name)))
    × Takes old new name (length bytes) bytes

-- files in memory whose calls are set so, and which have these bytes left, answer just so, take by take
abbrev pub AnswerTakes : Calls → Contents → List Taken → Type 0
AnswerTakes calls left [] = ⊤
AnswerTakes calls left (t ∷ later) =
    (answer : Option (List ℕ)) (new : Contents) → IsTaken calls left new t.name t.room answer
    → (answer ≡ t.answer) × AnswerTakes (after_call calls) new later

-- the bytes that were answered for a name
abbrev pub bytes_of : List ℕ → List Taken → List ℕ
bytes_of name takes = flat_map (λ t. if bytes_eq t.name name then unwrap_or t.answer [] else []) takes

-- an answer has room
abbrev pub HasRoom : Taken → Type 0
HasRoom t = (0 < t.room) × (t.room < 2 ^ 64) × IfSome t.answer (λ bytes. length bytes ≤ t.room)

-- A NAME THAT ENDED STAYS ENDED: no bytes of it are answered later
abbrev pub StayEnded : List Taken → Type 0
StayEnded [] = ⊤
StayEnded (t ∷ later) = (t.answer ≡ Some [] → bytes_of t.name later ≡ []) × StayEnded later

-- LAW OF TAKES: whatever takes are answered, if a name that ended stays ended, some calls can be set so that files in memory which
-- hold for each name the bytes that are answered give just these answers
abbrev pub LawOfTakes : Type 0
LawOfTakes =
    (takes : List Taken) → length takes < 2 ^ 64 - 1 → AllByRecursion HasRoom takes → StayEnded takes
    → (calls : Calls) × CanBeSet calls
    × ((left : Contents) → AllByRecursion (λ t. left t.name ≡ Some (bytes_of t.name takes)) takes → AnswerTakes calls left takes)

-- ---- writes
-- a write of this many bytes, and its answer: how many were taken; or it failed
pub record Written : Type 0 where
  pub offered : ℕ
  pub answer : Option ℕ

-- the answer, by a result
abbrev pub count_of_write : {E : Type 0} → Result ℕ E → Option ℕ
count_of_write (Ok n) = Some n
count_of_write (Err e) = None

-- A WRITE TO A SINK IN MEMORY, which has this room and has taken this many bytes, takes a whole piece or fails
abbrev pub IsWritten : Calls → ℕ → ℕ → ℕ → Option ℕ → Type 0
IsWritten calls room held offered None = (not (next_fails calls) && nat_le (held + min offered calls.piece) room) ≡ false
IsWritten calls room held offered (Some n) =
    ((not (next_fails calls) && nat_le (held + min offered calls.piece) room) ≡ true) × (n ≡ min offered calls.piece)

-- a sink in memory whose calls are set so, which has this room and has taken this many bytes, answers just so, write by write
abbrev pub AnswerWrites : Calls → ℕ → ℕ → List Written → Type 0
AnswerWrites calls room held [] = ⊤
AnswerWrites calls room held (w ∷ later) =
    (answer : Option ℕ) → IsWritten calls room held w.offered answer
    → (answer ≡ w.answer) × AnswerWrites (after_call calls) room (held + unwrap_or answer 0) later

-- a write takes a byte or more of those that it is offered
abbrev pub TakesSome : Written → Type 0
TakesSome w = (w.offered < 2 ^ 64) × IfSome w.answer (λ n. (0 < n) × (n ≤ w.offered))

-- LAW OF WRITES: whatever writes are answered, some calls can be set so that a sink in memory with room for all that was taken gives just
-- these answers
abbrev pub LawOfWrites : Type 0
LawOfWrites =
    (writes : List Written) → length writes < 2 ^ 64 - 1 → AllByRecursion TakesSome writes
    → (calls : Calls) × CanBeSet calls
    × ((room : ℕ) → total (λ w. unwrap_or w.answer 0) writes ≤ room → AnswerWrites calls room 0 writes)
