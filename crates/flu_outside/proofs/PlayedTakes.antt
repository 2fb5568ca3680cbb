-- Files in memory play any answers of takes in which a name that ended stays ended.
use Rattle.std.proofs.Common.{◌≡◌, ◌≢◌, ℕ, ◌<◌, ◌≤◌, ◌+◌, ◌^◌, min, Bool, true, false, List, [], ◌∷◌, ◌++◌, length, map, take, drop, Option, Some, None, refl}
use Rattle.std.proofs.Common.{sym, ap, ◌∙◌, arith}
use Rattle.std.specs.Prelude.{unwrap_or, IfSome, bytes_eq}
use Rattle.std.specs.List.{AllByRecursion}
use Rattle.std.proofs.lemmas.Grind.{common_steps}
use Rattle.std.proofs.Common.{length-append}
use Rattle.std.proofs.Math.Seq.{take-length, take-append_seam, drop-append_seam}
use Rattle.std.proofs.lemmas.Bool.{false≢true}
use Rattle.flu_lemmas.proofs.Bytes.{bytes_itself, bytes_is}
use Rattle.flu_lemmas.proofs.Elements.{all_map}
use Rattle.flu_outside.specs.Calls.{Calls, next_fails, after_call}
use Rattle.flu_outside.specs.Outside.{Contents}
use Rattle.flu_outside.specs.Answers.{Taken, IsTaken, AnswerTakes, bytes_of, HasRoom, StayEnded, LawOfTakes}
use Rattle.flu_outside.proofs.Played.{Meet, IsPiece, some_calls}

-- how many bytes a take gives at most: one where the name has none left
abbrev wanted : Option (List ℕ) → Option ℕ
wanted None = None
wanted (Some []) = Some 1
wanted (Some (b ∷ bytes)) = Some (length (b ∷ bytes))

abbrev wanted_of : List Taken → List (Option ℕ)
wanted_of takes = map (λ t. wanted t.answer) takes

is_piece : (room : ℕ) (o : Option (List ℕ)) → 0 < room → room < 2 ^ 64 → IfSome o (λ bytes. length bytes ≤ room) → IsPiece (wanted o)
is_piece room None some few fits = tt
is_piece room (Some []) some few fits = (omega arith, omega arith)
is_piece room (Some (b ∷ bytes)) some few fits = (grind (arith, common_steps), omega (arith, few, fits))

are_pieces : (takes : List Taken) → AllByRecursion HasRoom takes → AllByRecursion IsPiece (wanted_of takes)
are_pieces [] all = tt
are_pieces (t ∷ later) all = (is_piece t.room t.answer all.0.0 all.0.1 all.0.2, are_pieces later all.1)

-- the calls behind a call
behind : (calls : Calls) (o : Option (List ℕ)) (later : List (Option ℕ)) → Meet calls (wanted o ∷ later) → Meet (after_call calls) later
behind calls None later meet = meet.1
behind calls (Some []) later meet = meet.2
behind calls (Some (b ∷ bytes)) later meet = meet.2

-- ---- one take
none_of_none : (bytes : List ℕ) → length bytes ≡ 0 → bytes ≡ []
none_of_none bytes none = grind (arith, common_steps, none)

-- the front of a list
same_front : (got bytes rest : List ℕ) → length got ≡ length bytes → take (length got) got ≡ take (length got) (bytes ++ rest) → got ≡ bytes
same_front got bytes rest size front =
    sym (take-length got) ∙ front ∙ ap (λ n. take n (bytes ++ rest)) size ∙ take-append_seam bytes rest

some_is : (a b : List ℕ) → Some a ≡ Some b → a ≡ b
some_is a b e = grind (arith, common_steps, e)

size_of_front : (room piece size more : ℕ) → size ≤ room → piece ≡ size → min (min room piece) (size + more) ≡ size
size_of_front room piece size more fits same = omega (arith, fits, same)

answers_so : (calls : Calls) (left new : Contents) (name rest : List ℕ) (room : ℕ) (o answer : Option (List ℕ)) (later : List (Option ℕ))
    → Meet calls (wanted o ∷ later) → left name ≡ Some (unwrap_or o [] ++ rest) → (o ≡ Some [] → rest ≡ []) → IfSome o (λ bytes. length bytes ≤ room)
    → IsTaken calls left new name room answer → answer ≡ o
answers_so calls left new name rest room None None later meet has ended fits is = refl
answers_so calls left new name rest room None (Some got) later meet has ended fits is =
    let fails : next_fails calls ≡ true = meet.0 in absurd (grind (arith, common_steps, fails, is.0))
answers_so calls left new name rest room (Some []) None later meet has ended fits is =
    let passes : next_fails calls ≡ false = meet.0 in absurd (grind (arith, common_steps, passes, has, is.0))
answers_so calls left new name rest room (Some []) (Some got) later meet has ended fits is =
    let none : length (unwrap_or (left name) []) ≡ 0 = rw (has, ended refl) refl in
    let few : length got ≡ 0 = omega (arith, is.1, none) in
    ap Some (none_of_none got few)
answers_so calls left new name rest room (Some (b ∷ bytes)) None later meet has ended fits is =
    let passes : next_fails calls ≡ false = meet.0 in absurd (grind (arith, common_steps, passes, has, is.0))
answers_so calls left new name rest room (Some (b ∷ bytes)) (Some got) later meet has ended fits is =
    let all : List ℕ = (b ∷ bytes) ++ rest in
    let whole : length (unwrap_or (left name) []) ≡ length (b ∷ bytes) + length rest = ap (λ o. length (unwrap_or o [])) has ∙ length-append (b ∷ bytes) rest in
    let size : length got ≡ length (b ∷ bytes) =
    is.1 ∙ ap (min (min room calls.piece)) whole ∙ size_of_front room calls.piece (length (b ∷ bytes)) (length rest) fits meet.1 in
    let held : is.2.bytes ≡ (b ∷ bytes) ++ rest = some_is is.2.bytes ((b ∷ bytes) ++ rest) (sym is.2.were ∙ has) in
    ap Some (same_front got (b ∷ bytes) rest size (is.2.given ∙ ap (take (length got)) held))

-- ---- what is left
-- of the names of some takes, the bytes of some takes are left
abbrev Hold : Contents → List Taken → List Taken → Type 0
Hold left takes names = AllByRecursion (λ t. left t.name ≡ Some (bytes_of t.name takes)) names

of_itself : (t : Taken) (later : List Taken) → bytes_of t.name (t ∷ later) ≡ unwrap_or t.answer [] ++ bytes_of t.name later
of_itself t later = rw (bytes_itself t.name) refl

of_other : (name : List ℕ) (t : Taken) (later : List Taken) → bytes_eq t.name name ≡ false → bytes_of name (t ∷ later) ≡ bytes_of name later
of_other name t later differs = rw differs refl

-- what a take leaves of a name
leaves : (calls : Calls) (left new : Contents) (t : Taken) (later : List Taken) (name : List ℕ) (answer : Option (List ℕ))
    → answer ≡ t.answer → IsTaken calls left new t.name t.room answer
    → left name ≡ Some (bytes_of name (t ∷ later)) → new name ≡ Some (bytes_of name later)
leaves calls left new t later name None same is has =
    is.1 name ∙ has ∙ ap Some (by_test (bytes_eq t.name name) refl)
  where
    by_test : (b : Bool) → bytes_eq t.name name ≡ b → bytes_of name (t ∷ later) ≡ bytes_of name later
    by_test true e = rw (e, sym same) refl
    by_test false e = of_other name t later e
leaves calls left new t later name (Some got) same is has = by_test (bytes_eq t.name name) refl
  where
    by_test : (b : Bool) → bytes_eq t.name name ≡ b → new name ≡ Some (bytes_of name later)
    by_test true e =
        let here : t.name ≡ name = bytes_is t.name name e in
        let all : bytes_of name (t ∷ later) ≡ got ++ bytes_of name later = rw (e, sym same) refl in
        let were : Some is.2.bytes ≡ Some (got ++ bytes_of name later) = sym is.2.were ∙ ap left here ∙ has ∙ ap Some all in
        let held : is.2.bytes ≡ got ++ bytes_of name later = some_is is.2.bytes (got ++ bytes_of name later) were in
        ap new (sym here) ∙ is.2.left ∙ ap Some (ap (drop (length got)) held ∙ drop-append_seam got (bytes_of name later))
    by_test false e =
        let apart : name ≢ t.name = λ same_name. absurd (false≢true (sym e ∙ ap (bytes_eq t.name) same_name ∙ bytes_itself t.name)) in
        is.2.others name apart ∙ has ∙ ap Some (of_other name t later e)

-- ---- takes
play : (takes : List Taken) (calls : Calls) (left : Contents) → AllByRecursion HasRoom takes → StayEnded takes → Meet calls (wanted_of takes)
    → Hold left takes takes → AnswerTakes calls left takes
play [] calls left all ended meet hold = tt
play (t ∷ later) calls left all ended meet hold = λ answer new is.
    let same : answer ≡ t.answer =
    answers_so calls left new t.name (bytes_of t.name later) t.room t.answer answer (wanted_of later) meet
    (hold.0 ∙ ap Some (of_itself t later)) ended.0 all.0.2 is in (
      same,
      play later (after_call calls) new all.1 ended.1 (behind calls t.answer (wanted_of later) meet)
          (all_map (λ u. left u.name ≡ Some (bytes_of u.name (t ∷ later))) (λ u. new u.name ≡ Some (bytes_of u.name later)) later
          (λ u has. leaves calls left new t later u.name answer same is has) hold.1),
    )

same_length : (takes : List Taken) → length (wanted_of takes) ≡ length takes
same_length takes = grind (arith, common_steps)

pub law_of_takes : LawOfTakes
law_of_takes takes few all ended =
    let some = some_calls (wanted_of takes) (rw (same_length takes) few) (are_pieces takes all) in
    (some.0, some.1, λ left hold. play takes some.0 left all ended some.2 hold)
