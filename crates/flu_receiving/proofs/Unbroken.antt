-- The texts of heads and of contributions have no line feed.
use Rattle.std.proofs.Common.{◌≡◌, ℕ, zero, suc, ◌<◌, ◌≤◌, ◌^◌, Bool, true, false, eqb, Option, Some, None, List, [], ◌∷◌, ◌++◌, map, codes}
use Rattle.std.proofs.Common.{refl, sym, ap, ◌∙◌, inl, inr, arith}
use Rattle.std.specs.Prelude.{◌&&◌, ◌==◌, not, ⊤}
use Rattle.std.specs.Fmt.{decimal}
use Rattle.std.specs.List.{AllByRecursion, onto_first}
use Rattle.std.specs.Str.Parse.{AllDigits}
use Rattle.std.proofs.lemmas.Bool.{cases_lt, cases_eq}
use Rattle.std.proofs.lemmas.Bool.Decides.{nat_tests}
use Rattle.std.proofs.lemmas.Fmt.{decimal_is_IsNumeral_wide}
use Rattle.std.proofs.lemmas.List.{append_cancel_left}
use Rattle.std.proofs.lemmas.Str.Parse.{digit_from_value}
use Rattle.json.specs.Print.{escape, escape_byte, quoted}
use Rattle.json.proofs.Printed.Strings.{escape_byte_plain}
use Rattle.serde_json.specs.Data.{Num, unsigned, negative, float, Data, null, boolean, number, string, array, object}
use Rattle.serde_json.specs.Data.{Items, no_items, item, Members, no_members, member}
use Rattle.serde_json.specs.View.{items_of}
use Rattle.serde_json.specs.Written.{compact_text, items_text, members_text, comma_if}
use Rattle.flu_lemmas.proofs.Tests.{and_left, and_right, both, not_true}
use Rattle.flu_partial.specs.declared.values.PartialHead.{PartialHead}
use Rattle.flu_partial.specs.declared.values.Amount.{Amount}
use Rattle.flu_partial.specs.declared.values.Emitted.{Emitted}
use Rattle.flu_partial.specs.declared.values.Contribution.{Contribution}
use Rattle.flu_partial.specs.declared.values.Place.{Place}
use Rattle.flu_partial.specs.declared.values.Place.TheVariants.{Before, End}
use Rattle.flu_partial.specs.Partial.{time_or_null, head_text, contribution_text, amount_value, emitted_value, place_members, line_of}
use Rattle.flu_partial.specs.Partial.{IsHead, IsContribution, IsTimeOrNone, IsAmount, IsEmitted, IsPlace}
use Rattle.flu_receiving.specs.Faults.{parts_of}

abbrev pub is_unbroken : List ℕ → Bool
is_unbroken [] = true
is_unbroken (b ∷ bytes) = not (b == 10) && is_unbroken bytes

-- ---- lines that have no line feed
pub parts_line : (text rest : List ℕ) → is_unbroken text ≡ true → parts_of (line_of text ++ rest) ≡ text ∷ parts_of rest
parts_line [] rest one = refl
parts_line (b ∷ text) rest one =
    let miss = not_true (eqb b 10) (and_left (not (b == 10)) (is_unbroken text) one) in
    rw miss (ap (onto_first b) (parts_line text rest (and_right (not (b == 10)) (is_unbroken text) one)))

-- bytes that begin with a line do so with one line alone
pub record AreSameLines (a b x y : List ℕ) : Type 0 where
  pub line : a ≡ b
  pub rest : x ≡ y

pub same_lines : (a b x y : List ℕ) → is_unbroken a ≡ true → is_unbroken b ≡ true → line_of a ++ x ≡ line_of b ++ y → AreSameLines a b x y
same_lines a b x y one two same =
    let parts : a ∷ parts_of x ≡ b ∷ parts_of y = sym (parts_line a x one) ∙ ap parts_of same ∙ parts_line b y two in
    let line : a ≡ b = cc in
    record { line = line; rest = append_cancel_left (line_of b) x y (ap (λ l. line_of l ++ x) (sym line) ∙ same) }

-- ---- pieces of texts
then : (x : ℕ) (xs : List ℕ) → eqb x 10 ≡ false → is_unbroken xs ≡ true → is_unbroken (x ∷ xs) ≡ true
then x xs miss more = rw miss more

append : (xs ys : List ℕ) → is_unbroken xs ≡ true → is_unbroken ys ≡ true → is_unbroken (xs ++ ys) ≡ true
append [] ys one two = two
append (x ∷ xs) ys one two =
    both (not (x == 10)) (is_unbroken (xs ++ ys)) (and_left (not (x == 10)) (is_unbroken xs) one)
    (append xs ys (and_right (not (x == 10)) (is_unbroken xs) one) two)

other : (x : ℕ) → 11 ≤ x → eqb x 10 ≡ false
other x high = grind (arith, nat_tests)

digits : (bytes : List ℕ) → AllDigits 10 bytes → is_unbroken bytes ≡ true
digits [] d = refl
digits (x ∷ xs) d =
    let k = digit_from_value x d.0 in
    then x xs (other x (omega (arith, k))) (digits xs d.1)

number_unbroken : (n : ℕ) → n < 10 ^ 64 → is_unbroken (decimal n) ≡ true
number_unbroken n fits = digits (decimal n) (decimal_is_IsNumeral_wide n fits).0.1

-- the escapes of the bytes below n
abbrev escapes_below : ℕ → Bool
escapes_below zero = true
escapes_below (suc n) = is_unbroken (escape_byte n) && escapes_below n

escape_below : (n : ℕ) → escapes_below n ≡ true → (x : ℕ) → x < n → is_unbroken (escape_byte x) ≡ true
escape_below zero e x h = absurd (omega arith)
escape_below (suc n) e x h =
    elim (cases_eq x n) [
      | inl same ↦ rw same (and_left (is_unbroken (escape_byte n)) (escapes_below n) e)
      | inr ne ↦ escape_below n (and_right (is_unbroken (escape_byte n)) (escapes_below n) e) x (omega arith)
    ]

all_low : escapes_below 128 ≡ true
unfolding escape_byte
all_low = refl

one_escape : (x : ℕ) → is_unbroken (escape_byte x) ≡ true
one_escape x = elim (cases_lt x 128) [
  | inl small ↦ escape_below 128 all_low x small
  | inr big ↦ rw (escape_byte_plain x (λ e. omega arith) (λ e. omega arith) (omega arith)) (then x [] (other x (omega arith)) refl)
]

escape_unbroken : (s : List ℕ) → is_unbroken (escape s) ≡ true
escape_unbroken [] = refl
escape_unbroken (x ∷ xs) = append (escape_byte x) (escape xs) (one_escape x) (escape_unbroken xs)

quoted_unbroken : (s : List ℕ) → is_unbroken (quoted s) ≡ true
quoted_unbroken s = append (escape s) (34 ∷ []) (escape_unbroken s) refl

-- ---- values of numbers of 64 bits, texts and lists
abbrev IsSmall : Num → Type 0
IsSmall (unsigned n) = n < 2 ^ 64
IsSmall (negative z) = ⊥
IsSmall (float x) = ⊥

abbrev mutual
  IsSimple : Data → Type 0
  IsSimple null = ⊤
  IsSimple (boolean b) = ⊥
  IsSimple (number n) = IsSmall n
  IsSimple (string s) = ⊤
  IsSimple (array ds) = AreSimple ds
  IsSimple (object ms) = ⊥

  AreSimple : Items → Type 0
  AreSimple no_items = ⊤
  AreSimple (item d ds) = IsSimple d × AreSimple ds

abbrev HaveSimple : Members → Type 0
HaveSimple no_members = ⊤
HaveSimple (member k d ms) = IsSimple d × HaveSimple ms

comma : (b : Bool) (xs : List ℕ) → is_unbroken xs ≡ true → is_unbroken (comma_if b ++ xs) ≡ true
comma true xs one = one
comma false xs one = one

mutual
  value : (d : Data) → IsSimple d → is_unbroken (compact_text d) ≡ true
  value null h = refl
  value (boolean b) h = absurd h
  value (number (unsigned n)) h = number_unbroken n (omega (arith, h))
  value (number (negative z)) h = absurd h
  value (number (float x)) h = absurd h
  value (string s) h = quoted_unbroken s
  value (array ds) h = items false ds h
  value (object ms) h = absurd h

  items : (later : Bool) (ds : Items) → AreSimple ds → is_unbroken (items_text later ds) ≡ true
  items later no_items h = refl
  items later (item d ds) h =
      comma later (compact_text d ++ items_text true ds) (append (compact_text d) (items_text true ds) (value d h.0) (items true ds h.1))

members : (later : Bool) (ms : Members) → HaveSimple ms → is_unbroken (members_text later ms) ≡ true
members later no_members h = refl
members later (member k d ms) h =
    let rest = compact_text d ++ members_text true ms in
    comma later (quoted k ++ 58 ∷ rest)
    (append (quoted k) (58 ∷ rest) (quoted_unbroken k) (append (compact_text d) (members_text true ms) (value d h.0) (members true ms h.1)))

object_unbroken : (ms : Members) → HaveSimple ms → is_unbroken (compact_text (object ms)) ≡ true
object_unbroken ms h = members false ms h

-- ---- the two kinds of lines
time : (o : Option ℕ) → IsTimeOrNone o → IsSimple (time_or_null o)
time None h = tt
time (Some t) h = omega (arith, h)

pub head_unbroken : (h : PartialHead) → IsHead h → is_unbroken (head_text h) ≡ true
unfolding head_text
head_unbroken h is =
    object_unbroken
    (member (codes "first") (time_or_null h.first)
    (member (codes "job") (string h.job) (member (codes "node") (string h.node) (member (codes "plan") (string h.plan) no_members))))
    (time h.first is.first, (tt, (tt, (tt, tt))))

amounts : (xs : List Amount) → AllByRecursion IsAmount xs → AreSimple (items_of (map amount_value xs))
amounts [] h = tt
amounts (a ∷ xs) h = ((omega (arith, h.0.0), (omega (arith, h.0.1), (tt, tt))), amounts xs h.1)

outs : (xs : List Emitted) → AllByRecursion IsEmitted xs → AreSimple (items_of (map emitted_value xs))
outs [] h = tt
outs (o ∷ xs) h = ((omega (arith, h.0), (tt, (tt, tt))), outs xs h.1)

place : (p : Place) → IsPlace p → HaveSimple (place_members p)
place (Before time itag) h = (omega (arith, h.0), (omega (arith, h.1), tt))
place (End last) h = (time last h, tt)

pub contribution_unbroken : (c : Contribution) → IsContribution c → is_unbroken (contribution_text c) ≡ true
unfolding contribution_text
contribution_unbroken c is =
    object_unbroken
    (member (codes "cells") (array (items_of (map amount_value c.cells)))
    (member (codes "events") (number (unsigned c.events)) (member (codes "outs") (array (items_of (map emitted_value c.outs))) (place_members c.place))))
    (amounts c.cells is.amounts, (omega (arith, is.events), (outs c.outs is.outs, place c.place is.place)))
