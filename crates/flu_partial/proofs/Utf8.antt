-- The texts of heads and of contributions are UTF-8 where the texts in them are.
use Rattle.std.proofs.Common.{◌≡◌, ℕ, suc, ◌+◌, ◌<◌, ◌^◌, ℤ, pos, negsuc, Bool, true, false, Option, Some, None, List, [], ◌∷◌, ◌++◌, map, codes, IsUtf8, refl, sym, ap, subst, arith, lt-ltb}
use lib.Signed.{mag}
use Rattle.std.specs.Prelude.{nat_lt, nat_le, ◌&&◌, length, ⊤}
use Rattle.std.specs.Fmt.{decimal, signed_decimal}
use Rattle.std.specs.List.{list_all, AllByRecursion}
use Rattle.std.specs.Str.Parse.{AllDigits}
use Rattle.std.proofs.lemmas.Fmt.{decimal_is_IsNumeral_wide}
use Rattle.std.proofs.lemmas.Grind.{common_steps}
use Rattle.std.proofs.lemmas.Str.{IsUtf8-append, IsUtf8-nil}
use Rattle.std.proofs.lemmas.Str.Parse.{digit_from_value}
use Rattle.json.specs.Print.{quoted}
use Rattle.json.proofs.Printed.Utf8.{are_ascii, IsUtf8-are_ascii, IsUtf8-quoted}
use Rattle.serde_json.specs.Data.{Num, unsigned, negative, float, Data, null, boolean, number, string, array, object, Items, no_items, item, Members, no_members, member}
use Rattle.serde_json.specs.View.{items_of}
use Rattle.serde_json.specs.Written.{compact_text, items_text, members_text, comma_if}
use Rattle.flu_lemmas.proofs.Tests.{and_left, and_right, both}
use Rattle.flu_names.specs.Names.{is_name, is_name_byte, begins_as_name}
use Rattle.flu_partial.specs.declared.values.PartialHead.{PartialHead}
use Rattle.flu_partial.specs.declared.values.Amount.{Amount}
use Rattle.flu_partial.specs.declared.values.Emitted.{Emitted}
use Rattle.flu_partial.specs.declared.values.Contribution.{Contribution}
use Rattle.flu_partial.specs.declared.values.Place.{Place}
use Rattle.flu_partial.specs.declared.values.Place.TheVariants.{Before, End}
use Rattle.flu_partial.specs.Laws.{LawOfPrintedHeads, LawOfPrintedContributions}
use Rattle.flu_partial.specs.Partial.{time_or_null, head_text, contribution_text, amount_value, emitted_value, place_members, IsTimeOrNone, IsAmount, IsEmitted, IsPlace}
use Rattle.flu_partial.specs.Partial.{IsHead, IsContribution}
use Rattle.flu_partial.proofs.Found.{head_members, contribution_members}

-- ---- bytes of one character each
byte_then : (x : ℕ) (xs : List ℕ) → nat_lt x 128 ≡ true → IsUtf8 xs → IsUtf8 (x ∷ xs)
byte_then x xs low more = IsUtf8-append (x ∷ []) xs (IsUtf8-are_ascii (x ∷ []) (both (nat_lt x 128) true low refl)) more

name_byte_low : (x : ℕ) → is_name_byte x ≡ true → x < 128
name_byte_low x e = grind (arith, common_steps)

letters_ascii : (bytes : List ℕ) → list_all is_name_byte bytes ≡ true → are_ascii bytes ≡ true
letters_ascii [] e = refl
letters_ascii (x ∷ xs) e =
    both (nat_lt x 128) (are_ascii xs) (lt-ltb x 128 (name_byte_low x (and_left (is_name_byte x) (list_all is_name_byte xs) e)))
    (letters_ascii xs (and_right (is_name_byte x) (list_all is_name_byte xs) e))

digits_ascii : (bytes : List ℕ) → AllDigits 10 bytes → are_ascii bytes ≡ true
digits_ascii [] d = refl
digits_ascii (x ∷ xs) d =
    let k = digit_from_value x d.0 in
    both (nat_lt x 128) (are_ascii xs) (lt-ltb x 128 (omega (arith, k))) (digits_ascii xs d.1)

decimal_utf8 : (n : ℕ) → n < 10 ^ 64 → IsUtf8 (decimal n)
decimal_utf8 n fits = IsUtf8-are_ascii (decimal n) (digits_ascii (decimal n) (decimal_is_IsNumeral_wide n fits).0.1)

signed_utf8 : (z : ℤ) → mag z + 1 < 10 ^ 64 → IsUtf8 (signed_decimal z)
signed_utf8 (pos n) small = decimal_utf8 n (omega (arith, small))
signed_utf8 (negsuc n) small = byte_then 45 (decimal (suc n)) refl (decimal_utf8 (suc n) (omega (arith, small)))

-- ---- values whose texts are UTF-8, of numbers of 64 bits
abbrev NumUtf8 : Num → Type 0
NumUtf8 (unsigned n) = n < 2 ^ 64
NumUtf8 (negative z) = ⊥
NumUtf8 (float x) = ⊥

abbrev mutual
  HasUtf8 : Data → Type 0
  HasUtf8 null = ⊤
  HasUtf8 (boolean b) = ⊥
  HasUtf8 (number n) = NumUtf8 n
  HasUtf8 (string s) = IsUtf8 s
  HasUtf8 (array ds) = HaveUtf8 ds
  HasUtf8 (object ms) = ⊥

  HaveUtf8 : Items → Type 0
  HaveUtf8 no_items = ⊤
  HaveUtf8 (item d ds) = HasUtf8 d × HaveUtf8 ds

abbrev MembersUtf8 : Members → Type 0
MembersUtf8 no_members = ⊤
MembersUtf8 (member k d ms) = IsUtf8 k × HasUtf8 d × MembersUtf8 ms

comma_utf8 : (b : Bool) (xs : List ℕ) → IsUtf8 xs → IsUtf8 (comma_if b ++ xs)
comma_utf8 true xs u = byte_then 44 xs refl u
comma_utf8 false xs u = u

mutual
  value_utf8 : (d : Data) → HasUtf8 d → IsUtf8 (compact_text d)
  value_utf8 null h = IsUtf8-are_ascii (codes "null") refl
  value_utf8 (boolean b) h = absurd h
  value_utf8 (number (unsigned n)) h = decimal_utf8 n (omega (arith, h))
  value_utf8 (number (negative z)) h = absurd h
  value_utf8 (number (float x)) h = absurd h
  value_utf8 (string s) h = IsUtf8-quoted s h
  value_utf8 (array ds) h = byte_then 91 (items_text false ds) refl (items_utf8 false ds h)
  value_utf8 (object ms) h = absurd h

  items_utf8 : (later : Bool) (ds : Items) → HaveUtf8 ds → IsUtf8 (items_text later ds)
  items_utf8 later no_items h = byte_then 93 [] refl IsUtf8-nil
  items_utf8 later (item d ds) h =
      comma_utf8 later (compact_text d ++ items_text true ds) (IsUtf8-append (compact_text d) (items_text true ds) (value_utf8 d h.0) (items_utf8 true ds h.1))

members_utf8 : (later : Bool) (ms : Members) → MembersUtf8 ms → IsUtf8 (members_text later ms)
members_utf8 later no_members h = byte_then 125 [] refl IsUtf8-nil
members_utf8 later (member k d ms) h =
    let rest = compact_text d ++ members_text true ms in
    comma_utf8 later (quoted k ++ 58 ∷ rest)
    (IsUtf8-append (quoted k) (58 ∷ rest) (IsUtf8-quoted k h.0)
    (byte_then 58 rest refl (IsUtf8-append (compact_text d) (members_text true ms) (value_utf8 d h.1) (members_utf8 true ms h.2))))

object_utf8 : (ms : Members) → MembersUtf8 ms → IsUtf8 (compact_text (object ms))
object_utf8 ms h = byte_then 123 (members_text false ms) refl (members_utf8 false ms h)

-- ---- the two kinds of lines
key : (k : List ℕ) → are_ascii k ≡ true → IsUtf8 k
key k e = IsUtf8-are_ascii k e

time_utf8 : (o : Option ℕ) → IsTimeOrNone o → HasUtf8 (time_or_null o)
time_utf8 None h = tt
time_utf8 (Some t) h = omega (arith, h)

name_utf8 : (bs : List ℕ) → is_name bs ≡ true → IsUtf8 bs
name_utf8 bs h =
    let front = and_left (begins_as_name bs && list_all is_name_byte bs && nat_le (length bs) 32) _ h in
    IsUtf8-are_ascii bs (letters_ascii bs (and_right (begins_as_name bs) (list_all is_name_byte bs)
    (and_left (begins_as_name bs && list_all is_name_byte bs) (nat_le (length bs) 32) front)))

pub law_of_printed_heads : LawOfPrintedHeads
unfolding head_text
law_of_printed_heads h is job plan short = record {
  short = short;
  utf8 = object_utf8 (head_members h) (
    key (codes "first") refl,
    time_utf8 h.first is.first,
    (key (codes "job") refl, job, (key (codes "node") refl, name_utf8 h.node is.node, (key (codes "plan") refl, plan, tt))),
  );
  head = is;
  text = refl;
}

amounts_utf8 : (xs : List Amount) → AllByRecursion IsAmount xs → HaveUtf8 (items_of (map amount_value xs))
amounts_utf8 [] h = tt
amounts_utf8 (a ∷ xs) h =
    ((omega (arith, h.0.0), (omega (arith, h.0.1), (signed_utf8 a.value (omega (arith, h.0.2.sfits)), tt))), amounts_utf8 xs h.1)

outs_utf8 : (xs : List Emitted) → AllByRecursion IsEmitted xs → AllByRecursion (λ (o : Emitted). IsUtf8 o.tag × IsUtf8 o.text) xs
    → HaveUtf8 (items_of (map emitted_value xs))
outs_utf8 [] h u = tt
outs_utf8 (o ∷ xs) h u = ((omega (arith, h.0), (u.0.0, (u.0.1, tt))), outs_utf8 xs h.1 u.1)

place_utf8 : (p : Place) → IsPlace p → MembersUtf8 (place_members p)
place_utf8 (Before time itag) h =
    (key (codes "time") refl, omega (arith, h.0), (key (codes "itag") refl, omega (arith, h.1), tt))
place_utf8 (End last) h = (key (codes "last") refl, time_utf8 last h, tt)

pub law_of_printed_contributions : LawOfPrintedContributions
unfolding contribution_text
law_of_printed_contributions c is texts short = record {
  short = short;
  utf8 = object_utf8 (contribution_members c) (
    key (codes "cells") refl,
    amounts_utf8 c.cells is.amounts,
    (
      key (codes "events") refl,
      omega (arith, is.events),
      (key (codes "outs") refl, outs_utf8 c.outs is.outs texts, place_utf8 c.place is.place),
    ),
  );
  contribution = is;
  text = refl;
}
