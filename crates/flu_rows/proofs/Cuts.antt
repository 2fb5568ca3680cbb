-- Fields that are read while they are cut.
use Rattle.std.proofs.Common.{◌≡◌, ℕ, suc, ◌+◌, ◌*◌, ◌-◌, ◌<◌, ◌≤◌, ◌^◌, Bool, true, false, not, ◌&&◌, if◌then◌else◌, eqb, List, [], ◌∷◌, ◌++◌}
use Rattle.std.proofs.Common.{length, length-append, take, drop, refl, sym, ap, ◌∙◌, append_assoc, get_or, Option, Some, None, pos, arith, cond}
use Rattle.std.proofs.Math.IntN.{neg_ℤ}
use Rattle.std.specs.Prelude.{nat_le}
use Rattle.std.specs.Char.{is_ascii_digit}
use Rattle.std.specs.List.{list_all}
use Rattle.std.specs.Str.Parse.{digits_value}
use Rattle.std.proofs.lemmas.Bool.{and_parts}
use Rattle.std.proofs.lemmas.Bool.Decides.{nat_tests}
use Rattle.std.proofs.lemmas.Int.Digits.{digits_value_more}
use Rattle.std.proofs.lemmas.List.{append-nil, take-append-drop, take_at, drop_at, length-take-le}
use Rattle.std.proofs.lemmas.List.Folds.{list_all-append}
use Rattle.std.proofs.lemmas.Str.{digit_value_digit}
use Rattle.flu_lemmas.proofs.Digits.{digit_in_range}
use Rattle.flu_lemmas.proofs.Elements.{list_all_weaker}
use Rattle.flu_lemmas.proofs.Tests.{both}
use Rattle.flu_names.specs.Names.{is_name_byte, is_name}
use Rattle.flu_rows.specs.declared.row.RowForm.{RowForm}
use Rattle.flu_rows.specs.Fields.{number_of, greatest_time, item_in, time_of, value_of, name_len, key_part, tag_of}
use Rattle.flu_rows.specs.LoopFields.{is_bare, bare_len, CutsField, CutsFields}
use Rattle.flu_rows.specs.LoopCuts.{StartsWithDigits, CutsTime, CutsTag, CutsNumber}
use Rattle.flu_rows.specs.LoopNames.{name_at_front}
use Rattle.flu_rows.proofs.FieldCuts.{bare_cut, behind_one, first_field}
use Rattle.flu_rows.proofs.NameBytes.{name_bytes, at_front_name, prefix_of_front, tag_of_front}

-- ---- digits
-- one more digit of a number that is not at its limit yet
pub more_digits : (bytes : List ℕ) (i number : ℕ) → is_ascii_digit (get_or bytes i 0) ≡ true → i < length bytes → digits_value 10 (take i bytes) ≡ number
    → digits_value 10 (take (i + 1) bytes) ≡ number * 10 + (get_or bytes i 0 - 48)
more_digits bytes i number passes lt so_far =
    let d = digit_value_digit (get_or bytes i 0) (digit_in_range (get_or bytes i 0) passes) in
    let m = digits_value_more 10 bytes i lt in
    omega arith

pub digit_below : (b : ℕ) → is_ascii_digit b ≡ true → b < 58
digit_below b e = grind (arith, nat_tests)

-- the digits that were gone through
pub front_digits : (bytes : List ℕ) (count number : ℕ) → 0 < count → count < length bytes → list_all is_ascii_digit (take count bytes) ≡ true
    → digits_value 10 (take count bytes) ≡ number → StartsWithDigits bytes number (drop count bytes)
front_digits bytes count number some lt all writes = record {
  digits = take count bytes;
  whole = sym (take-append-drop count bytes);
  some = omega (arith, length-take-le count bytes (omega arith));
  all = all;
  writes = writes;
}

first_digit : (digits rest : List ℕ) → 0 < length digits → list_all is_ascii_digit digits ≡ true → is_ascii_digit (get_or (digits ++ rest) 0 0) ≡ true
first_digit [] rest some all = absurd (omega arith)
first_digit (d ∷ digits) rest some all = (and_parts (is_ascii_digit d) (list_all is_ascii_digit digits) all).0

-- digits are no quote and no `-`
digit_not_quote : (b : ℕ) → is_ascii_digit b ≡ true → eqb b 34 ≡ false
digit_not_quote b e = grind (arith, nat_tests)

digit_not_minus : (b : ℕ) → is_ascii_digit b ≡ true → eqb b 45 ≡ false
digit_not_minus b e = grind (arith, nat_tests)

digit_bare : (b : ℕ) → is_ascii_digit b ≡ true → is_bare b ≡ true
digit_bare b e = grind (arith, nat_tests)

name_bare : (b : ℕ) → is_name_byte b ≡ true → is_bare b ≡ true
name_bare b e = grind (arith, nat_tests)

name_not_quote : (b : ℕ) → is_name_byte b ≡ true → eqb b 34 ≡ false
name_not_quote b e = grind (arith, nat_tests)

digits_bare : (digits : List ℕ) → list_all is_ascii_digit digits ≡ true → list_all is_bare digits ≡ true
digits_bare digits all = list_all_weaker is_ascii_digit is_bare digits digit_bare all

-- a field whose bytes are all bare, and which ends
front_cut : (front rest : List ℕ) → eqb (get_or (front ++ rest) 0 0) 34 ≡ false → list_all is_bare front ≡ true → is_bare (get_or rest 0 0) ≡ false
    → CutsField (front ++ rest) front rest
front_cut front rest other all ends =
    let n : bare_len (front ++ rest) ≡ length front = prefix_of_front is_bare front rest all ends in
    let cut = bare_cut (front ++ rest) other in
    let field : take (bare_len (front ++ rest)) (front ++ rest) ≡ front = rw n (take_at front rest (length front) refl) in
    let behind : drop (bare_len (front ++ rest)) (front ++ rest) ≡ rest = rw n (drop_at front rest (length front) refl) in
    rw (field, behind) at cut

digits_cut : (bytes digits rest : List ℕ) → bytes ≡ digits ++ rest → 0 < length digits → list_all is_ascii_digit digits ≡ true
    → is_bare (get_or rest 0 0) ≡ false → CutsField bytes digits rest
digits_cut bytes digits rest whole some all ends =
    rw whole (front_cut digits rest (digit_not_quote (get_or (digits ++ rest) 0 0) (first_digit digits rest some all)) (digits_bare digits all) ends)

-- ---- the numbers that digits write
number_of-is : (limit n : ℕ) (digits : List ℕ) → 0 < length digits → list_all is_ascii_digit digits ≡ true → digits_value 10 digits ≡ n
    → number_of limit digits ≡ cond (nat_le n limit) (Some n) None
unfolding number_of
number_of-is limit n digits some all writes =
    let filled : eqb (length digits) 0 ≡ false = grind (arith, nat_tests) in
    rw (filled, all, writes) refl

number_of-digits : (limit n : ℕ) (digits : List ℕ) → 0 < length digits → list_all is_ascii_digit digits ≡ true → digits_value 10 digits ≡ n → n ≤ limit
    → number_of limit digits ≡ Some n
number_of-digits limit n digits some all writes le =
    let within : nat_le n limit ≡ true = grind (arith, nat_tests) in
    number_of-is limit n digits some all writes ∙ rw within refl

number_of-minus : (limit : ℕ) (digits : List ℕ) → number_of limit (45 ∷ digits) ≡ None
unfolding number_of
number_of-minus limit digits = cases (not (eqb (length (45 ∷ digits)) 0)) (nat_le (digits_value 10 (45 ∷ digits)) limit)
  where
    cases : (a b : Bool) → (if a && false && b then Some (digits_value 10 (45 ∷ digits)) else None) ≡ None
    cases true b = refl
    cases false b = refl

time_of-digits : (form : RowForm) (n : ℕ) (digits : List ℕ) → number_of (greatest_time form) digits ≡ Some n → time_of form digits ≡ Some n
unfolding time_of
time_of-digits form n digits is = rw is refl

pub cuts_time : (form : RowForm) (bytes : List ℕ) (time : ℕ) (rest : List ℕ) → StartsWithDigits bytes time rest → time ≤ greatest_time form
    → is_bare (get_or rest 0 0) ≡ false → CutsTime form bytes time rest
cuts_time form bytes time rest s le ends = record {
  field = s.digits;
  cuts = digits_cut bytes s.digits rest s.whole s.some s.all ends;
  is = time_of-digits form time s.digits (number_of-digits (greatest_time form) time s.digits s.some s.all s.writes le);
  first = rw s.whole (first_digit s.digits rest s.some s.all);
  filled = rw s.whole (omega (arith, s.some, length-append s.digits rest));
}

not_of_line : (b : ℕ) → is_ascii_digit b ≡ true → (eqb b 10 ≡ false) × (eqb b 13 ≡ false) × (eqb b 0xEF ≡ false)
not_of_line b e = (grind (arith, nat_tests), grind (arith, nat_tests), grind (arith, nat_tests))

-- the time of a row, behind which there is a comma
pub time_first : (form : RowForm) (bytes : List ℕ) (time : ℕ) (rest : List ℕ) (c : CutsTime form bytes time rest) → 1 ≤ length rest → get_or rest 0 0 ≡ 44
    → CutsFields bytes (c.field ∷ []) (behind_one rest)
time_first form bytes time rest c some comma =
    let no = not_of_line (get_or bytes 0 0) c.first in
    first_field bytes c.field rest c.filled no.0 no.1 no.2 c.cuts some comma

value_of-digits : (n : ℕ) (digits : List ℕ) → 0 < length digits → list_all is_ascii_digit digits ≡ true → digits_value 10 digits ≡ n → n < 2 ^ 63
    → value_of digits ≡ Some (pos n)
unfolding value_of
value_of-digits n [] some all writes lt = absurd (omega arith)
value_of-digits n (d ∷ digits) some all writes lt =
    let first : eqb d 45 ≡ false = digit_not_minus d (first_digit (d ∷ digits) [] some (all)) in
    rw (first, number_of-digits (2 ^ 63 - 1) n (d ∷ digits) some all writes (omega arith)) refl

value_of-minus : (n : ℕ) (digits : List ℕ) → 0 < length digits → list_all is_ascii_digit digits ≡ true → digits_value 10 digits ≡ n → n < 2 ^ 63
    → value_of (45 ∷ digits) ≡ Some (neg_ℤ (pos n))
unfolding value_of
value_of-minus n digits some all writes lt = rw (number_of-digits (2 ^ 63) n digits some all writes (omega arith)) refl

pub cuts_digits : (bytes : List ℕ) (n : ℕ) (rest : List ℕ) → StartsWithDigits bytes n rest → n < 2 ^ 63 → is_bare (get_or rest 0 0) ≡ false
    → CutsNumber bytes (item_in n) (pos n) rest
cuts_digits bytes n rest s lt ends = record {
  field = s.digits;
  some = s.some;
  cuts = digits_cut bytes s.digits rest s.whole s.some s.all ends;
  item_is = number_of-is 65535 n s.digits s.some s.all s.writes;
  is = value_of-digits n s.digits s.some s.all s.writes lt;
}

pub cuts_minus : (bytes digits : List ℕ) (n : ℕ) (rest : List ℕ) → bytes ≡ 45 ∷ digits → StartsWithDigits digits n rest → n < 2 ^ 63
    → is_bare (get_or rest 0 0) ≡ false → CutsNumber bytes None (neg_ℤ (pos n)) rest
cuts_minus bytes digits n rest is s lt ends =
    let whole : bytes ≡ (45 ∷ s.digits) ++ rest = is ∙ ap (λ (x : List ℕ). 45 ∷ x) s.whole in
    record {
      field = 45 ∷ s.digits;
      some = omega arith;
      cuts = rw whole (front_cut (45 ∷ s.digits) rest refl (digits_bare s.digits s.all) ends);
      item_is = number_of-minus 65535 s.digits;
      is = value_of-minus n s.digits s.some s.all s.writes lt;
    }

-- ---- tags
abbrev name_and_rest : List ℕ → List ℕ → Option (List ℕ × List ℕ)
name_and_rest name rest = Some (name, rest)

abbrev first_part : Option (List ℕ × List ℕ) → List ℕ
first_part (Some parts) = parts.0
first_part None = []

abbrev second_part : Option (List ℕ × List ℕ) → List ℕ
second_part (Some parts) = parts.1
second_part None = []

same_parts : (a b c d : List ℕ) → name_and_rest a b ≡ name_and_rest c d → (a ≡ c) × (b ≡ d)
same_parts a b c d e = (ap first_part e, ap second_part e)

some_of_test : (p : List ℕ → Bool) (bytes front back name rest : List ℕ) (test : Bool) → p front ≡ test → front ++ back ≡ bytes
    → cond test (name_and_rest front back) None ≡ name_and_rest name rest → (p name ≡ true) × (bytes ≡ name ++ rest)
some_of_test p bytes front back name rest true passes whole e =
    let same = same_parts front back name rest e in
    let named : p name ≡ true = rw (← same.0) passes in
    let parts : bytes ≡ name ++ rest = rw (← same.0, ← same.1) (sym whole) in
    (named, parts)
some_of_test p bytes front back name rest false passes whole e = cc

-- the name at the front of some bytes, and what comes after it
front_name : (bytes name rest : List ℕ) → name_at_front bytes ≡ Some (name, rest) → (is_name name ≡ true) × (bytes ≡ name ++ rest)
front_name bytes name rest e =
    let n = name_len bytes in
    some_of_test is_name bytes (take n bytes) (drop n bytes) name rest (is_name (take n bytes)) refl (take-append-drop n bytes) e

first_of_name : (name rest : List ℕ) → is_name name ≡ true → list_all is_name_byte name ≡ true
    → (0 < length name) × (eqb (get_or (name ++ rest) 0 0) 34 ≡ false)
first_of_name [] rest is all = cc
first_of_name (b ∷ name) rest is all = (omega arith, name_not_quote b (and_parts (is_name_byte b) (list_all is_name_byte name) all).0)

ends_name : (b : ℕ) → is_bare b ≡ false → is_name_byte b ≡ false
ends_name b e = grind (arith, nat_tests)

-- a tag of a name alone
tag_alone : (name : List ℕ) → is_name name ≡ true → tag_of name ≡ Some (name, None)
unfolding key_part
tag_alone name is =
    let front : name_at_front name ≡ Some (name, []) = at_front_name name name [] is (record { whole = sym (append-nil name); ends = refl }) in
    tag_of_front name ∙ rw front refl

last_at : (front : List ℕ) (b : ℕ) → get_or (front ++ (b ∷ [])) (length front) 0 ≡ b
last_at [] b = refl
last_at (a ∷ front) b = last_at front b

key_in_brackets : (digits : List ℕ) (k : ℕ) → 0 < length digits → list_all is_ascii_digit digits ≡ true → digits_value 10 digits ≡ k → k ≤ 65535
    → key_part (91 ∷ (digits ++ (93 ∷ []))) ≡ Some (Some k)
unfolding key_part
key_in_brackets digits k some all writes le =
    let more = digits ++ (93 ∷ []) in
    let n : length more ≡ length digits + 1 = length-append digits (93 ∷ []) in
    let filled : eqb (suc (length more)) 0 ≡ false = grind (arith, nat_tests) in
    let two : nat_le 2 (suc (length more)) ≡ true = grind (arith, nat_tests) in
    let at : suc (length more) - 1 ≡ length (91 ∷ digits) = omega arith in
    let last : get_or (91 ∷ more) (suc (length more) - 1) 0 ≡ 93 = rw at (last_at (91 ∷ digits) 93) in
    let mid : take (suc (length more) - 2) more ≡ digits = take_at digits (93 ∷ []) (suc (length more) - 2) (omega arith) in
    rw (filled, two, last, mid, number_of-digits 65535 k digits some all writes le) refl

-- a tag with a key
tag_keyed : (name digits : List ℕ) (k : ℕ) → is_name name ≡ true → 0 < length digits → list_all is_ascii_digit digits ≡ true → digits_value 10 digits ≡ k
    → k ≤ 65535
    → tag_of (name ++ (91 ∷ (digits ++ (93 ∷ [])))) ≡ Some (name, Some k)
tag_keyed name digits k is some all writes le =
    let text = 91 ∷ (digits ++ (93 ∷ [])) in
    let front : name_at_front (name ++ text) ≡ Some (name, text) = at_front_name (name ++ text) name text is (record { whole = refl; ends = refl }) in
    tag_of_front (name ++ text) ∙ rw (front, key_in_brackets digits k some all writes le) refl

pub cuts_name : (bytes name rest : List ℕ) → name_at_front bytes ≡ Some (name, rest) → is_bare (get_or rest 0 0) ≡ false → CutsTag bytes name None rest
cuts_name bytes name rest e ends =
    let n = front_name bytes name rest e in
    let all = (name_bytes name n.0).0 in
    let first = first_of_name name rest n.0 all in
    record {
      field = name;
      some = first.0;
      cuts = rw n.1 (front_cut name rest first.1 (list_all_weaker is_name_byte is_bare name name_bare all) ends);
      is = tag_alone name n.0;
    }

pub cuts_keyed : (bytes name mid digits : List ℕ) (k : ℕ) (after rest : List ℕ) → name_at_front bytes ≡ Some (name, mid) → mid ≡ 91 ∷ digits
    → StartsWithDigits digits k after
    → after ≡ 93 ∷ rest → k ≤ 65535 → is_bare (get_or rest 0 0) ≡ false → CutsTag bytes name (Some k) rest
cuts_keyed bytes name mid digits k after rest e opens s closes le ends =
    let n = front_name bytes name mid e in
    let all = (name_bytes name n.0).0 in
    let first = first_of_name name mid n.0 all in
    let text = 91 ∷ (s.digits ++ (93 ∷ [])) in
    let field = name ++ text in
    let mids : mid ≡ text ++ rest =
    opens ∙ ap (λ (x : List ℕ). 91 ∷ x) (s.whole ∙ ap (λ (x : List ℕ). s.digits ++ x) closes ∙ sym (append_assoc s.digits (93 ∷ []) rest)) in
    let whole : bytes ≡ field ++ rest = n.1 ∙ ap (λ (x : List ℕ). name ++ x) mids ∙ sym (append_assoc name text rest) in
    let bare_text : list_all is_bare text ≡ true =
    list_all-append is_bare s.digits (93 ∷ []) ∙ both (list_all is_bare s.digits) true (digits_bare s.digits s.all) refl in
    let bare : list_all is_bare field ≡ true =
    list_all-append is_bare name text
    ∙ both (list_all is_bare name) (list_all is_bare text) (list_all_weaker is_name_byte is_bare name name_bare all) bare_text in
    let other : eqb (get_or (field ++ rest) 0 0) 34 ≡ false = rw (append_assoc name text rest) (first_of_name name (text ++ rest) n.0 all).1 in
    record {
      field = field;
      some = omega (arith, first.0, length-append name text);
      cuts = rw whole (front_cut field rest other bare ends);
      is = tag_keyed name s.digits k n.0 s.some s.all s.writes le;
    }
