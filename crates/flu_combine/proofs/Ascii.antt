-- Texts that are UTF-8, and parts of them that stand beside ASCII.
use Rattle.std.proofs.Common.{◌≡◌, ◌<◌, ◌+◌, ◌%◌, ◌/◌, ℕ, zero, suc, Bool, true, false, cond, List, [], ◌∷◌, ◌++◌, length, refl, sym}
use Rattle.std.proofs.Common.{ap, subst, ◌∙◌, arith, get_or}
use Rattle.std.specs.Prelude.{nat_lt, nat_le, ◌==◌, ◌&&◌, not}
use Rattle.std.specs.Fmt.{decimal, digits, digits_onto, digit_glyph}
use Rattle.std.specs.List.{list_all}
use Rattle.std.specs.Str.{IsUtf8, IsAscii}
use Rattle.std.proofs.lemmas.Bool.Decides.{nat_tests}
use Rattle.std.proofs.lemmas.Grind.{common_steps}
use Rattle.std.proofs.lemmas.List.{length-append}
use Rattle.std.proofs.lemmas.Str.{IsUtf8-nil, IsUtf8-append, IsUtf8-from_ascii, IsUtf8-take, IsUtf8-drop}
use Rattle.std.proofs.lemmas.Str.{IsCharBoundary-before_ascii, IsCharBoundary-after_ascii}
use Rattle.std.proofs.Math.Seq.{take-append_seam, drop-append_seam, drop-append-add}
use Rattle.flu_lemmas.proofs.Elements.{list_all_weaker}
use Rattle.flu_lemmas.proofs.Tests.{and_left, and_right, true_lt}
use Rattle.flu_names.specs.Names.{begins_as_name, is_name, is_name_byte, is_reserved}

pub record Utf8 (bytes : List ℕ) : Type 0 where
  pub is : IsUtf8 bytes

pub none : Utf8 []
none = record { is = IsUtf8-nil }

infixl 30 ◌also◌
pub ◌also◌ : {a b : List ℕ} → Utf8 a → Utf8 b → Utf8 (a ++ b)
◌also◌ {a} {b} x y = record { is = IsUtf8-append a b x.is y.is }

ascii_at : (bytes : List ℕ) → list_all (λ b. nat_lt b 128) bytes ≡ true → IsAscii bytes
ascii_at [] all i = omega arith
ascii_at (b ∷ bytes) all zero = true_lt b 128 (and_left (nat_lt b 128) (list_all (λ b. nat_lt b 128) bytes) all)
ascii_at (b ∷ bytes) all (suc i) = ascii_at bytes (and_right (nat_lt b 128) (list_all (λ b. nat_lt b 128) bytes) all) i

pub ascii : (bytes : List ℕ) → list_all (λ b. nat_lt b 128) bytes ≡ true → Utf8 bytes
ascii bytes all = record { is = IsUtf8-from_ascii bytes (ascii_at bytes all) }

-- the digits of a number
glyph_low : (d : ℕ) → d < 10 → nat_lt (digit_glyph false d) 128 ≡ true
glyph_low d lt = grind (arith, nat_tests)

glyph_then : (n : ℕ) (acc : List ℕ) → list_all (λ b. nat_lt b 128) acc ≡ true → list_all (λ b. nat_lt b 128) (digit_glyph false (n % 10) ∷ acc) ≡ true
glyph_then n acc all = ap (λ (b : Bool). b && list_all (λ b. nat_lt b 128) acc) (glyph_low (n % 10) (omega arith)) ∙ all

digits_low : (k n : ℕ) (acc : List ℕ) → list_all (λ b. nat_lt b 128) acc ≡ true → list_all (λ b. nat_lt b 128) (digits_onto k 10 false n acc) ≡ true
digits_low zero n acc all = all
digits_low (suc k) n acc all =
    by (n / 10 == 0) (glyph_then n acc all) (digits_low k (n / 10) (digit_glyph false (n % 10) ∷ acc) (glyph_then n acc all))
  where
    by : (b : Bool) → list_all (λ b. nat_lt b 128) (digit_glyph false (n % 10) ∷ acc) ≡ true
        → list_all (λ b. nat_lt b 128) (digits_onto k 10 false (n / 10) (digit_glyph false (n % 10) ∷ acc)) ≡ true
        → list_all (λ b. nat_lt b 128) (cond b (digit_glyph false (n % 10) ∷ acc) (digits_onto k 10 false (n / 10) (digit_glyph false (n % 10) ∷ acc))) ≡ true
    by true one more = one
    by false one more = more

pub number : (n : ℕ) → Utf8 (decimal n)
unfolding digits
number n = ascii (decimal n) (digits_low 64 n [] refl)

-- names
name_byte_low : (b : ℕ) → is_name_byte b ≡ true → nat_lt b 128 ≡ true
name_byte_low b is = grind (arith, nat_tests, common_steps)

pub name : (bytes : List ℕ) → is_name bytes ≡ true → Utf8 bytes
name bytes is =
    let front = and_left (begins_as_name bytes && list_all is_name_byte bytes && nat_le (length bytes) 32) (not (is_reserved bytes)) is in
    let bytes_are = and_right (begins_as_name bytes) (list_all is_name_byte bytes)
    (and_left (begins_as_name bytes && list_all is_name_byte bytes) (nat_le (length bytes) 32) front) in
    ascii bytes (list_all_weaker is_name_byte (λ b. nat_lt b 128) bytes name_byte_low bytes_are)

-- ---- what stands beside an ASCII byte
at_seam : (a : List ℕ) (b : ℕ) (c : List ℕ) → get_or (a ++ b ∷ c) (length a) 0 ≡ b
at_seam [] b c = refl
at_seam (x ∷ a) b c = at_seam a b c

pub before_ascii : (a : List ℕ) (b : ℕ) (c : List ℕ) → b < 128 → IsUtf8 (a ++ b ∷ c) → IsUtf8 a
before_ascii a b c low utf8 =
    let bound = IsCharBoundary-before_ascii (a ++ b ∷ c) (length a) (omega (arith, length-append a (b ∷ c)))
    (subst (λ (x : ℕ). x < 128) (sym (at_seam a b c)) low) in
    subst IsUtf8 (take-append_seam a (b ∷ c)) (IsUtf8-take (a ++ b ∷ c) (length a) utf8 bound)

pub from_ascii : (a : List ℕ) (b : ℕ) (c : List ℕ) → b < 128 → IsUtf8 (a ++ b ∷ c) → IsUtf8 (b ∷ c)
from_ascii a b c low utf8 =
    let bound = IsCharBoundary-before_ascii (a ++ b ∷ c) (length a) (omega (arith, length-append a (b ∷ c)))
    (subst (λ (x : ℕ). x < 128) (sym (at_seam a b c)) low) in
    subst IsUtf8 (drop-append_seam a (b ∷ c)) (IsUtf8-drop (a ++ b ∷ c) (length a) utf8 bound)

pub behind_ascii : (a : List ℕ) (b : ℕ) (c : List ℕ) → b < 128 → IsUtf8 (a ++ b ∷ c) → IsUtf8 c
behind_ascii a b c low utf8 =
    let bound = IsCharBoundary-after_ascii (a ++ b ∷ c) (length a) utf8 (omega (arith, length-append a (b ∷ c)))
    (subst (λ (x : ℕ). x < 128) (sym (at_seam a b c)) low) in
    subst IsUtf8 (drop-append-add a (b ∷ c) 1) (IsUtf8-drop (a ++ b ∷ c) (length a + 1) utf8 bound)
