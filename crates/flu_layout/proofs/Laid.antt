-- Words that are laid out by the rules are spelled as the lexical grammar wants them, and each ends where its spelling does.
use Rattle.std.proofs.Common.{◌≡◌, ◌≢◌, ℕ, ◌<◌, ◌^◌, ℤ, pos, negsuc, true, false, List, [], ◌∷◌, ◌++◌, length, refl, sym, ap, arith}
use Rattle.std.specs.Prelude.{codes}
use Rattle.std.specs.Char.{is_ascii_digit}
use Rattle.std.specs.Fmt.{decimal, signed_decimal}
use Rattle.std.proofs.lemmas.Bool.Decides.{nat_tests}
use Rattle.std.proofs.lemmas.Fmt.{decimal_is_IsNumeral, decimal_nonempty}
use Rattle.flu_lemmas.proofs.Tests.{true_lt}
use Rattle.flu_lemmas.proofs.Digits.{decimal_digits}
use Rattle.flu_names.specs.Names.{is_name_byte}
use Rattle.flu_text.specs.declared.words.Mark.{Mark}
use Rattle.flu_text.specs.declared.words.Mark.TheVariants as m
use Rattle.flu_text.specs.declared.words.Contextual.TheVariants as c
use Rattle.flu_text.specs.Spelling.{contextual_of}
use Rattle.flu_text.specs.Grammar.{IsNumber}
use Rattle.flu_text.specs.Layout.{Piece, layout, NotFirst, makes_longer, IsLaid}
use Rattle.flu_text.specs.Laws.{NamesAreTested}
use Rattle.flu_model.specs.Rules.{is_literal}
use Rattle.flu_layout.specs.Laid.{AreLaid, laid_none, laid_name, laid_item, laid_reserved, laid_number, laid_text, laid_mark, laid_spaced}

digit_is_name_byte : (b : ℕ) → is_name_byte b ≡ false → is_ascii_digit b ≡ false
digit_is_name_byte b h = grind (arith, nat_tests)

not_digit : (rest : List ℕ) → NotFirst is_name_byte rest → NotFirst is_ascii_digit rest
not_digit [] h = tt
not_digit (b ∷ rest) h = digit_is_name_byte b h

not_empty : (bs : List ℕ) → 0 < length bs → bs ≢ []
not_empty bs some none = let size = ap length none in omega (arith, size)

spells_number : (n : ℤ) → is_literal n ≡ true → IsNumber n (signed_decimal n)
spells_number (pos n) h =
    let small : n < 2 ^ 63 = true_lt n (2 ^ 63) h in
    let wide : n < 2 ^ 64 = omega arith in
    let value = (decimal_is_IsNumeral n wide).1 in
    record {
      some = not_empty (decimal n) (decimal_nonempty n wide);
      digits = decimal_digits n wide;
      value = ap pos (sym value);
      small = omega (arith, value, small);
    }
spells_number (negsuc n) h = absurd cc

never_longer : (word : Mark) (rest : List ℕ) → ((b : ℕ) → makes_longer word b ≡ false) → NotFirst (makes_longer word) rest
never_longer word [] never = tt
never_longer word (b ∷ rest) never = never b

not_by_blank : (word : Mark) → makes_longer word 32 ≡ false
not_by_blank m.Less = refl
not_by_blank m.More = refl
not_by_blank m.Minus = refl
not_by_blank _ = refl

item_is : c.Item ≡ contextual_of (codes "item")
unfolding contextual_of
item_is = refl

pub is_laid : NamesAreTested → (ps : List Piece) → AreLaid ps → IsLaid ps
is_laid names ps laid_none = tt
is_laid names ps (laid_name n behind rest named blank ends more) = (((names n).0 named, refl), blank, ends, is_laid names rest more)
is_laid names ps (laid_item behind rest blank ends more) = (((names (codes "item")).0 refl, item_is), blank, ends, is_laid names rest more)
is_laid names ps (laid_reserved word behind rest blank ends more) = (refl, blank, ends, is_laid names rest more)
is_laid names ps (laid_number n behind rest literal blank ends more) =
    (spells_number n literal, blank, not_digit (behind ++ layout rest) ends, is_laid names rest more)
is_laid names ps (laid_text t behind rest bytes short blank more) =
    (record { inside = t; quoted = refl; bytes = bytes; short = short }, blank, tt, is_laid names rest more)
is_laid names ps (laid_mark word behind rest never blank more) = (refl, blank, never_longer word (behind ++ layout rest) never, is_laid names rest more)
is_laid names ps (laid_spaced word rest more) = (refl, refl, not_by_blank word, is_laid names rest more)
