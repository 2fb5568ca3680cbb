-- Each reserved word and each mark.
use Rattle.std.proofs.Common.{◌≡◌, ℕ, ◌<◌, ◌≤◌, Bool, true, false, ◌&&◌, ◌||◌, ◌==◌, leb, ltb, List, [], ◌∷◌, ◌++◌, length, get_or, take, Some, refl, sym}
use Rattle.std.proofs.Common.{arith}
use Rattle.std.specs.Prelude.{not, nat_lt}
use Rattle.std.specs.Char.{is_ascii_digit}
use Rattle.std.specs.List.{list_all}
use Rattle.std.specs.Str.{bytes_eq}
use Rattle.std.proofs.lemmas.Bool.{lt-leb}
use Rattle.std.proofs.lemmas.Bool.Decides.{nat_tests}
use Rattle.std.proofs.lemmas.Slice.Eq.{bytes_eq-Decides}
use Rattle.flu_names.specs.declared.reserved.Reserved.{Reserved}
use Rattle.flu_names.specs.declared.reserved.Reserved.TheVariants as r
use Rattle.flu_text.specs.declared.words.Mark.{Mark}
use Rattle.flu_text.specs.declared.words.Mark.TheVariants as m
use Rattle.flu_text.specs.Spelling.{mark_spelling, marks}
use Rattle.flu_names.specs.Names.{reserved_spelling, reserved_words, is_name_start, is_name_byte, reserved_of}
use Rattle.flu_text.specs.Grammar.{quote, number_sign, is_blank}
use Rattle.flu_text.specs.Lexeme.{mark_of}
use Rattle.flu_text.specs.Layout.{NotFirst, makes_longer}
use Rattle.flu_lemmas.proofs.Tests.{not_true}
use Rattle.flu_lemmas.proofs.Prefixes.{find_all, find_passes}

pub reserved_of-spelling : (word : Reserved) → reserved_of (reserved_spelling word) ≡ Some word
unfolding reserved_of
reserved_of-spelling r.Cell = refl
reserved_of-spelling r.Tag = refl
reserved_of-spelling r.Depends = refl
reserved_of-spelling r.On = refl
reserved_of-spelling r.Source = refl
reserved_of-spelling r.Keyed = refl
reserved_of-spelling r.Sum = refl
reserved_of-spelling r.Max = refl
reserved_of-spelling r.Last = refl
reserved_of-spelling r.Int = refl
reserved_of-spelling r.None = refl
reserved_of-spelling r.Same = refl
reserved_of-spelling r.All = refl
reserved_of-spelling r.Rate = refl
reserved_of-spelling r.Add = refl
reserved_of-spelling r.Raise = refl
reserved_of-spelling r.Set = refl
reserved_of-spelling r.Clear = refl
reserved_of-spelling r.Emit = refl
reserved_of-spelling r.Flush = refl
reserved_of-spelling r.When = refl
reserved_of-spelling r.Value = refl
reserved_of-spelling r.Key = refl
reserved_of-spelling r.Time = refl
reserved_of-spelling r.Has = refl
reserved_of-spelling r.And = refl
reserved_of-spelling r.Or = refl
reserved_of-spelling r.Not = refl
reserved_of-spelling r.Beat = refl
reserved_of-spelling r.End = refl
reserved_of-spelling r.Node = refl
reserved_of-spelling r.Version = refl
reserved_of-spelling r.Slack = refl

-- a test that all reserved words pass
pub each_reserved : (q : Reserved → Bool) (word : Reserved) → list_all q reserved_words ≡ true → q word ≡ true
unfolding reserved_of
each_reserved q word all =
    find_all (λ (r : Reserved). bytes_eq (reserved_spelling r) (reserved_spelling word)) q reserved_words word (reserved_of-spelling word) all

pub reserved_bytes : (word : Reserved) → list_all is_name_byte (reserved_spelling word) ≡ true
reserved_bytes word = each_reserved (λ (r : Reserved). list_all is_name_byte (reserved_spelling r)) word refl

pub reserved_starts : (word : Reserved) → is_name_start (get_or (reserved_spelling word) 0 0) ≡ true
reserved_starts word = each_reserved (λ (r : Reserved). is_name_start (get_or (reserved_spelling r) 0 0)) word refl

reserved_len_test : (word : Reserved) → (ltb 0 (length (reserved_spelling word)) && leb (length (reserved_spelling word)) 32) ≡ true
reserved_len_test word = each_reserved (λ (r : Reserved). ltb 0 (length (reserved_spelling r)) && leb (length (reserved_spelling r)) 32) word refl

pub reserved_len : (word : Reserved) → (0 < length (reserved_spelling word)) × (length (reserved_spelling word) ≤ 32)
reserved_len word = let test = reserved_len_test word in (grind (arith, nat_tests), grind (arith, nat_tests))

-- a mark is read as that mark, unless what follows makes it longer
pub mark_of-spelling : (mark : Mark) (rest : List ℕ) → NotFirst (makes_longer mark) rest → mark_of (mark_spelling mark ++ rest) ≡ Some mark
unfolding mark_of
mark_of-spelling m.Colon [] none = refl
mark_of-spelling m.Colon (b ∷ rest) none = refl
mark_of-spelling m.Semicolon [] none = refl
mark_of-spelling m.Semicolon (b ∷ rest) none = refl
mark_of-spelling m.Comma [] none = refl
mark_of-spelling m.Comma (b ∷ rest) none = refl
mark_of-spelling m.OpenBracket [] none = refl
mark_of-spelling m.OpenBracket (b ∷ rest) none = refl
mark_of-spelling m.CloseBracket [] none = refl
mark_of-spelling m.CloseBracket (b ∷ rest) none = refl
mark_of-spelling m.OpenParen [] none = refl
mark_of-spelling m.OpenParen (b ∷ rest) none = refl
mark_of-spelling m.CloseParen [] none = refl
mark_of-spelling m.CloseParen (b ∷ rest) none = refl
mark_of-spelling m.Dots rest none = refl
mark_of-spelling m.Plus [] none = refl
mark_of-spelling m.Plus (b ∷ rest) none = refl
mark_of-spelling m.Minus [] none = refl
mark_of-spelling m.Minus (b ∷ rest) none = grind (arith, nat_tests)
mark_of-spelling m.Times [] none = refl
mark_of-spelling m.Times (b ∷ rest) none = refl
mark_of-spelling m.Divide [] none = refl
mark_of-spelling m.Divide (b ∷ rest) none = refl
mark_of-spelling m.Remainder [] none = refl
mark_of-spelling m.Remainder (b ∷ rest) none = refl
mark_of-spelling m.Less [] none = refl
mark_of-spelling m.Less (b ∷ rest) none = grind (arith, nat_tests)
mark_of-spelling m.LessEq rest none = refl
mark_of-spelling m.More [] none = refl
mark_of-spelling m.More (b ∷ rest) none = grind (arith, nat_tests)
mark_of-spelling m.MoreEq rest none = refl
mark_of-spelling m.Same rest none = refl
mark_of-spelling m.Differs rest none = refl
mark_of-spelling m.At [] none = refl
mark_of-spelling m.At (b ∷ rest) none = refl
mark_of-spelling m.Arrow rest none = refl

nothing_behind : (mark : Mark) → mark_of (mark_spelling mark ++ []) ≡ Some mark
nothing_behind mark = mark_of-spelling mark [] tt

-- a test that all marks pass
pub each_mark : (q : Mark → Bool) (mark : Mark) → list_all q marks ≡ true → q mark ≡ true
unfolding mark_of
each_mark q mark all =
    find_all (λ (m : Mark). bytes_eq (mark_spelling m) (take (length (mark_spelling m)) (mark_spelling mark ++ []))) q marks mark (nothing_behind mark) all

-- no mark begins as another token, a blank or a comment
abbrev begins_a_mark : ℕ → Bool
begins_a_mark b = not (is_name_start b) && not (is_ascii_digit b) && not (b == quote) && not (is_blank b) && not (b == number_sign) && nat_lt b 128

pub mark_starts : (mark : Mark) → begins_a_mark (get_or (mark_spelling mark) 0 0) ≡ true
mark_starts mark = each_mark (λ (m : Mark). begins_a_mark (get_or (mark_spelling m) 0 0)) mark refl

mark_len_test : (mark : Mark) → (ltb 0 (length (mark_spelling mark)) && leb (length (mark_spelling mark)) 2) ≡ true
mark_len_test mark = each_mark (λ (m : Mark). ltb 0 (length (mark_spelling m)) && leb (length (mark_spelling m)) 2) mark refl

pub mark_len : (mark : Mark) → (0 < length (mark_spelling mark)) × (length (mark_spelling mark) ≤ 2)
mark_len mark = let test = mark_len_test mark in (grind (arith, nat_tests), grind (arith, nat_tests))

-- a reserved word that is found is spelled so
pub reserved_is : (s : List ℕ) (word : Reserved) → reserved_of s ≡ Some word → s ≡ reserved_spelling word
unfolding reserved_of
reserved_is s word e =
    let passes = find_passes (λ (r : Reserved). bytes_eq (reserved_spelling r) s) reserved_words word e in
    sym ((bytes_eq-Decides (reserved_spelling word) s).0 passes)

-- and so is a mark
pub mark_is : (bytes : List ℕ) (mark : Mark) → mark_of bytes ≡ Some mark → take (length (mark_spelling mark)) bytes ≡ mark_spelling mark
unfolding mark_of
mark_is bytes mark e =
    let passes = find_passes (λ (m : Mark). bytes_eq (mark_spelling m) (take (length (mark_spelling m)) bytes)) marks mark e in
    sym ((bytes_eq-Decides (mark_spelling mark) (take (length (mark_spelling mark)) bytes)).0 passes)

-- a mark of two bytes cannot be made longer
long_marks : (mark : Mark) (b : ℕ) → (leb (length (mark_spelling mark)) 1 || not (makes_longer mark b)) ≡ true
long_marks mark b = each_mark (λ (m : Mark). leb (length (mark_spelling m)) 1 || not (makes_longer m b)) mark refl

pub long_mark : (mark : Mark) (rest : List ℕ) → 1 < length (mark_spelling mark) → NotFirst (makes_longer mark) rest
long_mark mark [] long = tt
long_mark mark (b ∷ rest) long =
    let test : (false || not (makes_longer mark b)) ≡ true = rw (lt-leb (length (mark_spelling mark)) 1 long) at (long_marks mark b) in
    not_true (makes_longer mark b) test

-- a byte that makes a mark longer makes another mark of it
pub longer_mark : (mark : Mark) (b : ℕ) → makes_longer mark b ≡ true → (longer : Mark) × (mark_spelling mark ++ b ∷ [] ≡ mark_spelling longer)
longer_mark m.Less b e = let same : b ≡ 61 = grind (arith, nat_tests) in (m.LessEq, rw same refl)
longer_mark m.More b e = let same : b ≡ 61 = grind (arith, nat_tests) in (m.MoreEq, rw same refl)
longer_mark m.Minus b e = let same : b ≡ 62 = grind (arith, nat_tests) in (m.Arrow, rw same refl)
longer_mark _ b e = absurd cc
