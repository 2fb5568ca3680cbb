-- What spells a word and ends there is read as that word.
use Rattle.std.proofs.Common.{◌≡◌, ◌≢◌, ℕ, ◌+◌, ◌≤◌, ◌<◌, ◌^◌, Bool, true, false, ◌&&◌, eqb, List, [], ◌∷◌, ◌++◌, length, drop, get_or, pos, Option, Some, None}
use Rattle.std.proofs.Common.{refl, sym, ap, ◌∙◌, append_assoc, arith}
use Rattle.std.specs.Prelude.{option_map, unwrap_or, not, nat_lt}
use Rattle.std.specs.Char.{is_ascii_digit}
use Rattle.std.specs.List.{list_all, prefix_len}
use Rattle.std.specs.Str.Parse.{digits_value}
use Rattle.std.proofs.lemmas.Bool.{lt-ltb, le-ltb, le-leb}
use Rattle.std.proofs.lemmas.Bool.Decides.{nat_tests}
use Rattle.std.proofs.lemmas.List.{take_at, length-append}
use Rattle.flu_names.specs.declared.reserved.Reserved.{Reserved}
use Rattle.flu_text.specs.declared.words.Mark.{Mark}
use Rattle.flu_text.specs.declared.words.Word.{Word}
use Rattle.flu_text.specs.declared.words.Word.TheVariants as w
use Rattle.flu_text.specs.Spelling.{mark_spelling, contextual_of}
use Rattle.flu_names.specs.Names.{reserved_spelling, is_name_start, is_name_byte, is_text_byte, reserved_of}
use Rattle.flu_text.specs.Grammar.{quote, number_sign, is_blank, Starts, IsText, Spells}
use Rattle.flu_text.specs.Lexeme.{name_at, number_of, number_at, text_at, mark_at, word_at}
use Rattle.flu_text.specs.Layout.{NotFirst, makes_longer, Ends}
use Rattle.flu_lemmas.proofs.Tests.{and_left, and_right, not_true}
use Rattle.flu_lemmas.proofs.Prefixes.{first_and_rest}
use Rattle.flu_text.proofs.Tables.{reserved_is, reserved_of-spelling, reserved_bytes, reserved_starts, reserved_len, mark_of-spelling, mark_starts, mark_len}

-- a run of bytes that all pass, before one that does not
run_len : (p : ℕ → Bool) (s rest : List ℕ) → list_all p s ≡ true → NotFirst p rest → prefix_len p (s ++ rest) ≡ length s
run_len p [] [] all none = refl
run_len p [] (b ∷ rest) all none = rw none refl
run_len p (b ∷ s) rest all none =
    rw (and_left (p b) (list_all p s) all, run_len p s rest (and_right (p b) (list_all p s) all) none) (omega arith)

pub starts_from_first : (s : List ℕ) → is_name_start (get_or s 0 0) ≡ true → Starts is_name_start s
starts_from_first [] e = absurd cc
starts_from_first (b ∷ s) e = e

-- a mark is not another token, no blank and no comment
pub record IsMarkByte (b : ℕ) : Type 0 where
  pub no_name : is_name_start b ≡ false
  pub no_digit : is_ascii_digit b ≡ false
  pub no_quote : eqb b quote ≡ false
  pub no_blank : is_blank b ≡ false
  pub no_comment : eqb b number_sign ≡ false
  pub ascii : b < 128

mark_byte : (b : ℕ) → (not (is_name_start b) && not (is_ascii_digit b) && not (eqb b quote) && not (is_blank b) && not (eqb b number_sign)
    && nat_lt b 128) ≡ true → IsMarkByte b
mark_byte b e =
    let a5 = and_left (not (is_name_start b) && not (is_ascii_digit b) && not (eqb b quote) && not (is_blank b) && not (eqb b number_sign)) (nat_lt b 128) e in
    let a4 = and_left (not (is_name_start b) && not (is_ascii_digit b) && not (eqb b quote) && not (is_blank b)) (not (eqb b number_sign)) a5 in
    let a3 = and_left (not (is_name_start b) && not (is_ascii_digit b) && not (eqb b quote)) (not (is_blank b)) a4 in
    let a2 = and_left (not (is_name_start b) && not (is_ascii_digit b)) (not (eqb b quote)) a3 in
    let ascii : nat_lt b 128 ≡ true = and_right
    (not (is_name_start b) && not (is_ascii_digit b) && not (eqb b quote) && not (is_blank b) && not (eqb b number_sign)) (nat_lt b 128) e in
    record {
      no_name = not_true (is_name_start b) (and_left (not (is_name_start b)) (not (is_ascii_digit b)) a2);
      no_digit = not_true (is_ascii_digit b) (and_right (not (is_name_start b)) (not (is_ascii_digit b)) a2);
      no_quote = not_true (eqb b quote) (and_right (not (is_name_start b) && not (is_ascii_digit b)) (not (eqb b quote)) a3);
      no_blank = not_true (is_blank b) (and_right (not (is_name_start b) && not (is_ascii_digit b) && not (eqb b quote)) (not (is_blank b)) a4);
      no_comment =
          not_true (eqb b number_sign)
          (and_right (not (is_name_start b) && not (is_ascii_digit b) && not (eqb b quote) && not (is_blank b)) (not (eqb b number_sign)) a5);
      ascii = grind (arith, nat_tests);
    }

pub mark_first : (mark : Mark) → IsMarkByte (get_or (mark_spelling mark) 0 0)
mark_first mark = mark_byte (get_or (mark_spelling mark) 0 0) (mark_starts mark)

-- which word is looked for, by the first byte
name_begins : (b : ℕ) (bytes : List ℕ) → is_name_start b ≡ true → word_at (b ∷ bytes) ≡ name_at (b ∷ bytes)
unfolding word_at
name_begins b bytes e = rw e refl

digit_begins : (b : ℕ) (bytes : List ℕ) → is_ascii_digit b ≡ true → word_at (b ∷ bytes) ≡ number_at (b ∷ bytes)
unfolding word_at
digit_begins b bytes e = let no : is_name_start b ≡ false = grind (arith, nat_tests) in rw (no, e) refl

mark_begins : (b : ℕ) (bytes : List ℕ) → IsMarkByte b → word_at (b ∷ bytes) ≡ mark_at (b ∷ bytes)
unfolding word_at
mark_begins b bytes is = rw (is.no_name, is.no_digit, is.no_quote) refl

at_name : (s rest : List ℕ) (word : Word) → list_all is_name_byte s ≡ true → length s ≤ 32 → NotFirst is_name_byte rest
    → unwrap_or (option_map w.Reserved (reserved_of s)) (w.Name (contextual_of s)) ≡ word → name_at (s ++ rest) ≡ Some (word, length s)
unfolding name_at
at_name s rest word all short none e = rw (run_len is_name_byte s rest all none, le-ltb 32 (length s) short, take_at s rest (length s) refl, e) refl

reads_identifier : (s rest : List ℕ) (word : Word) → Starts is_name_start s → list_all is_name_byte s ≡ true → length s ≤ 32 → NotFirst is_name_byte rest
    → unwrap_or (option_map w.Reserved (reserved_of s)) (w.Name (contextual_of s)) ≡ word → word_at (s ++ rest) ≡ Some (word, length s)
reads_identifier [] rest word starts all short none e = absurd starts
reads_identifier (b ∷ s) rest word starts all short none e = name_begins b (s ++ rest) starts ∙ at_name (b ∷ s) rest word all short none e

none_reserved : (s : List ℕ) (o : Option Reserved) → reserved_of s ≡ o → ((r : Reserved) → s ≢ reserved_spelling r) → o ≡ None
none_reserved s None e free = refl
none_reserved s (Some r) e free = absurd (free r (reserved_is s r e))

at_number : (s rest : List ℕ) → list_all is_ascii_digit s ≡ true → digits_value 10 s < 2 ^ 63 → NotFirst is_ascii_digit rest
    → number_at (s ++ rest) ≡ Some (w.Number (pos (digits_value 10 s)), length s)
unfolding number_at number_of
at_number s rest all small none = rw (run_len is_ascii_digit s rest all none, take_at s rest (length s) refl, lt-ltb (digits_value 10 s) (2 ^ 63) small) refl

reads_number : (s rest : List ℕ) → s ≢ [] → list_all is_ascii_digit s ≡ true → digits_value 10 s < 2 ^ 63 → NotFirst is_ascii_digit rest
    → word_at (s ++ rest) ≡ Some (w.Number (pos (digits_value 10 s)), length s)
reads_number [] rest ne all small none = absurd (ne refl)
reads_number (b ∷ s) rest ne all small none =
    let first : is_ascii_digit b ≡ true = and_left (is_ascii_digit b) (list_all is_ascii_digit s) all in
    digit_begins b (s ++ rest) first ∙ at_number (b ∷ s) rest all small none

pub end_quote : (body rest : List ℕ) → get_or (body ++ 34 ∷ rest) (length body) 0 ≡ 34
end_quote [] rest = refl
end_quote (b ∷ body) rest = end_quote body rest

pub length-quoted : (body : List ℕ) → length (34 ∷ (body ++ 34 ∷ [])) ≡ length body + 2
length-quoted body = grind (arith, length-append {A = ℕ})

at_text : (body rest : List ℕ) → list_all is_text_byte body ≡ true → length body ≤ 256 → text_at (body ++ 34 ∷ rest) ≡ Some (w.Text, length body + 2)
unfolding text_at
at_text body rest all short =
    let end : get_or (body ++ 34 ∷ rest) (length body) 0 ≡ 34 = end_quote body rest in
    rw (run_len is_text_byte body (34 ∷ rest) all refl, le-leb (length body) 256 short, end) refl

reads_text : (s rest : List ℕ) → IsText s → word_at (s ++ rest) ≡ Some (w.Text, length s)
unfolding word_at
reads_text s rest is =
    let moved : s ++ rest ≡ 34 ∷ (is.inside ++ 34 ∷ rest) = ap (λ (x : List ℕ). x ++ rest) is.quoted
    ∙ ap (λ (x : List ℕ). 34 ∷ x) (append_assoc is.inside (34 ∷ []) rest) in
    ap word_at moved ∙ at_text is.inside rest is.bytes is.short ∙ ap (λ (n : ℕ). Some (w.Text, n)) (sym (length-quoted is.inside) ∙ ap length (sym is.quoted))

mark_found : (mark : Mark) (rest : List ℕ) → NotFirst (makes_longer mark) rest
    → mark_at (mark_spelling mark ++ rest) ≡ Some (w.Mark mark, length (mark_spelling mark))
unfolding mark_at
mark_found mark rest none = rw (mark_of-spelling mark rest none) refl

reads_mark : (mark : Mark) (rest : List ℕ) → NotFirst (makes_longer mark) rest
    → word_at (mark_spelling mark ++ rest) ≡ Some (w.Mark mark, length (mark_spelling mark))
reads_mark mark rest none =
    let s = mark_spelling mark in
    let whole : s ++ rest ≡ get_or s 0 0 ∷ (drop 1 s ++ rest) = ap (λ (x : List ℕ). x ++ rest) (first_and_rest s (mark_len mark).0) in
    ap word_at whole ∙ mark_begins (get_or s 0 0) (drop 1 s ++ rest) (mark_first mark) ∙ ap mark_at (sym whole) ∙ mark_found mark rest none

pub spelled_is_read : (word : Word) (s rest : List ℕ) → Spells word s → Ends word rest → word_at (s ++ rest) ≡ Some (word, length s)
spelled_is_read (w.Name c) s rest is ends =
    reads_identifier s rest (w.Name c) is.0.starts is.0.bytes is.0.short ends (rw (none_reserved s (reserved_of s) refl is.0.free, is.1) refl)
spelled_is_read (w.Reserved r) s rest is ends =
    rw is (reads_identifier (reserved_spelling r) rest (w.Reserved r) (starts_from_first (reserved_spelling r) (reserved_starts r)) (reserved_bytes r)
    (reserved_len r).1 ends (rw reserved_of-spelling refl))
spelled_is_read (w.Number n) s rest is ends = rw is.value (reads_number s rest is.some is.digits is.small ends)
spelled_is_read w.Text s rest is ends = reads_text s rest is
spelled_is_read (w.Mark mark) s rest is ends = rw is (reads_mark mark rest ends)
