-- The word that is read at the front of some bytes is the one that the grammar has there.
use Rattle.std.proofs.Common.{◌≡◌, ◌≢◌, ℕ, zero, suc, ◌+◌, ◌≤◌, ◌<◌, ◌^◌, Bool, true, false, ◌&&◌, cond, eqb, ltb, leb, List, [], ◌∷◌, ◌++◌, length, take, drop}
use Rattle.std.proofs.Common.{get_or, pos, Option, Some, None, refl, sym, ap, subst, ◌∙◌, append_assoc, inl, inr, arith}
use Rattle.std.specs.Prelude.{option_map, unwrap_or}
use Rattle.std.specs.Char.{is_ascii_digit}
use Rattle.std.specs.List.{list_all, prefix_len}
use Rattle.std.specs.Str.Parse.{digits_value}
use Rattle.std.proofs.lemmas.Bool.{cases_Bool, leb-true, ltb-true}
use Rattle.std.proofs.lemmas.Bool.Decides.{nat_tests}
use Rattle.std.proofs.lemmas.List.{length-append, length-take, length-take-le, take-append-drop, take_more}
use Rattle.std.proofs.lemmas.List.Sums.{prefix_len-le-length}
use Rattle.std.proofs.lemmas.List.Folds.{list_all-append}
use Rattle.flu_names.specs.declared.reserved.Reserved.{Reserved}
use Rattle.flu_text.specs.declared.words.Mark.{Mark}
use Rattle.flu_text.specs.declared.words.Word.{Word}
use Rattle.flu_text.specs.declared.words.Word.TheVariants as w
use Rattle.flu_text.specs.Spelling.{mark_spelling, contextual_of}
use Rattle.flu_names.specs.Names.{reserved_spelling, is_name_start, is_name_byte, is_text_byte, reserved_of}
use Rattle.flu_text.specs.Grammar.{Starts, IsLexeme, Identifier, Digits, Quoted, Punctuation, Spells}
use Rattle.flu_text.specs.Lexeme.{name_at, number_of, number_at, text_at, mark_of, mark_at, word_at}
use Rattle.flu_text.specs.Layout.{NotFirst, makes_longer, Ends}
use Rattle.flu_lemmas.proofs.Tests.{and_left, both}
use Rattle.flu_lemmas.proofs.Prefixes.{within_read, chosen, mapped, list_all-prefix_len, prefix_len-longest, prefix_len-take, prefix_len_some, take_one_more}
use Rattle.flu_text.proofs.Tables.{reserved_of-spelling, reserved_is, reserved_bytes, reserved_starts, mark_of-spelling, mark_len, mark_is, long_mark}
use Rattle.flu_text.proofs.Tables.{longer_mark}
use Rattle.flu_text.proofs.Spelled.{starts_from_first, mark_first, spelled_is_read}

-- this word takes so many bytes of the front, and no lexeme there is longer
pub record IsFront (bytes : List ℕ) (p : Word × ℕ) : Type 0 where
  pub some : 0 < p.1
  pub within : p.1 ≤ length bytes
  pub spelled : Spells p.0 (take p.1 bytes)
  pub longest : (n : ℕ) → n ≤ length bytes → IsLexeme (take n bytes) → n ≤ p.1

-- the first byte tells which lexeme it is
first_passes : (p : ℕ → Bool) (s : List ℕ) → s ≢ [] → list_all p s ≡ true → p (get_or s 0 0) ≡ true
first_passes p [] ne all = absurd (ne refl)
first_passes p (b ∷ s) ne all = and_left (p b) (list_all p s) all

start_passes : (s : List ℕ) → Starts is_name_start s → is_name_start (get_or s 0 0) ≡ true
start_passes [] starts = absurd starts
start_passes (b ∷ s) starts = starts

first_of : (s t : List ℕ) → s ≡ t → get_or s 0 0 ≡ get_or t 0 0
first_of s t e = ap (λ (x : List ℕ). get_or x 0 0) e

apart : (b : Bool) → b ≡ true → b ≡ false → ⊥
apart b yes' no' = let e : true ≡ false = sym yes' ∙ no' in cc

identifier_bytes : (s : List ℕ) → IsLexeme s → is_name_start (get_or s 0 0) ≡ true → list_all is_name_byte s ≡ true
identifier_bytes s (Identifier starts bytes) e = bytes
identifier_bytes s (Digits some digits) e =
    let d = first_passes is_ascii_digit s some digits in
    absurd (grind (arith, nat_tests))
identifier_bytes s (Quoted inside quoted bytes) e =
    let first : get_or s 0 0 ≡ 34 = first_of s (34 ∷ (inside ++ 34 ∷ [])) quoted in
    absurd (let h : is_name_start 34 ≡ true = rw first at e in cc)
identifier_bytes s (Punctuation mark spelled) e =
    absurd (apart (is_name_start (get_or s 0 0)) e (rw (first_of s (mark_spelling mark) spelled) (mark_first mark).no_name))

digit_bytes : (s : List ℕ) → IsLexeme s → is_ascii_digit (get_or s 0 0) ≡ true → list_all is_ascii_digit s ≡ true
digit_bytes s (Identifier starts bytes) e =
    let d = start_passes s starts in
    absurd (grind (arith, nat_tests))
digit_bytes s (Digits some digits) e = digits
digit_bytes s (Quoted inside quoted bytes) e =
    let first : get_or s 0 0 ≡ 34 = first_of s (34 ∷ (inside ++ 34 ∷ [])) quoted in
    absurd (let h : is_ascii_digit 34 ≡ true = rw first at e in cc)
digit_bytes s (Punctuation mark spelled) e =
    absurd (apart (is_ascii_digit (get_or s 0 0)) e (rw (first_of s (mark_spelling mark) spelled) (mark_first mark).no_digit))

record IsQuotation (s : List ℕ) : Type 0 where
  inside : List ℕ
  quoted : s ≡ 34 ∷ (inside ++ 34 ∷ [])
  bytes : list_all is_text_byte inside ≡ true

quoted_bytes : (s : List ℕ) → IsLexeme s → get_or s 0 0 ≡ 34 → IsQuotation s
quoted_bytes s (Identifier starts bytes) e =
    absurd (let h : is_name_start 34 ≡ true = rw e at (start_passes s starts) in cc)
quoted_bytes s (Digits some digits) e =
    absurd (let h : is_ascii_digit 34 ≡ true = rw e at (first_passes is_ascii_digit s some digits) in cc)
quoted_bytes s (Quoted inside quoted bytes) e = record { inside = inside; quoted = quoted; bytes = bytes }
quoted_bytes s (Punctuation mark spelled) e =
    let m = mark_first mark in
    let first : get_or (mark_spelling mark) 0 0 ≡ 34 = sym (first_of s (mark_spelling mark) spelled) ∙ e in
    absurd (let h : eqb 34 34 ≡ false = rw first at m.no_quote in cc)

mark_bytes : (s : List ℕ) → IsLexeme s → is_name_start (get_or s 0 0) ≡ false → is_ascii_digit (get_or s 0 0) ≡ false → eqb (get_or s 0 0) 34 ≡ false
    → (mark : Mark) × (s ≡ mark_spelling mark)
mark_bytes s (Identifier starts bytes) a b c = absurd (apart (is_name_start (get_or s 0 0)) (start_passes s starts) a)
mark_bytes s (Digits some digits) a b c = absurd (apart (is_ascii_digit (get_or s 0 0)) (first_passes is_ascii_digit s some digits) b)
mark_bytes s (Quoted inside quoted bytes) a b c =
    let first : get_or s 0 0 ≡ 34 = first_of s (34 ∷ (inside ++ 34 ∷ [])) quoted in
    absurd (let h : eqb 34 34 ≡ false = rw first at c in cc)
mark_bytes s (Punctuation mark spelled) a b c = (mark, spelled)

-- names and reserved words
starts-take : (p : ℕ → Bool) (b : ℕ) (bytes : List ℕ) (n : ℕ) → p b ≡ true → 0 < n → Starts p (take n (b ∷ bytes))
starts-take p b bytes zero e some = absurd (omega arith)
starts-take p b bytes (suc n) e some = e

spells_identifier : (s : List ℕ) (o : Option Reserved) → Starts is_name_start s → list_all is_name_byte s ≡ true → length s ≤ 32 → reserved_of s ≡ o
    → Spells (unwrap_or (option_map w.Reserved o) (w.Name (contextual_of s))) s
spells_identifier s None starts bytes short e = (
  record {
    starts = starts;
    bytes = bytes;
    short = short;
    free = λ r spelled. let found : None ≡ Some r = sym e ∙ ap reserved_of spelled ∙ reserved_of-spelling r in cc;
  },
  refl,
)
spells_identifier s (Some r) starts bytes short e = reserved_is s r e

name_longest : (b : ℕ) (bytes : List ℕ) → is_name_start b ≡ true → (n : ℕ) → n ≤ length (b ∷ bytes) → IsLexeme (take n (b ∷ bytes))
    → n ≤ prefix_len is_name_byte (b ∷ bytes)
name_longest b bytes e zero le lexeme = omega arith
name_longest b bytes e (suc n) le lexeme = prefix_len-take is_name_byte (b ∷ bytes) (suc n) (identifier_bytes (take (suc n) (b ∷ bytes)) lexeme e) le

name_byte_from_start : (b : ℕ) → is_name_start b ≡ true → is_name_byte b ≡ true
name_byte_from_start b e = grind (arith, nat_tests)

name_front : (b : ℕ) (bytes : List ℕ) (p : Word × ℕ) → is_name_start b ≡ true → name_at (b ∷ bytes) ≡ Some p → IsFront (b ∷ bytes) p
unfolding name_at
name_front b bytes p first e =
    let xs = b ∷ bytes in
    let n = prefix_len is_name_byte xs in
    let some : 0 < n = prefix_len_some is_name_byte b bytes (name_byte_from_start b first) in
    let word = unwrap_or (option_map w.Reserved (reserved_of (take n xs))) (w.Name (contextual_of (take n xs))) in
    elim (chosen (ltb 32 n) None (Some (word, n)) (Some p) e) [
      | inl h ↦ absurd cc
      | inr h ↦
          let same : (word, n) ≡ p = cc in
          let short : n ≤ 32 = grind (arith, nat_tests) in
          let within = prefix_len-le-length is_name_byte xs in
          subst (IsFront xs) same record {
            some = some;
            within = within;
            spelled =
                spells_identifier (take n xs) (reserved_of (take n xs)) (starts-take is_name_start b bytes n first some)
                (list_all-prefix_len is_name_byte xs) (omega (arith, length-take n xs)) refl;
            longest = name_longest b bytes first;
          }
    ]

-- numbers
digits_longest : (b : ℕ) (bytes : List ℕ) → is_ascii_digit b ≡ true → (n : ℕ) → n ≤ length (b ∷ bytes) → IsLexeme (take n (b ∷ bytes))
    → n ≤ prefix_len is_ascii_digit (b ∷ bytes)
digits_longest b bytes e zero le lexeme = omega arith
digits_longest b bytes e (suc n) le lexeme = prefix_len-take is_ascii_digit (b ∷ bytes) (suc n) (digit_bytes (take (suc n) (b ∷ bytes)) lexeme e) le

not_nil : (s : List ℕ) → 0 < length s → s ≢ []
not_nil [] some = absurd (omega arith)
not_nil (b ∷ s) some = λ e. absurd cc

number_front : (b : ℕ) (bytes : List ℕ) (p : Word × ℕ) → is_ascii_digit b ≡ true → number_at (b ∷ bytes) ≡ Some p → IsFront (b ∷ bytes) p
unfolding number_at number_of
number_front b bytes p first e =
    let xs = b ∷ bytes in
    let n = prefix_len is_ascii_digit xs in
    let some : 0 < n = prefix_len_some is_ascii_digit b bytes first in
    let within = prefix_len-le-length is_ascii_digit xs in
    let value = digits_value 10 (take n xs) in
    let h = mapped (λ (v : ℕ). (w.Number (pos v), n)) (number_of (take n xs)) p e in
    elim (chosen (ltb value (2 ^ 63)) (Some value) None (Some h.0) h.1) [
      | inl k ↦
          let read : value ≡ h.0 = cc in
          let same : (w.Number (pos value), n) ≡ p = ap (λ (v : ℕ). (w.Number (pos v), n)) read ∙ h.2 in
          let small : value < 2 ^ 63 = ltb-true value (2 ^ 63) k.0 in
          subst (IsFront xs) same record {
            some = some;
            within = within;
            spelled = record {
              some = not_nil (take n xs) (omega (arith, length-take n xs));
              digits = list_all-prefix_len is_ascii_digit xs;
              value = refl;
              small = small;
            };
            longest = digits_longest b bytes first;
          }
      | inr k ↦ absurd cc
    ]

-- texts
text_longest : (bytes : List ℕ) (n : ℕ) → n ≤ length (34 ∷ bytes) → IsLexeme (take n (34 ∷ bytes)) → n ≤ prefix_len is_text_byte bytes + 2
text_longest bytes zero le lexeme = omega arith
text_longest bytes (suc n) le lexeme =
    let q = quoted_bytes (34 ∷ take n bytes) lexeme refl in
    let body : take n bytes ≡ q.inside ++ 34 ∷ [] = cc (q.quoted) in
    let whole : bytes ≡ q.inside ++ 34 ∷ drop n bytes =
    sym (take-append-drop n bytes) ∙ ap (λ (x : List ℕ). x ++ drop n bytes) body ∙ append_assoc q.inside (34 ∷ []) (drop n bytes) in
    let longest = prefix_len-longest is_text_byte q.inside (34 ∷ drop n bytes) q.bytes in
    let same = ap (prefix_len is_text_byte) whole in
    let lengths = ap length body in
    omega (arith, length-take n bytes, length-append q.inside (34 ∷ []), lengths, longest, same)

text_front : (bytes : List ℕ) (p : Word × ℕ) → text_at bytes ≡ Some p → IsFront (34 ∷ bytes) p
unfolding text_at
text_front bytes p e =
    let n = prefix_len is_text_byte bytes in
    elim (chosen (leb n 256 && eqb (get_or bytes n 0) 34) (Some (w.Text, n + 2)) None (Some p) e) [
      | inl h ↦
          let same : (w.Text, n + 2) ≡ p = cc in
          let short : n ≤ 256 = leb-true n 256 (and_left (leb n 256) (eqb (get_or bytes n 0) 34) h.0) in
          let read : get_or bytes n 0 ≡ 34 = grind (arith, nat_tests) in
          let lt = within_read bytes n 34 read (omega arith) in
          let two : n + 2 ≡ suc (n + 1) = omega arith in
          let quoted : take (n + 2) (34 ∷ bytes) ≡ 34 ∷ (take n bytes ++ 34 ∷ []) =
          ap (λ (k : ℕ). take k (34 ∷ bytes)) two ∙ ap (λ (x : List ℕ). 34 ∷ x) (take_more bytes n 0 lt ∙ ap (λ (x : ℕ). take n bytes ++ x ∷ []) read) in
          subst (IsFront (34 ∷ bytes)) same record {
            some = omega arith;
            within = omega arith;
            spelled = record {
              inside = take n bytes;
              quoted = quoted;
              bytes = list_all-prefix_len is_text_byte bytes;
              short = omega (arith, length-take n bytes);
            };
            longest = text_longest bytes;
          }
      | inr h ↦ absurd cc
    ]

-- marks
mark_longest_of : (bytes : List ℕ) (mark other : Mark) (n : ℕ) → mark_of bytes ≡ Some mark → n ≤ length bytes → take n bytes ≡ mark_spelling other
    → n ≤ length (mark_spelling mark)
mark_longest_of bytes mark other n found le spelled =
    let lengths = ap length spelled in
    let len : n ≡ length (mark_spelling other) = omega (arith, length-take n bytes, lengths) in
    elim (cases_Bool (leb (length (mark_spelling other)) 1)) [
      | inl short ↦ omega (arith, leb-true (length (mark_spelling other)) 1 short, (mark_len mark).0)
      | inr long ↦
          let whole : bytes ≡ mark_spelling other ++ drop n bytes = sym (take-append-drop n bytes) ∙ ap (λ (x : List ℕ). x ++ drop n bytes) spelled in
          let long' : 1 < length (mark_spelling other) = grind (arith, nat_tests) in
          let again : mark_of bytes ≡ Some other = ap mark_of whole ∙ mark_of-spelling other (drop n bytes) (long_mark other (drop n bytes) long') in
          let both : Some mark ≡ Some other = sym found ∙ again in
          let same : mark ≡ other = cc in
          rw same (omega arith)
    ]

mark_longest : (b : ℕ) (bytes : List ℕ) (mark : Mark) → mark_of (b ∷ bytes) ≡ Some mark → is_name_start b ≡ false → is_ascii_digit b ≡ false → eqb b 34 ≡ false
    → (n : ℕ) → n ≤ length (b ∷ bytes) → IsLexeme (take n (b ∷ bytes)) → n ≤ length (mark_spelling mark)
mark_longest b bytes mark found a d q zero le lexeme = omega arith
mark_longest b bytes mark found a d q (suc n) le lexeme =
    let other = mark_bytes (take (suc n) (b ∷ bytes)) lexeme a d q in
    mark_longest_of (b ∷ bytes) mark other.0 (suc n) found le other.1

mark_front : (b : ℕ) (bytes : List ℕ) (p : Word × ℕ) → is_name_start b ≡ false → is_ascii_digit b ≡ false → eqb b 34 ≡ false → mark_at (b ∷ bytes) ≡ Some p
    → IsFront (b ∷ bytes) p
unfolding mark_at
mark_front b bytes p a d q e =
    let xs = b ∷ bytes in
    let h = mapped (λ (k : Mark). (w.Mark k, length (mark_spelling k))) (mark_of xs) p e in
    let spelled = mark_is xs h.0 h.1 in
    let lengths = ap length spelled in
    subst (IsFront xs) h.2 record {
      some = (mark_len h.0).0;
      within = omega (arith, lengths, length-take (length (mark_spelling h.0)) xs);
      spelled = spelled;
      longest = mark_longest b bytes h.0 h.1 a d q;
    }

-- the word that is read
pub word_front : (bytes : List ℕ) (p : Word × ℕ) → word_at bytes ≡ Some p → IsFront bytes p
unfolding word_at
word_front [] p e = absurd cc
word_front (b ∷ bytes) p e =
    elim (chosen (is_name_start b) (name_at (b ∷ bytes))
    (cond (is_ascii_digit b) (number_at (b ∷ bytes)) (cond (eqb b 34) (text_at bytes) (mark_at (b ∷ bytes)))) (Some p) e) [
      | inl h ↦ name_front b bytes p h.0 h.1
      | inr h ↦ elim (chosen (is_ascii_digit b) (number_at (b ∷ bytes)) (cond (eqb b 34) (text_at bytes) (mark_at (b ∷ bytes))) (Some p) h.1) [
        | inl g ↦ number_front b bytes p g.0 g.1
        | inr g ↦ elim (chosen (eqb b 34) (text_at bytes) (mark_at (b ∷ bytes)) (Some p) g.1) [
          | inl k ↦ let is : b ≡ 34 = grind (arith, nat_tests) in rw is (text_front bytes p k.1)
          | inr k ↦ mark_front b bytes p h.0 g.0 k.0 k.1
        ]
      ]
    ]

-- The other way round: what the grammar has at the front is read. What is longest ends where it does.
not_first : (p : ℕ → Bool) (xs : List ℕ) → ((b : ℕ) (rest : List ℕ) → xs ≡ b ∷ rest → p b ≡ true → ⊥) → NotFirst p xs
not_first p [] none = tt
not_first p (b ∷ rest) none = elim (cases_Bool (p b)) [ inl hit ↦ absurd (none b rest refl hit) | inr miss ↦ miss ]

starts-append : (p : ℕ → Bool) (s t : List ℕ) → Starts p s → Starts p (s ++ t)
starts-append p [] t starts = absurd starts
starts-append p (b ∷ s) t starts = starts

all-append : (p : ℕ → Bool) (s : List ℕ) (b : ℕ) → list_all p s ≡ true → p b ≡ true → list_all p (s ++ b ∷ []) ≡ true
all-append p s b all e = list_all-append p s (b ∷ []) ∙ both (list_all p s) (p b && true) all (rw e refl)

identifier_longer : (s : List ℕ) (b : ℕ) → Starts is_name_start s → list_all is_name_byte s ≡ true → is_name_byte b ≡ true → IsLexeme (s ++ b ∷ [])
identifier_longer s b starts bytes e = Identifier (starts-append is_name_start s (b ∷ []) starts) (all-append is_name_byte s b bytes e)

number_longer : (s : List ℕ) (b : ℕ) → list_all is_ascii_digit s ≡ true → is_ascii_digit b ≡ true → IsLexeme (s ++ b ∷ [])
number_longer s b digits e = Digits (not_nil (s ++ b ∷ []) (omega (arith, length-append s (b ∷ [])))) (all-append is_ascii_digit s b digits e)

mark_longer : (mark : Mark) (b : ℕ) → makes_longer mark b ≡ true → IsLexeme (mark_spelling mark ++ b ∷ [])
mark_longer mark b e = let longer = longer_mark mark b e in Punctuation longer.0 longer.1

no_longer : (p : ℕ → Bool) (bytes : List ℕ) (n : ℕ) → ((k : ℕ) → k ≤ length bytes → IsLexeme (take k bytes) → k ≤ n)
    → ((b : ℕ) → p b ≡ true → IsLexeme (take n bytes ++ b ∷ [])) → NotFirst p (drop n bytes)
no_longer p bytes n longest longer =
    not_first p (drop n bytes) (λ (b : ℕ) (rest : List ℕ) (e : drop n bytes ≡ b ∷ rest) (hit : p b ≡ true).
    let more = take_one_more bytes n b rest e in
    let lexeme : IsLexeme (take (n + 1) bytes) = subst IsLexeme (sym more.1) (longer b hit) in
    let le = longest (n + 1) (omega (arith, more.0)) lexeme in
    absurd (omega (arith, le)))

ends_here : (word : Word) (bytes : List ℕ) (n : ℕ) → Spells word (take n bytes) → ((k : ℕ) → k ≤ length bytes → IsLexeme (take k bytes) → k ≤ n)
    → Ends word (drop n bytes)
ends_here (w.Name c) bytes n is longest =
    no_longer is_name_byte bytes n longest (λ (b : ℕ) (e : is_name_byte b ≡ true). identifier_longer (take n bytes) b is.0.starts is.0.bytes e)
ends_here (w.Reserved r) bytes n is longest =
    no_longer is_name_byte bytes n longest (λ (b : ℕ) (e : is_name_byte b ≡ true).
    subst (λ (s : List ℕ). IsLexeme (s ++ b ∷ [])) (sym is)
    (identifier_longer (reserved_spelling r) b (starts_from_first (reserved_spelling r) (reserved_starts r)) (reserved_bytes r) e))
ends_here (w.Number v) bytes n is longest =
    no_longer is_ascii_digit bytes n longest (λ (b : ℕ) (e : is_ascii_digit b ≡ true). number_longer (take n bytes) b is.digits e)
ends_here w.Text bytes n is longest = tt
ends_here (w.Mark mark) bytes n is longest =
    no_longer (makes_longer mark) bytes n longest
    (λ (b : ℕ) (e : makes_longer mark b ≡ true). subst (λ (s : List ℕ). IsLexeme (s ++ b ∷ [])) (sym is) (mark_longer mark b e))

pub front_word : (bytes : List ℕ) (word : Word) (n : ℕ) → n ≤ length bytes → Spells word (take n bytes)
    → ((k : ℕ) → k ≤ length bytes → IsLexeme (take k bytes) → k ≤ n) → word_at bytes ≡ Some (word, n)
front_word bytes word n within is longest =
    ap word_at (sym (take-append-drop n bytes)) ∙ spelled_is_read word (take n bytes) (drop n bytes) is (ends_here word bytes n is longest)
    ∙ ap (λ (k : ℕ). Some (word, k)) (length-take-le n bytes within)
