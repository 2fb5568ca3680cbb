-- Blanks and comments: one byte more of them, and the place where they end.
use Rattle.std.proofs.Common.{◌≡◌, ◌≢◌, ℕ, ◌+◌, ◌<◌, ◌≤◌, Bool, true, false, eqb, List, [], ◌∷◌, length, get_or, drop, refl, sym, ap, ◌∙◌, subst, inl, inr}
use Rattle.std.proofs.Common.{add-one, add-zero, arith}
use Rattle.std.proofs.Math.Seq.{drop-cons}
use Rattle.std.proofs.lemmas.List.{drop_all}
use Rattle.std.proofs.lemmas.Bool.{cases_Bool, cases_lt}
use Rattle.std.proofs.lemmas.Bool.Decides.{nat_tests}
use Rattle.std.specs.Prelude.{not}
use Rattle.flu_text.specs.Grammar.{is_blank, IsInComment, IsBlankOrComment, IsGap}
use Rattle.flu_text.specs.Reading.{gap_len, next_place}
use Rattle.flu_lemmas.proofs.Prefixes.{drop_none, drop_one_more}

gap_len-drop : (in_comment : Bool) (bytes : List ℕ) (i : ℕ) → i < length bytes
    → gap_len in_comment (drop i bytes) ≡ gap_len in_comment (get_or bytes i 0 ∷ drop (i + 1) bytes)
gap_len-drop in_comment bytes i lt = rw (add-one, drop-cons bytes i 0)

pub comment_goes_on : (bytes : List ℕ) (i : ℕ) → i < length bytes
    → gap_len true (drop i bytes) ≡ gap_len (not (eqb (get_or bytes i 0) 10)) (drop (i + 1) bytes) + 1
unfolding gap_len
comment_goes_on bytes i lt = gap_len-drop true bytes i lt

pub comment_opens : (bytes : List ℕ) (i : ℕ) → i < length bytes → get_or bytes i 0 ≡ 35 → gap_len false (drop i bytes) ≡ gap_len true (drop (i + 1) bytes) + 1
unfolding gap_len
comment_opens bytes i lt e = gap_len-drop false bytes i lt ∙ rw e refl

pub blank_goes_on : (bytes : List ℕ) (i : ℕ) → i < length bytes → eqb (get_or bytes i 0) 35 ≡ false → is_blank (get_or bytes i 0) ≡ true
    → gap_len false (drop i bytes) ≡ gap_len false (drop (i + 1) bytes) + 1
unfolding gap_len
blank_goes_on bytes i lt e blank = gap_len-drop false bytes i lt ∙ rw (e, blank) refl

pub gap_ends : (bytes : List ℕ) (i : ℕ) → i < length bytes → eqb (get_or bytes i 0) 35 ≡ false → is_blank (get_or bytes i 0) ≡ false
    → gap_len false (drop i bytes) ≡ 0
unfolding gap_len
gap_ends bytes i lt e blank = gap_len-drop false bytes i lt ∙ rw (e, blank) refl

pub gap_at_end : (in_comment : Bool) (bytes : List ℕ) (i : ℕ) → length bytes ≤ i → gap_len in_comment (drop i bytes) ≡ 0
unfolding gap_len
gap_at_end true bytes i le = rw (drop_all i bytes le) refl
gap_at_end false bytes i le = rw (drop_all i bytes le) refl

-- a comment that began at or behind `from` has not ended before this place
record IsOpen (text : List ℕ) (from place : ℕ) : Type 0 where
  start : ℕ
  behind : from ≤ start
  before : start < place
  opens : get_or text start 0 ≡ 35
  still : (k : ℕ) → start ≤ k → k < place → get_or text k 0 ≢ 10

-- the next byte of a comment is one of it, unless it is a line feed
comment_more : (text : List ℕ) (from place : ℕ) → IsOpen text from place → get_or text place 0 ≢ 10 → IsInComment text from place
comment_more text from place open' other = record {
  start = open'.start;
  behind = open'.behind;
  before = omega (arith, open'.before);
  opens = open'.opens;
  open_still = λ k low high. elim (cases_lt k place) [
    | inl lt ↦ open'.still k low lt
    | inr le ↦ let same : k ≡ place = omega arith in rw same other
  ];
}

open_more : (text : List ℕ) (from place : ℕ) → IsInComment text from place → IsOpen text from (place + 1)
open_more text from place is = record {
  start = is.start;
  behind = is.behind;
  before = omega (arith, is.before);
  opens = is.opens;
  still = λ k low lt. is.open_still k low (omega arith);
}

-- what is open behind a byte has it in the comment
open_less : (text : List ℕ) (from place : ℕ) → IsOpen text from (place + 1) → IsInComment text from place
open_less text from place open' = record {
  start = open'.start;
  behind = open'.behind;
  before = omega (arith, open'.before);
  opens = open'.opens;
  open_still = λ k low high. open'.still k low (omega arith);
}

-- a comment opens at a `#`
comment_here : (text : List ℕ) (from place : ℕ) → from ≤ place → get_or text place 0 ≡ 35 → IsInComment text from place
comment_here text from place le e = record {
  start = place;
  behind = le;
  before = omega arith;
  opens = e;
  open_still = λ k low high. let same : k ≡ place = omega arith in rw (same, e) (λ h. absurd (omega (arith, h)));
}

-- a byte of a comment that does not open it stands where it was open before
open_before : (text : List ℕ) (from place : ℕ) → IsInComment text from place → get_or text place 0 ≢ 35 → IsOpen text from place
open_before text from place is other = record {
  start = is.start;
  behind = is.behind;
  before = elim (cases_lt is.start place) [
    | inl lt ↦ lt
    | inr le ↦ let same : is.start ≡ place = omega (arith, is.before) in absurd (other (ap (λ (k : ℕ). get_or text k 0) (sym same) ∙ is.opens))
  ];
  opens = is.opens;
  still = λ k low lt. is.open_still k low (omega arith);
}

-- before this place stand blanks and comments alone, and in_comment says whether a comment is open
record IsSoFar (text : List ℕ) (from place : ℕ) (in_comment : Bool) : Type 0 where
  rises : from ≤ place
  within : place ≤ length text
  blank : (k : ℕ) → from ≤ k → k < place → IsBlankOrComment text from k
  is_open : in_comment ≡ true → IsOpen text from place
  is_shut : in_comment ≡ false → IsOpen text from place → ⊥

so_far_more : (text : List ℕ) (from place : ℕ) (in_comment next : Bool) → IsSoFar text from place in_comment → place < length text
    → IsBlankOrComment text from place
    → (next ≡ true → IsOpen text from (place + 1)) → (next ≡ false → IsOpen text from (place + 1) → ⊥) → IsSoFar text from (place + 1) next
so_far_more text from place in_comment next so_far lt here opens shuts = record {
  rises = omega (arith, so_far.rises);
  within = omega arith;
  blank = λ k low high. elim (cases_lt k place) [
    | inl below ↦ so_far.blank k low below
    | inr le ↦ let same : k ≡ place = omega arith in rw same here
  ];
  is_open = opens;
  is_shut = shuts;
}

not_shut : (b : ℕ) → not (eqb b 10) ≡ true → b ≢ 10
not_shut b e = λ same. absurd (let h : not (eqb 10 10) ≡ true = rw same at e in cc)

shut : (b : ℕ) → not (eqb b 10) ≡ false → b ≡ 10
shut b e = grind (arith, nat_tests)

-- a byte of a comment
in_comment_more : (text : List ℕ) (from place b : ℕ) → IsSoFar text from place true → place < length text → get_or text place 0 ≡ b
    → IsSoFar text from (place + 1) (not (eqb b 10))
in_comment_more text from place b so_far lt read =
    elim (cases_Bool (not (eqb b 10))) [
      | inl going ↦
          let other : get_or text place 0 ≢ 10 = rw read (not_shut b going) in
          let here = comment_more text from place (so_far.is_open refl) other in
          so_far_more text from place true (not (eqb b 10)) so_far lt (inr here) (λ e. open_more text from place here)
          (λ e. absurd (let h : true ≡ false = sym going ∙ e in cc))
      | inr ended ↦
          let lf : get_or text place 0 ≡ 10 = read ∙ shut b ended in
          let blank : is_blank (get_or text place 0) ≡ true = rw lf refl in
          so_far_more text from place true (not (eqb b 10)) so_far lt (inl blank) (λ e. absurd (let h : false ≡ true = sym ended ∙ e in cc))
          (λ e open'. (open_less text from place open').open_still place (omega (arith, open'.before)) (omega arith) lf)
    ]

-- a `#` outside a comment
opening_more : (text : List ℕ) (from place : ℕ) → IsSoFar text from place false → place < length text → get_or text place 0 ≡ 35
    → IsSoFar text from (place + 1) true
opening_more text from place so_far lt e =
    let here = comment_here text from place so_far.rises e in
    so_far_more text from place false true so_far lt (inr here) (λ _. open_more text from place here) (λ e. absurd cc)

-- a blank outside a comment
blank_more : (text : List ℕ) (from place : ℕ) → IsSoFar text from place false → place < length text → is_blank (get_or text place 0) ≡ true
    → get_or text place 0 ≢ 35 → IsSoFar text from (place + 1) false
blank_more text from place so_far lt blank other =
    so_far_more text from place false false so_far lt (inl blank) (λ e. absurd cc)
    (λ e open'. so_far.is_shut refl (open_before text from place (open_less text from place open') other))

-- another byte outside a comment
gap_here : (text : List ℕ) (from place : ℕ) → IsSoFar text from place false → is_blank (get_or text place 0) ≡ false → get_or text place 0 ≢ 35
    → IsGap text from place
gap_here text from place so_far other_than_blank other = record {
  rises = so_far.rises;
  within = so_far.within;
  blank = so_far.blank;
  ends = λ lt is. elim is [
    | inl blank ↦ absurd (let h : true ≡ false = sym blank ∙ other_than_blank in cc)
    | inr comment ↦ so_far.is_shut refl (open_before text from place comment other)
  ];
}

-- the end of the text
gap_to_end : (text : List ℕ) (from place : ℕ) (in_comment : Bool) → IsSoFar text from place in_comment → length text ≤ place → IsGap text from place
gap_to_end text from place in_comment so_far le = record {
  rises = so_far.rises;
  within = so_far.within;
  blank = so_far.blank;
  ends = λ lt is. absurd (omega arith);
}

is_number_sign : (b : ℕ) → eqb b 35 ≡ true → b ≡ 35
is_number_sign b e = grind (arith, nat_tests)

not_number_sign : (b : ℕ) → eqb b 35 ≡ false → b ≢ 35
not_number_sign b e = λ same. absurd (let h : eqb 35 35 ≡ false = rw same at e in cc)

gap_from : (text : List ℕ) (from : ℕ) (rest : List ℕ) (place : ℕ) (in_comment : Bool) → drop place text ≡ rest → IsSoFar text from place in_comment
    → IsGap text from (place + gap_len in_comment rest)
unfolding gap_len
gap_from text from [] place true e so_far = rw add-zero (gap_to_end text from place true so_far (drop_none text place e))
gap_from text from [] place false e so_far = rw add-zero (gap_to_end text from place false so_far (drop_none text place e))
gap_from text from (b ∷ rest) place true e so_far =
    let next = drop_one_more text place b rest e in
    let further = gap_from text from rest (place + 1) (not (eqb b 10)) next.2 (in_comment_more text from place b so_far next.0 next.1) in
    let moved : place + 1 + gap_len (not (eqb b 10)) rest ≡ place + (gap_len (not (eqb b 10)) rest + 1) = omega arith in
    subst (IsGap text from) moved further
gap_from text from (b ∷ rest) place false e so_far =
    let next = drop_one_more text place b rest e in
    elim (cases_Bool (eqb b 35)) [
      | inl opens ↦
          let is : get_or text place 0 ≡ 35 = next.1 ∙ is_number_sign b opens in
          let further = gap_from text from rest (place + 1) true next.2 (opening_more text from place so_far next.0 is) in
          let moved : place + 1 + gap_len true rest ≡ place + (gap_len true rest + 1) = omega arith in
          rw opens (subst (IsGap text from) moved further)
      | inr other ↦
          let apart : get_or text place 0 ≢ 35 = rw next.1 (not_number_sign b other) in
          elim (cases_Bool (is_blank b)) [
            | inl blank ↦
                let further = gap_from text from rest (place + 1) false next.2 (blank_more text from place so_far next.0 (rw next.1 blank) apart) in
                let moved : place + 1 + gap_len false rest ≡ place + (gap_len false rest + 1) = omega arith in
                rw (other, blank) (subst (IsGap text from) moved further)
            | inr none ↦ rw (other, none, add-zero) (gap_here text from place so_far (rw next.1 none) apart)
          ]
    ]

-- where the blanks and comments at a place end
pub gap_is : (text : List ℕ) (from : ℕ) → from ≤ length text → IsGap text from (next_place text from)
gap_is text from le = gap_from text from (drop from text) from false refl record {
  rises = omega arith;
  within = le;
  blank = λ k low high. absurd (omega arith);
  is_open = λ e. absurd cc;
  is_shut = λ e open'. absurd (omega (arith, open'.behind, open'.before));
}

-- and nowhere else
no_longer_gap : (text : List ℕ) (from a b : ℕ) → IsGap text from a → IsGap text from b → a < b → ⊥
no_longer_gap text from a b p q lt = p.ends (omega (arith, q.within)) (q.blank a p.rises lt)

pub gap_one : (text : List ℕ) (from a b : ℕ) → IsGap text from a → IsGap text from b → a ≡ b
gap_one text from a b p q =
    elim (cases_lt a b) [
      | inl lt ↦ absurd (no_longer_gap text from a b p q lt)
      | inr le ↦ elim (cases_lt b a) [
        | inl lt ↦ absurd (no_longer_gap text from b a q p lt)
        | inr le' ↦ omega arith
      ]
    ]

pub gap_at_text_end : (text : List ℕ) (from : ℕ) → from ≡ length text → IsGap text from (length text)
gap_at_text_end text from e = record {
  rises = omega arith;
  within = omega arith;
  blank = λ k low high. absurd (omega arith);
  ends = λ lt is. absurd (omega arith);
}
