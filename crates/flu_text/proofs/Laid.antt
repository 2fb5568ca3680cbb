-- The tokens of a text that is laid out.
use Rattle.std.proofs.Common.{◌≡◌, ◌≢◌, ℕ, ◌+◌, ◌-◌, ◌<◌, true, false, eqb, List, [], ◌∷◌, ◌++◌, length, take, drop, get_or, Some, refl, sym, ap, subst, ◌∙◌}
use Rattle.std.proofs.Common.{append_assoc, inl, inr, arith}
use Rattle.std.specs.Prelude.{map}
use Rattle.std.specs.Char.{is_ascii_digit}
use Rattle.std.specs.List.{list_all}
use Rattle.std.proofs.lemmas.Bool.{cases_Bool}
use Rattle.std.proofs.lemmas.Bool.Decides.{nat_tests}
use Rattle.std.proofs.lemmas.List.{length-append, take_at, drop_at, append-nil}
use Rattle.flu_text.specs.declared.words.Token.{Token}
use Rattle.flu_text.specs.declared.words.Word.{Word}
use Rattle.flu_text.specs.declared.words.Word.TheVariants as w
use Rattle.flu_text.specs.Spelling.{mark_spelling}
use Rattle.flu_names.specs.Names.{reserved_spelling, is_name_start}
use Rattle.flu_text.specs.Grammar.{is_blank, Starts, Spells, bytes_of, IsGap, LeadsTo}
use Rattle.flu_text.specs.Lexeme.{word_at}
use Rattle.flu_text.specs.Reading.{gap_len, next_place, token_at}
use Rattle.flu_text.specs.Layout.{Piece, layout, tokens_of, IsLaid}
use Rattle.flu_text.specs.Laws.{LayoutIsRead, LayoutIsSpelled}
use Rattle.flu_lemmas.proofs.Tests.{and_left}
use Rattle.flu_text.proofs.Tables.{reserved_starts, mark_len}
use Rattle.flu_text.proofs.Spelled.{starts_from_first, mark_first, spelled_is_read}
use Rattle.flu_text.proofs.Gaps.{gap_is}
use Rattle.flu_text.proofs.Places.{token_is}
use Rattle.flu_text.proofs.Readings.{tokens_read}

-- no blank or comment begins here
abbrev IsPlain : List ℕ → Type 0
IsPlain [] = Unit {0}
IsPlain (b ∷ rest) = (is_blank b ≡ false) × (eqb b 35 ≡ false)

plain_name : (b : ℕ) → is_name_start b ≡ true → (is_blank b ≡ false) × (eqb b 35 ≡ false)
plain_name b e = (grind (arith, nat_tests), grind (arith, nat_tests))

plain_digit : (b : ℕ) → is_ascii_digit b ≡ true → (is_blank b ≡ false) × (eqb b 35 ≡ false)
plain_digit b e = (grind (arith, nat_tests), grind (arith, nat_tests))

plain_number : (s rest : List ℕ) → s ≢ [] → list_all is_ascii_digit s ≡ true → IsPlain (s ++ rest)
plain_number [] rest ne all = absurd (ne refl)
plain_number (b ∷ s) rest ne all = plain_digit b (and_left (is_ascii_digit b) (list_all is_ascii_digit s) all)

plain_first : (s rest : List ℕ) → 0 < length s → ((is_blank (get_or s 0 0) ≡ false) × (eqb (get_or s 0 0) 35 ≡ false)) → IsPlain (s ++ rest)
plain_first [] rest some plain = absurd (omega arith)
plain_first (b ∷ s) rest some plain = plain

plain_identifier : (s rest : List ℕ) → Starts is_name_start s → IsPlain (s ++ rest)
plain_identifier [] rest starts = absurd starts
plain_identifier (b ∷ s) rest starts = plain_name b starts

plain_word : (word : Word) (s rest : List ℕ) → Spells word s → IsPlain (s ++ rest)
plain_word (w.Name c) s rest is = plain_identifier s rest is.0.starts
plain_word (w.Reserved word) s rest is =
    subst (λ (x : List ℕ). IsPlain (x ++ rest)) (sym is)
    (plain_identifier (reserved_spelling word) rest (starts_from_first (reserved_spelling word) (reserved_starts word)))
plain_word (w.Number n) s rest is = plain_number s rest is.some is.digits
plain_word w.Text s rest is = subst (λ (x : List ℕ). IsPlain (x ++ rest)) (sym is.quoted) (refl, refl)
plain_word (w.Mark mark) s rest is =
    let first = mark_first mark in
    subst (λ (x : List ℕ). IsPlain (x ++ rest)) (sym is) (plain_first (mark_spelling mark) rest (mark_len mark).0 (first.no_blank, first.no_comment))

plain_layout : (ps : List Piece) → IsLaid ps → IsPlain (layout ps)
plain_layout [] laid = tt
plain_layout (p ∷ ps) laid = plain_word p.word p.spelling (p.gap ++ layout ps) laid.0

no_gap : (bytes : List ℕ) → IsPlain bytes → gap_len false bytes ≡ 0
unfolding gap_len
no_gap [] h = refl
no_gap (b ∷ bytes) h = rw (h.1, h.0) refl

blank_only : (b : ℕ) → is_blank b ≡ true → eqb b 35 ≡ false
blank_only b e = grind (arith, nat_tests)

gap_of : (gap rest : List ℕ) → list_all is_blank gap ≡ true → IsPlain rest → gap_len false (gap ++ rest) ≡ length gap
unfolding gap_len
gap_of [] rest all h = no_gap rest h
gap_of (b ∷ gap) rest all h = elim (cases_Bool (is_blank b)) [
  | inl hit ↦ rw (blank_only b hit, hit, gap_of gap rest (rw hit at all) h) (omega arith)
  | inr miss ↦ absurd (let e : false ≡ true = rw miss at all in cc)
]

token_here : (text : List ℕ) (place : ℕ) (word : Word) (n : ℕ) → word_at (drop place text) ≡ Some (word, n)
    → token_at text place ≡ Some (record { word = word; from = place; to = place + n })
unfolding token_at
token_here text place word n e = rw e refl

-- the pieces from one on, with the blanks that stand before it
reads : (ps : List Piece) (front text : List ℕ) (from place : ℕ) → IsLaid ps → text ≡ front ++ layout ps → place ≡ length front → IsGap text from place
    → LeadsTo text from (tokens_of place ps) (length text)
reads [] front text from place laid e is_at gap =
    let is_end : place ≡ length text = is_at ∙ ap length (sym (e ∙ append-nil front)) in
    subst (IsGap text from) is_end gap
reads (p ∷ ps) front text from place laid e is_at gap =
    let behind = p.gap ++ layout ps in
    let to = place + length p.spelling in
    let here : drop place text ≡ p.spelling ++ behind = ap (drop place) e ∙ drop_at front (p.spelling ++ behind) place (sym is_at) in
    let read : word_at (drop place text) ≡ Some (p.word, length p.spelling) = ap word_at here ∙ spelled_is_read p.word p.spelling behind laid.0 laid.2 in
    let t : Token = record { word = p.word; from = place; to = to } in
    let token = token_is text place t (omega (arith, gap.within)) (token_here text place p.word (length p.spelling) read) in
    let e2 : text ≡ (front ++ p.spelling) ++ behind = e ∙ sym (append_assoc front p.spelling behind) in
    let ends : length (front ++ p.spelling) ≡ to = rw (length-append, is_at) refl in
    let after : drop to text ≡ behind = ap (drop to) e2 ∙ drop_at (front ++ p.spelling) behind to ends in
    let next : next_place text to ≡ to + length p.gap = ap (λ (n : ℕ). to + n) (ap (gap_len false) after
    ∙ gap_of p.gap (layout ps) laid.1 (plain_layout ps laid.3)) in
    let gap_behind : IsGap text to (to + length p.gap) = subst (IsGap text to) next (gap_is text to token.0.within) in
    let e3 : text ≡ ((front ++ p.spelling) ++ p.gap) ++ layout ps = e2 ∙ sym (append_assoc (front ++ p.spelling) p.gap (layout ps)) in
    let at3 : to + length p.gap ≡ length ((front ++ p.spelling) ++ p.gap) = ap (λ (n : ℕ). n + length p.gap) (sym ends)
    ∙ sym (length-append (front ++ p.spelling) p.gap) in
    (gap, token.0, reads ps ((front ++ p.spelling) ++ p.gap) text to (to + length p.gap) laid.3 e3 at3 gap_behind)

no_gap_first : (ps : List Piece) → IsLaid ps → IsGap (layout ps) 0 0
no_gap_first ps laid =
    let none : next_place (layout ps) 0 ≡ 0 = rw (no_gap (layout ps) (plain_layout ps laid)) refl in
    subst (IsGap (layout ps) 0) none (gap_is (layout ps) 0 (omega arith))

pub layout_is_read : LayoutIsRead
layout_is_read ps laid = tokens_read (layout ps) (tokens_of 0 ps) (reads ps [] (layout ps) 0 0 laid refl refl (no_gap_first ps laid))

-- the bytes of the tokens of pieces that stand behind a front
spelled_behind : (ps : List Piece) (front text : List ℕ) (place : ℕ) → text ≡ front ++ layout ps → place ≡ length front
    → map (bytes_of text) (tokens_of place ps) ≡ map (λ (p : Piece). p.spelling) ps
spelled_behind [] front text place e is_at = refl
spelled_behind (p ∷ ps) front text place e is_at =
    let behind = p.gap ++ layout ps in
    let to = place + length p.spelling in
    let here : drop place text ≡ p.spelling ++ behind = ap (drop place) e ∙ drop_at front (p.spelling ++ behind) place (sym is_at) in
    let count : to - place ≡ length p.spelling = omega arith in
    let first : take (to - place) (drop place text) ≡ p.spelling =
    ap (λ (n : ℕ). take n (drop place text)) count ∙ ap (take (length p.spelling)) here ∙ take_at p.spelling behind (length p.spelling) refl in
    let e3 : text ≡ ((front ++ p.spelling) ++ p.gap) ++ layout ps =
    e ∙ sym (append_assoc front p.spelling behind) ∙ sym (append_assoc (front ++ p.spelling) p.gap (layout ps)) in
    let at3 : to + length p.gap ≡ length ((front ++ p.spelling) ++ p.gap) = rw (length-append, length-append, is_at) refl in
    let rest = spelled_behind ps ((front ++ p.spelling) ++ p.gap) text (to + length p.gap) e3 at3 in
    ap (λ (x : List ℕ). x ∷ map (bytes_of text) (tokens_of (to + length p.gap) ps)) first ∙ ap (λ (xs : List (List ℕ)). p.spelling ∷ xs) rest

pub layout_is_spelled : LayoutIsSpelled
layout_is_spelled ps = spelled_behind ps [] (layout ps) 0 refl refl
