-- The tokens of laid out words: each stands in the text as its word is spelled there.
use Rattle.std.proofs.Common.{◌≡◌, ◌<◌, ℕ, ◌+◌, true, List, [], ◌∷◌, ◌++◌, length, refl, ap, ◌∙◌, append_assoc, length-append, arith}
use Rattle.std.specs.Prelude.{nat_le, not, codes}
use Rattle.std.specs.List.{list_all}
use Rattle.std.specs.Str.{IsUtf8}
use Rattle.flu_lemmas.specs.Spans.{spelled}
use Rattle.flu_lemmas.proofs.Booleans.{four_second}
use Rattle.flu_lemmas.proofs.Digits.{alphanumeric_ascii}
use Rattle.flu_lemmas.proofs.Spans.{spelled_passing}
use Rattle.flu_names.specs.Names.{is_name, is_name_byte, begins_as_name, is_reserved}
use Rattle.flu_text.specs.Layout.{Piece, layout, tokens_of}
use Rattle.flu_text.specs.Laws.{LayoutIsRead, NamesAreTested}
use Rattle.flu_text.specs.Signs.{is_name_word}
use Rattle.flu_layout.specs.Laid.{AreLaid, laid_none, laid_name, laid_item, laid_reserved, laid_number, laid_text, laid_mark, laid_spaced}
use Rattle.flu_layout.specs.Stands.{Stand}
use Rattle.flu_layout.specs.Laws.{LaidIsRead, BegunAreSigns}
use Rattle.flu_layout.proofs.Laid.{is_laid}

-- ---- names
some : (n : List ℕ) → is_name n ≡ true → 0 < length n
some [] h = absurd cc
some (b ∷ n) h = omega arith

-- a name in a text, by its places
name_at : (whole before n after : List ℕ) (from : ℕ) → IsUtf8 whole → is_name n ≡ true → whole ≡ before ++ (n ++ after) → from ≡ length before
    → spelled whole from (from + length n) ≡ n
name_at whole before n after from utf8 named is here =
    spelled_passing is_name_byte alphanumeric_ascii whole before n after from (from + length n) utf8 (record { is = is; here = here }) refl (some n named)
    (four_second (begins_as_name n) (list_all is_name_byte n) (nat_le (length n) 32) (not (is_reserved n)) named)

-- ---- words
-- the first word stands in the text, and the others behind it
put : (before : List ℕ) (p : Piece) (ps : List Piece) (whole : List ℕ) (place : ℕ) → whole ≡ before ++ layout (p ∷ ps) → place ≡ length before
    → (is_name_word p.word ≡ true → spelled whole place (place + length p.spelling) ≡ p.spelling)
    → ((whole ≡ (before ++ (p.spelling ++ p.gap)) ++ layout ps) → (place + length p.spelling + length p.gap ≡ length (before ++ (p.spelling ++ p.gap)))
    → Stand whole ps (tokens_of (place + length p.spelling + length p.gap) ps))
    → Stand whole (p ∷ ps) (tokens_of place (p ∷ ps))
put before p ps whole place is at named more =
    let next : whole ≡ (before ++ (p.spelling ++ p.gap)) ++ layout ps = is ∙ simp append_assoc in
    let behind : place + length p.spelling + length p.gap ≡ length (before ++ (p.spelling ++ p.gap)) =
    omega (arith, at, length-append before (p.spelling ++ p.gap), length-append p.spelling p.gap) in (
      record { word = p.word; from = place; to = place + length p.spelling },
      tokens_of (place + length p.spelling + length p.gap) ps,
      refl,
      record { before = before; after = p.gap ++ layout ps; is = is; from = at; to = ap (λ n. n + length p.spelling) at; word = refl; named = named },
      more next behind,
    )

stand_from : (whole : List ℕ) → IsUtf8 whole → (ps : List Piece) → AreLaid ps → (before : List ℕ) (place : ℕ) → whole ≡ before ++ layout ps
    → place ≡ length before
    → Stand whole ps (tokens_of place ps)
stand_from whole utf8 ps laid_none before place is at = refl
stand_from whole utf8 ps (laid_name n behind rest named blank ends more) before place is at =
    put before _ rest whole place is at (λ e. name_at whole before n (behind ++ layout rest) place utf8 named is at)
    (λ next here. stand_from whole utf8 rest more _ _ next here)
stand_from whole utf8 ps (laid_item behind rest blank ends more) before place is at =
    put before _ rest whole place is at (λ e. name_at whole before (codes "item") (behind ++ layout rest) place utf8 refl is at)
    (λ next here. stand_from whole utf8 rest more _ _ next here)
stand_from whole utf8 ps (laid_reserved word behind rest blank ends more) before place is at =
    put before _ rest whole place is at (λ e. absurd cc) (λ next here. stand_from whole utf8 rest more _ _ next here)
stand_from whole utf8 ps (laid_number n behind rest literal blank ends more) before place is at =
    put before _ rest whole place is at (λ e. absurd cc) (λ next here. stand_from whole utf8 rest more _ _ next here)
stand_from whole utf8 ps (laid_text t behind rest bytes short blank more) before place is at =
    put before _ rest whole place is at (λ e. absurd cc) (λ next here. stand_from whole utf8 rest more _ _ next here)
stand_from whole utf8 ps (laid_mark word behind rest never blank more) before place is at =
    put before _ rest whole place is at (λ e. absurd cc) (λ next here. stand_from whole utf8 rest more _ _ next here)
stand_from whole utf8 ps (laid_spaced word rest more) before place is at =
    put before _ rest whole place is at (λ e. absurd cc) (λ next here. stand_from whole utf8 rest more _ _ next here)

pub laid_is_read : NamesAreTested → LayoutIsRead → LaidIsRead
laid_is_read names read ps laid utf8 = (read ps (is_laid names ps laid), stand_from (layout ps) utf8 ps laid [] 0 refl refl)

-- ---- signs
pub begun_are_signs : BegunAreSigns
begun_are_signs [] ts h = rw h tt
begun_are_signs (s ∷ signs) ts h = rw h.2 (h.3, begun_are_signs signs h.1 h.4)
