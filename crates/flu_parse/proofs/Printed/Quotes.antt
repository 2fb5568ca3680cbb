-- What stands between the quotes of a text's token, and a name at a place of a text.
use Rattle.std.proofs.Common.{◌≡◌, ℕ, ◌+◌, ◌-◌, true, List, [], ◌∷◌, ◌++◌, length, ◌∙◌, append_assoc, length-append, arith}
use Rattle.std.specs.Prelude.{nat_le, not}
use Rattle.std.specs.List.{list_all}
use Rattle.std.specs.Str.{IsUtf8}
use Rattle.flu_lemmas.specs.Spans.{is_boundary, spelled}
use Rattle.flu_lemmas.proofs.Booleans.{four_second}
use Rattle.flu_lemmas.proofs.Digits.{alphanumeric_ascii}
use Rattle.flu_lemmas.proofs.Spans.{Place, before_ascii, after_ascii, spelled_between, spelled_passing}
use Rattle.flu_names.specs.Names.{is_name, is_name_byte, begins_as_name, is_reserved}
use Rattle.flu_text.specs.declared.words.Token.{Token}
use Rattle.flu_text.specs.declared.written.WrittenSpan.{WrittenSpan}
use Rattle.flu_text.specs.Signs.{span_of}
use Rattle.flu_layout.specs.Spelling.{inside}
use Rattle.flu_layout.specs.Laid.{text}
use Rattle.flu_layout.specs.Stands.{StandsFor}

-- the bytes of a name
pub name_bytes : (n : List ℕ) → is_name n ≡ true → list_all is_name_byte n ≡ true
name_bytes n named = four_second (begins_as_name n) (list_all is_name_byte n) (nat_le (length n) 32) (not (is_reserved n)) named

pub name_between : (whole before n after : List ℕ) (from to : ℕ) → IsUtf8 whole → is_name n ≡ true → Place whole before (n ++ after) from → to ≡ from + length n
    → spelled whole from to ≡ n
name_between whole before [] after from to utf8 named place size = absurd cc
name_between whole before (b ∷ n) after from to utf8 named place size =
    spelled_passing is_name_byte alphanumeric_ascii whole before (b ∷ n) after from to utf8 place size (omega arith) (name_bytes (b ∷ n) named)

-- a text's token: what stands between its quotes, and where
pub record Quoted (whole t : List ℕ) (s : WrittenSpan) : Type 0 where
  pub before : List ℕ
  pub after : List ℕ
  pub place : Place whole before (t ++ 34 ∷ after) (s.from + 1)
  pub end : s.to - 1 ≡ s.from + 1 + length t
  pub begins : is_boundary whole (s.from + 1) ≡ true
  pub ends : is_boundary whole (s.to - 1) ≡ true

pub text_stands : (whole t behind : List ℕ) (k : Token) → IsUtf8 whole → StandsFor whole (text t behind) k → Quoted whole t (span_of k)
text_stands whole t behind k utf8 h =
    let opened : whole ≡ h.before ++ (34 ∷ (t ++ (34 ∷ h.after))) = h.is ∙ simp append_assoc in
    let is : whole ≡ (h.before ++ 34 ∷ []) ++ (t ++ (34 ∷ h.after)) = opened ∙ simp append_assoc in
    let here : k.from + 1 ≡ length (h.before ++ 34 ∷ []) = omega (arith, h.from, length-append h.before (34 ∷ [])) in
    let size : length (34 ∷ (t ++ 34 ∷ [])) ≡ length t + 2 = omega (arith, length-append t (34 ∷ [])) in
    let end : k.to - 1 ≡ k.from + 1 + length t = omega (arith, h.to, h.from, size) in
    let closed : whole ≡ ((h.before ++ 34 ∷ []) ++ t) ++ (34 ∷ h.after) = is ∙ simp append_assoc in
    let there : k.to - 1 ≡ length ((h.before ++ 34 ∷ []) ++ t) = omega (arith, end, here, length-append (h.before ++ 34 ∷ []) t) in
    record {
      before = h.before ++ 34 ∷ [];
      after = h.after;
      place = record { is = is; here = here };
      end = end;
      begins = after_ascii whole h.before 34 (t ++ (34 ∷ h.after)) k.from utf8 (record { is = opened; here = h.from }) (omega arith);
      ends = before_ascii whole ((h.before ++ 34 ∷ []) ++ t) 34 h.after (k.to - 1) (record { is = closed; here = there }) (omega arith);
    }

pub inside_stands : (whole t : List ℕ) (s : WrittenSpan) → Quoted whole t s → inside whole s ≡ t
inside_stands whole t s q = spelled_between whole q.before t (34 ∷ q.after) (s.from + 1) (s.to - 1) q.place q.end q.begins q.ends
