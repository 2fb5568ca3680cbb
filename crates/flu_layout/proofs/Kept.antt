-- The names and texts of a text that was read.
use Rattle.std.proofs.Common.{◌≡◌, ℕ, ◌+◌, ◌-◌, ◌≤◌, true, List, length, drop, ap, subst, ◌∙◌, arith}
use Rattle.std.specs.Prelude.{IsTrue, All, Contains, slice_range}
use Rattle.std.specs.List.{list_all}
use Rattle.std.specs.Str.{IsCharBoundary}
use Rattle.std.proofs.lemmas.List.{length-take}
use Rattle.flu_lemmas.proofs.Spans.{spelled_slice}
use Rattle.flu_names.specs.Names.{is_name, is_text_byte}
use Rattle.flu_text.specs.declared.words.Word.{Word}
use Rattle.flu_text.specs.declared.words.Word.TheVariants as w
use Rattle.flu_text.specs.declared.words.Token.{Token}
use Rattle.flu_text.specs.Grammar.{IsName, Spells, IsToken, IsSpan, IsInsideOfText}
use Rattle.flu_text.specs.Laws.{NamesAreTested, ReadingIsTokens, EachIsToken, EachIsSpan, EachIsInside}
use Rattle.flu_text.specs.declared.written.WrittenSpan.{WrittenSpan}
use Rattle.flu_text.specs.Signs.{Spanned, Named, Stands, is_name_word}
use Rattle.flu_layout.specs.Spelling.{name_of, inside}
use Rattle.flu_layout.specs.Stands.{IsQuoted}
use Rattle.flu_layout.specs.Laws.{ReadMayBePrinted}

-- what spells a name, whichever word it may spell besides, is one
spells_name : (word : Word) (s : List ℕ) → is_name_word word ≡ true → Spells word s → IsName s
spells_name (w.Name _) s named spelled = spelled.0
spells_name _ s named spelled = absurd cc

module _ (text : List ℕ) (ts : List Token) where
  -- what holds of all tokens holds of the one that a sign stands for
  of_token : (P : Token → Type 0) → All P ts → (t : Token) → Contains ts t → P t
  of_token P all t here = subst P here.2 (all here.0 t here.1)

  name_stands : NamesAreTested → All (IsToken text) ts → All (IsSpan text) ts → (s : WrittenSpan) → Stands ts (Named s)
      → is_name (name_of text s) ≡ true
  name_stands names each spans s stands =
      let t = stands.0 in
      let span = of_token (IsSpan text) spans t stands.1 in
      let token = of_token (IsToken text) each t stands.1 in
      let bytes : name_of text s ≡ slice_range text s.from s.to =
      spelled_slice text s.from s.to (omega (arith, span.rises)) (subst (IsCharBoundary text) stands.2.1 span.begins)
      (subst (IsCharBoundary text) stands.2.2 span.ends) in
      let name : IsName (slice_range text t.from t.to) = spells_name t.word (slice_range text t.from t.to) stands.2.0 token.spelled in
      let from_there : IsName (slice_range text s.from t.to) = subst (λ (k : ℕ). IsName (slice_range text k t.to)) stands.2.1 name in
      let there : IsName (slice_range text s.from s.to) = subst (λ (k : ℕ). IsName (slice_range text s.from k)) stands.2.2 from_there in
      ap is_name bytes ∙ (names (slice_range text s.from s.to)).1 there

  text_stands : All (IsInsideOfText text) ts → (s : WrittenSpan) → Stands ts (Spanned w.Text s) → IsQuoted text s
  text_stands insides s stands =
      let t = stands.0 in
      let within = of_token (IsInsideOfText text) insides t stands.1 stands.2.0 in
      let room : s.from + 2 ≤ s.to = omega (arith, within.room) in
      let begins : IsCharBoundary text (s.from + 1) = subst (λ (k : ℕ). IsCharBoundary text (k + 1)) stands.2.1 within.begins in
      let ends : IsCharBoundary text (s.to - 1) = subst (λ (k : ℕ). IsCharBoundary text (k - 1)) stands.2.2 within.ends in
      let is : inside text s ≡ slice_range text (s.from + 1) (s.to - 1) = spelled_slice text (s.from + 1) (s.to - 1) (omega arith) begins ends in
      let bytes : list_all is_text_byte (slice_range text (s.from + 1) (s.to - 1)) ≡ true =
      subst (λ (k : ℕ). IsTrue (list_all is_text_byte (slice_range text (s.from + 1) (k - 1)))) stands.2.2
      (subst (λ (k : ℕ). IsTrue (list_all is_text_byte (slice_range text (k + 1) (t.to - 1)))) stands.2.1 within.bytes) in
      let len = ap length is in
      record {
        room = room;
        begins = begins;
        ends = ends;
        is = is;
        bytes = ap (list_all is_text_byte) is ∙ bytes;
        short = omega (arith, len, within.short, within.room, length-take (s.to - 1 - (s.from + 1)) (drop (s.from + 1) text));
      }

pub read_may_be_printed : NamesAreTested → ReadingIsTokens → EachIsToken → EachIsSpan → EachIsInside → ReadMayBePrinted
read_may_be_printed names reads each spans insides text ts utf8 found =
    let are = (reads text ts).0 found in
    record {
      utf8 = utf8;
      tokens = each text ts are;
      names = λ s stands. name_stands text ts names (each text ts are) (spans text ts utf8 are) s stands;
      texts = λ s stands. text_stands text ts (insides text ts utf8 are) s stands;
    }
