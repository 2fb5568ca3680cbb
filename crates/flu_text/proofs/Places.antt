-- The token that is read at a place is the one that stands there.
use Rattle.std.proofs.Common.{◌≡◌, ◌≢◌, ℕ, ◌+◌, ◌-◌, ◌<◌, ◌≤◌, List, [], ◌∷◌, length, take, drop, Some, refl, sym, ap, subst, arith}
use Rattle.std.proofs.lemmas.List.{length-take, length-drop}
use Rattle.flu_text.specs.declared.words.Word.{Word}
use Rattle.flu_text.specs.declared.words.Word.TheVariants as w
use Rattle.flu_text.specs.declared.words.Token.{Token}
use Rattle.flu_text.specs.Grammar.{Starts, IsLexeme, Spells, IsToken}
use Rattle.flu_names.specs.Names.{is_name_start}
use Rattle.flu_text.specs.Lexeme.{word_at}
use Rattle.flu_text.specs.Reading.{token_at}
use Rattle.flu_lemmas.proofs.Prefixes.{mapped}
use Rattle.flu_text.proofs.Tables.{reserved_len, mark_len}
use Rattle.flu_text.proofs.Spelled.{length-quoted}
use Rattle.flu_text.proofs.Front.{IsFront, word_front, front_word}

-- each word takes a byte at least
starts_some : (s : List ℕ) → Starts is_name_start s → 0 < length s
starts_some [] starts = absurd starts
starts_some (b ∷ s) starts = omega arith

not_nil_some : (s : List ℕ) → s ≢ [] → 0 < length s
not_nil_some [] ne = absurd (ne refl)
not_nil_some (b ∷ s) ne = omega arith

pub spelled_some : (word : Word) (s : List ℕ) → Spells word s → 0 < length s
spelled_some (w.Name c) s is = starts_some s is.0.starts
spelled_some (w.Reserved r) s is = rw is (reserved_len r).0
spelled_some (w.Number n) s is = not_nil_some s is.some
spelled_some w.Text s is = let lengths = ap length is.quoted in omega (arith, lengths, length-quoted is.inside)
spelled_some (w.Mark mark) s is = rw is (mark_len mark).0

pub token_rises : (text : List ℕ) (t : Token) → IsToken text t → t.from < t.to
token_rises text t is =
    let some = spelled_some t.word (take (t.to - t.from) (drop t.from text)) is.spelled in
    omega (arith, some, length-take (t.to - t.from) (drop t.from text))

token_of_front : (text : List ℕ) (place : ℕ) (word : Word) (n : ℕ) → place ≤ length text → IsFront (drop place text) (word, n)
    → IsToken text (record { word = word; from = place; to = place + n })
token_of_front text place word n le front =
    let len : place + n - place ≡ n = omega arith in
    record {
      within = omega (arith, front.within, length-drop place text);
      spelled = subst (λ (k : ℕ). Spells word (take k (drop place text))) (sym len) front.spelled;
      longest = λ to at_most lexeme.
          let longest = front.longest (to - place) (omega (arith, length-drop place text)) lexeme in
          omega (arith, longest);
    }

pub token_is : (text : List ℕ) (place : ℕ) (t : Token) → place ≤ length text → token_at text place ≡ Some t → IsToken text t × (t.from ≡ place)
unfolding token_at
token_is text place t le e =
    let h = mapped (λ (p : Word × ℕ). let t : Token = record { word = p.0; from = place; to = place + p.1 } in t) (word_at (drop place text)) t e in
    let front = word_front (drop place text) h.0 h.1 in
    let made : Token = record { word = h.0.0; from = place; to = place + h.0.1 } in
    let same : made ≡ t = h.2 in
    (subst (IsToken text) same (token_of_front text place h.0.0 h.0.1 le front), sym (ap (λ (k : Token). k.from) same))

pub token_found : (text : List ℕ) (t : Token) → IsToken text t → token_at text t.from ≡ Some t
unfolding token_at
token_found text t is =
    let rises = token_rises text t is in
    let bytes = drop t.from text in
    let read : word_at bytes ≡ Some (t.word, t.to - t.from) =
    front_word bytes t.word (t.to - t.from) (omega (arith, is.within, length-drop t.from text)) is.spelled
    (λ (k : ℕ) (le : k ≤ length bytes) (lexeme : IsLexeme (take k bytes)).
    let same : t.from + k - t.from ≡ k = omega arith in
    let longest = is.longest (t.from + k) (omega (arith, is.within, length-drop t.from text)) (subst (λ (n : ℕ). IsLexeme (take n bytes)) (sym same) lexeme) in
    omega (arith, longest)) in
    let back : t.from + (t.to - t.from) ≡ t.to = omega arith in
    rw (read, back) refl
