-- What the machine says of a job's head, by its first tokens, and so what the readers of a head do.
use Rattle.std.proofs.Common.{◌≡◌, ◌≢◌, ◌⊎◌, inl, inr, ℕ, ℤ, true, false, List, [], ◌∷◌, Option, Some, None, refl, sym, ap, ◌∙◌}
use Rattle.flu_text.specs.declared.words.Token.{Token}
use Rattle.flu_text.specs.declared.words.Word.{Word}
use Rattle.flu_text.specs.declared.words.Word.TheVariants as w
use Rattle.flu_text.specs.declared.words.Contextual.TheVariants as contextual
use Rattle.flu_names.specs.declared.reserved.Reserved.TheVariants as r
use Rattle.flu_text.specs.declared.written.WrittenSpan.{WrittenSpan}
use Rattle.flu_text.specs.declared.written.WrittenNumber.{WrittenNumber}
use Rattle.flu_syntax.specs.declared.tree.WrittenTies.{WrittenTies}
use Rattle.flu_text.specs.Signs.{is_name_word, span_of, number_of, number, place_of}
use Rattle.flu_syntax.specs.Machine.{Start, Unexpected, run, with_head, head_of, unit_of, unit_named, behind_iso, iso_or_more}
use Rattle.flu_syntax.specs.Machine.{ties_of, behind_ties, ties_counted, behind_the_word_ties, ties_or_more, behind_number, numbered, behind_version, headed}
use Rattle.flu_syntax.specs.Machine.{verdict}
use Rattle.flu_syntax.specs.Reading.{IsFirst as Begins, NotFirst, IsNumber, NotNumber, IsNamed, NotNamed}

abbrev pub version_word : Word
version_word = w.Reserved r.Version

abbrev pub ties_word : Word
ties_word = w.Name contextual.Ties

abbrev pub iso_word : Word
iso_word = w.Name contextual.Iso

pub version_or_not : (word : Word) → (word ≡ version_word) ⊎ (word ≢ version_word)
version_or_not (w.Reserved r.Version) = inl refl
version_or_not _ = inr (λ e. cc)

pub number_or_not : (word : Word) → ((n : ℤ) × (word ≡ w.Number n)) ⊎ ((n : ℤ) → word ≢ w.Number n)
number_or_not (w.Number n) = inl (n, refl)
number_or_not _ = inr (λ n e. cc)

pub ties_or_not : (word : Word) → (word ≡ ties_word) ⊎ (word ≢ ties_word)
ties_or_not (w.Name contextual.Ties) = inl refl
ties_or_not _ = inr (λ e. cc)

pub iso_or_not : (word : Word) → (word ≡ iso_word) ⊎ (word ≢ iso_word)
iso_or_not (w.Name contextual.Iso) = inl refl
iso_or_not _ = inr (λ e. cc)

pub name_or_not : (word : Word) → (is_name_word word ≡ true) ⊎ (is_name_word word ≡ false)
name_or_not (w.Name c) = inl refl
name_or_not _ = inr refl

-- ---- the verdict by its first tokens
pub verdict-plain : (end : ℕ) (tokens : List Token) → NotFirst version_word tokens → verdict end tokens ≡ with_head None (run end [] Start tokens)
unfolding verdict
verdict-plain end [] other = refl
verdict-plain end (t ∷ tokens) other = other_word t.word other
  where
    other_word : (word : Word) → word ≢ version_word → headed end t word tokens ≡ with_head None (run end [] Start (t ∷ tokens))
    other_word (w.Reserved r.Version) ne = absurd (ne refl)
    other_word _ ne = refl

pub verdict-versioned : (end : ℕ) (v : Token) (tokens : List Token) → v.word ≡ version_word → verdict end (v ∷ tokens) ≡ behind_version end tokens
unfolding verdict
verdict-versioned end v tokens is = rw is refl

pub numbered-number : (end : ℕ) (n : ℤ) (t : Token) (tokens : List Token) → t.word ≡ w.Number n
    → behind_version end (t ∷ tokens) ≡ behind_number end (number_of n t) tokens
numbered-number end n t tokens is = rw is refl

pub numbered-none : (end : ℕ) (tokens : List Token) → NotNumber tokens → behind_version end tokens ≡ Unexpected (place_of end tokens)
numbered-none end [] other = refl
numbered-none end (t ∷ tokens) other = other_word t.word other
  where
    other_word : (word : Word) → ((n : ℤ) → word ≢ w.Number n) → numbered end t word tokens ≡ Unexpected t.from
    other_word (w.Number n) ne = absurd (ne n refl)
    other_word _ ne = refl

pub number-plain : (end : ℕ) (n : WrittenNumber) (tokens : List Token) → NotFirst ties_word tokens → behind_number end n tokens ≡ behind_ties end n None tokens
number-plain end n [] other = refl
number-plain end n (t ∷ tokens) other = other_word t.word other
  where
    other_word : (word : Word) → word ≢ ties_word → ties_or_more end n t word tokens ≡ behind_ties end n None (t ∷ tokens)
    other_word (w.Name contextual.Ties) ne = absurd (ne refl)
    other_word _ ne = refl

pub number-ties : (end : ℕ) (n : WrittenNumber) (s : Token) (tokens : List Token) → s.word ≡ ties_word
    → behind_number end n (s ∷ tokens) ≡ behind_the_word_ties end n s.from tokens
number-ties end n s tokens is = rw is refl

pub ties-counted : (end : ℕ) (n : WrittenNumber) (at : ℕ) (m : ℤ) (t : Token) (tokens : List Token) → t.word ≡ w.Number m
    → behind_the_word_ties end n at (t ∷ tokens) ≡ behind_ties end n (Some (ties_of at (number_of m t))) tokens
ties-counted end n at m t tokens is = rw is refl

pub ties-none : (end : ℕ) (n : WrittenNumber) (at : ℕ) (tokens : List Token) → NotNumber tokens
    → behind_the_word_ties end n at tokens ≡ Unexpected (place_of end tokens)
ties-none end n at [] other = refl
ties-none end n at (t ∷ tokens) other = other_word t.word other
  where
    other_word : (word : Word) → ((m : ℤ) → word ≢ w.Number m) → ties_counted end n at t word tokens ≡ Unexpected t.from
    other_word (w.Number m) ne = absurd (ne m refl)
    other_word _ ne = refl

pub ties-alone : (end : ℕ) (n : WrittenNumber) (ties : Option WrittenTies) (tokens : List Token) → NotFirst iso_word tokens
    → behind_ties end n ties tokens ≡ with_head (Some (head_of n ties None)) (run end [] Start tokens)
ties-alone end n ties [] other = refl
ties-alone end n ties (t ∷ tokens) other = other_word t.word other
  where
    other_word : (word : Word) → word ≢ iso_word
        → iso_or_more end n ties t word tokens ≡ with_head (Some (head_of n ties None)) (run end [] Start (t ∷ tokens))
    other_word (w.Name contextual.Iso) ne = absurd (ne refl)
    other_word _ ne = refl

pub ties-iso : (end : ℕ) (n : WrittenNumber) (ties : Option WrittenTies) (i : Token) (tokens : List Token) → i.word ≡ iso_word
    → behind_ties end n ties (i ∷ tokens) ≡ behind_iso end n ties i.from tokens
ties-iso end n ties i tokens is = rw is refl

pub iso-named : (end : ℕ) (n : WrittenNumber) (ties : Option WrittenTies) (at : ℕ) (t : Token) (tokens : List Token) → is_name_word t.word ≡ true
    → behind_iso end n ties at (t ∷ tokens) ≡ with_head (Some (head_of n ties (Some (unit_of at (span_of t))))) (run end [] Start tokens)
iso-named end n ties at t tokens is = a_name t.word is
  where
    a_name : (word : Word) → is_name_word word ≡ true
        → unit_named end n ties at t word tokens ≡ with_head (Some (head_of n ties (Some (unit_of at (span_of t))))) (run end [] Start tokens)
    a_name (w.Name c) is = refl
    a_name (w.Reserved word) is = absurd cc
    a_name (w.Number m) is = absurd cc
    a_name w.Text is = absurd cc
    a_name (w.Mark m) is = absurd cc

pub iso-none : (end : ℕ) (n : WrittenNumber) (ties : Option WrittenTies) (at : ℕ) (tokens : List Token) → NotNamed tokens
    → behind_iso end n ties at tokens ≡ Unexpected (place_of end tokens)
iso-none end n ties at [] other = refl
iso-none end n ties at (t ∷ tokens) other = no_name t.word other
  where
    no_name : (word : Word) → is_name_word word ≡ false → unit_named end n ties at t word tokens ≡ Unexpected t.from
    no_name (w.Name c) is = absurd cc
    no_name _ is = refl

-- ---- what the readers of the head do
pub reads_no_version : (end : ℕ) (tokens : List Token) → NotFirst version_word tokens → verdict end tokens ≡ with_head None (run end [] Start tokens)
reads_no_version end tokens other = verdict-plain end tokens other

pub reads_version : (end : ℕ) (v : Token) (n : WrittenNumber) (tokens behind rest : List Token) → Begins version_word tokens v behind → IsNumber behind n rest
    → verdict end tokens ≡ behind_number end n rest
reads_version end v n tokens behind rest first number =
    let t = number.0 in
    ap (verdict end) first.0 ∙ verdict-versioned end v behind first.1 ∙ ap (behind_version end) number.1.0 ∙ numbered-number end n.value t rest number.1.1
    ∙ ap (λ m. behind_number end m rest) (sym number.2)

pub reads_no_number : (end : ℕ) (v : Token) (tokens behind : List Token) → Begins version_word tokens v behind → NotNumber behind
    → verdict end tokens ≡ Unexpected (place_of end behind)
reads_no_number end v tokens behind first other = ap (verdict end) first.0 ∙ verdict-versioned end v behind first.1 ∙ numbered-none end behind other

pub reads_no_ties : (end : ℕ) (n : WrittenNumber) (tokens : List Token) → NotFirst ties_word tokens
    → behind_number end n tokens ≡ behind_ties end n None tokens
reads_no_ties end n tokens other = number-plain end n tokens other

pub reads_ties : (end : ℕ) (n : WrittenNumber) (s : Token) (m : WrittenNumber) (tokens behind rest : List Token) → Begins ties_word tokens s behind
    → IsNumber behind m rest → behind_number end n tokens ≡ behind_ties end n (Some (ties_of s.from m)) rest
reads_ties end n s m tokens behind rest first number =
    let t = number.0 in
    ap (behind_number end n) first.0 ∙ number-ties end n s behind first.1 ∙ ap (behind_the_word_ties end n s.from) number.1.0
    ∙ ties-counted end n s.from m.value t rest number.1.1
    ∙ ap (λ own. behind_ties end n (Some (ties_of s.from own)) rest) (sym number.2)

pub reads_no_count : (end : ℕ) (n : WrittenNumber) (s : Token) (tokens behind : List Token) → Begins ties_word tokens s behind → NotNumber behind
    → behind_number end n tokens ≡ Unexpected (place_of end behind)
reads_no_count end n s tokens behind first other = ap (behind_number end n) first.0 ∙ number-ties end n s behind first.1 ∙ ties-none end n s.from behind other

pub reads_no_unit : (end : ℕ) (n : WrittenNumber) (ties : Option WrittenTies) (tokens : List Token) → NotFirst iso_word tokens
    → behind_ties end n ties tokens ≡ with_head (Some (head_of n ties None)) (run end [] Start tokens)
reads_no_unit end n ties tokens other = ties-alone end n ties tokens other

pub reads_unit : (end : ℕ) (n : WrittenNumber) (ties : Option WrittenTies) (i : Token) (name : WrittenSpan) (tokens behind rest : List Token)
    → Begins iso_word tokens i behind → IsNamed behind name rest
    → behind_ties end n ties tokens ≡ with_head (Some (head_of n ties (Some (unit_of i.from name)))) (run end [] Start rest)
reads_unit end n ties i name tokens behind rest first named =
    let t = named.0 in
    ap (behind_ties end n ties) first.0 ∙ ties-iso end n ties i behind first.1 ∙ ap (behind_iso end n ties i.from) named.1
    ∙ iso-named end n ties i.from t rest named.2
    ∙ ap (λ own. with_head (Some (head_of n ties (Some (unit_of i.from own)))) (run end [] Start rest)) (sym named.3)

pub reads_no_name : (end : ℕ) (n : WrittenNumber) (ties : Option WrittenTies) (i : Token) (tokens behind : List Token) → Begins iso_word tokens i behind
    → NotNamed behind → behind_ties end n ties tokens ≡ Unexpected (place_of end behind)
reads_no_name end n ties i tokens behind first other =
    ap (behind_ties end n ties) first.0 ∙ ties-iso end n ties i behind first.1 ∙ iso-none end n ties i.from behind other
