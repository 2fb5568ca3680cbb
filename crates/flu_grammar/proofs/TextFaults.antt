-- The faults of bytes, tokens and grammar: each comes where its rule is broken, and nowhere else.
use Rattle.std.proofs.Common.{◌≡◌, ◌⊎◌, inl, inr, ℕ, ◌<◌, ◌≤◌, Bool, true, false, cond, List, length, Ok, Err, refl, sym, ap, subst, ◌∙◌, arith}
use Rattle.std.specs.Prelude.{Result, nat_le}
use Rattle.std.specs.Str.{IsUtf8, is_utf8}
use Rattle.std.specs.Str.Lossy.{utf8_valid_len}
use Rattle.std.proofs.lemmas.Grind.{common_steps}
use Rattle.std.proofs.lemmas.Str.{IsUtf8-from_is_utf8, is_utf8-from_IsUtf8}
use Rattle.flu_lemmas.specs.Loops.{◌>>=◌, ◌>>◌}
use Rattle.flu_lemmas.proofs.Tests.{true_le, le_true, false_if_not, not_both}
use Rattle.flu_model.specs.declared.limits.What.TheVariants.{Bytes, Nesting}
use Rattle.flu_model.specs.Erasure.{Job}
use Rattle.flu_text.specs.declared.words.Token.{Token}
use Rattle.flu_text.specs.Reading.{reading, Reading as TokenReading}
use Rattle.flu_text.specs.Grammar.{AreTokens, IsFirstBadPlace}
use Rattle.flu_text.specs.Laws.{ReadingIsTokens, ReadingIsBadPlace}
use Rattle.flu_syntax.specs.Tree.{Job as WrittenJob}
use Rattle.flu_syntax.specs.Laws.{UnexpectedIsFirst, TooDeepIsThe65th}
use Rattle.flu_syntax.specs.Machine.{Verdict, verdict, Found as IsVerdict, Unexpected, TooDeep}
use Rattle.flu_parse.specs.declared.faults.JobFault.{JobFault}
use Rattle.flu_parse.specs.declared.faults.JobFault.TheVariants as f
use Rattle.flu_parse.specs.Faults.{Found, unless}
use Rattle.flu_parse.specs.Resolving.{resolved}
use Rattle.flu_parse.specs.Reading.{text_in, found_tokens, tokens_in, found_job, written_in, job_in}
use Rattle.flu_grammar.specs.Texts.{IsShortText}
use Rattle.flu_grammar.specs.Faults.{BytesAreTooMany, BytesAreNotUtf8, NoTokenBegins, IsNotContinued, UnexpectedIsNotContinued, OpensTooMany}
use Rattle.flu_grammar.specs.Faults.{TooManyAreOpen}
use Rattle.flu_grammar.proofs.Looks.{ok_same, passes}
use Rattle.flu_grammar.proofs.JobTexts.{tokens_are, verdict_is}
use Rattle.flu_grammar.proofs.FaultKinds.{IsOfWritten, Plain, resolved_faults}

-- ---- where a fault comes from

module _ {E A B : Type 0} where
  pub fault_from : (r : Result A E) (g : A → Result B E) (e : E) → (r >>= g) ≡ Err e → (r ≡ Err e) ⊎ ((x : A) × (r ≡ Ok x) × (g x ≡ Err e))
  fault_from (Ok x) g e h = inr (x, refl, h)
  fault_from (Err y) g e h = let same : y ≡ e = cc in inl (ap (λ (z : E). let r : Result A E = Err z in r) same)

  fault_on : (r : Result A E) (g : A → Result B E) (e : E) → r ≡ Err e → (r >>= g) ≡ Err e
  fault_on r g e h = ap (λ s. s >>= g) h

module _ {E B : Type 0} where
  pub fault_then : (b : Bool) (fault : E) (r : Result B E) (e : E) → (cond {A = Result (Unit {0}) E} b (Ok tt) (Err fault) >> r) ≡ Err e
      → ((b ≡ false) × (fault ≡ e)) ⊎ ((b ≡ true) × (r ≡ Err e))
  fault_then true fault r e h = inr (refl, h)
  fault_then false fault r e h = inl (refl, cc)

  fault_first : (b : Bool) (fault : E) (r : Result B E) → b ≡ false → (cond {A = Result (Unit {0}) E} b (Ok tt) (Err fault) >> r) ≡ Err fault
  fault_first b fault r h = ap (λ c. cond {A = Result (Unit {0}) E} c (Ok tt) (Err fault) >> r) h

-- the faults that the looks at a written job find
abbrev IsOfJob : JobFault → Type 0
IsOfJob (f.UnknownName at) = Unit {0}
IsOfJob (f.TwiceNamed at) = Unit {0}
IsOfJob (f.WrongShape at) = Unit {0}
IsOfJob (f.OverLimit what count) = IsOfWritten what
IsOfJob _ = ⊥

of_job : Plain IsOfJob
of_job = record { unknown = λ at. tt; shape = λ at. tt; limit = λ what count is. is }

-- where a fault of a text comes from
pub data ComesFrom (bytes : List ℕ) (e : JobFault) : Type 0 where
  of_bytes : nat_le (length bytes) 1048576 ≡ false → f.OverLimit Bytes 1048577 ≡ e → ComesFrom bytes e
  of_utf8 : nat_le (length bytes) 1048576 ≡ true → is_utf8 bytes ≡ false → f.BadUtf8 (utf8_valid_len bytes) ≡ e → ComesFrom bytes e
  of_token : (at : ℕ) → IsShortText bytes → reading bytes ≡ Err at → f.BadToken at ≡ e → ComesFrom bytes e
  of_grammar : (ts : List Token) → IsShortText bytes → reading bytes ≡ Ok ts → found_job (verdict (length bytes) ts) ≡ Err e → ComesFrom bytes e
  of_written : (ts : List Token) (written : WrittenJob) → IsShortText bytes → reading bytes ≡ Ok ts → verdict (length bytes) ts ≡ IsVerdict written
      → resolved bytes written ≡ Err e → ComesFrom bytes e

tokens_fault : (r : TokenReading) (e : JobFault) → found_tokens r ≡ Err e → (at : ℕ) × (r ≡ Err at) × (f.BadToken at ≡ e)
tokens_fault (Ok ts) e h = absurd cc
tokens_fault (Err at) e h = (at, refl, cc)

abbrev the_rest : List ℕ → Found Job
the_rest text = tokens_in text >>= λ ts. written_in (length text) ts >>= λ written. resolved text written

written_from : (bytes : List ℕ) (e : JobFault) → IsShortText bytes → the_rest bytes ≡ Err e → ComesFrom bytes e
written_from bytes e short h =
    elim (fault_from (tokens_in bytes) (λ ts. written_in (length bytes) ts >>= λ written. resolved bytes written) e h) [
      | inl at ↦ (let fault = tokens_fault (reading bytes) e at in of_token fault.0 short fault.1 fault.2)
      | inr ts ↦
          elim (fault_from (written_in (length bytes) ts.0) (λ written. resolved bytes written) e ts.2) [
            | inl at ↦ of_grammar ts.0 short (tokens_are (reading bytes) ts.0 ts.1) at
            | inr written ↦
                of_written ts.0 written.0 short (tokens_are (reading bytes) ts.0 ts.1) (verdict_is (verdict (length bytes) ts.0) written.0 written.1) written.2
          ]
    ]

pub comes_from : (bytes : List ℕ) (e : JobFault) → job_in bytes ≡ Err e → ComesFrom bytes e
unfolding job_in
comes_from bytes e h =
    elim (fault_then (nat_le (length bytes) 1048576) (f.OverLimit Bytes 1048577) (text_in bytes >>= λ text. the_rest text) e h) [
      | inl long ↦ of_bytes long.0 long.1
      | inr few ↦
          elim (fault_from (text_in bytes) (λ text. the_rest text) e few.1) [
            | inl at ↦
                elim (fault_then (is_utf8 bytes) (f.BadUtf8 (utf8_valid_len bytes)) (let r : Found (List ℕ) = Ok bytes in r) e at) [
                  | inl other ↦ of_utf8 few.0 other.0 other.1
                  | inr same ↦ absurd (let bad : (let r : Found (List ℕ) = Ok bytes in r) ≡ Err e = same.1 in cc)
                ]
            | inr text ↦ in_text few.0 text.0 text.1 text.2
          ]
    ]
  where
    in_text : nat_le (length bytes) 1048576 ≡ true → (text : List ℕ) → text_in bytes ≡ Ok text → the_rest text ≡ Err e → ComesFrom bytes e
    in_text few text is h = utf8 (is_utf8 bytes) refl is
      where
        utf8 : (b : Bool) → is_utf8 bytes ≡ b → (unless b (f.BadUtf8 (utf8_valid_len bytes)) >> Ok bytes) ≡ Ok text → ComesFrom bytes e
        utf8 false other is = absurd cc
        utf8 true passes_it is =
            let same : text ≡ bytes = sym (ok_same bytes text is) in
            written_from bytes e (record { short = true_le (length bytes) 1048576 few; utf8 = IsUtf8-from_is_utf8 bytes passes_it })
            (subst (λ (x : List ℕ). the_rest x ≡ Err e) same h)

-- ---- what each says

pub longer : (n : ℕ) → nat_le n 1048576 ≡ false → 1048576 < n
longer n e = grind (arith, common_steps)

not_few : (n : ℕ) → 1048576 < n → nat_le n 1048576 ≡ false
not_few n lt = grind (arith, common_steps)

grammar_fault : (v : Verdict WrittenJob) (e : JobFault) → found_job v ≡ Err e
    → ((at : ℕ) × (v ≡ Unexpected at) × (f.Unexpected at ≡ e)) ⊎ ((v ≡ TooDeep) × (f.OverLimit Nesting 65 ≡ e))
grammar_fault (IsVerdict job) e h = absurd cc
grammar_fault (Unexpected at) e h = inl (at, refl, cc)
grammar_fault TooDeep e h = inr (refl, cc)

bytes_fault : (bytes : List ℕ) (count : ℕ) → ComesFrom bytes (f.OverLimit Bytes count) → (1048576 < length bytes) × (count ≡ 1048577)
bytes_fault bytes count (of_bytes long is) = (longer (length bytes) long, cc)
bytes_fault bytes count (of_utf8 few other is) = absurd cc
bytes_fault bytes count (of_token at short bad is) = absurd cc
bytes_fault bytes count (of_grammar ts short read fault) =
    elim (grammar_fault (verdict (length bytes) ts) (f.OverLimit Bytes count) fault) [
      | inl unexpected ↦ absurd (let bad : f.Unexpected unexpected.0 ≡ f.OverLimit Bytes count = unexpected.2 in cc)
      | inr deep ↦ absurd (let bad : f.OverLimit Nesting 65 ≡ f.OverLimit Bytes count = deep.1 in nesting_not_bytes (what_same bad))
    ]
  where
    what_same : f.OverLimit Nesting 65 ≡ f.OverLimit Bytes count → Nesting ≡ Bytes
    what_same e = cc

    nesting_not_bytes : Nesting ≡ Bytes → ⊥
    nesting_not_bytes e = cc
bytes_fault bytes count (of_written ts written short read found is) =
    absurd (resolved_faults IsOfJob of_job bytes (λ at. tt) written (f.OverLimit Bytes count) is)

utf8_fault : (bytes : List ℕ) (at : ℕ) → ComesFrom bytes (f.BadUtf8 at) → (length bytes ≤ 1048576) × (IsUtf8 bytes → ⊥) × (at ≡ utf8_valid_len bytes)
utf8_fault bytes at (of_bytes long is) = absurd cc
utf8_fault bytes at (of_utf8 few other is) =
    (true_le (length bytes) 1048576 few, λ utf8. not_both (is_utf8 bytes) (is_utf8-from_IsUtf8 bytes utf8) other, cc)
utf8_fault bytes at (of_token place short bad is) = absurd cc
utf8_fault bytes at (of_grammar ts short read fault) =
    elim (grammar_fault (verdict (length bytes) ts) (f.BadUtf8 at) fault) [
      | inl unexpected ↦ absurd (let bad : f.Unexpected unexpected.0 ≡ f.BadUtf8 at = unexpected.2 in cc)
      | inr deep ↦ absurd (let bad : f.OverLimit Nesting 65 ≡ f.BadUtf8 at = deep.1 in cc)
    ]
utf8_fault bytes at (of_written ts written short read found is) = absurd (resolved_faults IsOfJob of_job bytes (λ at. tt) written (f.BadUtf8 at) is)

token_fault : ReadingIsBadPlace → (bytes : List ℕ) (at : ℕ) → ComesFrom bytes (f.BadToken at) → IsShortText bytes × IsFirstBadPlace bytes at
token_fault place bytes at (of_bytes long is) = absurd cc
token_fault place bytes at (of_utf8 few other is) = absurd cc
token_fault place bytes at (of_token found short bad is) =
    let same : found ≡ at = cc in
    (short, (place bytes at).0 (bad ∙ ap (λ (n : ℕ). let r : TokenReading = Err n in r) same))
token_fault place bytes at (of_grammar ts short read fault) =
    elim (grammar_fault (verdict (length bytes) ts) (f.BadToken at) fault) [
      | inl unexpected ↦ absurd (let bad : f.Unexpected unexpected.0 ≡ f.BadToken at = unexpected.2 in cc)
      | inr deep ↦ absurd (let bad : f.OverLimit Nesting 65 ≡ f.BadToken at = deep.1 in cc)
    ]
token_fault place bytes at (of_written ts written short read found is) = absurd (resolved_faults IsOfJob of_job bytes (λ at. tt) written (f.BadToken at) is)

unexpected_fault : ReadingIsTokens → UnexpectedIsFirst → (bytes : List ℕ) (at : ℕ) → ComesFrom bytes (f.Unexpected at)
    → IsNotContinued bytes at
unexpected_fault tokens first bytes at (of_bytes long is) = absurd cc
unexpected_fault tokens first bytes at (of_utf8 few other is) = absurd cc
unexpected_fault tokens first bytes at (of_token found short bad is) = absurd cc
unexpected_fault tokens first bytes at (of_grammar ts short read fault) =
    elim (grammar_fault (verdict (length bytes) ts) (f.Unexpected at) fault) [
      | inl unexpected ↦
          let same : unexpected.0 ≡ at = at_same unexpected.0 unexpected.2 in
          record {
            text = short;
            tokens = ts;
            cut = (tokens bytes ts).0 read;
            first = (first (length bytes) ts at).0 (unexpected.1 ∙ ap (λ (n : ℕ). let v : Verdict WrittenJob = Unexpected n in v) same);
          }
      | inr deep ↦ absurd (let bad : f.OverLimit Nesting 65 ≡ f.Unexpected at = deep.1 in cc)
    ]
  where
    at_same : (n : ℕ) → f.Unexpected n ≡ f.Unexpected at → n ≡ at
    at_same n e = cc
unexpected_fault tokens first bytes at (of_written ts written short read found is) =
    absurd (resolved_faults IsOfJob of_job bytes (λ at. tt) written (f.Unexpected at) is)

nesting_fault : ReadingIsTokens → TooDeepIsThe65th → (bytes : List ℕ) (count : ℕ) → ComesFrom bytes (f.OverLimit Nesting count)
    → OpensTooMany bytes × (count ≡ 65)
nesting_fault tokens deep bytes count (of_bytes long is) = absurd (bytes_not_nesting (what_same is))
  where
    what_same : f.OverLimit Bytes 1048577 ≡ f.OverLimit Nesting count → Bytes ≡ Nesting
    what_same e = cc

    bytes_not_nesting : Bytes ≡ Nesting → ⊥
    bytes_not_nesting e = cc
nesting_fault tokens deep bytes count (of_utf8 few other is) = absurd cc
nesting_fault tokens deep bytes count (of_token found short bad is) = absurd cc
nesting_fault tokens deep bytes count (of_grammar ts short read fault) =
    elim (grammar_fault (verdict (length bytes) ts) (f.OverLimit Nesting count) fault) [
      | inl unexpected ↦ absurd (let bad : f.Unexpected unexpected.0 ≡ f.OverLimit Nesting count = unexpected.2 in cc)
      | inr too_deep ↦
          (record { text = short; tokens = ts; cut = (tokens bytes ts).0 read; deep = (deep (length bytes) ts).0 too_deep.0 }, count_same too_deep.1)
    ]
  where
    count_same : f.OverLimit Nesting 65 ≡ f.OverLimit Nesting count → count ≡ 65
    count_same e = let same : 65 ≡ count = cc in sym same
nesting_fault tokens deep bytes count (of_written ts written short read found is) =
    absurd (resolved_faults IsOfJob of_job bytes (λ at. tt) written (f.OverLimit Nesting count) is)

-- ---- and where it is found

too_many : (bytes : List ℕ) (count : ℕ) → (1048576 < length bytes) × (count ≡ 1048577) → job_in bytes ≡ Err (f.OverLimit Bytes count)
unfolding job_in
too_many bytes count h =
    fault_first (nat_le (length bytes) 1048576) (f.OverLimit Bytes 1048577) (text_in bytes >>= λ text. the_rest text) (not_few (length bytes) h.0)
    ∙ ap (λ (n : ℕ). let r : Found Job = Err (f.OverLimit Bytes n) in r) (sym h.1)

behind_length : (bytes : List ℕ) (e : JobFault) → length bytes ≤ 1048576 → (text_in bytes >>= λ text. the_rest text) ≡ Err e → job_in bytes ≡ Err e
unfolding job_in
behind_length bytes e few h =
    ap (λ c. cond {A = Found (Unit {0})} c (Ok tt) (Err (f.OverLimit Bytes 1048577)) >> (text_in bytes >>= λ text. the_rest text)) (le_true
    (length bytes) 1048576 few) ∙ h

not_utf8 : (bytes : List ℕ) (at : ℕ) → (length bytes ≤ 1048576) × (IsUtf8 bytes → ⊥) × (at ≡ utf8_valid_len bytes) → job_in bytes ≡ Err (f.BadUtf8 at)
not_utf8 bytes at h =
    let other : is_utf8 bytes ≡ false = false_if_not (is_utf8 bytes) (λ e. h.1 (IsUtf8-from_is_utf8 bytes e)) in
    behind_length bytes (f.BadUtf8 at) h.0 (fault_on (text_in bytes) (λ text. the_rest text) (f.BadUtf8 at)
    (fault_first (is_utf8 bytes) (f.BadUtf8 (utf8_valid_len bytes)) (let r : Found (List ℕ) = Ok bytes in r) other
    ∙ ap (λ (n : ℕ). let r : Found (List ℕ) = Err (f.BadUtf8 n) in r) (sym h.2)))

no_token : ReadingIsBadPlace → (bytes : List ℕ) (at : ℕ) → IsShortText bytes × IsFirstBadPlace bytes at → job_in bytes ≡ Err (f.BadToken at)
no_token place bytes at h =
    behind_length bytes (f.BadToken at) (h.0).short
    (ap (λ s. s >>= λ text. the_rest text) (passes (is_utf8 bytes) (f.BadUtf8 (utf8_valid_len bytes)) (let r : Found (List ℕ) = Ok bytes in r) bytes
    (is_utf8-from_IsUtf8 bytes (h.0).utf8) refl)
    ∙ fault_on (tokens_in bytes) (λ ts. written_in (length bytes) ts >>= λ written. resolved bytes written) (f.BadToken at)
    (ap found_tokens ((place bytes at).1 h.1)))

-- a text of tokens in which the grammar finds a fault has it
in_grammar : ReadingIsTokens → (bytes : List ℕ) (ts : List Token) (e : JobFault) → IsShortText bytes → AreTokens bytes ts → written_in (length bytes) ts ≡ Err e
    → job_in bytes ≡ Err e
in_grammar tokens bytes ts e short cut found =
    behind_length bytes e short.short
    (ap (λ s. s >>= λ text. the_rest text) (passes (is_utf8 bytes) (f.BadUtf8 (utf8_valid_len bytes)) (let r : Found (List ℕ) = Ok bytes in r) bytes
    (is_utf8-from_IsUtf8 bytes short.utf8) refl)
    ∙ ap (λ r. r >>= λ ts. written_in (length bytes) ts >>= λ written. resolved bytes written) (ap found_tokens ((tokens bytes ts).1 cut))
    ∙ fault_on (written_in (length bytes) ts) (λ written. resolved bytes written) e found)

pub bytes_are_too_many : BytesAreTooMany
bytes_are_too_many = λ bytes count. (λ e. bytes_fault bytes count (comes_from bytes (f.OverLimit Bytes count) e), too_many bytes count)

pub bytes_are_not_utf8 : BytesAreNotUtf8
bytes_are_not_utf8 = λ bytes at. (λ e. utf8_fault bytes at (comes_from bytes (f.BadUtf8 at) e), not_utf8 bytes at)

pub no_token_begins : ReadingIsBadPlace → NoTokenBegins
no_token_begins place = λ bytes at. (λ e. token_fault place bytes at (comes_from bytes (f.BadToken at) e), no_token place bytes at)

pub unexpected_is_not_continued : ReadingIsTokens → UnexpectedIsFirst → UnexpectedIsNotContinued
unexpected_is_not_continued tokens first = λ bytes at. (
  λ e. unexpected_fault tokens first bytes at (comes_from bytes (f.Unexpected at) e),
  λ is. in_grammar tokens bytes is.tokens (f.Unexpected at) is.text is.cut (ap found_job ((first (length bytes) is.tokens at).1 is.first)),
)

pub too_many_are_open : ReadingIsTokens → TooDeepIsThe65th → TooManyAreOpen
too_many_are_open tokens deep = λ bytes count. (
  λ e. nesting_fault tokens deep bytes count (comes_from bytes (f.OverLimit Nesting count) e),
  λ is. in_grammar tokens bytes is.0.tokens (f.OverLimit Nesting count) is.0.text is.0.cut
      (ap found_job ((deep (length bytes) is.0.tokens).1 is.0.deep)
      ∙ ap (λ (n : ℕ). let r : Found WrittenJob = Err (f.OverLimit Nesting n) in r) (sym is.1)),
)
