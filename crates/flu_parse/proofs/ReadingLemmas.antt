-- Bytes that are UTF-8, and bytes that are not.
use Rattle.std.proofs.Common.{◌≡◌, ℕ, Bool, List, sym, ap, ◌∙◌}
use Rattle.std.specs.Prelude.{Ok, Err}
use Rattle.std.specs.Str.{IsUtf8, is_utf8}
use Rattle.std.specs.Str.Lossy.{utf8_valid_len}
use Rattle.std.proofs.lemmas.Bool.{false_from_ne_true}
use Rattle.std.proofs.lemmas.Str.{IsUtf8-from_is_utf8, is_utf8-from_IsUtf8}
use Rattle.flu_parse.specs.declared.faults.JobFault.TheVariants as f
use Rattle.flu_parse.specs.Faults.{Found, ◌>>◌, unless}
use Rattle.flu_parse.specs.Reading.{text_in}

-- the bytes, where a test of them passes
abbrev tested : List ℕ → Bool → Found (List ℕ)
tested bytes passes = unless passes (f.BadUtf8 (utf8_valid_len bytes)) >> Ok bytes

pub text_in-utf8 : (bytes text : List ℕ) → text ≡ bytes → IsUtf8 bytes → text_in bytes ≡ Ok text
text_in-utf8 bytes text same utf8 = ap (tested bytes) (is_utf8-from_IsUtf8 bytes utf8) ∙ ap Ok (sym same)

pub text_in-other : (bytes : List ℕ) (at : ℕ) → (IsUtf8 bytes → ⊥) → at ≡ utf8_valid_len bytes → text_in bytes ≡ Err (f.BadUtf8 at)
text_in-other bytes at other place =
    ap (tested bytes) (false_from_ne_true (is_utf8 bytes) (λ e. other (IsUtf8-from_is_utf8 bytes e)))
    ∙ ap (λ n. let r : Found (List ℕ) = Err (f.BadUtf8 n) in r) (sym place)
