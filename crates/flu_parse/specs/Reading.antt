-- A job text: the checks of it, in their order.
use Rattle.std.specs.Prelude.{ℕ, nat_le, List, length, Ok, Err}
use Rattle.std.specs.Str.{is_utf8}
use Rattle.std.specs.Str.Lossy.{utf8_valid_len}
use Rattle.flu_model.specs.declared.limits.What.TheVariants.{Bytes, Nesting}
use Rattle.flu_model.specs.Erasure.{Job}
use Rattle.flu_text.specs.declared.words.Token.{Token}
use Rattle.flu_text.specs.Reading.{reading}
use Rattle.flu_text.specs.Reading.{Reading as TokenReading}
use Rattle.flu_syntax.specs.Tree.{Job as Written}
use Rattle.flu_syntax.specs.Machine.{Verdict, verdict, Found as IsJob, Unexpected, TooDeep}
use Rattle.flu_parse.specs.declared.faults.JobFault.TheVariants as f
use Rattle.flu_parse.specs.Faults.{Found, ◌>>=◌, ◌>>◌, unless}
use Rattle.flu_parse.specs.Resolving.{resolved}

-- the bytes if they are UTF-8
abbrev pub text_in : List ℕ → Found (List ℕ)
text_in bytes = do
  unless (is_utf8 bytes) (f.BadUtf8 (utf8_valid_len bytes))
  Ok bytes

abbrev pub found_tokens : TokenReading → Found (List Token)
found_tokens (Ok ts) = Ok ts
found_tokens (Err at) = Err (f.BadToken at)

abbrev pub tokens_in : List ℕ → Found (List Token)
tokens_in text = found_tokens (reading text)

abbrev pub found_job : Verdict Written → Found Written
found_job (IsJob written) = Ok written
found_job (Unexpected at) = Err (f.Unexpected at)
found_job TooDeep = Err (f.OverLimit Nesting 65)

abbrev pub written_in : ℕ → List Token → Found Written
written_in end ts = found_job (verdict end ts)

-- the job of a text, or the first fault: bytes, UTF-8, tokens, grammar, names, and then declaration by declaration
unfoldable pub job_in : List ℕ → Found Job
job_in bytes = do
  unless (nat_le (length bytes) 1048576) (f.OverLimit Bytes 1048577)
  text ← text_in bytes
  ts ← tokens_in text
  written ← written_in (length text) ts
  resolved text written
