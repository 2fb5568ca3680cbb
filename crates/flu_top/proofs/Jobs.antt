-- The job of a file's bytes, of which more than a job text may have need not be read.
use Rattle.std.proofs.Common.{◌≡◌, ◌≢◌, refl, sym, ap, ◌∙◌, subst, ℕ, ◌≤◌, List, [], ◌++◌, length, nat_le, Bool, true, false, Option, Result, Ok, Err, Vec, Global, arith}
use Rattle.std.proofs.Common.{append-nil, length-append}
use Rattle.std.specs.Prelude.{IfErr}
use Rattle.std.proofs.lemmas.Bool.Decides.{nat_tests}
use Rattle.flu_outside.specs.Outside.{WhereTold, Contents}
use Rattle.flu_model.specs.declared.jobs.Program.{Program}
use Rattle.flu_model.specs.declared.limits.What.TheVariants.{Bytes}
use Rattle.flu_model.specs.Erasure.{Job, job_of}
use Rattle.flu_outside.specs.Taking.{bytes_left}
use Rattle.flu_lemmas.proofs.Told.{told_weaker}
use Rattle.flu_parse.specs.declared.faults.JobFault.{JobFault}
use Rattle.flu_parse.specs.declared.faults.JobFault.TheVariants as f
use Rattle.flu_parse.specs.Faults.{Fails}
use Rattle.flu_parse.specs.Reading.{job_in}
use Rattle.flu_outside.specs.Taking.{TookWhole}
use Rattle.flu_grammar.specs.Laws.{JobsAreGrammar}
use Rattle.flu_command.specs.Behind.{Named}
use Rattle.flu_top.specs.Jobs.{IsJobRefusal}
use Rattle.flu_command.specs.Causes.{IsJobRead, HasJobFault}
use Rattle.flu_lines.specs.Answer.{refusal_of_job}

-- a text that is too long has the fault of its bytes, whatever stands in it
long_job : (bytes : List ℕ) → nat_le (length bytes) 1048576 ≡ false → job_in bytes ≡ Err (f.OverLimit Bytes 1048577)
unfolding job_in
long_job bytes long = rw long refl

-- the bytes that were read have the job or the fault of all
job_of_whole : (job bytes : List ℕ) (old new : Contents) → TookWhole job 1048576 bytes old new → job_in (bytes_left old job) ≡ job_in bytes
job_of_whole job bytes old new whole = by_length (nat_le (length bytes) 1048576) refl
  where
    by_length : (b : Bool) → nat_le (length bytes) 1048576 ≡ b → job_in (bytes_left old job) ≡ job_in bytes
    by_length true few =
        let none : bytes_left new job ≡ [] = rw (whole.end (grind (arith, nat_tests))) refl in
        ap job_in (whole.front ∙ ap (λ (rest : List ℕ). bytes ++ rest) none ∙ append-nil bytes)
    by_length false many =
        let more : nat_le (length (bytes_left old job)) 1048576 ≡ false =
        rw (whole.front, length-append) (grind (arith, nat_tests)) in
        long_job (bytes_left old job) more ∙ sym (long_job bytes many)

-- a text that is a job is not too long
short_job : (bytes : List ℕ) (j : Job) → job_in bytes ≡ Ok j → length bytes ≤ 1048576
short_job bytes j is = by_length (nat_le (length bytes) 1048576) refl
  where
    by_length : (b : Bool) → nat_le (length bytes) 1048576 ≡ b → length bytes ≤ 1048576
    by_length true few = grind (arith, nat_tests)
    by_length false many = let e = sym (long_job bytes many) ∙ is in absurd (cc)

pub job_is_read : JobsAreGrammar → (job bytes : List ℕ) (p : Program) (a b : Option Contents) → WhereTold a b (TookWhole job 1048576 bytes)
    → job_in bytes ≡ Ok (job_of p)
    → WhereTold a b (IsJobRead job p)
job_is_read grammar job bytes p a b whole is =
    told_weaker (TookWhole job 1048576 bytes) (IsJobRead job p) a b
    (λ x y w. record { has = (grammar (bytes_left x job) (job_of p)).0 (job_of_whole job bytes x y w ∙ is); end = w.end (short_job bytes (job_of p) is) }) whole

has_job_fault : (job bytes : List ℕ) (fault : JobFault) (a b : Option Contents) → fault ≢ f.NoMemory → WhereTold a b (TookWhole job 1048576 bytes)
    → job_in bytes ≡ Err fault → HasJobFault (Named job) a b fault
has_job_fault job bytes fault a b other whole is = record {
  name = job;
  named = refl;
  is_fault = other;
  first = told_weaker (TookWhole job 1048576 bytes) (λ left _. job_in (bytes_left left job) ≡ Err fault) a b (λ x y w. job_of_whole job bytes x y w ∙ is) whole;
}

pub job_is_refused : (job : List ℕ) (text : Vec ℕ Global) (fault : JobFault) (a b : Option Contents) (before now : List ℕ → ℕ)
    → WhereTold a b (TookWhole job 1048576 text.items)
    → Fails fault (job_in text.items) → IsJobRefusal job a b before now (refusal_of_job fault text)
job_is_refused job text (f.BadUtf8 at) a b before now whole is = has_job_fault job text.items (f.BadUtf8 at) a b (λ e. cc) whole is
job_is_refused job text (f.BadToken at) a b before now whole is = has_job_fault job text.items (f.BadToken at) a b (λ e. cc) whole is
job_is_refused job text (f.Unexpected at) a b before now whole is = has_job_fault job text.items (f.Unexpected at) a b (λ e. cc) whole is
job_is_refused job text (f.UnknownName at) a b before now whole is = has_job_fault job text.items (f.UnknownName at) a b (λ e. cc) whole is
job_is_refused job text (f.TwiceNamed at) a b before now whole is = has_job_fault job text.items (f.TwiceNamed at) a b (λ e. cc) whole is
job_is_refused job text (f.WrongShape at) a b before now whole is = has_job_fault job text.items (f.WrongShape at) a b (λ e. cc) whole is
job_is_refused job text (f.OverLimit what count) a b before now whole is = has_job_fault job text.items (f.OverLimit what count) a b (λ e. cc) whole is
job_is_refused job text f.NoMemory a b before now whole is = tt

-- what holds of the error of a result
pub if_err_at : {T E : Type 0} (P : E → Type 0) (r : Result T E) (x : E) → (y : E) × (r ≡ Err y) × (y ≡ x) → P x → IfErr r P
if_err_at P r x found holds = subst (λ s. IfErr s P) (sym found.1) (subst P (sym found.2) holds)
