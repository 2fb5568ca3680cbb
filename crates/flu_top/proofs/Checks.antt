-- A job's text is read, and the job is checked.
use Rattle.std.proofs.Common.{◌≡◌, refl, sym, ap, ◌∙◌, subst, ℕ, List, [], Option}
use Rattle.std.specs.Prelude.{IsTrue}
use Rattle.flu_outside.specs.Outside.{WhereTold, Contents}
use Rattle.flu_model.specs.declared.jobs.Program.{Program}
use Rattle.flu_lemmas.proofs.Told.{told_weaker}
use Rattle.flu_lines.specs.declared.refusals.Refusal.{Refusal}
use Rattle.flu_lines.specs.declared.refusals.Refusal.TheVariants as refusals
use Rattle.flu_words.specs.Words.{Command, Check}
use Rattle.flu_command.specs.Behind.{Named}
use Rattle.flu_command.specs.Wants.{job_wanted, asks_accepted}
use Rattle.flu_command.specs.Done.{IsWritten}
use Rattle.flu_command.specs.Causes.{IsJobRead}
use Rattle.flu_top.specs.Checking.{IsChecked, IsCheckRefusal}
use Rattle.flu_top.specs.Refusing.{IsRefusal}
use Rattle.flu_top.proofs.Sequence.{only_one, can_start, has_saved}

pub is_checked : (job : List ℕ) (p : Program) (text : List ℕ) (a b : Option Contents) → WhereTold a b (IsJobRead job p) → IsChecked p text
    → WhereTold a b (IsWritten (Check job) text [])
is_checked job p text a b read checked =
    told_weaker (IsJobRead job p) (IsWritten (Check job) text []) a b (λ x y whole. (
      p,
      record {
        good = record {
          has = whole.has;
          accepted = λ asked. checked.accepted;
          plan = λ plan named. absurd (cc);
          start =
              can_start (Check job) x p (record { save = refl; resume = refl; rows = refl });
          sources = tt;
        };
        ends = λ name found apart. ap y (sym (only_one job name found)) ∙ whole.end;
        trace = λ trace named. absurd (cc);
        saved = has_saved (Check job) p x y (record { save = refl; resume = refl; rows = refl });
      },
      checked.is,
      refl,
    )) read

pub check_refusal : (command : Command) (job : List ℕ) (p : Program) (a b : Option Contents) (before now : List ℕ → ℕ) (refusal : Refusal)
    → job_wanted command ≡ Named job → IsTrue (asks_accepted command) → WhereTold a b (IsJobRead job p) → IsCheckRefusal p refusal
    → IsRefusal command a b before now refusal
check_refusal command job p a b before now (refusals.BadWords bad) named asked read is = is
check_refusal command job p a b before now (refusals.JobFault fault text) named asked read is = absurd is
check_refusal command job p a b before now (refusals.Conflict fault) named asked read is = record {
  asked = asked;
  name = job;
  named = named;
  conflict = is.1;
  job = subst (λ (q : Program). WhereTold a b (IsJobRead job q)) (sym is.0) read;
}
check_refusal command job p a b before now (refusals.PlanDefect defect) named asked read is = absurd is
check_refusal command job p a b before now (refusals.SourceFault q fault) named asked read is = absurd is
check_refusal command job p a b before now refusals.ReadFault named asked read is = absurd is
check_refusal command job p a b before now refusals.WriteFault named asked read is = is
check_refusal command job p a b before now refusals.NoMemory named asked read is = tt
check_refusal command job p a b before now (refusals.SaveDefect defect) named asked read is = absurd is
check_refusal command job p a b before now refusals.PutFault named asked read is = is
check_refusal command job p a b before now (refusals.TraceFault fault) named asked read is = absurd is
