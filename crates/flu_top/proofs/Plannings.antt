-- A job's text is read, and the job is planned.
use Rattle.std.proofs.Common.{refl, sym, ap, ◌∙◌, ℕ, List, [], Option}
use Rattle.flu_outside.specs.Outside.{WhereTold, Contents}
use Rattle.flu_model.specs.declared.jobs.Program.{Program}
use Rattle.flu_lemmas.proofs.Told.{told_weaker}
use Rattle.flu_words.specs.Words.{Plan}
use Rattle.flu_command.specs.Done.{IsWritten}
use Rattle.flu_command.specs.Causes.{IsJobRead}
use Rattle.flu_top.specs.Planning.{IsPlanned}
use Rattle.flu_top.proofs.Sequence.{only_one, can_start, has_saved}

pub is_planned : (job : List ℕ) (depth : ℕ) (p : Program) (text : List ℕ) (a b : Option Contents) → WhereTold a b (IsJobRead job p) → IsPlanned p depth text
    → WhereTold a b (IsWritten (Plan job depth) text [])
is_planned job depth p text a b read planned =
    told_weaker (IsJobRead job p) (IsWritten (Plan job depth) text []) a b (λ x y whole. (
      p,
      record {
        good = record {
          has = whole.has;
          accepted = λ asked. planned.accepted;
          plan = λ plan named. absurd (cc);
          start =
              can_start (Plan job depth) x p (record { save = refl; resume = refl; rows = refl });
          sources = tt;
        };
        ends = λ name found apart. ap y (sym (only_one job name found)) ∙ whole.end;
        trace = λ trace named. absurd (cc);
        saved = has_saved (Plan job depth) p x y (record { save = refl; resume = refl; rows = refl });
      },
      planned.plan,
      refl,
    )) read
