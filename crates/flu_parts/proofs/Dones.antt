-- A part command that is done has written its text; so what calls with status 0 gave is combined to the report of the fold.
use Rattle.std.proofs.Common.{◌≡◌, ℕ, List, [], ◌∷◌, ◌++◌, Some, None, Ok, sym, ap, subst, ◌∙◌, arith, Option}
use Rattle.std.specs.List.{AllByRecursion}
use Rattle.flu_outside.specs.Outside.{Contents, WhereTold}
use Rattle.flu_outside.specs.Taking.{bytes_left}
use Rattle.flu_outside.specs.Writing.{AppendsAll}
use Rattle.flu_model.specs.Contents.{nothing_held}
use Rattle.flu_lines.specs.declared.statuses.Status.{Status}
use Rattle.flu_lines.specs.declared.statuses.Status.TheVariants as statuses
use Rattle.flu_lines.specs.Statuses.{code}
use Rattle.flu_words.specs.Parts.{PartCommand, Partial, Combine, part_in}
use Rattle.flu_command.specs.Behind.{Named, plan_behind}
use Rattle.flu_command.specs.OneText.{TextsHaveOneJob, JobsHaveOneReport}
use Rattle.flu_parts.specs.Planned.{behind}
use Rattle.flu_parts.specs.Laws.{IsMadeOf, IsMadeByCall, PartDoneIsWritten, PartialsCombinedAreTheFold, CallsGiveTheFold}
use Rattle.flu_parts.specs.Outcome.{Ended, OfCommand, OfNone}
use Rattle.flu_parts.specs.Written.{IsWritten}

-- status 0 is that of what is done
is_done : (status : Status) → 0 ≡ code status → status ≡ statuses.Done
is_done statuses.Done zero = cc
is_done status zero = absurd (omega (arith, zero))

one_command : (words : List (List ℕ)) (a b : PartCommand) → part_in words ≡ Ok a → part_in words ≡ Ok b → a ≡ b
one_command words a b one other = cc

pub done_written : PartDoneIsWritten
done_written words command old new left now is was then (OfCommand status zero other named ended) =
    let done = subst (Ended other old new) (is_done status zero) ended in
    let same : other ≡ command = one_command words other command named is in (
      done.0,
      subst (λ (c : PartCommand). IsWritten c done.0 left now) same
          (subst (λ (o : Option Contents). WhereTold (Some left) o (IsWritten other done.0)) then
          (subst (λ (o : Option Contents). WhereTold o new.left (IsWritten other done.0)) was done.1)),
      done.2,
    )
done_written words command old new left now is was then (OfNone zero at misfit same refused) = absurd (omega (arith, zero))

-- ---- calls
-- what was appended to what out had
appended : (a b : Option (List ℕ)) (got text : List ℕ) → a ≡ Some got → WhereTold a b (AppendsAll text) → b ≡ Some (got ++ text)
appended None b got text was all = cc
appended (Some x) None got text was all = absurd all
appended (Some x) (Some y) got text was all =
    let same : x ≡ got = cc in
    ap (λ (z : List ℕ). Some z) (all ∙ ap (λ (z : List ℕ). z ++ text) same)

made_of : (whole : Contents) (job plan text : List ℕ) → IsMadeByCall whole job plan text → IsMadeOf whole job plan text
made_of whole job plan text of =
    let command = Partial of.job_name of.plan_name of.node in
    let done = done_written of.words command of.old of.new of.left of.now of.named of.was of.then of.done in
    let given : Some text ≡ Some done.0 = sym of.given ∙ appended of.old.out of.new.out [] done.0 of.empty done.2 in
    let same : done.0 ≡ text = cc in
    let wrote = subst (λ (bytes : List ℕ). IsWritten command bytes of.left of.now) same done.1 in
    record {
      job_name = of.job_name;
      plan_name = of.plan_name;
      node = of.node;
      left = of.left;
      now = of.now;
      wrote = wrote;
      same_job = of.same_job;
      same_plan = of.same_plan;
      same_sources = λ name read. of.same_sources wrote.p wrote.nodes wrote.is.0 name wrote.planned wrote.is.1 read;
    }

all_made_of : (whole left : Contents) (job plan : List ℕ) (names : List (List ℕ))
    → AllByRecursion (λ name. IsMadeByCall whole job plan (bytes_left left name)) names
    → AllByRecursion (λ name. IsMadeOf whole job plan (bytes_left left name)) names
all_made_of whole left job plan [] all = tt
all_made_of whole left job plan (name ∷ names) all =
    (made_of whole job plan (bytes_left left name) all.0, all_made_of whole left job plan names all.1)

pub calls_fold : TextsHaveOneJob → JobsHaveOneReport → PartialsCombinedAreTheFold → CallsGiveTheFold
calls_fold one_job one_report law words old new whole left now got job plan partials named was then had done made same p nodes planned =
    let command = Combine job plan partials in
    let written = done_written words command old new left now named was then done in
    let wrote = written.1 in
    let folded =
    law whole left now job plan partials written.0 wrote
    (all_made_of whole (behind command left) (bytes_left left job) (plan_behind (Named job) plan left) partials made)
    (λ name read. same wrote.p wrote.nodes name wrote.planned (wrote.is.1.ws, wrote.is.1.queues, wrote.is.1.told, wrote.is.1.accepted, read)) in
    let alike = one_report wrote.p p nothing_held whole (one_job (Named job) left wrote.p p wrote.planned.has planned.has) in
    appended old.out new.out got written.0 had written.2 ∙ ap (λ (text : List ℕ). Some (got ++ text)) (folded ∙ alike)
