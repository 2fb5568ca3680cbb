-- A job's text is read, then a plan's, and the plan is looked at for the job.
use Rattle.std.proofs.Common.{◌≡◌, refl, sym, ap, ◌∙◌, subst, ℕ, ◌≤◌, List, [], ◌∷◌, Option, Some, Err, inl, inr}
use Rattle.flu_outside.specs.Outside.{WhereTold, Contents}
use Rattle.flu_model.specs.declared.jobs.Program.{Program}
use Rattle.flu_model.specs.declared.plans.Node.{Node}
use Rattle.flu_model.specs.Modes.{IsAccepted}
use Rattle.flu_model.specs.Validity.{IsValid}
use Rattle.flu_deps.specs.declared.checked.Checked.{Checked}
use Rattle.flu_deps.specs.Checking.{program_of}
use Rattle.flu_outside.specs.Taking.{bytes_left, TakesFrom, TookAtMost}
use Rattle.flu_lemmas.proofs.Named.{rose_behind}
use Rattle.flu_lemmas.proofs.Told.{told_both, told_then, told_weaker}
use Rattle.flu_plan.specs.Reading.{plan_in}
use Rattle.flu_plan.specs.Printing.{printed}
use Rattle.flu_grammar.specs.Plans.{IsPlanText}
use Rattle.flu_lines.specs.declared.refusals.PlanDefect.TheVariants as defects
use Rattle.flu_lines.specs.declared.refusals.Refusal.{Refusal}
use Rattle.flu_lines.specs.declared.refusals.Refusal.TheVariants as refusals
use Rattle.flu_words.specs.Words.{Valid}
use Rattle.flu_command.specs.Taking.{TookOnly}
use Rattle.flu_command.specs.Behind.{Named, HasJob, HasPlan, emptied_each, plan_behind}
use Rattle.flu_command.specs.Done.{IsReadName, IsPlanName, IsWritten}
use Rattle.flu_command.specs.Causes.{IsJobRead, HasInvalidPlan}
use Rattle.flu_command.specs.Ready.{HasNodes, IsReady}
use Rattle.flu_top.specs.Plans.{IsPlanRead, IsTextRefusal, IsValidRefusal}
use Rattle.flu_command.specs.ReadFaults.{InPlan}
use Rattle.flu_top.specs.Refusing.{IsRefusal}
use Rattle.flu_top.proofs.Sequence.{may_have, emptied_is, one_text, two_texts, can_start, has_saved}

-- ---- the plan behind the job
plan_at : (job plan : List ℕ) (p : Program) (x y : Contents) → IsJobRead job p x y × TakesFrom job x y → plan_behind (Named job) plan x ≡ bytes_left y plan
unfolding plan_behind
plan_at job plan p x y first = ap (λ left. bytes_left left plan) (emptied_is job x y first.0.end first.1)

has_plan_at : (job plan : List ℕ) (p : Program) (nodes : List Node) (x y : Contents) → IsJobRead job p x y × TakesFrom job x y
    → IsPlanText p (bytes_left y plan) nodes → HasPlan (Named job) plan x p nodes
has_plan_at job plan p nodes x y first is = subst (λ bytes. IsPlanText p bytes nodes) (sym (plan_at job plan p x y first)) is

ready_at : (job plan : List ℕ) (p : Program) (nodes : List Node) (x y z : Contents) → IsValid p nodes → IsJobRead job p x y × TakesFrom job x y
    → IsPlanRead p plan nodes y z × TakesFrom plan y z → IsReady (Valid job plan) p x z
ready_at job plan p nodes x y z valid first second = record {
  has = first.0.has;
  plan = λ name named. (nodes, by_name name named (has_plan_at job plan p nodes x y first second.0.has), valid);
  texts = two_texts job plan x y z (one_text job x y first.0.end first.1) second.0.end second.1;
}
  where
    by_name : (name : List ℕ) → Some plan ≡ Some name → HasPlan (Named job) plan x p nodes → HasPlan (Named job) name x p nodes
    by_name name named is = let same : plan ≡ name = cc in subst (λ n. HasPlan (Named job) n x p nodes) same is

pub is_ready : (job plan : List ℕ) (p : Program) (nodes : List Node) (a b c : Option Contents) → WhereTold a b (IsJobRead job p) → WhereTold a b (TakesFrom job)
    → WhereTold b c (IsPlanRead p plan nodes) → WhereTold b c (TakesFrom plan) → IsValid p nodes → WhereTold a c (IsReady (Valid job plan) p)
is_ready job plan p nodes a b c read taken found also valid =
    told_then (λ x y. IsJobRead job p x y × TakesFrom job x y) (λ y z. IsPlanRead p plan nodes y z × TakesFrom plan y z) (IsReady (Valid job plan) p) a b c
    (λ x y z first second. ready_at job plan p nodes x y z valid first second)
    (told_both (IsJobRead job p) (TakesFrom job) a b read taken) (told_both (IsPlanRead p plan nodes) (TakesFrom plan) b c found also)

pub has_nodes : (job plan : List ℕ) (p : Program) (nodes : List Node) (a b c : Option Contents) → WhereTold a b (IsJobRead job p)
    → WhereTold a b (TakesFrom job)
    → WhereTold b c (IsPlanRead p plan nodes) → WhereTold a c (HasNodes job plan p nodes)
has_nodes job plan p nodes a b c read taken found =
    told_then (λ x y. IsJobRead job p x y × TakesFrom job x y) (IsPlanRead p plan nodes) (HasNodes job plan p nodes) a b c
    (λ x y z first second. has_plan_at job plan p nodes x y first second.has) (told_both (IsJobRead job p) (TakesFrom job) a b read taken) found

-- ---- the normal form of a valid plan
validated_at : (job plan : List ℕ) (p : Program) (nodes : List Node) (text : List ℕ) (x z : Contents) → IsAccepted p → text ≡ printed p nodes
    → IsReady (Valid job plan) p x z × HasNodes job plan p nodes x z → IsWritten (Valid job plan) text [] x z
validated_at job plan p nodes text x z accepted is both = (
  p,
  record {
    good = record {
      has = both.0.has;
      accepted = λ asked. accepted;
      plan = both.0.plan;
      start =
          can_start (Valid job plan) x p (record { save = refl; resume = refl; rows = refl });
      sources = tt;
    };
    ends = λ name found apart. both.0.texts.ends name found;
    trace = λ trace named. absurd (cc);
    saved = has_saved (Valid job plan) p x z (record { save = refl; resume = refl; rows = refl });
  },
  record { nodes = nodes; has = both.1; is = is },
  refl,
)

pub is_validated : (job plan : List ℕ) (p : Program) (nodes : List Node) (text : List ℕ) (a c : Option Contents) → IsAccepted p
    → WhereTold a c (IsReady (Valid job plan) p)
    → WhereTold a c (HasNodes job plan p nodes) → text ≡ printed p nodes → WhereTold a c (IsWritten (Valid job plan) text [])
is_validated job plan p nodes text a c accepted ready found is =
    told_weaker (λ x z. IsReady (Valid job plan) p x z × HasNodes job plan p nodes x z) (IsWritten (Valid job plan) text []) a c
    (λ x z both. validated_at job plan p nodes text x z accepted is both) (told_both (IsReady (Valid job plan) p) (HasNodes job plan p nodes) a c ready found)

-- the plan's name is one that is read
plan_name : (job plan : List ℕ) (p : Program) (a b : Option Contents) → WhereTold a b (IsJobRead job p) → IsAccepted p → IsPlanName a (Valid job plan) plan
plan_name job plan p a b read accepted = record {
  p = p;
  job = record { has = may_have job p a b read; accepted = λ asked. accepted };
  named = refl;
}

pub only_with_plan : (job plan : List ℕ) (p : Program) (a b c : Option Contents) → WhereTold a b (IsJobRead job p) → WhereTold a b (TakesFrom job)
    → IsAccepted p → WhereTold b c (TakesFrom plan) → WhereTold a c (TookOnly (IsReadName a (Valid job plan)))
only_with_plan job plan p a b c read taken accepted also =
    told_then (TakesFrom job) (TakesFrom plan) (TookOnly (IsReadName a (Valid job plan))) a b c
    (λ x y z took more name unread.
    more.others name (λ same. unread (subst (IsReadName a (Valid job plan)) (sym same) (inr (inl (plan_name job plan p a b read accepted)))))
    ∙ took.others name (λ same. unread (inl (ap Named (sym same))))) taken also

-- ---- what refuses a plan
pub text_refusal : (job plan : List ℕ) (p : Program) (a b c : Option Contents) (k l m : List ℕ → ℕ) (refusal : Refusal) → WhereTold a b (IsJobRead job p)
    → WhereTold a b (TakesFrom job) → ((n : List ℕ) → k n ≤ l n) → IsAccepted p → IsTextRefusal p plan b c l m refusal
    → IsRefusal (Valid job plan) a c k m refusal
text_refusal job plan p a b c k l m (refusals.BadWords bad) read taken rise accepted is = is
text_refusal job plan p a b c k l m (refusals.JobFault fault text) read taken rise accepted is = absurd is
text_refusal job plan p a b c k l m (refusals.Conflict fault) read taken rise accepted is = absurd is
text_refusal job plan p a b c k l m (refusals.PlanDefect (defects.Text fault text)) read taken rise accepted is = record {
  plan = plan;
  program = p;
  asked = refl;
  accepted = accepted;
  is_fault = is.is_fault;
  first = told_then (λ x y. IsJobRead job p x y × TakesFrom job x y) (λ left _. plan_in p (bytes_left left plan) ≡ Err fault)
      (λ left _. HasJob (Named job) left p × (plan_in p (plan_behind (Named job) plan left) ≡ Err fault)) a b c
      (λ x y z first e. (first.0.has, ap (plan_in p) (plan_at job plan p x y first) ∙ e)) (told_both (IsJobRead job p) (TakesFrom job) a b read taken) is.first;
}
text_refusal job plan p a b c k l m (refusals.PlanDefect (defects.Invalid checked fault)) read taken rise accepted is = absurd is
text_refusal job plan p a b c k l m (refusals.SourceFault q fault) read taken rise accepted is = absurd is
text_refusal job plan p a b c k l m refusals.ReadFault read taken rise accepted is =
    InPlan plan (plan_name job plan p a b read accepted) (rose_behind (k plan) (l plan) (m plan) (rise plan) is.0)
    (told_then (λ x y. IsJobRead job p x y × TakesFrom job x y) (TookAtMost plan 1048576)
    (λ x z. TookAtMost plan 1048576 (emptied_each (job ∷ []) x) z) a b c
    (λ x y z first few. subst (λ (left : Contents). TookAtMost plan 1048576 left z) (sym (emptied_is job x y first.0.end first.1)) few)
    (told_both (IsJobRead job p) (TakesFrom job) a b read taken) is.1)
text_refusal job plan p a b c k l m refusals.WriteFault read taken rise accepted is = is
text_refusal job plan p a b c k l m refusals.NoMemory read taken rise accepted is = tt
text_refusal job plan p a b c k l m (refusals.SaveDefect defect) read taken rise accepted is = absurd is
text_refusal job plan p a b c k l m refusals.PutFault read taken rise accepted is = is
text_refusal job plan p a b c k l m (refusals.TraceFault fault) read taken rise accepted is = absurd is

pub valid_refusal : (job plan : List ℕ) (checked : Checked) (nodes : List Node) (a b c : Option Contents) (k m : List ℕ → ℕ) (refusal : Refusal)
    → WhereTold a b (IsJobRead job (program_of checked)) → WhereTold a b (TakesFrom job) → IsAccepted (program_of checked)
    → WhereTold b c (IsPlanRead (program_of checked) plan nodes) → IsValidRefusal checked nodes refusal → IsRefusal (Valid job plan) a c k m refusal
valid_refusal job plan checked nodes a b c k m (refusals.BadWords bad) read taken accepted found is = is
valid_refusal job plan checked nodes a b c k m (refusals.JobFault fault text) read taken accepted found is = absurd is
valid_refusal job plan checked nodes a b c k m (refusals.Conflict fault) read taken accepted found is = absurd is
valid_refusal job plan checked nodes a b c k m (refusals.PlanDefect (defects.Text fault text)) read taken accepted found is = absurd is
valid_refusal job plan checked nodes a b c k m (refusals.PlanDefect (defects.Invalid other fault)) read taken accepted found is =
    subst (λ (x : Checked). HasInvalidPlan (Valid job plan) a c (program_of x) fault.plan.nodes fault.why) (sym is.0)
    (subst (λ (ns : List Node). HasInvalidPlan (Valid job plan) a c (program_of checked) ns fault.why) (sym is.1)
    record {
      plan = plan;
      asked = refl;
      accepted = accepted;
      invalid = is.2;
      text = told_then (λ x y. IsJobRead job (program_of checked) x y × TakesFrom job x y) (IsPlanRead (program_of checked) plan nodes)
          (λ left _. HasJob (Named job) left (program_of checked) × HasPlan (Named job) plan left (program_of checked) nodes) a b c
          (λ x y z first second. (first.0.has, has_plan_at job plan (program_of checked) nodes x y first second.has))
          (told_both (IsJobRead job (program_of checked)) (TakesFrom job) a b read taken) found;
    })
valid_refusal job plan checked nodes a b c k m (refusals.SourceFault q fault) read taken accepted found is = absurd is
valid_refusal job plan checked nodes a b c k m refusals.ReadFault read taken accepted found is = absurd is
valid_refusal job plan checked nodes a b c k m refusals.WriteFault read taken accepted found is = is
valid_refusal job plan checked nodes a b c k m refusals.NoMemory read taken accepted found is = tt
valid_refusal job plan checked nodes a b c k m (refusals.SaveDefect defect) read taken accepted found is = absurd is
valid_refusal job plan checked nodes a b c k m refusals.PutFault read taken accepted found is = is
valid_refusal job plan checked nodes a b c k m (refusals.TraceFault fault) read taken accepted found is = absurd is
