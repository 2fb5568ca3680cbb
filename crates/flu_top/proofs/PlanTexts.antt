-- The plan of a file's bytes, of which more than a plan text may have need not be read.
use Rattle.std.proofs.Common.{◌≡◌, ◌≢◌, refl, sym, ap, ◌∙◌, ℕ, ◌≤◌, List, [], ◌++◌, length, nat_le, Bool, true, false, Option, Ok, Err, Vec, Global, arith, append-nil}
use Rattle.std.proofs.Common.{length-append}
use Rattle.std.proofs.lemmas.Bool.Decides.{nat_tests}
use Rattle.flu_outside.specs.Outside.{WhereTold, Contents}
use Rattle.flu_model.specs.declared.jobs.Program.{Program}
use Rattle.flu_model.specs.declared.plans.Node.{Node}
use Rattle.flu_model.specs.declared.limits.What.TheVariants.{Bytes}
use Rattle.flu_outside.specs.Taking.{bytes_left}
use Rattle.flu_lemmas.proofs.Told.{told_weaker}
use Rattle.flu_plan.specs.declared.fault.PlanFault.{PlanFault}
use Rattle.flu_plan.specs.declared.fault.PlanFault.TheVariants as f
use Rattle.flu_plan.specs.Faults.{Fails}
use Rattle.flu_plan.specs.Reading.{plan_in}
use Rattle.flu_outside.specs.Taking.{TookWhole}
use Rattle.flu_grammar.specs.Laws.{PlansAreGrammar}
use Rattle.flu_top.specs.Plans.{IsPlanRead, HasTextFault, IsTextRefusal}
use Rattle.flu_lines.specs.Answer.{refusal_of_plan}

-- a text that is too long has the fault of its bytes, whatever stands in it
long_plan : (p : Program) (bytes : List ℕ) → nat_le (length bytes) 1048576 ≡ false → plan_in p bytes ≡ Err (f.OverLimit Bytes 1048577)
unfolding plan_in
long_plan p bytes long = rw long refl

-- the bytes that were read have the plan or the fault of all
plan_of_whole : (p : Program) (plan bytes : List ℕ) (old new : Contents) → TookWhole plan 1048576 bytes old new
    → plan_in p (bytes_left old plan) ≡ plan_in p bytes
plan_of_whole p plan bytes old new whole = by_length (nat_le (length bytes) 1048576) refl
  where
    by_length : (b : Bool) → nat_le (length bytes) 1048576 ≡ b → plan_in p (bytes_left old plan) ≡ plan_in p bytes
    by_length true few =
        let none : bytes_left new plan ≡ [] = rw (whole.end (grind (arith, nat_tests))) refl in
        ap (plan_in p) (whole.front ∙ ap (λ (rest : List ℕ). bytes ++ rest) none ∙ append-nil bytes)
    by_length false many =
        let more : nat_le (length (bytes_left old plan)) 1048576 ≡ false =
        rw (whole.front, length-append) (grind (arith, nat_tests)) in
        long_plan p (bytes_left old plan) more ∙ sym (long_plan p bytes many)

-- a text that is a plan is not too long
short_plan : (p : Program) (bytes : List ℕ) (nodes : List Node) → plan_in p bytes ≡ Ok nodes → length bytes ≤ 1048576
short_plan p bytes nodes is = by_length (nat_le (length bytes) 1048576) refl
  where
    by_length : (b : Bool) → nat_le (length bytes) 1048576 ≡ b → length bytes ≤ 1048576
    by_length true few = grind (arith, nat_tests)
    by_length false many = let e = sym (long_plan p bytes many) ∙ is in absurd (cc)

pub plan_is_read : PlansAreGrammar → (p : Program) (plan bytes : List ℕ) (nodes : List Node) (a b : Option Contents)
    → WhereTold a b (TookWhole plan 1048576 bytes)
    → plan_in p bytes ≡ Ok nodes → WhereTold a b (IsPlanRead p plan nodes)
plan_is_read grammar p plan bytes nodes a b whole is =
    told_weaker (TookWhole plan 1048576 bytes) (IsPlanRead p plan nodes) a b
    (λ x y w. record { has = (grammar p (bytes_left x plan) nodes).0 (plan_of_whole p plan bytes x y w ∙ is); end = w.end (short_plan p bytes nodes is) }) whole

has_text_fault : (p : Program) (plan bytes : List ℕ) (fault : PlanFault) (a b : Option Contents) → fault ≢ f.NoMemory
    → WhereTold a b (TookWhole plan 1048576 bytes) → plan_in p bytes ≡ Err fault → HasTextFault p plan a b fault
has_text_fault p plan bytes fault a b other whole is = record {
  is_fault = other;
  first = told_weaker (TookWhole plan 1048576 bytes) (λ left _. plan_in p (bytes_left left plan) ≡ Err fault) a b
      (λ x y w. plan_of_whole p plan bytes x y w ∙ is) whole;
}

pub plan_is_refused : (p : Program) (plan : List ℕ) (text : Vec ℕ Global) (fault : PlanFault) (a b : Option Contents) (before now : List ℕ → ℕ)
    → WhereTold a b (TookWhole plan 1048576 text.items) → Fails fault (plan_in p text.items) → IsTextRefusal p plan a b before now (refusal_of_plan fault text)
plan_is_refused p plan text (f.BadToken at) a b before now whole is = has_text_fault p plan text.items (f.BadToken at) a b (λ e. cc) whole is
plan_is_refused p plan text (f.Unexpected at) a b before now whole is = has_text_fault p plan text.items (f.Unexpected at) a b (λ e. cc) whole is
plan_is_refused p plan text (f.UnknownName at) a b before now whole is = has_text_fault p plan text.items (f.UnknownName at) a b (λ e. cc) whole is
plan_is_refused p plan text (f.NotATree name) a b before now whole is = has_text_fault p plan text.items (f.NotATree name) a b (λ e. cc) whole is
plan_is_refused p plan text (f.OverLimit what count) a b before now whole is = has_text_fault p plan text.items (f.OverLimit what count) a b (λ e. cc) whole is
plan_is_refused p plan text f.NoMemory a b before now whole is = tt
