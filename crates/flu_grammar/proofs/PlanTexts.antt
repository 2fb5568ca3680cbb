-- The plan of a text is read exactly where the text is that plan's.
use Rattle.std.proofs.Common.{◌≡◌, ◌≢◌, ℕ, ◌<◌, List, [], ◌∷◌, length, Ok, Err, refl, sym, ap, subst, ◌∙◌, arith}
use Rattle.std.specs.Prelude.{nat_le}
use Rattle.std.specs.Str.{is_utf8}
use Rattle.std.specs.Str.Lossy.{utf8_valid_len}
use Rattle.std.proofs.lemmas.Str.{IsUtf8-from_is_utf8, is_utf8-from_IsUtf8}
use Rattle.flu_lemmas.proofs.Loops.{bind_ok}
use Rattle.flu_lemmas.proofs.Tests.{true_le, le_true}
use Rattle.flu_model.specs.declared.limits.What.TheVariants.{Bytes}
use Rattle.flu_model.specs.declared.jobs.Program.{Program}
use Rattle.flu_model.specs.declared.plans.Node.{Node}
use Rattle.flu_text.specs.declared.words.Token.{Token}
use Rattle.flu_text.specs.Reading.{reading, Reading as TokenReading}
use Rattle.flu_text.specs.Laws.{ReadingIsTokens}
use Rattle.flu_plan.specs.declared.fault.PlanFault.TheVariants as f
use Rattle.flu_plan.specs.declared.written.WrittenNode.{WrittenNode}
use Rattle.flu_plan.specs.Faults.{◌>>=◌}
use Rattle.flu_plan.specs.Machine.{written_in}
use Rattle.flu_plan.specs.Grammar.{ArePlan, FoundIsPlan}
use Rattle.flu_plan.specs.Reading.{text_in, found_tokens, tokens_in, resolved, plan_in}
use Rattle.flu_plan.specs.Laws.{PlansKeepRules, JobsReadPlansAlike}
use Rattle.flu_grammar.specs.Plans.{IsPlanText}
use Rattle.flu_grammar.specs.Laws.{PlansAreGrammar, TextsHaveOnePlan, PlanTextsFitEach, JobsHaveOnePlan}
use Rattle.flu_grammar.proofs.Looks.{ok_same, passed, passes, binds}
use Rattle.flu_grammar.proofs.PlanRead.{resolved_means}
use Rattle.flu_grammar.proofs.PlanWritten.{means_resolved}

pub tokens_are : (r : TokenReading) (ts : List Token) → found_tokens r ≡ Ok ts → r ≡ Ok ts
tokens_are (Ok x) ts e = ap (λ (l : List Token). let r : TokenReading = Ok l in r) (ok_same x ts e)
tokens_are (Err at) ts e = absurd cc

some_nodes : (nodes : List WrittenNode) → nodes ≢ [] → 0 < length nodes
some_nodes [] some = absurd (some refl)
some_nodes (n ∷ nodes) some = omega arith

is_text : ReadingIsTokens → FoundIsPlan → PlansKeepRules → (p : Program) (bytes : List ℕ) (plan : List Node) → plan_in p bytes ≡ Ok plan
    → IsPlanText p bytes plan
unfolding plan_in
is_text tokens found kept p bytes plan e =
    let one = passed (nat_le (length bytes) 1048576) (f.OverLimit Bytes 1048577)
    (text_in bytes >>= λ text. tokens_in text >>= λ ts. written_in (length text) ts >>= λ written. resolved p text written) plan e in
    let text = bind_ok (text_in bytes) (λ text. tokens_in text >>= λ ts. written_in (length text) ts >>= λ written. resolved p text written) plan one.1 in
    let inner = passed (is_utf8 bytes) (f.BadToken (utf8_valid_len bytes)) (Ok bytes) text.0 text.1 in
    let same : text.0 ≡ bytes = sym (ok_same bytes text.0 inner.1) in
    let rest : (tokens_in bytes >>= λ ts. written_in (length bytes) ts >>= λ written. resolved p bytes written) ≡ Ok plan =
    subst (λ (x : List ℕ). (tokens_in x >>= λ ts. written_in (length x) ts >>= λ written. resolved p x written) ≡ Ok plan) same text.2 in
    let ts = bind_ok (tokens_in bytes) (λ ts. written_in (length bytes) ts >>= λ written. resolved p bytes written) plan rest in
    let vs = bind_ok (written_in (length bytes) ts.0) (λ written. resolved p bytes written) plan ts.2 in
    let grammar : ArePlan ts.0 vs.0 = (found (length bytes) ts.0 vs.0).0 vs.1 in
    record {
      text = record { short = true_le (length bytes) 1048576 one.0; utf8 = IsUtf8-from_is_utf8 bytes inner.0 };
      tokens = ts.0;
      cut = (tokens bytes ts.0).0 (tokens_are (reading bytes) ts.0 ts.1);
      written = vs.0;
      grammar = grammar;
      means = resolved_means p bytes vs.0 plan (some_nodes vs.0 grammar.some) (kept p bytes plan e) vs.2;
    }

is_read : ReadingIsTokens → FoundIsPlan → (p : Program) (bytes : List ℕ) (plan : List Node) → IsPlanText p bytes plan → plan_in p bytes ≡ Ok plan
unfolding plan_in
is_read tokens found p bytes plan is =
    passes (nat_le (length bytes) 1048576) (f.OverLimit Bytes 1048577)
    (text_in bytes >>= λ text. tokens_in text >>= λ ts. written_in (length text) ts >>= λ written. resolved p text written) plan
    (le_true (length bytes) 1048576 is.text.short)
    (binds (text_in bytes) (λ text. tokens_in text >>= λ ts. written_in (length text) ts >>= λ written. resolved p text written) bytes plan
    (passes (is_utf8 bytes) (f.BadToken (utf8_valid_len bytes)) (Ok bytes) bytes (is_utf8-from_IsUtf8 bytes is.text.utf8) refl)
    (binds (tokens_in bytes) (λ ts. written_in (length bytes) ts >>= λ written. resolved p bytes written) is.tokens plan
    (ap found_tokens ((tokens bytes is.tokens).1 is.cut))
    (binds (written_in (length bytes) is.tokens) (λ written. resolved p bytes written) is.written plan
    ((found (length bytes) is.tokens is.written).1 is.grammar)
    (means_resolved p bytes is.written plan (some_nodes is.written is.grammar.some) is.means))))

pub plans_are_grammar : ReadingIsTokens → FoundIsPlan → PlansKeepRules → PlansAreGrammar
plans_are_grammar tokens found kept = λ p bytes plan. (is_text tokens found kept p bytes plan, is_read tokens found p bytes plan)

pub texts_have_one_plan : PlansAreGrammar → TextsHaveOnePlan
texts_have_one_plan grammar = λ p bytes a b is_a is_b. ok_same a b (sym ((grammar p bytes a).1 is_a) ∙ (grammar p bytes b).1 is_b)

-- ---- for programs of one job
pub texts_fit_each : PlansAreGrammar → JobsReadPlansAlike → PlanTextsFitEach
texts_fit_each grammar alike = λ p q same bytes plan is.
    (grammar q bytes plan).0 ((λ i. (sym (alike p q same).reads) i bytes) ∙ (grammar p bytes plan).1 is)

pub jobs_have_one_plan : PlansAreGrammar → TextsHaveOnePlan → JobsReadPlansAlike → JobsHaveOnePlan
jobs_have_one_plan grammar one alike = λ p q same bytes a b is_a is_b. one q bytes a b (texts_fit_each grammar alike p q same bytes a is_a) is_b
