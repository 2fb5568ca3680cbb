-- What is printed is a text of what it was printed of, and what a text means keeps the rules.
use Rattle.std.proofs.Common.{refl}
use Rattle.flu_parse.specs.Laws.{job_with, JobsKeepRules, PrintedIsRead as JobIsRead}
use Rattle.flu_parse.specs.Printing.{normal_form}
use Rattle.flu_plan.specs.Laws.{PrintedIsRead as PlanIsRead}
use Rattle.flu_plan.specs.Printing.{printed}
use Rattle.flu_grammar.specs.Laws.{JobsAreGrammar, PlansAreGrammar, NormalFormIsText, PrintedIsText, JobTextsKeepRules}

pub normal_form_is_text : JobsAreGrammar → JobIsRead → NormalFormIsText
normal_form_is_text grammar read = λ version ties iso lists families kinds depends sources kept utf8 short.
    (grammar (normal_form (job_with version ties iso lists families kinds depends sources)) (job_with version ties iso lists families kinds depends sources)).0
    (read version ties iso lists families kinds depends sources kept utf8 short)

pub printed_is_text : PlansAreGrammar → PlanIsRead → PrintedIsText
printed_is_text grammar read = λ p plan kept has. (grammar p (printed p plan) plan).0 (read p plan kept has)

pub job_texts_keep_rules : JobsAreGrammar → JobsKeepRules → JobTextsKeepRules
job_texts_keep_rules grammar keep = λ bytes version ties iso lists families kinds depends sources is.
    keep bytes (job_with version ties iso lists families kinds depends sources)
    ((grammar bytes (job_with version ties iso lists families kinds depends sources)).1 is) kinds refl
