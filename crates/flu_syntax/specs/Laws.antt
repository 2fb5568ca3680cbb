-- What holds of the grammar and of the machine that follows it.
use Rattle.std.specs.Prelude.{◌≡◌, ◌↔◌, ℕ, List}
use Rattle.std.specs.List.{AllByRecursion}
use Rattle.flu_text.specs.declared.words.Token.{Token}
use Rattle.flu_syntax.specs.Tree.{Job}
use Rattle.flu_syntax.specs.Grammar.{IsJob}
use Rattle.flu_syntax.specs.Continued.{IsFirstThatCannotFollow, IsTooDeep}
use Rattle.flu_text.specs.Signs.{Stands}
use Rattle.flu_syntax.specs.Words.{job_words}
use Rattle.flu_syntax.specs.Machine.{verdict, Found, Unexpected, TooDeep}

-- what is found is what the tokens are
abbrev pub FoundIsJob : Type 0
FoundIsJob = (end : ℕ) (tokens : List Token) (job : Job) → (verdict end tokens ≡ Found job) ↔ IsJob tokens job

-- no tokens are two jobs
abbrev pub JobsAreUnique : Type 0
JobsAreUnique = (tokens : List Token) (a b : Job) → IsJob tokens a → IsJob tokens b → a ≡ b

-- an unexpected token is the first that cannot follow those before it
abbrev pub UnexpectedIsFirst : Type 0
UnexpectedIsFirst = (end : ℕ) (tokens : List Token) (place : ℕ) → (verdict end tokens ≡ Unexpected place) ↔ IsFirstThatCannotFollow end tokens place

-- too many are open if a token that may follow opens the 65th
abbrev pub TooDeepIsThe65th : Type 0
TooDeepIsThe65th = (end : ℕ) (tokens : List Token) → (verdict end tokens ≡ TooDeep) ↔ IsTooDeep tokens

-- each name, text and number of a job is a token of the tokens that are the job
abbrev pub WordsStand : Type 0
WordsStand = (tokens : List Token) (job : Job) → IsJob tokens job → AllByRecursion (Stands tokens) (job_words job)
