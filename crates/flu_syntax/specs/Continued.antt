-- Which tokens may be continued to a job, and the two faults that tokens have by the grammar.
use Rattle.std.specs.Prelude.{◌≡◌, ℕ, List, [], ◌∷◌, ◌++◌}
use Rattle.flu_text.specs.declared.words.Token.{Token}
use Rattle.flu_text.specs.Signs.{place_of}
use Rattle.flu_syntax.specs.Tree.{Job}
use Rattle.flu_syntax.specs.Grammar.{IsJobWithin}

-- these tokens may be continued to a job in which at most this many are open at once
abbrev pub MayGoOnWithin : ℕ → List Token → Type 0
MayGoOnWithin most front = (more : List Token) × (job : Job) × IsJobWithin most (front ++ more) job

abbrev pub MayGoOn : List Token → Type 0
MayGoOn front = MayGoOnWithin 64 front

-- with the next token they may not be continued, whatever follows and however many are open; or no token is left and they are no job yet
abbrev pub CannotTake : List Token → List Token → Type 0
CannotTake front [] = (most : ℕ) (job : Job) → IsJobWithin most front job → ⊥
CannotTake front (t ∷ rest) = (most : ℕ) → MayGoOnWithin most (front ++ t ∷ []) → ⊥

-- The place is the place of the first token with which the tokens may no longer be continued, or the end if they all may be.
pub record IsFirstThatCannotFollow (end : ℕ) (tokens : List Token) (place : ℕ) : Type 0 where
  pub front : List Token
  pub rest : List Token
  pub whole : tokens ≡ front ++ rest
  pub here : place ≡ place_of end rest
  pub may : MayGoOn front
  pub cannot : CannotTake front rest

-- A token opens the 65th: those before it may be continued to a job, and with it to one in which 65 are open at once, but to none with fewer.
pub record IsTooDeep (tokens : List Token) : Type 0 where
  pub front : List Token
  pub next : Token
  pub rest : List Token
  pub whole : tokens ≡ front ++ next ∷ rest
  pub may : MayGoOn front
  pub deeper : MayGoOnWithin 65 (front ++ next ∷ [])
  pub cannot : MayGoOn (front ++ next ∷ []) → ⊥
