-- What a call finds outside and leaves there.
use Rattle.std.specs.Prelude.{ℕ, List, Option}
use Rattle.flu_outside.specs.Outside.{Contents}

-- what the files have left, and what out and err have taken, if that is known, and how often err has failed
pub record Outside : Type 0 where
  pub left : Option Contents
  pub out : Option (List ℕ)
  pub err : Option (List ℕ)
  pub err_faults : ℕ

abbrev pub outside : Option Contents → Option (List ℕ) → Option (List ℕ) → ℕ → Outside
outside left out err err_faults = record { left = left; out = out; err = err; err_faults = err_faults }

-- how often takes and puts of each name have failed, and how often out has
pub record Faults : Type 0 where
  pub takes : List ℕ → ℕ
  pub puts : List ℕ → ℕ
  pub out : ℕ

abbrev pub faults : (List ℕ → ℕ) → (List ℕ → ℕ) → ℕ → Faults
faults takes puts out = record { takes = takes; puts = puts; out = out }
