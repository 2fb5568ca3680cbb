-- What a call that writes some bytes does.
use Rattle.std.specs.Prelude.{◌≡◌, ℕ, ◌<◌, ◌≤◌, List, ◌++◌, length, Option, Result, OnOk, OnErr}
use Rattle.flu_outside.specs.declared.sink.Failed.{Failed}
use Rattle.flu_outside.specs.Outside.{Appends, Rose, WhereTold}

-- all of the bytes were appended to what was there
abbrev pub AppendsAll : List ℕ → List ℕ → List ℕ → Type 0
AppendsAll bytes old new = new ≡ old ++ bytes

-- a proper prefix of the bytes was appended to what was there
abbrev pub AppendsPart : List ℕ → List ℕ → List ℕ → Type 0
AppendsPart bytes old new = (n : ℕ) × (n < length bytes) × Appends n bytes old new

-- A WRITING CALL wrote all of the bytes and the sink did not fail; or the sink failed, and has taken fewer than all of them.
-- What the sink has taken is `old` before the call and `new` after it, and its count of faults is `before` and `now`.
pub record Writes (bytes : List ℕ) (old new : Option (List ℕ)) (before now : ℕ) (result : Result (Unit {0}) Failed) : Type 0 where
  pub all : OnOk result (WhereTold old new (AppendsAll bytes))
  pub quiet : OnOk result (now ≡ before)
  pub part : OnErr result (WhereTold old new (AppendsPart bytes))
  pub failed : OnErr result (Rose before now)
  pub counts : before ≤ now
