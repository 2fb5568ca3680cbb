-- Checks that may find a fault: the first one found is the answer. Only running out of memory is not constrained.
use Rattle.std.specs.Prelude.{◌≡◌, ℕ, ◌+◌, Bool, nat_lt, if◌then◌else◌, Result, Ok, Err}
pub use Rattle.flu_lemmas.specs.Loops.{◌>>=◌, ◌>>◌, found_of_each}
unfoldable pub use Rattle.flu_lemmas.specs.Loops.{each}
use Rattle.flu_model.specs.declared.limits.What.{What}
use Rattle.flu_parse.specs.declared.faults.JobFault.{JobFault}
use Rattle.flu_parse.specs.declared.faults.JobFault.TheVariants as f

-- what is found, or the first fault
abbrev pub Found : Type 0 → Type 0
Found A = Result A JobFault

-- the fault, unless the test passes
abbrev pub unless : Bool → JobFault → Found (Unit {0})
unless passes fault = if passes then Ok tt else Err fault

-- there is room for one more if this many of at most `limit` are there
abbrev pub room : What → ℕ → ℕ → Found (Unit {0})
room what limit count = unless (nat_lt count limit) (f.OverLimit what (limit + 1))

-- the fault is the one that was found, or out of memory
abbrev pub Fails : {Y : Type 0} → JobFault → Found Y → Type 0
Fails f.NoMemory found = Unit {0}
Fails (f.BadUtf8 at) found = found ≡ Err (f.BadUtf8 at)
Fails (f.BadToken at) found = found ≡ Err (f.BadToken at)
Fails (f.Unexpected at) found = found ≡ Err (f.Unexpected at)
Fails (f.UnknownName at) found = found ≡ Err (f.UnknownName at)
Fails (f.TwiceNamed at) found = found ≡ Err (f.TwiceNamed at)
Fails (f.WrongShape at) found = found ≡ Err (f.WrongShape at)
Fails (f.OverLimit what count) found = found ≡ Err (f.OverLimit what count)

-- the answer, seen as plain data, is what is found
abbrev pub Gives : {X Y : Type 0} → (X → Y) → Result X JobFault → Found Y → Type 0
Gives view (Ok x) found = found ≡ Ok (view x)
Gives view (Err e) found = Fails e found
