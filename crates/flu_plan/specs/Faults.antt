-- Looks that may find a fault: the first one found is the answer. Want of memory alone is free.
use Rattle.std.specs.Prelude.{◌≡◌, Bool, if◌then◌else◌, Result, Ok, Err}
pub use Rattle.flu_lemmas.specs.Loops.{◌>>=◌, ◌>>◌, found_of_each}
unfoldable pub use Rattle.flu_lemmas.specs.Loops.{each}
use Rattle.flu_plan.specs.declared.fault.PlanFault.{PlanFault}
use Rattle.flu_plan.specs.declared.fault.PlanFault.TheVariants as f

-- what is found, or the first fault
abbrev pub Found : Type 0 → Type 0
Found A = Result A PlanFault

-- the fault, unless the test passes
abbrev pub unless : Bool → PlanFault → Found (Unit {0})
unless passes fault = if passes then Ok tt else Err fault

-- the fault is the one that was found, or want of memory
abbrev pub Fails : {Y : Type 0} → PlanFault → Found Y → Type 0
Fails f.NoMemory found = Unit {0}
Fails (f.BadToken at) found = found ≡ Err (f.BadToken at)
Fails (f.Unexpected at) found = found ≡ Err (f.Unexpected at)
Fails (f.UnknownName at) found = found ≡ Err (f.UnknownName at)
Fails (f.NotATree name) found = found ≡ Err (f.NotATree name)
Fails (f.OverLimit what count) found = found ≡ Err (f.OverLimit what count)

-- the answer, seen as plain data, is what is found
abbrev pub Gives : {X Y : Type 0} → (X → Y) → Result X PlanFault → Found Y → Type 0
Gives view (Ok x) found = found ≡ Ok (view x)
Gives view (Err e) found = Fails e found
