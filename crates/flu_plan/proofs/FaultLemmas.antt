-- A fault that passes through a step, whichever it is.
use Rattle.std.proofs.Common.{◌≡◌, Err}
use Rattle.flu_plan.specs.declared.fault.PlanFault.{PlanFault}
use Rattle.flu_plan.specs.declared.fault.PlanFault.TheVariants as f
use Rattle.flu_plan.specs.Faults.{Found, Fails}

pub fails_through : {Y Z : Type 0} (e : PlanFault) (x : Found Y) (y : Found Z) → ((e : PlanFault) → x ≡ Err e → y ≡ Err e) → Fails e x → Fails e y
fails_through f.NoMemory x y through h = tt
fails_through (f.BadToken at) x y through h = through (f.BadToken at) h
fails_through (f.Unexpected at) x y through h = through (f.Unexpected at) h
fails_through (f.UnknownName at) x y through h = through (f.UnknownName at) h
fails_through (f.NotATree name) x y through h = through (f.NotATree name) h
fails_through (f.OverLimit what count) x y through h = through (f.OverLimit what count) h
