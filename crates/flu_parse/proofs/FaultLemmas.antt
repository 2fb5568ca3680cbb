-- A fault that passes through a step, whichever it is.
use Rattle.std.proofs.Common.{◌≡◌, Err}
use Rattle.flu_parse.specs.declared.faults.JobFault.{JobFault}
use Rattle.flu_parse.specs.declared.faults.JobFault.TheVariants as f
use Rattle.flu_parse.specs.Faults.{Found, Fails}

pub fails_through : {Y Z : Type 0} (e : JobFault) (x : Found Y) (y : Found Z) → ((e : JobFault) → x ≡ Err e → y ≡ Err e) → Fails e x → Fails e y
fails_through f.NoMemory x y through h = tt
fails_through (f.BadUtf8 at) x y through h = through (f.BadUtf8 at) h
fails_through (f.BadToken at) x y through h = through (f.BadToken at) h
fails_through (f.Unexpected at) x y through h = through (f.Unexpected at) h
fails_through (f.UnknownName at) x y through h = through (f.UnknownName at) h
fails_through (f.TwiceNamed at) x y through h = through (f.TwiceNamed at) h
fails_through (f.WrongShape at) x y through h = through (f.WrongShape at) h
fails_through (f.OverLimit what count) x y through h = through (f.OverLimit what count) h
