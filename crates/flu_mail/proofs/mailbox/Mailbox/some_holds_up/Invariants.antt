use Rattle.std.proofs.Common.{◌≡◌, false, take}
use Rattle.std.specs.List.{list_any}
use Rattle.flu_model.specs.Listed.{listed}
use Rattle.flu_tables.specs.Tables.{program_in}
use Rattle.flu_mail.specs.LoopParts.{holds_up}
use Rattle.flu_mail.proofs.mailbox.Mailbox.some_holds_up.Given as goal

abbrev pub invariant-loop-j : goal.invariant-loop-j
invariant-loop-j l = list_any (holds_up (program_in l.t) l.self (listed l.s) l.purpose l.x) (take l.j-index l.among) ≡ false
