use Rattle.std.proofs.Common.{◌≡◌, take, true}
use Rattle.std.specs.List.{list_all}
use Rattle.flu_model.specs.declared.events.Itag.{Itag}
use Rattle.flu_model.specs.Listed.{listed}
use Rattle.flu_mail.specs.Mailboxes.{seen_of, counts_of}
use Rattle.flu_worker.specs.Finishing.{is_over}
use Rattle.flu_worker.proofs.finishing.are_over.Given as goal

abbrev pub invariant-loop-i : goal.invariant-loop-i
invariant-loop-i l = list_all (λ (i : Itag). is_over (listed l.case.streams) (seen_of l.mail) (counts_of l.mail) i.0) (take l.i-index l.itags) ≡ true
