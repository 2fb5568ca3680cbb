use Rattle.std.proofs.lemmas.Slice.Eq.{slice_eq-Decides}
use Rattle.flu_handover.proofs.OfFamilies.{amounts_decide}
use Rattle.flu_handover.proofs.amounts.are_same.Goals as goal

pub returns : goal.returns
returns c = slice_eq-Decides amounts_decide c.args.a.now c.args.b.now c.eq.result c.eq.ensures
