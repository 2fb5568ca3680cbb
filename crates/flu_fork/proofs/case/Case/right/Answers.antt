use Rattle.std.proofs.Common.{length, refl, sym, ap, subst, ◌∙◌, arith}
use Rattle.std.specs.Prelude.{slice_get}
use Rattle.std.proofs.lemmas.Option.{slice_get_read}
use Rattle.flu_fork.specs.Lots.{job, nodes}
use Rattle.flu_fork.specs.Tables.{IsRightAt}
use Rattle.flu_fork.proofs.case.Case.right.Goals as goal

pub unreachable-requires : goal.unreachable-requires
unreachable-requires c =
    let so_many = c.self.inside.rights_are.one_each in
    let same = ap (λ k. length (nodes k)) c.self.view_is in
    let past = c.in-None.ensures.lookup.3 in
    let listed = ap length c.deref.ensures.value in
    omega arith

pub returns : goal.returns
returns c =
    let listed = c.deref.ensures.value in
    let found =
    slice_get_read c.deref.result.now (length c.deref.result.now) c.args.node c.in-Some.right.now refl c.in-Some.ensures.lookup.3.0 c.in-Some.ensures.lookup.1
    in
    subst (λ k. IsRightAt (job k) (nodes k) c.args.node c.in-Some.right.now) c.self.view_is
    (c.self.inside.rights_are.right c.args.node c.in-Some.right.now (ap (λ ts. slice_get ts c.args.node) (sym listed) ∙ found))
