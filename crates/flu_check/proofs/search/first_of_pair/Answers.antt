use Rattle.std.proofs.Common.{Some, refl, sym, ◌∙◌}
use Rattle.flu_model.specs.Itags.{tag_of_itag}
use Rattle.flu_check.proofs.FaultLemmas.{not_sought, sought_keeps, first_passes, never_passes, same_pair}
use Rattle.flu_check.proofs.search.first_of_pair.Goals as goal

pub returns-then-never_conflict-clause-passed : goal.returns-then-never_conflict-clause-passed
returns-then-never_conflict-clause-passed c =
    let p = c.args.p.now in
    let a = c.tag_of-a.result in
    let b = c.tag_of-b.result in
    same_pair p a b (tag_of_itag p c.args.i) (tag_of_itag p c.args.j) c.args.found c.tag_of-a.ensures.tag c.tag_of-b.ensures.tag
    (never_passes p a b c.args.found (c.never_conflict.ensures c.if-never_conflict.true))

pub returns-then-not-is_sought-clause-passed : goal.returns-then-not-is_sought-clause-passed
returns-then-not-is_sought-clause-passed c =
    let p = c.args.p.now in
    let a = c.tag_of-a.result in
    let b = c.tag_of-b.result in
    same_pair p a b (tag_of_itag p c.args.i) (tag_of_itag p c.args.j) c.args.found c.tag_of-a.ensures.tag c.tag_of-b.ensures.tag
    (not_sought p a b c.args.found c.requires.found (sym c.is_sought.ensures ∙ c.if-not-is_sought.true))

pub returns-in-Some-clause-kept : goal.returns-in-Some-clause-kept
returns-in-Some-clause-kept c =
    sought_keeps c.args.p.now c.tag_of-a.result c.tag_of-b.result c.in-Some.cell c.args.found (sym c.is_sought.ensures ∙ c.if-not-is_sought.false)

pub returns-in-Some-clause-passed : goal.returns-in-Some-clause-passed
returns-in-Some-clause-passed c =
    let p = c.args.p.now in
    let a = c.tag_of-a.result in
    let b = c.tag_of-b.result in
    same_pair p a b (tag_of_itag p c.args.i) (tag_of_itag p c.args.j)
    (Some (record { a = a; b = b; cell = c.in-Some.cell })) c.tag_of-a.ensures.tag c.tag_of-b.ensures.tag
    (first_passes p a b c.in-Some.cell c.in-Some.ensures.first)
