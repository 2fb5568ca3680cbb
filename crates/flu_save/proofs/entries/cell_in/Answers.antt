use Rattle.std.proofs.Common.{◌≡◌, ◌<◌, ap, sym, subst, ◌∙◌, length, get_or, List, Some, None, cond, true}
use Rattle.std.specs.Prelude.{slice_get, IsTrue}
use Rattle.std.specs.Fmt.{signed_decimal}
use Rattle.std.proofs.lemmas.Option.{slice_get-get_or}
use Rattle.flu_model.specs.declared.jobs.Family.{Family}
use Rattle.flu_model.specs.Sorts.{key_is_in, IsWorthOf, IsWorthIn}
use Rattle.flu_save.specs.Checkpoint.{number_held}
use Rattle.flu_save.proofs.Families.{saves, found_at, same_family, if_some, of_some}
use Rattle.flu_save.proofs.entries.cell_in.Goals as goal

pub returns-in_err-parts-clause-found : goal.returns-in_err-parts-clause-found
returns-in_err-parts-clause-found c s at w savable is same = absurd (c.in_err-parts.ensures _ _ _ same)

pub returns-in_err-number-clause-found : goal.returns-in_err-number-clause-found
returns-in_err-number-clause-found c s at w savable is same =
    let parts = c.in_ok-parts.ensures _ _ _ same in
    let saved = saves c.args.p.now s at w savable is in
    let e : None ≡ Some at.family = c.in_err-number.ensures.value
    ∙ found_at c.args.p.now at w saved c.items.result.now c.in_ok-parts.parts.family.now c.items.ensures parts.0 in
    absurd cc

pub returns-in_err-key-clause-found : goal.returns-in_err-key-clause-found
returns-in_err-key-clause-found c s at w savable is same =
    let parts = c.in_ok-parts.ensures _ _ _ same in
    let p = c.args.p.now in
    let saved = saves p s at w savable is in
    let number = of_some _ _ (c.in_ok-number.ensures.value ∙ found_at p at w saved c.items.result.now c.in_ok-parts.parts.family.now c.items.ensures parts.0) in
    let within = subst (λ (xs : List Family). c.in_ok-number.number < length xs) (c.items.ensures ∙ sym c.items-2.ensures) c.in_ok-number.ensures.declared in
    let family = same_family p at w saved c.items-2.result.now c.in_ok-number.number c.index-items-number.result c.items-2.ensures number within
    c.index-items-number.is in
    let key : key_is_in (Some c.index-items-number.result) c.in_ok-parts.parts.key ≡ true = ap (λ f. key_is_in (Some f) c.in_ok-parts.parts.key) family
    ∙ ap (key_is_in (Some saved.family)) parts.1 ∙ saved.key in
    let e : None ≡ Some c.in_ok-parts.parts.key = c.in_err-key.ensures ∙ ap (λ b. cond b (Some c.in_ok-parts.parts.key) None) key in
    absurd cc

pub returns-in_err-worth-clause-found : goal.returns-in_err-worth-clause-found
returns-in_err-worth-clause-found c s at w savable is same =
    let parts = c.in_ok-parts.ensures _ _ _ same in
    let p = c.args.p.now in
    let saved = saves p s at w savable is in
    let number = of_some _ _ (c.in_ok-number.ensures.value ∙ found_at p at w saved c.items.result.now c.in_ok-parts.parts.family.now c.items.ensures parts.0) in
    let within = subst (λ (xs : List Family). c.in_ok-number.number < length xs) (c.items.ensures ∙ sym c.items-2.ensures) c.in_ok-number.ensures.declared in
    let family = same_family p at w saved c.items-2.result.now c.in_ok-number.number c.index-items-number.result c.items-2.ensures number within
    c.index-items-number.is in
    let e : None ≡ Some w = c.in_err-worth.ensures.found w (subst (λ (f : Family). IsWorthOf f.sort w) (sym family) saved.sort) saved.width (parts.2 ∙ ap
    (λ o. signed_decimal (number_held o)) is) in
    absurd cc

pub returns-clause-fits : goal.returns-clause-fits
returns-clause-fits c =
    let families = c.args.p.now.families in
    let family = c.index-items-number.result in
    let within = subst (λ (xs : List Family). c.in_ok-number.number < length xs) c.items.ensures c.in_ok-number.ensures.declared in
    let here = c.index-items-number.is ∙ ap (λ (xs : List Family). get_or xs c.in_ok-number.number family) c.items-2.ensures in
    let there : slice_get families c.in_ok-number.number ≡ Some family = slice_get-get_or families c.in_ok-number.number family within ∙ ap Some (sym here) in
    let key = if_some _ c.in_ok-parts.parts.key c.in_ok-key.key c.in_ok-key.ensures in (
      subst (λ o. IsTrue (key_is_in o c.in_ok-key.key) × IsWorthIn o c.in_ok-worth.worth) (sym there) (
        subst (λ k. IsTrue (key_is_in (Some family) k))
            (sym key.1) key.0,
        c.in_ok-worth.ensures.sort.0,
      ),
      c.in_ok-worth.ensures.sort.1,
    )

pub returns-clause-found : goal.returns-clause-found
returns-clause-found c s at w savable is same =
    let parts = c.in_ok-parts.ensures _ _ _ same in
    let p = c.args.p.now in
    let saved = saves p s at w savable is in
    let number = of_some _ _ (c.in_ok-number.ensures.value ∙ found_at p at w saved c.items.result.now c.in_ok-parts.parts.family.now c.items.ensures parts.0) in
    let within = subst (λ (xs : List Family). c.in_ok-number.number < length xs) (c.items.ensures ∙ sym c.items-2.ensures) c.in_ok-number.ensures.declared in
    let family = same_family p at w saved c.items-2.result.now c.in_ok-number.number c.index-items-number.result c.items-2.ensures number within
    c.index-items-number.is in
    let key = (if_some _ c.in_ok-parts.parts.key c.in_ok-key.key c.in_ok-key.ensures).1 ∙ parts.1 in
    let worth = of_some _ _ (c.in_ok-worth.ensures.found w (subst (λ (f : Family). IsWorthOf f.sort w) (sym family) saved.sort) saved.width (parts.2 ∙ ap
    (λ o. signed_decimal (number_held o)) is)) in
    λ i. Some (record { family = number i; key = key i }, worth i)
