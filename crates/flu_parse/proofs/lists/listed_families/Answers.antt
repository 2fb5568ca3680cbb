use Rattle.std.proofs.Common.{◌≡◌, ◌∙◌, ◌+◌, ◌∷◌, ◌++◌, [], length, drop, append_assoc, sym, ap, arith}
use Rattle.std.proofs.lemmas.List.{length_push, nil_from_length, append-nil}
use Rattle.flu_parse.specs.Lists.{listed_families}
use Rattle.flu_parse.proofs.ListLemmas.{next_family}
use Rattle.flu_parse.proofs.lists.listed_families.Goals as goal

pub loop-family-init : goal.loop-family-init
loop-family-init c = (
  sym (ap length c.new-listed.ensures.items),
  ap (λ fs. fs ++ listed_families c.into_iter-family-iterator.result.rest.items c.args.lists.now) c.new-listed.ensures.items
      ∙ ap (λ fs. listed_families fs c.args.lists.now) c.into_iter-family-iterator.ensures.into_iter_gives.0,
)

pub overflow_add-place : goal.overflow_add-place
overflow_add-place c =
    let longer : length c.push.new.self.items ≡ length c.loop-family.listed.items + 1 = ap length c.in_ok-push.ensures.items ∙ length_push _ _ in
    let full = c.push.new.self.ok in
    omega (arith, longer, c.loop-family.invariant.0, full.0, full.1, c.push.new.self.small)

pub loop-family-preserved : goal.loop-family-preserved
loop-family-preserved c =
    let done = c.loop-family.listed.items in
    let place = c.loop-family.place in
    let lists = c.args.lists.now in
    let family = c.in-Some.family in
    let left = c.next.new.self.rest.items in
    let rest = listed_families left (drop (place + 1) lists) in
    let longer : length c.push.new.self.items ≡ length done + 1 = ap length c.in_ok-push.ensures.items ∙ length_push _ _ in (
      omega (arith, longer, c.loop-family.invariant.0),
      ap (λ fs. fs ++ rest) c.in_ok-push.ensures.items ∙ append_assoc done (record family { list = c.list_at-family.result } ∷ []) rest
          ∙ ap (λ l. done ++ record family { list = l } ∷ rest) c.list_at-family.ensures ∙ ap (λ fs. done ++ fs) (next_family family left lists place)
          ∙ ap (λ fs. done ++ listed_families fs (drop place lists)) (sym c.in-Some.ensures.steps.0) ∙ c.loop-family.invariant.1,
    )

pub returns : goal.returns
returns c =
    let done = c.loop-family.listed.items in
    let left = c.loop-family.family-iterator.rest in
    let none : length left.items ≡ 0 = omega (arith, left.ok.0, c.in-None.ensures.steps.0) in
    sym (append-nil done)
    ∙ ap (λ fs. done ++ listed_families fs (drop c.loop-family.place c.args.lists.now)) (sym (nil_from_length left.items none))
    ∙ c.loop-family.invariant.1
