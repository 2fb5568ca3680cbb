use Rattle.std.proofs.Common.{◌≡◌, ◌∙◌, ◌+◌, ◌∷◌, ◌++◌, [], map, length, drop, append_assoc, sym, ap, arith}
use Rattle.std.proofs.lemmas.List.{length_push, nil_from_length, append-nil, map-append}
use Rattle.flu_model.specs.Erasure.{plain_kind}
use Rattle.flu_parse.specs.Lists.{listed_kinds}
use Rattle.flu_parse.proofs.ListLemmas.{next_kind}
use Rattle.flu_parse.proofs.lists.listed_kinds.Goals as goal

pub loop-kind-init : goal.loop-kind-init
loop-kind-init c = (
  sym (ap length c.new-listed.ensures.items),
  ap (λ ks. map plain_kind ks ++ listed_kinds (map plain_kind c.into_iter-kind-iterator.result.rest.items) c.args.lists.now) c.new-listed.ensures.items
      ∙ ap (λ ks. listed_kinds (map plain_kind ks) c.args.lists.now) c.into_iter-kind-iterator.ensures.into_iter_gives.0,
)

pub overflow_add-place : goal.overflow_add-place
overflow_add-place c =
    let longer : length c.push.new.self.items ≡ length c.loop-kind.listed.items + 1 = ap length c.in_ok-push.ensures.items ∙ length_push _ _ in
    let full = c.push.new.self.ok in
    omega (arith, longer, c.loop-kind.invariant.0, full.0, full.1, c.push.new.self.small)

pub loop-kind-preserved : goal.loop-kind-preserved
loop-kind-preserved c =
    let items = c.loop-kind.listed.items in
    let done = map plain_kind items in
    let place = c.loop-kind.place in
    let lists = c.args.lists.now in
    let kind = c.in-Some.kind in
    let left = map plain_kind c.next.new.self.rest.items in
    let rest = listed_kinds left (drop (place + 1) lists) in
    let longer : length c.push.new.self.items ≡ length items + 1 = ap length c.in_ok-push.ensures.items ∙ length_push _ _ in (
      omega (arith, longer, c.loop-kind.invariant.0),
      ap (λ ks. map plain_kind ks ++ rest) c.in_ok-push.ensures.items
          ∙ ap (λ ks. ks ++ rest) (map-append plain_kind items (record kind { list = c.list_at-kind.result } ∷ []))
          ∙ append_assoc done (record (plain_kind kind) { list = c.list_at-kind.result } ∷ []) rest
          ∙ ap (λ l. done ++ record (plain_kind kind) { list = l } ∷ rest) c.list_at-kind.ensures
          ∙ ap (λ ks. done ++ ks) (next_kind (plain_kind kind) left lists place)
          ∙ ap (λ ks. done ++ listed_kinds (map plain_kind ks) (drop place lists)) (sym c.in-Some.ensures.steps.0) ∙ c.loop-kind.invariant.1,
    )

pub returns : goal.returns
returns c =
    let done = map plain_kind c.loop-kind.listed.items in
    let left = c.loop-kind.kind-iterator.rest in
    let none : length left.items ≡ 0 = omega (arith, left.ok.0, c.in-None.ensures.steps.0) in
    sym (append-nil done)
    ∙ ap (λ ks. done ++ listed_kinds (map plain_kind ks) (drop c.loop-kind.place c.args.lists.now)) (sym (nil_from_length left.items none))
    ∙ c.loop-kind.invariant.1
