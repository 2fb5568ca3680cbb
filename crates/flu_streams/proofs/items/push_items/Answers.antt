use Rattle.std.proofs.Common.{◌≡◌, ◌+◌, ◌<◌, ◌++◌, [], ◌∷◌, ℕ, List, length, get_or, take, sym, ap, ◌∙◌, append_assoc, rules, arith}
use Rattle.std.specs.List.{filter_map}
use Rattle.std.proofs.lemmas.Grind.{common_steps}
use Rattle.std.proofs.lemmas.List.{take_more}
use Rattle.std.proofs.lemmas.List.Elements.{filter_map-append}
use Rattle.flu_model.specs.declared.events.Item.{Item}
use Rattle.flu_streams.specs.Lists.{item_for}
use Rattle.flu_streams.proofs.items.push_items.Goals as goal

-- one item more is given
pushed : (itag : ℕ) (items : List Item) (k : ℕ) (x : Item) (before mid after : List Item) → k < length items → after ≡ mid
    ++ filter_map (item_for itag) (x ∷ []) → mid ≡ before ++ filter_map (item_for itag) (take k items) → x ≡ get_or items k x
    → after ≡ before ++ filter_map (item_for itag) (take (k + 1) items)
pushed itag items k x before mid after lt more so_far is =
    let f = item_for itag in
    let front = filter_map f (take k items) in
    more ∙ ap (λ l. l ++ filter_map f (x ∷ [])) so_far ∙ append_assoc before front (filter_map f (x ∷ []))
    ∙ ap (λ l. before ++ l) (sym (filter_map-append f (take k items) (x ∷ []))
    ∙ ap (λ l. filter_map f l) (ap (λ (y : Item). take k items ++ (y ∷ [])) is ∙ sym (take_more items k x lt)))

pub loop-item-preserved : goal.loop-item-preserved
loop-item-preserved c = record {
  len = search rules;
  each = λ i lt.
      let k = c.loop-item.item-index in
      let within : k < length c.args.items.now = grind (arith, common_steps) in
      let step = pushed (c.args.first + i) c.args.items.now k _ _ _ _ within (c.in_ok-push_item.ensures.each i (rw c.loop-item.invariant.len lt))
      (c.loop-item.invariant.each i lt) in
      step (grind (arith, common_steps));
}
