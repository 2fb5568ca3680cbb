-- What a node owns, what is above it and below it, and what is below its children.
use Rattle.std.proofs.Common.{◌≡◌, ◌<◌, ℕ, true, false, Option, Some, None, ◌⊎◌, inl, inr, refl, sym, ap, ◌∙◌}
use Rattle.std.specs.Prelude.{◌||◌, ◌==◌, not, is_none, IsSome}
use Rattle.std.proofs.lemmas.Bool.{cases_Bool, or_left, or_right}
use Rattle.flu_lemmas.proofs.Searches.{eq_true}
use Rattle.flu_lemmas.proofs.Tests.{false_if_not, not_both, true_eq}
use Rattle.flu_model.specs.Itags.{count_of_itags}
use Rattle.flu_model.specs.Owners.{owner_of}
use Rattle.flu_fork.specs.declared.content.Content.{Content}
use Rattle.flu_fork.specs.Classes.{itag, own, below, above}
use Rattle.flu_fork.specs.Kin.{IsOfNode, IsOfKids}
use Rattle.flu_fork.specs.Lots.{job, nodes, kids, setting_of}
use Rattle.flu_worker.specs.LawsBelow.{LawsBelow}

pub not_leaf : (o : Option (ℕ × ℕ)) → IsSome o → not (is_none o) ≡ true
not_leaf None e = cc
not_leaf (Some p) e = refl

module _ (laws : LawsBelow) (k : Content) where
  of_node : (w i : ℕ) → i < count_of_itags (job k) → IsOfNode (setting_of k) w i
  of_node w i lt = laws.of_nodes (setting_of k) w i (laws.settings k) lt

  of_kids : (w l r i : ℕ) → kids k w ≡ Some (l, r) → i < count_of_itags (job k) → IsOfKids (setting_of k) w l r i
  of_kids w l r i e lt = laws.of_kids (setting_of k) w l r i (laws.settings k) e lt

  pub own_owner : (w i : ℕ) → i < count_of_itags (job k) → own (job k) (nodes k) w i ≡ true → owner_of (job k) (nodes k) (itag i) ≡ Some w
  own_owner w i lt mine = (of_node w i lt).owner.0 mine

  pub own_below : (w i : ℕ) → i < count_of_itags (job k) → own (job k) (nodes k) w i ≡ true → below (job k) (nodes k) w i ≡ true
  own_below w i lt mine = (of_node w i lt).own mine

  pub above_not_below : (w i : ℕ) → i < count_of_itags (job k) → above (job k) (nodes k) w i ≡ true → below (job k) (nodes k) w i ≡ false
  above_not_below w i lt over = (of_node w i lt).above over

  pub own_not_above : (w i : ℕ) → i < count_of_itags (job k) → own (job k) (nodes k) w i ≡ true → above (job k) (nodes k) w i ≡ false
  own_not_above w i lt mine = false_if_not _ (λ over. not_both _ (own_below w i lt mine) (above_not_below w i lt over))

  pub own_not_left : (w l r i : ℕ) → kids k w ≡ Some (l, r) → i < count_of_itags (job k) → own (job k) (nodes k) w i ≡ true
      → below (job k) (nodes k) l i ≡ false
  own_not_left w l r i e lt mine = (of_kids w l r i e lt).not_left (or_left _ _ mine)

  pub own_not_right : (w l r i : ℕ) → kids k w ≡ Some (l, r) → i < count_of_itags (job k) → own (job k) (nodes k) w i ≡ true
      → below (job k) (nodes k) r i ≡ false
  own_not_right w l r i e lt mine = (of_kids w l r i e lt).not_right (or_left _ _ mine)

  pub left_below : (w l r i : ℕ) → kids k w ≡ Some (l, r) → i < count_of_itags (job k) → below (job k) (nodes k) l i ≡ true → below (job k) (nodes k) w i ≡ true
  left_below w l r i e lt h = (of_kids w l r i e lt).below_left h

  pub right_below : (w l r i : ℕ) → kids k w ≡ Some (l, r) → i < count_of_itags (job k) → below (job k) (nodes k) r i ≡ true
      → below (job k) (nodes k) w i ≡ true
  right_below w l r i e lt h = (of_kids w l r i e lt).below_right h

  -- an itag of a node or above it is above its children
  pub above_kids : (w l r i : ℕ) → kids k w ≡ Some (l, r) → i < count_of_itags (job k)
      → (own (job k) (nodes k) w i ≡ true) ⊎ (above (job k) (nodes k) w i ≡ true)
      → (above (job k) (nodes k) l i ≡ true) × (above (job k) (nodes k) r i ≡ true)
  above_kids w l r i e lt place =
      let o = of_kids w l r i e lt in
      let either : (own (job k) (nodes k) w i || above (job k) (nodes k) w i) ≡ true = elim place [
        | inl mine ↦ or_left _ _ mine
        | inr over ↦ or_right (own (job k) (nodes k) w i) (above (job k) (nodes k) w i) over
      ] in
      (o.above_left ∙ either, o.above_right ∙ either)

  -- the owner tells whether the node owns it
  pub owner_tells : (w i o : ℕ) → i < count_of_itags (job k) → owner_of (job k) (nodes k) (itag i) ≡ Some o → (o == w) ≡ own (job k) (nodes k) w i
  owner_tells w i o lt is =
      let law = (of_node w i lt).owner in
      elim (cases_Bool (own (job k) (nodes k) w i)) [
        | inl mine ↦ eq_true o w (some_number (sym is ∙ law.0 mine)) ∙ sym mine
        | inr not_mine ↦ false_if_not _ (λ h. not_both _ (law.1 (is ∙ ap (λ (v : ℕ). Some v) (true_eq o w h))) not_mine) ∙ sym not_mine
      ]
    where
      some_number : {a b : ℕ} → Some a ≡ Some b → a ≡ b
      some_number e = cc
