-- An event above one of some nodes apart is inside none of them, so what the nodes send is used up.
use Rattle.std.proofs.Common.{◌≡◌, ◌<◌, ℕ, true, false, not, Some, List, [], ◌∷◌, ◌⊎◌, inl, inr, length, refl, sym, ap, subst, ◌∙◌, arith}
use Rattle.std.specs.Prelude.{◌==◌, ◌&&◌, map}
use Rattle.std.specs.List.{list_all, list_any, filter, AllByRecursion}
use Rattle.std.proofs.lemmas.Bool.{or_from}
use Rattle.flu_lemmas.proofs.Elements.{all_map, all_of_both}
use Rattle.flu_lemmas.proofs.Searches.{eq_true}
use Rattle.flu_lemmas.proofs.Tests.{and_left, and_right, both, not_both, false_if_not, not_true}
use Rattle.flu_model.specs.declared.events.Event.{Event}
use Rattle.flu_model.specs.declared.events.Itag.{Itag}
use Rattle.flu_model.specs.declared.jobs.Program.{Program}
use Rattle.flu_model.specs.declared.plans.Node.{Node}
use Rattle.flu_model.specs.Contents.{Contents}
use Rattle.flu_model.specs.Itags.{count_of_itags}
use Rattle.flu_model.specs.Owners.{owner_of, subtree_owns, ancestors_own, is_within}
use Rattle.flu_deps.specs.Owners.{ItagsAreOwned}
use Rattle.flu_deps.specs.Trees.{AreApart, NodesAreOrdered}
use Rattle.flu_contribution.specs.Combining.{is_of_none}
use Rattle.flu_contribution.specs.Contributions.{is_inside, is_above, contributions}
use Rattle.flu_contribution.specs.Laws.{AreInRange, IsApart, IsSetting, NoneIsWithin, ContributionsHavePlaces}
use Rattle.flu_contribution.specs.Sending.{sent}
use Rattle.flu_joining.specs.Joining.{is_last_alone}
use Rattle.flu_joining.specs.Laws.{WhatIsSentIsUsedUp}
use Rattle.flu_joining.proofs.Behind.{rest_behind, behind_each, sent_last_alone}

pub inside_by : (p : Program) (nodes : List Node) (w v : ℕ) (i : Itag) → owner_of p nodes i ≡ Some v → subtree_owns p nodes w i ≡ is_within nodes w v
inside_by p nodes w v i e = rw e refl

above_by : (p : Program) (nodes : List Node) (w v : ℕ) (i : Itag) → owner_of p nodes i ≡ Some v
    → ancestors_own p nodes w i ≡ (is_within nodes v w && not (v == w))
above_by p nodes w v i e = rw e refl

-- the same node, or one that is apart
abbrev IsSameOrApart : List Node → ℕ → ℕ → Type 0
IsSameOrApart nodes w v = (w ≡ v) ⊎ AreApart nodes w v

all_clear : (nodes : List Node) (ws : List ℕ) → NoneIsWithin nodes ws → AllByRecursion (λ w. AllByRecursion (IsSameOrApart nodes w) ws) ws
all_clear nodes [] h = tt
all_clear nodes (w ∷ ws) h = (
  (inl refl, all_map (AreApart nodes w) (IsSameOrApart nodes w) ws (λ v apart. inr apart) h.0),
  all_of_both (AreApart nodes w) (λ v. AllByRecursion (IsSameOrApart nodes v) ws) (λ v. AllByRecursion (IsSameOrApart nodes v) (w ∷ ws)) ws
      (λ v apart clear. (inr (apart.1, apart.0), clear)) h.0 (all_clear nodes ws h.1),
)

module _ (ordered : NodesAreOrdered) (are_owned : ItagsAreOwned) (places : ContributionsHavePlaces) where
  module _ (p : Program) (nodes : List Node) (opening : Contents) (setting : IsSetting p nodes opening) where
    -- what is above a node is not inside it, nor inside one that is apart from it
    above_elsewhere : (w v : ℕ) (x : Event) → w < length nodes → IsSameOrApart nodes w v → x.itag.0 < count_of_itags p → is_above p nodes w x ≡ true
        → is_inside p nodes v x ≡ false
    above_elsewhere w v x there clear lt over =
        let order = ordered nodes setting.tree in
        let o = are_owned p nodes x.itag setting.valid lt in
        let above = sym (above_by p nodes w o.owner x.itag o.is) ∙ over in
        let up : is_within nodes o.owner w ≡ true = and_left _ _ above in
        false_if_not _ (λ h.
        let inner : is_within nodes v o.owner ≡ true = sym (inside_by p nodes v o.owner x.itag o.is) ∙ h in
        elim clear [
          | inl same ↦
              let low = order.later w o.owner o.there (subst (λ u. is_within nodes u o.owner ≡ true) (sym same) inner) in
              let high = order.later o.owner w there up in
              not_both _ (eq_true o.owner w (omega arith)) (not_true _ (and_right _ _ above))
          | inr apart ↦ not_both _ (order.through v o.owner w there up inner) apart.1
        ])

    none_inside : (w : ℕ) (ws : List ℕ) (x : Event) → w < length nodes → AllByRecursion (IsSameOrApart nodes w) ws → x.itag.0 < count_of_itags p
        → is_above p nodes w x ≡ true → list_any (λ v. is_inside p nodes v x) ws ≡ false
    none_inside w [] x there clear lt over = refl
    none_inside w (v ∷ ws) x there clear lt over =
        or_from (is_inside p nodes v x) _ (above_elsewhere w v x there clear.0 lt over) (none_inside w ws x there clear.1 lt over)

    all_used : (ws vs : List ℕ) (xs : List Event) → AreInRange p xs → AllByRecursion (IsApart p nodes) vs
        → AllByRecursion (λ w. AllByRecursion (IsSameOrApart nodes w) ws) vs
        → list_all is_last_alone (map (λ ks. rest_behind ks (filter (is_of_none p nodes ws) xs)) (map (λ w. sent (contributions p nodes w opening xs)) vs))
        ≡ true
    all_used ws [] xs range each clear = refl
    all_used ws (w ∷ vs) xs range each clear =
        both _ _
        (sent_last_alone (is_above p nodes w) (is_of_none p nodes ws) (contributions p nodes w opening xs) xs
        (places p nodes w opening xs setting.tree setting.valid each.0.there range).before
        (all_map (λ (x : Event). x.itag.0 < count_of_itags p) (λ (x : Event). is_above p nodes w x ≡ true → is_of_none p nodes ws x ≡ true) xs
        (λ x lt over. ap not (none_inside w ws x each.0.there clear.0 lt over)) range))
        (all_used ws vs xs range each.1 clear.1)

  pub sent_used_up : WhatIsSentIsUsedUp
  sent_used_up p nodes ws opening xs setting apart range =
      ap (list_all is_last_alone) (behind_each (map (λ w. sent (contributions p nodes w opening xs)) ws) (filter (is_of_none p nodes ws) xs))
      ∙ all_used p nodes opening setting ws ws xs range apart.each (all_clear nodes ws apart.none_within)
