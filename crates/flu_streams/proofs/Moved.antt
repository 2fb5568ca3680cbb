-- The items of a source with one itag are its list.
use Rattle.std.proofs.Common.{◌≡◌, ◌+◌, ◌<◌, ◌++◌, ℕ, zero, suc, true, Some, List, [], ◌∷◌, map, refl, sym, ap, ◌∙◌, arith}
use Rattle.std.specs.Global.{Global}
use Rattle.std.specs.Prelude.{Vec, slice_index_or}
use Rattle.std.specs.List.{filter_map, list_all}
use Rattle.flu_lemmas.proofs.Tests.{and_left, and_right}
use Rattle.flu_model.specs.declared.events.Item.{Item}
use Rattle.flu_model.specs.declared.events.Item.TheVariants.{Event, Beat, End}
use Rattle.flu_streams.specs.declared.border.Border.TheVariants.{Closed}
use Rattle.flu_streams.specs.Lists.{items_of_list, item_for, is_own}
use Rattle.flu_streams.specs.LoopHeld.{taken_by}
use Rattle.flu_streams.proofs.HeldRows.{kept_true}

own_is : (itag : ℕ) (item : Item) → is_own itag item ≡ true → item_for itag item ≡ Some item
own_is itag (Event x) e = rw e refl
own_is itag (Beat t) e = refl
own_is itag End e = cc

pub own_are : (itag : ℕ) (items : List Item) → list_all (is_own itag) items ≡ true → filter_map (item_for itag) items ≡ items
own_are itag [] e = refl
own_are itag (item ∷ items) e =
    let first : item_for itag item ≡ Some item = own_is itag item (and_left _ _ e) in
    rw first (ap (λ l. item ∷ l) (own_are itag items (and_right _ _ e)))

pub alone : (lists : Vec (Vec Item Global) Global) (list : Vec Item Global) (first width i : ℕ) (held : List Item) → lists.items ≡ list ∷ []
    → list.items ≡ filter_map (item_for first) held ++ End ∷ [] → width ≡ 1 → i < width
    → items_of_list lists i ≡ filter_map (item_for (first + i)) (taken_by Closed held) ++ End ∷ []
alone lists list first width zero held one is w lt =
    let here : first ≡ first + 0 = omega arith in
    ap (λ (ls : List (Vec Item Global)). slice_index_or (map (λ v. v.items) ls) 0 []) one
    ∙ is
    ∙ ap (λ n. filter_map (item_for n) held ++ End ∷ []) here
    ∙ ap (λ items. filter_map (item_for (first + 0)) items ++ End ∷ []) (sym (kept_true held))
alone lists list first width (suc i) held one is w lt = absurd (omega (arith, w, lt))
