-- The least next event is found by its time and its itag.
use Rattle.std.proofs.Common.{◌≡◌, ◌<◌, ◌+◌, ℕ, suc, true, false, cond, Option, Some, None, List, [], ◌∷◌, length, drop, add-one, refl, sym, ap, subst, ◌∙◌}
use Rattle.std.proofs.Math.Seq.{drop-cons}
use Rattle.std.specs.Prelude.{slice_index, slice_index_or}
use Rattle.std.specs.List.{fold}
use Rattle.flu_model.specs.declared.events.Event.{Event}
use Rattle.flu_model.specs.declared.events.Itag.{Itag}
use Rattle.flu_model.specs.Itags.{count_of_itags}
use Rattle.flu_model.specs.Listed.{listed}
use Rattle.flu_model.specs.Merging.{is_before}
use Rattle.flu_model.specs.Owners.{owns}
use Rattle.flu_fork.specs.Lots.{job, nodes, setting_of}
use Rattle.flu_fork.specs.Streams.{IsEventAt}
use Rattle.flu_worker.specs.declared.choosing.Due.{Due}
use Rattle.flu_worker.specs.Choosing.{Sight, earlier, least_next, next_at, own_itags}
use Rattle.flu_worker.specs.LawsBelow.{LawsBelow}
use Rattle.flu_worker.specs.Sights.{due_of, earlier_due, first_due}
use Rattle.flu_worker.proofs.EarliestLemmas.{all_where, found_is}

due_step : (a b : Option Event) → earlier_due (due_of a) b ≡ due_of (earlier a b)
due_step None b = refl
due_step (Some x) None = refl
due_step (Some x) (Some y) =
    elim (is_before y x) as (λ q. cond q (due_of (Some y)) (due_of (Some x)) ≡ due_of (cond q (Some y) (Some x))) [ true ↦ refl | false ↦ refl ]

dues : (f : Itag → Option Event) (itags : List Itag) (a : Option Event)
    → fold (λ o i. earlier_due o (f i)) (due_of a) itags ≡ due_of (fold (λ o i. earlier o (f i)) a itags)
dues f [] a = refl
dues f (i ∷ rest) a = ap (λ (o : Option Due). fold (λ o i. earlier_due o (f i)) o rest) (due_step a (f i)) ∙ dues f rest (earlier a (f i))

-- one more itag is looked at
pub due_on : (s : Sight) (found new : Option Due) (items : List Itag) (i : ℕ) (d : Itag) → i < length items
    → fold (λ o i. earlier_due o (next_at s i)) found (drop i items) ≡ first_due s → new ≡ earlier_due found (next_at s (slice_index_or items i d))
    → fold (λ o i. earlier_due o (next_at s i)) new (drop (i + 1) items) ≡ first_due s
due_on s found new items i d lt before is =
    ap (λ (j : ℕ). fold (λ o i. earlier_due o (next_at s i)) new (drop j items)) (add-one i)
    ∙ ap (λ (o : Option Due). fold (λ o i. earlier_due o (next_at s i)) o (drop (suc i) items)) is
    ∙ sym (ap (fold (λ o i. earlier_due o (next_at s i)) found) (drop-cons items i d lt)) ∙ before

first_is : (s : Sight) → first_due s ≡ due_of (least_next s)
first_is s = dues (next_at s) (own_itags s.case s.node) None

-- the next event of its own itag is the one that was found
pub record IsNextOwn (s : Sight) (x : Event) : Type 0 where
  pub known : x.itag.0 < count_of_itags (job s.case)
  pub next : next_at s x.itag ≡ Some x

pub least_is_next : LawsBelow → (s : Sight) (x : Event) → least_next s ≡ Some x → IsNextOwn s x
least_is_next laws s =
    found_is (IsNextOwn s) (next_at s) (own_itags s.case s.node)
    (all_where (job s.case) (owns (job s.case) (nodes s.case) s.node) (λ i. (x : Event) → next_at s i ≡ Some x → IsNextOwn s x) (λ i lt mine. next_own i lt))
  where
    next_own : (i : Itag) → i.0 < count_of_itags (job s.case) → (x : Event) → next_at s i ≡ Some x → IsNextOwn s x
    next_own i lt x e =
        let at : IsEventAt (setting_of s.case) i.0 (slice_index s.counts i.0) x =
        laws.seen_events (slice_index_or (listed s.case.streams) i.0 []) (slice_index s.seen i.0) (slice_index s.counts i.0) x e in
        let same : x.itag.0 ≡ i.0 = (laws.events (setting_of s.case) i.0 (slice_index s.counts i.0) x (laws.settings s.case) at).itag in
        subst (λ (j : Itag). j.0 < count_of_itags (job s.case) → next_at s j ≡ Some x → IsNextOwn s x) (λ j. record { 0 = same j })
        (λ known next. record { known = known; next = next }) lt e

-- what the time and the itag are of
due_is : (laws : LawsBelow) (s : Sight) (d : Due) → first_due s ≡ Some d → (x : Event) × (least_next s ≡ Some x) × (x.itag ≡ d.itag)
due_is laws s d found = by_found (least_next s) refl (sym (first_is s) ∙ found)
  where
    by_found : (o : Option Event) → least_next s ≡ o → due_of o ≡ Some d → (x : Event) × (least_next s ≡ Some x) × (x.itag ≡ d.itag)
    by_found None e f = cc
    by_found (Some x) e f = (x, e, same f)
      where
        same : {a b : Due} → Some a ≡ Some b → a.itag ≡ b.itag
        same g = cc

pub due_known : LawsBelow → (s : Sight) (d : Due) → first_due s ≡ Some d → d.itag.0 < count_of_itags (job s.case)
due_known laws s d found =
    let x = due_is laws s d found in
    subst (λ (i : Itag). i.0 < count_of_itags (job s.case)) x.2 (least_is_next laws s x.0 x.1).known

pub next_found : LawsBelow → (s : Sight) (d : Due) → first_due s ≡ Some d → next_at s d.itag ≡ least_next s
next_found laws s d found =
    let x = due_is laws s d found in
    subst (λ (i : Itag). next_at s i ≡ Some x.0) x.2 (least_is_next laws s x.0 x.1).next ∙ sym x.1

pub none_found : (s : Sight) → first_due s ≡ None → None ≡ least_next s
none_found s found = by_found (least_next s) (sym (first_is s) ∙ found)
  where
    by_found : (o : Option Event) → due_of o ≡ None → None ≡ o
    by_found None e = refl
    by_found (Some x) e = cc
