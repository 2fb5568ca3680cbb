-- The first of the node's own next events, as the mailbox has it at hand.
use Rattle.std.proofs.Common.{◌≡◌, false, Option, Some, None, refl, sym, ap, subst, ◌∙◌}
use Rattle.flu_model.specs.declared.events.Event.{Event}
use Rattle.flu_model.specs.Listed.{listed}
use Rattle.flu_model.specs.Merging.{is_before}
use Rattle.flu_model.specs.Owners.{owns}
use Rattle.flu_fork.specs.Lots.{job, nodes}
use Rattle.flu_mail.specs.First.{IsFirstOwn}
use Rattle.flu_worker.specs.Choosing.{Sight, next_at, own_itags, least_next}
use Rattle.flu_worker.specs.LawsBelow.{LawsBelow}
use Rattle.flu_worker.proofs.Aiming.{some_event}
use Rattle.flu_worker.proofs.Dues.{least_is_next}
use Rattle.flu_worker.proofs.EarliestLemmas.{NotBefore, all_where, found_is, none_before, where_all}
use Rattle.flu_worker.proofs.Nexts.{same_itag}

-- it is the least one
pub first_is_least : LawsBelow → (s : Sight) (x : Event)
    → IsFirstOwn (job s.case) (nodes s.case) (listed s.case.streams) s.node s.seen s.counts x → Some x ≡ least_next s
first_is_least laws s x first = by_found (least_next s) refl
  where
    -- the one that is found is not after x
    found : NotBefore x (least_next s)
    found =
        where_all (job s.case) (owns (job s.case) (nodes s.case) s.node) (λ i. (y : Event) → next_at s i ≡ Some y → NotBefore y (least_next s))
        (none_before (next_at s) (own_itags s.case s.node)) x.itag first.is.known first.is.own x first.is.next

    -- nor before it
    not_before : (z : Event) → least_next s ≡ Some z → is_before z x ≡ false
    not_before =
        found_is (λ z. is_before z x ≡ false) (next_at s) (own_itags s.case s.node)
        (all_where (job s.case) (owns (job s.case) (nodes s.case) s.node) (λ i. (y : Event) → next_at s i ≡ Some y → is_before y x ≡ false)
        (λ i lt mine y next. first.first i.0 y (record { known = lt; own = mine; next = next })))

    by_found : (o : Option Event) → least_next s ≡ o → Some x ≡ o
    by_found None e = absurd (subst (NotBefore x) e found)
    by_found (Some z) e =
        let itags : x.itag ≡ z.itag = λ j. record { 0 = same_itag x z (subst (NotBefore x) e found) (not_before z e) j } in
        ap (λ (y : Event). Some y) (some_event (sym first.is.next ∙ ap (next_at s) itags ∙ (least_is_next laws s z e).next))
