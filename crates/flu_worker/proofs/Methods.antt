-- What the methods of a worker owe, by its value before the call.
use Rattle.std.proofs.Common.{◌≡◌, ◌<◌, ℕ, Bool, true, false, Option, List, refl, sym, ap, subst, ◌∙◌}
use Rattle.std.specs.Prelude.{◌==◌, ◌&&◌, slice_index, IfSome}
use Rattle.flu_lemmas.proofs.Searches.{eq_true}
use Rattle.flu_model.specs.Itags.{count_of_itags}
use Rattle.flu_fork.specs.declared.content.Content.{Content}
use Rattle.flu_fork.specs.declared.lots.Ask.{Ask}
use Rattle.flu_fork.specs.Lots.{job}
use Rattle.flu_fork.specs.Serving.{AsksAbove}
use Rattle.flu_mail.specs.declared.mailbox.Mailbox.{Mailbox}
use Rattle.flu_mail.specs.Mailboxes.{counts_of}
use Rattle.flu_worker.specs.declared.hand.Hand.{Hand}
use Rattle.flu_worker.specs.declared.holding.Holding.{Holding}
use Rattle.flu_worker.specs.Choosing.{sight, sight_at, next_by, next_of, target_by, target_of, gives_by, may_give}
use Rattle.flu_worker.specs.Hands.{is_whole, is_down}
use Rattle.flu_worker.specs.LawsBelow.{LawsBelow}
use Rattle.flu_worker.specs.Notes.{WorkerNote, above_of}
use Rattle.flu_worker.specs.Rule.{Rule, IsMailed}
use Rattle.flu_worker.specs.Sights.{IsMailFor}
use Rattle.flu_worker.proofs.Targets.{kept_known, if_kept, if_asked, whole_counts, down_counts}

-- the mailbox is that of the worker's node, in the case that is handed in
pub mail_for : (n : WorkerNote) (mail : Mailbox) (k : Content) (w : ℕ) → k ≡ n.case → w ≡ n.node → IsMailed n mail → IsMailFor k w mail
mail_for n mail k w ek ew h =
    subst (λ (u : ℕ). IsMailFor k u mail) (sym ew)
    (subst (λ (j : Content). IsMailFor j n.node mail) (sym ek) (record { there = h.there; node = h.node; at_node = h.at_node; over = h.over }))

pub known_kept : (n : WorkerNote) (h : Holding) (mail : Mailbox) (k : Content) → k ≡ n.case → Rule n mail h
    → IfSome n.kept (λ y. y.itag.0 < count_of_itags (job k))
known_kept n h mail k ek rule =
    if_kept (λ y. y.itag.0 < count_of_itags (job k)) n.kept
    (λ y e. subst (λ (j : Content). y.itag.0 < count_of_itags (job j)) (sym ek) (kept_known n h rule.holds y e))

-- ---- the three choices, by the mailbox and by what contracts see
pub sights : (n : WorkerNote) (mail : Mailbox) (k : Content) (w : ℕ) → k ≡ n.case → w ≡ n.node → IsMailed n mail → sight_at k w mail ≡ sight n
sights n mail k w ek ew h = λ i. record { case = ek i; node = ew i; seen = h.seen i; counts = h.counts i }

pub next_is : (n : WorkerNote) (mail : Mailbox) (k : Content) (w : ℕ) (hand : Hand) (kept : Option Ask) → k ≡ n.case → w ≡ n.node → hand ≡ n.hand
    → kept ≡ n.kept → IsMailed n mail
    → next_by (sight_at k w mail) hand kept ≡ next_of n
next_is n mail k w hand kept ek ew eh et h = λ i. next_by (sights n mail k w ek ew h i) (eh i) (et i)

pub target_is : (n : WorkerNote) (mail : Mailbox) (k : Content) (w : ℕ) (hand : Hand) (kept asked : Option Ask) → k ≡ n.case → w ≡ n.node → hand ≡ n.hand
    → kept ≡ n.kept
    → IsMailed n mail → target_by (sight_at k w mail) hand kept asked ≡ target_of n asked
target_is n mail k w hand kept asked ek ew eh et h = λ i. target_by (sights n mail k w ek ew h i) (eh i) (et i) asked

both_true : (a b t : Bool) → a ≡ true → b ≡ true → t ≡ (a && b && t)
both_true a b t ea eb = one t ∙ sym (ap (λ x. x && b && t) ea ∙ ap (λ x. true && x && t) eb)
  where
    one : (t : Bool) → t ≡ (true && true && t)
    one true = refl
    one false = refl

pub gives_is : (n : WorkerNote) (mail : Mailbox) (k : Content) (w : ℕ) (hand : Hand) (kept : Option Ask) (y : Ask) → k ≡ n.case → w ≡ n.node → hand ≡ n.hand
    → kept ≡ n.kept
    → IsMailed n mail → AsksAbove n.case n.node y → y.index ≡ slice_index n.held.upto y.itag.0 → gives_by (sight_at k w mail) hand kept y ≡ may_give n y
gives_is n mail k w hand kept y ek ew eh et h up next =
    (λ i. gives_by (sights n mail k w ek ew h i) (eh i) (et i) y)
    ∙ both_true (above_of n y.itag.0) (y.index == slice_index n.held.upto y.itag.0) (gives_by (sight n) n.hand n.kept y) up.above
    (eq_true y.index (slice_index n.held.upto y.itag.0) next)

-- ---- what is asked, by the mailbox
module _ (laws : LawsBelow) (n : WorkerNote) (mail : Mailbox) (h : Holding) (rule : Rule n mail h) where
  pub next_whole : (hand : Hand) → hand ≡ n.hand → is_whole hand ≡ true → (y : Ask) → AsksAbove n.case n.node y → y.index ≡ slice_index n.held.upto y.itag.0
      → y.index ≡ slice_index (counts_of mail) y.itag.0
  next_whole hand eh whole y up next =
      next ∙ whole_counts laws n h rule.holds (sym (ap is_whole (eh ∙ rule.hand)) ∙ whole) y up
      ∙ sym (ap (λ (c : List ℕ). slice_index c y.itag.0) rule.mailed.counts)

  pub next_down : (hand : Hand) → hand ≡ n.hand → is_down hand ≡ true → (asked : Option Ask) → IfSome asked (λ y. AsksAbove n.case n.node y)
      → IfSome asked (λ y. y.index ≡ slice_index n.held.upto y.itag.0) → IfSome asked (λ y. y.index ≡ slice_index (counts_of mail) y.itag.0)
  next_down hand eh down asked ups nexts =
      if_kept (λ y. y.index ≡ slice_index (counts_of mail) y.itag.0) asked
      (λ y e. (let up = if_asked (AsksAbove n.case n.node) asked ups y e in
      if_asked (λ z. z.index ≡ slice_index n.held.upto z.itag.0) asked nexts y e
      ∙ down_counts laws n h rule.holds (sym (ap is_down (eh ∙ rule.hand)) ∙ down) y up ∙ sym (ap (λ (c : List ℕ). slice_index c y.itag.0) rule.mailed.counts)))

  pub known_asked : (k : Content) → k ≡ n.case → (asked : Option Ask) → IfSome asked (λ y. AsksAbove n.case n.node y)
      → IfSome asked (λ y. y.itag.0 < count_of_itags (job k))
  known_asked k ek asked ups =
      if_kept (λ y. y.itag.0 < count_of_itags (job k)) asked
      (λ y e. subst (λ (j : Content). y.itag.0 < count_of_itags (job j)) (sym ek) (if_asked (AsksAbove n.case n.node) asked ups y e).known)
