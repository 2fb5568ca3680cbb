-- The target that a worker asks for.
use Rattle.std.proofs.Common.{◌≡◌, ◌<◌, ℕ, true, cond, Option, Some, None, List, length, ◌⊎◌, refl, sym, ap, subst, ◌∙◌}
use Rattle.std.specs.Prelude.{slice_index, IfSome}
use Rattle.std.proofs.lemmas.Option.{slice_get_within}
use Rattle.flu_model.specs.Itags.{count_of_itags}
use Rattle.flu_fork.specs.declared.content.Content.{Content}
use Rattle.flu_fork.specs.declared.lots.Ask.{Ask}
use Rattle.flu_fork.specs.Settings.{events_at}
use Rattle.flu_fork.specs.Lots.{job, setting_of}
use Rattle.flu_fork.specs.Serving.{LotCounts, AsksAbove}
use Rattle.flu_mail.specs.declared.mailbox.Mailbox.{Mailbox}
use Rattle.flu_worker.specs.declared.hand.Hand.{Hand}
use Rattle.flu_worker.specs.declared.hand.Side.TheVariants.{Left, Right}
use Rattle.flu_worker.specs.declared.holding.Holding.{Holding}
use Rattle.flu_worker.specs.declared.holding.Holding.TheVariants.{Empty as NoLot, Whole as WholeLot, LendingBoth, LendingLeft}
use Rattle.flu_worker.specs.declared.holding.Holding.TheVariants.{LendingRight, Down as BothOut, TakingLeft, TakingRight, Gone}
use Rattle.flu_worker.specs.Agreeing.{Agrees, IsTarget}
use Rattle.flu_worker.specs.Calls.{IsAskable}
use Rattle.flu_worker.specs.Choosing.{sight, first_some, new_target, target_of}
use Rattle.flu_worker.specs.Hands.{is_down, is_whole}
use Rattle.flu_worker.specs.Holding.{hand_of}
use Rattle.flu_worker.specs.LawsBelow.{LawsBelow}
use Rattle.flu_worker.specs.Notes.{WorkerNote, own_of, above_of}
use Rattle.flu_worker.specs.Rule.{Rule, Holds, IsDown}
use Rattle.flu_worker.proofs.Aiming.{never_ask, new_is_target, some_ask}
use Rattle.flu_worker.proofs.Nodes.{above_kids, above_not_below}
use Rattle.flu_worker.proofs.Steps.{mailed_still}

-- ---- what is known of a kept target, and of what is asked
pub kept_known : (n : WorkerNote) (h : Holding) → Holds n h → (y : Ask) → n.kept ≡ Some y → y.itag.0 < count_of_itags (job n.case)
kept_known n NoLot h y e = never_ask n.kept h.kept e
kept_known n (WholeLot lot) h y e = (h.target y e).known
kept_known n (LendingBoth a b) h y e = never_ask n.kept h.kept e
kept_known n (LendingLeft a) h y e = never_ask n.kept h.kept e
kept_known n (LendingRight b) h y e = never_ask n.kept h.kept e
kept_known n BothOut h y e = (h.target y e).known
kept_known n (TakingLeft a) h y e = (h.down.target y e).known
kept_known n (TakingRight b) h y e = (h.down.target y e).known
kept_known n Gone h y e = never_ask n.kept h e

pub if_kept : (P : Ask → Type 0) (o : Option Ask) → ((y : Ask) → o ≡ Some y → P y) → IfSome o P
if_kept P None h = tt
if_kept P (Some y) h = h y refl

pub if_asked : (P : Ask → Type 0) (o : Option Ask) → IfSome o P → (y : Ask) → o ≡ Some y → P y
if_asked P None h y e = cc
if_asked P (Some z) h y e = subst P (some_ask e) h

-- by a lot or a fork whose counts agree, what is held above the node is what is counted
module _ (laws : LawsBelow) (k : Content) (w : ℕ) (counts held upto : List ℕ) (agrees : Agrees k w counts held upto) where
  held_is_counted : (y : Ask) → AsksAbove k w y → slice_index held y.itag.0 ≡ slice_index counts y.itag.0
  held_is_counted y up = sym (agrees.outside y.itag.0 (above_not_below laws k w y.itag.0 up.known up.above)) ∙ sym (agrees.over y.itag.0 up.above)

pub whole_counts : LawsBelow → (n : WorkerNote) (h : Holding) → Holds n h → is_whole (hand_of h) ≡ true → (y : Ask) → AsksAbove n.case n.node y
    → slice_index n.held.upto y.itag.0 ≡ slice_index n.counts y.itag.0
whole_counts laws n NoLot h e y up = cc
whole_counts laws n (WholeLot lot) h e y up = held_is_counted laws n.case n.node n.counts n.held.upto lot.upto h.agrees y up
whole_counts laws n (LendingBoth a b) h e y up = cc
whole_counts laws n (LendingLeft a) h e y up = cc
whole_counts laws n (LendingRight b) h e y up = cc
whole_counts laws n BothOut h e y up = cc
whole_counts laws n (TakingLeft a) h e y up = cc
whole_counts laws n (TakingRight b) h e y up = cc
whole_counts laws n Gone h e y up = cc

pub down_counts : LawsBelow → (n : WorkerNote) (h : Holding) → Holds n h → is_down (hand_of h) ≡ true → (y : Ask) → AsksAbove n.case n.node y
    → slice_index n.held.upto y.itag.0 ≡ slice_index n.counts y.itag.0
down_counts laws n NoLot h e y up = cc
down_counts laws n (WholeLot lot) h e y up = cc
down_counts laws n (LendingBoth a b) h e y up = cc
down_counts laws n (LendingLeft a) h e y up = cc
down_counts laws n (LendingRight b) h e y up = cc
down_counts laws n BothOut h e y up = held_is_counted laws n.case n.node n.counts n.held.upto n.lent_left.upto h.forked.agrees y up
down_counts laws n (TakingLeft a) h e y up = cc
down_counts laws n (TakingRight b) h e y up = cc
down_counts laws n Gone h e y up = cc

-- ---- a target that can be asked for by the parts lent last
record CanAsk (n : WorkerNote) (y : Ask) : Type 0 where
  known : y.itag.0 < count_of_itags (job n.case)
  place : (own_of n y.itag.0 ≡ true) ⊎ (above_of n y.itag.0 ≡ true)
  there : y.index < length (events_at (setting_of n.case) y.itag.0)
  left : y.index ≡ slice_index n.lent_left.upto y.itag.0
  right : y.index ≡ slice_index n.lent_right.upto y.itag.0

askable : LawsBelow → (n : WorkerNote) (y : Ask) → CanAsk n y → IsAskable n y
askable laws n y a l r e Left =
    let up = above_kids laws n.case n.node l r y.itag.0 e a.known a.place in
    (record { known = a.known; above = up.0; there = a.there }, a.left)
askable laws n y a l r e Right =
    let up = above_kids laws n.case n.node l r y.itag.0 e a.known a.place in
    (record { known = a.known; above = up.1; there = a.there }, a.right)

down_asks : (n : WorkerNote) → IsDown n → (y : Ask) → IsTarget n.case n.node n.counts n.lent_left.upto y → CanAsk n y
down_asks n h y t = record {
  known = t.known;
  place = t.place;
  there = slice_get_within _ y.index t.event t.is;
  left = t.next;
  right = t.next ∙ sym (ap (λ (m : LotCounts). slice_index m.upto y.itag.0) h.right);
}

-- a kept target is one
kept_asks : (n : WorkerNote) (h : Holding) → Holds n h → (y : Ask) → n.kept ≡ Some y → CanAsk n y
kept_asks n NoLot h y e = never_ask n.kept h.kept e
kept_asks n (WholeLot lot) h y e =
    let t = h.target y e in
    record { known = t.known; place = t.place; there = slice_get_within _ y.index t.event t.is; left = (h.lent y e).0; right = (h.lent y e).1 }
kept_asks n (LendingBoth a b) h y e = never_ask n.kept h.kept e
kept_asks n (LendingLeft a) h y e = never_ask n.kept h.kept e
kept_asks n (LendingRight b) h y e = never_ask n.kept h.kept e
kept_asks n BothOut h y e = down_asks n h y (h.target y e)
kept_asks n (TakingLeft a) h y e = down_asks n h.down y (h.down.target y e)
kept_asks n (TakingRight b) h y e = down_asks n h.down y (h.down.target y e)
kept_asks n Gone h y e = never_ask n.kept h e

-- ---- the worker after it asked
pub record AimsAt (n : WorkerNote) (mail : Mailbox) (h : Holding) (found : Option Ask) : Type 0 where
  pub rule : Rule (record n { kept = found }) mail h
  pub asks : IfSome found (IsAskable (record n { kept = found }))
  pub same : (a : Ask) → n.kept ≡ Some a → found ≡ Some a

module _ (laws : LawsBelow) (n : WorkerNote) (mail : Mailbox) (h : Holding) (rule : Rule n mail h) (asked : Option Ask)
    (asks : (y : Ask) → asked ≡ Some y → AsksAbove n.case n.node y × (y.index ≡ slice_index n.held.upto y.itag.0)) where
  -- as it was
  same_aim : AimsAt n mail h n.kept
  same_aim = record { rule = rule; asks = if_kept (IsAskable n) n.kept (λ y e. askable laws n y (kept_asks n h rule.holds y e)); same = λ a e. e }

  aim_as : (found : Option Ask) → found ≡ n.kept → AimsAt n mail h found
  aim_as found e = subst (λ (o : Option Ask). AimsAt n mail h o) (sym e) same_aim

  kept_down : IsDown n → (y : Ask) → IsTarget n.case n.node n.counts n.lent_left.upto y → IsDown (record n { kept = Some y })
  kept_down down y t = record {
    forked = down.forked;
    left = down.left;
    right = down.right;
    target = λ z e. subst (λ (u : Ask). IsTarget n.case n.node n.counts n.lent_left.upto u) (some_ask e) t;
  }

  new_aim : n.kept ≡ None → (down : IsDown n) → h ≡ BothOut → (y : Ask) → IsTarget n.case n.node n.counts n.lent_left.upto y → AimsAt n mail h (Some y)
  new_aim none down is y t =
      let a = down_asks n down y t in
      record {
        rule = record {
          mailed = mailed_still n mail (record n { kept = Some y }) rule.mailed refl refl refl refl;
          hand = rule.hand;
          here = rule.here;
          holds = subst (λ (g : Holding). Holds (record n { kept = Some y }) g) (sym is) (kept_down down y t);
        };
        asks = askable laws (record n { kept = Some y }) y (record { known = a.known; place = a.place; there = a.there; left = a.left; right = a.right });
        same = λ z e. never_ask n.kept none e;
      }

  by_found : n.kept ≡ None → IsDown n → h ≡ BothOut → (o : Option Ask) → new_target (sight n) asked ≡ o → AimsAt n mail h o
  by_found none down is None e = aim_as None (sym none)
  by_found none down is (Some y) e = new_aim none down is y (new_is_target laws (sight n) n.held.upto n.lent_left.upto down.forked.agrees asked asks y e)

  by_holding : (g : Holding) → h ≡ g → n.kept ≡ None → AimsAt n mail h (cond (is_down (hand_of g)) (new_target (sight n) asked) None)
  by_holding NoLot e none = aim_as None (sym none)
  by_holding (WholeLot lot) e none = aim_as None (sym none)
  by_holding (LendingBoth a b) e none = aim_as None (sym none)
  by_holding (LendingLeft a) e none = aim_as None (sym none)
  by_holding (LendingRight b) e none = aim_as None (sym none)
  by_holding BothOut e none = by_found none (subst (λ (g : Holding). Holds n g) e rule.holds) e (new_target (sight n) asked) refl
  by_holding (TakingLeft a) e none = aim_as None (sym none)
  by_holding (TakingRight b) e none = aim_as None (sym none)
  by_holding Gone e none = aim_as None (sym none)

  by_kept : (o : Option Ask) → n.kept ≡ o → AimsAt n mail h (first_some o (cond (is_down n.hand) (new_target (sight n) asked) None))
  by_kept None e = subst (λ (g : Hand). AimsAt n mail h (cond (is_down g) (new_target (sight n) asked) None)) (sym rule.hand) (by_holding h refl e)
  by_kept (Some y) e = aim_as (Some y) (sym e)

  pub aims_at : (found : Option Ask) → found ≡ target_of n asked → AimsAt n mail h found
  aims_at found e = subst (λ (o : Option Ask). AimsAt n mail h o) (sym e) (by_kept n.kept refl)
