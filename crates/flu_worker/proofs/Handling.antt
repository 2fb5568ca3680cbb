-- The rule after the lot was given, and after an event was handled.
use Rattle.std.proofs.Common.{◌≡◌, ◌<◌, ◌+◌, ℕ, true, Some, None, List, length, refl, sym, ap, subst, ◌∙◌, arith}
use Rattle.std.specs.Prelude.{slice_get, slice_index, slice_index_or, slice_set, []}
use Rattle.std.proofs.lemmas.Option.{slice_get_within}
use Rattle.flu_model.specs.declared.events.Event.{Event}
use Rattle.flu_model.specs.declared.events.Out.{Out}
use Rattle.flu_model.specs.Itags.{count_of_itags}
use Rattle.flu_model.specs.Listed.{listed}
use Rattle.flu_model.specs.Merging.{events_of}
use Rattle.flu_laws.specs.Lots.{CountsOneMore}
use Rattle.flu_fork.specs.declared.lots.Ask.{Ask}
use Rattle.flu_fork.specs.declared.lots.Lot.{Lot}
use Rattle.flu_fork.specs.Places.{HasMoment}
use Rattle.flu_fork.specs.Lots.{job, setting_of, LotFits}
use Rattle.flu_fork.specs.Serving.{Served}
use Rattle.flu_mail.specs.declared.mailbox.Mailbox.{Mailbox}
use Rattle.flu_mail.specs.Mailboxes.{counts_of}
use Rattle.flu_worker.specs.declared.hand.Hand.TheVariants.{Empty}
use Rattle.flu_worker.specs.declared.holding.Holding.{Holding}
use Rattle.flu_worker.specs.declared.holding.Holding.TheVariants.{Empty as NoLot, Whole as WholeLot, LendingBoth, LendingLeft}
use Rattle.flu_worker.specs.declared.holding.Holding.TheVariants.{LendingRight, Down as BothOut, TakingLeft, TakingRight, Gone}
use Rattle.flu_worker.specs.Agreeing.{IsExactFor}
use Rattle.flu_worker.specs.Calls.{GivesLot, HandlesEvent, CountsEvent, IsWholeLot}
use Rattle.flu_worker.specs.Choosing.{may_give, next_of}
use Rattle.flu_worker.proofs.Mails.{IsSameMail}
use Rattle.flu_worker.specs.Doing.{PutsOut}
use Rattle.flu_worker.specs.Hands.{is_whole}
use Rattle.flu_worker.specs.Holding.{hand_of, IsHeldAs}
use Rattle.flu_worker.specs.LawsBelow.{LawsBelow}
use Rattle.flu_worker.specs.Moving.{IsWholeOf}
use Rattle.flu_worker.specs.Notes.{WorkerNote}
use Rattle.flu_worker.specs.Rule.{Rule, HoldsWhole}
use Rattle.flu_worker.proofs.Aiming.{some_event}
use Rattle.flu_worker.proofs.Changing.{agrees_more, grows_more}
use Rattle.flu_worker.proofs.CountLemmas.{set_here, set_there, set_one}
use Rattle.flu_worker.proofs.Serving.{give_aims, give_hand, hand_whole, next_aims, next_exact, next_hand}
use Rattle.flu_worker.proofs.Steps.{holds_anew, hand_anew, mailed_after, mailed_still, counts_long, tied_at}

whole_is : (h : Holding) (lot : Lot) → IsWholeOf h lot → h ≡ WholeLot lot
whole_is NoLot lot is = absurd is
whole_is (WholeLot here) lot is = ap (λ (x : Lot). WholeLot x) is
whole_is (LendingBoth a b) lot is = absurd is
whole_is (LendingLeft a) lot is = absurd is
whole_is (LendingRight b) lot is = absurd is
whole_is BothOut lot is = absurd is
whole_is (TakingLeft a) lot is = absurd is
whole_is (TakingRight b) lot is = absurd is
whole_is Gone lot is = absurd is

pub holds_whole : (v : WorkerNote) (mail : Mailbox) (h : Holding) (lot : Lot) → Rule v mail h → IsWholeOf h lot → HoldsWhole v lot
holds_whole v mail h lot rule is = (subst (λ (x : Holding). Rule v mail x) (whole_is h lot is) rule).holds

-- the lot of a whole hand
pub whole_lot : (v : WorkerNote) (lot : Lot) → HoldsWhole v lot → IsWholeLot v lot
whole_lot v lot h = record { fits = h.fits; since = h.since; own = λ i mine. sym (h.agrees.mine i mine); outside = h.agrees.outside }

-- a hand that is whole has a lot
pub whole_there : (v : WorkerNote) (mail : Mailbox) (h : Holding) → Rule v mail h → is_whole v.hand ≡ true → (lot : Lot) × IsWholeOf h lot
whole_there v mail h rule whole = by_holding h (sym (ap is_whole rule.hand) ∙ whole)
  where
    by_holding : (h : Holding) → is_whole (hand_of h) ≡ true → (lot : Lot) × IsWholeOf h lot
    by_holding NoLot e = cc
    by_holding (WholeLot lot) e = (lot, refl)
    by_holding (LendingBoth a b) e = cc
    by_holding (LendingLeft a) e = cc
    by_holding (LendingRight b) e = cc
    by_holding BothOut e = cc
    by_holding (TakingLeft a) e = cc
    by_holding (TakingRight b) e = cc
    by_holding Gone e = cc

-- ---- give
pub record Given (v m : WorkerNote) (mail : Mailbox) (y : Ask) (lot : Lot) : Type 0 where
  pub rule : Rule m mail NoLot
  pub note : GivesLot lot v m
  pub fits : LotFits v.case v.node lot
  pub served : Served v.case v.node v.held y lot

pub gives : LawsBelow → (v : WorkerNote) (mail : Mailbox) (h : Holding) (lot : Lot) (y : Ask) → Rule v mail h → IsWholeOf h lot → may_give v y ≡ true
    → Given v (record v { hand = Empty; holding = NoLot; kept = None; given = lot.upto }) mail y lot
gives laws v mail h lot y rule is may =
    let whole = holds_whole v mail h lot rule is in
    record {
      rule = record {
        mailed = mailed_still v mail (record v { hand = Empty; holding = NoLot; kept = None; given = lot.upto }) rule.mailed refl refl refl refl;
        hand = refl;
        here = refl;
        holds = record { kept = refl; mine = whole.agrees.mine; most = whole.agrees.most; grows = whole.grows };
      };
      note = record {
        place = record { case = refl; node = refl; seen = refl };
        same = record { lent_left = refl; lent_right = refl; taken_left = refl; taken_right = refl };
        hand_was = hand_whole v.hand (give_hand laws v rule.mailed.there lot whole y may);
        hand = refl;
        kept = refl;
        held = refl;
        given = refl;
        counts = refl;
        tied = tied_at v lot.upto whole.agrees;
      };
      fits = whole.fits;
      served = (give_aims laws v rule.mailed.there lot whole y may).served;
    }

-- ---- handle

-- memory was wanting
pub lost_rule : (v : WorkerNote) (mail : Mailbox) (was h : Holding) → Rule v mail was → h ≡ Gone → Rule (record v { hand = hand_of h; holding = h; kept = None }) mail h
lost_rule v mail was h rule gone = subst (λ (x : Holding). Rule (record v { hand = hand_of x; holding = x; kept = None }) mail x) (sym gone) (record {
  mailed = mailed_still v mail (record v { hand = hand_of Gone; holding = Gone; kept = None }) rule.mailed refl refl refl refl;
  hand = refl;
  here = refl;
  holds = refl;
})

module _ (laws : LawsBelow) (v : WorkerNote) (old : Mailbox) (was : Holding) (rule : Rule v old was) (x : Ask) (next : next_of v ≡ Some x) (lot : Lot)
    (is_lot : IsWholeOf was lot) where
  abbrev whole : HoldsWhole v lot
  whole = holds_whole v old was lot rule is_lot

  mine : Rattle.flu_worker.specs.Notes.own_of v x.itag.0 ≡ true
  mine = (next_aims laws v rule.mailed.there lot whole x next).1

  abbrev event : Event
  event = (next_aims laws v rule.mailed.there lot whole x next).0.target.event

  exact : IsExactFor v.case v.node lot.upto x event
  exact = next_exact laws v rule.mailed.there lot whole x next

  pub handle_fits : LotFits v.case v.node lot
  handle_fits = whole.fits

  own_count : slice_index v.counts x.itag.0 ≡ x.index
  own_count = whole.agrees.mine x.itag.0 mine ∙ sym exact.next

  pub handle_known : x.itag.0 < count_of_itags (job v.case)
  handle_known = exact.known

  pub handle_there : slice_index (counts_of old) x.itag.0 < length (events_of (slice_index_or (listed v.case.streams) x.itag.0 []))
  handle_there =
      let same = ap (λ (c : List ℕ). slice_index c x.itag.0) rule.mailed.counts in
      let count = own_count in
      let there = slice_get_within (events_of (slice_index_or (listed v.case.streams) x.itag.0 [])) x.index event exact.is in
      omega arith

  -- the pending event is the one that x names
  module _ (found : Event) (is : slice_get (events_of (slice_index_or (listed v.case.streams) x.itag.0 []))
      (slice_index (counts_of old) x.itag.0) ≡ Some found) where
    found_at : slice_get (events_of (slice_index_or (listed v.case.streams) x.itag.0 [])) x.index ≡ Some found
    found_at =
        ap (slice_get (events_of (slice_index_or (listed v.case.streams) x.itag.0 [])))
        (sym (ap (λ (c : List ℕ). slice_index c x.itag.0) rule.mailed.counts ∙ own_count)) ∙ is

    pub handle_exact : IsExactFor v.case v.node lot.upto x found
    handle_exact = subst (λ (z : Event). IsExactFor v.case v.node lot.upto x z) (some_event (sym exact.is ∙ found_at)) exact

  pub never_pending : slice_get (events_of (slice_index_or (listed v.case.streams) x.itag.0 [])) (slice_index (counts_of old) x.itag.0) ≡ None → ⊥
  never_pending none =
      some_none (sym (ap (slice_get (events_of (slice_index_or (listed v.case.streams) x.itag.0 [])))
      (ap (λ (c : List ℕ). slice_index c x.itag.0) rule.mailed.counts ∙ own_count) ∙ exact.is) ∙ none)
    where
      some_none : {z : Event} → Some z ≡ None → ⊥
      some_none e = cc

  module _ (more : Lot) (fits : LotFits v.case v.node more) (since : more.since ≡ lot.since)
      (upto : more.upto ≡ slice_set lot.upto x.itag.0 (slice_index lot.upto x.itag.0 + 1))
      (mail : Mailbox) (same : IsSameMail (listed v.case.streams) old mail) (counts : List ℕ) (is_counts : counts_of mail ≡ counts)
      (set : counts ≡ slice_set v.counts x.itag.0 (slice_index v.counts x.itag.0 + 1)) where
    in_range : x.itag.0 < length v.counts
    in_range = let long = counts_long v old rule.mailed in let known = exact.known in omega arith

    counted : CountsOneMore x.itag.0 v.counts counts
    counted = subst (λ (c : List ℕ). CountsOneMore x.itag.0 v.counts c) (sym set) (set_one v.counts x.itag.0 _ in_range refl)

    one : CountsOneMore x.itag.0 lot.upto more.upto
    one =
        subst (λ (c : List ℕ). CountsOneMore x.itag.0 lot.upto c) (sym upto)
        (set_one lot.upto x.itag.0 _ (let long = whole.fits.upto_each in let known = exact.known in omega arith) refl)

    module _ (h : Holding) (is : IsHeldAs v.case v.node more h) where
      abbrev pub handled_note : WorkerNote
      handled_note = record v { hand = hand_of h; holding = h; kept = None; counts = counts }

      pub handled_rule : Rule handled_note mail h
      handled_rule = record {
        mailed = mailed_after v old mail handled_note rule.mailed same is_counts refl refl refl;
        hand = refl;
        here = refl;
        holds = holds_anew handled_note more refl fits (since ∙ whole.since)
            (agrees_more laws v.case v.node x.itag.0 v.counts counts v.held.upto lot.upto more.upto exact.known mine counted one whole.agrees)
            (grows_more laws v.case v.node x.itag.0 v.counts counts v.held.upto lot.upto more.upto exact.known mine counted one v.taken_left v.taken_right
            whole.grows) h is;
      }

      pub handles : HandlesEvent x v handled_note
      handles = record {
        place = record { case = refl; node = refl; seen = refl };
        same = record { lent_left = refl; lent_right = refl; taken_left = refl; taken_right = refl };
        hand_was = hand_whole v.hand (next_hand laws v rule.mailed.there lot whole x next);
        hand = hand_anew v.case v.node more h is;
        kept = refl;
        held = refl;
        given = refl;
        owned = mine;
      }

    pub counts_event : (before after : List Out) → PutsOut v.case x before after → CountsEvent v.case x v.counts counts before after
    counts_event before after puts =
        let m : HasMoment (setting_of v.case) x.itag.0 x.index event = laws.events (setting_of v.case) x.itag.0 x.index event (laws.settings v.case) exact.is in
        let itag_is : m.moment.event.itag ≡ x.itag = ap (λ (e : Event). e.itag) m.event ∙ λ i. record { 0 = m.itag i } in
        record {
          front = m.front;
          back = m.back;
          moment = m.moment;
          stands = m.stands;
          itag = itag_is;
          index = m.index;
          next = own_count;
          counts = λ j. (
            (λ e. ap (slice_index counts) e ∙ ap (λ (c : List ℕ). slice_index c x.itag.0) set ∙ set_here v.counts x.itag.0 _ in_range
                ∙ ap (λ (u : ℕ). u + 1) own_count),
            (λ other. ap (λ (c : List ℕ). slice_index c j) set ∙ set_there v.counts x.itag.0 _ j other),
          );
          outputs = puts m.front m.back m.moment m.stands itag_is m.index;
        }
