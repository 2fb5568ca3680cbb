-- The rule after a part was lent or taken, and after the lot was given or an event handled.
use Rattle.std.proofs.Common.{◌≡◌, ℕ, Option, Some, None, List, refl, sym, ap, subst, ◌∙◌}
use Rattle.std.specs.Prelude.{is_some, slice_index, IsSome}
use Rattle.std.proofs.lemmas.Option.{some_pair_parts}
use Rattle.flu_lemmas.proofs.Options.{some_there, none_or_some}
use Rattle.flu_fork.specs.declared.content.Content.{Content}
use Rattle.flu_fork.specs.declared.lots.Ask.{Ask}
use Rattle.flu_fork.specs.declared.lots.Lot.{Lot}
use Rattle.flu_fork.specs.Lots.{kids, LotFits, LotsPaired, HasJoinedCounts}
use Rattle.flu_fork.specs.Serving.{LotCounts, GrownFrom, Served, counts_of}
use Rattle.flu_mail.specs.declared.mailbox.Mailbox.{Mailbox}
use Rattle.flu_worker.specs.declared.hand.Hand.TheVariants.{Whole}
use Rattle.flu_worker.specs.declared.hand.Side.{Side}
use Rattle.flu_worker.specs.declared.hand.Side.TheVariants.{Left, Right}
use Rattle.flu_worker.specs.declared.holding.Holding.{Holding}
use Rattle.flu_worker.specs.declared.holding.Holding.TheVariants.{Empty as NoLot, Whole as WholeLot, LendingBoth, LendingLeft}
use Rattle.flu_worker.specs.declared.holding.Holding.TheVariants.{LendingRight, Down as BothOut, TakingLeft, TakingRight, Gone}
use Rattle.flu_worker.specs.Agreeing.{Agrees, IsTarget, IsForkedAt, left_loan, right_loan}
use Rattle.flu_worker.specs.Calls.{LendsPart, IsFitPart, TakesPart}
use Rattle.flu_worker.specs.Hands.{after_lend, after_take}
use Rattle.flu_worker.specs.Holding.{hand_of}
use Rattle.flu_worker.specs.LawsBelow.{LawsBelow}
use Rattle.flu_worker.specs.Moving.{LeftLeaves, RightLeaves, LeftComes, RightComes, AwaitsLeft, AwaitsRight}
use Rattle.flu_worker.specs.Notes.{WorkerNote}
use Rattle.flu_worker.specs.Rule.{Rule, IsMailed, HoldsWhole, IsPart, LendsBoth, LendsLeft, LendsRight, IsDown, TakesLeft, TakesRight}
use Rattle.flu_worker.proofs.Aiming.{never_ask, some_ask}
use Rattle.flu_worker.proofs.Changing.{joined_agrees, joined_target, joined_served, joined_left_grown, joined_right_grown}
use Rattle.flu_worker.proofs.CountLemmas.{upto_of}
use Rattle.flu_worker.proofs.Steps.{mailed_still, counts_long, tied_at}

pub the_kids : (o : Option (ℕ × ℕ)) → IsSome o → (l : ℕ) × (r : ℕ) × (o ≡ Some (l, r))
the_kids None e = cc
the_kids (Some p) e = (p.0, p.1, refl)

same_kept : {a b : Ask} (o : Option Ask) → o ≡ Some a → o ≡ Some b → a ≡ b
same_kept o e f = some_ask (sym e ∙ f)

-- ---- lend
pub record Lent (s : Side) (v m : WorkerNote) (mail : Mailbox) (new : Holding) (lot : Lot) : Type 0 where
  pub rule : Rule m mail new
  pub note : LendsPart s lot v m
  pub part : IsFitPart s lot v

abbrev pub left_note : WorkerNote → Holding → Lot → WorkerNote
left_note v new lot = record v { hand = hand_of new; holding = new; lent_left = counts_of lot }

abbrev pub right_note : WorkerNote → Holding → Lot → WorkerNote
right_note v new lot = record v { hand = hand_of new; holding = new; lent_right = counts_of lot }

part_grown : (k : Content) (v : ℕ) (loan : LotCounts) (taken : List ℕ) (lot : Lot) → IsPart k v loan taken lot → GrownFrom k v taken lot.upto
part_grown k v loan taken lot p = subst (λ (u : List ℕ). GrownFrom k v taken u) (sym (upto_of (counts_of lot) loan p.loaned)) p.grown

left_from_both : (v : WorkerNote) (mail : Mailbox) (a b : Lot) → Rule v mail (LendingBoth a b)
    → Lent Left v (left_note v (LendingRight b) a) mail (LendingRight b) a
left_from_both v mail a b rule =
    let h : LendsBoth v a b = rule.holds in
    let two = the_kids (kids v.case v.node) h.forked.inner in
    let same : b.upto ≡ a.upto = upto_of (counts_of b) (right_loan a.upto) (h.right two.0 two.1 two.2).loaned in
    record {
      rule = record {
        mailed = mailed_still v mail (left_note v (LendingRight b) a) rule.mailed refl refl refl refl;
        hand = refl;
        here = refl;
        holds = record {
          kept = h.kept;
          forked = subst (λ (u : List ℕ). IsForkedAt v.case v.node v.counts v.held u) (sym same) h.forked;
          left = (h.left two.0 two.1 two.2).loaned ∙ ap (left_loan v.held) (sym same);
          right = λ l r e. subst (λ (u : List ℕ). IsPart v.case r (right_loan u) v.taken_right b) (sym same) (h.right l r e);
        };
      };
      note = record {
        place = record { case = refl; node = refl; seen = refl };
        hand = sym (ap (after_lend Left) rule.hand);
        kept = refl;
        counts = refl;
        held = refl;
        given = refl;
        lent_left = refl;
        lent_right = refl;
        taken_left = refl;
        taken_right = refl;
        tied = tied_at v a.upto h.forked.agrees;
      };
      part = record { fits = λ l r e. (h.left l r e).fits; grown = λ l r e. part_grown v.case l (left_loan v.held a.upto) v.taken_left a (h.left l r e) };
    }

left_from_one : (v : WorkerNote) (mail : Mailbox) (a : Lot) → Rule v mail (LendingLeft a) → Lent Left v (left_note v BothOut a) mail BothOut a
left_from_one v mail a rule =
    let h : LendsLeft v a = rule.holds in
    let two = the_kids (kids v.case v.node) h.forked.inner in
    record {
      rule = record {
        mailed = mailed_still v mail (left_note v BothOut a) rule.mailed refl refl refl refl;
        hand = refl;
        here = refl;
        holds = record {
          forked = h.forked;
          left = (h.left two.0 two.1 two.2).loaned;
          right = h.right;
          target = λ y e. never_ask v.kept h.kept e;
        };
      };
      note = record {
        place = record { case = refl; node = refl; seen = refl };
        hand = sym (ap (after_lend Left) rule.hand);
        kept = refl;
        counts = refl;
        held = refl;
        given = refl;
        lent_left = refl;
        lent_right = refl;
        taken_left = refl;
        taken_right = refl;
        tied = tied_at v a.upto h.forked.agrees;
      };
      part = record { fits = λ l r e. (h.left l r e).fits; grown = λ l r e. part_grown v.case l (left_loan v.held a.upto) v.taken_left a (h.left l r e) };
    }

right_from_both : (v : WorkerNote) (mail : Mailbox) (a b : Lot) → Rule v mail (LendingBoth a b)
    → Lent Right v (right_note v (LendingLeft a) b) mail (LendingLeft a) b
right_from_both v mail a b rule =
    let h : LendsBoth v a b = rule.holds in
    let two = the_kids (kids v.case v.node) h.forked.inner in
    let same : b.upto ≡ a.upto = upto_of (counts_of b) (right_loan a.upto) (h.right two.0 two.1 two.2).loaned in
    record {
      rule = record {
        mailed = mailed_still v mail (right_note v (LendingLeft a) b) rule.mailed refl refl refl refl;
        hand = refl;
        here = refl;
        holds = record { kept = h.kept; forked = h.forked; left = h.left; right = (h.right two.0 two.1 two.2).loaned };
      };
      note = record {
        place = record { case = refl; node = refl; seen = refl };
        hand = sym (ap (after_lend Right) rule.hand);
        kept = refl;
        counts = refl;
        held = refl;
        given = refl;
        lent_left = refl;
        lent_right = refl;
        taken_left = refl;
        taken_right = refl;
        tied = tied_at v b.upto (subst (λ (u : List ℕ). Agrees v.case v.node v.counts v.held.upto u) (sym same) h.forked.agrees);
      };
      part = record { fits = λ l r e. (h.right l r e).fits; grown = λ l r e. part_grown v.case r (right_loan a.upto) v.taken_right b (h.right l r e) };
    }

right_from_one : (v : WorkerNote) (mail : Mailbox) (b : Lot) → Rule v mail (LendingRight b) → Lent Right v (right_note v BothOut b) mail BothOut b
right_from_one v mail b rule =
    let h : LendsRight v b = rule.holds in
    let two = the_kids (kids v.case v.node) h.forked.inner in
    let same : v.lent_left.upto ≡ b.upto = upto_of v.lent_left (left_loan v.held b.upto) h.left in
    record {
      rule = record {
        mailed = mailed_still v mail (right_note v BothOut b) rule.mailed refl refl refl refl;
        hand = refl;
        here = refl;
        holds = record {
          forked = subst (λ (u : List ℕ). IsForkedAt v.case v.node v.counts v.held u) (sym same) h.forked;
          left = h.left ∙ ap (left_loan v.held) (sym same);
          right = (h.right two.0 two.1 two.2).loaned ∙ ap right_loan (sym same);
          target = λ y e. never_ask v.kept h.kept e;
        };
      };
      note = record {
        place = record { case = refl; node = refl; seen = refl };
        hand = sym (ap (after_lend Right) rule.hand);
        kept = refl;
        counts = refl;
        held = refl;
        given = refl;
        lent_left = refl;
        lent_right = refl;
        taken_left = refl;
        taken_right = refl;
        tied = tied_at v b.upto h.forked.agrees;
      };
      part = record { fits = λ l r e. (h.right l r e).fits; grown = λ l r e. part_grown v.case r (right_loan b.upto) v.taken_right b (h.right l r e) };
    }

lent_as : (s : Side) (v : WorkerNote) (mail : Mailbox) (new new' : Holding) (lot lot' : Lot) (f : WorkerNote → Holding → Lot → WorkerNote)
    → new' ≡ new → lot' ≡ lot → Lent s v (f v new lot) mail new lot → Lent s v (f v new' lot') mail new' lot'
lent_as s v mail new new' lot lot' f en el h =
    subst (λ (x : Holding). Lent s v (f v x lot') mail x lot') (sym en) (subst (λ (x : Lot). Lent s v (f v new x) mail new x) (sym el) h)

pub lends_left : (v : WorkerNote) (mail : Mailbox) (old new : Holding) (lot : Lot) → Rule v mail old → LeftLeaves old lot new
    → Lent Left v (left_note v new lot) mail new lot
lends_left v mail NoLot new lot rule is = absurd is
lends_left v mail (WholeLot here) new lot rule is = absurd is
lends_left v mail (LendingBoth a b) new lot rule is =
    lent_as Left v mail (LendingRight b) new a lot left_note is.rest_is is.lot_is (left_from_both v mail a b rule)
lends_left v mail (LendingLeft a) new lot rule is = lent_as Left v mail BothOut new a lot left_note is.rest_is is.lot_is (left_from_one v mail a rule)
lends_left v mail (LendingRight b) new lot rule is = absurd is
lends_left v mail BothOut new lot rule is = absurd is
lends_left v mail (TakingLeft a) new lot rule is = absurd is
lends_left v mail (TakingRight b) new lot rule is = absurd is
lends_left v mail Gone new lot rule is = absurd is

pub lends_right : (v : WorkerNote) (mail : Mailbox) (old new : Holding) (lot : Lot) → Rule v mail old → RightLeaves old lot new
    → Lent Right v (right_note v new lot) mail new lot
lends_right v mail NoLot new lot rule is = absurd is
lends_right v mail (WholeLot here) new lot rule is = absurd is
lends_right v mail (LendingBoth a b) new lot rule is =
    lent_as Right v mail (LendingLeft a) new b lot right_note is.rest_is is.lot_is (right_from_both v mail a b rule)
lends_right v mail (LendingLeft a) new lot rule is = absurd is
lends_right v mail (LendingRight b) new lot rule is = lent_as Right v mail BothOut new b lot right_note is.rest_is is.lot_is (right_from_one v mail b rule)
lends_right v mail BothOut new lot rule is = absurd is
lends_right v mail (TakingLeft a) new lot rule is = absurd is
lends_right v mail (TakingRight b) new lot rule is = absurd is
lends_right v mail Gone new lot rule is = absurd is

-- ---- take
-- what a worker has once both parts came back
module _ (laws : LawsBelow) (n : WorkerNote) (mail : Mailbox) (mailed : IsMailed n mail) (down : IsDown n) (y : Ask) (kept : n.kept ≡ Some y)
    (l r : ℕ) (e : kids n.case n.node ≡ Some (l, r)) (left right : Lot) (left_fits : LotFits n.case l left) (right_fits : LotFits n.case r right)
    (left_served : Served n.case l n.lent_left y left) (right_served : Served n.case r n.lent_right y right) where
  a : Served n.case l (left_loan n.held n.lent_left.upto) y left
  a = subst (λ (s : LotCounts). Served n.case l s y left) down.left left_served

  b : Served n.case r (right_loan n.lent_left.upto) y right
  b = subst (λ (s : LotCounts). Served n.case r s y right) down.right right_served

  pub are_paired : LotsPaired n.case l r left right
  are_paired = laws.paired n.case l r n.held.since n.lent_left.upto left right down.forked.since a.loan b.loan

  module _ (lot : Lot) (fits : LotFits n.case n.node lot) (joined : HasJoinedCounts n.case n.node left right lot) where
    pub joined_whole : HoldsWhole (record n { taken_left = left.upto; taken_right = right.upto; hand = Whole; holding = WholeLot lot }) lot
    joined_whole =
        let k = n.case in
        let long = counts_long n mail mailed in
        let t = down.target y kept in
        let served =
        joined_served laws k n.node l r e n.counts long n.held n.lent_left.upto down.forked y t left right lot a b left_fits right_fits fits joined in
        let lefts =
        joined_left_grown laws k n.node l r e n.counts long n.held n.lent_left.upto down.forked y t left right lot a b left_fits right_fits fits joined in
        let rights =
        joined_right_grown laws k n.node l r e n.counts long n.held n.lent_left.upto down.forked y t left right lot a b left_fits right_fits fits joined in
        let target =
        joined_target laws k n.node l r e n.counts long n.held n.lent_left.upto down.forked y t left right lot a b left_fits right_fits fits joined in
        record {
          fits = fits;
          since = served.loan.since;
          agrees = joined_agrees laws k n.node l r e n.counts long n.held n.lent_left.upto down.forked y t left right lot a b left_fits right_fits fits joined;
          grows = record {
            left = λ l' r' e'. (let s = some_pair_parts l l' r r' (sym e ∙ e') in subst (λ (v : ℕ). GrownFrom k v left.upto lot.upto) s.0 lefts);
            right = λ l' r' e'. (let s = some_pair_parts l l' r r' (sym e ∙ e') in subst (λ (v : ℕ). GrownFrom k v right.upto lot.upto) s.1 rights);
          };
          leaf = λ leaf. absurd (none_or_some (kids k n.node) leaf down.forked.inner);
          inner = λ _. ap is_some kept;
          target = λ z f. subst (λ (x : Ask). IsTarget k n.node n.counts lot.upto x) (same_kept n.kept kept f) target;
          lent = λ z f. (let u = (down.target z f).next in (u, u ∙ sym (ap (λ (s : LotCounts). slice_index s.upto z.itag.0) down.right)));
          served = λ z f. subst (λ (x : Ask). Served k n.node n.held x lot) (same_kept n.kept kept f) served;
        }

pub record Took (s : Side) (v m : WorkerNote) (mail : Mailbox) (new : Holding) (lot : Lot) : Type 0 where
  pub rule : Rule m mail new
  pub note : TakesPart s lot v m

abbrev pub taking_left : WorkerNote → Holding → Lot → WorkerNote
taking_left v new lot = record v { hand = hand_of new; holding = new; taken_left = lot.upto }

abbrev pub taking_right : WorkerNote → Holding → Lot → WorkerNote
taking_right v new lot = record v { hand = hand_of new; holding = new; taken_right = lot.upto }

module _ (laws : LawsBelow) (v : WorkerNote) (mail : Mailbox) (lot : Lot) (kept : IsSome v.kept)
    (fits : (l r : ℕ) → kids v.case v.node ≡ Some (l, r) → LotFits v.case l lot)
    (served : (l r : ℕ) (y : Ask) → kids v.case v.node ≡ Some (l, r) → v.kept ≡ Some y → Served v.case l v.lent_left y lot) where
  left_first : Rule v mail BothOut → Took Left v (taking_left v (TakingLeft lot) lot) mail (TakingLeft lot) lot
  left_first rule =
      let h : IsDown v = rule.holds in
      record {
        rule = record {
          mailed = mailed_still v mail (taking_left v (TakingLeft lot) lot) rule.mailed refl refl refl refl;
          hand = refl;
          here = refl;
          holds = record {
            down = record { forked = h.forked; left = h.left; right = h.right; target = h.target };
            kept = kept;
            fits = fits;
            taken = refl;
            served = λ y l r e f. served l r y f e;
          };
        };
        note = record {
          place = record { case = refl; node = refl; seen = refl };
          hand = sym (ap (after_take Left) rule.hand);
          kept = refl;
          counts = refl;
          held = refl;
          given = refl;
          lent_left = refl;
          lent_right = refl;
          taken_left = refl;
          taken_right = refl;
        };
      }

  left_second : (b whole : Lot) → LotFits v.case v.node whole → HasJoinedCounts v.case v.node lot b whole → Rule v mail (TakingRight b)
      → Took Left v (taking_left v (WholeLot whole) lot) mail (WholeLot whole) lot
  left_second b whole wfits counts rule =
      let h : TakesRight v b = rule.holds in
      let y = some_there v.kept kept in
      let two = the_kids (kids v.case v.node) h.down.forked.inner in
      record {
        rule = record {
          mailed = mailed_still v mail (taking_left v (WholeLot whole) lot) rule.mailed refl refl refl refl;
          hand = refl;
          here = refl;
          holds = subst (λ (u : List ℕ). HoldsWhole (record v { taken_left = lot.upto; taken_right = u; hand = Whole; holding = WholeLot whole }) whole) (sym h.taken)
              (joined_whole laws v mail rule.mailed h.down y.0 y.1 two.0 two.1 two.2 lot b (fits two.0 two.1 two.2) (h.fits two.0 two.1 two.2)
              (served two.0 two.1 y.0 two.2 y.1) (h.served y.0 two.0 two.1 y.1 two.2) whole wfits counts);
        };
        note = record {
          place = record { case = refl; node = refl; seen = refl };
          hand = sym (ap (after_take Left) rule.hand);
          kept = refl;
          counts = refl;
          held = refl;
          given = refl;
          lent_left = refl;
          lent_right = refl;
          taken_left = refl;
          taken_right = refl;
        };
      }

  pub takes_left : (old new : Holding) → Rule v mail old → LeftComes v.case v.node old lot new → Took Left v (taking_left v new lot) mail new lot
  takes_left NoLot new rule is = absurd is
  takes_left (WholeLot here) new rule is = absurd is
  takes_left (LendingBoth a b) new rule is = absurd is
  takes_left (LendingLeft a) new rule is = absurd is
  takes_left (LendingRight b) new rule is = absurd is
  takes_left BothOut new rule is = subst (λ (x : Holding). Took Left v (taking_left v x lot) mail x lot) (sym is) (left_first rule)
  takes_left (TakingLeft a) new rule is = absurd is
  takes_left (TakingRight b) new rule is =
      subst (λ (x : Holding). Took Left v (taking_left v x lot) mail x lot) (sym is.is) (left_second b is.lot is.fits is.counts rule)
  takes_left Gone new rule is = absurd is

  -- what is asked of the join
  pub awaits_left : (h : Holding) → Rule v mail h → AwaitsLeft v.case v.node h lot
  awaits_left NoLot rule = tt
  awaits_left (WholeLot here) rule = tt
  awaits_left (LendingBoth a b) rule = tt
  awaits_left (LendingLeft a) rule = tt
  awaits_left (LendingRight b) rule = tt
  awaits_left BothOut rule = tt
  awaits_left (TakingLeft a) rule = tt
  awaits_left (TakingRight b) rule =
      let h : TakesRight v b = rule.holds in
      let y = some_there v.kept kept in
      record {
        left = fits;
        right = h.fits;
        paired =
            λ l r e. are_paired laws v mail rule.mailed h.down y.0 y.1 l r e lot b (fits l r e) (h.fits l r e) (served l r y.0 e y.1) (h.served y.0 l r y.1 e);
      }
  awaits_left Gone rule = tt

module _ (laws : LawsBelow) (v : WorkerNote) (mail : Mailbox) (lot : Lot) (kept : IsSome v.kept)
    (fits : (l r : ℕ) → kids v.case v.node ≡ Some (l, r) → LotFits v.case r lot)
    (served : (l r : ℕ) (y : Ask) → kids v.case v.node ≡ Some (l, r) → v.kept ≡ Some y → Served v.case r v.lent_right y lot) where
  right_first : Rule v mail BothOut → Took Right v (taking_right v (TakingRight lot) lot) mail (TakingRight lot) lot
  right_first rule =
      let h : IsDown v = rule.holds in
      record {
        rule = record {
          mailed = mailed_still v mail (taking_right v (TakingRight lot) lot) rule.mailed refl refl refl refl;
          hand = refl;
          here = refl;
          holds = record {
            down = record { forked = h.forked; left = h.left; right = h.right; target = h.target };
            kept = kept;
            fits = fits;
            taken = refl;
            served = λ y l r e f. served l r y f e;
          };
        };
        note = record {
          place = record { case = refl; node = refl; seen = refl };
          hand = sym (ap (after_take Right) rule.hand);
          kept = refl;
          counts = refl;
          held = refl;
          given = refl;
          lent_left = refl;
          lent_right = refl;
          taken_left = refl;
          taken_right = refl;
        };
      }

  right_second : (a whole : Lot) → LotFits v.case v.node whole → HasJoinedCounts v.case v.node a lot whole → Rule v mail (TakingLeft a)
      → Took Right v (taking_right v (WholeLot whole) lot) mail (WholeLot whole) lot
  right_second a whole wfits counts rule =
      let h : TakesLeft v a = rule.holds in
      let y = some_there v.kept kept in
      let two = the_kids (kids v.case v.node) h.down.forked.inner in
      record {
        rule = record {
          mailed = mailed_still v mail (taking_right v (WholeLot whole) lot) rule.mailed refl refl refl refl;
          hand = refl;
          here = refl;
          holds = subst (λ (u : List ℕ). HoldsWhole (record v { taken_left = u; taken_right = lot.upto; hand = Whole; holding = WholeLot whole }) whole) (sym h.taken)
              (joined_whole laws v mail rule.mailed h.down y.0 y.1 two.0 two.1 two.2 a lot (h.fits two.0 two.1 two.2) (fits two.0 two.1 two.2)
              (h.served y.0 two.0 two.1 y.1 two.2) (served two.0 two.1 y.0 two.2 y.1) whole wfits counts);
        };
        note = record {
          place = record { case = refl; node = refl; seen = refl };
          hand = sym (ap (after_take Right) rule.hand);
          kept = refl;
          counts = refl;
          held = refl;
          given = refl;
          lent_left = refl;
          lent_right = refl;
          taken_left = refl;
          taken_right = refl;
        };
      }

  pub takes_right : (old new : Holding) → Rule v mail old → RightComes v.case v.node old lot new → Took Right v (taking_right v new lot) mail new lot
  takes_right NoLot new rule is = absurd is
  takes_right (WholeLot here) new rule is = absurd is
  takes_right (LendingBoth a b) new rule is = absurd is
  takes_right (LendingLeft a) new rule is = absurd is
  takes_right (LendingRight b) new rule is = absurd is
  takes_right BothOut new rule is = subst (λ (x : Holding). Took Right v (taking_right v x lot) mail x lot) (sym is) (right_first rule)
  takes_right (TakingLeft a) new rule is =
      subst (λ (x : Holding). Took Right v (taking_right v x lot) mail x lot) (sym is.is) (right_second a is.lot is.fits is.counts rule)
  takes_right (TakingRight b) new rule is = absurd is
  takes_right Gone new rule is = absurd is

  pub awaits_right : (h : Holding) → Rule v mail h → AwaitsRight v.case v.node h lot
  awaits_right NoLot rule = tt
  awaits_right (WholeLot here) rule = tt
  awaits_right (LendingBoth a b) rule = tt
  awaits_right (LendingLeft a) rule = tt
  awaits_right (LendingRight b) rule = tt
  awaits_right BothOut rule = tt
  awaits_right (TakingLeft a) rule =
      let h : TakesLeft v a = rule.holds in
      let y = some_there v.kept kept in
      record {
        left = h.fits;
        right = fits;
        paired =
            λ l r e. are_paired laws v mail rule.mailed h.down y.0 y.1 l r e a lot (h.fits l r e) (fits l r e) (h.served y.0 l r y.1 e) (served l r y.0 e y.1);
      }
  awaits_right (TakingRight b) rule = tt
  awaits_right Gone rule = tt
