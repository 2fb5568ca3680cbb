-- What a worker's thread keeps over its steps.
use Rattle.std.proofs.Common.{◌≡◌, ◌≢◌, ◌≤◌, ◌+◌, ℕ, true, false, Option, Some, None}
use Rattle.std.proofs.Common.{List, [], length, ◌⊎◌, inl, inr, refl, sym, ap, subst, ◌∙◌, arith}
use Rattle.std.specs.Prelude.{slice_index, IsSome, IfSome, IfNone}
use Rattle.std.specs.List.{range_with_len}
use Rattle.std.proofs.lemmas.Bool.{cases_eq}
use Rattle.std.proofs.lemmas.List.{length-map}
use Rattle.std.proofs.lemmas.List.FromFn.{length-range_with_len}
use Rattle.std.proofs.Math.ListN.{get_or-map}
use Rattle.flu_lemmas.proofs.Tests.{not_both}
use Rattle.flu_lemmas.proofs.Options.{pair_there}
use Rattle.flu_model.specs.declared.events.Item.{Item}
use Rattle.flu_model.specs.declared.events.Out.{Out}
use Rattle.flu_model.specs.Itags.{count_of_itags}
use Rattle.flu_model.specs.Listed.{listed}
use Rattle.flu_fork.specs.declared.content.Content.{Content}
use Rattle.flu_fork.specs.declared.lots.Lot.{Lot}
use Rattle.flu_fork.specs.declared.lots.Ask.{Ask}
use Rattle.flu_fork.specs.Classes.{own}
use Rattle.flu_fork.specs.Laws.{no_counts}
use Rattle.flu_fork.specs.Lots.{job, nodes, kids, setting_of, LotFits}
use Rattle.flu_fork.specs.Serving.{LotCounts, counts_of, AsksAbove, GrownFrom}
use Rattle.flu_fork.specs.Texts.{HasTexts, CountsMoment}
use Rattle.flu_worker.specs.declared.hand.Side.{Side}
use Rattle.flu_worker.specs.declared.hand.Side.TheVariants.{Left, Right}
use Rattle.flu_worker.specs.declared.hand.Hand.{Hand}
use Rattle.flu_worker.specs.declared.hand.Hand.TheVariants.{Empty, Whole, Lending, Down, Taking}
use Rattle.flu_worker.specs.Hands.{at_side, first_hand, is_open, is_out, may_lend, may_take}
use Rattle.flu_worker.specs.Notes.{WorkerNote, lent_to, taken_from, own_of}
use Rattle.flu_worker.specs.Calls.{IsNew, IsAskable, IsSamePlace, HandlesEvent, CountsEvent, HoldsLot, LendsPart, IsFitPart, TakesPart}
use Rattle.flu_worker.specs.Ties.{IsAsked, IsLoan}
use Rattle.flu_worker.specs.Turning.{other, LendTurns, TakeTurns, StartIsShut}
use Rattle.flu_link.specs.Notes.{UpperNote, LowerNote, after_lend, after_asked}
use Rattle.flu_run.specs.EndNotes.{LooksUp, LooksAside}
use Rattle.flu_run.specs.LawsBelow.{LawsBelow}
use Rattle.flu_run.specs.Ties.{IsAskedFor, Hangs, Lets, Tells}
use Rattle.flu_run.specs.Seeing.{Sees, SeesMore, WatchesFrom, limits_of}
use Rattle.flu_run.specs.Starts.{StartsAt}
use Rattle.flu_run.specs.Stays.{StaysHome, StaysThere, StaysUnder}
use Rattle.flu_arrive.specs.Notes.{WatchNote}
use Rattle.flu_run.proofs.Counts.{same_zeros}

-- ---- the texts
tells_at : (k k' : Content) (w w' : ℕ) (counts : List ℕ) (outs : List Out) → k' ≡ k → w' ≡ w
    → HasTexts (setting_of k) (own (job k) (nodes k) w) counts outs → HasTexts (setting_of k') (own (job k') (nodes k') w') counts outs
tells_at k k' w w' counts outs ek ew h =
    subst (λ (v : ℕ). HasTexts (setting_of k') (own (job k') (nodes k') v) counts outs) (sym ew)
    (subst (λ (j : Content). HasTexts (setting_of j) (own (job j) (nodes j) w) counts outs) (sym ek) h)

counts_moment : (n n' : WorkerNote) (x : Ask) (before after : List Out) → (c : CountsEvent n.case x n.counts n'.counts before after)
    → CountsMoment c.moment n.counts n'.counts
counts_moment n n' x before after c =
    let at : c.moment.event.itag.0 ≡ x.itag.0 = ap (λ i. i.0) c.itag in record {
      was = ap (slice_index n.counts) at ∙ c.next ∙ sym c.index;
      is = (c.counts c.moment.event.itag.0).0 at ∙ ap (λ m. m + 1) (sym c.index);
      rest = λ j other. (c.counts j).1 (λ e. other (e ∙ sym at));
    }

pub tells_event : (laws : LawsBelow) (n n' : WorkerNote) (x : Ask) (before after : List Out) → HandlesEvent x n n'
    → CountsEvent n.case x n.counts n'.counts before after
    → Tells n before → Tells n' after
tells_event laws n n' x before after h c tells =
    let at : c.moment.event.itag.0 ≡ x.itag.0 = ap (λ i. i.0) c.itag in
    tells_at n.case n'.case n.node n'.node n'.counts after h.place.case h.place.node
    (subst (HasTexts (setting_of n.case) (own_of n) n'.counts) (sym c.outputs)
    (laws.more_texts (setting_of n.case) (own_of n) c.front c.back c.moment n.counts n'.counts before (laws.settings n.case) c.stands
    (ap (own_of n) at ∙ h.owned)
    (counts_moment n n' x before after c) tells))

-- ---- the end above
one_or_two : (q : ℕ) → 1 ≤ q → q ≤ 2 → q ≢ 2 → q ≡ 1
one_or_two q a b o = elim (cases_eq q 2) [ inl t ↦ absurd (o t) | inr f ↦ omega arith ]

-- nothing is asked: it is held
still_held : (p q : ℕ) → (1 ≤ p → p ≤ 2 → (1 ≤ q) × (q ≤ 2)) → (p ≡ 1) ⊎ (p ≡ 2) → q ≢ 2 → q ≡ 1
still_held p q still (inl e) other = let s = still (omega arith) (omega arith) in one_or_two q s.0 s.1 other
still_held p q still (inr e) other = let s = still (omega arith) (omega arith) in one_or_two q s.0 s.1 other

phases : (n : WorkerNote) (l : LowerNote) → (l.phase ≡ 1) ⊎ IsAskedFor n l → (l.phase ≡ 1) ⊎ (l.phase ≡ 2)
phases n l (inl e) = inl e
phases n l (inr a) = inr a.phase

pub none_asked : (n : WorkerNote) (l l' : LowerNote) → Hangs n l → LooksUp l l' → is_open n.hand ≡ true → l'.phase ≢ 2 → l'.phase ≡ 1
none_asked n l l' hangs looks opened not_two = still_held l.phase l'.phase looks.still (phases n l (hangs.phase opened)) not_two

pub hangs_none : (n : WorkerNote) (l l' : LowerNote) → Hangs n l → LooksUp l l' → is_open n.hand ≡ true → l'.phase ≢ 2 → Hangs n l'
hangs_none n l l' hangs looks opened not_two =
    let one = none_asked n l l' hangs looks opened not_two in record {
      case = looks.same.case ∙ hangs.case;
      lower = looks.same.lower ∙ hangs.lower;
      given = looks.same.given ∙ hangs.given;
      held = λ e. looks.same.held ∙ hangs.held e;
      phase = λ _. inl one;
    }

-- what is asked over the link is asked of the worker
pub asked_here : (n : WorkerNote) (l : LowerNote) (y : Ask) → Hangs n l → is_open n.hand ≡ true → AsksAbove l.case l.lower y
    → y.index ≡ slice_index l.held.upto y.itag.0 → IsAsked n y
asked_here n l y hangs opened above next = record {
  opened = opened;
  above = subst (λ (v : ℕ). AsksAbove n.case v y) hangs.lower (subst (λ (j : Content). AsksAbove j l.lower y) hangs.case above);
  next = next ∙ ap (λ (m : LotCounts). slice_index m.upto y.itag.0) (hangs.held opened);
}

pub hangs_asked : (n : WorkerNote) (l l' : LowerNote) (y : Ask) → Hangs n l → is_open n.hand ≡ true → l' ≡ after_asked l y → AsksAbove l.case l.lower y
    → y.index ≡ slice_index l.held.upto y.itag.0 → Hangs n l'
hangs_asked n l l' y hangs opened e above next = subst (λ (m : LowerNote). Hangs n m) (sym e) record {
  case = hangs.case;
  lower = hangs.lower;
  given = hangs.given;
  held = hangs.held;
  phase = λ _. inr record { phase = refl; ask = y; noted = refl; tie = asked_here n l y hangs opened above next };
}

-- ---- the ends below
lent_same : (s : Side) (n n' : WorkerNote) → n'.lent_left ≡ n.lent_left → n'.lent_right ≡ n.lent_right → lent_to s n' ≡ lent_to s n
lent_same Left n n' a b = a
lent_same Right n n' a b = b

taken_same : (s : Side) (n n' : WorkerNote) → n'.taken_left ≡ n.taken_left → n'.taken_right ≡ n.taken_right → taken_from s n' ≡ taken_from s n
taken_same Left n n' a b = a
taken_same Right n n' a b = b

lower_as : (s : Side) (n n' : WorkerNote) (u : UpperNote) → IsSamePlace n n' → Lets s n u → (l r : ℕ) → kids n'.case n'.node ≡ Some (l, r)
    → u.lower ≡ at_side s l r
lower_as s n n' u place lets l r e = lets.lower l r ((λ i. kids (sym place.case i) (sym place.node i)) ∙ e)

-- ---- a part is lent
lent_here : (s : Side) (n n' : WorkerNote) (part : Lot) → LendsPart s part n n' → lent_to s n' ≡ counts_of part
lent_here Left n n' part h = h.lent_left
lent_here Right n n' part h = h.lent_right

taken_there : (s : Side) (n n' : WorkerNote) (part : Lot) → TakesPart s part n n' → taken_from (other s) n' ≡ taken_from (other s) n
taken_there Left n n' part h = h.taken_right
taken_there Right n n' part h = h.taken_left

pub lets_lend : LendTurns → (s : Side) (n n' : WorkerNote) (u u' : UpperNote) (part : Lot) → Lets s n u → may_lend s n.hand ≡ true → LendsPart s part n n'
    → u' ≡ after_lend u part → Lets s n' u'
lets_lend turns s n n' u u' part lets may h e =
    let turned = turns s n.hand may in
    let out : is_out s n'.hand ≡ true = ap (is_out s) h.hand ∙ turned.out in
    let free = lets.home turned.here in
    subst (λ (m : UpperNote). Lets s n' m) (sym e) record {
      case = lets.case ∙ sym h.place.case;
      lower = lower_as s n n' u h.place lets;
      loan = record { lent = sym (lent_here s n n' part h); given = lets.loan.given ∙ sym (taken_same s n n' h.taken_left h.taken_right) };
      home = λ o. absurd (not_both _ out o);
      out = λ _. inl (free.0, omega arith);
    }

-- ---- a part is asked for, and taken
pub there_take : TakeTurns → (s : Side) (n n' : WorkerNote) (part : Lot) → may_take s n.hand ≡ true → TakesPart s part n n' → StaysThere s n n'
there_take turns s n n' part may h =
    let turned = turns s n.hand may in record {
      place = h.place;
      held = h.held;
      given = h.given;
      counts = h.counts;
      opens = inr (turned.open_before, ap is_open h.hand ∙ turned.open_after);
      lent = lent_same (other s) n n' h.lent_left h.lent_right;
      taken = taken_there s n n' part h;
      out = ap (is_out (other s)) h.hand ∙ turned.rest;
      take = λ e. ap (may_take (other s)) h.hand ∙ turned.rest_to_take ∙ e;
      kept = λ a e. h.kept ∙ e;
    }

-- ---- the lot is held by a worker that had none: both parts are here before and after
shut_is_home : (h : Hand) → is_open h ≡ false → (s : Side) → is_out s h ≡ false
shut_is_home Empty shut s = refl
shut_is_home Whole shut s = refl
shut_is_home (Lending l r) shut s = absurd (not_both true refl shut)
shut_is_home Down shut s = absurd (not_both true refl shut)
shut_is_home (Taking l r) shut s = absurd (not_both true refl shut)

first_is_home : (k : Option (ℕ × ℕ)) (s : Side) → is_out s (first_hand k) ≡ false
first_is_home None s = refl
first_is_home (Some k) Left = refl
first_is_home (Some k) Right = refl

pub home_hold : (n n' : WorkerNote) (lot : Lot) → is_open n.hand ≡ false → HoldsLot lot n n' → StaysHome n n'
home_hold n n' lot shut h = record {
  place = h.place;
  same = h.same;
  home = inr (λ s. (shut_is_home n.hand shut s, ap (is_out s) h.hand ∙ first_is_home (kids n.case n.node) s));
}

-- ---- one step after another
place_trans : (a b c : WorkerNote) → IsSamePlace a b → IsSamePlace b c → IsSamePlace a c
place_trans a b c p q = record { case = q.case ∙ p.case; node = q.node ∙ p.node; seen = q.seen ∙ p.seen }

pub home_trans : (a b c : WorkerNote) → StaysHome a b → StaysHome b c → StaysHome a c
home_trans a b c p q = record {
  place = place_trans a b c p.place q.place;
  same = record {
    lent_left = q.same.lent_left ∙ p.same.lent_left;
    lent_right = q.same.lent_right ∙ p.same.lent_right;
    taken_left = q.same.taken_left ∙ p.same.taken_left;
    taken_right = q.same.taken_right ∙ p.same.taken_right;
  };
  home = elim p.home as (λ _. ((c.hand ≡ a.hand) × (c.kept ≡ a.kept)) ⊎ ((s : Side) → (is_out s a.hand ≡ false) × (is_out s c.hand ≡ false))) [
    | inl x ↦ (elim q.home as (λ _. ((c.hand ≡ a.hand) × (c.kept ≡ a.kept)) ⊎ ((s : Side) → (is_out s a.hand ≡ false) × (is_out s c.hand ≡ false))) [
      | inl y ↦ inl (y.0 ∙ x.0, y.1 ∙ x.1)
      | inr y ↦ inr (λ s. (sym (ap (is_out s) x.0) ∙ (y s).0, (y s).1))
    ])
    | inr x ↦ (elim q.home as (λ _. ((c.hand ≡ a.hand) × (c.kept ≡ a.kept)) ⊎ ((s : Side) → (is_out s a.hand ≡ false) × (is_out s c.hand ≡ false))) [
      | inl y ↦ inr (λ s. ((x s).0, ap (is_out s) y.0 ∙ (x s).1))
      | inr y ↦ inr (λ s. ((x s).0, (y s).1))
    ])
  ];
}

-- a worker whose place and lots held and given are as before, and which was open where it is now
hangs_on : (n n' : WorkerNote) (l : LowerNote) → Hangs n l → IsSamePlace n n' → n'.held ≡ n.held → n'.given ≡ n.given
    → (is_open n'.hand ≡ true → is_open n.hand ≡ true) → Hangs n' l
hangs_on n n' l hangs place held given was = record {
  case = hangs.case ∙ sym place.case;
  lower = hangs.lower ∙ sym place.node;
  given = hangs.given ∙ sym given;
  held = λ o. hangs.held (was o) ∙ sym held;
  phase = λ o. elim (hangs.phase (was o)) [
    | inl e ↦ inl e
    | inr a ↦ inr record {
      phase = a.phase;
      ask = a.ask;
      noted = a.noted;
      tie = record {
        opened = o;
        above =
            subst (λ (v : ℕ). AsksAbove n'.case v a.ask) (sym place.node) (subst (λ (j : Content). AsksAbove j n.node a.ask) (sym place.case) a.tie.above);
        next = a.tie.next ∙ ap (λ (m : LotCounts). slice_index m.upto a.ask.itag.0) (sym held);
      };
    }
  ];
}

pub hangs_under : (n n' : WorkerNote) (l : LowerNote) → Hangs n l → StaysUnder n n' → Hangs n' l
hangs_under n n' l hangs t =
    hangs_on n n' l hangs t.place t.held t.given (λ o. elim t.opens [ inl same ↦ sym (ap is_open same) ∙ o | inr both ↦ both.0 ])

pub hangs_handle : (n n' : WorkerNote) (l : LowerNote) (x : Ask) → Hangs n l → HandlesEvent x n n' → Hangs n' l
hangs_handle n n' l x hangs h = hangs_on n n' l hangs h.place h.held h.given (λ _. ap is_open h.hand_was)

pub hangs_seen : (n n' : WorkerNote) (l : LowerNote) → Hangs n l → SeesMore n n' → Hangs n' l
hangs_seen n n' l h more =
    subst (λ (m : WorkerNote). Hangs m l) (sym more.rest) record {
      case = h.case;
      lower = h.lower;
      given = h.given;
      held = h.held;
      phase = λ o. elim (h.phase o) [
        | inl e ↦ inl e
        | inr a ↦
            inr record { phase = a.phase; ask = a.ask; noted = a.noted; tie = record { opened = a.tie.opened; above = a.tie.above; next = a.tie.next } }
      ];
    }

-- a look at another moment of the same loan: what it hangs from stays
pub hangs_aside : (n : WorkerNote) (l l' : LowerNote) → Hangs n l → LooksAside l l' → Hangs n l'
hangs_aside n l l' h a = record {
  case = a.same.case ∙ h.case;
  lower = a.same.lower ∙ h.lower;
  given = a.same.given ∙ h.given;
  held = λ o. a.same.held ∙ h.held o;
  phase = λ o. elim (h.phase o) [
    | inl e ↦ inl (a.phase ∙ e)
    | inr x ↦ inr record { phase = a.phase ∙ x.phase; ask = x.ask; noted = a.same.ask ∙ x.noted; tie = x.tie }
  ];
}

-- ---- as the calls say it
pub hangs_look : (n : WorkerNote) (l l' : LowerNote) (found : Option Ask) → Hangs n l → is_open n.hand ≡ true
    → IfSome found (λ y. l' ≡ after_asked l y) → IfSome found (AsksAbove l.case l.lower) → IfSome found (λ y. y.index ≡ slice_index l.held.upto y.itag.0)
    → IfNone found (LooksUp l l') → IfNone found (l'.phase ≢ 2) → Hangs n l'
hangs_look n l l' None hangs o note above next looks not_two = hangs_none n l l' hangs looks o not_two
hangs_look n l l' (Some y) hangs o note above next looks not_two = hangs_asked n l l' y hangs o note above next

pub fits_below : (s : Side) (n : WorkerNote) (u : UpperNote) (part : Lot) → IsSome (kids n.case n.node) → Lets s n u
    → IsFitPart s part n → LotFits u.case u.lower part
fits_below s n u part inner lets fit =
    let k = pair_there (kids n.case n.node) inner in
    subst (λ (j : Content). LotFits j u.lower part) (sym lets.case)
    (subst (λ (v : ℕ). LotFits n.case v part) (sym (lets.lower k.0 k.1 k.2)) (fit.fits k.0 k.1 k.2))

pub grown_below : (s : Side) (n : WorkerNote) (u : UpperNote) (part : Lot) → IsSome (kids n.case n.node) → Lets s n u → IsFitPart s part n
    → GrownFrom u.case u.lower u.received part.upto
grown_below s n u part inner lets fit =
    let k = pair_there (kids n.case n.node) inner in
    subst (λ (j : Content). GrownFrom j u.lower u.received part.upto) (sym lets.case)
    (subst (λ (v : ℕ). GrownFrom n.case v u.received part.upto) (sym (lets.lower k.0 k.1 k.2))
    (subst (λ (c : List ℕ). GrownFrom n.case (at_side s k.0 k.1) c part.upto) (sym lets.loan.given) (fit.grown k.0 k.1 k.2)))

pub ask_above : (s : Side) (n : WorkerNote) (u : UpperNote) (a : Ask) → IsSome (kids n.case n.node) → Lets s n u → IsAskable n a → AsksAbove u.case u.lower a
ask_above s n u a inner lets askable =
    let k = pair_there (kids n.case n.node) inner in
    subst (λ (j : Content). AsksAbove j u.lower a) (sym lets.case)
    (subst (λ (v : ℕ). AsksAbove n.case v a) (sym (lets.lower k.0 k.1 k.2)) (askable k.0 k.1 k.2 s).0)

pub ask_next : (s : Side) (n : WorkerNote) (u : UpperNote) (a : Ask) → IsSome (kids n.case n.node) → Lets s n u → IsAskable n a
    → a.index ≡ slice_index u.lent.upto a.itag.0
ask_next s n u a inner lets askable =
    let k = pair_there (kids n.case n.node) inner in
    (askable k.0 k.1 k.2 s).1 ∙ ap (λ (m : LotCounts). slice_index m.upto a.itag.0) (sym lets.loan.lent)

-- ---- the start
pub tells_new : (laws : LawsBelow) (k : Content) (w : ℕ) (n : WorkerNote) → IsNew k w n → Tells n []
tells_new laws k w n new =
    laws.no_texts (setting_of n.case) (own_of n) n.counts
    (λ i _. ap (λ c. slice_index c i) new.counts ∙ get_or-map (λ (n : ℕ). 0) (range_with_len 0 (count_of_itags (job k))) i 0)

pub hangs_new : StartIsShut → (k : Content) (w : ℕ) (n : WorkerNote) (l : LowerNote) → IsNew k w n → StartsAt k w l → Hangs n l
hangs_new shut_first k w n l new starts = elim starts.is [
  | inl child ↦
      let shut : is_open n.hand ≡ false = ap is_open new.hand ∙ shut_first k w child.0 in
      subst (λ (m : LowerNote). Hangs n m) (sym child.1) record {
        case = sym new.case;
        lower = sym new.node;
        given = sym new.given;
        held = λ e. absurd (not_both _ e shut);
        phase = λ e. absurd (not_both _ e shut);
      }
  | inr root ↦ subst (λ (m : LowerNote). Hangs n m) (sym root.1) record {
    case = sym new.case;
    lower = sym root.0 ∙ sym new.node;
    given = sym new.given;
    held = λ _. sym new.held;
    phase = λ _. inl refl;
  }
]

pub tells_none : (laws : LawsBelow) (k : Content) (w : ℕ) (n : WorkerNote) (outs : List Out) → IsNew k w n → outs ≡ [] → Tells n outs
tells_none laws k w n outs new e = subst (Tells n) (sym e) (tells_new laws k w n new)

-- ---- what is seen
pub sees_from : (k : Content) (n : WorkerNote) (v : WatchNote) → n.case ≡ k → n.seen ≡ no_counts (job k) → WatchesFrom k v → Sees n v
sees_from k n v case seen from =
    let long : length v.limits ≡ count_of_itags (job k) = ap length from.limits ∙ length-map (listed k.streams) (λ (items : List Item). length items)
    ∙ k.one_each in record {
      seen = seen ∙ same_zeros (range_with_len 0 (count_of_itags (job k))) v.limits (length-range_with_len 0 (count_of_itags (job k)) ∙ sym long)
          ∙ sym from.noted;
      one_each = ap length from.noted ∙ length-map v.limits (λ (n : ℕ). 0);
      limits = from.limits ∙ ap limits_of (sym case);
    }

pub lets_seen : (s : Side) (n n' : WorkerNote) (u : UpperNote) → Lets s n u → SeesMore n n' → Lets s n' u
lets_seen s n n' u h more =
    subst (λ (m : WorkerNote). Lets s m u) (sym more.rest) record {
      case = h.case;
      lower = h.lower;
      loan = by_side s h.loan;
      home = h.home;
      out = λ o. elim (h.out o) [ inl free ↦ inl free | inr busy ↦ inr (busy.0, record { take = busy.1.take; kept = busy.1.kept }) ];
    }
  where
    by_side : (s : Side) → IsLoan s n u.lent u.received → IsLoan s (record n { seen = n'.seen }) u.lent u.received
    by_side Left t = record { lent = t.lent; given = t.given }
    by_side Right t = record { lent = t.lent; given = t.given }

pub tells_seen : (n n' : WorkerNote) (outs : List Out) → Tells n outs → SeesMore n n' → Tells n' outs
tells_seen n n' outs h more = subst (λ (m : WorkerNote). Tells m outs) (sym more.rest) h
