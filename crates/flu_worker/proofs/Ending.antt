-- A worker that has nothing left.
use Rattle.std.proofs.Common.{◌≡◌, ◌<◌, ◌≤◌, ℕ, Bool, true, false, Option, Some, None, List, [], ◌∷◌, length, ◌⊎◌, inl, inr, refl, sym, ap, ◌∙◌, arith}
use Rattle.std.specs.Prelude.{◌==◌, ◌&&◌, ◌||◌, not, is_none, is_some, slice_index, slice_index_or, IsSome}
use Rattle.std.specs.List.{list_all, AllByRecursion}
use Rattle.std.proofs.lemmas.Bool.{cases_Bool, cases_lt}
use Rattle.std.proofs.lemmas.Option.{slice_get_within}
use Rattle.std.proofs.lemmas.List.{get_or_past}
use Rattle.flu_lemmas.proofs.Searches.{eq_true}
use Rattle.flu_lemmas.proofs.Tests.{and_left, and_right, both, true_eq}
use Rattle.flu_model.specs.declared.events.Event.{Event}
use Rattle.flu_model.specs.declared.events.Itag.{Itag}
use Rattle.flu_model.specs.declared.events.Item.{Item}
use Rattle.flu_model.specs.Itags.{count_of_itags}
use Rattle.flu_model.specs.Listed.{listed}
use Rattle.flu_model.specs.Merging.{events_of}
use Rattle.flu_model.specs.Owners.{owns, ancestors_own}
use Rattle.flu_fork.specs.declared.lots.Ask.{Ask}
use Rattle.flu_fork.specs.declared.lots.Lot.{Lot}
use Rattle.flu_fork.specs.Classes.{itag}
use Rattle.flu_fork.specs.Settings.{events_at}
use Rattle.flu_fork.specs.Lots.{job, nodes, kids, setting_of}
use Rattle.flu_fork.specs.Serving.{LotCounts}
use Rattle.flu_fork.specs.Texts.{IsComplete}
use Rattle.flu_mail.specs.declared.mailbox.Mailbox.{Mailbox}
use Rattle.flu_mail.specs.Mailboxes as mails
use Rattle.flu_mail.specs.Mailboxes.{IsOver}
use Rattle.flu_mail.specs.Passing.{pending_event}
use Rattle.flu_worker.specs.declared.hand.Hand.{Hand}
use Rattle.flu_worker.specs.declared.hand.Hand.TheVariants.{Empty, Whole, Lending, Down, Taking}
use Rattle.flu_worker.specs.declared.holding.Holding.{Holding}
use Rattle.flu_worker.specs.declared.holding.Holding.TheVariants.{Empty as NoLot, Whole as WholeLot, LendingBoth, LendingLeft}
use Rattle.flu_worker.specs.declared.holding.Holding.TheVariants.{LendingRight, Down as BothOut, TakingLeft, TakingRight, Gone}
use Rattle.flu_worker.specs.Agreeing.{Agrees, IsTarget}
use Rattle.flu_worker.specs.Calls.{HasDoneAll, IsFinished}
use Rattle.flu_worker.specs.Choosing.{sight, own_itags, above_itags}
use Rattle.flu_worker.specs.Finishing.{is_over, has_done_all}
use Rattle.flu_worker.specs.Hands.{is_whole, is_down}
use Rattle.flu_worker.specs.LawsBelow.{LawsBelow}
use Rattle.flu_worker.specs.Notes.{WorkerNote, above_of, below_of}
use Rattle.flu_worker.specs.Rule.{Rule, IsMailed, HoldsWhole, IsDown}
use Rattle.flu_tables.specs.Lists.{itags_where}
use Rattle.flu_worker.proofs.CountLemmas.{few_events}
use Rattle.flu_worker.proofs.EarliestLemmas.{all_where, where_all}
use Rattle.flu_worker.proofs.Nodes.{above_not_below}
use Rattle.flu_worker.proofs.Steps.{counts_long, counted_within}

-- ---- all of an itag is seen and counted
abbrev over_now : WorkerNote → Itag → Bool
over_now n i = is_over (listed n.case.streams) n.seen n.counts i.0

-- the test of one itag, by what the mailbox tells
pub over_told : (lists : List (List Item)) (mail : Mailbox) (i : ℕ) → IsOver lists mail → i < length lists → (o : Option Event)
    → o ≡ pending_event lists (mails.counts_of mail) i
    → (none : Bool) → is_some o ≡ not none → (n : ℕ) → n ≡ slice_index (mails.seen_of mail) i → n ≡ length (slice_index_or lists i [])
    → none ≡ is_over lists (mails.seen_of mail) (mails.counts_of mail) i
over_told lists mail i over lt o is none tells n seen all =
    by_some o none tells ∙ ap is_none is
    ∙ few_events (events_of (slice_index_or lists i [])) (slice_index (mails.counts_of mail) i) (counted_within lists mail i over lt)
    ∙ sym (ap (λ t. t && (slice_index (mails.counts_of mail) i == length (events_of (slice_index_or lists i []))))
    (eq_true (slice_index (mails.seen_of mail) i) (length (slice_index_or lists i [])) (sym seen ∙ all)))
  where
    by_some : (o : Option Event) (b : Bool) → is_some o ≡ not b → b ≡ is_none o
    by_some None true e = refl
    by_some None false e = cc
    by_some (Some x) true e = cc
    by_some (Some x) false e = refl

-- so it is with each itag of a set
abbrev AllOver : WorkerNote → (Itag → Bool) → Type 0
AllOver n set = (i : Itag) → i.0 < count_of_itags (job n.case) → set i ≡ true → over_now n i ≡ true

list_true : (P : Itag → Bool) (xs : List Itag) → AllByRecursion (λ i. P i ≡ true) xs → list_all P xs ≡ true
list_true P [] all = refl
list_true P (x ∷ xs) all = both (P x) (list_all P xs) all.0 (list_true P xs all.1)

true_list : (P : Itag → Bool) (xs : List Itag) → list_all P xs ≡ true → AllByRecursion (λ i. P i ≡ true) xs
true_list P [] e = tt
true_list P (x ∷ xs) e = (and_left (P x) (list_all P xs) e, true_list P xs (and_right (P x) (list_all P xs) e))

all_over : (n : WorkerNote) (set : Itag → Bool) → list_all (over_now n) (itags_where (job n.case) set) ≡ true → AllOver n set
all_over n set e = where_all (job n.case) set (λ i. over_now n i ≡ true) (true_list (over_now n) (itags_where (job n.case) set) e)

over_all : (n : WorkerNote) (set : Itag → Bool) → AllOver n set → list_all (over_now n) (itags_where (job n.case) set) ≡ true
over_all n set h = list_true (over_now n) (itags_where (job n.case) set) (all_where (job n.case) set (λ i. over_now n i ≡ true) h)

at_rest : (h : Hand) → (is_whole h || is_down h) ≡ true → (h ≡ Whole) ⊎ (h ≡ Down)
at_rest Empty e = cc
at_rest Whole e = inl refl
at_rest (Lending l r) e = cc
at_rest Down e = inr refl
at_rest (Taking l r) e = cc

rests : (h : Hand) → (h ≡ Whole) ⊎ (h ≡ Down) → (is_whole h || is_down h) ≡ true
rests h o = elim o [ inl e ↦ ap (λ (x : Hand). is_whole x || is_down x) e | inr e ↦ ap (λ (x : Hand). is_whole x || is_down x) e ]

module _ (n : WorkerNote) (mail : Mailbox) (mailed : IsMailed n mail) where
  seen_long : length n.seen ≡ count_of_itags (job n.case)
  seen_long = sym (ap length mailed.seen) ∙ mailed.at_node.one_each

  -- beyond the itags there is nothing
  nothing_beyond : (i : ℕ) → count_of_itags (job n.case) ≤ i → slice_index_or (listed n.case.streams) i [] ≡ []
  nothing_beyond i ge = let one = n.case.one_each in get_or_past (listed n.case.streams) i [] (omega arith)

  seen_from : (set : Itag → Bool) → AllOver n set → (i : ℕ) → set (itag i) ≡ true → slice_index n.seen i ≡ length (slice_index_or (listed n.case.streams) i [])
  seen_from set all i h =
      elim (cases_lt i (count_of_itags (job n.case))) [
        | inl lt ↦ true_eq _ _ (and_left (slice_index n.seen i == length (slice_index_or (listed n.case.streams) i [])) _ (all (itag i) lt h))
        | inr ge ↦ (let long = seen_long in get_or_past n.seen i 0 (omega arith) ∙ sym (ap length (nothing_beyond i ge)))
      ]

  counts_from : (set : Itag → Bool) → AllOver n set → (i : ℕ) → set (itag i) ≡ true → slice_index n.counts i ≡ length (events_at (setting_of n.case) i)
  counts_from set all i h =
      elim (cases_lt i (count_of_itags (job n.case))) [
        | inl lt ↦ true_eq _ _ (and_right (slice_index n.seen i == length (slice_index_or (listed n.case.streams) i [])) _ (all (itag i) lt h))
        | inr ge ↦ (let long = counts_long n mail mailed in
            get_or_past n.counts i 0 (omega arith) ∙ sym (ap (λ (items : List Item). length (events_of items)) (nothing_beyond i ge)))
      ]

  -- the test tells it
  pub done_all : (is_whole n.hand || is_down n.hand) ≡ true → list_all (over_now n) (own_itags n.case n.node) ≡ true
      → list_all (over_now n) (above_itags n.case n.node) ≡ true → HasDoneAll n
  done_all rest mine over =
      let a = all_over n (owns (job n.case) (nodes n.case) n.node) mine in
      let b = all_over n (ancestors_own (job n.case) (nodes n.case) n.node) over in
      record {
        hand = at_rest n.hand rest;
        seen_own = seen_from (owns (job n.case) (nodes n.case) n.node) a;
        seen_above = seen_from (ancestors_own (job n.case) (nodes n.case) n.node) b;
        own = counts_from (owns (job n.case) (nodes n.case) n.node) a;
        above = counts_from (ancestors_own (job n.case) (nodes n.case) n.node) b;
      }

  pub record Tests : Type 0 where
    pub rest : (is_whole n.hand || is_down n.hand) ≡ true
    pub mine : list_all (over_now n) (own_itags n.case n.node) ≡ true
    pub over : list_all (over_now n) (above_itags n.case n.node) ≡ true

  pub all_done : HasDoneAll n → Tests
  all_done d = record {
    rest = rests n.hand d.hand;
    mine = over_all n (owns (job n.case) (nodes n.case) n.node) (λ i lt h. both _ _ (eq_true _ _ (d.seen_own i.0 h)) (eq_true _ _ (d.own i.0 h)));
    over = over_all n (ancestors_own (job n.case) (nodes n.case) n.node) (λ i lt h. both _ _ (eq_true _ _ (d.seen_above i.0 h)) (eq_true _ _ (d.above i.0 h)));
  }

-- both ways
pub done_tells : (n : WorkerNote) (mail : Mailbox) → IsMailed n mail → (b : Bool) → b ≡ has_done_all (sight n) n.hand
    → (b ≡ true → HasDoneAll n) × (HasDoneAll n → b ≡ true)
done_tells n mail mailed b is = (
  (λ e. (let all = sym is ∙ e in
      let two = and_left ((is_whole n.hand || is_down n.hand) && list_all (over_now n) (own_itags n.case n.node)) _ all in
      done_all n mail mailed (and_left (is_whole n.hand || is_down n.hand) _ two) (and_right (is_whole n.hand || is_down n.hand) _ two)
      (and_right ((is_whole n.hand || is_down n.hand) && list_all (over_now n) (own_itags n.case n.node)) _ all))),
  (λ d. (let t = all_done n mail mailed d in is ∙ both _ _ (both _ _ t.rest t.mine) t.over)),
)

-- ---- then it keeps no target, and a worker whose parts are lent has those of one fork
module _ (laws : LawsBelow) (n : WorkerNote) (mail : Mailbox) (mailed : IsMailed n mail) (d : HasDoneAll n) (upto : List ℕ)
    (agrees : Agrees n.case n.node n.counts n.held.upto upto)
    (there : (i : ℕ) → slice_index upto i ≤ length (events_at (setting_of n.case) i)) where
  held_least : (i : ℕ) → slice_index n.held.upto i ≤ slice_index upto i
  held_least i = elim (cases_Bool (below_of n i)) [ inl h ↦ agrees.inside i h | inr h ↦ (let e = agrees.outside i h in omega arith) ]

  pub above_complete : IsComplete (setting_of n.case) (above_of n) n.held.upto
  above_complete i over =
      elim (cases_lt i (count_of_itags (job n.case))) [
        | inl lt ↦ sym (agrees.outside i (above_not_below laws n.case n.node i lt over)) ∙ sym (agrees.over i over) ∙ d.above i over
        | inr ge ↦
            (let none = ap (λ (items : List Item). length (events_of items)) (nothing_beyond n mail mailed i ge) in
            let a = held_least i in
            let b = there i in
            omega arith)
      ]

  no_target : (y : Ask) → IsTarget n.case n.node n.counts upto y → ⊥
  no_target y t =
      let less = slice_get_within _ y.index t.event t.is in
      let next = t.next in
      elim t.place [
        | inl mine ↦ (let a = agrees.mine y.itag.0 mine in let b = d.own y.itag.0 mine in omega arith)
        | inr over ↦ (let a = agrees.over y.itag.0 over in let b = d.above y.itag.0 over in omega arith)
      ]

  pub none_kept : ((y : Ask) → n.kept ≡ Some y → IsTarget n.case n.node n.counts upto y) → n.kept ≡ None
  none_kept targets = by_kept n.kept refl
    where
      by_kept : (o : Option Ask) → n.kept ≡ o → o ≡ None
      by_kept None e = refl
      by_kept (Some y) e = absurd (no_target y (targets y e))

differ : {h : Hand} → h ≡ Whole → h ≡ Down → ⊥
differ a b = cc

no_rest : {P : Type 0} (h g : Hand) → h ≡ g → (h ≡ Whole) ⊎ (h ≡ Down) → (is_whole g || is_down g) ≡ false → P
no_rest h g e o f = absurd (Rattle.flu_lemmas.proofs.Tests.not_both _ (rests g (elim o [ inl a ↦ inl (sym e ∙ a) | inr b ↦ inr (sym e ∙ b) ])) f)

leaf_if_none : (n : WorkerNote) (lot : Lot) → HoldsWhole n lot → n.kept ≡ None → kids n.case n.node ≡ None
leaf_if_none n lot h none = by_kids (kids n.case n.node) refl
  where
    some_kept : (o : Option Ask) → o ≡ None → IsSome o → ⊥
    some_kept o a b = cc

    by_kids : (o : Option (ℕ × ℕ)) → kids n.case n.node ≡ o → o ≡ None
    by_kids None e = refl
    by_kids (Some p) e = absurd (some_kept n.kept none (h.inner (ap is_some e)))

pub finished_is : LawsBelow → (n : WorkerNote) (mail : Mailbox) (h : Holding) → Rule n mail h → HasDoneAll n → IsFinished n
finished_is laws n mail NoLot rule d = no_rest n.hand _ rule.hand d.hand refl
finished_is laws n mail (WholeLot lot) rule d =
    let h : HoldsWhole n lot = rule.holds in
    let none = none_kept laws n mail rule.mailed d lot.upto h.agrees h.fits.there h.target in
    record {
      own = d.own;
      above = above_complete laws n mail rule.mailed d lot.upto h.agrees h.fits.there;
      kept = none;
      hand = d.hand;
      leaf = λ _. leaf_if_none n lot h none;
      inner = λ down. absurd (differ rule.hand down);
      forked = λ down. absurd (differ rule.hand down);
    }
finished_is laws n mail (LendingBoth a b) rule d = no_rest n.hand _ rule.hand d.hand refl
finished_is laws n mail (LendingLeft a) rule d = no_rest n.hand _ rule.hand d.hand refl
finished_is laws n mail (LendingRight b) rule d = no_rest n.hand _ rule.hand d.hand refl
finished_is laws n mail BothOut rule d =
    let h : IsDown n = rule.holds in
    record {
      own = d.own;
      above = above_complete laws n mail rule.mailed d n.lent_left.upto h.forked.agrees h.forked.there;
      kept = none_kept laws n mail rule.mailed d n.lent_left.upto h.forked.agrees h.forked.there h.target;
      hand = d.hand;
      leaf = λ whole. absurd (differ whole rule.hand);
      inner = λ _. h.forked.inner;
      forked = λ _. record {
        left_since = ap (λ (m : LotCounts). m.since) h.left;
        right_since = ap (λ (m : LotCounts). m.since) h.right;
        right_upto = ap (λ (m : LotCounts). m.upto) h.right;
        first = h.forked.since;
        there = h.forked.there;
        own = λ i mine. sym (h.forked.agrees.mine i mine);
        outside = h.forked.agrees.outside;
      };
    }
finished_is laws n mail (TakingLeft a) rule d = no_rest n.hand _ rule.hand d.hand refl
finished_is laws n mail (TakingRight b) rule d = no_rest n.hand _ rule.hand d.hand refl
finished_is laws n mail Gone rule d = no_rest n.hand _ rule.hand d.hand refl
