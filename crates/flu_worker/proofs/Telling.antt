-- What the rule of a worker says of what contracts see of it.
use Rattle.std.proofs.Common.{◌≡◌, ◌⊎◌, ◌<◌, ◌≤◌, ℕ, true, false, Some, List, length, inl, inr, refl, sym, ap, subst, ◌∙◌, arith}
use Rattle.std.specs.Prelude.{slice_index}
use Rattle.std.proofs.lemmas.Bool.{cases_lt}
use Rattle.std.proofs.lemmas.List.{get_or_past}
use Rattle.flu_model.specs.Itags.{count_of_itags}
use Rattle.flu_model.specs.Listed.{listed}
use Rattle.flu_fork.specs.declared.lots.Ask.{Ask}
use Rattle.flu_fork.specs.Lots.{job, setting_of}
use Rattle.flu_fork.specs.Serving.{LotCounts}
use Rattle.flu_fork.specs.Settings.{events_at}
use Rattle.flu_mail.specs.declared.mailbox.Mailbox.{Mailbox}
use Rattle.flu_worker.specs.declared.hand.Hand.{Hand}
use Rattle.flu_worker.specs.declared.hand.Hand.TheVariants.{Empty, Whole, Lending, Down, Taking}
use Rattle.flu_worker.specs.declared.hand.Side.{Side}
use Rattle.flu_worker.specs.declared.hand.Side.TheVariants.{Left, Right}
use Rattle.flu_worker.specs.declared.holding.Holding.{Holding}
use Rattle.flu_worker.specs.declared.holding.Holding.TheVariants.{Empty as NoLot, Whole as WholeLot, LendingBoth, LendingLeft}
use Rattle.flu_worker.specs.declared.holding.Holding.TheVariants.{LendingRight, Down as BothOut, TakingLeft, TakingRight, Gone}
use Rattle.flu_worker.specs.Agreeing.{Agrees, IsTarget}
use Rattle.flu_worker.specs.Hands.{is_lost, is_open, is_out}
use Rattle.flu_worker.specs.Holding.{hand_of}
use Rattle.flu_worker.specs.Keeping.{HasRule, KeepsIn, LotsFit, SeeingKeepsTheRule}
use Rattle.flu_worker.specs.LawsBelow.{LawsBelow}
use Rattle.flu_worker.specs.Notes.{WorkerNote, lent_to, own_of, above_of}
use Rattle.flu_worker.specs.Rule.{Rule, Holds, IsMailed}
use Rattle.flu_worker.proofs.CountLemmas.{upto_of}
use Rattle.flu_worker.proofs.Aiming.{never_ask}
use Rattle.flu_worker.proofs.Nodes.{above_not_below}
use Rattle.flu_worker.proofs.Steps.{counts_long, counted_within, holds_seen}

counted : (n : WorkerNote) (mail : Mailbox) → IsMailed n mail → (i : ℕ) → slice_index n.counts i ≤ length (events_at (setting_of n.case) i)
counted n mail m i =
    elim (cases_lt i (length (listed n.case.streams))) [
      | inl lt ↦ subst (λ (c : List ℕ). slice_index c i ≤ length (events_at (setting_of n.case) i)) m.counts
          (counted_within (listed n.case.streams) mail i m.over lt)
      | inr ge ↦ (let long = counts_long n mail m in let one = n.case.one_each in let none = get_or_past n.counts i 0 (omega arith) in omega arith)
    ]

keeps : (n : WorkerNote) (h : Holding) → Holds n h → KeepsIn (hand_of h) n
keeps n NoLot h = h.kept
keeps n (WholeLot lot) h = record { leaf = h.leaf; inner = h.inner }
keeps n (LendingBoth a b) h = record { inner = h.forked.inner; kept = h.kept; some = refl }
keeps n (LendingLeft a) h = record { inner = h.forked.inner; kept = h.kept; some = refl }
keeps n (LendingRight b) h = record { inner = h.forked.inner; kept = h.kept; some = refl }
keeps n BothOut h = h.forked.inner
keeps n (TakingLeft a) h = λ _. record { inner = h.down.forked.inner; kept = h.kept; some = refl }
keeps n (TakingRight b) h = λ _. record { inner = h.down.forked.inner; kept = h.kept; some = refl }
keeps n Gone h = λ e. cc

-- ---- counts
over_held : (laws : LawsBelow) (n : WorkerNote) (upto : List ℕ) → Agrees n.case n.node n.counts n.held.upto upto → (i : ℕ) → i < count_of_itags (job n.case)
    → above_of n i ≡ true
    → slice_index n.counts i ≡ slice_index n.held.upto i
over_held laws n upto a i lt over = a.over i over ∙ a.outside i (above_not_below laws n.case n.node i lt over)

held : (laws : LawsBelow) (n : WorkerNote) (h : Holding) → Holds n h → (i : ℕ) → is_open (hand_of h) ≡ true → is_lost (hand_of h) ≡ false
    → i < count_of_itags (job n.case)
    → above_of n i ≡ true → slice_index n.counts i ≡ slice_index n.held.upto i
held laws n NoLot h i opened lost lt over = cc
held laws n (WholeLot lot) h i opened lost lt over = over_held laws n lot.upto h.agrees i lt over
held laws n (LendingBoth a b) h i opened lost lt over = over_held laws n a.upto h.forked.agrees i lt over
held laws n (LendingLeft a) h i opened lost lt over = over_held laws n a.upto h.forked.agrees i lt over
held laws n (LendingRight b) h i opened lost lt over = over_held laws n b.upto h.forked.agrees i lt over
held laws n BothOut h i opened lost lt over = over_held laws n n.lent_left.upto h.forked.agrees i lt over
held laws n (TakingLeft a) h i opened lost lt over = over_held laws n n.lent_left.upto h.down.forked.agrees i lt over
held laws n (TakingRight b) h i opened lost lt over = over_held laws n n.lent_left.upto h.down.forked.agrees i lt over
held laws n Gone h i opened lost lt over = cc

at_loan : (n : WorkerNote) (upto : List ℕ) (loan : LotCounts) → Agrees n.case n.node n.counts n.held.upto upto → loan.upto ≡ upto → (i : ℕ)
    → (own_of n i ≡ true) ⊎ (above_of n i ≡ true) → slice_index n.counts i ≡ slice_index loan.upto i
at_loan n upto loan a is i place =
    let same : slice_index upto i ≡ slice_index loan.upto i = ap (λ (c : List ℕ). slice_index c i) (sym is) in
    elim place [ inl mine ↦ a.mine i mine ∙ same | inr over ↦ a.over i over ∙ same ]

lent : (n : WorkerNote) (h : Holding) → Holds n h → (s : Side) (i : ℕ) → is_out s (hand_of h) ≡ true → (own_of n i ≡ true) ⊎ (above_of n i ≡ true)
    → slice_index n.counts i ≡ slice_index (lent_to s n).upto i
lent n NoLot h s i out place = cc
lent n (WholeLot lot) h s i out place = cc
lent n (LendingBoth a b) h Left i out place = cc
lent n (LendingBoth a b) h Right i out place = cc
lent n (LendingLeft a) h Left i out place = cc
lent n (LendingLeft a) h Right i out place = at_loan n a.upto n.lent_right h.forked.agrees (upto_of n.lent_right _ h.right) i place
lent n (LendingRight b) h Left i out place = at_loan n b.upto n.lent_left h.forked.agrees (upto_of n.lent_left _ h.left) i place
lent n (LendingRight b) h Right i out place = cc
lent n BothOut h Left i out place = at_loan n n.lent_left.upto n.lent_left h.forked.agrees refl i place
lent n BothOut h Right i out place = at_loan n n.lent_left.upto n.lent_right h.forked.agrees (upto_of n.lent_right _ h.right) i place
lent n (TakingLeft a) h Left i out place = cc
lent n (TakingLeft a) h Right i out place = at_loan n n.lent_left.upto n.lent_right h.down.forked.agrees (upto_of n.lent_right _ h.down.right) i place
lent n (TakingRight b) h Left i out place = at_loan n n.lent_left.upto n.lent_left h.down.forked.agrees refl i place
lent n (TakingRight b) h Right i out place = cc
lent n Gone h Left i out place = cc
lent n Gone h Right i out place = cc

-- ---- the target, by what is counted
target_counted : (n : WorkerNote) (upto : List ℕ) → Agrees n.case n.node n.counts n.held.upto upto → (y : Ask) → IsTarget n.case n.node n.counts upto y
    → IsTarget n.case n.node n.counts n.counts y
target_counted n upto a y t = record {
  known = t.known;
  next = t.next ∙ sym (elim t.place [ inl mine ↦ a.mine y.itag.0 mine | inr over ↦ a.over y.itag.0 over ]);
  place = t.place;
  event = t.event;
  is = t.is;
  clear_own = t.clear_own;
  clear_above = t.clear_above;
  first_own = t.first_own;
  first_above = t.first_above;
}

target : (n : WorkerNote) (h : Holding) → Holds n h → (y : Ask) → n.kept ≡ Some y → IsTarget n.case n.node n.counts n.counts y
target n NoLot h y e = never_ask n.kept h.kept e
target n (WholeLot lot) h y e = target_counted n lot.upto h.agrees y (h.target y e)
target n (LendingBoth a b) h y e = never_ask n.kept h.kept e
target n (LendingLeft a) h y e = never_ask n.kept h.kept e
target n (LendingRight b) h y e = never_ask n.kept h.kept e
target n BothOut h y e = target_counted n n.lent_left.upto h.forked.agrees y (h.target y e)
target n (TakingLeft a) h y e = target_counted n n.lent_left.upto h.down.forked.agrees y (h.down.target y e)
target n (TakingRight b) h y e = target_counted n n.lent_left.upto h.down.forked.agrees y (h.down.target y e)
target n Gone h y e = never_ask n.kept h e

-- ---- the lots in the hand
lots : (n : WorkerNote) (h : Holding) → Holds n h → LotsFit n h
lots n NoLot h = tt
lots n (WholeLot lot) h = h.fits
lots n (LendingBoth a b) h = (λ l r e. (h.left l r e).fits, λ l r e. (h.right l r e).fits)
lots n (LendingLeft a) h = λ l r e. (h.left l r e).fits
lots n (LendingRight b) h = λ l r e. (h.right l r e).fits
lots n BothOut h = tt
lots n (TakingLeft a) h = h.fits
lots n (TakingRight b) h = h.fits
lots n Gone h = tt

pub rule_told : LawsBelow → (n : WorkerNote) (mail : Mailbox) (h : Holding) → Rule n mail h → HasRule n
rule_told laws n mail h rule = record {
  there = rule.mailed.there;
  long = counts_long n mail rule.mailed;
  shape = rule.hand ∙ sym (ap hand_of rule.here);
  lots = subst (λ (g : Holding). LotsFit n g) (sym rule.here) (lots n h rule.holds);
  holds = subst (λ (g : Holding). Holds n g) (sym rule.here) rule.holds;
  counted = counted n mail rule.mailed;
  keeps = subst (λ (g : Hand). KeepsIn g n) (sym rule.hand) (keeps n h rule.holds);
  held = λ i opened lost lt over. held laws n h rule.holds i (ap is_open (sym rule.hand) ∙ opened) (ap is_lost (sym rule.hand) ∙ lost) lt over;
  lent = λ s i out place. lent n h rule.holds s i (ap (is_out s) (sym rule.hand) ∙ out) place;
  target = target n h rule.holds;
}

-- ---- what is seen
keeps_seen : (n : WorkerNote) (seen : List ℕ) (h : Hand) → KeepsIn h n → KeepsIn h (record n { seen = seen })
keeps_seen n seen Empty k = k
keeps_seen n seen Whole k = record { leaf = k.leaf; inner = k.inner }
keeps_seen n seen (Lending l r) k = record { inner = k.inner; kept = k.kept; some = k.some }
keeps_seen n seen Down k = k
keeps_seen n seen (Taking l r) k = λ e. (let t = k e in record { inner = t.inner; kept = t.kept; some = t.some })

pub rule_seen : SeeingKeepsTheRule
rule_seen n seen h = record {
  there = h.there;
  long = h.long;
  shape = h.shape;
  lots = lots (record n { seen = seen }) n.holding (holds_seen n seen n.holding h.holds);
  holds = holds_seen n seen n.holding h.holds;
  counted = h.counted;
  keeps = keeps_seen n seen n.hand h.keeps;
  held = h.held;
  lent = by_side;
  target = h.target;
}
  where
    by_side : (s : Side) (j : ℕ) → is_out s n.hand ≡ true → (own_of n j ≡ true) ⊎ (above_of n j ≡ true)
        → slice_index n.counts j ≡ slice_index (lent_to s (record n { seen = seen })).upto j
    by_side Left = h.lent Left
    by_side Right = h.lent Right
