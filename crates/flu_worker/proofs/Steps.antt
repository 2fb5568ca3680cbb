-- What a lot that is whole anew keeps of the rule.
use Rattle.std.proofs.Common.{◌≡◌, ◌⊎◌, ◌<◌, ◌≤◌, ℕ, true, false, Option, Some, None, List, [], length, inl, inr, refl, sym, ap, subst, ◌∙◌, arith}
use Rattle.std.specs.Prelude.{slice_index, slice_index_or, IsSome}
use Rattle.std.proofs.lemmas.List.{length-map}
use Rattle.flu_lemmas.proofs.Places.{slice_get-there, slice_index-map}
use Rattle.flu_lemmas.proofs.Options.{none_or_some}
use Rattle.flu_model.specs.declared.events.Item.{Item}
use Rattle.flu_model.specs.Merging.{events_of}
use Rattle.flu_model.specs.declared.jobs.Program.{Program}
use Rattle.flu_model.specs.declared.plans.Node.{Node}
use Rattle.flu_model.specs.Itags.{count_of_itags}
use Rattle.flu_model.specs.Listed.{listed}
use Rattle.flu_fork.specs.declared.content.Content.{Content}
use Rattle.flu_fork.specs.declared.lots.Lot.{Lot}
use Rattle.flu_fork.specs.Lots.{job, nodes, kids, LotFits, HasCounts, PartsFitKids}
use Rattle.flu_fork.specs.Serving.{GrownFrom}
use Rattle.flu_mail.specs.declared.mailbox.Mailbox.{Mailbox}
use Rattle.flu_mail.specs.declared.entries.Entry.{Entry}
use Rattle.flu_mail.specs.Mailboxes.{node_of, seen_of, counts_of, IsAt, IsOver}
use Rattle.flu_worker.specs.declared.hand.Hand.TheVariants.{Lending}
use Rattle.flu_worker.specs.declared.holding.Holding.{Holding}
use Rattle.flu_worker.specs.declared.holding.Holding.TheVariants.{Empty as NoLot, Whole as WholeLot, LendingBoth, LendingLeft}
use Rattle.flu_worker.specs.declared.holding.Holding.TheVariants.{LendingRight, Down as BothOut, TakingLeft, TakingRight, Gone}
use Rattle.flu_worker.specs.Agreeing.{Agrees, Grows}
use Rattle.flu_worker.proofs.Mails.{IsSameMail}
use Rattle.flu_worker.specs.Hands.{is_open, first_hand}
use Rattle.flu_worker.specs.Holding.{hand_of, IsHeldAs}
use Rattle.flu_worker.specs.Notes.{WorkerNote, own_of, above_of}
use Rattle.flu_worker.specs.Rule.{Rule, IsMailed, Holds, HoldsNone, HoldsWhole, LendsBoth, IsDown}
use Rattle.flu_worker.proofs.Aiming.{never_ask}

-- ---- more is seen
down_seen : (n : WorkerNote) (seen : List ℕ) → IsDown n → IsDown (record n { seen = seen })
down_seen n seen h = record { forked = h.forked; left = h.left; right = h.right; target = h.target }

pub holds_seen : (n : WorkerNote) (seen : List ℕ) (h : Holding) → Holds n h → Holds (record n { seen = seen }) h
holds_seen n seen NoLot h = record { kept = h.kept; mine = h.mine; most = h.most; grows = h.grows }
holds_seen n seen (WholeLot lot) h =
    record {
      fits = h.fits;
      since = h.since;
      agrees = h.agrees;
      grows = h.grows;
      leaf = h.leaf;
      inner = h.inner;
      target = h.target;
      lent = h.lent;
      served = h.served;
    }
holds_seen n seen (LendingBoth a b) h = record { kept = h.kept; forked = h.forked; left = h.left; right = h.right }
holds_seen n seen (LendingLeft a) h = record { kept = h.kept; forked = h.forked; left = h.left; right = h.right }
holds_seen n seen (LendingRight b) h = record { kept = h.kept; forked = h.forked; left = h.left; right = h.right }
holds_seen n seen BothOut h = down_seen n seen h
holds_seen n seen (TakingLeft a) h = record { down = down_seen n seen h.down; kept = h.kept; fits = h.fits; taken = h.taken; served = h.served }
holds_seen n seen (TakingRight b) h = record { down = down_seen n seen h.down; kept = h.kept; fits = h.fits; taken = h.taken; served = h.served }
holds_seen n seen Gone h = h

-- what is not open has no lot
pub has_none : (n : WorkerNote) (h : Holding) → Holds n h → is_open (hand_of h) ≡ false → HoldsNone n
has_none n NoLot h e = h
has_none n (WholeLot lot) h e = cc
has_none n (LendingBoth a b) h e = cc
has_none n (LendingLeft a) h e = cc
has_none n (LendingRight b) h e = cc
has_none n BothOut h e = cc
has_none n (TakingLeft a) h e = cc
has_none n (TakingRight b) h e = cc
has_none n Gone h e = cc

-- ---- a lot that is whole anew, where no target is kept
module _ (n : WorkerNote) (lot : Lot) (kept : n.kept ≡ None) (fits : LotFits n.case n.node lot) (since : lot.since ≡ n.held.since)
    (agrees : Agrees n.case n.node n.counts n.held.upto lot.upto) (grows : Grows n.case n.node n.taken_left n.taken_right lot.upto) where
  whole_at_leaf : kids n.case n.node ≡ None → HoldsWhole n lot
  whole_at_leaf leaf = record {
    fits = fits;
    since = since;
    agrees = agrees;
    grows = grows;
    leaf = λ _. kept;
    inner = λ some. absurd (none_or_some (kids n.case n.node) leaf some);
    target = λ y e. never_ask n.kept kept e;
    lent = λ y e. never_ask n.kept kept e;
    served = λ y e. never_ask n.kept kept e;
  }

  forked : (a b : Lot) → IsSome (kids n.case n.node) → HasCounts lot (a, b) → ((l r : ℕ) → kids n.case n.node ≡ Some (l, r) → PartsFitKids n.case l r (a, b))
      → LendsBoth n a b
  forked a b inner counts parts = record {
    kept = kept;
    forked = record {
      inner = inner;
      agrees = subst (λ (u : List ℕ). Agrees n.case n.node n.counts n.held.upto u) (sym counts.left_upto) agrees;
      since = λ i. (let h = fits.since_first i in let s = ap (λ (u : List ℕ). slice_index u i) since in
          let t = ap (λ (u : List ℕ). slice_index u i) counts.left_upto in omega arith);
      there = λ i. (let h = fits.there i in let t = ap (λ (u : List ℕ). slice_index u i) counts.left_upto in omega arith);
    };
    left = λ l r e. record {
      fits = (parts l r e).left;
      loaned = λ i. record { since = (counts.left_since ∙ since) i; upto = a.upto };
      grown = subst (λ (u : List ℕ). GrownFrom n.case l n.taken_left u) (sym counts.left_upto) (grows.left l r e);
    };
    right = λ l r e. record {
      fits = (parts l r e).right;
      loaned = λ i. record { since = (counts.right_since ∙ sym counts.left_upto) i; upto = (counts.right_upto ∙ sym counts.left_upto) i };
      grown = subst (λ (u : List ℕ). GrownFrom n.case r n.taken_right u) (sym counts.left_upto) (grows.right l r e);
    };
  }

  pub holds_anew : (h : Holding) → IsHeldAs n.case n.node lot h → Holds n h
  holds_anew NoLot is = absurd is
  holds_anew (WholeLot here) is = subst (λ (x : Lot). HoldsWhole n x) (sym is.same) (whole_at_leaf is.leaf)
  holds_anew (LendingBoth a b) is = forked a b is.inner is.counts is.fits
  holds_anew (LendingLeft a) is = absurd is
  holds_anew (LendingRight b) is = absurd is
  holds_anew BothOut is = absurd is
  holds_anew (TakingLeft a) is = absurd is
  holds_anew (TakingRight b) is = absurd is
  holds_anew Gone is = absurd is

first_of_some : (o : Option (ℕ × ℕ)) → IsSome o → first_hand o ≡ Lending true true
first_of_some None s = cc
first_of_some (Some kids) s = refl

pub hand_anew : (k : Content) (w : ℕ) (lot : Lot) (h : Holding) → IsHeldAs k w lot h → hand_of h ≡ first_hand (kids k w)
hand_anew k w lot NoLot is = absurd is
hand_anew k w lot (WholeLot here) is = sym (ap first_hand is.leaf)
hand_anew k w lot (LendingBoth a b) is = sym (first_of_some (kids k w) is.inner)
hand_anew k w lot (LendingLeft a) is = absurd is
hand_anew k w lot (LendingRight b) is = absurd is
hand_anew k w lot BothOut is = absurd is
hand_anew k w lot (TakingLeft a) is = absurd is
hand_anew k w lot (TakingRight b) is = absurd is
hand_anew k w lot Gone is = absurd is

-- ---- a lot is handed on
-- its counts of the worker's own itags and of those above it are what the worker counted
pub tied_at : (n : WorkerNote) (upto : List ℕ) → Agrees n.case n.node n.counts n.held.upto upto → (i : ℕ)
    → (own_of n i ≡ true) ⊎ (above_of n i ≡ true) → slice_index upto i ≡ slice_index n.counts i
tied_at n upto a i place = elim place [ inl mine ↦ sym (a.mine i mine) | inr over ↦ sym (a.over i over) ]

-- ---- the mailbox
pub mail_long : (p : Program) (ns : List Node) (m : Mailbox) → IsAt p ns m → length (counts_of m) ≡ count_of_itags p
mail_long p ns m at = length-map m.entries.items (λ (e : Entry). e.count) ∙ sym (length-map m.entries.items (λ (e : Entry). e.seen)) ∙ at.one_each

pub counts_long : (n : WorkerNote) (mail : Mailbox) → IsMailed n mail → length n.counts ≡ count_of_itags (job n.case)
counts_long n mail h = sym (ap length h.counts) ∙ mail_long (job n.case) (nodes n.case) mail h.at_node

-- another mailbox of the worker, after its counts changed
pub mailed_after : (n : WorkerNote) (old new : Mailbox) (m : WorkerNote) → IsMailed n old → IsSameMail (listed n.case.streams) old new
    → counts_of new ≡ m.counts
    → m.case ≡ n.case → m.node ≡ n.node → m.seen ≡ n.seen → IsMailed m new
mailed_after n old new m h same counts ec ew es = record {
  there = subst (λ (k : Content). m.node < length (nodes k)) (sym ec) (subst (λ (w : ℕ). w < length (nodes n.case)) (sym ew) h.there);
  node = same.node ∙ h.node ∙ sym ew;
  seen = same.seen ∙ h.seen ∙ sym es;
  counts = counts;
  at_node = subst (λ (k : Content). IsAt (job k) (nodes k) new) (sym ec) (same.at_node (job n.case) (nodes n.case) h.at_node);
  over = subst (λ (k : Content). IsOver (listed k.streams) new) (sym ec) same.over;
}

-- the same one
pub mailed_still : (n : WorkerNote) (mail : Mailbox) (m : WorkerNote) → IsMailed n mail → m.case ≡ n.case → m.node ≡ n.node → m.seen ≡ n.seen
    → m.counts ≡ n.counts → IsMailed m mail
mailed_still n mail m h ec ew es eu =
    mailed_after n mail mail m h (record { seen = refl; node = refl; at_node = λ p ns a. a; over = h.over }) (h.counts ∙ sym eu) ec ew es

-- ---- more is seen
pub see_rule : (n : WorkerNote) (old mail : Mailbox) (h : Holding) → Rule n old h → counts_of mail ≡ counts_of old → node_of mail ≡ node_of old
    → ((p : Program) (ns : List Node) → IsAt p ns old → IsAt p ns mail) → IsOver (listed n.case.streams) mail → Rule (record n {
      seen = seen_of mail;
      counts = counts_of mail;
    }) mail h
see_rule n old mail h rule ec en at over =
    let m = rule.mailed in
    let same : counts_of mail ≡ n.counts = ec ∙ m.counts in
    subst (λ (u : List ℕ). Rule (record n { seen = seen_of mail; counts = u }) mail h) (sym same) (record {
      mailed = record { there = m.there; node = en ∙ m.node; seen = refl; counts = same; at_node = at (job n.case) (nodes n.case) m.at_node; over = over };
      hand = rule.hand;
      here = rule.here;
      holds = holds_seen n (seen_of mail) h rule.holds;
    })

-- no more is counted than there is
pub counted_within : (lists : List (List Item)) (mail : Mailbox) (i : ℕ) → IsOver lists mail → i < length lists
    → slice_index (counts_of mail) i ≤ length (events_of (slice_index_or lists i []))
counted_within lists mail i over lt =
    let long = sym (length-map mail.entries.items (λ (e : Entry). e.seen)) ∙ over.one_each in
    let there = slice_get-there mail.entries.items i (omega arith) in
    let entry = over.over_items i there.0 there.1 in
    let count = slice_index-map (λ (e : Entry). e.count) mail.entries.items i there.0 there.1 in
    let le = entry.count in
    omega arith
