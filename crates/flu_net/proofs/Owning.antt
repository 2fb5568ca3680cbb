-- What a worker's lot counts, of itags on which an event of the worker's own depends, their owners have counted.
use Rattle.std.proofs.Common.{◌≡◌, ◌⊎◌, ◌<◌, ◌+◌, ℕ, zero, suc, true, false, Option, Some, None, List, length, inl, inr, refl, sym, ap, subst, ◌∙◌, arith}
use Rattle.std.specs.Prelude.{◌==◌, not, slice_get, slice_index}
use Rattle.std.proofs.lemmas.Bool.{cases_Bool, cases_eq, ne_eqb, or_cases}
use Rattle.flu_lemmas.proofs.Tests.{both, not_both}
use Rattle.flu_model.specs.declared.jobs.Program.{Program}
use Rattle.flu_model.specs.declared.plans.Node.{Node}
use Rattle.flu_model.specs.Itags.{count_of_itags}
use Rattle.flu_model.specs.Owners.{owner_of, is_within, are_related}
use Rattle.flu_deps.specs.Dependencies.{itags_depend}
use Rattle.flu_fork.specs.declared.content.Content.{Content}
use Rattle.flu_fork.specs.declared.lots.Lot.{Lot}
use Rattle.flu_fork.specs.Classes.{itag, own, above, below}
use Rattle.flu_fork.specs.Lots.{job, nodes, kids, setting_of}
use Rattle.flu_fork.specs.Texts.{InNone, InFirst, InSecond, InThird}
use Rattle.flu_worker.specs.declared.hand.Side.{Side}
use Rattle.flu_worker.specs.declared.hand.Side.TheVariants.{Left, Right}
use Rattle.flu_worker.specs.declared.holding.Holding.{Holding}
use Rattle.flu_worker.specs.declared.holding.Holding.TheVariants.{Empty as NoLot, Whole as WholeLot, LendingBoth, LendingLeft}
use Rattle.flu_worker.specs.declared.holding.Holding.TheVariants.{LendingRight, Down as BothOut, TakingLeft, TakingRight, Gone}
use Rattle.flu_worker.specs.Agreeing.{Grows}
use Rattle.flu_worker.specs.Hands.{at_side, is_open, is_out}
use Rattle.flu_worker.specs.Holding.{hand_of}
use Rattle.flu_worker.specs.Keeping.{HasRule}
use Rattle.flu_worker.specs.Notes.{WorkerNote, taken_from, own_of, above_of}
use Rattle.flu_worker.specs.Rule.{HoldsNone, HoldsWhole, Holds}
use Rattle.flu_net.specs.declared.edges.Edge.{Edge}
use Rattle.flu_net.specs.declared.edges.Edge.TheVariants.{Home}
use Rattle.flu_net.specs.Blocking.{AllKeep}
use Rattle.flu_net.specs.Facts.{IsCounted}
use Rattle.flu_net.specs.LawsBelow.{LawsBelow}
use Rattle.flu_net.specs.Notes.{NetNote}
use Rattle.flu_net.specs.Rule.{Rule, Hangs, Lets, IsAtHome}
use Rattle.flu_net.proofs.Finals.{kid_has}
use Rattle.flu_net.proofs.Framing.{under}
use Rattle.flu_net.proofs.Hands.{out_open, shut_home}
use Rattle.flu_net.proofs.Placed.{Child, as_placed, child_counts, child_of, edge_there, from_child, in_tree, placed_at, worker_at}
use Rattle.flu_net.proofs.Touching.{home_edge}

-- ---- the owner of an itag that an event depends on is above the node or below it
below_by : (p : Program) (nodes : List Node) (w i v : ℕ) → owner_of p nodes (itag i) ≡ Some v → below p nodes w i ≡ is_within nodes w v
below_by p nodes w i v e = rw e refl

above_by : (p : Program) (nodes : List Node) (w i v : ℕ) → owner_of p nodes (itag i) ≡ Some v → is_within nodes v w ≡ true → not (v == w) ≡ true
    → above p nodes w i ≡ true
above_by p nodes w i v e inside other = rw e (both _ _ inside other)

-- an itag is a node's own, above it, or in its subtree
pub data IsNear (k : Content) (w j : ℕ) : Type 0 where
  IsOwn : own (job k) (nodes k) w j ≡ true → IsNear k w j
  IsAbove : above (job k) (nodes k) w j ≡ true → IsNear k w j
  IsBelow : below (job k) (nodes k) w j ≡ true → IsNear k w j

pub near : LawsBelow → (k : Content) (w i j : ℕ) → i < count_of_itags (job k) → j < count_of_itags (job k) → own (job k) (nodes k) w i ≡ true
    → itags_depend (job k) (itag i) (itag j) ≡ true → IsNear k w j
near laws k w i j known_i known_j mine depends =
    let o = laws.owned (job k) (nodes k) (itag j) (laws.settings k).valid known_j in
    by_owner o.owner o.is ((o.alone o.owner).1 o.is) (cases_Bool (are_related (nodes k) w o.owner))
  where
    by_owner : (u : ℕ) → owner_of (job k) (nodes k) (itag j) ≡ Some u → own (job k) (nodes k) u j ≡ true
        → (are_related (nodes k) w u ≡ true) ⊎ (are_related (nodes k) w u ≡ false) → IsNear k w j
    by_owner u is owns (inr apart) =
        absurd (not_both _ depends ((laws.settings k).valid.independent w u (itag i) (itag j) known_i known_j mine owns apart))
    by_owner u is owns (inl related) = elim (or_cases (is_within (nodes k) w u) _ related) [
      | inl inside ↦ IsBelow (below_by (job k) (nodes k) w j u is ∙ inside)
      | inr over ↦ elim (cases_eq u w) [
        | inl same ↦ IsOwn (sym (ap (λ v. own (job k) (nodes k) v j) same) ∙ owns)
        | inr other ↦ IsAbove (above_by (job k) (nodes k) w j u is over (ap not (ne_eqb u w other)))
      ]
    ]

-- ---- a hand that is not open has no lot
shut_none : (n : WorkerNote) → HasRule n → is_open n.hand ≡ false → HoldsNone n
shut_none n rule shut = by_holding n.holding (sym (ap is_open rule.shape) ∙ shut) rule.holds
  where
    by_holding : (h : Holding) → is_open (hand_of h) ≡ false → Holds n h → HoldsNone n
    by_holding NoLot e holds = holds
    by_holding (WholeLot lot) e holds = cc
    by_holding (LendingBoth a b) e holds = cc
    by_holding (LendingLeft a) e holds = cc
    by_holding (LendingRight b) e holds = cc
    by_holding BothOut e holds = cc
    by_holding (TakingLeft a) e holds = cc
    by_holding (TakingRight b) e holds = cc
    by_holding Gone e holds = cc

module _ (laws : LawsBelow) (n : NetNote) (rule : Rule n) (keep : AllKeep n.workers) where
  abbrev k : Content
  k = n.case

  -- what a node's own worker counted
  own_counted : (w : ℕ) (v : WorkerNote) (j l : ℕ) → slice_get n.workers w ≡ Some v → own (job k) (nodes k) w j ≡ true → l < slice_index v.counts j
      → IsCounted n j l
  own_counted w v j l at mine lt = record { owner = w; worker = v; at = at; owns = mine; there = lt }

  -- ---- upwards: while a worker has its lot, it counts of the itags above it what their owners count
  module _ (j l : ℕ) (known : j < count_of_itags (job k)) where
    -- a worker that is open and counts the event, which is of an itag above it
    abbrev pub CountsAbove : ℕ → WorkerNote → Type 0
    CountsAbove w v =
        slice_get n.workers w ≡ Some v → is_open v.hand ≡ true → above (job k) (nodes k) w j ≡ true → l < slice_index v.counts j → IsCounted n j l

    by_parent : (w : ℕ) (v : WorkerNote) → ((q : ℕ) (u : WorkerNote) → q < w → CountsAbove q u) → Child k w → CountsAbove w v
    by_parent w v further p at opened over lt =
        let u = worker_at laws n rule p.up p.there in
        let kid = at_side p.side p.left p.right in
        let here : slice_get n.workers kid ≡ Some v = sym (ap (slice_get n.workers) p.is) ∙ at in
        let part = kid_has laws n rule p.side p.up p.left p.right (placed_at k p.up u.0) v p.are u.1 here opened in
        let place = from_child laws n rule p.side p.up p.left p.right j p.are known (sym (ap (λ x. above (job k) (nodes k) x j) p.is) ∙ over) in
        let same : slice_index v.counts j ≡ slice_index u.0.counts j =
        child_counts laws n rule keep p.side p.up p.left p.right u.0 v p.are u.1 (here ∙ ap Some (as_placed laws n rule kid v here)) part.out opened part.held
        j known place in
        let less : l < slice_index u.0.counts j = subst (λ x. l < x) same lt in
        elim place [
          | inl mine ↦ own_counted p.up (placed_at k p.up u.0) j l u.1 mine less
          | inr higher ↦ further p.up (placed_at k p.up u.0) p.earlier u.1 (out_open p.side u.0.hand part.out) higher less
        ]

    above_counted : (fuel w : ℕ) (v : WorkerNote) → w < fuel → CountsAbove w v
    above_counted zero w v less at opened over lt = absurd (omega arith)
    above_counted (suc fuel) w v less at opened over lt =
        elim (cases_eq w 0) [
          | inl root ↦
              absurd (not_both _ (sym (ap (λ x. above (job k) (nodes k) x j) root) ∙ over) ((laws.of_root (setting_of k) j (laws.settings k) known).above))
          | inr other ↦
              by_parent w v (λ q u less_q. above_counted fuel q u (omega arith)) (child_of laws n rule w (omega arith) (in_tree laws n rule w v at)) at opened over lt
        ]

  -- ---- downwards: a part that is not out is as the child gave it, and a worker without its lot gave what its subtree counted
  module _ (w : ℕ) (v : WorkerNote) (at : slice_get n.workers w ≡ Some v) (s : Side) (l r : ℕ) (are : kids k w ≡ Some (l, r))
      (home : is_out s v.hand ≡ false) where
    pub record IsBack : Type 0 where
      pub child : WorkerNote
      pub found : slice_get n.workers (at_side s l r) ≡ Some child
      pub shut : is_open child.hand ≡ false
      pub given : child.given ≡ taken_from s v

    by_edge : (c : WorkerNote) → slice_get n.workers (at_side s l r) ≡ Some c → (e : Edge) → Lets s v e c → Hangs c e → IsBack
    by_edge c at_c e lets hangs =
        let is : e ≡ Home = home_edge laws s v e c home lets in
        let over : IsAtHome s v c = subst (λ x. Lets s v x c) is lets in
        record { child = c; found = at_c; shut = subst (λ x. Hangs c x) is hangs; given = over.given }

    pub is_back : IsBack
    is_back =
        let below_w = under laws k s w l r are in
        let c = worker_at laws n rule (at_side s l r) below_w.there in
        let e = edge_there laws n rule (at_side s l r) below_w.there in
        by_edge (placed_at k (at_side s l r) c.0) c.1 e.0 (rule.ties.lets s w l r v (placed_at k (at_side s l r) c.0) e.0 are at e.1 c.1)
        (rule.ties.hangs (at_side s l r) (placed_at k (at_side s l r) c.0) e.0 (let a = below_w.earlier in omega arith) c.1 e.1)

  module _ (j l : ℕ) (known : j < count_of_itags (job k)) where
    -- a worker that gave its lot, with the event of an itag of its subtree in it
    abbrev pub GaveFrom : ℕ → WorkerNote → Type 0
    GaveFrom q u = slice_get n.workers q ≡ Some u → is_open u.hand ≡ false → below (job k) (nodes k) q j ≡ true → l < slice_index u.given j → IsCounted n j l

    -- of counts that go on from what the children gave, where both parts are here
    module _ (w : ℕ) (v : WorkerNote) (at : slice_get n.workers w ≡ Some v) (upto : List ℕ) (grows : Grows v.case v.node v.taken_left v.taken_right upto)
        (here : (s : Side) → is_out s v.hand ≡ false) (mine : own (job k) (nodes k) w j ≡ true → IsCounted n j l)
        (deeper : (q : ℕ) (u : WorkerNote) → w < q → GaveFrom q u) (lt : l < slice_index upto j) where
      by_side : (s : Side) (a b : ℕ) → kids k w ≡ Some (a, b) → below (job k) (nodes k) (at_side s a b) j ≡ true
          → slice_index upto j ≡ slice_index (taken_from s v) j → IsCounted n j l
      by_side s a b are inside same =
          let back = is_back w v at s a b are (here s) in
          deeper (at_side s a b) back.child (under laws k s w a b are).earlier back.found back.shut inside
          (subst (λ x. l < x) (same ∙ sym (ap (λ (c : List ℕ). slice_index c j) back.given)) lt)

      by_kids : (o : Option (ℕ × ℕ)) → kids k w ≡ o → below (job k) (nodes k) w j ≡ true → IsCounted n j l
      by_kids None leaf inside = mine (sym ((laws.of_nodes (setting_of k) w j (laws.settings k) known).leaf leaf) ∙ inside)
      by_kids (Some (a, b)) are inside =
          let p = rule.ties.placed w v at in
          let kids_v : kids v.case v.node ≡ Some (a, b) = (λ i. kids (p.case i) (p.node i)) ∙ are in
          elim (laws.of_kids (setting_of k) w a b j (laws.settings k) are known).parts [
            | InNone not_in x y z ↦ absurd (not_both _ inside not_in)
            | InFirst in_w x y z ↦ mine x
            | InSecond in_w x y z ↦
                by_side Left a b are y ((grows.left a b kids_v).inside j ((λ i. below (job (p.case i)) (nodes (p.case i)) a j) ∙ y))
            | InThird in_w x y z ↦
                by_side Right a b are z ((grows.right a b kids_v).inside j ((λ i. below (job (p.case i)) (nodes (p.case i)) b j) ∙ z))
          ]

      pub subtree_counted : below (job k) (nodes k) w j ≡ true → IsCounted n j l
      subtree_counted inside = by_kids (kids k w) refl inside

    own_at : (w : ℕ) (v : WorkerNote) → slice_get n.workers w ≡ Some v → own (job k) (nodes k) w j ≡ true → own_of v j ≡ true
    own_at w v at own_w = let p = rule.ties.placed w v at in (λ i. own (job (p.case i)) (nodes (p.case i)) (p.node i) j) ∙ own_w

    below_counted : (fuel w : ℕ) (v : WorkerNote) → length (nodes k) < fuel + w → GaveFrom w v
    below_counted zero w v less at shut inside lt = absurd (let a = in_tree laws n rule w v at in omega arith)
    below_counted (suc fuel) w v less at shut inside lt =
        let none = shut_none v (keep w v at) shut in
        subtree_counted w v at v.given none.grows (λ s. shut_home s v.hand shut)
        (λ own_w. own_counted w v j l at own_w (subst (λ x. l < x) (sym (none.mine j (own_at w v at own_w))) lt))
        (λ q u later. below_counted fuel q u (omega arith)) lt inside

    -- ---- what a whole lot counts
    module _ (w : ℕ) (v : WorkerNote) (at : slice_get n.workers w ≡ Some v) (lot : Lot) (here : v.holding ≡ WholeLot lot) where
      whole : HoldsWhole v lot
      whole = subst (λ (h : Holding). Holds v h) here (keep w v at).holds

      hand_is : v.hand ≡ hand_of (WholeLot lot)
      hand_is = (keep w v at).shape ∙ ap hand_of here

      above_at : above (job k) (nodes k) w j ≡ true → above_of v j ≡ true
      above_at over = let p = rule.ties.placed w v at in (λ i. above (job (p.case i)) (nodes (p.case i)) (p.node i) j) ∙ over

      pub lot_counted : IsNear k w j → l < slice_index lot.upto j → IsCounted n j l
      lot_counted (IsOwn own_w) lt = own_counted w v j l at own_w (subst (λ x. l < x) (sym (whole.agrees.mine j (own_at w v at own_w))) lt)
      lot_counted (IsAbove over) lt =
          above_counted j l known (suc w) w v (omega arith) at (ap is_open hand_is) over
          (subst (λ x. l < x) (sym (whole.agrees.over j (above_at over))) lt)
      lot_counted (IsBelow inside) lt =
          subtree_counted w v at lot.upto whole.grows (λ s. ap (is_out s) hand_is)
          (λ own_w. own_counted w v j l at own_w (subst (λ x. l < x) (sym (whole.agrees.mine j (own_at w v at own_w))) lt))
          (λ q u later. below_counted (suc (length (nodes k))) q u (omega arith)) lt inside
