-- What a step that is enabled may rely on.
use Rattle.std.proofs.Common.{◌≡◌, ◌<◌, ℕ, Bool, Option, Some, None, List, length, get_or, set, true, false, refl, sym, ap, subst, ◌∙◌, arith}
use Rattle.std.specs.Prelude.{slice_get, slice_index, is_some, IfSome, IsSome}
use Rattle.std.proofs.lemmas.Option.{slice_get_read, slice_get_within, same_Some}
use Rattle.flu_lemmas.proofs.Places.{slice_get-there}
use Rattle.flu_lemmas.proofs.Replaced.{slice_get-set_same}
use Rattle.flu_lemmas.proofs.Tests.{not_both}
use Rattle.flu_model.specs.declared.plans.Node.{Node}
use Rattle.flu_deps.specs.Owned.{kids_of}
use Rattle.flu_fork.specs.declared.content.Content.{Content}
use Rattle.flu_fork.specs.declared.lots.Ask.{Ask}
use Rattle.flu_fork.specs.declared.lots.Lot.{Lot}
use Rattle.flu_fork.specs.Lots.{nodes, kids, LotFits}
use Rattle.flu_fork.specs.Serving.{AsksAbove, GrownFrom, Served}
use Rattle.flu_worker.specs.declared.hand.Side.{Side}
use Rattle.flu_worker.specs.Choosing.{may_give}
use Rattle.flu_worker.specs.Hands.{at_side, is_open, may_lend, may_take}
use Rattle.flu_worker.specs.Keeping.{HasRule}
use Rattle.flu_worker.specs.Notes.{WorkerNote, lent_to}
use Rattle.flu_net.specs.declared.edges.Edge.{Edge}
use Rattle.flu_net.specs.declared.edges.Edge.TheVariants.{Home, Lent, Held, Asked, Given}
use Rattle.flu_net.specs.Enabled.{gives_for, if_there, is_held, may_give_up}
use Rattle.flu_net.specs.LawsBelow.{LawsBelow}
use Rattle.flu_net.specs.Notes.{NetNote, side_of, kid_of, edge_at, asked_of, asked_over}
use Rattle.flu_net.specs.Rule.{Hangs, Lets, Rule}
use Rattle.flu_net.proofs.Framing.{under}
use Rattle.flu_net.proofs.Stepping.{hangs_now}
use Rattle.flu_net.proofs.Touching.{home_edge}

-- ---- what is on an edge
pub asked_edge : (o : Option Edge) (y : Ask) → asked_over o ≡ Some y → o ≡ Some (Asked y)
asked_edge None y e = cc
asked_edge (Some Home) y e = cc
asked_edge (Some (Lent lot)) y e = cc
asked_edge (Some Held) y e = cc
asked_edge (Some (Asked x)) y e = ap (λ z. Some (Asked z)) (same_Some x y e)
asked_edge (Some (Given lot)) y e = cc

pub held_edge : (es : List Edge) (o : Option ℕ) (v : ℕ) → o ≡ Some v → is_held (edge_at es o) ≡ true → slice_get es v ≡ Some Held
held_edge es o v e held = is (slice_get es v) (ap (λ x. is_held (edge_at es x)) (sym e) ∙ held)
  where
    is : (x : Option Edge) → is_held x ≡ true → x ≡ Some Held
    is None h = cc
    is (Some Home) h = cc
    is (Some (Lent lot)) h = cc
    is (Some Held) h = refl
    is (Some (Asked y)) h = cc
    is (Some (Given lot)) h = cc

pub no_edge : (test : Option Edge → Bool) (es : List Edge) (o : Option ℕ) → test None ≡ false → test (edge_at es o) ≡ true → is_some o ≡ true
no_edge test es None none h = absurd (not_both (test None) h none)
no_edge test es (Some v) none h = refl

-- ---- children
pub kid_pair : (k : Content) (w v : ℕ) (s : Side) → kid_of k w s ≡ Some v → (l : ℕ) × (r : ℕ) × (kids k w ≡ Some (l, r)) × (v ≡ at_side s l r)
kid_pair k w v s e = pair (kids k w) refl e
  where
    pair : (o : Option (ℕ × ℕ)) → kids k w ≡ o → side_of s o ≡ Some v → (l : ℕ) × (r : ℕ) × (kids k w ≡ Some (l, r)) × (v ≡ at_side s l r)
    pair None is e = cc
    pair (Some both) is e = (both.0, both.1, is, sym (same_Some (at_side s both.0 both.1) v e))

-- the worker that took the place of another keeps its rule
pub kept_at : (ws : List WorkerNote) (w : ℕ) (is : WorkerNote) → w < length ws → ((v : WorkerNote) → slice_get (set ws w is) w ≡ Some v → HasRule v)
    → HasRule is
kept_at ws w is lt keeps = keeps is (slice_get-set_same ws w is lt)

pub kid_above : (k : Content) (w v : ℕ) (s : Side) → kid_of k w s ≡ Some v → w < length (nodes k)
kid_above k w v s e = let p = kid_pair k w v s e in some_node (slice_get (nodes k) w) refl p.2
  where
    some_node : {p : ℕ × ℕ} (o : Option Node) → slice_get (nodes k) w ≡ o → kids_of o ≡ Some p → w < length (nodes k)
    some_node None is e = cc
    some_node (Some node) is e = slice_get_within (nodes k) w node is

module _ (laws : LawsBelow) (old : NetNote) (rule : Rule old) (w : ℕ) (n : WorkerNote) (at : slice_get old.workers w ≡ Some n) where
  pub case_of : n.case ≡ old.case
  case_of = (rule.ties.placed w n at).case

  node_of : n.node ≡ w
  node_of = (rule.ties.placed w n at).node

  kids_here : (l r : ℕ) → kids n.case n.node ≡ Some (l, r) → kids old.case w ≡ Some (l, r)
  kids_here l r e = (λ i. kids (sym case_of i) (sym node_of i)) ∙ e

  -- ---- hold
  pub ready_shut : (lot : Lot) → slice_get old.edges w ≡ Some (Lent lot) → is_open n.hand ≡ false
  ready_shut lot e = (hangs_now laws old.case old.seen old.workers old.edges rule.ties w n n at (Lent lot) e (λ x. cc)).shut

  pub ready_fits : (lot : Lot) → slice_get old.edges w ≡ Some (Lent lot) → LotFits n.case n.node lot
  ready_fits lot e = (hangs_now laws old.case old.seen old.workers old.edges rule.ties w n n at (Lent lot) e (λ x. cc)).fits

  pub ready_grown : (lot : Lot) → slice_get old.edges w ≡ Some (Lent lot) → GrownFrom n.case n.node n.given lot.upto
  ready_grown lot e = (hangs_now laws old.case old.seen old.workers old.edges rule.ties w n n at (Lent lot) e (λ x. cc)).grown

  -- ---- an ask
  ask_here : (y : Ask) → asked_over (slice_get old.edges w) ≡ Some y → Hangs n (Asked y)
  ask_here y e =
      hangs_now laws old.case old.seen old.workers old.edges rule.ties w n n at (Asked y) (asked_edge (slice_get old.edges w) y e) (λ x. cc)

  pub asks_above : (asked : Option Ask) → asked ≡ asked_over (slice_get old.edges w) → IfSome asked (λ y. AsksAbove n.case n.node y)
  asks_above None e = tt
  asks_above (Some y) e = (ask_here y (sym e)).above

  pub asks_next : (asked : Option Ask) → asked ≡ asked_over (slice_get old.edges w) → IfSome asked (λ y. y.index ≡ slice_index n.held.upto y.itag.0)
  asks_next None e = tt
  asks_next (Some y) e = (ask_here y (sym e)).next

  -- ---- the edge to a child
  module _ (v : ℕ) (s : Side) (kid : kid_of old.case w s ≡ Some v) where
    abbrev left : ℕ
    left = (kid_pair old.case w v s kid).0

    abbrev right : ℕ
    right = (kid_pair old.case w v s kid).1

    are : kids old.case w ≡ Some (left, right)
    are = (kid_pair old.case w v s kid).2

    is_kid : v ≡ at_side s left right
    is_kid = (kid_pair old.case w v s kid).3

    pub kid_there : v < length old.edges
    kid_there =
        let in_tree = (under laws old.case s w left right are).there in
        let long = rule.ties.edges_each in
        let is = is_kid in
        omega arith

    child : (c : WorkerNote) × (slice_get old.workers v ≡ Some c)
    child = slice_get-there old.workers v (let a = kid_there in let b = rule.ties.edges_each in let d = rule.ties.workers_each in omega arith)

    over : (e : Edge) → slice_get old.edges v ≡ Some e → Lets s n e child.0
    over e is =
        rule.ties.lets s w left right n child.0 e are at (sym (ap (slice_get old.edges) is_kid) ∙ is) (sym (ap (slice_get old.workers) is_kid) ∙ child.1)

    hung : (e : Edge) → slice_get old.edges v ≡ Some e → Hangs child.0 e
    hung e is =
        let later = (under laws old.case s w left right are).earlier in
        let q = is_kid in
        rule.ties.hangs v child.0 e (omega arith) child.1 is

    -- a part to lend has its edge at home
    pub lend_was : may_lend s n.hand ≡ true → slice_get old.edges v ≡ Some Home
    lend_was may =
        let e = slice_get-there old.edges v kid_there in
        e.1 ∙ ap Some (home_edge laws s n e.0 child.0 (laws.lend_turns s n.hand may).here (over e.0 e.1))

    -- take
    module _ (lot : Lot) (given : slice_get old.edges v ≡ Some (Given lot)) where
      pub take_may : may_take s n.hand ≡ true
      take_may = (over (Given lot) given).recalled.take

      pub take_kept : IsSome n.kept
      take_kept = ap is_some (over (Given lot) given).recalled.kept

      place_of : (c : WorkerNote) → slice_get old.workers v ≡ Some c → (n.case ≡ c.case) × (v ≡ c.node)
      place_of c up = let p = rule.ties.placed v c up in (case_of ∙ sym p.case, sym p.node)

      same_kid : (l r : ℕ) → kids n.case n.node ≡ Some (l, r) → v ≡ at_side s l r
      same_kid l r e =
          let pair : (left, right) ≡ (l, r) = same_Some (left, right) (l, r) (sym are ∙ kids_here l r e) in
          is_kid ∙ λ i. at_side s (pair i).0 (pair i).1

      at_child : (P : Content → ℕ → Type 0) (l r : ℕ) → kids n.case n.node ≡ Some (l, r) → P child.0.case child.0.node → P n.case (at_side s l r)
      at_child P l r e p =
          let place = place_of child.0 child.1 in
          subst (λ (x : ℕ). P n.case x) (sym place.1 ∙ same_kid l r e) (subst (λ (j : Content). P j child.0.node) (sym place.0) p)

      pub take_fits : (l r : ℕ) → kids n.case n.node ≡ Some (l, r) → LotFits n.case (at_side s l r) lot
      take_fits l r e = at_child (λ j x. LotFits j x lot) l r e (hung (Given lot) given).fits

      pub take_served : (l r : ℕ) (y : Ask) → kids n.case n.node ≡ Some (l, r) → n.kept ≡ Some y → Served n.case (at_side s l r) (lent_to s n) y lot
      take_served l r y e kept =
          let o = over (Given lot) given in
          at_child (λ j x. Served j x (lent_to s n) y lot) l r e
          (subst (λ (z : Ask). Served child.0.case child.0.node (lent_to s n) z lot) (same_Some o.target y (sym o.recalled.kept ∙ kept)) o.served)

-- ---- who is there
pub at_index : (ws : List WorkerNote) (w : ℕ) (n : WorkerNote) → w < length ws → n ≡ get_or ws w n → slice_get ws w ≡ Some n
at_index ws w n lt is = slice_get_read ws (length ws) w n refl lt is

pub edge_lt : (v : NetNote) → Rule v → (w : ℕ) (e : Edge) → slice_get v.edges w ≡ Some e → w < length v.workers
edge_lt v rule w e is =
    let a = slice_get_within v.edges w e is in
    let b = rule.ties.edges_each in
    let c = rule.ties.workers_each in
    omega arith

pub kid_lt : (v : NetNote) → Rule v → (w kid : ℕ) (s : Side) → kid_of v.case w s ≡ Some kid → w < length v.workers
kid_lt v rule w kid s is = let a = kid_above v.case w kid s is in let b = rule.ties.workers_each in omega arith

pub there_lt : (test : WorkerNote → Bool) (ws : List WorkerNote) (w : ℕ) → if_there test (slice_get ws w) ≡ true → w < length ws
there_lt test ws w may = found (slice_get ws w) refl may
  where
    found : (o : Option WorkerNote) → slice_get ws w ≡ o → if_there test o ≡ true → w < length ws
    found None is e = cc
    found (Some n) is e = slice_get_within ws w n is

pub there_test : (test : WorkerNote → Bool) (o : Option WorkerNote) (n : WorkerNote) → o ≡ Some n → if_there test o ≡ true → test n ≡ true
there_test test o n at may = sym (ap (if_there test) at) ∙ may

pub give_may : (v : NetNote) (w : ℕ) (y : Ask) (n : WorkerNote) → slice_get v.edges w ≡ Some (Asked y) → slice_get v.workers w ≡ Some n
    → may_give_up v w ≡ true → may_give n y ≡ true
give_may v w y n asked at may =
    there_test (λ x. may_give x y) (slice_get v.workers w) n at (sym (ap (gives_for v w) asked) ∙ may)

pub gives_is : (v : NetNote) (w : ℕ) (y : Ask) → asked_of v w ≡ Some y → if_there (λ x. may_give x y) (slice_get v.workers w) ≡ may_give_up v w
gives_is v w y asked = sym (ap (gives_for v w) (asked_edge (slice_get v.edges w) y asked))

pub gives_none : (v : NetNote) (w : ℕ) → asked_of v w ≡ None → false ≡ may_give_up v w
gives_none v w none = go (slice_get v.edges w) none
  where
    go : (o : Option Edge) → asked_over o ≡ None → false ≡ gives_for v w o
    go None e = refl
    go (Some Home) e = refl
    go (Some (Lent lot)) e = refl
    go (Some Held) e = refl
    go (Some (Asked y)) e = cc
    go (Some (Given lot)) e = refl
