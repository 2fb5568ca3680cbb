-- The workers and edges of a net by their nodes, and what it means that no step is enabled.
use Rattle.std.proofs.Common.{◌≡◌, ◌⊎◌, ◌<◌, ◌≤◌, ℕ, true, false, Some, [], length, inl, inr, sym, ap, ◌∙◌, arith}
use Rattle.std.specs.Prelude.{◌&&◌, ◌||◌, not, is_some, slice_get, slice_index, slice_index_or}
use Rattle.std.proofs.lemmas.Bool.{cases_lt, or_cases, or_left, or_right}
use Rattle.std.proofs.lemmas.Option.{slice_get_within}
use Rattle.flu_lemmas.proofs.Places.{slice_get-there}
use Rattle.flu_lemmas.proofs.Tests.{both, lt_true, not_both}
use Rattle.flu_model.specs.Itags.{count_of_itags}
use Rattle.flu_model.specs.Listed.{listed}
use Rattle.flu_fork.specs.declared.content.Content.{Content}
use Rattle.flu_fork.specs.declared.lots.Ask.{Ask}
use Rattle.flu_fork.specs.declared.lots.Lot.{Lot}
use Rattle.flu_fork.specs.Classes.{own, above}
use Rattle.flu_fork.specs.Kin.{IsOfKids}
use Rattle.flu_fork.specs.Lots.{job, nodes, kids, setting_of}
use Rattle.flu_fork.specs.Serving.{LotCounts}
use Rattle.flu_worker.specs.declared.hand.Side.{Side}
use Rattle.flu_worker.specs.declared.hand.Side.TheVariants.{Left, Right}
use Rattle.flu_worker.specs.Choosing.{may_give, next_of, target_of}
use Rattle.flu_worker.specs.Hands.{at_side, is_lost, is_open, is_out, may_lend, may_take}
use Rattle.flu_worker.specs.Notes.{WorkerNote, lent_to}
use Rattle.flu_net.specs.declared.edges.Edge.{Edge}
use Rattle.flu_net.specs.declared.edges.Edge.TheVariants.{Lent, Held, Asked, Given}
use Rattle.flu_net.specs.declared.steps.Step.{Step}
use Rattle.flu_net.specs.declared.steps.Step.TheVariants.{Arrive, Handle, Ask as AskStep, Take, Give, Hold, Lend}
use Rattle.flu_net.specs.Blocking.{AllKeep, IsQuiet}
use Rattle.flu_net.specs.Enabled.{aims, by_step, gives_for, if_there, is_given, is_held, is_lent}
use Rattle.flu_net.specs.LawsBelow.{LawsBelow}
use Rattle.flu_net.specs.Notes.{NetNote, asked_of, edge_at, side_of}
use Rattle.flu_net.specs.Rule.{Rule}

-- a worker at a node of the case
abbrev pub placed_at : Content → ℕ → WorkerNote → WorkerNote
placed_at k w u = record u { case = k; node = w }

-- a node that is not the root, as a child of its parent
pub record Child (k : Content) (v : ℕ) : Type 0 where
  pub up : ℕ
  pub side : Side
  pub left : ℕ
  pub right : ℕ
  pub are : kids k up ≡ Some (left, right)
  pub is : v ≡ at_side side left right
  pub earlier : up < v
  pub there : up < length (nodes k)

module _ (laws : LawsBelow) (n : NetNote) (rule : Rule n) where
  pub as_placed : (w : ℕ) (v : WorkerNote) → slice_get n.workers w ≡ Some v → v ≡ placed_at n.case w v
  as_placed w v at = let p = rule.ties.placed w v at in λ i. record v { case = p.case i; node = p.node i }

  pub worker_at : (w : ℕ) → w < length (nodes n.case) → (u : WorkerNote) × (slice_get n.workers w ≡ Some (placed_at n.case w u))
  worker_at w lt =
      let long = rule.ties.workers_each in
      let found = slice_get-there n.workers w (omega arith) in
      (found.0, found.1 ∙ ap Some (as_placed w found.0 found.1))

  pub edge_there : (w : ℕ) → w < length (nodes n.case) → (e : Edge) × (slice_get n.edges w ≡ Some e)
  edge_there w lt = let long = rule.ties.edges_each in slice_get-there n.edges w (omega arith)

  pub in_tree : (w : ℕ) (v : WorkerNote) → slice_get n.workers w ≡ Some v → w < length (nodes n.case)
  in_tree w v at = let lt = slice_get_within n.workers w v at in let long = rule.ties.workers_each in omega arith

  pub sound_at : (w : ℕ) (v : WorkerNote) → slice_get n.workers w ≡ Some v → is_lost v.hand ≡ false
  sound_at w v at = let e = edge_there w (in_tree w v at) in (rule.stands w v e.0 at e.1).sound

  -- ---- parents
  pub child_of : (v : ℕ) → 0 < v → v < length (nodes n.case) → Child n.case v
  child_of v some lt =
      let p = (laws.parents (nodes n.case) (laws.settings n.case).one_tree).above v some lt in
      elim p.one [
        | inl left ↦ record {
          up = p.parent;
          side = Left;
          left = p.kids.0;
          right = p.kids.1;
          are = p.are;
          is = left;
          earlier = p.under.earlier;
          there = (let a = p.under.earlier in let b = p.under.there in omega arith);
        }
        | inr right ↦ record {
          up = p.parent;
          side = Right;
          left = p.kids.0;
          right = p.kids.1;
          are = p.are;
          is = right;
          earlier = p.under.earlier;
          there = (let a = p.under.earlier in let b = p.under.there in omega arith);
        }
      ]

  of_kids : (w l r j : ℕ) → kids n.case w ≡ Some (l, r) → j < count_of_itags (job n.case) → IsOfKids (setting_of n.case) w l r j
  of_kids w l r j are lt = laws.of_kids (setting_of n.case) w l r j (laws.settings n.case) are lt

  -- above a child are the itags of its parent and those above this one
  above_is : (s : Side) (w l r j : ℕ) → kids n.case w ≡ Some (l, r) → j < count_of_itags (job n.case)
      → above (job n.case) (nodes n.case) (at_side s l r) j ≡ (own (job n.case) (nodes n.case) w j || above (job n.case) (nodes n.case) w j)
  above_is Left w l r j are lt = (of_kids w l r j are lt).above_left
  above_is Right w l r j are lt = (of_kids w l r j are lt).above_right

  pub from_child : (s : Side) (w l r j : ℕ) → kids n.case w ≡ Some (l, r) → j < count_of_itags (job n.case)
      → above (job n.case) (nodes n.case) (at_side s l r) j ≡ true
      → (own (job n.case) (nodes n.case) w j ≡ true) ⊎ (above (job n.case) (nodes n.case) w j ≡ true)
  from_child s w l r j are lt over = or_cases _ _ (sym (above_is s w l r j are lt) ∙ over)

  pub to_child : (s : Side) (w l r j : ℕ) → kids n.case w ≡ Some (l, r) → j < count_of_itags (job n.case)
      → (own (job n.case) (nodes n.case) w j ≡ true) ⊎ (above (job n.case) (nodes n.case) w j ≡ true)
      → above (job n.case) (nodes n.case) (at_side s l r) j ≡ true
  to_child s w l r j are lt place = above_is s w l r j are lt ∙ elim place [
    | inl mine ↦ or_left _ _ mine
    | inr over ↦ or_right (own (job n.case) (nodes n.case) w j) _ over
  ]

  -- ---- what a child has counted of the itags above it, while it has its part, the worker above has counted too
  module _ (keep : AllKeep n.workers) where
    pub child_counts : (s : Side) (w l r : ℕ) (u c : WorkerNote) → kids n.case w ≡ Some (l, r) → slice_get n.workers w ≡ Some (placed_at n.case w u)
        → slice_get n.workers (at_side s l r) ≡ Some (placed_at n.case (at_side s l r) c) → is_out s u.hand ≡ true → is_open c.hand ≡ true
        → c.held ≡ lent_to s (placed_at n.case w u)
        → (j : ℕ) → j < count_of_itags (job n.case) → (own (job n.case) (nodes n.case) w j ≡ true) ⊎ (above (job n.case) (nodes n.case) w j ≡ true)
        → slice_index c.counts j ≡ slice_index u.counts j
    child_counts s w l r u c are up down out opened held j lt place =
        (keep (at_side s l r) (placed_at n.case (at_side s l r) c) down).held j opened
        (sound_at (at_side s l r) (placed_at n.case (at_side s l r) c) down) lt (to_child s w l r j are lt place)
        ∙ ap (λ (x : LotCounts). slice_index x.upto j) held
        ∙ sym ((keep w (placed_at n.case w u) up).lent s j out place)

  -- ---- where no step is enabled
  module _ (gone : n.gone ≡ false) (quiet : IsQuiet n) where
    never : (s : Step) → by_step n s ≡ true → ⊥
    never s e = not_both (by_step n s) e (sym (ap (λ g. not g && by_step n s) gone) ∙ quiet s)

    pub all_seen : (j : ℕ) → length (slice_index_or (listed n.case.streams) j []) ≤ slice_index n.seen j
    all_seen j =
        elim (cases_lt (slice_index n.seen j) (length (slice_index_or (listed n.case.streams) j []))) [
          | inl lt ↦ absurd (never (Arrive (record { 0 = j })) (lt_true _ _ lt))
          | inr ge ↦ ge
        ]

    pub no_handle : (w : ℕ) (v : WorkerNote) → slice_get n.workers w ≡ Some v → is_some (next_of v) ≡ true → ⊥
    no_handle w v at e = never (Handle w) (ap (if_there (λ v. is_some (next_of v))) at ∙ e)

    pub no_give : (w : ℕ) (v : WorkerNote) (y : Ask) → slice_get n.workers w ≡ Some v → slice_get n.edges w ≡ Some (Asked y) → may_give v y ≡ true → ⊥
    no_give w v y at edge e = never (Give w) (ap (gives_for n w) edge ∙ ap (if_there (λ v. may_give v y)) at ∙ e)

    pub no_hold : (w : ℕ) (lot : Lot) → slice_get n.edges w ≡ Some (Lent lot) → ⊥
    no_hold w lot edge = never (Hold w) (ap is_lent edge)

    module _ (s : Side) (w l r : ℕ) (are : kids n.case w ≡ Some (l, r)) where
      pub no_lend : (v : WorkerNote) → slice_get n.workers w ≡ Some v → may_lend s v.hand ≡ true → ⊥
      no_lend v at e = never (Lend w s) (both _ _ (ap (λ o. is_some (side_of s o)) are) (ap (if_there (λ v. may_lend s v.hand)) at ∙ e))

      pub no_ask : (v : WorkerNote) → slice_get n.workers w ≡ Some v → slice_get n.edges (at_side s l r) ≡ Some Held → may_take s v.hand ≡ true
          → is_some (target_of v (asked_of n w)) ≡ true → ⊥
      no_ask v at edge may target =
          never (AskStep w s) (both _ _ (ap (λ o. is_held (edge_at n.edges (side_of s o))) are ∙ ap is_held edge) (ap (aims n w s) at ∙ both _ _ may target))

      pub no_take : (lot : Lot) → slice_get n.edges (at_side s l r) ≡ Some (Given lot) → ⊥
      no_take lot edge = never (Take w s) (ap (λ o. is_given (edge_at n.edges (side_of s o))) are ∙ ap is_given edge)
