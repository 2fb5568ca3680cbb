-- Where the net is final, no step is enabled.
use Rattle.std.proofs.Common.{◌≡◌, ◌<◌, ℕ, Bool, true, false, cond, Option, Some, None, length, inl, inr, refl, sym, ap, ◌∙◌, arith}
use Rattle.std.specs.Prelude.{◌&&◌, is_none, is_some, slice_get}
use Rattle.std.proofs.lemmas.Option.{slice_get_within}
use Rattle.flu_lemmas.proofs.Places.{slice_get-within}
use Rattle.flu_lemmas.proofs.Tests.{and_left, and_right, false_if_not, not_both, true_lt}
use Rattle.flu_lemmas.proofs.Options.{none_or_some}
use Rattle.flu_model.specs.declared.events.Event.{Event}
use Rattle.flu_fork.specs.declared.lots.Ask.{Ask}
use Rattle.flu_fork.specs.Lots.{nodes, kids, setting_of}
use Rattle.flu_fork.specs.Settings.{events_at}
use Rattle.flu_worker.specs.declared.hand.Side.{Side}
use Rattle.flu_worker.specs.Choosing.{sight, ask_for, first_some, if_own, if_ready, if_serves, least_ready, new_target, next_of, target_of}
use Rattle.flu_worker.specs.Hands.{at_side, is_down, is_whole, may_lend, may_take}
use Rattle.flu_worker.specs.Laws.{HasNoNext}
use Rattle.flu_worker.specs.Notes.{WorkerNote}
use Rattle.flu_worker.specs.Ties.{IsAsked}
use Rattle.flu_net.specs.declared.edges.Edge.{Edge}
use Rattle.flu_net.specs.declared.edges.Edge.TheVariants.{Home, Lent, Held, Asked, Given}
use Rattle.flu_net.specs.declared.steps.Step.{Step}
use Rattle.flu_net.specs.declared.steps.Step.TheVariants.{Arrive, Handle, Ask as AskStep, Take, Give, Hold, Lend}
use Rattle.flu_net.specs.Blocking.{AllKeep, IsQuiet}
use Rattle.flu_net.specs.Enabled.{by_step, gives_for, if_there, is_given, is_lent}
use Rattle.flu_net.specs.Final.{IsFinal}
use Rattle.flu_net.specs.LawsBelow.{LawsBelow}
use Rattle.flu_net.specs.Notes.{NetNote, asked_of, asked_over, edge_at, side_of}
use Rattle.flu_net.specs.Rule.{Rule}
use Rattle.flu_net.proofs.Framing.{under}
use Rattle.flu_net.proofs.Finals.{all_open, part_out}
use Rattle.flu_net.proofs.Placed.{placed_at, sound_at, worker_at}
use Rattle.flu_net.proofs.Stepping.{hangs_now}

-- nothing is chosen
none_of : (a b : Bool) (x y : Option Ask) → x ≡ None → y ≡ None → cond a (cond b x y) None ≡ None
none_of true true x y ex ey = ex
none_of true false x y ex ey = ey
none_of false b x y ex ey = refl

none_new : (a : Bool) (x : Option Ask) → x ≡ None → cond a x None ≡ None
none_new true x e = e
none_new false x e = refl

module _ (laws : LawsBelow) (n : NetNote) (rule : Rule n) (keep : AllKeep n.workers) (final : IsFinal n) where
  -- ---- one worker
  module _ (w : ℕ) (u : WorkerNote) (at : slice_get n.workers w ≡ Some (placed_at n.case w u)) where
    abbrev v : WorkerNote
    v = placed_at n.case w u

    no_target : (y : Ask) → u.kept ≡ Some y → ⊥
    no_target y kept =
        let t = (keep w v at).target y kept in
        let next = t.next in
        let less = slice_get_within (events_at (setting_of n.case) y.itag.0) y.index t.event t.is in
        elim t.place [
          | inl mine ↦ (let all = final.own w v at y.itag.0 mine in omega arith)
          | inr over ↦ (let all = final.above w v at y.itag.0 over in omega arith)
        ]

    kept_none : u.kept ≡ None
    kept_none = by_kept u.kept refl
      where
        by_kept : (o : Option Ask) → u.kept ≡ o → o ≡ None
        by_kept None e = refl
        by_kept (Some y) e = absurd (no_target y e)

    not_asked : (y : Ask) → slice_get n.edges w ≡ Some (Asked y) → ⊥
    not_asked y edge =
        let hung : IsAsked v y = hangs_now laws n.case n.seen n.workers n.edges rule.ties w v v at (Asked y) edge (λ e. cc) in
        let held = (keep w v at).held y.itag.0 hung.opened (sound_at laws n rule w v at) hung.above.known hung.above.above in
        let all = final.above w v at y.itag.0 hung.above.above in
        let less = hung.above.there in
        let next = hung.next in
        omega arith

    none_asked : asked_of n w ≡ None
    none_asked = by_edge (slice_get n.edges w) refl
      where
        by_edge : (o : Option Edge) → slice_get n.edges w ≡ o → asked_over o ≡ None
        by_edge None e = refl
        by_edge (Some Home) e = refl
        by_edge (Some (Lent lot)) e = refl
        by_edge (Some Held) e = refl
        by_edge (Some (Asked y)) e = absurd (not_asked y e)
        by_edge (Some (Given lot)) e = refl

    nothing : HasNoNext (sight v)
    nothing = laws.nothing_next (sight v) (final.own w v at)

    none_next : next_of v ≡ None
    none_next =
        none_of (is_whole u.hand) (is_none (kids n.case w)) (ask_for (sight v) (least_ready (sight v))) (if_own (sight v) u.kept)
        (ap (ask_for (sight v)) nothing.ready) (ap (if_own (sight v)) kept_none)

    none_aimed : target_of v (asked_of n w) ≡ None
    none_aimed =
        ap (λ o. first_some o (cond (is_down u.hand) (new_target (sight v) (asked_of n w)) None)) kept_none
        ∙ none_new (is_down u.hand) (new_target (sight v) (asked_of n w))
        (ap (λ (o : Option Event). first_some (ask_for (sight v) (if_ready (sight v) o)) (if_serves (sight v) (asked_of n w))) nothing.next
        ∙ ap (if_serves (sight v)) none_asked)

  -- ---- the steps
  -- a worker that passes a test is there
  there : (test : WorkerNote → Bool) (w : ℕ) → if_there test (slice_get n.workers w) ≡ true → w < length (nodes n.case)
  there test w e = let lt = slice_get-within (if_there test) refl n.workers w e in let long = rule.ties.workers_each in omega arith

  no_handle : (w : ℕ) → by_step n (Handle w) ≡ true → ⊥
  no_handle w e =
      let u = worker_at laws n rule w (there (λ v. is_some (next_of v)) w e) in
      none_or_some (next_of (placed_at n.case w u.0)) (none_next w u.0 u.1) (sym (ap (if_there (λ v. is_some (next_of v))) u.1) ∙ e)

  no_ask : (w : ℕ) (s : Side) → by_step n (AskStep w s) ≡ true → ⊥
  no_ask w s e =
      let u = worker_at laws n rule w (there (λ v. may_take s v.hand && is_some (target_of v (asked_of n w))) w (and_right _ _ e)) in
      none_or_some (target_of (placed_at n.case w u.0) (asked_of n w)) (none_aimed w u.0 u.1)
      (and_right (may_take s u.0.hand) _ (sym (ap (if_there (λ v. may_take s v.hand && is_some (target_of v (asked_of n w)))) u.1) ∙ and_right _ _ e))

  no_take : (w : ℕ) (s : Side) → by_step n (Take w s) ≡ true → ⊥
  no_take w s e = by_kids (kids n.case w) refl e
    where
      by_given : (l r : ℕ) → kids n.case w ≡ Some (l, r) → (o : Option Edge) → slice_get n.edges (at_side s l r) ≡ o → is_given o ≡ true → ⊥
      by_given l r are None is f = cc
      by_given l r are (Some Home) is f = cc
      by_given l r are (Some (Lent lot)) is f = cc
      by_given l r are (Some Held) is f = cc
      by_given l r are (Some (Asked y)) is f = cc
      by_given l r are (Some (Given lot)) is f =
          let below = under laws n.case s w l r are in
          let earlier = below.earlier in
          let within = below.there in
          let u = worker_at laws n rule w (omega arith) in
          let c = worker_at laws n rule (at_side s l r) below.there in
          let over = rule.ties.lets s w l r (placed_at n.case w u.0) (placed_at n.case (at_side s l r) c.0) (Given lot) are u.1 is c.1 in
          no_target w u.0 u.1 over.target over.recalled.kept

      by_kids : (o : Option (ℕ × ℕ)) → kids n.case w ≡ o → is_given (edge_at n.edges (side_of s o)) ≡ true → ⊥
      by_kids None are f = cc
      by_kids (Some p) are f = by_given p.0 p.1 are (slice_get n.edges (at_side s p.0 p.1)) refl f

  edge_within : (w : ℕ) (e : Edge) → slice_get n.edges w ≡ Some e → w < length (nodes n.case)
  edge_within w e is = let lt = slice_get_within n.edges w e is in let long = rule.ties.edges_each in omega arith

  no_give : (w : ℕ) → by_step n (Give w) ≡ true → ⊥
  no_give w e = by_edge (slice_get n.edges w) refl e
    where
      by_edge : (o : Option Edge) → slice_get n.edges w ≡ o → gives_for n w o ≡ true → ⊥
      by_edge None is f = cc
      by_edge (Some Home) is f = cc
      by_edge (Some (Lent lot)) is f = cc
      by_edge (Some Held) is f = cc
      by_edge (Some (Asked y)) is f = let u = worker_at laws n rule w (edge_within w (Asked y) is) in not_asked w u.0 u.1 y is
      by_edge (Some (Given lot)) is f = cc

  no_hold : (w : ℕ) → by_step n (Hold w) ≡ true → ⊥
  no_hold w e = by_edge (slice_get n.edges w) refl e
    where
      by_edge : (o : Option Edge) → slice_get n.edges w ≡ o → is_lent o ≡ true → ⊥
      by_edge None is f = cc
      by_edge (Some Home) is f = cc
      by_edge (Some (Lent lot)) is f =
          let u = worker_at laws n rule w (edge_within w (Lent lot) is) in
          let v = placed_at n.case w u.0 in
          not_both _ (all_open laws n rule final w v u.1) (hangs_now laws n.case n.seen n.workers n.edges rule.ties w v v u.1 (Lent lot) is (λ x. cc)).shut
      by_edge (Some Held) is f = cc
      by_edge (Some (Asked y)) is f = cc
      by_edge (Some (Given lot)) is f = cc

  no_lend : (w : ℕ) (s : Side) → by_step n (Lend w s) ≡ true → ⊥
  no_lend w s e = by_kids (kids n.case w) refl (and_left _ _ e)
    where
      by_kids : (o : Option (ℕ × ℕ)) → kids n.case w ≡ o → is_some (side_of s o) ≡ true → ⊥
      by_kids None are f = cc
      by_kids (Some p) are f =
          let may = and_right (is_some (side_of s (kids n.case w))) _ e in
          let u = worker_at laws n rule w (there (λ v. may_lend s v.hand) w may) in
          not_both _ (part_out laws n rule final s w p.0 p.1 (placed_at n.case w u.0) are u.1)
          (laws.lend_turns s u.0.hand (sym (ap (if_there (λ v. may_lend s v.hand)) u.1) ∙ may)).here

  none : (s : Step) → by_step n s ≡ true → ⊥
  none (Arrive i) e = let lt = true_lt _ _ e in let all = final.seen i.0 in omega arith
  none (Handle w) e = no_handle w e
  none (AskStep w s) e = no_ask w s e
  none (Take w s) e = no_take w s e
  none (Give w) e = no_give w e
  none (Hold w) e = no_hold w e
  none (Lend w s) e = no_lend w s e

  pub quiet_if_final : IsQuiet n
  quiet_if_final s = false_if_not _ (λ e. none s (and_right _ _ e))
