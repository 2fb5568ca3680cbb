-- What is asked comes first of the itags above: no event of theirs that is not counted is before it.
use Rattle.std.proofs.Common.{◌≡◌, ◌<◌, ◌≤◌, ℕ, zero, suc, true, false, Some, inl, inr, sym, ap, subst, ◌∙◌, arith}
use Rattle.std.specs.Prelude.{is_some, slice_get, slice_index}
use Rattle.std.proofs.lemmas.Option.{same_Some}
use Rattle.flu_model.specs.Itags.{count_of_itags}
use Rattle.flu_model.specs.declared.events.Event.{Event}
use Rattle.flu_model.specs.Merging.{is_before}
use Rattle.flu_fork.specs.declared.lots.Ask.{Ask}
use Rattle.flu_fork.specs.Classes.{above}
use Rattle.flu_fork.specs.Lots.{job, nodes, kids, setting_of}
use Rattle.flu_fork.specs.Streams.{IsEventAt}
use Rattle.flu_worker.specs.Agreeing.{IsFirstOf}
use Rattle.flu_worker.specs.Hands.{at_side}
use Rattle.flu_worker.specs.Notes.{WorkerNote}
use Rattle.flu_net.specs.declared.edges.Edge.TheVariants.{Asked}
use Rattle.flu_net.specs.Blocking.{AllKeep}
use Rattle.flu_net.specs.LawsBelow.{LawsBelow}
use Rattle.flu_net.specs.Notes.{NetNote}
use Rattle.flu_net.specs.Rule.{Rule}
use Rattle.flu_net.proofs.Placed.{placed_at, child_of, child_counts, edge_there, from_child, in_tree, worker_at}
use Rattle.flu_net.proofs.Stepping.{below_top}

module _ (laws : LawsBelow) (n : NetNote) (rule : Rule n) (keep : AllKeep n.workers) where
  pub first_above : (fuel w : ℕ) → w < fuel → (c : WorkerNote) → slice_get n.workers w ≡ Some (placed_at n.case w c) → (y : Ask)
      → slice_get n.edges w ≡ Some (Asked y)
      → (x : Event) → IsEventAt (setting_of n.case) y.itag.0 y.index x → IsFirstOf (setting_of n.case) (above (job n.case) (nodes n.case) w) c.counts x
  first_above zero w lt c at y edge x is = absurd (omega arith)
  first_above (suc fuel) w lt c at y edge x is = λ j l z over le there.
      let some = below_top laws n.case n.seen n.workers n.edges rule.ties w (placed_at n.case w c) (placed_at n.case w c) at (Asked y) edge (λ e. cc) in
      let p = child_of laws n rule w some (in_tree laws n rule w (placed_at n.case w c) at) in
      let u = worker_at laws n rule p.up p.there in
      let here : slice_get n.workers (at_side p.side p.left p.right) ≡ Some (placed_at n.case (at_side p.side p.left p.right) c) =
      subst (λ (v : ℕ). slice_get n.workers v ≡ Some (placed_at n.case v c)) p.is at in
      let edge_here : slice_get n.edges (at_side p.side p.left p.right) ≡ Some (Asked y) = sym (ap (slice_get n.edges) p.is) ∙ edge in
      let asks =
      rule.ties.lets p.side p.up p.left p.right (placed_at n.case p.up u.0) (placed_at n.case (at_side p.side p.left p.right) c)
      (Asked y) p.are u.1 edge_here here in
      let hung = rule.ties.hangs w (placed_at n.case w c) (Asked y) some at edge in
      let target = (keep p.up (placed_at n.case p.up u.0) u.1).target y asks.recalled.kept in
      let inner : is_some (kids n.case p.up) ≡ true = ap is_some p.are in
      let known : j < count_of_itags (job n.case) = laws.known (setting_of n.case) j l z (laws.settings n.case) there in
      let place = from_child laws n rule p.side p.up p.left p.right j p.are known (ap (λ v. above (job n.case) (nodes n.case) v j) (sym p.is) ∙ over) in
      let same =
      child_counts laws n rule keep p.side p.up p.left p.right u.0 c p.are u.1 here
      (laws.take_turns p.side u.0.hand asks.recalled.take).out hung.opened asks.loan.lent j known place in
      let le_up : slice_index u.0.counts j ≤ l = omega arith in
      ap (is_before z) (same_Some x target.event (sym is ∙ target.is)) ∙
      (elim place as (λ _. is_before z target.event ≡ false) [
        | inl mine ↦ target.first_own inner j l z mine le_up there
        | inr higher ↦ elim target.place as (λ _. is_before z target.event ≡ false) [
          | inl mine ↦ target.first_above inner mine j l z higher le_up there
          | inr further ↦
              let e = edge_there laws n rule p.up p.there in
              let asked = (rule.stands p.up (placed_at n.case p.up u.0) e.0 u.1 e.1).asked y asks.recalled.kept further in
              first_above fuel p.up (let earlier = p.earlier in omega arith) u.0 u.1 y (e.1 ∙ ap Some asked) target.event target.is j l z higher le_up there
        ]
      ])
