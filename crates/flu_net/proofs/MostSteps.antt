-- How many steps are left at the start.
use Rattle.std.proofs.Common.{◌≡◌, ◌≤◌, ◌*◌, ℕ, suc, Option, Some, None, List, [], ◌∷◌, length, refl, ap, ◌∙◌, arith}
use Rattle.std.specs.Prelude.{◌-◌, slice_get, slice_index}
use Rattle.std.proofs.Math.Nat.{mul-add, mul-one, mul-le-mul_left, mul-le-mul_right}
use Rattle.flu_lemmas.specs.Totals.{total}
use Rattle.flu_lemmas.proofs.NoTotal.{total_none}
use Rattle.flu_model.specs.Itags.{count_of_itags}
use Rattle.flu_deps.specs.Validated.{owner_in}
use Rattle.flu_fork.specs.declared.content.Content.{Content}
use Rattle.flu_fork.specs.Classes.{itag}
use Rattle.flu_fork.specs.Lots.{job, nodes, kids}
use Rattle.flu_worker.specs.Calls.{IsNew}
use Rattle.flu_worker.specs.Hands.{first_hand}
use Rattle.flu_worker.specs.Notes.{WorkerNote}
use Rattle.flu_net.specs.declared.edges.Edge.{Edge}
use Rattle.flu_net.specs.LawsBelow.{LawsBelow}
use Rattle.flu_net.specs.Measure.{counted_in, events_of, items_of, itags, most_steps, on_edges, steps_left, steps_on, to_be_lent, uncounted, unseen}
use Rattle.flu_net.specs.Notes.{NetNote}
use Rattle.flu_net.specs.Runs.{RunsAreBounded, StartsAreBounded}
use Rattle.flu_net.specs.Starting.{AreHome, AreNew, IsStart}
use Rattle.flu_net.proofs.Lessening.{run_lowers}
use Rattle.flu_net.proofs.Measures.{first_lends, left_of, lends, lends_by, lends_is, most_nodes}
use Rattle.flu_net.proofs.Sizes.{TreesBelow}
use Rattle.flu_net.proofs.Starts.{start_rule}
use Rattle.flu_net.proofs.Sums.{total_le, total_same, total_zero}

module _ (laws : LawsBelow) (trees : TreesBelow) (k : Content) where
  -- only the root has something to lend
  lent_first : (ws : List WorkerNote) → AreNew k (length (nodes k)) ws → to_be_lent ws ≤ 5 * length (nodes k)
  lent_first [] new = omega arith
  lent_first (v ∷ ws) new =
      let is : IsNew k 0 v = new.new 0 v refl in
      let here : lends v ≡ lends_by k (kids k 0) (first_hand (kids k 0)) = lends_is k 0 v is.case is.node ∙ ap (lends_by k (kids k 0)) is.hand in
      let root = (laws.parents (nodes k) (laws.settings k).one_tree).root in
      let first = first_lends laws trees k 0 root in
      let most = most_nodes laws trees k 0 in
      let rest : total lends ws ≡ 0 = total_none lends ws (λ i x at. shut i x (new.new (suc i) x at)) in
      omega arith
    where
      shut : (i : ℕ) (x : WorkerNote) → IsNew k (suc i) x → lends x ≡ 0
      shut i x is = lends_is k (suc i) x is.case is.node ∙ ap (lends_by k (kids k (suc i))) is.hand

  none_on_edges : (es : List Edge) → AreHome (length (nodes k)) es → on_edges k es ≡ 0
  none_on_edges es home =
      total_same (λ v. steps_on k v (slice_get es v)) (λ v. 0) 0 (length (nodes k)) (λ v low high. at v (slice_get es v) refl)
      ∙ total_zero 0 (length (nodes k))
    where
      at : (v : ℕ) (o : Option Edge) → slice_get es v ≡ o → steps_on k v o ≡ 0
      at v None e = refl
      at v (Some x) e = ap (λ y. steps_on k v (Some y)) (home.home v x e)

  pub most_at_start : (n : NetNote) → IsStart k n → steps_left n ≤ most_steps k
  most_at_start n start =
      let here : steps_left n ≡ left_of k n.seen n.workers n.edges = ap (λ (j : Content). left_of j n.seen n.workers n.edges) start.case in
      let items : unseen k n.seen ≤ total (items_of k) (itags k) =
      total_le (λ i. items_of k i - slice_index n.seen i) (items_of k) 0 (count_of_itags (job k)) (λ i high. omega arith) in
      let events : uncounted k n.workers ≤ total (events_of k) (itags k) =
      total_le (λ i. events_of k i - counted_in (slice_get n.workers (owner_in k.valid (itag i))) i) (events_of k) 0 (count_of_itags (job k))
      (λ i high. omega arith) in
      let lent = lent_first n.workers start.workers in
      let edges = none_on_edges n.edges start.edges in
      let counted = mul-le-mul_left (5 * length (nodes k)) events in
      let fewer : 5 * length (nodes k) ≤ 8 * length (nodes k) = omega arith in
      let wider = mul-le-mul_right (total (events_of k) (itags k)) fewer in
      let split = mul-add (8 * length (nodes k)) (total (events_of k) (itags k)) 1 in
      let one = mul-one (8 * length (nodes k)) in
      omega arith

pub starts_bounded : LawsBelow → TreesBelow → StartsAreBounded
starts_bounded laws trees k n start = most_at_start laws trees k n start

pub runs_bounded : LawsBelow → TreesBelow → RunsAreBounded
runs_bounded laws trees k old new steps start run =
    let most = most_at_start laws trees k old start in
    let lower = run_lowers laws trees steps old new (start_rule laws k old start) run in
    omega arith
