-- Where no step is enabled, the net is final.
use Rattle.std.proofs.Common.{◌≡◌, ◌<◌, ◌≤◌, ℕ, zero, suc, true, false, Option, Some, None, length, inl, inr, refl, sym, ap, subst, ◌∙◌, arith}
use Rattle.std.specs.Prelude.{is_some, slice_get, slice_index, IsSome}
use Rattle.std.proofs.lemmas.Bool.{cases_eq, cases_lt}
use Rattle.std.proofs.lemmas.Option.{none-some}
use Rattle.flu_lemmas.proofs.Places.{slice_get-there}
use Rattle.flu_lemmas.proofs.Tests.{not_both}
use Rattle.flu_lemmas.proofs.Options.{some_there, none_or_some}
use Rattle.flu_model.specs.Itags.{count_of_itags}
use Rattle.flu_fork.specs.declared.content.Content.{Content}
use Rattle.flu_fork.specs.declared.lots.Ask.{Ask}
use Rattle.flu_fork.specs.Classes.{Itags, own, above}
use Rattle.flu_fork.specs.Lots.{job, nodes, kids, setting_of}
use Rattle.flu_fork.specs.Settings.{events_at}
use Rattle.flu_fork.specs.Texts.{IsComplete}
use Rattle.flu_worker.specs.declared.hand.Hand.{Hand}
use Rattle.flu_worker.specs.declared.hand.Hand.TheVariants.{Empty, Whole, Lending, Down, Taking}
use Rattle.flu_worker.specs.declared.hand.Side.{Side}
use Rattle.flu_worker.specs.declared.hand.Side.TheVariants.{Left}
use Rattle.flu_worker.specs.Choosing.{sight}
use Rattle.flu_worker.specs.Hands.{at_side, is_open, is_out, may_take}
use Rattle.flu_worker.specs.Keeping.{KeepsIn}
use Rattle.flu_worker.specs.Laws.{HasReady}
use Rattle.flu_worker.specs.Notes.{WorkerNote, own_of, above_of}
use Rattle.flu_net.specs.declared.edges.Edge.{Edge}
use Rattle.flu_net.specs.declared.edges.Edge.TheVariants.{Home, Lent, Held, Asked, Given}
use Rattle.flu_net.specs.Blocking.{AllKeep, IsQuiet}
use Rattle.flu_net.specs.Final.{IsFinal}
use Rattle.flu_net.specs.LawsBelow.{LawsBelow}
use Rattle.flu_net.specs.Notes.{NetNote, asked_of}
use Rattle.flu_net.specs.Rule.{Rule}
use Rattle.flu_net.proofs.Framing.{under}
use Rattle.flu_net.proofs.Going.{goes_on, handles_inner, handles_leaf, none_asked, none_lending, none_taking, ready_target, sees_all}
use Rattle.flu_net.proofs.Placed.{placed_at, all_seen, as_placed, child_counts, child_of, edge_there}
use Rattle.flu_net.proofs.Placed.{from_child, in_tree, no_handle, no_hold, no_take, worker_at}

abbrev own_itags : Content → ℕ → Itags
own_itags k w = own (job k) (nodes k) w

module _ (laws : LawsBelow) (n : NetNote) (rule : Rule n) (keep : AllKeep n.workers) (gone : n.gone ≡ false) (quiet : IsQuiet n) where
  -- ---- one worker, whose lot is here or out, and which has counted all events of the itags above it
  module _ (w : ℕ) (u : WorkerNote) (at : slice_get n.workers w ≡ Some (placed_at n.case w u)) (opened : is_open u.hand ≡ true)
      (over : IsComplete (setting_of n.case) (above (job n.case) (nodes n.case) w) u.counts) where
    abbrev v : WorkerNote
    v = placed_at n.case w u

    -- its own are counted where it could go on with the least one that is not
    own_complete : (HasReady (sight v) → ⊥) → IsComplete (setting_of n.case) (own (job n.case) (nodes n.case) w) u.counts
    own_complete stuck i mine =
        elim (cases_lt (slice_index u.counts i) (length (events_at (setting_of n.case) i))) [
          | inl lt ↦
              let x = slice_get-there (events_at (setting_of n.case) i) (slice_index u.counts i) lt in
              absurd (stuck (laws.own_go_on (sight v) i (slice_index u.counts i) x.0 (sees_all laws n rule keep gone quiet w u at) mine (omega arith) x.1 over))
          | inr ge ↦ let few = (keep w v at).counted i in omega arith
        ]

    free : (s : Side) (l r : ℕ) (y : Ask) → kids n.case w ≡ Some (l, r) → slice_get n.edges (at_side s l r) ≡ Some (Asked y) → ⊥
    free s l r y are asked = none_asked laws n rule keep gone quiet (at_side s l r) (under laws n.case s w l r are).there y asked

    pub record Rests : Type 0 where
      pub own : IsComplete (setting_of n.case) (own_itags n.case w) u.counts
      pub leaf : kids n.case w ≡ None → u.hand ≡ Whole
      pub inner : IsSome (kids n.case w) → u.hand ≡ Down

    at_whole : (o : Option (ℕ × ℕ)) → kids n.case w ≡ o → u.hand ≡ Whole → (IsSome o → IsSome u.kept) → Rests
    at_whole None leaf whole kept = record {
      own = own_complete (λ ready. no_handle laws n rule gone quiet w v at (handles_leaf v whole leaf ready));
      leaf = λ _. whole;
      inner = λ some. absurd (none_or_some (kids n.case w) leaf some);
    }
    at_whole (Some p) inner whole kept =
        let z = some_there u.kept (kept refl) in
        absurd (elim ((keep w v at).target z.0 z.1).place [
          | inl mine ↦ no_handle laws n rule gone quiet w v at (handles_inner v p z.0 whole inner z.1 mine)
          | inr higher ↦
              let e = edge_there laws n rule w (in_tree laws n rule w v at) in
              none_asked laws n rule keep gone quiet w (in_tree laws n rule w v at) z.0 (e.1 ∙ ap Some ((rule.stands w v e.0 at e.1).asked z.0 z.1 higher))
        ])

    at_down : (o : Option (ℕ × ℕ)) → kids n.case w ≡ o → IsSome o → u.hand ≡ Down → Rests
    at_down None e some down = cc
    at_down (Some p) e some down = record {
      own =
          own_complete (λ ready. goes_on laws n rule keep gone quiet w p.0 p.1 Left u e at (ap (may_take Left) down)
          (ready_target v (asked_of n w) down ready) (λ y. free Left p.0 p.1 y e));
      leaf = λ none. absurd (none-some p (sym none ∙ e));
      inner = λ _. down;
    }

    by_hand : (h : Hand) → u.hand ≡ h → KeepsIn h v → Rests
    by_hand Empty is keeps = absurd (not_both _ opened (ap is_open is))
    by_hand Whole is keeps = at_whole (kids n.case w) refl is keeps.inner
    by_hand (Lending a b) is keeps = absurd (none_lending laws n rule keep gone quiet w u a b at is)
    by_hand Down is keeps = at_down (kids n.case w) refl keeps is
    by_hand (Taking a b) is keeps = absurd (none_taking laws n rule keep gone quiet w u a b at is free)

    pub rests : Rests
    rests = by_hand u.hand refl (keep w v at).keeps

  -- ---- all of them, from the root down
  pub record IsReached (w : ℕ) (u : WorkerNote) : Type 0 where
    pub opened : is_open u.hand ≡ true
    pub over : IsComplete (setting_of n.case) (above (job n.case) (nodes n.case) w) u.counts

  -- an itag that is not of the job has no events
  unknown : (w : ℕ) (u : WorkerNote) → slice_get n.workers w ≡ Some (placed_at n.case w u) → (i : ℕ) → count_of_itags (job n.case) ≤ i
      → slice_index u.counts i ≡ length (events_at (setting_of n.case) i)
  unknown w u at i ge =
      let few = (keep w (placed_at n.case w u) at).counted i in
      elim (cases_lt (slice_index u.counts i) (length (events_at (setting_of n.case) i))) [
        | inl lt ↦
            let x = slice_get-there (events_at (setting_of n.case) i) (slice_index u.counts i) lt in
            let known : i < count_of_itags (job n.case) = laws.known (setting_of n.case) i (slice_index u.counts i) x.0 (laws.settings n.case) x.1 in
            absurd (omega arith)
        | inr all ↦ omega arith
      ]

  reached_root : (u : WorkerNote) → slice_get n.workers 0 ≡ Some (placed_at n.case 0 u) → IsReached 0 u
  reached_root u at = record {
    opened = (rule.stands 0 (placed_at n.case 0 u) Home at rule.ties.top).root refl;
    over = λ i higher. elim (cases_lt i (count_of_itags (job n.case))) [
      | inl lt ↦ absurd (not_both _ higher (laws.of_root (setting_of n.case) i (laws.settings n.case) lt).above)
      | inr ge ↦ unknown 0 u at i ge
    ];
  }

  -- a child of a worker that rests holds its part
  module _ (s : Side) (w l r : ℕ) (u c : WorkerNote) (are : kids n.case w ≡ Some (l, r)) (up : slice_get n.workers w ≡ Some (placed_at n.case w u))
      (down : slice_get n.workers (at_side s l r) ≡ Some (placed_at n.case (at_side s l r) c)) (reached : IsReached w u)
      (rest : Rests w u up reached.opened reached.over) where
    hand : u.hand ≡ Down
    hand = rest.inner (ap is_some are)

    out : is_out s u.hand ≡ true
    out = (laws.take_turns s u.hand (ap (may_take s) hand)).out

    reached_held : slice_get n.edges (at_side s l r) ≡ Some Held → IsReached (at_side s l r) c
    reached_held edge =
        let below = (under laws n.case s w l r are).earlier in
        let some : 0 < at_side s l r = omega arith in
        let open_c = rule.ties.hangs (at_side s l r) (placed_at n.case (at_side s l r) c) Held some down edge in
        let held = (rule.ties.lets s w l r (placed_at n.case w u) (placed_at n.case (at_side s l r) c) Held are up edge down).loan.lent in
        record {
          opened = open_c;
          over = λ i higher. elim (cases_lt i (count_of_itags (job n.case))) [
            | inl lt ↦
                let place = from_child laws n rule s w l r i are lt higher in
                child_counts laws n rule keep s w l r u c are up down out open_c held i lt place ∙ elim place [
                  | inl mine ↦ rest.own i mine
                  | inr over ↦ reached.over i over
                ]
            | inr ge ↦ unknown (at_side s l r) c down i ge
          ];
        }

    by_edge : (e : Edge) → slice_get n.edges (at_side s l r) ≡ Some e → IsReached (at_side s l r) c
    by_edge Home is = absurd (not_both _ out (rule.ties.lets s w l r (placed_at n.case w u) (placed_at n.case (at_side s l r) c) Home are up is down).home)
    by_edge (Lent lot) is = absurd (no_hold laws n rule gone quiet (at_side s l r) lot is)
    by_edge Held is = reached_held is
    by_edge (Asked y) is = absurd (none_asked laws n rule keep gone quiet (at_side s l r) (under laws n.case s w l r are).there y is)
    by_edge (Given lot) is = absurd (no_take laws n rule gone quiet s w l r are lot is)

    reached_child : IsReached (at_side s l r) c
    reached_child = let e = edge_there laws n rule (at_side s l r) (under laws n.case s w l r are).there in by_edge e.0 e.1

  reached : (fuel w : ℕ) → w < fuel → (u : WorkerNote) → slice_get n.workers w ≡ Some (placed_at n.case w u) → IsReached w u
  reached zero w lt u at = absurd (omega arith)
  reached (suc fuel) w lt u at = elim (cases_eq w 0) [
    | inl root ↦
        subst (λ (x : ℕ). IsReached x u) (sym root) (reached_root u (subst (λ (x : ℕ). slice_get n.workers x ≡ Some (placed_at n.case x u)) root at))
    | inr other ↦
        let p = child_of laws n rule w (omega arith) (in_tree laws n rule w (placed_at n.case w u) at) in
        let q = worker_at laws n rule p.up p.there in
        let before = reached fuel p.up (let earlier = p.earlier in omega arith) q.0 q.1 in
        let here : slice_get n.workers (at_side p.side p.left p.right) ≡ Some (placed_at n.case (at_side p.side p.left p.right) u) =
        subst (λ (x : ℕ). slice_get n.workers x ≡ Some (placed_at n.case x u)) p.is at in
        subst (λ (x : ℕ). IsReached x u) (sym p.is)
        (reached_child p.side p.up p.left p.right q.0 u p.are q.1 here before (rests p.up q.0 q.1 before.opened before.over))
  ]

  -- ---- the net
  placed : (w : ℕ) (v : WorkerNote) → slice_get n.workers w ≡ Some v → slice_get n.workers w ≡ Some (placed_at n.case w v)
  placed w v at = at ∙ ap Some (as_placed laws n rule w v at)

  all_reached : (w : ℕ) (v : WorkerNote) (at : slice_get n.workers w ≡ Some v) → IsReached w v
  all_reached w v at = reached (suc w) w (omega arith) v (placed w v at)

  all_rest : (w : ℕ) (v : WorkerNote) (at : slice_get n.workers w ≡ Some v) → Rests w v (placed w v at) (all_reached w v at).opened (all_reached w v at).over
  all_rest w v at = rests w v (placed w v at) (all_reached w v at).opened (all_reached w v at).over

  -- what is said of a node is said of its worker's
  of_worker : (v : WorkerNote) (w : ℕ) → v ≡ placed_at n.case w v → (i : ℕ)
      → (own_of v i ≡ own (job n.case) (nodes n.case) w i) × (above_of v i ≡ above (job n.case) (nodes n.case) w i)
  of_worker v w e i = (ap (λ (x : WorkerNote). own_of x i) e, ap (λ (x : WorkerNote). above_of x i) e)

  pub final_if_quiet : IsFinal n
  final_if_quiet = record {
    seen = λ i. (let all = all_seen laws n rule gone quiet i in let most = rule.seen.there i in omega arith);
    own = λ w v at i mine. (all_rest w v at).own i (sym (of_worker v w (as_placed laws n rule w v at) i).0 ∙ mine);
    above = λ w v at i higher. (all_reached w v at).over i (sym (of_worker v w (as_placed laws n rule w v at) i).1 ∙ higher);
    leaves = λ w v at leaf. (all_rest w v at).leaf leaf;
  }
