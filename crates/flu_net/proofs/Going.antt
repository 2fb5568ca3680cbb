-- Where no step is enabled, nothing is asked: else the worker that is asked, or one below it, could go on.
use Rattle.std.proofs.Common.{◌≡◌, ◌⊎◌, ◌<◌, ◌≤◌, ◌+◌, ℕ, zero, suc, Bool, true, false, cond, Option}
use Rattle.std.proofs.Common.{Some, None, [], length, inl, inr, refl, sym, ap, subst, ◌∙◌, arith}
use Rattle.std.specs.Prelude.{◌||◌, is_none, is_some, slice_get, slice_index, slice_index_or, IsSome}
use Rattle.flu_lemmas.proofs.Places.{slice_get-there}
use Rattle.flu_lemmas.proofs.Searches.{eq_true}
use Rattle.flu_lemmas.proofs.Tests.{both, not_both}
use Rattle.flu_lemmas.proofs.Options.{some_there}
use Rattle.flu_model.specs.declared.events.Event.{Event}
use Rattle.flu_model.specs.Listed.{listed}
use Rattle.flu_fork.specs.declared.lots.Ask.{Ask}
use Rattle.flu_fork.specs.Lots.{nodes, kids, setting_of}
use Rattle.flu_fork.specs.Settings.{events_at}
use Rattle.flu_worker.specs.declared.hand.Hand.{Hand}
use Rattle.flu_worker.specs.declared.hand.Hand.TheVariants.{Empty, Whole, Lending, Down, Taking}
use Rattle.flu_worker.specs.declared.hand.Side.{Side}
use Rattle.flu_worker.specs.declared.hand.Side.TheVariants.{Left, Right}
use Rattle.flu_worker.specs.Choosing.{sight, ask_for, event_of, first_some, gives_by, if_own, if_ready, if_serves, is_same_ask}
use Rattle.flu_worker.specs.Choosing.{least_next, least_ready, may_give, new_target, next_of, serves, target_of}
use Rattle.flu_worker.specs.Hands.{at_side, is_down, is_lost, is_open, is_whole, may_lend, may_take}
use Rattle.flu_worker.specs.Keeping.{KeepsIn}
use Rattle.flu_worker.specs.Laws.{AllSeen, HasReady}
use Rattle.flu_worker.specs.Notes.{WorkerNote, own_of, above_of}
use Rattle.flu_worker.specs.Ties.{IsAsked}
use Rattle.flu_net.specs.declared.edges.Edge.{Edge}
use Rattle.flu_net.specs.declared.edges.Edge.TheVariants.{Home, Lent, Held, Asked, Given}
use Rattle.flu_net.specs.Blocking.{AllKeep, IsQuiet}
use Rattle.flu_net.specs.LawsBelow.{LawsBelow}
use Rattle.flu_net.specs.Notes.{NetNote, asked_of, asked_over}
use Rattle.flu_net.specs.Rule.{Rule}
use Rattle.flu_net.proofs.Asking.{first_above}
use Rattle.flu_net.proofs.Framing.{under}
use Rattle.flu_net.proofs.Placed.{placed_at, all_seen, edge_there, in_tree, no_ask, no_give, no_handle, no_hold, no_lend, no_take, sound_at, worker_at}
use Rattle.flu_net.proofs.Stepping.{hangs_now}

-- ---- what a worker may do
some_first : (o b : Option Ask) → IsSome o → is_some (first_some o b) ≡ true
some_first None b e = cc
some_first (Some y) b e = refl

some_second : (o b : Option Ask) → is_some b ≡ true → is_some (first_some o b) ≡ true
some_second None b e = e
some_second (Some y) b e = refl

module _ (v : WorkerNote) where
  -- what it keeps is its target
  pub keeps_target : (asked : Option Ask) → IsSome v.kept → is_some (target_of v asked) ≡ true
  keeps_target asked some = some_first v.kept _ some

  down_target : (asked : Option Ask) → v.hand ≡ Down → is_some (new_target (sight v) asked) ≡ true → is_some (target_of v asked) ≡ true
  down_target asked down some = some_second v.kept _ (ap (λ (h : Hand). is_some (cond (is_down h) (new_target (sight v) asked) None)) down ∙ some)

  pub ready_target : (asked : Option Ask) → v.hand ≡ Down → HasReady (sight v) → is_some (target_of v asked) ≡ true
  ready_target asked down r =
      down_target asked down
      (some_first _ _ (ap (λ (o : Option Event). is_some (ask_for (sight v) (if_ready (sight v) o))) r.next
      ∙ ap (λ t. is_some (ask_for (sight v) (cond t (Some r.least) None))) r.ready))

  asked_target : (y : Ask) → v.hand ≡ Down → serves (sight v) (event_of v.case y) ≡ true → is_some (target_of v (Some y)) ≡ true
  asked_target y down serving =
      down_target (Some y) down
      (some_second (ask_for (sight v) (if_ready (sight v) (least_next (sight v)))) (if_serves (sight v) (Some y))
      (ap (λ t. is_some (cond t (Some y) None)) serving))

  next_at_leaf : v.hand ≡ Whole → kids v.case v.node ≡ None → next_of v ≡ ask_for (sight v) (least_ready (sight v))
  next_at_leaf whole leaf =
      ap (λ (h : Hand). cond (is_whole h) (cond (is_none (kids v.case v.node)) (ask_for (sight v) (least_ready (sight v))) (if_own (sight v) v.kept)) None)
      whole
      ∙ ap (λ o. cond (is_none o) (ask_for (sight v) (least_ready (sight v))) (if_own (sight v) v.kept)) leaf

  pub handles_leaf : v.hand ≡ Whole → kids v.case v.node ≡ None → HasReady (sight v) → is_some (next_of v) ≡ true
  handles_leaf whole leaf r = ap is_some (next_at_leaf whole leaf) ∙ ap (λ (o : Option Event). is_some (ask_for (sight v) o)) r.found

  pub handles_inner : (pair : ℕ × ℕ) (z : Ask) → v.hand ≡ Whole → kids v.case v.node ≡ Some pair → v.kept ≡ Some z → own_of v z.itag.0 ≡ true
      → is_some (next_of v) ≡ true
  handles_inner pair z whole inner kept mine =
      ap (λ (h : Hand). is_some
      (cond (is_whole h) (cond (is_none (kids v.case v.node)) (ask_for (sight v) (least_ready (sight v))) (if_own (sight v) v.kept)) None)) whole
      ∙ ap (λ o. is_some (cond (is_none o) (ask_for (sight v) (least_ready (sight v))) (if_own (sight v) v.kept))) inner
      ∙ ap (λ o. is_some (if_own (sight v) o)) kept
      ∙ ap (λ t. is_some (cond t (Some z) None)) mine

  module _ (y : Ask) (over : above_of v y.itag.0 ≡ true) (next : y.index ≡ slice_index v.held.upto y.itag.0) (whole : v.hand ≡ Whole) where
    gives_if : gives_by (sight v) Whole v.kept y ≡ true → may_give v y ≡ true
    gives_if e = both _ _ (both _ _ over (eq_true _ _ next)) (ap (λ (h : Hand). gives_by (sight v) h v.kept y) whole ∙ e)

    gives_leaf : kids v.case v.node ≡ None → serves (sight v) (event_of v.case y) ≡ true → may_give v y ≡ true
    gives_leaf leaf serving = gives_if (ap (λ o. cond (is_none o) (serves (sight v) (event_of v.case y)) (is_same_ask y v.kept)) leaf ∙ serving)

    gives_inner : (pair : ℕ × ℕ) → kids v.case v.node ≡ Some pair → v.kept ≡ Some y → may_give v y ≡ true
    gives_inner pair inner kept =
        gives_if
        (ap (λ o. cond (is_none o) (serves (sight v) (event_of v.case y)) (is_same_ask y v.kept)) inner
        ∙ ap (is_same_ask y) kept ∙ both _ _ (eq_true y.itag.0 y.itag.0 refl) (eq_true y.index y.index refl))

same_asked : {y z : Ask} → Asked y ≡ Asked z → y ≡ z
same_asked e = cc

-- ---- the net
module _ (laws : LawsBelow) (n : NetNote) (rule : Rule n) (keep : AllKeep n.workers) (gone : n.gone ≡ false) (quiet : IsQuiet n) where
  -- a worker that has a target can go on at a side whose part is out, where nothing is asked there
  pub goes_on : (w l r : ℕ) (s : Side) (u : WorkerNote) → kids n.case w ≡ Some (l, r) → slice_get n.workers w ≡ Some (placed_at n.case w u)
      → may_take s u.hand ≡ true
      → is_some (target_of (placed_at n.case w u) (asked_of n w)) ≡ true → ((y : Ask) → slice_get n.edges (at_side s l r) ≡ Some (Asked y) → ⊥) → ⊥
  goes_on w l r s u are at may target free =
      let within = (under laws n.case s w l r are).there in
      let c = worker_at laws n rule (at_side s l r) within in
      let e = edge_there laws n rule (at_side s l r) within in
      by_edge c.0 c.1 e.0 e.1
    where
      by_edge : (c : WorkerNote) → slice_get n.workers (at_side s l r) ≡ Some (placed_at n.case (at_side s l r) c) → (e : Edge)
          → slice_get n.edges (at_side s l r) ≡ Some e → ⊥
      by_edge c down Home is =
          not_both _ (laws.take_turns s u.hand may).out
          (rule.ties.lets s w l r (placed_at n.case w u) (placed_at n.case (at_side s l r) c) Home are at is down).home
      by_edge c down (Lent lot) is = no_hold laws n rule gone quiet (at_side s l r) lot is
      by_edge c down Held is = no_ask laws n rule gone quiet s w l r are (placed_at n.case w u) at is may target
      by_edge c down (Asked y) is = free y is
      by_edge c down (Given lot) is = no_take laws n rule gone quiet s w l r are lot is

  pub sees_all : (w : ℕ) (u : WorkerNote) → slice_get n.workers w ≡ Some (placed_at n.case w u) → AllSeen (sight (placed_at n.case w u))
  sees_all w u at j =
      subst (λ seen. length (slice_index_or (listed n.case.streams) j []) ≤ slice_index seen j) (sym (rule.ties.placed w (placed_at n.case w u) at).sees)
      (all_seen laws n rule gone quiet j)

  -- no part can be lent, and none is to be taken but by an open worker with a target
  pub none_lending : (w : ℕ) (u : WorkerNote) (a b : Bool) → slice_get n.workers w ≡ Some (placed_at n.case w u) → u.hand ≡ Lending a b → ⊥
  none_lending w u a b at is =
      let keeps = subst (λ h. KeepsIn h (placed_at n.case w u)) is (keep w (placed_at n.case w u) at).keeps in
      by_kids (kids n.case w) refl keeps.inner a b is keeps.some
    where
      by_kids : (o : Option (ℕ × ℕ)) → kids n.case w ≡ o → IsSome o → (a b : Bool) → u.hand ≡ Lending a b → (a || b) ≡ true → ⊥
      by_kids None e some a b is any = cc
      by_kids (Some p) e some true b is any = no_lend laws n rule gone quiet Left w p.0 p.1 e (placed_at n.case w u) at (ap (may_lend Left) is)
      by_kids (Some p) e some false true is any = no_lend laws n rule gone quiet Right w p.0 p.1 e (placed_at n.case w u) at (ap (may_lend Right) is)
      by_kids (Some p) e some false false is any = cc

  -- while parts come back, there is a side to take from, and a target is kept
  pub none_taking : (w : ℕ) (u : WorkerNote) (a b : Bool) → slice_get n.workers w ≡ Some (placed_at n.case w u) → u.hand ≡ Taking a b
      → ((s : Side) (l r : ℕ) (y : Ask) → kids n.case w ≡ Some (l, r) → slice_get n.edges (at_side s l r) ≡ Some (Asked y) → ⊥) → ⊥
  none_taking w u a b at is free =
      let sound : is_lost (Taking a b) ≡ false = ap is_lost (sym is) ∙ sound_at laws n rule w (placed_at n.case w u) at in
      let keeps = subst (λ h. KeepsIn h (placed_at n.case w u)) is (keep w (placed_at n.case w u) at).keeps sound in
      by_kids (kids n.case w) refl keeps.inner keeps.kept a b is sound
    where
      by_kids : (o : Option (ℕ × ℕ)) → kids n.case w ≡ o → IsSome o → IsSome u.kept → (a b : Bool) → u.hand ≡ Taking a b → is_lost (Taking a b) ≡ false → ⊥
      by_kids None e some kept a b is sound = cc
      by_kids (Some p) e some kept false b is sound =
          goes_on w p.0 p.1 Left u e at (ap (may_take Left) is) (keeps_target (placed_at n.case w u) (asked_of n w) kept) (λ y. free Left p.0 p.1 y e)
      by_kids (Some p) e some kept true false is sound =
          goes_on w p.0 p.1 Right u e at (ap (may_take Right) is) (keeps_target (placed_at n.case w u) (asked_of n w) kept) (λ y. free Right p.0 p.1 y e)
      by_kids (Some p) e some kept true true is sound = cc

  -- ---- nothing is asked
  -- of a worker that is asked, where nothing is asked below it
  module _ (w : ℕ) (u : WorkerNote) (at : slice_get n.workers w ≡ Some (placed_at n.case w u)) (y : Ask) (edge : slice_get n.edges w ≡ Some (Asked y))
      (free : (s : Side) (l r : ℕ) (z : Ask) → kids n.case w ≡ Some (l, r) → slice_get n.edges (at_side s l r) ≡ Some (Asked z) → ⊥) where
    abbrev v : WorkerNote
    v = placed_at n.case w u

    hung : IsAsked v y
    hung = hangs_now laws n.case n.seen n.workers n.edges rule.ties w v v at (Asked y) edge (λ e. cc)

    choice : HasReady (sight v) ⊎ (serves (sight v) (event_of n.case y) ≡ true)
    choice =
        let x = slice_get-there (events_at (setting_of n.case) y.itag.0) y.index hung.above.there in
        laws.asked_go_on (sight v) y x.0 (sees_all w u at) hung.above x.1 (first_above laws n rule keep (suc w) w (omega arith) u at y edge x.0 x.1)

    at_whole : (o : Option (ℕ × ℕ)) → kids n.case w ≡ o → u.hand ≡ Whole → (IsSome o → IsSome u.kept) → ⊥
    at_whole None leaf whole kept = elim choice [
      | inl ready ↦ no_handle laws n rule gone quiet w v at (handles_leaf v whole leaf ready)
      | inr serving ↦ no_give laws n rule gone quiet w v y at edge (gives_leaf v y hung.above.above hung.next whole leaf serving)
    ]
    at_whole (Some p) inner whole kept =
        let z = some_there u.kept (kept refl) in
        elim ((keep w v at).target z.0 z.1).place [
          | inl mine ↦ no_handle laws n rule gone quiet w v at (handles_inner v p z.0 whole inner z.1 mine)
          | inr over ↦
              (let same : z.0 ≡ y = same_asked (sym ((rule.stands w v (Asked y) at edge).asked z.0 z.1 over)) in
              no_give laws n rule gone quiet w v y at edge (gives_inner v y hung.above.above hung.next whole p inner (z.1 ∙ ap Some same)))
        ]

    at_down : (o : Option (ℕ × ℕ)) → kids n.case w ≡ o → IsSome o → u.hand ≡ Down → ⊥
    at_down None e some down = cc
    at_down (Some p) e some down =
        goes_on w p.0 p.1 Left u e at (ap (may_take Left) down)
        (elim choice [
          | inl ready ↦ ready_target v (asked_of n w) down ready
          | inr serving ↦ ap (λ o. is_some (target_of v (asked_over o))) edge ∙ asked_target v y down serving
        ]) (λ z. free Left p.0 p.1 z e)

    by_hand : (h : Hand) → u.hand ≡ h → KeepsIn h v → ⊥
    by_hand Empty is keeps = not_both _ hung.opened (ap is_open is)
    by_hand Whole is keeps = at_whole (kids n.case w) refl is keeps.inner
    by_hand (Lending a b) is keeps = none_lending w u a b at is
    by_hand Down is keeps = at_down (kids n.case w) refl keeps is
    by_hand (Taking a b) is keeps = none_taking w u a b at is free

    asked_moves : ⊥
    asked_moves = by_hand u.hand refl (keep w v at).keeps

  none_below : (fuel w : ℕ) → length (nodes n.case) ≤ w + fuel → (u : WorkerNote) → slice_get n.workers w ≡ Some (placed_at n.case w u) → (y : Ask)
      → slice_get n.edges w ≡ Some (Asked y) → ⊥
  none_below zero w le u at y edge = let lt = in_tree laws n rule w (placed_at n.case w u) at in omega arith
  none_below (suc fuel) w le u at y edge = asked_moves w u at y edge (λ s l r z are asked.
      (let below = under laws n.case s w l r are in
      let later = below.earlier in
      let c = worker_at laws n rule (at_side s l r) below.there in
      none_below fuel (at_side s l r) (omega arith) c.0 c.1 z asked))

  pub none_asked : (w : ℕ) → w < length (nodes n.case) → (y : Ask) → slice_get n.edges w ≡ Some (Asked y) → ⊥
  none_asked w lt y edge = let u = worker_at laws n rule w lt in none_below (length (nodes n.case)) w (omega arith) u.0 u.1 y edge
