-- Each step lowers the number of steps that are left.
use Rattle.std.proofs.Common.{◌≡◌, ◌<◌, ◌≤◌, ◌+◌, ◌*◌, ℕ, true, Option, Some, None, List, [], ◌∷◌, length, map, set, refl, sym, ap, subst, ◌∙◌, arith}
use Rattle.std.specs.Prelude.{◌-◌, is_some, not, slice_get, slice_index, option_map}
use Rattle.std.proofs.Math.Nat.{mul-add, mul-one}
use Rattle.std.proofs.lemmas.List.{get_or-set_same, get_or-set_other}
use Rattle.std.proofs.lemmas.Option.{slice_get_within, slice_get-map}
use Rattle.flu_lemmas.proofs.Tests.{and_left, and_right}
use Rattle.flu_model.specs.declared.events.Itag.{Itag}
use Rattle.flu_model.specs.Itags.{count_of_itags}
use Rattle.flu_deps.specs.Validated.{owner_in}
use Rattle.flu_fork.specs.declared.content.Content.{Content}
use Rattle.flu_fork.specs.Classes.{itag, own}
use Rattle.flu_fork.specs.Lots.{job, nodes, kids, setting_of}
use Rattle.flu_fork.specs.Settings.{events_at}
use Rattle.flu_worker.specs.declared.hand.Side.{Side}
use Rattle.flu_worker.specs.Hands.{at_side, may_lend, first_hand, after_lend}
use Rattle.flu_worker.specs.Notes.{WorkerNote}
use Rattle.flu_net.specs.declared.edges.Edge.{Edge}
use Rattle.flu_net.specs.declared.edges.Edge.TheVariants.{Home, Lent, Held, Asked, Given}
use Rattle.flu_net.specs.declared.steps.Step.{Step}
use Rattle.flu_net.specs.declared.steps.Step.TheVariants.{Arrive, Handle, Ask, Take, Give, Hold, Lend}
use Rattle.flu_net.specs.Effects.{IsStepOf, Asks, Gives, Handles, Holds, Lends, Takes, Makes, arrived, seeing}
use Rattle.flu_net.specs.Enabled.{by_step, if_there, is_held, may_arrive, may_lend_part}
use Rattle.flu_net.specs.LawsBelow.{LawsBelow}
use Rattle.flu_net.specs.Measure.{counted_in, events_of, items_of, steps_left, steps_on, to_be_lent, uncounted, unseen}
use Rattle.flu_net.specs.Notes.{NetNote, kid_of, edge_below}
use Rattle.flu_net.specs.Rule.{Rule}
use Rattle.flu_net.specs.Runs.{Runs, StepsLower}
use Rattle.flu_net.proofs.Arriving.{fewer, in_seen}
use Rattle.flu_net.proofs.Framing.{under}
use Rattle.flu_net.proofs.Keeping.{known, own_at, own_to}
use Rattle.flu_net.proofs.Measures.{counts_rise, counts_stay, edge_changes, first_lends, left_of, lend_lends, lends}
use Rattle.flu_net.proofs.Measures.{lends_by, lends_is, most_nodes, one_node, shut_lends, take_lends, worker_changes}
use Rattle.flu_net.proofs.Readying.{held_edge, kid_pair, lend_was, ready_shut, there_test}
use Rattle.flu_net.proofs.Reached.{made_rule}
use Rattle.flu_net.proofs.Sizes.{TreesBelow}
use Rattle.flu_net.proofs.Sums.{total_change, total_map, total_same}

left_after : (w : ℕ) (old new : NetNote) (s : IsStepOf w old new) (es : List Edge) → new.edges ≡ es
    → steps_left new ≡ left_of old.case old.seen (set old.workers w s.is) es
left_after w old new s es edges = λ i. left_of (s.case i) (s.seen i) (s.workers i) (edges i)

module _ (laws : LawsBelow) (trees : TreesBelow) (old : NetNote) (rule : Rule old) where
  abbrev k : Content
  k = old.case

  -- ---- one worker and one edge become others, and nothing of its own is counted
  module _ (new : NetNote) (w : ℕ) (s : IsStepOf w old new) where
    was_case : s.was.case ≡ old.case
    was_case = (rule.ties.placed w s.was s.at).case

    was_node : s.was.node ≡ w
    was_node = (rule.ties.placed w s.was s.at).node

    in_tree : w < length (nodes k)
    in_tree = let a = slice_get_within old.workers w s.was s.at in let b = rule.ties.workers_each in omega arith

    lends_was : lends s.was ≡ lends_by k (kids k w) s.was.hand
    lends_was = lends_is k w s.was was_case was_node

    first_was : first_hand (kids s.was.case s.was.node) ≡ first_hand (kids k w)
    first_was = λ i. first_hand (kids (was_case i) (was_node i))

    fewer_left : (v : ℕ) (a b : Edge) → slice_get old.edges v ≡ Some a → new.edges ≡ set old.edges v b
        → ((i : ℕ) → own (job k) (nodes k) w i ≡ true → slice_index s.is.counts i ≡ slice_index s.was.counts i)
        → lends s.is + steps_on k v (Some b) < lends s.was + steps_on k v (Some a) → steps_left new < steps_left old
    fewer_left v a b at edges same less =
        let after = left_after w old new s (set old.edges v b) edges in
        let edge = edge_changes laws trees k old.edges v a b rule.ties.edges_each at in
        let worker = worker_changes laws trees k old.workers w s.was s.is s.at in
        let counts : 5 * length (nodes k) * uncounted k (set old.workers w s.is) ≡ 5 * length (nodes k) * uncounted k old.workers =
        ap (λ u. 5 * length (nodes k) * u) (counts_stay laws trees k old.workers w s.was s.is s.at same) in
        omega arith

  less_hold : (new : NetNote) (w : ℕ) → Holds w old new → steps_left new < steps_left old
  less_hold new w h =
      let s = h.step in
      let shut = ready_shut laws old rule w s.was s.at h.lot h.lent in
      let none : lends s.was ≡ 0 = lends_was new w s ∙ shut_lends k (kids k w) s.was.hand shut in
      let now : lends s.is ≡ lends_by k (kids k w) (first_hand (kids k w)) =
      lends_is k w s.is (h.does.place.case ∙ was_case new w s) (h.does.place.node ∙ was_node new w s)
      ∙ ap (lends_by k (kids k w)) (h.does.hand ∙ first_was new w s) in
      let most = first_lends laws trees k w (in_tree new w s) in
      fewer_left new w s w (Lent h.lot) Held h.lent h.edges (λ i mine. h.does.counts_own i (own_to k w s.was i (was_case new w s) (was_node new w s) mine))
      (omega arith)

  less_give : (new : NetNote) (w : ℕ) → Gives w old new → steps_left new < steps_left old
  less_give new w h =
      let s = h.step in
      let none : lends s.was ≡ 0 = lends_was new w s ∙ ap (lends_by k (kids k w)) h.does.hand_was in
      let now : lends s.is ≡ 0 =
      lends_is k w s.is (h.does.place.case ∙ was_case new w s) (h.does.place.node ∙ was_node new w s) ∙ ap (lends_by k (kids k w)) h.does.hand in
      fewer_left new w s w (Asked h.ask) (Given h.lot) h.asked h.edges (λ i mine. ap (λ c. slice_index c i) h.does.counts) (omega arith)

  less_take : (new : NetNote) (w : ℕ) (side : Side) → Takes w side old new → steps_left new < steps_left old
  less_take new w side h =
      let s = h.step in
      let now : lends s.is ≡ lends s.was =
      lends_is k w s.is (h.does.place.case ∙ was_case new w s) (h.does.place.node ∙ was_node new w s) ∙ ap (lends_by k (kids k w)) h.does.hand
      ∙ take_lends k (kids k w) side s.was.hand ∙ sym (lends_was new w s) in
      fewer_left new w s h.kid (Given h.lot) Home h.given h.edges (λ i mine. ap (λ c. slice_index c i) h.does.counts) (omega arith)

  less_ask : (new : NetNote) (w : ℕ) (side : Side) → is_held (edge_below old w side) ≡ true → Asks w side old new → steps_left new < steps_left old
  less_ask new w side held h =
      let s = h.step in
      let now : lends s.is ≡ lends s.was = ap lends h.does.rest in
      fewer_left new w s h.kid Held (Asked h.target) (held_edge old.edges (kid_of k w side) h.kid h.is_kid held) h.edges
      (λ i mine. ap (λ (x : WorkerNote). slice_index x.counts i) h.does.rest) (omega arith)

  less_lend : (new : NetNote) (w : ℕ) (side : Side) → may_lend_part old w side ≡ true → Lends w side old new → steps_left new < steps_left old
  less_lend new w side may h =
      let s = h.step in
      let pair = kid_pair k w h.kid side h.is_kid in
      let passes : if_there (λ (x : WorkerNote). may_lend side x.hand) (slice_get old.workers w) ≡ true = and_right (is_some (kid_of k w side)) _ may in
      let lending = there_test (λ (x : WorkerNote). may_lend side x.hand) (slice_get old.workers w) s.was s.at passes in
      let there = (under laws k side w pair.0 pair.1 pair.2).there in
      let same : h.kid ≡ at_side side pair.0 pair.1 = pair.3 in
      let some = one_node laws trees k h.kid (omega arith) in
      let before : lends s.was ≡ lends_by k (Some (pair.0, pair.1)) s.was.hand = lends_was new w s ∙ ap (λ o. lends_by k o s.was.hand) pair.2 in
      let now : lends s.is ≡ lends_by k (Some (pair.0, pair.1)) (after_lend side s.was.hand) =
      lends_is k w s.is (h.does.place.case ∙ was_case new w s) (h.does.place.node ∙ was_node new w s) ∙ (λ i. lends_by k (pair.2 i) (h.does.hand i)) in
      let part = lend_lends k pair.0 pair.1 h.kid side s.was.hand lending (ap Some (sym same)) in
      fewer_left new w s h.kid Home (Lent h.lot) (lend_was laws old rule w s.was s.at h.kid side h.is_kid lending) h.edges
      (λ i mine. ap (λ c. slice_index c i) h.does.counts) (omega arith)

  -- ---- an event is handled
  less_handle : (new : NetNote) (w : ℕ) → Handles w old new → steps_left new < steps_left old
  less_handle new w h =
      let s = h.step in
      let none : lends s.was ≡ 0 = lends_was new w s ∙ ap (lends_by k (kids k w)) h.does.hand_was in
      let now : lends s.is ≡ lends_by k (kids k w) (first_hand (kids k w)) =
      lends_is k w s.is (h.does.place.case ∙ was_case new w s) (h.does.place.node ∙ was_node new w s)
      ∙ ap (lends_by k (kids k w)) (h.does.hand ∙ first_was new w s) in
      let first = first_lends laws trees k w (in_tree new w s) in
      let most = most_nodes laws trees k w in
      let worker = worker_changes laws trees k old.workers w s.was s.is s.at in
      let after = left_after w old new s old.edges h.edges in
      let rise = counts_rise laws trees k old.workers w s.was s.is s.at h.event.itag.0 h.event.index is_known mine h.counts.next there h.counts.counts in
      let product : 5 * length (nodes k) * (uncounted k (set old.workers w s.is) + 1) ≡ 5 * length (nodes k) * uncounted k old.workers =
      ap (λ u. 5 * length (nodes k) * u) rise in
      let split = mul-add (5 * length (nodes k)) (uncounted k (set old.workers w s.is)) 1 in
      let one = mul-one (5 * length (nodes k)) in
      omega arith
    where
      mine : own (job k) (nodes k) w h.event.itag.0 ≡ true
      mine = own_at k w h.step.was h.event.itag.0 (was_case new w h.step) (was_node new w h.step) h.does.owned

      is_known : h.event.itag.0 < count_of_itags (job k)
      is_known = known laws k old.workers old.outs rule.tells w h.step.was h.step.is h.step.at h.event new.outs h.counts mine

      stands : slice_get (events_at (setting_of k) h.counts.moment.event.itag.0) h.counts.moment.index ≡ Some h.counts.moment.event
      stands = laws.events (setting_of k) h.counts.front h.counts.back h.counts.moment (laws.settings k) h.counts.stands

      there : h.event.index < events_of k h.event.itag.0
      there =
          let lt = slice_get_within (events_at (setting_of k) h.counts.moment.event.itag.0) h.counts.moment.index h.counts.moment.event stands in
          let index = h.counts.index in
          let same : events_of k h.counts.moment.event.itag.0 ≡ events_of k h.event.itag.0 = ap (λ (i : Itag). events_of k i.0) h.counts.itag in
          omega arith

  -- ---- an item is seen
  module _ (i : Itag) (may : may_arrive old i ≡ true) where
    abbrev one_more : ℕ
    one_more = slice_index old.seen i.0 + 1

    unseen_less : unseen k (set old.seen i.0 one_more) + 1 ≡ unseen k old.seen
    unseen_less =
        let long = rule.seen.one_each in
        let within = in_seen old rule i may in
        let some = fewer old rule i may in
        let change =
        total_change (λ j. items_of k j - slice_index (set old.seen i.0 one_more) j) (λ j. items_of k j - slice_index old.seen j) 0 (count_of_itags (job k)) i.0
        (omega arith) (omega arith) (λ j high apart. ap (λ c. items_of k j - c) (get_or-set_other old.seen i.0 j one_more 0 apart)) in
        let here = get_or-set_same old.seen i.0 one_more 0 within in
        omega arith

    counted_seen : (j : ℕ) (o : Option WorkerNote) → counted_in (option_map (seeing i.0 one_more) o) j ≡ counted_in o j
    counted_seen j None = refl
    counted_seen j (Some v) = refl

    uncounted_seen : uncounted k (map (seeing i.0 one_more) old.workers) ≡ uncounted k old.workers
    uncounted_seen = total_same
        (λ j. events_of k j - counted_in (slice_get (map (seeing i.0 one_more) old.workers) (owner_in k.valid (itag j))) j)
        (λ j. events_of k j - counted_in (slice_get old.workers (owner_in k.valid (itag j))) j) 0 (count_of_itags (job k))
        (λ j low high. ap (λ c. events_of k j - c)
        (ap (λ o. counted_in o j) (slice_get-map (seeing i.0 one_more) old.workers (owner_in k.valid (itag j)))
        ∙ counted_seen j (slice_get old.workers (owner_in k.valid (itag j)))))

    lent_seen : to_be_lent (map (seeing i.0 one_more) old.workers) ≡ to_be_lent old.workers
    lent_seen = total_map lends (seeing i.0 one_more) old.workers

    less_arrive : steps_left (arrived old i) < steps_left old
    less_arrive =
        let a = unseen_less in
        let b : 5 * length (nodes k) * uncounted k (map (seeing i.0 one_more) old.workers) ≡ 5 * length (nodes k) * uncounted k old.workers =
        ap (λ u. 5 * length (nodes k) * u) uncounted_seen in
        let c = lent_seen in
        omega arith

pub lessens : LawsBelow → TreesBelow → StepsLower
lessens laws trees s old new rule step = by s (and_right (not old.gone) _ step.enabled) step.made
  where
    by : (s : Step) → by_step old s ≡ true → Makes s old new → steps_left new < steps_left old
    by (Arrive i) may m = subst (λ x. steps_left x < steps_left old) (sym m) (less_arrive laws trees old rule i may)
    by (Handle w) may m = less_handle laws trees old rule new w m
    by (Ask w side) may m = less_ask laws trees old rule new w side (and_left _ _ may) m
    by (Take w side) may m = less_take laws trees old rule new w side m
    by (Give w) may m = less_give laws trees old rule new w m
    by (Hold w) may m = less_hold laws trees old rule new w m
    by (Lend w side) may m = less_lend laws trees old rule new w side may m

-- as many steps as a run has are fewer left behind it
pub run_lowers : LawsBelow → TreesBelow → (steps : List Step) (old new : NetNote) → Rule old → Runs steps old new → length steps + steps_left new ≤ steps_left old
run_lowers laws trees [] old new rule run = let same : steps_left new ≡ steps_left old = ap steps_left run in omega arith
run_lowers laws trees (s ∷ steps) old new rule run =
    let less = lessens laws trees s old run.0 rule run.1 in
    let rest = run_lowers laws trees steps run.0 new (made_rule laws s old run.0 rule run.1) run.2 in
    omega arith
