-- The combined fold gives the fold: event by event, and from the opening state on.
use Rattle.std.proofs.Common.{◌≡◌, ◌<◌, ℕ, Bool, true, false, cond, not, List, [], ◌∷◌, ◌++◌, append_assoc, ◌⊎◌, inl, inr, refl, sym, ap, subst, ◌∙◌, None}
use Rattle.std.specs.Prelude.{Option, map, ◌||◌}
use Rattle.std.specs.List.{list_any, filter, AllByRecursion}
use Rattle.std.specs.List.Sorted.{IsPermutation}
use Rattle.std.proofs.lemmas.Bool.{cases_Bool, or_left, or_right}
use Rattle.std.proofs.lemmas.List.{append-nil}
use Rattle.std.proofs.lemmas.List.Sorted.{IsPermutation-trans}
use Rattle.flu_lemmas.proofs.Tests.{not_both, false_if_not}
use Rattle.flu_model.specs.declared.events.Cell.{Cell}
use Rattle.flu_model.specs.declared.events.Event.{Event}
use Rattle.flu_model.specs.declared.events.Out.{Out}
use Rattle.flu_model.specs.declared.events.Worth.{Worth}
use Rattle.flu_model.specs.declared.jobs.Program.{Program}
use Rattle.flu_model.specs.declared.plans.Node.{Node}
use Rattle.flu_model.specs.Contents.{Contents, join, joined_worth}
use Rattle.flu_model.specs.Folding.{outputs_with, state_after, outputs_of}
use Rattle.flu_model.specs.Itags.{count_of_itags}
use Rattle.flu_model.specs.Sorts.{IsStateOf}
use Rattle.flu_model.specs.Updates.{effect_of, Effect}
use Rattle.flu_laws.specs.Consistency.{outside}
use Rattle.flu_laws.specs.Uses.{writes, mode_at}
use Rattle.flu_deps.specs.Trees.{AreApart}
use Rattle.flu_apart.specs.Classes.{is_used}
use Rattle.flu_contribution.specs.Contributions.{keeps, is_inside, is_above, opened, contributions}
use Rattle.flu_contribution.specs.Combining.{Combined, Queue, with_effect, combined_from, is_of_none, is_kept_by_one, combined}
use Rattle.flu_contribution.specs.Laws.{NoneIsWithin, IsApart, AreNodesApart, AreInRange, GivesTheFold}
use Rattle.flu_contribution.proofs.Needed.{taken, passed}
use Rattle.flu_contribution.proofs.Using.{Known, written_is_used, kept_unused, used_elsewhere, keeps_used}
use Rattle.flu_contribution.proofs.States.{Open, total, joined_if, outer, stepped, closed_into, Holds, AllHold, AllApart, AllFree, AllElsewhere, stepped_node}
use Rattle.flu_contribution.proofs.States.{outside_holds, within_holds, closed_holds, stepped_hold, closed_total, outside_total, all_neutral}
use Rattle.flu_contribution.proofs.Outputs.{outs, closed_outs, behind, outs_pass, outs_closed, is_same}
use Rattle.flu_contribution.proofs.Steps.{is_in_one, queue_at, quiet_queues, shifted_queues, firsts_closed, ends_joined, InsideStep, inside_step, turned}

cond_none : (b : Bool) (v : Option Worth) → v ≡ None → cond b None v ≡ None
cond_none true v e = refl
cond_none false v e = e

joined_if_none : (b : Bool) (r k : Contents) (c : Cell) → r c ≡ None → k c ≡ None → joined_if b r k c ≡ None
joined_if_none true r k c e f = ap (λ v. joined_worth v (k c)) e ∙ f
joined_if_none false r k c e f = e

module _ (p : Program) (nodes : List Node) (known : Known p nodes) where
  -- ---- what nodes keep stays out of the combined state
  Beside : ℕ → Open → Type 0
  Beside w o = (o.node ≡ w) ⊎ AreApart nodes w o.node

  outer_none : (w : ℕ) (c : Cell) (o : Open) → keeps p nodes w c ≡ true → Holds p nodes o → Beside w o → outer p nodes o c ≡ None
  unfolding Beside
  outer_none w c o kept h (inl same) = ap (λ b. cond b None (o.part.cells c)) (ap (λ n. keeps p nodes n c) same ∙ kept)
  outer_none w c o kept h (inr apart) =
      let unused : is_used p nodes o.node c ≡ false =
      false_if_not _ (λ used. not_both _ kept (used_elsewhere p nodes known o.node w c (turned p nodes known w o.node apart) used)) in
      cond_none (keeps p nodes o.node c) (o.part.cells c) (h.support c unused)

  closed_free : (w : ℕ) (c : Cell) (x : Event) (r : Contents) (os : List Open) → keeps p nodes w c ≡ true → r c ≡ None → AllHold p nodes os
      → AllByRecursion (Beside w) os → closed_into p nodes x r os c ≡ None
  closed_free w c x r [] kept e h beside = e
  closed_free w c x r (o ∷ os) kept e h beside =
      let b = is_above p nodes o.node x in
      closed_free w c x (joined_if b r (outer p nodes o)) os kept
      (joined_if_none b r (outer p nodes o) c e (outer_none w c o kept h.0 beside.0)) h.1 beside.1

  beside_front : (w : ℕ) (qs : List Open) → AllByRecursion (λ (q : Open). AreApart nodes w q.node) qs → AllByRecursion (Beside w) qs
  unfolding Beside
  beside_front w [] h = tt
  beside_front w (q ∷ qs) h = (inr h.0, beside_front w qs h.1)

  beside_more : (o : Open) (qs os : List Open) → AllByRecursion (λ (q : Open). AreApart nodes o.node q.node) qs
      → AllByRecursion (λ (q : Open). AllByRecursion (Beside q.node) os) qs → AllByRecursion (λ (q : Open). AllByRecursion (Beside q.node) (o ∷ os)) qs
  unfolding Beside
  beside_more o [] os a h = tt
  beside_more o (q ∷ qs) os a h = ((inr (turned p nodes known o.node q.node a.0), h.0), beside_more o qs os a.1 h.1)

  all_beside : (os : List Open) → AllApart p nodes os → AllByRecursion (λ (q : Open). AllByRecursion (Beside q.node) os) os
  unfolding Beside
  all_beside [] a = tt
  all_beside (o ∷ os) a = ((inl refl, beside_front o.node os a.0), beside_more o os os a.0 (all_beside os a.1))

  free_step : (x : Event) (r : Contents) (os qs : List Open) → x.itag.0 < count_of_itags p → AllHold p nodes os → AllFree p nodes r qs
      → AllByRecursion (λ (q : Open). AllByRecursion (Beside q.node) os) qs → AllElsewhere p nodes x qs
      → AllFree p nodes (effect_of p (closed_into p nodes x r os) x).cells (map (stepped p nodes x) qs)
  free_step x r os [] lt h free beside out = tt
  free_step x r os (q ∷ qs) lt h free beside out = (
    λ c stays.
        let kept : keeps p nodes q.node c ≡ true = ap (λ n. keeps p nodes n c) (sym (stepped_node p nodes known x q)) ∙ stays in
        let unwritten : writes (mode_at p x c) ≡ false =
        false_if_not _ (λ g. not_both _ kept (kept_unused p nodes q.node x.itag.0 c lt out.0 (written_is_used (mode_at p x c) g))) in
        known.lawful.next_leaves (closed_into p nodes x r os) x c unwritten ∙ closed_free q.node c x r os kept (free.0 c kept) h beside.0,
    free_step x r os qs lt h free.1 beside.1 out.1,
  )

  free_stays : (x : Event) (r : Contents) (qs : List Open) → AllFree p nodes r qs → AllFree p nodes r (map (stepped p nodes x) qs)
  free_stays x r [] free = tt
  free_stays x r (q ∷ qs) free =
      (λ c stays. free.0 c (ap (λ n. keeps p nodes n c) (sym (stepped_node p nodes known x q)) ∙ stays), free_stays x r qs free.1)

  apart_from : (x : Event) (w v : ℕ) (qs : List Open) → v ≡ w → AllByRecursion (λ (q : Open). AreApart nodes w q.node) qs
      → AllByRecursion (λ (q : Open). AreApart nodes v q.node) (map (stepped p nodes x) qs)
  apart_from x w v [] e a = tt
  apart_from x w v (q ∷ qs) e a =
      (subst (λ n. AreApart nodes v n) (sym (stepped_node p nodes known x q)) (subst (λ n. AreApart nodes n q.node) (sym e) a.0), apart_from x w v qs e a.1)

  apart_stays : (x : Event) (os : List Open) → AllApart p nodes os → AllApart p nodes (map (stepped p nodes x) os)
  apart_stays x [] a = tt
  apart_stays x (o ∷ os) a = (apart_from x o.node (stepped p nodes x o).node os (stepped_node p nodes known x o) a.0, apart_stays x os a.1)

  pub nodes_stay : (x : Event) (os : List Open) → map (λ (o : Open). o.node) (map (stepped p nodes x) os) ≡ map (λ (o : Open). o.node) os
  nodes_stay x [] = refl
  nodes_stay x (o ∷ os) = let here = stepped_node p nodes known x o in let more = nodes_stay x os in λ j. here j ∷ more j

  -- ---- what holds between events
  pub record Good (r : Contents) (os : List Open) : Type 0 where
    pub sorts : IsStateOf p.families r
    pub hold : AllHold p nodes os
    pub apart : AllApart p nodes os
    pub free : AllFree p nodes r os

  pub good_inside : (x : Event) (r : Contents) (os : List Open) → x.itag.0 < count_of_itags p → Good r os → Good r (map (stepped p nodes x) os)
  good_inside x r os lt g = record {
    sorts = g.sorts;
    hold = stepped_hold p nodes known x os lt g.hold;
    apart = apart_stays x os g.apart;
    free = free_stays x r os g.free;
  }

  pub good_outside : (x : Event) (r : Contents) (os : List Open) → x.itag.0 < count_of_itags p → AllElsewhere p nodes x os → Good r os
      → Good (effect_of p (closed_into p nodes x r os) x).cells (map (stepped p nodes x) os)
  good_outside x r os lt out g = record {
    sorts = known.lawful.next_holds (closed_into p nodes x r os) x (closed_holds p nodes known x r os g.sorts g.hold);
    hold = stepped_hold p nodes known x os lt g.hold;
    apart = apart_stays x os g.apart;
    free = free_step x r os os lt g.hold g.free (all_beside os g.apart) out;
  }

  -- ---- the events one by one
  -- from a state and with outputs before, the events end so
  pub record Gives (xs : List Event) (s : Contents) (b : List Out) (result : Combined) : Type 0 where
    pub cells : result.cells ≡ state_after p s xs
    pub outputs : IsPermutation (b ++ outputs_of p s xs) result.outputs

  pub all_elsewhere : (x : Event) (os : List Open) → is_in_one p nodes x os ≡ false → AllElsewhere p nodes x os
  all_elsewhere x [] e = tt
  all_elsewhere x (o ∷ os) e = (
    false_if_not _ (λ h. not_both _ (or_left (is_inside p nodes o.node x) (is_in_one p nodes x os) h) e),
    all_elsewhere x os (false_if_not _ (λ h. not_both _ (or_right (is_inside p nodes o.node x) (is_in_one p nodes x os) h) e)),
  )

  any_node : (x : Event) (os : List Open) → list_any (λ w. is_inside p nodes w x) (map (λ (o : Open). o.node) os) ≡ is_in_one p nodes x os
  any_node x [] = refl
  any_node x (o ∷ os) = let more = any_node x os in ap (λ b. is_inside p nodes o.node x || b) more

  pub none_by : (x : Event) (os : List Open) (ws : List ℕ) (b : Bool) → map (λ (o : Open). o.node) os ≡ ws → is_in_one p nodes x os ≡ b
      → is_of_none p nodes ws x ≡ not b
  none_by x os ws b e f = ap not (ap (list_any (λ w. is_inside p nodes w x)) (sym e) ∙ any_node x os ∙ f)

  after_inside : (x : Event) (xs : List Event) (r : Contents) (b : List Out) (os : List Open) (result : Combined) → InsideStep p nodes known x r os
      → Gives xs (total r (map (stepped p nodes x) os)) (outs b (map (stepped p nodes x) os)) result → Gives (x ∷ xs) (total r os) (outs b os) result
  after_inside x xs r b os result step more =
      let e = effect_of p (total r os) x in
      let out = outputs_with p x e.texts in
      let rest = outputs_of p e.cells xs in
      record {
        cells = more.cells ∙ ap (λ s. state_after p s xs) (sym step.cells);
        outputs =
            subst (λ l. IsPermutation l result.outputs) (append_assoc (outs b os) out rest)
            (IsPermutation-trans _ _ _ (behind (outs b os ++ out) (outs b (map (stepped p nodes x) os)) rest (step.outputs b))
            (subst (λ s. IsPermutation (outs b (map (stepped p nodes x) os) ++ outputs_of p s xs) result.outputs) (sym step.cells) more.outputs));
      }

  after_outside : (x : Event) (xs : List Event) (r : Contents) (b : List Out) (os : List Open) (result : Combined) → x.itag.0 < count_of_itags p
      → AllElsewhere p nodes x os → Good r os
      → (let k = effect_of p (closed_into p nodes x r os) x in
      Gives xs (total k.cells (map (stepped p nodes x) os))
      (outs (closed_outs p nodes x b os ++ outputs_with p x k.texts) (map (stepped p nodes x) os)) result)
      → Gives (x ∷ xs) (total r os) (outs b os) result
  after_outside x xs r b os result lt out g more =
      let after = map (stepped p nodes x) os in
      let k = effect_of p (closed_into p nodes x r os) x in
      let texts = outputs_with p x k.texts in
      let rest = outputs_of p (total k.cells after) xs in
      let co = closed_outs p nodes x b os in
      let whole : total r os ≡ total (closed_into p nodes x r os) after = λ j c. sym (closed_total p nodes known x r os c lt g.sorts g.hold out) j in
      let update : effect_of p (total r os) x ≡ record { cells = total k.cells after; texts = k.texts } =
      ap (λ s. effect_of p s x) whole
      ∙ outside_total p nodes known x (closed_into p nodes x r os) after lt (closed_holds p nodes known x r os g.sorts g.hold)
      (stepped_hold p nodes known x os lt g.hold) (all_neutral p nodes known x os lt g.hold out) in
      record {
        cells = more.cells ∙ ap (λ (e : Effect). state_after p e.cells xs) (sym update);
        outputs =
            subst (λ (e : Effect). IsPermutation (outs b os ++ (outputs_with p x e.texts ++ outputs_of p e.cells xs)) result.outputs) (sym update)
            (subst (λ l. IsPermutation l result.outputs) (append_assoc (outs b os) texts rest)
            (IsPermutation-trans _ _ _
            (behind (outs b os ++ texts) (outs (co ++ texts) after) rest
            (IsPermutation-trans _ _ _ (behind (outs b os) (outs co after) texts (outs_closed p nodes x b os out)) (outs_pass co texts after)))
            more.outputs));
      }

  pub gives : (xs : List Event) (r : Combined) (os : List Open) (ws : List ℕ) → map (λ (o : Open). o.node) os ≡ ws → Good r.cells os → AreInRange p xs
      → Gives xs (total r.cells os) (outs r.outputs os) (combined_from p nodes r (map (queue_at p nodes xs) os) (filter (is_of_none p nodes ws) xs))
  gives [] r os ws e g range =
      subst (Gives [] (total r.cells os) (outs r.outputs os)) (sym (ends_joined p nodes r os))
      (record { cells = refl; outputs = is_same (outs r.outputs os ++ []) (outs r.outputs os) (append-nil (outs r.outputs os)) })
  gives (x ∷ xs) r os ws e g range =
      let after = map (stepped p nodes x) os in
      let same : map (λ (o : Open). o.node) after ≡ ws = nodes_stay x os ∙ e in
      let test = is_of_none p nodes ws in
      elim (cases_Bool (is_in_one p nodes x os)) [
        | inl some ↦
            let step = inside_step p nodes known x r.cells os range.0 g.sorts g.hold g.apart g.free some in
            let queues = quiet_queues p nodes x xs os step.quiet in
            let events = passed test x xs (none_by x os ws true e some) in
            let path : combined_from p nodes r (map (queue_at p nodes (x ∷ xs)) os) (filter test (x ∷ xs))
            ≡ combined_from p nodes r (map (queue_at p nodes xs) after) (filter test xs) = λ j. combined_from p nodes r (queues j) (events j) in
            subst (Gives (x ∷ xs) (total r.cells os) (outs r.outputs os)) (sym path)
            (after_inside x xs r.cells r.outputs os _ step (gives xs r after ws same (good_inside x r.cells os range.0 g) range.1))
        | inr none ↦
            let out = all_elsewhere x os none in
            let k = effect_of p (closed_into p nodes x r.cells os) x in
            let next : Combined = record { cells = k.cells; outputs = closed_outs p nodes x r.outputs os ++ outputs_with p x k.texts } in
            let queues = shifted_queues p nodes x xs os out in
            let firsts = firsts_closed p nodes x xs r os out in
            let events = taken test x xs (none_by x os ws false e none) in
            let path : combined_from p nodes r (map (queue_at p nodes (x ∷ xs)) os) (filter test (x ∷ xs))
            ≡ combined_from p nodes next (map (queue_at p nodes xs) after) (filter test xs) =
            ap (combined_from p nodes r (map (queue_at p nodes (x ∷ xs)) os)) events
            ∙ (λ j. combined_from p nodes (with_effect p (firsts j) x) (queues j) (filter test xs)) in
            subst (Gives (x ∷ xs) (total r.cells os) (outs r.outputs os)) (sym path)
            (after_outside x xs r.cells r.outputs os _ range.0 out g (gives xs next after ws same (good_outside x r.cells os range.0 out g) range.1))
      ]

  -- ---- the opening
  abbrev pub start : Contents → ℕ → Open
  start opening w = record { node = w; part = opened p nodes w opening }

  none_holds : (opening r : Contents) (ws : List ℕ) (c : Cell) → is_kept_by_one p nodes ws c ≡ false → total r (map (start opening) ws) c ≡ r c
  none_holds opening r [] c e = refl
  none_holds opening r (w ∷ ws) c e =
      let here : keeps p nodes w c ≡ false = false_if_not _ (λ h. not_both _ (or_left (keeps p nodes w c) (is_kept_by_one p nodes ws c) h) e) in
      let later : is_kept_by_one p nodes ws c ≡ false = false_if_not _ (λ h. not_both _ (or_right (keeps p nodes w c) (is_kept_by_one p nodes ws c) h) e) in
      none_holds opening (join r (opened p nodes w opening).cells) ws c later
      ∙ ap (λ b. joined_worth (r c) (cond b (opening c) None)) here
      ∙ known.lawful.mix_right (r c)

  others_hold_not : (w : ℕ) (ws : List ℕ) (c : Cell) → keeps p nodes w c ≡ true → AllByRecursion (AreApart nodes w) ws → is_kept_by_one p nodes ws c ≡ false
  others_hold_not w [] c kept a = refl
  others_hold_not w (v ∷ ws) c kept a =
      ap (λ b. b || is_kept_by_one p nodes ws c) (used_elsewhere p nodes known w v c a.0 (keeps_used p nodes known w c kept))
      ∙ others_hold_not w ws c kept a.1

  one_holds : (opening r : Contents) (ws : List ℕ) (c : Cell) → NoneIsWithin nodes ws → is_kept_by_one p nodes ws c ≡ true → r c ≡ None
      → total r (map (start opening) ws) c ≡ opening c
  one_holds opening r [] c a e f = cc
  one_holds opening r (w ∷ ws) c a e f =
      elim (cases_Bool (keeps p nodes w c)) [
        | inl kept ↦
            none_holds opening (join r (opened p nodes w opening).cells) ws c (others_hold_not w ws c kept a.0)
            ∙ ap (λ v. joined_worth v (cond (keeps p nodes w c) (opening c) None)) f
            ∙ ap (λ b. cond b (opening c) None) kept
        | inr other ↦
            one_holds opening (join r (opened p nodes w opening).cells) ws c a.1
            (sym (ap (λ b. b || is_kept_by_one p nodes ws c) other) ∙ e)
            (ap (λ v. joined_worth v (cond (keeps p nodes w c) (opening c) None)) f ∙ ap (λ b. cond b (opening c) None) other)
      ]

  opening_total : (opening : Contents) (ws : List ℕ) → NoneIsWithin nodes ws
      → total (outside (is_kept_by_one p nodes ws) opening) (map (start opening) ws) ≡ opening
  opening_total opening ws a = λ j c. at c j
    where
      at : (c : Cell) → total (outside (is_kept_by_one p nodes ws) opening) (map (start opening) ws) c ≡ opening c
      at c =
          elim (cases_Bool (is_kept_by_one p nodes ws c)) [
            | inl some ↦ one_holds opening (outside (is_kept_by_one p nodes ws) opening) ws c a some (ap (λ b. cond b None (opening c)) some)
            | inr none ↦ none_holds opening (outside (is_kept_by_one p nodes ws) opening) ws c none ∙ ap (λ b. cond b None (opening c)) none
          ]

  starts_hold : (opening : Contents) (ws : List ℕ) → IsStateOf p.families opening → AllByRecursion (IsApart p nodes) ws
      → AllHold p nodes (map (start opening) ws)
  starts_hold opening [] sorts each = tt
  starts_hold opening (w ∷ ws) sorts each = (
    record {
      apart = each.0;
      sorts = within_holds p nodes known (keeps p nodes w) opening sorts;
      support = λ c unused. ap (λ b. cond b (opening c) None) (false_if_not _ (λ h. not_both _ (keeps_used p nodes known w c h) unused));
    },
    starts_hold opening ws sorts each.1,
  )

  apart_start : (opening : Contents) (w : ℕ) (ws : List ℕ) → AllByRecursion (AreApart nodes w) ws
      → AllByRecursion (λ (q : Open). AreApart nodes w q.node) (map (start opening) ws)
  apart_start opening w [] a = tt
  apart_start opening w (v ∷ ws) a = (a.0, apart_start opening w ws a.1)

  starts_apart : (opening : Contents) (ws : List ℕ) → NoneIsWithin nodes ws → AllApart p nodes (map (start opening) ws)
  starts_apart opening [] a = tt
  starts_apart opening (w ∷ ws) a = (apart_start opening w ws a.0, starts_apart opening ws a.1)

  starts_free : (opening r : Contents) (ws : List ℕ) → ((c : Cell) → is_kept_by_one p nodes ws c ≡ true → r c ≡ None)
      → AllFree p nodes r (map (start opening) ws)
  starts_free opening r [] h = tt
  starts_free opening r (w ∷ ws) h = (
    λ c kept. h c (or_left (keeps p nodes w c) (is_kept_by_one p nodes ws c) kept),
    starts_free opening r ws (λ c e. h c (or_right (keeps p nodes w c) (is_kept_by_one p nodes ws c) e)),
  )

  start_outs : (opening : Contents) (ws : List ℕ) → outs [] (map (start opening) ws) ≡ []
  start_outs opening [] = refl
  start_outs opening (w ∷ ws) = start_outs opening ws

  pub start_nodes : (opening : Contents) (ws : List ℕ) → map (λ (o : Open). o.node) (map (start opening) ws) ≡ ws
  start_nodes opening [] = refl
  start_nodes opening (w ∷ ws) = ap (λ l. w ∷ l) (start_nodes opening ws)

  pub start_queues : (opening : Contents) (ws : List ℕ) (xs : List Event)
      → map (queue_at p nodes xs) (map (start opening) ws) ≡ map (λ w. record { node = w; waiting = contributions p nodes w opening xs }) ws
  start_queues opening [] xs = refl
  start_queues opening (w ∷ ws) xs =
      let here : Queue = record { node = w; waiting = contributions p nodes w opening xs } in
      ap (λ l. here ∷ l) (start_queues opening ws xs)

  pub good_start : (ws : List ℕ) (opening : Contents) → IsStateOf p.families opening → AreNodesApart p nodes ws
      → Good (outside (is_kept_by_one p nodes ws) opening) (map (start opening) ws)
  good_start ws opening sorts apart = record {
    sorts = outside_holds p nodes known (is_kept_by_one p nodes ws) opening sorts;
    hold = starts_hold opening ws sorts apart.each;
    apart = starts_apart opening ws apart.none_within;
    free = starts_free opening (outside (is_kept_by_one p nodes ws) opening) ws (λ c e. ap (λ b. cond b None (opening c)) e);
  }

  pub gives_the_fold : (ws : List ℕ) (opening : Contents) (xs : List Event) → IsStateOf p.families opening → AreNodesApart p nodes ws → AreInRange p xs
      → GivesTheFold p nodes ws opening xs
  gives_the_fold ws opening xs sorts apart range =
      let left : Contents = outside (is_kept_by_one p nodes ws) opening in
      let r : Combined = record { cells = left; outputs = [] } in
      let good : Good left (map (start opening) ws) = good_start ws opening sorts apart in
      let all = gives xs r (map (start opening) ws) ws (start_nodes opening ws) good range in
      let state = opening_total opening ws apart.none_within in
      let before = start_outs opening ws in
      let queues = start_queues opening ws xs in
      let result : Gives xs opening [] (combined p nodes ws opening xs) =
      subst (λ (t : Combined). Gives xs opening [] t) (λ j. combined_from p nodes r (queues j) (filter (is_of_none p nodes ws) xs))
      (subst (λ s. Gives xs s [] (combined_from p nodes r (map (queue_at p nodes xs) (map (start opening) ws)) (filter (is_of_none p nodes ws) xs))) state
      (subst (λ b. Gives xs (total left (map (start opening) ws)) b
      (combined_from p nodes r (map (queue_at p nodes xs) (map (start opening) ws)) (filter (is_of_none p nodes ws) xs))) before all)) in
      record { cells = result.cells; outputs = result.outputs }
