-- What nodes send, joined before the events that it names, gives the combined fold.
use Rattle.std.proofs.Common.{◌≡◌, ◌+◌, ℕ, Bool, true, false, cond, not, Option, Some, None, List, [], ◌∷◌, ◌++◌, inl, inr, refl, sym, ap, ◌∙◌, append-nil}
use Rattle.std.proofs.Common.{arith}
use Rattle.std.specs.Prelude.{is_some, ◌==◌, ◌&&◌, map}
use Rattle.std.specs.List.{filter, AllByRecursion}
use Rattle.std.proofs.lemmas.Bool.{cases_Bool}
use Rattle.std.proofs.lemmas.Grind.{common_steps}
use Rattle.flu_lemmas.proofs.Booleans.{and_false}
use Rattle.flu_lemmas.proofs.Elements.{all_map}
use Rattle.flu_lemmas.proofs.Searches.{eq_true}
use Rattle.flu_lemmas.proofs.Tests.{both, true_eq}
use Rattle.flu_model.specs.declared.events.Cell.{Cell}
use Rattle.flu_model.specs.declared.events.Event.{Event}
use Rattle.flu_model.specs.declared.events.Worth.{Worth}
use Rattle.flu_model.specs.declared.jobs.Program.{Program}
use Rattle.flu_model.specs.declared.plans.Node.{Node}
use Rattle.flu_model.specs.Contents.{Contents, join, joined_worth}
use Rattle.flu_model.specs.Folding.{outputs_with}
use Rattle.flu_model.specs.Merging.{is_before}
use Rattle.flu_model.specs.Sorts.{IsStateOf}
use Rattle.flu_model.specs.Updates.{effect_of}
use Rattle.flu_contribution.specs.Contributions.{keeps, is_inside, is_above, Contribution, opened, closed, with_event, contributions_from, contributions}
use Rattle.flu_contribution.specs.Combining.{Combined, Queue, with_first, without_first, with_contribution, with_effect, combined_from, is_of_none, combined}
use Rattle.flu_contribution.specs.Laws.{AreNodesApart, AreInRange}
use Rattle.flu_contribution.specs.Sending.{is_idle, sent, is_named, is_due, with_due, without_due, with_last, joined_from, start_of}
use Rattle.flu_contribution.specs.Sharing.{RiseStrictly}
use Rattle.flu_contribution.proofs.Needed.{taken, passed, next_inside, next_above, next_other}
use Rattle.flu_contribution.proofs.Outputs.{outs, added_if, closed_outs}
use Rattle.flu_contribution.proofs.States.{Open, total, joined_if, outer, step_by, stepped, closed_into, AllElsewhere}
use Rattle.flu_contribution.proofs.Steps.{is_in_one, AllQuiet, waiting_at, waiting_by, queue_at, quiet_queues, shifted_queues, firsts_closed, ends_joined}
use Rattle.flu_contribution.proofs.Steps.{inside_step}
use Rattle.flu_contribution.proofs.Using.{Known}
use Rattle.flu_contribution.proofs.Whole.{Good, good_inside, good_outside, all_elsewhere, none_by, nodes_stay, start, start_nodes, start_queues, good_start}

-- ---- which contributions are sent
-- the other event is not the one that is named
abbrev IsOther : Event → Event → Type 0
IsOther x y = is_named (Some y) x ≡ false

later_other : (x y : Event) → is_before x y ≡ true → IsOther x y
later_other x y e = grind (arith, common_steps)

names_itself : (x : Event) → is_named (Some x) x ≡ true
names_itself x = both (x.time == x.time) (x.itag.0 == x.itag.0) (eq_true x.time x.time refl) (eq_true x.itag.0 x.itag.0 refl)

pub sent_idle : (k : Contribution) (ks : List Contribution) → is_idle k ≡ true → sent (k ∷ ks) ≡ sent ks
sent_idle k ks e = ap (λ b. cond (not b) (k ∷ sent ks) (sent ks)) e

sent_busy : (k : Contribution) (ks : List Contribution) → is_idle k ≡ false → sent (k ∷ ks) ≡ k ∷ sent ks
sent_busy k ks e = ap (λ b. cond (not b) (k ∷ sent ks) (sent ks)) e

-- the last one is sent in any case
sent_last : (k : Contribution) → k.before ≡ None → sent (k ∷ []) ≡ k ∷ []
sent_last k e = sent_busy k [] (ap (λ o. (k.count == 0) && is_some o) e ∙ and_false (k.count == 0))

module _ (p : Program) (nodes : List Node) where
  -- what is still to be sent names none of the events past
  not_due : (w : ℕ) (k : Contribution) (x : Event) (ys : List Event) → k.before ≡ None → AllByRecursion (IsOther x) ys
      → is_due (sent (contributions_from p nodes w k ys)) x ≡ false
  not_due w k x [] e other = ap (λ l. is_due l x) (sent_last k e) ∙ ap (λ o. is_named o x) e
  not_due w k x (y ∷ ys) e other =
      elim (cases_Bool (is_inside p nodes w y)) [
        | inl inner ↦ ap (λ l. is_due (sent l) x) (next_inside p nodes w k y ys inner) ∙ not_due w (with_event p k y) x ys refl other.1
        | inr out ↦ elim (cases_Bool (is_above p nodes w y)) [
          | inl over ↦
              let rest : List Contribution = contributions_from p nodes w (opened p nodes w k.cells) ys in
              ap (λ l. is_due (sent l) x) (next_above p nodes w k y ys out over)
              ∙ elim (cases_Bool (is_idle (closed p nodes w k y))) as (λ c. is_due (sent (closed p nodes w k y ∷ rest)) x ≡ false) [
                | inl idle ↦
                    ap (λ l. is_due l x) (sent_idle (closed p nodes w k y) rest idle)
                    ∙ not_due w (opened p nodes w k.cells) x ys refl other.1
                | inr busy ↦ ap (λ l. is_due l x) (sent_busy (closed p nodes w k y) rest busy) ∙ other.0
              ]
          | inr not_over ↦ ap (λ l. is_due (sent l) x) (next_other p nodes w k y ys out not_over) ∙ not_due w k x ys e other.1
        ]
      ]

  -- an open contribution of no event has only what the node keeps
  pub record IsFine (o : Open) : Type 0 where
    pub open_yet : o.part.before ≡ None
    pub cells : (o.part.count == 0) ≡ true → (c : Cell) → outer p nodes o c ≡ None
    pub outputs : (o.part.count == 0) ≡ true → o.part.outputs ≡ []

  abbrev AllFine : List Open → Type 0
  AllFine os = AllByRecursion IsFine os

  not_zero : (n : ℕ) → (n + 1 == 0) ≡ true → ⊥
  not_zero n e = let none : n + 1 ≡ 0 = true_eq (n + 1) 0 e in omega (arith, none)

  kept_alone : (b : Bool) (v : Option Worth) → cond b None (cond b v None) ≡ None
  kept_alone true v = refl
  kept_alone false v = refl

  opened_fine : (w : ℕ) (s : Contents) → IsFine (record { node = w; part = opened p nodes w s })
  opened_fine w s = record { open_yet = refl; cells = λ e c. kept_alone (keeps p nodes w c) (s c); outputs = λ e. refl }

  fine_step : (i a : Bool) (x : Event) (o : Open) → IsFine o → IsFine (step_by p nodes i a x o)
  fine_step true a x o fine = record {
    open_yet = refl;
    cells = λ e. absurd (not_zero o.part.count e);
    outputs = λ e. absurd (not_zero o.part.count e);
  }
  fine_step false true x o fine = opened_fine o.node o.part.cells
  fine_step false false x o fine = fine

  all_fine : (x : Event) (os : List Open) → AllFine os → AllFine (map (stepped p nodes x) os)
  all_fine x [] fine = tt
  all_fine x (o ∷ os) fine = (fine_step (is_inside p nodes o.node x) (is_above p nodes o.node x) x o fine.0, all_fine x os fine.1)

  -- ---- queues of what is sent
  abbrev sent_at : List Event → Open → List Contribution
  sent_at xs o = sent (waiting_at p nodes xs o)

  sent_queues : (xs : List Event) (os : List Open) → map (sent_at xs) os ≡ map (λ (q : Queue). sent q.waiting) (map (queue_at p nodes xs) os)
  sent_queues xs [] = refl
  sent_queues xs (o ∷ os) = ap (λ l. sent_at xs o ∷ l) (sent_queues xs os)

  quiet_sent : (x : Event) (xs : List Event) (os : List Open) → AllQuiet p nodes x os
      → map (sent_at (x ∷ xs)) os ≡ map (sent_at xs) (map (stepped p nodes x) os)
  quiet_sent x xs os quiet =
      sent_queues (x ∷ xs) os
      ∙ ap (map (λ (q : Queue). sent q.waiting)) (quiet_queues p nodes x xs os quiet)
      ∙ sym (sent_queues xs (map (stepped p nodes x) os))

  ends_sent : (r : Combined) (os : List Open) → AllFine os
      → with_last r (map (sent_at []) os) ≡ record { cells = total r.cells os; outputs = outs r.outputs os }
  ends_sent r [] fine = refl
  ends_sent r (o ∷ os) fine =
      ap (λ l. with_last (with_first r l) (map (sent_at []) os)) (sent_last o.part fine.0.open_yet)
      ∙ ends_sent (with_contribution r o.part) os fine.1

  module _ (known : Known p nodes) where
    -- to join what nothing contributed to changes nothing
    idle_joined : (r : Combined) (o : Open) → IsFine o → (o.part.count == 0) ≡ true
        → r ≡ record { cells = join r.cells (outer p nodes o); outputs = r.outputs ++ o.part.outputs }
    idle_joined r o fine idle =
        let same : (c : Cell) → joined_worth (r.cells c) (outer p nodes o c) ≡ r.cells c =
        λ c. ap (joined_worth (r.cells c)) (fine.cells idle c) ∙ known.lawful.mix_right (r.cells c) in
        let none : r.outputs ++ o.part.outputs ≡ r.outputs = ap (λ l. r.outputs ++ l) (fine.outputs idle) ∙ append-nil r.outputs in
        sym (λ j. record { cells = λ c. same c j; outputs = none j })

    -- what an event that is not inside does to a queue
    abbrev due : Event → Combined → List Contribution → Combined
    due x r ks = cond (is_due ks x) (with_first r ks) r

    abbrev rest : Event → List Contribution → List Contribution
    rest x ks = cond (is_due ks x) (without_first ks) ks

    due_by : (i a : Bool) (x : Event) (xs : List Event) (o : Open) (r : Combined) → i ≡ false → IsFine o → AllByRecursion (IsOther x) xs
        → due x r (sent (waiting_by p nodes i a x xs o))
        ≡ record { cells = joined_if a r.cells (outer p nodes o); outputs = added_if a r.outputs o.part.outputs }
    due_by true a x xs o r e fine other = cc
    due_by false false x xs o r e fine other =
        let ks : List Contribution = sent (contributions_from p nodes o.node o.part xs) in
        ap (λ b. cond b (with_first r ks) r) (not_due o.node o.part x xs fine.open_yet other)
    due_by false true x xs o r e fine other =
        let k : Contribution = closed p nodes o.node o.part x in
        let ks : List Contribution = contributions_from p nodes o.node (opened p nodes o.node o.part.cells) xs in
        elim (cases_Bool (o.part.count == 0)) [
          | inl idle ↦
              ap (due x r) (sent_idle k ks (ap (λ b. b && true) idle))
              ∙ ap (λ b. cond b (with_first r (sent ks)) r) (not_due o.node (opened p nodes o.node o.part.cells) x xs refl other)
              ∙ idle_joined r o fine idle
          | inr busy ↦
              ap (due x r) (sent_busy k ks (ap (λ b. b && true) busy))
              ∙ ap (λ b. cond b (with_contribution r k) r) (names_itself x)
        ]

    rest_by : (i a : Bool) (x : Event) (xs : List Event) (o : Open) → i ≡ false → IsFine o → AllByRecursion (IsOther x) xs
        → rest x (sent (waiting_by p nodes i a x xs o)) ≡ sent_at xs (step_by p nodes i a x o)
    rest_by true a x xs o e fine other = cc
    rest_by false false x xs o e fine other =
        let ks : List Contribution = sent (contributions_from p nodes o.node o.part xs) in
        ap (λ b. cond b (without_first ks) ks) (not_due o.node o.part x xs fine.open_yet other)
    rest_by false true x xs o e fine other =
        let k : Contribution = closed p nodes o.node o.part x in
        let ks : List Contribution = contributions_from p nodes o.node (opened p nodes o.node o.part.cells) xs in
        elim (cases_Bool (o.part.count == 0)) [
          | inl idle ↦
              ap (rest x) (sent_idle k ks (ap (λ b. b && true) idle))
              ∙ ap (λ b. cond b (without_first (sent ks)) (sent ks)) (not_due o.node (opened p nodes o.node o.part.cells) x xs refl other)
          | inr busy ↦
              ap (rest x) (sent_busy k ks (ap (λ b. b && true) busy))
              ∙ ap (λ b. cond b (sent ks) (k ∷ sent ks)) (names_itself x)
        ]

    due_closed : (x : Event) (xs : List Event) (r : Combined) (os : List Open) → AllElsewhere p nodes x os → AllFine os → AllByRecursion (IsOther x) xs
        → with_due x r (map (sent_at (x ∷ xs)) os)
        ≡ record { cells = closed_into p nodes x r.cells os; outputs = closed_outs p nodes x r.outputs os }
    due_closed x xs r [] out fine other = refl
    due_closed x xs r (o ∷ os) out fine other =
        let i = is_inside p nodes o.node x in
        let a = is_above p nodes o.node x in
        let next : Combined = record { cells = joined_if a r.cells (outer p nodes o); outputs = added_if a r.outputs o.part.outputs } in
        ap (λ t. with_due x t (map (sent_at (x ∷ xs)) os)) (due_by i a x xs o r out.0 fine.0 other)
        ∙ due_closed x xs next os out.1 fine.1 other

    rest_shifted : (x : Event) (xs : List Event) (os : List Open) → AllElsewhere p nodes x os → AllFine os → AllByRecursion (IsOther x) xs
        → without_due x (map (sent_at (x ∷ xs)) os) ≡ map (sent_at xs) (map (stepped p nodes x) os)
    rest_shifted x xs [] out fine other = refl
    rest_shifted x xs (o ∷ os) out fine other =
        let here = rest_by (is_inside p nodes o.node x) (is_above p nodes o.node x) x xs o out.0 fine.0 other in
        let more = rest_shifted x xs os out.1 fine.1 other in
        λ j. here j ∷ more j

    -- ---- event by event
    joined_is : (xs : List Event) (r : Combined) (os : List Open) (ws : List ℕ) → map (λ (o : Open). o.node) os ≡ ws → Good p nodes known r.cells os
        → AllFine os → AreInRange p xs → RiseStrictly xs
        → joined_from p r (map (sent_at xs) os) (filter (is_of_none p nodes ws) xs)
        ≡ combined_from p nodes r (map (queue_at p nodes xs) os) (filter (is_of_none p nodes ws) xs)
    joined_is [] r os ws e g fine range up = ends_sent r os fine ∙ sym (ends_joined p nodes r os)
    joined_is (x ∷ xs) r os ws e g fine range up =
        let after = map (stepped p nodes x) os in
        let same : map (λ (o : Open). o.node) after ≡ ws = nodes_stay p nodes known x os ∙ e in
        let test = is_of_none p nodes ws in
        elim (cases_Bool (is_in_one p nodes x os)) [
          | inl some ↦
              let step = inside_step p nodes known x r.cells os range.0 g.sorts g.hold g.apart g.free some in
              let queues = quiet_queues p nodes x xs os step.quiet in
              let sends = quiet_sent x xs os step.quiet in
              let events = passed test x xs (none_by p nodes known x os ws true e some) in
              (λ j. joined_from p r (sends j) (events j))
              ∙ joined_is xs r after ws same (good_inside p nodes known x r.cells os range.0 g) (all_fine x os fine) range.1 up.1
              ∙ sym (λ j. combined_from p nodes r (queues j) (events j))
          | inr none ↦
              let out = all_elsewhere p nodes known x os none in
              let other = all_map (λ (y : Event). is_before x y ≡ true) (IsOther x) xs (λ y before. later_other x y before) up.0 in
              let k = effect_of p (closed_into p nodes x r.cells os) x in
              let next : Combined = record { cells = k.cells; outputs = closed_outs p nodes x r.outputs os ++ outputs_with p x k.texts } in
              let queues = shifted_queues p nodes x xs os out in
              let firsts = firsts_closed p nodes x xs r os out in
              let sends = rest_shifted x xs os out fine other in
              let dues = due_closed x xs r os out fine other in
              let events = taken test x xs (none_by p nodes known x os ws false e none) in
              ap (joined_from p r (map (sent_at (x ∷ xs)) os)) events
              ∙ (λ j. joined_from p (with_effect p (dues j) x) (sends j) (filter test xs))
              ∙ joined_is xs next after ws same (good_outside p nodes known x r.cells os range.0 out g) (all_fine x os fine) range.1 up.1
              ∙ sym (ap (combined_from p nodes r (map (queue_at p nodes (x ∷ xs)) os)) events
              ∙ (λ j. combined_from p nodes (with_effect p (firsts j) x) (queues j) (filter test xs)))
        ]

    -- ---- from the opening state on
    starts_fine : (opening : Contents) (ws : List ℕ) → AllFine (map (start p nodes known opening) ws)
    starts_fine opening [] = tt
    starts_fine opening (w ∷ ws) = (opened_fine w opening, starts_fine opening ws)

    starts_sent : (opening : Contents) (ws : List ℕ) (xs : List Event)
        → map (sent_at xs) (map (start p nodes known opening) ws) ≡ map (λ w. sent (contributions p nodes w opening xs)) ws
    starts_sent opening [] xs = refl
    starts_sent opening (w ∷ ws) xs = ap (λ l. sent (contributions p nodes w opening xs) ∷ l) (starts_sent opening ws xs)

    pub joined_gives : (ws : List ℕ) (opening : Contents) (xs : List Event) → IsStateOf p.families opening → AreNodesApart p nodes ws → AreInRange p xs
        → RiseStrictly xs
        → joined_from p (start_of p nodes ws opening) (map (λ w. sent (contributions p nodes w opening xs)) ws) (filter (is_of_none p nodes ws) xs)
        ≡ combined p nodes ws opening xs
    joined_gives ws opening xs sorts apart range up =
        let os = map (start p nodes known opening) ws in
        let events = filter (is_of_none p nodes ws) xs in
        ap (λ queues. joined_from p (start_of p nodes ws opening) queues events) (sym (starts_sent opening ws xs))
        ∙ joined_is xs (start_of p nodes ws opening) os ws (start_nodes p nodes known opening ws) (good_start p nodes known ws opening sorts apart)
        (starts_fine opening ws) range up
        ∙ ap (λ queues. combined_from p nodes (start_of p nodes ws opening) queues events) (start_queues p nodes known opening ws xs)
