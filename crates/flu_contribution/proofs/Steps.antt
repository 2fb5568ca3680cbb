-- One event of the fold, and what it does to the nodes apart, their queues and the combined fold.
use Rattle.std.proofs.Common.{◌≡◌, ◌<◌, ℕ, Bool, true, false, cond, List, [], ◌∷◌, ◌++◌, append_assoc, ◌⊎◌, inl, inr, refl, sym, ap, subst, ◌∙◌, None, length}
use Rattle.std.specs.Prelude.{map}
use Rattle.std.specs.List.{list_any, AllByRecursion}
use Rattle.std.specs.List.Sorted.{IsPermutation}
use Rattle.std.proofs.lemmas.Bool.{or_cases}
use Rattle.flu_lemmas.proofs.Tests.{not_both, false_if_not}
use Rattle.flu_model.specs.declared.events.Cell.{Cell}
use Rattle.flu_model.specs.declared.events.Event.{Event}
use Rattle.flu_model.specs.declared.events.Out.{Out}
use Rattle.flu_model.specs.declared.jobs.Program.{Program}
use Rattle.flu_model.specs.declared.plans.Node.{Node}
use Rattle.flu_model.specs.Contents.{Contents, join, joined_worth}
use Rattle.flu_model.specs.Folding.{outputs_with}
use Rattle.flu_model.specs.Itags.{count_of_itags}
use Rattle.flu_model.specs.Sorts.{IsStateOf}
use Rattle.flu_model.specs.Updates.{effect_of, Effect}
use Rattle.flu_deps.specs.Trees.{AreApart}
use Rattle.flu_apart.specs.Classes.{is_used}
use Rattle.flu_contribution.specs.Contributions.{is_inside, is_above, Contribution, opened, with_event, closed, contributions_from}
use Rattle.flu_contribution.specs.Combining.{Combined, Queue, with_contribution, with_first, without_first, with_firsts, without_firsts}
use Rattle.flu_contribution.proofs.Using.{Known, needs_kept, apart_inside, apart_above, unneeded, used_elsewhere}
use Rattle.flu_contribution.proofs.States.{Open, total, joined_if, outer, step_by, stepped, closed_into, Holds, AllHold, AllApart, AllFree, AllElsewhere}
use Rattle.flu_contribution.proofs.States.{join_holds, AllNeutral, outside_total}
use Rattle.flu_contribution.proofs.Outputs.{outs, added_if, closed_outs, outs_pass}

module _ (p : Program) (nodes : List Node) where
  -- the event is inside one of the nodes
  abbrev pub is_in_one : Event → List Open → Bool
  is_in_one x os = list_any (λ (o : Open). is_inside p nodes o.node x) os

  -- the event is above none of the nodes that it is not inside
  abbrev pub IsQuiet : Event → Open → Type 0
  IsQuiet x o = (is_inside p nodes o.node x ≡ true) ⊎ (is_above p nodes o.node x ≡ false)

  abbrev pub AllQuiet : Event → List Open → Type 0
  AllQuiet x os = AllByRecursion (IsQuiet x) os

  -- ---- queues
  abbrev pub waiting_at : List Event → Open → List Contribution
  waiting_at xs o = contributions_from p nodes o.node o.part xs

  abbrev pub queue_at : List Event → Open → Queue
  queue_at xs o = record { node = o.node; waiting = waiting_at xs o }

  -- what waits, by whether the next event is inside and above
  abbrev pub waiting_by : Bool → Bool → Event → List Event → Open → List Contribution
  waiting_by i a x xs o =
      cond i (contributions_from p nodes o.node (with_event p o.part x) xs)
      (cond a (closed p nodes o.node o.part x ∷ contributions_from p nodes o.node (opened p nodes o.node o.part.cells) xs)
      (contributions_from p nodes o.node o.part xs))

  quiet_by : (i a : Bool) (x : Event) (xs : List Event) (o : Open) → (i ≡ true) ⊎ (a ≡ false)
      → record { node = o.node; waiting = waiting_by i a x xs o } ≡ queue_at xs (step_by p nodes i a x o)
  quiet_by true a x xs o q = refl
  quiet_by false false x xs o q = refl
  quiet_by false true x xs o (inl q) = cc
  quiet_by false true x xs o (inr q) = cc

  pub quiet_queues : (x : Event) (xs : List Event) (os : List Open) → AllQuiet x os
      → map (queue_at (x ∷ xs)) os ≡ map (queue_at xs) (map (stepped p nodes x) os)
  quiet_queues x xs [] q = refl
  quiet_queues x xs (o ∷ os) q =
      let here = quiet_by (is_inside p nodes o.node x) (is_above p nodes o.node x) x xs o q.0 in
      let more = quiet_queues x xs os q.1 in
      λ j. here j ∷ more j

  shifted_by : (i a : Bool) (x : Event) (xs : List Event) (o : Open) → i ≡ false
      → cond a (record { node = o.node; waiting = without_first (waiting_by i a x xs o) }) (record { node = o.node; waiting = waiting_by i a x xs o })
      ≡ queue_at xs (step_by p nodes i a x o)
  shifted_by true a x xs o e = cc
  shifted_by false true x xs o e = refl
  shifted_by false false x xs o e = refl

  pub shifted_queues : (x : Event) (xs : List Event) (os : List Open) → AllElsewhere p nodes x os
      → without_firsts (λ w. is_above p nodes w x) (map (queue_at (x ∷ xs)) os) ≡ map (queue_at xs) (map (stepped p nodes x) os)
  shifted_queues x xs [] out = refl
  shifted_queues x xs (o ∷ os) out =
      let here = shifted_by (is_inside p nodes o.node x) (is_above p nodes o.node x) x xs o out.0 in
      let more = shifted_queues x xs os out.1 in
      λ j. here j ∷ more j

  first_by : (i a : Bool) (x : Event) (xs : List Event) (o : Open) (r : Combined) → i ≡ false
      → cond a (with_first r (waiting_by i a x xs o)) r
      ≡ record { cells = joined_if a r.cells (outer p nodes o); outputs = added_if a r.outputs o.part.outputs }
  first_by true a x xs o r e = cc
  first_by false true x xs o r e = refl
  first_by false false x xs o r e = refl

  pub firsts_closed : (x : Event) (xs : List Event) (r : Combined) (os : List Open) → AllElsewhere p nodes x os
      → with_firsts (λ w. is_above p nodes w x) r (map (queue_at (x ∷ xs)) os)
      ≡ record { cells = closed_into p nodes x r.cells os; outputs = closed_outs p nodes x r.outputs os }
  firsts_closed x xs r [] out = refl
  firsts_closed x xs r (o ∷ os) out =
      let i = is_inside p nodes o.node x in
      let a = is_above p nodes o.node x in
      let next : Combined = record { cells = joined_if a r.cells (outer p nodes o); outputs = added_if a r.outputs o.part.outputs } in
      ap (λ t. with_firsts (λ w. is_above p nodes w x) t (map (queue_at (x ∷ xs)) os)) (first_by i a x xs o r out.0) ∙ firsts_closed x xs next os out.1

  pub ends_joined : (r : Combined) (os : List Open)
      → with_firsts (λ w. true) r (map (queue_at []) os) ≡ record { cells = total r.cells os; outputs = outs r.outputs os }
  ends_joined r [] = refl
  ends_joined r (o ∷ os) = ends_joined (with_contribution r o.part) os

  -- ---- an event inside a node
  module _ (known : Known p nodes) where
    -- what is apart from a node that an event is inside of
    rest_elsewhere : (w : ℕ) (x : Event) (os : List Open) → x.itag.0 < count_of_itags p → is_inside p nodes w x ≡ true
        → AllByRecursion (λ (q : Open). AreApart nodes w q.node) os → AllElsewhere p nodes x os
    rest_elsewhere w x [] lt e apart = tt
    rest_elsewhere w x (q ∷ os) lt e apart = (apart_inside p nodes known w q.node x.itag lt apart.0 e, rest_elsewhere w x os lt e apart.1)

    rest_same : (w : ℕ) (x : Event) (os : List Open) → x.itag.0 < count_of_itags p → is_inside p nodes w x ≡ true → AllHold p nodes os
        → AllByRecursion (λ (q : Open). AreApart nodes w q.node) os → map (stepped p nodes x) os ≡ os
    rest_same w x [] lt e h apart = refl
    rest_same w x (q ∷ os) lt e h apart =
        let out = apart_inside p nodes known w q.node x.itag lt apart.0 e in
        let not_above = apart_above p nodes known w q.node x.itag lt h.0.apart.there apart.0 e in
        let more = rest_same w x os lt e h.1 apart.1 in
        λ j. step_by p nodes (out j) (not_above j) x q ∷ more j

    rest_quiet : (w : ℕ) (x : Event) (os : List Open) → x.itag.0 < count_of_itags p → is_inside p nodes w x ≡ true → AllHold p nodes os
        → AllByRecursion (λ (q : Open). AreApart nodes w q.node) os → AllQuiet x os
    rest_quiet w x [] lt e h apart = tt
    rest_quiet w x (q ∷ os) lt e h apart =
        (inr (apart_above p nodes known w q.node x.itag lt h.0.apart.there apart.0 e), rest_quiet w x os lt e h.1 apart.1)

    rest_neutral : (w : ℕ) (x : Event) (os : List Open) → x.itag.0 < count_of_itags p → is_inside p nodes w x ≡ true → AllHold p nodes os
        → AllByRecursion (λ (q : Open). AreApart nodes w q.node) os → AllNeutral p nodes known x os
    rest_neutral w x [] lt e h apart = tt
    rest_neutral w x (q ∷ os) lt e h apart =
        let out = apart_inside p nodes known w q.node x.itag lt apart.0 e in
        let not_above = apart_above p nodes known w q.node x.itag lt h.0.apart.there apart.0 e in (
          λ c needed. h.0.support c (unneeded p nodes known q.node x.itag.0 c h.0.apart.there h.0.apart.may lt out not_above needed),
          rest_neutral w x os lt e h.1 apart.1,
        )

    pub turned : (a b : ℕ) → AreApart nodes a b → AreApart nodes b a
    turned a b h = (h.1, h.0)

    -- the event is inside one of some nodes, all apart from this one: so it is neither inside this one nor above it
    one_elsewhere : (w : ℕ) (x : Event) (os : List Open) → x.itag.0 < count_of_itags p → is_in_one x os ≡ true
        → AllByRecursion (λ (q : Open). AreApart nodes w q.node) os → is_inside p nodes w x ≡ false
    one_elsewhere w x [] lt e apart = cc
    one_elsewhere w x (q ∷ os) lt e apart =
        elim (or_cases (is_inside p nodes q.node x) (is_in_one x os) e) [
          | inl h ↦ apart_inside p nodes known q.node w x.itag lt (turned w q.node apart.0) h
          | inr h ↦ one_elsewhere w x os lt h apart.1
        ]

    one_above : (w : ℕ) (x : Event) (os : List Open) → x.itag.0 < count_of_itags p → w < length nodes → is_in_one x os ≡ true
        → AllByRecursion (λ (q : Open). AreApart nodes w q.node) os → is_above p nodes w x ≡ false
    one_above w x [] lt there e apart = cc
    one_above w x (q ∷ os) lt there e apart =
        elim (or_cases (is_inside p nodes q.node x) (is_in_one x os) e) [
          | inl h ↦ apart_above p nodes known q.node w x.itag lt there (turned w q.node apart.0) h
          | inr h ↦ one_above w x os lt there h apart.1
        ]

    free_join : (w : ℕ) (r s : Contents) (os : List Open) → ((c : Cell) → is_used p nodes w c ≡ false → s c ≡ None)
        → AllByRecursion (λ (q : Open). AreApart nodes w q.node) os → AllFree p nodes r os → AllFree p nodes (join r s) os
    free_join w r s [] support apart free = tt
    free_join w r s (q ∷ os) support apart free = (
      λ c kept.
          let unused : is_used p nodes w c ≡ false =
          false_if_not _ (λ used. not_both _ kept (used_elsewhere p nodes known w q.node c apart.0 used)) in
          ap (λ v. joined_worth v (s c)) (free.0 c kept) ∙ support c unused,
      free_join w r s os support apart.1 free.1,
    )

    -- what an event inside one of the nodes does to the whole: it is a step of that node
    pub record InsideStep (x : Event) (r : Contents) (os : List Open) : Type 0 where
      pub quiet : AllQuiet x os
      pub cells : (effect_of p (total r os) x).cells ≡ total r (map (stepped p nodes x) os)
      pub outputs : (b : List Out)
          → IsPermutation (outs b os ++ outputs_with p x (effect_of p (total r os) x).texts) (outs b (map (stepped p nodes x) os))

    inside_here : (x : Event) (r : Contents) (o : Open) (os : List Open) → x.itag.0 < count_of_itags p → IsStateOf p.families r
        → AllHold p nodes (o ∷ os) → AllApart p nodes (o ∷ os) → AllFree p nodes r (o ∷ os) → is_inside p nodes o.node x ≡ true → InsideStep x r (o ∷ os)
    inside_here x r o os lt hr h apart free e =
        let a = is_above p nodes o.node x in
        let k = effect_of p o.part.cells x in
        let out = outputs_with p x k.texts in
        let whole : effect_of p (total r (o ∷ os)) x ≡ record { cells = total (join r k.cells) os; texts = k.texts } =
        outside_total p nodes known x (join r o.part.cells) os lt (join_holds p nodes known r o.part.cells hr h.0.sorts) h.1
        (rest_neutral o.node x os lt e h.1 apart.0)
        ∙ ap (λ (t : Effect). record { cells = total t.cells os; texts = t.texts })
        (known.right r o.part.cells x hr h.0.sorts lt (λ c needed. free.0 c (needs_kept p nodes o.node x.itag.0 c h.0.apart.may lt e needed))) in
        let more : map (stepped p nodes x) os ≡ os = rest_same o.node x os lt e h.1 apart.0 in
        let steps : map (stepped p nodes x) (o ∷ os) ≡ step_by p nodes true a x o ∷ os = λ j. step_by p nodes (e j) a x o ∷ more j in
        record {
          quiet = (inl e, rest_quiet o.node x os lt e h.1 apart.0);
          cells = ap (λ (t : Effect). t.cells) whole ∙ ap (total r) (sym steps);
          outputs = λ b.
              subst (λ (t : Effect). IsPermutation (outs b (o ∷ os) ++ outputs_with p x t.texts) (outs b (map (stepped p nodes x) (o ∷ os)))) (sym whole)
              (subst (λ l. IsPermutation (outs b (o ∷ os) ++ out) (outs b l)) (sym steps)
              (subst (λ l. IsPermutation (outs b (o ∷ os) ++ out) (outs l os)) (append_assoc b o.part.outputs out)
              (outs_pass (b ++ o.part.outputs) out os)));
        }

    inside_later : (x : Event) (r : Contents) (o : Open) (os : List Open) → x.itag.0 < count_of_itags p → Holds p nodes o
        → AllByRecursion (λ (q : Open). AreApart nodes o.node q.node) os → is_in_one x os ≡ true
        → InsideStep x (join r o.part.cells) os → InsideStep x r (o ∷ os)
    inside_later x r o os lt h apart e step =
        let out = one_elsewhere o.node x os lt e apart in
        let not_above = one_above o.node x os lt h.apart.there e apart in
        let steps : map (stepped p nodes x) (o ∷ os) ≡ o ∷ map (stepped p nodes x) os =
        λ j. step_by p nodes (out j) (not_above j) x o ∷ map (stepped p nodes x) os in
        record {
          quiet = (inr not_above, step.quiet);
          cells = step.cells ∙ ap (total r) (sym steps);
          outputs = λ b.
              subst (λ l. IsPermutation (outs b (o ∷ os) ++ outputs_with p x (effect_of p (total r (o ∷ os)) x).texts) (outs b l)) (sym steps)
              (step.outputs (b ++ o.part.outputs));
        }

    pub inside_step : (x : Event) (r : Contents) (os : List Open) → x.itag.0 < count_of_itags p → IsStateOf p.families r
        → AllHold p nodes os → AllApart p nodes os → AllFree p nodes r os → is_in_one x os ≡ true → InsideStep x r os
    inside_step x r [] lt hr h apart free e = cc
    inside_step x r (o ∷ os) lt hr h apart free e =
        elim (or_cases (is_inside p nodes o.node x) (is_in_one x os) e) [
          | inl here ↦ inside_here x r o os lt hr h apart free here
          | inr later ↦ inside_later x r o os lt h.0 apart.0 later
              (inside_step x (join r o.part.cells) os lt (join_holds p nodes known r o.part.cells hr h.0.sorts) h.1 apart.1
              (free_join o.node r o.part.cells os h.0.support apart.0 free.1) later)
        ]
