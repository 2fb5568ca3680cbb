-- Queues that are alike for a report join alike.
use Rattle.std.proofs.Common.{◌≡◌, Bool, true, false, cond, not, Option, Some, None, List, [], ◌∷◌, ◌++◌, refl, sym, ap, ◌∙◌}
use Rattle.std.specs.Prelude.{is_some, ◌==◌, ◌&&◌, map}
use Rattle.std.specs.List.{list_all}
use Rattle.std.proofs.lemmas.List.{map-append}
use Rattle.flu_model.specs.declared.events.Event.{Event}
use Rattle.flu_model.specs.declared.jobs.Program.{Program}
use Rattle.flu_model.specs.Folding.{outputs_with}
use Rattle.flu_model.specs.Reports.{line_of as line_of_report}
use Rattle.flu_model.specs.Updates.{effect_of}
use Rattle.flu_contribution.specs.Combining.{Combined, with_first, without_first, with_effect}
use Rattle.flu_contribution.specs.Contributions.{Contribution}
use Rattle.flu_contribution.specs.Sending.{is_named, is_due, with_due, without_due, with_last, joined_from, start_of}
use Rattle.flu_contribution.specs.Sharing.{all_sent, PartsGiveTheReport}
use Rattle.flu_handover.specs.Handing.{place_of}
use Rattle.flu_handover.specs.Laws.{AreCombinedAlike, AlikeContributionsJoinAlike, AlikeOutputsHaveOneReport}
use Rattle.flu_joining.specs.Joining.{is_last_alone, are_used_up, events_of_none}
use Rattle.flu_joining.specs.Laws.{AreAllAlike, AreQueuesAlike, AlikeQueuesJoinAlike, PartsAreUsedUp, WhatWasSentGivesTheReport}

-- ---- places that are the same
same_named : (a b : Option Event) (y : Event) → place_of a None ≡ place_of b None → is_named a y ≡ is_named b y
same_named None None y e = refl
same_named None (Some x) y e = absurd cc
same_named (Some x) None y e = absurd cc
same_named (Some x) (Some z) y e =
    let times : x.time ≡ z.time = cc in
    let itags : x.itag ≡ z.itag = cc in
    λ j. (times j == y.time) && ((itags j).0 == y.itag.0)

same_some : (a b : Option Event) → place_of a None ≡ place_of b None → is_some a ≡ is_some b
same_some None None e = refl
same_some None (Some x) e = absurd cc
same_some (Some x) None e = absurd cc
same_some (Some x) (Some z) e = refl

module _ (p : Program) where
  -- ---- one queue
  due_alike : (js ks : List Contribution) (y : Event) → AreAllAlike p js ks → is_due js y ≡ is_due ks y
  due_alike [] [] y h = refl
  due_alike [] (k ∷ ks) y h = absurd h
  due_alike (j ∷ js) [] y h = absurd h
  due_alike (j ∷ js) (k ∷ ks) y h = same_named j.before k.before y (h.0.place None)

  last_alike : (js ks : List Contribution) → AreAllAlike p js ks → is_last_alone js ≡ is_last_alone ks
  last_alike [] [] h = refl
  last_alike [] (k ∷ ks) h = absurd h
  last_alike (j ∷ js) [] h = absurd h
  last_alike (j ∷ []) (k ∷ []) h = ap not (same_some j.before k.before (h.0.place None))
  last_alike (j ∷ []) (k ∷ l ∷ ks) h = absurd h.1
  last_alike (j ∷ i ∷ js) (k ∷ []) h = absurd h.1
  last_alike (j ∷ i ∷ js) (k ∷ l ∷ ks) h = refl

  rest_alike : (js ks : List Contribution) → AreAllAlike p js ks → AreAllAlike p (without_first js) (without_first ks)
  rest_alike [] [] h = tt
  rest_alike [] (k ∷ ks) h = absurd h
  rest_alike (j ∷ js) [] h = absurd h
  rest_alike (j ∷ js) (k ∷ ks) h = h.1

  rest_if : (a b : Bool) (js ks : List Contribution) → a ≡ b → AreAllAlike p js ks
      → AreAllAlike p (cond a (without_first js) js) (cond b (without_first ks) ks)
  rest_if true true js ks e h = rest_alike js ks h
  rest_if true false js ks e h = absurd cc
  rest_if false true js ks e h = absurd cc
  rest_if false false js ks e h = h

  rests_alike : (queues others : List (List Contribution)) (y : Event) → AreQueuesAlike p queues others
      → AreQueuesAlike p (without_due y queues) (without_due y others)
  rests_alike [] [] y h = tt
  rests_alike [] (ks ∷ others) y h = absurd h
  rests_alike (js ∷ queues) [] y h = absurd h
  rests_alike (js ∷ queues) (ks ∷ others) y h =
      (rest_if (is_due js y) (is_due ks y) js ks (due_alike js ks y h.0) h.0, rests_alike queues others y h.1)

  -- ---- used up
  lasts_alike : (queues others : List (List Contribution)) → AreQueuesAlike p queues others → list_all is_last_alone queues ≡ list_all is_last_alone others
  lasts_alike [] [] h = refl
  lasts_alike [] (ks ∷ others) h = absurd h
  lasts_alike (js ∷ queues) [] h = absurd h
  lasts_alike (js ∷ queues) (ks ∷ others) h =
      let here = last_alike js ks h.0 in
      let more = lasts_alike queues others h.1 in
      λ i. here i && more i

  used_alike : (queues others : List (List Contribution)) (ys : List Event) → AreQueuesAlike p queues others
      → are_used_up queues ys ≡ are_used_up others ys
  used_alike queues others [] h = lasts_alike queues others h
  used_alike queues others (y ∷ ys) h = used_alike (without_due y queues) (without_due y others) ys (rests_alike queues others y h)

  -- ---- an event
  effect_alike : (r s : Combined) (y : Event) → AreCombinedAlike p r s → AreCombinedAlike p (with_effect p r y) (with_effect p s y)
  effect_alike r s y h = record {
    cells = ap (λ cells. (effect_of p cells y).cells) h.cells;
    outputs =
        map-append (line_of_report p) r.outputs (outputs_with p y (effect_of p r.cells y).texts)
        ∙ (λ i. h.outputs i ++ map (line_of_report p) (outputs_with p y (effect_of p (h.cells i) y).texts))
        ∙ sym (map-append (line_of_report p) s.outputs (outputs_with p y (effect_of p s.cells y).texts));
  }

  -- ---- what is joined
  module _ (alike : AlikeContributionsJoinAlike) where
    first_alike : (r s : Combined) (js ks : List Contribution) → AreCombinedAlike p r s → AreAllAlike p js ks
        → AreCombinedAlike p (with_first r js) (with_first s ks)
    first_alike r s [] [] c h = c
    first_alike r s [] (k ∷ ks) c h = absurd h
    first_alike r s (j ∷ js) [] c h = absurd h
    first_alike r s (j ∷ js) (k ∷ ks) c h = alike p r s j k c h.0

    first_if : (a b : Bool) (r s : Combined) (js ks : List Contribution) → a ≡ b → AreCombinedAlike p r s → AreAllAlike p js ks
        → AreCombinedAlike p (cond a (with_first r js) r) (cond b (with_first s ks) s)
    first_if true true r s js ks e c h = first_alike r s js ks c h
    first_if true false r s js ks e c h = absurd cc
    first_if false true r s js ks e c h = absurd cc
    first_if false false r s js ks e c h = c

    dues_alike : (y : Event) (r s : Combined) (queues others : List (List Contribution)) → AreCombinedAlike p r s → AreQueuesAlike p queues others
        → AreCombinedAlike p (with_due y r queues) (with_due y s others)
    dues_alike y r s [] [] c h = c
    dues_alike y r s [] (ks ∷ others) c h = absurd h
    dues_alike y r s (js ∷ queues) [] c h = absurd h
    dues_alike y r s (js ∷ queues) (ks ∷ others) c h =
        dues_alike y (cond (is_due js y) (with_first r js) r) (cond (is_due ks y) (with_first s ks) s) queues others
        (first_if (is_due js y) (is_due ks y) r s js ks (due_alike js ks y h.0) c h.0) h.1

    ends_alike : (r s : Combined) (queues others : List (List Contribution)) → AreCombinedAlike p r s → AreQueuesAlike p queues others
        → AreCombinedAlike p (with_last r queues) (with_last s others)
    ends_alike r s [] [] c h = c
    ends_alike r s [] (ks ∷ others) c h = absurd h
    ends_alike r s (js ∷ queues) [] c h = absurd h
    ends_alike r s (js ∷ queues) (ks ∷ others) c h =
        ends_alike (with_first r js) (with_first s ks) queues others (first_alike r s js ks c h.0) h.1

    folds_alike : (r s : Combined) (queues others : List (List Contribution)) (ys : List Event) → AreCombinedAlike p r s
        → AreQueuesAlike p queues others → AreCombinedAlike p (joined_from p r queues ys) (joined_from p s others ys)
    folds_alike r s queues others [] c h = ends_alike r s queues others c h
    folds_alike r s queues others (y ∷ ys) c h =
        folds_alike (with_effect p (with_due y r queues) y) (with_effect p (with_due y s others) y) (without_due y queues) (without_due y others) ys
        (effect_alike (with_due y r queues) (with_due y s others) y (dues_alike y r s queues others c h)) (rests_alike queues others y h)

pub queues_join_alike : AlikeContributionsJoinAlike → AlikeOutputsHaveOneReport → AlikeQueuesJoinAlike
queues_join_alike alike one_report p r s queues others ys c h =
    let combined = folds_alike p alike r s queues others ys c h in
    record {
      combined = combined;
      same_report = one_report p (joined_from p r queues ys).outputs (joined_from p s others ys).outputs combined.outputs;
      used_up = used_alike p queues others ys h;
    }

pub alike_report : PartsGiveTheReport → PartsAreUsedUp → AlikeQueuesJoinAlike → WhatWasSentGivesTheReport
alike_report give used alike p nodes ws opening whole parts rest queues setting apart one streams read others same =
    let given = give p nodes ws opening whole parts rest setting apart one streams read others in
    let start = start_of p nodes ws opening in
    let result = alike p start start queues (all_sent p nodes opening ws parts) (events_of_none p nodes ws rest)
    (record { cells = refl; outputs = refl }) same in
    record {
      cells = result.combined.cells ∙ given.cells;
      same_report = result.same_report ∙ given.same_report;
      used_up = result.used_up ∙ used p nodes ws opening whole parts rest setting apart one streams read others;
    }
