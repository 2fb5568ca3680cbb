-- The text of a node's partial is a whole partial of what the node sends, and tells its rows.
use Rattle.std.proofs.Common.{◌≡◌, ◌<◌, ◌≤◌, ◌+◌, ℕ, zero, suc, Bool, true, false, cond, Option, Some, None, List, [], ◌∷◌, ◌++◌, length, map, refl}
use Rattle.std.proofs.Common.{sym, ap, subst, ◌∙◌, arith, get_or, min}
use Rattle.std.specs.Prelude.{not, option_map, slice_get, IsTrue}
use Rattle.std.specs.List.{fold, flat_map, list_all, list_any, range_with_len, reduce, AllByRecursion}
use Rattle.std.specs.Str.{IsUtf8}
use Rattle.std.proofs.lemmas.List.{length-append}
use Rattle.std.proofs.lemmas.Option.{slice_get-map}
use Rattle.flu_lemmas.specs.Items.{Pairs}
use Rattle.flu_lemmas.proofs.Bytes.{bytes_itself}
use Rattle.flu_lemmas.proofs.Elements.{all_append, all_back, all_front, fails_at, passes_at}
use Rattle.flu_lemmas.proofs.Places.{position-cons, slice_get-there}
use Rattle.flu_lemmas.proofs.Tests.{and_left, and_right, not_true}
use Rattle.flu_names.specs.Names.{is_name}
use Rattle.flu_model.specs.declared.events.Event.{Event}
use Rattle.flu_model.specs.declared.events.Item.{Item}
use Rattle.flu_model.specs.declared.events.Out.{Out}
use Rattle.flu_model.specs.declared.jobs.Program.{Program}
use Rattle.flu_model.specs.declared.plans.Node.{Node}
use Rattle.flu_model.specs.Erasure.{job_of}
use Rattle.flu_model.specs.Itags.{count_of_itags}
use Rattle.flu_model.specs.Owners.{nodes_fit}
use Rattle.flu_model.specs.Rules.{are_distinct, is_same_text}
use Rattle.flu_model.specs.Streaming.{are_streams}
use Rattle.flu_apart.specs.Classes.{has_ticks}
use Rattle.flu_contribution.specs.Contributions.{Contribution}
use Rattle.flu_contribution.specs.Sharing.{MergedEventsRiseStrictly}
use Rattle.flu_parse.specs.Printing.{normal_form}
use Rattle.flu_partial.specs.declared.order.Reached.{Reached}
use Rattle.flu_partial.specs.declared.order.Reached.TheVariants.{Head, Event as AtEvent, End as AtEnd}
use Rattle.flu_partial.specs.declared.values.Emitted.{Emitted}
use Rattle.flu_partial.specs.Order.{reached_with, AreRest}
use Rattle.flu_partial.specs.Laws.{LawOfPrintedHeads, LawOfPrintedContributions}
use Rattle.flu_partial.specs.Partial.{contribution_text, head_text, line_of as text_line, IsHead, IsTime, IsTimeOrNone}
use Rattle.flu_handover.specs.Handing.{emitted_of, line_of, place_of, IsLineOf}
use Rattle.flu_handover.specs.Laws.{SendableHaveLines}
use Rattle.flu_plan.specs.Printing.{has_text, name_of_child}
use Rattle.flu_receiving.specs.Laws.{PrintedPartialsAreWhole}
use Rattle.flu_receiving.specs.Receiving.{last_of, last_time as end_time, lines_text, partial_text, HasLine as HasText, IsWholePartial}
use Rattle.flu_sending.specs.Laws.{AreReadable, HasLine, SentLinesMayCome, SentTextsAreUtf8, WhatIsSentCanBeHandedOver}
use Rattle.flu_sending.specs.Lines.{all_times, times_of, times_of_itag, row_times, first_time, last_time, lines_of, sent_by}
use Rattle.flu_sending.specs.Texts.{IsUtf8Output}
use Rattle.flu_node_run.specs.Partials.{head_of, name_of_node, text_of_partial}
use Rattle.flu_combine.specs.Laws.{TextsAreWholePartials, TextsTellTheirRows}
use Rattle.flu_combine.specs.Partials.{most_bytes, node_named, told_by, times_fit}
use Rattle.flu_combine.proofs.PlanText.{plan_is_utf8}
use Rattle.flu_combine.proofs.Templates.{names_are_utf8, templates_are_utf8}

-- ---- the head
least_time : (t : ℕ) (ts : List ℕ) → IsTime t → AllByRecursion IsTime ts → IsTime (fold min t ts)
least_time t [] low all = low
least_time t (u ∷ ts) low all = least_time (min t u) ts (omega (arith, low, all.0)) all.1

-- the times of the rows are among those of all items
among_lists : (lists : List (List Item)) (i : ℕ) → AllByRecursion IsTime (all_times lists) → AllByRecursion IsTime (times_of (get_or lists i []))
among_lists [] i all = tt
among_lists (items ∷ lists) zero all = all_front IsTime (times_of items) (all_times lists) all
among_lists (items ∷ lists) (suc i) all = among_lists lists i (all_back IsTime (times_of items) (all_times lists) all)

rows_among : (p : Program) (lists : List (List Item)) (itags : List ℕ) → AllByRecursion IsTime (all_times lists)
    → AllByRecursion IsTime (flat_map (times_of_itag p lists) itags)
rows_among p lists [] all = tt
rows_among p lists (i ∷ itags) all =
    all_append IsTime (times_of_itag p lists i) (flat_map (times_of_itag p lists) itags) (by (has_ticks p i)) (rows_among p lists itags all)
  where
    by : (b : Bool) → AllByRecursion IsTime (cond b [] (times_of (get_or lists i [])))
    by true = tt
    by false = among_lists lists i all

first_in_range : (ts : List ℕ) → AllByRecursion IsTime ts → IsTimeOrNone (reduce min ts)
first_in_range [] all = tt
first_in_range (t ∷ ts) all = least_time t ts all.0 all.1

name_at : (nodes : List Node) (w : ℕ) → w < length nodes → (node : Node) × (slice_get nodes w ≡ Some node) × (name_of_node nodes w ≡ node.name)
name_at nodes w there = let at = slice_get-there nodes w there in (at.0, at.1, ap name_of_child at.1)

-- names that are distinct name one node each
named_there : (nodes : List Node) (w : ℕ) (node : Node) → are_distinct is_same_text (map (λ (n : Node). n.name) nodes) ≡ true → slice_get nodes w ≡ Some node
    → node_named nodes node.name ≡ Some w
named_there [] w node own at = absurd (let bad : None ≡ Some node = at in cc)
named_there (n ∷ nodes) zero node own at =
    let same : n ≡ node = cc in
    let itself : is_same_text n.name node.name ≡ true = subst (λ (m : Node). is_same_text n.name m.name ≡ true) same (bytes_itself n.name) in
    position-cons (λ (m : Node). is_same_text m.name node.name) n nodes
    ∙ ap (λ (b : Bool). cond b (Some 0) (option_map (λ i. i + 1) (node_named nodes node.name))) itself
named_there (n ∷ nodes) (suc w) node own at =
    let names = map (λ (m : Node). m.name) nodes in
    let there : slice_get names w ≡ Some node.name = slice_get-map (λ (m : Node). m.name) nodes w ∙ ap (option_map (λ (m : Node). m.name)) at in
    let other : is_same_text n.name node.name ≡ false =
    fails_at (is_same_text n.name) names w node.name
    (not_true (list_any (is_same_text n.name) names) (and_left (not (list_any (is_same_text n.name) names)) (are_distinct is_same_text names) own)) there in
    position-cons (λ (m : Node). is_same_text m.name node.name) n nodes
    ∙ ap (λ (b : Bool). cond b (Some 0) (option_map (λ i. i + 1) (node_named nodes node.name))) other
    ∙ ap (option_map (λ i. i + 1))
    (named_there nodes w node (and_right (not (list_any (is_same_text n.name) names)) (are_distinct is_same_text names) own) at)
    ∙ (let next : w + 1 ≡ suc w = omega arith in ap (λ (i : ℕ). Some i) next)

-- ---- the lines
lines_same : (p : Program) (last : Option ℕ) (ks : List Contribution) → lines_of p last ks ≡ lines_text (map (line_of p last) ks)
lines_same p last [] = refl
lines_same p last (k ∷ ks) = ap (λ (xs : List ℕ). text_line (contribution_text (line_of p last k)) ++ xs) (lines_same p last ks)

outputs_utf8 : (p : Program) (outs : List Out) → AllByRecursion (IsUtf8Output p) outs
    → AllByRecursion (λ (o : Emitted). IsUtf8 o.tag × IsUtf8 o.text) (map (emitted_of p) outs)
outputs_utf8 p [] all = tt
outputs_utf8 p (o ∷ outs) all = (all.0, outputs_utf8 p outs all.1)

-- a line is no longer than a text that it is in
line_short : (text rest : List ℕ) → length (text_line text ++ rest) ≤ most_bytes → (length text ≤ most_bytes) × (length rest ≤ most_bytes)
line_short text rest few =
    let whole = length-append (text_line text) rest in
    let line = length-append text (10 ∷ []) in
    (omega (arith, few, whole, line), omega (arith, few, whole, line))

have_lines : LawOfPrintedContributions → SendableHaveLines → (p : Program) (last : Option ℕ) (ks : List Contribution) → AllByRecursion (HasLine p last) ks
    → AllByRecursion (λ (k : Contribution). AllByRecursion (IsUtf8Output p) k.outputs) ks → length (lines_text (map (line_of p last) ks)) ≤ most_bytes
    → AllByRecursion HasText (map (line_of p last) ks)
have_lines printed has p last [] all utf8 few = tt
have_lines printed has p last (k ∷ ks) all utf8 few =
    let c = line_of p last k in
    let short = line_short (contribution_text c) (lines_text (map (line_of p last) ks)) few in (
      printed c (has p last k all.0.sendable all.0.in_range) (outputs_utf8 p k.outputs utf8.0) short.0,
      have_lines printed has p last ks all.1 utf8.1 short.1,
    )

lines_said : (p : Program) (last : Option ℕ) (ks : List Contribution) → AllByRecursion (HasLine p last) ks
    → Pairs (IsLineOf p) (map (line_of p last) ks) ks
lines_said p last [] all = tt
lines_said p last (k ∷ ks) all = ((all.0.sendable, (last, refl)), lines_said p last ks all.1)

-- the last one is for the end, and has the last time
end_last : (p : Program) (last : Option ℕ) (k : Contribution) (ks : List Contribution) (r : Reached) → AreRest r (map (line_of p last) (k ∷ ks))
    → last_of (map (line_of p last) (k ∷ ks)) ≡ last
end_last p last k (j ∷ ks) r rest = end_last p last j ks (reached_with (place_of k.before last)) rest.1
end_last p last k [] r rest = by k.before rest.1
  where
    by : (before : Option Event) → reached_with (place_of before last) ≡ AtEnd → end_time (place_of before last) ≡ last
    by None end = refl
    by (Some y) end = absurd (let bad : AtEvent y.time y.itag ≡ AtEnd = end in cc)

sent_last : (p : Program) (last : Option ℕ) (ks : List Contribution) → AreRest Head (map (line_of p last) ks)
    → last_of (map (line_of p last) ks) ≡ last
sent_last p last [] rest = absurd (let bad : Head ≡ AtEnd = rest in cc)
sent_last p last (k ∷ ks) rest = end_last p last k ks Head rest

-- ---- the whole
module _ (heads : LawOfPrintedHeads) (printed : LawOfPrintedContributions) (whole : PrintedPartialsAreWhole) (has : SendableHaveLines)
    (handed : WhatIsSentCanBeHandedOver) (utf8 : SentTextsAreUtf8) (come : SentLinesMayCome) (rise : MergedEventsRiseStrictly) where
  text_is_whole : (p : Program) (nodes : List Node) (w : ℕ) (lists : List (List Item))
      → IsUtf8 (normal_form (job_of p)) → IsTrue (has_text p nodes) → w < length nodes
      → length lists ≡ count_of_itags p → IsTrue (are_streams 0 lists) → AreReadable lists → length (text_of_partial p nodes w lists) ≤ most_bytes
      → IsWholePartial (head_of p nodes w lists) (map (line_of p (last_time p lists)) (sent_by p nodes w lists)) (text_of_partial p nodes w lists)
  text_is_whole p nodes w lists job_utf8 has_text there one streams readable few =
      let h = head_of p nodes w lists in
      let last = last_time p lists in
      let ks = sent_by p nodes w lists in
      let cs = map (line_of p last) ks in
      let text : text_of_partial p nodes w lists ≡ partial_text h cs =
      ap (λ (xs : List ℕ). text_line (head_text h) ++ xs) (lines_same p last ks) in
      let short = line_short (head_text h) (lines_text cs) (subst (λ (xs : List ℕ). length xs ≤ most_bytes) text few) in
      let at = name_at nodes w there in
      let named = passes_at (λ (node : Node). is_name node.name) nodes w at.0
      (and_right (nodes_fit p nodes) (list_all (λ (node : Node). is_name node.name) nodes) has_text) at.1 in
      let times = rows_among p lists (range_with_len 0 (count_of_itags p)) readable.times in
      let is_head : IsHead h =
      record { first = first_in_range (row_times p lists) times; node = subst (λ (n : List ℕ). is_name n ≡ true) (sym at.2) named } in
      let all = handed p nodes w lists one streams readable in
      let head_line = heads h is_head job_utf8 (plan_is_utf8 p nodes has_text) short.0 in
      let lines = have_lines printed has p last ks all (utf8 p nodes w lists (names_are_utf8 p job_utf8) (templates_are_utf8 p job_utf8)) short.1 in
      subst (IsWholePartial h cs) (sym text) (whole h cs head_line lines (come p nodes w last lists (rise lists streams)))

  pub texts_are_whole : TextsAreWholePartials
  texts_are_whole p nodes w lists job_utf8 has_text own there one streams readable few =
      let last = last_time p lists in
      let ks = sent_by p nodes w lists in
      let at = name_at nodes w there in
      record {
        head = head_of p nodes w lists;
        lines = map (line_of p last) ks;
        few = few;
        whole = text_is_whole p nodes w lists job_utf8 has_text there one streams readable few;
        of_node = record {
          plan = record { job = refl; plan = refl };
          node = ap (node_named nodes) at.2 ∙ named_there nodes w at.0 own at.1;
        };
        said = lines_said p last ks (handed p nodes w lists one streams readable);
      }

  pub texts_tell : TextsTellTheirRows
  texts_tell p nodes w lists job_utf8 has_text own there one streams readable few fit =
      let first = first_time p lists in
      let last = last_time p lists in
      let ks = sent_by p nodes w lists in
      let at_end : last_of (map (line_of p last) ks) ≡ last = sent_last p last ks (come p nodes w last lists (rise lists streams)) in
      record {
        head = head_of p nodes w lists;
        lines = map (line_of p last) ks;
        whole = text_is_whole p nodes w lists job_utf8 has_text there one streams readable few;
        fit = ap (times_fit p first) at_end ∙ fit;
        tells = sym (ap (told_by p first) at_end);
      }
