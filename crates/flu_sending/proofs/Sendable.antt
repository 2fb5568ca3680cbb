-- What is sent has values of the job's sorts and widths, outputs of listed tags, and numbers in range.
use Rattle.std.proofs.Common.{◌≡◌, ◌<◌, ◌+◌, ◌^◌, ℕ, Bool, true, false, cond, None, List, [], ◌∷◌, length, refl, arith}
use Rattle.std.specs.Prelude.{Option, FitsSigned, not}
use Rattle.std.specs.Int.{w64}
use Rattle.std.specs.List.{AllByRecursion}
use Rattle.std.proofs.Math.Nat.{div-le_self}
use Rattle.flu_lemmas.proofs.Elements.{all_append, all_filter, all_map, all_of_both}
use Rattle.flu_model.specs.declared.events.Cell.{Cell}
use Rattle.flu_model.specs.declared.events.Event.{Event}
use Rattle.flu_model.specs.declared.events.Out.{Out}
use Rattle.flu_model.specs.declared.events.Tag.{Tag}
use Rattle.flu_model.specs.declared.jobs.Program.{Program}
use Rattle.flu_model.specs.declared.plans.Node.{Node}
use Rattle.flu_model.specs.Contents.{Contents, nothing_held}
use Rattle.flu_model.specs.Folding.{outputs_at}
use Rattle.flu_model.specs.Itags.{count_of_itags, tag_of_itag}
use Rattle.flu_model.specs.Merging.{merged}
use Rattle.flu_model.specs.Moments.{moments_a_time, time_of_moment}
use Rattle.flu_model.specs.Updates.{effect_of}
use Rattle.flu_laws.specs.Updating.{KeepsSorts}
use Rattle.flu_contribution.specs.Contributions.{keeps, is_inside, is_above, Contribution, opened, with_event, closed, contributions_from, contributions}
use Rattle.flu_contribution.specs.Sending.{is_idle}
use Rattle.flu_partial.specs.Partial.{IsTime, IsTimeOrNone}
use Rattle.flu_save.specs.Checkpoint.{HasWordWidth}
use Rattle.flu_handover.specs.Handing.{IsListed}
use Rattle.flu_sending.specs.Laws.{HasLine, WhatIsSentCanBeHandedOver}
use Rattle.flu_sending.specs.Lines.{row_times, last_time}
use Rattle.flu_sending.proofs.Merged.{all_merged, merged_in_range, event_times, row_times_low, last_in_range, length_merged}
use Rattle.flu_sending.proofs.Sorts.{within_sorts, outside_sorts}
use Rattle.flu_sending.proofs.Widths.{TagsFit, AreWords, update_words}

-- an event as it is read
record IsRead (p : Program) (x : Event) : Type 0 where
  itag : x.itag.0 < count_of_itags p
  time : IsTime x.time
  value : FitsSigned w64 x.value

-- the time of a moment is no greater than it
is_time : (p : Program) (m : ℕ) → IsTime m → IsTime (time_of_moment p m)
is_time p m low = omega (arith, div-le_self m (moments_a_time p), low)

-- the outputs of an event
outputs_are : (P : Out → Type 0) (time : ℕ) (tag : Tag) (texts : List (List ℕ)) → ((text : List ℕ) → P (record { time = time; tag = tag; text = text }))
    → AllByRecursion P (outputs_at time tag texts)
outputs_are P time tag [] each = tt
outputs_are P time tag (text ∷ texts) each = (each text, outputs_are P time tag texts each)

-- the cells that a node keeps, and the others
within_words : (keep : Cell → Bool) (s : Contents) → AreWords s → AreWords (λ c. cond (keep c) (s c) None)
within_words keep s words c =
    elim (keep c) as (λ b. HasWordWidth (cond b (s c) None)) [
      | true ↦ words c
      | false ↦ tt
    ]

outside_words : (keep : Cell → Bool) (s : Contents) → AreWords s → AreWords (λ c. cond (keep c) None (s c))
outside_words keep s words c =
    elim (keep c) as (λ b. HasWordWidth (cond b None (s c))) [
      | true ↦ tt
      | false ↦ words c
    ]

module _ (sorts : KeepsSorts) (fit : TagsFit) (p : Program) (nodes : List Node) (w : ℕ) (last : Option ℕ) (low : IsTimeOrNone last) where
  -- no contribution but an open one waits for the end
  opened_has : (k : Contribution) → HasLine p last k → HasLine p last (opened p nodes w k.cells)
  opened_has k h = record {
    sendable = record {
      cells = record {
        sorts = within_sorts p.families (keeps p nodes w) k.cells h.sendable.cells.sorts;
        width = within_words (keeps p nodes w) k.cells h.sendable.cells.width;
      };
      tags = tt;
    };
    in_range = record { times = tt; place = low; count = omega arith };
  }

  closed_has : (k : Contribution) (y : Event) → HasLine p last k → IsRead p y → HasLine p last (closed p nodes w k y)
  closed_has k y h read = record {
    sendable = record {
      cells = record {
        sorts = outside_sorts p.families (keeps p nodes w) k.cells h.sendable.cells.sorts;
        width = outside_words (keeps p nodes w) k.cells h.sendable.cells.width;
      };
      tags = h.sendable.tags;
    };
    in_range = record { times = h.in_range.times; place = (read.time, omega (arith, read.itag, p.few_itags)); count = h.in_range.count };
  }

  with_event_has : (k : Contribution) (x : Event) → HasLine p last k → IsRead p x → k.count + 1 < 2 ^ 64 → HasLine p last (with_event p k x)
  with_event_has k x h read few =
      let texts = (effect_of p k.cells x).texts in
      let t = tag_of_itag p x.itag in
      let time = time_of_moment p x.time in
      record {
        sendable = record {
          cells = record {
            sorts = sorts p k.cells x h.sendable.cells.sorts;
            width = update_words fit p k.cells x read.value.sfits h.sendable.cells.width;
          };
          tags = all_append (λ (o : Out). IsListed p o.tag) k.outputs (outputs_at time t texts) h.sendable.tags
              (outputs_are (λ (o : Out). IsListed p o.tag) time t texts (λ text. (x.itag, read.itag, refl)));
        };
        in_range = record {
          times = all_append (λ (o : Out). IsTime o.time) k.outputs (outputs_at time t texts) h.in_range.times
              (outputs_are (λ (o : Out). IsTime o.time) time t texts (λ text. is_time p x.time read.time));
          place = low;
          count = few;
        };
      }

  all_have : (k : Contribution) (xs : List Event) → HasLine p last k → k.count + length xs < 2 ^ 64 → AllByRecursion (IsRead p) xs
      → AllByRecursion (HasLine p last) (contributions_from p nodes w k xs)
  all_have k [] h few read = (h, tt)
  all_have k (x ∷ xs) h few read =
      let inner = all_have (with_event p k x) xs (with_event_has k x h read.0 (omega (arith, few))) (omega (arith, few)) read.1 in
      let next = all_have (opened p nodes w k.cells) xs (opened_has k h) (omega (arith, few)) read.1 in
      let other = all_have k xs h (omega (arith, few)) read.1 in
      by (is_inside p nodes w x) (is_above p nodes w x) inner (closed_has k x h read.0, next) other
    where
      by : (i a : Bool) → AllByRecursion (HasLine p last) (contributions_from p nodes w (with_event p k x) xs)
          → AllByRecursion (HasLine p last) (closed p nodes w k x ∷ contributions_from p nodes w (opened p nodes w k.cells) xs)
          → AllByRecursion (HasLine p last) (contributions_from p nodes w k xs)
          → AllByRecursion (HasLine p last) (cond i (contributions_from p nodes w (with_event p k x) xs)
          (cond a (closed p nodes w k x ∷ contributions_from p nodes w (opened p nodes w k.cells) xs) (contributions_from p nodes w k xs)))
      by true a inner above other = inner
      by false true inner above other = above
      by false false inner above other = other

  -- of an open contribution of no event from a state in which all cells are neutral
  none_has : HasLine p last (opened p nodes w nothing_held)
  none_has =
      opened_has (record { cells = nothing_held; outputs = []; count = 0; before = None }) (record {
        sendable = record { cells = record { sorts = λ c. tt; width = λ c. tt }; tags = tt };
        in_range = record { times = tt; place = low; count = omega arith };
      })

pub can_be_handed_over : KeepsSorts → TagsFit → WhatIsSentCanBeHandedOver
can_be_handed_over sorts fit p nodes w lists one streams readable =
    let last = last_time p lists in
    let low : IsTimeOrNone last = last_in_range (row_times p lists) (row_times_low p lists readable.times) in
    let xs = merged lists in
    let times : AllByRecursion (λ (x : Event). IsTime x.time) xs = all_merged (λ (x : Event). IsTime x.time) lists (event_times lists readable.times) in
    let values : AllByRecursion (λ (x : Event). FitsSigned w64 x.value) xs =
    all_merged (λ (x : Event). FitsSigned w64 x.value) lists readable.values in
    let read : AllByRecursion (IsRead p) xs =
    all_of_both (λ (x : Event). x.itag.0 < count_of_itags p) (λ (x : Event). IsTime x.time × FitsSigned w64 x.value) (IsRead p) xs
    (λ x itag both. record { itag = itag; time = both.0; value = both.1 }) (merged_in_range (count_of_itags p) lists one streams)
    (all_of_both (λ (x : Event). IsTime x.time) (λ (x : Event). FitsSigned w64 x.value) (λ (x : Event). IsTime x.time × FitsSigned w64 x.value) xs
    (λ x time value. (time, value)) times values) in
    let few : 0 + length xs < 2 ^ 64 = omega (arith, readable.few, length_merged lists) in
    let ks = contributions p nodes w nothing_held xs in
    let all = all_have sorts fit p nodes w last low (opened p nodes w nothing_held) xs (none_has sorts fit p nodes w last low) few read in
    all_filter (HasLine p last) (λ k. not (is_idle k)) ks
    (all_map (HasLine p last) (λ (k : Contribution). not (is_idle k) ≡ true → HasLine p last k) ks (λ k h passes. h) all)
