use Rattle.std.proofs.Common.{◌≡◌, ◌≤◌, ◌<◌, true, length-append, ◌+◌, ◌-◌, ◌++◌, ◌∷◌, [], ℕ, List, length, get_or, sym, ap, ◌∙◌, append_assoc, rules, arith}
use Rattle.std.specs.BTreeMap.{values}
use Rattle.std.specs.BTreeMap.Range.{entries_between}
use Rattle.std.specs.Map.{keys_of}
use Rattle.std.specs.Ordering.{nat_cmp}
use Rattle.std.specs.declared.ops.Bound.TheVariants.{Included, Excluded}
use Rattle.std.proofs.lemmas.Grind.{common_steps}
use Rattle.std.proofs.lemmas.List.{append-nil, map-append}
use Rattle.flu_lemmas.specs.Late.{rises_from}
use Rattle.flu_model.specs.declared.events.Item.{Item}
use Rattle.flu_model.specs.declared.events.Item.TheVariants.{End}
use Rattle.flu_streams.specs.Lists.{item_time, times_in}
use Rattle.flu_streams.specs.LoopMoments.{between}
use Rattle.flu_streams.proofs.Between.{between-append, keys_between, last_counts, last_between, none_between}
use Rattle.flu_streams.proofs.Keyed.{front_rises}
use Rattle.flu_streams.proofs.Placing.{up_to_last}
use Rattle.flu_streams.proofs.timed.TimedItems.count_between.Goals as goal
use Rattle.flu_streams.proofs.timed.TimedItems.count_between.Goals.{then-count-gt0+else-last-from, else-count-gt0}

-- the numbers in the range: those of the list, and then the keys of the map
parts : (from end : ℕ) (early late whole : List Item) (keys : List ℕ) → early ++ late ≡ whole → keys ≡ times_in late
    → between from end (times_in whole) ≡ between from end (times_in early) ++ between from end keys
parts from end early late whole keys is keyed =
    ap (λ l. between from end (times_in l)) (sym is) ∙ between-append from end early late ∙ ap (λ k. between from end (times_in early) ++ between from end k) (sym keyed)

pub returns-in-Some-clause-count : goal.returns-in-Some-clause-count
returns-in-Some-clause-count c =
    let early = c.part.new.early.items in
    let late = c.part.new.late in
    let whole : early ++ values late ≡ c.args.self.now = c.part.ensures.same ∙ c.self.view_is in
    let found : c.range.result ≡ entries_between nat_cmp (Included c.args.from) (Excluded c.args.end) late.entries = search rules in
    let steps : c.range.result ≡ c.next_back.new.self ++ (c.in-Some.time.now, c.in-Some.field-0-1.now) ∷ [] = c.in-Some.ensures.steps in
    let keys : between c.args.from c.args.end (keys_of late.entries) ≡ keys_of c.next_back.new.self ++ c.in-Some.time.now ∷ [] =
    sym (keys_between c.args.from c.args.end late.entries) ∙ ap keys_of (sym found ∙ steps)
    ∙ map-append (λ e. e.0) c.next_back.new.self ((c.in-Some.time.now, c.in-Some.field-0-1.now) ∷ []) in
    let all = parts c.args.from c.args.end early (values late) c.args.self.now (keys_of late.entries) whole c.part.ensures.keyed
    ∙ ap (λ k. between c.args.from c.args.end (times_in early) ++ k) keys
    ∙ sym (append_assoc (between c.args.from c.args.end (times_in early)) (keys_of c.next_back.new.self) (c.in-Some.time.now ∷ [])) in
    let counts = last_counts c.args.from c.in-Some.time.now (between c.args.from c.args.end (times_in c.args.self.now)) _ c.requires.in_a_row all in
    let some = length-append (between c.args.from c.args.end (times_in early) ++ keys_of c.next_back.new.self) (c.in-Some.time.now ∷ []) in
    let size = ap length all in
    omega (arith, counts, some, size)

pub overflow_add-result-then-last-from : goal.overflow_add-result-then-last-from
overflow_add-result-then-last-from c =
    let within = c.in_ok-part.ensures.parted (c.len-count.result - 1) (grind (arith, common_steps)) in
    let last : c.time_of-last.result ≡ item_time (get_or c.part.new.early.items (c.len-count.result - 1) End) = grind (arith, common_steps) in
    let order = c.requires.order in
    grind (arith, common_steps)

-- where the map has nothing in the range
only_early : (from end : ℕ) (early late whole : List Item) (es : List (ℕ × Item)) → early ++ late ≡ whole → keys_of es ≡ times_in late
    → entries_between nat_cmp (Included from) (Excluded end) es ≡ [] → between from end (times_in whole) ≡ between from end (times_in early)
only_early from end early late whole es is keyed none =
    parts from end early late whole (keys_of es) is keyed
    ∙ ap (λ k. between from end (times_in early) ++ k) (sym (keys_between from end es) ∙ ap keys_of none) ∙ append-nil (between from end (times_in early))

pub returns-then-last-from-clause-count : goal.returns-then-last-from-clause-count
returns-then-last-from-clause-count c =
    let early = c.part.new.early.items in
    let late = c.part.new.late in
    let n = c.len-count.result - 1 in
    let whole : early ++ values late ≡ c.args.self.now = c.part.ensures.same ∙ c.self.view_is in
    let none : entries_between nat_cmp (Included c.args.from) (Excluded c.args.end) late.entries ≡ [] = search rules in
    let last : c.time_of-last.result ≡ item_time (get_or early n End) = grind (arith, common_steps) in
    let size : n + 1 ≡ length early = grind (arith, common_steps) in
    let within : item_time (get_or early n End) ≤ c.args.end - 1 = c.in_ok-part.ensures.parted n (omega (arith, size)) in
    let order = c.requires.order in
    let found = last_between c.args.from c.args.end n early size (omega (arith, last, c.if-last-from.true)) (omega (arith, within, order)) in
    let all = only_early c.args.from c.args.end early (values late) c.args.self.now late.entries whole c.part.ensures.keyed none ∙ found.1 in
    let counts = last_counts c.args.from (item_time (get_or early n End)) (between c.args.from c.args.end (times_in c.args.self.now)) found.0 c.requires.in_a_row all in
    omega (arith, counts, last, c.if-last-from.true)

pub returns-clause-count : goal.returns-clause-count
returns-clause-count c =
    let early = c.part.new.early.items in
    let late = c.part.new.late in
    let whole : early ++ values late ≡ c.args.self.now = c.part.ensures.same ∙ c.self.view_is in
    let none : entries_between nat_cmp (Included c.args.from) (Excluded c.args.end) late.entries ≡ [] = search rules in
    let up : rises_from item_time 0 (early ++ values late) ≡ true = ap (rises_from item_time 0) whole ∙ c.requires.rising in
    let below : (i : ℕ) → i < length early → item_time (get_or early i End) < c.args.from = λ i lt. elim c.if-count-gt0.branch [
      | then-count-gt0+else-last-from w ↦
          let k = up_to_last early (length early) i (front_rises early (values late) up) (omega arith) lt in
          let last : item_time (get_or early (length early - 1) End) < c.args.from = grind (arith, common_steps) in
          omega (arith, k, last)
      | else-count-gt0 w ↦ absurd (grind (arith, common_steps))
    ] in
    sym (ap length (only_early c.args.from c.args.end early (values late) c.args.self.now late.entries whole c.part.ensures.keyed none
    ∙ none_between c.args.from c.args.end early below))
