-- What the one that combines reads beside the rows that the nodes tell: each row of all sources is read by a node or by the one that combines, so the rows
-- that are told and its own reach as far as all, and tell all ticks.
use Rattle.std.proofs.Common.{◌≡◌, ◌≤◌, ◌+◌, ℕ, Bool, true, not, List, [], ◌++◌, length, inl, inr}
use Rattle.std.proofs.Common.{sym, ap, subst, ◌∙◌, arith}
use Rattle.std.specs.Prelude.{Contains, if◌then◌else◌}
use Rattle.std.specs.List.{list_any}
use Rattle.std.proofs.lemmas.Bool.{cases_Bool, cases_lt, or_left}
use Rattle.std.proofs.lemmas.List.{get_or_past}
use Rattle.std.proofs.lemmas.List.Elements.{Contains-append_left, Contains-append_right, Contains-append_cases}
use Rattle.flu_model.specs.declared.jobs.Program.{Program}
use Rattle.flu_model.specs.declared.plans.Node.{Node}
use Rattle.flu_model.specs.Itags.{count_of_itags, source_of_itag}
use Rattle.flu_model.specs.Merging.{events_of}
use Rattle.flu_model.specs.Moments.{timing_of}
use Rattle.flu_model.specs.Owners.{ancestors_own}
use Rattle.flu_outside.specs.Outside.{Contents}
use Rattle.flu_streams.specs.Before.{each_with_before}
use Rattle.flu_streams.specs.Clocks.{Declared, has_ticks, items_of_ticks}
use Rattle.flu_streams.specs.Good.{ranks_in, lists_of}
use Rattle.flu_apart.specs.Classes.{itag, inside}
use Rattle.flu_contribution.specs.Sharing.{needs_itag, is_itag_of_none, AgreeOn}
use Rattle.flu_selected.specs.Laws.{LawOfRanks, LawOfLists, LawOfTicks, LawOfLength, selected, read_ranks, read_ranks_of}
use Rattle.flu_selected.specs.Spans.{span_of_ranks}
use Rattle.flu_readers.specs.Reading.{reads, reads_rest, rest_read, all_told, AreTold}
use Rattle.flu_readers.proofs.Events.{in_flat, of_flat, any_found}
use Rattle.flu_readers.proofs.Parts.{source_listed, same_list}
use Rattle.flu_readers.proofs.Placed.{source_lists}
use Rattle.flu_readers.proofs.Ticks.{Reach, reach_among, ticks_alike, span_among, span_reaches, IsOfClock, of_clock, ticks_of_itag, list_of_clock, read_among}

-- a rank of a source that is read
read_there : (p : Program) (is_read : ℕ → Bool) (left : Contents) (e : Declared) (m : ℕ) → Contains (each_with_before p.sources) e
    → is_read (length e.0) ≡ true → Contains (read_ranks_of p (λ n. true) left e) m → Contains (read_ranks p is_read left) m
read_there p is_read left e m there is own =
    in_flat (read_ranks_of p is_read left) (each_with_before p.sources) e m there
    (subst (λ b. Contains (if b then read_ranks_of p (λ n. true) left e else []) m) (sym is) own)

module _ (ranks : LawOfRanks) (lists : LawOfLists) (ticks : LawOfTicks) (lengths : LawOfLength) (p : Program) (nodes : List Node) (ws beside : List ℕ)
    (left : Contents) (told : AreTold p nodes left ws beside) where
  abbrev chosen : Contents
  chosen = selected p (reads_rest p nodes ws) left

  -- the rows among which clocks tick
  abbrev rows : List ℕ
  rows = beside ++ ranks_in p chosen

  abbrev told_by : ℕ → List ℕ
  told_by w = span_of_ranks (read_ranks p (reads p nodes w) left)

  module _ (are_told : beside ≡ all_told p nodes left ws) where
    row_among : (m : ℕ) → Contains rows m → Contains (ranks_in p left) m
    row_among m there =
        elim (Contains-append_cases beside (ranks_in p chosen) m there) [
          | inl elsewhere ↦
              let by_node = of_flat told_by ws m (subst (λ l. Contains l m) are_told elsewhere) in
              read_among p (reads p nodes by_node.0) left m (span_among (read_ranks p (reads p nodes by_node.0) left) m by_node.2)
          | inr here ↦ read_among p (reads_rest p nodes ws) left m (subst (λ l. Contains l m) (ranks p (reads_rest p nodes ws) left) here)
        ]

    -- where a row stands, there are rows on both sides
    record IsWithin (m : ℕ) : Type 0 where
      low : (a : ℕ) × Contains rows a × (a ≤ m)
      high : (b : ℕ) × Contains rows b × (m ≤ b)

    told_there : (w a : ℕ) → Contains ws w → Contains (told_by w) a → Contains rows a
    told_there w a there own =
        Contains-append_left beside (ranks_in p chosen) a (subst (λ l. Contains l a) (sym are_told) (in_flat told_by ws w a there own))

    row_within : (m : ℕ) → Contains (ranks_in p left) m → IsWithin m
    row_within m there =
        let own = of_flat (read_ranks_of p (λ n. true) left) (each_with_before p.sources) m there in
        let lists_it = source_lists p own.0 own.1 in
        let i = lists_it.itag_there in
        elim (cases_Bool (list_any (λ w. inside p nodes w i) ws)) [
          | inl inner ↦
              let node = any_found (λ w. inside p nodes w i) ws inner in
              let w = node.0 in
              let needed : needs_itag p nodes w i ≡ true = or_left (inside p nodes w i) (ancestors_own p nodes w (itag i)) node.2 in
              let is : reads p nodes w (length own.0.0) ≡ true =
              ap (reads p nodes w) (sym lists_it.is) ∙ source_listed p (needs_itag p nodes w) i lists_it.within needed in
              let read : Contains (read_ranks p (reads p nodes w) left) m = read_there p (reads p nodes w) left own.0 m own.1 is own.2 in
              let reach = span_reaches (read_ranks p (reads p nodes w) left) in
              let low = reach.low m read in
              let high = reach.high m read in
              record { low = (low.0, told_there w low.0 node.1 low.1, low.2); high = (high.0, told_there w high.0 node.1 high.1, high.2) }
          | inr none ↦
              let is : reads_rest p nodes ws (length own.0.0) ≡ true =
              ap (reads_rest p nodes ws) (sym lists_it.is) ∙ source_listed p (is_itag_of_none p nodes ws) i lists_it.within (ap not none) in
              let read : Contains (ranks_in p chosen) m =
              subst (λ l. Contains l m) (sym (ranks p (reads_rest p nodes ws) left)) (read_there p (reads_rest p nodes ws) left own.0 m own.1 is own.2) in
              let here = Contains-append_right beside (ranks_in p chosen) m read in
              record { low = (m, here, omega arith); high = (m, here, omega arith) }
        ]

    reach_all : Reach (ranks_in p left) rows
    reach_all = record { low = λ m there. (row_within m there).low; high = λ m there. (row_within m there).high }

  same_ticks : (i : ℕ) (clock : IsOfClock p i) → ticks_of_itag p i clock rows ≡ ticks_of_itag p i clock (ranks_in p left)
  same_ticks i clock =
      let are_told = told clock.any in
      ticks_alike (length p.sources) 1 clock.every (source_of_itag p (itag i)) (omega arith) clock.declared clock.some rows (ranks_in p left)
      (reach_among rows (ranks_in p left) (row_among are_told)) (reach_all are_told)

  -- so all events are there of the itags that are inside none of the nodes
  pub rest_agrees : AgreeOn (is_itag_of_none p nodes ws) (lists_of p left) (rest_read p nodes ws beside left)
  rest_agrees i none =
      let rest_len = lengths p beside chosen in
      let whole_len = lengths p [] left in
      elim (cases_lt i (count_of_itags p)) [
        | inl lt ↦ elim (cases_Bool (has_ticks p i)) [
          | inl is ↦
              let clock = of_clock p i is in
              ap events_of (list_of_clock ticks p beside chosen i lt clock
              ∙ ap (items_of_ticks (timing_of p (source_of_itag p (itag i))) i) (same_ticks i clock) ∙ sym (list_of_clock ticks p [] left i lt clock))
          | inr file ↦ ap events_of (same_list lists lengths p (is_itag_of_none p nodes ws) beside left i file none)
        ]
        | inr past ↦ ap events_of (get_or_past (rest_read p nodes ws beside left) i [] (omega (arith, past, rest_len))
            ∙ sym (get_or_past (lists_of p left) i [] (omega (arith, past, whole_len))))
      ]
