-- Who reads the sources of some itags has all items of these itags; and where each itag is read by one whose sources have no defect, the lists
-- of all sources are streams.
use Rattle.std.proofs.Common.{◌≡◌, ◌<◌, ◌+◌, ℕ, zero, suc, Bool, true, false, List, [], ◌∷◌, length, inl, inr, refl, ap, sym, ◌∙◌, arith}
use Rattle.std.specs.Prelude.{◌==◌, ◌&&◌, not, map, slice_index_or, if◌then◌else◌}
use Rattle.std.specs.List.{list_any, AllByRecursion}
use Rattle.std.proofs.lemmas.Bool.{cases_Bool, cases_lt, or_cases, or_left}
use Rattle.std.proofs.lemmas.List.{get_or_past}
use Rattle.flu_lemmas.proofs.Numbers.{same_number}
use Rattle.flu_lemmas.proofs.Ranges.{any_in_range}
use Rattle.flu_lemmas.proofs.Tests.{and_left, and_right, both, not_both}
use Rattle.flu_model.specs.declared.events.Item.{Item}
use Rattle.flu_model.specs.declared.events.Item.TheVariants.{End}
use Rattle.flu_model.specs.declared.jobs.Program.{Program}
use Rattle.flu_model.specs.declared.plans.Node.{Node}
use Rattle.flu_model.specs.Itags.{count_of_itags, source_of_itag}
use Rattle.flu_model.specs.Owners.{ancestors_own}
use Rattle.flu_model.specs.Rules.{is_clock}
use Rattle.flu_model.specs.Streaming.{is_stream_from, are_streams}
use Rattle.flu_outside.specs.Outside.{Contents}
use Rattle.flu_streams.specs.Clocks.{has_ticks}
use Rattle.flu_streams.specs.Good.{AreGood, fault_of_rows, fault_of_clocks, lists_beside, lists_of}
use Rattle.flu_apart.specs.Classes.{itag, inside}
use Rattle.flu_contribution.specs.Laws.{IsApart}
use Rattle.flu_contribution.specs.Sharing.{needs_itag, is_itag_of_none, ArePartsFor}
use Rattle.flu_selected.specs.Laws.{LawOfLists, LawOfTicks, LawOfLength, LawOfDefects, GoodStayGood, selected}
use Rattle.flu_readers.specs.Laws.{GoodWhereRead, ANodeReadsItsPart}
use Rattle.flu_readers.specs.Reading.{lists_one, reads, reads_rest, AreTold, IsReadGood, EachReadsGood, part_read}
use Rattle.flu_readers.proofs.Rising.{no_first}
use Rattle.flu_readers.proofs.Streams.{sound_streams, clock_stream}
use Rattle.flu_readers.proofs.Ticks.{of_clock}

-- ---- what is read
-- the source of an itag that passes a test lists one
pub source_listed : (p : Program) (test : ℕ → Bool) (i : ℕ) → i < count_of_itags p → test i ≡ true → lists_one p test (source_of_itag p (itag i)) ≡ true
source_listed p test i lt is =
    let s = source_of_itag p (itag i) in
    any_in_range (λ j. test j && (source_of_itag p (itag j) == s)) 0 (count_of_itags p) i (omega arith) (omega arith)
    (both (test i) (s == s) is (same_number s))

-- so its list is what all sources give for it, if it has a file
pub same_list : LawOfLists → LawOfLength → (p : Program) (test : ℕ → Bool) (beside : List ℕ) (left : Contents) (i : ℕ) → has_ticks p i ≡ false
    → test i ≡ true
    → slice_index_or (lists_beside p beside (selected p (lists_one p test) left)) i [] ≡ slice_index_or (lists_of p left) i []
same_list lists lengths p test beside left i file is =
    let here : List (List Item) = lists_beside p beside (selected p (lists_one p test) left) in
    let whole : List (List Item) = lists_of p left in
    let here_len : length here ≡ count_of_itags p = lengths p beside (selected p (lists_one p test) left) in
    let whole_len : length whole ≡ count_of_itags p = lengths p [] left in
    elim (cases_lt i (count_of_itags p)) [
      | inl lt ↦ lists p (lists_one p test) beside left i lt file
          ∙ ap (λ b. if b then slice_index_or whole i [] else End ∷ []) (source_listed p test i lt is)
      | inr past ↦ get_or_past here i [] (omega arith) ∙ sym (get_or_past whole i [] (omega arith))
    ]

-- what each of the nodes has read
pub each_reads : ANodeReadsItsPart → (p : Program) (nodes : List Node) (left : Contents) (ws : List ℕ) → AllByRecursion (IsApart p nodes) ws
    → are_streams 0 (lists_of p left) ≡ true → EachReadsGood p nodes left ws → ArePartsFor p nodes (lists_of p left) ws (map (part_read p nodes left) ws)
each_reads node p nodes left [] apart all good = tt
each_reads node p nodes left (w ∷ ws) apart all good =
    (node p nodes w left apart.0.may all good.0, each_reads node p nodes left ws apart.1 all good.1)

-- ---- sources without a defect
pub good_where_read : LawOfDefects → GoodStayGood → GoodWhereRead
good_where_read defects stay p is_read left no_clock good = sym (defects p [] is_read left) ∙ stay p is_read left no_clock good

pub each_good : GoodWhereRead → (p : Program) (nodes : List Node) (left : Contents) → list_any is_clock p.sources ≡ false → AreGood p left → (ws : List ℕ)
    → EachReadsGood p nodes left ws
each_good all p nodes left no_clock good [] = tt
each_good all p nodes left no_clock good (w ∷ ws) = (all p (reads p nodes w) left no_clock good, each_good all p nodes left no_clock good ws)

-- a job without clocks asks for nothing that is told
pub no_clock_no_tick : (p : Program) (nodes : List Node) (left : Contents) (ws : List ℕ) → list_any is_clock p.sources ≡ false → AreTold p nodes left ws []
no_clock_no_tick p nodes left ws none = λ some. absurd (not_both (list_any is_clock p.sources) some none)

-- ---- the lists of all sources, by their places
pub stream_at : (from : ℕ) (lists : List (List Item)) (i : ℕ) → are_streams from lists ≡ true → i < length lists
    → is_stream_from (from + i) 0 (slice_index_or lists i []) ≡ true
stream_at from [] i all lt = absurd (omega arith)
stream_at from (items ∷ lists) zero all lt =
    let here : from + 0 ≡ from = omega arith in
    ap (λ n. is_stream_from n 0 items) here ∙ and_left (is_stream_from from 0 items) (are_streams (from + 1) lists) all
stream_at from (items ∷ lists) (suc i) all lt =
    let there : from + suc i ≡ from + 1 + i = omega arith in
    ap (λ n. is_stream_from n 0 (slice_index_or lists i [])) there
    ∙ stream_at (from + 1) lists i (and_right (is_stream_from from 0 items) (are_streams (from + 1) lists) all) (omega arith)

streams_by_place : (from : ℕ) (lists : List (List Item)) → ((i : ℕ) → i < length lists → is_stream_from (from + i) 0 (slice_index_or lists i []) ≡ true)
    → are_streams from lists ≡ true
streams_by_place from [] each = refl
streams_by_place from (items ∷ lists) each =
    let here : from ≡ from + 0 = omega arith in
    both (is_stream_from from 0 items) (are_streams (from + 1) lists) (ap (λ n. is_stream_from n 0 items) here ∙ each 0 (omega arith))
    (streams_by_place (from + 1) lists (λ i lt. let there : from + 1 + i ≡ from + suc i = omega arith in
    ap (λ n. is_stream_from n 0 (slice_index_or lists i [])) there ∙ each (suc i) (omega arith)))

module _ (defects : LawOfDefects) (lists : LawOfLists) (ticks : LawOfTicks) (lengths : LawOfLength) (p : Program) (left : Contents) where
  -- the list of an itag whose source is read, where the sources that are read have no defect
  stream_read : (test : ℕ → Bool) (beside : List ℕ) (i : ℕ) → i < count_of_itags p → has_ticks p i ≡ false → test i ≡ true
      → IsReadGood p beside (lists_one p test) left → is_stream_from i 0 (slice_index_or (lists_of p left) i []) ≡ true
  stream_read test beside i lt file is good =
      let chosen = selected p (lists_one p test) left in
      let part : List (List Item) = lists_beside p beside chosen in
      let many : length part ≡ count_of_itags p = lengths p beside chosen in
      let sound = (no_first (fault_of_rows p chosen) (fault_of_clocks p beside chosen) (defects p beside (lists_one p test) left ∙ good)).0 in
      let place : i ≡ 0 + i = omega arith in
      sym (ap (is_stream_from i 0) (same_list lists lengths p test beside left i file is)) ∙ ap (λ n. is_stream_from n 0 (slice_index_or part i [])) place
      ∙ stream_at 0 part i (sound_streams p beside chosen sound) (omega arith)

  -- of an itag that is inside one of the nodes
  one_reads : (nodes : List Node) (i : ℕ) → i < count_of_itags p → has_ticks p i ≡ false → (ws : List ℕ) → EachReadsGood p nodes left ws
      → list_any (λ w. inside p nodes w i) ws ≡ true → is_stream_from i 0 (slice_index_or (lists_of p left) i []) ≡ true
  one_reads nodes i lt file [] good inner = cc
  one_reads nodes i lt file (w ∷ ws) good inner =
      elim (or_cases (inside p nodes w i) (list_any (λ w. inside p nodes w i) ws) inner) [
        | inl here ↦ stream_read (needs_itag p nodes w) [] i lt file (or_left (inside p nodes w i) (ancestors_own p nodes w (itag i)) here) good.0
        | inr later ↦ one_reads nodes i lt file ws good.1 later
      ]

  pub streams_where_all_read : (nodes : List Node) (ws beside : List ℕ) → EachReadsGood p nodes left ws → IsReadGood p beside (reads_rest p nodes ws) left
      → are_streams 0 (lists_of p left) ≡ true
  streams_where_all_read nodes ws beside good rest =
      let many : length (lists_of p left) ≡ count_of_itags p = lengths p [] left in
      streams_by_place 0 (lists_of p left) (λ i lt. let few : i < count_of_itags p = omega arith in
      let place : 0 + i ≡ i = omega arith in
      ap (λ n. is_stream_from n 0 (slice_index_or (lists_of p left) i [])) place ∙ elim (cases_Bool (has_ticks p i)) [
        | inl is ↦ clock_stream ticks p left i few (of_clock p i is)
        | inr file ↦ elim (cases_Bool (list_any (λ w. inside p nodes w i) ws)) [
          | inl inner ↦ one_reads nodes i few file ws good inner
          | inr none ↦ stream_read (is_itag_of_none p nodes ws) beside i few file (ap not none) rest
        ]
      ])
