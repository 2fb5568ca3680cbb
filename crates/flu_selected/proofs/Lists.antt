-- The lists of the itags where the files of some sources are closed.
use Rattle.std.proofs.Common.{◌≡◌, ℕ, suc, ◌+◌, ◌<◌, ◌∙◌, refl, sym, ap, Bool, true, false, not, List, [], ◌∷◌, ◌++◌, length, map}
use Rattle.std.proofs.Common.{length-append, get_or, arith, Option, Some}
use Rattle.std.specs.Prelude.{sum_by, if◌then◌else◌, unwrap_or}
use Rattle.std.specs.List.{flat_map, AllByRecursion}
use Rattle.std.specs.Option.{option_map_or}
use Rattle.std.proofs.lemmas.List.{length-map}
use Rattle.std.proofs.lemmas.List.FromFn.{length-map-range_with_len, get_or-map-range_with_len}
use Rattle.flu_lemmas.proofs.Elements.{all_map}
use Rattle.flu_lemmas.proofs.Tests.{and_left, and_right, both}
use Rattle.flu_model.specs.Erasure.{job_of}
use Rattle.flu_model.specs.declared.events.Item.{Item}
use Rattle.flu_model.specs.declared.events.Item.TheVariants.{End as EndItem}
use Rattle.flu_model.specs.declared.events.Tag.{Tag}
use Rattle.flu_model.specs.declared.jobs.Kind.{Kind}
use Rattle.flu_model.specs.declared.jobs.Source.{Source}
use Rattle.flu_model.specs.declared.jobs.Program.{Program}
use Rattle.flu_model.specs.declared.moments.Timing.{Timing}
use Rattle.flu_model.specs.Itags.{count_of_itags}
use Rattle.flu_model.specs.Moments.{timing_of}
use Rattle.flu_model.specs.Rules.{is_clock}
use Rattle.flu_model.specs.Streaming.{is_stream_from, are_streams}
use Rattle.flu_model.specs.Listing.{tags_of_source, itags_of_sources}
use Rattle.flu_outside.specs.Outside.{Contents}
use Rattle.flu_outside.specs.Taking.{bytes_left}
use Rattle.flu_rows.specs.declared.row.RowForm.{RowForm}
use Rattle.flu_rows.specs.declared.row.Row.{Row}
use Rattle.flu_rows.specs.declared.row.Row.TheVariants.{End}
use Rattle.flu_rows.specs.Reading.{read_file}
use Rattle.flu_rows.specs.Row.{form_of}
use Rattle.flu_streams.specs.Before.{with_before, each_with_before}
use Rattle.flu_streams.specs.Clocks.{Declared, ranks_of, items_of_ticks, lists_of_ticks}
use Rattle.flu_streams.specs.Good.{lines_in, rows_in, ranks_in, at_moments, items_at, lists_of_rows, lists_of_source, lists_beside, lists_of, ticks_beside}
use Rattle.flu_streams.specs.Tags.{width}
use Rattle.flu_streams.specs.Tests.{rows_of}
use Rattle.flu_streams.proofs.Moments.{moments_some}
use Rattle.flu_streams.proofs.Ticking.{ticks_rise, stream_of_ticks}
use Rattle.flu_selected.proofs.Ends.{end_read}
use Rattle.flu_selected.proofs.Names.{ClosesFile, closes_others}
use Rattle.flu_selected.proofs.NoClocks.{lines_of_file, lists_of_file}
use Rattle.flu_selected.proofs.Places.{IsOfSource, of_source, holds_there, number_of, those_before}
use Rattle.flu_selected.specs.Laws.{LawOfRanks, LawOfLists, LawOfTicks, LawOfLength, StreamsStay, closed_files, selected, read_ranks_of}
use Rattle.flu_selected.specs.Selecting.{is_among, closed_at, end_line}

-- ---- the rows of one source
-- of a name that is not closed is left what is left, and of a closed one the line
pub open_left : (names : List (List ℕ)) (left : Contents) (name : List ℕ) → is_among names name ≡ false → closed_at names left name ≡ left name
open_left names left name none = rw none refl

pub closed_left : (names : List (List ℕ)) (left : Contents) (name : List ℕ) → is_among names name ≡ true → closed_at names left name ≡ Some end_line
closed_left names left name there = rw there refl

pub open_lines : (form : RowForm) (names : List (List ℕ)) (left : Contents) (s : Source) → is_among names s.file ≡ false
    → lines_in form (closed_at names left) s ≡ lines_in form left s
open_lines form names left s none = ap (λ bytes. if is_clock s then [] else read_file form (unwrap_or bytes [])) (open_left names left s.file none)

pub open_rows : (form : RowForm) (names : List (List ℕ)) (left : Contents) (s : Source) → is_among names s.file ≡ false
    → rows_in form (closed_at names left) s ≡ rows_in form left s
open_rows form names left s none = ap rows_of (open_lines form names left s none)

pub closed_rows : (form : RowForm) (names : List (List ℕ)) (left : Contents) (s : Source) → is_clock s ≡ false → is_among names s.file ≡ true
    → rows_in form (closed_at names left) s ≡ End ∷ []
closed_rows form names left s file there =
    ap rows_of (lines_of_file form (closed_at names left) s file)
    ∙ ap (λ bytes. rows_of (read_file form (unwrap_or bytes []))) (closed_left names left s.file there) ∙ ap rows_of (end_read form)

-- a clock has no lines
pub no_lines : (form : RowForm) (left : Contents) (s : Source) → is_clock s ≡ true → lines_in form left s ≡ []
no_lines form left s ticks = ap (λ b. if b then [] else read_file form (bytes_left left s.file)) ticks

pub no_rows : (form : RowForm) (left : Contents) (s : Source) → is_clock s ≡ true → rows_in form left s ≡ []
no_rows form left s ticks = ap rows_of (no_lines form left s ticks)

-- ---- the lists of one source
length_of_rows : (timing : Timing) (kinds : List Kind) (s : Source) (first : ℕ) (rows : List Row) → length (lists_of_rows timing kinds s first rows) ≡ width s
length_of_rows timing kinds s first rows = length-map-range_with_len (items_at kinds s first (at_moments timing [] rows)) 0 (width s)

end_alone : (timing : Timing) (kinds : List Kind) (s : Source) (first i : ℕ) → i < width s
    → get_or (lists_of_rows timing kinds s first (End ∷ [])) i [] ≡ EndItem ∷ []
end_alone timing kinds s first i lt = get_or-map-range_with_len (items_at kinds s first (at_moments timing [] (End ∷ []))) 0 (width s) i (0 + i) [] lt refl

-- ---- where the rows stand
ranks_by : (p : Program) (is_read : ℕ → Bool) (left : Contents) (e : Declared) (b clock : Bool) → is_clock e.1 ≡ clock → is_read (length e.0) ≡ b
    → ClosesFile is_read (closed_files p is_read) e
    → ranks_of p (length e.0) (rows_in (form_of (job_of p)) (selected p is_read left) e.1)
    ≡ (if b then ranks_of p (length e.0) (rows_in (form_of (job_of p)) left e.1) else [])
ranks_by p is_read left e true true ticks read closes =
    ap (ranks_of p (length e.0)) (no_rows (form_of (job_of p)) (selected p is_read left) e.1 ticks ∙ sym (no_rows (form_of (job_of p)) left e.1 ticks))
ranks_by p is_read left e false true ticks read closes = ap (ranks_of p (length e.0)) (no_rows (form_of (job_of p)) (selected p is_read left) e.1 ticks)
ranks_by p is_read left e true false file read closes =
    ap (ranks_of p (length e.0)) (open_rows (form_of (job_of p)) (closed_files p is_read) left e.1 (closes file ∙ ap not read))
ranks_by p is_read left e false false file read closes =
    ap (ranks_of p (length e.0)) (closed_rows (form_of (job_of p)) (closed_files p is_read) left e.1 file (closes file ∙ ap not read))

flat_same : {X Y : Type 0} (f g : X → List Y) (xs : List X) → AllByRecursion (λ x. f x ≡ g x) xs → flat_map f xs ≡ flat_map g xs
flat_same f g [] same = refl
flat_same f g (x ∷ xs) same = let here = same.0 in let more = flat_same f g xs same.1 in λ i. here i ++ more i

pub ranks_law : LawOfRanks
ranks_law p is_read left =
    flat_same (λ (e : Declared). ranks_of p (length e.0) (rows_in (form_of (job_of p)) (selected p is_read left) e.1)) (read_ranks_of p is_read left)
    (each_with_before p.sources)
    (all_map (ClosesFile is_read (closed_files p is_read)) _ (each_with_before p.sources)
    (λ e closes. ranks_by p is_read left e (is_read (length e.0)) (is_clock e.1) refl refl closes) (closes_others p is_read))

-- ---- the lists of all sources
length_of_source : (p : Program) (rows : List Row) (ticks : List ℕ) (e : Declared) → length (lists_of_source p rows ticks e) ≡ width e.1
length_of_source p rows ticks e = by_clock (is_clock e.1)
  where
    by_clock : (b : Bool) → length (if b then lists_of_ticks (timing_of p (length e.0)) e.1 (sum_by width e.0) ticks
        else lists_of_rows (timing_of p (length e.0)) p.kinds e.1 (sum_by width e.0) rows) ≡ width e.1
    by_clock true = length-map-range_with_len (λ place. items_of_ticks (timing_of p (length e.0)) (sum_by width e.0 + place) ticks) 0 (width e.1)
    by_clock false = length_of_rows (timing_of p (length e.0)) p.kinds e.1 (sum_by width e.0) rows

-- clocks have their lists too
length_from : (p : Program) (rows : Declared → List Row) (ticks : Declared → List ℕ) (before sources : List Source) (n : ℕ)
    → length (flat_map (λ e. lists_of_source p (rows e) (ticks e) e) (with_before before sources)) ≡ length (itags_of_sources n sources)
length_from p rows ticks before [] n = refl
length_from p rows ticks before (s ∷ rest) n =
    let here : List (List Item) = lists_of_source p (rows (before, s)) (ticks (before, s)) (before, s) in
    let more : List (List Item) = flat_map (λ e. lists_of_source p (rows e) (ticks e) e) (with_before (before ++ s ∷ []) rest) in
    let mine : List (Tag × ℕ) = map (λ (t : Tag). (t, n)) (tags_of_source s) in
    let lists_len : length (here ++ more) ≡ length here + length more = length-append here more in
    let itags_len : length (itags_of_sources n (s ∷ rest)) ≡ length mine + length (itags_of_sources (n + 1) rest) =
    length-append mine (itags_of_sources (n + 1) rest) in
    let here_len : length here ≡ width s = length_of_source p (rows (before, s)) (ticks (before, s)) (before, s) in
    let mine_len : length mine ≡ width s = length-map (tags_of_source s) (λ (t : Tag). (t, n)) in
    let later : length more ≡ length (itags_of_sources (n + 1) rest) = length_from p rows ticks (before ++ s ∷ []) rest (n + 1) in
    omega arith

pub length_law : LawOfLength
length_law p beside left = length_from p (λ e. rows_in (form_of (job_of p)) left e.1) (ticks_beside p beside left) [] p.sources 0

-- ---- the list of an itag
module _ (p : Program) (beside : List ℕ) (left : Contents) (itag : ℕ) (is : IsOfSource p itag) where
  abbrev timing : Timing
  timing = timing_of p (length (those_before p itag))

  abbrev ticks : List ℕ
  ticks = ticks_beside p beside left (those_before p itag, is.source)

  abbrev rows : List Row
  rows = rows_in (form_of (job_of p)) left is.source

  list_at : get_or (lists_beside p beside left) itag [] ≡ get_or (lists_of_source p rows ticks (those_before p itag, is.source)) is.place []
  list_at =
      is.list (λ e. lists_of_source p (rows_in (form_of (job_of p)) left e.1) (ticks_beside p beside left e) e)
      (λ e. length_of_source p (rows_in (form_of (job_of p)) left e.1) (ticks_beside p beside left e) e)

  -- of a source with a file the items of its rows
  list_of_file : is_clock is.source ≡ false
      → get_or (lists_beside p beside left) itag []
      ≡ get_or (lists_of_rows timing p.kinds is.source (sum_by width (those_before p itag)) rows) is.place []
  list_of_file file = list_at ∙ ap (λ lists. get_or lists is.place []) (lists_of_file p rows ticks (those_before p itag, is.source) file)

  -- and of a clock its ticks
  list_of_clock : is_clock is.source ≡ true → get_or (lists_beside p beside left) itag [] ≡ items_of_ticks (timing_of p (number_of p itag)) itag ticks
  list_of_clock ticks_there =
      list_at
      ∙ ap (λ b. get_or (if b then lists_of_ticks timing is.source (sum_by width (those_before p itag)) ticks
      else lists_of_rows timing p.kinds is.source (sum_by width (those_before p itag)) rows) is.place []) ticks_there
      ∙ get_or-map-range_with_len (λ place. items_of_ticks timing (sum_by width (those_before p itag) + place) ticks) 0 (width is.source) is.place
      (0 + is.place) [] is.inside refl
      ∙ ap (λ n. items_of_ticks timing n ticks) (let same : sum_by width (those_before p itag) + (0 + is.place) ≡ sum_by width (those_before p itag) + is.place = omega arith in same)
      ∙ ap (λ n. items_of_ticks timing n ticks) (sym is.first) ∙ ap (λ n. items_of_ticks (timing_of p n) itag ticks) is.count

-- ---- where the files of some sources are closed
-- the list of an itag: what a read source gives, and else the end alone
abbrev list_if : Bool → List Item → List Item
list_if b items = if b then items else EndItem ∷ []

here_same : (timing : Timing) (form : RowForm) (kinds : List Kind) (names : List (List ℕ)) (left : Contents) (s : Source) (first i : ℕ) (b : Bool)
    → is_clock s ≡ false → is_among names s.file ≡ not b → i < width s
    → get_or (lists_of_rows timing kinds s first (rows_in form (closed_at names left) s)) i []
    ≡ list_if b (get_or (lists_of_rows timing kinds s first (rows_in form left s)) i [])
here_same timing form kinds names left s first i true file is lt =
    ap (λ rows. get_or (lists_of_rows timing kinds s first rows) i []) (open_rows form names left s is)
here_same timing form kinds names left s first i false file is lt =
    ap (λ rows. get_or (lists_of_rows timing kinds s first rows) i []) (closed_rows form names left s file is)
    ∙ end_alone timing kinds s first i lt

file_same : (p : Program) (is_read : ℕ → Bool) (beside : List ℕ) (left : Contents) (itag : ℕ) (is : IsOfSource p itag) → is_clock is.source ≡ false
    → get_or (lists_beside p beside (selected p is_read left)) itag [] ≡ list_if (is_read (number_of p itag)) (get_or (lists_of p left) itag [])
file_same p is_read beside left itag is file =
    let earlier = those_before p itag in
    let closes = holds_there p itag is (ClosesFile is_read (closed_files p is_read)) (closes_others p is_read) file in
    list_of_file p beside (selected p is_read left) itag is file
    ∙ here_same (timing_of p (length earlier)) (form_of (job_of p)) p.kinds (closed_files p is_read) left is.source (sum_by width earlier) is.place
    (is_read (length earlier)) file closes is.inside
    ∙ ap (list_if (is_read (length earlier))) (sym (list_of_file p [] left itag is file))
    ∙ ap (λ n. list_if (is_read n) (get_or (lists_of p left) itag [])) is.count

pub lists_law : LawOfLists
lists_law p is_read beside left itag lt none =
    let is = of_source p itag lt in
    file_same p is_read beside left itag is (sym (ap (λ (o : Option Source). option_map_or is_clock o false) is.at) ∙ none)

pub ticks_law : LawOfTicks
ticks_law p beside left itag s lt at ticks =
    let is = of_source p itag lt in
    let same : is.source ≡ s = (let both : Some is.source ≡ Some s = sym is.at ∙ at in cc) in
    list_of_clock p beside left itag is (ap is_clock same ∙ ticks)
    ∙ ap (λ source. items_of_ticks (timing_of p (number_of p itag)) itag (ticks_beside p beside left (those_before p itag, source))) same

-- ---- streams
streams_by_place : (from : ℕ) (lists others : List (List Item)) → length others ≡ length lists
    → ((i : ℕ) → i < length lists → is_stream_from (from + i) 0 (get_or lists i []) ≡ true → is_stream_from (from + i) 0 (get_or others i []) ≡ true)
    → are_streams from lists ≡ true → are_streams from others ≡ true
streams_by_place from [] [] len each all = refl
streams_by_place from [] (other ∷ others) len each all = absurd (omega arith)
streams_by_place from (items ∷ rest) [] len each all = absurd (omega arith)
streams_by_place from (items ∷ rest) (other ∷ others) len each all =
    let here : from + 0 ≡ from = omega arith in
    let first : is_stream_from (from + 0) 0 items ≡ true =
    ap (λ itag. is_stream_from itag 0 items) here ∙ and_left (is_stream_from from 0 items) (are_streams (from + 1) rest) all in
    let later : (i : ℕ) → i < length rest → is_stream_from (from + 1 + i) 0 (get_or rest i []) ≡ true
    → is_stream_from (from + 1 + i) 0 (get_or others i []) ≡ true =
    λ i lt is. let number : from + 1 + i ≡ from + suc i = omega arith in
    ap (λ itag. is_stream_from itag 0 (get_or others i [])) number
    ∙ each (suc i) (omega arith) (sym (ap (λ itag. is_stream_from itag 0 (get_or rest i [])) number) ∙ is) in
    both (is_stream_from from 0 other) (are_streams (from + 1) others)
    (ap (λ itag. is_stream_from itag 0 other) (sym here) ∙ each 0 (omega arith) first)
    (streams_by_place (from + 1) rest others (omega arith) later (and_right (is_stream_from from 0 items) (are_streams (from + 1) rest) all))

stream_if : (b : Bool) (itag : ℕ) (items : List Item) → is_stream_from itag 0 items ≡ true → is_stream_from itag 0 (list_if b items) ≡ true
stream_if true itag items is = is
stream_if false itag items is = refl

-- ticks are a stream, among whatever rows
still_stream : (p : Program) (is_read : ℕ → Bool) (beside : List ℕ) (left : Contents) (itag : ℕ) (is : IsOfSource p itag) (clock : Bool)
    → is_clock is.source ≡ clock → is_stream_from itag 0 (get_or (lists_of p left) itag []) ≡ true
    → is_stream_from itag 0 (get_or (lists_beside p beside (selected p is_read left)) itag []) ≡ true
still_stream p is_read beside left itag is true ticks was =
    let n = number_of p itag in
    let now = selected p is_read left in
    ap (is_stream_from itag 0) (list_of_clock p beside now itag is ticks)
    ∙ stream_of_ticks (timing_of p n) itag 0 0 (ticks_beside p beside now (those_before p itag, is.source)) (moments_some p)
    (ticks_rise p n is.source (beside ++ ranks_in p now) is.at) (omega arith)
still_stream p is_read beside left itag is false file was =
    ap (is_stream_from itag 0) (file_same p is_read beside left itag is file)
    ∙ stream_if (is_read (number_of p itag)) itag (get_or (lists_of p left) itag []) was

pub streams_stay : StreamsStay
streams_stay p is_read beside left all =
    let now = lists_beside p beside (selected p is_read left) in
    let len : length (lists_of p left) ≡ count_of_itags p = length_law p [] left in
    let each : (i : ℕ) → i < length (lists_of p left) → is_stream_from (0 + i) 0 (get_or (lists_of p left) i []) ≡ true
    → is_stream_from (0 + i) 0 (get_or now i []) ≡ true =
    λ i lt was.
    let is = of_source p i (omega arith) in
    let here : 0 + i ≡ i = omega arith in
    ap (λ n. is_stream_from n 0 (get_or now i [])) here
    ∙ still_stream p is_read beside left i is (is_clock is.source) refl
    (sym (ap (λ n. is_stream_from n 0 (get_or (lists_of p left) i [])) here) ∙ was) in
    streams_by_place 0 (lists_of p left) now (length_law p beside (selected p is_read left) ∙ sym len) each all
