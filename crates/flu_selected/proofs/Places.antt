-- Which source an itag is of, and where its list stands among those of all sources.
use Rattle.std.proofs.Common.{◌≡◌, ℕ, zero, suc, ◌+◌, ◌-◌, ◌<◌, ◌≤◌, ◌∙◌, refl, sym, ap, subst, List, [], ◌∷◌, ◌++◌, length, map, take, append_assoc}
use Rattle.std.proofs.Common.{length-append, get_or, arith, inl, inr, Some}
use Rattle.std.specs.Prelude.{sum_by, slice_get}
use Rattle.std.specs.List.{flat_map, AllByRecursion}
use Rattle.std.proofs.Math.ListN.{get_or-append}
use Rattle.std.proofs.Math.Seq.{take-append_seam}
use Rattle.std.proofs.lemmas.Bool.{cases_lt}
use Rattle.std.proofs.lemmas.List.{append-nil, length-map, get_or-append_right}
use Rattle.std.proofs.lemmas.List.Sums.{sum_by-append}
use Rattle.flu_lemmas.proofs.Places.{slice_get-behind}
use Rattle.flu_model.specs.declared.events.Item.{Item}
use Rattle.flu_model.specs.declared.events.Tag.{Tag}
use Rattle.flu_model.specs.declared.jobs.Source.{Source}
use Rattle.flu_model.specs.declared.jobs.Program.{Program}
use Rattle.flu_model.specs.Itags.{count_of_itags, source_of_itag}
use Rattle.flu_model.specs.Listing.{tag, tags_of_source, itags_of_sources}
use Rattle.flu_streams.specs.Before.{with_before, each_with_before}
use Rattle.flu_streams.specs.Clocks.{Declared}
use Rattle.flu_streams.specs.Tags.{width}

-- the number of the source of an itag, from the itags of a source on
abbrev source_in : ℕ → List Source → ℕ → ℕ
source_in n sources i = (get_or (itags_of_sources n sources) i (tag 0 0, 0)).1

-- a list for each itag of each source
abbrev pub ListForEach : (Declared → List (List Item)) → Type 0
ListForEach lists = (e : Declared) → length (lists e) ≡ width e.1

-- one of these sources, which come behind others, has the itag at a place
record IsAmong (before sources : List Source) (itag : ℕ) : Type 0 where
  earlier : List Source
  source : Source
  later : List Source
  place : ℕ
  split : sources ≡ earlier ++ source ∷ later
  inside : place < width source
  number : source_in (length before) sources itag ≡ length (before ++ earlier)
  first : sum_by width before + itag ≡ sum_by width (before ++ earlier) + place
  list : (lists : Declared → List (List Item)) → ListForEach lists
      → get_or (flat_map lists (with_before before sources)) itag [] ≡ get_or (lists (before ++ earlier, source)) place []

mine_source : (tags : List Tag) (n i : ℕ) (rest : List (Tag × ℕ)) → i < length tags → (get_or (map (λ t. (t, n)) tags ++ rest) i (tag 0 0, 0)).1 ≡ n
mine_source [] n i rest lt = absurd (omega arith)
mine_source (t ∷ tags) n zero rest lt = refl
mine_source (t ∷ tags) n (suc i) rest lt = mine_source tags n i rest (omega arith)

among_here : (before : List Source) (s : Source) (rest : List Source) (i : ℕ) → i < width s → IsAmong before (s ∷ rest) i
among_here before s rest i lt = record {
  earlier = [];
  source = s;
  later = rest;
  place = i;
  split = refl;
  inside = lt;
  number = mine_source (tags_of_source s) (length before) i (itags_of_sources (length before + 1) rest) lt ∙ ap length (sym (append-nil before));
  first = ap (λ front. sum_by width front + i) (sym (append-nil before));
  list = λ lists each.
      let own : i < length (lists (before, s)) = omega (arith, each (before, s), lt) in
      get_or-append (lists (before, s)) (flat_map lists (with_before (before ++ s ∷ []) rest)) [] i own
      ∙ ap (λ front. get_or (lists (front, s)) i []) (sym (append-nil before));
}

among_later : (before : List Source) (s : Source) (rest : List Source) (i : ℕ) → width s ≤ i → IsAmong (before ++ s ∷ []) rest (i - width s)
    → IsAmong before (s ∷ rest) i
among_later before s rest i past is =
    let joined : (before ++ s ∷ []) ++ is.earlier ≡ before ++ s ∷ is.earlier = append_assoc before (s ∷ []) is.earlier in
    let mine : List (Tag × ℕ) = map (λ (t : Tag). (t, length before)) (tags_of_source s) in
    let mine_len : length mine ≡ width s = length-map (tags_of_source s) (λ (t : Tag). (t, length before)) in
    let next : length (before ++ s ∷ []) ≡ length before + 1 = length-append before (s ∷ []) in
    let one : sum_by width (s ∷ []) ≡ width s = omega arith in
    let more : sum_by width (before ++ s ∷ []) ≡ sum_by width before + width s = sum_by-append width before (s ∷ []) ∙ ap (λ n. sum_by width before + n) one in
    record {
      earlier = s ∷ is.earlier;
      source = is.source;
      later = is.later;
      place = is.place;
      split = ap (λ back. s ∷ back) is.split;
      inside = is.inside;
      number =
          ap (λ (pair : Tag × ℕ). pair.1)
          (get_or-append_right mine (itags_of_sources (length before + 1) rest) (width s) i (tag 0 0, 0) mine_len past)
          ∙ sym (ap (λ n. source_in n rest (i - width s)) next) ∙ is.number ∙ ap length joined;
      first =
          let rise : sum_by width (before ++ s ∷ []) + (i - width s) ≡ sum_by width before + i = omega (arith, more, past) in
          sym rise ∙ is.first ∙ ap (λ front. sum_by width front + is.place) joined;
      list = λ lists each.
          get_or-append_right (lists (before, s)) (flat_map lists (with_before (before ++ s ∷ []) rest)) (width s) i [] (each (before, s)) past
          ∙ is.list lists each ∙ ap (λ front. get_or (lists (front, is.source)) is.place []) joined;
    }

among : (before sources : List Source) (i : ℕ) → i < length (itags_of_sources (length before) sources) → IsAmong before sources i
among before [] i lt = absurd (omega arith)
among before (s ∷ rest) i lt =
    elim (cases_lt i (width s)) [
      | inl here ↦ among_here before s rest i here
      | inr past ↦
          let mine : List (Tag × ℕ) = map (λ (t : Tag). (t, length before)) (tags_of_source s) in
          let mine_len : length mine ≡ width s = length-map (tags_of_source s) (λ (t : Tag). (t, length before)) in
          let all : length (itags_of_sources (length before) (s ∷ rest)) ≡ length mine + length (itags_of_sources (length before + 1) rest) =
          length-append mine (itags_of_sources (length before + 1) rest) in
          let next : length (before ++ s ∷ []) ≡ length before + 1 = length-append before (s ∷ []) in
          let more : i - width s < length (itags_of_sources (length (before ++ s ∷ [])) rest) = rw next (omega arith) in
          among_later before s rest i past (among (before ++ s ∷ []) rest (i - width s) more)
    ]

-- what holds of each source with those before it holds of the one behind a front
all_behind : (P : Declared → Type 0) (before earlier later : List Source) (s : Source) → AllByRecursion P (with_before before (earlier ++ s ∷ later))
    → P (before ++ earlier, s)
all_behind P before [] later s all = subst (λ front. P (front, s)) (sym (append-nil before)) all.0
all_behind P before (x ∷ earlier) later s all =
    subst (λ front. P (front, s)) (append_assoc before (x ∷ []) earlier) (all_behind P (before ++ x ∷ []) earlier later s all.1)

-- ---- an itag of a job
-- the number of an itag's source, and those that are declared before it
abbrev pub number_of : Program → ℕ → ℕ
number_of p itag = source_of_itag p (record { 0 = itag })

abbrev pub those_before : Program → ℕ → List Source
those_before p itag = take (number_of p itag) p.sources

-- its source has it at a place
pub record IsOfSource (p : Program) (itag : ℕ) : Type 0 where
  pub source : Source
  pub place : ℕ
  pub at : slice_get p.sources (number_of p itag) ≡ Some source
  pub count : length (those_before p itag) ≡ number_of p itag
  pub inside : place < width source
  pub first : itag ≡ sum_by width (those_before p itag) + place
  pub list : (lists : Declared → List (List Item)) → ListForEach lists
      → get_or (flat_map lists (each_with_before p.sources)) itag [] ≡ get_or (lists (those_before p itag, source)) place []
  pub later : List Source
  pub split : p.sources ≡ those_before p itag ++ source ∷ later

pub of_source : (p : Program) (itag : ℕ) → itag < count_of_itags p → IsOfSource p itag
of_source p itag lt =
    let is : IsAmong [] p.sources itag = among [] p.sources itag lt in
    let front : those_before p itag ≡ is.earlier =
    ap (λ n. take n p.sources) is.number ∙ ap (take (length is.earlier)) is.split ∙ take-append_seam is.earlier (is.source ∷ is.later) in
    record {
      source = is.source;
      place = is.place;
      at =
          ap (slice_get p.sources) is.number ∙ ap (λ sources. slice_get sources (length is.earlier)) is.split
          ∙ slice_get-behind is.earlier is.source is.later;
      count = ap length front ∙ sym is.number;
      inside = is.inside;
      first = let none : sum_by width [] + itag ≡ itag = omega arith in
          sym none ∙ is.first ∙ ap (λ sources. sum_by width sources + is.place) (sym front);
      list = λ lists each. is.list lists each ∙ ap (λ sources. get_or (lists (sources, is.source)) is.place []) (sym front);
      later = is.later;
      split = is.split ∙ ap (λ sources. sources ++ is.source ∷ is.later) (sym front);
    }

-- so what holds of each source with those before it holds of this one
pub holds_there : (p : Program) (itag : ℕ) (is : IsOfSource p itag) (P : Declared → Type 0) → AllByRecursion P (each_with_before p.sources)
    → P (those_before p itag, is.source)
holds_there p itag is P all =
    all_behind P [] (those_before p itag) is.later is.source (subst (λ sources. AllByRecursion P (each_with_before sources)) is.split all)
