-- Which list of which source is that of an itag.
use Rattle.std.proofs.Common.{◌≡◌, ◌<◌, ◌≤◌, ◌+◌, ◌-◌, ℕ, zero, suc, List, [], ◌∷◌, ◌++◌, length, map, Some, inl, inr}
use Rattle.std.proofs.Common.{refl, sym, ap, subst, ◌∙◌, append_assoc, length-append, get_or, arith}
use Rattle.std.specs.Prelude.{Contains, slice_get}
use Rattle.std.specs.List.{flat_map}
use Rattle.std.proofs.Math.ListN.{get_or-append}
use Rattle.std.proofs.lemmas.Bool.{cases_lt}
use Rattle.std.proofs.lemmas.List.{length-map, get_or-append_right}
use Rattle.flu_lemmas.proofs.Containing.{contains_here, contains_later, contains_cases, contains_none}
use Rattle.flu_model.specs.declared.events.Item.{Item}
use Rattle.flu_model.specs.declared.events.Tag.{Tag}
use Rattle.flu_model.specs.declared.jobs.Source.{Source}
use Rattle.flu_model.specs.Listing.{tag, tags_of_source, itags_of_sources}
use Rattle.flu_streams.specs.Before.{with_before}
use Rattle.flu_streams.specs.Clocks.{Declared}
use Rattle.flu_streams.specs.Tags.{width}
use Rattle.flu_readable.proofs.Ranks.{slice_here}

-- the number of the source of an itag, from the itags of a source on
abbrev pub source_in : ℕ → List Source → ℕ → ℕ
source_in n sources i = (get_or (itags_of_sources n sources) i (tag 0 0, 0)).1

-- a source among those with the ones before them stands at its place
pub among_at : (before sources : List Source) (e : Declared) → Contains (with_before before sources) e → slice_get (before ++ sources) (length e.0) ≡ Some e.1
among_at before [] e there = absurd (contains_none e there)
among_at before (s ∷ rest) e there =
    elim (contains_cases (before, s) e (with_before (before ++ s ∷ []) rest) there) [
      | inl same ↦ subst (λ (d : Declared). slice_get (before ++ s ∷ rest) (length d.0) ≡ Some d.1) same (slice_here before rest s)
      | inr later ↦
          sym (ap (λ sources. slice_get sources (length e.0)) (append_assoc before (s ∷ []) rest)) ∙ among_at (before ++ s ∷ []) rest e later
    ]

mine_source : (tags : List Tag) (n i : ℕ) (rest : List (Tag × ℕ)) → i < length tags → (get_or (map (λ t. (t, n)) tags ++ rest) i (tag 0 0, 0)).1 ≡ n
mine_source [] n i rest lt = absurd (omega arith)
mine_source (t ∷ tags) n zero rest lt = refl
mine_source (t ∷ tags) n (suc i) rest lt = mine_source tags n i rest (omega arith)

later_source : (n : ℕ) (s : Source) (rest : List Source) (i : ℕ) → width s ≤ i → source_in n (s ∷ rest) i ≡ source_in (n + 1) rest (i - width s)
later_source n s rest i past =
    let mine : List (Tag × ℕ) = map (λ (t : Tag). (t, n)) (tags_of_source s) in
    ap (λ (pair : Tag × ℕ). pair.1)
    (get_or-append_right mine (itags_of_sources (n + 1) rest) (width s) i (tag 0 0, 0) (length-map (tags_of_source s) (λ (t : Tag). (t, n))) past)

count_of_source : (n : ℕ) (s : Source) (rest : List Source) → length (itags_of_sources n (s ∷ rest)) ≡ width s + length (itags_of_sources (n + 1) rest)
count_of_source n s rest =
    let mine : List (Tag × ℕ) = map (λ (t : Tag). (t, n)) (tags_of_source s) in
    let all : length (itags_of_sources n (s ∷ rest)) ≡ length mine + length (itags_of_sources (n + 1) rest) =
    length-append mine (itags_of_sources (n + 1) rest) in
    let own : length mine ≡ width s = length-map (tags_of_source s) (λ (t : Tag). (t, n)) in
    omega (arith, all, own)

module _ (lists : Declared → List (List Item)) (each : (e : Declared) → length (lists e) ≡ width e.1) where
  abbrev all_lists : List Source → List Source → List (List Item)
  all_lists before sources = flat_map lists (with_before before sources)

  -- an itag has the list of a place of a source
  pub record IsPlaced (before sources : List Source) (i : ℕ) : Type 0 where
    pub owner : Declared
    pub place : ℕ
    pub among : Contains (with_before before sources) owner
    pub within : place < width owner.1
    pub number : source_in (length before) sources i ≡ length owner.0
    pub list : get_or (all_lists before sources) i [] ≡ get_or (lists owner) place []

  pub placed : (before sources : List Source) (i : ℕ) → i < length (itags_of_sources (length before) sources) → IsPlaced before sources i
  placed before [] i lt = absurd (omega arith)
  placed before (s ∷ rest) i lt =
      let here = lists (before, s) in
      let back = all_lists (before ++ s ∷ []) rest in
      let own = each (before, s) in
      let next : length (before ++ s ∷ []) ≡ length before + 1 = length-append before (s ∷ []) in
      elim (cases_lt i (width s)) [
        | inl inside ↦ record {
          owner = (before, s);
          place = i;
          among = contains_here (before, s) (with_before (before ++ s ∷ []) rest);
          within = inside;
          number = mine_source (tags_of_source s) (length before) i (itags_of_sources (length before + 1) rest) inside;
          list = get_or-append here back [] i (omega (arith, own, inside));
        }
        | inr past ↦ (
            let count = count_of_source (length before) s rest in
            let fewer : i - width s < length (itags_of_sources (length before + 1) rest) = omega (arith, lt, count, past) in
            let is = placed (before ++ s ∷ []) rest (i - width s) (subst (λ n. i - width s < length (itags_of_sources n rest)) (sym next) fewer) in
            record {
              owner = is.owner;
              place = is.place;
              among = contains_later (before, s) is.owner (with_before (before ++ s ∷ []) rest) is.among;
              within = is.within;
              number = later_source (length before) s rest i past ∙ ap (λ n. source_in n rest (i - width s)) (sym next) ∙ is.number;
              list = get_or-append_right here back (width s) i [] own past ∙ is.list;
            })
      ]

  -- and each place of a source has an itag
  pub record IsItag (before sources : List Source) (e : Declared) (place : ℕ) : Type 0 where
    pub itag : ℕ
    pub below : itag < length (itags_of_sources (length before) sources)
    pub of_source : source_in (length before) sources itag ≡ length e.0
    pub has_list : get_or (all_lists before sources) itag [] ≡ get_or (lists e) place []

  pub itag_of : (before sources : List Source) (e : Declared) (place : ℕ) → Contains (with_before before sources) e → place < width e.1
      → IsItag before sources e place
  itag_of before [] e place there within = absurd (contains_none e there)
  itag_of before (s ∷ rest) e place there within =
      let here = lists (before, s) in
      let back = all_lists (before ++ s ∷ []) rest in
      let own = each (before, s) in
      let next : length (before ++ s ∷ []) ≡ length before + 1 = length-append before (s ∷ []) in
      let count = count_of_source (length before) s rest in
      elim (contains_cases (before, s) e (with_before (before ++ s ∷ []) rest) there) [
        | inl same ↦ (
            let inside : place < width s = subst (λ (d : Declared). place < width d.1) (sym same) within in
            record {
              itag = place;
              below = omega (arith, inside, count);
              of_source =
                  mine_source (tags_of_source s) (length before) place (itags_of_sources (length before + 1) rest) inside
                  ∙ ap (λ (d : Declared). length d.0) same;
              has_list = get_or-append here back [] place (omega (arith, own, inside)) ∙ ap (λ (d : Declared). get_or (lists d) place []) same;
            })
        | inr later ↦ (
            let is = itag_of (before ++ s ∷ []) rest e place later within in
            let lt : is.itag < length (itags_of_sources (length before + 1) rest) =
            subst (λ n. is.itag < length (itags_of_sources n rest)) next is.below in
            let back_to : width s + is.itag - width s ≡ is.itag = omega arith in
            record {
              itag = width s + is.itag;
              below = omega (arith, lt, count);
              of_source =
                  later_source (length before) s rest (width s + is.itag) (omega arith) ∙ ap (source_in (length before + 1) rest) back_to
                  ∙ ap (λ n. source_in n rest is.itag) (sym next) ∙ is.of_source;
              has_list =
                  get_or-append_right here back (width s) (width s + is.itag) [] own (omega arith) ∙ ap (λ k. get_or back k []) back_to ∙ is.has_list;
            })
      ]
