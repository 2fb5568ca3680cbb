-- The files of the sources of a job: each source has its own, except a clock, which has none.
use Rattle.std.proofs.Common.{◌≡◌, ◌≢◌, ℕ, zero, suc, ◌+◌, ◌<◌, Bool, true, false, if◌then◌else◌, List, [], ◌∷◌, ◌++◌, length, take, Option, Some, None}
use Rattle.std.proofs.Common.{refl, sym, ap, subst, ◌∙◌, append_assoc, arith}
use Rattle.std.specs.Prelude.{slice_get, is_some}
use Rattle.std.specs.List.{Contains, cons_option, flat_map, list_all}
use Rattle.std.proofs.lemmas.List.{append-nil, length-map}
use Rattle.std.proofs.lemmas.List.Elements.{filter_map-append}
use Rattle.flu_lemmas.proofs.Containing.{contains_here, kept_later}
use Rattle.flu_lemmas.proofs.Tests.{and_left, and_right, both, not_both, not_true, true_lt, true_eq}
use Rattle.flu_lemmas.proofs.Told.{told_then, told_weaker}
use Rattle.flu_model.specs.declared.jobs.Kind.{Kind}
use Rattle.flu_model.specs.declared.jobs.Keys.{Keys}
use Rattle.flu_model.specs.declared.jobs.Keys.TheVariants.{Alone, One, Range}
use Rattle.flu_model.specs.declared.jobs.Program.{Program}
use Rattle.flu_model.specs.declared.jobs.Source.{Source}
use Rattle.flu_model.specs.declared.jobs.TagRef.{TagRef}
use Rattle.flu_model.specs.Listing.{listed_keys, listed_tags}
use Rattle.flu_model.specs.Rules.{is_tick_kind, is_tick_tag, listed_kind_fits, tag_ref_fits, file_of_source, is_clock, has_origin, origin_fits, source_fits}
use Rattle.flu_model.specs.Rules.{are_distinct, is_same_text}
use Rattle.flu_outside.specs.Outside.{Contents, WhereTold, IsThere}
use Rattle.flu_outside.specs.Taking.{TakesFrom, CountsOf}
use Rattle.flu_streams.specs.Tags.{width}
use Rattle.flu_streams.specs.Files.{files_of, LeavesOthers, CountsOfNames}
use Rattle.flu_streams.proofs.Gatherings.{not_among, leaves_more, leaves_wider, counts_wider, counts_more}

-- ---- an element by its place
pub among : {X : Type 0} (xs : List X) (x : X) → Contains xs x → (i : ℕ) × (slice_get xs i ≡ Some x)
among [] x (k, lt, e) = absurd (omega (arith, lt))
among (y ∷ xs) x (zero, lt, e) = (zero, ap Some e)
among (y ∷ xs) x (suc k, lt, e) = let rest = among xs x (k, omega (arith, lt), e) in (suc rest.0, rest.1)

-- a file of some sources is that of a source, which is no clock
pub record IsFileOf (sources : List Source) (name : List ℕ) : Type 0 where
  pub at : ℕ
  pub source : Source
  pub is : slice_get sources at ≡ Some source
  pub goes : is_clock source ≡ false
  pub file : source.file ≡ name

pub file_among : (sources : List Source) (i : ℕ) (name : List ℕ) → slice_get (files_of sources) i ≡ Some name → IsFileOf sources name
file_among [] i name e = absurd cc
file_among (s ∷ sources) i name e = by_kind (is_clock s) i refl e (λ k. file_among sources k name)
  where
    behind : IsFileOf sources name → IsFileOf (s ∷ sources) name
    behind own = record { at = suc own.at; source = own.source; is = own.is; goes = own.goes; file = own.file }

    by_kind : (b : Bool) (i : ℕ) → is_clock s ≡ b → slice_get (cons_option (if b then None else Some s.file) (files_of sources)) i ≡ Some name
        → ((k : ℕ) → slice_get (files_of sources) k ≡ Some name → IsFileOf sources name) → IsFileOf (s ∷ sources) name
    by_kind true i kind e rest = behind (rest i e)
    by_kind false zero kind e rest = record { at = 0; source = s; is = refl; goes = kind; file = cc }
    by_kind false (suc i) kind e rest = behind (rest i e)

pub among_front : (xs : List Source) (i j : ℕ) (s : Source) → slice_get xs j ≡ Some s → j < i → is_clock s ≡ false → Contains (files_of (take i xs)) s.file
among_front [] i j s e lt goes = absurd cc
among_front (x ∷ xs) zero j s e lt goes = absurd (omega (arith, lt))
among_front (x ∷ xs) (suc i) zero s e lt goes =
    let same : x ≡ s = cc in
    let own : (if is_clock x then None else Some x.file) ≡ Some s.file =
    ap (λ (t : Source). if is_clock t then None else Some t.file) same ∙ ap (λ b. if b then None else Some s.file) goes in
    subst (λ (o : Option (List ℕ)). Contains (cons_option o (files_of (take i xs))) s.file) (sym own) (contains_here s.file (files_of (take i xs)))
among_front (x ∷ xs) (suc i) (suc j) s e lt goes =
    kept_later (file_of_source x) (files_of (take i xs)) s.file (among_front xs i j s e (omega (arith, lt)) goes)

-- ---- the files of a source among others
pub files_with : (earlier later : List Source) (s : Source) → is_clock s ≡ false
    → files_of (earlier ++ (s ∷ later)) ≡ (files_of earlier ++ (s.file ∷ [])) ++ files_of later
files_with earlier later s goes =
    filter_map-append file_of_source earlier (s ∷ later)
    ∙ ap (λ b. files_of earlier ++ cons_option (if b then None else Some s.file) (files_of later)) goes
    ∙ sym (append_assoc (files_of earlier) (s.file ∷ []) (files_of later))

pub files_without : (earlier later : List Source) (s : Source) → is_clock s ≡ true → files_of (earlier ++ (s ∷ later)) ≡ files_of earlier ++ files_of later
files_without earlier later s ticks =
    filter_map-append file_of_source earlier (s ∷ later)
    ∙ ap (λ b. files_of earlier ++ cons_option (if b then None else Some s.file) (files_of later)) ticks

pub file_there : (earlier later : List Source) (s : Source) → is_clock s ≡ false → Contains (files_of (earlier ++ (s ∷ later))) s.file
file_there [] later s goes =
    subst (λ b. Contains (cons_option (if b then None else Some s.file) (files_of later)) s.file) (sym goes) (contains_here s.file (files_of later))
file_there (x ∷ earlier) later s goes = kept_later (file_of_source x) (files_of (earlier ++ (s ∷ later))) s.file (file_there earlier later s goes)

-- ---- the texts of files
fits_both : (kinds : List Kind) (xs ys : List Source) → list_all (source_fits kinds) (xs ++ ys) ≡ true
    → (list_all (source_fits kinds) xs ≡ true) × (list_all (source_fits kinds) ys ≡ true)
fits_both kinds [] ys fits = (refl, fits)
fits_both kinds (x ∷ xs) ys fits =
    let rest = fits_both kinds xs ys (and_right (source_fits kinds x) _ fits) in
    (both (source_fits kinds x) (list_all (source_fits kinds) xs) (and_left (source_fits kinds x) _ fits) rest.0, rest.1)

pub fits_at : (kinds : List Kind) (sources : List Source) (i : ℕ) (s : Source) → list_all (source_fits kinds) sources ≡ true → slice_get sources i ≡ Some s
    → source_fits kinds s ≡ true
fits_at kinds [] i s fits at = absurd cc
fits_at kinds (x ∷ xs) zero s fits at =
    let same : x ≡ s = cc in subst (λ (y : Source). source_fits kinds y ≡ true) same (and_left (source_fits kinds x) _ fits)
fits_at kinds (x ∷ xs) (suc i) s fits at = fits_at kinds xs i s (and_right (source_fits kinds x) _ fits) at

origin_of : (kinds : List Kind) (s : Source) → source_fits kinds s ≡ true → origin_fits kinds s ≡ true
origin_of kinds s fits = and_right _ _ (and_left _ _ (and_left _ _ (and_left _ _ (and_left _ _ (and_left _ _ fits)))))

no_text : (kinds : List Kind) (s : Source) (o : Option ℕ) → is_some o ≡ true → has_origin kinds s o ≡ true → length s.file ≡ 0
no_text kinds s None ticks fits = absurd cc
no_text kinds s (Some every) ticks fits = true_eq (length s.file) 0 (and_right _ _ (and_left _ _ (and_left _ _ (and_left _ _ fits))))

some_text : (kinds : List Kind) (s : Source) (o : Option ℕ) → is_some o ≡ false → has_origin kinds s o ≡ true → 0 < length s.file
some_text kinds s None goes fits = true_lt 0 (length s.file) (and_left _ _ (and_left _ _ fits))
some_text kinds s (Some every) goes fits = absurd cc

-- a file's text is not that of a clock
pub files_apart : (kinds : List Kind) (s t : Source) → source_fits kinds s ≡ true → source_fits kinds t ≡ true → is_clock s ≡ true → is_clock t ≡ false
    → t.file ≢ s.file
files_apart kinds s t fits fits' ticks goes = λ e.
    let none = no_text kinds s s.every ticks (origin_of kinds s fits) in
    let some = some_text kinds t t.every goes (origin_of kinds t fits') in
    let same = ap length e in
    omega (arith, none, some, same)

-- the file of a source is none of those before it
pub apart_from_those : (kinds : List Kind) (earlier later : List Source) (s : Source) → list_all (source_fits kinds) (earlier ++ (s ∷ later)) ≡ true
    → are_distinct is_same_text (files_of (earlier ++ (s ∷ later))) ≡ true → Contains (files_of earlier) s.file → ⊥
apart_from_those kinds earlier later s fits apart there = by_kind (is_clock s) refl
  where
    by_kind : (b : Bool) → is_clock s ≡ b → ⊥
    by_kind false goes =
        not_among (files_of earlier) s.file (files_of later)
        (ap (are_distinct is_same_text) (sym (append_assoc (files_of earlier) (s.file ∷ []) (files_of later)) ∙ sym (files_with earlier later s goes))
        ∙ apart) there
    by_kind true ticks =
        let parts = fits_both kinds earlier (s ∷ later) fits in
        let k = among (files_of earlier) s.file there in
        let own = file_among earlier k.0 s.file k.1 in
        files_apart kinds s own.source (and_left (source_fits kinds s) _ parts.1)
        (fits_at kinds earlier own.at own.source parts.0 own.is) ticks own.goes own.file

-- ---- what reading one source more does to the files; nothing, where it is a clock
pub others_join : (earlier later : List Source) (s : Source) (a b c : Option Contents) → (is_clock s ≡ true → c ≡ b)
    → WhereTold a b (LeavesOthers (files_of earlier)) → WhereTold b c (TakesFrom s.file) → WhereTold a c (LeavesOthers (files_of (earlier ++ (s ∷ later))))
others_join earlier later s a b c idle others taken = by_kind (is_clock s) refl
  where
    by_kind : (k : Bool) → is_clock s ≡ k → WhereTold a c (LeavesOthers (files_of (earlier ++ (s ∷ later))))
    by_kind false goes =
        subst (λ l. WhereTold a c (LeavesOthers l)) (sym (files_with earlier later s goes))
        (told_then (LeavesOthers (files_of earlier)) (TakesFrom s.file) (LeavesOthers ((files_of earlier ++ (s.file ∷ [])) ++ files_of later)) a b c
        (λ x y z q r. leaves_wider (files_of earlier ++ (s.file ∷ [])) (files_of later) x z (leaves_more (files_of earlier) s.file x y z q r)) others taken)
    by_kind true ticks =
        subst (λ l. WhereTold a c (LeavesOthers l)) (sym (files_without earlier later s ticks))
        (subst (λ x. WhereTold a x (LeavesOthers (files_of earlier ++ files_of later))) (sym (idle ticks))
        (told_weaker (LeavesOthers (files_of earlier)) (LeavesOthers (files_of earlier ++ files_of later)) a b
        (λ x y q. leaves_wider (files_of earlier) (files_of later) x y q) others))

pub counts_join : (earlier later : List Source) (s : Source) (a b : Option Contents) (f g h : List ℕ → ℕ) → (is_clock s ≡ true → h ≡ g)
    → ((m : List ℕ) → IsThere a m → IsThere b m) → CountsOfNames a (files_of earlier) f g → CountsOf b s.file g h
    → CountsOfNames a (files_of (earlier ++ (s ∷ later))) f h
counts_join earlier later s a b f g h idle there p q = by_kind (is_clock s) refl
  where
    by_kind : (k : Bool) → is_clock s ≡ k → CountsOfNames a (files_of (earlier ++ (s ∷ later))) f h
    by_kind false goes =
        subst (λ l. CountsOfNames a l f h) (sym (files_with earlier later s goes))
        (counts_wider a (files_of earlier ++ (s.file ∷ [])) (files_of later) f h (counts_more a b (files_of earlier) s.file f g h there p q))
    by_kind true ticks =
        subst (λ l. CountsOfNames a l f h) (sym (files_without earlier later s ticks))
        (counts_wider a (files_of earlier) (files_of later) f h (subst (CountsOfNames a (files_of earlier) f) (sym (idle ticks)) p))

-- ---- the tag of a clock
clock_keys : (o : Option Kind) (keys : Keys) → is_tick_kind o ≡ true → listed_kind_fits o keys ≡ true → length (listed_keys keys) ≡ 1
clock_keys None keys tick fits = absurd cc
clock_keys (Some k) Alone tick fits = refl
clock_keys (Some k) (One n) tick fits = refl
clock_keys (Some k) (Range lo hi) tick fits =
    absurd (not_both k.keyed (and_left _ _ (and_left _ _ fits)) (not_true k.keyed (and_left _ _ (and_left _ _ tick))))

one_tag : (kinds : List Kind) (tags : List TagRef) → length tags ≡ 1 → list_all (is_tick_tag kinds) tags ≡ true → list_all (tag_ref_fits kinds) tags ≡ true
    → length (flat_map listed_tags tags) ≡ 1
one_tag kinds [] one ticks fits = absurd (omega (arith, one))
one_tag kinds (r ∷ []) one ticks fits =
    let keys = clock_keys (slice_get kinds r.kind) r.keys (and_left (is_tick_tag kinds r) true ticks) (and_left (tag_ref_fits kinds r) true fits) in
    ap length (append-nil (listed_tags r)) ∙ length-map (listed_keys r.keys) _ ∙ keys
one_tag kinds (r ∷ q ∷ tags) one ticks fits = absurd (omega (arith, one))

clock_tags : (kinds : List Kind) (s : Source) (o : Option ℕ) → is_some o ≡ true → has_origin kinds s o ≡ true → list_all (tag_ref_fits kinds) s.tags ≡ true
    → width s ≡ 1
clock_tags kinds s None ticks origin fits = absurd cc
clock_tags kinds s (Some every) ticks origin fits =
    one_tag kinds s.tags (true_eq (length s.tags) 1 (and_right _ _ (and_left _ _ origin))) (and_right _ _ origin) fits

-- a clock has one itag
pub clock_width : (p : Program) (i : ℕ) (s : Source) → slice_get p.sources i ≡ Some s → is_clock s ≡ true → width s ≡ 1
clock_width p i s at ticks =
    let fits = fits_at p.kinds p.sources i s p.sources_fit at in
    clock_tags p.kinds s s.every ticks (origin_of p.kinds s fits) (and_right _ _ (and_left _ _ fits))
