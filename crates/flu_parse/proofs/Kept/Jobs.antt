-- What is read keeps the rules of the language, all of them.
use Rattle.std.proofs.Common.{◌≡◌, ℕ, ◌+◌, ◌≤◌, Bool, true, List, [], ◌∷◌, ◌++◌, map, length, Option, Some, None, Ok, Err, refl, sym, ap}
use Rattle.std.proofs.Common.{subst, ◌∙◌, arith}
use Rattle.std.specs.Prelude.{◌^◌, ◌&&◌, ◌||◌, ◌==◌, not, nat_lt, nat_le, slice_get, option_map}
use Rattle.std.specs.List.{list_all, list_any, flat_map, AllByRecursion}
use Rattle.std.specs.Str.{IsUtf8, is_utf8}
use Rattle.std.specs.Str.Lossy.{utf8_valid_len}
use Rattle.std.proofs.lemmas.Str.{IsUtf8-from_is_utf8}
use Rattle.std.proofs.lemmas.List.{length-map}
use Rattle.std.proofs.lemmas.List.Folds.{list_all-append, list_all-map}
use Rattle.std.proofs.lemmas.Simd.{map-map}
use Rattle.std.proofs.lemmas.Option.{slice_get_within, slice_get-map}
use Rattle.flu_lemmas.specs.Totals.{total}
use Rattle.flu_lemmas.proofs.Elements.{all_back, all_of_each, list_all_push}
use Rattle.flu_lemmas.proofs.Tests.{and_left, and_right, both, lt_true}
use Rattle.flu_lemmas.proofs.Booleans.{or_true}
use Rattle.flu_lemmas.proofs.Searches.{list_any-map}
use Rattle.flu_lemmas.proofs.Loops.{bind_ok, each-keeps, each-counts, each-lists}
use Rattle.flu_model.specs.declared.limits.What.TheVariants.{Bytes}
use Rattle.flu_model.specs.declared.jobs.Family.{Family}
use Rattle.flu_model.specs.declared.jobs.Kind.{Kind}
use Rattle.flu_model.specs.declared.jobs.Source.{Source}
use Rattle.flu_model.specs.Listing.{itags_of_sources}
use Rattle.flu_model.specs.Numberings.{Numbering}
use Rattle.flu_model.specs.ListRules.{is_list, family_list_fits, kind_list_fits, fit_lists}
use Rattle.flu_model.specs.Rules.{is_same_text, are_distinct, is_version, are_kinds, is_clock}
use Rattle.flu_model.specs.Texts.{Unit as TimeUnit}
use Rattle.flu_model.specs.Versions.{is_named_item, fit_version, ties_fit, iso_fits}
use Rattle.flu_names.specs.Names.{is_name}
use Rattle.flu_model.specs.Erasure.{PlainKind, Job, plain_kind}
use Rattle.flu_rules.specs.Kept.{KeepsRules}
use Rattle.flu_rules.specs.Keys.{TagsMeet, TagsDiffer}
use Rattle.flu_text.specs.declared.words.Token.{Token}
use Rattle.flu_text.specs.Reading.{reading, Reading}
use Rattle.flu_text.specs.declared.written.WrittenSpan.{WrittenSpan}
use Rattle.flu_syntax.specs.declared.tree.WrittenTies.{WrittenTies}
use Rattle.flu_syntax.specs.declared.tree.WrittenUnit.{WrittenUnit}
use Rattle.flu_syntax.specs.declared.tree.WrittenHead.{WrittenHead}
use Rattle.flu_syntax.specs.Tree.{Declaration}
use Rattle.flu_syntax.specs.Tree as tree
use Rattle.flu_syntax.specs.Machine.{Verdict, verdict, Unexpected, TooDeep}
use Rattle.flu_syntax.specs.Machine.{Found as IsFound}
use Rattle.flu_syntax.specs.Grammar.{IsDeclaration, AreDeclarations}
use Rattle.flu_syntax.specs.Laws.{FoundIsJob, WordsStand}
use Rattle.flu_text.specs.Signs.{Stands}
use Rattle.flu_syntax.specs.Words.{action_words, head_words, declaration_words}
use Rattle.flu_layout.specs.Spelling.{name_of, written_value}
use Rattle.flu_layout.specs.Stands.{AreRead}
use Rattle.flu_layout.specs.Laws.{ReadMayBePrinted}
use Rattle.flu_parse.specs.declared.faults.JobFault.TheVariants as f
use Rattle.flu_parse.specs.declared.names.KindHead.{KindHead}
use Rattle.flu_parse.specs.Faults.{unless, ◌>>◌}
use Rattle.flu_parse.specs.Naming.{Naming, in_version, is_version_3, family, naming_of, look_up, known}
use Rattle.flu_parse.specs.Lists.{listed_families, listed_kinds}
use Rattle.flu_parse.specs.Resolving.{Drafted}
use Rattle.flu_parse.specs.Resolving.{with_declaration}
use Rattle.flu_parse.specs.Resolving.{idle_kind, first_draft, draft_of, version_of, ties_counted, ties_of, unit_named, found_unit, unit_of, iso_of}
use Rattle.flu_parse.specs.Resolving.{job_with, resolved}
use Rattle.flu_parse.specs.Reading.{text_in, found_tokens, tokens_in, found_job, written_in, job_in}
use Rattle.flu_parse.specs.Laws.{JobsKeepRules}
use Rattle.flu_parse.proofs.Looks.{passed}
use Rattle.flu_parse.proofs.Listed.{map-listed_kinds, all-listed_kinds, length-listed_families, listed_alike, names-alike, families-alike}
use Rattle.flu_parse.proofs.Listed.{kinds-alike, version-alike}
use Rattle.flu_parse.proofs.Kept.Plain.{plain_action_fits, plain_kind_fits, kinds-plain, keyed_at, ties_kinds, is_source, keyed_kinds, depends-plain}
use Rattle.flu_parse.proofs.Kept.Plain.{sources-plain, ticking_kinds}
use Rattle.flu_parse.proofs.Kept.Versions.{action_suits, actions_suit, items_suit, passes_any, version-plain, plain_fit_version}
use Rattle.flu_parse.proofs.Kept.Names.{NamesKeep, kind_number, at_number, names_in, item_heads, depends_in, sources_in, families_in, items_in}
use Rattle.flu_parse.proofs.Kept.Names.{key_heads, keys_in, lists_in, naming_counts, naming_lists, naming_families, naming_items, naming_keys}
use Rattle.flu_parse.proofs.Kept.Names.{naming_named_lists}
use Rattle.flu_parse.proofs.Kept.Names.{names_kept}
use Rattle.flu_parse.proofs.Kept.Lists.{all_fit, list_kept, families_named, kinds_named}
use Rattle.flu_parse.proofs.Kept.Terms.{families_of}
use Rattle.flu_parse.proofs.Kept.Actions.{actions_kept}
use Rattle.flu_parse.proofs.Kept.Listings.{files_in, keyed_heads, ticking_heads, kind_at, source_kept, clock_kept}
use Rattle.flu_parse.proofs.Kept.Drafts.{all_listed}
use Rattle.flu_parse.proofs.Kept.Drafts.{Head, head, declared_head, acted_heads, acted_fit, acted_suit, more_itags, one_more_file, no_more_file}
use Rattle.flu_parse.proofs.Kept.Drafts.{one_more_origin}
use Rattle.flu_parse.proofs.Kept.Drafts.{source_names, list_names, is_item_name, same_kept, added_depend, added_actions, source_with}
use Rattle.flu_parse.proofs.Kept.Drafts.{added_source, clock_with, added_clock, added_cell, added_tag, list_with, added_names, all_pass, none_called_item}
use Rattle.flu_parse.proofs.Kept.Drafts.{items_in_version, counted, listed, lists_listed, family_listed, kind_listed}

-- whether a kind may tick, by what its declaration says
abbrev head_ticks : Head → Bool
head_ticks h = not h.1 && not h.3 && not h.2

module _ (text : List ℕ) (n : Naming) where
  -- ---- what the job keeps as far as its declarations are looked at
  module _ (ts : List Token) (read : AreRead text ts) (keep : NamesKeep n) (meet : TagsMeet) (differ : TagsDiffer) where
    abbrev declared_families : List Family
    declared_families = families_of text n keep.families

    abbrev declared_kinds : List Bool
    declared_kinds = keyed_heads text n keep.kinds

    abbrev declared_ticks : List Bool
    declared_ticks = ticking_heads text n keep.kinds

    record Keeps (d : Drafted) : Type 0 where
      lists : list_all is_list d.lists ≡ true
      newer : (is_version_3 n || (length d.lists == 0)) ≡ true
      heads : map head d.kinds ≡ map declared_head n.kinds
      kinds : list_all (plain_kind_fits declared_families) d.kinds ≡ true
      suits : list_all (actions_suit (is_version_3 n)) d.kinds ≡ true
      depends : list_all (ties_kinds declared_kinds) d.depends ≡ true
      sources : list_all (is_source declared_kinds declared_ticks) d.sources ≡ true
      clocks : (is_version_3 n || not (list_any is_clock d.sources)) ≡ true
      files : are_distinct is_same_text (files_in d.sources) ≡ true
      count : length (itags_of_sources 0 d.sources) ≡ d.itags
      few : d.itags ≤ 256

    -- what is asked of a declaration: its words are words of the text, and it is one by the grammar
    abbrev IsWell : Declaration → Type 0
    IsWell w = AllByRecursion (Stands ts) (declaration_words w) × IsDeclaration 64 w

    tied : (a b : WrittenSpan) (first second : KindHead) (same : Bool) → look_up (name_of text a) n.kinds ≡ Some first
        → look_up (name_of text b) n.kinds ≡ Some second → (not same || (first.keyed && second.keyed)) ≡ true
        → ties_kinds declared_kinds (record { a = first.number; b = second.number; same = same }) ≡ true
    tied a b first second same is_first is_second fits =
        let one = kind_at text n keep.kinds (name_of text a) first is_first in
        let two = kind_at text n keep.kinds (name_of text b) second is_second in
        let low = slice_get_within declared_kinds first.number first.keyed one in
        let high = slice_get_within declared_kinds second.number second.keyed two in
        both (nat_lt first.number (length declared_kinds) && nat_lt second.number (length declared_kinds))
        (not same || (keyed_at (slice_get declared_kinds first.number) && keyed_at (slice_get declared_kinds second.number)))
        (both (nat_lt first.number (length declared_kinds)) (nat_lt second.number (length declared_kinds)) (lt_true first.number (length declared_kinds) low)
        (lt_true second.number (length declared_kinds) high))
        ((λ i. not same || (keyed_at (one i) && keyed_at (two i))) ∙ fits)

    stays : (d : Drafted) (w : Declaration) (next : Drafted) → Keeps d → IsWell w → with_declaration text n d w ≡ Ok next → Keeps next
    unfolding with_declaration
    stays d (tree.Cell s cells sort) next kept well e =
        subst Keeps (added_cell text n d s cells next e).3 (
        record {
          lists = kept.lists;
          newer = kept.newer;
          heads = kept.heads;
          kinds = kept.kinds;
          suits = kept.suits;
          depends = kept.depends;
          sources = kept.sources;
          clocks = kept.clocks;
          files = kept.files;
          count = kept.count;
          few = kept.few;
        }
        )
    stays d (tree.Tag s keyed item has_value) next kept well e =
        subst Keeps (added_tag text n d item next e).3 (
        record {
          lists = kept.lists;
          newer = kept.newer;
          heads = kept.heads;
          kinds = kept.kinds;
          suits = kept.suits;
          depends = kept.depends;
          sources = kept.sources;
          clocks = kept.clocks;
          files = kept.files;
          count = kept.count;
          few = kept.few;
        }
        )
    stays d (tree.Names at s texts) next kept well e =
        let h = added_names text n d at s texts next e in
        let is = list_kept text (name_of text s) texts h.1 (read.names s well.0.0) well.1 h.2 in
        subst Keeps h.3 (
        record {
          lists = list_all_push is_list d.lists (list_with text n s h.1) kept.lists is;
          newer = ap (λ b. b || (length (d.lists ++ list_with text n s h.1 ∷ []) == 0)) h.0;
          heads = kept.heads;
          kinds = kept.kinds;
          suits = kept.suits;
          depends = kept.depends;
          sources = kept.sources;
          clocks = kept.clocks;
          files = kept.files;
          count = kept.count;
          few = kept.few;
        }
        )
    stays d (tree.Depends a b relation) next kept well e =
        let h = added_depend text n d a b relation next e in
        subst Keeps h.6 (
        record {
          lists = kept.lists;
          newer = kept.newer;
          heads = kept.heads;
          kinds = kept.kinds;
          suits = kept.suits;
          depends =
              list_all_push (ties_kinds declared_kinds) d.depends (record { a = h.0.number; b = h.1.number; same = h.2 }) kept.depends
              (tied a b h.0 h.1 h.2 h.3 h.4 (same_kept relation h.0 h.1 h.2 h.5));
          sources = kept.sources;
          clocks = kept.clocks;
          files = kept.files;
          count = kept.count;
          few = kept.few;
        }
        )
    stays d (tree.On s actions) next kept well e =
        let h = added_actions text n d s actions next e in
        let there = at_number kind_number n.kinds (name_of text s) h.0 keep.kinds h.2 in
        let words = all_of_each (Stands ts) action_words actions well.0.1 in
        let done = actions_kept text ts read n keep.families h.0 actions h.1 words h.3 in
        let place : slice_get (map head d.kinds) h.0.number ≡ Some (declared_head there.0) = ap (λ hs. slice_get hs h.0.number) kept.heads
        ∙ slice_get-map declared_head n.kinds h.0.number ∙ ap (option_map declared_head) there.1 in
        let fits : list_all (plain_action_fits declared_families there.0.1.keyed there.0.1.has_value) h.1 ≡ true =
        ap (λ (k : KindHead). list_all (plain_action_fits declared_families k.keyed k.has_value) h.1) there.2 ∙ done.1 in
        let suits : list_all (action_suits there.0.1.has_item (is_version_3 n)) h.1 ≡ true =
        ap (λ (k : KindHead). list_all (action_suits k.has_item (is_version_3 n)) h.1) there.2 ∙ done.2 in
        subst Keeps h.4 (
        record {
          lists = kept.lists;
          newer = kept.newer;
          heads = acted_heads d.kinds h.0.number h.1 ∙ kept.heads;
          kinds = acted_fit declared_families d.kinds h.0.number (declared_head there.0) h.1 kept.kinds place done.0 fits;
          suits = acted_suit (is_version_3 n) d.kinds h.0.number (declared_head there.0) h.1 kept.suits place suits;
          depends = kept.depends;
          sources = kept.sources;
          clocks = kept.clocks;
          files = kept.files;
          count = kept.count;
          few = kept.few;
        }
        )
    stays d (tree.Source s file rate slack tags) next kept well e =
        let h = added_source text n d s file rate slack tags next e in
        let named = read.names s well.0.0 in
        let within = read.texts file well.0.1.0 in
        let source : Source = source_with text n s h.bytes h.rate h.slack h.list in
        let is = source_kept text n keep.kinds meet differ d.itags d.sources s file rate slack tags h.bytes h.rate h.slack h.list named within well.1 kept.few
        h.by_file h.by_rate h.by_slack h.by_tags in
        let more = more_itags 0 d.sources source in
        subst Keeps h.is (
        record {
          lists = kept.lists;
          newer = kept.newer;
          heads = kept.heads;
          kinds = kept.kinds;
          suits = kept.suits;
          depends = kept.depends;
          sources = list_all_push (is_source declared_kinds declared_ticks) d.sources source kept.sources is.fits;
          clocks = one_more_origin (is_version_3 n) d.sources source refl kept.clocks;
          files = one_more_file d.sources source refl kept.files is.fresh;
          count = omega (arith, more, kept.count, is.count);
          few = is.few;
        }
        )
    stays d (tree.Clock at s every rate tag) next kept well e =
        let h = added_clock text n d at s every rate tag next e in
        let named = read.names s well.0.0 in
        let clock : Source = clock_with text n s h.period h.rate h.list in
        let is = clock_kept text n keep.kinds meet differ d.itags s every rate tag h.period h.rate h.list named kept.few h.by_period h.by_rate h.by_tag in
        let more = more_itags 0 d.sources clock in
        subst Keeps h.is (
        record {
          lists = kept.lists;
          newer = kept.newer;
          heads = kept.heads;
          kinds = kept.kinds;
          suits = kept.suits;
          depends = kept.depends;
          sources = list_all_push (is_source declared_kinds declared_ticks) d.sources clock kept.sources is.fits;
          clocks = ap (λ b. b || not (list_any is_clock (d.sources ++ clock ∷ []))) h.newer;
          files = no_more_file d.sources clock refl kept.files;
          count = omega (arith, more, kept.count, is.count);
          few = is.few;
        }
        )

    -- the kinds before their actions are read
    idle_heads : (hs : List (List ℕ × KindHead)) → map head (map idle_kind hs) ≡ map declared_head hs
    idle_heads [] = refl
    idle_heads (h ∷ hs) = ap (λ gs. declared_head h ∷ gs) (idle_heads hs)

    idle_fit : (hs : List (List ℕ × KindHead)) → list_all is_name (names_in hs) ≡ true → list_all (plain_kind_fits declared_families) (map idle_kind hs) ≡ true
    idle_fit [] all = refl
    idle_fit (h ∷ hs) all =
        let named = and_left (is_name h.0) (list_all is_name (names_in hs)) all in
        both (plain_kind_fits declared_families (idle_kind h)) (list_all (plain_kind_fits declared_families) (map idle_kind hs))
        (both (is_name h.0 && true) true (both (is_name h.0) true named refl) refl) (idle_fit hs (and_right (is_name h.0) (list_all is_name (names_in hs)) all))

    idle_suit : (hs : List (List ℕ × KindHead)) → list_all (actions_suit (is_version_3 n)) (map idle_kind hs) ≡ true
    idle_suit [] = refl
    idle_suit (h ∷ hs) = idle_suit hs

    kind_names : list_all is_name (names_in n.kinds) ≡ true
    kind_names =
        let own = names_in n.families ++ names_in n.kinds ++ n.sources in
        let all = sym (list_all-append is_name own n.lists) ∙ keep.are_names in
        let parts = sym (list_all-append is_name (names_in n.families ++ names_in n.kinds) n.sources)
        ∙ and_left (list_all is_name own) (list_all is_name n.lists) all in
        let front = sym (list_all-append is_name (names_in n.families) (names_in n.kinds))
        ∙ and_left (list_all is_name (names_in n.families ++ names_in n.kinds)) (list_all is_name n.sources) parts in
        and_right (list_all is_name (names_in n.families)) (list_all is_name (names_in n.kinds)) front

    family_names : list_all is_name (names_in n.families) ≡ true
    family_names =
        let own = names_in n.families ++ names_in n.kinds ++ n.sources in
        let all = sym (list_all-append is_name own n.lists) ∙ keep.are_names in
        let parts = sym (list_all-append is_name (names_in n.families ++ names_in n.kinds) n.sources)
        ∙ and_left (list_all is_name own) (list_all is_name n.lists) all in
        let front = sym (list_all-append is_name (names_in n.families) (names_in n.kinds))
        ∙ and_left (list_all is_name (names_in n.families ++ names_in n.kinds)) (list_all is_name n.sources) parts in
        and_left (list_all is_name (names_in n.families)) (list_all is_name (names_in n.kinds)) front

    draft_kept : (ds : List Declaration) (d : Drafted) → AllByRecursion IsWell ds → draft_of text n ds ≡ Ok d → Keeps d
    draft_kept ds d well e =
        each-keeps (with_declaration text n) Keeps IsWell stays (first_draft n) ds d (
        record {
          lists = refl;
          newer = sym (passes_any (is_version_3 n));
          heads = idle_heads n.kinds;
          kinds = idle_fit n.kinds kind_names;
          suits = idle_suit n.kinds;
          depends = refl;
          sources = refl;
          clocks = sym (passes_any (is_version_3 n));
          files = refl;
          count = refl;
          few = omega arith;
        }
        ) well e

    -- the names are those of the declarations
    record Names (ds : List Declaration) : Type 0 where
      depends : n.depends ≡ total (depends_in text) ds
      sources : n.sources ≡ flat_map (sources_in text) ds
      families : names_in n.families ≡ flat_map (families_in text) ds
      items : item_heads n ≡ flat_map (items_in text) ds
      keys : key_heads n ≡ flat_map (keys_in text) ds
      lists : n.lists ≡ flat_map (lists_in text) ds

    -- which kinds have items
    items_are : (d : Drafted) → Keeps d → map (λ (k : PlainKind). k.has_item) d.kinds ≡ item_heads n
    items_are d kept =
        sym (map-map (λ (h : Head). h.3) head d.kinds) ∙ ap (map (λ (h : Head). h.3)) kept.heads ∙ map-map (λ (h : Head). h.3) declared_head n.kinds

    -- what the versions of the language have
    version_kept : (ds : List Declaration) (d : Drafted) → Names ds → Keeps d → draft_of text n ds ≡ Ok d
        → plain_fit_version n.version (map family n.families) d.kinds ≡ true
    version_kept ds d named kept e =
        let newer : Bool = is_version_3 n in
        let families : List Family = map family n.families in
        let all = all_pass text n ds (first_draft n) d e in
        let items : list_all (items_suit newer) d.kinds ≡ true =
        sym (list_all-map (λ b. newer || not b) (λ (k : PlainKind). k.has_item) d.kinds)
        ∙ ap (list_all (λ b. newer || not b)) (items_are d kept ∙ named.items) ∙ items_in_version text n ds all in
        let names : list_any is_named_item families ≡ list_any is_item_name (flat_map (families_in text) ds) =
        list_any-map is_named_item family n.families ∙ sym (list_any-map is_item_name (λ h. h.0) n.families) ∙ ap (list_any is_item_name) named.families in
        both (list_all (items_suit newer) d.kinds && list_all (actions_suit newer) d.kinds) (not (newer && list_any is_named_item families))
        (both (list_all (items_suit newer) d.kinds) (list_all (actions_suit newer) d.kinds) items kept.suits)
        (ap (λ b. not (newer && b)) names ∙ ap not (none_called_item text n ds all))

    -- which lists name keys and items
    lists_named : (ds : List Declaration) (d : Drafted) → Names ds → draft_of text n ds ≡ Ok d → list_names d.lists ≡ n.lists
    lists_named ds d named e =
        each-lists (with_declaration text n) (λ (x : Drafted). list_names x.lists) (lists_in text) (lists_listed text n) (first_draft n) ds d e
        ∙ sym named.lists

    lists_counted : (ds : List Declaration) (d : Drafted) → Names ds → draft_of text n ds ≡ Ok d → length d.lists ≡ length n.lists
    lists_counted ds d named e = sym (length-map d.lists (λ (l : Numbering). l.name)) ∙ ap length (lists_named ds d named e)

    families_list : (ds : List Declaration) (d : Drafted) → Names ds → draft_of text n ds ≡ Ok d
        → list_all (family_list_fits d.lists) (listed_families (map family n.families) d.family_lists) ≡ true
    families_list ds d named e =
        families_named d.lists n.families d.family_lists
        ((λ i. all_fit (lists_counted ds d named e i) (named.keys i) d.family_lists)
        ∙ all_listed text n (λ (x : Drafted). x.family_lists) (keys_in text) (family_listed text n) ds (first_draft n) d [] refl e)

    kinds_list : (ds : List Declaration) (d : Drafted) (kinds : List Kind) → Names ds → Keeps d → draft_of text n ds ≡ Ok d
        → map plain_kind kinds ≡ listed_kinds d.kinds d.kind_lists → list_all (kind_list_fits d.lists) kinds ≡ true
    kinds_list ds d kinds named kept e same =
        let items : map (λ (k : PlainKind). k.has_item) d.kinds ≡ flat_map (items_in text) ds = items_are d kept ∙ named.items in
        kinds_named d.lists kinds d.kinds d.kind_lists same
        ((λ i. all_fit (lists_counted ds d named e i) (items i) d.kind_lists)
        ∙ all_listed text n (λ (x : Drafted). x.kind_lists) (items_in text) (kind_listed text n) ds (first_draft n) d [] refl e)

    lists_kept : (ds : List Declaration) (d : Drafted) (kinds : List Kind) → Names ds → Keeps d → draft_of text n ds ≡ Ok d
        → map plain_kind kinds ≡ listed_kinds d.kinds d.kind_lists
        → fit_lists n.version d.lists (listed_families (map family n.families) d.family_lists) kinds ≡ true
    lists_kept ds d kinds named kept e same =
        let families : List Family = listed_families (map family n.families) d.family_lists in
        let newer : Bool = is_version_3 n || (length d.lists == 0) in
        both (newer && list_all (family_list_fits d.lists) families) (list_all (kind_list_fits d.lists) kinds)
        (both newer (list_all (family_list_fits d.lists) families) kept.newer (families_list ds d named e)) (kinds_list ds d kinds named kept e same)

    -- the rules that ask for no list
    kinds_kept : (d : Drafted) (kinds : List Kind) → Keeps d → map plain_kind kinds ≡ listed_kinds d.kinds d.kind_lists
        → are_kinds (listed_families (map family n.families) d.family_lists) kinds ≡ true
    kinds_kept d kinds kept same =
        let families : List Family = map family n.families in
        kinds-alike (listed_families families d.family_lists) families (listed_alike families d.family_lists) kinds
        ∙ kinds-plain families kinds ∙ ap (list_all (plain_kind_fits families)) same
        ∙ all-listed_kinds (plain_kind_fits families) (λ k l. refl) d.kinds d.kind_lists ∙ kept.kinds

    versions_kept : (ds : List Declaration) (d : Drafted) (kinds : List Kind) → Names ds → Keeps d → draft_of text n ds ≡ Ok d
        → map plain_kind kinds ≡ listed_kinds d.kinds d.kind_lists
        → fit_version n.version (listed_families (map family n.families) d.family_lists) kinds ≡ true
    versions_kept ds d kinds named kept e same =
        let families : List Family = map family n.families in
        let newer : Bool = is_version_3 n in
        let items = all-listed_kinds (items_suit newer) (λ k l. refl) d.kinds d.kind_lists in
        let actions = all-listed_kinds (actions_suit newer) (λ k l. refl) d.kinds d.kind_lists in
        version-alike (listed_families families d.family_lists) families (listed_alike families d.family_lists) n.version kinds
        ∙ version-plain n.version families kinds ∙ ap (plain_fit_version n.version families) same
        ∙ (λ i. items i && actions i && not (newer && list_any is_named_item families)) ∙ version_kept ds d named kept e

    -- the whole job
    rules_kept : (ds : List Declaration) (d : Drafted) (kinds : List Kind) (ties : ℕ) (iso : Option TimeUnit) → is_version n.version ≡ true
        → ties_fit n.version ties ≡ true → iso_fits n.version iso ≡ true → Names ds → AllByRecursion IsWell ds
        → draft_of text n ds ≡ Ok d → map plain_kind kinds ≡ listed_kinds d.kinds d.kind_lists
        → KeepsRules n.version ties iso d.lists (listed_families (map family n.families) d.family_lists) kinds d.depends d.sources
    rules_kept ds d kinds ties iso known count unit named well e same =
        let kept = draft_kept ds d well e in
        let families : List Family = map family n.families in
        let alike = listed_alike families d.family_lists in
        let heads : map (λ (k : Kind). head (plain_kind k)) kinds ≡ map declared_head n.kinds = sym (map-map head plain_kind kinds) ∙ ap (map head) same
        ∙ map-listed_kinds head (λ k l. refl) d.kinds d.kind_lists ∙ kept.heads in
        let many = ap length heads in
        let keyed : keyed_kinds kinds ≡ declared_kinds = sym (map-map (λ (h : Head). h.1) (λ (k : Kind). head (plain_kind k)) kinds)
        ∙ ap (map (λ (h : Head). h.1)) heads ∙ map-map (λ (h : Head). h.1) declared_head n.kinds in
        let ticking : ticking_kinds kinds ≡ declared_ticks = sym (map-map head_ticks (λ (k : Kind). head (plain_kind k)) kinds)
        ∙ ap (map head_ticks) heads ∙ map-map head_ticks declared_head n.kinds in
        let kind_names_are : map (λ (k : Kind). k.name) kinds ≡ names_in n.kinds = sym (map-map (λ (h : Head). h.0) (λ (k : Kind). head (plain_kind k)) kinds)
        ∙ ap (map (λ (h : Head). h.0)) heads ∙ map-map (λ (h : Head). h.0) declared_head n.kinds in
        let family_names_are : map (λ (f : Family). f.name) (listed_families families d.family_lists) ≡ names_in n.families =
        names-alike (listed_families families d.family_lists) families alike ∙ map-map (λ (f : Family). f.name) family n.families in
        let depends_count : length d.depends ≡ 0 + total (depends_in text) ds =
        each-counts (with_declaration text n) (λ (x : Drafted). length x.depends) (depends_in text) (counted text n) (first_draft n) ds d e in
        let names_count = named.depends in
        let source_names_are : source_names d.sources ≡ n.sources = each-lists (with_declaration text n) (λ (x : Drafted). source_names x.sources)
        (sources_in text) (listed text n) (first_draft n) ds d e ∙ sym named.sources in
        let sources_count = ap length source_names_are in
        let list_names_are = lists_named ds d named e in
        let lists_count = lists_counted ds d named e in
        record {
          known_version = known;
          known_ties = count;
          known_iso = unit;
          few_lists = omega (arith, keep.few_lists, lists_count);
          few_families = omega (arith, keep.few_families, length-listed_families families d.family_lists, length-map n.families family);
          few_kinds = omega (arith, keep.few_kinds, many, length-map kinds (λ (k : Kind). head (plain_kind k)), length-map n.kinds declared_head);
          few_depends = omega (arith, keep.few_depends, depends_count, names_count);
          few_sources = omega (arith, keep.few_sources, sources_count, length-map d.sources (λ (s : Source). s.name));
          few_itags = omega (arith, kept.count, kept.few);
          lists_are = kept.lists;
          families_fit = families-alike (listed_families families d.family_lists) families alike
              ∙ list_all-map (λ (f : Family). is_name f.name) family n.families ∙ sym (list_all-map is_name (λ h. h.0) n.families) ∙ family_names;
          kinds_fit = kinds_kept d kinds kept same;
          version_fits = versions_kept ds d kinds named kept e same;
          lists_fit = lists_kept ds d kinds named kept e same;
          depends_fit = depends-plain kinds d.depends ∙ ap (λ ks. list_all (ties_kinds ks) d.depends) keyed ∙ kept.depends;
          sources_fit = sources-plain kinds d.sources ∙ ap (λ ks. list_all (is_source ks (ticking_kinds kinds)) d.sources) keyed
              ∙ ap (λ ts. list_all (is_source declared_kinds ts) d.sources) ticking ∙ kept.sources;
          clocks_fit = kept.clocks;
          own_names =
              (λ i. are_distinct is_same_text (family_names_are i ++ kind_names_are i ++ source_names_are i ++ list_names_are i)) ∙ keep.distinct;
          own_files = kept.files;
        }

-- ---- from bytes
pub utf8_text : (bytes text : List ℕ) → text_in bytes ≡ Ok text → IsUtf8 text
utf8_text bytes text e =
    let h = passed (is_utf8 bytes) (f.BadUtf8 (utf8_valid_len bytes)) (Ok bytes) text e in
    let same : bytes ≡ text = cc in
    subst IsUtf8 same (IsUtf8-from_is_utf8 bytes h.0)

pub tokens_found : (r : Reading) (ts : List Token) → found_tokens r ≡ Ok ts → r ≡ Ok ts
tokens_found (Ok us) ts e = cc
tokens_found (Err at) ts e = absurd cc

pub job_found : (v : Verdict tree.Job) (written : tree.Job) → found_job v ≡ Ok written → v ≡ IsFound written
job_found (IsFound ds) written e = cc
job_found (Unexpected at) written e = absurd cc
job_found TooDeep written e = absurd cc

number_kept : (written : Option WrittenHead) (version : ℕ) → version_of written ≡ Ok version → is_version version ≡ true
number_kept None version e = let same : 1 ≡ version = cc in ap is_version (sym same)
number_kept (Some head) version e =
    let value = written_value head.version.value in
    let h = passed (is_version value) (f.WrongShape head.version.at) (Ok value) version e in
    let same : value ≡ version = cc in
    ap is_version (sym same) ∙ h.0

-- several rows at one time are found in version 3 alone
count_kept : (version : ℕ) (written : Option WrittenTies) (ties : ℕ) → ties_counted version written ≡ Ok ties → ties_fit version ties ≡ true
count_kept version None ties e = let same : 1 ≡ ties = cc in ap (ties_fit version) (sym same) ∙ or_true (version == 3)
count_kept version (Some written) ties e =
    let value = written_value written.number.value in
    let within : Bool = nat_le 1 value && nat_le value (2 ^ 31) in
    let one = passed (version == 3) (f.WrongShape written.at) (unless within (f.WrongShape written.number.at) >> Ok value) ties e in
    let two = passed within (f.WrongShape written.number.at) (Ok value) ties one.1 in
    let same : value ≡ ties = cc in
    ap (ties_fit version) (sym same) ∙ both within (version == 3 || value == 1) two.0 (ap (λ b. b || value == 1) one.0)

ties_kept : (version : ℕ) (written : Option WrittenHead) (ties : ℕ) → ties_of version written ≡ Ok ties → ties_fit version ties ≡ true
ties_kept version None ties e = count_kept version None ties e
ties_kept version (Some head) ties e = count_kept version head.ties ties e

-- a unit is found in version 3 alone
unit_kept : (text : List ℕ) (version : ℕ) (written : Option WrittenUnit) (iso : Option TimeUnit) → unit_of text version written ≡ Ok iso
    → iso_fits version iso ≡ true
unit_kept text version None iso e = let same : None ≡ iso = cc in ap (iso_fits version) (sym same)
unit_kept text version (Some unit) None e = refl
unit_kept text version (Some unit) (Some iso) e =
    (passed (version == 3) (f.WrongShape unit.at) (found_unit unit.name.from (unit_named (name_of text unit.name))) (Some iso) e).0

iso_kept : (text : List ℕ) (version : ℕ) (written : Option WrittenHead) (iso : Option TimeUnit) → iso_of text version written ≡ Ok iso
    → iso_fits version iso ≡ true
iso_kept text version None iso e = let same : None ≡ iso = cc in ap (iso_fits version) (sym same)
iso_kept text version (Some head) iso e = unit_kept text version head.iso iso e

-- names are names in each version
keep_in_version : (n : Naming) (version : ℕ) → NamesKeep n → NamesKeep (in_version n version)
keep_in_version n version keep = record {
  few_families = keep.few_families;
  few_kinds = keep.few_kinds;
  few_sources = keep.few_sources;
  few_lists = keep.few_lists;
  few_depends = keep.few_depends;
  are_names = keep.are_names;
  distinct = keep.distinct;
  families = keep.families;
  kinds = keep.kinds;
}

-- the kinds of a job
kinds_are : (ties : ℕ) (iso : Option TimeUnit) (n : Naming) (d : Drafted) (job : Job) (kinds : List Kind) → job_with ties iso n d ≡ job
    → map plain_kind kinds ≡ job.kinds
    → map plain_kind kinds ≡ listed_kinds d.kinds d.kind_lists
kinds_are ties iso n d job kinds is same = same ∙ ap (λ (j : Job). j.kinds) (sym is)

module _ (text : List ℕ) (ts : List Token) (read : AreRead text ts) (meet : TagsMeet) (differ : TagsDiffer) where
  each_well : (n : Naming) (keep : NamesKeep n) (ds : List Declaration) → AllByRecursion (λ w. AllByRecursion (Stands ts) (declaration_words w)) ds
      → AreDeclarations 64 ds
      → AllByRecursion (IsWell text n ts read keep meet differ) ds
  each_well n keep [] words are = tt
  each_well n keep (w ∷ ds) words are = ((words.0, are.0), each_well n keep ds words.1 are.1)

  resolved_kept : (written : tree.Job) (job : Job) → AllByRecursion (λ w. AllByRecursion (Stands ts) (declaration_words w)) written.declarations
      → AreDeclarations 64 written.declarations → resolved text written ≡ Ok job
      → (kinds : List Kind) → map plain_kind kinds ≡ job.kinds → KeepsRules job.version job.ties job.iso job.lists job.families kinds job.depends job.sources
  unfolding resolved
  resolved_kept written job words are e kinds same =
      let ds = written.declarations in
      let one = bind_ok (naming_of text ds) _ job e in
      let two = bind_ok (version_of written.head) _ job one.2 in
      let count = bind_ok (ties_of two.0 written.head) _ job two.2 in
      let unit = bind_ok (iso_of text two.0 written.head) _ job count.2 in
      let n : Naming = in_version one.0 two.0 in
      let three = bind_ok (draft_of text n ds) (λ d. Ok (job_with count.0 unit.0 n d)) job unit.2 in
      let is : job_with count.0 unit.0 n three.0 ≡ job = cc in
      let keep = keep_in_version one.0 two.0 (names_kept text ts read ds one.0 words one.1) in
      let there = kinds_are count.0 unit.0 n three.0 job kinds is same in
      let known = number_kept written.head two.0 two.1 in
      let count_fits = ties_kept two.0 written.head count.0 count.1 in
      let fits = iso_kept text two.0 written.head unit.0 unit.1 in
      subst (λ (j : Job). KeepsRules j.version j.ties j.iso j.lists j.families kinds j.depends j.sources) is
      (rules_kept text n ts read keep meet differ ds three.0 kinds count.0 unit.0 known count_fits fits (record {
        depends = naming_counts text ds one.0 one.1;
        sources = naming_lists text ds one.0 one.1;
        families = naming_families text ds one.0 one.1;
        items = naming_items text ds one.0 one.1;
        keys = naming_keys text ds one.0 one.1;
        lists = naming_named_lists text ds one.0 one.1;
      }) (each_well n keep ds words are) three.1 there)

pub jobs_kept : ReadMayBePrinted → FoundIsJob → WordsStand → TagsMeet → TagsDiffer → JobsKeepRules
unfolding job_in
jobs_kept readable found_is words_stand meet differ bytes job e kinds same =
    let within = passed (nat_le (length bytes) 1048576) (f.OverLimit Bytes 1048577) _ job e in
    let one = bind_ok (text_in bytes) _ job within.1 in
    let text = one.0 in
    let two = bind_ok (tokens_in text) _ job one.2 in
    let ts = two.0 in
    let three = bind_ok (written_in (length text) ts) _ job two.2 in
    let utf8 = utf8_text bytes text one.1 in
    let is = (found_is (length text) ts three.0).0 (job_found (verdict (length text) ts) three.0 three.1) in
    let ds = three.0.declarations in
    let words = all_back (Stands ts) (head_words three.0.head) (flat_map declaration_words ds) (words_stand ts three.0 is) in
    let read : AreRead text ts = readable text ts utf8 (tokens_found (reading text) ts two.1) in
    resolved_kept text ts read meet differ three.0 job (all_of_each (Stands ts) declaration_words ds words) is.grammar three.2 kinds same
