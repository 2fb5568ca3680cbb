-- Each fault that the reader finds in a job text is by a rule that the text breaks.
use Rattle.flu_grammar.specs.BrokenJobs.{clock_of_older, no_period, high_rate_of_clock, no_tick, in_tick}
use Rattle.flu_parse.specs.Faults.{each}
use Rattle.std.specs.Prelude.{◌||◌}
use Rattle.std.proofs.Common.{◌^◌, ◌⊎◌}
use Rattle.flu_model.specs.Rules.{file_of_source}
use Rattle.std.specs.List.{filter_map}
use Rattle.std.proofs.Common.{◌≡◌, ◌≢◌, inl, inr, ℕ, ◌+◌, ◌<◌, ◌≤◌, Bool, true, false, List, [], ◌∷◌, ◌++◌, map, length}
use Rattle.std.proofs.Common.{Option, Some, None, Ok, Err, refl, sym, ap, subst, ◌∙◌, length-append, arith}
use Rattle.std.specs.Prelude.{not, is_some, ◌==◌, ◌&&◌, nat_lt, nat_le, slice_get, position}
use Rattle.std.specs.List.{list_any, flat_map, sum_by, position_or_len}
use Rattle.std.specs.Str.{is_utf8, bytes_eq}
use Rattle.std.proofs.lemmas.List.{length-map}
use Rattle.std.proofs.lemmas.Str.{is_utf8-from_IsUtf8}
use Rattle.flu_lemmas.specs.Items.{Pairs}
use Rattle.flu_lemmas.specs.Loops.{◌>>=◌, ◌>>◌}
use Rattle.flu_lemmas.specs.Totals.{total}
use Rattle.flu_lemmas.proofs.Bytes.{bytes_itself, bytes_is}
use Rattle.flu_lemmas.proofs.Searches.{eq_true}
use Rattle.flu_lemmas.proofs.Tests.{not_both, true_le, lt_true}
use Rattle.flu_lemmas.proofs.Totals.{sum_by-total, total-append}
use Rattle.flu_model.specs.declared.limits.What.TheVariants.{Nesting, Families, Kinds, Lists, Names as NamesLimit, Sources, Depends, Itags, Rate, Slack}
use Rattle.flu_model.specs.declared.jobs.Sort.{Sort}
use Rattle.flu_model.specs.Contents.{key_count}
use Rattle.flu_model.specs.ListRules.{is_listed_text}
use Rattle.flu_model.specs.declared.jobs.Keys.{Keys}
use Rattle.flu_model.specs.declared.jobs.Keys.TheVariants as keys
use Rattle.flu_model.specs.declared.jobs.Source.{Source}
use Rattle.flu_model.specs.declared.jobs.TagRef.{TagRef}
use Rattle.flu_model.specs.Erasure.{Job as ReadJob}
use Rattle.flu_model.specs.Listing.{listed_keys}
use Rattle.flu_model.specs.Rules.{is_version, is_same_text}
use Rattle.flu_model.specs.Texts.{Unit as TimeUnit}
use Rattle.flu_rules.specs.Keys.{share_tag}
use Rattle.flu_text.specs.declared.written.WrittenSpan.{WrittenSpan}
use Rattle.flu_text.specs.declared.written.WrittenNumber.{WrittenNumber}
use Rattle.flu_text.specs.declared.written.WrittenKeys.{WrittenKeys}
use Rattle.flu_text.specs.declared.written.WrittenKeys.TheVariants as ks
use Rattle.flu_text.specs.Laws.{ReadingIsTokens, ReadingIsBadPlace}
use Rattle.flu_syntax.specs.declared.tree.WrittenBy.{WrittenBy}
use Rattle.flu_syntax.specs.declared.tree.WrittenCells.{WrittenCells}
use Rattle.flu_syntax.specs.declared.tree.WrittenCells.TheVariants as cells
use Rattle.flu_syntax.specs.declared.tree.WrittenItem.{WrittenItem}
use Rattle.flu_syntax.specs.declared.tree.WrittenTag.{WrittenTag}
use Rattle.flu_syntax.specs.declared.tree.WrittenRelation.{WrittenRelation}
use Rattle.flu_syntax.specs.declared.tree.WrittenRelation.TheVariants as r
use Rattle.flu_syntax.specs.declared.tree.WrittenTies.{WrittenTies}
use Rattle.flu_syntax.specs.declared.tree.WrittenUnit.{WrittenUnit}
use Rattle.flu_syntax.specs.declared.tree.WrittenHead.{WrittenHead}
use Rattle.flu_syntax.specs.Tree.{Action, Declaration, Declarations, Job as WrittenJob}
use Rattle.flu_syntax.specs.Tree as d
use Rattle.flu_syntax.specs.Laws.{FoundIsJob, UnexpectedIsFirst, TooDeepIsThe65th}
use Rattle.flu_syntax.specs.Machine.{Verdict, verdict, Found as IsVerdict, TooDeep, Unexpected}
use Rattle.flu_layout.specs.Spelling.{name_of, inside, written_value}
use Rattle.flu_parse.specs.declared.faults.JobFault.{JobFault}
use Rattle.flu_parse.specs.declared.faults.JobFault.TheVariants as f
use Rattle.flu_parse.specs.declared.names.KindHead.{KindHead}
use Rattle.flu_parse.specs.Faults.{Found, unless, room}
use Rattle.flu_parse.specs.Lists.{with_text, texts_of, list_of}
use Rattle.flu_parse.specs.Naming.{Naming, in_version, is_version_3, has_keys, keys_by, items_by, look_up, is_declared, known, fresh_name, with_family}
use Rattle.flu_parse.specs.Naming.{with_kind, with_list, with_source, declare, no_names, naming_of, kind_of}
use Rattle.flu_parse.specs.Cells.{resolved_key}
use Rattle.flu_parse.specs.Actions.{resolved_actions}
use Rattle.flu_parse.specs.Listings.{are_bracketed, written_keys, keys_of, tag_count, Listed, with_tag, tags_of, rate_of, slack_of, file_of, period_of}
use Rattle.flu_parse.specs.Listings.{is_tick_head, alone, tick_of}
use Rattle.flu_parse.specs.Resolving.{Drafted, same_of, with_depend, with_actions, with_on, with_clock, with_source as with_source_of}
use Rattle.flu_parse.specs.Resolving.{with_cell, with_tag as with_tag_of, with_names, cell_name_fits, item_word_fits, with_declaration, first_draft}
use Rattle.flu_parse.specs.Resolving.{draft_of, version_of, ties_counted, ties_of, unit_named, found_unit, unit_of, iso_of}
use Rattle.flu_parse.specs.Resolving.{job_with, resolved}
use Rattle.flu_parse.specs.Reading.{found_job}
use Rattle.flu_grammar.specs.Declared.{DeclaredKind, WrittenFeed, OfFile, OfClock, feed_tags, families_in, kinds_in, depends_in, sources_in, lists_in}
use Rattle.flu_grammar.specs.Declared.{list_names}
use Rattle.flu_grammar.specs.Cells.{family_name}
use Rattle.flu_grammar.specs.Sources.{MeansKind, MeansTag, MeansFeed}
use Rattle.flu_grammar.specs.Faults.{NoneIsNamed, spans_in}
use Rattle.flu_grammar.specs.Broken.{BreaksActions}
use Rattle.flu_grammar.specs.BrokenJobs.{declared_name, has_key_brackets, IsWrittenKey, listed_itags, itags_in, IsListedTwice, BreaksTag, tag_unknown}
use Rattle.flu_grammar.specs.BrokenJobs.{tag_brackets, too_many_itags, listed_twice, range_falls, tag_key, BreaksDeclaration, called_item}
use Rattle.flu_grammar.specs.BrokenJobs.{items_of_older, first_unknown, second_unknown, BreaksList, list_of_older, list_unknown, BreaksName, no_name}
use Rattle.flu_grammar.specs.BrokenJobs.{too_many_names, name_twice, in_keys, in_items, names_of_older, in_names, too_many_lists}
use Rattle.flu_grammar.specs.BrokenJobs.{same_of_unkeyed, kind_unknown, second_on, in_actions, no_file, second_file, high_rate, high_slack, in_tags}
use Rattle.flu_grammar.specs.BrokenJobs.{BreaksJob, declared_twice, too_many_families, too_many_kinds, too_many_sources, too_many_depends, no_version}
use Rattle.flu_grammar.specs.BrokenJobs.{ties_of_older, no_ties, unit_of_older, no_unit}
use Rattle.flu_grammar.specs.Jobs.{MeansVersion}
use Rattle.flu_grammar.specs.BrokenJobs.{in_declaration, IsFaultOf, too_many_bytes, not_utf8, no_token, not_continued, too_deep, of_written, FaultsAreByRule}
use Rattle.flu_grammar.proofs.FaultKinds.{FaultsAre, no_fault, one_fault, faults_bind, faults_then}
use Rattle.flu_grammar.proofs.Broken.{faults_found, fault_where, faults_where, faults_weaker, at_element, known_where, number_breaks, not_less}
use Rattle.flu_grammar.proofs.Broken.{not_most, actions_break}
use Rattle.flu_grammar.proofs.Lists.{get_unmap, met_at, pairs_right}
use Rattle.flu_grammar.proofs.Items.{not_false, is_item_word, item_word}
use Rattle.flu_grammar.proofs.JobCells.{family_head, KnowFamilies, under_head}
use Rattle.flu_grammar.proofs.JobNames.{kind_name, kind_head, all_families, all_kinds, lists_named, Named, OwnNames, heads_length, naming_is}
use Rattle.flu_grammar.proofs.JobLists.{no_texts, texts_are}
use Rattle.flu_grammar.proofs.JobSources.{KnowKinds, kind_is, kind_found, kind_means, keys_found, part_count, tags_are, apart_none}
use Rattle.flu_grammar.proofs.JobDrafts.{itag_count, Drafts, drafts_are}
use Rattle.flu_grammar.proofs.JobTexts.{know_families, know_kinds, families_in_version, kinds_in_version, as_many_sources, as_many_lists}
use Rattle.flu_grammar.proofs.JobTexts.{version_is}
use Rattle.flu_grammar.proofs.Faults.{no_place, declared_before}
use Rattle.flu_grammar.proofs.Twice.{given_twice, read_twice}
use Rattle.flu_grammar.proofs.Ties.{is_count, outside}
use Rattle.flu_grammar.proofs.Units.{unit_said}
use Rattle.flu_grammar.proofs.TextFaults as text_faults

-- ---- lists

-- what stands behind some declarations has no fewer of what each gives
counted_behind : {X Y : Type 0} (g : X → List Y) (done : List X) (x : X) (after : List X)
    → length (flat_map g done) + length (g x) ≤ length (flat_map g (done ++ x ∷ after))
counted_behind g [] x after = let all = length-append (g x) (flat_map g after) in omega (arith, all)
counted_behind g (y ∷ done) x after =
    let one = length-append (g y) (flat_map g done) in
    let two = length-append (g y) (flat_map g (done ++ x ∷ after)) in
    let more = counted_behind g done x after in
    omega (arith, one, two, more)

-- sums over pairs of which each two count the same
pub pairs_total : {X Y : Type 0} (R : X → Y → Type 0) (g : X → ℕ) (h : Y → ℕ) → ((x : X) (y : Y) → R x y → g x ≡ h y) → (xs : List X) (ys : List Y)
    → Pairs R xs ys → total g xs ≡ total h ys
pairs_total R g h same [] [] all = refl
pairs_total R g h same [] (y ∷ ys) all = absurd all
pairs_total R g h same (x ∷ xs) [] all = absurd all
pairs_total R g h same (x ∷ xs) (y ∷ ys) all = λ i. same x y all.0 i + pairs_total R g h same xs ys all.1 i

is_empty : (xs : List ℕ) → nat_lt 0 (length xs) ≡ false → xs ≡ []
is_empty [] e = refl
is_empty (x ∷ xs) e = absurd (not_both (nat_lt 0 (length (x ∷ xs))) (lt_true 0 (length (x ∷ xs)) (omega arith)) e)

ok_no_err : {A : Type 0} {x : A} {fault : JobFault} → (let r : Found A = Err fault in let s : Found A = Ok x in r ≡ s) → ⊥
ok_no_err e = cc

key_brackets_apart : (keyed : Bool) (written : WrittenKeys) → are_bracketed keyed written ≡ false → keyed ≢ has_key_brackets written
key_brackets_apart true ks.Alone fails same = absurd cc
key_brackets_apart false ks.Alone fails same = absurd cc
key_brackets_apart true (ks.One n) fails same = absurd cc
key_brackets_apart false (ks.One n) fails same = absurd cc
key_brackets_apart true (ks.Range low high) fails same = absurd cc
key_brackets_apart false (ks.Range low high) fails same = absurd cc

module _ (text : List ℕ) (n : Naming) (all : Declarations) (know : KnowFamilies n (all_families text all)) (knows : KnowKinds n (all_kinds text all))
    (names_are : n.lists ≡ list_names text all) where
  abbrev kinds : List DeclaredKind
  kinds = all_kinds text all

  none_declared : (s : WrittenSpan) → look_up (name_of text s) n.kinds ≡ None → NoneIsNamed declared_name kinds (name_of text s)
  none_declared s none = λ i x there same. ok_no_err (sym (ap (known s.from) none) ∙ kind_found text n kinds knows s i x there same)

  -- a kind that is known, with its head
  record Kind (s : WrittenSpan) (h : KindHead) : Type 0 where
    means : MeansKind text kinds s h.number
    is : kind_head h.number means.kind ≡ h

  kind_at : (s : WrittenSpan) (h : KindHead) → kind_of text n s ≡ Ok h → Kind s h
  kind_at s h e =
      let found = kind_is text n kinds knows s h e in
      let number : 0 + found.place ≡ h.number = ap (λ (x : KindHead). x.number) found.is in
      record {
        means = kind_means text n kinds knows s h found;
        is = ap (λ (m : ℕ). kind_head m found.declared) (sym number) ∙ found.is;
      }

  keyed_at : (s : WrittenSpan) (h : KindHead) (k : Kind s h) → k.means.kind.keyed ≡ h.keyed
  keyed_at s h k = ap (λ (x : KindHead). x.keyed) k.is

  -- ---- tags

  -- how many itags written tags list, and those that they mean
  tag_counted : (v : WrittenTag) (t : TagRef) → MeansTag text kinds v t → tag_count v.keys ≡ part_count t
  tag_counted v t means = ap (λ (x : Keys). length (listed_keys x)) (keys_found means.kind.kind.keyed v.keys t.keys means.keys).2

  tags_counted : (vs : List WrittenTag) (ts : List TagRef) → Pairs (MeansTag text kinds) vs ts → listed_itags vs ≡ total part_count ts
  tags_counted vs ts means = sum_by-total (λ (v : WrittenTag). tag_count v.keys) vs
      ∙ pairs_total (MeansTag text kinds) (λ (v : WrittenTag). tag_count v.keys) part_count tag_counted vs ts means

  feed_counted : (w : WrittenFeed) (s : Source) → MeansFeed text kinds w s → listed_itags (feed_tags w) ≡ total part_count s.tags
  feed_counted (OfFile v) s means = tags_counted v.tags s.tags means.tags
  feed_counted (OfClock v) s means =
      tags_counted (alone v.tag ∷ []) (record { kind = means.number; keys = keys.Alone } ∷ []) (record { kind = means.kind; keys = means.no_key }, tt)
      ∙ ap (total part_count) (sym means.tags)

  itags_counted : (ws : List WrittenFeed) (ss : List Source) → Pairs (MeansFeed text kinds) ws ss
      → sum_by (λ (w : WrittenFeed). listed_itags (feed_tags w)) ws ≡ itag_count ss
  itags_counted ws ss means =
      sum_by-total (λ (w : WrittenFeed). listed_itags (feed_tags w)) ws
      ∙ pairs_total (MeansFeed text kinds) (λ (w : WrittenFeed). listed_itags (feed_tags w)) (λ (s : Source). total part_count s.tags)
      feed_counted ws ss means

  keys_break : (itags : ℕ) (earlier : List WrittenTag) (t : WrittenTag) (written : WrittenKeys) → t.keys ≡ written
      → FaultsAre (BreaksTag text kinds itags earlier t) (keys_of written)
  keys_break itags earlier t ks.Alone at = no_fault (BreaksTag text kinds itags earlier t) keys.Alone
  keys_break itags earlier t (ks.One m) at =
      let P = BreaksTag text kinds itags earlier t in
      faults_bind P (resolved_key m) (λ key. Ok (keys.One key))
      (number_breaks P m (λ great. tag_key m (subst (λ (w : WrittenKeys). IsWrittenKey w m) (sym at) refl) great)) (λ key. no_fault P (keys.One key))
  keys_break itags earlier t (ks.Range low high) at =
      let P = BreaksTag text kinds itags earlier t in
      faults_where P (nat_le (written_value low.value) (written_value high.value)) (f.WrongShape low.at)
      (resolved_key low >>= λ first. resolved_key high >>= λ last. Ok (keys.Range first last))
      (λ fails. range_falls low high at (not_most (written_value low.value) (written_value high.value) fails))
      (λ yes. faults_bind P (resolved_key low) (λ first. resolved_key high >>= λ last. Ok (keys.Range first last))
      (number_breaks P low (λ great. tag_key low (subst (λ (w : WrittenKeys). IsWrittenKey w low) (sym at) (inl refl)) great))
      (λ first. faults_bind P (resolved_key high) (λ last. Ok (keys.Range first last))
      (number_breaks P high (λ great. tag_key high (subst (λ (w : WrittenKeys). IsWrittenKey w high) (sym at) (inr refl)) great))
      (λ last. no_fault P (keys.Range first last))))

  tag_breaks : (itags : ℕ) (earlier : List WrittenTag) (done : Listed) (t : WrittenTag) → Pairs (MeansTag text kinds) earlier done.tags
      → itags + listed_itags earlier ≡ done.itags → FaultsAre (BreaksTag text kinds itags earlier t) (with_tag text n done t)
  unfolding with_tag
  tag_breaks itags earlier done t means counted =
      let P = BreaksTag text kinds itags earlier t in
      let last = λ (kind : KindHead). keys_of t.keys >>= λ k. let r : Found Listed = Ok (record {
        tags = done.tags ++ record { kind = kind.number; keys = k } ∷ [];
        itags = done.itags + tag_count t.keys;
      }) in r in
      let shares = λ (kind : KindHead). list_any (share_tag (record { kind = kind.number; keys = written_keys t.keys })) done.tags in
      let third = λ (kind : KindHead). unless (not (shares kind)) (f.TwiceNamed t.kind.from) >> last kind in
      let second = λ (kind : KindHead). unless (nat_le (done.itags + tag_count t.keys) 256) (f.OverLimit Itags 257) >> third kind in
      faults_found P (kind_of text n t.kind) (λ kind. unless (are_bracketed kind.keyed t.keys) (f.WrongShape t.kind.from) >> second kind)
      (known_where P t.kind.from (look_up (name_of text t.kind) n.kinds) (λ none. tag_unknown (none_declared t.kind none)))
      (λ h is. faults_where P (are_bracketed h.keyed t.keys) (f.WrongShape t.kind.from) (second h)
      (λ fails. tag_brackets h.number (kind_at t.kind h is).means
      (λ same. key_brackets_apart h.keyed t.keys fails (sym (keyed_at t.kind h (kind_at t.kind h is)) ∙ same)))
      (λ yes. faults_where P (nat_le (done.itags + tag_count t.keys) 256) (f.OverLimit Itags 257) (third h)
      (λ fails. too_many_itags (more (not_most (done.itags + tag_count t.keys) 256 fails)))
      (λ few. faults_where P (not (shares h)) (f.TwiceNamed t.kind.from) (last h) (λ fails. listed_twice (twice h is (shares h) refl fails))
      (λ apart. faults_bind P (keys_of t.keys) (λ k. Ok (record {
        tags = done.tags ++ record { kind = h.number; keys = k } ∷ [];
        itags = done.itags + tag_count t.keys;
      })) (keys_break itags earlier t t.keys refl) (λ k. no_fault P (record {
        tags = done.tags ++ record { kind = h.number; keys = k } ∷ [];
        itags = done.itags + tag_count t.keys;
      }))))))
    where
      more : 256 < done.itags + tag_count t.keys → 256 < itags + listed_itags (earlier ++ t ∷ [])
      more many =
          let one = sum_by-total (λ (v : WrittenTag). tag_count v.keys) (earlier ++ t ∷ []) in
          let two = total-append (λ (v : WrittenTag). tag_count v.keys) earlier (t ∷ []) in
          let three = sum_by-total (λ (v : WrittenTag). tag_count v.keys) earlier in
          omega (arith, one, two, three, counted, many)

      twice : (h : KindHead) → kind_of text n t.kind ≡ Ok h → (b : Bool)
          → list_any (share_tag (record { kind = h.number; keys = written_keys t.keys })) done.tags ≡ b → not b ≡ false → IsListedTwice text kinds earlier t
      twice h is false shared fails = absurd cc
      twice h is true shared fails =
          let one : TagRef = record { kind = h.number; keys = written_keys t.keys } in
          let met = met_at (share_tag one) done.tags shared in
          let got = pairs_right (MeansTag text kinds) earlier done.tags means (position_or_len (share_tag one) done.tags) met.0 met.1 in
          record {
            place = position_or_len (share_tag one) done.tags;
            other = got.0;
            here = got.1;
            kind = h.number;
            is = (kind_at t.kind h is).means;
            tag = met.0;
            means = got.2;
            shared = met.2;
          }

  -- ---- declarations, behind others that are drafted

  module _ (before : Declarations) (x : Drafted) (drafts : Drafts text n (all_families text all) kinds know knows before x) where
    abbrev Broken : Declaration → JobFault → Type 0
    Broken y fault = BreaksDeclaration text n.version all before y fault

    same_breaks : (a b : WrittenSpan) (relation : WrittenRelation) (first second : KindHead) → Kind a first → Kind b second
        → FaultsAre (Broken (d.Depends a b relation)) (same_of relation first second)
    same_breaks a b r.None first second one two = no_fault (Broken (d.Depends a b r.None)) false
    same_breaks a b r.All first second one two = no_fault (Broken (d.Depends a b r.All)) false
    same_breaks a b (r.Same at) first second one two =
        faults_where (Broken (d.Depends a b (r.Same at))) (first.keyed && second.keyed) (f.WrongShape at) (Ok true)
        (λ fails. same_of_unkeyed a b at first.number second.number one.means two.means ((λ i. keyed_at a first one i && keyed_at b second two i) ∙ fails))
        (λ yes. no_fault (Broken (d.Depends a b (r.Same at))) true)

    depend_breaks : (a b : WrittenSpan) (relation : WrittenRelation) → FaultsAre (Broken (d.Depends a b relation)) (with_depend text n x a b relation)
    unfolding with_depend
    depend_breaks a b relation =
        let P = Broken (d.Depends a b relation) in
        let made = λ (first second : KindHead) (same : Bool). let r : Found Drafted = Ok (record x {
          depends = x.depends ++ record { a = first.number; b = second.number; same = same } ∷ [];
        }) in r in
        faults_found P (kind_of text n a) (λ first. kind_of text n b >>= λ second. same_of relation first second >>= λ same. made first second same)
        (known_where P a.from (look_up (name_of text a) n.kinds) (λ none. first_unknown a b relation (none_declared a none)))
        (λ first one. faults_found P (kind_of text n b) (λ second. same_of relation first second >>= λ same. made first second same)
        (known_where P b.from (look_up (name_of text b) n.kinds) (λ none. second_unknown a b relation (none_declared b none)))
        (λ second two. faults_bind P (same_of relation first second) (λ same. made first second same)
        (same_breaks a b relation first second (kind_at a first one) (kind_at b second two)) (λ same. no_fault P (record x {
          depends = x.depends ++ record { a = first.number; b = second.number; same = same } ∷ [];
        }))))

    on_breaks : (kind : WrittenSpan) (actions : List Action) → FaultsAre (Broken (d.On kind actions)) (with_on text n x kind actions)
    unfolding with_on
    on_breaks kind actions =
        let P = Broken (d.On kind actions) in
        let given = λ (h : KindHead). list_any (λ g. g == h.number) x.given in
        faults_found P (kind_of text n kind) (λ h. unless (not (given h)) (f.TwiceNamed kind.from)
        >> (resolved_actions text n h actions >>= λ acts. Ok (record x { kinds = with_actions x.kinds h.number acts; given = x.given ++ h.number ∷ [] })))
        (known_where P kind.from (look_up (name_of text kind) n.kinds) (λ none. kind_unknown kind actions (none_declared kind none)))
        (λ h is. faults_where P (not (given h)) (f.TwiceNamed kind.from)
        (resolved_actions text n h actions >>= λ acts. Ok (record x { kinds = with_actions x.kinds h.number acts; given = x.given ++ h.number ∷ [] }))
        (λ fails. twice h is (given h) refl fails)
        (λ yes. faults_bind P (resolved_actions text n h actions)
        (λ acts. Ok (record x { kinds = with_actions x.kinds h.number acts; given = x.given ++ h.number ∷ [] }))
        (faults_weaker P (BreaksActions text (all_families text all) (under_head n h) actions) (resolved_actions text n h actions)
        (λ fault broken. under h (kind_at kind h is) fault broken) (actions_break text n (all_families text all) know h actions))
        (λ acts. no_fault P (record x { kinds = with_actions x.kinds h.number acts; given = x.given ++ h.number ∷ [] }))))
      where
        twice : (h : KindHead) → kind_of text n kind ≡ Ok h → (b : Bool) → list_any (λ g. g == h.number) x.given ≡ b → not b ≡ false
            → Broken (d.On kind actions) (f.TwiceNamed kind.from)
        twice h is false any fails = absurd cc
        twice h is true any fails = second_on kind actions kind.from (given_twice text n (all_families text all) kinds know knows before x drafts kind h is any)

        under : (h : KindHead) → Kind kind h → (fault : JobFault) → BreaksActions text (all_families text all) (under_head n h) actions fault
            → Broken (d.On kind actions) fault
        under h is fault broken =
            in_actions kind actions fault h.number is.means
            (subst (λ (x : KindHead). BreaksActions text (all_families text all) (under_head n x) actions fault) (sym is.is) broken)

    source_breaks : (name file : WrittenSpan) (rate slack : Option WrittenNumber) (tags : List WrittenTag)
        → FaultsAre (Broken (d.Source name file rate slack tags)) (with_source_of text n x name file rate slack tags)
    unfolding with_source_of
    source_breaks name file rate slack tags =
        let P = Broken (d.Source name file rate slack tags) in
        let made = λ (bytes : List ℕ) (a b : ℕ) (listed : Listed). let r : Found Drafted = Ok (record x {
          sources = x.sources ++ record { name = name_of text name; file = bytes; every = None; rate = a; slack = b; tags = listed.tags } ∷ [];
          itags = listed.itags;
        }) in r in
        faults_bind P (file_of text x.sources file)
        (λ bytes. rate_of rate >>= λ a. slack_of slack >>= λ b. tags_of text n x.itags tags >>= λ l. made bytes a b l)
        file_breaks
        (λ bytes. faults_bind P (rate_of rate) (λ a. slack_of slack >>= λ b. tags_of text n x.itags tags >>= λ l. made bytes a b l) (rate_breaks rate slack)
        (λ a. faults_bind P (slack_of slack) (λ b. tags_of text n x.itags tags >>= λ l. made bytes a b l) (slack_breaks rate slack)
        (λ b. faults_bind P (tags_of text n x.itags tags) (λ l. made bytes a b l) tags_break (λ l. no_fault P (record x {
          sources = x.sources ++ record { name = name_of text name; file = bytes; every = None; rate = a; slack = b; tags = l.tags } ∷ [];
          itags = l.itags;
        })))))
      where
        file_breaks : FaultsAre (Broken (d.Source name file rate slack tags)) (file_of text x.sources file)
        file_breaks =
            let P = Broken (d.Source name file rate slack tags) in
            let read = list_any (is_same_text (inside text file)) (filter_map file_of_source x.sources) in
            faults_where P (nat_lt 0 (length (inside text file))) (f.WrongShape file.from) (unless (not read) (f.TwiceNamed file.from) >> Ok (inside text file))
            (λ fails. no_file name file rate slack tags (is_empty (inside text file) fails))
            (λ yes. faults_where P (not read) (f.TwiceNamed file.from) (Ok (inside text file)) (λ fails. twice read refl fails)
            (λ own. no_fault P (inside text file)))
          where
            twice : (b : Bool) → list_any (is_same_text (inside text file)) (filter_map file_of_source x.sources) ≡ b → not b ≡ false
                → Broken (d.Source name file rate slack tags) (f.TwiceNamed file.from)
            twice false any fails = absurd cc
            twice true any fails =
                second_file name file rate slack tags file.from (read_twice text n (all_families text all) kinds know knows before x drafts file any)

        rate_breaks : (rate slack : Option WrittenNumber) → FaultsAre (Broken (d.Source name file rate slack tags)) (rate_of rate)
        rate_breaks None slack = no_fault (Broken (d.Source name file None slack tags)) 1
        rate_breaks (Some m) slack =
            let P = Broken (d.Source name file (Some m) slack tags) in
            faults_where P (nat_le (written_value m.value) 1000000000) (f.OverLimit Rate (written_value m.value)) (Ok (written_value m.value))
            (λ fails. high_rate name file m slack tags (not_most (written_value m.value) 1000000000 fails)) (λ yes. no_fault P (written_value m.value))

        slack_breaks : (rate slack : Option WrittenNumber) → FaultsAre (Broken (d.Source name file rate slack tags)) (slack_of slack)
        slack_breaks rate None = no_fault (Broken (d.Source name file rate None tags)) 0
        slack_breaks rate (Some m) =
            let P = Broken (d.Source name file rate (Some m) tags) in
            faults_where P (nat_le (written_value m.value) 60000) (f.OverLimit Slack (written_value m.value)) (Ok (written_value m.value))
            (λ fails. high_slack name file rate m tags (not_most (written_value m.value) 60000 fails)) (λ yes. no_fault P (written_value m.value))

        tags_break : FaultsAre (Broken (d.Source name file rate slack tags)) (tags_of text n x.itags tags)
        tags_break e h =
            let first : Listed = record { tags = []; itags = x.itags } in
            let found = at_element (with_tag text n) first tags e h in
            let so_far = tags_are text n kinds knows first found.before found.state found.reached apart_none in
            let means = subst (Pairs (MeansTag text kinds) found.before) so_far.tags so_far.means in
            let drafted = drafts.itags in
            let sources = itags_counted (flat_map sources_in before) x.sources drafts.sources in
            let listed = tags_counted found.before so_far.new so_far.means in
            let many = so_far.itags in
            let counted : itags_in before + listed_itags found.before ≡ found.state.itags = omega (arith, drafted, sources, listed, many) in
            subst (λ (l : List WrittenTag). Broken (d.Source name file rate slack l) e) (sym found.is)
            (in_tags name file rate slack found.before found.after found.x e
            (tag_breaks (itags_in before) found.before found.state found.x means counted e found.fault))

    -- ---- clocks

    clock_breaks : (at : ℕ) (name : WrittenSpan) (every : WrittenNumber) (rate : Option WrittenNumber) (tag : WrittenSpan)
        → FaultsAre (Broken (d.Clock at name every rate tag)) (with_clock text n x at name every rate tag)
    unfolding with_clock each
    clock_breaks at name every rate tag =
        let P = Broken (d.Clock at name every rate tag) in
        let made = λ (period a : ℕ) (listed : Listed). let r : Found Drafted = Ok (record x {
          sources = x.sources ++ record { name = name_of text name; file = []; every = Some period; rate = a; slack = 0; tags = listed.tags } ∷ [];
          itags = listed.itags;
        }) in r in
        let value = written_value every.value in
        faults_where P (is_version_3 n) (f.WrongShape at)
        (period_of every >>= λ period. rate_of rate >>= λ a. tick_of text n x.itags tag >>= λ l. made period a l)
        (λ fails. clock_of_older at name every rate tag (λ third. not_both (n.version == 3) (eq_true n.version 3 third) fails))
        (λ yes. faults_bind P (period_of every) (λ period. rate_of rate >>= λ a. tick_of text n x.itags tag >>= λ l. made period a l)
        (faults_where P (nat_le 1 value && nat_le value (2 ^ 62)) (f.WrongShape every.at) (Ok value)
        (λ fails. no_period at name every rate tag (out_of_period value fails)) (λ within. no_fault P value))
        (λ period. faults_bind P (rate_of rate) (λ a. tick_of text n x.itags tag >>= λ l. made period a l) (rate_breaks rate)
        (λ a. faults_bind P (tick_of text n x.itags tag) (λ l. made period a l) tick_breaks
        (λ l. no_fault P (record x {
          sources = x.sources ++ record { name = name_of text name; file = []; every = Some period; rate = a; slack = 0; tags = l.tags } ∷ [];
          itags = l.itags;
        })))))
      where
        out_of_period : (value : ℕ) → (nat_le 1 value && nat_le value (2 ^ 62)) ≡ false → (value < 1) ⊎ (2 ^ 62 < value)
        out_of_period value fails = by (nat_le 1 value) refl fails
          where
            by : (b : Bool) → nat_le 1 value ≡ b → (b && nat_le value (2 ^ 62)) ≡ false → (value < 1) ⊎ (2 ^ 62 < value)
            by false e fails = inl (not_most 1 value e)
            by true e fails = inr (not_most value (2 ^ 62) fails)

        rate_breaks : (rate : Option WrittenNumber) → FaultsAre (Broken (d.Clock at name every rate tag)) (rate_of rate)
        rate_breaks None = no_fault (Broken (d.Clock at name every None tag)) 1
        rate_breaks (Some m) =
            let P = Broken (d.Clock at name every (Some m) tag) in
            faults_where P (nat_le (written_value m.value) 1000000000) (f.OverLimit Rate (written_value m.value)) (Ok (written_value m.value))
            (λ fails. high_rate_of_clock at name every m tag (not_most (written_value m.value) 1000000000 fails)) (λ yes. no_fault P (written_value m.value))

        tag_breaks_alone : FaultsAre (BreaksTag text (flat_map (kinds_in text) all) (itags_in before) [] (alone tag)) (tags_of text n x.itags (alone tag ∷ []))
        tag_breaks_alone =
            let drafted = drafts.itags in
            let sources = itags_counted (flat_map sources_in before) x.sources drafts.sources in
            let counted : itags_in before + listed_itags [] ≡ x.itags = omega (arith, drafted, sources) in
            let Q = BreaksTag text (flat_map (kinds_in text) all) (itags_in before) [] (alone tag) in
            faults_bind Q (with_tag text n (record { tags = []; itags = x.itags }) (alone tag)) (λ s. each (with_tag text n) s [])
            (tag_breaks (itags_in before) [] (record { tags = []; itags = x.itags }) (alone tag) tt counted) (λ s. no_fault Q s)

        some_true : (a b c : Bool) → (not a && not b && not c) ≡ false → (a || b || c) ≡ true
        some_true true b c e = refl
        some_true false true c e = refl
        some_true false false true e = refl
        some_true false false false e = absurd cc

        tick_breaks : FaultsAre (Broken (d.Clock at name every rate tag)) (tick_of text n x.itags tag)
        tick_breaks =
            let P = Broken (d.Clock at name every rate tag) in
            let tags = tags_of text n x.itags (alone tag ∷ []) in
            faults_found P (kind_of text n tag) (λ kind. unless (is_tick_head kind) (f.WrongShape tag.from) >> tags)
            (known_where P tag.from (look_up (name_of text tag) n.kinds)
            (λ none. in_tick at name every rate tag (f.UnknownName tag.from) (tag_unknown (none_declared tag none))))
            (λ h is. faults_where P (is_tick_head h) (f.WrongShape tag.from) tags
            (λ fails. (
            let kind = kind_at tag h is in
            no_tick at name every rate tag h.number kind.means
            (some_true kind.means.kind.keyed kind.means.kind.has_item kind.means.kind.has_value
            (ap is_tick_head kind.is ∙ fails))))
            (λ yes. faults_weaker P (BreaksTag text (flat_map (kinds_in text) all) (itags_in before) [] (alone tag)) tags
            (λ fault broken. in_tick at name every rate tag fault broken) tag_breaks_alone))

    -- ---- lists of names

    list_breaks : (written : WrittenBy) → FaultsAre (BreaksList text n.version all written) (list_of text n (Some written))
    list_breaks written =
        let P = BreaksList text n.version all written in
        let name = name_of text written.list in
        let place = position (bytes_eq name) n.lists in
        faults_where P (is_version_3 n) (f.WrongShape written.at) (known written.list.from place >>= λ number. Ok (Some number))
        (λ fails. list_of_older (λ third. not_both (n.version == 3) (eq_true n.version 3 third) fails))
        (λ yes. faults_bind P (known written.list.from place) (λ number. Ok (Some number))
        (known_where P written.list.from place (λ none. list_unknown (none_named name none)))
        (λ number. no_fault P (Some number)))
      where
        none_named : (name : List ℕ) → position (bytes_eq name) n.lists ≡ None → NoneIsNamed (λ (x : List ℕ). x) (list_names text all) name
        none_named name none = λ i x there same. no_place (bytes_eq name) (list_names text all) i x
            (ap (position (bytes_eq name)) (sym names_are) ∙ none) there
            (subst (λ (z : List ℕ). bytes_eq name z ≡ true) (sym same) (bytes_itself name))

    keys_list_breaks : (name : WrittenSpan) (cells : WrittenCells) (sort : Sort) → FaultsAre (Broken (d.Cell name cells sort)) (list_of text n (keys_by cells))
    keys_list_breaks name cells.Alone sort = no_fault (Broken (d.Cell name cells.Alone sort)) None
    keys_list_breaks name cells.Keyed sort = no_fault (Broken (d.Cell name cells.Keyed sort)) None
    keys_list_breaks name (cells.By written) sort =
        faults_weaker (Broken (d.Cell name (cells.By written) sort)) (BreaksList text n.version all written) (list_of text n (Some written))
        (λ fault broken. in_keys name written sort fault broken) (list_breaks written)

    cell_breaks : (name : WrittenSpan) (cells : WrittenCells) (sort : Sort) → FaultsAre (Broken (d.Cell name cells sort)) (with_cell text n x name cells)
    unfolding with_cell
    cell_breaks name cells sort =
        let P = Broken (d.Cell name cells sort) in
        faults_where P (cell_name_fits text n name) (f.WrongShape name.from)
        (list_of text n (keys_by cells) >>= λ list. Ok (record x { family_lists = x.family_lists ++ list ∷ [] }))
        (λ fails. (let item = item_word n.version (name_of text name) (not_false (is_item_word n.version (name_of text name)) fails) in
        called_item name cells sort item.0 item.1))
        (λ yes. faults_bind P (list_of text n (keys_by cells)) (λ list. Ok (record x { family_lists = x.family_lists ++ list ∷ [] }))
        (keys_list_breaks name cells sort) (λ list. no_fault P (record x { family_lists = x.family_lists ++ list ∷ [] })))

    item_word_breaks : (name : WrittenSpan) (keyed : Bool) (item : Option WrittenItem) (has_value : Bool)
        → FaultsAre (Broken (d.Tag name keyed item has_value)) (item_word_fits n item)
    item_word_breaks name keyed None has_value = no_fault (Broken (d.Tag name keyed None has_value)) tt
    item_word_breaks name keyed (Some item) has_value =
        fault_where (Broken (d.Tag name keyed (Some item) has_value)) (is_version_3 n) (f.WrongShape item.at)
        (λ fails. items_of_older name keyed item has_value (λ third. not_both (n.version == 3) (eq_true n.version 3 third) fails))

    items_list_breaks : (name : WrittenSpan) (keyed : Bool) (item : Option WrittenItem) (has_value : Bool)
        → FaultsAre (Broken (d.Tag name keyed item has_value)) (list_of text n (items_by item))
    items_list_breaks name keyed None has_value = no_fault (Broken (d.Tag name keyed None has_value)) None
    items_list_breaks name keyed (Some item) has_value = of item.by refl
      where
        of : (o : Option WrittenBy) → item.by ≡ o → FaultsAre (Broken (d.Tag name keyed (Some item) has_value)) (list_of text n o)
        of None is = no_fault (Broken (d.Tag name keyed (Some item) has_value)) None
        of (Some written) is =
            faults_weaker (Broken (d.Tag name keyed (Some item) has_value)) (BreaksList text n.version all written) (list_of text n (Some written))
            (λ fault broken. in_items name keyed item written has_value fault is broken) (list_breaks written)

    tag_line_breaks : (name : WrittenSpan) (keyed : Bool) (item : Option WrittenItem) (has_value : Bool)
        → FaultsAre (Broken (d.Tag name keyed item has_value)) (with_tag_of text n x item)
    unfolding with_tag_of
    tag_line_breaks name keyed item has_value =
        let P = Broken (d.Tag name keyed item has_value) in
        faults_then P (item_word_fits n item) (list_of text n (items_by item) >>= λ list. Ok (record x { kind_lists = x.kind_lists ++ list ∷ [] }))
        (item_word_breaks name keyed item has_value)
        (faults_bind P (list_of text n (items_by item)) (λ list. Ok (record x { kind_lists = x.kind_lists ++ list ∷ [] }))
        (items_list_breaks name keyed item has_value) (λ list. no_fault P (record x { kind_lists = x.kind_lists ++ list ∷ [] })))

    name_breaks : (earlier : List WrittenSpan) (done : List (List ℕ)) (s : WrittenSpan) → done ≡ map (inside text) earlier
        → FaultsAre (BreaksName text earlier s) (with_text text done s)
    unfolding with_text
    name_breaks earlier done s is =
        let P = BreaksName text earlier s in
        let t = inside text s in
        let last : Found (List (List ℕ)) = Ok (done ++ t ∷ []) in
        let third : Found (List (List ℕ)) = unless (not (list_any (bytes_eq t) done)) (f.TwiceNamed s.from) >> last in
        let second : Found (List (List ℕ)) = room NamesLimit 65536 (length done) >> third in
        let many : length done ≡ length earlier = ap length is ∙ length-map earlier (inside text) in
        faults_where P (is_listed_text t) (f.WrongShape s.from) second
        (λ fails. no_name (λ yes. not_both (is_listed_text t) yes fails))
        (λ yes. faults_where P (nat_lt (length done) 65536) (f.OverLimit NamesLimit 65537) third
        (λ fails. too_many_names (subst (λ (m : ℕ). key_count ≤ m) many (not_less (length done) 65536 fails)))
        (λ few. faults_where P (not (list_any (bytes_eq t) done)) (f.TwiceNamed s.from) last (λ fails. twice (list_any (bytes_eq t) done) refl fails)
        (λ own. no_fault P (done ++ t ∷ []))))
      where
        twice : (b : Bool) → list_any (bytes_eq (inside text s)) done ≡ b → not b ≡ false → BreaksName text earlier s (f.TwiceNamed s.from)
        twice false met fails = absurd cc
        twice true met fails =
            let found = met_at (bytes_eq (inside text s)) done met in
            let place = position_or_len (bytes_eq (inside text s)) done in
            let got = get_unmap (inside text) earlier place found.0 (ap (λ (l : List (List ℕ)). slice_get l place) (sym is) ∙ found.1) in
            name_twice place got.0 got.1 (got.2 ∙ sym (bytes_is (inside text s) found.0 found.2))

    names_break : (at : ℕ) (name : WrittenSpan) (texts : List WrittenSpan) → FaultsAre (Broken (d.Names at name texts)) (with_names text n x at name texts)
    unfolding with_names
    names_break at name texts =
        let P = Broken (d.Names at name texts) in
        faults_where P (is_version_3 n) (f.WrongShape at)
        (texts_of text texts >>= λ named. Ok (record x { lists = x.lists ++ record { name = name_of text name; texts = named } ∷ [] }))
        (λ fails. names_of_older at name texts (λ third. not_both (n.version == 3) (eq_true n.version 3 third) fails))
        (λ yes. faults_bind P (texts_of text texts)
        (λ named. Ok (record x { lists = x.lists ++ record { name = name_of text name; texts = named } ∷ [] })) texts_break
        (λ named. no_fault P (record x { lists = x.lists ++ record { name = name_of text name; texts = named } ∷ [] })))
      where
        texts_break : FaultsAre (Broken (d.Names at name texts)) (texts_of text texts)
        texts_break e h =
            let found = at_element (with_text text) [] texts e h in
            let so_far = texts_are text [] found.before found.state found.reached no_texts in
            subst (λ (l : List WrittenSpan). Broken (d.Names at name l) e) (sym found.is)
            (in_names at name found.before found.after found.x e (name_breaks found.before found.state found.x so_far.0 e found.fault))

    declaration_breaks : (y : Declaration) → FaultsAre (Broken y) (with_declaration text n x y)
    unfolding with_declaration
    declaration_breaks (d.Cell name cells sort) = cell_breaks name cells sort
    declaration_breaks (d.Tag name keyed item has_value) = tag_line_breaks name keyed item has_value
    declaration_breaks (d.Names at name texts) = names_break at name texts
    declaration_breaks (d.Depends a b relation) = depend_breaks a b relation
    declaration_breaks (d.On kind actions) = on_breaks kind actions
    declaration_breaks (d.Source name file rate slack tags) = source_breaks name file rate slack tags
    declaration_breaks (d.Clock at name every rate tag) = clock_breaks at name every rate tag

-- ---- names and the version

module _ (text : List ℕ) (job : WrittenJob) where
  abbrev Job : JobFault → Type 0
  Job fault = BreaksJob text job fault

  -- a declaration that is refused for its name, behind others
  module _ (done : Declarations) (y : Declaration) (after : Declarations) (is : job.declarations ≡ done ++ y ∷ after) (n : Naming)
      (named : Named text done n) (own : OwnNames text done) where
    -- so many of what each declaration gives are more than a limit
    over : {X : Type 0} (g : Declaration → List X) (one : X) → g y ≡ one ∷ [] → (most count : ℕ) → count ≡ length (flat_map g done) → most ≤ count
        → most < length (flat_map g job.declarations)
    over g one gives most count counted least =
        let all = ap (λ l. length (flat_map g l)) is in
        let behind = counted_behind g done y after in
        let single = ap length gives in
        omega (arith, all, behind, single, counted, least)

    fresh_breaks : (s : WrittenSpan) → spans_in y ≡ s ∷ [] → FaultsAre Job (fresh_name text n s)
    fresh_breaks s spans =
        faults_where Job (not (is_declared n (name_of text s))) (f.TwiceNamed s.from) (Ok (name_of text s))
        (λ fails. again (is_declared n (name_of text s)) refl fails) (λ yes. no_fault Job (name_of text s))
      where
        again : (b : Bool) → is_declared n (name_of text s) ≡ b → not b ≡ false → Job (f.TwiceNamed s.from)
        again false met fails = absurd cc
        again true met fails =
            let before = declared_before text done n (name_of text s) named met in
            declared_twice s.from (record {
              before = done;
              again = y;
              after = after;
              is = is;
              name = s;
              named = spans;
              here = refl;
              first = own.own;
              place = before.0;
              earlier = before.1;
            })

  declare_breaks : (done : Declarations) (y : Declaration) (after : Declarations) → job.declarations ≡ done ++ y ∷ after → (n : Naming) → Named text done n
      → OwnNames text done → FaultsAre Job (declare text n y)
  unfolding declare with_family with_kind with_list with_source
  declare_breaks done (d.Cell s cells sort) after is n named own =
      let made = λ (name : List ℕ). record n {
        families = n.families ++ (name, record { number = length n.families; keyed = has_keys cells; sort = sort }) ∷ [];
      } in
      let count = ap length named.families ∙ heads_length text family_name family_head 0 (all_families text done) in
      faults_bind Job (fresh_name text n s) (λ name. room Families 64 (length n.families) >> Ok (made name))
      (fresh_breaks done (d.Cell s cells sort) after is n named own s refl)
      (λ name. faults_where Job (nat_lt (length n.families) 64) (f.OverLimit Families 65) (Ok (made name))
      (λ fails. too_many_families (over done (d.Cell s cells sort) after is n named own (families_in text) (record {
        name = name_of text s;
        keyed = has_keys cells;
        list = None;
        sort = sort;
      })
      refl 64 (length n.families) count (not_less (length n.families) 64 fails)))
      (λ yes. no_fault Job (made name)))
  declare_breaks done (d.Tag s keyed item has_value) after is n named own =
      let made = λ (name : List ℕ). record n {
        kinds = n.kinds ++
            (name, record { number = length n.kinds; keyed = keyed; has_item = is_some item; has_value = has_value }) ∷ [];
      } in
      let count = ap length named.kinds ∙ heads_length text kind_name kind_head 0 (all_kinds text done) in
      faults_bind Job (fresh_name text n s) (λ name. room Kinds 64 (length n.kinds) >> Ok (made name))
      (fresh_breaks done (d.Tag s keyed item has_value) after is n named own s refl)
      (λ name. faults_where Job (nat_lt (length n.kinds) 64) (f.OverLimit Kinds 65) (Ok (made name))
      (λ fails. too_many_kinds (over done (d.Tag s keyed item has_value) after is n named own (kinds_in text)
      (record { name = name_of text s; keyed = keyed; has_item = is_some item; has_value = has_value }) refl 64 (length n.kinds) count
      (not_less (length n.kinds) 64 fails)))
      (λ yes. no_fault Job (made name)))
  declare_breaks done (d.Names at s texts) after is n named own =
      let made = λ (name : List ℕ). record n { lists = n.lists ++ name ∷ [] } in
      let count = ap length named.lists ∙ as_many_lists text done in
      faults_bind Job (fresh_name text n s) (λ name. room Lists 64 (length n.lists) >> Ok (made name))
      (fresh_breaks done (d.Names at s texts) after is n named own s refl)
      (λ name. faults_where Job (nat_lt (length n.lists) 64) (f.OverLimit Lists 65) (Ok (made name))
      (λ fails. too_many_lists (over done (d.Names at s texts) after is n named own lists_in (record { name = s; texts = texts }) refl 64
      (length n.lists) count (not_less (length n.lists) 64 fails)))
      (λ yes. no_fault Job (made name)))
  declare_breaks done (d.Depends a b relation) after is n named own =
      faults_where Job (nat_lt n.depends 4096) (f.OverLimit Depends 4097) (Ok (record n { depends = n.depends + 1 }))
      (λ fails. too_many_depends
      (over done (d.Depends a b relation) after is n named own depends_in (record { a = a; b = b; relation = relation }) refl 4096 n.depends
      named.depends (not_less n.depends 4096 fails)))
      (λ yes. no_fault Job (record n { depends = n.depends + 1 }))
  declare_breaks done (d.On kind actions) after is n named own = no_fault Job n
  declare_breaks done (d.Source s file rate slack tags) after is n named own =
      let made = λ (name : List ℕ). record n { sources = n.sources ++ name ∷ [] } in
      let count = ap length named.sources ∙ as_many_sources text done in
      faults_bind Job (fresh_name text n s) (λ name. room Sources 64 (length n.sources) >> Ok (made name))
      (fresh_breaks done (d.Source s file rate slack tags) after is n named own s refl)
      (λ name. faults_where Job (nat_lt (length n.sources) 64) (f.OverLimit Sources 65) (Ok (made name))
      (λ fails. too_many_sources (over done (d.Source s file rate slack tags) after is n named own sources_in
      (OfFile (record { name = s; file = file; rate = rate; slack = slack; tags = tags })) refl 64 (length n.sources) count
      (not_less (length n.sources) 64 fails)))
      (λ yes. no_fault Job (made name)))
  declare_breaks done (d.Clock at s every rate tag) after is n named own =
      let made = λ (name : List ℕ). record n { sources = n.sources ++ name ∷ [] } in
      let count = ap length named.sources ∙ as_many_sources text done in
      faults_bind Job (fresh_name text n s) (λ name. room Sources 64 (length n.sources) >> Ok (made name))
      (fresh_breaks done (d.Clock at s every rate tag) after is n named own s refl)
      (λ name. faults_where Job (nat_lt (length n.sources) 64) (f.OverLimit Sources 65) (Ok (made name))
      (λ fails. too_many_sources (over done (d.Clock at s every rate tag) after is n named own sources_in
      (OfClock (record { name = s; every = every; rate = rate; tag = tag })) refl 64 (length n.sources) count (not_less (length n.sources) 64 fails)))
      (λ yes. no_fault Job (made name)))

  naming_breaks : FaultsAre Job (naming_of text job.declarations)
  naming_breaks e h =
      let found = at_element (declare text) no_names job.declarations e h in
      let names = naming_is text found.before found.state found.reached in
      declare_breaks found.before found.x found.after found.is found.state names.0 names.1 e found.fault

  version_breaks : (o : Option WrittenHead) → job.head ≡ o → FaultsAre Job (version_of o)
  version_breaks None is = no_fault Job 1
  version_breaks (Some head) is =
      let value = written_value head.version.value in
      faults_where Job (is_version value) (f.WrongShape head.version.at) (Ok value)
      (λ fails. no_version head is (λ yes. not_both (is_version value) yes fails)) (λ yes. no_fault Job value)

  count_breaks : (head : WrittenHead) → job.head ≡ Some head → (version : ℕ) → version ≡ written_value head.version.value → (o : Option WrittenTies)
      → head.ties ≡ o → FaultsAre Job (ties_counted version o)
  count_breaks head is version value None at = no_fault Job 1
  count_breaks head is version value (Some ties) at =
      let count = written_value ties.number.value in
      faults_where Job (version == 3) (f.WrongShape ties.at) (unless (is_count count) (f.WrongShape ties.number.at) >> Ok count)
      (λ fails. ties_of_older head ties is at (λ third. not_both (version == 3) (eq_true version 3 (value ∙ third)) fails))
      (λ yes. faults_where Job (is_count count) (f.WrongShape ties.number.at) (Ok count) (λ fails. no_ties head ties is at (outside count fails))
      (λ few. no_fault Job count))

  ties_break : (version : ℕ) (o : Option WrittenHead) → job.head ≡ o → MeansVersion o version → FaultsAre Job (ties_of version o)
  ties_break version None is means = no_fault Job 1
  ties_break version (Some head) is means = count_breaks head is version means.0 head.ties refl

  unit_breaks : (head : WrittenHead) → job.head ≡ Some head → (version : ℕ) → version ≡ written_value head.version.value → (o : Option WrittenUnit)
      → head.iso ≡ o → FaultsAre Job (unit_of text version o)
  unit_breaks head is version value None at = no_fault Job None
  unit_breaks head is version value (Some unit) at =
      faults_where Job (version == 3) (f.WrongShape unit.at) (found_unit unit.name.from (unit_named (name_of text unit.name)))
      (λ fails. unit_of_older head unit is at (λ third. not_both (version == 3) (eq_true version 3 (value ∙ third)) fails))
      (λ yes. named_breaks (unit_named (name_of text unit.name)) refl)
    where
      named_breaks : (u : Option TimeUnit) → unit_named (name_of text unit.name) ≡ u → FaultsAre Job (found_unit unit.name.from u)
      named_breaks None none =
          one_fault Job (f.WrongShape unit.name.from) (no_unit head unit is at (λ u same. (
          let both : None ≡ Some u = sym none ∙ ap unit_named same ∙ unit_said u in
          cc)))
      named_breaks (Some u) some = no_fault Job (Some u)

  iso_breaks : (version : ℕ) (o : Option WrittenHead) → job.head ≡ o → MeansVersion o version → FaultsAre Job (iso_of text version o)
  iso_breaks version None is means = no_fault Job None
  iso_breaks version (Some head) is means = unit_breaks head is version means.0 head.iso refl

  draft_breaks : (n : Naming) → naming_of text job.declarations ≡ Ok n → (version : ℕ) → version_of job.head ≡ Ok version
      → FaultsAre Job (draft_of text (in_version n version) job.declarations)
  draft_breaks n is version means e h =
      let ds = job.declarations in
      let m = in_version n version in
      let names = naming_is text ds n is in
      let know = families_in_version n version (all_families text ds) (know_families text ds n names.0 names.1.own) in
      let knows = kinds_in_version n version (all_kinds text ds) (know_kinds text ds n names.0 names.1.own) in
      let found = at_element (with_declaration text m) (first_draft m) ds e h in
      let drafts = drafts_are text m (all_families text ds) (all_kinds text ds) know knows found.before found.state found.reached in
      in_declaration version found.before found.x found.after e (version_is job.head version means) found.is
      (declaration_breaks text m ds know knows (names.0.lists ∙ lists_named text ds) found.before found.state drafts found.x e found.fault)

  resolved_breaks : FaultsAre Job (resolved text job)
  unfolding resolved
  resolved_breaks =
      let drafted_in = λ (n : Naming) (version ties : ℕ) (iso : Option TimeUnit). draft_of text (in_version n version) job.declarations >>= λ x.
      let r : Found ReadJob = Ok (job_with ties iso (in_version n version) x) in r in
      let with_unit = λ (n : Naming) (version ties : ℕ). iso_of text version job.head >>= λ iso. drafted_in n version ties iso in
      let with_ties = λ (n : Naming) (version : ℕ). ties_of version job.head >>= λ ties. with_unit n version ties in
      faults_found Job (naming_of text job.declarations) (λ n. version_of job.head >>= λ version. with_ties n version) naming_breaks
      (λ n is. faults_found Job (version_of job.head) (λ version. with_ties n version) (version_breaks job.head refl)
      (λ version means. faults_bind Job (ties_of version job.head) (λ ties. with_unit n version ties)
      (ties_break version job.head refl (version_is job.head version means))
      (λ ties. faults_bind Job (iso_of text version job.head) (λ iso. drafted_in n version ties iso)
      (iso_breaks version job.head refl (version_is job.head version means))
      (λ iso. faults_bind Job (draft_of text (in_version n version) job.declarations) (λ x. Ok (job_with ties iso (in_version n version) x))
      (draft_breaks n is version means)
      (λ x. no_fault Job (job_with ties iso (in_version n version) x))))))

-- ---- texts

pub faults_are_by_rule : ReadingIsTokens → ReadingIsBadPlace → FoundIsJob → UnexpectedIsFirst → TooDeepIsThe65th → FaultsAreByRule
faults_are_by_rule tokens place found first deep = λ bytes fault e. by bytes fault (text_faults.comes_from bytes fault e)
  where
    by : (bytes : List ℕ) (fault : JobFault) → text_faults.ComesFrom bytes fault → IsFaultOf bytes fault
    by bytes fault (text_faults.of_bytes long is) = subst (IsFaultOf bytes) is (too_many_bytes (text_faults.longer (length bytes) long))
    by bytes fault (text_faults.of_utf8 few other is) =
        subst (IsFaultOf bytes) is (not_utf8 (true_le (length bytes) 1048576 few) (λ utf8. not_both (is_utf8 bytes) (is_utf8-from_IsUtf8 bytes utf8) other))
    by bytes fault (text_faults.of_token at short bad is) = subst (IsFaultOf bytes) is (no_token at short ((place bytes at).0 bad))
    by bytes fault (text_faults.of_grammar ts short read bad) = grammar (verdict (length bytes) ts) refl bad
      where
        grammar : (v : Verdict WrittenJob) → verdict (length bytes) ts ≡ v → found_job v ≡ Err fault → IsFaultOf bytes fault
        grammar (IsVerdict job) is bad = absurd cc
        grammar (Unexpected at) is bad =
            let same : f.Unexpected at ≡ fault = cc in
            subst (IsFaultOf bytes) same (not_continued at (record {
              text = short;
              tokens = ts;
              cut = (tokens bytes ts).0 read;
              first = (first (length bytes) ts at).0 is;
            }))
        grammar TooDeep is bad =
            let same : f.OverLimit Nesting 65 ≡ fault = cc in
            subst (IsFaultOf bytes) same
            (too_deep (record { text = short; tokens = ts; cut = (tokens bytes ts).0 read; deep = (deep (length bytes) ts).0 is }))
    by bytes fault (text_faults.of_written ts job short read is bad) =
        of_written ts job fault short ((tokens bytes ts).0 read) ((found (length bytes) ts job).0 is) (resolved_breaks bytes job fault bad)
