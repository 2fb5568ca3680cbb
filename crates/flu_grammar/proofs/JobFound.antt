-- A job that is written is found: each declaration passes, and what is found is the job.
use Rattle.flu_grammar.proofs.JobDrafts.{has_file}
use Rattle.flu_grammar.proofs.JobSources.{clock_found}
use Rattle.flu_model.specs.declared.jobs.Keys.TheVariants.{Alone}
use Rattle.flu_parse.specs.Resolving.{with_clock}
use Rattle.std.proofs.lemmas.List.Elements.{filter_map-append}
use Rattle.std.specs.List.{cons_option}
use Rattle.flu_model.specs.Rules.{file_of_source}
use Rattle.std.specs.List.{filter_map}
use Rattle.std.proofs.Common.{◌≡◌, ◌≢◌, ℕ, suc, ◌+◌, ◌≤◌, Bool, true, false, List, [], ◌∷◌, ◌++◌, map, length}
use Rattle.std.proofs.Common.{Option, Some, None, Ok, refl, sym, ap, subst, ◌∙◌, append_assoc, arith}
use Rattle.std.specs.Prelude.{not, ◌==◌, slice_get, is_some, codes}
use Rattle.std.specs.List.{list_any, flat_map}
use Rattle.std.specs.Str.{bytes_eq}
use Rattle.std.proofs.lemmas.List.{append-nil, map-append}
use Rattle.flu_lemmas.specs.Items.{Pairs}
use Rattle.flu_lemmas.specs.Totals.{total}
use Rattle.flu_lemmas.proofs.Places.{slice_get-behind}
use Rattle.flu_lemmas.proofs.Searches.{eq_true}
use Rattle.flu_lemmas.proofs.Tests.{false_if_not, true_eq}
use Rattle.flu_lemmas.proofs.Totals.{total-append}
use Rattle.flu_lemmas.proofs.Bytes.{bytes_itself, bytes_is}
use Rattle.flu_model.specs.declared.jobs.Family.{Family}
use Rattle.flu_model.specs.declared.jobs.Depend.{Depend}
use Rattle.flu_model.specs.declared.jobs.TagRef.{TagRef}
use Rattle.flu_model.specs.declared.jobs.Sort.{Sort}
use Rattle.flu_model.specs.declared.jobs.Source.{Source}
use Rattle.flu_model.specs.Erasure.{PlainKind}
use Rattle.flu_model.specs.Numberings.{Numbering}
use Rattle.flu_model.specs.Rules.{is_same_text}
use Rattle.flu_text.specs.declared.written.WrittenSpan.{WrittenSpan}
use Rattle.flu_text.specs.declared.written.WrittenNumber.{WrittenNumber}
use Rattle.flu_syntax.specs.declared.tree.WrittenBy.{WrittenBy}
use Rattle.flu_syntax.specs.declared.tree.WrittenCells.{WrittenCells}
use Rattle.flu_syntax.specs.declared.tree.WrittenItem.{WrittenItem}
use Rattle.flu_syntax.specs.declared.tree.WrittenTag.{WrittenTag}
use Rattle.flu_syntax.specs.Tree.{Action, Declaration, Declarations}
use Rattle.flu_syntax.specs.Tree as d
use Rattle.flu_layout.specs.Spelling.{name_of}
use Rattle.flu_parse.specs.declared.faults.JobFault.TheVariants as f
use Rattle.flu_parse.specs.Faults.{◌>>=◌, ◌>>◌, unless, each}
use Rattle.flu_parse.specs.Lists.{texts_of, list_of}
use Rattle.flu_parse.specs.Naming.{Naming, is_version_3, keys_by, items_by, kind_of}
use Rattle.flu_parse.specs.Actions.{resolved_actions}
use Rattle.flu_parse.specs.Resolving.{Drafted, with_depend, with_actions, with_on, with_source, cell_name_fits, item_word_fits, with_cell, with_tag}
use Rattle.flu_parse.specs.Resolving.{with_names, with_declaration, first_draft, draft_of}
use Rattle.flu_grammar.specs.Means.{AllDiffer, IfWritten, IsNamed}
use Rattle.flu_grammar.specs.Actions.{MeansAction}
use Rattle.flu_grammar.specs.Declared.{DeclaredKind, under_kind, IsListIn, IsDeclaredIn, WrittenDepend, WrittenSource, WrittenClock, WrittenFeed, OfFile}
use Rattle.flu_grammar.specs.Declared.{OfClock, WrittenNames, depends_in, ons_in}
use Rattle.flu_grammar.specs.Declared.{actions_in, sources_in, lists_in, family_lists_in, kind_lists_in}
use Rattle.flu_grammar.specs.Sources.{MeansKind, MeansDepend, MeansTag, MeansNumber, MeansSource, MeansClock, MeansFeed}
use Rattle.flu_grammar.specs.Jobs.{MeansNames, MeansList, MeansDeclaredKind}
use Rattle.flu_grammar.proofs.Lists.{some_same, get_behind, get_front, get_below, get_map, any_none, pairs_left, pairs_right, pairs_length}
use Rattle.flu_grammar.proofs.Lists.{pairs_split, pairs_same}
use Rattle.flu_grammar.proofs.Looks.{ok_same, passes, binds, thens}
use Rattle.flu_grammar.proofs.Items.{not_item}
use Rattle.flu_grammar.proofs.JobCells.{KnowFamilies}
use Rattle.flu_grammar.proofs.JobActions.{actions_found}
use Rattle.flu_grammar.proofs.JobNames.{kind_name, kind_head, split_more}
use Rattle.flu_grammar.proofs.JobLists.{names_found, names_same, list_found, list_same, unlisted}
use Rattle.flu_grammar.proofs.JobSources.{KnowKinds, kind_found, keys_found, depend_found, part_count, with_one_depend, with_one_source, source_found}
use Rattle.flu_grammar.proofs.JobDrafts.{itag_count, no_actions, chosen, Drafts, first_drafts, drafts_next, drafts_all}

-- the parts of a job
pub record Parts : Type 0 where
  pub lists : List Numbering
  pub family_lists : List (Option ℕ)
  pub kind_lists : List (Option ℕ)
  pub kinds : List PlainKind
  pub depends : List Depend
  pub sources : List Source

-- where what each element of the one goes with is alike, so are the lists
pairs_alike : {X Y Z : Type 0} (R : X → Y → Type 0) (g : Y → Z) → ((x : X) (y z : Y) → R x y → R x z → g y ≡ g z) → (xs : List X) (ys zs : List Y)
    → Pairs R xs ys → Pairs R xs zs → map g ys ≡ map g zs
pairs_alike R g same [] [] [] h k = refl
pairs_alike R g same [] [] (z ∷ zs) h k = absurd k
pairs_alike R g same [] (y ∷ ys) zs h k = absurd h
pairs_alike R g same (x ∷ xs) [] zs h k = absurd h
pairs_alike R g same (x ∷ xs) (y ∷ ys) [] h k = absurd k
pairs_alike R g same (x ∷ xs) (y ∷ ys) (z ∷ zs) h k = λ i. same x y z h.0 k.0 i ∷ pairs_alike R g same xs ys zs h.1 k.1 i

module _ (text : List ℕ) (n : Naming) (families : List Family) (kinds : List DeclaredKind) (know : KnowFamilies n families) (knows : KnowKinds n kinds) where
  abbrev IsList : Option WrittenBy → Option ℕ → Type 0
  IsList by number = IfWritten (MeansList text n.lists) by number

  -- the parts of a job that declarations mean
  pub record Aim (all : Declarations) (parts : Parts) : Type 0 where
    pub allowed : (i : ℕ) (y : Declaration) → slice_get all i ≡ Some y → IsDeclaredIn text n.version y
    pub own_lists : AllDiffer n.lists
    pub lists_are : Pairs (MeansNames text) (flat_map lists_in all) parts.lists
    pub family_lists_are : Pairs IsList (flat_map family_lists_in all) parts.family_lists
    pub kind_lists_are : Pairs IsList (flat_map kind_lists_in all) parts.kind_lists
    pub kinds_are : Pairs (MeansDeclaredKind text n.version families all) kinds parts.kinds
    pub known_ons : (i : ℕ) (name : List ℕ) → slice_get (flat_map (ons_in text) all) i ≡ Some name → (number : ℕ) × IsNamed kind_name kinds name number
    pub own_ons : AllDiffer (flat_map (ons_in text) all)
    pub depends_are : Pairs (MeansDepend text kinds) (flat_map depends_in all) parts.depends
    pub sources_are : Pairs (MeansFeed text kinds) (flat_map sources_in all) parts.sources
    pub own_files : AllDiffer (filter_map file_of_source parts.sources)
    pub few_itags : itag_count parts.sources ≤ 256

  -- ---- what is meant is one thing

  kind_same : (s : WrittenSpan) (i j : ℕ) → MeansKind text kinds s i → MeansKind text kinds s j → i ≡ j
  kind_same s i j a b =
      knows.differ i j (name_of text s) (get_map kind_name kinds i a.kind a.here ∙ ap (λ (z : List ℕ). Some z) a.name)
      (get_map kind_name kinds j b.kind b.here ∙ ap (λ (z : List ℕ). Some z) b.name)

  tag_same : (v : WrittenTag) (a b : TagRef) → MeansTag text kinds v a → MeansTag text kinds v b → a ≡ b
  tag_same v a b x y =
      let number = kind_same v.kind a.kind b.kind x.kind y.kind in
      let one = (keys_found x.kind.kind.keyed v.keys a.keys x.keys).2 in
      let two = (keys_found y.kind.kind.keyed v.keys b.keys y.keys).2 in
      let same : a.keys ≡ b.keys = sym one ∙ two in
      λ i. record { kind = number i; keys = same i }

  number_same : (default most : ℕ) (o : Option WrittenNumber) (a b : ℕ) → MeansNumber default most o a → MeansNumber default most o b → a ≡ b
  number_same default most None a b x y = x ∙ sym y
  number_same default most (Some v) a b x y = x.0 ∙ sym y.0

  source_same : (v : WrittenSource) (a b : Source) → MeansSource text kinds v a → MeansSource text kinds v b → a ≡ b
  source_same v a b x y =
      let tags = pairs_same (MeansTag text kinds) tag_same v.tags a.tags b.tags x.tags y.tags in
      let rate = number_same 1 1000000000 v.rate a.rate b.rate x.rate y.rate in
      let slack = number_same 0 60000 v.slack a.slack b.slack x.slack y.slack in
      let name : a.name ≡ b.name = x.name ∙ sym y.name in
      let file : a.file ≡ b.file = x.file ∙ sym y.file in
      let every : a.every ≡ b.every = x.no_period ∙ sym y.no_period in
      λ i. record { name = name i; file = file i; every = every i; rate = rate i; slack = slack i; tags = tags i }

  clock_same : (v : WrittenClock) (a b : Source) → MeansClock text kinds v a → MeansClock text kinds v b → a ≡ b
  clock_same v a b x y =
      let number = kind_same v.tag x.number y.number x.kind y.kind in
      let tags : a.tags ≡ b.tags = x.tags ∙ ap (λ (m : ℕ). record { kind = m; keys = Alone } ∷ []) number ∙ sym y.tags in
      let rate = number_same 1 1000000000 v.rate a.rate b.rate x.rate y.rate in
      let slack : a.slack ≡ b.slack = x.slack ∙ sym y.slack in
      let name : a.name ≡ b.name = x.name ∙ sym y.name in
      let file : a.file ≡ b.file = x.no_file ∙ sym y.no_file in
      let every : a.every ≡ b.every = x.period ∙ sym y.period in
      λ i. record { name = name i; file = file i; every = every i; rate = rate i; slack = slack i; tags = tags i }

  feed_same : (w : WrittenFeed) (a b : Source) → MeansFeed text kinds w a → MeansFeed text kinds w b → a ≡ b
  feed_same (OfFile v) a b x y = source_same v a b x y
  feed_same (OfClock v) a b x y = clock_same v a b x y

  no_draft : Drafted
  no_draft = record { lists = []; family_lists = []; kind_lists = []; kinds = []; given = []; depends = []; sources = []; itags = 0 }

  depend_same : (v : WrittenDepend) (a b : Depend) → MeansDepend text kinds v a → MeansDepend text kinds v b → a ≡ b
  unfolding no_draft
  depend_same v a b x y =
      let one = depend_found text n kinds knows no_draft v a x in
      let two = depend_found text n kinds knows no_draft v b y in
      let same = ok_same (with_one_depend text n kinds knows no_draft a) (with_one_depend text n kinds knows no_draft b) (sym one ∙ two) in
      let lists : a ∷ [] ≡ b ∷ [] = ap (λ (z : Drafted). z.depends) same in
      (cc)

  -- but for the list that names its items
  kind_is_same : (all : Declarations) (k : DeclaredKind) (p q : PlainKind) → MeansDeclaredKind text n.version families all k p
      → MeansDeclaredKind text n.version families all k q → unlisted p ≡ unlisted q
  kind_is_same all k p q x y =
      let ws = flat_map (actions_in text k.name) all in
      let one = actions_found text n families know (kind_head 0 k) ws p.actions x.actions x.few_actions in
      let two = actions_found text n families know (kind_head 0 k) ws q.actions y.actions y.few_actions in
      let acts : p.actions ≡ q.actions = ok_same p.actions q.actions (sym one ∙ two) in
      let name : p.name ≡ q.name = x.name ∙ sym y.name in
      let keyed : p.keyed ≡ q.keyed = x.keyed ∙ sym y.keyed in
      let has_item : p.has_item ≡ q.has_item = x.has_item ∙ sym y.has_item in
      let has_value : p.has_value ≡ q.has_value = x.has_value ∙ sym y.has_value in
      λ i. record { name = name i; keyed = keyed i; has_item = has_item i; list = None; has_value = has_value i; actions = acts i }

  -- ---- each declaration passes

  cell_passes : (s : WrittenSpan) → (n.version ≡ 3 → name_of text s ≢ codes "item") → cell_name_fits text n s ≡ true
  cell_passes s other = ap not (not_item n.version (name_of text s) (λ is. other is.0 is.1))

  item_passes : (item : Option WrittenItem) → (is_some item ≡ true → n.version ≡ 3) → item_word_fits n item ≡ Ok tt
  item_passes None fits = refl
  item_passes (Some item) fits = ap (λ b. unless b (f.WrongShape item.at)) (eq_true n.version 3 (fits refl))

  -- where there are items, so may be lists
  items_in : (item : Option WrittenItem) → (is_some item ≡ true → n.version ≡ 3) → IsListIn n.version (items_by item)
  items_in None fits = tt
  items_in (Some item) fits = by item.by
    where
      by : (o : Option WrittenBy) → IsListIn n.version o
      by None = tt
      by (Some written) = fits refl

  module _ (done rest : Declarations) (x : Drafted) (drafts : Drafts text n families kinds know knows done x) where
    depend_passes : (a b : WrittenSpan) (relation : _) (parts : Parts)
        → Aim (done ++ d.Depends a b relation ∷ rest) parts → (more : Drafted) × (with_depend text n x a b relation ≡ Ok more)
    depend_passes a b relation parts aim =
        let v : WrittenDepend = record { a = a; b = b; relation = relation } in
        let split = pairs_split (MeansDepend text kinds) (flat_map depends_in done) v (flat_map depends_in rest) parts.depends
        (subst (λ (l : List WrittenDepend). Pairs (MeansDepend text kinds) l parts.depends) (split_more text depends_in done rest
        (d.Depends a b relation)) aim.depends_are) in
        (with_one_depend text n kinds knows x split.one, depend_found text n kinds knows x v split.one split.here)

    -- the sources before one are those of the declarations before it
    record FeedSplit (w : WrittenFeed) (parts : Parts) : Type 0 where
      one : Source
      back : List Source
      here : MeansFeed text kinds w one
      whole : parts.sources ≡ x.sources ++ one ∷ back
      few : x.itags + total part_count one.tags ≤ 256

    feed_split : (w : WrittenFeed) (y : Declaration) → sources_in y ≡ w ∷ [] → (parts : Parts) → Aim (done ++ y ∷ rest) parts → FeedSplit w parts
    feed_split w y gives parts aim =
        let all : flat_map sources_in (done ++ y ∷ rest) ≡ flat_map sources_in done ++ w ∷ flat_map sources_in rest =
        split_more text sources_in done rest y ∙ ap (λ (l : List WrittenFeed). flat_map sources_in done ++ (l ++ flat_map sources_in rest)) gives in
        let split = pairs_split (MeansFeed text kinds) (flat_map sources_in done) w (flat_map sources_in rest) parts.sources
        (subst (λ (l : List WrittenFeed). Pairs (MeansFeed text kinds) l parts.sources) all aim.sources_are) in
        let s = split.one in
        let front : x.sources ≡ split.front = pairs_same (MeansFeed text kinds) feed_same
        (flat_map sources_in done) x.sources split.front drafts.sources split.left in
        let whole : parts.sources ≡ x.sources ++ s ∷ split.back = split.is ∙ ap (λ (l : List Source). l ++ s ∷ split.back) (sym front) in
        let counted = ap itag_count whole in
        let sum = total-append (λ (z : Source). total part_count z.tags) x.sources (s ∷ split.back) in
        let most = aim.few_itags in
        let before = drafts.itags in
        record { one = s; back = split.back; here = split.here; whole = whole; few = omega (arith, counted, sum, most, before) }

    source_passes : (v : WrittenSource) (parts : Parts)
        → Aim (done ++ d.Source v.name v.file v.rate v.slack v.tags ∷ rest) parts
        → (more : Drafted) × (with_source text n x v.name v.file v.rate v.slack v.tags ≡ Ok more)
    source_passes v parts aim =
        let split = feed_split (OfFile v) (d.Source v.name v.file v.rate v.slack v.tags) refl parts aim in
        let s = split.one in
        let before : List (List ℕ) = filter_map file_of_source x.sources in
        let behind : List (List ℕ) = filter_map file_of_source split.back in
        let all : filter_map file_of_source parts.sources ≡ before ++ s.file ∷ behind =
        ap (filter_map file_of_source) split.whole ∙ filter_map-append file_of_source x.sources (s ∷ split.back)
        ∙ ap (λ (o : Option (List ℕ)). before ++ cons_option o behind) (has_file text n families kinds know knows s split.here.no_period) in
        let files : AllDiffer (before ++ s.file ∷ behind) = subst (λ (l : List (List ℕ)). AllDiffer l) all aim.own_files in
        let new : list_any (is_same_text s.file) before ≡ false = any_none (is_same_text s.file) before
        (λ i z at.
        false_if_not (is_same_text s.file z) (λ same. (
        let place : i ≡ length before = files i (length before) s.file
        (get_front before (s.file ∷ behind) i z at ∙ ap (λ (l : List ℕ). Some l) (sym (bytes_is s.file z same)))
        (slice_get-behind before s.file behind) in
        let below = get_below before i z at in
        omega (arith, place, below)))) in
        (with_one_source text n kinds knows x s, source_found text n kinds knows x v s split.here new split.few)

    clock_passes : (at : ℕ) (v : WrittenClock) (parts : Parts) → Aim (done ++ d.Clock at v.name v.every v.rate v.tag ∷ rest) parts
        → (more : Drafted) × (with_clock text n x at v.name v.every v.rate v.tag ≡ Ok more)
    clock_passes at v parts aim =
        let y = d.Clock at v.name v.every v.rate v.tag in
        let third : n.version ≡ 3 = aim.allowed (length done) y (slice_get-behind done y rest) in
        let split = feed_split (OfClock v) y refl parts aim in
        (with_one_source text n kinds knows x split.one, clock_found text n kinds knows x at v split.one split.here third split.few)

    on_passes : (kind : WrittenSpan) (actions : List Action) (parts : Parts)
        → Aim (done ++ d.On kind actions ∷ rest) parts → (more : Drafted) × (with_on text n x kind actions ≡ Ok more)
    unfolding with_on
    on_passes kind actions parts aim =
        let all = done ++ d.On kind actions ∷ rest in
        let name = name_of text kind in
        let front = flat_map (ons_in text) done in
        let back = flat_map (ons_in text) rest in
        let ons : flat_map (ons_in text) all ≡ front ++ name ∷ back = split_more text (ons_in text) done rest (d.On kind actions) in
        let own : AllDiffer (front ++ name ∷ back) = subst (λ (l : List (List ℕ)). AllDiffer l) ons aim.own_ons in
        let known = aim.known_ons (length front) name (ap (λ (l : List (List ℕ)). slice_get l (length front)) ons ∙ slice_get-behind front name back) in
        let number = known.0 in
        let k = known.1.0 in
        let h = kind_head number k in
        let before : (i : ℕ) → slice_get front i ≡ Some name → ⊥ = λ i at. (
        let place : i ≡ length front = own i (length front) name (get_front front (name ∷ back) i name at) (slice_get-behind front name back) in
        let below = get_below front i name at in
        omega (arith, place, below)) in
        let behind : (i : ℕ) → slice_get back i ≡ Some name → ⊥ = λ i at. (
        let place : length front ≡ length front + suc i = own (length front) (length front + suc i) name (slice_get-behind front name back)
        (get_behind front (name ∷ back) (suc i) name at) in
        omega (arith, place)) in
        let new : list_any (λ g. g == number) x.given ≡ false = any_none (λ g. g == number) x.given (λ i g at. false_if_not (g == number) (λ same. (
        let got = pairs_right (λ (z : List ℕ) (m : ℕ). IsNamed kind_name kinds z m) front x.given drafts.given i g at in
        let is : g ≡ number = true_eq g number same in
        let kind_at : got.2.0 ≡ k = some_same got.2.0 k (sym got.2.1 ∙ ap (slice_get kinds) is ∙ known.1.1) in
        let named : got.0 ≡ name = sym got.2.2 ∙ ap (λ (z : DeclaredKind). z.name) kind_at ∙ known.1.2 in
        before i (got.1 ∙ ap (λ (z : List ℕ). Some z) named)))) in
        let job_kind = pairs_left (MeansDeclaredKind text n.version families all) kinds parts.kinds aim.kinds_are number k known.1.1 in
        let is = job_kind.2 in
        let named : name ≡ k.name = sym known.1.2 in
        let only : flat_map (actions_in text k.name) all ≡ actions =
        split_more text (actions_in text k.name) done rest (d.On kind actions)
        ∙ ap (λ (l : List Action). l ++ (actions_in text k.name (d.On kind actions) ++ flat_map (actions_in text k.name) rest))
        (no_actions text k.name done (λ i at. before i (at ∙ ap (λ (z : List ℕ). Some z) (sym named))))
        ∙ ap (λ (l : List Action). l ++ flat_map (actions_in text k.name) rest)
        (chosen text true kind k.name actions (subst (λ (z : List ℕ). bytes_eq name z ≡ true) named (bytes_itself name)))
        ∙ ap (λ (l : List Action). actions ++ l) (no_actions text k.name rest (λ i at. behind i (at ∙ ap (λ (z : List ℕ). Some z) (sym named))))
        ∙ append-nil actions in
        let found : resolved_actions text n h actions ≡ Ok (job_kind.0).actions = actions_found text n families know h actions (job_kind.0).actions
        (subst (λ (l : List Action). Pairs (MeansAction text families (under_kind n.version k)) l (job_kind.0).actions) only is.actions) is.few_actions in
        let more : Drafted = record x { kinds = with_actions x.kinds number (job_kind.0).actions; given = x.given ++ number ∷ [] } in (
          more,
          binds (kind_of text n kind) (λ h. unless (not (list_any (λ g. g == h.number) x.given)) (f.TwiceNamed kind.from)
              >> (resolved_actions text n h actions >>= λ acts. Ok
              (record x { kinds = with_actions x.kinds h.number acts; given = x.given ++ h.number ∷ [] }))) h more
              (kind_found text n kinds knows kind number k known.1.1 known.1.2)
              (passes (not (list_any (λ g. g == number) x.given)) (f.TwiceNamed kind.from)
              (resolved_actions text n h actions >>= λ acts. Ok
              (record x { kinds = with_actions x.kinds number acts; given = x.given ++ number ∷ [] })) more (ap not new)
              (ap (λ z. z >>= λ acts. Ok (record x { kinds = with_actions x.kinds number acts; given = x.given ++ number ∷ [] })) found)),
        )

    cell_line_passes : (s : WrittenSpan) (cells : WrittenCells) (sort : Sort) (parts : Parts) → Aim (done ++ d.Cell s cells sort ∷ rest) parts
        → (more : Drafted) × (with_cell text n x s cells ≡ Ok more)
    unfolding with_cell
    cell_line_passes s cells sort parts aim =
        let y = d.Cell s cells sort in
        let allowed = aim.allowed (length done) y (slice_get-behind done y rest) in
        let split = pairs_split IsList (flat_map family_lists_in done) (keys_by cells) (flat_map family_lists_in rest) parts.family_lists
        (subst (λ (l : List (Option WrittenBy)). Pairs IsList l parts.family_lists) (split_more text family_lists_in done rest y) aim.family_lists_are) in
        let more : Drafted = record x { family_lists = x.family_lists ++ split.one ∷ [] } in (
          more,
          passes (cell_name_fits text n s) (f.WrongShape s.from)
              (list_of text n (keys_by cells) >>= λ list. Ok (record x { family_lists = x.family_lists ++ list ∷ [] })) more (cell_passes s allowed.0)
              (binds (list_of text n (keys_by cells)) (λ list. Ok (record x { family_lists = x.family_lists ++ list ∷ [] })) split.one more
              (list_found text n (keys_by cells) split.one aim.own_lists allowed.1 split.here) refl),
        )

    tag_line_passes : (s : WrittenSpan) (keyed : Bool) (item : Option WrittenItem) (has_value : Bool) (parts : Parts)
        → Aim (done ++ d.Tag s keyed item has_value ∷ rest) parts → (more : Drafted) × (with_tag text n x item ≡ Ok more)
    unfolding with_tag
    tag_line_passes s keyed item has_value parts aim =
        let y = d.Tag s keyed item has_value in
        let allowed = aim.allowed (length done) y (slice_get-behind done y rest) in
        let split = pairs_split IsList (flat_map kind_lists_in done) (items_by item) (flat_map kind_lists_in rest) parts.kind_lists
        (subst (λ (l : List (Option WrittenBy)). Pairs IsList l parts.kind_lists) (split_more text kind_lists_in done rest y) aim.kind_lists_are) in
        let more : Drafted = record x { kind_lists = x.kind_lists ++ split.one ∷ [] } in (
          more,
          thens (item_word_fits n item) (list_of text n (items_by item) >>= λ list. Ok (record x { kind_lists = x.kind_lists ++ list ∷ [] })) tt more
              (item_passes item allowed)
              (binds (list_of text n (items_by item)) (λ list. Ok (record x { kind_lists = x.kind_lists ++ list ∷ [] })) split.one more
              (list_found text n (items_by item) split.one aim.own_lists (items_in item allowed) split.here) refl),
        )

    names_line_passes : (at : ℕ) (s : WrittenSpan) (texts : List WrittenSpan) (parts : Parts) → Aim (done ++ d.Names at s texts ∷ rest) parts
        → (more : Drafted) × (with_names text n x at s texts ≡ Ok more)
    unfolding with_names
    names_line_passes at s texts parts aim =
        let y = d.Names at s texts in
        let v : WrittenNames = record { name = s; texts = texts } in
        let third : n.version ≡ 3 = aim.allowed (length done) y (slice_get-behind done y rest) in
        let split = pairs_split (MeansNames text) (flat_map lists_in done) v (flat_map lists_in rest) parts.lists
        (subst (λ (l : List WrittenNames). Pairs (MeansNames text) l parts.lists) (split_more text lists_in done rest y) aim.lists_are) in
        let named = split.one.texts in
        let more : Drafted = record x { lists = x.lists ++ record { name = name_of text s; texts = named } ∷ [] } in (
          more,
          passes (is_version_3 n) (f.WrongShape at)
              (texts_of text texts >>= λ named. Ok (record x { lists = x.lists ++ record { name = name_of text s; texts = named } ∷ [] })) more
              (eq_true n.version 3 third)
              (binds (texts_of text texts) (λ named. Ok (record x { lists = x.lists ++ record { name = name_of text s; texts = named } ∷ [] })) named more
              (names_found text v split.one split.here) refl),
        )

    declaration_passes : (y : Declaration) (parts : Parts) → Aim (done ++ y ∷ rest) parts → (more : Drafted) × (with_declaration text n x y ≡ Ok more)
    unfolding with_declaration
    declaration_passes (d.Cell s cells sort) parts aim = cell_line_passes s cells sort parts aim
    declaration_passes (d.Tag s keyed item has_value) parts aim = tag_line_passes s keyed item has_value parts aim
    declaration_passes (d.Names at s texts) parts aim = names_line_passes at s texts parts aim
    declaration_passes (d.Depends a b relation) parts aim = depend_passes a b relation parts aim
    declaration_passes (d.On kind actions) parts aim = on_passes kind actions parts aim
    declaration_passes (d.Source name file rate slack tags) parts aim =
        source_passes (record { name = name; file = file; rate = rate; slack = slack; tags = tags }) parts aim
    declaration_passes (d.Clock at name every rate tag) parts aim =
        clock_passes at (record { name = name; every = every; rate = rate; tag = tag }) parts aim

  all_pass : (done ds : Declarations) (x : Drafted) (parts : Parts) → Aim (done ++ ds) parts
      → Drafts text n families kinds know knows done x → (more : Drafted) × (each (with_declaration text n) x ds ≡ Ok more)
  unfolding each
  all_pass done [] x parts aim drafts = (x, refl)
  all_pass done (y ∷ ds) x parts aim drafts =
      let one = declaration_passes done ds x drafts y parts aim in
      let next = drafts_next text n families kinds know knows done x one.0 y drafts one.1 in
      let more = all_pass (done ++ y ∷ []) ds one.0 parts (subst (λ (l : Declarations). Aim l parts) (sym (append_assoc done (y ∷ []) ds)) aim) next in
      (more.0, binds (with_declaration text n x y) (λ t. each (with_declaration text n) t ds) one.0 more.0 one.1 more.1)

  -- what is found of all declarations is the job, whose kinds do not have their lists yet
  pub record IsDrafted (ds : Declarations) (parts : Parts) : Type 0 where
    pub draft : Drafted
    pub found : draft_of text n ds ≡ Ok draft
    pub lists_are : draft.lists ≡ parts.lists
    pub family_lists_are : draft.family_lists ≡ parts.family_lists
    pub kind_lists_are : draft.kind_lists ≡ parts.kind_lists
    pub kinds_are : map unlisted draft.kinds ≡ map unlisted parts.kinds
    pub kinds_many : length draft.kinds ≡ length parts.kinds
    pub depends_are : draft.depends ≡ parts.depends
    pub sources_are : draft.sources ≡ parts.sources

  pub drafted : (ds : Declarations) (parts : Parts) → Aim ds parts → IsDrafted ds parts
  drafted ds parts aim =
      let got = all_pass [] ds (first_draft n) parts aim (first_drafts text n families kinds know knows) in
      let is = drafts_all text n families kinds know knows [] ds (first_draft n) got.0 (first_drafts text n families kinds know knows) got.1 in
      let named = list_same text n.lists aim.own_lists in record {
        draft = got.0;
        found = got.1;
        lists_are = pairs_same (MeansNames text) (names_same text) (flat_map lists_in ds) got.0.lists parts.lists is.lists aim.lists_are;
        family_lists_are = pairs_same IsList named (flat_map family_lists_in ds) got.0.family_lists parts.family_lists is.family_lists aim.family_lists_are;
        kind_lists_are = pairs_same IsList named (flat_map kind_lists_in ds) got.0.kind_lists parts.kind_lists is.kind_lists aim.kind_lists_are;
        kinds_are =
            pairs_alike (MeansDeclaredKind text n.version families ds) unlisted (kind_is_same ds) kinds got.0.kinds parts.kinds is.kinds_are aim.kinds_are;
        kinds_many =
            pairs_length (MeansDeclaredKind text n.version families ds) kinds got.0.kinds is.kinds_are
            ∙ sym (pairs_length (MeansDeclaredKind text n.version families ds) kinds parts.kinds aim.kinds_are);
        depends_are = pairs_same (MeansDepend text kinds) depend_same (flat_map depends_in ds) got.0.depends parts.depends is.depends aim.depends_are;
        sources_are = pairs_same (MeansFeed text kinds) feed_same (flat_map sources_in ds) got.0.sources parts.sources is.sources aim.sources_are;
      }
