-- The declarations of a job, looked at in order: what is found of them is what they mean, and the other way round.
use Rattle.flu_grammar.proofs.JobSources.{clock_is}
use Rattle.flu_layout.specs.Spelling.{written_value}
use Rattle.flu_parse.specs.Resolving.{with_clock}
use Rattle.std.proofs.lemmas.List.Elements.{filter_map-append}
use Rattle.std.specs.List.{cons_option}
use Rattle.flu_model.specs.Rules.{file_of_source}
use Rattle.std.specs.List.{filter_map}
use Rattle.std.proofs.Common.{◌≡◌, ◌≢◌, inl, inr, ℕ, zero, suc, ◌+◌, ◌≤◌, Bool, true, false, List, [], ◌∷◌, ◌++◌, map}
use Rattle.std.proofs.Common.{length, Option, Some, None, Ok, refl, sym, ap, subst, ◌∙◌, append_assoc, arith}
use Rattle.std.specs.Prelude.{not, ◌==◌, slice_get, is_some, if◌then◌else◌, codes}
use Rattle.std.specs.List.{list_any, flat_map}
use Rattle.std.specs.Str.{bytes_eq}
use Rattle.std.proofs.lemmas.List.{append-nil, map-append}
use Rattle.flu_lemmas.specs.Items.{Pairs}
use Rattle.flu_lemmas.specs.Totals.{total}
use Rattle.flu_lemmas.proofs.Elements.{fails_at}
use Rattle.flu_lemmas.proofs.Loops.{bind_ok, then_ok}
use Rattle.flu_lemmas.proofs.Searches.{eq_true}
use Rattle.flu_lemmas.proofs.Places.{slice_get_push}
use Rattle.flu_lemmas.proofs.Tests.{not_true, not_both, false_if_not, true_eq}
use Rattle.flu_lemmas.proofs.Totals.{total-append}
use Rattle.flu_lemmas.proofs.Bytes.{bytes_itself, bytes_is}
use Rattle.flu_model.specs.declared.jobs.Family.{Family}
use Rattle.flu_model.specs.declared.jobs.Sort.{Sort}
use Rattle.flu_model.specs.declared.jobs.Source.{Source}
use Rattle.flu_model.specs.Erasure.{PlainAction, PlainKind}
use Rattle.flu_model.specs.Numberings.{Numbering}
use Rattle.flu_model.specs.Rules.{is_same_text}
use Rattle.flu_text.specs.declared.written.WrittenSpan.{WrittenSpan}
use Rattle.flu_text.specs.declared.written.WrittenNumber.{WrittenNumber}
use Rattle.flu_syntax.specs.declared.tree.WrittenBy.{WrittenBy}
use Rattle.flu_syntax.specs.declared.tree.WrittenCells.{WrittenCells}
use Rattle.flu_syntax.specs.declared.tree.WrittenItem.{WrittenItem}
use Rattle.flu_syntax.specs.declared.tree.WrittenTag.{WrittenTag}
use Rattle.flu_syntax.specs.declared.tree.WrittenRelation.{WrittenRelation}
use Rattle.flu_syntax.specs.Tree.{Action, Declaration, Declarations}
use Rattle.flu_syntax.specs.Tree as d
use Rattle.flu_layout.specs.Spelling.{name_of}
use Rattle.flu_parse.specs.declared.faults.JobFault.TheVariants as f
use Rattle.flu_parse.specs.declared.names.KindHead.{KindHead}
use Rattle.flu_parse.specs.Faults.{◌>>=◌, ◌>>◌, unless, each}
use Rattle.flu_parse.specs.Lists.{texts_of, list_of}
use Rattle.flu_parse.specs.Naming.{Naming, is_version_3, keys_by, items_by, kind_of}
use Rattle.flu_parse.specs.Actions.{resolved_actions}
use Rattle.flu_parse.specs.Resolving.{Drafted, with_depend, with_actions, with_on, with_source, cell_name_fits, item_word_fits, with_cell, with_tag}
use Rattle.flu_parse.specs.Resolving.{with_names, with_declaration, idle_kind, first_draft, draft_of}
use Rattle.flu_grammar.specs.Means.{AllDiffer, IfWritten, IsNamed}
use Rattle.flu_grammar.specs.Actions.{MeansAction}
use Rattle.flu_grammar.specs.Declared.{DeclaredKind, under_kind, IsDeclaredIn, WrittenDepend, WrittenSource, WrittenClock, WrittenFeed, OfFile, OfClock}
use Rattle.flu_grammar.specs.Declared.{WrittenNames, depends_in, ons_in, actions_in}
use Rattle.flu_grammar.specs.Declared.{sources_in, lists_in, family_lists_in, kind_lists_in}
use Rattle.flu_grammar.specs.Sources.{MeansDepend, MeansFeed}
use Rattle.flu_grammar.specs.Jobs.{MeansNames, MeansList, MeansDeclaredKind}
use Rattle.flu_grammar.proofs.Lists.{some_same, no_some, get_map, get_unmap, differ_none, differ_tail, differ_head, differ_push, pairs_left, pairs_push}
use Rattle.flu_grammar.proofs.Looks.{ok_same, passed}
use Rattle.flu_grammar.proofs.Heads.{heads}
use Rattle.flu_grammar.proofs.Items.{is_item_word, is_item}
use Rattle.flu_grammar.proofs.JobCells.{KnowFamilies, under_head}
use Rattle.flu_grammar.proofs.JobActions.{actions_mean}
use Rattle.flu_grammar.proofs.JobNames.{kind_name, kind_head, grown, unchanged}
use Rattle.flu_grammar.proofs.JobLists.{names_mean, list_is}
use Rattle.flu_grammar.proofs.JobSources.{KnowKinds, kind_is, depend_is, part_count, with_one_depend, with_one_source, source_is}

-- how many itags some sources list
abbrev pub itag_count : List Source → ℕ
itag_count ss = total (λ (s : Source). total part_count s.tags) ss

module _ (text : List ℕ) where
  -- where no `on` is of a name, no actions are
  pub no_actions : (name : List ℕ) (ds : Declarations) → ((i : ℕ) → slice_get (flat_map (ons_in text) ds) i ≡ Some name → ⊥) → flat_map
      (actions_in text name) ds ≡ []
  no_actions name [] none = refl
  no_actions name (d.Cell s cells sort ∷ ds) none = no_actions name ds none
  no_actions name (d.Tag s keyed item has_value ∷ ds) none = no_actions name ds none
  no_actions name (d.Names at s texts ∷ ds) none = no_actions name ds none
  no_actions name (d.Depends a b relation ∷ ds) none = no_actions name ds none
  no_actions name (d.Source s file rate slack tags ∷ ds) none = no_actions name ds none
  no_actions name (d.Clock at s every rate tag ∷ ds) none = no_actions name ds none
  no_actions name (d.On kind actions ∷ ds) none =
      let other : bytes_eq (name_of text kind) name ≡ false = false_if_not (bytes_eq (name_of text kind) name)
      (λ same. none 0 (ap (λ (n : List ℕ). Some n) (bytes_is (name_of text kind) name same))) in
      ap (λ b. (if b then actions else []) ++ flat_map (actions_in text name) ds) other ∙ no_actions name ds (λ i e. none (suc i) e)

  pub chosen : (b : Bool) (kind : WrittenSpan) (name : List ℕ) (actions : List Action) → bytes_eq (name_of text kind) name ≡ b
      → actions_in text name (d.On kind actions) ≡ (if b then actions else [])
  chosen b kind name actions e = ap (λ c. if c then actions else []) e

module _ (text : List ℕ) (n : Naming) (families : List Family) (kinds : List DeclaredKind) (know : KnowFamilies n families) (knows : KnowKinds n kinds) where
  abbrev Kind : Declarations → DeclaredKind → PlainKind → Type 0
  Kind done k p = MeansDeclaredKind text n.version families done k p

  abbrev IsGiven : List ℕ → ℕ → Type 0
  IsGiven name number = IsNamed kind_name kinds name number

  -- what names the keys of a family, or the items of a kind
  abbrev IsList : Option WrittenBy → Option ℕ → Type 0
  IsList by number = IfWritten (MeansList text n.lists) by number

  -- what is drafted is what these declarations mean
  pub record Drafts (done : Declarations) (x : Drafted) : Type 0 where
    pub lists : Pairs (MeansNames text) (flat_map lists_in done) x.lists
    pub family_lists : Pairs IsList (flat_map family_lists_in done) x.family_lists
    pub kind_lists : Pairs IsList (flat_map kind_lists_in done) x.kind_lists
    pub kinds_are : Pairs (Kind done) kinds x.kinds
    pub given : Pairs IsGiven (flat_map (ons_in text) done) x.given
    pub own_ons : AllDiffer (flat_map (ons_in text) done)
    pub depends : Pairs (MeansDepend text kinds) (flat_map depends_in done) x.depends
    pub sources : Pairs (MeansFeed text kinds) (flat_map sources_in done) x.sources
    pub own_files : AllDiffer (filter_map file_of_source x.sources)
    pub itags : x.itags ≡ itag_count x.sources
    pub allowed : (i : ℕ) (y : Declaration) → slice_get done i ≡ Some y → IsDeclaredIn text n.version y
    pub few_itags : x.itags ≤ 256

  -- ---- declarations that the version has

  allowed_more : (done : Declarations) (x : Declaration) → ((i : ℕ) (y : Declaration) → slice_get done i ≡ Some y → IsDeclaredIn text n.version y)
      → IsDeclaredIn text n.version x → (i : ℕ) (y : Declaration) → slice_get (done ++ x ∷ []) i ≡ Some y → IsDeclaredIn text n.version y
  allowed_more done x all has i y at = elim (slice_get_push done x i y at) [
    | inl before ↦ all i y before
    | inr here ↦ subst (IsDeclaredIn text n.version) here.1 has
  ]

  cell_allowed : (s : WrittenSpan) → cell_name_fits text n s ≡ true → n.version ≡ 3 → name_of text s ≢ codes "item"
  cell_allowed s fits third named =
      not_both (is_item_word n.version (name_of text s)) (is_item n.version (name_of text s) (third, named))
      (not_true (is_item_word n.version (name_of text s)) fits)

  tag_allowed : (item : Option WrittenItem) (u : Unit {0}) → item_word_fits n item ≡ Ok u → is_some item ≡ true → n.version ≡ 3
  tag_allowed None u e some = absurd cc
  tag_allowed (Some item) u e some = by (n.version == 3) refl e
    where
      by : (b : Bool) → (n.version == 3) ≡ b → unless b (f.WrongShape item.at) ≡ Ok u → n.version ≡ 3
      by true is e = true_eq n.version 3 is
      by false is e = absurd cc

  -- ---- what one declaration more gives
  module _ {X Y : Type 0} (R : X → Y → Type 0) (g : Declaration → List X) where
    kept : (done : Declarations) (y : Declaration) (ls : List Y) → g y ≡ [] → Pairs R (flat_map g done) ls → Pairs R (flat_map g (done ++ y ∷ [])) ls
    kept done y ls none is = subst (λ (l : List X). Pairs R l ls) (unchanged text g done y none) is

    pushed : (done : Declarations) (y : Declaration) (ls : List Y) (x : X) (one : Y) → g y ≡ x ∷ [] → R x one → Pairs R (flat_map g done) ls
        → Pairs R (flat_map g (done ++ y ∷ [])) (ls ++ one ∷ [])
    pushed done y ls x one gives r is =
        subst (λ (l : List X). Pairs R l (ls ++ one ∷ [])) (sym (grown text g done y ∙ ap (λ (l : List X). flat_map g done ++ l) gives))
        (pairs_push R (flat_map g done) ls x one is r)

  -- ---- a declaration that has no actions of a kind

  kind_kept : (done : Declarations) (x : Declaration) (k : DeclaredKind) (p : PlainKind) → actions_in text k.name x ≡ [] → Kind done k p → Kind
      (done ++ x ∷ []) k p
  kind_kept done x k p none is = record {
    name = is.name;
    keyed = is.keyed;
    has_item = is.has_item;
    has_value = is.has_value;
    actions =
        subst (λ (l : List Action). Pairs (MeansAction text families (under_kind n.version k)) l p.actions) (unchanged text
        (actions_in text k.name) done x none) is.actions;
    few_actions = is.few_actions;
  }

  kinds_kept : (done : Declarations) (x : Declaration) (ks : List DeclaredKind) (ps : List PlainKind)
      → ((i : ℕ) (k : DeclaredKind) → slice_get ks i ≡ Some k → actions_in text k.name x ≡ []) → Pairs (Kind done) ks ps → Pairs (Kind (done ++ x ∷ [])) ks ps
  kinds_kept done x [] [] none h = tt
  kinds_kept done x [] (p ∷ ps) none h = absurd h
  kinds_kept done x (k ∷ ks) [] none h = absurd h
  kinds_kept done x (k ∷ ks) (p ∷ ps) none h = (kind_kept done x k p (none 0 k refl) h.0, kinds_kept done x ks ps (λ i c e. none (suc i) c e) h.1)

  -- ---- an `on`

  other_kind : (kind : WrittenSpan) (actions : List Action) (k : DeclaredKind) → (name_of text kind ≡ k.name → ⊥) → actions_in text k.name
      (d.On kind actions) ≡ []
  other_kind kind actions k other =
      chosen text false kind k.name actions (false_if_not (bytes_eq (name_of text kind) k.name) (λ same. other (bytes_is (name_of text kind) k.name same)))

  kind_on : (done : Declarations) (kind : WrittenSpan) (actions : List Action) (k : DeclaredKind) (p : PlainKind) (acts : List PlainAction)
      → name_of text kind ≡ k.name
      → flat_map (actions_in text k.name) done ≡ [] → Kind done k p → Pairs (MeansAction text families (under_kind n.version k)) actions acts → length acts ≤ 32
      → Kind (done ++ d.On kind actions ∷ []) k (record p { actions = acts })
  kind_on done kind actions k p acts named none is means few =
      let all : flat_map (actions_in text k.name) (done ++ d.On kind actions ∷ []) ≡ actions =
      grown text (actions_in text k.name) done (d.On kind actions) ∙ ap (λ l. l ++ actions_in text k.name (d.On kind actions)) none
      ∙ chosen text true kind k.name actions (subst (λ (x : List ℕ). bytes_eq (name_of text kind) x ≡ true) named (bytes_itself (name_of text kind))) in
      record {
        name = is.name;
        keyed = is.keyed;
        has_item = is.has_item;
        has_value = is.has_value;
        actions = subst (λ (l : List Action). Pairs (MeansAction text families (under_kind n.version k)) l acts) (sym all) means;
        few_actions = few;
      }

  kinds_on : (done : Declarations) (kind : WrittenSpan) (actions : List Action) (acts : List PlainAction) (ks : List DeclaredKind) (ps : List PlainKind)
      (number : ℕ)
      (k : DeclaredKind) → AllDiffer (map kind_name ks) → slice_get ks number ≡ Some k → name_of text kind ≡ k.name
      → flat_map (actions_in text k.name) done ≡ []
      → Pairs (MeansAction text families (under_kind n.version k)) actions acts → length acts ≤ 32 → Pairs (Kind done) ks ps
      → Pairs (Kind (done ++ d.On kind actions ∷ [])) ks (with_actions ps number acts)
  kinds_on done kind actions acts [] ps number k own here named none means few h = absurd cc
  kinds_on done kind actions acts (c ∷ ks) [] number k own here named none means few h = absurd h
  kinds_on done kind actions acts (c ∷ ks) (p ∷ ps) zero k own here named none means few h =
      let same : k ≡ c = sym (some_same c k here) in
      let first = subst (λ (x : DeclaredKind). Kind done x p → Kind (done ++ d.On kind actions ∷ []) x (record p { actions = acts })) same
      (λ is. kind_on done kind actions k p acts named none is means few) h.0 in
      let rest = kinds_kept done (d.On kind actions) ks ps (λ i x at. other_kind kind actions x (λ is. differ_head (kind_name c) (map kind_name ks) own i
      (get_map kind_name ks i x at ∙ ap (λ (z : List ℕ). Some z) (sym is ∙ named ∙ ap (λ (z : DeclaredKind). z.name) same)))) h.1 in
      (first, rest)
  kinds_on done kind actions acts (c ∷ ks) (p ∷ ps) (suc number) k own here named none means few h =
      let other : name_of text kind ≡ c.name → ⊥ = λ is. differ_head (kind_name c) (map kind_name ks) own number
      (get_map kind_name ks number k here ∙ ap (λ (z : List ℕ). Some z) (sym named ∙ is)) in (
        kind_kept done (d.On kind actions) c p (other_kind kind actions c other) h.0,
        kinds_on done kind actions acts ks ps number k (differ_tail (kind_name c) (map kind_name ks) own) here named none means few h.1,
      )

  one_number : (name : List ℕ) (i j : ℕ) → IsGiven name i → IsGiven name j → i ≡ j
  one_number name i j a b =
      knows.differ i j name (get_map kind_name kinds i a.0 a.1 ∙ ap (λ (z : List ℕ). Some z) a.2) (get_map kind_name kinds j b.0 b.1 ∙ ap (λ
      (z : List ℕ). Some z) b.2)

  on_next : (done : Declarations) (x more : Drafted) (kind : WrittenSpan) (actions : List Action) → Drafts done x → with_on text n x kind actions ≡ Ok more
      → Drafts (done ++ d.On kind actions ∷ []) more
  unfolding with_on
  on_next done x more kind actions is e =
      let on = d.On kind actions in
      let name = name_of text kind in
      let one = bind_ok (kind_of text n kind) (λ h. unless (not (list_any (λ g. g == h.number) x.given)) (f.TwiceNamed kind.from)
      >> (resolved_actions text n h actions >>= λ acts. Ok
      (record x { kinds = with_actions x.kinds h.number acts; given = x.given ++ h.number ∷ [] }))) more e in
      let h = one.0 in
      let two = passed (not (list_any (λ g. g == h.number) x.given)) (f.TwiceNamed kind.from)
      (resolved_actions text n h actions >>= λ acts. Ok
      (record x { kinds = with_actions x.kinds h.number acts; given = x.given ++ h.number ∷ [] })) more one.2 in
      let three = bind_ok (resolved_actions text n h actions)
      (λ acts. Ok (record x { kinds = with_actions x.kinds h.number acts; given = x.given ++ h.number ∷ [] })) more two.1 in
      let acts = three.0 in
      let head = kind_is text n kinds knows kind h one.1 in
      let k = head.declared in
      let zero_more : head.place ≡ 0 + head.place = omega arith in
      let number : head.place ≡ h.number = zero_more ∙ ap (λ (z : KindHead). z.number) head.is in
      let here : slice_get kinds h.number ≡ Some k = ap (slice_get kinds) (sym number) ∙ head.here in
      let given : IsGiven name h.number = (k, here, head.named) in
      let not_given = not_true (list_any (λ g. g == h.number) x.given) two.0 in
      let new : (i : ℕ) → slice_get (flat_map (ons_in text) done) i ≡ Some name → ⊥ = λ i at. (
      let got = pairs_left IsGiven (flat_map (ons_in text) done) x.given is.given i name at in
      let same : got.0 ≡ h.number = one_number name got.0 h.number got.2 given in
      not_both (got.0 == h.number) (eq_true got.0 h.number same) (fails_at (λ g. g == h.number) x.given i got.0 not_given got.1)) in
      let none : flat_map (actions_in text k.name) done ≡ [] = no_actions text k.name done (λ i at. new i (at ∙ ap (λ (z : List ℕ). Some z) head.named)) in
      let means = actions_mean text n families know h actions acts three.1 in
      let acts_mean : Pairs (MeansAction text families (under_kind n.version k)) actions acts =
      subst (λ (z : KindHead). Pairs (MeansAction text families (under_head n z)) actions acts) (sym head.is) means.0 in
      let drafts : Drafts (done ++ on ∷ []) (record x { kinds = with_actions x.kinds h.number acts; given = x.given ++ h.number ∷ [] }) = record {
        lists = kept (MeansNames text) lists_in done on x.lists refl is.lists;
        family_lists = kept IsList family_lists_in done on x.family_lists refl is.family_lists;
        kind_lists = kept IsList kind_lists_in done on x.kind_lists refl is.kind_lists;
        kinds_are = kinds_on done kind actions acts kinds x.kinds h.number k knows.differ here (sym head.named) none acts_mean means.1 is.kinds_are;
        given =
            subst (λ (l : List (List ℕ)). Pairs IsGiven l (x.given ++ h.number ∷ [])) (sym (grown text (ons_in text) done on))
            (pairs_push IsGiven (flat_map (ons_in text) done) x.given name h.number is.given given);
        own_ons = subst (λ (l : List (List ℕ)). AllDiffer l) (sym (grown text (ons_in text) done on)) (differ_push (flat_map
            (ons_in text) done) name new is.own_ons);
        depends = subst (λ (l : List WrittenDepend). Pairs (MeansDepend text kinds) l x.depends) (unchanged text depends_in done on refl) is.depends;
        sources = subst (λ (l : List WrittenFeed). Pairs (MeansFeed text kinds) l x.sources) (unchanged text sources_in done on refl) is.sources;
        own_files = is.own_files;
        itags = is.itags;
        allowed = allowed_more done on is.allowed tt;
        few_itags = is.few_itags;
      } in
      subst (λ (z : Drafted). Drafts (done ++ on ∷ []) z)
      (ok_same (record x { kinds = with_actions x.kinds h.number acts; given = x.given ++ h.number ∷ [] }) more three.2) drafts

  -- ---- the others

  -- the draft with other lists
  abbrev with_lists : Drafted → List Numbering → List (Option ℕ) → List (Option ℕ) → Drafted
  with_lists x lists family_lists kind_lists = record x { lists = lists; family_lists = family_lists; kind_lists = kind_lists }

  -- a declaration of a name
  nothing_next : (done : Declarations) (x : Drafted) (y : Declaration) (lists : List Numbering) (family_lists kind_lists : List (Option ℕ))
      → ((name : List ℕ) → actions_in text name y ≡ []) → ons_in text y ≡ [] → depends_in y ≡ [] → sources_in y ≡ [] → IsDeclaredIn text n.version y
      → Pairs (MeansNames text) (flat_map lists_in (done ++ y ∷ [])) lists
      → Pairs IsList (flat_map family_lists_in (done ++ y ∷ [])) family_lists
      → Pairs IsList (flat_map kind_lists_in (done ++ y ∷ [])) kind_lists
      → Drafts done x → Drafts (done ++ y ∷ []) (with_lists x lists family_lists kind_lists)
  nothing_next done x y lists family_lists kind_lists no_acts no_on no_depend no_source has names families_named kinds_named is = record {
    lists = names;
    family_lists = families_named;
    kind_lists = kinds_named;
    kinds_are = kinds_kept done y kinds x.kinds (λ i k at. no_acts k.name) is.kinds_are;
    given = subst (λ (l : List (List ℕ)). Pairs IsGiven l x.given) (unchanged text (ons_in text) done y no_on) is.given;
    own_ons = subst (λ (l : List (List ℕ)). AllDiffer l) (unchanged text (ons_in text) done y no_on) is.own_ons;
    depends = subst (λ (l : List WrittenDepend). Pairs (MeansDepend text kinds) l x.depends) (unchanged text depends_in done y no_depend) is.depends;
    sources = subst (λ (l : List WrittenFeed). Pairs (MeansFeed text kinds) l x.sources) (unchanged text sources_in done y no_source) is.sources;
    own_files = is.own_files;
    itags = is.itags;
    allowed = allowed_more done y is.allowed has;
    few_itags = is.few_itags;
  }

  cell_next : (done : Declarations) (x more : Drafted) (s : WrittenSpan) (cells : WrittenCells) (sort : Sort) → Drafts done x
      → with_cell text n x s cells ≡ Ok more → Drafts (done ++ d.Cell s cells sort ∷ []) more
  unfolding with_cell
  cell_next done x more s cells sort is e =
      let y = d.Cell s cells sort in
      let one = passed (cell_name_fits text n s) (f.WrongShape s.from)
      (list_of text n (keys_by cells) >>= λ list. Ok (record x { family_lists = x.family_lists ++ list ∷ [] })) more e in
      let two = bind_ok (list_of text n (keys_by cells)) (λ list. Ok (record x { family_lists = x.family_lists ++ list ∷ [] })) more one.1 in
      let list = list_is text n (keys_by cells) two.0 two.1 in
      subst (λ (z : Drafted). Drafts (done ++ y ∷ []) z) (ok_same (record x { family_lists = x.family_lists ++ two.0 ∷ [] }) more two.2)
      (nothing_next done x y x.lists (x.family_lists ++ two.0 ∷ []) x.kind_lists (λ name. refl) refl refl refl (cell_allowed s one.0, list.1)
      (kept (MeansNames text) lists_in done y x.lists refl is.lists)
      (pushed IsList family_lists_in done y x.family_lists (keys_by cells) two.0 refl list.0 is.family_lists)
      (kept IsList kind_lists_in done y x.kind_lists refl is.kind_lists) is)

  tag_next : (done : Declarations) (x more : Drafted) (s : WrittenSpan) (keyed : Bool) (item : Option WrittenItem) (has_value : Bool) → Drafts done x
      → with_tag text n x item ≡ Ok more → Drafts (done ++ d.Tag s keyed item has_value ∷ []) more
  unfolding with_tag
  tag_next done x more s keyed item has_value is e =
      let y = d.Tag s keyed item has_value in
      let one = then_ok (item_word_fits n item)
      (list_of text n (items_by item) >>= λ list. Ok (record x { kind_lists = x.kind_lists ++ list ∷ [] })) more e in
      let two = bind_ok (list_of text n (items_by item)) (λ list. Ok (record x { kind_lists = x.kind_lists ++ list ∷ [] })) more one.2 in
      let list = list_is text n (items_by item) two.0 two.1 in
      subst (λ (z : Drafted). Drafts (done ++ y ∷ []) z) (ok_same (record x { kind_lists = x.kind_lists ++ two.0 ∷ [] }) more two.2)
      (nothing_next done x y x.lists x.family_lists (x.kind_lists ++ two.0 ∷ []) (λ name. refl) refl refl refl (tag_allowed item one.0 one.1)
      (kept (MeansNames text) lists_in done y x.lists refl is.lists)
      (kept IsList family_lists_in done y x.family_lists refl is.family_lists)
      (pushed IsList kind_lists_in done y x.kind_lists (items_by item) two.0 refl list.0 is.kind_lists) is)

  names_next : (done : Declarations) (x more : Drafted) (at : ℕ) (s : WrittenSpan) (texts : List WrittenSpan) → Drafts done x
      → with_names text n x at s texts ≡ Ok more → Drafts (done ++ d.Names at s texts ∷ []) more
  unfolding with_names
  names_next done x more at s texts is e =
      let y = d.Names at s texts in
      let v : WrittenNames = record { name = s; texts = texts } in
      let one = passed (is_version_3 n) (f.WrongShape at)
      (texts_of text texts >>= λ named. Ok (record x { lists = x.lists ++ record { name = name_of text s; texts = named } ∷ [] })) more e in
      let two = bind_ok (texts_of text texts) (λ named. Ok (record x { lists = x.lists ++ record { name = name_of text s; texts = named } ∷ [] })) more one.1 in
      let list : Numbering = record { name = name_of text s; texts = two.0 } in
      let means : MeansNames text v list = names_mean text v two.0 two.1 in
      subst (λ (z : Drafted). Drafts (done ++ y ∷ []) z) (ok_same (record x { lists = x.lists ++ list ∷ [] }) more two.2)
      (nothing_next done x y (x.lists ++ list ∷ []) x.family_lists x.kind_lists (λ name. refl) refl refl refl (true_eq n.version 3 one.0)
      (pushed (MeansNames text) lists_in done y x.lists v list refl means is.lists)
      (kept IsList family_lists_in done y x.family_lists refl is.family_lists)
      (kept IsList kind_lists_in done y x.kind_lists refl is.kind_lists) is)

  depend_next : (done : Declarations) (x more : Drafted) (a b : WrittenSpan) (relation : WrittenRelation) → Drafts done x
      → with_depend text n x a b relation ≡ Ok more
      → Drafts (done ++ d.Depends a b relation ∷ []) more
  depend_next done x more a b relation is e =
      let y = d.Depends a b relation in
      let v : WrittenDepend = record { a = a; b = b; relation = relation } in
      let one = depend_is text n kinds knows x a b relation more e in
      let drafts : Drafts (done ++ y ∷ []) (with_one_depend text n kinds knows x one.0) = record {
        lists = kept (MeansNames text) lists_in done y x.lists refl is.lists;
        family_lists = kept IsList family_lists_in done y x.family_lists refl is.family_lists;
        kind_lists = kept IsList kind_lists_in done y x.kind_lists refl is.kind_lists;
        kinds_are = kinds_kept done y kinds x.kinds (λ i k at. refl) is.kinds_are;
        given = subst (λ (l : List (List ℕ)). Pairs IsGiven l x.given) (unchanged text (ons_in text) done y refl) is.given;
        own_ons = subst (λ (l : List (List ℕ)). AllDiffer l) (unchanged text (ons_in text) done y refl) is.own_ons;
        depends =
            subst (λ (l : List WrittenDepend). Pairs (MeansDepend text kinds) l (x.depends ++ one.0 ∷ [])) (sym (grown text depends_in done y))
            (pairs_push (MeansDepend text kinds) (flat_map depends_in done) x.depends v one.0 is.depends one.1);
        sources = subst (λ (l : List WrittenFeed). Pairs (MeansFeed text kinds) l x.sources) (unchanged text sources_in done y refl) is.sources;
        own_files = is.own_files;
        itags = is.itags;
        allowed = allowed_more done y is.allowed tt;
        few_itags = is.few_itags;
      } in
      subst (λ (z : Drafted). Drafts (done ++ y ∷ []) z) one.2 drafts

  -- which sources have a file
  pub has_file : (s : Source) → s.every ≡ None → file_of_source s ≡ Some s.file
  has_file s none = ap (λ (o : Option ℕ). if is_some o then None else Some s.file) none

  pub has_none : (s : Source) (every : ℕ) → s.every ≡ Some every → file_of_source s ≡ None
  has_none s every some = ap (λ (o : Option ℕ). if is_some o then None else Some s.file) some

  file_new : (ss : List Source) (s : Source) → file_of_source s ≡ Some s.file → list_any (is_same_text s.file) (filter_map file_of_source ss) ≡ false
      → AllDiffer (filter_map file_of_source ss) → AllDiffer (filter_map file_of_source (ss ++ s ∷ []))
  file_new ss s has new own =
      let files : List (List ℕ) = filter_map file_of_source ss in
      let more : filter_map file_of_source (ss ++ s ∷ []) ≡ files ++ s.file ∷ [] =
      filter_map-append file_of_source ss (s ∷ []) ∙ ap (λ (o : Option (List ℕ)). files ++ cons_option o []) has in
      subst (λ (l : List (List ℕ)). AllDiffer l) (sym more)
      (differ_push files s.file (λ i at.
      not_both (is_same_text s.file s.file) (bytes_itself s.file) (fails_at (is_same_text s.file) files i s.file new at)) own)

  no_file_new : (ss : List Source) (s : Source) → file_of_source s ≡ None → AllDiffer (filter_map file_of_source ss)
      → AllDiffer (filter_map file_of_source (ss ++ s ∷ []))
  no_file_new ss s none own =
      let files : List (List ℕ) = filter_map file_of_source ss in
      let more : filter_map file_of_source (ss ++ s ∷ []) ≡ files =
      filter_map-append file_of_source ss (s ∷ []) ∙ ap (λ (o : Option (List ℕ)). files ++ cons_option o []) none ∙ append-nil files in
      subst (λ (l : List (List ℕ)). AllDiffer l) (sym more) own

  source_next : (done : Declarations) (x more : Drafted) (name file : WrittenSpan) (rate slack : Option WrittenNumber) (tags : List WrittenTag) → Drafts done x
      → with_source text n x name file rate slack tags ≡ Ok more → Drafts (done ++ d.Source name file rate slack tags ∷ []) more
  source_next done x more name file rate slack tags is e =
      let y = d.Source name file rate slack tags in
      let v : WrittenSource = record { name = name; file = file; rate = rate; slack = slack; tags = tags } in
      let one = source_is text n kinds knows x v more e in
      let s = one.source in
      let count = total-append (λ (z : Source). total part_count z.tags) x.sources (s ∷ []) in
      let before = is.itags in
      let drafts : Drafts (done ++ y ∷ []) (with_one_source text n kinds knows x s) = record {
        lists = kept (MeansNames text) lists_in done y x.lists refl is.lists;
        family_lists = kept IsList family_lists_in done y x.family_lists refl is.family_lists;
        kind_lists = kept IsList kind_lists_in done y x.kind_lists refl is.kind_lists;
        kinds_are = kinds_kept done y kinds x.kinds (λ i k at. refl) is.kinds_are;
        given = subst (λ (l : List (List ℕ)). Pairs IsGiven l x.given) (unchanged text (ons_in text) done y refl) is.given;
        own_ons = subst (λ (l : List (List ℕ)). AllDiffer l) (unchanged text (ons_in text) done y refl) is.own_ons;
        depends = subst (λ (l : List WrittenDepend). Pairs (MeansDepend text kinds) l x.depends) (unchanged text depends_in done y refl) is.depends;
        sources =
            subst (λ (l : List WrittenFeed). Pairs (MeansFeed text kinds) l (x.sources ++ s ∷ [])) (sym (grown text sources_in done y))
            (pairs_push (MeansFeed text kinds) (flat_map sources_in done) x.sources (OfFile v) s is.sources one.means);
        own_files = file_new x.sources s (has_file s one.means.no_period) one.own_file is.own_files;
        itags = omega (arith, count, before);
        allowed = allowed_more done y is.allowed tt;
        few_itags = one.few is.few_itags;
      } in
      subst (λ (z : Drafted). Drafts (done ++ y ∷ []) z) one.is drafts

  clock_next : (done : Declarations) (x more : Drafted) (place : ℕ) (name : WrittenSpan) (every : WrittenNumber) (rate : Option WrittenNumber)
      (tag : WrittenSpan) → Drafts done x
      → with_clock text n x place name every rate tag ≡ Ok more → Drafts (done ++ d.Clock place name every rate tag ∷ []) more
  clock_next done x more place name every rate tag is e =
      let y = d.Clock place name every rate tag in
      let v : WrittenClock = record { name = name; every = every; rate = rate; tag = tag } in
      let one = clock_is text n kinds knows x place v more e in
      let s = one.source in
      let count = total-append (λ (z : Source). total part_count z.tags) x.sources (s ∷ []) in
      let before = is.itags in
      let drafts : Drafts (done ++ y ∷ []) (with_one_source text n kinds knows x s) = record {
        lists = kept (MeansNames text) lists_in done y x.lists refl is.lists;
        family_lists = kept IsList family_lists_in done y x.family_lists refl is.family_lists;
        kind_lists = kept IsList kind_lists_in done y x.kind_lists refl is.kind_lists;
        kinds_are = kinds_kept done y kinds x.kinds (λ i k at. refl) is.kinds_are;
        given = subst (λ (l : List (List ℕ)). Pairs IsGiven l x.given) (unchanged text (ons_in text) done y refl) is.given;
        own_ons = subst (λ (l : List (List ℕ)). AllDiffer l) (unchanged text (ons_in text) done y refl) is.own_ons;
        depends = subst (λ (l : List WrittenDepend). Pairs (MeansDepend text kinds) l x.depends) (unchanged text depends_in done y refl) is.depends;
        sources =
            subst (λ (l : List WrittenFeed). Pairs (MeansFeed text kinds) l (x.sources ++ s ∷ [])) (sym (grown text sources_in done y))
            (pairs_push (MeansFeed text kinds) (flat_map sources_in done) x.sources (OfClock v) s is.sources one.means);
        own_files = no_file_new x.sources s (has_none s (written_value every.value) one.means.period) is.own_files;
        itags = omega (arith, count, before);
        allowed = allowed_more done y is.allowed one.third;
        few_itags = one.few is.few_itags;
      } in
      subst (λ (z : Drafted). Drafts (done ++ y ∷ []) z) one.is drafts

  pub drafts_next : (done : Declarations) (x more : Drafted) (y : Declaration) → Drafts done x → with_declaration text n x y ≡ Ok more → Drafts
      (done ++ y ∷ []) more
  unfolding with_declaration
  drafts_next done x more (d.Cell s cells sort) is e = cell_next done x more s cells sort is e
  drafts_next done x more (d.Tag s keyed item has_value) is e = tag_next done x more s keyed item has_value is e
  drafts_next done x more (d.Names at s texts) is e = names_next done x more at s texts is e
  drafts_next done x more (d.Depends a b relation) is e = depend_next done x more a b relation is e
  drafts_next done x more (d.On kind actions) is e = on_next done x more kind actions is e
  drafts_next done x more (d.Source name file rate slack tags) is e = source_next done x more name file rate slack tags is e
  drafts_next done x more (d.Clock at name every rate tag) is e = clock_next done x more at name every rate tag is e

  pub drafts_all : (done ds : Declarations) (x more : Drafted) → Drafts done x → each (with_declaration text n) x ds ≡ Ok more → Drafts (done ++ ds) more
  unfolding each
  drafts_all done [] x more is e =
      subst (λ (l : Declarations). Drafts l more) (sym (append-nil done)) (subst (λ (z : Drafted). Drafts done z) (ok_same x more e) is)
  drafts_all done (y ∷ ds) x more is e =
      let one = bind_ok (with_declaration text n x y) (λ t. each (with_declaration text n) t ds) more e in
      subst (λ (l : Declarations). Drafts l more) (append_assoc done (y ∷ []) ds)
      (drafts_all (done ++ y ∷ []) ds one.0 more (drafts_next done x one.0 y is one.1) one.2)

  idle : (i : ℕ) (ks : List DeclaredKind) → Pairs (Kind []) ks (map idle_kind (heads kind_name kind_head i ks))
  idle i [] = tt
  idle i (k ∷ ks) = (record { name = refl; keyed = refl; has_item = refl; has_value = refl; actions = tt; few_actions = omega arith }, idle (i + 1) ks)

  pub first_drafts : Drafts [] (first_draft n)
  first_drafts = record {
    lists = tt;
    family_lists = tt;
    kind_lists = tt;
    kinds_are = subst (λ (l : List (List ℕ × KindHead)). Pairs (Kind []) kinds (map idle_kind l)) (sym knows.heads_are) (idle 0 kinds);
    given = tt;
    own_ons = differ_none;
    depends = tt;
    sources = tt;
    own_files = differ_none;
    itags = refl;
    allowed = λ i y at. absurd (no_some y at);
    few_itags = omega arith;
  }

  pub drafts_are : (ds : Declarations) (x : Drafted) → draft_of text n ds ≡ Ok x → Drafts ds x
  drafts_are ds x e = drafts_all [] ds (first_draft n) x first_drafts e
