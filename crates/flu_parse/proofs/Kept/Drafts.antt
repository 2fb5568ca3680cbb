-- What the declarations of a job add to it, one by one.
use Rattle.std.proofs.Common.{◌≡◌, ℕ, zero, suc, ◌+◌, ◌≤◌, Bool, true, false, List, [], ◌∷◌, ◌++◌, map, length, Option, Some, None, Ok, refl, sym, ap}
use Rattle.std.proofs.Common.{◌∙◌, append_assoc, add-zero, arith}
use Rattle.std.specs.Prelude.{◌&&◌, ◌||◌, ◌==◌, not, nat_le, is_some, slice_get, codes}
use Rattle.std.specs.List.{list_all, list_any, cons_option, flat_map, AllByRecursion}
use Rattle.std.proofs.lemmas.List.Elements.{filter_map-append}
use Rattle.std.proofs.lemmas.List.Folds.{list_any-append}
use Rattle.std.specs.Str.{bytes_eq}
use Rattle.std.proofs.lemmas.Cmp.{nat_list_eq_equiv}
use Rattle.std.proofs.lemmas.List.{length-append, length-map, append-nil, map-append}
use Rattle.flu_lemmas.proofs.Tests.{and_left, and_right, both, le_true}
use Rattle.flu_lemmas.proofs.Loops.{bind_ok}
use Rattle.flu_model.specs.declared.jobs.Family.{Family}
use Rattle.flu_model.specs.declared.jobs.Source.{Source}
use Rattle.flu_model.specs.Listing.{tags_of_source, itags_of_sources}
use Rattle.flu_model.specs.Numberings.{Numbering}
use Rattle.flu_model.specs.Rules.{is_same_text, are_distinct, is_clock, file_of_source}
use Rattle.flu_names.specs.Names.{is_name}
use Rattle.flu_model.specs.Erasure.{PlainAction, PlainKind}
use Rattle.flu_text.specs.declared.written.WrittenSpan.{WrittenSpan}
use Rattle.flu_text.specs.declared.written.WrittenNumber.{WrittenNumber}
use Rattle.flu_syntax.specs.declared.tree.WrittenTag.{WrittenTag}
use Rattle.flu_syntax.specs.declared.tree.WrittenCells.{WrittenCells}
use Rattle.flu_syntax.specs.declared.tree.WrittenItem.{WrittenItem}
use Rattle.flu_syntax.specs.declared.tree.WrittenRelation.{WrittenRelation}
use Rattle.flu_syntax.specs.declared.tree.WrittenRelation.TheVariants as r
use Rattle.flu_syntax.specs.Tree.{Action, Declaration}
use Rattle.flu_syntax.specs.Tree as tree
use Rattle.flu_layout.specs.Spelling.{name_of}
use Rattle.flu_parse.specs.declared.faults.JobFault.TheVariants as f
use Rattle.flu_parse.specs.declared.names.KindHead.{KindHead}
use Rattle.flu_parse.specs.Faults.{each}
use Rattle.flu_parse.specs.Naming.{Naming, is_version_3, keys_by, items_by, look_up, known}
use Rattle.flu_parse.specs.Lists.{texts_of, list_of}
use Rattle.flu_parse.specs.Actions.{resolved_actions}
use Rattle.flu_parse.specs.Listings.{Listed, tags_of, rate_of, slack_of, file_of, period_of, tick_of}
use Rattle.flu_parse.specs.Resolving.{Drafted, same_of, with_depend, with_actions, with_on, with_source, with_clock, cell_name_fits, with_cell, with_tag}
use Rattle.flu_parse.specs.Resolving.{with_names}
use Rattle.flu_parse.specs.Resolving.{with_declaration}
use Rattle.flu_parse.proofs.Distinct.{distinct_with}
use Rattle.flu_parse.proofs.Looks.{passed}
use Rattle.flu_parse.proofs.Kept.Plain.{plain_action_fits, plain_kind_fits}
use Rattle.flu_parse.proofs.Kept.Versions.{action_suits, actions_suit, passes_any}
use Rattle.flu_parse.proofs.Kept.Names.{depends_in, sources_in, families_in, items_in}
use Rattle.flu_parse.proofs.Kept.Names.{keys_in, lists_in}
use Rattle.flu_parse.proofs.Kept.Lists.{all_fit, all_fit-append, keys_fit, items_fit}
use Rattle.flu_parse.proofs.Kept.Listings.{files_in}
use Rattle.flu_parse.proofs.Kept.Terms.{was_known}

-- what a kind's declaration says
abbrev pub Head : Type 0
Head = List ℕ × Bool × Bool × Bool

abbrev pub head : PlainKind → Head
head k = (k.name, k.keyed, k.has_value, k.has_item)

abbrev pub declared_head : List ℕ × KindHead → Head
declared_head h = (h.0, h.1.keyed, h.1.has_value, h.1.has_item)

-- ---- a kind is given its actions
pub acted_heads : (ks : List PlainKind) (i : ℕ) (done : List PlainAction) → map head (with_actions ks i done) ≡ map head ks
acted_heads [] i done = refl
acted_heads (q ∷ ks) zero done = refl
acted_heads (q ∷ ks) (suc i) done = ap (λ hs. head q ∷ hs) (acted_heads ks i done)

pub acted_fit : (families : List Family) (ks : List PlainKind) (i : ℕ) (h : Head) (done : List PlainAction) → list_all (plain_kind_fits families) ks ≡ true
    → slice_get (map head ks) i ≡ Some h
    → length done ≤ 32 → list_all (plain_action_fits families h.1 h.2) done ≡ true → list_all (plain_kind_fits families) (with_actions ks i done) ≡ true
acted_fit families [] i h done all e few fit = absurd cc
acted_fit families (q ∷ ks) zero h done all e few fit =
    let same : head q ≡ h = cc in
    let old = and_left (plain_kind_fits families q) (list_all (plain_kind_fits families) ks) all in
    let named = and_left (is_name q.name) (nat_le (length q.actions) 32)
    (and_left (is_name q.name && nat_le (length q.actions) 32) (list_all (plain_action_fits families q.keyed q.has_value) q.actions) old) in
    let fits : list_all (plain_action_fits families q.keyed q.has_value) done ≡ true =
    ap (λ (g : Head). list_all (plain_action_fits families g.1 g.2) done) same ∙ fit in
    both (is_name q.name && nat_le (length done) 32 && list_all (plain_action_fits families q.keyed q.has_value) done) (list_all (plain_kind_fits families) ks)
    (both (is_name q.name && nat_le (length done) 32) (list_all (plain_action_fits families q.keyed q.has_value) done)
    (both (is_name q.name) (nat_le (length done) 32) named (le_true (length done) 32 few)) fits)
    (and_right (plain_kind_fits families q) (list_all (plain_kind_fits families) ks) all)
acted_fit families (q ∷ ks) (suc i) h done all e few fit =
    both (plain_kind_fits families q) (list_all (plain_kind_fits families) (with_actions ks i done))
    (and_left (plain_kind_fits families q) (list_all (plain_kind_fits families) ks) all)
    (acted_fit families ks i h done (and_right (plain_kind_fits families q) (list_all (plain_kind_fits families) ks) all) e few fit)

pub acted_suit : (newer : Bool) (ks : List PlainKind) (i : ℕ) (h : Head) (done : List PlainAction) → list_all (actions_suit newer) ks ≡ true
    → slice_get (map head ks) i ≡ Some h → list_all (action_suits h.3 newer) done ≡ true → list_all (actions_suit newer) (with_actions ks i done) ≡ true
acted_suit newer [] i h done all e suit = absurd cc
acted_suit newer (q ∷ ks) zero h done all e suit =
    let same : head q ≡ h = cc in
    both (list_all (action_suits q.has_item newer) done) (list_all (actions_suit newer) ks)
    (ap (λ (g : Head). list_all (action_suits g.3 newer) done) same ∙ suit)
    (and_right (actions_suit newer q) (list_all (actions_suit newer) ks) all)
acted_suit newer (q ∷ ks) (suc i) h done all e suit =
    both (actions_suit newer q) (list_all (actions_suit newer) (with_actions ks i done))
    (and_left (actions_suit newer q) (list_all (actions_suit newer) ks) all)
    (acted_suit newer ks i h done (and_right (actions_suit newer q) (list_all (actions_suit newer) ks) all) e suit)

-- ---- one source more
pub more_itags : (place : ℕ) (sources : List Source) (s : Source)
    → length (itags_of_sources place (sources ++ s ∷ [])) ≡ length (itags_of_sources place sources) + length (tags_of_source s)
more_itags place [] s = ap length (append-nil (map (λ t. (t, place)) (tags_of_source s))) ∙ length-map (tags_of_source s) (λ t. (t, place)) ∙ omega arith
more_itags place (q ∷ sources) s =
    let rest = more_itags (place + 1) sources s in
    let here = map (λ t. (t, place)) (tags_of_source q) in
    let all = length-append here (itags_of_sources (place + 1) (sources ++ s ∷ [])) in
    let before = length-append here (itags_of_sources (place + 1) sources) in
    omega (arith, rest, all, before)

pub one_more_file : (sources : List Source) (s : Source) → file_of_source s ≡ Some s.file → are_distinct is_same_text (files_in sources) ≡ true
    → list_any (is_same_text s.file) (files_in sources) ≡ false → are_distinct is_same_text (files_in (sources ++ s ∷ [])) ≡ true
one_more_file sources s has apart fresh =
    let none : files_in sources ++ [] ≡ files_in sources = append-nil (files_in sources) in
    ap (are_distinct is_same_text) (filter_map-append file_of_source sources (s ∷ []))
    ∙ ap (λ (o : Option (List ℕ)). are_distinct is_same_text (files_in sources ++ cons_option o [])) has
    ∙ distinct_with is_same_text nat_list_eq_equiv.symm (files_in sources) [] s.file (ap (are_distinct is_same_text) none ∙ apart)
    (ap (list_any (is_same_text s.file)) none ∙ fresh)

-- a clock has no file
pub no_more_file : (sources : List Source) (s : Source) → file_of_source s ≡ None → are_distinct is_same_text (files_in sources) ≡ true
    → are_distinct is_same_text (files_in (sources ++ s ∷ [])) ≡ true
no_more_file sources s none apart =
    ap (are_distinct is_same_text) (filter_map-append file_of_source sources (s ∷ []))
    ∙ ap (λ (o : Option (List ℕ)). are_distinct is_same_text (files_in sources ++ cons_option o [])) none
    ∙ ap (are_distinct is_same_text) (append-nil (files_in sources)) ∙ apart

-- clocks are there in version 3 alone
pub one_more_origin : (newer : Bool) (sources : List Source) (s : Source) → is_clock s ≡ false → (newer || not (list_any is_clock sources)) ≡ true
    → (newer || not (list_any is_clock (sources ++ s ∷ []))) ≡ true
one_more_origin newer sources s filed so_far =
    ap (λ b. newer || not b) (list_any-append is_clock sources (s ∷ []))
    ∙ ap (λ b. newer || not (list_any is_clock sources || (b || false))) filed
    ∙ ap (λ b. newer || not b) (or_none (list_any is_clock sources)) ∙ so_far
  where
    or_none : (b : Bool) → (b || false) ≡ b
    or_none true = refl
    or_none false = refl

-- ---- what is named
abbrev pub source_names : List Source → List (List ℕ)
source_names sources = map (λ (s : Source). s.name) sources

abbrev pub list_names : List Numbering → List (List ℕ)
list_names lists = map (λ (l : Numbering). l.name) lists

abbrev pub is_item_name : List ℕ → Bool
is_item_name name = bytes_eq name (codes "item")

-- `same` stands between keyed kinds
pub same_kept : (relation : WrittenRelation) (a b : KindHead) (same : Bool) → same_of relation a b ≡ Ok same → (not same || (a.keyed && b.keyed)) ≡ true
same_kept r.None a b same e = let is : false ≡ same = cc in ap (λ s. not s || (a.keyed && b.keyed)) (sym is)
same_kept r.All a b same e = let is : false ≡ same = cc in ap (λ s. not s || (a.keyed && b.keyed)) (sym is)
same_kept (r.Same at) a b same e =
    let h = passed (a.keyed && b.keyed) (f.WrongShape at) (Ok true) same e in
    let is : true ≡ same = cc in
    ap (λ s. not s || (a.keyed && b.keyed)) (sym is) ∙ h.0

module _ (text : List ℕ) (n : Naming) where
  -- what a step leaves as it was and what it adds
  pub added_depend : (d : Drafted) (a b : WrittenSpan) (relation : WrittenRelation) (next : Drafted) → with_depend text n d a b relation ≡ Ok next
      → (first second : KindHead) × (same : Bool) × (look_up (name_of text a) n.kinds ≡ Some first) × (look_up (name_of text b) n.kinds ≡ Some second)
      × (same_of relation first second ≡ Ok same)
      × (record d { depends = d.depends ++ record { a = first.number; b = second.number; same = same } ∷ [] } ≡ next)
  unfolding with_depend
  added_depend d a b relation next e =
      let one = bind_ok (known a.from (look_up (name_of text a) n.kinds)) _ next e in
      let two = bind_ok (known b.from (look_up (name_of text b) n.kinds)) _ next one.2 in
      let three = bind_ok (same_of relation one.0 two.0)
      (λ same. Ok (record d { depends = d.depends ++ record { a = one.0.number; b = two.0.number; same = same } ∷ [] })) next two.2 in (
        one.0,
        two.0,
        three.0,
        was_known a.from (look_up (name_of text a) n.kinds) one.0 one.1,
        was_known b.from (look_up (name_of text b) n.kinds) two.0 two.1,
        three.1,
        cc,
      )

  pub added_actions : (d : Drafted) (s : WrittenSpan) (actions : List Action) (next : Drafted) → with_on text n d s actions ≡ Ok next
      → (kind : KindHead) × (done : List PlainAction) × (look_up (name_of text s) n.kinds ≡ Some kind) × (resolved_actions text n kind actions ≡ Ok done)
      × (record d { kinds = with_actions d.kinds kind.number done; given = d.given ++ kind.number ∷ [] } ≡ next)
  unfolding with_on
  added_actions d s actions next e =
      let one = bind_ok (known s.from (look_up (name_of text s) n.kinds)) _ next e in
      let two = passed (not (list_any (λ g. g == one.0.number) d.given)) (f.TwiceNamed s.from) _ next one.2 in
      let three = bind_ok (resolved_actions text n one.0 actions)
      (λ done. Ok (record d { kinds = with_actions d.kinds one.0.number done; given = d.given ++ one.0.number ∷ [] })) next two.1 in
      (one.0, three.0, was_known s.from (look_up (name_of text s) n.kinds) one.0 one.1, three.1, cc)

  -- a source of what is written
  abbrev pub source_with : WrittenSpan → List ℕ → ℕ → ℕ → Listed → Source
  source_with s bytes rate slack l = record { name = name_of text s; file = bytes; every = None; rate = rate; slack = slack; tags = l.tags }

  pub record AddsSource (d : Drafted) (s file : WrittenSpan) (written late : Option WrittenNumber) (tags : List WrittenTag) (next : Drafted) : Type 0 where
    pub bytes : List ℕ
    pub rate : ℕ
    pub slack : ℕ
    pub list : Listed
    pub by_file : file_of text d.sources file ≡ Ok bytes
    pub by_rate : rate_of written ≡ Ok rate
    pub by_slack : slack_of late ≡ Ok slack
    pub by_tags : tags_of text n d.itags tags ≡ Ok list
    pub is : record d { sources = d.sources ++ source_with s bytes rate slack list ∷ []; itags = list.itags } ≡ next

  pub added_source : (d : Drafted) (s file : WrittenSpan) (written late : Option WrittenNumber) (tags : List WrittenTag) (next : Drafted)
      → with_source text n d s file written late tags ≡ Ok next → AddsSource d s file written late tags next
  unfolding with_source
  added_source d s file written late tags next e =
      let one = bind_ok (file_of text d.sources file) _ next e in
      let two = bind_ok (rate_of written) _ next one.2 in
      let three = bind_ok (slack_of late) _ next two.2 in
      let four = bind_ok (tags_of text n d.itags tags)
      (λ l. Ok (record d { sources = d.sources ++ source_with s one.0 two.0 three.0 l ∷ []; itags = l.itags })) next three.2 in
      record {
        bytes = one.0;
        rate = two.0;
        slack = three.0;
        list = four.0;
        by_file = one.1;
        by_rate = two.1;
        by_slack = three.1;
        by_tags = four.1;
        is = cc;
      }

  -- a clock of what is written
  abbrev pub clock_with : WrittenSpan → ℕ → ℕ → Listed → Source
  clock_with s period rate l = record { name = name_of text s; file = []; every = Some period; rate = rate; slack = 0; tags = l.tags }

  pub record AddsClock (d : Drafted) (s : WrittenSpan) (every : WrittenNumber) (written : Option WrittenNumber) (tag : WrittenSpan) (next : Drafted) : Type 0
    where
      pub newer : is_version_3 n ≡ true
      pub period : ℕ
      pub rate : ℕ
      pub list : Listed
      pub by_period : period_of every ≡ Ok period
      pub by_rate : rate_of written ≡ Ok rate
      pub by_tag : tick_of text n d.itags tag ≡ Ok list
      pub is : record d { sources = d.sources ++ clock_with s period rate list ∷ []; itags = list.itags } ≡ next

  pub added_clock : (d : Drafted) (at : ℕ) (s : WrittenSpan) (every : WrittenNumber) (written : Option WrittenNumber) (tag : WrittenSpan) (next : Drafted)
      → with_clock text n d at s every written tag ≡ Ok next → AddsClock d s every written tag next
  unfolding with_clock
  added_clock d at s every written tag next e =
      let one = passed (is_version_3 n) (f.WrongShape at) _ next e in
      let two = bind_ok (period_of every) _ next one.1 in
      let three = bind_ok (rate_of written) _ next two.2 in
      let four = bind_ok (tick_of text n d.itags tag)
      (λ l. Ok (record d { sources = d.sources ++ clock_with s two.0 three.0 l ∷ []; itags = l.itags })) next three.2 in
      record {
        newer = one.0;
        period = two.0;
        rate = three.0;
        list = four.0;
        by_period = two.1;
        by_rate = three.1;
        by_tag = four.1;
        is = cc;
      }

  -- a cell and a tag are tested, and their lists are found
  pub added_cell : (d : Drafted) (s : WrittenSpan) (cells : WrittenCells) (next : Drafted) → with_cell text n d s cells ≡ Ok next
      → (cell_name_fits text n s ≡ true) × (l : Option ℕ) × (list_of text n (keys_by cells) ≡ Ok l)
      × (record d { family_lists = d.family_lists ++ l ∷ [] } ≡ next)
  unfolding with_cell
  added_cell d s cells next e =
      let one = passed (cell_name_fits text n s) (f.WrongShape s.from) _ next e in
      let two = bind_ok (list_of text n (keys_by cells)) (λ l. Ok (record d { family_lists = d.family_lists ++ l ∷ [] })) next one.1 in
      (one.0, two.0, two.1, cc)

  pub added_tag : (d : Drafted) (item : Option WrittenItem) (next : Drafted) → with_tag text n d item ≡ Ok next
      → ((is_version_3 n || not (is_some item)) ≡ true) × (l : Option ℕ) × (list_of text n (items_by item) ≡ Ok l)
      × (record d { kind_lists = d.kind_lists ++ l ∷ [] } ≡ next)
  unfolding with_tag
  added_tag d None next e = (sym (passes_any (is_version_3 n)), None, refl, cc)
  added_tag d (Some item) next e =
      let one = passed (is_version_3 n) (f.WrongShape item.at) _ next e in
      let two = bind_ok (list_of text n item.by) (λ l. Ok (record d { kind_lists = d.kind_lists ++ l ∷ [] })) next one.1 in
      (ap (λ b. b || false) one.0, two.0, two.1, cc)

  abbrev pub list_with : WrittenSpan → List (List ℕ) → Numbering
  list_with s named = record { name = name_of text s; texts = named }

  pub added_names : (d : Drafted) (at : ℕ) (s : WrittenSpan) (texts : List WrittenSpan) (next : Drafted) → with_names text n d at s texts ≡ Ok next
      → (is_version_3 n ≡ true) × (named : List (List ℕ)) × (texts_of text texts ≡ Ok named)
      × (record d { lists = d.lists ++ list_with s named ∷ [] } ≡ next)
  unfolding with_names
  added_names d at s texts next e =
      let one = passed (is_version_3 n) (f.WrongShape at) _ next e in
      let two = bind_ok (texts_of text texts) (λ named. Ok (record d { lists = d.lists ++ list_with s named ∷ [] })) next one.1 in
      (one.0, two.0, two.1, cc)

  abbrev pub Passes : Declaration → Type 0
  Passes (tree.Cell s cells sort) = cell_name_fits text n s ≡ true
  Passes (tree.Tag s keyed item has_value) = (is_version_3 n || not (is_some item)) ≡ true
  Passes (tree.Names at s texts) = Unit {0}
  Passes (tree.Depends a b relation) = Unit {0}
  Passes (tree.On s actions) = Unit {0}
  Passes (tree.Source s file rate slack tags) = Unit {0}
  Passes (tree.Clock at s every rate tag) = Unit {0}

  pub one_passes : (d : Drafted) (w : Declaration) (next : Drafted) → with_declaration text n d w ≡ Ok next → Passes w
  unfolding with_declaration
  one_passes d (tree.Cell s cells sort) next e = (added_cell d s cells next e).0
  one_passes d (tree.Tag s keyed item has_value) next e = (added_tag d item next e).0
  one_passes d (tree.Names at s texts) next e = tt
  one_passes d (tree.Depends a b relation) next e = tt
  one_passes d (tree.On s actions) next e = tt
  one_passes d (tree.Source s file rate slack tags) next e = tt
  one_passes d (tree.Clock at s every rate tag) next e = tt

  pub all_pass : (ds : List Declaration) (d next : Drafted) → each (with_declaration text n) d ds ≡ Ok next → AllByRecursion Passes ds
  unfolding each
  all_pass [] d next e = tt
  all_pass (w ∷ ds) d next e =
      let h = bind_ok (with_declaration text n d w) (λ s. each (with_declaration text n) s ds) next e in (one_passes d w h.0 h.1, all_pass ds h.0 next h.2)

  -- so no family is called `item` in version 3, and no kind has items before it
  pub one_more_name : (newer here others : Bool) → not (newer && here) ≡ true → (newer && others) ≡ false → (newer && (here || others)) ≡ false
  one_more_name false here others e rest = refl
  one_more_name true true others e rest = absurd cc
  one_more_name true false others e rest = rest

  pub none_called_item : (ds : List Declaration) → AllByRecursion Passes ds
      → (is_version_3 n && list_any is_item_name (flat_map (families_in text) ds)) ≡ false
  none_called_item [] all = by (is_version_3 n)
    where
      by : (newer : Bool) → (newer && false) ≡ false
      by true = refl
      by false = refl
  none_called_item (tree.Cell s cells sort ∷ ds) all =
      one_more_name (is_version_3 n) (is_item_name (name_of text s)) (list_any is_item_name (flat_map (families_in text) ds)) all.0 (none_called_item ds all.1)
  none_called_item (tree.Tag s keyed item has_value ∷ ds) all = none_called_item ds all.1
  none_called_item (tree.Names at s texts ∷ ds) all = none_called_item ds all.1
  none_called_item (tree.Depends a b relation ∷ ds) all = none_called_item ds all.1
  none_called_item (tree.On s actions ∷ ds) all = none_called_item ds all.1
  none_called_item (tree.Source s file rate slack tags ∷ ds) all = none_called_item ds all.1
  none_called_item (tree.Clock at s every rate tag ∷ ds) all = none_called_item ds all.1

  pub items_in_version : (ds : List Declaration) → AllByRecursion Passes ds
      → list_all (λ h. is_version_3 n || not h) (flat_map (items_in text) ds) ≡ true
  items_in_version [] all = refl
  items_in_version (tree.Cell s cells sort ∷ ds) all = items_in_version ds all.1
  items_in_version (tree.Tag s keyed item has_value ∷ ds) all =
      both (is_version_3 n || not (is_some item)) (list_all (λ h. is_version_3 n || not h) (flat_map (items_in text) ds)) all.0 (items_in_version ds all.1)
  items_in_version (tree.Names at s texts ∷ ds) all = items_in_version ds all.1
  items_in_version (tree.Depends a b relation ∷ ds) all = items_in_version ds all.1
  items_in_version (tree.On s actions ∷ ds) all = items_in_version ds all.1
  items_in_version (tree.Source s file rate slack tags ∷ ds) all = items_in_version ds all.1
  items_in_version (tree.Clock at s every rate tag ∷ ds) all = items_in_version ds all.1

  -- the dependencies are counted and the sources listed as the names are
  pub counted : (d : Drafted) (w : Declaration) (next : Drafted) → with_declaration text n d w ≡ Ok next
      → length next.depends ≡ length d.depends + depends_in text w
  unfolding with_declaration
  counted d (tree.Cell s cells sort) next e =
      ap (λ (x : Drafted). length x.depends) (sym (added_cell d s cells next e).3) ∙ sym (add-zero (length d.depends))
  counted d (tree.Tag s keyed item has_value) next e =
      ap (λ (x : Drafted). length x.depends) (sym (added_tag d item next e).3) ∙ sym (add-zero (length d.depends))
  counted d (tree.Names at s texts) next e =
      ap (λ (x : Drafted). length x.depends) (sym (added_names d at s texts next e).3) ∙ sym (add-zero (length d.depends))
  counted d (tree.Depends a b relation) next e =
      let h = added_depend d a b relation next e in
      ap (λ (x : Drafted). length x.depends) (sym h.6) ∙ length-append d.depends (record { a = h.0.number; b = h.1.number; same = h.2 } ∷ [])
  counted d (tree.On s actions) next e =
      let h = added_actions d s actions next e in ap (λ (x : Drafted). length x.depends) (sym h.4) ∙ sym (add-zero (length d.depends))
  counted d (tree.Source s file rate slack tags) next e =
      let h = added_source d s file rate slack tags next e in ap (λ (x : Drafted). length x.depends) (sym h.is) ∙ sym (add-zero (length d.depends))
  counted d (tree.Clock at s every rate tag) next e =
      let h = added_clock d at s every rate tag next e in ap (λ (x : Drafted). length x.depends) (sym h.is) ∙ sym (add-zero (length d.depends))

  pub listed : (d : Drafted) (w : Declaration) (next : Drafted) → with_declaration text n d w ≡ Ok next
      → source_names next.sources ≡ source_names d.sources ++ sources_in text w
  unfolding with_declaration
  listed d (tree.Cell s cells sort) next e =
      ap (λ (x : Drafted). source_names x.sources) (sym (added_cell d s cells next e).3) ∙ sym (append-nil (source_names d.sources))
  listed d (tree.Tag s keyed item has_value) next e =
      ap (λ (x : Drafted). source_names x.sources) (sym (added_tag d item next e).3) ∙ sym (append-nil (source_names d.sources))
  listed d (tree.Names at s texts) next e =
      ap (λ (x : Drafted). source_names x.sources) (sym (added_names d at s texts next e).3) ∙ sym (append-nil (source_names d.sources))
  listed d (tree.Depends a b relation) next e =
      let h = added_depend d a b relation next e in ap (λ (x : Drafted). source_names x.sources) (sym h.6) ∙ sym (append-nil (source_names d.sources))
  listed d (tree.On s actions) next e =
      let h = added_actions d s actions next e in ap (λ (x : Drafted). source_names x.sources) (sym h.4) ∙ sym (append-nil (source_names d.sources))
  listed d (tree.Source s file rate slack tags) next e =
      let h = added_source d s file rate slack tags next e in
      ap (λ (x : Drafted). source_names x.sources) (sym h.is) ∙ map-append (λ (x : Source). x.name) d.sources (source_with s h.bytes h.rate h.slack h.list ∷ [])
  listed d (tree.Clock at s every rate tag) next e =
      let h = added_clock d at s every rate tag next e in
      ap (λ (x : Drafted). source_names x.sources) (sym h.is) ∙ map-append (λ (x : Source). x.name) d.sources (clock_with s h.period h.rate h.list ∷ [])

  pub lists_listed : (d : Drafted) (w : Declaration) (next : Drafted) → with_declaration text n d w ≡ Ok next
      → list_names next.lists ≡ list_names d.lists ++ lists_in text w
  unfolding with_declaration
  lists_listed d (tree.Cell s cells sort) next e =
      ap (λ (x : Drafted). list_names x.lists) (sym (added_cell d s cells next e).3) ∙ sym (append-nil (list_names d.lists))
  lists_listed d (tree.Tag s keyed item has_value) next e =
      ap (λ (x : Drafted). list_names x.lists) (sym (added_tag d item next e).3) ∙ sym (append-nil (list_names d.lists))
  lists_listed d (tree.Names at s texts) next e =
      let h = added_names d at s texts next e in
      ap (λ (x : Drafted). list_names x.lists) (sym h.3) ∙ map-append (λ (l : Numbering). l.name) d.lists (list_with s h.1 ∷ [])
  lists_listed d (tree.Depends a b relation) next e =
      ap (λ (x : Drafted). list_names x.lists) (sym (added_depend d a b relation next e).6) ∙ sym (append-nil (list_names d.lists))
  lists_listed d (tree.On s actions) next e =
      ap (λ (x : Drafted). list_names x.lists) (sym (added_actions d s actions next e).4) ∙ sym (append-nil (list_names d.lists))
  lists_listed d (tree.Source s file rate slack tags) next e =
      ap (λ (x : Drafted). list_names x.lists) (sym (added_source d s file rate slack tags next e).is) ∙ sym (append-nil (list_names d.lists))
  lists_listed d (tree.Clock at s every rate tag) next e =
      ap (λ (x : Drafted). list_names x.lists) (sym (added_clock d at s every rate tag next e).is) ∙ sym (append-nil (list_names d.lists))

  -- ---- which lists name the keys of the families and the items of the kinds
  pub record AddsLists (before after : List (Option ℕ)) (heads : List Bool) : Type 0 where
    pub more : List (Option ℕ)
    pub is : after ≡ before ++ more
    pub fit : all_fit (length n.lists) heads more ≡ true

  pub none_added : (before after : List (Option ℕ)) → before ≡ after → AddsLists before after []
  none_added before after same = record { more = []; is = sym same ∙ sym (append-nil before); fit = refl }

  pub family_listed : (d : Drafted) (w : Declaration) (next : Drafted) → with_declaration text n d w ≡ Ok next
      → AddsLists d.family_lists next.family_lists (keys_in text w)
  unfolding with_declaration
  family_listed d (tree.Cell s cells sort) next e =
      let h = added_cell d s cells next e in
      record { more = h.1 ∷ []; is = ap (λ (x : Drafted). x.family_lists) (sym h.3); fit = keys_fit text n cells h.1 h.2 }
  family_listed d (tree.Tag s keyed item has_value) next e =
      none_added d.family_lists next.family_lists (ap (λ (x : Drafted). x.family_lists) (added_tag d item next e).3)
  family_listed d (tree.Names at s texts) next e =
      none_added d.family_lists next.family_lists (ap (λ (x : Drafted). x.family_lists) (added_names d at s texts next e).3)
  family_listed d (tree.Depends a b relation) next e =
      none_added d.family_lists next.family_lists (ap (λ (x : Drafted). x.family_lists) (added_depend d a b relation next e).6)
  family_listed d (tree.On s actions) next e =
      none_added d.family_lists next.family_lists (ap (λ (x : Drafted). x.family_lists) (added_actions d s actions next e).4)
  family_listed d (tree.Source s file rate slack tags) next e =
      none_added d.family_lists next.family_lists (ap (λ (x : Drafted). x.family_lists) (added_source d s file rate slack tags next e).is)
  family_listed d (tree.Clock at s every rate tag) next e =
      none_added d.family_lists next.family_lists (ap (λ (x : Drafted). x.family_lists) (added_clock d at s every rate tag next e).is)

  pub kind_listed : (d : Drafted) (w : Declaration) (next : Drafted) → with_declaration text n d w ≡ Ok next
      → AddsLists d.kind_lists next.kind_lists (items_in text w)
  unfolding with_declaration
  kind_listed d (tree.Cell s cells sort) next e =
      none_added d.kind_lists next.kind_lists (ap (λ (x : Drafted). x.kind_lists) (added_cell d s cells next e).3)
  kind_listed d (tree.Tag s keyed item has_value) next e =
      let h = added_tag d item next e in
      record { more = h.1 ∷ []; is = ap (λ (x : Drafted). x.kind_lists) (sym h.3); fit = items_fit text n item h.1 h.2 }
  kind_listed d (tree.Names at s texts) next e =
      none_added d.kind_lists next.kind_lists (ap (λ (x : Drafted). x.kind_lists) (added_names d at s texts next e).3)
  kind_listed d (tree.Depends a b relation) next e =
      none_added d.kind_lists next.kind_lists (ap (λ (x : Drafted). x.kind_lists) (added_depend d a b relation next e).6)
  kind_listed d (tree.On s actions) next e =
      none_added d.kind_lists next.kind_lists (ap (λ (x : Drafted). x.kind_lists) (added_actions d s actions next e).4)
  kind_listed d (tree.Source s file rate slack tags) next e =
      none_added d.kind_lists next.kind_lists (ap (λ (x : Drafted). x.kind_lists) (added_source d s file rate slack tags next e).is)
  kind_listed d (tree.Clock at s every rate tag) next e =
      none_added d.kind_lists next.kind_lists (ap (λ (x : Drafted). x.kind_lists) (added_clock d at s every rate tag next e).is)

  module _ (found : Drafted → List (Option ℕ)) (heads : Declaration → List Bool)
      (one : (d : Drafted) (w : Declaration) (next : Drafted) → with_declaration text n d w ≡ Ok next → AddsLists (found d) (found next) (heads w)) where
    pub all_listed : (ds : List Declaration) (d next : Drafted) (before : List Bool) → all_fit (length n.lists) before (found d) ≡ true
        → each (with_declaration text n) d ds ≡ Ok next → all_fit (length n.lists) (before ++ flat_map heads ds) (found next) ≡ true
    unfolding each
    all_listed [] d next before fit e =
        let same : d ≡ next = cc in
        (λ i. all_fit (length n.lists) (append-nil before i) (found (sym same i))) ∙ fit
    all_listed (w ∷ ds) d next before fit e =
        let h = bind_ok (with_declaration text n d w) (λ s. each (with_declaration text n) s ds) next e in
        let step = one d w h.0 h.1 in
        let here : all_fit (length n.lists) (before ++ heads w) (found h.0) ≡ true =
        ap (all_fit (length n.lists) (before ++ heads w)) step.is
        ∙ all_fit-append (length n.lists) before (heads w) (found d) step.more fit step.fit in
        ap (λ hs. all_fit (length n.lists) hs (found next)) (sym (append_assoc before (heads w) (flat_map heads ds)))
        ∙ all_listed ds h.0 next (before ++ heads w) here h.2
