-- The declarations of a printed job, looked at again, make that job.
use Rattle.std.proofs.Common.{◌≡◌, ◌<◌, ◌≤◌, ◌+◌, ℕ, zero, suc, pos, Bool, true, false, ◌||◌, List, [], ◌∷◌, ◌++◌, map, length, Option, Some, None, Ok, refl}
use Rattle.std.proofs.Common.{sym, ap}
use Rattle.std.proofs.Common.{subst, ◌∙◌, append_assoc, length-append, arith}
use Rattle.std.specs.Prelude.{nat_lt, nat_le, not, ◌==◌, ◌&&◌, is_some, codes, slice_get, position, option_map, cond, if◌then◌else◌}
use Rattle.std.specs.List.{list_all, list_any, filter_map, cons_option}
use Rattle.std.proofs.lemmas.List.Elements.{filter_map-append}
use Rattle.std.specs.Str.{IsUtf8, bytes_eq}
use Rattle.std.proofs.lemmas.Grind.{common_steps}
use Rattle.std.proofs.lemmas.List.{append-nil, length-map}
use Rattle.std.proofs.lemmas.List.Folds.{list_any-append}
use Rattle.flu_lemmas.proofs.Tests.{and_left, and_right, lt_true, true_lt, true_le, not_true}
use Rattle.flu_lemmas.proofs.Places.{slice_get-behind, position-cons}
use Rattle.flu_lemmas.proofs.Elements.{fails_at}
use Rattle.flu_lemmas.specs.Items.{Pairs}
use Rattle.flu_lemmas.proofs.Searches.{list_any-map}
use Rattle.flu_lemmas.proofs.Booleans.{or_false, or_front, or_false_left, or_false_right, three_middle}
use Rattle.flu_model.specs.declared.limits.What.TheVariants.{Rate, Names as TextsLimit}
use Rattle.flu_model.specs.declared.events.Tag.{Tag as TagOf}
use Rattle.flu_model.specs.declared.jobs.Family.{Family}
use Rattle.flu_model.specs.declared.jobs.Depend.{Depend}
use Rattle.flu_model.specs.declared.jobs.Source.{Source}
use Rattle.flu_model.specs.Erasure.{PlainAction, PlainKind}
use Rattle.flu_model.specs.Numberings.{Numbering}
use Rattle.flu_model.specs.ListRules.{is_listed_text, is_list, is_declared_list, family_list_fits}
use Rattle.flu_model.specs.Listing.{tags_of_source, itags_of_sources}
use Rattle.flu_model.specs.Rules.{is_same_text, are_distinct, is_file_text, file_of_source, is_clock}
use Rattle.flu_model.specs.Versions.{is_named_item}
use Rattle.flu_rules.specs.Keys.{TagsMeet, TagsDiffer}
use Rattle.flu_text.specs.declared.written.WrittenSpan.{WrittenSpan}
use Rattle.flu_syntax.specs.declared.tree.WrittenBy.{WrittenBy}
use Rattle.flu_syntax.specs.declared.tree.WrittenTag.{WrittenTag}
use Rattle.flu_model.specs.declared.jobs.TagRef.{TagRef}
use Rattle.flu_syntax.specs.declared.tree.WrittenItem.{WrittenItem}
use Rattle.flu_syntax.specs.Tree.{Declaration, Cell, Tag, Names, Depends, Source as SourceLine, Clock as ClockLine}
use Rattle.flu_syntax.specs.Tree.{Action as WrittenDo}
use Rattle.flu_names.specs.Names.{is_name}
use Rattle.flu_layout.specs.Spelling.{name_of, inside}
use Rattle.flu_parse.specs.declared.faults.JobFault.TheVariants as f
use Rattle.flu_parse.specs.declared.names.KindHead.{KindHead}
use Rattle.flu_parse.specs.Faults.{Found, ◌>>=◌, ◌>>◌, unless, room, each}
use Rattle.flu_parse.specs.Naming.{Naming, is_version_3, look_up, known, kind_of, keys_by, items_by}
use Rattle.flu_parse.specs.Lists.{with_text, texts_of, list_of}
use Rattle.flu_parse.specs.Printing.{name_of_list}
use Rattle.flu_parse.specs.Listings.{Listed, tags_of, rate_of, slack_of, file_of, period_of, is_tick_head, alone, tick_of}
use Rattle.flu_parse.specs.Resolving.{Drafted, same_of, with_depend, with_actions, with_on, with_source, with_clock, item_word_fits, with_cell, with_tag}
use Rattle.flu_parse.specs.Resolving.{with_names}
use Rattle.flu_parse.specs.Resolving.{with_declaration}
use Rattle.flu_parse.proofs.Printed.Rules.{plain_source_fits, plain_origin, plain_is_tick, plain_tick_tag}
use Rattle.flu_parse.proofs.Printed.LaidLines.{SourceFacts, source_facts, file_facts, ClockFacts, clock_facts}
use Rattle.flu_parse.proofs.Printed.ReadTerms.{FamiliesKnown}
use Rattle.flu_parse.proofs.Printed.ReadActions.{do_all}
use Rattle.flu_parse.proofs.Printed.ReadTags.{kind_head, KindsKnown, Lists, all_tags, list_all_tags}
use Rattle.flu_parse.proofs.Printed.ReadLines.{Lines, TextIs, ByIs, CellIs, TagIs, NamesIs, DependsIs, SourceIs, ActionsAre, Ons, FileIs, ClockIs, OriginIs}
use Rattle.flu_parse.proofs.Printed.Names.{same_itself, differs_too}
use Rattle.flu_parse.proofs.Printed.ListFits.{plain_kind_list_fits, list_facts, list_at_number}
use Rattle.flu_parse.specs.Actions.{resolved_actions}
use Rattle.flu_parse.proofs.Kept.Plain.{plain_action_fits, plain_kind_fits}
use Rattle.flu_parse.proofs.Kept.Versions.{items_suit}

-- a kind whose list is not known
abbrev pub without_list : PlainKind → PlainKind
without_list k = record k { list = None }

-- a kind whose actions are not met yet
abbrev pub without_actions : PlainKind → PlainKind
without_actions k = record k { actions = [] }

abbrev pub with_kinds : Drafted → List PlainKind → List ℕ → Drafted
with_kinds d kinds given = record d { kinds = kinds; given = given }

abbrev pub with_all_lists : Drafted → List Numbering → Drafted
with_all_lists d lists = record d { lists = lists }

abbrev pub with_family_lists : Drafted → List (Option ℕ) → Drafted
with_family_lists d lists = record d { family_lists = lists }

abbrev pub with_kind_lists : Drafted → List (Option ℕ) → Drafted
with_kind_lists d lists = record d { kind_lists = lists }

abbrev pub with_all_depends : Drafted → List Depend → Drafted
with_all_depends d depends = record d { depends = depends }

abbrev pub with_all_sources : Drafted → List Source → ℕ → Drafted
with_all_sources d sources itags = record d { sources = sources; itags = itags }

-- the kind at a place is given its actions
given_actions : (done : List PlainKind) (k : PlainKind) (rest : List PlainKind) (actions : List PlainAction)
    → with_actions (done ++ k ∷ rest) (length done) actions ≡ done ++ record k { actions = actions } ∷ rest
given_actions [] k rest actions = refl
given_actions (d ∷ done) k rest actions = ap (λ ks. d ∷ ks) (given_actions done k rest actions)

-- the itags of sources, from whichever number
abbrev pub total_itags : List Source → ℕ
total_itags [] = 0
total_itags (s ∷ ss) = all_tags s.tags + total_itags ss

pub itags_counted : (i : ℕ) (ss : List Source) → length (itags_of_sources i ss) ≡ total_itags ss
itags_counted i [] = refl
itags_counted i (s ∷ ss) =
    let more = itags_counted (i + 1) ss in
    let size = length-append (map (λ t. (t, i)) (tags_of_source s)) (itags_of_sources (i + 1) ss) in
    let here = length-map {B = TagOf × ℕ} (tags_of_source s) (λ t. (t, i)) in
    omega (arith, more, size, here)

-- a file that no source before has
not_before : (done : List (List ℕ)) (x : List ℕ) (rest : List (List ℕ)) → are_distinct is_same_text (done ++ x ∷ rest) ≡ true
    → list_any (is_same_text x) done ≡ false
not_before [] x rest h = refl
not_before (d ∷ done) x rest h =
    let later : Bool = list_any (is_same_text d) (done ++ x ∷ rest) in
    let apart : Bool = are_distinct is_same_text (done ++ x ∷ rest) in
    let none : later ≡ false = not_true later (and_left (not later) apart h) in
    let split : (list_any (is_same_text d) done || (is_same_text d x || list_any (is_same_text d) rest)) ≡ false =
    sym (list_any-append (is_same_text d) done (x ∷ rest)) ∙ none in
    let here : is_same_text d x ≡ false = or_false_left (is_same_text d x) (list_any (is_same_text d) rest)
    (or_false_right (list_any (is_same_text d) done) (is_same_text d x || list_any (is_same_text d) rest) split) in
    ap (λ b. b || list_any (is_same_text x) done) (differs_too d x here) ∙ not_before done x rest (and_right (not later) apart h)

-- the place of a list's own name, where the names of lists differ
own_place : (lists : List Numbering) (i : ℕ) (l : Numbering) → are_distinct is_same_text (map (λ (l : Numbering). l.name) lists) ≡ true
    → slice_get lists i ≡ Some l → position (bytes_eq l.name) (map (λ (l : Numbering). l.name) lists) ≡ Some i
own_place [] i l apart found = absurd cc
own_place (m ∷ lists) zero l apart found =
    let same : m ≡ l = cc in
    let names : List (List ℕ) = map (λ (l : Numbering). l.name) lists in
    position-cons (bytes_eq l.name) m.name names
    ∙ ap (λ b. cond b (Some 0) (option_map (λ i. i + 1) (position (bytes_eq l.name) names)))
    (ap (λ (k : Numbering). bytes_eq l.name k.name) same ∙ same_itself l.name)
own_place (m ∷ lists) (suc i) l apart found =
    let names : List (List ℕ) = map (λ (l : Numbering). l.name) lists in
    let again : Bool = list_any (is_same_text m.name) names in
    let none : again ≡ false = not_true again (and_left (not again) (are_distinct is_same_text names) apart) in
    let other : bytes_eq l.name m.name ≡ false = differs_too m.name l.name
    (fails_at (λ (l : Numbering). is_same_text m.name l.name) lists i l (sym (list_any-map (is_same_text m.name) (λ (l : Numbering). l.name) lists) ∙ none)
    found) in
    position-cons (bytes_eq l.name) m.name names
    ∙ ap (λ b. cond b (Some 0) (option_map (λ i. i + 1) (position (bytes_eq l.name) names))) other
    ∙ ap (λ o. option_map (λ i. i + 1) o) (own_place lists i l (and_right (not again) (are_distinct is_same_text names) apart) found)
    ∙ ap Some (let same : i + 1 ≡ suc i = omega arith in same)

-- of no part of an alternative
neither : (newer here others : Bool) → (newer && (here || others)) ≡ false → ((newer && here) ≡ false) × ((newer && others) ≡ false)
neither false here others e = (refl, refl)
neither true true others e = absurd cc
neither true false others e = (refl, e)

module _ (whole : List ℕ) (utf8 : IsUtf8 whole) (n : Naming) where
  -- one declaration, and then the others
  one : (d next : Drafted) (ds here others more : List Declaration) (e : Declaration) → ds ≡ here ++ others → here ≡ e ∷ []
      → with_declaration whole n d e ≡ Ok next → each (with_declaration whole n) d (ds ++ more) ≡ each (with_declaration whole n) next (others ++ more)
  unfolding each
  one d next ds here others more e split is found =
      ap (λ l. each (with_declaration whole n) d (l ++ more)) (split ∙ ap (λ l. l ++ others) is)
      ∙ ap (λ (r : Found Drafted). r >>= λ s. each (with_declaration whole n) s (others ++ more)) found

  nothing : (d : Drafted) (ds more : List Declaration) → ds ≡ [] → each (with_declaration whole n) d (ds ++ more) ≡ each (with_declaration whole n) d more
  nothing d ds more none = ap (λ l. each (with_declaration whole n) d (l ++ more)) none

  -- the texts of a list, one after another
  all_texts : (done ts : List (List ℕ)) (ss : List WrittenSpan) → Pairs (TextIs whole utf8) ts ss → list_all is_listed_text ts ≡ true
      → are_distinct is_same_text (done ++ ts) ≡ true → length done + length ts ≤ 65536
      → each (with_text whole) done ss ≡ Ok (done ++ ts)
  unfolding each with_text
  all_texts done [] [] are listed apart few = ap Ok (sym (append-nil done))
  all_texts done [] (s ∷ ss) are listed apart few = absurd are
  all_texts done (t ∷ ts) [] are listed apart few = absurd are
  all_texts done (t ∷ ts) (s ∷ ss) are listed apart few =
      let size = length-append done (t ∷ []) in
      let end : List ℕ → Found (List (List ℕ)) = λ b. room TextsLimit 65536 (length done) >> (unless (not (list_any (bytes_eq b) done))
      (f.TwiceNamed s.from) >> Ok (done ++ b ∷ [])) in
      let found : with_text whole done s ≡ Ok (done ++ t ∷ []) =
      ap (λ b. unless (is_listed_text b) (f.WrongShape s.from) >> end b) are.0
      ∙ ap (λ b. unless b (f.WrongShape s.from) >> end t) (and_left (is_listed_text t) (list_all is_listed_text ts) listed)
      ∙ ap (λ b. unless b (f.OverLimit TextsLimit 65537) >> (unless (not (list_any (bytes_eq t) done)) (f.TwiceNamed s.from) >> Ok (done ++ t ∷ [])))
      (lt_true (length done) 65536 (omega (arith, few)))
      ∙ ap (λ b. unless (not b) (f.TwiceNamed s.from) >> Ok (done ++ t ∷ [])) (not_before done t ts apart) in
      ap (λ (r : Found (List (List ℕ))). r >>= λ next. each (with_text whole) next ss) found
      ∙ all_texts (done ++ t ∷ []) ts ss are.1 (and_right (is_listed_text t) (list_all is_listed_text ts) listed)
      (ap (are_distinct is_same_text) (append_assoc done (t ∷ []) ts) ∙ apart) (omega (arith, few, size))
      ∙ ap Ok (append_assoc done (t ∷ []) ts)

  -- only version 3 has lists
  lists_newer : (lists : List Numbering) (i : ℕ) → (is_version_3 n || length lists == 0) ≡ true → nat_lt i (length lists) ≡ true → is_version_3 n ≡ true
  lists_newer [] i some there = absurd (let below : i < 0 = true_lt i 0 there in omega arith)
  lists_newer (l ∷ lists) i some there =
      let full : (length (l ∷ lists) == 0) ≡ false = grind (arith, common_steps) in
      or_front (is_version_3 n) (length (l ∷ lists) == 0) some full

  pub add_names : (ls : List Numbering) (d : Drafted) (ds more : List Declaration) → list_all is_list ls ≡ true
      → (is_version_3 n || length ls == 0) ≡ true → Lines (NamesIs whole utf8) ls ds
      → each (with_declaration whole n) d (ds ++ more) ≡ each (with_declaration whole n) (with_all_lists d (d.lists ++ ls)) more
  unfolding with_declaration with_names
  add_names [] d ds more fit newer lines = nothing d ds more lines ∙ ap (λ l. each (with_declaration whole n) (with_all_lists d l) more)
      (sym (append-nil d.lists))
  add_names (l ∷ ls) d ds more fit some lines =
      let line = lines.3 in
      let facts = list_facts l (and_left (is_list l) (list_all is_list ls) fit) in
      let newer : is_version_3 n ≡ true = lists_newer (l ∷ ls) 0 some (lt_true 0 (length (l ∷ ls)) (omega arith)) in
      let few = true_le (length l.texts) 65536 facts.few in
      let texts : texts_of whole line.texts ≡ Ok l.texts = all_texts [] l.texts line.texts line.are facts.texts facts.apart (omega (arith, few)) in
      let next : Drafted = with_all_lists d (d.lists ++ l ∷ []) in
      let end : List ℕ → List (List ℕ) → Found Drafted = λ name texts. Ok (with_all_lists d (d.lists ++ record { name = name; texts = texts } ∷ [])) in
      let found : with_names whole n d line.at line.named line.texts ≡ Ok next =
      ap (λ b. unless b (f.WrongShape line.at) >> (texts_of whole line.texts >>= end (name_of whole line.named))) newer
      ∙ ap (λ (r : Found (List (List ℕ))). r >>= end (name_of whole line.named)) texts
      ∙ ap (λ name. end name l.texts) line.name_is in
      one d next ds lines.0 lines.1 more (Names line.at line.named line.texts) lines.2 line.is found
      ∙ add_names ls next lines.1 more (and_right (is_list l) (list_all is_list ls) fit) (ap (λ b. b || length ls == 0) newer) lines.4
      ∙ ap (λ l. each (with_declaration whole n) (with_all_lists d l) more) (append_assoc d.lists (l ∷ []) ls)

  item_fits : (item : Option WrittenItem) → (is_version_3 n || not (is_some item)) ≡ true → item_word_fits n item ≡ Ok tt
  item_fits None e = refl
  item_fits (Some item) e = ap (λ b. unless b (f.WrongShape item.at)) (sym (or_false (is_version_3 n)) ∙ e)

  module _ (lists : List Numbering) (known_lists : n.lists ≡ map (λ (l : Numbering). l.name) lists)
      (apart : are_distinct is_same_text (map (λ (l : Numbering). l.name) lists) ≡ true) (newer : (is_version_3 n || length lists == 0) ≡ true) where
    -- the list that is named
    list_found : (list : Option ℕ) (by : Option WrittenBy) → is_declared_list lists list ≡ true → ByIs whole utf8 lists list by → list_of whole n by ≡ Ok list
    list_found None by declared is = ap (list_of whole n) is
    list_found (Some number) by declared is =
        let at = list_at_number lists number declared in
        let s : WrittenSpan = is.0.list in
        let place : position (bytes_eq (name_of whole s)) n.lists ≡ Some number =
        ap (λ name. position (bytes_eq name) n.lists) (is.2 ∙ ap name_of_list at.found)
        ∙ ap (position (bytes_eq at.list.name)) known_lists
        ∙ own_place lists number at.list apart at.found in
        ap (list_of whole n) is.1
        ∙ ap (λ b. unless b (f.WrongShape is.0.at) >> (known s.from (position (bytes_eq (name_of whole s)) n.lists) >>= λ number. Ok (Some number)))
        (lists_newer lists number newer declared)
        ∙ ap (λ o. known s.from o >>= λ number. Ok (Some number)) place

    pub add_cells : (fs : List Family) (d : Drafted) (ds more : List Declaration) → (is_version_3 n && list_any is_named_item fs) ≡ false
        → list_all (family_list_fits lists) fs ≡ true → Lines (CellIs whole utf8 lists) fs ds
        → each (with_declaration whole n) d (ds ++ more)
        ≡ each (with_declaration whole n) (with_family_lists d (d.family_lists ++ map (λ (g : Family). g.list) fs)) more
    unfolding with_declaration with_cell
    add_cells [] d ds more none fit lines =
        nothing d ds more lines ∙ ap (λ l. each (with_declaration whole n) (with_family_lists d l) more) (sym (append-nil d.family_lists))
    add_cells (g ∷ fs) d ds more none fit lines =
        let line = lines.3 in
        let s = line.named in
        let parts = neither (is_version_3 n) (is_named_item g) (list_any is_named_item fs) none in
        let here : family_list_fits lists g ≡ true = and_left (family_list_fits lists g) (list_all (family_list_fits lists) fs) fit in
        let list : list_of whole n (keys_by line.cells) ≡ Ok g.list =
        list_found g.list (keys_by line.cells) (and_left (is_declared_list lists g.list) (g.keyed || not (is_some g.list)) here) line.by in
        let next : Drafted = with_family_lists d (d.family_lists ++ g.list ∷ []) in
        let end : Option ℕ → Found Drafted = λ list. Ok (with_family_lists d (d.family_lists ++ list ∷ [])) in
        let found : with_cell whole n d s line.cells ≡ Ok next =
        ap (λ name. unless (not (is_version_3 n && bytes_eq name (codes "item"))) (f.WrongShape s.from) >> (list_of whole n (keys_by line.cells) >>= end))
        line.name_is
        ∙ ap (λ b. unless (not b) (f.WrongShape s.from) >> (list_of whole n (keys_by line.cells) >>= end)) parts.0
        ∙ ap (λ (r : Found (Option ℕ)). r >>= end) list in
        one d next ds lines.0 lines.1 more (Cell s line.cells g.sort) lines.2 line.is found
        ∙ add_cells fs next lines.1 more parts.1 (and_right (family_list_fits lists g) (list_all (family_list_fits lists) fs) fit) lines.4
        ∙ ap (λ l. each (with_declaration whole n) (with_family_lists d l) more) (append_assoc d.family_lists (g.list ∷ []) (map (λ (g : Family). g.list) fs))

    pub add_tags : (ks : List PlainKind) (d : Drafted) (ds more : List Declaration) → list_all (items_suit (is_version_3 n)) ks ≡ true
        → list_all (plain_kind_list_fits lists) ks ≡ true → Lines (TagIs whole utf8 lists) ks ds
        → each (with_declaration whole n) d (ds ++ more)
        ≡ each (with_declaration whole n) (with_kind_lists d (d.kind_lists ++ map (λ (k : PlainKind). k.list) ks)) more
    unfolding with_declaration with_tag
    add_tags [] d ds more items fit lines =
        nothing d ds more lines ∙ ap (λ l. each (with_declaration whole n) (with_kind_lists d l) more) (sym (append-nil d.kind_lists))
    add_tags (k ∷ ks) d ds more items fit lines =
        let line = lines.3 in
        let item : Option WrittenItem = line.item in
        let newer : Bool = is_version_3 n in
        let has : (newer || not (is_some item)) ≡ true =
        ap (λ b. newer || not b) line.has_item ∙ and_left (items_suit newer k) (list_all (items_suit newer) ks) items in
        let here : plain_kind_list_fits lists k ≡ true = and_left (plain_kind_list_fits lists k) (list_all (plain_kind_list_fits lists) ks) fit in
        let list : list_of whole n (items_by item) ≡ Ok k.list =
        list_found k.list (items_by item) (and_left (is_declared_list lists k.list) (k.has_item || not (is_some k.list)) here) line.by in
        let next : Drafted = with_kind_lists d (d.kind_lists ++ k.list ∷ []) in
        let end : Option ℕ → Found Drafted = λ list. Ok (with_kind_lists d (d.kind_lists ++ list ∷ [])) in
        let found : with_tag whole n d item ≡ Ok next =
        ap (λ (r : Found (Unit {0})). r >> (list_of whole n (items_by item) >>= end)) (item_fits item has)
        ∙ ap (λ (r : Found (Option ℕ)). r >>= end) list in
        one d next ds lines.0 lines.1 more (Tag line.named k.keyed item k.has_value) lines.2 line.is found
        ∙ add_tags ks next lines.1 more (and_right (items_suit newer k) (list_all (items_suit newer) ks) items)
        (and_right (plain_kind_list_fits lists k) (list_all (plain_kind_list_fits lists) ks) fit) lines.4
        ∙ ap (λ l. each (with_declaration whole n) (with_kind_lists d l) more) (append_assoc d.kind_lists (k.list ∷ []) (map (λ (k : PlainKind). k.list) ks))

  module _ (kinds : List PlainKind) (named_kinds : list_all (λ (k : PlainKind). is_name k.name) kinds ≡ true) (known_kinds : KindsKnown kinds n) where
    pub add_depends : (deps : List Depend) (d : Drafted) (ds more : List Declaration) → Lines (DependsIs whole utf8 kinds named_kinds n known_kinds) deps ds
        → each (with_declaration whole n) d (ds ++ more) ≡ each (with_declaration whole n) (with_all_depends d (d.depends ++ deps)) more
    unfolding with_declaration with_depend
    add_depends [] d ds more lines = nothing d ds more lines ∙ ap (λ l. each (with_declaration whole n) (with_all_depends d l) more)
        (sym (append-nil d.depends))
    add_depends (e ∷ deps) d ds more lines =
        let line = lines.3 in
        let next : Drafted = with_all_depends d (d.depends ++ e ∷ []) in
        let end : KindHead → KindHead → Bool → Found Drafted = λ first second same. Ok
        (with_all_depends d (d.depends ++ record { a = first.number; b = second.number; same = same } ∷ [])) in
        let found : with_depend whole n d line.a line.b line.how ≡ Ok next =
        ap (λ (r : Found KindHead). r >>= λ first. kind_of whole n line.b >>= λ second. same_of line.how first second >>=
        λ same. end first second same) line.looked_a
        ∙ ap (λ (r : Found KindHead). r >>= λ second. same_of line.how (kind_head e.a line.first) second >>=
        λ same. end (kind_head e.a line.first) second same) line.looked_b
        ∙ ap (λ (r : Found Bool). r >>= λ same. end (kind_head e.a line.first) (kind_head e.b line.second) same) line.same in
        one d next ds lines.0 lines.1 more (Depends line.a line.b line.how) lines.2 line.is found
        ∙ add_depends deps next lines.1 more lines.4
        ∙ ap (λ l. each (with_declaration whole n) (with_all_depends d l) more) (append_assoc d.depends (e ∷ []) deps)

    -- a file that is read once
    file_read : (d : Drafted) (s : Source) (file : WrittenSpan) → is_file_text s.file ≡ true → inside whole file ≡ s.file
        → list_any (is_same_text s.file) (filter_map file_of_source d.sources) ≡ false → file_of whole d.sources file ≡ Ok s.file
    file_read d s file fits is fresh =
        let read : List ℕ → Bool = λ bytes. list_any (is_same_text bytes) (filter_map file_of_source d.sources) in
        ap (λ b. unless (nat_lt 0 (length b)) (f.WrongShape file.from) >> (unless (not (read b)) (f.TwiceNamed file.from) >> Ok b)) is
        ∙ ap (λ t. unless t (f.WrongShape file.from) >> (unless (not (read s.file)) (f.TwiceNamed file.from) >> Ok s.file)) (file_facts s fits).some
        ∙ ap (λ t. unless (not t) (f.TwiceNamed file.from) >> Ok s.file) fresh

    rate_read : (s : Source) (at : ℕ) → nat_le s.rate 1000000000 ≡ true → rate_of (Some (record { value = pos s.rate; at = at })) ≡ Ok s.rate
    rate_read s at fits = ap (λ t. unless t (f.OverLimit Rate s.rate) >> Ok s.rate) fits

    tags_read : TagsMeet → TagsDiffer → (d : Drafted) (s : Source) (tags : List WrittenTag) → SourceFacts kinds s → d.itags + all_tags s.tags ≤ 256
        → Pairs (Lists whole utf8 kinds named_kinds n known_kinds) s.tags tags
        → tags_of whole n d.itags tags ≡ Ok (record { tags = s.tags; itags = d.itags + all_tags s.tags })
    tags_read meet differ d s tags facts few are =
        list_all_tags whole utf8 kinds named_kinds n known_kinds meet [] s.tags tags d.itags few (sym (differ s.tags) ∙ facts.apart) are

    abbrev added : Drafted → Source → Drafted
    added d s = with_all_sources d (d.sources ++ s ∷ []) (d.itags + all_tags s.tags)

    add_file : TagsMeet → TagsDiffer → (d : Drafted) (s : Source) (ds : List Declaration) (line : FileIs whole utf8 kinds named_kinds n known_kinds s ds)
        → SourceFacts kinds s → s.every ≡ None → is_file_text s.file ≡ true
        → list_any (is_same_text s.file) (filter_map file_of_source d.sources) ≡ false → d.itags + all_tags s.tags ≤ 256
        → with_source whole n d line.named line.file (Some (record { value = pos s.rate; at = line.rate_at })) line.slack line.tags ≡ Ok (added d s)
    unfolding with_source
    add_file meet differ d s ds line facts every fits fresh few =
        let end : List ℕ → List ℕ → ℕ → ℕ → Listed → Found Drafted =
        λ name bytes rate slack listed. Ok (with_all_sources d (d.sources ++ record {
          name = name;
          file = bytes;
          every = None;
          rate = rate;
          slack = slack;
          tags =
              listed.tags;
        } ∷ []) listed.itags) in
        ap (λ (r : Found (List ℕ)). r >>= λ bytes. rate_of (Some (record { value = pos s.rate; at = line.rate_at })) >>= λ rate. slack_of line.slack >>=
        λ slack. tags_of whole n d.itags line.tags >>= λ listed. end (name_of whole line.named) bytes rate slack listed)
        (file_read d s line.file fits line.file_is fresh)
        ∙ ap (λ (r : Found ℕ). r >>= λ rate. slack_of line.slack >>= λ slack. tags_of whole n d.itags line.tags >>=
        λ listed. end (name_of whole line.named) s.file rate slack listed) (rate_read s line.rate_at facts.rate)
        ∙ ap (λ (r : Found ℕ). r >>= λ slack. tags_of whole n d.itags line.tags >>=
        λ listed. end (name_of whole line.named) s.file s.rate slack listed) line.slack_is
        ∙ ap (λ (r : Found Listed). r >>= λ listed. end (name_of whole line.named) s.file s.rate s.slack listed)
        (tags_read meet differ d s line.tags facts few line.are)
        ∙ (λ i. Ok (with_all_sources d (d.sources ++ record {
          name = line.name_is i;
          file = s.file;
          every = sym every i;
          rate = s.rate;
          slack = s.slack;
          tags =
              s.tags;
        } ∷ []) (d.itags + all_tags s.tags)))

    -- the kind of a clock's tag
    one_of : (tags : List TagRef) (tag : WrittenSpan) → Pairs (Lists whole utf8 kinds named_kinds n known_kinds) tags (alone tag ∷ [])
        → list_all (plain_tick_tag kinds) tags ≡ true
        → (head : KindHead) × (kind_of whole n tag ≡ Ok head) × (is_tick_head head ≡ true)
    one_of [] tag are ticks = absurd are
    one_of (t ∷ tags) tag are ticks =
        let l = are.0 in (
          kind_head t.kind l.kind,
          l.looked,
          ap plain_is_tick (sym l.found) ∙ and_left (plain_tick_tag kinds t) (list_all (plain_tick_tag kinds) tags) ticks,
        )

    tick_read : TagsMeet → TagsDiffer → (d : Drafted) (s : Source) (every : ℕ) (tag : WrittenSpan) → SourceFacts kinds s → ClockFacts kinds s every
        → d.itags + all_tags s.tags ≤ 256 → Pairs (Lists whole utf8 kinds named_kinds n known_kinds) s.tags (alone tag ∷ [])
        → tick_of whole n d.itags tag ≡ Ok (record { tags = s.tags; itags = d.itags + all_tags s.tags })
    tick_read meet differ d s every tag facts clock few are =
        let l = one_of s.tags tag are clock.ticks in
        ap (λ (r : Found KindHead). r >>= λ kind. unless (is_tick_head kind) (f.WrongShape tag.from) >> tags_of whole n d.itags (alone tag ∷ [])) l.1
        ∙ ap (λ b. unless b (f.WrongShape tag.from) >> tags_of whole n d.itags (alone tag ∷ [])) l.2
        ∙ tags_read meet differ d s (alone tag ∷ []) facts few are

    add_clock : TagsMeet → TagsDiffer → is_version_3 n ≡ true → (d : Drafted) (s : Source) (every : ℕ) (ds : List Declaration)
        (line : ClockIs whole utf8 kinds named_kinds n known_kinds s every ds)
        → SourceFacts kinds s → s.every ≡ Some every → ClockFacts kinds s every → d.itags + all_tags s.tags ≤ 256
        → with_clock whole n d line.at line.named (record { value = pos every; at = line.every_at }) (Some (record { value = pos s.rate; at = line.rate_at }))
        line.tag ≡ Ok (added d s)
    unfolding with_clock
    add_clock meet differ newer d s every ds line facts is clock few =
        let found : Listed = record { tags = s.tags; itags = d.itags + all_tags s.tags } in
        let ticked : tick_of whole n d.itags line.tag ≡ Ok found = tick_read meet differ d s every line.tag facts clock few line.are in
        let end : ℕ → ℕ → Listed → Found Drafted =
        λ period rate listed. Ok (with_all_sources d (d.sources ++ record {
          name = name_of whole line.named;
          file = [];
          every = Some period;
          rate = rate;
          slack = 0;
          tags =
              listed.tags;
        } ∷ []) listed.itags) in
        let rates : Found ℕ = rate_of (Some (record { value = pos s.rate; at = line.rate_at })) in
        ap (λ b. unless b (f.WrongShape line.at) >> (period_of (record { value = pos every; at = line.every_at }) >>= λ period. rates >>=
        λ rate. tick_of whole n d.itags line.tag >>= λ listed. end period rate listed)) newer
        ∙ ap (λ b. (unless b (f.WrongShape line.every_at) >> Ok every) >>= λ period. rates >>= λ rate. tick_of whole n d.itags line.tag >>=
        λ listed. end period rate listed) clock.within
        ∙ ap (λ (r : Found ℕ). r >>= λ rate. tick_of whole n d.itags line.tag >>= λ listed. end every rate listed) (rate_read s line.rate_at facts.rate)
        ∙ ap (λ (r : Found Listed). r >>= λ listed. end every s.rate listed) ticked
        ∙ (λ i. Ok (with_all_sources d (d.sources ++ record {
          name = line.name_is i;
          file = sym clock.no_file i;
          every = sym is i;
          rate = s.rate;
          slack = sym clock.prompt i;
          tags =
              s.tags;
        } ∷ []) (d.itags + all_tags s.tags)))

    -- a source with a file is read once
    not_again : (done ss : List Source) (s : Source) (every : Option ℕ) → s.every ≡ every
        → are_distinct is_same_text (filter_map file_of_source (done ++ s ∷ ss)) ≡ true → every ≡ None
        → list_any (is_same_text s.file) (filter_map file_of_source done) ≡ false
    not_again done ss s every is apart none =
        let files : List (List ℕ) = filter_map file_of_source done in
        let has : file_of_source s ≡ Some s.file = ap (λ o. if is_some o then None else Some s.file) (is ∙ none) in
        let split : filter_map file_of_source (done ++ s ∷ ss) ≡ files ++ s.file ∷ filter_map file_of_source ss =
        filter_map-append file_of_source done (s ∷ ss)
        ∙ ap (λ (o : Option (List ℕ)). files ++ cons_option o (filter_map file_of_source ss)) has in
        not_before files s.file (filter_map file_of_source ss) (ap (are_distinct is_same_text) (sym split) ∙ apart)

    -- one source is added
    abbrev Newer : List Source → Type 0
    Newer ss = (is_version_3 n || not (list_any is_clock ss)) ≡ true

    newer_here : (new : Bool) (s : Source) (ss : List Source) (every : ℕ) → s.every ≡ Some every → (new || not (list_any is_clock (s ∷ ss))) ≡ true
        → new ≡ true
    newer_here true s ss every is newer = refl
    newer_here false s ss every is newer =
        absurd (let both : false ≡ true = ap (λ o. not (is_some o || list_any is_clock ss)) (sym is) ∙ newer in cc)

    newer_behind : (new here behind : Bool) → (new || not (here || behind)) ≡ true → (new || not behind) ≡ true
    newer_behind true here behind h = refl
    newer_behind false true behind h = absurd cc
    newer_behind false false behind h = h

    record OneAdded (d : Drafted) (s : Source) (ds : List Declaration) : Type 0 where
      line : Declaration
      is : ds ≡ line ∷ []
      adds : with_declaration whole n d line ≡ Ok (added d s)

    one_added : TagsMeet → TagsDiffer → (done ss : List Source) (s : Source) (every : Option ℕ) (d : Drafted) (ds : List Declaration)
        → OriginIs whole utf8 kinds named_kinds n known_kinds s every ds → s.every ≡ every → d.sources ≡ done → SourceFacts kinds s
        → are_distinct is_same_text (filter_map file_of_source (done ++ s ∷ ss)) ≡ true → Newer (s ∷ ss)
        → d.itags + all_tags s.tags ≤ 256 → OneAdded d s ds
    unfolding with_declaration
    one_added meet differ done ss s None d ds line is so_far facts apart newer few =
        let fits : is_file_text s.file ≡ true = subst (λ o. plain_origin kinds s o ≡ true) is facts.origin in
        let fresh = ap (λ l. list_any (is_same_text s.file) (filter_map file_of_source l)) so_far ∙ not_again done ss s None is apart refl in
        record {
          line = SourceLine line.named line.file (Some (record { value = pos s.rate; at = line.rate_at })) line.slack line.tags;
          is = line.is;
          adds = add_file meet differ d s ds line facts is fits fresh few;
        }
    one_added meet differ done ss s (Some every) d ds line is so_far facts apart newer few =
        let clock = clock_facts kinds s every (subst (λ o. plain_origin kinds s o ≡ true) is facts.origin) in
        record {
          line = ClockLine line.at line.named (record { value = pos every; at = line.every_at }) (Some (record { value = pos s.rate; at = line.rate_at }))
              line.tag;
          is = line.is;
          adds = add_clock meet differ (newer_here (is_version_3 n) s ss every is newer) d s every ds line facts is clock few;
        }

    pub add_sources : TagsMeet → TagsDiffer → (done ss : List Source) (d : Drafted) (ds more : List Declaration)
        → Lines (SourceIs whole utf8 kinds named_kinds n known_kinds) ss ds → d.sources ≡ done
        → list_all (plain_source_fits kinds) ss ≡ true → Newer ss → are_distinct is_same_text
        (filter_map file_of_source (done ++ ss)) ≡ true → d.itags + total_itags ss ≤ 256
        → each (with_declaration whole n) d (ds ++ more) ≡ each (with_declaration whole n) (with_all_sources d (done ++ ss) (d.itags + total_itags ss)) more
    add_sources meet differ done [] d ds more lines so_far fits newer apart few =
        nothing d ds more lines
        ∙ ap (λ l. each (with_declaration whole n) (with_all_sources d l d.itags) more) (so_far ∙ sym (append-nil done))
        ∙ ap (λ k. each (with_declaration whole n) (with_all_sources d (done ++ []) k) more) (let same : d.itags ≡ d.itags + 0 = omega arith in same)
    add_sources meet differ done (s ∷ ss) d ds more lines so_far fits newer apart few =
        let facts = source_facts kinds s (and_left (plain_source_fits kinds s) (list_all (plain_source_fits kinds) ss) fits) in
        let here = one_added meet differ done ss s s.every d lines.0 lines.3 refl so_far facts apart newer (omega (arith, few)) in
        let next : Drafted = with_all_sources d (done ++ s ∷ []) (d.itags + all_tags s.tags) in
        let found : with_declaration whole n d here.line ≡ Ok next = here.adds
        ∙ ap (λ l. Ok (with_all_sources d (l ++ s ∷ []) (d.itags + all_tags s.tags))) so_far in
        let regrouped : (done ++ s ∷ []) ++ ss ≡ done ++ s ∷ ss = append_assoc done (s ∷ []) ss in
        one d next ds lines.0 lines.1 more here.line lines.2 here.is found
        ∙ add_sources meet differ (done ++ s ∷ []) ss next lines.1 more lines.4 refl
        (and_right (plain_source_fits kinds s) (list_all (plain_source_fits kinds) ss) fits)
        (newer_behind (is_version_3 n) (is_clock s) (list_any is_clock ss) newer)
        (ap (λ l. are_distinct is_same_text (filter_map file_of_source l)) regrouped ∙ apart) (omega (arith, few))
        ∙ ap (λ l. each (with_declaration whole n) (with_all_sources d l (d.itags + all_tags s.tags + total_itags ss)) more) regrouped
        ∙ ap (λ k. each (with_declaration whole n) (with_all_sources d (done ++ s ∷ ss) k) more)
        (let same : d.itags + all_tags s.tags + total_itags ss ≡ d.itags + (all_tags s.tags + total_itags ss) = omega arith in same)

  module _ (families : List Family) (names : list_all (λ (f : Family). is_name f.name) families ≡ true) (known_families : FamiliesKnown families n)
      (kinds : List PlainKind) (known_kinds : KindsKnown kinds n) where
    -- no number from this one on is given its actions yet
    abbrev Free : ℕ → List ℕ → Type 0
    Free i given = (j : ℕ) → i ≤ j → list_any (λ g. g == j) given ≡ false

    -- one kind has its actions
    record Given (i : ℕ) (d : Drafted) (new : List PlainKind) (given : List ℕ) (old : List PlainKind) (ds more : List Declaration) : Type 0 where
      now : List ℕ
      leads : each (with_declaration whole n) (with_kinds d old given) (ds ++ more) ≡ each (with_declaration whole n) (with_kinds d new now) more
      free : Free i now

    still_free : (i : ℕ) (given : List ℕ) → Free i given → Free (i + 1) (given ++ i ∷ [])
    still_free i given free = λ j le.
        let other : (i == j) ≡ false = grind (arith, common_steps) in
        list_any-append (λ g. g == j) given (i ∷ []) ∙ ap (λ b. b || ((i == j) || false)) (free j (omega arith)) ∙ ap (λ b. b || false) other

    one_on : (done : List PlainKind) (k : PlainKind) (rest : List PlainKind) (d : Drafted) (given : List ℕ) (actions : List PlainAction)
        (here more : List Declaration)
        → k.actions ≡ actions → length actions ≤ 32
        → slice_get kinds (length done) ≡ Some k → Free (length done) given → ActionsAre whole utf8 families names n known_families
        (kind_head (length done) k) k.name actions here
        → Given (length done + 1) d (done ++ k ∷ rest) given (done ++ without_actions k ∷ rest) here more
    unfolding each with_declaration with_on
    one_on done k rest d given [] here more are few found free line = record {
      now = given;
      leads =
          ap (λ l. each (with_declaration whole n) (with_kinds d (done ++ without_actions k ∷ rest) given) (l ++ more)) line
          ∙ ap (λ l. each (with_declaration whole n) (with_kinds d (done ++ record k { actions = l } ∷ rest) given) more) (sym are);
      free = λ j le. free j (omega arith);
    }
    one_on done k rest d given (a ∷ actions) here more are few found free line =
        let i : ℕ = length done in
        let old : List PlainKind = done ++ without_actions k ∷ rest in
        let head : KindHead = kind_head i k in
        let dos : List WrittenDo = line.first ∷ line.others in
        let looked : kind_of whole n line.named ≡ Ok head = ap (λ name. known line.named.from (look_up name n.kinds)) line.name_is
        ∙ ap (known line.named.from) (known_kinds i k found) in
        let means : resolved_actions whole n head dos ≡ Ok (a ∷ actions) =
        do_all whole utf8 families names n known_families head [] (a ∷ actions) dos (omega (arith, few)) line.are in
        let new : with_actions old i (a ∷ actions) ≡ done ++ k ∷ rest = given_actions done (without_actions k) rest (a ∷ actions)
        ∙ ap (λ l. done ++ record k { actions = l } ∷ rest) (sym are) in
        let end : ℕ → List PlainAction → Found Drafted = λ number actions. Ok (with_kinds d (with_actions old number actions) (given ++ number ∷ [])) in
        let done_so : with_on whole n (with_kinds d old given) line.named dos ≡ Ok (with_kinds d (done ++ k ∷ rest) (given ++ i ∷ [])) =
        ap (λ (r : Found KindHead). r >>= λ kind. unless (not (list_any (λ g. g == kind.number) given)) (f.TwiceNamed line.named.from) >>
        (resolved_actions whole n kind dos >>= λ actions. end kind.number actions)) looked
        ∙ ap (λ b. unless (not b) (f.TwiceNamed line.named.from) >> (resolved_actions whole n head dos >>= λ actions. end i actions)) (free i (omega arith))
        ∙ ap (λ (r : Found (List PlainAction)). r >>= λ actions. end i actions) means
        ∙ ap (λ ks. Ok (with_kinds d ks (given ++ i ∷ []))) new in
        record {
          now = given ++ i ∷ [];
          leads =
              ap (λ l. each (with_declaration whole n) (with_kinds d old given) (l ++ more)) line.is
              ∙ ap (λ (r : Found Drafted). r >>= λ s. each (with_declaration whole n) s more) done_so;
          free = still_free i given free;
        }

    pub record AllGiven (d : Drafted) (new : List PlainKind) (given : List ℕ) (old : List PlainKind) (ds more : List Declaration) : Type 0 where
      pub now : List ℕ
      pub leads : each (with_declaration whole n) (with_kinds d old given) (ds ++ more) ≡ each (with_declaration whole n) (with_kinds d new now) more

    pub add_ons : (done ks : List PlainKind) (d : Drafted) (given : List ℕ) (ds more : List Declaration) → kinds ≡ done ++ ks
        → list_all (plain_kind_fits families) ks ≡ true → Free (length done) given → Ons whole utf8 families names n known_families (length done) ks ds
        → AllGiven d (done ++ ks) given (done ++ map without_actions ks) ds more
    add_ons done [] d given ds more all fits free lines = record {
      now = given;
      leads =
          ap (λ l. each (with_declaration whole n) (with_kinds d (done ++ []) given) (l ++ more)) lines;
    }
    add_ons done (k ∷ ks) d given ds more all fits free lines =
        let few = true_le (length k.actions) 32 (three_middle (is_name k.name) (nat_le (length k.actions) 32)
        (list_all (plain_action_fits families k.keyed k.has_value) k.actions)
        (and_left (plain_kind_fits families k) (list_all (plain_kind_fits families) ks) fits)) in
        let found : slice_get kinds (length done) ≡ Some k = ap (λ l. slice_get l (length done)) all ∙ slice_get-behind done k ks in
        let first = one_on done k (map without_actions ks) d given k.actions lines.0 (lines.1 ++ more) refl few found free lines.3 in
        let next : List PlainKind = done ++ k ∷ [] in
        let size : length done + 1 ≡ length next = sym (length-append done (k ∷ [])) in
        let rest = add_ons next ks d first.now lines.1 more (all ∙ sym (append_assoc done (k ∷ []) ks))
        (and_right (plain_kind_fits families k) (list_all (plain_kind_fits families) ks) fits)
        (subst (λ i. Free i first.now) size first.free) (subst (λ i. Ons whole utf8 families names n known_families i ks lines.1) size lines.4) in
        record {
          now = rest.now;
          leads =
              ap (λ l. each (with_declaration whole n) (with_kinds d (done ++ map without_actions (k ∷ ks)) given) l)
              (ap (λ l. l ++ more) lines.2 ∙ append_assoc lines.0 lines.1 more)
              ∙ first.leads
              ∙ ap (λ l. each (with_declaration whole n) (with_kinds d l first.now) (lines.1 ++ more))
              (sym (append_assoc done (k ∷ []) (map without_actions ks)))
              ∙ rest.leads
              ∙ ap (λ l. each (with_declaration whole n) (with_kinds d l rest.now) more) (append_assoc done (k ∷ []) ks);
        }
