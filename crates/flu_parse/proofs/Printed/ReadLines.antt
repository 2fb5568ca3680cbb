-- The declarations of the normal form are read as what was printed.
use Rattle.std.proofs.Common.{◌≡◌, ◌+◌, ℕ, pos, Bool, true, false, ◌&&◌, ◌||◌, List, [], ◌∷◌, ◌++◌, length, Option, Some, None, Ok, refl, sym, ap, subst}
use Rattle.std.proofs.Common.{◌∙◌, arith}
use Rattle.std.specs.Prelude.{nat_lt, nat_le, not, is_some, if◌then◌else◌, slice_get, codes}
use Rattle.std.specs.List.{list_all}
use Rattle.std.specs.Str.{IsUtf8}
use Rattle.std.proofs.lemmas.List.Concat.{flat_map-append}
use Rattle.flu_lemmas.proofs.Tests.{and_left, and_right, not_true}
use Rattle.flu_lemmas.proofs.Numbers.{none_left}
use Rattle.flu_lemmas.proofs.Booleans.{three_left, three_middle, three_right}
use Rattle.flu_lemmas.specs.Items.{lines_before, Begins, Pairs}
use Rattle.flu_lemmas.proofs.Items.{begins_append, Took, took_none, ItemIs, read_items}
use Rattle.flu_text.specs.declared.words.Word.{Word}
use Rattle.flu_text.specs.declared.words.Word.TheVariants as w
use Rattle.flu_text.specs.declared.words.Mark.TheVariants as m
use Rattle.flu_text.specs.declared.words.Token.{Token}
use Rattle.flu_text.specs.Layout.{Piece as Laid}
use Rattle.flu_model.specs.declared.jobs.Sort.{Sort}
use Rattle.flu_model.specs.declared.jobs.Sort.TheVariants as sort
use Rattle.flu_model.specs.declared.jobs.Family.{Family}
use Rattle.flu_model.specs.declared.jobs.Depend.{Depend}
use Rattle.flu_model.specs.declared.jobs.TagRef.{TagRef}
use Rattle.flu_model.specs.declared.jobs.Source.{Source}
use Rattle.flu_model.specs.Erasure.{PlainAction, PlainKind}
use Rattle.flu_text.specs.declared.written.WrittenSpan.{WrittenSpan}
use Rattle.flu_text.specs.declared.written.WrittenNumber.{WrittenNumber}
use Rattle.flu_text.specs.declared.written.WrittenKeys.{WrittenKeys}
use Rattle.flu_text.specs.declared.written.WrittenKeys.TheVariants as keys
use Rattle.flu_syntax.specs.declared.tree.WrittenTag.{WrittenTag}
use Rattle.flu_syntax.specs.declared.tree.WrittenRelation.{WrittenRelation}
use Rattle.flu_syntax.specs.declared.tree.WrittenRelation.TheVariants as relation
use Rattle.flu_text.specs.Signs.{is_name_word, span_of}
use Rattle.flu_syntax.specs.Tree.{Declaration, Cell, Tag, Names, Depends, On, Source as SourceLine, Clock as ClockLine}
use Rattle.flu_syntax.specs.Tree.{Action as WrittenDo}
use Rattle.flu_text.specs.Signs.{IsSign, Any}
use Rattle.flu_text.specs.Signs.{separated, text as text_signs}
use Rattle.flu_text.specs.Spelling.{contextual_of}
use Rattle.flu_text.specs.declared.words.Contextual.TheVariants as contextual
use Rattle.flu_syntax.specs.declared.tree.WrittenBy.{WrittenBy}
use Rattle.flu_syntax.specs.declared.tree.WrittenCells.{WrittenCells}
use Rattle.flu_syntax.specs.declared.tree.WrittenCells.TheVariants as cells
use Rattle.flu_syntax.specs.declared.tree.WrittenItem.{WrittenItem}
use Rattle.flu_syntax.specs.Grammar.{sort_word, value_word, keyed_signs, by_signs, cells_signs, item_signs, relation_signs, action_signs, tag_signs}
use Rattle.flu_syntax.specs.Grammar.{slack_signs, declaration_signs, declarations_signs, IsDeclaration, AreDeclarations}
use Rattle.flu_names.specs.declared.reserved.Reserved.{Reserved}
use Rattle.flu_names.specs.declared.reserved.Reserved.TheVariants as r
use Rattle.flu_names.specs.Names.{is_name}
use Rattle.flu_layout.specs.Spelling.{name_of, inside}
use Rattle.flu_layout.specs.Laid.{line_end, blank, reserved, name, number}
use Rattle.flu_layout.specs.Lists.{between}
use Rattle.flu_layout.specs.Stands.{StandsFor, Stand}
use Rattle.flu_parse.specs.declared.names.KindHead.{KindHead}
use Rattle.flu_parse.specs.Naming.{Naming, is_version_3, look_up, known, kind_of, has_keys, keys_by, items_by}
use Rattle.flu_model.specs.Numberings.{Numbering}
use Rattle.flu_model.specs.ListRules.{is_listed_text, is_list, is_declared_list, family_list_fits}
use Rattle.flu_parse.proofs.Printed.ListFits.{plain_kind_list_fits, list_facts}
use Rattle.flu_model.specs.declared.limits.What.TheVariants.{Slack}
use Rattle.flu_parse.specs.Listings.{slack_of, are_bracketed, alone}
use Rattle.flu_parse.specs.Resolving.{same_of}
use Rattle.flu_parse.specs.declared.faults.JobFault.TheVariants as f
use Rattle.flu_parse.specs.Faults.{◌>>◌, unless}
use Rattle.flu_parse.specs.Printing.{kind_name, list_name}
use Rattle.flu_parse.proofs.Printed.Rules.{plain_kind_is_keyed, plain_depend_fits, plain_tag_fits, plain_is_tick, plain_tick_tag, plain_origin}
use Rattle.flu_parse.proofs.Printed.Rules.{plain_source_fits}
use Rattle.flu_parse.proofs.Printed.Words.{action_words, text_words, texts_words, names_line_words, by_words, keyed_words, sort_reserved, cell_line_words}
use Rattle.flu_parse.proofs.Printed.Words.{item_words, value_reserved, tag_line_words}
use Rattle.flu_parse.proofs.Printed.Words.{behind_depends, same_words, depends_line_words, actions_words, on_line_words, tag_words, listed_words, slack_words}
use Rattle.flu_parse.proofs.Printed.Words.{file_words, clock_words, origin_words, source_line_words}
use Rattle.flu_parse.proofs.Printed.Quotes.{text_stands, inside_stands}
use Rattle.flu_parse.proofs.Printed.LaidLines.{kind_at, SourceFacts, source_facts, ClockFacts, clock_facts}
use Rattle.flu_parse.proofs.Printed.ReadTerms.{FamiliesKnown, ItemsKnown}
use Rattle.flu_parse.proofs.Printed.ReadActions.{Does, action_ok, read_action, are_actions}
use Rattle.flu_parse.proofs.Printed.ReadTags.{kind_head, KindsKnown, Lists, read_tag}
use Rattle.flu_parse.proofs.Kept.Plain.{plain_action_fits, plain_kind_fits}
use Rattle.flu_parse.proofs.Kept.Versions.{action_suits, actions_suit, items_suit}
use Rattle.flu_lemmas.proofs.Elements.{list_all_both}

-- the declarations are those of the items, in order
abbrev pub Lines : {X : Type 0} → (X → List Declaration → Type 0) → List X → List Declaration → Type 0
Lines R [] ds = ds ≡ []
Lines R (x ∷ xs) ds = (here : List Declaration) × (rest : List Declaration) × (ds ≡ here ++ rest) × R x here × Lines R xs rest

pub declarations-append : (a b : List Declaration) → AreDeclarations 64 a → AreDeclarations 64 b → AreDeclarations 64 (a ++ b)
declarations-append [] b h k = k
declarations-append (d ∷ a) b h k = (h.0, declarations-append a b h.1 k)

-- declarations, as they are read
pub record LinesAre (whole : List ℕ) (Means : List Declaration → Type 0) (rest : List Laid) (ts : List Token) : Type 0 where
  pub written : List Declaration
  pub took : Took IsSign (Stand whole) (declarations_signs written) rest ts
  pub are : AreDeclarations 64 written
  pub means : Means written

pub read_lines : {X : Type 0} (whole : List ℕ) (line : X → List Laid → List Laid) (R : X → List Declaration → Type 0) (test : X → Bool)
    → ((x : X) (rest : List Laid) (ts : List Token) → test x ≡ true → Stand whole (line x rest) ts → LinesAre whole (R x) rest ts)
    → (xs : List X) (rest : List Laid) (ts : List Token) → list_all test xs ≡ true → Stand whole (lines_before line xs rest) ts → LinesAre whole
    (Lines R xs) rest ts
read_lines whole line R test each [] rest ts all h = record { written = []; took = record { rest = ts; begins = refl; stand = h }; are = tt; means = refl }
read_lines whole line R test each (x ∷ xs) rest ts all h =
    let here = each x (lines_before line xs rest) ts (and_left (test x) (list_all test xs) all) h in
    let more = read_lines whole line R test each xs rest here.took.rest (and_right (test x) (list_all test xs) all) here.took.stand in
    record {
      written = here.written ++ more.written;
      took = record {
        rest = more.took.rest;
        begins = subst (λ l. Begins IsSign l ts more.took.rest) (sym (flat_map-append declaration_signs here.written more.written))
            (begins_append IsSign (declarations_signs here.written)
            (declarations_signs more.written) ts here.took.rest more.took.rest here.took.begins more.took.begins);
        stand = more.took.stand;
      };
      are = declarations-append here.written more.written here.are more.are;
      means = (here.written, more.written, refl, here.means, more.means);
    }

-- one declaration
one_line : (whole : List ℕ) (Means : List Declaration → Type 0) (rest : List Laid) (ts : List Token) (d : Declaration)
    → Took IsSign (Stand whole) (declaration_signs d) rest ts → IsDeclaration 64 d → Means (d ∷ []) → LinesAre whole Means rest ts
one_line whole Means rest ts d took is means = record {
  written = d ∷ [];
  took = record { rest = took.rest; begins = begins_append IsSign (declaration_signs d) [] ts took.rest took.rest took.begins refl; stand = took.stand };
  are = (is, tt);
  means = means;
}

module _ (whole : List ℕ) (utf8 : IsUtf8 whole) where
  -- the word that ends the line
  read_last : (end : Reserved) (rest : List Laid) (ts : List Token) → Stand whole (reserved end line_end ∷ rest) ts
      → Took IsSign (Stand whole) (Any (w.Reserved end) ∷ []) rest ts
  read_last end rest ts h = record { rest = h.1; begins = (h.0, h.1, h.2, h.3.word, refl); stand = h.4 }

  same_word : (s : Sort) → w.Reserved (sort_reserved s) ≡ sort_word s
  same_word sort.Sum = refl
  same_word sort.Max = refl
  same_word sort.Last = refl

  same_value : (has_value : Bool) → w.Reserved (value_reserved has_value) ≡ value_word has_value
  same_value true = refl
  same_value false = refl

  -- the texts of a list of names
  abbrev pub TextIs : List ℕ → WrittenSpan → Type 0
  TextIs t s = inside whole s ≡ t

  -- a list of names
  pub record NamesIs (l : Numbering) (ds : List Declaration) : Type 0 where
    pub at : ℕ
    pub named : WrittenSpan
    pub texts : List WrittenSpan
    pub is : ds ≡ Names at named texts ∷ []
    pub name_is : name_of whole named ≡ l.name
    pub are : Pairs TextIs l.texts texts

  read_text : (t behind : List ℕ) (rest : List Laid) (ts : List Token) → is_listed_text t ≡ true → Stand whole (text_words t behind rest) ts
      → ItemIs IsSign (Stand whole) text_signs TextIs t rest ts
  read_text t behind rest ts fits h = record {
    written = span_of h.0;
    took = record { rest = h.1; begins = (h.0, h.1, h.2, (h.3.word, refl, refl), refl); stand = h.4 };
    is = inside_stands whole t (span_of h.0) (text_stands whole t behind h.0 utf8 h.3);
  }

  -- the texts of a list, of which there are some
  record TextsAre (texts : List (List ℕ)) (rest : List Laid) (ts : List Token) : Type 0 where
    first : WrittenSpan
    others : List WrittenSpan
    took : Took IsSign (Stand whole) (Any (w.Mark m.Colon) ∷ separated (w.Mark m.Comma) text_signs (first ∷ others)) rest ts
    are : Pairs TextIs texts (first ∷ others)

  read_texts : (texts : List (List ℕ)) (rest : List Laid) (ts : List Token) → nat_lt 0 (length texts) ≡ true → list_all is_listed_text texts ≡ true
      → Stand whole (texts_words texts rest) ts → TextsAre texts rest ts
  read_texts [] rest ts some fits h = absurd cc
  read_texts (t ∷ texts) rest ts some fits h =
      let all = read_items IsSign (Stand whole) text_words [] (between m.Comma) text_signs TextIs is_listed_text (Any (w.Mark m.Comma)) read_text
      (λ r ts h. (h.0, h.1, h.2, h.3.word, h.4)) t texts line_end rest h.1 fits h.4 in
      record {
        first = all.first;
        others = all.others;
        took = record { rest = all.took.rest; begins = (h.0, h.1, h.2, h.3.word, all.took.begins); stand = all.took.stand };
        are = all.are;
      }

  names_spelled : w.Name (contextual_of (codes "names")) ≡ w.Name contextual.Names
  unfolding contextual_of
  names_spelled = refl

  pub read_names_line : (l : Numbering) (rest : List Laid) (ts : List Token) → is_list l ≡ true → Stand whole (names_line_words l rest) ts
      → LinesAre whole (NamesIs l) rest ts
  read_names_line l rest ts fits h =
      let facts = list_facts l fits in
      let n = h.4 in
      let texts = read_texts l.texts rest n.1 facts.some facts.texts n.4 in
      one_line whole (NamesIs l) rest ts (Names h.0.from (span_of n.0) (texts.first ∷ texts.others))
      (record {
        rest = texts.took.rest;
        begins = (h.0, h.1, h.2, (h.3.word ∙ names_spelled, refl), (n.0, n.1, n.2, (ap is_name_word n.3.word, refl, refl), texts.took.begins));
        stand = texts.took.stand;
      })
      (λ none. absurd cc)
      (record {
        at = h.0.from;
        named = span_of n.0;
        texts = texts.first ∷ texts.others;
        is = refl;
        name_is = n.3.named refl;
        are = texts.are;
      })

  by_spelled : w.Name (contextual_of (codes "by")) ≡ w.Name contextual.By
  unfolding contextual_of
  by_spelled = refl

  module _ (lists : List Numbering) where
    -- the list that is written for keys or items, if one is
    abbrev pub ByIs : Option ℕ → Option WrittenBy → Type 0
    ByIs None by = by ≡ None
    ByIs (Some number) by = (written : WrittenBy) × (by ≡ Some written) × (name_of whole written.list ≡ list_name lists (Some number))

    -- `by`, and the word that ends the line
    record ByEnd (number : ℕ) (end : Reserved) (rest : List Laid) (ts : List Token) : Type 0 where
      by : WrittenBy
      is : ByIs (Some number) (Some by)
      took : Took IsSign (Stand whole) (by_signs by ++ Any (w.Reserved end) ∷ []) rest ts

    read_by : (number : ℕ) (end : Reserved) (rest : List Laid) (ts : List Token)
        → Stand whole (by_words lists (Some number) (reserved end line_end ∷ rest)) ts → ByEnd number end rest ts
    read_by number end rest ts h =
        let n = h.4 in
        let last = read_last end rest n.1 n.4 in
        let by : WrittenBy = record { at = h.0.from; list = span_of n.0 } in
        record {
          by = by;
          is = (by, refl, n.3.named refl);
          took = record {
            rest = last.rest;
            begins = (h.0, h.1, h.2, (h.3.word ∙ by_spelled, refl), (n.0, n.1, n.2, (ap is_name_word n.3.word, refl, refl), last.begins));
            stand = last.stand;
          };
        }

    -- the declaration of a family
    pub record CellIs (f : Family) (ds : List Declaration) : Type 0 where
      pub named : WrittenSpan
      pub cells : WrittenCells
      pub is : ds ≡ Cell named cells f.sort ∷ []
      pub name_is : name_of whole named ≡ f.name
      pub keyed : has_keys cells ≡ f.keyed
      pub by : ByIs f.list (keys_by cells)

    -- `keyed`, the list, and the word that ends the line
    record CellEnd (keyed : Bool) (l : Option ℕ) (end : Reserved) (rest : List Laid) (ts : List Token) : Type 0 where
      cells : WrittenCells
      has : has_keys cells ≡ keyed
      by : ByIs l (keys_by cells)
      took : Took IsSign (Stand whole) (cells_signs cells ++ Any (w.Reserved end) ∷ []) rest ts

    read_cell_end : (keyed : Bool) (l : Option ℕ) (end : Reserved) (rest : List Laid) (ts : List Token) → (keyed || not (is_some l)) ≡ true
        → Stand whole (keyed_words keyed (by_words lists l (reserved end line_end ∷ rest))) ts → CellEnd keyed l end rest ts
    read_cell_end true None end rest ts fits h =
        let last = read_last end rest h.1 h.4 in
        record {
          cells = cells.Keyed;
          has = refl;
          by = refl;
          took = record { rest = last.rest; begins = (h.0, h.1, h.2, h.3.word, last.begins); stand = last.stand };
        }
    read_cell_end true (Some number) end rest ts fits h =
        let named = read_by number end rest h.1 h.4 in
        record {
          cells = cells.By named.by;
          has = refl;
          by = named.is;
          took = record { rest = named.took.rest; begins = (h.0, h.1, h.2, h.3.word, named.took.begins); stand = named.took.stand };
        }
    read_cell_end false None end rest ts fits h = record { cells = cells.Alone; has = refl; by = refl; took = read_last end rest ts h }
    read_cell_end false (Some number) end rest ts fits h = absurd cc

    pub read_cell_line : (f : Family) (rest : List Laid) (ts : List Token) → family_list_fits lists f ≡ true
        → Stand whole (cell_line_words lists f rest) ts → LinesAre whole (CellIs f) rest ts
    read_cell_line f rest ts fits h =
        let n = h.4 in
        let where_keyed = and_right (is_declared_list lists f.list) (f.keyed || not (is_some f.list)) fits in
        let cell = read_cell_end f.keyed f.list (sort_reserved f.sort) rest n.1 where_keyed n.4 in
        let end = cell.took in
        let signs : cells_signs cell.cells ++ Any (w.Reserved (sort_reserved f.sort)) ∷ [] ≡ cells_signs cell.cells ++ Any (sort_word f.sort) ∷ [] =
        ap (λ (word : Word). cells_signs cell.cells ++ Any word ∷ []) (same_word f.sort) in
        one_line whole (CellIs f) rest ts (Cell (span_of n.0) cell.cells f.sort)
        (record {
          rest = end.rest;
          begins = (
            h.0,
            h.1,
            h.2,
            h.3.word,
            (n.0, n.1, n.2, (ap is_name_word n.3.word, refl, refl), subst (λ l. Begins IsSign l n.1 end.rest) signs end.begins),
          );
          stand = end.stand;
        })
        tt (record { named = span_of n.0; cells = cell.cells; is = refl; name_is = n.3.named refl; keyed = cell.has; by = cell.by })

    -- the declaration of a kind
    pub record TagIs (k : PlainKind) (ds : List Declaration) : Type 0 where
      pub named : WrittenSpan
      pub item : Option WrittenItem
      pub is : ds ≡ Tag named k.keyed item k.has_value ∷ []
      pub name_is : name_of whole named ≡ k.name
      pub has_item : is_some item ≡ k.has_item
      pub by : ByIs k.list (items_by item)

    -- `item`, the list, and the word that ends the line
    record ItemEnd (has_item : Bool) (l : Option ℕ) (end : Reserved) (rest : List Laid) (ts : List Token) : Type 0 where
      item : Option WrittenItem
      has : is_some item ≡ has_item
      by : ByIs l (items_by item)
      took : Took IsSign (Stand whole) (item_signs item ++ Any (w.Reserved end) ∷ []) rest ts

    read_item_end : (has_item : Bool) (l : Option ℕ) (end : Reserved) (rest : List Laid) (ts : List Token) → (has_item || not (is_some l)) ≡ true
        → Stand whole (item_words has_item (by_words lists l (reserved end line_end ∷ rest))) ts → ItemEnd has_item l end rest ts
    read_item_end true None end rest ts fits h =
        let last = read_last end rest h.1 h.4 in
        record {
          item = Some (record { at = h.0.from; by = None });
          has = refl;
          by = refl;
          took = record { rest = last.rest; begins = (h.0, h.1, h.2, (h.3.word, refl), last.begins); stand = last.stand };
        }
    read_item_end true (Some number) end rest ts fits h =
        let named = read_by number end rest h.1 h.4 in
        record {
          item = Some (record { at = h.0.from; by = Some named.by });
          has = refl;
          by = named.is;
          took = record { rest = named.took.rest; begins = (h.0, h.1, h.2, (h.3.word, refl), named.took.begins); stand = named.took.stand };
        }
    read_item_end false None end rest ts fits h = record { item = None; has = refl; by = refl; took = read_last end rest ts h }
    read_item_end false (Some number) end rest ts fits h = absurd cc

    -- and `keyed` before it
    record TagEnd (keyed has_item : Bool) (l : Option ℕ) (end : Reserved) (rest : List Laid) (ts : List Token) : Type 0 where
      item : Option WrittenItem
      has : is_some item ≡ has_item
      by : ByIs l (items_by item)
      took : Took IsSign (Stand whole) (keyed_signs keyed ++ item_signs item ++ Any (w.Reserved end) ∷ []) rest ts

    read_tag_end : (keyed has_item : Bool) (l : Option ℕ) (end : Reserved) (rest : List Laid) (ts : List Token) → (has_item || not (is_some l)) ≡ true
        → Stand whole (keyed_words keyed (item_words has_item (by_words lists l (reserved end line_end ∷ rest)))) ts → TagEnd keyed has_item l end rest ts
    read_tag_end true has_item l end rest ts fits h =
        let last = read_item_end has_item l end rest h.1 fits h.4 in
        record {
          item = last.item;
          has = last.has;
          by = last.by;
          took = record { rest = last.took.rest; begins = (h.0, h.1, h.2, h.3.word, last.took.begins); stand = last.took.stand };
        }
    read_tag_end false has_item l end rest ts fits h =
        let last = read_item_end has_item l end rest ts fits h in
        record { item = last.item; has = last.has; by = last.by; took = last.took }

    pub read_tag_line : (k : PlainKind) (rest : List Laid) (ts : List Token) → plain_kind_list_fits lists k ≡ true
        → Stand whole (tag_line_words lists k rest) ts → LinesAre whole (TagIs k) rest ts
    read_tag_line k rest ts fits h =
        let n = h.4 in
        let tag = read_tag_end k.keyed k.has_item k.list (value_reserved k.has_value) rest n.1
        (and_right (is_declared_list lists k.list) (k.has_item || not (is_some k.list)) fits) n.4 in
        let end = tag.took in
        let front = keyed_signs k.keyed ++ item_signs tag.item in
        let signs : front ++ Any (w.Reserved (value_reserved k.has_value)) ∷ [] ≡ front ++ Any (value_word k.has_value) ∷ [] =
        ap (λ (word : Word). front ++ Any word ∷ []) (same_value k.has_value) in
        one_line whole (TagIs k) rest ts (Tag (span_of n.0) k.keyed tag.item k.has_value)
        (record {
          rest = end.rest;
          begins = (
            h.0,
            h.1,
            h.2,
            h.3.word,
            (n.0, n.1, n.2, (ap is_name_word n.3.word, refl, refl), subst (λ l. Begins IsSign l n.1 end.rest) signs end.begins),
          );
          stand = end.stand;
        })
        tt (record { named = span_of n.0; item = tag.item; is = refl; name_is = n.3.named refl; has_item = tag.has; by = tag.by })

  module _ (kinds : List PlainKind) (named_kinds : list_all (λ (k : PlainKind). is_name k.name) kinds ≡ true) (n : Naming)
      (known_kinds : KindsKnown kinds n) where
    -- a `depends`
    pub record DependsIs (d : Depend) (ds : List Declaration) : Type 0 where
      pub a : WrittenSpan
      pub b : WrittenSpan
      pub how : WrittenRelation
      pub first : PlainKind
      pub second : PlainKind
      pub is : ds ≡ Depends a b how ∷ []
      pub looked_a : kind_of whole n a ≡ Ok (kind_head d.a first)
      pub looked_b : kind_of whole n b ≡ Ok (kind_head d.b second)
      pub same : same_of how (kind_head d.a first) (kind_head d.b second) ≡ Ok d.same

    record SameIs (same : Bool) (a b : KindHead) (rest : List Laid) (ts : List Token) : Type 0 where
      how : WrittenRelation
      took : Took IsSign (Stand whole) (relation_signs how) rest ts
      is : same_of how a b ≡ Ok same

    read_same : (same : Bool) (a b : KindHead) (rest : List Laid) (ts : List Token) → (not same || (a.keyed && b.keyed)) ≡ true
        → Stand whole (same_words same rest) ts → SameIs same a b rest ts
    read_same true a b rest ts fits h = record {
      how = relation.Same h.0.from;
      took = record { rest = h.1; begins = (h.0, h.1, h.2, (h.3.word, refl), refl); stand = h.4 };
      is = ap (λ t. unless t (f.WrongShape h.0.from) >> Ok true) fits;
    }
    read_same false a b rest ts fits h = record { how = relation.None; took = record { rest = ts; begins = refl; stand = h }; is = refl }

    kind_is : (i : ℕ) (k : PlainKind) (t : Token) (behind : List ℕ) → slice_get kinds i ≡ Some k
        → StandsFor whole (name (kind_name (slice_get kinds i)) behind) t → kind_of whole n (span_of t) ≡ Ok (kind_head i k)
    kind_is i k t behind found h =
        ap (λ name. known t.from (look_up name n.kinds)) (h.named refl ∙ ap kind_name found)
        ∙ ap (known t.from) (known_kinds i k found)

    pub read_depends_line : (d : Depend) (rest : List Laid) (ts : List Token) → plain_depend_fits kinds d ≡ true
        → Stand whole (depends_line_words kinds d rest) ts → LinesAre whole (DependsIs d) rest ts
    read_depends_line d rest ts fits h =
        let in_a = nat_lt d.a (length kinds) in
        let in_b = nat_lt d.b (length kinds) in
        let keyed_a = plain_kind_is_keyed (slice_get kinds d.a) in
        let keyed_b = plain_kind_is_keyed (slice_get kinds d.b) in
        let same_ok : Bool = not d.same || (keyed_a && keyed_b) in
        let first = kind_at kinds d.a (three_left in_a in_b same_ok fits) in
        let second = kind_at kinds d.b (three_middle in_a in_b same_ok fits) in
        let a = h.4 in
        let b = a.4 in
        let ok : (not d.same || (first.kind.keyed && second.kind.keyed)) ≡ true =
        ap (λ o. not d.same || (plain_kind_is_keyed o && second.kind.keyed)) (sym first.found)
        ∙ ap (λ o. not d.same || (keyed_a && plain_kind_is_keyed o)) (sym second.found) ∙ three_right in_a in_b same_ok fits in
        let same = read_same d.same (kind_head d.a first.kind) (kind_head d.b second.kind) rest b.1 ok b.4 in
        one_line whole (DependsIs d) rest ts (Depends (span_of a.0) (span_of b.0) same.how)
        (record {
          rest = same.took.rest;
          begins = (
            h.0,
            h.1,
            h.2,
            h.3.word,
            (a.0, a.1, a.2, (ap is_name_word a.3.word, refl, refl), (b.0, b.1, b.2, (ap is_name_word b.3.word, refl, refl), same.took.begins)),
          );
          stand = same.took.stand;
        })
        tt (record {
          a = span_of a.0;
          b = span_of b.0;
          how = same.how;
          first = first.kind;
          second = second.kind;
          is = refl;
          looked_a = kind_is d.a first.kind a.0 blank first.found a.3;
          looked_b = kind_is d.b second.kind b.0 (behind_depends d.same) second.found b.3;
          same = same.is;
        })

    -- a source with a file
    pub record FileIs (s : Source) (ds : List Declaration) : Type 0 where
      pub named : WrittenSpan
      pub file : WrittenSpan
      pub rate_at : ℕ
      pub slack : Option WrittenNumber
      pub tags : List WrittenTag
      pub is : ds ≡ SourceLine named file (Some (record { value = pos s.rate; at = rate_at })) slack tags ∷ []
      pub slack_is : slack_of slack ≡ Ok s.slack
      pub name_is : name_of whole named ≡ s.name
      pub file_is : inside whole file ≡ s.file
      pub are : Pairs (Lists whole utf8 kinds named_kinds n known_kinds) s.tags tags

    -- a clock
    pub record ClockIs (s : Source) (every : ℕ) (ds : List Declaration) : Type 0 where
      pub at : ℕ
      pub named : WrittenSpan
      pub every_at : ℕ
      pub rate_at : ℕ
      pub tag : WrittenSpan
      pub is : ds ≡ ClockLine at named (record { value = pos every; at = every_at }) (Some (record { value = pos s.rate; at = rate_at })) tag ∷ []
      pub name_is : name_of whole named ≡ s.name
      pub are : Pairs (Lists whole utf8 kinds named_kinds n known_kinds) s.tags (alone tag ∷ [])

    abbrev pub OriginIs : Source → Option ℕ → List Declaration → Type 0
    OriginIs s None ds = FileIs s ds
    OriginIs s (Some every) ds = ClockIs s every ds

    abbrev pub SourceIs : Source → List Declaration → Type 0
    SourceIs s ds = OriginIs s s.every ds

    -- the tags of a source, of which there are some
    record ListedAre (tags : List TagRef) (rest : List Laid) (ts : List Token) : Type 0 where
      first : WrittenTag
      others : List WrittenTag
      took : Took IsSign (Stand whole) (Any (w.Mark m.Colon) ∷ separated (w.Mark m.Comma) tag_signs (first ∷ others)) rest ts
      are : Pairs (Lists whole utf8 kinds named_kinds n known_kinds) tags (first ∷ others)

    read_listed : (tags : List TagRef) (rest : List Laid) (ts : List Token) → nat_lt 0 (length tags) ≡ true → list_all (plain_tag_fits kinds) tags ≡ true
        → Stand whole (listed_words kinds tags rest) ts → ListedAre tags rest ts
    read_listed [] rest ts some fits h = absurd cc
    read_listed (t ∷ tags) rest ts some fits h =
        let all = read_items IsSign (Stand whole) (tag_words kinds) [] (between m.Comma) tag_signs (Lists whole utf8 kinds named_kinds n known_kinds)
        (plain_tag_fits kinds)
        (Any (w.Mark m.Comma)) (read_tag whole utf8 kinds named_kinds n known_kinds)
        (λ r ts h. (h.0, h.1, h.2, h.3.word, h.4)) t tags line_end rest h.1 fits h.4 in
        record {
          first = all.first;
          others = all.others;
          took = record {
            rest = all.took.rest;
            begins = (h.0, h.1, h.2, h.3.word, all.took.begins);
            stand =
                all.took.stand;
          };
          are = all.are;
        }

    -- a slack, as it is read
    record SlackIs (slack : ℕ) (rest : List Laid) (ts : List Token) : Type 0 where
      written : Option WrittenNumber
      took : Took IsSign (Stand whole) (slack_signs written) rest ts
      is : slack_of written ≡ Ok slack

    read_slack : (slack : ℕ) (rest : List Laid) (ts : List Token) → nat_le slack 60000 ≡ true → Stand whole (slack_words slack rest) ts → SlackIs slack rest ts
    read_slack slack rest ts small h = by (nat_lt 0 slack) refl h
      where
        by : (some : Bool) → nat_lt 0 slack ≡ some → Stand whole (if some then reserved r.Slack blank ∷ number (pos slack) [] ∷ rest else rest) ts
            → SlackIs slack rest ts
        by true e h = record {
          written = Some (record { value = pos slack; at = h.4.0.from });
          took = record { rest = h.4.1; begins = (h.0, h.1, h.2, h.3.word, (h.4.0, h.4.1, h.4.2, (h.4.3.word, refl), refl)); stand = h.4.4 };
          is = ap (λ b. unless b (f.OverLimit Slack slack) >> Ok slack) small;
        }
        by false e h = record { written = None; took = took_none IsSign (Stand whole) rest ts h; is = ap Ok (none_left slack e) }

    read_file : (s : Source) (rest : List Laid) (ts : List Token) → SourceFacts kinds s → Stand whole (file_words kinds s rest) ts
        → LinesAre whole (FileIs s) rest ts
    read_file s rest ts facts h =
        let a = h.4 in
        let b = a.4 in
        let c = b.4 in
        let d = c.4 in
        let slack = read_slack s.slack (listed_words kinds s.tags rest) d.1 facts.slack d.4 in
        let listed = read_listed s.tags rest slack.took.rest facts.some facts.tags slack.took.stand in
        let tags : List WrittenTag = listed.first ∷ listed.others in
        let behind = begins_append IsSign (slack_signs slack.written) (Any (w.Mark m.Colon) ∷ separated (w.Mark m.Comma) tag_signs tags) d.1 slack.took.rest
        listed.took.rest slack.took.begins listed.took.begins in
        one_line whole (FileIs s) rest ts (SourceLine (span_of a.0) (span_of b.0) (Some (record { value = pos s.rate; at = d.0.from })) slack.written tags)
        (record {
          rest = listed.took.rest;
          begins = (
            h.0,
            h.1,
            h.2,
            h.3.word,
            (
              a.0,
              a.1,
              a.2,
              (ap is_name_word a.3.word, refl, refl),
              (
                b.0,
                b.1,
                b.2,
                (b.3.word, refl, refl),
                (c.0, c.1, c.2, c.3.word, (d.0, d.1, d.2, (d.3.word, refl), behind)),
              ),
            ),
          );
          stand = listed.took.stand;
        })
        (λ none. absurd cc)
        (record {
          named = span_of a.0;
          file = span_of b.0;
          rate_at = d.0.from;
          slack = slack.written;
          tags = tags;
          is = refl;
          slack_is = slack.is;
          name_is = a.3.named refl;
          file_is = inside_stands whole s.file (span_of b.0) (text_stands whole s.file blank b.0 utf8 b.3);
          are = listed.are;
        })

    clock_spelled : w.Name (contextual_of (codes "clock")) ≡ w.Name contextual.Clock
    unfolding contextual_of
    clock_spelled = refl

    every_spelled : w.Name (contextual_of (codes "every")) ≡ w.Name contextual.Every
    unfolding contextual_of
    every_spelled = refl

    -- a kind without key has no brackets
    no_brackets : (keyed : Bool) (ks : WrittenKeys) → keyed ≡ false → are_bracketed keyed ks ≡ true → ks ≡ keys.Alone
    no_brackets keyed keys.Alone no_key fits = refl
    no_brackets keyed (keys.One k) no_key fits = absurd (let both : true ≡ false = sym fits ∙ no_key in cc)
    no_brackets keyed (keys.Range low high) no_key fits = absurd (let both : true ≡ false = sym fits ∙ no_key in cc)

    unkeyed : (k : PlainKind) → plain_is_tick (Some k) ≡ true → k.keyed ≡ false
    unkeyed k ticks = not_true k.keyed (and_left (not k.keyed) (not k.has_item) (and_left (not k.keyed && not k.has_item) (not k.has_value) ticks))

    -- the one tag of a clock
    one_listed : (tags : List TagRef) (first : WrittenTag) (others : List WrittenTag) → length tags ≡ 1 → list_all (plain_tick_tag kinds) tags ≡ true
        → Pairs (Lists whole utf8 kinds named_kinds n known_kinds) tags (first ∷ others) → first ∷ others ≡ alone first.kind ∷ []
    one_listed [] first others one ticks are = absurd are
    one_listed (t ∷ []) first (other ∷ others) one ticks are = absurd are.1
    one_listed (t ∷ u ∷ tags) first others one ticks are = absurd (omega arith)
    one_listed (t ∷ []) first [] one ticks are =
        let l = are.0 in
        let tick : plain_is_tick (Some l.kind) ≡ true = ap plain_is_tick (sym l.found) ∙ and_left (plain_tick_tag kinds t) true ticks in
        let ks = no_brackets l.kind.keyed first.keys (unkeyed l.kind tick) l.bracketed in
        (λ i. record { kind = first.kind; keys = ks i } ∷ [])

    read_clock : (s : Source) (every : ℕ) (rest : List Laid) (ts : List Token) → SourceFacts kinds s → ClockFacts kinds s every
        → Stand whole (clock_words kinds s every rest) ts → LinesAre whole (ClockIs s every) rest ts
    read_clock s every rest ts facts clock h =
        let a = h.4 in
        let b = a.4 in
        let c = b.4 in
        let d = c.4 in
        let e = d.4 in
        let listed = read_listed s.tags rest e.1 facts.some facts.tags e.4 in
        let same = one_listed s.tags listed.first listed.others clock.one clock.ticks listed.are in
        let tag : WrittenSpan = listed.first.kind in
        let behind : Begins IsSign (Any (w.Mark m.Colon) ∷ separated (w.Mark m.Comma) tag_signs (alone tag ∷ [])) e.1 listed.took.rest =
        subst (λ l. Begins IsSign (Any (w.Mark m.Colon) ∷ separated (w.Mark m.Comma) tag_signs l) e.1 listed.took.rest) same listed.took.begins in
        one_line whole (ClockIs s every) rest ts (ClockLine h.0.from (span_of a.0) (record { value = pos every; at = c.0.from })
        (Some (record { value = pos s.rate; at = e.0.from })) tag)
        (record {
          rest = listed.took.rest;
          begins = (
            h.0,
            h.1,
            h.2,
            (h.3.word ∙ clock_spelled, refl),
            (
              a.0,
              a.1,
              a.2,
              (ap is_name_word a.3.word, refl, refl),
              (
                b.0,
                b.1,
                b.2,
                b.3.word ∙ every_spelled,
                (c.0, c.1, c.2, (c.3.word, refl), (d.0, d.1, d.2, d.3.word, (e.0, e.1, e.2, (e.3.word, refl), behind))),
              ),
            ),
          );
          stand = listed.took.stand;
        })
        tt
        (record {
          at = h.0.from;
          named = span_of a.0;
          every_at = c.0.from;
          rate_at = e.0.from;
          tag = tag;
          is = refl;
          name_is = a.3.named refl;
          are = subst (λ l. Pairs (Lists whole utf8 kinds named_kinds n known_kinds) s.tags l) same listed.are;
        })

    read_origin : (s : Source) (every : Option ℕ) (rest : List Laid) (ts : List Token) → SourceFacts kinds s → plain_origin kinds s every ≡ true
        → Stand whole (origin_words kinds s every rest) ts → LinesAre whole (OriginIs s every) rest ts
    read_origin s None rest ts facts fits h = read_file s rest ts facts h
    read_origin s (Some every) rest ts facts fits h = read_clock s every rest ts facts (clock_facts kinds s every fits) h

    pub read_source_line : (s : Source) (rest : List Laid) (ts : List Token) → plain_source_fits kinds s ≡ true
        → Stand whole (source_line_words kinds s rest) ts
        → LinesAre whole (SourceIs s) rest ts
    read_source_line s rest ts fits h = let facts = source_facts kinds s fits in read_origin s s.every rest ts facts facts.origin h

  module _ (families : List Family) (names : list_all (λ (f : Family). is_name f.name) families ≡ true) (n : Naming)
      (known_families : FamiliesKnown families n) where
    -- the actions of a kind, under that kind
    pub record OnIs (under : KindHead) (kind : List ℕ) (a : PlainAction) (actions : List PlainAction) (ds : List Declaration) : Type 0 where
      pub named : WrittenSpan
      pub first : WrittenDo
      pub others : List WrittenDo
      pub is : ds ≡ On named (first ∷ others) ∷ []
      pub name_is : name_of whole named ≡ kind
      pub are : Pairs (Does whole utf8 families names n known_families under) (a ∷ actions) (first ∷ others)

    -- a kind without actions has no declaration of them
    abbrev pub ActionsAre : KindHead → List ℕ → List PlainAction → List Declaration → Type 0
    ActionsAre under kind [] ds = ds ≡ []
    ActionsAre under kind (a ∷ actions) ds = OnIs under kind a actions ds

    pub read_on_line : (under : KindHead) (kind : List ℕ) (actions : List PlainAction) (rest : List Laid) (ts : List Token) → is_name kind ≡ true
        → list_all (plain_action_fits families under.keyed under.has_value) actions ≡ true
        → list_all (action_suits under.has_item (is_version_3 n)) actions ≡ true → ItemsKnown n under
        → Stand whole (actions_words families kind actions rest) ts → LinesAre whole (ActionsAre under kind actions) rest ts
    read_on_line under kind [] rest ts named fits suits items h =
        record { written = []; took = record { rest = ts; begins = refl; stand = h }; are = tt; means = refl }
    read_on_line under kind (a ∷ actions) rest ts named fits suits items h =
        let b = h.4 in
        let c = b.4 in
        let all = read_items IsSign (Stand whole) (action_words families) [] (between m.Semicolon) action_signs
        (Does whole utf8 families names n known_families under)
        (action_ok whole utf8 families names n known_families under) (Any (w.Mark m.Semicolon))
        (read_action whole utf8 families names n known_families under items)
        (λ r ts h. (h.0, h.1, h.2, h.3.word, h.4))
        a actions line_end rest c.1 (list_all_both (plain_action_fits families under.keyed under.has_value)
        (action_suits under.has_item (is_version_3 n)) (a ∷ actions) fits suits) c.4 in
        one_line whole (OnIs under kind a actions) rest ts (On (span_of b.0) (all.first ∷ all.others))
        (record {
          rest = all.took.rest;
          begins = (
            h.0,
            h.1,
            h.2,
            h.3.word,
            (b.0, b.1, b.2, (ap is_name_word b.3.word, refl, refl), (c.0, c.1, c.2, c.3.word, all.took.begins)),
          );
          stand = all.took.stand;
        })
        ((λ none. absurd cc), are_actions whole utf8 families names n known_families under (a ∷ actions) (all.first ∷ all.others) all.are)
        (record { named = span_of b.0; first = all.first; others = all.others; is = refl; name_is = b.3.named refl; are = all.are })

    -- the actions of kinds, numbered from a number on
    abbrev pub Ons : ℕ → List PlainKind → List Declaration → Type 0
    Ons i [] ds = ds ≡ []
    Ons i (k ∷ ks) ds = (here : List Declaration) × (rest : List Declaration) × (ds ≡ here ++ rest) × ActionsAre (kind_head i k) k.name k.actions here × Ons
        (i + 1) ks rest

    -- a kind has items only in version 3
    items_known : (newer has_item : Bool) → (newer || not has_item) ≡ true → (newer && has_item) ≡ has_item
    items_known true has_item e = refl
    items_known false true e = absurd cc
    items_known false false e = refl

    pub read_ons : (i : ℕ) (ks : List PlainKind) (rest : List Laid) (ts : List Token) → list_all (plain_kind_fits families) ks ≡ true
        → list_all (items_suit (is_version_3 n)) ks ≡ true → list_all (actions_suit (is_version_3 n)) ks ≡ true
        → Stand whole (lines_before (on_line_words families) ks rest) ts → LinesAre whole (Ons i ks) rest ts
    read_ons i [] rest ts all items suits h = record { written = []; took = record { rest = ts; begins = refl; stand = h }; are = tt; means = refl }
    read_ons i (k ∷ ks) rest ts all items suits h =
        let newer : Bool = is_version_3 n in
        let fits = and_left (plain_kind_fits families k) (list_all (plain_kind_fits families) ks) all in
        let named : Bool = is_name k.name in
        let few : Bool = nat_le (length k.actions) 32 in
        let actions : Bool = list_all (plain_action_fits families k.keyed k.has_value) k.actions in
        let here = read_on_line (kind_head i k) k.name k.actions (lines_before (on_line_words families) ks rest) ts (three_left named few actions fits)
        (three_right named few actions fits) (and_left (actions_suit newer k) (list_all (actions_suit newer) ks) suits)
        (items_known newer k.has_item (and_left (items_suit newer k) (list_all (items_suit newer) ks) items)) h in
        let more = read_ons (i + 1) ks rest here.took.rest (and_right (plain_kind_fits families k) (list_all (plain_kind_fits families) ks) all)
        (and_right (items_suit newer k) (list_all (items_suit newer) ks) items)
        (and_right (actions_suit newer k) (list_all (actions_suit newer) ks) suits) here.took.stand in
        record {
          written = here.written ++ more.written;
          took = record {
            rest = more.took.rest;
            begins = subst (λ l. Begins IsSign l ts more.took.rest) (sym (flat_map-append declaration_signs here.written more.written))
                (begins_append IsSign (declarations_signs here.written)
                (declarations_signs more.written) ts here.took.rest more.took.rest here.took.begins more.took.begins);
            stand = more.took.stand;
          };
          are = declarations-append here.written more.written here.are more.are;
          means = (here.written, more.written, refl, here.means, more.means);
        }
