-- The normal form of a job is read as that job.
use Rattle.std.proofs.Common.{◌≡◌, ◌≤◌, ◌+◌, ℕ, zero, suc, pos, Bool, true, false, Option, None, List, [], ◌∷◌, ◌++◌, map, length, Some, Ok, refl, sym, ap}
use Rattle.std.proofs.Common.{subst, ◌∙◌}
use Rattle.std.proofs.Common.{append_assoc, arith}
use Rattle.std.specs.Prelude.{◌^◌, nat_le, nat_lt, ◌==◌, ◌&&◌, ◌||◌, not, slice_get, if◌then◌else◌, codes}
use Rattle.std.specs.List.{list_all, list_any}
use Rattle.std.specs.Str.{IsUtf8}
use Rattle.std.proofs.lemmas.List.{append-nil}
use Rattle.std.proofs.lemmas.List.Concat.{flat_map-append}
use Rattle.std.proofs.lemmas.List.Folds.{list_any-append}
use Rattle.flu_lemmas.proofs.Tests.{le_true, true_le, lt_true, true_eq, and_left, and_right, not_true, not_both}
use Rattle.flu_lemmas.proofs.Booleans.{or_front, or_turns, three_left, three_middle, three_right}
use Rattle.flu_lemmas.proofs.Elements.{fails_at}
use Rattle.flu_lemmas.specs.Items.{Begins}
use Rattle.flu_lemmas.proofs.Items.{begins_append, Took, took_none}
use Rattle.flu_text.specs.declared.words.Token.{Token}
use Rattle.flu_text.specs.Layout.{Piece as Laid, layout, tokens_of}
use Rattle.flu_text.specs.Reading.{Reading as TokenReading}
use Rattle.flu_model.specs.declared.limits.What.TheVariants.{Bytes}
use Rattle.flu_model.specs.declared.jobs.Family.{Family}
use Rattle.flu_model.specs.declared.jobs.Source.{Source}
use Rattle.flu_model.specs.declared.jobs.Piece.{Piece}
use Rattle.flu_model.specs.declared.jobs.Piece.TheVariants as piece
use Rattle.flu_model.specs.Erasure.{PlainKind, Job}
use Rattle.flu_model.specs.Numberings.{Numbering}
use Rattle.flu_model.specs.ListRules.{is_list, family_list_fits}
use Rattle.flu_model.specs.Templates.{family_name, written_key, written_piece, written_template}
use Rattle.flu_model.specs.Rules.{is_same_text, are_distinct}
use Rattle.flu_model.specs.Texts.{Unit as TimeUnit}
use Rattle.flu_calendar.specs.declared.unit.Unit.TheVariants.{Seconds, Milliseconds, Microseconds}
use Rattle.flu_model.specs.Versions.{is_named_item, iso_fits}
use Rattle.flu_names.specs.declared.reserved.Reserved.TheVariants as r
use Rattle.flu_rules.specs.Keys.{TagsMeet, TagsDiffer}
use Rattle.flu_syntax.specs.declared.tree.WrittenTies.{WrittenTies}
use Rattle.flu_syntax.specs.declared.tree.WrittenUnit.{WrittenUnit}
use Rattle.flu_syntax.specs.declared.tree.WrittenHead.{WrittenHead}
use Rattle.flu_syntax.specs.Tree.{Declaration, Job as WrittenJob}
use Rattle.flu_syntax.specs.Machine.{Verdict}
use Rattle.flu_text.specs.declared.words.Word.TheVariants as w
use Rattle.flu_text.specs.declared.words.Contextual.TheVariants as contextual
use Rattle.flu_text.specs.Spelling.{contextual_of}
use Rattle.flu_text.specs.Signs.{At, IsSign, is_name_word, span_of}
use Rattle.flu_syntax.specs.Grammar.{declaration_signs, declarations_signs, ties_signs, iso_signs, head_signs, job_signs, IsJob}
use Rattle.flu_syntax.specs.Laws.{FoundIsJob}
use Rattle.flu_names.specs.Names.{is_name}
use Rattle.flu_layout.specs.Laid.{blank, line_end, reserved, name, number}
use Rattle.flu_layout.specs.Stands.{Stand}
use Rattle.flu_layout.specs.Laws.{LaidIsRead, BegunAreSigns, KeysAreSpelled, KeysAreLaid}
use Rattle.flu_parse.specs.declared.faults.JobFault.TheVariants as f
use Rattle.flu_parse.specs.Faults.{Found, ◌>>=◌, ◌>>◌, unless, each}
use Rattle.flu_parse.specs.Naming.{Naming, in_version, family, look_up, no_names, naming_of}
use Rattle.flu_parse.specs.Lists.{listed_families, listed_kinds}
use Rattle.flu_parse.specs.Resolving.{Drafted, with_declaration, idle_kind, draft_of, version_of, ties_counted, ties_of, unit_named, found_unit}
use Rattle.flu_parse.specs.Resolving.{unit_of, iso_of}
use Rattle.flu_parse.specs.Resolving.{job_with as draft_with}
use Rattle.flu_parse.specs.Resolving.{resolved}
use Rattle.flu_parse.specs.Reading.{text_in, found_tokens, tokens_in, found_job, written_in, job_in}
use Rattle.flu_parse.specs.Printing.{unit_name, normal_form}
use Rattle.flu_parse.proofs.Distinct.{distinct_front, distinct_back, distinct_with}
use Rattle.flu_parse.proofs.ReadingLemmas.{text_in-utf8}
use Rattle.flu_parse.proofs.Kept.Plain.{plain_kind_fits}
use Rattle.flu_parse.proofs.Kept.Versions.{items_suit, actions_suit}
use Rattle.flu_parse.proofs.Printed.ListFits.{plain_kind_list_fits, families_listed, plain_kinds_listed, lists_known}
use Rattle.flu_parse.proofs.Printed.Rules.{plain_depend_fits, plain_source_fits, names_of_job, JobFits}
use Rattle.flu_parse.proofs.Printed.Words.{behind_count, unit_words, third_words, version_words, names_line_words, cell_line_words, tag_line_words}
use Rattle.flu_parse.proofs.Printed.Words.{depends_line_words, source_line_words}
use Rattle.flu_parse.proofs.Printed.Words.{job_words, job_layout}
use Rattle.flu_parse.proofs.Printed.LaidLines.{names_of_kinds, job_laid}
use Rattle.flu_parse.proofs.Printed.ReadTerms.{family_head, FamiliesKnown}
use Rattle.flu_parse.proofs.Printed.ReadTags.{kind_head, KindsKnown}
use Rattle.flu_parse.proofs.Printed.ReadLines.{Lines, CellIs, TagIs, NamesIs, DependsIs, SourceIs, Ons, declarations-append, read_lines, read_names_line}
use Rattle.flu_parse.proofs.Printed.ReadLines.{read_cell_line, read_tag_line}
use Rattle.flu_parse.proofs.Printed.ReadLines.{read_depends_line, read_ons, read_source_line}
use Rattle.flu_parse.proofs.Printed.Names.{family_heads, kind_heads, naming_of_job, own_head, Left, all_fresh, declare_lists, declare_cells, declare_tags}
use Rattle.flu_parse.proofs.Printed.Names.{turned_text, declare_depends, declare_ons, declare_sources, counted}
use Rattle.flu_parse.proofs.Printed.Drafts.{without_list, without_actions, itags_counted, total_itags, add_names, add_cells, add_tags, add_depends, add_ons}
use Rattle.flu_parse.proofs.Printed.Drafts.{add_sources}

families_back : (i : ℕ) (fs : List Family) → listed_families (map family (family_heads i fs)) (map (λ (g : Family). g.list) fs) ≡ fs
families_back i [] = refl
families_back i (g ∷ fs) = ap (λ l. g ∷ l) (families_back (i + 1) fs)

kinds_back : (ks : List PlainKind) → listed_kinds (map without_list ks) (map (λ (k : PlainKind). k.list) ks) ≡ ks
kinds_back [] = refl
kinds_back (k ∷ ks) = ap (λ l. k ∷ l) (kinds_back ks)

kinds_idle : (i : ℕ) (ks : List PlainKind) → map idle_kind (kind_heads i ks) ≡ map without_actions (map without_list ks)
kinds_idle i [] = refl
kinds_idle i (k ∷ ks) = ap (λ l. without_actions (without_list k) ∷ l) (kinds_idle (i + 1) ks)

-- ---- families and kinds, before it is known what their lists are

-- a template is written with the names of families alone
names_back : (i : ℕ) (fs : List Family) (j : ℕ) → family_name (slice_get (map family (family_heads i fs)) j) ≡ family_name (slice_get fs j)
names_back i [] j = refl
names_back i (g ∷ fs) zero = refl
names_back i (g ∷ fs) (suc j) = names_back (i + 1) fs j

module _ (fs gs : List Family) (same : (j : ℕ) → family_name (slice_get fs j) ≡ family_name (slice_get gs j)) where
  same_piece : (p : Piece) → written_piece fs p ≡ written_piece gs p
  same_piece (piece.Plain t) = refl
  same_piece piece.Value = refl
  same_piece piece.Key = refl
  same_piece piece.Item = refl
  same_piece piece.Time = refl
  same_piece (piece.Read c) = ap (λ name. codes "{" ++ (name ++ written_key c.at) ++ codes "}") (same c.family)
  same_piece piece.CellValue = refl
  same_piece (piece.FamilyCell j) = ap (λ name. codes "{" ++ name ++ codes "}") (same j)

  same_template : (ps : List Piece) → written_template fs ps ≡ written_template gs ps
  same_template [] = refl
  same_template (p ∷ ps) = λ i. same_piece p i ++ same_template ps i

heads_bare : (i : ℕ) (ks : List PlainKind) → kind_heads i ks ≡ kind_heads i (map without_list ks)
heads_bare i [] = refl
heads_bare i (k ∷ ks) = ap (λ l. (k.name, kind_head i k) ∷ l) (heads_bare (i + 1) ks)

names_bare : (ks : List PlainKind) → map (λ (k : PlainKind). k.name) (map without_list ks) ≡ map (λ (k : PlainKind). k.name) ks
names_bare [] = refl
names_bare (k ∷ ks) = ap (λ l. k.name ∷ l) (names_bare ks)

fit_bare : (families : List Family) (ks : List PlainKind)
    → list_all (plain_kind_fits families) (map without_list ks) ≡ list_all (plain_kind_fits families) ks
fit_bare families [] = refl
fit_bare families (k ∷ ks) = ap (λ b. plain_kind_fits families k && b) (fit_bare families ks)

-- elements that differ do so in another order of two parts
distinct_swap : (xs ys : List (List ℕ)) → are_distinct is_same_text (xs ++ ys) ≡ true → are_distinct is_same_text (ys ++ xs) ≡ true
distinct_swap [] ys h = ap (are_distinct is_same_text) (append-nil ys) ∙ h
distinct_swap (x ∷ xs) ys h =
    let again : Bool = list_any (is_same_text x) (xs ++ ys) in
    let none : again ≡ false = not_true again (and_left (not again) (are_distinct is_same_text (xs ++ ys)) h) in
    let other : list_any (is_same_text x) (ys ++ xs) ≡ false =
    list_any-append (is_same_text x) ys xs ∙ or_turns (list_any (is_same_text x) ys) (list_any (is_same_text x) xs)
    ∙ sym (list_any-append (is_same_text x) xs ys) ∙ none in
    distinct_with is_same_text turned_text ys xs x
    (distinct_swap xs ys (and_right (not again) (are_distinct is_same_text (xs ++ ys)) h)) other

-- the names of families, those of kinds and those of lists differ
record Apart (job : Job) : Type 0 where
  all : are_distinct is_same_text (map (λ (l : Numbering). l.name) job.lists ++ (map (λ (g : Family). g.name) job.families ++
      (map (λ (k : PlainKind). k.name) job.kinds ++ map (λ (s : Source). s.name) job.sources))) ≡ true
  lists : are_distinct is_same_text (map (λ (l : Numbering). l.name) job.lists) ≡ true
  families : are_distinct is_same_text (map (λ (g : Family). g.name) job.families) ≡ true
  kinds : are_distinct is_same_text (map (λ (k : PlainKind). k.name) job.kinds) ≡ true

apart : (job : Job) → are_distinct is_same_text (names_of_job job) ≡ true → Apart job
apart job h =
    let a : List (List ℕ) = map (λ (g : Family). g.name) job.families in
    let b : List (List ℕ) = map (λ (k : PlainKind). k.name) job.kinds in
    let c : List (List ℕ) = map (λ (s : Source). s.name) job.sources in
    let d : List (List ℕ) = map (λ (l : Numbering). l.name) job.lists in
    let front = distinct_front is_same_text (a ++ b) c (distinct_front is_same_text (a ++ b ++ c) d h) in
    record {
      all = ap (λ l. are_distinct is_same_text (d ++ l)) (sym (append_assoc a b c)) ∙ distinct_swap (a ++ b ++ c) d h;
      lists = distinct_back is_same_text (a ++ b ++ c) d h;
      families = distinct_front is_same_text a b front;
      kinds = distinct_back is_same_text a b front;
    }

module _ (begun : BegunAreSigns) (meet : TagsMeet) (differ : TagsDiffer) (job : Job) (fits : JobFits job) (whole : List ℕ) (utf8 : IsUtf8 whole) where
  n : Naming
  n = in_version (naming_of_job job) job.version

  -- what the job's version has
  abbrev newer : Bool
  newer = job.version == 3

  items : list_all (items_suit newer) job.kinds ≡ true
  items = three_left (list_all (items_suit newer) job.kinds) (list_all (actions_suit newer) job.kinds) (not (newer && list_any is_named_item job.families))
      fits.version

  suits : list_all (actions_suit newer) job.kinds ≡ true
  suits = three_middle (list_all (items_suit newer) job.kinds) (list_all (actions_suit newer) job.kinds) (not (newer && list_any is_named_item job.families))
      fits.version

  unnamed : (newer && list_any is_named_item job.families) ≡ false
  unnamed = not_true (newer && list_any is_named_item job.families)
      (three_right (list_all (items_suit newer) job.kinds) (list_all (actions_suit newer) job.kinds) (not (newer && list_any is_named_item job.families))
      fits.version)

  none_at : (new : Bool) (i : ℕ) (g : Family) → (new && list_any is_named_item job.families) ≡ false → slice_get job.families i ≡ Some g
      → (new && is_named_item g) ≡ false
  none_at false i g none found = refl
  none_at true i g none found = fails_at is_named_item job.families i g none found

  known_families : FamiliesKnown job.families n
  unfolding n
  known_families = record {
    declared = λ i g found.
        own_head (λ (g : Family). g.name) family_head 0 job.families i g (apart job fits.own_names).families found
        ∙ ap (λ k. Some (family_head k g)) (let same : 0 + i ≡ i = omega arith in same);
    not_item = λ i g found. none_at newer i g unnamed found;
    all = same_template (map family (family_heads 0 job.families)) job.families (names_back 0 job.families);
  }

  known_kinds : KindsKnown job.kinds n
  unfolding n
  known_kinds i k found =
      own_head (λ (k : PlainKind). k.name) kind_head 0 job.kinds i k (apart job fits.own_names).kinds found
      ∙ ap (λ j. Some (kind_head j k)) (let same : 0 + i ≡ i = omega arith in same)

  -- kinds as they are before their lists are known
  abbrev bare : List PlainKind
  bare = map without_list job.kinds

  known_bare : KindsKnown bare n
  unfolding n
  known_bare i k found =
      let apart_bare : are_distinct is_same_text (map (λ (k : PlainKind). k.name) bare) ≡ true =
      ap (are_distinct is_same_text) (names_bare job.kinds) ∙ (apart job fits.own_names).kinds in
      ap (look_up k.name) (heads_bare 0 job.kinds)
      ∙ own_head (λ (k : PlainKind). k.name) kind_head 0 bare i k apart_bare found
      ∙ ap (λ j. Some (kind_head j k)) (let same : 0 + i ≡ i = omega arith in same)

  named_kinds : list_all (λ (k : PlainKind). is_name k.name) job.kinds ≡ true
  named_kinds = names_of_kinds job.families job.kinds fits.kinds

  families_fit : list_all (family_list_fits job.lists) job.families ≡ true
  families_fit = families_listed job.version job.lists job.families job.kinds fits.lists_fit

  kinds_fit : list_all (plain_kind_list_fits job.lists) job.kinds ≡ true
  kinds_fit = plain_kinds_listed job.version job.lists job.families job.kinds fits.lists_fit

  -- the declarations, part by part
  record Parts : Type 0 where
    names : List Declaration
    cells : List Declaration
    tags : List Declaration
    deps : List Declaration
    ons : List Declaration
    sources : List Declaration
    are_names : Lines (NamesIs whole utf8) job.lists names
    are_cells : Lines (CellIs whole utf8 job.lists) job.families cells
    are_tags : Lines (TagIs whole utf8 job.lists) job.kinds tags
    are_deps : Lines (DependsIs whole utf8 job.kinds named_kinds n known_kinds) job.depends deps
    are_ons : Ons whole utf8 job.families fits.families n known_families 0 job.kinds ons
    are_sources : Lines (SourceIs whole utf8 job.kinds named_kinds n known_kinds) job.sources sources

  abbrev all_parts : Parts → List Declaration
  all_parts p = p.names ++ (p.cells ++ (p.tags ++ (p.deps ++ (p.ons ++ (p.sources ++ [])))))

  -- the tokens are these declarations
  record IsRead (ts : List Token) : Type 0 where
    head : Option WrittenHead
    parts : Parts
    version_is : version_of head ≡ Ok job.version
    ties_is : ties_of job.version head ≡ Ok job.ties
    iso_is : iso_of whole job.version head ≡ Ok job.iso
    is : IsJob ts (record { head = head; declarations = all_parts parts })

  -- the unit of the times, as it is read
  record UnitIs (iso : Option TimeUnit) (rest : List Laid) (ts : List Token) : Type 0 where
    written : Option WrittenUnit
    took : Took IsSign (Stand whole) (iso_signs written) rest ts
    is : unit_of whole 3 written ≡ Ok iso

  ties_spelled : w.Name (contextual_of (codes "ties")) ≡ w.Name contextual.Ties
  unfolding contextual_of
  ties_spelled = refl

  iso_spelled : w.Name (contextual_of (codes "iso")) ≡ w.Name contextual.Iso
  unfolding contextual_of
  iso_spelled = refl

  unit_said : (unit : TimeUnit) (at : ℕ) → found_unit at (unit_named (unit_name unit)) ≡ Ok (Some unit)
  unit_said Seconds at = refl
  unit_said Milliseconds at = refl
  unit_said Microseconds at = refl

  read_unit : (iso : Option TimeUnit) (rest : List Laid) (ts : List Token) → Stand whole (unit_words iso rest) ts → UnitIs iso rest ts
  read_unit None rest ts h = record { written = None; took = took_none IsSign (Stand whole) rest ts h; is = refl }
  read_unit (Some unit) rest ts h =
      let n = h.4 in
      let written : WrittenUnit = record { at = h.0.from; name = span_of n.0 } in
      record {
        written = Some written;
        took = record {
          rest = n.1;
          begins = (h.0, h.1, h.2, (h.3.word ∙ iso_spelled, refl), (n.0, n.1, n.2, (ap is_name_word n.3.word, refl, refl), refl));
          stand = n.4;
        };
        is = ap (λ name. found_unit n.0.from (unit_named name)) (n.3.named refl) ∙ unit_said unit n.0.from;
      }

  -- the number of version 3, how many rows a source may have at one time, and the unit of the times, as they are read
  record ThirdIs (ties : ℕ) (iso : Option TimeUnit) (rest : List Laid) (ts : List Token) : Type 0 where
    at : ℕ
    counted : Option WrittenTies
    unit : Option WrittenUnit
    took : Took IsSign (Stand whole) (At (w.Number (pos 3)) at ∷ (ties_signs counted ++ iso_signs unit)) rest ts
    ties_is : ties_counted 3 counted ≡ Ok ties
    unit_is : unit_of whole 3 unit ≡ Ok iso

  one_left : (ties : ℕ) → nat_le 1 ties ≡ true → nat_lt 1 ties ≡ false → ties ≡ 1
  one_left zero some few = absurd (let le : 1 ≤ 0 = true_le 1 0 some in omega (arith, le))
  one_left (suc zero) some few = refl
  one_left (suc (suc t)) some few = absurd (not_both (nat_lt 1 (suc (suc t))) (lt_true 1 (suc (suc t)) (omega arith)) few)

  read_third : (ties : ℕ) (iso : Option TimeUnit) (rest : List Laid) (ts : List Token) → (nat_le 1 ties && nat_le ties (2 ^ 31)) ≡ true
      → Stand whole (third_words ties iso rest) ts → ThirdIs ties iso rest ts
  read_third ties iso rest ts within h = by (nat_lt 1 ties) refl h
    where
      by : (several : Bool) → nat_lt 1 ties ≡ several → Stand whole (if several
          then number (pos 3) blank ∷ name (codes "ties") blank ∷ number (pos ties) (behind_count iso) ∷ unit_words iso rest
          else number (pos 3) (behind_count iso) ∷ unit_words iso rest) ts → ThirdIs ties iso rest ts
      by true e h =
          let word = h.4 in
          let n = word.4 in
          let behind = read_unit iso rest n.1 n.4 in
          let counted : WrittenTies = record { at = word.0.from; number = record { value = pos ties; at = n.0.from } } in
          record {
            at = h.0.from;
            counted = Some counted;
            unit = behind.written;
            took = record {
              rest = behind.took.rest;
              begins = (
                h.0,
                h.1,
                h.2,
                (h.3.word, refl),
                (word.0, word.1, word.2, (word.3.word ∙ ties_spelled, refl), (n.0, n.1, n.2, (n.3.word, refl), behind.took.begins)),
              );
              stand = behind.took.stand;
            };
            ties_is = ap (λ b. unless b (f.WrongShape n.0.from) >> Ok ties) within;
            unit_is = behind.is;
          }
      by false e h =
          let behind = read_unit iso rest h.1 h.4 in
          record {
            at = h.0.from;
            counted = None;
            unit = behind.written;
            took = record {
              rest = behind.took.rest;
              begins = (h.0, h.1, h.2, (h.3.word, refl), behind.took.begins);
              stand = behind.took.stand;
            };
            ties_is = ap Ok (sym (one_left ties (and_left (nat_le 1 ties) (nat_le ties (2 ^ 31)) within) e));
            unit_is = behind.is;
          }

  -- the head, as it is read
  record HeadIs (rest : List Laid) (ts : List Token) : Type 0 where
    written : Option WrittenHead
    took : Took IsSign (Stand whole) (head_signs written) rest ts
    version_is : version_of written ≡ Ok job.version
    ties_is : ties_of job.version written ≡ Ok job.ties
    iso_is : iso_of whole job.version written ≡ Ok job.iso

  -- only version 3 has several rows at one time
  one_tie : (job.version == 3) ≡ false → job.ties ≡ 1
  one_tie older =
      let right = three_right (nat_le 1 job.ties) (nat_le job.ties (2 ^ 31)) (job.version == 3 || job.ties == 1) fits.known_ties in
      true_eq job.ties 1 (sym (ap (λ b. b || job.ties == 1) older) ∙ right)

  -- only version 3 has a unit
  no_unit : (iso : Option TimeUnit) → iso_fits job.version iso ≡ true → (job.version == 3) ≡ false → iso ≡ None
  no_unit None fits older = refl
  no_unit (Some unit) fits older = absurd (let both : true ≡ false = sym fits ∙ older in cc)

  read_head : (rest : List Laid) (ts : List Token) → Stand whole (version_words job.version job.ties job.iso rest) ts → HeadIs rest ts
  read_head rest ts h = by (job.version == 2) (job.version == 3) refl refl h
    where
      by : (two three : Bool) → (job.version == 2) ≡ two → (job.version == 3) ≡ three
          → Stand whole (if two then reserved r.Version blank ∷ number (pos 2) line_end ∷ rest
          else if three then reserved r.Version blank ∷ third_words job.ties job.iso rest else rest) ts
          → HeadIs rest ts
      by true three e g h =
          let two = true_eq job.version 2 e in
          let older : (job.version == 3) ≡ false = ap (λ v. v == 3) two in
          record {
            written = Some (record { version = record { value = pos 2; at = h.4.0.from }; ties = None; iso = None });
            took = record { rest = h.4.1; begins = (h.0, h.1, h.2, h.3.word, (h.4.0, h.4.1, h.4.2, (h.4.3.word, refl), refl)); stand = h.4.4 };
            version_is = ap Ok (sym two);
            ties_is = ap Ok (sym (one_tie older));
            iso_is = ap Ok (sym (no_unit job.iso fits.known_iso older));
          }
      by false true e g h =
          let within = and_left (nat_le 1 job.ties && nat_le job.ties (2 ^ 31)) (job.version == 3 || job.ties == 1) fits.known_ties in
          let third = read_third job.ties job.iso rest h.1 within h.4 in
          let three = true_eq job.version 3 g in
          record {
            written = Some (record { version = record { value = pos 3; at = third.at }; ties = third.counted; iso = third.unit });
            took = record { rest = third.took.rest; begins = (h.0, h.1, h.2, h.3.word, third.took.begins); stand = third.took.stand };
            version_is = ap Ok (sym three);
            ties_is = ap (λ v. ties_counted v third.counted) three ∙ third.ties_is;
            iso_is = ap (λ v. unit_of whole v third.unit) three ∙ third.unit_is;
          }
      by false false e g h = record {
        written = None;
        took = took_none IsSign (Stand whole) rest ts h;
        version_is = ap Ok (sym (true_eq job.version 1 (or_front (job.version == 1) (job.version == 2)
            (or_front ((job.version == 1) || (job.version == 2)) (job.version == 3) fits.known_version g) e)));
        ties_is = ap Ok (sym (one_tie g));
        iso_is = ap Ok (sym (no_unit job.iso fits.known_iso g));
      }

  begin_more : (a b : List Declaration) (ts more rest : List Token) → Begins IsSign (declarations_signs a) ts more
      → Begins IsSign (declarations_signs b) more rest → Begins IsSign (declarations_signs (a ++ b)) ts rest
  begin_more a b ts more rest h k = subst (λ l. Begins IsSign l ts rest) (sym (flat_map-append declaration_signs a b))
      (begins_append IsSign (declarations_signs a) (declarations_signs b) ts more rest h k)

  read_parts : (ts : List Token) → Stand whole (job_words job) ts → IsRead ts
  unfolding n
  read_parts tokens h =
      let head = read_head _ tokens h in
      let ts = head.took.rest in
      let names = read_lines whole names_line_words (NamesIs whole utf8) is_list (read_names_line whole utf8) job.lists _ ts fits.lists head.took.stand in
      let cells = read_lines whole (cell_line_words job.lists) (CellIs whole utf8 job.lists) (family_list_fits job.lists)
      (read_cell_line whole utf8 job.lists) job.families _ names.took.rest families_fit names.took.stand in
      let tags = read_lines whole (tag_line_words job.lists) (TagIs whole utf8 job.lists) (plain_kind_list_fits job.lists)
      (read_tag_line whole utf8 job.lists) job.kinds _ cells.took.rest kinds_fit cells.took.stand in
      let deps = read_lines whole (depends_line_words job.kinds) (DependsIs whole utf8 job.kinds named_kinds n known_kinds) (plain_depend_fits job.kinds)
      (read_depends_line whole utf8 job.kinds named_kinds n known_kinds) job.depends _ tags.took.rest fits.depends tags.took.stand in
      let ons = read_ons whole utf8 job.families fits.families n known_families 0 job.kinds _ deps.took.rest fits.kinds items suits deps.took.stand in
      let sources = read_lines whole (source_line_words job.kinds) (SourceIs whole utf8 job.kinds named_kinds n known_kinds) (plain_source_fits job.kinds)
      (read_source_line whole utf8 job.kinds named_kinds n known_kinds) job.sources [] ons.took.rest fits.sources ons.took.stand in
      let p : Parts = record {
        names = names.written;
        cells = cells.written;
        tags = tags.written;
        deps = deps.written;
        ons = ons.written;
        sources = sources.written;
        are_names = names.means;
        are_cells = cells.means;
        are_tags = tags.means;
        are_deps = deps.means;
        are_ons = ons.means;
        are_sources = sources.means;
      } in
      let last = begin_more sources.written [] ons.took.rest sources.took.rest sources.took.rest sources.took.begins refl in
      let fourth = begin_more ons.written (sources.written ++ []) deps.took.rest ons.took.rest sources.took.rest ons.took.begins last in
      let third = begin_more deps.written (ons.written ++ (sources.written ++ [])) tags.took.rest deps.took.rest sources.took.rest deps.took.begins fourth in
      let second = begin_more tags.written
      (deps.written ++ (ons.written ++ (sources.written ++ []))) cells.took.rest tags.took.rest sources.took.rest tags.took.begins third in
      let first = begin_more cells.written
      (tags.written ++ (deps.written ++ (ons.written ++ (sources.written ++ [])))) names.took.rest cells.took.rest sources.took.rest cells.took.begins second in
      let lists = begin_more names.written (cells.written ++ (tags.written ++ (deps.written ++ (ons.written ++ (sources.written ++ [])))))
      ts names.took.rest sources.took.rest names.took.begins first in
      let written : WrittenJob = record { head = head.written; declarations = all_parts p } in
      let whole_job = begins_append IsSign (head_signs head.written)
      (declarations_signs (all_parts p)) tokens ts sources.took.rest head.took.begins lists in
      record {
        head = head.written;
        parts = p;
        version_is = head.version_is;
        ties_is = head.ties_is;
        iso_is = head.iso_is;
        is = record {
          grammar =
              declarations-append names.written _ names.are (declarations-append cells.written _ cells.are (declarations-append tags.written _ tags.are
              (declarations-append deps.written _ deps.are (declarations-append ons.written _ ons.are
              (declarations-append sources.written [] sources.are tt)))));
          spelled = begun (job_signs written) tokens (subst (λ l. Begins IsSign (job_signs written) tokens l) sources.took.stand whole_job);
        };
      }

  -- ---- what the declarations mean

  named : (p : Parts) → naming_of whole (all_parts p) ≡ Ok (naming_of_job job)
  unfolding n each
  named p =
      let source_names : List (List ℕ) = map (λ (s : Source). s.name) job.sources in
      let rest : List (List ℕ) = map (λ (k : PlainKind). k.name) job.kinds ++ source_names in
      let list_names : List (List ℕ) = map (λ (l : Numbering). l.name) job.lists in
      let left : Left no_names (list_names ++ (map (λ (g : Family). g.name) job.families ++ rest)) =
      record { fresh = all_fresh (list_names ++ (map (λ (g : Family). g.name) job.families ++ rest)); apart = (apart job fits.own_names).all } in
      let with_names : Naming = record { families = []; kinds = []; sources = []; lists = list_names; depends = 0; version = 1 } in
      let with_cells : Naming = record { families = family_heads 0 job.families; kinds = []; sources = []; lists = list_names; depends = 0; version = 1 } in
      let with_tags : Naming = record {
        families = family_heads 0 job.families;
        kinds = kind_heads 0 job.kinds;
        sources = [];
        lists = list_names;
        depends = 0;
        version = 1;
      } in
      let with_deps : Naming = record {
        families = family_heads 0 job.families;
        kinds = kind_heads 0 job.kinds;
        sources = [];
        lists = list_names;
        depends =
            0 + length job.depends;
        version = 1;
      } in
      let behind_cells : List Declaration = p.tags ++ (p.deps ++ (p.ons ++ (p.sources ++ []))) in
      let lists = declare_lists whole utf8 job.lists no_names p.names (p.cells ++ behind_cells)
      (map (λ (g : Family). g.name) job.families ++ rest) p.are_names left (omega (arith, fits.few_lists)) in
      let cells = declare_cells whole utf8 job.lists job.families with_names p.cells behind_cells rest p.are_cells lists.left
      (omega (arith, fits.few_families)) in
      let tags = declare_tags whole utf8 job.lists job.kinds with_cells p.tags (p.deps ++ (p.ons ++ (p.sources ++ []))) source_names p.are_tags cells.left
      (omega (arith, fits.few_kinds)) in
      lists.leads
      ∙ cells.leads
      ∙ tags.leads
      ∙ declare_depends whole utf8 job.kinds named_kinds n known_kinds job.depends with_tags p.deps (p.ons ++ (p.sources ++ [])) p.are_deps
      (omega (arith, fits.few_depends))
      ∙ declare_ons whole utf8 job.families fits.families n known_families 0 job.kinds with_deps p.ons (p.sources ++ []) p.are_ons
      ∙ declare_sources whole utf8 job.kinds named_kinds n known_kinds job.sources with_deps p.sources [] p.are_sources
      (counted whole utf8 with_tags (0 + length job.depends) source_names tags.left) (omega (arith, fits.few_sources))
      ∙ ap (λ k. Ok (let m : Naming = record {
        families = family_heads 0 job.families;
        kinds = kind_heads 0 job.kinds;
        sources = source_names;
        lists = list_names;
        depends =
            k;
        version = 1;
      } in m)) (let same : 0 + length job.depends ≡ length job.depends = omega arith in same)

  abbrev draft : List ℕ → ℕ → Drafted
  draft given itags = record {
    lists = job.lists;
    family_lists = map (λ (g : Family). g.list) job.families;
    kind_lists = map (λ (k : PlainKind). k.list) job.kinds;
    kinds = bare;
    given = given;
    depends = job.depends;
    sources = job.sources;
    itags = itags;
  }

  bare_ons : (i : ℕ) (ks : List PlainKind) (ds : List Declaration) → Ons whole utf8 job.families fits.families n known_families i ks ds
      → Ons whole utf8 job.families fits.families n known_families i (map without_list ks) ds
  bare_ons i [] ds lines = lines
  bare_ons i (k ∷ ks) ds lines = (lines.0, lines.1, lines.2, lines.3, bare_ons (i + 1) ks lines.1 lines.4)

  drafted : (p : Parts) → (given : List ℕ) × (itags : ℕ) × (draft_of whole n (all_parts p) ≡ Ok (draft given itags))
  unfolding n each
  drafted p =
      let idle : List PlainKind = map without_actions bare in
      let family_lists : List (Option ℕ) = map (λ (g : Family). g.list) job.families in
      let kind_lists : List (Option ℕ) = map (λ (k : PlainKind). k.list) job.kinds in
      let behind_tags : List Declaration = p.deps ++ (p.ons ++ (p.sources ++ [])) in
      let start : Drafted = record {
        lists = [];
        family_lists = [];
        kind_lists = [];
        kinds = idle;
        given = [];
        depends = [];
        sources = [];
        itags = 0;
      } in
      let with_names : Drafted = record start { lists = job.lists } in
      let with_cells : Drafted = record with_names { family_lists = family_lists } in
      let with_tags : Drafted = record with_cells { kind_lists = kind_lists } in
      let with_deps : Drafted = record with_tags { depends = job.depends } in
      let ons = add_ons whole utf8 n job.families fits.families known_families bare known_bare [] bare with_deps [] p.ons
      (p.sources ++ []) refl (fit_bare job.families job.kinds ∙ fits.kinds) (λ j le. refl) (bare_ons 0 job.kinds p.ons p.are_ons) in
      let with_ons : Drafted = record with_deps { kinds = bare; given = ons.now } in
      let few : 0 + total_itags job.sources ≤ 256 = omega (arith, fits.few_itags, itags_counted 0 job.sources) in
      let newer = lists_known job.version job.lists job.families job.kinds fits.lists_fit in
      let apart_lists = (apart job fits.own_names).lists in (
        ons.now,
        0 + total_itags job.sources,
        ap (λ ks. each (with_declaration whole n) (let d : Drafted = record start { kinds = ks } in d) (all_parts p)) (kinds_idle 0 job.kinds)
            ∙ add_names whole utf8 n job.lists start p.names (p.cells ++ (p.tags ++ behind_tags)) fits.lists newer p.are_names
            ∙ add_cells whole utf8 n job.lists refl apart_lists newer job.families with_names p.cells (p.tags ++ behind_tags) unnamed families_fit p.are_cells
            ∙ add_tags whole utf8 n job.lists refl apart_lists newer job.kinds with_cells p.tags behind_tags items kinds_fit p.are_tags
            ∙ add_depends whole utf8 n job.kinds named_kinds known_kinds job.depends with_tags p.deps (p.ons ++ (p.sources ++ [])) p.are_deps
            ∙ ons.leads
            ∙ add_sources whole utf8 n job.kinds named_kinds known_kinds meet differ [] job.sources with_ons p.sources []
            p.are_sources refl fits.sources fits.clocks fits.own_files few,
      )

  resolved_is : (p : Parts) (head : Option WrittenHead) → version_of head ≡ Ok job.version → ties_of job.version head ≡ Ok job.ties
      → iso_of whole job.version head ≡ Ok job.iso
      → resolved whole (record { head = head; declarations = all_parts p }) ≡ Ok job
  unfolding n resolved
  resolved_is p head known counted unit =
      let d = drafted p in
      let names : Naming = naming_of_job job in
      ap (λ (r : Found Naming). r >>= λ m. version_of head >>= λ v. ties_of v head >>= λ ties. iso_of whole v head >>= λ iso.
      draft_of whole (in_version m v) (all_parts p) >>= λ d. Ok (draft_with ties iso (in_version m v) d)) (named p)
      ∙ ap (λ (r : Found ℕ). r >>= λ v. ties_of v head >>= λ ties. iso_of whole v head >>= λ iso.
      draft_of whole (in_version names v) (all_parts p) >>= λ d. Ok (draft_with ties iso (in_version names v) d)) known
      ∙ ap (λ (r : Found ℕ). r >>= λ ties. iso_of whole job.version head >>= λ iso. draft_of whole n (all_parts p) >>=
      λ d. Ok (draft_with ties iso n d)) counted
      ∙ ap (λ (r : Found (Option TimeUnit)). r >>= λ iso. draft_of whole n (all_parts p) >>= λ d. Ok (draft_with job.ties iso n d)) unit
      ∙ ap (λ (r : Found Drafted). r >>= λ d. Ok (draft_with job.ties job.iso n d)) d.2
      ∙ ap (λ fs. Ok (let j : Job = record {
        version = job.version;
        ties = job.ties;
        iso = job.iso;
        lists = job.lists;
        families = fs;
        kinds = listed_kinds bare (map (λ (k : PlainKind). k.list) job.kinds);
        depends = job.depends;
        sources = job.sources;
      } in j)) (families_back 0 job.families)
      ∙ ap (λ ks. Ok (let j : Job = record {
        version = job.version;
        ties = job.ties;
        iso = job.iso;
        lists = job.lists;
        families = job.families;
        kinds = ks;
        depends = job.depends;
        sources = job.sources;
      } in j)) (kinds_back job.kinds)

-- the words of the normal form are read as the job
laid_is_read : LaidIsRead → BegunAreSigns → KeysAreLaid → FoundIsJob → TagsMeet → TagsDiffer → (job : Job) → JobFits job → IsUtf8 (layout (job_words job))
    → length (layout (job_words job)) ≤ 1048576 → job_in (layout (job_words job)) ≡ Ok job
unfolding job_in
laid_is_read read begun keys found meet differ job fits utf8 few =
    let whole : List ℕ = layout (job_words job) in
    let ts : List Token = tokens_of 0 (job_words job) in
    let reads = read (job_words job) (job_laid keys job fits) utf8 in
    let parts = read_parts begun meet differ job fits whole utf8 ts reads.1 in
    let written : WrittenJob = record { head = parts.head; declarations = all_parts begun meet differ job fits whole utf8 parts.parts } in
    let rest : List ℕ → Found Job = λ text. tokens_in text >>= λ ts. written_in (length text) ts >>= λ written. resolved text written in
    ap (λ b. unless b (f.OverLimit Bytes 1048577) >> (text_in whole >>= rest)) (le_true (length whole) 1048576 few)
    ∙ ap (λ (r : Found (List ℕ)). r >>= rest) (text_in-utf8 whole whole refl utf8)
    ∙ ap (λ (r : TokenReading). found_tokens r >>= λ ts. written_in (length whole) ts >>= λ written. resolved whole written) reads.0
    ∙ ap (λ (v : Verdict WrittenJob). found_job v >>= λ written. resolved whole written) ((found (length whole) ts written).1 parts.is)
    ∙ resolved_is begun meet differ job fits whole utf8 parts.parts parts.head parts.version_is parts.ties_is parts.iso_is

pub job_is_read : LaidIsRead → BegunAreSigns → KeysAreSpelled → KeysAreLaid → FoundIsJob → TagsMeet → TagsDiffer → (job : Job) → JobFits job
    → IsUtf8 (normal_form job)
    → length (normal_form job) ≤ 1048576 → job_in (normal_form job) ≡ Ok job
job_is_read read begun spelled keys found meet differ job fits =
    subst (λ text. IsUtf8 text → length text ≤ 1048576 → job_in text ≡ Ok job) (job_layout spelled job)
    (laid_is_read read begun keys found meet differ job fits)
