-- The plain pieces of templates, and the texts of lists of names, are UTF-8 where the normal form of the job is: they stand in it between quotes and
-- braces.
use Rattle.std.proofs.Common.{◌≡◌, ℕ, Bool, true, false, List, [], ◌∷◌, ◌++◌, map, refl, sym, ap, subst, ◌∙◌, arith}
use Rattle.std.specs.Prelude.{nat_le, nat_lt, length, not, ◌&&◌, option_map, slice_get, codes}
use Rattle.std.specs.List.{flat_map, list_all, AllByRecursion}
use Rattle.std.specs.Str.{IsUtf8}
use Rattle.std.proofs.lemmas.List.{append_assoc, append-nil}
use Rattle.flu_lemmas.proofs.Tests.{and_left, and_right, not_true, true_lt}
use Rattle.flu_names.specs.Names.{is_name}
use Rattle.flu_model.specs.declared.jobs.Act.{Act}
use Rattle.flu_model.specs.declared.jobs.Act.TheVariants.{Add, Raise, Set, Clear, ClearFamily, Emit, Flush}
use Rattle.flu_model.specs.declared.jobs.Action.{Action}
use Rattle.flu_model.specs.declared.jobs.Family.{Family}
use Rattle.flu_model.specs.declared.jobs.Kind.{Kind}
use Rattle.flu_model.specs.declared.jobs.Piece.{Piece}
use Rattle.flu_model.specs.declared.jobs.Piece.TheVariants.{Plain, Value, Key, Item, Time, Read, CellValue, FamilyCell}
use Rattle.flu_model.specs.declared.jobs.Program.{Program}
use Rattle.flu_model.specs.Erasure.{job_of, plain_act, plain_action, plain_kind, term_of}
use Rattle.flu_model.specs.Numberings.{Numbering}
use Rattle.flu_model.specs.Rules.{action_fits, act_fits, guard_fits, are_apart, emit_piece_fits, flush_piece_fits, follows_plain, is_keyed}
use Rattle.flu_model.specs.Rules.{is_short, kind_fits}
use Rattle.flu_model.specs.Templates.{family_name, written_cell, written_piece, written_template}
use Rattle.flu_layout.specs.Laid.{line_end, quoted}
use Rattle.flu_layout.specs.Lists.{separated}
use Rattle.flu_parse.specs.Printing.{version_line, names_line, cell_line, tag_line, depends_line, on_line, source_line, actions_line, normal_form}
use Rattle.flu_parse.specs.Printing.{act_text, guard_text, action_text}
use Rattle.flu_sending.specs.Texts.{IsUtf8Piece, EmitsUtf8, NamesAreUtf8, TemplatesAreUtf8}
use Rattle.flu_combine.proofs.Ascii.{before_ascii, from_ascii, behind_ascii}

-- ---- the pieces of a template, with the quote behind it
module _ (families : List Family) (after : List ℕ) where
  abbrev Stands : List Piece → Type 0
  Stands ps = IsUtf8 (flat_map (written_piece families) ps ++ 34 ∷ after)

  -- behind a field, which ends with a brace
  field : (front : List ℕ) (ps : List Piece) → IsUtf8 (((front ++ 125 ∷ []) ++ flat_map (written_piece families) ps) ++ 34 ∷ after) → Stands ps
  field front ps utf8 =
      let more = flat_map (written_piece families) ps ++ 34 ∷ after in
      let same = append_assoc (front ++ 125 ∷ []) (flat_map (written_piece families) ps) (34 ∷ after) ∙ append_assoc front (125 ∷ []) more in
      behind_ascii front 125 more (omega arith) (subst IsUtf8 same utf8)

  -- what stands behind a plain piece begins with a brace, or is the quote
  plain : (t : List ℕ) (ps : List Piece) → follows_plain ps ≡ false → IsUtf8 ((t ++ flat_map (written_piece families) ps) ++ 34 ∷ after) → IsUtf8 t × Stands ps
  plain t ps other utf8 =
      by ps other (subst IsUtf8 (append_assoc t (flat_map (written_piece families) ps) (34 ∷ after)) utf8)
    where
      split : (b : ℕ) (more : List ℕ) → nat_lt b 128 ≡ true → IsUtf8 (t ++ b ∷ more) → IsUtf8 t × IsUtf8 (b ∷ more)
      split b more low utf8 = (before_ascii t b more (true_lt b 128 low) utf8, from_ascii t b more (true_lt b 128 low) utf8)

      by : (ps : List Piece) → follows_plain ps ≡ false → IsUtf8 (t ++ (flat_map (written_piece families) ps ++ 34 ∷ after)) → IsUtf8 t × Stands ps
      by [] other utf8 = split 34 after refl utf8
      by (Plain u ∷ ps) other utf8 = cc
      by (Value ∷ ps) other utf8 = split 123 _ refl utf8
      by (Key ∷ ps) other utf8 = split 123 _ refl utf8
      by (Item ∷ ps) other utf8 = split 123 _ refl utf8
      by (Time ∷ ps) other utf8 = split 123 _ refl utf8
      by (Read r ∷ ps) other utf8 = split 123 _ refl utf8
      by (CellValue ∷ ps) other utf8 = split 123 _ refl utf8
      by (FamilyCell f ∷ ps) other utf8 = split 123 _ refl utf8

  pieces : (ps : List Piece) → are_apart ps ≡ true → Stands ps → AllByRecursion IsUtf8Piece ps
  pieces [] apart utf8 = tt
  pieces (Plain t ∷ ps) apart utf8 =
      let both = plain t ps (not_true (follows_plain ps) (and_left (not (follows_plain ps)) (are_apart ps) apart)) utf8 in
      (both.0, pieces ps (and_right (not (follows_plain ps)) (are_apart ps) apart) both.1)
  pieces (Value ∷ ps) apart utf8 = (tt, pieces ps apart (field (codes "{value") ps utf8))
  pieces (Key ∷ ps) apart utf8 = (tt, pieces ps apart (field (codes "{key") ps utf8))
  pieces (Item ∷ ps) apart utf8 = (tt, pieces ps apart (field (codes "{item") ps utf8))
  pieces (Time ∷ ps) apart utf8 = (tt, pieces ps apart (field (codes "{time") ps utf8))
  pieces (Read r ∷ ps) apart utf8 = (tt, pieces ps apart (field (123 ∷ written_cell families r) ps utf8))
  pieces (CellValue ∷ ps) apart utf8 = (tt, pieces ps apart (field (codes "{cell") ps utf8))
  pieces (FamilyCell f ∷ ps) apart utf8 = (tt, pieces ps apart (field (123 ∷ family_name (slice_get families f)) ps utf8))

-- ---- what stands somewhere in a text
record Inside (whole part : List ℕ) : Type 0 where
  before : List ℕ
  after : List ℕ
  is : whole ≡ before ++ (part ++ after)

module _ (whole : List ℕ) where
  itself : Inside whole whole
  itself = record { before = []; after = []; is = sym (append-nil whole) }

  front : (a b : List ℕ) → Inside whole (a ++ b) → Inside whole a
  front a b h = record { before = h.before; after = b ++ h.after; is = h.is ∙ ap (λ (xs : List ℕ). h.before ++ xs) (append_assoc a b h.after) }

  back : (a b : List ℕ) → Inside whole (a ++ b) → Inside whole b
  back a b h = record {
    before = h.before ++ a;
    after = h.after;
    is = h.is ∙ ap (λ (xs : List ℕ). h.before ++ xs) (append_assoc a b h.after) ∙ sym (append_assoc h.before a (b ++ h.after));
  }

module _ (families : List Family) (whole : List ℕ) (utf8 : IsUtf8 whole) where
  template : (ps : List Piece) → are_apart ps ≡ true → Inside whole (quoted (written_template families ps)) → AllByRecursion IsUtf8Piece ps
  template ps apart h =
      let t = written_template families ps in
      let behind = behind_ascii h.before 34 ((t ++ 34 ∷ []) ++ h.after) (omega arith) (subst IsUtf8 h.is utf8) in
      pieces families h.after ps apart (subst IsUtf8 (append_assoc t (34 ∷ []) h.after) behind)

  apart_emitted : (keyed has_value : Bool) (ps : List Piece) → act_fits families keyed has_value (Emit ps) ≡ true → are_apart ps ≡ true
  apart_emitted keyed has_value ps fits =
      and_right (list_all (emit_piece_fits families keyed has_value) ps) (are_apart ps)
      (and_left (list_all (emit_piece_fits families keyed has_value) ps && are_apart ps) (is_short (written_template families ps)) fits)

  apart_flushed : (keyed has_value : Bool) (f : ℕ) (ps : List Piece) → act_fits families keyed has_value (Flush f ps) ≡ true → are_apart ps ≡ true
  apart_flushed keyed has_value f ps fits =
      and_right (list_all (flush_piece_fits families f has_value) ps) (are_apart ps)
      (and_left (list_all (flush_piece_fits families f has_value) ps && are_apart ps) (is_short (written_template families ps))
      (and_right (is_keyed (slice_get families f)) _ fits))

  act : (keyed has_value : Bool) (a : Act) → act_fits families keyed has_value a ≡ true → Inside whole (act_text families (plain_act a)) → EmitsUtf8 a
  act keyed has_value (Add r e) fits h = tt
  act keyed has_value (Raise r e) fits h = tt
  act keyed has_value (Set r e) fits h = tt
  act keyed has_value (Clear r) fits h = tt
  act keyed has_value (ClearFamily f) fits h = tt
  act keyed has_value (Emit ps) fits h =
      template ps (apart_emitted keyed has_value ps fits) (back whole (codes "emit ") (quoted (written_template families ps)) h)
  act keyed has_value (Flush f ps) fits h =
      let inside = back whole (codes "flush " ++ family_name (slice_get families f) ++ codes " ") (quoted (written_template families ps)) h in
      template ps (apart_flushed keyed has_value f ps fits) inside

  action : (keyed has_value : Bool) (a : Action) → action_fits families keyed has_value a ≡ true
      → Inside whole (action_text families (plain_action a)) → EmitsUtf8 a.act
  action keyed has_value a fits h =
      act keyed has_value a.act (and_left (act_fits families keyed has_value a.act) (guard_fits families keyed has_value a.guard) fits)
      (front whole (act_text families (plain_act a.act)) (guard_text families (option_map term_of a.guard)) h)

  more_actions : (keyed has_value : Bool) (some : List Action) → list_all (action_fits families keyed has_value) some ≡ true
      → Inside whole (flat_map (λ y. codes "; " ++ action_text families y) (map plain_action some)) → AllByRecursion (λ (a : Action). EmitsUtf8 a.act) some
  more_actions keyed has_value [] fit h = tt
  more_actions keyed has_value (a ∷ some) fit h =
      let text = codes "; " ++ action_text families (plain_action a) in
      let rest = flat_map (λ y. codes "; " ++ action_text families y) (map plain_action some) in (
        action keyed has_value a (and_left (action_fits families keyed has_value a) (list_all (action_fits families keyed has_value) some) fit)
            (back whole (codes "; ") (action_text families (plain_action a)) (front whole text rest h)),
        more_actions keyed has_value some (and_right (action_fits families keyed has_value a) (list_all (action_fits families keyed has_value) some) fit)
            (back whole text rest h),
      )

  actions : (name : List ℕ) (keyed has_value : Bool) (some : List Action) → list_all (action_fits families keyed has_value) some ≡ true
      → Inside whole (actions_line families name (map plain_action some)) → AllByRecursion (λ (a : Action). EmitsUtf8 a.act) some
  actions name keyed has_value [] fit h = tt
  actions name keyed has_value (a ∷ some) fit h =
      let text = action_text families (plain_action a) in
      let rest = flat_map (λ y. codes "; " ++ action_text families y) (map plain_action some) in
      let listed = back whole (codes "on " ++ name ++ codes ": ") (text ++ rest)
      (front whole (codes "on " ++ name ++ codes ": " ++ (text ++ rest)) line_end h) in (
        action keyed has_value a (and_left (action_fits families keyed has_value a) (list_all (action_fits families keyed has_value) some) fit)
            (front whole text rest listed),
        more_actions keyed has_value some (and_right (action_fits families keyed has_value a) (list_all (action_fits families keyed has_value) some) fit)
            (back whole text rest listed),
      )

  kinds : (ks : List Kind) → list_all (kind_fits families) ks ≡ true → Inside whole (flat_map (on_line families) (map plain_kind ks)) → TemplatesAreUtf8 ks
  kinds [] fit h = tt
  kinds (k ∷ ks) fit h =
      let line = on_line families (plain_kind k) in
      let rest = flat_map (on_line families) (map plain_kind ks) in
      let fits = and_right (is_name k.name && nat_le (length k.actions) 32) (list_all (action_fits families k.keyed k.has_value) k.actions)
      (and_left (kind_fits families k) (list_all (kind_fits families) ks) fit) in (
        actions k.name k.keyed k.has_value k.actions fits (front whole line rest h),
        kinds ks (and_right (kind_fits families k) (list_all (kind_fits families) ks) fit) (back whole line rest h),
      )

-- ---- lists of names
module _ (whole : List ℕ) (utf8 : IsUtf8 whole) where
  text : (t : List ℕ) → Inside whole (quoted t) → IsUtf8 t
  text t h =
      let behind = behind_ascii h.before 34 ((t ++ 34 ∷ []) ++ h.after) (omega arith) (subst IsUtf8 h.is utf8) in
      before_ascii t 34 h.after (omega arith) (subst IsUtf8 (append_assoc t (34 ∷ []) h.after) behind)

  more_texts : (ts : List (List ℕ)) → Inside whole (flat_map (λ t. codes ", " ++ quoted t) ts) → AllByRecursion IsUtf8 ts
  more_texts [] h = tt
  more_texts (t ∷ ts) h =
      let rest = flat_map (λ u. codes ", " ++ quoted u) ts in
      (text t (back whole (codes ", ") (quoted t) (front whole (codes ", " ++ quoted t) rest h)), more_texts ts (back whole (codes ", " ++ quoted t) rest h))

  texts : (ts : List (List ℕ)) → Inside whole (separated (codes ", ") quoted ts) → AllByRecursion IsUtf8 ts
  texts [] h = tt
  texts (t ∷ ts) h =
      let rest = flat_map (λ u. codes ", " ++ quoted u) ts in (text t (front whole (quoted t) rest h), more_texts ts (back whole (quoted t) rest h))

  lists : (ls : List Numbering) → Inside whole (flat_map names_line ls) → NamesAreUtf8 ls
  lists [] h = tt
  lists (l ∷ ls) h =
      let head = codes "names " ++ l.name ++ codes ": " in
      let listed = separated (codes ", ") quoted l.texts in
      let rest = flat_map names_line ls in (
        texts l.texts (back whole head listed (front whole (head ++ listed) line_end (front whole (names_line l) rest h))),
        lists ls (back whole (names_line l) rest h),
      )

pub names_are_utf8 : (p : Program) → IsUtf8 (normal_form (job_of p)) → NamesAreUtf8 p.lists
names_are_utf8 p utf8 =
    let job = job_of p in
    let whole = normal_form job in
    let before = version_line job.version job.ties job.iso in
    let lines = flat_map names_line job.lists in
    let cells = flat_map (cell_line job.lists) job.families in
    let tags = flat_map (tag_line job.lists) job.kinds in
    let depends = flat_map (depends_line job.kinds) job.depends in
    let ons = flat_map (on_line job.families) job.kinds in
    let sources = flat_map (source_line job.kinds) job.sources in
    let so_far = before ++ lines in
    lists whole utf8 p.lists (back whole before lines (front whole so_far cells (front whole (so_far ++ cells) tags
    (front whole (so_far ++ cells ++ tags) depends (front whole (so_far ++ cells ++ tags ++ depends) ons
    (front whole (so_far ++ cells ++ tags ++ depends ++ ons) sources (itself whole)))))))

pub templates_are_utf8 : (p : Program) → IsUtf8 (normal_form (job_of p)) → TemplatesAreUtf8 p.kinds
templates_are_utf8 p utf8 =
    let job = job_of p in
    let whole = normal_form job in
    let before = version_line job.version job.ties job.iso ++ flat_map names_line job.lists ++ flat_map (cell_line job.lists) job.families
    ++ flat_map (tag_line job.lists) job.kinds ++ flat_map (depends_line job.kinds) job.depends in
    let ons = flat_map (on_line job.families) job.kinds in
    let sources = flat_map (source_line job.kinds) job.sources in
    kinds p.families whole utf8 p.kinds p.kinds_fit (back whole before ons (front whole (before ++ ons) sources (itself whole)))
