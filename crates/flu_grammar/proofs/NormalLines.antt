-- How long names, numbers and the lines of a normal form are that no `on` and no list of names is.
use Rattle.flu_parse.specs.Printing.{head_of}
use Rattle.flu_model.specs.Rules.{has_origin, origin_fits, is_tick_tag}
use Rattle.std.proofs.Common.{◌≡◌, ◌<◌, ◌≤◌, ◌+◌, ◌*◌, ◌^◌, ◌-◌, ℕ, Bool, true, false, cond, Option, Some, None, List, [], ◌∷◌, ◌++◌, map}
use Rattle.std.proofs.Common.{length, refl, sym, subst, arith, length-append}
use Rattle.std.specs.Prelude.{nat_lt, nat_le, ◌==◌, ◌&&◌, ◌||◌, slice_get, codes, option_map}
use Rattle.flu_lemmas.proofs.Booleans.{three_middle}
use Rattle.std.specs.Fmt.{decimal}
use Rattle.std.specs.List.{list_all, flat_map}
use Rattle.std.proofs.lemmas.Fmt.{length-decimal-le_wide}
use Rattle.std.proofs.lemmas.List.{length-map}
use Rattle.std.proofs.lemmas.List.FromFn.{length-range_with_len}
use Rattle.std.proofs.lemmas.Option.{slice_get-map}
use Rattle.flu_lemmas.specs.Totals.{total}
use Rattle.flu_lemmas.proofs.Elements.{passes_at}
use Rattle.flu_lemmas.proofs.Tests.{and_left, and_right, true_lt, true_le}
use Rattle.flu_names.specs.Names.{is_name}
use Rattle.flu_model.specs.declared.events.Tag.{Tag}
use Rattle.flu_model.specs.declared.jobs.Depend.{Depend}
use Rattle.flu_model.specs.declared.jobs.Family.{Family}
use Rattle.flu_model.specs.declared.jobs.Keys.{Keys}
use Rattle.flu_model.specs.declared.jobs.Keys.TheVariants as keys
use Rattle.flu_model.specs.declared.jobs.Kind.{Kind}
use Rattle.flu_model.specs.declared.jobs.Program.{Program}
use Rattle.flu_model.specs.declared.jobs.Sort.{Sort}
use Rattle.flu_model.specs.declared.jobs.Sort.TheVariants as sort
use Rattle.flu_model.specs.declared.jobs.Source.{Source}
use Rattle.flu_model.specs.declared.jobs.TagRef.{TagRef}
use Rattle.flu_model.specs.Contents.{key_count}
use Rattle.flu_model.specs.Erasure.{PlainKind, plain_kind}
use Rattle.flu_model.specs.ListRules.{is_list}
use Rattle.flu_model.specs.Numberings.{Numbering}
use Rattle.flu_model.specs.Listing.{tag, listed_keys, listed_tags, tags_of_source, itags_of_sources}
use Rattle.flu_model.specs.Rules.{is_short}
use Rattle.flu_model.specs.Rules.{is_same_text, are_distinct}
use Rattle.flu_model.specs.Rules.{action_fits, kind_fits, keys_fit, listed_kind_fits, tag_ref_fits, is_file_text, source_fits}
use Rattle.flu_model.specs.Texts.{Unit as TimeUnit}
use Rattle.flu_calendar.specs.declared.unit.Unit.TheVariants.{Seconds, Milliseconds, Microseconds}
use Rattle.flu_layout.specs.Laid.{line_end, quoted}
use Rattle.flu_layout.specs.Lists.{separated, keys_text}
use Rattle.flu_parse.specs.Printing.{ties_text, iso_text, version_line, keyed_text, sort_text, cell_line, item_text}
use Rattle.flu_parse.specs.Printing.{value_text, tag_line, kind_name, same_text, depends_line, tag_text, slack_text, source_head}
use Rattle.flu_parse.specs.Printing.{source_line, name_of_list, by_text}

-- ---- lists
-- each text of a list has at most so many bytes
pub flat_few : {X : Type 0} (text : X → List ℕ) (m : ℕ) (test : X → Bool) → ((x : X) → test x ≡ true → length (text x) ≤ m) → (xs : List X)
    → list_all test xs ≡ true → length (flat_map text xs) ≤ m * length xs
flat_few text m test few [] all = omega arith
flat_few text m test few (x ∷ xs) all =
    let here = few x (and_left (test x) (list_all test xs) all) in
    let more = flat_few text m test few xs (and_right (test x) (list_all test xs) all) in
    omega (arith, here, more, length-append (text x) (flat_map text xs))

-- a list has a name
pub list_named : (l : Numbering) → is_list l ≡ true → is_name l.name ≡ true
list_named l fits = and_left _ _ (and_left _ _ (and_left _ _ (and_left _ (are_distinct is_same_text l.texts) fits)))

-- texts one behind another
pub three_long : (a b c : List ℕ) → length (a ++ b ++ c) ≡ length a + length b + length c
three_long a b c = omega (arith, length-append (a ++ b) c, length-append a b)

pub four_long : (a b c e : List ℕ) → length (a ++ b ++ c ++ e) ≡ length a + length b + length c + length e
four_long a b c e = omega (arith, length-append (a ++ b ++ c) e, three_long a b c)

pub five_long : (a b c e f : List ℕ) → length (a ++ b ++ c ++ e ++ f) ≡ length a + length b + length c + length e + length f
five_long a b c e f = omega (arith, length-append (a ++ b ++ c ++ e) f, four_long a b c e)

pub six_long : (a b c e f g : List ℕ) → length (a ++ b ++ c ++ e ++ f ++ g) ≡ length a + length b + length c + length e + length f + length g
six_long a b c e f g = omega (arith, length-append (a ++ b ++ c ++ e ++ f) g, five_long a b c e f)

pub seven_long : (a b c e f g h : List ℕ) → length (a ++ b ++ c ++ e ++ f ++ g ++ h)
    ≡ length a + length b + length c + length e + length f + length g + length h
seven_long a b c e f g h = omega (arith, length-append (a ++ b ++ c ++ e ++ f ++ g) h, six_long a b c e f g)

-- items with a mark between each two
pub separated_few : {X : Type 0} (mark : List ℕ) (text : X → List ℕ) (xs : List X)
    → length (separated mark text xs) ≤ total (λ x. length mark + length (text x)) xs
separated_few mark text [] = omega arith
separated_few mark text (x ∷ xs) = omega (arith, length-append (text x) (flat_map (λ y. mark ++ text y) xs), others xs)
  where
    others : (ys : List _) → length (flat_map (λ y. mark ++ text y) ys) ≤ total (λ y. length mark + length (text y)) ys
    others [] = omega arith
    others (y ∷ ys) = omega (arith, length-append (mark ++ text y) (flat_map (λ z. mark ++ text z) ys), length-append mark (text y), others ys)

-- ---- names and numbers
pub name_few : (name : List ℕ) → is_name name ≡ true → length name ≤ 32
name_few name e = true_le (length name) 32 (and_right _ (nat_le (length name) 32) (and_left _ _ e))

pub digits : (k n : ℕ) → 0 < k → n < 10 ^ k → n < 10 ^ 64 → length (decimal n) ≤ k
digits k n some small fits = length-decimal-le_wide k n some small fits

-- ---- texts
pub quoted_few : (bytes : List ℕ) → length (quoted bytes) ≡ length bytes + 2
quoted_few bytes = omega (arith, length-append bytes (34 ∷ []))

-- ---- the other lines
module _ (p : Program) where
  pub kind_name_few : (i : ℕ) → length (kind_name (slice_get (map plain_kind p.kinds) i)) ≤ 32
  kind_name_few i = subst (λ (o : Option PlainKind). length (kind_name o) ≤ 32) (sym (slice_get-map plain_kind p.kinds i)) (by (slice_get p.kinds i) refl)
    where
      by : (o : Option Kind) → slice_get p.kinds i ≡ o → length (kind_name (option_map plain_kind o)) ≤ 32
      by None e = omega arith
      by (Some k) e =
          let fits = passes_at (kind_fits p.families) p.kinds i k p.kinds_fit e in
          name_few k.name (and_left (is_name k.name) (nat_le (length k.actions) 32)
          (and_left (is_name k.name && nat_le (length k.actions) 32) (list_all (action_fits p.families k.keyed k.has_value) k.actions) fits))

  pub ties_few : (n : ℕ) → n ≤ 2 ^ 31 → length (ties_text n) ≤ 16
  ties_few n small = by (nat_lt 1 n)
    where
      by : (b : Bool) → length (cond b (codes " ties " ++ decimal n) []) ≤ 16
      by true = omega (arith, digits 10 n (omega arith) (omega (arith, small)) (omega (arith, small)))
      by false = omega arith

  pub version_few : length (version_line p.version p.ties p.iso) ≤ 43
  version_few = by (p.version == 2) (p.version == 3)
    where
      few : p.ties ≤ 2 ^ 31
      few = true_le p.ties (2 ^ 31) (three_middle (nat_le 1 p.ties) (nat_le p.ties (2 ^ 31)) (p.version == 3 || p.ties == 1) p.known_ties)

      unit_few : (iso : Option TimeUnit) → length (iso_text iso) ≤ 17
      unit_few None = omega arith
      unit_few (Some Seconds) = omega arith
      unit_few (Some Milliseconds) = omega arith
      unit_few (Some Microseconds) = omega arith

      by : (b c : Bool) → length (cond b (codes "version 2" ++ 10 ∷ []) (cond c (codes "version 3" ++ ties_text p.ties ++ iso_text p.iso ++ 10 ∷ []) []))
          ≤ 43
      by true c = omega arith
      by false true =
          omega (arith, ties_few p.ties few, unit_few p.iso, four_long (codes "version 3") (ties_text p.ties) (iso_text p.iso) (10 ∷ []))
      by false false = omega arith

  pub keyed_few : (b : Bool) → length (keyed_text b) ≤ 6
  keyed_few true = omega arith
  keyed_few false = omega arith

  pub sort_few : (s : Sort) → length (sort_text s) ≤ 5
  sort_few sort.Sum = omega arith
  sort_few sort.Max = omega arith
  sort_few sort.Last = omega arith

  pub item_few : (b : Bool) → length (item_text b) ≤ 5
  item_few true = omega arith
  item_few false = omega arith

  pub value_few : (b : Bool) → length (value_text b) ≤ 5
  value_few true = omega arith
  value_few false = omega arith

  pub same_few : (b : Bool) → length (same_text b) ≤ 5
  same_few true = omega arith
  same_few false = omega arith

  pub by_few : (o : Option ℕ) → length (by_text p.lists o) ≤ 36
  by_few None = omega arith
  by_few (Some i) = omega (arith, named (slice_get p.lists i) refl)
    where
      named : (o : Option Numbering) → slice_get p.lists i ≡ o → length (name_of_list o) ≤ 32
      named None e = omega arith
      named (Some l) e = name_few l.name (list_named l (passes_at is_list p.lists i l p.lists_are e))

  pub cell_line_few : (f : Family) → is_name f.name ≡ true → length (cell_line p.lists f) ≤ 85
  cell_line_few f e =
      omega (
        arith,
        name_few f.name e,
        keyed_few f.keyed,
        by_few f.list,
        sort_few f.sort,
        five_long f.name (keyed_text f.keyed) (by_text p.lists f.list) (sort_text f.sort) line_end,
      )

  pub tag_line_few : (k : Kind) → kind_fits p.families k ≡ true → length (tag_line p.lists (plain_kind k)) ≤ 89
  tag_line_few k fits =
      let name = name_few k.name (and_left (is_name k.name) (nat_le (length k.actions) 32)
      (and_left (is_name k.name && nat_le (length k.actions) 32) (list_all (action_fits p.families k.keyed k.has_value) k.actions) fits)) in
      omega (
        arith,
        name,
        keyed_few k.keyed,
        item_few k.has_item,
        by_few k.list,
        value_few k.has_value,
        six_long k.name (keyed_text k.keyed) (item_text k.has_item) (by_text p.lists k.list) (value_text k.has_value) line_end,
      )

  pub depends_line_few : (y : Depend) → length (depends_line (map plain_kind p.kinds) y) ≤ 79
  depends_line_few y =
      let a = kind_name (slice_get (map plain_kind p.kinds) y.a) in
      let b = kind_name (slice_get (map plain_kind p.kinds) y.b) in
      omega (arith, kind_name_few y.a, kind_name_few y.b, same_few y.same, five_long a (codes " ") b (same_text y.same) line_end)

  -- ---- sources
  pub keys_few : (o : Bool) (ks : Keys) → keys_fit o ks ≡ true → length (keys_text ks) ≤ 14
  keys_few o keys.Alone e = omega arith
  keys_few o (keys.One k) e =
      let small = true_lt k key_count (and_right o (nat_lt k key_count) e) in
      omega (arith, digits 5 k (omega arith) (omega (arith, small)) (omega (arith, small)), length-append (decimal k) (codes "]"))
  keys_few o (keys.Range lo hi) e =
      let small = true_lt hi key_count (and_right (o && nat_le lo hi) (nat_lt hi key_count) e) in
      let rises = true_le lo hi (and_right o (nat_le lo hi) (and_left (o && nat_le lo hi) (nat_lt hi key_count) e)) in
      omega (
        arith,
        digits 5 lo (omega arith) (omega (arith, small, rises)) (omega (arith, small, rises)),
        digits 5 hi (omega arith) (omega (arith, small)) (omega (arith, small)),
        four_long (decimal lo) (codes "..") (decimal hi) (codes "]"),
      )

  pub tag_few : (t : TagRef) → tag_ref_fits p.kinds t ≡ true → (length (tag_text (map plain_kind p.kinds) t) ≤ 46) × (1 ≤ length (listed_tags t))
  tag_few t fits = by (slice_get p.kinds t.kind) refl
    where
      many : (o : Bool) (ks : Keys) → keys_fit o ks ≡ true → 1 ≤ length (listed_keys ks)
      many o keys.Alone e = omega arith
      many o (keys.One k) e = omega arith
      many o (keys.Range lo hi) e =
          let rises = true_le lo hi (and_right o (nat_le lo hi) (and_left (o && nat_le lo hi) (nat_lt hi key_count) e)) in
          omega (arith, rises, length-range_with_len lo (hi + 1 - lo))

      by : (o : Option Kind) → slice_get p.kinds t.kind ≡ o → (length (tag_text (map plain_kind p.kinds) t) ≤ 46) × (1 ≤ length (listed_tags t))
      by None e = absurd (let none : listed_kind_fits None t.keys ≡ true = subst (λ o. listed_kind_fits o t.keys ≡ true) e fits in cc)
      by (Some k) e =
          let here : keys_fit k.keyed t.keys ≡ true = subst (λ o. listed_kind_fits o t.keys ≡ true) e fits in (
            omega (
              arith,
              kind_name_few t.kind,
              keys_few k.keyed t.keys here,
              length-append (kind_name (slice_get (map plain_kind p.kinds) t.kind)) (keys_text t.keys),
            ),
            omega (arith, many k.keyed t.keys here, length-map (listed_keys t.keys) (λ (n : ℕ). tag t.kind n)),
          )

  -- the tags of a source, which are itags
  pub tags_few : (ts : List TagRef) → list_all (tag_ref_fits p.kinds) ts ≡ true
      → total (λ t. 2 + length (tag_text (map plain_kind p.kinds) t)) ts ≤ 48 * length (flat_map listed_tags ts)
  tags_few [] fits = omega arith
  tags_few (t ∷ ts) fits =
      let here = tag_few t (and_left (tag_ref_fits p.kinds t) (list_all (tag_ref_fits p.kinds) ts) fits) in
      let text = here.0 in
      let some = here.1 in
      let more = tags_few ts (and_right (tag_ref_fits p.kinds t) (list_all (tag_ref_fits p.kinds) ts) fits) in
      omega (arith, text, some, more, length-append (listed_tags t) (flat_map listed_tags ts))

  pub slack_few : (n : ℕ) → n ≤ 60000 → length (slack_text n) ≤ 12
  slack_few n small = by (nat_lt 0 n)
    where
      by : (b : Bool) → length (cond b (codes " slack " ++ decimal n) []) ≤ 12
      by true = omega (arith, digits 5 n (omega arith) (omega (arith, small)) (omega (arith, small)))
      by false = omega arith

  -- what begins the line of a source
  head_of_few : (s : Source) (every : Option ℕ) → length s.name ≤ 32 → s.rate ≤ 1000000000 → s.slack ≤ 60000 → has_origin p.kinds s every ≡ true
      → length (head_of s every) ≤ 328
  head_of_few s None name rate slack fits =
      let file = true_le (length s.file) 256 (and_right (nat_lt 0 (length s.file)) (is_short s.file)
      (and_left (nat_lt 0 (length s.file) && is_short s.file) _ fits)) in
      omega (
        arith,
        name,
        file,
        slack_few s.slack slack,
        digits 10 s.rate (omega arith) (omega (arith, rate)) (omega (arith, rate)),
        length-append s.file (34 ∷ []),
        seven_long s.name (codes " ") (quoted s.file) (codes " rate ") (decimal s.rate) (slack_text s.slack) (codes ": "),
      )
  head_of_few s (Some every) name rate slack fits =
      let within : Bool = nat_le 1 every && nat_le every (2 ^ 62) in
      let file : Bool = length s.file == 0 in
      let prompt : Bool = s.slack == 0 in
      let one : Bool = length s.tags == 1 in
      let four = and_left (within && file && prompt && one) (list_all (is_tick_tag p.kinds) s.tags) fits in
      let two = and_left (within && file) prompt (and_left (within && file && prompt) one four) in
      let period = true_le every (2 ^ 62) (and_right (nat_le 1 every) (nat_le every (2 ^ 62)) (and_left within file two)) in
      omega (
        arith,
        name,
        digits 19 every (omega arith) (omega (arith, period)) (omega (arith, period)),
        digits 10 s.rate (omega arith) (omega (arith, rate)) (omega (arith, rate)),
        six_long s.name (codes " every ") (decimal every) (codes " rate ") (decimal s.rate) (codes ": "),
      )

  pub source_few : (s : Source) → source_fits p.kinds s ≡ true → length (source_line (map plain_kind p.kinds) s) ≤ 331 + 48 * length (tags_of_source s)
  source_few s fits =
      let origin : Bool = origin_fits p.kinds s in
      let five = and_left (is_name s.name && origin && nat_le s.rate 1000000000 && nat_le s.slack 60000 && nat_lt 0 (length s.tags)
      && list_all (tag_ref_fits p.kinds) s.tags) _ fits in
      let tags = and_right (is_name s.name && origin && nat_le s.rate 1000000000 && nat_le s.slack 60000 && nat_lt 0 (length s.tags))
      (list_all (tag_ref_fits p.kinds) s.tags) five in
      let four = and_left (is_name s.name && origin && nat_le s.rate 1000000000 && nat_le s.slack 60000) (nat_lt 0 (length s.tags))
      (and_left (is_name s.name && origin && nat_le s.rate 1000000000 && nat_le s.slack 60000 && nat_lt 0 (length s.tags))
      (list_all (tag_ref_fits p.kinds) s.tags) five) in
      let slack = true_le s.slack 60000 (and_right (is_name s.name && origin && nat_le s.rate 1000000000) (nat_le s.slack 60000) four) in
      let three = and_left (is_name s.name && origin && nat_le s.rate 1000000000) (nat_le s.slack 60000) four in
      let rate = true_le s.rate 1000000000 (and_right (is_name s.name && origin) (nat_le s.rate 1000000000) three) in
      let two = and_left (is_name s.name && origin) (nat_le s.rate 1000000000) three in
      let name = name_few s.name (and_left (is_name s.name) origin two) in
      let head = head_of_few s s.every name rate slack (and_right (is_name s.name) origin two) in
      let items = separated (codes ", ") (tag_text (map plain_kind p.kinds)) s.tags in
      let listed = separated_few (codes ", ") (tag_text (map plain_kind p.kinds)) s.tags in
      let few = tags_few s.tags tags in
      omega (arith, head, listed, few, three_long (source_head s) items line_end)

  pub sources_few : (at : ℕ) (ss : List Source) → list_all (source_fits p.kinds) ss ≡ true
      → length (flat_map (source_line (map plain_kind p.kinds)) ss) ≤ 331 * length ss + 48 * length (itags_of_sources at ss)
  sources_few at [] fits = omega arith
  sources_few at (s ∷ ss) fits =
      let here = source_few s (and_left (source_fits p.kinds s) (list_all (source_fits p.kinds) ss) fits) in
      let more = sources_few (at + 1) ss (and_right (source_fits p.kinds s) (list_all (source_fits p.kinds) ss) fits) in
      let pair : Tag → Tag × ℕ = λ t. (t, at) in
      omega (
        arith,
        here,
        more,
        length-append (source_line (map plain_kind p.kinds) s) (flat_map (source_line (map plain_kind p.kinds)) ss),
        length-append (map pair (tags_of_source s)) (itags_of_sources (at + 1) ss),
        length-map (tags_of_source s) pair,
      )

  pub tag_lines_few : (ks : List Kind) → list_all (kind_fits p.families) ks ≡ true → length (flat_map (tag_line p.lists) (map plain_kind ks)) ≤ 89 * length ks
  tag_lines_few [] fits = omega arith
  tag_lines_few (k ∷ ks) fits =
      let here = tag_line_few k (and_left (kind_fits p.families k) (list_all (kind_fits p.families) ks) fits) in
      let more = tag_lines_few ks (and_right (kind_fits p.families k) (list_all (kind_fits p.families) ks) fits) in
      omega (arith, here, more, length-append (tag_line p.lists (plain_kind k)) (flat_map (tag_line p.lists) (map plain_kind ks)))

  pub depends_lines_few : (ys : List Depend) → length (flat_map (depends_line (map plain_kind p.kinds)) ys) ≤ 79 * length ys
  depends_lines_few [] = omega arith
  depends_lines_few (y ∷ ys) =
      omega (
        arith,
        depends_line_few y,
        depends_lines_few ys,
        length-append (depends_line (map plain_kind p.kinds) y) (flat_map (depends_line (map plain_kind p.kinds)) ys),
      )
