-- The normal form of the job of a text is UTF-8: each name, file, text of a list and plain piece of a template stands in the text between two of its
-- characters, and all else that is printed is ASCII.
use Rattle.flu_parse.specs.Printing.{head_of}
use Rattle.std.proofs.Common.{◌≡◌, ◌<◌, ◌≤◌, ◌+◌, ◌-◌, ◌%◌, ◌/◌, ℕ, zero, suc, ℤ, pos, negsuc, Bool, true, false, cond, Option, Some, None, List, []}
use Rattle.std.proofs.Common.{◌∷◌, ◌++◌, map, length, refl, sym, ap, subst, ◌∙◌, arith}
use Rattle.std.specs.Prelude.{nat_lt, nat_le, ◌==◌, ◌&&◌, ◌||◌, slice_get, slice_index, slice_range, codes}
use Rattle.std.specs.Fmt.{decimal, signed_decimal, digits, digits_onto, digit_glyph}
use Rattle.std.specs.List.{flat_map, list_all, AllByRecursion}
use Rattle.std.specs.Str.{IsUtf8, IsAscii}
use Rattle.std.proofs.lemmas.Bool.Decides.{nat_tests}
use Rattle.std.proofs.lemmas.Grind.{common_steps}
use Rattle.std.proofs.lemmas.Str.{IsUtf8-nil, IsUtf8-append, IsUtf8-between, IsUtf8-from_ascii}
use Rattle.flu_lemmas.specs.Items.{Pairs}
use Rattle.flu_lemmas.specs.Spans.{is_boundary, spelled}
use Rattle.flu_lemmas.proofs.Tests.{and_left, and_right, true_lt, true_le}
use Rattle.flu_model.specs.declared.jobs.At.{At}
use Rattle.flu_model.specs.declared.jobs.At.TheVariants as at
use Rattle.flu_model.specs.declared.jobs.CellRef.{CellRef}
use Rattle.flu_model.specs.declared.jobs.Depend.{Depend}
use Rattle.flu_model.specs.declared.jobs.Family.{Family}
use Rattle.flu_model.specs.declared.jobs.Keys.{Keys}
use Rattle.flu_model.specs.declared.jobs.Keys.TheVariants as keys
use Rattle.flu_model.specs.declared.jobs.Op.{Op}
use Rattle.flu_model.specs.declared.jobs.Op.TheVariants as op
use Rattle.flu_model.specs.declared.jobs.Piece.{Piece}
use Rattle.flu_model.specs.declared.jobs.Piece.TheVariants as piece
use Rattle.flu_model.specs.declared.jobs.Sort.{Sort}
use Rattle.flu_model.specs.declared.jobs.Sort.TheVariants as sort
use Rattle.flu_model.specs.declared.jobs.Source.{Source}
use Rattle.flu_model.specs.declared.jobs.TagRef.{TagRef}
use Rattle.flu_model.specs.Erasure.{Term, PlainAct, PlainAction, PlainKind}
use Rattle.flu_model.specs.Numberings.{Numbering}
use Rattle.flu_model.specs.Texts.{Unit as TimeUnit}
use Rattle.flu_calendar.specs.declared.unit.Unit.TheVariants.{Seconds, Milliseconds, Microseconds}
use Rattle.flu_model.specs.Templates.{family_name, written_key, written_cell, written_piece, written_template}
use Rattle.flu_text.specs.declared.written.WrittenSpan.{WrittenSpan}
use Rattle.flu_syntax.specs.Tree.{Tree, Deed, Action, Declarations, Cell, Tag, Names, Depends, On, Source as SourceLine, Clock as ClockLine}
use Rattle.flu_layout.specs.Laid.{line_end, quoted}
use Rattle.flu_layout.specs.Lists.{separated, keys_text}
use Rattle.flu_layout.specs.Spelling.{name_of, inside}
use Rattle.flu_parse.specs.declared.pieces.WrittenPiece.{WrittenPiece}
use Rattle.flu_parse.specs.declared.pieces.WrittenPiece.TheVariants as w
use Rattle.flu_parse.specs.Printing.{op_text, term_text, act_text, guard_text, action_text, ties_text, iso_text, keyed_text, sort_text, cell_line, item_text}
use Rattle.flu_parse.specs.Printing.{value_text, tag_line, kind_name, same_text, depends_line, actions_line, on_line, tag_text, slack_text, source_line}
use Rattle.flu_parse.specs.Printing.{names_line, name_of_list, by_text}
use Rattle.flu_grammar.specs.Means.{IfWritten, Under}
use Rattle.flu_grammar.specs.Terms.{MeansTerm, means_number, means_value, means_key, means_item, means_time, means_read, means_held, means_inside}
use Rattle.flu_grammar.specs.Terms.{means_negative, means_negation, means_operation, MeansExpression}
use Rattle.flu_grammar.specs.Templates.{MeansPiece, MeansTemplate}
use Rattle.flu_grammar.specs.Actions.{MeansDeed, means_add, means_raise, means_set, means_clear, means_clear_family, means_emit, means_flush, MeansAction}
use Rattle.flu_grammar.specs.Declared.{DeclaredKind, WrittenFeed, OfFile, OfClock, WrittenNames, under_kind, families_in, kinds_in, actions_in, sources_in}
use Rattle.flu_grammar.specs.Declared.{lists_in}
use Rattle.flu_grammar.specs.Sources.{MeansFeed}
use Rattle.flu_grammar.specs.Jobs.{MeansNames, without_list, MeansDeclaredKind}
use Rattle.flu_grammar.specs.Laws.{NormalFormIsUtf8}

record Utf8 (bytes : List ℕ) : Type 0 where
  is : IsUtf8 bytes

-- ---- what is UTF-8

none : Utf8 []
none = record { is = IsUtf8-nil }

infixl 30 ◌also◌
◌also◌ : {a b : List ℕ} → Utf8 a → Utf8 b → Utf8 (a ++ b)
◌also◌ {a} {b} x y = record { is = IsUtf8-append a b x.is y.is }

ascii_at : (bytes : List ℕ) → list_all (λ b. nat_lt b 128) bytes ≡ true → IsAscii bytes
ascii_at [] all i = omega arith
ascii_at (b ∷ bytes) all zero = true_lt b 128 (and_left (nat_lt b 128) (list_all (λ b. nat_lt b 128) bytes) all)
ascii_at (b ∷ bytes) all (suc i) = ascii_at bytes (and_right (nat_lt b 128) (list_all (λ b. nat_lt b 128) bytes) all) i

ascii : (bytes : List ℕ) → list_all (λ b. nat_lt b 128) bytes ≡ true → Utf8 bytes
ascii bytes all = record { is = IsUtf8-from_ascii bytes (ascii_at bytes all) }

-- the digits of a number
glyph_low : (d : ℕ) → d < 10 → nat_lt (digit_glyph false d) 128 ≡ true
glyph_low d lt = grind (arith, nat_tests)

-- a digit before the others
glyph_then : (n : ℕ) (acc : List ℕ) → list_all (λ b. nat_lt b 128) acc ≡ true → list_all (λ b. nat_lt b 128) (digit_glyph false (n % 10) ∷ acc) ≡ true
glyph_then n acc all = ap (λ (b : Bool). b && list_all (λ b. nat_lt b 128) acc) (glyph_low (n % 10) (omega arith)) ∙ all

digits_low : (k n : ℕ) (acc : List ℕ) → list_all (λ b. nat_lt b 128) acc ≡ true → list_all (λ b. nat_lt b 128) (digits_onto k 10 false n acc) ≡ true
digits_low zero n acc all = all
digits_low (suc k) n acc all =
    by (n / 10 == 0) (glyph_then n acc all) (digits_low k (n / 10) (digit_glyph false (n % 10) ∷ acc) (glyph_then n acc all))
  where
    by : (b : Bool) → list_all (λ b. nat_lt b 128) (digit_glyph false (n % 10) ∷ acc) ≡ true
        → list_all (λ b. nat_lt b 128) (digits_onto k 10 false (n / 10) (digit_glyph false (n % 10) ∷ acc)) ≡ true
        → list_all (λ b. nat_lt b 128) (cond b (digit_glyph false (n % 10) ∷ acc) (digits_onto k 10 false (n / 10) (digit_glyph false (n % 10) ∷ acc))) ≡ true
    by true one more = one
    by false one more = more

number : (n : ℕ) → Utf8 (decimal n)
unfolding digits
number n = ascii (decimal n) (digits_low 64 n [] refl)

signed : (n : ℤ) → Utf8 (signed_decimal n)
signed (pos n) = number n
signed (negsuc n) = ascii (codes "-") refl also number (suc n)

-- the bytes between two places of a text, of which each is one of its characters or its end
boundary : (at size byte : ℕ) → (nat_le at size && (nat_le size at || nat_lt byte 128 || nat_le 192 byte)) ≡ true
    → (at ≤ size) × (at < size → 128 ≤ byte → 192 ≤ byte)
boundary at size byte there = (grind (arith, common_steps), λ lt high. grind (arith, common_steps))

between : (text : List ℕ) (from to : ℕ) → IsUtf8 text → Utf8 (spelled text from to)
between text from to utf8 = by (nat_le from to && is_boundary text from && is_boundary text to) refl
  where
    by : (b : Bool) → (nat_le from to && is_boundary text from && is_boundary text to) ≡ b → Utf8 (cond b (slice_range text from to) [])
    by false e = none
    by true e =
        let front = and_left (nat_le from to && is_boundary text from) (is_boundary text to) e in
        record {
          is = IsUtf8-between text from to utf8 (true_le from to (and_left (nat_le from to) (is_boundary text from) front))
              (boundary from (length text) (slice_index text from) (and_right (nat_le from to) (is_boundary text from) front))
              (boundary to (length text) (slice_index text to) (and_right (nat_le from to && is_boundary text from) (is_boundary text to) e));
        }

-- the texts of items
items : {W X : Type 0} (R : W → X → Type 0) (text : X → List ℕ) → ((v : W) (x : X) → R v x → Utf8 (text x)) → (vs : List W) (xs : List X) → Pairs R vs xs
    → Utf8 (flat_map text xs)
items R text each [] [] pairs = none
items R text each [] (x ∷ xs) pairs = absurd pairs
items R text each (v ∷ vs) [] pairs = absurd pairs
items R text each (v ∷ vs) (x ∷ xs) pairs = each v x pairs.0 also items R text each vs xs pairs.1

-- and those with a mark between each two
marked : {W X : Type 0} (R : W → X → Type 0) (mark : List ℕ) (text : X → List ℕ) → Utf8 mark → ((v : W) (x : X) → R v x → Utf8 (text x))
    → (vs : List W) (xs : List X) → Pairs R vs xs → Utf8 (separated mark text xs)
marked R mark text between_two each [] [] pairs = none
marked R mark text between_two each [] (x ∷ xs) pairs = absurd pairs
marked R mark text between_two each (v ∷ vs) [] pairs = absurd pairs
marked R mark text between_two each (v ∷ vs) (x ∷ xs) pairs =
    each v x pairs.0 also items R (λ y. mark ++ text y) (λ u y is. between_two also each u y is) vs xs pairs.1

quotes : {bytes : List ℕ} → Utf8 bytes → Utf8 (quoted bytes)
quotes x = ascii (codes "\"") refl also (x also ascii (codes "\"") refl)

blank : Utf8 (codes " ")
blank = ascii (codes " ") refl

end : Utf8 line_end
end = ascii line_end refl

-- ---- names

abbrev named_family : Family → Type 0
named_family f = Utf8 f.name

abbrev named_list : Numbering → Type 0
named_list l = Utf8 l.name

abbrev named_kind : PlainKind → Type 0
named_kind k = Utf8 k.name

module _ {X : Type 0} (P : X → Type 0) where
  at_place : (xs : List X) → AllByRecursion P xs → (i : ℕ) (x : X) → slice_get xs i ≡ Some x → P x
  at_place [] all i x e = absurd (let bad : None ≡ Some x = e in cc)
  at_place (y ∷ xs) all zero x e = subst P (let same : y ≡ x = cc in same) all.0
  at_place (y ∷ xs) all (suc i) x e = at_place xs all.1 i x e

module _ (text : List ℕ) (utf8 : IsUtf8 text) where
  name : (span : WrittenSpan) (bytes : List ℕ) → bytes ≡ name_of text span → Utf8 bytes
  name span bytes e = subst Utf8 (sym e) (between text span.from span.to utf8)

  families : (ds : Declarations) → AllByRecursion named_family (flat_map (families_in text) ds)
  families [] = tt
  families (Cell n cells s ∷ ds) = (between text n.from n.to utf8, families ds)
  families (Tag n keyed item has_value ∷ ds) = families ds
  families (Names at n texts ∷ ds) = families ds
  families (Depends a b relation ∷ ds) = families ds
  families (On kind actions ∷ ds) = families ds
  families (SourceLine n file rate slack tags ∷ ds) = families ds
  families (ClockLine at n every rate tag ∷ ds) = families ds

  declared : (ds : Declarations) → AllByRecursion (λ (k : DeclaredKind). Utf8 k.name) (flat_map (kinds_in text) ds)
  declared [] = tt
  declared (Cell n cells s ∷ ds) = declared ds
  declared (Tag n keyed item has_value ∷ ds) = (between text n.from n.to utf8, declared ds)
  declared (Names at n texts ∷ ds) = declared ds
  declared (Depends a b relation ∷ ds) = declared ds
  declared (On kind actions ∷ ds) = declared ds
  declared (SourceLine n file rate slack tags ∷ ds) = declared ds
  declared (ClockLine at n every rate tag ∷ ds) = declared ds

  -- families have the names that they have without their lists
  families_named : (fs : List Family) → AllByRecursion named_family (map without_list fs) → AllByRecursion named_family fs
  families_named [] named = tt
  families_named (f ∷ fs) named = (named.0, families_named fs named.1)

  -- lists and their texts
  listed : (vs : List WrittenNames) (ls : List Numbering) → Pairs (MeansNames text) vs ls → AllByRecursion named_list ls
  listed [] [] pairs = tt
  listed [] (l ∷ ls) pairs = absurd pairs
  listed (v ∷ vs) [] pairs = absurd pairs
  listed (v ∷ vs) (l ∷ ls) pairs = (name v.name l.name pairs.0.name, listed vs ls pairs.1)

  between_quotes : (ss : List WrittenSpan) → Pairs (λ (s : WrittenSpan) (t : List ℕ). t ≡ inside text s) ss (map (inside text) ss)
  between_quotes [] = tt
  between_quotes (s ∷ ss) = (refl, between_quotes ss)

  names_utf8 : (v : WrittenNames) (l : Numbering) → MeansNames text v l → Utf8 (names_line l)
  names_utf8 v l means =
      let texts = marked (λ (s : WrittenSpan) (t : List ℕ). t ≡ inside text s) (codes ", ") quoted (ascii (codes ", ") refl)
      (λ s t is. quotes (subst Utf8 (sym is) (between text (s.from + 1) (s.to - 1) utf8))) v.texts l.texts
      (subst (λ (ts : List (List ℕ)). Pairs (λ (s : WrittenSpan) (t : List ℕ). t ≡ inside text s) v.texts ts) (sym means.texts) (between_quotes v.texts)) in
      ascii (codes "names ") refl also name v.name l.name means.name also ascii (codes ": ") refl also texts also end

  kinds : (version : ℕ) (fs : List Family) (ds : Declarations) (ks : List DeclaredKind) (js : List PlainKind)
      → AllByRecursion (λ (k : DeclaredKind). Utf8 k.name) ks
      → Pairs (MeansDeclaredKind text version fs ds) ks js → AllByRecursion named_kind js
  kinds version fs ds [] [] named pairs = tt
  kinds version fs ds [] (j ∷ js) named pairs = absurd pairs
  kinds version fs ds (k ∷ ks) [] named pairs = absurd pairs
  kinds version fs ds (k ∷ ks) (j ∷ js) named pairs = (subst Utf8 (sym pairs.0.name) named.0, kinds version fs ds ks js named.1 pairs.1)

-- ---- cells, expressions and templates

key : (k : At) → Utf8 (written_key k)
key at.Alone = none
key at.OwnKey = ascii (codes "[key]") refl
key at.OwnItem = ascii (codes "[item]") refl
key (at.Fixed k) = ascii (codes "[") refl also number k also ascii (codes "]") refl

operator : (o : Op) → Utf8 (op_text o)
operator op.Plus = ascii (codes "+") refl
operator op.Minus = ascii (codes "-") refl
operator op.Times = ascii (codes "*") refl
operator op.Divide = ascii (codes "/") refl
operator op.Remainder = ascii (codes "%") refl
operator op.Less = ascii (codes "<") refl
operator op.LessEq = ascii (codes "<=") refl
operator op.More = ascii (codes ">") refl
operator op.MoreEq = ascii (codes ">=") refl
operator op.Same = ascii (codes "==") refl
operator op.Differs = ascii (codes "!=") refl
operator op.Both = ascii (codes "and") refl
operator op.Either = ascii (codes "or") refl

module _ (text : List ℕ) (utf8 : IsUtf8 text) (fs : List Family) (named : AllByRecursion named_family fs) where
  family : (i : ℕ) → Utf8 (family_name (slice_get fs i))
  family i = by (slice_get fs i) refl
    where
      by : (o : Option Family) → slice_get fs i ≡ o → Utf8 (family_name o)
      by None e = none
      by (Some f) e = at_place named_family fs named i f e

  cell : (c : CellRef) → Utf8 (written_cell fs c)
  cell c = family c.family also key c.at

  -- what is written means it with the families as they are declared, of which no list is said
  module _ (said : List Family) (under : Under) where
    term : {e : Tree} {t : Term} → MeansTerm text said under e t → Utf8 (term_text fs t)
    term (means_number n) = signed n.value
    term (means_value at h) = ascii (codes "value") refl
    term (means_key at h) = ascii (codes "key") refl
    term (means_item r item has) = ascii (codes "item") refl
    term (means_time at) = ascii (codes "time") refl
    term (means_read r c other means) = cell c
    term (means_held at r c means) = ascii (codes "has ") refl also cell c
    term (means_inside at e t means) = term means
    term (means_negative at e t means) = ascii (codes "(- ") refl also term means also ascii (codes ")") refl
    term (means_negation at e t means) = ascii (codes "(not ") refl also term means also ascii (codes ")") refl
    term (means_operation o at left right a b fits first second) =
        ascii (codes "(") refl also term first also blank also operator o also blank also term second also ascii (codes ")") refl

    part : (flushed : Option ℕ) (v : WrittenPiece) (p : Piece) → MeansPiece text said under flushed v p → Utf8 (written_piece fs p)
    part flushed (w.Plain s) (piece.Plain t) means = name text utf8 s t means
    part flushed _ piece.Value means = ascii (codes "{value}") refl
    part flushed _ piece.Key means = ascii (codes "{key}") refl
    part flushed _ piece.Time means = ascii (codes "{time}") refl
    part flushed _ piece.CellValue means = ascii (codes "{cell}") refl
    part flushed _ piece.Item means = ascii (codes "{item}") refl
    part flushed _ (piece.FamilyCell number) means = ascii (codes "{") refl also family number also ascii (codes "}") refl
    part flushed _ (piece.Read c) means = ascii (codes "{") refl also cell c also ascii (codes "}") refl
    part flushed _ (piece.Plain t) means = absurd means

    template : (flushed : Option ℕ) (s : WrittenSpan) (ps : List Piece) → MeansTemplate text said under flushed s ps → Utf8 (written_template fs ps)
    template flushed s ps means = items (MeansPiece text said under flushed) (written_piece fs) (part flushed) means.parts ps means.means

    -- ---- actions
    deed : {d : Deed} {act : PlainAct} → MeansDeed text said under d act → Utf8 (act_text fs act)
    deed (means_add r e c t is means) = ascii (codes "add ") refl also cell c also blank also term means.means
    deed (means_raise r e c t is means) = ascii (codes "raise ") refl also cell c also blank also term means.means
    deed (means_set r e c t is means) = ascii (codes "set ") refl also cell c also blank also term means.means
    deed (means_clear r c is) = ascii (codes "clear ") refl also cell c
    deed (means_clear_family r number third alone is) = ascii (codes "clear ") refl also family number
    deed (means_emit s ps means) = ascii (codes "emit ") refl also quotes (template None s ps means)
    deed (means_flush n s number ps is means) = ascii (codes "flush ") refl also family number also blank also quotes (template (Some number) s ps means)

    guard : (written : Option Tree) (o : Option Term) → IfWritten (MeansExpression text said under) written o → Utf8 (guard_text fs o)
    guard written None means = none
    guard None (Some t) means = absurd means
    guard (Some e) (Some t) means = ascii (codes " when ") refl also term means.means

    action : (written : Action) (a : PlainAction) → MeansAction text said under written a → Utf8 (action_text fs a)
    action written a means = deed means.act also guard written.guard a.guard means.guard

    actions : (name : List ℕ) → Utf8 name → (ws : List Action) (js : List PlainAction) → Pairs (MeansAction text said under) ws js
        → Utf8 (actions_line fs name js)
    actions name is ws [] pairs = none
    actions name is [] (a ∷ js) pairs = absurd pairs
    actions name is (v ∷ ws) (a ∷ js) pairs =
        ascii (codes "on ") refl also is also ascii (codes ": ") refl
        also marked (MeansAction text said under) (codes "; ") (action_text fs) (ascii (codes "; ") refl) action (v ∷ ws) (a ∷ js) pairs also end

  line : (said : List Family) (version : ℕ) (ds : Declarations) (k : DeclaredKind) (j : PlainKind) → Utf8 j.name
      → MeansDeclaredKind text version said ds k j → Utf8 (on_line fs j)
  line said version ds k j is means = actions said (under_kind version k) j.name is (flat_map (actions_in text k.name) ds) j.actions means.actions

  lines : (said : List Family) (version : ℕ) (ds : Declarations) (ks : List DeclaredKind) (js : List PlainKind) → AllByRecursion named_kind js
      → Pairs (MeansDeclaredKind text version said ds) ks js
      → Utf8 (flat_map (on_line fs) js)
  lines said version ds [] [] is pairs = none
  lines said version ds [] (j ∷ js) is pairs = absurd pairs
  lines said version ds (k ∷ ks) [] is pairs = absurd pairs
  lines said version ds (k ∷ ks) (j ∷ js) is pairs = line said version ds k j is.0 pairs.0 also lines said version ds ks js is.1 pairs.1

-- ---- the other lines

word : (b : Bool) (some other : List ℕ) → Utf8 some → Utf8 other → Utf8 (cond b some other)
word true some other x y = x
word false some other x y = y

keyed_word : (b : Bool) → Utf8 (keyed_text b)
keyed_word true = ascii (codes " keyed") refl
keyed_word false = none

sort_name : (s : Sort) → Utf8 (sort_text s)
sort_name sort.Sum = ascii (codes " sum") refl
sort_name sort.Max = ascii (codes " max") refl
sort_name sort.Last = ascii (codes " last") refl

item_word : (b : Bool) → Utf8 (item_text b)
item_word true = ascii (codes " item") refl
item_word false = none

value_word : (b : Bool) → Utf8 (value_text b)
value_word true = ascii (codes " int") refl
value_word false = ascii (codes " none") refl

same_word : (b : Bool) → Utf8 (same_text b)
same_word true = ascii (codes " same") refl
same_word false = none

module _ (lists : List Numbering) (named : AllByRecursion named_list lists) where
  list_words : (o : Option ℕ) → Utf8 (by_text lists o)
  list_words None = none
  list_words (Some i) = ascii (codes " by ") refl also by (slice_get lists i) refl
    where
      by : (o : Option Numbering) → slice_get lists i ≡ o → Utf8 (name_of_list o)
      by None e = none
      by (Some l) e = at_place named_list lists named i l e

  cells : (fs : List Family) → AllByRecursion named_family fs → Utf8 (flat_map (cell_line lists) fs)
  cells [] are = none
  cells (f ∷ fs) are =
      ascii (codes "cell ") refl also are.0 also keyed_word f.keyed also list_words f.list also sort_name f.sort also end also cells fs are.1

  tags : (ks : List PlainKind) → AllByRecursion named_kind ks → Utf8 (flat_map (tag_line lists) ks)
  tags [] are = none
  tags (k ∷ ks) are =
      ascii (codes "tag ") refl also are.0 also keyed_word k.keyed also item_word k.has_item also list_words k.list also value_word k.has_value also end
      also tags ks are.1

listed_keys : (ks : Keys) → Utf8 (keys_text ks)
listed_keys keys.Alone = none
listed_keys (keys.One k) = ascii (codes "[") refl also number k also ascii (codes "]") refl
listed_keys (keys.Range low high) =
    ascii (codes "[") refl also number low also ascii (codes "..") refl also number high also ascii (codes "]") refl

module _ (js : List PlainKind) (named : AllByRecursion named_kind js) where
  kind : (i : ℕ) → Utf8 (kind_name (slice_get js i))
  kind i = by (slice_get js i) refl
    where
      by : (o : Option PlainKind) → slice_get js i ≡ o → Utf8 (kind_name o)
      by None e = none
      by (Some k) e = at_place named_kind js named i k e

  depends : (ys : List Depend) → Utf8 (flat_map (depends_line js) ys)
  depends [] = none
  depends (y ∷ ys) = ascii (codes "depends ") refl also kind y.a also blank also kind y.b also same_word y.same also end also depends ys

  tag : (t : TagRef) → Utf8 (tag_text js t)
  tag t = kind t.kind also listed_keys t.keys

  slack : (n : ℕ) → Utf8 (slack_text n)
  slack n = word (nat_lt 0 n) (codes " slack " ++ decimal n) [] (ascii (codes " slack ") refl also number n) none

  same_tags : (ts : List TagRef) → Pairs (λ (x y : TagRef). Unit {0}) ts ts
  same_tags [] = tt
  same_tags (t ∷ ts) = (tt, same_tags ts)

  head : (s : Source) (every : Option ℕ) → Utf8 s.name → Utf8 s.file → Utf8 (head_of s every)
  head s None named file =
      ascii (codes "source ") refl also named also blank also quotes file
      also ascii (codes " rate ") refl also number s.rate also slack s.slack also ascii (codes ": ") refl
  head s (Some every) named file =
      ascii (codes "clock ") refl also named also ascii (codes " every ") refl also number every
      also ascii (codes " rate ") refl also number s.rate also ascii (codes ": ") refl

  source : (s : Source) → Utf8 s.name → Utf8 s.file → Utf8 (source_line js s)
  source s named file =
      let listed = marked (λ (x y : TagRef). Unit {0}) (codes ", ") (tag_text js) (ascii (codes ", ") refl) (λ x y is. tag y) s.tags s.tags
      (same_tags s.tags) in
      head s s.every named file also listed also end

unit_ascii : (iso : Option TimeUnit) → Utf8 (iso_text iso)
unit_ascii None = none
unit_ascii (Some Seconds) = ascii (codes " iso seconds") refl
unit_ascii (Some Milliseconds) = ascii (codes " iso milliseconds") refl
unit_ascii (Some Microseconds) = ascii (codes " iso microseconds") refl

-- a source has a file of the text, and a clock has none
feed_utf8 : (bytes : List ℕ) (utf8 : IsUtf8 bytes) (kinds : List DeclaredKind) (js : List PlainKind) (ks : AllByRecursion named_kind js) (w : WrittenFeed)
    (s : Source) → MeansFeed bytes kinds w s → Utf8 (source_line js s)
feed_utf8 bytes utf8 kinds js ks (OfFile written) s means =
    source js ks s (name bytes utf8 written.name s.name means.name)
    (subst Utf8 (sym means.file) (between bytes (written.file.from + 1) (written.file.to - 1) utf8))
feed_utf8 bytes utf8 kinds js ks (OfClock written) s means =
    source js ks s (name bytes utf8 written.name s.name means.name) (subst Utf8 (sym means.no_file) none)

-- ---- the whole
pub normal_form_is_utf8 : NormalFormIsUtf8
normal_form_is_utf8 bytes job is =
    let utf8 = is.text.utf8 in
    let ds = is.written.declarations in
    let means = is.means in
    let said = flat_map (families_in bytes) ds in
    let fs : AllByRecursion named_family job.families =
    families_named bytes utf8 job.families (subst (AllByRecursion named_family) (sym means.families) (families bytes utf8 ds)) in
    let ls = listed bytes utf8 (flat_map lists_in ds) job.lists means.lists in
    let names = items (MeansNames bytes) names_line (names_utf8 bytes utf8) (flat_map lists_in ds) job.lists means.lists in
    let ks = kinds bytes utf8 job.version said ds (flat_map (kinds_in bytes) ds) job.kinds (declared bytes utf8 ds) means.kinds in
    let several = word (nat_lt 1 job.ties) (codes " ties " ++ decimal job.ties) [] (ascii (codes " ties ") refl also number job.ties) none in
    let named = ascii (codes "version 3") refl also several also unit_ascii job.iso also ascii line_end refl in
    let third = word (job.version == 3) (codes "version 3" ++ ties_text job.ties ++ iso_text job.iso ++ line_end) [] named none in
    let version = word (job.version == 2) (codes "version 2" ++ line_end) _ (ascii (codes "version 2" ++ line_end) refl) third in
    let ons = lines bytes utf8 job.families fs said job.version ds (flat_map (kinds_in bytes) ds) job.kinds ks means.kinds in
    let sources = items (MeansFeed bytes (flat_map (kinds_in bytes) ds)) (source_line job.kinds)
    (λ written s feed_means. feed_utf8 bytes utf8 (flat_map (kinds_in bytes) ds) job.kinds ks written s feed_means)
    (flat_map sources_in ds) job.sources means.sources in
    (version also names also cells job.lists ls job.families fs also tags job.lists ls job.kinds ks also depends job.kinds ks job.depends also ons
    also sources).is
