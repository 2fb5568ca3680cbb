-- The rules that every job keeps: its names, its shapes and its limits. Each is a test, which computes.
use Rattle.std.specs.Prelude.{ℕ, ◌+◌, ◌^◌, ℤ, pos, negsuc, Bool, true, false, not, nat_lt, nat_le, ◌==◌, ◌&&◌, ◌||◌, Option, Some, None, List, [], ◌∷◌, ◌++◌}
use Rattle.std.specs.Prelude.{map, length, max, slice_get, is_some, if◌then◌else◌}
use Rattle.std.specs.List.{list_all, list_any, filter_map}
use Rattle.std.specs.Cmp.Lexicographic.{pointwise}
use Rattle.flu_model.specs.declared.jobs.Sort.{Sort}
use Rattle.flu_model.specs.declared.jobs.Sort.TheVariants.{Sum, Max, Last}
use Rattle.flu_model.specs.declared.jobs.Family.{Family}
use Rattle.flu_model.specs.declared.jobs.At.{At}
use Rattle.flu_model.specs.declared.jobs.At.TheVariants.{Alone, OwnKey, OwnItem, Fixed}
use Rattle.flu_model.specs.declared.jobs.CellRef.{CellRef}
use Rattle.flu_model.specs.declared.jobs.Expr.{Expr}
use Rattle.flu_model.specs.declared.jobs.Expr.TheVariants.{Lit, Value, Key, Item, Time, Read, Has, Neg', Not', Two'}
use Rattle.flu_model.specs.declared.jobs.Piece.{Piece}
use Rattle.flu_model.specs.declared.jobs.Piece.TheVariants.{Plain, Value as ValueField, Key as KeyField, Item as ItemField, Time as TimeField}
use Rattle.flu_model.specs.declared.jobs.Piece.TheVariants.{Read as ReadField, CellValue, FamilyCell}
use Rattle.flu_model.specs.declared.jobs.Act.{Act}
use Rattle.flu_model.specs.declared.jobs.Act.TheVariants.{Add, Raise, Set, Clear, ClearFamily, Emit, Flush}
use Rattle.flu_model.specs.declared.jobs.Action.{Action}
use Rattle.flu_model.specs.declared.jobs.Kind.{Kind}
use Rattle.flu_model.specs.declared.jobs.Depend.{Depend}
use Rattle.flu_model.specs.declared.jobs.Keys.{Keys}
use Rattle.flu_model.specs.declared.jobs.Keys.TheVariants.{Alone as AloneKeys, One, Range}
use Rattle.flu_model.specs.declared.jobs.TagRef.{TagRef}
use Rattle.flu_model.specs.declared.jobs.Source.{Source}
use Rattle.flu_model.specs.declared.events.Tag.{Tag}
use Rattle.flu_model.specs.Contents.{key_count}
use Rattle.flu_model.specs.Listing.{tags_of_source}
use Rattle.flu_model.specs.Numberings.{Numbering}
use Rattle.flu_model.specs.Templates.{written_template}
use Rattle.flu_names.specs.Names.{is_name, is_text_byte}

-- ---- names
abbrev pub is_same_text : List ℕ → List ℕ → Bool
is_same_text a b = pointwise ◌==◌ a b

abbrev pub are_distinct : {X : Type 0} → (X → X → Bool) → List X → Bool
are_distinct same [] = true
are_distinct same (x ∷ xs) = not (list_any (same x) xs) && are_distinct same xs

-- ---- references, expressions and templates, each under a kind that is keyed or not and has a value or not; what asks for a kind
-- with items is said apart (Versions)
abbrev pub key_fits : Bool → Bool → At → Bool
key_fits family_keyed kind_keyed Alone = not family_keyed
key_fits family_keyed kind_keyed OwnKey = family_keyed && kind_keyed
key_fits family_keyed kind_keyed OwnItem = family_keyed
key_fits family_keyed kind_keyed (Fixed k) = family_keyed && nat_lt k key_count

abbrev pub is_sort : Sort → Sort → Bool
is_sort Sum Sum = true
is_sort Max Max = true
is_sort Last Last = true
is_sort _ _ = false

abbrev pub family_fits : Option Family → Bool → At → Bool
family_fits None kind_keyed at = false
family_fits (Some f) kind_keyed at = key_fits f.keyed kind_keyed at

abbrev pub has_sort : Option Family → Sort → Bool
has_sort None sort = false
has_sort (Some f) sort = is_sort f.sort sort

abbrev pub is_declared : Option Family → Bool
is_declared None = false
is_declared (Some f) = true

abbrev pub is_keyed : Option Family → Bool
is_keyed None = false
is_keyed (Some f) = f.keyed

abbrev pub ref_fits : List Family → Bool → CellRef → Bool
ref_fits families kind_keyed r = family_fits (slice_get families r.family) kind_keyed r.at

abbrev pub ref_has_sort : List Family → Sort → CellRef → Bool
ref_has_sort families sort r = has_sort (slice_get families r.family) sort

-- a number as a job text writes it, not negative
abbrev pub is_literal : ℤ → Bool
is_literal (pos n) = nat_lt n (2 ^ 63)
is_literal (negsuc n) = false

abbrev pub expr_fits : List Family → Bool → Bool → Expr → Bool
expr_fits families keyed has_value (Lit n) = is_literal n
expr_fits families keyed has_value Value = has_value
expr_fits families keyed has_value Key = keyed
expr_fits families keyed has_value Item = true
expr_fits families keyed has_value Time = true
expr_fits families keyed has_value (Read r) = ref_fits families keyed r
expr_fits families keyed has_value (Has r) = ref_fits families keyed r
expr_fits families keyed has_value (Neg' p e) = expr_fits families keyed has_value e
expr_fits families keyed has_value (Not' p e) = expr_fits families keyed has_value e
expr_fits families keyed has_value (Two' op p a q b) = expr_fits families keyed has_value a && expr_fits families keyed has_value b

abbrev pub height : Expr → ℕ
height (Lit n) = 1
height Value = 1
height Key = 1
height Item = 1
height Time = 1
height (Read r) = 1
height (Has r) = 1
height (Neg' p e) = height e + 1
height (Not' p e) = height e + 1
height (Two' op p a q b) = max (height a) (height b) + 1

abbrev pub is_good_expr : List Family → Bool → Bool → Expr → Bool
is_good_expr families keyed has_value e = expr_fits families keyed has_value e && nat_le (height e) 32

-- a byte that stands for itself in a template: no brace
abbrev pub is_plain_byte : ℕ → Bool
is_plain_byte b = is_text_byte b && not (b == 123) && not (b == 125)

abbrev pub is_plain : List ℕ → Bool
is_plain t = nat_lt 0 (length t) && list_all is_plain_byte t

abbrev pub emit_piece_fits : List Family → Bool → Bool → Piece → Bool
emit_piece_fits families keyed has_value (Plain t) = is_plain t
emit_piece_fits families keyed has_value ValueField = has_value
emit_piece_fits families keyed has_value KeyField = keyed
emit_piece_fits families keyed has_value ItemField = true
emit_piece_fits families keyed has_value TimeField = true
emit_piece_fits families keyed has_value (ReadField r) = ref_fits families keyed r
emit_piece_fits families keyed has_value CellValue = false
emit_piece_fits families keyed has_value (FamilyCell f) = false

-- in a flush of the family with this number; its own cell is `CellValue` alone, so that a template has one form
abbrev pub flush_piece_fits : List Family → ℕ → Bool → Piece → Bool
flush_piece_fits families flushed has_value (Plain t) = is_plain t
flush_piece_fits families flushed has_value ValueField = has_value
flush_piece_fits families flushed has_value KeyField = true
flush_piece_fits families flushed has_value ItemField = true
flush_piece_fits families flushed has_value TimeField = true
flush_piece_fits families flushed has_value (ReadField r) = false
flush_piece_fits families flushed has_value CellValue = true
flush_piece_fits families flushed has_value (FamilyCell f) = is_declared (slice_get families f) && not (f == flushed)

-- a plain piece is as long as it can be: none follows another, so that a template has one form
abbrev pub follows_plain : List Piece → Bool
follows_plain [] = false
follows_plain (Plain t ∷ ps) = true
follows_plain (ValueField ∷ ps) = false
follows_plain (KeyField ∷ ps) = false
follows_plain (ItemField ∷ ps) = false
follows_plain (TimeField ∷ ps) = false
follows_plain (ReadField r ∷ ps) = false
follows_plain (CellValue ∷ ps) = false
follows_plain (FamilyCell f ∷ ps) = false

abbrev pub are_apart : List Piece → Bool
are_apart [] = true
are_apart (Plain t ∷ ps) = not (follows_plain ps) && are_apart ps
are_apart (ValueField ∷ ps) = are_apart ps
are_apart (KeyField ∷ ps) = are_apart ps
are_apart (ItemField ∷ ps) = are_apart ps
are_apart (TimeField ∷ ps) = are_apart ps
are_apart (ReadField r ∷ ps) = are_apart ps
are_apart (CellValue ∷ ps) = are_apart ps
are_apart (FamilyCell f ∷ ps) = are_apart ps

-- what is between two quotes has at most 256 bytes
abbrev pub is_short : List ℕ → Bool
is_short inside = nat_le (length inside) 256

abbrev pub emit_template_fits : List Family → Bool → Bool → List Piece → Bool
emit_template_fits families keyed has_value ps =
    list_all (emit_piece_fits families keyed has_value) ps && are_apart ps && is_short (written_template families ps)

abbrev pub flush_template_fits : List Family → ℕ → Bool → List Piece → Bool
flush_template_fits families flushed has_value ps =
    list_all (flush_piece_fits families flushed has_value) ps && are_apart ps && is_short (written_template families ps)

-- ---- actions and kinds
abbrev pub act_fits : List Family → Bool → Bool → Act → Bool
act_fits families keyed has_value (Add r e) = ref_fits families keyed r && ref_has_sort families Sum r && is_good_expr families keyed has_value e
act_fits families keyed has_value (Raise r e) = ref_fits families keyed r && ref_has_sort families Max r && is_good_expr families keyed has_value e
act_fits families keyed has_value (Set r e) = ref_fits families keyed r && ref_has_sort families Last r && is_good_expr families keyed has_value e
act_fits families keyed has_value (Clear r) = ref_fits families keyed r
act_fits families keyed has_value (ClearFamily f) = is_keyed (slice_get families f)
act_fits families keyed has_value (Emit ps) = emit_template_fits families keyed has_value ps
act_fits families keyed has_value (Flush f ps) = is_keyed (slice_get families f) && flush_template_fits families f has_value ps

abbrev pub guard_fits : List Family → Bool → Bool → Option Expr → Bool
guard_fits families keyed has_value None = true
guard_fits families keyed has_value (Some e) = is_good_expr families keyed has_value e

abbrev pub action_fits : List Family → Bool → Bool → Action → Bool
action_fits families keyed has_value a = act_fits families keyed has_value a.act && guard_fits families keyed has_value a.guard

abbrev pub kind_fits : List Family → Kind → Bool
kind_fits families k = is_name k.name && nat_le (length k.actions) 32 && list_all (action_fits families k.keyed k.has_value) k.actions

-- ---- dependencies and sources
abbrev pub kind_is_keyed : Option Kind → Bool
kind_is_keyed None = false
kind_is_keyed (Some k) = k.keyed

abbrev pub depend_fits : List Kind → Depend → Bool
depend_fits kinds d =
    nat_lt d.a (length kinds) && nat_lt d.b (length kinds)
    && (not d.same || (kind_is_keyed (slice_get kinds d.a) && kind_is_keyed (slice_get kinds d.b)))

abbrev pub keys_fit : Bool → Keys → Bool
keys_fit keyed AloneKeys = not keyed
keys_fit keyed (One k) = keyed && nat_lt k key_count
keys_fit keyed (Range lo hi) = keyed && nat_le lo hi && nat_lt hi key_count

abbrev pub listed_kind_fits : Option Kind → Keys → Bool
listed_kind_fits None keys = false
listed_kind_fits (Some k) keys = keys_fit k.keyed keys

abbrev pub tag_ref_fits : List Kind → TagRef → Bool
tag_ref_fits kinds r = listed_kind_fits (slice_get kinds r.kind) r.keys

abbrev pub is_same_tag : Tag → Tag → Bool
is_same_tag a b = (a.kind == b.kind) && (a.key == b.key)

-- a file's name is between quotes in a job text
abbrev pub is_file_text : List ℕ → Bool
is_file_text t = nat_lt 0 (length t) && is_short t && list_all is_text_byte t

-- a clock lists one tag, of a kind without key, item and value
abbrev pub is_tick_kind : Option Kind → Bool
is_tick_kind None = false
is_tick_kind (Some k) = not k.keyed && not k.has_item && not k.has_value

abbrev pub is_tick_tag : List Kind → TagRef → Bool
is_tick_tag kinds r = is_tick_kind (slice_get kinds r.kind)

abbrev pub clock_fits : List Kind → ℕ → Source → Bool
clock_fits kinds every s =
    nat_le 1 every && nat_le every (2 ^ 62) && (length s.file == 0) && (s.slack == 0) && (length s.tags == 1) && list_all (is_tick_tag kinds) s.tags

-- a source has a file, or it is a clock with a period
abbrev pub is_clock : Source → Bool
is_clock s = is_some s.every

abbrev pub has_origin : List Kind → Source → Option ℕ → Bool
has_origin kinds s None = is_file_text s.file
has_origin kinds s (Some every) = clock_fits kinds every s

abbrev pub origin_fits : List Kind → Source → Bool
origin_fits kinds s = has_origin kinds s s.every

abbrev pub source_fits : List Kind → Source → Bool
source_fits kinds s =
    is_name s.name && origin_fits kinds s && nat_le s.rate 1000000000 && nat_le s.slack 60000 && nat_lt 0 (length s.tags)
    && list_all (tag_ref_fits kinds) s.tags && are_distinct is_same_tag (tags_of_source s)

-- the file of a source; a clock has none
abbrev pub file_of_source : Source → Option (List ℕ)
file_of_source s = if is_clock s then None else Some s.file

-- ---- the whole

-- the versions of the language
abbrev pub is_version : ℕ → Bool
is_version n = (n == 1) || (n == 2) || (n == 3)

abbrev pub are_families : List Family → Bool
are_families families = list_all (λ (f : Family). is_name f.name) families

abbrev pub are_kinds : List Family → List Kind → Bool
are_kinds families kinds = list_all (kind_fits families) kinds

abbrev pub are_depends : List Kind → List Depend → Bool
are_depends kinds depends = list_all (depend_fits kinds) depends

abbrev pub are_sources : List Kind → List Source → Bool
are_sources kinds sources = list_all (source_fits kinds) sources

-- families, kinds, sources and lists share one set of names
abbrev pub have_own_names : List Numbering → List Family → List Kind → List Source → Bool
have_own_names lists families kinds sources =
    are_distinct is_same_text
    (map (λ (f : Family). f.name) families ++ map (λ (k : Kind). k.name) kinds ++ map (λ (s : Source). s.name) sources ++ map (λ (l : Numbering). l.name) lists)

abbrev pub have_own_files : List Source → Bool
have_own_files sources = are_distinct is_same_text (filter_map file_of_source sources)

-- a tag of a declared kind, with a key in range
abbrev pub tag_fits : List Kind → Tag → Bool
tag_fits kinds t = nat_lt t.kind (length kinds) && nat_lt t.key key_count
