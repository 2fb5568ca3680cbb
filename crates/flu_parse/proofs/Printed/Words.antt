-- The words of the normal form, each with the blanks behind it; and that they are laid out as that text.
use Rattle.std.proofs.Common.{◌≡◌, ℕ, pos, Bool, true, false, Option, Some, None, List, [], ◌∷◌, ◌++◌, refl, ap, ◌∙◌, append_assoc, arith}
use Rattle.std.specs.Prelude.{nat_lt, ◌==◌, if◌then◌else◌, slice_get, codes}
use Rattle.std.specs.Fmt.{decimal}
use Rattle.std.specs.List.{flat_map}
use Rattle.std.proofs.lemmas.Fmt.{decimal_digit}
use Rattle.std.proofs.lemmas.List.{append-nil}
use Rattle.flu_lemmas.specs.Items.{lines_before}
use Rattle.flu_lemmas.proofs.Items.{items_out, lines_out}
use Rattle.flu_names.specs.declared.reserved.Reserved.TheVariants as r
use Rattle.flu_names.specs.declared.reserved.Reserved.{Reserved}
use Rattle.flu_text.specs.declared.words.Mark.TheVariants as m
use Rattle.flu_text.specs.Layout.{Piece as Laid, layout}
use Rattle.flu_model.specs.declared.jobs.Sort.{Sort}
use Rattle.flu_model.specs.declared.jobs.Sort.TheVariants as sort
use Rattle.flu_model.specs.declared.jobs.Family.{Family}
use Rattle.flu_model.specs.declared.jobs.At.{At}
use Rattle.flu_model.specs.declared.jobs.At.TheVariants as at
use Rattle.flu_model.specs.declared.jobs.CellRef.{CellRef}
use Rattle.flu_model.specs.declared.jobs.Op.{Op}
use Rattle.flu_model.specs.declared.jobs.Depend.{Depend}
use Rattle.flu_model.specs.declared.jobs.TagRef.{TagRef}
use Rattle.flu_model.specs.declared.jobs.Source.{Source}
use Rattle.flu_model.specs.Erasure.{Term, Literal, EventValue, EventKey, EventItem, EventTime, CellRead, CellHeld, Negative, Negation, Operation, Adding}
use Rattle.flu_model.specs.Erasure.{Raising, Setting, Clearing, ClearingFamily, Emitting, Flushing, PlainAction, PlainKind, Job, PlainAct}
use Rattle.flu_model.specs.Numberings.{Numbering}
use Rattle.flu_model.specs.Texts.{Unit}
use Rattle.flu_model.specs.Templates.{family_name, written_key, written_cell, written_template}
use Rattle.flu_syntax.specs.Grammar.{op_word}
use Rattle.flu_layout.specs.Laid.{blank, line_end, quoted, reserved, mark, name, item, text, number}
use Rattle.flu_layout.specs.Lists.{separated, between, items_words, keys_text, behind_kind, keys_words}
use Rattle.flu_layout.specs.Laws.{KeysAreSpelled}
use Rattle.flu_parse.specs.Printing.{op_text, term_text, act_text, guard_text, action_text, unit_name, ties_text, iso_text, version_line, names_line}
use Rattle.flu_parse.specs.Printing.{list_name, by_text, keyed_text, sort_text, cell_line, item_text}
use Rattle.flu_parse.specs.Printing.{value_text, tag_line, kind_name, same_text, depends_line, actions_line, on_line, tag_text, slack_text, head_of}
use Rattle.flu_parse.specs.Printing.{source_line}
use Rattle.flu_parse.specs.Printing.{normal_form}

-- ---- lists in a row, grouped otherwise

regroup_four : (a b c d e : List ℕ) → a ++ (b ++ (c ++ (d ++ e))) ≡ (((a ++ b) ++ c) ++ d) ++ e
regroup_four a b c d e = simp append_assoc

regroup_five : (a b c d e f : List ℕ) → a ++ (b ++ (c ++ (d ++ (e ++ f)))) ≡ ((((a ++ b) ++ c) ++ d) ++ e) ++ f
regroup_five a b c d e f = simp append_assoc

regroup_nine : (a b c d e f g h i j : List ℕ) → a ++ (b ++ (c ++ (d ++ (e ++ (f ++ (g ++ (h ++ (i ++ j))))))))
    ≡ ((((((((a ++ b) ++ c) ++ d) ++ e) ++ f) ++ g) ++ h) ++ i) ++ j
regroup_nine a b c d e f g h i j = simp append_assoc

regroup_ten : (a b c d e f g h i j k : List ℕ) → a ++ (b ++ (c ++ (d ++ (e ++ (f ++ (g ++ (h ++ (i ++ (j ++ k)))))))))
    ≡ (((((((((a ++ b) ++ c) ++ d) ++ e) ++ f) ++ g) ++ h) ++ i) ++ j) ++ k
regroup_ten a b c d e f g h i j k = simp append_assoc

regroup_job : (a b c d e f g : List ℕ) → a ++ (b ++ (c ++ (d ++ (e ++ (f ++ (g ++ [])))))) ≡ (((((a ++ b) ++ c) ++ d) ++ e) ++ f) ++ g
regroup_job a b c d e f g = simp (append-nil, append_assoc)

-- ---- words

abbrev pub operator : Op → List ℕ → Laid
operator o behind = record { word = op_word o; spelling = op_text o; gap = behind }

-- ---- cells

-- what stands behind the name of a cell
abbrev pub behind_name : At → List ℕ → List ℕ
behind_name at.Alone behind = behind
behind_name at.OwnKey behind = []
behind_name at.OwnItem behind = []
behind_name (at.Fixed k) behind = []

abbrev pub key_words : At → List ℕ → List Laid → List Laid
key_words at.Alone behind rest = rest
key_words at.OwnKey behind rest = mark m.OpenBracket [] ∷ reserved r.Key [] ∷ mark m.CloseBracket behind ∷ rest
key_words at.OwnItem behind rest = mark m.OpenBracket [] ∷ item [] ∷ mark m.CloseBracket behind ∷ rest
key_words (at.Fixed k) behind rest = mark m.OpenBracket [] ∷ number (pos k) [] ∷ mark m.CloseBracket behind ∷ rest

abbrev pub cell_words : List Family → CellRef → List ℕ → List Laid → List Laid
cell_words families c behind rest = name (family_name (slice_get families c.family)) (behind_name c.at behind) ∷ key_words c.at behind rest

key_layout : (a : At) (behind : List ℕ) (rest : List Laid) → behind_name a behind ++ layout (key_words a behind rest) ≡ written_key a ++ (behind ++ layout rest)
key_layout at.Alone behind rest = refl
key_layout at.OwnKey behind rest = refl
key_layout at.OwnItem behind rest = refl
key_layout (at.Fixed k) behind rest = simp append_assoc

pub cell_layout : (families : List Family) (c : CellRef) (behind : List ℕ) (rest : List Laid)
    → layout (cell_words families c behind rest) ≡ written_cell families c ++ (behind ++ layout rest)
cell_layout families c behind rest =
    let n : List ℕ = family_name (slice_get families c.family) in
    rw (append_assoc n (written_key c.at) (behind ++ layout rest)) (ap (λ l. n ++ l) (key_layout c.at behind rest))

-- ---- expressions

abbrev pub term_words : List Family → Term → List ℕ → List Laid → List Laid
term_words families (Literal n) behind rest = number n behind ∷ rest
term_words families EventValue behind rest = reserved r.Value behind ∷ rest
term_words families EventKey behind rest = reserved r.Key behind ∷ rest
term_words families EventItem behind rest = item behind ∷ rest
term_words families EventTime behind rest = reserved r.Time behind ∷ rest
term_words families (CellRead c) behind rest = cell_words families c behind rest
term_words families (CellHeld c) behind rest = reserved r.Has blank ∷ cell_words families c behind rest
term_words families (Negative e) behind rest = mark m.OpenParen [] ∷ mark m.Minus blank ∷ term_words families e [] (mark m.CloseParen behind ∷ rest)
term_words families (Negation e) behind rest = mark m.OpenParen [] ∷ reserved r.Not blank ∷ term_words families e [] (mark m.CloseParen behind ∷ rest)
term_words families (Operation o a b) behind rest =
    mark m.OpenParen [] ∷ term_words families a blank (operator o blank ∷ term_words families b [] (mark m.CloseParen behind ∷ rest))

pub term_layout : (families : List Family) (e : Term) (behind : List ℕ) (rest : List Laid)
    → layout (term_words families e behind rest) ≡ term_text families e ++ (behind ++ layout rest)
term_layout families (Literal n) behind rest = refl
term_layout families EventValue behind rest = refl
term_layout families EventKey behind rest = refl
term_layout families EventItem behind rest = refl
term_layout families EventTime behind rest = refl
term_layout families (CellRead c) behind rest = cell_layout families c behind rest
term_layout families (CellHeld c) behind rest = ap (λ l. codes "has " ++ l) (cell_layout families c behind rest)
term_layout families (Negative e) behind rest = rw (term_layout families e [] (mark m.CloseParen behind ∷ rest)) (simp append_assoc)
term_layout families (Negation e) behind rest = rw (term_layout families e [] (mark m.CloseParen behind ∷ rest)) (simp append_assoc)
term_layout families (Operation o a b) behind rest =
    rw (
      term_layout families a blank (operator o blank ∷ term_words families b [] (mark m.CloseParen behind ∷ rest)),
      term_layout families b []
          (mark m.CloseParen behind ∷ rest),
    ) (simp append_assoc)

-- ---- actions

abbrev pub act_words : List Family → PlainAct → List ℕ → List Laid → List Laid
act_words families (Adding c e) behind rest = reserved r.Add blank ∷ cell_words families c blank (term_words families e behind rest)
act_words families (Raising c e) behind rest = reserved r.Raise blank ∷ cell_words families c blank (term_words families e behind rest)
act_words families (Setting c e) behind rest = reserved r.Set blank ∷ cell_words families c blank (term_words families e behind rest)
act_words families (Clearing c) behind rest = reserved r.Clear blank ∷ cell_words families c behind rest
act_words families (ClearingFamily f) behind rest = reserved r.Clear blank ∷ name (family_name (slice_get families f)) behind ∷ rest
act_words families (Emitting ps) behind rest = reserved r.Emit blank ∷ text (written_template families ps) behind ∷ rest
act_words families (Flushing f ps) behind rest = reserved r.Flush blank ∷ name (family_name (slice_get families f)) blank
    ∷ text (written_template families ps) behind ∷ rest

pub act_layout : (families : List Family) (d : PlainAct) (behind : List ℕ) (rest : List Laid)
    → layout (act_words families d behind rest) ≡ act_text families d ++ (behind ++ layout rest)
act_layout families (Adding c e) behind rest = rw (cell_layout families c blank (term_words families e behind rest), term_layout families e behind rest)
    (simp append_assoc)
act_layout families (Raising c e) behind rest = rw (cell_layout families c blank (term_words families e behind rest), term_layout families e behind rest)
    (simp append_assoc)
act_layout families (Setting c e) behind rest = rw (cell_layout families c blank (term_words families e behind rest), term_layout families e behind rest)
    (simp append_assoc)
act_layout families (Clearing c) behind rest = ap (λ l. codes "clear " ++ l) (cell_layout families c behind rest)
act_layout families (ClearingFamily f) behind rest = refl
act_layout families (Emitting ps) behind rest = simp append_assoc
act_layout families (Flushing f ps) behind rest =
    regroup_four (codes "flush ") (family_name (slice_get families f)) blank (quoted (written_template families ps)) (behind ++ layout rest)

-- what stands behind what an action does
abbrev pub behind_act : Option Term → List ℕ → List ℕ
behind_act None behind = behind
behind_act (Some e) behind = blank

abbrev pub guard_words : List Family → Option Term → List ℕ → List Laid → List Laid
guard_words families None behind rest = rest
guard_words families (Some e) behind rest = reserved r.When blank ∷ term_words families e behind rest

guard_layout : (families : List Family) (g : Option Term) (behind : List ℕ) (rest : List Laid)
    → behind_act g behind ++ layout (guard_words families g behind rest) ≡ guard_text families g ++ (behind ++ layout rest)
guard_layout families None behind rest = refl
guard_layout families (Some e) behind rest = ap (λ l. codes " when " ++ l) (term_layout families e behind rest)

abbrev pub action_words : List Family → PlainAction → List ℕ → List Laid → List Laid
action_words families a behind rest = act_words families a.act (behind_act a.guard behind) (guard_words families a.guard behind rest)

pub action_layout : (families : List Family) (a : PlainAction) (behind : List ℕ) (rest : List Laid)
    → layout (action_words families a behind rest) ≡ action_text families a ++ (behind ++ layout rest)
action_layout families a behind rest =
    act_layout families a.act (behind_act a.guard behind) (guard_words families a.guard behind rest)
    ∙ rw (append_assoc (act_text families a.act) (guard_text families a.guard) (behind ++ layout rest))
    (ap (λ l. act_text families a.act ++ l) (guard_layout families a.guard behind rest))

-- ---- declarations

-- what stands behind a number of the first line: a blank if the unit of the times follows, and else the end of the line
abbrev pub behind_count : Option Unit → List ℕ
behind_count None = line_end
behind_count (Some unit) = blank

abbrev pub unit_words : Option Unit → List Laid → List Laid
unit_words None rest = rest
unit_words (Some unit) rest = name (codes "iso") blank ∷ name (unit_name unit) line_end ∷ rest

-- the number of version 3, how many rows a source may have at one time if they may be several, and the unit of the times
abbrev pub third_words : ℕ → Option Unit → List Laid → List Laid
third_words ties iso rest =
    if nat_lt 1 ties then number (pos 3) blank ∷ name (codes "ties") blank ∷ number (pos ties) (behind_count iso) ∷ unit_words iso rest
    else number (pos 3) (behind_count iso) ∷ unit_words iso rest

-- nothing, or the version
abbrev pub version_words : ℕ → ℕ → Option Unit → List Laid → List Laid
version_words version ties iso rest =
    if version == 2 then reserved r.Version blank ∷ number (pos 2) line_end ∷ rest
    else if version == 3 then reserved r.Version blank ∷ third_words ties iso rest
    else rest

unit_layout : (iso : Option Unit) (rest : List Laid) → behind_count iso ++ layout (unit_words iso rest) ≡ iso_text iso ++ (line_end ++ layout rest)
unit_layout None rest = refl
unit_layout (Some unit) rest = refl

regroup_head : (a b c d e f : List ℕ) → a ++ (b ++ (c ++ (d ++ (e ++ f)))) ≡ (((a ++ (b ++ c)) ++ d) ++ e) ++ f
regroup_head a b c d e f = simp append_assoc

regroup_three : (a b c d : List ℕ) → a ++ (b ++ (c ++ d)) ≡ ((a ++ b) ++ c) ++ d
regroup_three a b c d = simp append_assoc

third_layout : (ties : ℕ) (iso : Option Unit) (rest : List Laid)
    → codes "version " ++ layout (third_words ties iso rest) ≡ (codes "version 3" ++ ties_text ties ++ iso_text iso ++ line_end) ++ layout rest
third_layout ties iso rest = by (nat_lt 1 ties)
  where
    by : (several : Bool) → codes "version " ++ layout (if several
        then number (pos 3) blank ∷ name (codes "ties") blank ∷ number (pos ties) (behind_count iso) ∷ unit_words iso rest
        else number (pos 3) (behind_count iso) ∷ unit_words iso rest)
        ≡ (codes "version 3" ++ (if several then codes " ties " ++ decimal ties else []) ++ iso_text iso ++ line_end) ++ layout rest
    by true =
        ap (λ d. codes "version " ++ (d ++ (codes " ties " ++ (decimal ties ++ (behind_count iso ++ layout (unit_words iso rest))))))
        (decimal_digit 3 (omega arith))
        ∙ ap (λ l. codes "version 3" ++ (codes " ties " ++ (decimal ties ++ l))) (unit_layout iso rest)
        ∙ regroup_head (codes "version 3") (codes " ties ") (decimal ties) (iso_text iso) line_end (layout rest)
    by false =
        ap (λ d. codes "version " ++ (d ++ (behind_count iso ++ layout (unit_words iso rest)))) (decimal_digit 3 (omega arith))
        ∙ ap (λ l. codes "version 3" ++ l) (unit_layout iso rest)
        ∙ regroup_three (codes "version 3") (iso_text iso) line_end (layout rest)

version_layout : (version ties : ℕ) (iso : Option Unit) (rest : List Laid)
    → layout (version_words version ties iso rest) ≡ version_line version ties iso ++ layout rest
version_layout version ties iso rest = by (version == 2) (version == 3)
  where
    by : (two three : Bool) → layout (if two then reserved r.Version blank ∷ number (pos 2) line_end ∷ rest
        else if three then reserved r.Version blank ∷ third_words ties iso rest else rest)
        ≡ (if two then codes "version 2" ++ line_end
        else if three then codes "version 3" ++ ties_text ties ++ iso_text iso ++ line_end else []) ++ layout rest
    by true three = ap (λ d. codes "version " ++ (d ++ (line_end ++ layout rest))) (decimal_digit 2 (omega arith))
    by false true = third_layout ties iso rest
    by false false = refl

-- a list of names: its texts, of which every list of a job has some
abbrev pub text_words : List ℕ → List ℕ → List Laid → List Laid
text_words t behind rest = text t behind ∷ rest

abbrev pub texts_words : List (List ℕ) → List Laid → List Laid
texts_words [] rest = mark m.Colon (32 ∷ 10 ∷ []) ∷ rest
texts_words (t ∷ ts) rest = mark m.Colon blank ∷ items_words m.Comma text_words t ts line_end rest

texts_layout : (ts : List (List ℕ)) (rest : List Laid)
    → layout (texts_words ts rest) ≡ codes ": " ++ (separated (codes ", ") quoted ts ++ (line_end ++ layout rest))
texts_layout [] rest = refl
texts_layout (t ∷ ts) rest =
    ap (λ l. codes ": " ++ l)
    (items_out text_words (between m.Comma) layout quoted (codes ", ") (λ x behind rest. refl) (λ rest. refl) t ts line_end rest)

abbrev pub names_line_words : Numbering → List Laid → List Laid
names_line_words l rest = name (codes "names") blank ∷ name l.name [] ∷ texts_words l.texts rest

names_line_layout : (l : Numbering) (rest : List Laid) → layout (names_line_words l rest) ≡ names_line l ++ layout rest
names_line_layout l rest =
    ap (λ more. codes "names " ++ (l.name ++ more)) (texts_layout l.texts rest)
    ∙ regroup_five (codes "names ") l.name (codes ": ") (separated (codes ", ") quoted l.texts) line_end (layout rest)

-- nothing, or the list that names keys or items
abbrev pub by_words : List Numbering → Option ℕ → List Laid → List Laid
by_words lists None rest = rest
by_words lists (Some number) rest = name (codes "by") blank ∷ name (list_name lists (Some number)) blank ∷ rest

by_layout : (lists : List Numbering) (l : Option ℕ) (rest : List Laid)
    → blank ++ layout (by_words lists l rest) ≡ by_text lists l ++ (blank ++ layout rest)
by_layout lists None rest = refl
by_layout lists (Some number) rest = simp append_assoc

abbrev pub keyed_words : Bool → List Laid → List Laid
keyed_words true rest = reserved r.Keyed blank ∷ rest
keyed_words false rest = rest

keyed_layout : (keyed : Bool) (rest : List Laid) → blank ++ layout (keyed_words keyed rest) ≡ keyed_text keyed ++ (blank ++ layout rest)
keyed_layout true rest = refl
keyed_layout false rest = refl

abbrev pub sort_reserved : Sort → Reserved
sort_reserved sort.Sum = r.Sum
sort_reserved sort.Max = r.Max
sort_reserved sort.Last = r.Last

sort_layout : (s : Sort) (rest : List Laid) → blank ++ layout (reserved (sort_reserved s) line_end ∷ rest) ≡ sort_text s ++ (line_end ++ layout rest)
sort_layout sort.Sum rest = refl
sort_layout sort.Max rest = refl
sort_layout sort.Last rest = refl

abbrev pub cell_line_words : List Numbering → Family → List Laid → List Laid
cell_line_words lists f rest =
    reserved r.Cell blank ∷ name f.name blank ∷ keyed_words f.keyed (by_words lists f.list (reserved (sort_reserved f.sort) line_end ∷ rest))

cell_line_layout : (lists : List Numbering) (f : Family) (rest : List Laid) → layout (cell_line_words lists f rest) ≡ cell_line lists f ++ layout rest
cell_line_layout lists f rest =
    let end : List Laid = reserved (sort_reserved f.sort) line_end ∷ rest in
    rw (keyed_layout f.keyed (by_words lists f.list end), by_layout lists f.list end, sort_layout f.sort rest) (simp append_assoc)

-- nothing, or the word `item`
abbrev pub item_words : Bool → List Laid → List Laid
item_words true rest = item blank ∷ rest
item_words false rest = rest

item_layout : (has_item : Bool) (rest : List Laid) → blank ++ layout (item_words has_item rest) ≡ item_text has_item ++ (blank ++ layout rest)
item_layout true rest = refl
item_layout false rest = refl

abbrev pub value_reserved : Bool → Reserved
value_reserved true = r.Int
value_reserved false = r.None

value_layout : (has_value : Bool) (rest : List Laid)
    → blank ++ layout (reserved (value_reserved has_value) line_end ∷ rest) ≡ value_text has_value ++ (line_end ++ layout rest)
value_layout true rest = refl
value_layout false rest = refl

abbrev pub tag_line_words : List Numbering → PlainKind → List Laid → List Laid
tag_line_words lists k rest =
    reserved r.Tag blank ∷ name k.name blank
    ∷ keyed_words k.keyed (item_words k.has_item (by_words lists k.list (reserved (value_reserved k.has_value) line_end ∷ rest)))

tag_line_layout : (lists : List Numbering) (k : PlainKind) (rest : List Laid) → layout (tag_line_words lists k rest) ≡ tag_line lists k ++ layout rest
tag_line_layout lists k rest =
    let value : List Laid = reserved (value_reserved k.has_value) line_end ∷ rest in
    let named : List Laid = by_words lists k.list value in
    rw (keyed_layout k.keyed (item_words k.has_item named), item_layout k.has_item named, by_layout lists k.list value, value_layout k.has_value rest)
    (simp append_assoc)

-- what stands behind the second name of a `depends`
abbrev pub behind_depends : Bool → List ℕ
behind_depends true = blank
behind_depends false = line_end

abbrev pub same_words : Bool → List Laid → List Laid
same_words true rest = reserved r.Same line_end ∷ rest
same_words false rest = rest

same_layout : (same : Bool) (rest : List Laid) → behind_depends same ++ layout (same_words same rest) ≡ same_text same ++ (line_end ++ layout rest)
same_layout true rest = refl
same_layout false rest = refl

abbrev pub depends_line_words : List PlainKind → Depend → List Laid → List Laid
depends_line_words kinds d rest =
    reserved r.Depends blank ∷ name (kind_name (slice_get kinds d.a)) blank ∷ name (kind_name (slice_get kinds d.b)) (behind_depends d.same)
    ∷ same_words d.same rest

depends_line_layout : (kinds : List PlainKind) (d : Depend) (rest : List Laid) → layout (depends_line_words kinds d rest) ≡ depends_line kinds d ++ layout rest
depends_line_layout kinds d rest = rw (same_layout d.same rest) (simp append_assoc)

abbrev pub actions_words : List Family → List ℕ → List PlainAction → List Laid → List Laid
actions_words families kind [] rest = rest
actions_words families kind (a ∷ actions) rest =
    reserved r.On blank ∷ name kind [] ∷ mark m.Colon blank ∷ items_words m.Semicolon (action_words families) a actions line_end rest

actions_layout : (families : List Family) (kind : List ℕ) (actions : List PlainAction) (rest : List Laid)
    → layout (actions_words families kind actions rest) ≡ actions_line families kind actions ++ layout rest
actions_layout families kind [] rest = refl
actions_layout families kind (a ∷ actions) rest =
    ap (λ l. codes "on " ++ (kind ++ (codes ": " ++ l))) (items_out (action_words families) (between m.Semicolon) layout (action_text families) (codes "; ")
    (action_layout families) (λ rest. refl) a actions line_end rest)
    ∙ regroup_five (codes "on ") kind (codes ": ") (separated (codes "; ") (action_text families) (a ∷ actions)) line_end (layout rest)

abbrev pub on_line_words : List Family → PlainKind → List Laid → List Laid
on_line_words families k rest = actions_words families k.name k.actions rest

abbrev pub tag_words : List PlainKind → TagRef → List ℕ → List Laid → List Laid
tag_words kinds t behind rest = name (kind_name (slice_get kinds t.kind)) (behind_kind t.keys behind) ∷ keys_words t.keys behind rest

tag_layout : KeysAreSpelled → (kinds : List PlainKind) (t : TagRef) (behind : List ℕ) (rest : List Laid)
    → layout (tag_words kinds t behind rest) ≡ tag_text kinds t ++ (behind ++ layout rest)
tag_layout spelled kinds t behind rest =
    let n : List ℕ = kind_name (slice_get kinds t.kind) in
    rw (append_assoc n (keys_text t.keys) (behind ++ layout rest)) (ap (λ l. n ++ l) (spelled t.keys behind rest))

abbrev pub listed_words : List PlainKind → List TagRef → List Laid → List Laid
listed_words kinds [] rest = mark m.Colon (32 ∷ 10 ∷ []) ∷ rest
listed_words kinds (t ∷ ts) rest = mark m.Colon blank ∷ items_words m.Comma (tag_words kinds) t ts line_end rest

listed_layout : KeysAreSpelled → (kinds : List PlainKind) (ts : List TagRef) (rest : List Laid)
    → layout (listed_words kinds ts rest) ≡ codes ": " ++ (separated (codes ", ") (tag_text kinds) ts ++ (line_end ++ layout rest))
listed_layout spelled kinds [] rest = refl
listed_layout spelled kinds (t ∷ ts) rest =
    ap (λ l. codes ": " ++ l)
    (items_out (tag_words kinds) (between m.Comma) layout (tag_text kinds) (codes ", ") (tag_layout spelled kinds) (λ rest. refl) t ts line_end rest)

-- what stands behind the rate of a source, and then its slack, if it has one
abbrev pub behind_rate : ℕ → List ℕ
behind_rate slack = if nat_lt 0 slack then blank else []

abbrev pub slack_words : ℕ → List Laid → List Laid
slack_words slack rest = if nat_lt 0 slack then reserved r.Slack blank ∷ number (pos slack) [] ∷ rest else rest

slack_layout : (slack : ℕ) (rest : List Laid) → behind_rate slack ++ layout (slack_words slack rest) ≡ slack_text slack ++ layout rest
slack_layout slack rest = by (nat_lt 0 slack)
  where
    by : (some : Bool) → (if some then blank else []) ++ layout (if some then reserved r.Slack blank ∷ number (pos slack) [] ∷ rest else rest)
        ≡ (if some then codes " slack " ++ decimal slack else []) ++ layout rest
    by true = refl
    by false = refl

abbrev pub file_words : List PlainKind → Source → List Laid → List Laid
file_words kinds s rest =
    reserved r.Source blank ∷ name s.name blank ∷ text s.file blank ∷ reserved r.Rate blank ∷ number (pos s.rate) (behind_rate s.slack)
    ∷ slack_words s.slack (listed_words kinds s.tags rest)

abbrev pub clock_words : List PlainKind → Source → ℕ → List Laid → List Laid
clock_words kinds s every rest =
    name (codes "clock") blank ∷ name s.name blank ∷ name (codes "every") blank ∷ number (pos every) blank ∷ reserved r.Rate blank ∷ number (pos s.rate) []
    ∷ listed_words kinds s.tags rest

abbrev pub origin_words : List PlainKind → Source → Option ℕ → List Laid → List Laid
origin_words kinds s None rest = file_words kinds s rest
origin_words kinds s (Some every) rest = clock_words kinds s every rest

abbrev pub source_line_words : List PlainKind → Source → List Laid → List Laid
source_line_words kinds s rest = origin_words kinds s s.every rest

-- the line of a source with a file, or of a clock
abbrev origin_line : List PlainKind → Source → Option ℕ → List ℕ
origin_line kinds s every = head_of s every ++ separated (codes ", ") (tag_text kinds) s.tags ++ line_end

origin_layout : KeysAreSpelled → (kinds : List PlainKind) (s : Source) (every : Option ℕ) (rest : List Laid)
    → layout (origin_words kinds s every rest) ≡ origin_line kinds s every ++ layout rest
origin_layout spelled kinds s None rest =
    ap (λ l. codes "source " ++ (s.name ++ (blank ++ (quoted s.file ++ (codes " rate " ++ (decimal s.rate ++ l))))))
    (slack_layout s.slack (listed_words kinds s.tags rest) ∙ ap (λ l. slack_text s.slack ++ l) (listed_layout spelled kinds s.tags rest))
    ∙ regroup_ten (codes "source ") s.name blank (quoted s.file) (codes " rate ") (decimal s.rate) (slack_text s.slack) (codes ": ")
    (separated (codes ", ") (tag_text kinds) s.tags) line_end (layout rest)
origin_layout spelled kinds s (Some every) rest =
    ap (λ l. codes "clock " ++ (s.name ++ (codes " every " ++ (decimal every ++ (codes " rate " ++ (decimal s.rate ++ l))))))
    (listed_layout spelled kinds s.tags rest)
    ∙ regroup_nine (codes "clock ") s.name (codes " every ") (decimal every) (codes " rate ") (decimal s.rate) (codes ": ")
    (separated (codes ", ") (tag_text kinds) s.tags) line_end (layout rest)

source_line_layout : KeysAreSpelled → (kinds : List PlainKind) (s : Source) (rest : List Laid)
    → layout (source_line_words kinds s rest) ≡ source_line kinds s ++ layout rest
source_line_layout spelled kinds s rest = origin_layout spelled kinds s s.every rest

abbrev pub job_words : Job → List Laid
job_words job =
    version_words job.version job.ties job.iso (lines_before names_line_words job.lists (lines_before (cell_line_words job.lists) job.families
    (lines_before (tag_line_words job.lists) job.kinds (lines_before (depends_line_words job.kinds) job.depends
    (lines_before (on_line_words job.families) job.kinds (lines_before (source_line_words job.kinds) job.sources []))))))

-- the normal form is these words, laid out
pub job_layout : KeysAreSpelled → (job : Job) → layout (job_words job) ≡ normal_form job
job_layout spelled job =
    let sources = lines_before (source_line_words job.kinds) job.sources [] in
    let ons = lines_before (on_line_words job.families) job.kinds sources in
    let depends = lines_before (depends_line_words job.kinds) job.depends ons in
    let tags = lines_before (tag_line_words job.lists) job.kinds depends in
    let cells = lines_before (cell_line_words job.lists) job.families tags in
    let lists = lines_before names_line_words job.lists cells in
    version_layout job.version job.ties job.iso lists
    ∙ ap (λ l. version_line job.version job.ties job.iso ++ l) (lines_out names_line_words layout names_line names_line_layout job.lists cells
    ∙ rw (
      lines_out (cell_line_words job.lists) layout (cell_line job.lists) (cell_line_layout job.lists) job.families tags,
      lines_out (tag_line_words job.lists) layout (tag_line job.lists) (tag_line_layout job.lists) job.kinds depends,
      lines_out (depends_line_words job.kinds) layout (depends_line job.kinds) (depends_line_layout job.kinds) job.depends ons,
      lines_out (on_line_words job.families) layout (on_line job.families) (λ k rest. actions_layout job.families k.name k.actions rest) job.kinds sources,
      lines_out (source_line_words job.kinds) layout (source_line job.kinds) (source_line_layout spelled job.kinds) job.sources [],
    ) refl)
    ∙ regroup_job (version_line job.version job.ties job.iso) (flat_map names_line job.lists) (flat_map (cell_line job.lists) job.families)
    (flat_map (tag_line job.lists) job.kinds) (flat_map (depends_line job.kinds) job.depends)
    (flat_map (on_line job.families) job.kinds) (flat_map (source_line job.kinds) job.sources)
