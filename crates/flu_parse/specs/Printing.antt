-- The normal form of a job text: the version if it is not 1, lists of names, cells, tags, `depends`, the actions of the kinds that have some,
-- and sources and clocks as they are declared, each on a line of its own.
use Rattle.std.specs.Prelude.{ℕ, nat_lt, ◌==◌, if◌then◌else◌, Bool, true, false, Option, Some, None, List, [], ◌∷◌, ◌++◌, slice_get, codes}
use Rattle.std.specs.Fmt.{decimal, signed_decimal}
use Rattle.std.specs.List.{flat_map}
use Rattle.flu_model.specs.declared.jobs.Sort.{Sort}
use Rattle.flu_model.specs.declared.jobs.Sort.TheVariants as sort
use Rattle.flu_model.specs.declared.jobs.Family.{Family}
use Rattle.flu_model.specs.declared.jobs.Op.{Op}
use Rattle.flu_model.specs.declared.jobs.Op.TheVariants as op
use Rattle.flu_model.specs.declared.jobs.Depend.{Depend}
use Rattle.flu_model.specs.declared.jobs.TagRef.{TagRef}
use Rattle.flu_model.specs.declared.jobs.Source.{Source}
use Rattle.flu_model.specs.Numberings.{Numbering}
use Rattle.flu_model.specs.Texts.{Unit}
use Rattle.flu_calendar.specs.declared.unit.Unit.TheVariants.{Seconds, Milliseconds, Microseconds}
use Rattle.flu_model.specs.Erasure.{Term, Literal, EventValue, EventKey, EventItem, EventTime, CellRead, CellHeld, Negative, Negation, Operation}
use Rattle.flu_model.specs.Erasure.{PlainAct, Adding, Raising, Setting, Clearing, ClearingFamily, Emitting, Flushing, PlainAction, PlainKind, Job}
use Rattle.flu_model.specs.Templates.{family_name, written_cell, written_template}
use Rattle.flu_layout.specs.Laid.{line_end, quoted}
use Rattle.flu_layout.specs.Lists.{separated, keys_text}

-- ---- expressions

abbrev pub op_text : Op → List ℕ
op_text op.Plus = codes "+"
op_text op.Minus = codes "-"
op_text op.Times = codes "*"
op_text op.Divide = codes "/"
op_text op.Remainder = codes "%"
op_text op.Less = codes "<"
op_text op.LessEq = codes "<="
op_text op.More = codes ">"
op_text op.MoreEq = codes ">="
op_text op.Same = codes "=="
op_text op.Differs = codes "!="
op_text op.Both = codes "and"
op_text op.Either = codes "or"

-- `(a op b)`, `(- a)` and `(not a)`, and all else as it is read
abbrev pub term_text : List Family → Term → List ℕ
term_text families (Literal n) = signed_decimal n
term_text families EventValue = codes "value"
term_text families EventKey = codes "key"
term_text families EventItem = codes "item"
term_text families EventTime = codes "time"
term_text families (CellRead r) = written_cell families r
term_text families (CellHeld r) = codes "has " ++ written_cell families r
term_text families (Negative e) = codes "(- " ++ term_text families e ++ codes ")"
term_text families (Negation e) = codes "(not " ++ term_text families e ++ codes ")"
term_text families (Operation o a b) = codes "(" ++ term_text families a ++ codes " " ++ op_text o ++ codes " " ++ term_text families b ++ codes ")"

-- ---- actions

abbrev pub act_text : List Family → PlainAct → List ℕ
act_text families (Adding r e) = codes "add " ++ written_cell families r ++ codes " " ++ term_text families e
act_text families (Raising r e) = codes "raise " ++ written_cell families r ++ codes " " ++ term_text families e
act_text families (Setting r e) = codes "set " ++ written_cell families r ++ codes " " ++ term_text families e
act_text families (Clearing r) = codes "clear " ++ written_cell families r
act_text families (ClearingFamily f) = codes "clear " ++ family_name (slice_get families f)
act_text families (Emitting pieces) = codes "emit " ++ quoted (written_template families pieces)
act_text families (Flushing f pieces) = codes "flush " ++ family_name (slice_get families f) ++ codes " " ++ quoted (written_template families pieces)

abbrev pub guard_text : List Family → Option Term → List ℕ
guard_text families None = []
guard_text families (Some e) = codes " when " ++ term_text families e

abbrev pub action_text : List Family → PlainAction → List ℕ
action_text families a = act_text families a.act ++ guard_text families a.guard

-- ---- declarations

abbrev pub unit_name : Unit → List ℕ
unit_name Seconds = codes "seconds"
unit_name Milliseconds = codes "milliseconds"
unit_name Microseconds = codes "microseconds"

abbrev pub iso_text : Option Unit → List ℕ
iso_text None = []
iso_text (Some unit) = codes " iso " ++ unit_name unit

-- how many rows a source may have at one time, if they may be several
abbrev pub ties_text : ℕ → List ℕ
ties_text ties = if nat_lt 1 ties then codes " ties " ++ decimal ties else []

-- the version of the language, which is 1 if no line says otherwise, how many rows a source may have at one time, and the unit of the times,
-- if there is one
abbrev pub version_line : ℕ → ℕ → Option Unit → List ℕ
version_line version ties iso =
    if version == 2 then codes "version 2" ++ line_end
    else if version == 3 then codes "version 3" ++ ties_text ties ++ iso_text iso ++ line_end
    else []

abbrev pub names_line : Numbering → List ℕ
names_line l = codes "names " ++ l.name ++ codes ": " ++ separated (codes ", ") quoted l.texts ++ line_end

abbrev pub name_of_list : Option Numbering → List ℕ
name_of_list None = []
name_of_list (Some l) = l.name

abbrev pub list_name : List Numbering → Option ℕ → List ℕ
list_name lists None = []
list_name lists (Some number) = name_of_list (slice_get lists number)

-- the list that names keys or items, if one does
abbrev pub by_text : List Numbering → Option ℕ → List ℕ
by_text lists None = []
by_text lists (Some number) = codes " by " ++ list_name lists (Some number)

abbrev pub keyed_text : Bool → List ℕ
keyed_text true = codes " keyed"
keyed_text false = []

abbrev pub sort_text : Sort → List ℕ
sort_text sort.Sum = codes " sum"
sort_text sort.Max = codes " max"
sort_text sort.Last = codes " last"

abbrev pub cell_line : List Numbering → Family → List ℕ
cell_line lists f = codes "cell " ++ f.name ++ keyed_text f.keyed ++ by_text lists f.list ++ sort_text f.sort ++ line_end

abbrev pub item_text : Bool → List ℕ
item_text true = codes " item"
item_text false = []

abbrev pub value_text : Bool → List ℕ
value_text true = codes " int"
value_text false = codes " none"

abbrev pub tag_line : List Numbering → PlainKind → List ℕ
tag_line lists k =
    codes "tag " ++ k.name ++ keyed_text k.keyed ++ item_text k.has_item ++ by_text lists k.list ++ value_text k.has_value ++ line_end

abbrev pub kind_name : Option PlainKind → List ℕ
kind_name None = []
kind_name (Some k) = k.name

abbrev pub same_text : Bool → List ℕ
same_text true = codes " same"
same_text false = []

abbrev pub depends_line : List PlainKind → Depend → List ℕ
depends_line kinds d =
    codes "depends " ++ kind_name (slice_get kinds d.a) ++ codes " " ++ kind_name (slice_get kinds d.b) ++ same_text d.same ++ line_end

-- a kind without actions has no line
abbrev pub actions_line : List Family → List ℕ → List PlainAction → List ℕ
actions_line families name [] = []
actions_line families name (a ∷ actions) = codes "on " ++ name ++ codes ": " ++ separated (codes "; ") (action_text families) (a ∷ actions) ++ line_end

abbrev pub on_line : List Family → PlainKind → List ℕ
on_line families k = actions_line families k.name k.actions

abbrev pub tag_text : List PlainKind → TagRef → List ℕ
tag_text kinds t = kind_name (slice_get kinds t.kind) ++ keys_text t.keys

-- how late events of a source may come, if they may
abbrev pub slack_text : ℕ → List ℕ
slack_text slack = if nat_lt 0 slack then codes " slack " ++ decimal slack else []

-- what begins a line of a source with a file, or of a clock with a period; the rate is always there
abbrev pub head_of : Source → Option ℕ → List ℕ
head_of s None = codes "source " ++ s.name ++ codes " " ++ quoted s.file ++ codes " rate " ++ decimal s.rate ++ slack_text s.slack ++ codes ": "
head_of s (Some every) = codes "clock " ++ s.name ++ codes " every " ++ decimal every ++ codes " rate " ++ decimal s.rate ++ codes ": "

abbrev pub source_head : Source → List ℕ
source_head s = head_of s s.every

abbrev pub source_line : List PlainKind → Source → List ℕ
source_line kinds s = source_head s ++ separated (codes ", ") (tag_text kinds) s.tags ++ line_end

abbrev pub normal_form : Job → List ℕ
normal_form job =
    version_line job.version job.ties job.iso
    ++ flat_map names_line job.lists
    ++ flat_map (cell_line job.lists) job.families
    ++ flat_map (tag_line job.lists) job.kinds
    ++ flat_map (depends_line job.kinds) job.depends
    ++ flat_map (on_line job.families) job.kinds
    ++ flat_map (source_line job.kinds) job.sources
