-- The report: one line for each output, sorted by time, then tag bytes, then text bytes.
use Rattle.std.specs.Prelude.{◌≡◌, ℕ, Bool, Option, Some, None, List, [], ◌∷◌, ◌++◌, map, slice_get, codes, if◌then◌else◌, IsPermutation, IsSorted}
use Rattle.std.specs.Fmt.{decimal}
use Rattle.std.specs.List.{flat_map}
use Rattle.std.specs.Ordering.{nat_cmp, ordering_then, is_lt}
use Rattle.std.specs.Cmp.Lexicographic.{slice_cmp}
use Rattle.std.specs.declared.cmp.Ordering.{Ordering}
use Rattle.flu_lemmas.specs.Sorting.{in_order}
use Rattle.flu_model.specs.declared.events.Out.{Out}
use Rattle.flu_model.specs.declared.events.Tag.{Tag}
use Rattle.flu_model.specs.declared.events.Cell.{Cell}
use Rattle.flu_model.specs.declared.jobs.Family.{Family}
use Rattle.flu_model.specs.declared.jobs.Kind.{Kind}
use Rattle.flu_model.specs.declared.jobs.Program.{Program}
use Rattle.flu_model.specs.Texts.{Unit, shown_time}

abbrev pub name_with_key : List ℕ → Bool → ℕ → List ℕ
name_with_key name keyed key = if keyed then name ++ codes "[" ++ decimal key ++ codes "]" else name

abbrev pub kind_text : Option Kind → ℕ → List ℕ
kind_text None key = []
kind_text (Some k) key = name_with_key k.name k.keyed key

-- `kind`, or `kind[key]` where the kind is keyed
abbrev pub text_of_tag : Program → Tag → List ℕ
text_of_tag p t = kind_text (slice_get p.kinds t.kind) t.key

abbrev pub family_text : Option Family → ℕ → List ℕ
family_text None key = []
family_text (Some f) key = name_with_key f.name f.keyed key

-- `family`, or `family[key]` where the family is keyed
abbrev pub text_of_cell : Program → Cell → List ℕ
text_of_cell p c = family_text (slice_get p.families c.family) c.key

-- a line of a report: a time, a tag and a text
pub record Line : Type 0 where
  pub time : ℕ
  pub tag : List ℕ
  pub text : List ℕ

abbrev pub line_of : Program → Out → Line
line_of p o = record { time = o.time; tag = text_of_tag p o.tag; text = o.text }

-- lines in order: by time as a number, then by the tag's bytes, then by the text's bytes
abbrev pub line_cmp : Line → Line → Ordering
line_cmp a b = ordering_then (nat_cmp a.time b.time) (ordering_then (slice_cmp nat_cmp a.tag b.tag) (slice_cmp nat_cmp a.text b.text))

-- `time,tag,text` and a line feed, where the time is shown as this unit asks
abbrev pub line_bytes : Option Unit → Line → List ℕ
line_bytes iso l = shown_time iso l.time ++ 44 ∷ l.tag ++ 44 ∷ l.text ++ 10 ∷ []

-- REPORT: the lines of the outputs, sorted, one after another; equal lines are kept
pub record IsReport (p : Program) (outs : List Out) (bytes : List ℕ) : Type 0 where
  pub lines : List Line
  pub all : IsPermutation (map (line_of p) outs) lines
  pub sorted : IsSorted line_cmp lines
  pub is : bytes ≡ flat_map (line_bytes p.iso) lines

-- the report by a plain, slow program
abbrev pub report : Program → List Out → List ℕ
report p outs = flat_map (line_bytes p.iso) (in_order (λ a b. is_lt (line_cmp a b)) (map (line_of p) outs))
