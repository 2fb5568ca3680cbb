-- What was made of the parts of a line.
use Rattle.std.specs.Prelude.{◌≡◌, ◌≢◌, ℕ, ◌<◌, pos, Bool, Option, Some, None, List, map, length, slice_get, FitsSigned, ⊤}
use Rattle.std.specs.Int.{w128}
use Rattle.std.specs.List.{range_with_len}
use Rattle.flu_cells.specs.declared.state.State.{State}
use Rattle.flu_cells.specs.Holding.{held}
use Rattle.flu_model.specs.declared.events.Cell.{Cell}
use Rattle.flu_model.specs.declared.events.Out.{Out}
use Rattle.flu_model.specs.declared.events.Tag.{Tag}
use Rattle.flu_model.specs.declared.events.Worth.{Worth}
use Rattle.flu_model.specs.declared.events.Worth.TheVariants.{Sum, Max, Last}
use Rattle.flu_model.specs.declared.jobs.Program.{Program}
use Rattle.flu_model.specs.Contents.{Contents}
use Rattle.flu_model.specs.Itags.{count_of_itags, tag_of_itag}
use Rattle.flu_model.specs.Reports.{text_of_tag, line_of as line_of_report}
use Rattle.flu_model.specs.Rules.{is_same_text}
use Rattle.flu_partial.specs.declared.values.Amount.{Amount}
use Rattle.flu_save.specs.Checkpoint.{number_held}
use Rattle.flu_handover.specs.declared.tags.NamedTag.{NamedTag}

-- the amount of a cell
abbrev pub amount_of : Contents → Cell → Amount
amount_of s c = record { cell = c; value = number_held (s c) }

-- a value that is not neutral
abbrev pub IsProper : Worth → Type 0
IsProper (Sum n) = (n ≢ pos 0) × FitsSigned w128 n
IsProper (Max v) = ⊤
IsProper (Last v) = ⊤

-- a state with these contents
abbrev pub IsStateWith : Contents → Option State → Type 0
IsStateWith s None = ⊥
IsStateWith s (Some t) = held t ≡ s

-- outputs of the same lines
abbrev pub HaveLines : Program → List Out → Option (List Out) → Type 0
HaveLines p xs None = ⊥
HaveLines p xs (Some outs) = map (line_of_report p) outs ≡ map (line_of_report p) xs

-- a tag with its text
abbrev pub named_tag : Program → Tag → NamedTag
named_tag p t = record { tag = t; text = text_of_tag p t }

-- the tags of a job's itags with their texts, by the itags' numbers
abbrev pub named_tags : Program → List NamedTag
named_tags p = map (λ i. named_tag p (tag_of_itag p (record { 0 = i }))) (range_with_len 0 (count_of_itags p))

-- the tag has this text
abbrev pub has_text : List ℕ → NamedTag → Bool
has_text text n = is_same_text n.text text

-- the tag at a place has this text
abbrev pub IsNamedAt : List NamedTag → List ℕ → ℕ → Type 0
IsNamedAt tags text place = (place < length tags) × ((n : NamedTag) × (slice_get tags place ≡ Some n) × (n.text ≡ text))
