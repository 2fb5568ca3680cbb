-- Written sources and the tags that they list.
use Rattle.std.specs.Prelude.{ℕ, ◌+◌, ◌^◌, ◌&&◌, Bool, not, nat_lt, nat_le, List, [], ◌∷◌, ◌++◌, length, Option, Some, None, Ok}
use Rattle.std.specs.List.{list_any, filter_map}
use Rattle.flu_model.specs.declared.limits.What.TheVariants.{Itags, Rate, Slack}
use Rattle.flu_model.specs.declared.jobs.Keys.{Keys}
use Rattle.flu_model.specs.declared.jobs.Keys.TheVariants as keys
use Rattle.flu_model.specs.declared.jobs.TagRef.{TagRef}
use Rattle.flu_model.specs.declared.jobs.Source.{Source}
use Rattle.flu_model.specs.Listing.{listed_keys}
use Rattle.flu_model.specs.Rules.{is_same_text, file_of_source}
use Rattle.flu_rules.specs.Keys.{share_tag}
use Rattle.flu_text.specs.declared.written.WrittenSpan.{WrittenSpan}
use Rattle.flu_text.specs.declared.written.WrittenNumber.{WrittenNumber}
use Rattle.flu_text.specs.declared.written.WrittenKeys.{WrittenKeys}
use Rattle.flu_text.specs.declared.written.WrittenKeys.TheVariants as w
use Rattle.flu_syntax.specs.declared.tree.WrittenTag.{WrittenTag}
use Rattle.flu_layout.specs.Spelling.{inside, written_value}
use Rattle.flu_parse.specs.declared.faults.JobFault.TheVariants as f
use Rattle.flu_parse.specs.declared.names.KindHead.{KindHead}
use Rattle.flu_parse.specs.Faults.{Found, ◌>>=◌, ◌>>◌, unless, each}
use Rattle.flu_parse.specs.Naming.{Naming, kind_of}
use Rattle.flu_parse.specs.Cells.{resolved_key}

-- brackets are there exactly if the kind is keyed
abbrev pub are_bracketed : Bool → WrittenKeys → Bool
are_bracketed keyed w.Alone = not keyed
are_bracketed keyed (w.One k) = keyed
are_bracketed keyed (w.Range lo hi) = keyed

-- the keys as they are written, of whatever size
abbrev pub written_keys : WrittenKeys → Keys
written_keys w.Alone = keys.Alone
written_keys (w.One k) = keys.One (written_value k.value)
written_keys (w.Range lo hi) = keys.Range (written_value lo.value) (written_value hi.value)

-- the same if the numbers can be keys: a wrong range, then each number
abbrev pub keys_of : WrittenKeys → Found Keys
keys_of w.Alone = Ok keys.Alone
keys_of (w.One k) = do
  key ← resolved_key k
  Ok (keys.One key)
keys_of (w.Range lo hi) = do
  unless (nat_le (written_value lo.value) (written_value hi.value)) (f.WrongShape lo.at)
  first ← resolved_key lo
  last ← resolved_key hi
  Ok (keys.Range first last)

-- how many tags are listed
abbrev pub tag_count : WrittenKeys → ℕ
tag_count ks = length (listed_keys (written_keys ks))

-- the tags that a source has listed so far, and how many itags the sources have so far
pub record Listed : Type 0 where
  pub tags : List TagRef
  pub itags : ℕ

-- one more tag reference
unfoldable pub with_tag : List ℕ → Naming → Listed → WrittenTag → Found Listed
with_tag text n listed t = do
  kind ← kind_of text n t.kind
  unless (are_bracketed kind.keyed t.keys) (f.WrongShape t.kind.from)
  unless (nat_le (listed.itags + tag_count t.keys) 256) (f.OverLimit Itags 257)
  unless (not (list_any (share_tag (record { kind = kind.number; keys = written_keys t.keys })) listed.tags)) (f.TwiceNamed t.kind.from)
  keys ← keys_of t.keys
  Ok (record { tags = listed.tags ++ record { kind = kind.number; keys = keys } ∷ []; itags = listed.itags + tag_count t.keys })

abbrev pub tags_of : List ℕ → Naming → ℕ → List WrittenTag → Found Listed
tags_of text n itags ts = each (with_tag text n) (record { tags = []; itags = itags }) ts

-- the rate is 1 if none is written
abbrev pub rate_of : Option WrittenNumber → Found ℕ
rate_of None = Ok 1
rate_of (Some r) = do
  unless (nat_le (written_value r.value) 1000000000) (f.OverLimit Rate (written_value r.value))
  Ok (written_value r.value)

-- the slack is 0 if none is written
abbrev pub slack_of : Option WrittenNumber → Found ℕ
slack_of None = Ok 0
slack_of (Some s) = do
  unless (nat_le (written_value s.value) 60000) (f.OverLimit Slack (written_value s.value))
  Ok (written_value s.value)

-- the period of a clock, from 1 to 2^62
abbrev pub period_of : WrittenNumber → Found ℕ
period_of every = do
  unless (nat_le 1 (written_value every.value) && nat_le (written_value every.value) (2 ^ 62)) (f.WrongShape every.at)
  Ok (written_value every.value)

-- a kind without key, item and value
abbrev pub is_tick_head : KindHead → Bool
is_tick_head kind = not kind.keyed && not kind.has_item && not kind.has_value

-- a kind's name without brackets
abbrev pub alone : WrittenSpan → WrittenTag
alone kind = record { kind = kind; keys = w.Alone }

-- the tag of a clock
abbrev pub tick_of : List ℕ → Naming → ℕ → WrittenSpan → Found Listed
tick_of text n itags tag = do
  kind ← kind_of text n tag
  unless (is_tick_head kind) (f.WrongShape tag.from)
  tags_of text n itags (alone tag ∷ [])

-- a file that no earlier source reads
abbrev pub file_of : List ℕ → List Source → WrittenSpan → Found (List ℕ)
file_of text sources file = do
  unless (nat_lt 0 (length (inside text file))) (f.WrongShape file.from)
  unless (not (list_any (is_same_text (inside text file)) (filter_map file_of_source sources))) (f.TwiceNamed file.from)
  Ok (inside text file)
