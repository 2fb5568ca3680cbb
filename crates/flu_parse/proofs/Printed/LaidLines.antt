-- The laying out of declarations, and of a whole job.
use Rattle.std.proofs.Common.{◌≡◌, ◌<◌, ◌≤◌, ◌^◌, ℕ, zero, suc, pos, Bool, true, false, ◌&&◌, ◌||◌, List, [], ◌∷◌, length, Option, Some, None, refl, ap, ◌∙◌}
use Rattle.std.proofs.Common.{arith}
use Rattle.std.specs.Prelude.{nat_le, nat_lt, not, ◌==◌, if◌then◌else◌, is_some, slice_get, codes}
use Rattle.std.specs.List.{list_all}
use Rattle.flu_lemmas.proofs.Booleans.{three_left, three_middle, three_right}
use Rattle.flu_lemmas.proofs.Elements.{list_all_weaker, list_all_both, passes_at}
use Rattle.flu_lemmas.proofs.Items.{items_hold, lines_hold}
use Rattle.flu_lemmas.proofs.Tests.{and_left, and_right, both, true_le, true_lt, lt_true, true_eq}
use Rattle.flu_names.specs.declared.reserved.Reserved.{Reserved}
use Rattle.flu_names.specs.declared.reserved.Reserved.TheVariants as r
use Rattle.flu_names.specs.Names.{is_name, is_text_byte}
use Rattle.flu_text.specs.declared.words.Mark.TheVariants as m
use Rattle.flu_text.specs.Layout.{Piece as Laid}
use Rattle.flu_model.specs.declared.jobs.Family.{Family}
use Rattle.flu_model.specs.declared.jobs.Depend.{Depend}
use Rattle.flu_model.specs.declared.jobs.Keys.{Keys}
use Rattle.flu_model.specs.declared.jobs.Keys.TheVariants as keys
use Rattle.flu_model.specs.declared.jobs.TagRef.{TagRef}
use Rattle.flu_model.specs.declared.jobs.Source.{Source}
use Rattle.flu_model.specs.Contents.{key_count}
use Rattle.flu_model.specs.Numberings.{Numbering}
use Rattle.flu_model.specs.ListRules.{is_listed_text, is_list, is_declared_list, family_list_fits}
use Rattle.flu_model.specs.Texts.{Unit}
use Rattle.flu_calendar.specs.declared.unit.Unit.TheVariants.{Seconds, Milliseconds, Microseconds}
use Rattle.flu_model.specs.Listing.{tags_of_source}
use Rattle.flu_model.specs.Erasure.{PlainAction, PlainKind, Job}
use Rattle.flu_model.specs.PlanRules.{are_small_keys}
use Rattle.flu_model.specs.Rules.{keys_fit, is_file_text, are_distinct, is_same_tag}
use Rattle.flu_layout.specs.Laid.{blank, line_end, reserved, name, number, EndsName, AreLaid, laid_none, laid_name, laid_item, laid_reserved, laid_number}
use Rattle.flu_layout.specs.Laid.{laid_text, laid_mark, laid_spaced, Follows}
use Rattle.flu_layout.specs.Lists.{between, behind_kind, keys_words}
use Rattle.flu_layout.specs.Laws.{KeysAreLaid}
use Rattle.flu_parse.specs.Printing.{list_name, kind_name, unit_name}
use Rattle.flu_parse.proofs.Kept.Plain.{plain_action_fits, plain_kind_fits}
use Rattle.flu_parse.proofs.Printed.Rules.{plain_kind_is_keyed, plain_depend_fits, plain_listed_fits, plain_tag_fits, plain_tick_tag, plain_origin}
use Rattle.flu_parse.proofs.Printed.Rules.{plain_source_fits, JobFits}
use Rattle.flu_parse.proofs.Printed.ListFits.{plain_kind_list_fits, families_listed, plain_kinds_listed, list_facts, list_named, listed_bytes, listed_short}
use Rattle.flu_parse.proofs.Printed.Words.{action_words, behind_count, unit_words, third_words, version_words, text_words, texts_words, names_line_words}
use Rattle.flu_parse.proofs.Printed.Words.{by_words}
use Rattle.flu_parse.proofs.Printed.Words.{keyed_words, sort_reserved, cell_line_words, item_words, value_reserved}
use Rattle.flu_parse.proofs.Printed.Words.{tag_line_words, behind_depends, same_words, depends_line_words, actions_words, on_line_words, tag_words}
use Rattle.flu_parse.proofs.Printed.Words.{listed_words, behind_rate, slack_words, file_words, clock_words, origin_words, source_line_words, job_words}
use Rattle.flu_parse.proofs.Printed.LaidActions.{laid_action}

laid_keyed : (keyed : Bool) (rest : List Laid) → AreLaid rest → AreLaid (keyed_words keyed rest)
laid_keyed true rest laid = laid_reserved r.Keyed blank rest refl refl laid
laid_keyed false rest laid = laid

laid_item_word : (has_item : Bool) (rest : List Laid) → AreLaid rest → AreLaid (item_words has_item rest)
laid_item_word true rest laid = laid_item blank rest refl refl laid
laid_item_word false rest laid = laid

-- the texts of a list of names, of which there are some
laid_text_word : (t behind : List ℕ) (rest : List Laid) → is_listed_text t ≡ true → Follows behind rest → AreLaid (text_words t behind rest)
laid_text_word t behind rest fits f = laid_text t behind rest (listed_bytes t fits) (listed_short t fits) f.blank f.laid

laid_texts : (ts : List (List ℕ)) (rest : List Laid) → list_all is_listed_text ts ≡ true → AreLaid rest → AreLaid (texts_words ts rest)
laid_texts [] rest fits laid = laid_mark m.Colon (32 ∷ 10 ∷ []) rest (λ b. refl) refl laid
laid_texts (t ∷ ts) rest fits laid =
    laid_mark m.Colon blank _ (λ b. refl) refl
    (items_hold text_words [] (between m.Comma) is_listed_text AreLaid Follows laid_text_word
    (λ rest laid. record { blank = refl; ends = refl; laid = laid_spaced m.Comma rest laid }) t ts line_end rest fits
    (record { blank = refl; ends = refl; laid = laid }))

texts_end : (ts : List (List ℕ)) (rest : List Laid) → EndsName [] (texts_words ts rest)
texts_end [] rest = refl
texts_end (t ∷ ts) rest = refl

laid_names_line : (l : Numbering) (rest : List Laid) → is_list l ≡ true → AreLaid rest → AreLaid (names_line_words l rest)
laid_names_line l rest fits laid =
    let facts = list_facts l fits in
    let named = laid_name l.name [] (texts_words l.texts rest) facts.name refl (texts_end l.texts rest) (laid_texts l.texts rest facts.texts laid) in
    laid_name (codes "names") blank _ refl refl refl named

module _ (lists : List Numbering) (are : list_all is_list lists ≡ true) where
  laid_by : (l : Option ℕ) (rest : List Laid) → is_declared_list lists l ≡ true → AreLaid rest → AreLaid (by_words lists l rest)
  laid_by None rest declared laid = laid
  laid_by (Some number) rest declared laid =
      laid_name (codes "by") blank _ refl refl refl
      (laid_name (list_name lists (Some number)) blank rest (list_named lists number are declared) refl refl laid)

  laid_head : (word last : Reserved) (n : List ℕ) (keyed has_item : Bool) (l : Option ℕ) (rest : List Laid) → is_name n ≡ true
      → is_declared_list lists l ≡ true → AreLaid rest
      → AreLaid (reserved word blank ∷ name n blank ∷ keyed_words keyed (item_words has_item (by_words lists l (reserved last line_end ∷ rest))))
  laid_head word last n keyed has_item l rest named declared laid =
      let words : List Laid = by_words lists l (reserved last line_end ∷ rest) in
      let end = laid_by l (reserved last line_end ∷ rest) declared (laid_reserved last line_end rest refl refl laid) in
      let middle = laid_keyed keyed (item_words has_item words) (laid_item_word has_item words end) in
      laid_reserved word blank _ refl refl (laid_name n blank _ named refl refl middle)

  laid_cell_line : (f : Family) (rest : List Laid) → (is_name f.name && family_list_fits lists f) ≡ true → AreLaid rest
      → AreLaid (cell_line_words lists f rest)
  laid_cell_line f rest fits laid =
      let listed = and_right (is_name f.name) (family_list_fits lists f) fits in
      laid_head r.Cell (sort_reserved f.sort) f.name f.keyed false f.list rest (and_left (is_name f.name) (family_list_fits lists f) fits)
      (and_left (is_declared_list lists f.list) (f.keyed || not (is_some f.list)) listed) laid

  laid_tag_line : (k : PlainKind) (rest : List Laid) → (is_name k.name && plain_kind_list_fits lists k) ≡ true → AreLaid rest
      → AreLaid (tag_line_words lists k rest)
  laid_tag_line k rest fits laid =
      let listed = and_right (is_name k.name) (plain_kind_list_fits lists k) fits in
      laid_head r.Tag (value_reserved k.has_value) k.name k.keyed k.has_item k.list rest (and_left (is_name k.name) (plain_kind_list_fits lists k) fits)
      (and_left (is_declared_list lists k.list) (k.has_item || not (is_some k.list)) listed) laid

module _ (families : List Family) (named_families : list_all (λ (f : Family). is_name f.name) families ≡ true) where
  laid_actions : (keyed has_value : Bool) (n : List ℕ) (actions : List PlainAction) (rest : List Laid) → is_name n ≡ true
      → list_all (plain_action_fits families keyed has_value) actions ≡ true → AreLaid rest → AreLaid (actions_words families n actions rest)
  laid_actions keyed has_value n [] rest named fits laid = laid
  laid_actions keyed has_value n (a ∷ actions) rest named fits laid =
      let items = items_hold (action_words families) [] (between m.Semicolon) (plain_action_fits families keyed has_value) AreLaid Follows
      (laid_action families named_families keyed has_value) (λ rest laid. record { blank = refl; ends = refl; laid = laid_spaced m.Semicolon rest laid })
      a actions line_end rest fits (record { blank = refl; ends = refl; laid = laid }) in
      laid_reserved r.On blank _ refl refl (laid_name n [] _ named refl refl (laid_mark m.Colon blank _ (λ b. refl) refl items))

  laid_on_line : (k : PlainKind) (rest : List Laid) → plain_kind_fits families k ≡ true → AreLaid rest → AreLaid (on_line_words families k rest)
  laid_on_line k rest fits laid =
      let actions = list_all (plain_action_fits families k.keyed k.has_value) k.actions in
      laid_actions k.keyed k.has_value k.name k.actions rest (three_left (is_name k.name) (nat_le (length k.actions) 32) actions fits)
      (three_right (is_name k.name) (nat_le (length k.actions) 32) actions fits) laid

-- a kind by its number
pub record KindAt (kinds : List PlainKind) (i : ℕ) : Type 0 where
  pub kind : PlainKind
  pub found : slice_get kinds i ≡ Some kind

pub kind_at : (kinds : List PlainKind) (i : ℕ) → nat_lt i (length kinds) ≡ true → KindAt kinds i
kind_at [] i h = absurd (let lt : i < 0 = true_lt i 0 h in omega arith)
kind_at (k ∷ kinds) zero h = record { kind = k; found = refl }
kind_at (k ∷ kinds) (suc i) h =
    let lt : suc i < length (k ∷ kinds) = true_lt (suc i) (length (k ∷ kinds)) h in
    let rest = kind_at kinds i (lt_true i (length kinds) (omega arith)) in
    record { kind = rest.kind; found = rest.found }

-- the kind of a tag
pub record TagAt (kinds : List PlainKind) (t : TagRef) : Type 0 where
  pub kind : PlainKind
  pub found : slice_get kinds t.kind ≡ Some kind
  pub fits : keys_fit kind.keyed t.keys ≡ true

pub tag_at : (kinds : List PlainKind) (t : TagRef) → plain_tag_fits kinds t ≡ true → TagAt kinds t
tag_at kinds t h = by (slice_get kinds t.kind) refl h
  where
    by : (o : Option PlainKind) → slice_get kinds t.kind ≡ o → plain_listed_fits o t.keys ≡ true → TagAt kinds t
    by None found fits = absurd cc
    by (Some k) found fits = record { kind = k; found = found; fits = fits }

-- the numbers of keys
pub record LowHigh (keyed : Bool) (low high : ℕ) : Type 0 where
  pub keyed_is : keyed ≡ true
  pub rises : nat_le low high ≡ true
  pub small : nat_lt high key_count ≡ true

pub low_high : (keyed : Bool) (low high : ℕ) → keys_fit keyed (keys.Range low high) ≡ true → LowHigh keyed low high
low_high keyed low high h = record {
  keyed_is = three_left keyed (nat_le low high) (nat_lt high key_count) h;
  rises = three_middle keyed (nat_le low high) (nat_lt high key_count) h;
  small = three_right keyed (nat_le low high) (nat_lt high key_count) h;
}

pub low_small : (low high : ℕ) → nat_le low high ≡ true → nat_lt high key_count ≡ true → nat_lt low key_count ≡ true
low_small low high rises small =
    let le : low ≤ high = true_le low high rises in
    let lt : high < 65536 = true_lt high 65536 small in
    lt_true low 65536 (omega arith)

-- what a source keeps
pub record SourceFacts (kinds : List PlainKind) (s : Source) : Type 0 where
  pub name : is_name s.name ≡ true
  pub origin : plain_origin kinds s s.every ≡ true
  pub rate : nat_le s.rate 1000000000 ≡ true
  pub slack : nat_le s.slack 60000 ≡ true
  pub some : nat_lt 0 (length s.tags) ≡ true
  pub tags : list_all (plain_tag_fits kinds) s.tags ≡ true
  pub apart : are_distinct is_same_tag (tags_of_source s) ≡ true

pub source_facts : (kinds : List PlainKind) (s : Source) → plain_source_fits kinds s ≡ true → SourceFacts kinds s
source_facts kinds s h =
    let name : Bool = is_name s.name in
    let origin : Bool = plain_origin kinds s s.every in
    let rate : Bool = nat_le s.rate 1000000000 in
    let slack : Bool = nat_le s.slack 60000 in
    let some : Bool = nat_lt 0 (length s.tags) in
    let tags : Bool = list_all (plain_tag_fits kinds) s.tags in
    let apart : Bool = are_distinct is_same_tag (tags_of_source s) in
    let six : (name && origin && rate && slack && some && tags) ≡ true = and_left (name && origin && rate && slack && some && tags) apart h in
    let five : (name && origin && rate && slack && some) ≡ true = and_left (name && origin && rate && slack && some) tags six in
    let four : (name && origin && rate && slack) ≡ true = and_left (name && origin && rate && slack) some five in
    let three : (name && origin && rate) ≡ true = and_left (name && origin && rate) slack four in
    record {
      name = three_left name origin rate three;
      origin = three_middle name origin rate three;
      rate = three_right name origin rate three;
      slack = and_right (name && origin && rate) slack four;
      some = and_right (name && origin && rate && slack) some five;
      tags = and_right (name && origin && rate && slack && some) tags six;
      apart = and_right (name && origin && rate && slack && some && tags) apart h;
    }

-- what the file of a source keeps
pub record FileFacts (s : Source) : Type 0 where
  pub some : nat_lt 0 (length s.file) ≡ true
  pub short : length s.file ≤ 256
  pub bytes : list_all is_text_byte s.file ≡ true

pub file_facts : (s : Source) → is_file_text s.file ≡ true → FileFacts s
file_facts s h =
    let some : Bool = nat_lt 0 (length s.file) in
    let short : Bool = nat_le (length s.file) 256 in
    let bytes : Bool = list_all is_text_byte s.file in
    record {
      some = three_left some short bytes h;
      short = true_le (length s.file) 256 (three_middle some short bytes h);
      bytes = three_right some short bytes h;
    }

no_bytes : (bytes : List ℕ) → length bytes ≡ 0 → bytes ≡ []
no_bytes [] e = refl
no_bytes (b ∷ bytes) e = absurd (omega arith)

-- what a clock keeps
pub record ClockFacts (kinds : List PlainKind) (s : Source) (every : ℕ) : Type 0 where
  pub within : (nat_le 1 every && nat_le every (2 ^ 62)) ≡ true
  pub few : every ≤ 2 ^ 62
  pub no_file : s.file ≡ []
  pub prompt : s.slack ≡ 0
  pub one : length s.tags ≡ 1
  pub ticks : list_all (plain_tick_tag kinds) s.tags ≡ true

pub clock_facts : (kinds : List PlainKind) (s : Source) (every : ℕ) → plain_origin kinds s (Some every) ≡ true → ClockFacts kinds s every
clock_facts kinds s every h =
    let within : Bool = nat_le 1 every && nat_le every (2 ^ 62) in
    let file : Bool = length s.file == 0 in
    let slack : Bool = s.slack == 0 in
    let one : Bool = length s.tags == 1 in
    let ticks : Bool = list_all (plain_tick_tag kinds) s.tags in
    let four = and_left (within && file && slack && one) ticks h in
    let three = and_left (within && file && slack) one four in
    let two = and_left (within && file) slack three in
    record {
      within = and_left within file two;
      few = true_le every (2 ^ 62) (and_right (nat_le 1 every) (nat_le every (2 ^ 62)) (and_left within file two));
      no_file = no_bytes s.file (true_eq (length s.file) 0 (and_right within file two));
      prompt = true_eq s.slack 0 (and_right (within && file) slack three);
      one = true_eq (length s.tags) 1 (and_right (within && file && slack) one four);
      ticks = and_right (within && file && slack && one) ticks h;
    }

module _ (kinds : List PlainKind) (named_kinds : list_all (λ (k : PlainKind). is_name k.name) kinds ≡ true) where
  pub kind_named : (i : ℕ) (k : PlainKind) → slice_get kinds i ≡ Some k → is_name (kind_name (slice_get kinds i)) ≡ true
  kind_named i k found = ap (λ o. is_name (kind_name o)) found ∙ passes_at (λ (k : PlainKind). is_name k.name) kinds i k named_kinds found

  laid_same : (same : Bool) (rest : List Laid) → AreLaid rest → Follows (behind_depends same) (same_words same rest)
  laid_same true rest laid = record { blank = refl; ends = refl; laid = laid_reserved r.Same line_end rest refl refl laid }
  laid_same false rest laid = record { blank = refl; ends = refl; laid = laid }

  laid_depends_line : (d : Depend) (rest : List Laid) → plain_depend_fits kinds d ≡ true → AreLaid rest → AreLaid (depends_line_words kinds d rest)
  laid_depends_line d rest fits laid =
      let same_ok : Bool = not d.same || (plain_kind_is_keyed (slice_get kinds d.a) && plain_kind_is_keyed (slice_get kinds d.b)) in
      let a = kind_at kinds d.a (three_left (nat_lt d.a (length kinds)) (nat_lt d.b (length kinds)) same_ok fits) in
      let b = kind_at kinds d.b (three_middle (nat_lt d.a (length kinds)) (nat_lt d.b (length kinds)) same_ok fits) in
      let same = laid_same d.same rest laid in
      let second = laid_name (kind_name (slice_get kinds d.b)) (behind_depends d.same) (same_words d.same rest)
      (kind_named d.b b.kind b.found) same.blank same.ends same.laid in
      let first = laid_name (kind_name (slice_get kinds d.a)) blank _ (kind_named d.a a.kind a.found) refl refl second in
      laid_reserved r.Depends blank _ refl refl first

-- keys that fit are in range
keys_small : (keyed : Bool) (ks : Keys) → keys_fit keyed ks ≡ true → are_small_keys ks ≡ true
keys_small keyed keys.Alone fits = refl
keys_small keyed (keys.One k) fits = and_right keyed (nat_lt k key_count) fits
keys_small keyed (keys.Range low high) fits =
    let ends = low_high keyed low high fits in
    both (nat_lt low key_count) (nat_lt high key_count) (low_small low high ends.rises ends.small) ends.small

module _ (laid_keys : KeysAreLaid) (kinds : List PlainKind) (named_kinds : list_all (λ (k : PlainKind). is_name k.name) kinds ≡ true) where
  laid_tag : (t : TagRef) (behind : List ℕ) (rest : List Laid) → plain_tag_fits kinds t ≡ true → Follows behind rest → AreLaid (tag_words kinds t behind rest)
  laid_tag t behind rest fits f =
      let found = tag_at kinds t fits in
      let keys = laid_keys t.keys behind rest (keys_small found.kind.keyed t.keys found.fits) f in
      laid_name (kind_name (slice_get kinds t.kind)) (behind_kind t.keys behind) (keys_words t.keys behind rest)
      (kind_named kinds named_kinds t.kind found.kind found.found) keys.blank keys.ends keys.laid

  laid_listed : (ts : List TagRef) (rest : List Laid) → list_all (plain_tag_fits kinds) ts ≡ true → AreLaid rest → AreLaid (listed_words kinds ts rest)
  laid_listed [] rest fits laid = laid_mark m.Colon (32 ∷ 10 ∷ []) rest (λ b. refl) refl laid
  laid_listed (t ∷ ts) rest fits laid =
      laid_mark m.Colon blank _ (λ b. refl) refl
      (items_hold (tag_words kinds) [] (between m.Comma) (plain_tag_fits kinds) AreLaid Follows laid_tag
      (λ rest laid. record { blank = refl; ends = refl; laid = laid_spaced m.Comma rest laid }) t ts line_end rest fits
      (record { blank = refl; ends = refl; laid = laid }))

  listed_ends : (ts : List TagRef) (rest : List Laid) → EndsName [] (listed_words kinds ts rest)
  listed_ends [] rest = refl
  listed_ends (t ∷ ts) rest = refl

  laid_slack : (slack : ℕ) (ts : List TagRef) (rest : List Laid) → nat_le slack 60000 ≡ true → AreLaid (listed_words kinds ts rest)
      → Follows (behind_rate slack) (slack_words slack (listed_words kinds ts rest))
  laid_slack slack ts rest small listed =
      let le : slack ≤ 60000 = true_le slack 60000 small in
      let amount = laid_number (pos slack) [] (listed_words kinds ts rest) (lt_true slack (2 ^ 63) (omega arith)) refl (listed_ends ts rest) listed in
      by (nat_lt 0 slack) (laid_reserved r.Slack blank _ refl refl amount)
    where
      by : (some : Bool) → AreLaid (reserved r.Slack blank ∷ number (pos slack) [] ∷ listed_words kinds ts rest)
          → Follows (if some then blank else []) (if some then reserved r.Slack blank ∷ number (pos slack) []
          ∷ listed_words kinds ts rest else listed_words kinds ts rest)
      by true laid = record { blank = refl; ends = refl; laid = laid }
      by false laid = record { blank = refl; ends = listed_ends ts rest; laid = listed }

  laid_file : (s : Source) (rest : List Laid) → SourceFacts kinds s → is_file_text s.file ≡ true → AreLaid rest → AreLaid (file_words kinds s rest)
  laid_file s rest facts fits laid =
      let filed = file_facts s fits in
      let slack = laid_slack s.slack s.tags rest facts.slack (laid_listed s.tags rest facts.tags laid) in
      let rate : s.rate ≤ 1000000000 = true_le s.rate 1000000000 facts.rate in
      let amount = laid_number (pos s.rate) (behind_rate s.slack) (slack_words s.slack (listed_words kinds s.tags rest)) (lt_true s.rate (2 ^ 63) (omega arith))
      slack.blank slack.ends slack.laid in
      let file = laid_text s.file blank _ filed.bytes filed.short refl (laid_reserved r.Rate blank _ refl refl amount) in
      laid_reserved r.Source blank _ refl refl (laid_name s.name blank _ facts.name refl refl file)

  laid_clock : (s : Source) (every : ℕ) (rest : List Laid) → SourceFacts kinds s → every ≤ 2 ^ 62 → AreLaid rest → AreLaid (clock_words kinds s every rest)
  laid_clock s every rest facts few laid =
      let rate : s.rate ≤ 1000000000 = true_le s.rate 1000000000 facts.rate in
      let amount = laid_number (pos s.rate) [] (listed_words kinds s.tags rest) (lt_true s.rate (2 ^ 63) (omega arith)) refl (listed_ends s.tags rest)
      (laid_listed s.tags rest facts.tags laid) in
      let period = laid_number (pos every) blank _ (lt_true every (2 ^ 63) (omega arith)) refl refl (laid_reserved r.Rate blank _ refl refl amount) in
      let word = laid_name (codes "every") blank _ refl refl refl period in
      laid_name (codes "clock") blank _ refl refl refl (laid_name s.name blank _ facts.name refl refl word)

  laid_origin : (s : Source) (every : Option ℕ) (rest : List Laid) → SourceFacts kinds s → plain_origin kinds s every ≡ true → AreLaid rest
      → AreLaid (origin_words kinds s every rest)
  laid_origin s None rest facts fits laid = laid_file s rest facts fits laid
  laid_origin s (Some every) rest facts fits laid = laid_clock s every rest facts (clock_facts kinds s every fits).few laid

  laid_source_line : (s : Source) (rest : List Laid) → plain_source_fits kinds s ≡ true → AreLaid rest → AreLaid (source_line_words kinds s rest)
  laid_source_line s rest fits laid = let facts = source_facts kinds s fits in laid_origin s s.every rest facts facts.origin laid

-- all kinds have names
pub names_of_kinds : (families : List Family) (kinds : List PlainKind) → list_all (plain_kind_fits families) kinds ≡ true
    → list_all (λ (k : PlainKind). is_name k.name) kinds ≡ true
names_of_kinds families kinds h =
    list_all_weaker (plain_kind_fits families) (λ (k : PlainKind). is_name k.name) kinds
    (λ (k : PlainKind) fits. three_left (is_name k.name) (nat_le (length k.actions) 32)
    (list_all (plain_action_fits families k.keyed k.has_value) k.actions) fits) h

unit_is_name : (unit : Unit) → is_name (unit_name unit) ≡ true
unit_is_name Seconds = refl
unit_is_name Milliseconds = refl
unit_is_name Microseconds = refl

laid_unit : (iso : Option Unit) (rest : List Laid) → AreLaid rest → Follows (behind_count iso) (unit_words iso rest)
laid_unit None rest laid = record { blank = refl; ends = refl; laid = laid }
laid_unit (Some unit) rest laid = record {
  blank = refl;
  ends = refl;
  laid = laid_name (codes "iso") blank _ refl refl refl (laid_name (unit_name unit) line_end rest (unit_is_name unit) refl refl laid);
}

laid_third : (ties : ℕ) (iso : Option Unit) (rest : List Laid) → ties ≤ 2 ^ 31 → AreLaid rest → AreLaid (third_words ties iso rest)
laid_third ties iso rest few laid =
    let unit = laid_unit iso rest laid in
    by (nat_lt 1 ties)
    (laid_number (pos 3) blank _ refl refl refl (laid_name (codes "ties") blank _ refl refl refl
    (laid_number (pos ties) (behind_count iso) (unit_words iso rest) (lt_true ties (2 ^ 63) (omega arith)) unit.blank unit.ends unit.laid)))
    (laid_number (pos 3) (behind_count iso) (unit_words iso rest) refl unit.blank unit.ends unit.laid)
  where
    by : (several : Bool) → AreLaid (number (pos 3) blank ∷ name (codes "ties") blank ∷ number (pos ties) (behind_count iso) ∷ unit_words iso rest)
        → AreLaid (number (pos 3) (behind_count iso) ∷ unit_words iso rest)
        → AreLaid (if several then number (pos 3) blank ∷ name (codes "ties") blank ∷ number (pos ties) (behind_count iso) ∷ unit_words iso rest
        else number (pos 3) (behind_count iso) ∷ unit_words iso rest)
    by true long short = long
    by false long short = short

laid_version : (version ties : ℕ) (iso : Option Unit) (rest : List Laid) → ties ≤ 2 ^ 31 → AreLaid rest → AreLaid (version_words version ties iso rest)
laid_version version ties iso rest few laid = by (version == 2) (version == 3)
  where
    by : (two three : Bool) → AreLaid (if two then reserved r.Version blank ∷ number (pos 2) line_end ∷ rest
        else if three then reserved r.Version blank ∷ third_words ties iso rest else rest)
    by true three = laid_reserved r.Version blank _ refl refl (laid_number (pos 2) line_end rest refl refl refl laid)
    by false true = laid_reserved r.Version blank _ refl refl (laid_third ties iso rest few laid)
    by false false = laid

-- the words of the normal form are laid out
pub job_laid : KeysAreLaid → (job : Job) → JobFits job → AreLaid (job_words job)
job_laid laid_keys job fits =
    let named = names_of_kinds job.families job.kinds fits.kinds in
    let sources = lines_hold (source_line_words job.kinds) (plain_source_fits job.kinds) AreLaid
    (laid_source_line laid_keys job.kinds named) job.sources [] fits.sources laid_none in
    let ons = lines_hold (on_line_words job.families) (plain_kind_fits job.families) AreLaid
    (laid_on_line job.families fits.families) job.kinds _ fits.kinds sources in
    let depends = lines_hold (depends_line_words job.kinds) (plain_depend_fits job.kinds) AreLaid
    (laid_depends_line job.kinds named) job.depends _ fits.depends ons in
    let kinds_listed = plain_kinds_listed job.version job.lists job.families job.kinds fits.lists_fit in
    let families_fit = families_listed job.version job.lists job.families job.kinds fits.lists_fit in
    let tags = lines_hold (tag_line_words job.lists) (λ (k : PlainKind). is_name k.name && plain_kind_list_fits job.lists k) AreLaid
    (laid_tag_line job.lists fits.lists) job.kinds _
    (list_all_both (λ (k : PlainKind). is_name k.name) (plain_kind_list_fits job.lists) job.kinds named kinds_listed) depends in
    let cells = lines_hold (cell_line_words job.lists) (λ (f : Family). is_name f.name && family_list_fits job.lists f) AreLaid
    (laid_cell_line job.lists fits.lists) job.families _
    (list_all_both (λ (f : Family). is_name f.name) (family_list_fits job.lists) job.families fits.families families_fit) tags in
    let few = true_le job.ties (2 ^ 31) (three_middle (nat_le 1 job.ties) (nat_le job.ties (2 ^ 31)) (job.version == 3 || job.ties == 1) fits.known_ties) in
    laid_version job.version job.ties job.iso _ few (lines_hold names_line_words is_list AreLaid laid_names_line job.lists _ fits.lists cells)
