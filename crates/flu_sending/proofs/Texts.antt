-- What is sent has texts that are UTF-8, where the plain pieces of templates are.
use Rattle.std.proofs.Common.{◌≡◌, ◌<◌, ◌+◌, ◌%◌, ◌/◌, ℕ, zero, suc, ℤ, pos, negsuc, Bool, true, false, cond, Option, Some, None, List, []}
use Rattle.std.proofs.Common.{◌∷◌, ◌++◌, map, refl, ap, ◌∙◌, arith}
use Rattle.std.specs.Prelude.{nat_lt, nat_le, ◌==◌, ◌&&◌, ◌||◌, not, length, option_and_then, slice_get, unwrap_or, codes}
use Rattle.std.specs.Char.{is_ascii_alphanumeric}
use Rattle.std.specs.Fmt.{decimal, signed_decimal, digits, digits_onto, digit_glyph}
use Rattle.std.specs.List.{list_all, AllByRecursion}
use Rattle.std.specs.Str.{IsUtf8, IsAscii}
use Rattle.std.proofs.lemmas.Bool.Decides.{nat_tests}
use Rattle.std.proofs.lemmas.Grind.{common_steps}
use Rattle.std.proofs.lemmas.Str.{IsUtf8-nil, IsUtf8-append, IsUtf8-from_ascii}
use Rattle.flu_lemmas.proofs.Elements.{all_append, all_filter, all_map, list_all_push, list_all_weaker, passes_at}
use Rattle.flu_lemmas.proofs.Tests.{and_left, and_right, true_lt}
use Rattle.flu_calendar.specs.declared.unit.Unit.TheVariants.{Seconds, Milliseconds, Microseconds}
use Rattle.flu_calendar.specs.Calendar.{year_of, month_of, day_in_month}
use Rattle.flu_calendar.specs.Units.{times_end, units_in_second}
use Rattle.flu_calendar.specs.Texts.{last_digits, printed_fraction, second_text, time_text}
use Rattle.flu_names.specs.Names.{begins_as_name, is_name, is_name_byte, is_reserved}
use Rattle.flu_model.specs.declared.events.Event.{Event}
use Rattle.flu_model.specs.declared.events.Out.{Out}
use Rattle.flu_model.specs.declared.events.Tag.{Tag}
use Rattle.flu_model.specs.declared.events.Worth.{Worth}
use Rattle.flu_model.specs.declared.events.Worth.TheVariants.{Sum, Max, Last}
use Rattle.flu_model.specs.declared.jobs.Act.{Act}
use Rattle.flu_model.specs.declared.jobs.Act.TheVariants.{Add, Raise, Set, Clear, ClearFamily, Emit, Flush}
use Rattle.flu_model.specs.declared.jobs.Action.{Action}
use Rattle.flu_model.specs.declared.jobs.Family.{Family}
use Rattle.flu_model.specs.declared.jobs.Kind.{Kind}
use Rattle.flu_model.specs.declared.jobs.Piece.{Piece}
use Rattle.flu_model.specs.declared.jobs.Piece.TheVariants.{Plain, Value, Key, Item, Time, Read, CellValue, FamilyCell}
use Rattle.flu_model.specs.declared.jobs.Program.{Program}
use Rattle.flu_model.specs.declared.jobs.Sort.{Sort}
use Rattle.flu_model.specs.declared.jobs.Sort.TheVariants as sorts
use Rattle.flu_model.specs.declared.plans.Node.{Node}
use Rattle.flu_model.specs.Contents.{Contents, cell, held_keys, nothing_held}
use Rattle.flu_model.specs.Expressions.{cell_of, item_of}
use Rattle.flu_model.specs.Folding.{outputs_at, outputs_with}
use Rattle.flu_model.specs.Itags.{tag_of_itag}
use Rattle.flu_model.specs.Merging.{merged}
use Rattle.flu_model.specs.Moments.{time_of_moment, at_its_time}
use Rattle.flu_model.specs.Numberings.{Numbering, shown_number, text_at}
use Rattle.flu_model.specs.Reports.{kind_text, name_with_key, text_of_tag}
use Rattle.flu_model.specs.Rules.{action_fits, kind_fits}
use Rattle.flu_model.specs.Texts.{Unit, Showing, shown_time, key_in, neutral_of, neutral_text, piece_text, pieces_text, worth_text}
use Rattle.flu_model.specs.Updates.{actions_of, effect_of, effect_of_act, effect_of_action, effect_of_actions, passes_guard, showing_of, with_keys}
use Rattle.flu_contribution.specs.Contributions.{is_inside, is_above, Contribution, opened, with_event, closed, contributions_from, contributions}
use Rattle.flu_contribution.specs.Sending.{is_idle}
use Rattle.flu_sending.specs.Laws.{SentTextsAreUtf8}
use Rattle.flu_sending.specs.Texts.{IsUtf8Piece, EmitsUtf8, NamesAreUtf8, TemplatesAreUtf8, IsUtf8Output}

record Utf8 (bytes : List ℕ) : Type 0 where
  is : IsUtf8 bytes

-- ---- what is UTF-8

none : Utf8 []
none = record { is = IsUtf8-nil }

infixl 30 ◌also◌
◌also◌ : {a b : List ℕ} → Utf8 a → Utf8 b → Utf8 (a ++ b)
◌also◌ {a} {b} x y = record { is = IsUtf8-append a b x.is y.is }

ascii_at : (bytes : List ℕ) → list_all (λ b. nat_lt b 128) bytes ≡ true → IsAscii bytes
ascii_at [] all i = omega arith
ascii_at (b ∷ bytes) all zero = true_lt b 128 (and_left (nat_lt b 128) (list_all (λ b. nat_lt b 128) bytes) all)
ascii_at (b ∷ bytes) all (suc i) = ascii_at bytes (and_right (nat_lt b 128) (list_all (λ b. nat_lt b 128) bytes) all) i

ascii : (bytes : List ℕ) → list_all (λ b. nat_lt b 128) bytes ≡ true → Utf8 bytes
ascii bytes all = record { is = IsUtf8-from_ascii bytes (ascii_at bytes all) }

-- the digits of a number
glyph_low : (d : ℕ) → d < 10 → nat_lt (digit_glyph false d) 128 ≡ true
glyph_low d lt = grind (arith, nat_tests)

glyph_then : (n : ℕ) (acc : List ℕ) → list_all (λ b. nat_lt b 128) acc ≡ true → list_all (λ b. nat_lt b 128) (digit_glyph false (n % 10) ∷ acc) ≡ true
glyph_then n acc all = ap (λ (b : Bool). b && list_all (λ b. nat_lt b 128) acc) (glyph_low (n % 10) (omega arith)) ∙ all

digits_low : (k n : ℕ) (acc : List ℕ) → list_all (λ b. nat_lt b 128) acc ≡ true → list_all (λ b. nat_lt b 128) (digits_onto k 10 false n acc) ≡ true
digits_low zero n acc all = all
digits_low (suc k) n acc all =
    by (n / 10 == 0) (glyph_then n acc all) (digits_low k (n / 10) (digit_glyph false (n % 10) ∷ acc) (glyph_then n acc all))
  where
    by : (b : Bool) → list_all (λ b. nat_lt b 128) (digit_glyph false (n % 10) ∷ acc) ≡ true
        → list_all (λ b. nat_lt b 128) (digits_onto k 10 false (n / 10) (digit_glyph false (n % 10) ∷ acc)) ≡ true
        → list_all (λ b. nat_lt b 128) (cond b (digit_glyph false (n % 10) ∷ acc) (digits_onto k 10 false (n / 10) (digit_glyph false (n % 10) ∷ acc))) ≡ true
    by true one more = one
    by false one more = more

number : (n : ℕ) → Utf8 (decimal n)
unfolding digits
number n = ascii (decimal n) (digits_low 64 n [] refl)

signed : (n : ℤ) → Utf8 (signed_decimal n)
signed (pos n) = number n
signed (negsuc n) = ascii (codes "-") refl also number (suc n)

-- ---- names and tags

name_byte_low : (b : ℕ) → is_name_byte b ≡ true → nat_lt b 128 ≡ true
name_byte_low b is = grind (arith, nat_tests, common_steps)

name : (bytes : List ℕ) → is_name bytes ≡ true → Utf8 bytes
name bytes is =
    let front = and_left (begins_as_name bytes && list_all is_name_byte bytes && nat_le (length bytes) 32) (not (is_reserved bytes)) is in
    let bytes_are = and_right (begins_as_name bytes) (list_all is_name_byte bytes)
    (and_left (begins_as_name bytes && list_all is_name_byte bytes) (nat_le (length bytes) 32) front) in
    ascii bytes (list_all_weaker is_name_byte (λ b. nat_lt b 128) bytes name_byte_low bytes_are)

with_key : (bytes : List ℕ) (keyed : Bool) (key : ℕ) → Utf8 bytes → Utf8 (name_with_key bytes keyed key)
with_key bytes true key is = is also ascii (codes "[") refl also number key also ascii (codes "]") refl
with_key bytes false key is = is

tag : (p : Program) (t : Tag) → Utf8 (text_of_tag p t)
tag p t = by (slice_get p.kinds t.kind) refl
  where
    by : (o : Option Kind) → slice_get p.kinds t.kind ≡ o → Utf8 (kind_text o t.key)
    by None e = none
    by (Some k) e =
        let fits = passes_at (kind_fits p.families) p.kinds t.kind k p.kinds_fit e in
        let named = and_left (is_name k.name) (nat_le (length k.actions) 32)
        (and_left (is_name k.name && nat_le (length k.actions) 32) (list_all (action_fits p.families k.keyed k.has_value) k.actions) fits) in
        with_key k.name k.keyed t.key (name k.name named)

-- ---- times

two_low : (n : ℕ) → nat_lt (48 + n % 10) 128 ≡ true
two_low n = grind (arith, nat_tests)

last_low : (count n : ℕ) → list_all (λ b. nat_lt b 128) (last_digits count n) ≡ true
last_low zero n = refl
last_low (suc count) n = list_all_push (λ b. nat_lt b 128) (last_digits count (n / 10)) (48 + n % 10) (last_low count (n / 10)) (two_low n)

last : (count n : ℕ) → Utf8 (last_digits count n)
last count n = ascii (last_digits count n) (last_low count n)

fraction : (unit : Unit) (n : ℕ) → Utf8 (printed_fraction unit n)
fraction Seconds n = none
fraction Milliseconds n = ascii (codes ".") refl also last 3 n
fraction Microseconds n = ascii (codes ".") refl also last 6 n

shown : (iso : Option Unit) (t : ℕ) → Utf8 (shown_time iso t)
shown None t = number t
shown (Some unit) t = by (nat_lt t (times_end unit))
  where
    second : (n : ℕ) → Utf8 (second_text n)
    second n =
        let day = n / 86400 in
        (last 4 (year_of day) also (ascii (codes "-") refl also (last 2 (month_of day) also (ascii (codes "-") refl also last 2 (day_in_month day)))))
        also (ascii (codes "T") refl also (last 2 (n / 3600 % 24) also (ascii (codes ":") refl also (last 2 (n / 60 % 60)
        also (ascii (codes ":") refl also last 2 (n % 60))))))

    by : (b : Bool) → Utf8 (cond b (time_text unit t) (decimal t))
    by true = second (t / units_in_second unit) also (fraction unit (t % units_in_second unit) also ascii (codes "Z") refl)
    by false = number t

-- ---- texts

neutral_sort : (s : Sort) → Utf8 (neutral_text s)
neutral_sort sorts.Sum = ascii (codes "0") refl
neutral_sort sorts.Max = ascii (codes "none") refl
neutral_sort sorts.Last = ascii (codes "none") refl

neutral : (o : Option Family) → Utf8 (neutral_of o)
neutral None = ascii (codes "none") refl
neutral (Some f) = neutral_sort f.sort

worth : (text : List ℕ) (held : Option Worth) → Utf8 text → Utf8 (worth_text text held)
worth text None is = is
worth text (Some (Sum n)) is = signed n
worth text (Some (Max v)) is = signed v
worth text (Some (Last v)) is = signed v

named_text : (texts : List (List ℕ)) (at n : ℕ) → AllByRecursion IsUtf8 texts → Utf8 (unwrap_or (slice_get texts at) (decimal n))
named_text [] at n all = number n
named_text (t ∷ texts) zero n all = record { is = all.0 }
named_text (t ∷ texts) (suc at) n all = named_text texts at n all.1

named_in : (lists : List Numbering) (at n : ℕ) → NamesAreUtf8 lists
    → Utf8 (unwrap_or (option_and_then (λ (l : Numbering). text_at l n) (slice_get lists at)) (decimal n))
named_in [] at n all = number n
named_in (l ∷ lists) zero n all = named_text l.texts n n all.0
named_in (l ∷ lists) (suc at) n all = named_in lists at n all.1

shown_name : (lists : List Numbering) (list : Option ℕ) (n : ℕ) → NamesAreUtf8 lists → Utf8 (shown_number lists list n)
shown_name lists None n all = number n
shown_name lists (Some at) n all = named_in lists at n all

piece : (show : Showing) (named : NamesAreUtf8 show.lists) (families : List Family) (piece : Piece) (s : Contents) (x : Event) (key : ℕ)
    (held : Option Worth) → IsUtf8Piece piece → Utf8 (piece_text show families piece s x key held)
piece show named families (Plain t) s x key held is = record { is = is }
piece show named families Value s x key held is = signed x.value
piece show named families Key s x key held is = shown_name show.lists show.keys key named
piece show named families Item s x key held is = shown_name show.lists show.items (item_of x) named
piece show named families Time s x key held is = shown show.iso x.time
piece show named families (Read r) s x key held is =
    worth (neutral_of (slice_get families r.family)) (s (cell_of r key (item_of x))) (neutral (slice_get families r.family))
piece show named families CellValue s x key held is = worth (codes "none") held (ascii (codes "none") refl)
piece show named families (FamilyCell f) s x key held is =
    let family = slice_get families f in worth (neutral_of family) (s (cell f (key_in family key))) (neutral family)

pieces : (show : Showing) (named : NamesAreUtf8 show.lists) (families : List Family) (ps : List Piece) (s : Contents) (x : Event) (key : ℕ)
    (held : Option Worth) → AllByRecursion IsUtf8Piece ps → Utf8 (pieces_text show families ps s x key held)
pieces show named families [] s x key held all = none
pieces show named families (p ∷ ps) s x key held all = piece show named families p s x key held all.0 also pieces show named families ps s x key held all.1

each_key : (show : Showing) (named : NamesAreUtf8 show.lists) (families : List Family) (f : ℕ) (ps : List Piece) (s : Contents) (x : Event)
    (keys : List ℕ) → AllByRecursion IsUtf8Piece ps → AllByRecursion IsUtf8 (map (λ k. pieces_text show families ps s x k (s (cell f k))) keys)
each_key show named families f ps s x [] all = tt
each_key show named families f ps s x (k ∷ keys) all =
    ((pieces show named families ps s x k (s (cell f k)) all).is, each_key show named families f ps s x keys all)

act : (show : Showing) (named : NamesAreUtf8 show.lists) (families : List Family) (a : Act) (s : Contents) (x : Event) (key : ℕ) → EmitsUtf8 a
    → AllByRecursion IsUtf8 (effect_of_act show families a s x key).texts
act show named families (Add r e) s x key is = tt
act show named families (Raise r e) s x key is = tt
act show named families (Set r e) s x key is = tt
act show named families (Clear r) s x key is = tt
act show named families (ClearFamily f) s x key is = tt
act show named families (Emit ps) s x key is = ((pieces show named families ps s x key None is).is, tt)
act show named families (Flush f ps) s x key is = each_key (with_keys show (slice_get families f)) named families f ps s x (held_keys s f) is

action : (show : Showing) (named : NamesAreUtf8 show.lists) (families : List Family) (a : Action) (s : Contents) (x : Event) (key : ℕ) → EmitsUtf8 a.act
    → AllByRecursion IsUtf8 (effect_of_action show families a s x key).texts
action show named families a s x key is =
    elim (passes_guard a.guard s x key)
    as (λ b. AllByRecursion IsUtf8 (cond b (effect_of_act show families a.act s x key) (record { cells = s; texts = [] })).texts) [
      | true ↦ act show named families a.act s x key is
      | false ↦ tt
    ]

actions : (show : Showing) (named : NamesAreUtf8 show.lists) (families : List Family) (some : List Action) (s : Contents) (x : Event) (key : ℕ)
    → AllByRecursion (λ (a : Action). EmitsUtf8 a.act) some
    → AllByRecursion IsUtf8 (effect_of_actions show families some s x key).texts
actions show named families [] s x key all = tt
actions show named families (a ∷ some) s x key all =
    let first = effect_of_action show families a s x key in
    all_append IsUtf8 first.texts (effect_of_actions show families some first.cells x key).texts (action show named families a s x key all.0)
    (actions show named families some first.cells x key all.1)

kind_actions : (kinds : List Kind) → TemplatesAreUtf8 kinds → (i : ℕ) → AllByRecursion (λ (a : Action). EmitsUtf8 a.act) (actions_of (slice_get kinds i))
kind_actions [] all i = tt
kind_actions (k ∷ kinds) all zero = all.0
kind_actions (k ∷ kinds) all (suc i) = kind_actions kinds all.1 i

module _ (p : Program) (nodes : List Node) (w : ℕ) (named : NamesAreUtf8 p.lists) (templates : TemplatesAreUtf8 p.kinds) where
  abbrev HasTexts : Contribution → Type 0
  HasTexts k = AllByRecursion (IsUtf8Output p) k.outputs

  event : (s : Contents) (x : Event) → AllByRecursion IsUtf8 (effect_of p s x).texts
  event s x =
      let t = tag_of_itag p x.itag in
      actions (showing_of p t.kind) named p.families (actions_of (slice_get p.kinds t.kind)) s (at_its_time p x) t.key (kind_actions p.kinds templates t.kind)

  outputs : (time : ℕ) (t : Tag) (texts : List (List ℕ)) → AllByRecursion IsUtf8 texts → AllByRecursion (IsUtf8Output p) (outputs_at time t texts)
  outputs time t [] all = tt
  outputs time t (text ∷ texts) all = (((tag p t).is, all.0), outputs time t texts all.1)

  all_have : (k : Contribution) (xs : List Event) → HasTexts k → AllByRecursion HasTexts (contributions_from p nodes w k xs)
  all_have k [] h = (h, tt)
  all_have k (x ∷ xs) h =
      by (is_inside p nodes w x) (is_above p nodes w x)
      (all_have (with_event p k x) xs (all_append (IsUtf8Output p) k.outputs (outputs_with p x (effect_of p k.cells x).texts) h
      (outputs (time_of_moment p x.time) (tag_of_itag p x.itag) (effect_of p k.cells x).texts (event k.cells x))))
      (h, all_have (opened p nodes w k.cells) xs tt) (all_have k xs h)
    where
      by : (i a : Bool) → AllByRecursion HasTexts (contributions_from p nodes w (with_event p k x) xs)
          → AllByRecursion HasTexts (closed p nodes w k x ∷ contributions_from p nodes w (opened p nodes w k.cells) xs)
          → AllByRecursion HasTexts (contributions_from p nodes w k xs)
          → AllByRecursion HasTexts (cond i (contributions_from p nodes w (with_event p k x) xs)
          (cond a (closed p nodes w k x ∷ contributions_from p nodes w (opened p nodes w k.cells) xs) (contributions_from p nodes w k xs)))
      by true a inner above other = inner
      by false true inner above other = above
      by false false inner above other = other

pub texts_are_utf8 : SentTextsAreUtf8
texts_are_utf8 p nodes w lists named templates =
    let ks = contributions p nodes w nothing_held (merged lists) in
    let all = all_have p nodes w named templates (opened p nodes w nothing_held) (merged lists) tt in
    all_filter (λ (k : Contribution). AllByRecursion (IsUtf8Output p) k.outputs) (λ k. not (is_idle k)) ks
    (all_map (λ (k : Contribution). AllByRecursion (IsUtf8Output p) k.outputs)
    (λ (k : Contribution). not (is_idle k) ≡ true → AllByRecursion (IsUtf8Output p) k.outputs) ks (λ k h passes. h) all)
