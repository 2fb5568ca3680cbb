-- An event with a value of 64 bits leaves maxima and last values that have 64 bits.
use Rattle.std.proofs.Common.{◌≡◌, ℕ, zero, suc, ◌<◌, ◌≤◌, ◌^◌, ℤ, pos, negsuc, Bool, true, false, cond, Option, Some, None, List, [], ◌∷◌, length}
use Rattle.std.proofs.Common.{refl, arith, get_or}
use lib.Signed.{mag, mag_rem}
use Rattle.std.specs.Prelude.{nat_lt, nat_le, ◌==◌, ◌&&◌, ◌||◌, not, slice_get, int_lt, int_le, ◌+ℤ◌, ◌-ℤ◌, ◌*ℤ◌, neg_ℤ, is_some}
use Rattle.std.specs.Prelude.{int_div, int_rem, FitsSigned, IsTrue}
use Rattle.std.specs.Int.{w64, w128, int_wrap}
use Rattle.std.specs.Ordering.{int_eq}
use Rattle.std.specs.List.{list_all}
use Rattle.std.proofs.lemmas.Bool.{ltb-false}
use Rattle.flu_lemmas.proofs.Tests.{and_left, and_right, true_lt}
use Rattle.flu_model.specs.declared.events.Cell.{Cell}
use Rattle.flu_model.specs.declared.events.Event.{Event}
use Rattle.flu_model.specs.declared.events.Itag.{Itag}
use Rattle.flu_model.specs.declared.events.Tag.{Tag}
use Rattle.flu_model.specs.declared.events.Worth.{Worth}
use Rattle.flu_model.specs.declared.events.Worth.TheVariants.{Sum, Max, Last}
use Rattle.flu_model.specs.declared.jobs.Act.{Act}
use Rattle.flu_model.specs.declared.jobs.Act.TheVariants.{Add, Raise, Set, Clear, ClearFamily, Emit, Flush}
use Rattle.flu_model.specs.declared.jobs.Action.{Action}
use Rattle.flu_model.specs.declared.jobs.Expr.{Expr}
use Rattle.flu_model.specs.declared.jobs.Expr.TheVariants.{Lit, Value, Key, Item, Time, Read, Has, Neg', Not', Two'}
use Rattle.flu_model.specs.declared.jobs.Family.{Family}
use Rattle.flu_model.specs.declared.jobs.Kind.{Kind}
use Rattle.flu_model.specs.declared.jobs.Op.{Op}
use Rattle.flu_model.specs.declared.jobs.Op.TheVariants.{Plus, Minus, Times, Divide, Remainder, Less, LessEq, More, MoreEq, Same, Differs, Both, Either}
use Rattle.flu_model.specs.declared.jobs.Program.{Program}
use Rattle.flu_model.specs.Contents.{Contents, is_same_cell, with_worth, added, raised, sum_in, number_in, key_count, without_family}
use Rattle.flu_model.specs.Expressions.{item_of, cell_of, quotient_of, remainder_of, as_number, clamped, is_true, result_of, value_of_expr}
use Rattle.flu_model.specs.Itags.{itags, count_of_itags, tag_of_itag}
use Rattle.flu_model.specs.Listing.{tag}
use Rattle.flu_model.specs.Moments.{at_its_time}
use Rattle.flu_model.specs.Rules.{is_literal, expr_fits, height, is_good_expr, act_fits, action_fits, kind_fits, tag_fits}
use Rattle.flu_model.specs.Texts.{Showing}
use Rattle.flu_model.specs.Updates.{changes_to, effect_of_act, effect_of_action, effect_of_actions, actions_of, effect_of, passes_guard, showing_of}
use Rattle.flu_save.specs.Checkpoint.{HasWordWidth}

-- ---- numbers of 64 bits
abbrev pub IsWord : ℤ → Type 0
IsWord z = mag z < 2 ^ 63

clamped_word : (z : ℤ) → IsWord (clamped z)
clamped_word (pos n) = omega arith
clamped_word (negsuc n) = omega arith

truth_word : (b : Bool) → IsWord (as_number b)
truth_word true = omega arith
truth_word false = omega arith

quotient_word : (a b : ℤ) → IsWord (quotient_of a b)
quotient_word a b =
    elim (int_eq b (pos 0)) as (λ t. IsWord (cond t (pos 0) (clamped (int_div a b)))) [
      | true ↦ omega arith
      | false ↦ clamped_word (int_div a b)
    ]

-- a remainder is no farther from 0 than the left operand
remainder_word : (a b : ℤ) → IsWord a → IsWord (remainder_of a b)
remainder_word a b low =
    let near = mag_rem a b in
    elim (int_eq b (pos 0)) as (λ t. IsWord (cond t (pos 0) (int_rem a b))) [
      | true ↦ omega arith
      | false ↦ omega (arith, low, near)
    ]

result_word : (op : Op) (a b : ℤ) → IsWord a → IsWord (result_of op a b)
result_word Plus a b low = clamped_word (a +ℤ b)
result_word Minus a b low = clamped_word (a -ℤ b)
result_word Times a b low = clamped_word (a *ℤ b)
result_word Divide a b low = quotient_word a b
result_word Remainder a b low = remainder_word a b low
result_word Less a b low = truth_word (int_lt a b)
result_word LessEq a b low = truth_word (int_le a b)
result_word More a b low = truth_word (int_lt b a)
result_word MoreEq a b low = truth_word (int_le b a)
result_word Same a b low = truth_word (int_eq a b)
result_word Differs a b low = truth_word (not (int_eq a b))
result_word Both a b low = truth_word (is_true a && is_true b)
result_word Either a b low = truth_word (is_true a || is_true b)

literal_word : (n : ℤ) → is_literal n ≡ true → IsWord n
literal_word (pos n) e = true_lt n (2 ^ 63) e
literal_word (negsuc n) e = absurd cc

number_word : (w : Option Worth) → HasWordWidth w → IsWord (number_in w)
number_word None h = omega arith
number_word (Some (Sum n)) h = clamped_word n
number_word (Some (Max v)) h = h.sfits
number_word (Some (Last v)) h = h.sfits

-- ---- cells
abbrev pub AreWords : Contents → Type 0
AreWords s = (c : Cell) → HasWordWidth (s c)

changed_words : (s : Contents) (c : Cell) (w : Option Worth) → AreWords s → HasWordWidth w → AreWords (with_worth s c w)
changed_words s c w words width d =
    elim (is_same_cell d c) as (λ b. HasWordWidth (cond b w (s d))) [
      | true ↦ width
      | false ↦ words d
    ]

sum_width : (w : Option Worth) (n : ℤ) → HasWordWidth (added w n)
sum_width w n = let m = int_wrap w128 (sum_in w +ℤ n) in by (int_eq m (pos 0)) m
  where
    by : (b : Bool) (m : ℤ) → HasWordWidth (cond b None (Some (Sum m)))
    by true m = tt
    by false m = tt

raised_width : (w : Option Worth) (v : ℤ) → HasWordWidth w → IsWord v → HasWordWidth (raised w v)
raised_width None v h word = record { sfits = word }
raised_width (Some (Sum n)) v h word = record { sfits = word }
raised_width (Some (Max m)) v h word =
    elim (int_lt v m) as (λ b. FitsSigned w64 (cond b m v)) [
      | true ↦ h
      | false ↦ record { sfits = word }
    ]
raised_width (Some (Last n)) v h word = record { sfits = word }

without_words : (s : Contents) (f : ℕ) → AreWords s → AreWords (without_family s f)
without_words s f words d =
    elim (d.family == f) as (λ b. HasWordWidth (cond b None (s d))) [
      | true ↦ tt
      | false ↦ words d
    ]

-- ---- an event
item_word : (x : Event) → IsWord (pos (item_of x))
item_word x =
    elim (nat_lt x.item key_count) as (λ b. nat_lt x.item key_count ≡ b → IsWord (pos (cond b x.item 0))) [
      | true ↦ λ e. let low : x.item < key_count = true_lt x.item key_count e in omega (arith, low)
      | false ↦ λ e. omega arith
    ] refl

module _ (show : Showing) (families : List Family) (keyed has_value : Bool) (x : Event) (key : ℕ) (value : IsWord x.value) (low : key < key_count) where
  expr_word : (e : Expr) (s : Contents) → expr_fits families keyed has_value e ≡ true → AreWords s → IsWord (value_of_expr e s x key)
  expr_word (Lit n) s fits words = literal_word n fits
  expr_word Value s fits words = value
  expr_word Key s fits words = omega (arith, low)
  expr_word Item s fits words = item_word x
  expr_word Time s fits words = clamped_word (pos x.time)
  expr_word (Read r) s fits words = number_word (s (cell_of r key (item_of x))) (words (cell_of r key (item_of x)))
  expr_word (Has r) s fits words = truth_word (is_some (s (cell_of r key (item_of x))))
  expr_word (Neg' p e) s fits words = clamped_word (neg_ℤ (value_of_expr e s x key))
  expr_word (Not' p e) s fits words = truth_word (not (is_true (value_of_expr e s x key)))
  expr_word (Two' op p a q b) s fits words = result_word op (value_of_expr a s x key) (value_of_expr b s x key)
      (expr_word a s (and_left (expr_fits families keyed has_value a) _ fits) words)

  good_fits : (e : Expr) → is_good_expr families keyed has_value e ≡ true → expr_fits families keyed has_value e ≡ true
  good_fits e good = and_left (expr_fits families keyed has_value e) (nat_le (height e) 32) good

  act_words : (a : Act) (s : Contents) → act_fits families keyed has_value a ≡ true → AreWords s → AreWords (effect_of_act show families a s x key).cells
  act_words (Add r e) s fits words =
      changed_words s (cell_of r key (item_of x)) (added (s (cell_of r key (item_of x))) (value_of_expr e s x key)) words
      (sum_width (s (cell_of r key (item_of x))) (value_of_expr e s x key))
  act_words (Raise r e) s fits words =
      changed_words s (cell_of r key (item_of x)) (raised (s (cell_of r key (item_of x))) (value_of_expr e s x key)) words
      (raised_width (s (cell_of r key (item_of x))) (value_of_expr e s x key) (words (cell_of r key (item_of x)))
      (expr_word e s (good_fits e (and_right _ (is_good_expr families keyed has_value e) fits)) words))
  act_words (Set r e) s fits words =
      changed_words s (cell_of r key (item_of x)) (Some (Last (value_of_expr e s x key))) words (record {
        sfits = expr_word e s (good_fits e (and_right _ (is_good_expr families keyed has_value e) fits)) words;
      })
  act_words (Clear r) s fits words = changed_words s (cell_of r key (item_of x)) None words tt
  act_words (ClearFamily f) s fits words = without_words s f words
  act_words (Emit ps) s fits words = words
  act_words (Flush f ps) s fits words = without_words s f words

  actions_words : (all : List Action) (s : Contents) → list_all (action_fits families keyed has_value) all ≡ true → AreWords s
      → AreWords (effect_of_actions show families all s x key).cells
  actions_words [] s fits words = words
  actions_words (a ∷ all) s fits words =
      actions_words all (effect_of_action show families a s x key).cells (and_right _ _ fits)
      (elim (passes_guard a.guard s x key) as (λ b. AreWords (cond b (effect_of_act show families a.act s x key) (changes_to s)).cells) [
        | true ↦ act_words a.act s (and_left _ _ (and_left _ _ fits)) words
        | false ↦ words
      ])

-- ---- the events of a job
-- the law that the tag of each itag has a key in range
abbrev pub TagsFit : Type 0
TagsFit = (p : Program) (i : Itag) → i.0 < count_of_itags p → IsTrue (tag_fits p.kinds (tag_of_itag p i))

found_fits : (families : List Family) (kinds : List Kind) (n : ℕ) → list_all (kind_fits families) kinds ≡ true
    → (keyed : Bool) × ((has_value : Bool) × (list_all (action_fits families keyed has_value) (actions_of (slice_get kinds n)) ≡ true))
found_fits families [] n e = (false, (false, refl))
found_fits families (k ∷ ks) zero e = (k.keyed, (k.has_value, and_right _ _ (and_left _ _ e)))
found_fits families (k ∷ ks) (suc n) e = found_fits families ks n (and_right _ _ e)

none_behind : (ts : List (Tag × ℕ)) (i : ℕ) → length ts ≤ i → (get_or ts i (tag 0 0, 0)).0.key < key_count
none_behind [] i high = omega arith
none_behind (t ∷ ts) zero high = absurd (omega (arith, high))
none_behind (t ∷ ts) (suc i) high = none_behind ts i (omega (arith, high))

key_low : TagsFit → (p : Program) (i : Itag) → (tag_of_itag p i).key < key_count
key_low fit p i = by (nat_lt i.0 (count_of_itags p)) refl
  where
    by : (b : Bool) → nat_lt i.0 (count_of_itags p) ≡ b → (tag_of_itag p i).key < key_count
    by true e = true_lt (tag_of_itag p i).key key_count (and_right _ _ (fit p i (true_lt i.0 (count_of_itags p) e)))
    by false e = none_behind (itags p) i.0 (ltb-false i.0 (count_of_itags p) e)

-- AN EVENT'S VALUE has 64 bits
abbrev pub HasWord : Event → Type 0
HasWord x = IsWord x.value

pub update_words : TagsFit → (p : Program) (s : Contents) (x : Event) → HasWord x → AreWords s → AreWords (effect_of p s x).cells
update_words fit p s x value words =
    let t = tag_of_itag p x.itag in
    let found = found_fits p.families p.kinds t.kind p.kinds_fit in
    actions_words (showing_of p t.kind) p.families found.0 found.1.0 (at_its_time p x) t.key value (key_low fit p x.itag)
    (actions_of (slice_get p.kinds t.kind)) s found.1.1 words
