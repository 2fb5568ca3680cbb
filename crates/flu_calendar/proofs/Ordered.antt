-- The order of printed texts: pieces of one length are compared one after the other.
use Rattle.std.proofs.Common.{◌≡◌, ◌⊎◌, inl, inr, ℕ, zero, suc, ◌+◌, ◌-◌, ◌/◌, ◌%◌, ◌<◌, ◌≤◌, List, [], ◌∷◌, ◌++◌, refl, sym, ap, subst, ◌∙◌, append_assoc, arith}
use Rattle.std.specs.declared.cmp.Ordering.{Ordering}
use Rattle.std.specs.declared.cmp.Ordering.TheVariants.{Less, Equal, Greater}
use Rattle.std.specs.Ordering.{nat_cmp, ordering_then}
use Rattle.std.specs.Cmp.{nat_cmp_is}
use Rattle.std.specs.Cmp.Lexicographic.{slice_cmp}
use Rattle.std.proofs.lemmas.Bool.{cases_order}
use Rattle.std.proofs.lemmas.List.{append-nil}
use Rattle.flu_calendar.specs.declared.unit.Unit.{Unit}
use Rattle.flu_calendar.specs.declared.unit.Unit.TheVariants.{Seconds, Milliseconds, Microseconds}
use Rattle.flu_calendar.specs.Calendar.{IsDate, day_of, days_of_years, days_of_months, days_in_month, year_of, month_of, day_in_month}
use Rattle.flu_calendar.specs.Units.{units_in_second, times_end}
use Rattle.flu_calendar.specs.Texts.{last_digits, date_text, clock_text, second_text, printed_fraction, time_text}
use Rattle.flu_calendar.specs.Agreement.{PrintedTextsAreInOrder}
use Rattle.flu_calendar.proofs.Days.{day_before_year, day_before_month}
use Rattle.flu_calendar.proofs.DateOf.{date_of_day, day_of_date}
use Rattle.flu_calendar.proofs.Printed.{second_below}

-- ---- comparisons of numbers
cmp_less : (a b : ℕ) → a < b → nat_cmp a b ≡ Less
cmp_less a b h = sym (nat_cmp_is a b Less h)

cmp_same : (a b : ℕ) → a ≡ b → nat_cmp a b ≡ Equal
cmp_same a b h = sym (nat_cmp_is a b Equal h)

cmp_more : (a b : ℕ) → b < a → nat_cmp a b ≡ Greater
cmp_more a b h = sym (nat_cmp_is a b Greater h)

-- numbers that are in the order of others
pub record Follows (x y p q : ℕ) : Type 0 where
  pub less : x < y → p < q
  pub same : x ≡ y → p ≡ q
  pub more : y < x → q < p

one_by : (x y p q : ℕ) → Follows x y p q → (x ≡ y) ⊎ ((x < y) ⊎ (y < x)) → nat_cmp x y ≡ nat_cmp p q
one_by x y p q h (inl e) = cmp_same x y e ∙ sym (cmp_same p q (h.same e))
one_by x y p q h (inr (inl l)) = cmp_less x y l ∙ sym (cmp_less p q (h.less l))
one_by x y p q h (inr (inr g)) = cmp_more x y g ∙ sym (cmp_more p q (h.more g))

one : (x y p q : ℕ) → Follows x y p q → nat_cmp x y ≡ nat_cmp p q
one x y p q h = one_by x y p q h (cases_order x y)

-- numbers that are in the order of pairs of others
then_by : (a b p q : ℕ) (o : Ordering) → (a < b → p < q) → (b < a → q < p) → (a ≡ b → o ≡ nat_cmp p q) → (a ≡ b) ⊎ ((a < b) ⊎ (b < a))
    → ordering_then (nat_cmp a b) o ≡ nat_cmp p q
then_by a b p q o lt gt same (inl e) = ap (λ r. ordering_then r o) (cmp_same a b e) ∙ same e
then_by a b p q o lt gt same (inr (inl l)) = ap (λ r. ordering_then r o) (cmp_less a b l) ∙ sym (cmp_less p q (lt l))
then_by a b p q o lt gt same (inr (inr g)) = ap (λ r. ordering_then r o) (cmp_more a b g) ∙ sym (cmp_more p q (gt g))

two : (a b p q : ℕ) (o : Ordering) → (a < b → p < q) → (b < a → q < p) → (a ≡ b → o ≡ nat_cmp p q) → ordering_then (nat_cmp a b) o ≡ nat_cmp p q
two a b p q o lt gt same = then_by a b p q o lt gt same (cases_order a b)

then_equal : (o : Ordering) → ordering_then o Equal ≡ o
then_equal Less = refl
then_equal Equal = refl
then_equal Greater = refl

then_assoc : (o p r : Ordering) → ordering_then o (ordering_then p r) ≡ ordering_then (ordering_then o p) r
then_assoc Less p r = refl
then_assoc Equal p r = refl
then_assoc Greater p r = refl

-- ---- comparisons of pieces
-- two pieces decide the order of texts that begin with them, unless it is Equal
pub record Compares (xs ys : List ℕ) (o : Ordering) : Type 0 where
  pub decides : (us vs : List ℕ) → slice_cmp nat_cmp (xs ++ us) (ys ++ vs) ≡ ordering_then o (slice_cmp nat_cmp us vs)

joined : (xs ys us vs : List ℕ) (o p : Ordering) → Compares xs ys o → Compares us vs p → Compares (xs ++ us) (ys ++ vs) (ordering_then o p)
joined xs ys us vs o p h k = record {
  decides = λ a b. ap (λ zs. slice_cmp nat_cmp zs ((ys ++ vs) ++ b)) (append_assoc xs us a) ∙ ap (slice_cmp nat_cmp (xs ++ (us ++ a))) (append_assoc ys vs b)
      ∙ h.decides (us ++ a) (vs ++ b) ∙ ap (ordering_then o) (k.decides a b) ∙ then_assoc o p (slice_cmp nat_cmp a b);
}

-- a byte that both have decides nothing
marked : (xs ys : List ℕ) (c : ℕ) (o : Ordering) → Compares xs ys o → Compares (xs ++ c ∷ []) (ys ++ c ∷ []) o
marked xs ys c o h =
    subst (Compares (xs ++ c ∷ []) (ys ++ c ∷ [])) (ap (ordering_then o) (cmp_same c c refl) ∙ then_equal o)
    (joined xs ys (c ∷ []) (c ∷ []) o (nat_cmp c c) h (record { decides = λ us vs. refl }))

-- a number has at most so many digits
abbrev IsShort : ℕ → ℕ → Type 0
IsShort zero n = n ≡ 0
IsShort (suc count) n = IsShort count (n / 10)

digit_step : (a b : ℕ) → ordering_then (nat_cmp (a / 10) (b / 10)) (nat_cmp (48 + a % 10) (48 + b % 10)) ≡ nat_cmp a b
digit_step a b =
    two (a / 10) (b / 10) a b (nat_cmp (48 + a % 10) (48 + b % 10)) (λ l. omega arith) (λ g. omega arith)
    (λ e. one (48 + a % 10) (48 + b % 10) a b (record { less = λ l. omega arith; same = λ s. omega arith; more = λ g. omega arith }))

digits_compare : (count a b : ℕ) → IsShort count a → IsShort count b → Compares (last_digits count a) (last_digits count b) (nat_cmp a b)
digits_compare zero a b h k = rw (h, k) (record { decides = λ us vs. refl })
digits_compare (suc count) a b h k =
    subst (Compares (last_digits (suc count) a) (last_digits (suc count) b)) (digit_step a b)
    (joined (last_digits count (a / 10)) (last_digits count (b / 10)) ((48 + a % 10) ∷ []) ((48 + b % 10) ∷ [])
    (nat_cmp (a / 10) (b / 10)) (nat_cmp (48 + a % 10) (48 + b % 10)) (digits_compare count (a / 10) (b / 10) h k) (record { decides = λ us vs. refl }))

-- three numbers with a byte between them
three_compare : (first : ℕ) (c a b x y m n : ℕ) → IsShort first a → IsShort first b → IsShort 2 x → IsShort 2 y → IsShort 2 m → IsShort 2 n
    → Compares (last_digits first a ++ c ∷ [] ++ last_digits 2 x ++ c ∷ [] ++ last_digits 2 m) (last_digits first b ++ c ∷ [] ++ last_digits 2 y ++ c ∷ [] ++ last_digits 2 n)
    (ordering_then (ordering_then (nat_cmp a b) (nat_cmp x y)) (nat_cmp m n))
three_compare first c a b x y m n ha hb hx hy hm hn =
    let begun = marked (last_digits first a) (last_digits first b) c (nat_cmp a b) (digits_compare first a b ha hb) in
    let middle = joined _ _ _ _ _ _ begun (digits_compare 2 x y hx hy) in
    let marked_again = marked _ _ c _ middle in
    joined _ _ _ _ _ _ marked_again (digits_compare 2 m n hm hn)

-- ---- dates and times of day
short_month : (year month : ℕ) → days_in_month year month ≤ 31
short_month year month = grind arith

date_order : (year month day year₂ month₂ day₂ : ℕ) → IsDate year month day → IsDate year₂ month₂ day₂
    → ordering_then (ordering_then (nat_cmp year year₂) (nat_cmp month month₂)) (nat_cmp day day₂) ≡ nat_cmp (day_of year month day) (day_of year₂ month₂ day₂)
date_order year month day year₂ month₂ day₂ h k =
    let low = h.a_day.0 in
    let low₂ = k.a_day.0 in
    let m = h.a_month.0 in
    let m₂ = k.a_month.0 in
    sym (then_assoc (nat_cmp year year₂) (nat_cmp month month₂) (nat_cmp day day₂))
    ∙ two year year₂ (day_of year month day) (day_of year₂ month₂ day₂) (ordering_then (nat_cmp month month₂) (nat_cmp day day₂))
    (λ l. omega (arith, day_before_year year month day year₂ h l))
    (λ g. omega (arith, day_before_year year₂ month₂ day₂ year k g))
    (λ e. two month month₂ (day_of year month day) (day_of year₂ month₂ day₂) (nat_cmp day day₂)
    (λ l. let before = rw e at (day_before_month year month day (month₂ - 1) h (omega arith)) in let years = ap (λ y. days_of_years (y - 1970)) e in
    let months = ap (λ y. days_of_months y (month - 1)) e in omega arith)
    (λ g. let before = rw (← e) at (day_before_month year₂ month₂ day₂ (month - 1) k (omega arith)) in let years = ap (λ y. days_of_years (y - 1970)) e in
    let months = ap (λ y. days_of_months y (month₂ - 1)) e in omega arith)
    (λ f. let years = ap (λ y. days_of_years (y - 1970)) e in
    let months = ap (λ y. days_of_months y (month - 1)) e ∙ ap (λ j. days_of_months year₂ (j - 1)) f in
    one day day₂ (day_of year month day) (day_of year₂ month₂ day₂)
    (record { less = λ l. omega arith; same = λ s. omega arith; more = λ g. omega arith })))

clock_order : (n k : ℕ) → ordering_then (ordering_then (nat_cmp (n / 3600 % 24) (k / 3600 % 24)) (nat_cmp (n / 60 % 60) (k / 60 % 60))) (nat_cmp (n % 60) (k % 60))
    ≡ nat_cmp (n % 86400) (k % 86400)
clock_order n k =
    sym (then_assoc (nat_cmp (n / 3600 % 24) (k / 3600 % 24)) (nat_cmp (n / 60 % 60) (k / 60 % 60)) (nat_cmp (n % 60) (k % 60)))
    ∙ two (n / 3600 % 24) (k / 3600 % 24) (n % 86400) (k % 86400) _ (λ l. omega arith) (λ g. omega arith)
    (λ e. two (n / 60 % 60) (k / 60 % 60) (n % 86400) (k % 86400) _ (λ l. omega arith) (λ g. omega arith)
    (λ f. one (n % 60) (k % 60) (n % 86400) (k % 86400) (record { less = λ l. omega arith; same = λ s. omega arith; more = λ g. omega arith })))

second_order : (n k : ℕ) → ordering_then (nat_cmp (n / 86400) (k / 86400)) (nat_cmp (n % 86400) (k % 86400)) ≡ nat_cmp n k
second_order n k =
    two (n / 86400) (k / 86400) n k (nat_cmp (n % 86400) (k % 86400)) (λ l. omega arith) (λ g. omega arith)
    (λ e. one (n % 86400) (k % 86400) n k (record { less = λ l. omega arith; same = λ s. omega arith; more = λ g. omega arith }))

dates_compare : (d e : ℕ) → d < 2932897 → e < 2932897
    → Compares (date_text (year_of d) (month_of d) (day_in_month d)) (date_text (year_of e) (month_of e) (day_in_month e)) (nat_cmp d e)
dates_compare d e h k =
    let a = date_of_day d h in
    let b = date_of_day e k in
    let ay = a.a_year.1 in
    let am = a.a_month.1 in
    let ad = a.a_day.1 in
    let short = short_month (year_of d) (month_of d) in
    let by = b.a_year.1 in
    let bm = b.a_month.1 in
    let bd = b.a_day.1 in
    let short_too = short_month (year_of e) (month_of e) in
    let same = date_order (year_of d) (month_of d) (day_in_month d) (year_of e) (month_of e) (day_in_month e) a b
    ∙ ap (λ n. nat_cmp n (day_of (year_of e) (month_of e) (day_in_month e))) (day_of_date d h) ∙ ap (nat_cmp d) (day_of_date e k) in
    subst (Compares (date_text (year_of d) (month_of d) (day_in_month d)) (date_text (year_of e) (month_of e) (day_in_month e))) same
    (three_compare 4 45 (year_of d) (year_of e) (month_of d) (month_of e) (day_in_month d) (day_in_month e)
    (omega arith) (omega arith) (omega arith) (omega arith) (omega arith) (omega arith))

clocks_compare : (n k : ℕ) → Compares (clock_text (n / 3600 % 24) (n / 60 % 60) (n % 60)) (clock_text (k / 3600 % 24) (k / 60 % 60) (k % 60)) (nat_cmp (n % 86400) (k % 86400))
clocks_compare n k =
    subst (Compares (clock_text (n / 3600 % 24) (n / 60 % 60) (n % 60)) (clock_text (k / 3600 % 24) (k / 60 % 60) (k % 60))) (clock_order n k)
    (three_compare 2 58 (n / 3600 % 24) (k / 3600 % 24) (n / 60 % 60) (k / 60 % 60) (n % 60) (k % 60)
    (omega arith) (omega arith) (omega arith) (omega arith) (omega arith) (omega arith))

seconds_compare : (n k : ℕ) → n < 253402300800 → k < 253402300800 → Compares (second_text n) (second_text k) (nat_cmp n k)
seconds_compare n k h l =
    subst (Compares (second_text n) (second_text k)) (second_order n k)
    (joined _ _ _ _ _ _ (marked _ _ 84 _ (dates_compare (n / 86400) (k / 86400) (omega arith) (omega arith))) (clocks_compare n k))

fractions_compare : (unit : Unit) (n k : ℕ) → n < units_in_second unit → k < units_in_second unit
    → Compares (printed_fraction unit n) (printed_fraction unit k) (nat_cmp n k)
fractions_compare Seconds n k h l = digits_compare 0 n k (omega arith) (omega arith)
fractions_compare Milliseconds n k h l =
    joined (46 ∷ []) (46 ∷ []) (last_digits 3 n) (last_digits 3 k) Equal (nat_cmp n k) (record { decides = λ us vs. refl })
    (digits_compare 3 n k (omega arith) (omega arith))
fractions_compare Microseconds n k h l =
    joined (46 ∷ []) (46 ∷ []) (last_digits 6 n) (last_digits 6 k) Equal (nat_cmp n k) (record { decides = λ us vs. refl })
    (digits_compare 6 n k (omega arith) (omega arith))

unit_order : (unit : Unit) (t s : ℕ)
    → ordering_then (nat_cmp (t / units_in_second unit) (s / units_in_second unit)) (nat_cmp (t % units_in_second unit) (s % units_in_second unit)) ≡ nat_cmp t s
unit_order Seconds t s =
    two (t / 1) (s / 1) t s (nat_cmp (t % 1) (s % 1)) (λ l. omega arith) (λ g. omega arith)
    (λ e. one (t % 1) (s % 1) t s (record { less = λ l. omega arith; same = λ k. omega arith; more = λ g. omega arith }))
unit_order Milliseconds t s =
    two (t / 1000) (s / 1000) t s (nat_cmp (t % 1000) (s % 1000)) (λ l. omega arith) (λ g. omega arith)
    (λ e. one (t % 1000) (s % 1000) t s (record { less = λ l. omega arith; same = λ k. omega arith; more = λ g. omega arith }))
unit_order Microseconds t s =
    two (t / 1000000) (s / 1000000) t s (nat_cmp (t % 1000000) (s % 1000000)) (λ l. omega arith) (λ g. omega arith)
    (λ e. one (t % 1000000) (s % 1000000) t s (record { less = λ l. omega arith; same = λ k. omega arith; more = λ g. omega arith }))

part_below : (unit : Unit) (t : ℕ) → t % units_in_second unit < units_in_second unit
part_below Seconds t = omega arith
part_below Milliseconds t = omega arith
part_below Microseconds t = omega arith

times_compare : (unit : Unit) (t s : ℕ) → t < times_end unit → s < times_end unit → Compares (time_text unit t) (time_text unit s) (nat_cmp t s)
times_compare unit t s h k =
    marked _ _ 90 (nat_cmp t s)
    (subst (Compares (second_text (t / units_in_second unit) ++ printed_fraction unit (t % units_in_second unit))
    (second_text (s / units_in_second unit) ++ printed_fraction unit (s % units_in_second unit))) (unit_order unit t s)
    (joined _ _ _ _ _ _ (seconds_compare (t / units_in_second unit) (s / units_in_second unit) (second_below unit t h) (second_below unit s k))
    (fractions_compare unit (t % units_in_second unit) (s % units_in_second unit) (part_below unit t) (part_below unit s))))

pub printed_texts_are_in_order : PrintedTextsAreInOrder
printed_texts_are_in_order unit t s h k =
    ap (λ xs. slice_cmp nat_cmp xs (time_text unit s)) (sym (append-nil (time_text unit t)))
    ∙ ap (slice_cmp nat_cmp (time_text unit t ++ [])) (sym (append-nil (time_text unit s)))
    ∙ (times_compare unit t s h k).decides [] [] ∙ then_equal (nat_cmp t s)
