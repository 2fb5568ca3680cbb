-- Lists of itags, and waiting as they tell it.
use Rattle.std.proofs.Common.{◌≡◌, ◌<◌, ◌≤◌, ◌+◌, ℕ, zero, suc, Bool, true, false, cond, List, [], ◌∷◌, length, map, get_or, refl, sym, ap, subst, ◌∙◌, arith}
use Rattle.std.specs.Prelude.{◌&&◌, ◌||◌, ◌==◌, not, slice_index}
use Rattle.std.specs.List.{filter, list_any, range_with_len, AllByRecursion}
use Rattle.flu_lemmas.proofs.Booleans.{not_or, not_and_not}
use Rattle.flu_lemmas.proofs.Elements.{all_filter}
use Rattle.flu_lemmas.proofs.Ranges.{not_any_in_range}
use Rattle.flu_lemmas.proofs.Searches.{list_any-map, list_any_or}
use Rattle.flu_model.specs.declared.events.Event.{Event}
use Rattle.flu_model.specs.declared.events.Item.{Item}
use Rattle.flu_model.specs.declared.events.Itag.{Itag}
use Rattle.flu_model.specs.declared.jobs.Program.{Program}
use Rattle.flu_model.specs.declared.plans.Node.{Node}
use Rattle.flu_model.specs.Itags.{count_of_itags}
use Rattle.flu_model.specs.Owners.{owns, ancestors_own}
use Rattle.flu_deps.specs.Dependencies.{itags_depend}
use Rattle.flu_tables.specs.Lists.{itags_where}
use Rattle.flu_mail.specs.declared.mailbox.Mailbox.{Mailbox}
use Rattle.flu_mail.specs.declared.waiting.Purpose.TheVariants.{Take, Serve}
use Rattle.flu_mail.specs.Passing.{seen_items, passes}
use Rattle.flu_mail.specs.Waiting.{itag, waits_for, serving_waits_for, is_ready, is_ready_to_serve}
use Rattle.flu_mail.specs.Mailboxes.{seen_of, counts_of, IsAt}
use Rattle.flu_mail.specs.LoopParts.{holds_up}

-- ---- lists of itags

any_filter : {X : Type 0} (h test : X → Bool) (xs : List X) → list_any h (filter test xs) ≡ list_any (λ x. test x && h x) xs
any_filter h test [] = refl
any_filter h test (x ∷ xs) = by_test (test x) (any_filter h test xs)
  where
    by_test : (b : Bool) → list_any h (filter test xs) ≡ list_any (λ y. test y && h y) xs
        → list_any h (cond b (x ∷ filter test xs) (filter test xs)) ≡ ((b && h x) || list_any (λ y. test y && h y) xs)
    by_test true e = ap (λ r. h x || r) e
    by_test false e = e

pub any_listed : (p : Program) (h test : Itag → Bool)
    → list_any h (itags_where p test) ≡ list_any (λ j. test (itag j) && h (itag j)) (range_with_len 0 (count_of_itags p))
any_listed p h test =
    any_filter h test (map itag (range_with_len 0 (count_of_itags p))) ∙ list_any-map (λ x. test x && h x) itag (range_with_len 0 (count_of_itags p))

-- they are in range
numbers_below : (test : Itag → Bool) (n lo k : ℕ) → lo + k ≤ n → AllByRecursion (λ (i : Itag). test i ≡ true → i.0 < n) (map itag (range_with_len lo k))
numbers_below test n lo zero le = tt
numbers_below test n lo (suc k) le = (λ h. omega arith, numbers_below test n (lo + 1) k (omega arith))

numbers_pass : (test : Itag → Bool) (n lo k : ℕ) → lo + k ≤ n
    → AllByRecursion (λ (i : Itag). test i ≡ true → (test i ≡ true) × (i.0 < n)) (map itag (range_with_len lo k))
numbers_pass test n lo zero le = tt
numbers_pass test n lo (suc k) le = (λ h. (h, omega arith), numbers_pass test n (lo + 1) k (omega arith))

pub listed_in_range : (p : Program) (test : Itag → Bool) (n : ℕ) → count_of_itags p ≤ n → AllByRecursion (λ (i : Itag). i.0 < n) (itags_where p test)
listed_in_range p test n le =
    all_filter (λ (i : Itag). i.0 < n) test (map itag (range_with_len 0 (count_of_itags p))) (numbers_below test n 0 (count_of_itags p) (omega arith))

-- what holds of all holds of the one that was read
all_read : {X : Type 0} (P : X → Type 0) (xs : List X) (i : ℕ) (d : X) → AllByRecursion P xs → i < length xs → P (get_or xs i d)
all_read P [] i d all lt = absurd (omega arith)
all_read P (x ∷ xs) zero d all lt = all.0
all_read P (x ∷ xs) (suc i) d all lt = all_read P xs i d all.1 (omega arith)

-- the one that was read passes the test, and is in range
pub listed_at : (p : Program) (test : Itag → Bool) (xs : List Itag) (k : ℕ) (d : Itag) → xs ≡ itags_where p test → k < length xs
    → (test (get_or xs k d) ≡ true) × ((get_or xs k d).0 < count_of_itags p)
listed_at p test xs k d are lt =
    all_read (λ (i : Itag). (test i ≡ true) × (i.0 < count_of_itags p)) xs k d
    (subst (AllByRecursion (λ (i : Itag). (test i ≡ true) × (i.0 < count_of_itags p))) (sym are)
    (all_filter (λ (i : Itag). (test i ≡ true) × (i.0 < count_of_itags p)) test (map itag (range_with_len 0 (count_of_itags p)))
    (numbers_pass test (count_of_itags p) 0 (count_of_itags p) (omega arith))))
    lt

-- ---- waiting

both_and : (a b h : Bool) → ((a && h) || (b && h)) ≡ ((a || b) && h)
both_and true true true = refl
both_and true true false = refl
both_and true false true = refl
both_and true false false = refl
both_and false b h = refl

take_order : (own other near pass : Bool) → (own && ((other && near) && not pass)) ≡ (((other && own) && near) && not pass)
take_order true true near pass = refl
take_order true false near pass = refl
take_order false true near pass = refl
take_order false false near pass = refl

serve_order : (own near pass : Bool) → (own && (near && not pass)) ≡ ((own && near) && not pass)
serve_order true near pass = refl
serve_order false near pass = refl

and_turns : (a b : Bool) → (a && b) ≡ (b && a)
and_turns true true = refl
and_turns true false = refl
and_turns false true = refl
and_turns false false = refl

-- what neither an itag above the node nor one of its own holds up is ready
pub ready_told : (p : Program) (nodes : List Node) (lists : List (List Item)) (m : Mailbox) (x : Event) → IsAt p nodes m
    → (not (list_any (holds_up p m lists Take x) (itags_where p (ancestors_own p nodes m.node)))
    && not (list_any (holds_up p m lists Take x) (itags_where p (owns p nodes m.node)))) ≡ is_ready p nodes lists m.node (seen_of m) (counts_of m) x
ready_told p nodes lists m x at =
    let h : Itag → Bool = holds_up p m lists Take x in
    let numbers = range_with_len 0 (count_of_itags p) in
    let own : ℕ → Bool = λ j. owns p nodes m.node (itag j) in
    let above : ℕ → Bool = λ j. ancestors_own p nodes m.node (itag j) in
    let pass : ℕ → Bool = λ j. passes (seen_items lists (seen_of m) j) (slice_index (counts_of m) j) x in
    let other : ℕ → Bool = λ j. not (j == x.itag.0) in
    and_turns (not (list_any h (itags_where p (ancestors_own p nodes m.node)))) (not (list_any h (itags_where p (owns p nodes m.node))))
    ∙ sym (not_or (list_any h (itags_where p (owns p nodes m.node))) (list_any h (itags_where p (ancestors_own p nodes m.node))))
    ∙ (λ k. not (any_listed p h (owns p nodes m.node) k || any_listed p h (ancestors_own p nodes m.node) k))
    ∙ ap not (sym (list_any_or (λ j. own j && h (itag j)) (λ j. above j && h (itag j)) numbers))
    ∙ not_any_in_range (λ j. (own j && h (itag j)) || (above j && h (itag j))) (λ j. not (waits_for p nodes m.node x.itag j) || pass j) 0 (count_of_itags p)
    (λ j lt.
    ap not (both_and (own j) (above j) (h (itag j)) ∙ take_order (own j || above j) (other j) (not m.leaf || itags_depend p x.itag (itag j)) (pass j))
    ∙ ap (λ b. not (((other j && (own j || above j)) && (not b || itags_depend p x.itag (itag j))) && not (pass j))) at.leaf
    ∙ not_and_not (waits_for p nodes m.node x.itag j) (pass j))

pub serve_told : (p : Program) (nodes : List Node) (lists : List (List Item)) (m : Mailbox) (y : Event) → IsAt p nodes m
    → not (list_any (holds_up p m lists Serve y) (itags_where p (owns p nodes m.node))) ≡ is_ready_to_serve p nodes lists m.node (seen_of m) (counts_of m) y
serve_told p nodes lists m y at =
    let h : Itag → Bool = holds_up p m lists Serve y in
    let own : ℕ → Bool = λ j. owns p nodes m.node (itag j) in
    let pass : ℕ → Bool = λ j. passes (seen_items lists (seen_of m) j) (slice_index (counts_of m) j) y in
    ap not (any_listed p h (owns p nodes m.node))
    ∙ not_any_in_range (λ j. own j && h (itag j)) (λ j. not (serving_waits_for p nodes m.node y.itag j) || pass j) 0 (count_of_itags p)
    (λ j lt.
    ap not (serve_order (own j) (not m.leaf || itags_depend p y.itag (itag j)) (pass j))
    ∙ ap (λ b. not ((own j && (not b || itags_depend p y.itag (itag j))) && not (pass j))) at.leaf
    ∙ not_and_not (serving_waits_for p nodes m.node y.itag j) (pass j))
