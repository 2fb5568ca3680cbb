-- The earliest of some events.
use Rattle.std.proofs.Common.{◌≡◌, ◌<◌, ◌≤◌, ℕ, zero, suc, Bool, true, false, cond, Option, Some, None}
use Rattle.std.proofs.Common.{List, [], ◌∷◌, length, ◌+◌, inl, inr, refl, sym, ap, subst, ◌∙◌, arith}
use Rattle.std.specs.Prelude.{⊤, map, slice_index_or}
use Rattle.std.specs.List.{fold, filter, range_with_len, AllByRecursion}
use Rattle.flu_lemmas.proofs.Elements.{all_filter}
use Rattle.std.proofs.lemmas.List.Folds.{fold_along}
use Rattle.std.proofs.lemmas.Bool.{cases_eq}
use Rattle.std.proofs.lemmas.Grind.{common_steps}
use Rattle.flu_lemmas.proofs.Tests.{not_both}
use Rattle.flu_model.specs.declared.events.Event.{Event}
use Rattle.flu_model.specs.declared.events.Itag.{Itag}
use Rattle.flu_model.specs.Itags.{count_of_itags}
use Rattle.flu_model.specs.Merging.{is_before}
use Rattle.flu_model.specs.declared.jobs.Program.{Program}
use Rattle.flu_model.specs.Owners.{owns}
use Rattle.flu_fork.specs.declared.content.Content.{Content}
use Rattle.flu_fork.specs.Lots.{job, nodes}
use Rattle.flu_tables.specs.Lists.{itag, itags_where}
use Rattle.flu_worker.specs.Choosing.{Sight, own_itags, takes, if_ready, earlier, earliest}

-- ---- the order of events
pub not_itself : (x : Event) → is_before x x ≡ false
not_itself x = grind (arith, common_steps)

-- what is before x is before all that is not before x
before_later : (v u w : Event) → is_before v u ≡ true → is_before w u ≡ false → is_before v w ≡ true
before_later v u w a b = grind (arith, common_steps)

-- and so what is not before x is not before what is before x
pub later_not_before : (v u w : Event) → is_before v u ≡ true → is_before w u ≡ false → is_before w v ≡ false
later_not_before v u w a b = grind (arith, common_steps)

-- ---- where the earliest event passes a test, it is the earliest of those that pass it
abbrev pass : (Event → Bool) → Option Event → Option Event
pass t None = None
pass t (Some x) = cond (t x) (Some x) None

-- what is found without the test and with it
abbrev Together : (Event → Bool) → Option Event → Option Event → Type 0
Together t None None = ⊤
Together t None (Some v) = ⊥
Together t (Some u) None = t u ≡ false
Together t (Some u) (Some v) = (is_before v u ≡ false) × (t u ≡ true → u ≡ v)

-- neither is there, or the first one, which does not pass, or both: the second one is not before the first, and is the first one if that passes
together_step : (t : Event → Bool) (a b : Option Event) (o : Option Event) → Together t a b → Together t (earlier a o) (earlier b (pass t o))
together_step t None None None h = tt
together_step t None None (Some v) h =
    elim (t v) as (λ q. t v ≡ q → Together t (Some v) (cond q (Some v) None)) [ true ↦ λ e. (not_itself v, λ _. refl) | false ↦ λ e. e ] refl
together_step t None (Some w) o h = absurd h
together_step t (Some u) None None h = h
together_step t (Some u) (Some w) None h = h
together_step t (Some u) None (Some v) h =
    elim (is_before v u) as (λ q. is_before v u ≡ q → Together t (cond q (Some v) (Some u)) (cond (t v) (Some v) None)) [
      | true ↦ λ e. (elim (t v) as (λ q. t v ≡ q → Together t (Some v) (cond q (Some v) None)) [ true ↦ λ f. (not_itself v, λ _. refl) | false ↦ λ f. f ] refl)
      | false ↦ λ e. (elim (t v) as (λ q. t v ≡ q → Together t (Some u) (cond q (Some v) None)) [
        | true ↦ λ f. (e, λ g. absurd (not_both _ g h))
        | false ↦ λ f. h
      ] refl)
    ] refl
together_step t (Some u) (Some w) (Some v) h =
    elim (is_before v u) as (λ q. is_before v u ≡ q → Together t (cond q (Some v) (Some u)) (earlier (Some w) (cond (t v) (Some v) None))) [
      | true ↦ λ e. (elim (t v) as (λ q. t v ≡ q → Together t (Some v) (earlier (Some w) (cond q (Some v) None))) [
        | true ↦ λ f. subst (λ (q : Bool). Together t (Some v) (cond q (Some v) (Some w))) (sym (before_later v u w e h.0)) (not_itself v, λ _. refl)
        | false ↦ λ f. (later_not_before v u w e h.0, λ g. absurd (not_both _ g f))
      ] refl)
      | false ↦ λ e. (elim (t v) as (λ q. t v ≡ q → Together t (Some u) (earlier (Some w) (cond q (Some v) None))) [
        | true ↦ λ f. (elim (is_before v w) as (λ q. is_before v w ≡ q → Together t (Some u) (cond q (Some v) (Some w))) [
          | true ↦ λ d. (e, λ g. absurd (not_both _ (ap (is_before v) (h.1 g) ∙ d) e))
          | false ↦ λ d. h
        ] refl)
        | false ↦ λ f. h
      ] refl)
    ] refl

together : (t : Event → Bool) (f : Itag → Option Event) (itags : List Itag) → Together t (earliest f itags) (earliest (λ i. pass t (f i)) itags)
together t f itags =
    fold_along (λ found i. earlier found (f i)) (λ found i. earlier found (pass t (f i))) (Together t)
    (λ b c i h. together_step t b c (f i) h) None None itags tt

none_with : (t : Event → Bool) (a b : Option Event) → Together t a b → a ≡ None → None ≡ b
none_with t None None h e = refl
none_with t None (Some v) h e = absurd h
none_with t (Some u) b h e = cc

some_with : (t : Event → Bool) (a b : Option Event) (x : Event) → Together t a b → a ≡ Some x → t x ≡ true → Some x ≡ b
some_with t None b x h e p = cc
some_with t (Some u) None x h e p = absurd (not_both _ (ap t (inside e) ∙ p) h)
  where
    inside : {a b : Event} → Some a ≡ Some b → a ≡ b
    inside e = cc
some_with t (Some u) (Some v) x h e p = sym e ∙ ap (λ (z : Event). Some z) (h.1 (ap t (inside e) ∙ p))
  where
    inside : {a b : Event} → Some a ≡ Some b → a ≡ b
    inside e = cc

ready_is : (s : Sight) (o : Option Event) → pass (takes s) o ≡ if_ready s o
ready_is s None = refl
ready_is s (Some x) = refl

same_earliest : (f g : Itag → Option Event) → ((i : Itag) → f i ≡ g i) → (itags : List Itag) → earliest f itags ≡ earliest g itags
same_earliest f g same itags = λ j. earliest (λ i. same i j) itags

pub none_is_ready : (s : Sight) (f : Itag → Option Event) (itags : List Itag) → earliest f itags ≡ None → None ≡ earliest (λ i. if_ready s (f i)) itags
none_is_ready s f itags e =
    none_with (takes s) _ _ (together (takes s) f itags) e ∙ same_earliest (λ i. pass (takes s) (f i)) (λ i. if_ready s (f i)) (λ i. ready_is s (f i)) itags

pub first_is_ready : (s : Sight) (f : Itag → Option Event) (itags : List Itag) (x : Event) → earliest f itags ≡ Some x → takes s x ≡ true
    → Some x ≡ earliest (λ i. if_ready s (f i)) itags
first_is_ready s f itags x e p =
    some_with (takes s) _ _ x (together (takes s) f itags) e p ∙ same_earliest (λ i. pass (takes s) (f i)) (λ i. if_ready s (f i)) (λ i. ready_is s (f i)) itags

-- ---- and none of the events is before it

-- what is not before an event is not before those that this one is not before
pub not_before : (u v w : Event) → is_before u v ≡ false → is_before v w ≡ false → is_before u w ≡ false
not_before u v w a b = grind (arith, common_steps)

-- an event is found, and x is not before it
abbrev pub NotBefore : Event → Option Event → Type 0
NotBefore x None = ⊥
NotBefore x (Some m) = is_before x m ≡ false

still_not : (x : Event) (a b : Option Event) → NotBefore x a → NotBefore x (earlier a b)
still_not x None b h = absurd h
still_not x (Some u) None h = h
still_not x (Some u) (Some v) h =
    elim (is_before v u) as (λ q. is_before v u ≡ q → NotBefore x (cond q (Some v) (Some u))) [ true ↦ λ e. later_not_before v u x e h | false ↦ λ e. h ] refl

not_now : (x : Event) (a : Option Event) → NotBefore x (earlier a (Some x))
not_now x None = not_itself x
not_now x (Some u) = elim (is_before x u) as (λ q. is_before x u ≡ q → NotBefore x (cond q (Some x) (Some u))) [
  | true ↦ λ e. not_itself x
  | false ↦ λ e. e
] refl

not_from : (x : Event) (f : Itag → Option Event) (itags : List Itag) (found : Option Event) → NotBefore x found
    → NotBefore x (fold (λ o i. earlier o (f i)) found itags)
not_from x f [] found h = h
not_from x f (i ∷ rest) found h = not_from x f rest (earlier found (f i)) (still_not x found (f i) h)

none_from : (f : Itag → Option Event) (itags : List Itag) (found : Option Event)
    → AllByRecursion (λ i. (x : Event) → f i ≡ Some x → NotBefore x (fold (λ o i. earlier o (f i)) found itags)) itags
none_from f [] found = tt
none_from f (i ∷ rest) found = (
  (λ x e. not_from x f rest (earlier found (f i)) (subst (λ (o : Option Event). NotBefore x (earlier found o)) (sym e) (not_now x found))),
  none_from f rest (earlier found (f i)),
)

pub none_before : (f : Itag → Option Event) (itags : List Itag) → AllByRecursion (λ i. (x : Event) → f i ≡ Some x → NotBefore x (earliest f itags)) itags
none_before f itags = none_from f itags None

-- ---- listed itags
pub all_where : (p : Program) (test : Itag → Bool) (Q : Itag → Type 0) → ((i : Itag) → i.0 < count_of_itags p → test i ≡ true → Q i)
    → AllByRecursion Q (itags_where p test)
all_where p test Q each = all_filter Q test (map itag (range_with_len 0 (count_of_itags p))) (in_range 0 (count_of_itags p) (omega arith))
  where
    in_range : (lo n : ℕ) → lo + n ≤ count_of_itags p → AllByRecursion (λ (i : Itag). test i ≡ true → Q i) (map itag (range_with_len lo n))
    in_range lo zero le = tt
    in_range lo (suc n) le = (each (itag lo) (omega arith), in_range (lo + 1) n (omega arith))

pub all_known : (p : Program) (test : Itag → Bool) → AllByRecursion (λ (i : Itag). i.0 < count_of_itags p) (itags_where p test)
all_known p test = all_where p test (λ i. i.0 < count_of_itags p) (λ i lt is. lt)

all_indexed : (P : Itag → Type 0) (xs : List Itag) (i : ℕ) (d : Itag) → AllByRecursion P xs → i < length xs → P (slice_index_or xs i d)
all_indexed P [] i d all lt = absurd (omega arith)
all_indexed P (x ∷ xs) zero d all lt = all.0
all_indexed P (x ∷ xs) (suc i) d all lt = all_indexed P xs i d all.1 (omega arith)

own_known : (k : Content) (w i : ℕ) (d : Itag) → i < length (own_itags k w) → (slice_index_or (own_itags k w) i d).0 < count_of_itags (job k)
own_known k w i d lt = all_indexed (λ (x : Itag). x.0 < count_of_itags (job k)) (own_itags k w) i d (all_known (job k) (owns (job k) (nodes k) w)) lt

pub known_in : (k : Content) (w : ℕ) (xs : List Itag) (i : ℕ) (d : Itag) → xs ≡ own_itags k w → i < length xs
    → (slice_index_or xs i d).0 < count_of_itags (job k)
known_in k w xs i d is lt =
    subst (λ (ys : List Itag). (slice_index_or ys i d).0 < count_of_itags (job k)) (sym is)
    (own_known k w i d (subst (λ (ys : List Itag). i < length ys) is lt))

-- ---- what is found is one of the events
earlier_one : (P : Event → Type 0) (a b : Option Event) → ((x : Event) → a ≡ Some x → P x) → ((x : Event) → b ≡ Some x → P x) → (x : Event)
    → earlier a b ≡ Some x → P x
earlier_one P None b pa pb x e = pb x e
earlier_one P (Some u) None pa pb x e = pa x e
earlier_one P (Some u) (Some v) pa pb x e =
    elim (is_before v u) as (λ q. cond q (Some v) (Some u) ≡ Some x → P x) [ true ↦ λ h. pb x h | false ↦ λ h. pa x h ] e

found_from : (P : Event → Type 0) (f : Itag → Option Event) (itags : List Itag) (found : Option Event) → ((x : Event) → found ≡ Some x → P x)
    → AllByRecursion (λ i. (x : Event) → f i ≡ Some x → P x) itags → (x : Event) → fold (λ o i. earlier o (f i)) found itags ≡ Some x → P x
found_from P f [] found pf all x e = pf x e
found_from P f (i ∷ rest) found pf all x e = found_from P f rest (earlier found (f i)) (earlier_one P found (f i) pf all.0) all.1 x e

pub found_is : (P : Event → Type 0) (f : Itag → Option Event) (itags : List Itag) → AllByRecursion (λ i. (x : Event) → f i ≡ Some x → P x) itags
    → (x : Event) → earliest f itags ≡ Some x → P x
found_is P f itags all x e = found_from P f itags None (λ y never. cc) all x e

-- what holds of all listed itags holds of each that passes the test
all_filtered : (test : Itag → Bool) (Q : Itag → Type 0) (xs : List Itag) → AllByRecursion Q (filter test xs) → AllByRecursion (λ i. test i ≡ true → Q i) xs
all_filtered test Q [] all = tt
all_filtered test Q (x ∷ xs) all =
    elim (test x) as (λ t. test x ≡ t → AllByRecursion Q (cond t (x ∷ filter test xs) (filter test xs))
    → (test x ≡ true → Q x) × AllByRecursion (λ i. test i ≡ true → Q i) xs) [
      | true ↦ λ e h. (λ _. h.0, all_filtered test Q xs h.1)
      | false ↦ λ e h. (λ f. absurd (not_both _ f e), all_filtered test Q xs h)
    ] refl all

pub where_all : (p : Program) (test : Itag → Bool) (Q : Itag → Type 0) → AllByRecursion Q (itags_where p test) → (i : Itag) → i.0 < count_of_itags p
    → test i ≡ true → Q i
where_all p test Q all i lt is =
    in_range 0 (count_of_itags p) i.0 (all_filtered test Q (map itag (range_with_len 0 (count_of_itags p))) all) (omega arith) (omega arith) is
  where
    in_range : (lo n j : ℕ) → AllByRecursion (λ (i : Itag). test i ≡ true → Q i) (map itag (range_with_len lo n)) → lo ≤ j → j < lo + n
        → test (itag j) ≡ true → Q (itag j)
    in_range lo zero j all le less is = absurd (omega arith)
    in_range lo (suc n) j all le less is =
        elim (cases_eq j lo) [
          | inl same ↦ subst (λ (u : ℕ). test (itag u) ≡ true → Q (itag u)) (sym same) all.0 is
          | inr other ↦ in_range (lo + 1) n j all.1 (omega arith) (omega arith) is
        ]
