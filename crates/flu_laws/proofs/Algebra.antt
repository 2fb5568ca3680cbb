-- How sums and maxima in one cell are added, raised and joined.
use Rattle.std.proofs.Common.{◌≡◌, ◌≢◌, ℤ, pos, ◌+ℤ◌, true, false, cond, Option, Some, None, List, refl, sym, ap, ◌∙◌, arith}
use Rattle.std.specs.Prelude.{FitsSigned, slice_get, ⊤}
use Rattle.std.specs.Int.{w128, int_wrap, int_max}
use Rattle.std.specs.Ordering.{int_eq}
use Rattle.std.proofs.lemmas.Int.{ints, clamps, SFits-int_wrap, int_wrap_fits, int_wrap-add_left}
use Rattle.flu_lemmas.proofs.Tests.{not_both}
use Rattle.flu_model.specs.declared.events.Cell.{Cell}
use Rattle.flu_model.specs.declared.events.Worth.{Worth}
use Rattle.flu_model.specs.declared.events.Worth.TheVariants.{Sum, Max, Last}
use Rattle.flu_model.specs.declared.jobs.Family.{Family}
use Rattle.flu_model.specs.declared.jobs.Sort.{Sort}
use Rattle.flu_model.specs.declared.jobs.Sort.TheVariants.{Sum as SumSort, Max as MaxSort, Last as LastSort}
use Rattle.flu_model.specs.Contents.{sum_in, held_sum, added, raised, joined_worth}
use Rattle.flu_model.specs.Sorts.{IsWorthIn, is_cell_of, MayHold}
use Rattle.flu_laws.specs.Changes.{higher}
use Rattle.flu_laws.proofs.Values.{HoldsSort}

abbrev wrap : ℤ → ℤ
wrap z = int_wrap w128 z

eq_from : (a b : ℤ) → int_eq a b ≡ true → a ≡ b
eq_from a b e = grind (arith, ints)

ne_from : (a b : ℤ) → a ≢ b → int_eq a b ≡ false
ne_from a b other =
    elim (int_eq a b) as (λ t. int_eq a b ≡ t → t ≡ false) [
      | true ↦ λ e. absurd (other (eq_from a b e))
      | false ↦ λ e. refl
    ] refl

pub sum_in-held : (z : ℤ) → sum_in (held_sum z) ≡ z
sum_in-held z =
    elim (int_eq z (pos 0)) as (λ b. int_eq z (pos 0) ≡ b → sum_in (cond b None (Some (Sum z))) ≡ z) [
      | true ↦ λ e. sym (eq_from z (pos 0) e)
      | false ↦ λ e. refl
    ] refl

pub joined-none : (w : Option Worth) → joined_worth w None ≡ w
joined-none None = refl
joined-none (Some (Sum n)) = refl
joined-none (Some (Max v)) = refl
joined-none (Some (Last v)) = refl

held-itself : (n : ℤ) → n ≢ pos 0 → FitsSigned w128 n → held_sum (wrap n) ≡ Some (Sum n)
held-itself n other fits = ap held_sum (int_wrap_fits w128 n fits) ∙ ap (λ b. cond b None (Some (Sum n))) (ne_from n (pos 0) other)

zero_plus : (m : ℤ) → pos 0 +ℤ m ≡ m
zero_plus m = omega (arith, ints)

held-joined : (z m : ℤ) → m ≢ pos 0 → FitsSigned w128 m → joined_worth (held_sum z) (Some (Sum m)) ≡ held_sum (wrap (z +ℤ m))
held-joined z m other fits =
    elim (int_eq z (pos 0)) as (λ b. int_eq z (pos 0) ≡ b → joined_worth (cond b None (Some (Sum z))) (Some (Sum m)) ≡ held_sum (wrap (z +ℤ m))) [
      | true ↦ λ e. sym (ap (λ u. held_sum (wrap (u +ℤ m))) (eq_from z (pos 0) e) ∙ ap (λ u. held_sum (wrap u)) (zero_plus m) ∙ held-itself m other fits)
      | false ↦ λ e. refl
    ] refl

swap_last : (a b c : ℤ) → (a +ℤ b) +ℤ c ≡ (a +ℤ c) +ℤ b
swap_last a b c = omega (arith, ints)

pub added-joined : (a b : Option Worth) (v : ℤ) → HoldsSort SumSort a → HoldsSort SumSort b → added (joined_worth a b) v ≡ joined_worth (added a v) b
added-joined None None v p q = sym (joined-none (added None v))
added-joined None (Some (Sum m)) v p q =
    let same : m +ℤ v ≡ (pos 0 +ℤ v) +ℤ m = omega (arith, ints) in
    ap (λ z. held_sum (wrap z)) same
    ∙ sym (ap held_sum (int_wrap-add_left w128 (pos 0 +ℤ v) m))
    ∙ sym (held-joined (wrap (pos 0 +ℤ v)) m q.0 q.1)
added-joined None (Some (Max m)) v p q = absurd q
added-joined None (Some (Last m)) v p q = absurd q
added-joined (Some (Max n)) b v p q = absurd p
added-joined (Some (Last n)) b v p q = absurd p
added-joined (Some (Sum n)) None v p q = sym (joined-none (added (Some (Sum n)) v))
added-joined (Some (Sum n)) (Some (Sum m)) v p q =
    ap (λ z. held_sum (wrap (z +ℤ v))) (sum_in-held (wrap (n +ℤ m)))
    ∙ ap held_sum (int_wrap-add_left w128 (n +ℤ m) v)
    ∙ ap (λ z. held_sum (wrap z)) (swap_last n m v)
    ∙ sym (ap held_sum (int_wrap-add_left w128 (n +ℤ v) m))
    ∙ sym (held-joined (wrap (n +ℤ v)) m q.0 q.1)
added-joined (Some (Sum n)) (Some (Max m)) v p q = absurd q
added-joined (Some (Sum n)) (Some (Last m)) v p q = absurd q

max_swap : (n m v : ℤ) → int_max (int_max n m) v ≡ int_max (int_max n v) m
max_swap n m v = omega (arith, ints, clamps)

max_comm : (m v : ℤ) → int_max m v ≡ int_max v m
max_comm m v = omega (arith, ints, clamps)

max_assoc : (n a b : ℤ) → int_max (int_max n a) b ≡ int_max n (int_max a b)
max_assoc n a b = omega (arith, ints, clamps)

pub raised-joined : (a b : Option Worth) (v : ℤ) → HoldsSort MaxSort a → HoldsSort MaxSort b → raised (joined_worth a b) v ≡ joined_worth (raised a v) b
raised-joined None None v p q = refl
raised-joined None (Some (Max m)) v p q = ap (λ z. Some (Max z)) (max_comm m v)
raised-joined None (Some (Sum m)) v p q = absurd q
raised-joined None (Some (Last m)) v p q = absurd q
raised-joined (Some (Sum n)) b v p q = absurd p
raised-joined (Some (Last n)) b v p q = absurd p
raised-joined (Some (Max n)) None v p q = refl
raised-joined (Some (Max n)) (Some (Max m)) v p q = ap (λ z. Some (Max z)) (max_swap n m v)
raised-joined (Some (Max n)) (Some (Sum m)) v p q = absurd q
raised-joined (Some (Max n)) (Some (Last m)) v p q = absurd q

-- ---- several amounts in one cell
pub added-added : (w : Option Worth) (a b : ℤ) → added (added w a) b ≡ added w (a +ℤ b)
added-added w a b =
    let regroup : (sum_in w +ℤ a) +ℤ b ≡ sum_in w +ℤ (a +ℤ b) = omega (arith, ints) in
    ap (λ z. held_sum (wrap (z +ℤ b))) (sum_in-held (wrap (sum_in w +ℤ a)))
    ∙ ap held_sum (int_wrap-add_left w128 (sum_in w +ℤ a) b)
    ∙ ap (λ z. held_sum (wrap z)) regroup

pub added-zero : (w : Option Worth) → HoldsSort SumSort w → added w (pos 0) ≡ w
unfolding int_wrap
added-zero None p = refl
added-zero (Some (Sum n)) p =
    let none : n +ℤ pos 0 ≡ n = omega (arith, ints) in
    ap (λ z. held_sum (wrap z)) none ∙ held-itself n p.0 p.1
added-zero (Some (Max n)) p = absurd p
added-zero (Some (Last n)) p = absurd p

pub raised-raised : (w : Option Worth) (a b : ℤ) → raised (raised w a) b ≡ raised w (int_max a b)
raised-raised None a b = refl
raised-raised (Some (Sum n)) a b = refl
raised-raised (Some (Max n)) a b = ap (λ z. Some (Max z)) (max_assoc n a b)
raised-raised (Some (Last n)) a b = refl

held-holds : (z : ℤ) → FitsSigned w128 z → HoldsSort SumSort (held_sum z)
held-holds z fits =
    elim (int_eq z (pos 0)) as (λ b. int_eq z (pos 0) ≡ b → HoldsSort SumSort (cond b None (Some (Sum z)))) [
      | true ↦ λ e. tt
      | false ↦ λ e. ((λ zero. not_both (int_eq z (pos 0)) (ap (λ u. int_eq u (pos 0)) zero) e), fits)
    ] refl

pub added-holds : (w : Option Worth) (n : ℤ) → HoldsSort SumSort (added w n)
added-holds w n = held-holds (wrap (sum_in w +ℤ n)) (SFits-int_wrap w128 (sum_in w +ℤ n))

pub joined-holds : (a b : Option Worth) → HoldsSort SumSort a → HoldsSort SumSort b → HoldsSort SumSort (joined_worth a b)
joined-holds None b p q = q
joined-holds (Some (Sum n)) None p q = p
joined-holds (Some (Sum n)) (Some (Sum m)) p q = held-holds (wrap (n +ℤ m)) (SFits-int_wrap w128 (n +ℤ m))
joined-holds (Some (Sum n)) (Some (Max m)) p q = absurd q
joined-holds (Some (Sum n)) (Some (Last m)) p q = absurd q
joined-holds (Some (Max n)) b p q = absurd p
joined-holds (Some (Last n)) b p q = absurd p

sum_comm : (n m : ℤ) → n +ℤ m ≡ m +ℤ n
sum_comm n m = omega (arith, ints)

pub joined_sums-comm : (a b : Option Worth) → HoldsSort SumSort a → HoldsSort SumSort b → joined_worth a b ≡ joined_worth b a
joined_sums-comm None b p q = sym (joined-none b)
joined_sums-comm (Some (Sum n)) None p q = refl
joined_sums-comm (Some (Sum n)) (Some (Sum m)) p q = ap (λ z. held_sum (wrap z)) (sum_comm n m)
joined_sums-comm (Some (Sum n)) (Some (Max m)) p q = absurd q
joined_sums-comm (Some (Sum n)) (Some (Last m)) p q = absurd q
joined_sums-comm (Some (Max n)) b p q = absurd p
joined_sums-comm (Some (Last n)) b p q = absurd p

pub joined_maxima-comm : (a b : Option Worth) → HoldsSort MaxSort a → HoldsSort MaxSort b → joined_worth a b ≡ joined_worth b a
joined_maxima-comm None b p q = sym (joined-none b)
joined_maxima-comm (Some (Max n)) None p q = refl
joined_maxima-comm (Some (Max n)) (Some (Max m)) p q = ap (λ z. Some (Max z)) (max_comm n m)
joined_maxima-comm (Some (Max n)) (Some (Sum m)) p q = absurd q
joined_maxima-comm (Some (Max n)) (Some (Last m)) p q = absurd q
joined_maxima-comm (Some (Sum n)) b p q = absurd p
joined_maxima-comm (Some (Last n)) b p q = absurd p

pub raised-holds : (a : Option Worth) (v : ℤ) → HoldsSort MaxSort a → HoldsSort MaxSort (raised a v)
raised-holds None v p = tt
raised-holds (Some (Max n)) v p = tt
raised-holds (Some (Sum n)) v p = absurd p
raised-holds (Some (Last n)) v p = absurd p

pub higher-comm : (a b : Option ℤ) → higher a b ≡ higher b a
higher-comm None None = refl
higher-comm None (Some v) = refl
higher-comm (Some u) None = refl
higher-comm (Some u) (Some v) = ap Some (max_comm u v)

pub added-swap : (w : Option Worth) (a b : ℤ) → added (added w a) b ≡ added (added w b) a
added-swap w a b = added-added w a b ∙ ap (added w) (sum_comm a b) ∙ sym (added-added w b a)

-- ---- amounts as what cells hold: adding and raising are joins
joined-sum : (w : Option Worth) (n : ℤ) → HoldsSort SumSort w → HoldsSort SumSort (Some (Sum n)) → joined_worth w (Some (Sum n)) ≡ added w n
joined-sum None n p q = sym (ap (λ z. held_sum (wrap z)) (zero_plus n) ∙ held-itself n q.0 q.1)
joined-sum (Some (Sum m)) n p q = refl
joined-sum (Some (Max m)) n p q = absurd p
joined-sum (Some (Last m)) n p q = absurd p

joined-max : (w : Option Worth) (v : ℤ) → HoldsSort MaxSort w → joined_worth w (Some (Max v)) ≡ raised w v
joined-max None v p = refl
joined-max (Some (Max m)) v p = refl
joined-max (Some (Sum m)) v p = absurd p
joined-max (Some (Last m)) v p = absurd p

pub added-mixes : (w : Option Worth) (n : ℤ) → HoldsSort SumSort w → added w n ≡ joined_worth w (added None n)
added-mixes w n p = added-joined None w n tt p ∙ joined_sums-comm (added None n) w (added-holds None n) p

pub raised-mixes : (w : Option Worth) (v : ℤ) → HoldsSort MaxSort w → raised w v ≡ joined_worth w (raised None v)
raised-mixes w v p = sym (joined-max w v p)

-- ---- groups
pub joined_sums-assoc : (a b c : Option Worth) → HoldsSort SumSort a → HoldsSort SumSort b → HoldsSort SumSort c
    → joined_worth (joined_worth a b) c ≡ joined_worth a (joined_worth b c)
joined_sums-assoc a b None p q r = joined-none (joined_worth a b) ∙ sym (ap (joined_worth a) (joined-none b))
joined_sums-assoc a b (Some (Sum n)) p q r =
    joined-sum (joined_worth a b) n (joined-holds a b p q) r
    ∙ ap (λ w. added w n) (joined_sums-comm a b p q)
    ∙ added-joined b a n q p
    ∙ joined_sums-comm (added b n) a (added-holds b n) p
    ∙ sym (ap (joined_worth a) (joined-sum b n q r))
joined_sums-assoc a b (Some (Max n)) p q r = absurd r
joined_sums-assoc a b (Some (Last n)) p q r = absurd r

pub joined_maxima-holds : (a b : Option Worth) → HoldsSort MaxSort a → HoldsSort MaxSort b → HoldsSort MaxSort (joined_worth a b)
joined_maxima-holds None b p q = q
joined_maxima-holds (Some (Max n)) None p q = tt
joined_maxima-holds (Some (Max n)) (Some (Max m)) p q = tt
joined_maxima-holds (Some (Max n)) (Some (Sum m)) p q = absurd q
joined_maxima-holds (Some (Max n)) (Some (Last m)) p q = absurd q
joined_maxima-holds (Some (Sum n)) b p q = absurd p
joined_maxima-holds (Some (Last n)) b p q = absurd p

pub joined_maxima-assoc : (a b c : Option Worth) → HoldsSort MaxSort a → HoldsSort MaxSort b → HoldsSort MaxSort c
    → joined_worth (joined_worth a b) c ≡ joined_worth a (joined_worth b c)
joined_maxima-assoc a b None p q r = joined-none (joined_worth a b) ∙ sym (ap (joined_worth a) (joined-none b))
joined_maxima-assoc a b (Some (Max n)) p q r =
    joined-max (joined_worth a b) n (joined_maxima-holds a b p q)
    ∙ ap (λ w. raised w n) (joined_maxima-comm a b p q)
    ∙ raised-joined b a n q p
    ∙ joined_maxima-comm (raised b n) a (raised-holds b n q) p
    ∙ sym (ap (joined_worth a) (joined-max b n q))
joined_maxima-assoc a b (Some (Sum n)) p q r = absurd r
joined_maxima-assoc a b (Some (Last n)) p q r = absurd r

-- ---- what cells of a job may hold, joined
last_holds : (u v : Option Worth) → HoldsSort LastSort u → HoldsSort LastSort v → HoldsSort LastSort (joined_worth u v)
last_holds None v p q = q
last_holds (Some (Last n)) v p q = tt
last_holds (Some (Sum n)) v p q = absurd p
last_holds (Some (Max n)) v p q = absurd p

sort_holds : (sort : Sort) (u v : Option Worth) → HoldsSort sort u → HoldsSort sort v → HoldsSort sort (joined_worth u v)
sort_holds SumSort u v p q = joined-holds u v p q
sort_holds MaxSort u v p q = joined_maxima-holds u v p q
sort_holds LastSort u v p q = last_holds u v p q

-- nothing, or a value of the family's sort
InFamily : Option Family → Option Worth → Type 0
InFamily o None = ⊤
InFamily o (Some w) = IsWorthIn o w

by_sort : (f : Family) (w : Option Worth) → InFamily (Some f) w → HoldsSort f.sort w
unfolding InFamily
by_sort f None p = tt
by_sort f (Some w) p = p

from_sort : (f : Family) (w : Option Worth) → HoldsSort f.sort w → InFamily (Some f) w
unfolding InFamily
from_sort f None p = tt
from_sort f (Some w) p = p

in_family : (o : Option Family) (u : Worth) (v : Option Worth) → IsWorthIn o u → InFamily o v → InFamily o (joined_worth (Some u) v)
in_family None u v p q = absurd p
in_family (Some f) u v p q = from_sort f (joined_worth (Some u) v) (sort_holds f.sort (Some u) v p (by_sort f v q))

module _ (families : List Family) (c : Cell) where
  value_of : (w : Option Worth) → MayHold families c w → InFamily (slice_get families c.family) w
  unfolding InFamily
  value_of None p = tt
  value_of (Some w) p = p.1

  held_there : (w : Option Worth) → is_cell_of families c ≡ true → InFamily (slice_get families c.family) w → MayHold families c w
  unfolding InFamily
  held_there None there p = tt
  held_there (Some w) there p = (there, p)

  pub joined_family : (u v : Option Worth) → MayHold families c u → MayHold families c v → MayHold families c (joined_worth u v)
  joined_family None v p q = q
  joined_family (Some u) v p q = held_there (joined_worth (Some u) v) p.0 (in_family (slice_get families c.family) u v p.1 (value_of v q))
