-- What a cell of a sort holds, and what a cell of a job may hold.
use Rattle.std.proofs.Common.{◌≡◌, true, Option, Some, None, List, refl, sym, subst}
use Rattle.std.specs.Prelude.{slice_get, ⊤}
use Rattle.flu_model.specs.declared.events.Cell.{Cell}
use Rattle.flu_model.specs.declared.events.Worth.{Worth}
use Rattle.flu_model.specs.declared.jobs.Sort.{Sort}
use Rattle.flu_model.specs.declared.jobs.Sort.TheVariants.{Sum as SumSort, Max as MaxSort, Last as LastSort}
use Rattle.flu_model.specs.declared.jobs.Family.{Family}
use Rattle.flu_model.specs.Sorts.{IsWorthOf, IsWorthIn, is_cell_of, MayHold}
use Rattle.flu_model.specs.Rules.{has_sort, is_sort}

abbrev pub HoldsSort : Sort → Option Worth → Type 0
HoldsSort sort None = ⊤
HoldsSort sort (Some w) = IsWorthOf sort w

same_sort : (a b : Sort) → is_sort a b ≡ true → a ≡ b
same_sort SumSort SumSort e = refl
same_sort MaxSort MaxSort e = refl
same_sort LastSort LastSort e = refl
same_sort SumSort MaxSort e = cc
same_sort SumSort LastSort e = cc
same_sort MaxSort SumSort e = cc
same_sort MaxSort LastSort e = cc
same_sort LastSort SumSort e = cc
same_sort LastSort MaxSort e = cc

of_sort : (o : Option Family) (sort : Sort) (w : Worth) → has_sort o sort ≡ true → IsWorthIn o w → IsWorthOf sort w
of_sort None sort w e h = cc
of_sort (Some f) sort w e h = subst (λ u. IsWorthOf u w) (same_sort f.sort sort e) h

in_family : (o : Option Family) (sort : Sort) (w : Worth) → has_sort o sort ≡ true → IsWorthOf sort w → IsWorthIn o w
in_family None sort w e h = cc
in_family (Some f) sort w e h = subst (λ u. IsWorthOf u w) (sym (same_sort f.sort sort e)) h

module _ (families : List Family) (c : Cell) where
  -- a cell of a family of a sort
  pub holds_sort : (sort : Sort) (w : Option Worth) → has_sort (slice_get families c.family) sort ≡ true → MayHold families c w → HoldsSort sort w
  holds_sort sort None e h = tt
  holds_sort sort (Some w) e h = of_sort (slice_get families c.family) sort w e h.1

  pub may_hold : (sort : Sort) (w : Option Worth) → has_sort (slice_get families c.family) sort ≡ true → is_cell_of families c ≡ true
      → HoldsSort sort w → MayHold families c w
  may_hold sort None e there h = tt
  may_hold sort (Some w) e there h = (there, in_family (slice_get families c.family) sort w e h)
