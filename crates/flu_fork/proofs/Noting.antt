-- A content from the same four parts is the same content.
use Rattle.std.proofs.Common.{◌≡◌, ℕ, Bool, Option, List, length, refl, sym, subst, ◌∙◌}
use Rattle.std.proofs.Props.{props}
use Rattle.flu_model.specs.declared.jobs.Program.{Program}
use Rattle.flu_model.specs.declared.plans.Node.{Node}
use Rattle.flu_model.specs.declared.streams.Streams.{Streams}
use Rattle.flu_model.specs.Itags.{count_of_itags}
use Rattle.flu_model.specs.Listed.{listed}
use Rattle.flu_model.specs.Sorts.{IsStateOf}
use Rattle.flu_model.specs.Validity.{IsValid}
use Rattle.flu_deps.specs.declared.checked.Checked.{Checked}
use Rattle.flu_deps.specs.declared.valid.Valid.{Valid}
use Rattle.flu_deps.specs.Checking.{program_of}
use Rattle.flu_deps.specs.Validated.{plan_of, IsValidFor}
use Rattle.flu_cells.specs.declared.state.State.{State}
use Rattle.flu_cells.specs.Holding.{held}
use Rattle.flu_fork.specs.declared.content.Content.{Content}

pub record Noted (k : Content) (t : Checked × Valid × Streams × State) : Type 0 where
  pub of_job : IsValidFor (program_of t.0) t.1
  pub one_each : length (listed t.2) ≡ count_of_itags (program_of t.0)
  pub opening_sorts : ∥ IsStateOf (program_of t.0).families (held t.3) ∥₁
  pub same : record { checked = t.0; valid = t.1; streams = t.2; opening = t.3; of_job = of_job; one_each = one_each; opening_sorts = opening_sorts } ≡ k

pub noted : (k : Content) (c : Checked) (v : Valid) (s : Streams) (o : State) → c ≡ k.checked → v ≡ k.valid → s ≡ k.streams → o ≡ k.opening
    → Noted k (c, v, s, o)
noted k c v s o ec ev es eo =
    let e : (c, v, s, o) ≡ (k.checked, k.valid, k.streams, k.opening) = λ i. (ec i, ev i, es i, eo i) in
    subst (Noted k) (sym e) record { of_job = k.of_job; one_each = k.one_each; opening_sorts = k.opening_sorts; same = refl }

nat_prop : (a b : ℕ) → IsProp (a ≡ b)
nat_prop a b = hlevel props

bool_prop : (a b : Bool) → IsProp (a ≡ b)
bool_prop a b = hlevel props

IsValid-prop : (p : Program) (nodes : List Node) → IsProp (IsValid p nodes)
IsValid-prop p nodes x y = λ i. record {
  one_owner = λ j lt. nat_prop _ _ (x.one_owner j lt) (y.one_owner j lt) i;
  independent = λ a b u v hu hv oa ob apart. bool_prop _ _ (x.independent a b u v hu hv oa ob apart) (y.independent a b u v hu hv oa ob apart) i;
}

owner_prop : (a b : Option ℕ) → IsProp (a ≡ b)
owner_prop a b = hlevel props

IsValidFor-prop : (p : Program) (v : Valid) → IsProp (IsValidFor p v)
IsValidFor-prop p v x y = λ i. record {
  valid = IsValid-prop p (plan_of v).nodes x.valid y.valid i;
  owner = λ j lt. owner_prop _ _ (x.owner j lt) (y.owner j lt) i;
}

sorts_prop : (A : Type 0) → IsProp (∥ A ∥₁)
sorts_prop A = hlevel props

pub noted_as : (k : Content) (c : Checked) (v : Valid) (s : Streams) (o : State) → c ≡ k.checked → v ≡ k.valid → s ≡ k.streams → o ≡ k.opening
    → (x : IsValidFor (program_of c) v) (y : length (listed s) ≡ count_of_itags (program_of c)) (z : ∥ IsStateOf (program_of c).families (held o) ∥₁)
    → record { checked = c; valid = v; streams = s; opening = o; of_job = x; one_each = y; opening_sorts = z } ≡ k
noted_as k c v s o ec ev es eo x y z =
    let n = noted k c v s o ec ev es eo in
    let given : Content = record { checked = c; valid = v; streams = s; opening = o; of_job = x; one_each = y; opening_sorts = z } in
    let other : Content = record {
      checked = c;
      valid = v;
      streams = s;
      opening = o;
      of_job = n.of_job;
      one_each = n.one_each;
      opening_sorts = n.opening_sorts;
    } in
    let irrelevant : given ≡ other = λ i. record {
      checked = c;
      valid = v;
      streams = s;
      opening = o;
      of_job = IsValidFor-prop (program_of c) v x n.of_job i;
      one_each = nat_prop _ _ y n.one_each i;
      opening_sorts = sorts_prop _ z n.opening_sorts i;
    } in
    irrelevant ∙ n.same
