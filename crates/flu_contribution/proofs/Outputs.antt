-- The outputs of nodes apart, behind those of the others: in which order they are put together makes only another order.
use Rattle.std.proofs.Common.{◌≡◌, Bool, true, false, List, [], ◌∷◌, ◌++◌, append_assoc, refl, sym, subst}
use Rattle.std.specs.Prelude.{map}
use Rattle.std.specs.List.Sorted.{IsPermutation}
use Rattle.std.proofs.lemmas.List.{append-nil}
use Rattle.std.proofs.lemmas.List.Sorted.{IsPermutation-refl, IsPermutation-trans, IsPermutation-append, IsPermutation-append_comm}
use Rattle.flu_model.specs.declared.events.Event.{Event}
use Rattle.flu_model.specs.declared.events.Out.{Out}
use Rattle.flu_model.specs.declared.jobs.Program.{Program}
use Rattle.flu_model.specs.declared.plans.Node.{Node}
use Rattle.flu_contribution.specs.Contributions.{is_inside, is_above}
use Rattle.flu_contribution.proofs.States.{Open, step_by, stepped, AllElsewhere}

-- the outputs of open contributions behind others
abbrev pub outs : List Out → List Open → List Out
outs b [] = b
outs b (o ∷ os) = outs (b ++ o.part.outputs) os

abbrev pub added_if : Bool → List Out → List Out → List Out
added_if true b k = b ++ k
added_if false b k = b

pub is_same : (a b : List Out) → a ≡ b → IsPermutation a b
is_same a b e = subst (IsPermutation a) e (IsPermutation-refl a)

-- two parts behind one change places
parts_swap : (a b c : List Out) → IsPermutation ((a ++ b) ++ c) ((a ++ c) ++ b)
parts_swap a b c =
    subst (λ l. IsPermutation l ((a ++ c) ++ b)) (sym (append_assoc a b c))
    (subst (IsPermutation (a ++ (b ++ c))) (sym (append_assoc a c b))
    (IsPermutation-append a a (b ++ c) (c ++ b) (IsPermutation-refl a) (IsPermutation-append_comm b c)))

pub behind : (a b c : List Out) → IsPermutation a b → IsPermutation (a ++ c) (b ++ c)
behind a b c h = IsPermutation-append a b c c h (IsPermutation-refl c)

pub outs_permuted : (a b : List Out) (os : List Open) → IsPermutation a b → IsPermutation (outs a os) (outs b os)
outs_permuted a b [] h = h
outs_permuted a b (o ∷ os) h = outs_permuted (a ++ o.part.outputs) (b ++ o.part.outputs) os (behind a b o.part.outputs h)

pub outs_pass : (a z : List Out) (os : List Open) → IsPermutation (outs a os ++ z) (outs (a ++ z) os)
outs_pass a z [] = IsPermutation-refl (a ++ z)
outs_pass a z (o ∷ os) =
    IsPermutation-trans _ _ _ (outs_pass (a ++ o.part.outputs) z os)
    (outs_permuted ((a ++ o.part.outputs) ++ z) ((a ++ z) ++ o.part.outputs) os (parts_swap a o.part.outputs z))

module _ (p : Program) (nodes : List Node) where
  -- the outputs with those of the contributions that an event closes
  abbrev pub closed_outs : Event → List Out → List Open → List Out
  closed_outs x b [] = b
  closed_outs x b (o ∷ os) = closed_outs x (added_if (is_above p nodes o.node x) b o.part.outputs) os

  added_if_permuted : (t : Bool) (a b k : List Out) → IsPermutation a b → IsPermutation (added_if t a k) (added_if t b k)
  added_if_permuted true a b k h = behind a b k h
  added_if_permuted false a b k h = h

  added_if_pass : (t : Bool) (a z k : List Out) → IsPermutation (added_if t (a ++ z) k) (added_if t a k ++ z)
  added_if_pass true a z k = parts_swap a z k
  added_if_pass false a z k = IsPermutation-refl (a ++ z)

  closed_outs_permuted : (x : Event) (a b : List Out) (os : List Open) → IsPermutation a b → IsPermutation (closed_outs x a os) (closed_outs x b os)
  closed_outs_permuted x a b [] h = h
  closed_outs_permuted x a b (o ∷ os) h =
      let t = is_above p nodes o.node x in
      closed_outs_permuted x (added_if t a o.part.outputs) (added_if t b o.part.outputs) os (added_if_permuted t a b o.part.outputs h)

  closed_outs_pass : (x : Event) (a z : List Out) (os : List Open) → IsPermutation (closed_outs x (a ++ z) os) (closed_outs x a os ++ z)
  closed_outs_pass x a z [] = IsPermutation-refl (a ++ z)
  closed_outs_pass x a z (o ∷ os) =
      let t = is_above p nodes o.node x in
      IsPermutation-trans _ _ _
      (closed_outs_permuted x (added_if t (a ++ z) o.part.outputs) (added_if t a o.part.outputs ++ z) os (added_if_pass t a z o.part.outputs))
      (closed_outs_pass x (added_if t a o.part.outputs) z os)

  parts_add : (i a : Bool) (x : Event) (b : List Out) (o : Open) → i ≡ false
      → b ++ o.part.outputs ≡ added_if a b o.part.outputs ++ (step_by p nodes i a x o).part.outputs
  parts_add true a x b o e = cc
  parts_add false true x b o e = sym (append-nil (b ++ o.part.outputs))
  parts_add false false x b o e = refl

  -- closing contributions only moves their outputs
  pub outs_closed : (x : Event) (b : List Out) (os : List Open) → AllElsewhere p nodes x os
      → IsPermutation (outs b os) (outs (closed_outs x b os) (map (stepped p nodes x) os))
  outs_closed x b [] out = IsPermutation-refl b
  outs_closed x b (o ∷ os) out =
      let i = is_inside p nodes o.node x in
      let t = is_above p nodes o.node x in
      let z : List Out = (stepped p nodes x o).part.outputs in
      let k : List Out = added_if t b o.part.outputs in
      let more : List Open = map (stepped p nodes x) os in
      IsPermutation-trans _ _ _ (outs_closed x (b ++ o.part.outputs) os out.1)
      (outs_permuted (closed_outs x (b ++ o.part.outputs) os) (closed_outs x k os ++ z) more
      (IsPermutation-trans _ _ _
      (closed_outs_permuted x (b ++ o.part.outputs) (k ++ z) os (is_same (b ++ o.part.outputs) (k ++ z) (parts_add i t x b o out.0)))
      (closed_outs_pass x k z os)))
