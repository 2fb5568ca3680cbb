-- Children that are noted, and nodes that are met.
use Rattle.std.proofs.Common.{◌≡◌, ℕ, zero, suc, ◌+◌, ◌-◌, ◌<◌, ◌≤◌, Bool, true, false, ◌||◌, List, [], ◌∷◌, ◌++◌, length, drop, get_or, Option, Some, None, Ok}
use Rattle.std.proofs.Common.{Err, refl, sym, ap, subst, ◌∙◌, add-one, append_assoc, arith}
use Rattle.std.specs.Prelude.{◌==◌, nat_eq, nat_le, reverse, if◌then◌else◌}
use Rattle.std.specs.List.{list_any, list_all}
use Rattle.std.proofs.Math.Seq.{drop-cons}
use Rattle.std.proofs.lemmas.List.{drop_all, append-nil, length_push, reverse-append}
use Rattle.flu_lemmas.proofs.Tests.{true_eq, true_le, le_true, both, and_left, and_right}
use Rattle.indexmap.specs.IndexSet.{insert_key}
use Rattle.flu_plan.specs.declared.drafts.DraftNode.{DraftNode}
use Rattle.flu_plan.specs.declared.drafts.Visit.{Visit}
use Rattle.flu_plan.specs.declared.fault.PlanFault.{PlanFault}
use Rattle.flu_plan.specs.declared.fault.PlanFault.TheVariants as f
use Rattle.flu_plan.specs.Faults.{◌>>◌, unless}
use Rattle.flu_layout.specs.Spelling.{name_of}
use Rattle.flu_plan.specs.Shape.{kids_at, visit, with_visits, walk, preorder, is_met, below}
use Rattle.flu_lemmas.proofs.Booleans.{or_assoc, or_false}

or_last : (p : ℕ → Bool) (ks : List ℕ) (k : ℕ) → list_any p (ks ++ k ∷ []) ≡ (list_any p ks || p k)
or_last p [] k = or_false (p k)
or_last p (x ∷ ks) k = ap (λ b. p x || b) (or_last p ks k) ∙ sym (or_assoc (p x) (list_any p ks) (p k))

-- a number that is there already adds nothing
there : (ks : List ℕ) (v k : ℕ) → list_any (λ u. k == u) ks ≡ true → list_any (λ u. v == u) ks ≡ (list_any (λ u. v == u) ks || (v == k))
there ks v k e = by (v == k) refl
  where
    by : (b : Bool) → (v == k) ≡ b → list_any (λ u. v == u) ks ≡ (list_any (λ u. v == u) ks || b)
    by true same =
        let here : list_any (λ u. v == u) ks ≡ true = ap (λ n. list_any (λ u. n == u) ks) (true_eq v k same) ∙ e in here ∙ sym (ap (λ b. b || true) here)
    by false other = sym (or_false (list_any (λ u. v == u) ks))

pub any-insert : (ks : List ℕ) (v k : ℕ) → list_any (λ u. v == u) (insert_key nat_eq ks k) ≡ (list_any (λ u. v == u) ks || (v == k))
any-insert ks v k = by (list_any (nat_eq k) ks) refl
  where
    by : (b : Bool) → list_any (nat_eq k) ks ≡ b → list_any (λ u. v == u) (if b then ks else ks ++ k ∷ []) ≡ (list_any (λ u. v == u) ks || (v == k))
    by true e = there ks v k e
    by false e = or_last (λ u. v == u) ks k

-- one visit more
pub met-next : (keys more : List ℕ) (order : List Visit) (i v : ℕ) (x : Visit) → i < length order → x ≡ get_or order i x → more ≡ insert_key nat_eq keys x.node
    → (list_any (λ u. v == u) keys || is_met (drop i order) v) ≡ is_met order v
    → (list_any (λ u. v == u) more || is_met (drop (i + 1) order) v) ≡ is_met order v
met-next keys more order i v x lt is ins kept =
    ap (λ ks. list_any (λ u. v == u) ks || is_met (drop (i + 1) order) v) ins
    ∙ ap (λ b. b || is_met (drop (i + 1) order) v) (any-insert keys v x.node)
    ∙ or_assoc (list_any (λ u. v == u) keys) (v == x.node) (is_met (drop (i + 1) order) v)
    ∙ ap (λ j. list_any (λ u. v == u) keys || ((v == x.node) || is_met (drop j order) v)) (add-one i)
    ∙ ap (λ o. list_any (λ u. v == u) keys || is_met o v) (sym (drop-cons order i x lt ∙ ap (λ y. y ∷ drop (suc i) order) (sym is)))
    ∙ kept

pub met-end : (keys : List ℕ) (order : List Visit) (i v : ℕ) → length order ≤ i → (list_any (λ u. v == u) keys || is_met (drop i order) v) ≡ is_met order v
    → list_any (λ u. v == u) keys ≡ is_met order v
met-end keys order i v past kept =
    sym (ap (λ o. list_any (λ u. v == u) keys || is_met o v) (drop_all i order past) ∙ or_false (list_any (λ u. v == u) keys)) ∙ kept

-- a node that is met, or is not
pub below-met : (text : List ℕ) (order : List Visit) (v : ℕ) (node : DraftNode) → is_met order v ≡ true → below text order v node ≡ Ok (v + 1)
unfolding below
below-met text order v node met = ap (λ b. unless b (f.NotATree (name_of text node.name)) >> Ok (v + 1)) met

pub below-fault : (text name : List ℕ) (order : List Visit) (v : ℕ) (node : DraftNode) (e : PlanFault) (b : Bool) → b ≡ is_met order v
    → name ≡ name_of text node.name → unless b (f.NotATree name) ≡ Err e → below text order v node ≡ Err e
unfolding below
below-fault text name order v node e b met is failed =
    ap (λ (n : List ℕ). unless (is_met order v) (f.NotATree n) >> Ok (v + 1)) (sym is)
    ∙ ap (λ b. unless b (f.NotATree name) >> Ok (v + 1)) (sym met)
    ∙ ap (λ r. r >> Ok (v + 1)) failed

-- ---- the walk

abbrev pub are_within : ℕ → List Visit → Bool
are_within n wanted = list_all (λ (v : Visit). nat_le v.depth n) wanted

within_more : (n : ℕ) (wanted : List Visit) → are_within n wanted ≡ true → are_within (n + 1) wanted ≡ true
within_more n [] e = refl
within_more n (v ∷ wanted) e =
    let here : v.depth ≤ n = true_le v.depth n (and_left (nat_le v.depth n) (are_within n wanted) e) in
    both (nat_le v.depth (n + 1)) (are_within (n + 1) wanted) (le_true v.depth (n + 1) (omega arith))
    (within_more n wanted (and_right (nat_le v.depth n) (are_within n wanted) e))

within_kids : (n d : ℕ) (kids : Option (ℕ × ℕ)) (wanted : List Visit) → d ≤ n → are_within (n + 1) wanted ≡ true
    → are_within (n + 1) (with_visits d kids wanted) ≡ true
within_kids n d None wanted le e = e
within_kids n d (Some kids) wanted le e =
    let one : nat_le (d + 1) (n + 1) ≡ true = le_true (d + 1) (n + 1) (omega arith) in
    both (nat_le (d + 1) (n + 1)) _ one (both (nat_le (d + 1) (n + 1)) (are_within (n + 1) wanted) one e)

-- these are visited, and what is still wanted completes them
pub record Walked (nodes : List DraftNode) (order wanted : List Visit) : Type 0 where
  pub walked : order ++ walk nodes (length nodes - length order) wanted ≡ preorder nodes
  pub shallow : are_within (length order) wanted ≡ true

pub walked-start : (nodes : List DraftNode) (order wanted : List Visit) → order ≡ [] → wanted ≡ visit 0 0 ∷ [] → Walked nodes order wanted
walked-start nodes order wanted none first =
    subst (λ o. Walked nodes o wanted) (sym none)
    (subst (λ w. Walked nodes [] w) (sym first) (record { walked = ap (λ n. walk nodes n (visit 0 0 ∷ [])) (omega arith); shallow = refl }))

pub walked-depth : (nodes : List DraftNode) (order wanted : List Visit) (x : Visit) → Walked nodes order (x ∷ wanted) → x.depth ≤ length order
walked-depth nodes order wanted x so_far =
    true_le x.depth (length order) (and_left (nat_le x.depth (length order)) (are_within (length order) wanted) so_far.shallow)

pub walk-one : (nodes : List DraftNode) (m k : ℕ) (wanted : List Visit) (x : Visit) → m ≡ suc k
    → walk nodes m (x ∷ wanted) ≡ x ∷ walk nodes k (with_visits x.depth (kids_at nodes x.node) wanted)
unfolding walk
walk-one nodes m k wanted x e = ap (λ n. walk nodes n (x ∷ wanted)) e

pub walked-next : (nodes : List DraftNode) (order wanted : List Visit) (x : Visit) → length order < length nodes → Walked nodes order (x ∷ wanted)
    → Walked nodes (order ++ x ∷ []) (with_visits x.depth (kids_at nodes x.node) wanted)
walked-next nodes order wanted x lt so_far =
    let longer : length (order ++ x ∷ []) ≡ length order + 1 = length_push order x in
    let left : length nodes - length order ≡ suc (length nodes - length (order ++ x ∷ [])) = omega arith in
    record {
      walked =
          append_assoc order (x ∷ []) (walk nodes (length nodes - length (order ++ x ∷ [])) (with_visits x.depth (kids_at nodes x.node) wanted))
          ∙ ap (λ o. order ++ o) (sym (walk-one nodes (length nodes - length order) (length nodes - length (order ++ x ∷ [])) wanted x left))
          ∙ so_far.walked;
      shallow =
          ap (λ n. are_within n (with_visits x.depth (kids_at nodes x.node) wanted)) longer
          ∙ within_kids (length order) x.depth (kids_at nodes x.node) wanted (walked-depth nodes order wanted x so_far)
          (within_more (length order) wanted (and_right (nat_le x.depth (length order)) (are_within (length order) wanted) so_far.shallow));
    }

pub walk-zero : (nodes : List DraftNode) (n : ℕ) (wanted : List Visit) → n ≡ 0 → walk nodes n wanted ≡ []
unfolding walk
walk-zero nodes n wanted e = ap (λ m. walk nodes m wanted) e

pub walk-none : (nodes : List DraftNode) (n : ℕ) → walk nodes n [] ≡ []
unfolding walk
walk-none nodes zero = refl
walk-none nodes (suc n) = refl

pub walked-full : (nodes : List DraftNode) (order wanted : List Visit) → length nodes ≤ length order → Walked nodes order wanted → order ≡ preorder nodes
walked-full nodes order wanted le so_far =
    sym (append-nil order) ∙ ap (λ o. order ++ o) (sym (walk-zero nodes (length nodes - length order) wanted (omega arith))) ∙ so_far.walked

pub walked-end : (nodes : List DraftNode) (order wanted : List Visit) → wanted ≡ [] → Walked nodes order wanted → order ≡ preorder nodes
walked-end nodes order wanted none so_far =
    sym (append-nil order) ∙ ap (λ o. order ++ o) (sym (ap (walk nodes (length nodes - length order)) none ∙ walk-none nodes (length nodes - length order)))
    ∙ so_far.walked

-- the top of the stack
pub reverse_last : (all front : List Visit) (x : Visit) → all ≡ front ++ x ∷ [] → reverse all ≡ x ∷ reverse front
reverse_last all front x e = ap reverse e ∙ reverse-append front (x ∷ [])

-- no more nodes are visited than there are
walk-few : (nodes : List DraftNode) (n : ℕ) (wanted : List Visit) → length (walk nodes n wanted) ≤ n
unfolding walk
walk-few nodes zero wanted = omega arith
walk-few nodes (suc n) [] = omega arith
walk-few nodes (suc n) (v ∷ wanted) = let few = walk-few nodes n (with_visits v.depth (kids_at nodes v.node) wanted) in omega arith

pub preorder-few : (nodes : List DraftNode) (order : List Visit) → order ≡ preorder nodes → length order ≤ length nodes
preorder-few nodes order e = let few = walk-few nodes (length nodes) (visit 0 0 ∷ []) in let same = ap length e in omega arith
