-- In a tree in preorder no node is a child twice, and the root is none.
use Rattle.std.proofs.Common.{◌≡◌, inl, inr, ℕ, ◌+◌, ◌<◌, ◌≤◌, true, List, [], ◌∷◌, ◌++◌, Option, Some, None, Ok, refl, sym, ap, ◌∙◌, append_assoc, arith}
use Rattle.std.specs.Prelude.{not, ◌==◌}
use Rattle.std.specs.List.{list_any, flat_map}
use Rattle.std.proofs.lemmas.Bool.{cases_eq}
use Rattle.std.proofs.lemmas.List.{append-nil}
use Rattle.flu_lemmas.specs.Counting.{times}
use Rattle.flu_lemmas.proofs.Counting.{times-cons, times_append, times_of_same, times_of_other}
use Rattle.flu_lemmas.proofs.Tests.{and_left, and_right, true_eq}
use Rattle.flu_model.specs.declared.plans.Node.{Node}
use Rattle.flu_model.specs.PlanRules.{with_kids as tree_kids, are_subtrees}
use Rattle.flu_plan.specs.declared.fault.PlanFault.TheVariants as f
use Rattle.flu_plan.specs.declared.drafts.DraftNode.{DraftNode}
use Rattle.flu_plan.specs.Faults.{each}
use Rattle.flu_plan.specs.Shape.{name_at, with_child, with_kids_of, with_kids}
use Rattle.flu_grammar.proofs.Looks.{ok_ok, passes, binds}
use Rattle.flu_grammar.proofs.Totals.{not_there}

abbrev pub kid_list : Option (ℕ × ℕ) → List ℕ
kid_list None = []
kid_list (Some kids) = kids.0 ∷ kids.1 ∷ []

abbrev pub plan_kids : List Node → List ℕ
plan_kids nodes = flat_map (λ (n : Node). kid_list n.kids) nodes

abbrev pub draft_kids : List DraftNode → List ℕ
draft_kids drafts = flat_map (λ (d : DraftNode). kid_list d.kids) drafts

wanted_more : (kids : Option (ℕ × ℕ)) (wanted : List ℕ) → tree_kids kids wanted ≡ kid_list kids ++ wanted
wanted_more None wanted = refl
wanted_more (Some kids) wanted = refl

-- what is wanted and what is a child below stands there once at most, and is not below the first number
pub record Once (w u : ℕ) (wanted kids : List ℕ) : Type 0 where
  pub once : times u wanted + times u kids ≤ 1
  pub above : u < w → times u wanted + times u kids ≡ 0

pub once_each : (w : ℕ) (wanted : List ℕ) (rest : List Node) → are_subtrees w wanted rest ≡ true → (u : ℕ) → Once w u wanted (plan_kids rest)
once_each w [] [] e u = record { once = omega arith; above = λ lt. refl }
once_each w [] (node ∷ rest) e u = absurd cc
once_each w (v ∷ wanted) [] e u = absurd cc
once_each w (v ∷ wanted) (node ∷ rest) e u =
    let here : v ≡ w = true_eq v w (and_left (v == w) (are_subtrees (w + 1) (tree_kids node.kids wanted) rest) e) in
    let more = once_each (w + 1) (tree_kids node.kids wanted) rest (and_right (v == w) (are_subtrees (w + 1) (tree_kids node.kids wanted) rest) e) u in
    let kids : times u (tree_kids node.kids wanted) ≡ times u (kid_list node.kids) + times u wanted =
    ap (times u) (wanted_more node.kids wanted) ∙ times_append u (kid_list node.kids) wanted in
    let below : times u (kid_list node.kids ++ plan_kids rest) ≡ times u (kid_list node.kids) + times u (plan_kids rest) =
    times_append u (kid_list node.kids) (plan_kids rest) in
    let once = more.once in
    elim (cases_eq v u) [
      | inl same ↦
          let one = times_of_same u v wanted same in
          let none = more.above (omega (arith, here, same)) in
          record { once = omega (arith, one, none, kids, below); above = λ lt. absurd (omega (arith, here, same, lt)) }
      | inr other ↦
          let none = times_of_other u v wanted other in
          record {
            once = omega (arith, none, once, kids, below);
            above = λ lt. (let zero = more.above (omega (arith, lt)) in omega (arith, none, zero, kids, below));
          }
    ]

-- ---- children that are noted

child_passes : (text : List ℕ) (nodes : List DraftNode) (cs : List ℕ) (v : ℕ) → times v cs ≡ 0 → with_child text nodes cs v ≡ Ok (cs ++ v ∷ [])
unfolding with_child
child_passes text nodes cs v none =
    passes (not (list_any (λ u. v == u) cs)) (f.NotATree (name_at text nodes v)) (Ok (cs ++ v ∷ [])) (cs ++ v ∷ [])
    (ap not (not_there v cs none)) refl

kids_pass : (text : List ℕ) (nodes : List DraftNode) (cs : List ℕ) (kids : Option (ℕ × ℕ)) → ((a : ℕ) → times a cs + times a (kid_list kids) ≤ 1)
    → with_kids_of text nodes cs kids ≡ Ok (cs ++ kid_list kids)
kids_pass text nodes cs None once = ok_ok cs (cs ++ []) (sym (append-nil cs))
kids_pass text nodes cs (Some kids) once =
    let one = once kids.0 in
    let two = once kids.1 in
    let first = times_of_same kids.0 kids.0 (kids.1 ∷ []) refl in
    let second = times-cons kids.1 kids.0 (kids.1 ∷ []) in
    let itself = times_of_same kids.1 kids.1 [] refl in
    let pushed = times_append kids.1 cs (kids.0 ∷ []) in
    let alone = times-cons kids.1 kids.0 [] in
    let left = child_passes text nodes cs kids.0 (omega (arith, one, first)) in
    let right = child_passes text nodes (cs ++ kids.0 ∷ []) kids.1 (omega (arith, two, second, itself, pushed, alone)) in
    binds (with_child text nodes cs kids.0) (λ more. with_child text nodes more kids.1) (cs ++ kids.0 ∷ []) (cs ++ kids.0 ∷ kids.1 ∷ []) left
    (right ∙ ok_ok ((cs ++ kids.0 ∷ []) ++ kids.1 ∷ []) (cs ++ kids.0 ∷ kids.1 ∷ []) (append_assoc cs (kids.0 ∷ []) (kids.1 ∷ [])))

-- where no number stands twice among children and what was noted before, all are noted
pub children_pass : (text : List ℕ) (nodes : List DraftNode) (cs : List ℕ) (rest : List DraftNode)
    → ((a : ℕ) → times a cs + times a (draft_kids rest) ≤ 1) → each (with_kids text nodes) cs rest ≡ Ok (cs ++ draft_kids rest)
unfolding each with_kids
children_pass text nodes cs [] once = ok_ok cs (cs ++ []) (sym (append-nil cs))
children_pass text nodes cs (d ∷ rest) once =
    let here = kids_pass text nodes cs d.kids
    (λ a. let all = once a in let parts = times_append a (kid_list d.kids) (draft_kids rest) in omega (arith, all, parts)) in
    let more = children_pass text nodes (cs ++ kid_list d.kids) rest
    (λ a. let all = once a in let parts = times_append a (kid_list d.kids) (draft_kids rest) in let before = times_append a cs (kid_list d.kids) in
    omega (arith, all, parts, before)) in
    binds (with_kids_of text nodes cs d.kids) (λ t. each (with_kids text nodes) t rest) (cs ++ kid_list d.kids) (cs ++ draft_kids (d ∷ rest)) here
    (more ∙ ok_ok ((cs ++ kid_list d.kids) ++ draft_kids rest) (cs ++ draft_kids (d ∷ rest)) (append_assoc cs (kid_list d.kids) (draft_kids rest)))
