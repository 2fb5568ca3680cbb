-- The first cell of a list that passes a test.
use Rattle.std.proofs.Common.{◌≡◌, ◌<◌, ◌+◌, ℕ, Bool, true, false, cond, ◌&&◌, Option, Some, None}
use Rattle.std.proofs.Common.{List, [], ◌∷◌, ◌++◌, length, drop, get_or, refl, sym, ap, subst, ◌∙◌}
use Rattle.std.specs.Prelude.{◌||◌, IfSome}
use Rattle.std.specs.List.{list_any, list_all}
use Rattle.flu_lemmas.proofs.Places.{drop_read}
use Rattle.flu_lemmas.proofs.Tests.{and_left, and_right}
use Rattle.flu_lemmas.proofs.TwoNumbers.{made_alike}
use Rattle.flu_model.specs.declared.events.Cell.{Cell}
use Rattle.flu_model.specs.declared.jobs.Action.{Action}
use Rattle.flu_model.specs.declared.jobs.Piece.{Piece}
use Rattle.flu_model.specs.Contents.{cell, is_same_cell}
use Rattle.flu_model.specs.Order.{is_cell_before}
use Rattle.flu_deps.specs.LoopNamed.{piece_cells, pieces_cells, action_cells, actions_cells, is_before_best, better, best_among}
use Rattle.flu_deps.proofs.CellOrder.{cells_rank, not_before_itself}

pub best_among-append : (passes : Cell → Bool) (best : Option Cell) (cs ds : List Cell)
    → best_among passes best (cs ++ ds) ≡ best_among passes (best_among passes best cs) ds
best_among-append passes best [] ds = refl
best_among-append passes best (c ∷ cs) ds = best_among-append passes (better passes best c) cs ds

-- for tactics
pub ruleset appended = best_among-append

-- ---- one more element of a list that names cells
pub pieces_turn : (passes : Cell → Bool) (key : ℕ) (qs : List Piece) (i : ℕ) (q : Piece) (best now whole : Option Cell) → i < length qs → q ≡ get_or qs i q
    → now ≡ best_among passes best (piece_cells key q) → best_among passes best (pieces_cells key (drop i qs)) ≡ whole
    → best_among passes now (pieces_cells key (drop (i + 1) qs)) ≡ whole
pieces_turn passes key qs i q best now whole lt is step kept =
    let rest = pieces_cells key (drop (i + 1) qs) in
    ap (λ b. best_among passes b rest) step
    ∙ sym (best_among-append passes best (piece_cells key q) rest)
    ∙ sym (ap (λ xs. best_among passes best (pieces_cells key xs)) (drop_read qs i q lt is))
    ∙ kept

pub actions_turn : (passes : Cell → Bool) (key : ℕ) (all : List Action) (i : ℕ) (a : Action) (best now whole : Option Cell) → i < length all
    → a ≡ get_or all i a
    → now ≡ best_among passes best (action_cells key a) → best_among passes best (actions_cells key (drop i all)) ≡ whole
    → best_among passes now (actions_cells key (drop (i + 1) all)) ≡ whole
actions_turn passes key all i a best now whole lt is step kept =
    let rest = actions_cells key (drop (i + 1) all) in
    ap (λ b. best_among passes b rest) step
    ∙ sym (best_among-append passes best (action_cells key a) rest)
    ∙ sym (ap (λ xs. best_among passes best (actions_cells key xs)) (drop_read all i a lt is))
    ∙ kept

-- ---- what the best is
-- what holds of the best so far and of each element of the list holds of the best among them
pub best_is_one : (P : Cell → Type 0) (passes : Cell → Bool) (test : Cell → Bool) → ((c : Cell) → test c ≡ true → passes c ≡ true → P c)
    → (best : Option Cell) (cs : List Cell) → IfSome best P → list_all test cs ≡ true → IfSome (best_among passes best cs) P
best_is_one P passes test holds best [] at_best all = at_best
best_is_one P passes test holds best (c ∷ cs) at_best all =
    best_is_one P passes test holds (better passes best c) cs
    (elim (is_before_best c best && passes c) as (λ b. (is_before_best c best && passes c) ≡ b → IfSome (cond b (Some c) best) P) [
      | true ↦ λ e. holds c (and_left (test c) _ all) (and_right (is_before_best c best) (passes c) e)
      | false ↦ λ e. at_best
    ] refl)
    (and_right (test c) _ all)

-- there is a best, and c is not before it
pub IsReached : Option Cell → Cell → Type 0
IsReached None c = ⊥
IsReached (Some d) c = is_cell_before c d ≡ false

better_reached : (passes : Cell → Bool) (best : Option Cell) (c x : Cell) → IsReached best x → IsReached (better passes best c) x
unfolding IsReached
better_reached passes None c x reached = absurd reached
better_reached passes (Some d) c x reached =
    elim (is_cell_before c d) as (λ b. is_cell_before c d ≡ b → IsReached (cond (b && passes c) (Some c) (Some d)) x) [
      | true ↦ λ e. elim (passes c) as (λ b. IsReached (cond b (Some c) (Some d)) x) [
        | true ↦ cells_rank.chain x d c reached (cells_rank.one_way c d e)
        | false ↦ reached
      ]
      | false ↦ λ e. reached
    ] refl

better_itself : (passes : Cell → Bool) (best : Option Cell) (c : Cell) → passes c ≡ true → IsReached (better passes best c) c
unfolding IsReached
better_itself passes None c pass = subst (λ b. IsReached (cond b (Some c) None) c) (sym pass) (not_before_itself c)
better_itself passes (Some d) c pass =
    elim (is_cell_before c d) as (λ b. is_cell_before c d ≡ b → IsReached (cond (b && passes c) (Some c) (Some d)) c) [
      | true ↦ λ e. subst (λ b. IsReached (cond b (Some c) (Some d)) c) (sym pass) (not_before_itself c)
      | false ↦ λ e. e
    ] refl

best_keeps : (passes : Cell → Bool) (best : Option Cell) (cs : List Cell) (x : Cell) → IsReached best x → IsReached (best_among passes best cs) x
best_keeps passes best [] x reached = reached
best_keeps passes best (c ∷ cs) x reached = best_keeps passes (better passes best c) cs x (better_reached passes best c x reached)

-- none of the list that passes is before the best
pub best_reaches : (passes : Cell → Bool) (best : Option Cell) (cs : List Cell) (x : Cell) → list_any (λ d. is_same_cell d x) cs ≡ true → passes x ≡ true
    → IsReached (best_among passes best cs) x
best_reaches passes best [] x named pass = cc
best_reaches passes best (c ∷ cs) x named pass =
    elim (is_same_cell c x) as (λ b. is_same_cell c x ≡ b → (b || list_any (λ d. is_same_cell d x) cs) ≡ true
    → IsReached (best_among passes (better passes best c) cs) x) [
      | true ↦ λ e h.
          let is : c ≡ x = made_alike cell c.family c.key x.family x.key e in
          best_keeps passes (better passes best c) cs x (subst (λ y. IsReached (better passes best c) y) is (better_itself passes best c (ap passes is ∙ pass)))
      | false ↦ λ e h. best_reaches passes (better passes best c) cs x h pass
    ] refl named

-- what is said of the best
pub reached_some : (best : Option Cell) (c d : Cell) → best ≡ Some d → IsReached best c → is_cell_before c d ≡ false
unfolding IsReached
reached_some best c d is reached = subst (λ (o : Option Cell). IsReached o c) is reached

pub reached_none : (best : Option Cell) (c : Cell) → best ≡ None → IsReached best c → ⊥
unfolding IsReached
reached_none best c is reached = subst (λ (o : Option Cell). IsReached o c) is reached
