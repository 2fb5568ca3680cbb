-- The first conflict of two tags is the first among the cells that their kinds' actions name.
use Rattle.std.proofs.Common.{◌≡◌, true, false, Option, Some, None, List, [], ◌∷◌, ◌++◌, refl, sym, ap, subst, ◌∙◌}
use Rattle.std.specs.Prelude.{slice_get, IfSome, IfNone}
use Rattle.std.specs.List.{list_all}
use Rattle.std.proofs.lemmas.Bool.{or_left, or_right}
use Rattle.std.proofs.lemmas.List.Folds.{list_any-append}
use Rattle.flu_lemmas.proofs.Tests.{false_if_not, not_both}
use Rattle.flu_model.specs.declared.events.Cell.{Cell}
use Rattle.flu_model.specs.declared.events.Tag.{Tag}
use Rattle.flu_model.specs.declared.jobs.Action.{Action}
use Rattle.flu_model.specs.declared.jobs.Program.{Program}
use Rattle.flu_model.specs.Contents.{is_same_cell}
use Rattle.flu_model.specs.Updates.{actions_of}
use Rattle.flu_model.specs.Modes.{mode_of}
use Rattle.flu_model.specs.Order.{is_cell_before}
use Rattle.flu_deps.specs.Conflicts.{conflicts_on, IsFirstConflict}
use Rattle.flu_deps.specs.LoopNamed.{actions_cells, best_among}
use Rattle.flu_deps.proofs.BestLemmas.{best_among-append, best_is_one, IsReached, best_reaches, reached_some, reached_none}
use Rattle.flu_deps.proofs.CellLemmas.{names, first, first_is_named, first_grows}
use Rattle.flu_deps.proofs.ModeLemmas.{left_used, conflict_grows}
use Rattle.flu_deps.proofs.SortLemmas.{one_sort}
use Rattle.flu_deps.proofs.CellOrder.{cells_rank, not_before_itself, first_of_family}

all_true : (cs : List Cell) → list_all (λ c. true) cs ≡ true
all_true [] = refl
all_true (c ∷ cs) = all_true cs

module _ (p : Program) (a b : Tag) where
  abbrev first_actions : List Action
  first_actions = actions_of (slice_get p.kinds a.kind)

  abbrev second_actions : List Action
  second_actions = actions_of (slice_get p.kinds b.kind)

  -- the cells that the kinds' actions name
  abbrev pub named : List Cell
  named = actions_cells a.key first_actions ++ actions_cells b.key second_actions

  -- one search after the other is a search of all
  pub found_is : (found best : Option Cell) (xs ys : List Action) → xs ≡ first_actions → ys ≡ second_actions
      → best ≡ best_among (conflicts_on p a b) None (actions_cells a.key xs) → found ≡ best_among (conflicts_on p a b) best (actions_cells b.key ys)
      → found ≡ best_among (conflicts_on p a b) None named
  found_is found best xs ys x y one two =
      two
      ∙ ap (λ o. best_among (conflicts_on p a b) o (actions_cells b.key ys)) one
      ∙ (λ i. best_among (conflicts_on p a b) (best_among (conflicts_on p a b) None (actions_cells a.key (x i))) (actions_cells b.key (y i)))
      ∙ sym (best_among-append (conflicts_on p a b) None (actions_cells a.key first_actions) (actions_cells b.key second_actions))

  -- a conflict on a cell is one on a cell that is named and not behind it
  record Covered (c : Cell) : Type 0 where
    at : Cell
    is_named : names at named ≡ true
    conflicts : conflicts_on p a b at ≡ true
    not_behind : is_cell_before c at ≡ false

  in_first : (c : Cell) → names c (actions_cells a.key first_actions) ≡ true → names c named ≡ true
  in_first c e = list_any-append (λ d. is_same_cell d c) (actions_cells a.key first_actions) (actions_cells b.key second_actions)
      ∙ or_left (names c (actions_cells a.key first_actions)) (names c (actions_cells b.key second_actions)) e

  in_second : (c : Cell) → names c (actions_cells b.key second_actions) ≡ true → names c named ≡ true
  in_second c e = list_any-append (λ d. is_same_cell d c) (actions_cells a.key first_actions) (actions_cells b.key second_actions)
      ∙ or_right (names c (actions_cells a.key first_actions)) (names c (actions_cells b.key second_actions)) e

  covered : (c : Cell) → conflicts_on p a b c ≡ true → Covered c
  covered c e =
      elim (names c named) as (λ n. names c named ≡ n → Covered c) [
        | true ↦ λ is. record { at = c; is_named = is; conflicts = e; not_behind = not_before_itself c }
        | false ↦ λ none.
            let not_first : names c (actions_cells a.key first_actions) ≡ true → ⊥ = λ h. not_both (names c named) (in_first c h) none in
            let not_second : names c (actions_cells b.key second_actions) ≡ true → ⊥ = λ h. not_both (names c named) (in_second c h) none in record {
              at = first c;
              is_named =
                  in_first (first c)
                  (first_is_named p.version first_actions a.key c not_first (left_used (mode_of p a c) (mode_of p b c) e));
              conflicts =
                  conflict_grows (mode_of p a c) (mode_of p b c) (mode_of p a (first c)) (mode_of p b (first c))
                  (first_grows p.version first_actions a.key c not_first (one_sort p a.kind a.key (first c)))
                  (first_grows p.version second_actions b.key c not_second (one_sort p b.kind b.key (first c))) e;
              not_behind = first_of_family c;
            }
      ] refl

  module _ (found : Option Cell) (is : found ≡ best_among (conflicts_on p a b) None named) where
    reached : (c : Cell) → names c named ≡ true → conflicts_on p a b c ≡ true → IsReached found c
    reached c n e = subst (λ (o : Option Cell). IsReached o c) (sym is) (best_reaches (conflicts_on p a b) None named c n e)

    pub first_found : IfSome found (IsFirstConflict p a b)
    first_found = at_answer found refl
      where
        passes : IfSome found (λ d. conflicts_on p a b d ≡ true)
        passes =
            subst (λ (o : Option Cell). IfSome o (λ d. conflicts_on p a b d ≡ true)) (sym is)
            (best_is_one (λ d. conflicts_on p a b d ≡ true) (conflicts_on p a b) (λ d. true) (λ d t e. e) None named tt (all_true named))

        at_answer : (o : Option Cell) → found ≡ o → IfSome o (IsFirstConflict p a b)
        at_answer None e = tt
        at_answer (Some d) e = record {
          conflicts = subst (λ (o : Option Cell). IfSome o (λ d. conflicts_on p a b d ≡ true)) e passes;
          first = λ c h.
              let k : Covered c = covered c h in
              cells_rank.chain c k.at d k.not_behind (reached_some found k.at d e (reached k.at k.is_named k.conflicts));
        }

    pub none_found : IfNone found ((c : Cell) → conflicts_on p a b c ≡ false)
    none_found = at_answer found refl
      where
        at_answer : (o : Option Cell) → found ≡ o → IfNone o ((c : Cell) → conflicts_on p a b c ≡ false)
        at_answer None e = λ c. false_if_not (conflicts_on p a b c) (λ h. let k : Covered c = covered c h in
            reached_none found k.at e (reached k.at k.is_named k.conflicts))
        at_answer (Some d) e = tt
