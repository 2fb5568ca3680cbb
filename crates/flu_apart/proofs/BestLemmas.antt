-- The first shared use on the cells of a list.
use Rattle.std.proofs.Common.{◌≡◌, ◌<◌, ◌+◌, ℕ, suc, Option, List, [], ◌∷◌, ◌++◌, length, drop, get_or, refl, sym, ap, ◌∙◌, arith}
use Rattle.flu_lemmas.proofs.Places.{drop_read}
use Rattle.std.specs.Prelude.{slice_get}
use Rattle.flu_model.specs.declared.events.Cell.{Cell}
use Rattle.flu_model.specs.declared.events.Tag.{Tag}
use Rattle.flu_model.specs.declared.jobs.Action.{Action}
use Rattle.flu_model.specs.declared.jobs.Piece.{Piece}
use Rattle.flu_model.specs.declared.jobs.Program.{Program}
use Rattle.flu_model.specs.declared.plans.Node.{Node}
use Rattle.flu_model.specs.Updates.{actions_of}
use Rattle.flu_deps.specs.LoopNamed.{piece_cells, pieces_cells, action_cells, actions_cells}
use Rattle.flu_apart.specs.declared.reason.SharedUse.{SharedUse}
use Rattle.flu_apart.specs.LoopSearch.{best_at, best_upto, better, best_among, cells_of, cells_upto}
use Rattle.flu_apart.specs.Classes.{tag_at}

pub best_among-append : (p : Program) (nodes : List Node) (w : ℕ) (best : Option SharedUse) (cs ds : List Cell)
    → best_among p nodes w best (cs ++ ds) ≡ best_among p nodes w (best_among p nodes w best cs) ds
best_among-append p nodes w best [] ds = refl
best_among-append p nodes w best (c ∷ cs) ds = best_among-append p nodes w (best_at p nodes w best c) cs ds

-- for tactics
pub ruleset appended = best_among-append

module _ (p : Program) (nodes : List Node) (w : ℕ) where
  abbrev among : Option SharedUse → List Cell → Option SharedUse
  among best cs = best_among p nodes w best cs

  -- one more element of a list that names cells
  pub pieces_turn : (key : ℕ) (qs : List Piece) (i : ℕ) (q : Piece) (best now whole : Option SharedUse) → i < length qs → q ≡ get_or qs i q
      → now ≡ among best (piece_cells key q) → among best (pieces_cells key (drop i qs)) ≡ whole
      → among now (pieces_cells key (drop (i + 1) qs)) ≡ whole
  pieces_turn key qs i q best now whole lt is step kept =
      let rest = pieces_cells key (drop (i + 1) qs) in
      ap (λ b. among b rest) step
      ∙ sym (best_among-append p nodes w best (piece_cells key q) rest)
      ∙ sym (ap (λ xs. among best (pieces_cells key xs)) (drop_read qs i q lt is))
      ∙ kept

  pub actions_turn : (key : ℕ) (all : List Action) (i : ℕ) (a : Action) (best now whole : Option SharedUse) → i < length all → a ≡ get_or all i a
      → now ≡ among best (action_cells key a) → among best (actions_cells key (drop i all)) ≡ whole
      → among now (actions_cells key (drop (i + 1) all)) ≡ whole
  actions_turn key all i a best now whole lt is step kept =
      let rest = actions_cells key (drop (i + 1) all) in
      ap (λ b. among b rest) step
      ∙ sym (best_among-append p nodes w best (action_cells key a) rest)
      ∙ sym (ap (λ xs. among best (actions_cells key xs)) (drop_read all i a lt is))
      ∙ kept

  -- one more itag
  pub itag_turn : (c : Cell) (best old new : Option SharedUse) (i : ℕ) → new ≡ better p nodes w c old i → old ≡ best_upto p nodes w c best i
      → new ≡ best_upto p nodes w c best (i + 1)
  itag_turn c best old new i step kept =
      let more : suc i ≡ i + 1 = omega arith in
      step ∙ ap (λ b. better p nodes w c b i) kept ∙ ap (best_upto p nodes w c best) more

  pub tag_step : (old new : Option SharedUse) (i : ℕ) (t : Tag) (all : List Action) → t ≡ tag_at p i → all ≡ actions_of (slice_get p.kinds t.kind)
      → new ≡ among old (actions_cells t.key all) → new ≡ among old (cells_of p (tag_at p i))
  tag_step old new i t all is are step =
      step ∙ ap (λ xs. among old (actions_cells t.key xs)) are ∙ ap (λ u. among old (cells_of p u)) is

  pub tag_turn : (none old new : Option SharedUse) (i : ℕ) → new ≡ among old (cells_of p (tag_at p i)) → old ≡ among none (cells_upto p i)
      → new ≡ among none (cells_upto p (i + 1))
  tag_turn none old new i step kept =
      let more : suc i ≡ i + 1 = omega arith in
      step ∙ ap (λ b. among b (cells_of p (tag_at p i))) kept
      ∙ sym (best_among-append p nodes w none (cells_upto p i) (cells_of p (tag_at p i)))
      ∙ ap (λ n. among none (cells_upto p n)) more
