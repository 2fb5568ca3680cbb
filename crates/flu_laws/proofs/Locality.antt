-- What actions do depends on the cells alone that they need, and on each cell that they change.
use Rattle.std.proofs.Common.{◌≡◌, ℕ, pos, ◌+ℤ◌, Bool, true, false, cond, Option, Some, None, List, [], ◌∷◌, ◌++◌, map, refl, sym, ap, ◌∙◌}
use Rattle.std.specs.Prelude.{◌==◌, ◌&&◌, is_some, slice_get}
use Rattle.std.specs.List.{list_any, list_all, filter}
use Rattle.std.proofs.lemmas.Bool.{or_left, or_right}
use Rattle.flu_lemmas.proofs.TwoNumbers.{made_alike}
use Rattle.flu_model.specs.declared.events.Cell.{Cell}
use Rattle.flu_model.specs.declared.events.Event.{Event}
use Rattle.flu_model.specs.declared.events.Worth.{Worth}
use Rattle.flu_model.specs.declared.events.Worth.TheVariants.{Last}
use Rattle.flu_model.specs.declared.jobs.Family.{Family}
use Rattle.flu_model.specs.declared.jobs.Piece.{Piece}
use Rattle.flu_model.specs.declared.jobs.Piece.TheVariants.{Plain, Value as ValueField, Key as KeyField, Item as ItemField, Time as TimeField}
use Rattle.flu_model.specs.declared.jobs.Piece.TheVariants.{Read as ReadField, CellValue, FamilyCell}
use Rattle.flu_model.specs.declared.jobs.Act.{Act}
use Rattle.flu_model.specs.declared.jobs.Act.TheVariants.{Add, Raise, Set, Clear, ClearFamily, Emit, Flush}
use Rattle.flu_model.specs.declared.jobs.Action.{Action}
use Rattle.flu_model.specs.Contents.{Contents, cell, is_same_cell, with_worth, added, raised, held_keys, all_keys}
use Rattle.flu_model.specs.Expressions.{item_of, cell_of, value_of_expr}
use Rattle.flu_model.specs.Texts.{Showing, neutral_of, worth_text, key_in, pieces_text, piece_text}
use Rattle.flu_model.specs.Updates.{changes_to, effect_of_act, effect_of_action, effect_of_actions, passes_guard, with_keys}
use Rattle.flu_model.specs.Rules.{act_fits, action_fits, flush_piece_fits, flush_template_fits, are_apart, is_keyed}
use Rattle.flu_model.specs.Modes.{means, guard_reads, piece_reads}
use Rattle.flu_laws.specs.Changes.{hits, amount_of_act, amount_added, level_of_act, level_reached, higher}
use Rattle.flu_lemmas.proofs.Tests.{and_left, and_right}
use Rattle.flu_lemmas.proofs.Numbers.{same_number}
use Rattle.flu_laws.proofs.Reading.{Agree, act_needs, action_needs, value-agree, guard-agree, pieces-agree}

-- the templates of a flush read no cell by name, but whole other families, at whatever key is flushed; `own` is the key of the tag
flush_piece-agree : (show : Showing) (families : List Family) (f own : ℕ) (q : Piece) (v : Bool) (s t : Contents) (x : Event) (k : ℕ) (h : Option Worth)
    → flush_piece_fits families f v q ≡ true → Agree (λ c. piece_reads own c q) s t → piece_text show families q s x k h ≡ piece_text show families q t x k h
flush_piece-agree show families f own (Plain u) v s t x k h fits same = refl
flush_piece-agree show families f own ValueField v s t x k h fits same = refl
flush_piece-agree show families f own KeyField v s t x k h fits same = refl
flush_piece-agree show families f own ItemField v s t x k h fits same = refl
flush_piece-agree show families f own TimeField v s t x k h fits same = refl
flush_piece-agree show families f own (ReadField r) v s t x k h fits same = cc
flush_piece-agree show families f own CellValue v s t x k h fits same = refl
flush_piece-agree show families f own (FamilyCell g) v s t x k h fits same =
    ap (worth_text (neutral_of (slice_get families g))) (same (cell g (key_in (slice_get families g) k)) (same_number g))

flush_pieces-agree : (show : Showing) (families : List Family) (f own : ℕ) (qs : List Piece) (v : Bool) (s t : Contents) (x : Event) (k : ℕ)
    (h : Option Worth) → list_all (flush_piece_fits families f v) qs ≡ true → Agree (λ c. list_any (piece_reads own c) qs) s t
    → pieces_text show families qs s x k h ≡ pieces_text show families qs t x k h
flush_pieces-agree show families f own [] v s t x k h fits same = refl
flush_pieces-agree show families f own (q ∷ qs) v s t x k h fits same =
    λ i. flush_piece-agree show families f own q v s t x k h (and_left _ _ fits) (λ c r. same c (or_left _ _ r)) i
    ++ flush_pieces-agree show families f own qs v s t x k h (and_right _ _ fits) (λ c r. same c (or_right (piece_reads own c q) _ r)) i

-- the cells of a family, by key
abbrev row : Contents → ℕ → ℕ → Option Worth
row s f = λ k. s (cell f k)

row-agree : (s t : Contents) (f : ℕ) → ((k : ℕ) → s (cell f k) ≡ t (cell f k)) → row s f ≡ row t f
row-agree s t f same = λ i k. same k i

-- one cell that is changed by what it holds
changed-agree : (s t : Contents) (c d : Cell) (f g : Option Worth → Option Worth) → s c ≡ t c → ((w : Option Worth) → f w ≡ g w)
    → with_worth s d (f (s d)) c ≡ with_worth t d (g (t d)) c
changed-agree s t c d f g here same =
    elim (is_same_cell c d) as (λ b. is_same_cell c d ≡ b → cond b (f (s d)) (s c) ≡ cond b (g (t d)) (t c)) [
      | true ↦ λ e. let is : c ≡ d = made_alike cell c.family c.key d.family d.key e in
          sym (ap (λ u. f (s u)) is) ∙ ap f here ∙ same (t c) ∙ ap (λ u. g (t u)) is
      | false ↦ λ e. here
    ] refl

module _ (show : Showing) (families : List Family) (keyed has_value : Bool) (x : Event) (key : ℕ) where
  family-agree : (f : ℕ) (qs : List Piece) (s t : Contents) → Agree (λ c. act_needs key c (Flush f qs)) s t → (k : ℕ) → s (cell f k) ≡ t (cell f k)
  family-agree f qs s t same k = same (cell f k) (or_left (f == f) _ (same_number f))

  pub act_texts-agree : (a : Act) (s t : Contents) → act_fits families keyed has_value a ≡ true → Agree (λ c. act_needs key c a) s t
      → (effect_of_act show families a s x key).texts ≡ (effect_of_act show families a t x key).texts
  act_texts-agree (Add r e) s t fits same = refl
  act_texts-agree (Raise r e) s t fits same = refl
  act_texts-agree (Set r e) s t fits same = refl
  act_texts-agree (Clear r) s t fits same = refl
  act_texts-agree (ClearFamily f) s t fits same = refl
  act_texts-agree (Emit qs) s t fits same = ap (λ u. u ∷ []) (pieces-agree show families qs s t x key None same)
  act_texts-agree (Flush f qs) s t fits same =
      let rows : row s f ≡ row t f = row-agree s t f (family-agree f qs s t same) in
      let flushed : Showing = with_keys show (slice_get families f) in
      let before : ℕ → List ℕ = λ k. pieces_text flushed families qs s x k (s (cell f k)) in
      let after : ℕ → List ℕ = λ k. pieces_text flushed families qs t x k (s (cell f k)) in
      let texts : before ≡ after =
      (λ i k. flush_pieces-agree flushed families f key qs has_value s t x k (s (cell f k))
      (and_left _ _ (and_left (list_all (flush_piece_fits families f has_value) qs && are_apart qs) _
      (and_right (is_keyed (slice_get families f)) (flush_template_fits families f has_value qs) fits)))
      (λ c r. same c (or_right (c.family == f) _ r)) i) in
      ap (λ g. map g (held_keys s f)) texts
      ∙ ap (λ (h : ℕ → Option Worth). map (λ k. pieces_text flushed families qs t x k (h k)) (filter (λ k. is_some (h k)) all_keys)) rows

  pub act_cells-agree : (a : Act) (s t : Contents) → Agree (λ c. act_needs key c a) s t → (c : Cell) → s c ≡ t c
      → (effect_of_act show families a s x key).cells c ≡ (effect_of_act show families a t x key).cells c
  act_cells-agree (Add r e) s t same c here = changed-agree s t c (cell_of r key (item_of x)) (λ w. added w (value_of_expr e s x key))
      (λ w. added w (value_of_expr e t x key)) here (λ w. ap (added w) (value-agree e s t x key same))
  act_cells-agree (Raise r e) s t same c here = changed-agree s t c (cell_of r key (item_of x)) (λ w. raised w (value_of_expr e s x key))
      (λ w. raised w (value_of_expr e t x key)) here (λ w. ap (raised w) (value-agree e s t x key same))
  act_cells-agree (Set r e) s t same c here = λ i. cond (is_same_cell c (cell_of r key (item_of x)))
      (Some (Last (value-agree e s t x key (λ d h. same d (or_right (means key d r) _ h)) i))) (here i)
  act_cells-agree (Clear r) s t same c here = λ i. cond (is_same_cell c (cell_of r key (item_of x))) None (here i)
  act_cells-agree (ClearFamily f) s t same c here = λ i. cond (c.family == f) None (here i)
  act_cells-agree (Emit qs) s t same c here = here
  act_cells-agree (Flush f qs) s t same c here = λ i. cond (c.family == f) None (here i)

  -- ---- actions
  pub action_texts-agree : (a : Action) (s t : Contents) → action_fits families keyed has_value a ≡ true → Agree (λ c. action_needs key c a) s t
      → (effect_of_action show families a s x key).texts ≡ (effect_of_action show families a t x key).texts
  action_texts-agree a s t fits same =
      let guards : passes_guard a.guard s x key ≡ passes_guard a.guard t x key = guard-agree a.guard s t x key (λ c h. same c (or_left _ _ h)) in
      ap (λ b. (cond b (effect_of_act show families a.act s x key) (changes_to s)).texts) guards
      ∙ (elim (passes_guard a.guard t x key) as (λ b. (cond b (effect_of_act show families a.act s x key) (changes_to s)).texts ≡
      (cond b (effect_of_act show families a.act t x key) (changes_to t)).texts) [
        | true ↦ act_texts-agree a.act s t (and_left _ _ fits) (λ c h. same c (or_right (guard_reads key c a.guard) _ h))
        | false ↦ refl
      ])

  pub action_cells-agree : (a : Action) (s t : Contents) → Agree (λ c. action_needs key c a) s t → (c : Cell) → s c ≡ t c
      → (effect_of_action show families a s x key).cells c ≡ (effect_of_action show families a t x key).cells c
  action_cells-agree a s t same c here =
      let guards : passes_guard a.guard s x key ≡ passes_guard a.guard t x key = guard-agree a.guard s t x key (λ c h. same c (or_left _ _ h)) in
      ap (λ b. (cond b (effect_of_act show families a.act s x key) (changes_to s)).cells c) guards
      ∙ (elim (passes_guard a.guard t x key) as (λ b. (cond b (effect_of_act show families a.act s x key) (changes_to s)).cells c ≡
      (cond b (effect_of_act show families a.act t x key) (changes_to t)).cells c) [
        | true ↦ act_cells-agree a.act s t (λ c h. same c (or_right (guard_reads key c a.guard) _ h)) c here
        | false ↦ here
      ])

  -- the cells that some of the actions need
  abbrev pub needed_by : List Action → Cell → Bool
  needed_by all c = list_any (action_needs key c) all

  pub rest-agree : (a : Action) (all : List Action) (s t : Contents) → Agree (needed_by (a ∷ all)) s t
      → Agree (needed_by all) (effect_of_action show families a s x key).cells (effect_of_action show families a t x key).cells
  rest-agree a all s t same c h = action_cells-agree a s t (λ d g. same d (or_left _ _ g)) c (same c (or_right (action_needs key c a) _ h))

  pub texts-agree : (all : List Action) (s t : Contents) → list_all (action_fits families keyed has_value) all ≡ true → Agree (needed_by all) s t
      → (effect_of_actions show families all s x key).texts ≡ (effect_of_actions show families all t x key).texts
  texts-agree [] s t fits same = refl
  texts-agree (a ∷ all) s t fits same =
      λ i. action_texts-agree a s t (and_left _ _ fits) (λ c h. same c (or_left _ _ h)) i
      ++ texts-agree all (effect_of_action show families a s x key).cells (effect_of_action show families a t x key).cells (and_right _ _ fits)
      (rest-agree a all s t same) i

  pub cells-agree : (all : List Action) (s t : Contents) → Agree (needed_by all) s t → (c : Cell) → s c ≡ t c
      → (effect_of_actions show families all s x key).cells c ≡ (effect_of_actions show families all t x key).cells c
  cells-agree [] s t same c here = here
  cells-agree (a ∷ all) s t same c here =
      cells-agree all (effect_of_action show families a s x key).cells (effect_of_action show families a t x key).cells (rest-agree a all s t same) c
      (action_cells-agree a s t (λ d g. same d (or_left _ _ g)) c here)

  -- ---- amounts
  act_amount-agree : (a : Act) (s t : Contents) (c : Cell) → Agree (λ d. act_needs key d a) s t → amount_of_act a s x key c ≡ amount_of_act a t x key c
  act_amount-agree (Add r e) s t c same = ap (λ v. cond (hits x key c r) v (pos 0)) (value-agree e s t x key same)
  act_amount-agree (Raise r e) s t c same = refl
  act_amount-agree (Set r e) s t c same = refl
  act_amount-agree (Clear r) s t c same = refl
  act_amount-agree (ClearFamily f) s t c same = refl
  act_amount-agree (Emit qs) s t c same = refl
  act_amount-agree (Flush f qs) s t c same = refl

  act_level-agree : (a : Act) (s t : Contents) (c : Cell) → Agree (λ d. act_needs key d a) s t → level_of_act a s x key c ≡ level_of_act a t x key c
  act_level-agree (Add r e) s t c same = refl
  act_level-agree (Raise r e) s t c same = ap (λ v. cond (hits x key c r) (Some v) None) (value-agree e s t x key same)
  act_level-agree (Set r e) s t c same = refl
  act_level-agree (Clear r) s t c same = refl
  act_level-agree (ClearFamily f) s t c same = refl
  act_level-agree (Emit qs) s t c same = refl
  act_level-agree (Flush f qs) s t c same = refl

  pub amount-agree : (all : List Action) (s t : Contents) (c : Cell) → Agree (needed_by all) s t
      → amount_added show families all s x key c ≡ amount_added show families all t x key c
  amount-agree [] s t c same = refl
  amount-agree (a ∷ all) s t c same =
      let guards : passes_guard a.guard s x key ≡ passes_guard a.guard t x key = guard-agree a.guard s t x key (λ d h. same d (or_left _ _ (or_left _ _ h))) in
      let one : amount_of_act a.act s x key c ≡ amount_of_act a.act t x key c =
      act_amount-agree a.act s t c (λ d h. same d (or_left _ _ (or_right (guard_reads key d a.guard) _ h))) in
      λ i. cond (guards i) (one i) (pos 0)
      +ℤ amount-agree all (effect_of_action show families a s x key).cells (effect_of_action show families a t x key).cells c
      (rest-agree a all s t same) i

  pub level-agree : (all : List Action) (s t : Contents) (c : Cell) → Agree (needed_by all) s t
      → level_reached show families all s x key c ≡ level_reached show families all t x key c
  level-agree [] s t c same = refl
  level-agree (a ∷ all) s t c same =
      let guards : passes_guard a.guard s x key ≡ passes_guard a.guard t x key = guard-agree a.guard s t x key (λ d h. same d (or_left _ _ (or_left _ _ h))) in
      let one : level_of_act a.act s x key c ≡ level_of_act a.act t x key c =
      act_level-agree a.act s t c (λ d h. same d (or_left _ _ (or_right (guard_reads key d a.guard) _ h))) in
      λ i. higher (cond (guards i) (one i) None)
      (level-agree all (effect_of_action show families a s x key).cells (effect_of_action show families a t x key).cells c
      (rest-agree a all s t same) i)
