-- What actions do to a cell that they do not overwrite: nothing, a sum that is added, or a level that is reached.
use Rattle.std.proofs.Common.{◌≡◌, ℕ, ℤ, pos, true, false, cond, Option, Some, None, List, [], ◌∷◌, refl, sym, ap, subst, ◌∙◌, arith}
use Rattle.std.specs.List.{list_any}
use Rattle.std.proofs.lemmas.Grind.{common_steps}
use Rattle.flu_lemmas.proofs.TwoNumbers.{made_alike}
use Rattle.flu_model.specs.declared.events.Cell.{Cell}
use Rattle.flu_model.specs.declared.events.Event.{Event}
use Rattle.flu_model.specs.declared.events.Worth.{Worth}
use Rattle.flu_model.specs.declared.jobs.Family.{Family}
use Rattle.flu_model.specs.declared.jobs.Sort.TheVariants.{Sum as SumSort, Max as MaxSort}
use Rattle.flu_model.specs.declared.jobs.Act.{Act}
use Rattle.flu_model.specs.declared.jobs.Act.TheVariants.{Add, Raise, Set, Clear, ClearFamily, Emit, Flush}
use Rattle.flu_model.specs.declared.jobs.Action.{Action}
use Rattle.flu_model.specs.Contents.{Contents, cell, is_same_cell, with_worth, added, raised, joined_worth}
use Rattle.flu_model.specs.Expressions.{item_of, cell_of, value_of_expr}
use Rattle.flu_model.specs.Texts.{Showing}
use Rattle.flu_model.specs.Updates.{changes_to, effect_of_act, effect_of_action, effect_of_actions, passes_guard}
use Rattle.flu_model.specs.Modes.{act_overwrites, act_adds, act_raises}
use Rattle.flu_laws.specs.Changes.{hits, amount_of_act, amount_of_action, amount_added, level_of_act, level_of_action, level_reached, higher}
use Rattle.flu_lemmas.proofs.Booleans.{or_false_left, or_false_right}
use Rattle.flu_laws.proofs.Reading.{unmeant}
use Rattle.flu_laws.proofs.Values.{HoldsSort}
use Rattle.flu_laws.proofs.Algebra.{added-zero, added-added, added-holds, raised-raised, raised-joined, raised-holds}

same_cell-sym : (c d : Cell) → is_same_cell c d ≡ is_same_cell d c
same_cell-sym c d = grind (arith, common_steps)

-- a level, where there is one
abbrev pub raised_to : Option Worth → Option ℤ → Option Worth
raised_to w None = w
raised_to w (Some v) = raised w v

pub raised_to-joined : (a b : Option Worth) (v : Option ℤ) → HoldsSort MaxSort a → HoldsSort MaxSort b
    → raised_to (joined_worth a b) v ≡ joined_worth (raised_to a v) b
raised_to-joined a b None p q = refl
raised_to-joined a b (Some v) p q = raised-joined a b v p q

pub raised_to-holds : (a : Option Worth) (v : Option ℤ) → HoldsSort MaxSort a → HoldsSort MaxSort (raised_to a v)
raised_to-holds a None p = p
raised_to-holds a (Some v) p = raised-holds a v p

pub raised_to-higher : (w : Option Worth) (a b : Option ℤ) → raised_to (raised_to w a) b ≡ raised_to w (higher a b)
raised_to-higher w None b = refl
raised_to-higher w (Some u) None = refl
raised_to-higher w (Some u) (Some v) = raised-raised w u v

-- a change of the cell d, seen at c
there : (s : Contents) (d c : Cell) (f : Option Worth → Option Worth) → is_same_cell d c ≡ true → with_worth s d (f (s d)) c ≡ f (s c)
there s d c f e =
    let is : d ≡ c = made_alike cell d.family d.key c.family c.key e in
    ap (λ b. cond b (f (s d)) (s c)) (same_cell-sym c d ∙ e) ∙ ap (λ u. f (s u)) is

elsewhere : (s : Contents) (d c : Cell) (w : Option Worth) → is_same_cell d c ≡ false → with_worth s d w c ≡ s c
elsewhere s d c w e = ap (λ b. cond b w (s c)) (same_cell-sym c d ∙ e)

module _ (show : Showing) (families : List Family) (x : Event) (key : ℕ) (c : Cell) where
  -- ---- acts
  act_keeps : (a : Act) (s : Contents) → act_overwrites key c a ≡ false → act_adds key c a ≡ false → act_raises key c a ≡ false
      → (effect_of_act show families a s x key).cells c ≡ s c
  act_keeps (Add r e) s own add raise = elsewhere s (cell_of r key (item_of x)) c _ (unmeant r key (item_of x) c add)
  act_keeps (Raise r e) s own add raise = elsewhere s (cell_of r key (item_of x)) c _ (unmeant r key (item_of x) c raise)
  act_keeps (Set r e) s own add raise = elsewhere s (cell_of r key (item_of x)) c _ (unmeant r key (item_of x) c own)
  act_keeps (Clear r) s own add raise = elsewhere s (cell_of r key (item_of x)) c None (unmeant r key (item_of x) c own)
  act_keeps (ClearFamily f) s own add raise = ap (λ b. cond b None (s c)) own
  act_keeps (Emit qs) s own add raise = refl
  act_keeps (Flush f qs) s own add raise = ap (λ b. cond b None (s c)) own

  act_gains : (a : Act) (s : Contents) → act_overwrites key c a ≡ false → act_raises key c a ≡ false → HoldsSort SumSort (s c)
      → (effect_of_act show families a s x key).cells c ≡ added (s c) (amount_of_act a s x key c)
  act_gains (Add r e) s own raise holds =
      let d : Cell = cell_of r key (item_of x) in
      let v : ℤ = value_of_expr e s x key in
      elim (hits x key c r) as (λ b. hits x key c r ≡ b → with_worth s d (added (s d) v) c ≡ added (s c) (cond b v (pos 0))) [
        | true ↦ λ m. there s d c (λ w. added w v) m
        | false ↦ λ m. elsewhere s d c _ m ∙ sym (added-zero (s c) holds)
      ] refl
  act_gains (Raise r e) s own raise holds = act_keeps (Raise r e) s own refl raise ∙ sym (added-zero (s c) holds)
  act_gains (Set r e) s own raise holds = act_keeps (Set r e) s own refl refl ∙ sym (added-zero (s c) holds)
  act_gains (Clear r) s own raise holds = act_keeps (Clear r) s own refl refl ∙ sym (added-zero (s c) holds)
  act_gains (ClearFamily f) s own raise holds = act_keeps (ClearFamily f) s own refl refl ∙ sym (added-zero (s c) holds)
  act_gains (Emit qs) s own raise holds = sym (added-zero (s c) holds)
  act_gains (Flush f qs) s own raise holds = act_keeps (Flush f qs) s own refl refl ∙ sym (added-zero (s c) holds)

  act_reaches : (a : Act) (s : Contents) → act_overwrites key c a ≡ false → act_adds key c a ≡ false
      → (effect_of_act show families a s x key).cells c ≡ raised_to (s c) (level_of_act a s x key c)
  act_reaches (Add r e) s own add = act_keeps (Add r e) s own add refl
  act_reaches (Raise r e) s own add =
      let d : Cell = cell_of r key (item_of x) in
      let v : ℤ = value_of_expr e s x key in
      elim (hits x key c r) as (λ b. hits x key c r ≡ b → with_worth s d (raised (s d) v) c ≡ raised_to (s c) (cond b (Some v) None)) [
        | true ↦ λ m. there s d c (λ w. raised w v) m
        | false ↦ λ m. elsewhere s d c _ m
      ] refl
  act_reaches (Set r e) s own add = act_keeps (Set r e) s own refl refl
  act_reaches (Clear r) s own add = act_keeps (Clear r) s own refl refl
  act_reaches (ClearFamily f) s own add = act_keeps (ClearFamily f) s own refl refl
  act_reaches (Emit qs) s own add = refl
  act_reaches (Flush f qs) s own add = act_keeps (Flush f qs) s own refl refl

  -- ---- lists of actions
  pub keeps : (all : List Action) (s : Contents) → list_any (λ (a : Action). act_overwrites key c a.act) all ≡ false
      → list_any (λ (a : Action). act_adds key c a.act) all ≡ false → list_any (λ (a : Action). act_raises key c a.act) all ≡ false
      → (effect_of_actions show families all s x key).cells c ≡ s c
  keeps [] s own add raise = refl
  keeps (a ∷ all) s own add raise =
      keeps all (effect_of_action show families a s x key).cells (or_false_right (act_overwrites key c a.act) _ own)
      (or_false_right (act_adds key c a.act) _ add)
      (or_false_right (act_raises key c a.act) _ raise)
      ∙ (elim (passes_guard a.guard s x key) as (λ b. (cond b (effect_of_act show families a.act s x key) (changes_to s)).cells c ≡ s c) [
        | true ↦ act_keeps a.act s (or_false_left _ _ own) (or_false_left _ _ add) (or_false_left _ _ raise)
        | false ↦ refl
      ])

  pub gains : (all : List Action) (s : Contents) → list_any (λ (a : Action). act_overwrites key c a.act) all ≡ false
      → list_any (λ (a : Action). act_raises key c a.act) all ≡ false → HoldsSort SumSort (s c)
      → (effect_of_actions show families all s x key).cells c ≡ added (s c) (amount_added show families all s x key c)
  gains [] s own raise holds = sym (added-zero (s c) holds)
  gains (a ∷ all) s own raise holds =
      let first : (effect_of_action show families a s x key).cells c ≡ added (s c) (amount_of_action a s x key c) =
      elim (passes_guard a.guard s x key) as (λ b. (cond b (effect_of_act show families a.act s x key) (changes_to s)).cells c ≡ added (s c)
      (cond b (amount_of_act a.act s x key c) (pos 0))) [
        | true ↦ act_gains a.act s (or_false_left _ _ own) (or_false_left _ _ raise) holds
        | false ↦ sym (added-zero (s c) holds)
      ] in
      gains all (effect_of_action show families a s x key).cells (or_false_right (act_overwrites key c a.act) _ own)
      (or_false_right (act_raises key c a.act) _ raise) (subst (HoldsSort SumSort) (sym first) (added-holds (s c) _))
      ∙ ap (λ w. added w (amount_added show families all (effect_of_action show families a s x key).cells x key c)) first
      ∙ added-added (s c) (amount_of_action a s x key c) (amount_added show families all (effect_of_action show families a s x key).cells x key c)

  pub reaches : (all : List Action) (s : Contents) → list_any (λ (a : Action). act_overwrites key c a.act) all ≡ false
      → list_any (λ (a : Action). act_adds key c a.act) all ≡ false
      → (effect_of_actions show families all s x key).cells c ≡ raised_to (s c) (level_reached show families all s x key c)
  reaches [] s own add = refl
  reaches (a ∷ all) s own add =
      let first : (effect_of_action show families a s x key).cells c ≡ raised_to (s c) (level_of_action a s x key c) =
      elim (passes_guard a.guard s x key) as (λ b. (cond b (effect_of_act show families a.act s x key) (changes_to s)).cells c ≡ raised_to (s c)
      (cond b (level_of_act a.act s x key c) None)) [
        | true ↦ act_reaches a.act s (or_false_left _ _ own) (or_false_left _ _ add)
        | false ↦ refl
      ] in
      reaches all (effect_of_action show families a s x key).cells (or_false_right (act_overwrites key c a.act) _ own)
      (or_false_right (act_adds key c a.act) _ add)
      ∙ ap (λ w. raised_to w (level_reached show families all (effect_of_action show families a s x key).cells x key c)) first
      ∙ raised_to-higher (s c) (level_of_action a s x key c) (level_reached show families all (effect_of_action show families a s x key).cells x key c)
