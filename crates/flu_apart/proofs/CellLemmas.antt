-- The cells that actions name are those that they use; where they use a family as a whole, its first cell stands for those that nothing names.
use Rattle.std.proofs.Common.{◌≡◌, ℕ, Bool, true, false, cond, Option, Some, None, List, [], ◌∷◌, ◌++◌, ◌⊎◌, inl, inr, refl, sym, ◌∙◌}
use Rattle.std.specs.Prelude.{◌==◌, ◌||◌}
use Rattle.std.specs.List.{list_any}
use Rattle.std.proofs.lemmas.Bool.{or_left, or_right, or_cases}
use Rattle.std.proofs.lemmas.List.Folds.{list_any-append}
use Rattle.flu_lemmas.proofs.Numbers.{same_turns}
use Rattle.flu_lemmas.proofs.Tests.{and_left, both}
use Rattle.flu_model.specs.declared.events.Cell.{Cell}
use Rattle.flu_model.specs.declared.jobs.At.{At}
use Rattle.flu_model.specs.declared.jobs.At.TheVariants.{Alone, OwnKey, OwnItem, Fixed}
use Rattle.flu_model.specs.declared.jobs.CellRef.{CellRef}
use Rattle.flu_model.specs.declared.jobs.Expr.{Expr}
use Rattle.flu_model.specs.declared.jobs.Expr.TheVariants.{Lit, Value, Key, Item, Time, Read, Has, Neg', Not', Two'}
use Rattle.flu_model.specs.declared.jobs.Piece.{Piece}
use Rattle.flu_model.specs.declared.jobs.Piece.TheVariants.{Plain, Value as ValueField, Key as KeyField, Item as ItemField, Time as TimeField}
use Rattle.flu_model.specs.declared.jobs.Piece.TheVariants.{Read as ReadField, CellValue, FamilyCell}
use Rattle.flu_model.specs.declared.jobs.Act.{Act}
use Rattle.flu_model.specs.declared.jobs.Act.TheVariants.{Add, Raise, Set, Clear, ClearFamily, Emit, Flush}
use Rattle.flu_model.specs.declared.jobs.Action.{Action}
use Rattle.flu_model.specs.Contents.{cell, is_same_cell}
use Rattle.flu_model.specs.Expressions.{key_of, cell_of}
use Rattle.flu_model.specs.Modes.{means, expr_reads, guard_reads, piece_reads, act_reads, action_reads}
use Rattle.flu_model.specs.Modes.{act_overwrites, act_adds, act_raises, mode_in_version_1, mode_with_reads, mode_from, mode_among, uses}
use Rattle.flu_deps.specs.LoopNamed.{expr_cells, guard_cells, piece_cells, pieces_cells, act_cells, action_cells, actions_cells}
use Rattle.flu_laws.specs.Uses.{needs}

-- whether c is among some cells
abbrev pub names : Cell → List Cell → Bool
names c cs = list_any (λ d. is_same_cell d c) cs

-- the first cell of the family of a cell
abbrev pub first : Cell → Cell
first c = cell c.family 0

-- a cell is named, or the first cell of its family is named and is used in the same way
abbrev pub Shown : Cell → List Cell → Bool → Type 0
Shown c cs first_used = (names c cs ≡ true) ⊎ ((names (first c) cs ≡ true) × (first_used ≡ true))

shown_more : (c : Cell) (cs ds : List Cell) (x y : Bool) → ((d : Cell) → names d cs ≡ true → names d ds ≡ true) → (x ≡ true → y ≡ true) → Shown c cs x
    → Shown c ds y
shown_more c cs ds x y more used (inl named) = inl (more c named)
shown_more c cs ds x y more used (inr whole) = inr (more (first c) whole.0, used whole.1)

named_left : (cs ds : List Cell) (d : Cell) → names d cs ≡ true → names d (cs ++ ds) ≡ true
named_left cs ds d e = list_any-append (λ x. is_same_cell x d) cs ds ∙ or_left (names d cs) (names d ds) e

named_right : (cs ds : List Cell) (d : Cell) → names d ds ≡ true → names d (cs ++ ds) ≡ true
named_right cs ds d e = list_any-append (λ x. is_same_cell x d) cs ds ∙ or_right (names d cs) (names d ds) e

named_behind : (c : Cell) (ds : List Cell) (d : Cell) → names d ds ≡ true → names d (c ∷ ds) ≡ true
named_behind c ds d e = or_right (is_same_cell c d) (names d ds) e

-- what a reference means; by the event's item it means its whole family
ref_shown : (key : ℕ) (c : Cell) (family : ℕ) (at : At) (rest : List Cell) → means key c (record { family = family; at = at }) ≡ true
    → Shown c (cell family (key_of at key 0) ∷ rest) (means key (first c) (record { family = family; at = at }))
ref_shown key c family Alone rest meant = inl (or_left (is_same_cell (cell family 0) c) (names c rest) meant)
ref_shown key c family OwnKey rest meant = inl (or_left (is_same_cell (cell family key) c) (names c rest) meant)
ref_shown key c family OwnItem rest meant =
    let same : (family == c.family) ≡ true = and_left (family == c.family) true meant in
    inr (or_left (is_same_cell (cell family 0) (first c)) (names (first c) rest) (both (family == c.family) true same refl), meant)
ref_shown key c family (Fixed k) rest meant = inl (or_left (is_same_cell (cell family k) c) (names c rest) meant)

whole_shown : (c : Cell) (f : ℕ) (rest : List Cell) → (c.family == f) ≡ true → Shown c (cell f 0 ∷ rest) (c.family == f)
whole_shown c f rest same =
    inr (or_left (is_same_cell (cell f 0) (first c)) (names (first c) rest) (both (f == c.family) true (same_turns f c.family ∙ same) refl), same)

-- ---- what is read
expr_shown : (key : ℕ) (c : Cell) (e : Expr) → expr_reads key c e ≡ true → Shown c (expr_cells key e) (expr_reads key (first c) e)
expr_shown key c (Lit n) reads = cc
expr_shown key c Value reads = cc
expr_shown key c Key reads = cc
expr_shown key c Item reads = cc
expr_shown key c Time reads = cc
expr_shown key c (Read r) reads = ref_shown key c r.family r.at [] reads
expr_shown key c (Has r) reads = ref_shown key c r.family r.at [] reads
expr_shown key c (Neg' p e) reads = expr_shown key c e reads
expr_shown key c (Not' p e) reads = expr_shown key c e reads
expr_shown key c (Two' op p a q b) reads =
    let cs = expr_cells key a in
    let ds = expr_cells key b in
    let x = expr_reads key (first c) a in
    let y = expr_reads key (first c) b in
    elim (or_cases (expr_reads key c a) (expr_reads key c b) reads) [
      | inl left ↦ shown_more c cs (cs ++ ds) x (x || y) (named_left cs ds) (or_left x y) (expr_shown key c a left)
      | inr right ↦ shown_more c ds (cs ++ ds) y (x || y) (named_right cs ds) (or_right x y) (expr_shown key c b right)
    ]

guard_shown : (key : ℕ) (c : Cell) (g : Option Expr) → guard_reads key c g ≡ true → Shown c (guard_cells key g) (guard_reads key (first c) g)
guard_shown key c None reads = cc
guard_shown key c (Some e) reads = expr_shown key c e reads

piece_shown : (key : ℕ) (c : Cell) (q : Piece) → piece_reads key c q ≡ true → Shown c (piece_cells key q) (piece_reads key (first c) q)
piece_shown key c (Plain t) reads = cc
piece_shown key c ValueField reads = cc
piece_shown key c KeyField reads = cc
piece_shown key c ItemField reads = cc
piece_shown key c TimeField reads = cc
piece_shown key c (ReadField r) reads = ref_shown key c r.family r.at [] reads
piece_shown key c CellValue reads = cc
piece_shown key c (FamilyCell f) reads = whole_shown c f [] reads

pieces_shown : (key : ℕ) (c : Cell) (qs : List Piece) → list_any (piece_reads key c) qs ≡ true
    → Shown c (pieces_cells key qs) (list_any (piece_reads key (first c)) qs)
pieces_shown key c [] reads = cc
pieces_shown key c (q ∷ qs) reads =
    let cs = piece_cells key q in
    let ds = pieces_cells key qs in
    let x = piece_reads key (first c) q in
    let y = list_any (piece_reads key (first c)) qs in
    elim (or_cases (piece_reads key c q) (list_any (piece_reads key c) qs) reads) [
      | inl here ↦ shown_more c cs (cs ++ ds) x (x || y) (named_left cs ds) (or_left x y) (piece_shown key c q here)
      | inr later ↦ shown_more c ds (cs ++ ds) y (x || y) (named_right cs ds) (or_right x y) (pieces_shown key c qs later)
    ]

behind : (key : ℕ) (c : Cell) (r : CellRef) (e : Expr) → expr_reads key c e ≡ true → Shown c (cell_of r key 0 ∷ expr_cells key e) (expr_reads key (first c) e)
behind key c r e reads =
    let x = expr_reads key (first c) e in
    shown_more c (expr_cells key e) (cell_of r key 0 ∷ expr_cells key e) x x (named_behind (cell_of r key 0) (expr_cells key e)) (λ h. h)
    (expr_shown key c e reads)

act_read_shown : (key : ℕ) (c : Cell) (a : Act) → act_reads key c a ≡ true → Shown c (act_cells key a) (act_reads key (first c) a)
act_read_shown key c (Add r e) reads = behind key c r e reads
act_read_shown key c (Raise r e) reads = behind key c r e reads
act_read_shown key c (Set r e) reads = behind key c r e reads
act_read_shown key c (Clear r) reads = cc
act_read_shown key c (ClearFamily f) reads = cc
act_read_shown key c (Emit qs) reads = pieces_shown key c qs reads
act_read_shown key c (Flush f qs) reads =
    let x = list_any (piece_reads key (first c)) qs in
    shown_more c (pieces_cells key qs) (cell f 0 ∷ pieces_cells key qs) x x (named_behind (cell f 0) (pieces_cells key qs)) (λ h. h)
    (pieces_shown key c qs reads)

-- ---- what is overwritten, added to and raised
act_overwritten_shown : (key : ℕ) (c : Cell) (a : Act) → act_overwrites key c a ≡ true → Shown c (act_cells key a) (act_overwrites key (first c) a)
act_overwritten_shown key c (Add r e) own = cc
act_overwritten_shown key c (Raise r e) own = cc
act_overwritten_shown key c (Set r e) own = ref_shown key c r.family r.at (expr_cells key e) own
act_overwritten_shown key c (Clear r) own = ref_shown key c r.family r.at [] own
act_overwritten_shown key c (ClearFamily f) own = whole_shown c f [] own
act_overwritten_shown key c (Emit qs) own = cc
act_overwritten_shown key c (Flush f qs) own = whole_shown c f (pieces_cells key qs) own

act_added_shown : (key : ℕ) (c : Cell) (a : Act) → act_adds key c a ≡ true → Shown c (act_cells key a) (act_adds key (first c) a)
act_added_shown key c (Add r e) add = ref_shown key c r.family r.at (expr_cells key e) add
act_added_shown key c (Raise r e) add = cc
act_added_shown key c (Set r e) add = cc
act_added_shown key c (Clear r) add = cc
act_added_shown key c (ClearFamily f) add = cc
act_added_shown key c (Emit qs) add = cc
act_added_shown key c (Flush f qs) add = cc

act_raised_shown : (key : ℕ) (c : Cell) (a : Act) → act_raises key c a ≡ true → Shown c (act_cells key a) (act_raises key (first c) a)
act_raised_shown key c (Add r e) raise = cc
act_raised_shown key c (Raise r e) raise = ref_shown key c r.family r.at (expr_cells key e) raise
act_raised_shown key c (Set r e) raise = cc
act_raised_shown key c (Clear r) raise = cc
act_raised_shown key c (ClearFamily f) raise = cc
act_raised_shown key c (Emit qs) raise = cc
act_raised_shown key c (Flush f qs) raise = cc

-- ---- actions
in_act : (key : ℕ) (c : Cell) (a : Action) (x y : Bool) → (x ≡ true → y ≡ true) → Shown c (act_cells key a.act) x → Shown c (action_cells key a) y
in_act key c a x y used shown =
    shown_more c (act_cells key a.act) (action_cells key a) x y (named_right (guard_cells key a.guard) (act_cells key a.act)) used shown

action_read_shown : (key : ℕ) (c : Cell) (a : Action) → action_reads key c a ≡ true → Shown c (action_cells key a) (action_reads key (first c) a)
action_read_shown key c a reads =
    let x = guard_reads key (first c) a.guard in
    let y = act_reads key (first c) a.act in
    elim (or_cases (guard_reads key c a.guard) (act_reads key c a.act) reads) [
      | inl guard ↦
          shown_more c (guard_cells key a.guard) (action_cells key a) x (x || y) (named_left (guard_cells key a.guard) (act_cells key a.act)) (or_left x y)
          (guard_shown key c a.guard guard)
      | inr act ↦ in_act key c a y (x || y) (or_right x y) (act_read_shown key c a.act act)
    ]

-- what some action uses, if each that does so shows it
some_shown : (key : ℕ) (c : Cell) (test : Cell → Action → Bool) → ((a : Action) → test c a ≡ true → Shown c (action_cells key a) (test (first c) a))
    → (all : List Action) → list_any (test c) all ≡ true → Shown c (actions_cells key all) (list_any (test (first c)) all)
some_shown key c test one [] any = cc
some_shown key c test one (a ∷ all) any =
    let cs = action_cells key a in
    let ds = actions_cells key all in
    let x = test (first c) a in
    let y = list_any (test (first c)) all in
    elim (or_cases (test c a) (list_any (test c) all) any) [
      | inl here ↦ shown_more c cs (cs ++ ds) x (x || y) (named_left cs ds) (or_left x y) (one a here)
      | inr later ↦ shown_more c ds (cs ++ ds) y (x || y) (named_right cs ds) (or_right x y) (some_shown key c test one all later)
    ]

not_named : (c : Cell) (cs : List Cell) (x : Bool) → (names c cs ≡ true → ⊥) → Shown c cs x → (names (first c) cs ≡ true) × (x ≡ true)
not_named c cs x none (inl named) = absurd (none named)
not_named c cs x none (inr whole) = whole

-- ---- a cell that actions use and do not name
used_is : (v : ℕ) (r o a x : Bool) → uses (mode_from v r o a x) ≡ (r || (o || (a || x)))
used_is v r o a x = elim (v == 1) as (λ b. uses (cond b (mode_in_version_1 r o a x) (mode_with_reads r o a x)) ≡ (r || (o || (a || x)))) [
  | true ↦ in_first r o a x
  | false ↦ in_later r o a x
]
  where
    in_first : (r o a x : Bool) → uses (mode_in_version_1 r o a x) ≡ (r || (o || (a || x)))
    in_first true o a x = refl
    in_first false true a x = refl
    in_first false false true x = refl
    in_first false false false true = refl
    in_first false false false false = refl

    in_later : (r o a x : Bool) → uses (mode_with_reads r o a x) ≡ (r || (o || (a || x)))
    in_later true true a x = refl
    in_later true false true x = refl
    in_later true false false true = refl
    in_later true false false false = refl
    in_later false true a x = refl
    in_later false false true x = refl
    in_later false false false true = refl
    in_later false false false false = refl

needed_is : (v : ℕ) (r o a x : Bool) → needs (mode_from v r o a x) ≡ (r || o)
needed_is v r o a x = elim (v == 1) as (λ b. needs (cond b (mode_in_version_1 r o a x) (mode_with_reads r o a x)) ≡ (r || o)) [
  | true ↦ in_first r o a x
  | false ↦ in_later r o a x
]
  where
    in_first : (r o a x : Bool) → needs (mode_in_version_1 r o a x) ≡ (r || o)
    in_first true o a x = refl
    in_first false true a x = refl
    in_first false false true x = refl
    in_first false false false true = refl
    in_first false false false false = refl

    in_later : (r o a x : Bool) → needs (mode_with_reads r o a x) ≡ (r || o)
    in_later true true a x = refl
    in_later true false true x = refl
    in_later true false false true = refl
    in_later true false false false = refl
    in_later false true a x = refl
    in_later false false true x = refl
    in_later false false false true = refl
    in_later false false false false = refl

-- the first cell of the family is named, and used
abbrev pub FirstToo : Cell → List Cell → Bool → Type 0
FirstToo c cs used = (names (first c) cs ≡ true) × (used ≡ true)

either_too : (c : Cell) (cs : List Cell) (x y x2 y2 : Bool) → (x || y) ≡ true → (x ≡ true → FirstToo c cs x2) → (y ≡ true → FirstToo c cs y2)
    → FirstToo c cs (x2 || y2)
either_too c cs x y x2 y2 e left right =
    elim (or_cases x y e) [
      | inl h ↦ ((left h).0, or_left x2 y2 (left h).1)
      | inr h ↦ ((right h).0, or_right x2 y2 (right h).1)
    ]

module _ (v : ℕ) (all : List Action) (key : ℕ) (c : Cell) (none : names c (actions_cells key all) ≡ true → ⊥) where
  abbrev reads : Cell → Bool
  reads d = list_any (action_reads key d) all

  abbrev overwrites : Cell → Bool
  overwrites d = list_any (λ (a : Action). act_overwrites key d a.act) all

  abbrev adds : Cell → Bool
  adds d = list_any (λ (a : Action). act_adds key d a.act) all

  abbrev raises : Cell → Bool
  raises d = list_any (λ (a : Action). act_raises key d a.act) all

  abbrev Too : Bool → Type 0
  Too used = FirstToo c (actions_cells key all) used

  if_read : reads c ≡ true → Too (reads (first c))
  if_read any =
      not_named c (actions_cells key all) (reads (first c)) none (some_shown key c (action_reads key) (action_read_shown key c) all any)

  if_overwritten : overwrites c ≡ true → Too (overwrites (first c))
  if_overwritten any =
      not_named c (actions_cells key all) (overwrites (first c)) none
      (some_shown key c (λ d (a : Action). act_overwrites key d a.act)
      (λ a h. in_act key c a (act_overwrites key (first c) a.act) (act_overwrites key (first c) a.act) (λ e. e) (act_overwritten_shown key c a.act h)) all any)

  if_added : adds c ≡ true → Too (adds (first c))
  if_added any =
      not_named c (actions_cells key all) (adds (first c)) none
      (some_shown key c (λ d (a : Action). act_adds key d a.act)
      (λ a h. in_act key c a (act_adds key (first c) a.act) (act_adds key (first c) a.act) (λ e. e) (act_added_shown key c a.act h)) all any)

  if_raised : raises c ≡ true → Too (raises (first c))
  if_raised any =
      not_named c (actions_cells key all) (raises (first c)) none
      (some_shown key c (λ d (a : Action). act_raises key d a.act)
      (λ a h. in_act key c a (act_raises key (first c) a.act) (act_raises key (first c) a.act) (λ e. e) (act_raised_shown key c a.act h)) all any)

  -- the first cell of its family is named, and used
  pub first_is_used : uses (mode_among v all key c) ≡ true → FirstToo c (actions_cells key all) (uses (mode_among v all key (first c)))
  first_is_used used =
      let f = first c in
      let too : Too (reads f || (overwrites f || (adds f || raises f))) =
      either_too c (actions_cells key all) (reads c) (overwrites c || (adds c || raises c)) (reads f) (overwrites f || (adds f || raises f))
      (sym (used_is v (reads c) (overwrites c) (adds c) (raises c)) ∙ used) if_read
      (λ e. either_too c (actions_cells key all) (overwrites c) (adds c || raises c) (overwrites f) (adds f || raises f) e if_overwritten
      (λ g. either_too c (actions_cells key all) (adds c) (raises c) (adds f) (raises f) g if_added if_raised)) in
      (too.0, used_is v (reads f) (overwrites f) (adds f) (raises f) ∙ too.1)

  -- and needed, if the cell is
  pub first_is_needed : needs (mode_among v all key c) ≡ true → needs (mode_among v all key (first c)) ≡ true
  first_is_needed needed =
      let f = first c in
      let too : Too (reads f || overwrites f) =
      either_too c (actions_cells key all) (reads c) (overwrites c) (reads f) (overwrites f)
      (sym (needed_is v (reads c) (overwrites c) (adds c) (raises c)) ∙ needed) if_read if_overwritten in
      needed_is v (reads f) (overwrites f) (adds f) (raises f) ∙ too.1
