-- The cells that a tag of the job names are cells of the job.
use Rattle.std.proofs.Common.{◌≡◌, ℕ, zero, suc, Bool, true, false, Option, Some, None, List, [], ◌∷◌, refl, ap, ◌∙◌}
use Rattle.std.specs.Prelude.{nat_lt, not, ◌==◌, ◌&&◌, ◌||◌, slice_get, length}
use Rattle.std.specs.List.{list_all}
use Rattle.std.proofs.lemmas.List.Folds.{list_all-append}
use Rattle.flu_lemmas.proofs.Booleans.{three_left}
use Rattle.flu_lemmas.proofs.Tests.{and_left, and_right, both}
use Rattle.flu_model.specs.declared.events.Cell.{Cell}
use Rattle.flu_model.specs.declared.events.Tag.{Tag}
use Rattle.flu_model.specs.declared.jobs.At.{At}
use Rattle.flu_model.specs.declared.jobs.At.TheVariants.{Alone, OwnKey, OwnItem, Fixed}
use Rattle.flu_model.specs.declared.jobs.CellRef.{CellRef}
use Rattle.flu_model.specs.declared.jobs.Expr.{Expr}
use Rattle.flu_model.specs.declared.jobs.Expr.TheVariants.{Lit, Value, Key, Item, Time, Read, Has, Neg', Not', Two'}
use Rattle.flu_model.specs.declared.jobs.Piece.{Piece}
use Rattle.flu_model.specs.declared.jobs.Piece.TheVariants.{Plain, Value as ValueField, Key as KeyField, Item as ItemField, Time as TimeField}
use Rattle.flu_model.specs.declared.jobs.Piece.TheVariants.{Read as ReadField, CellValue, FamilyCell}
use Rattle.flu_model.specs.declared.jobs.Act.{Act}
use Rattle.flu_model.specs.declared.jobs.Act.TheVariants.{Add, Raise, Set, Clear, ClearFamily, Emit, Flush}
use Rattle.flu_model.specs.declared.jobs.Action.{Action}
use Rattle.flu_model.specs.declared.jobs.Family.{Family}
use Rattle.flu_model.specs.declared.jobs.Kind.{Kind}
use Rattle.flu_model.specs.declared.jobs.Program.{Program}
use Rattle.flu_model.specs.Contents.{cell, key_count}
use Rattle.flu_model.specs.Expressions.{key_of, cell_of}
use Rattle.flu_model.specs.Rules.{family_fits, is_declared, is_keyed, ref_fits, expr_fits, is_good_expr, guard_fits, emit_piece_fits, flush_piece_fits}
use Rattle.flu_model.specs.Rules.{flush_template_fits, are_apart, is_short, act_fits, action_fits, kind_fits, tag_fits}
use Rattle.flu_model.specs.Templates.{written_template}
use Rattle.flu_model.specs.Updates.{actions_of}
use Rattle.flu_model.specs.Sorts.{key_is_in, is_cell_of}
use Rattle.flu_deps.specs.LoopNamed.{expr_cells, guard_cells, piece_cells, pieces_cells, act_cells, action_cells, actions_cells}
use Rattle.flu_deps.proofs.ConflictLemmas.{named}

-- ---- keys
keyed_in : (b : Bool) (key : ℕ) → b ≡ true → nat_lt key key_count ≡ true → ((b && nat_lt key key_count) || (not b && (key == 0))) ≡ true
keyed_in true key e lt = ap (λ x. x || false) lt
keyed_in false key e lt = cc

unkeyed_in : (b : Bool) → not b ≡ true → ((b && nat_lt 0 key_count) || (not b && (0 == 0))) ≡ true
unkeyed_in true e = cc
unkeyed_in false e = refl

key_in : (o : Option Family) (keyed : Bool) (at : At) (key : ℕ) → nat_lt key key_count ≡ true → family_fits o keyed at ≡ true
    → key_is_in o (key_of at key 0) ≡ true
key_in None keyed at key lt fits = cc
key_in (Some f) keyed Alone key lt fits = unkeyed_in f.keyed fits
key_in (Some f) keyed OwnKey key lt fits = keyed_in f.keyed key (and_left f.keyed keyed fits) lt
key_in (Some f) keyed OwnItem key lt fits = keyed_in f.keyed 0 fits refl
key_in (Some f) keyed (Fixed k) key lt fits = keyed_in f.keyed k (and_left f.keyed (nat_lt k key_count) fits) (and_right f.keyed (nat_lt k key_count) fits)

declared_in : (o : Option Family) → is_declared o ≡ true → key_is_in o 0 ≡ true
declared_in None there = cc
declared_in (Some f) there = any_in f.keyed
  where
    any_in : (b : Bool) → ((b && nat_lt 0 key_count) || (not b && (0 == 0))) ≡ true
    any_in true = refl
    any_in false = refl

first_key_in : (o : Option Family) → is_keyed o ≡ true → key_is_in o 0 ≡ true
first_key_in None keyed = cc
first_key_in (Some f) keyed = keyed_in f.keyed 0 keyed refl

module _ (families : List Family) (keyed has_value : Bool) (key : ℕ) (lt : nat_lt key key_count ≡ true) where
  one_cell : (r : CellRef) → ref_fits families keyed r ≡ true → list_all (is_cell_of families) (cell_of r key 0 ∷ []) ≡ true
  one_cell r fits = both (is_cell_of families (cell_of r key 0)) true (key_in (slice_get families r.family) keyed r.at key lt fits) refl

  expr_in : (e : Expr) → expr_fits families keyed has_value e ≡ true → list_all (is_cell_of families) (expr_cells key e) ≡ true
  expr_in (Lit n) fits = refl
  expr_in Value fits = refl
  expr_in Key fits = refl
  expr_in Item fits = refl
  expr_in Time fits = refl
  expr_in (Read r) fits = one_cell r fits
  expr_in (Has r) fits = one_cell r fits
  expr_in (Neg' p e) fits = expr_in e fits
  expr_in (Not' p e) fits = expr_in e fits
  expr_in (Two' op p a q b) fits =
      list_all-append (is_cell_of families) (expr_cells key a) (expr_cells key b)
      ∙ both (list_all (is_cell_of families) (expr_cells key a)) (list_all (is_cell_of families) (expr_cells key b))
      (expr_in a (and_left (expr_fits families keyed has_value a) (expr_fits families keyed has_value b) fits))
      (expr_in b (and_right (expr_fits families keyed has_value a) (expr_fits families keyed has_value b) fits))

  good_expr_in : (e : Expr) → is_good_expr families keyed has_value e ≡ true → list_all (is_cell_of families) (expr_cells key e) ≡ true
  good_expr_in e fits = expr_in e (and_left (expr_fits families keyed has_value e) _ fits)

  guard_in : (g : Option Expr) → guard_fits families keyed has_value g ≡ true → list_all (is_cell_of families) (guard_cells key g) ≡ true
  guard_in None fits = refl
  guard_in (Some e) fits = good_expr_in e fits

  emit_piece_in : (q : Piece) → emit_piece_fits families keyed has_value q ≡ true → list_all (is_cell_of families) (piece_cells key q) ≡ true
  emit_piece_in (Plain t) fits = refl
  emit_piece_in ValueField fits = refl
  emit_piece_in KeyField fits = refl
  emit_piece_in ItemField fits = refl
  emit_piece_in TimeField fits = refl
  emit_piece_in (ReadField r) fits = one_cell r fits
  emit_piece_in CellValue fits = refl
  emit_piece_in (FamilyCell f) fits = cc

  flush_piece_in : (flushed : ℕ) (q : Piece) → flush_piece_fits families flushed has_value q ≡ true → list_all (is_cell_of families) (piece_cells key q) ≡ true
  flush_piece_in flushed (Plain t) fits = refl
  flush_piece_in flushed ValueField fits = refl
  flush_piece_in flushed KeyField fits = refl
  flush_piece_in flushed ItemField fits = refl
  flush_piece_in flushed TimeField fits = refl
  flush_piece_in flushed (ReadField r) fits = cc
  flush_piece_in flushed CellValue fits = refl
  flush_piece_in flushed (FamilyCell f) fits =
      both (is_cell_of families (cell f 0)) true
      (declared_in (slice_get families f) (and_left (is_declared (slice_get families f)) (not (f == flushed)) fits)) refl

  pieces_in : (test : Piece → Bool) → ((q : Piece) → test q ≡ true → list_all (is_cell_of families) (piece_cells key q) ≡ true) → (qs : List Piece)
      → list_all test qs ≡ true → list_all (is_cell_of families) (pieces_cells key qs) ≡ true
  pieces_in test one [] fits = refl
  pieces_in test one (q ∷ qs) fits =
      list_all-append (is_cell_of families) (piece_cells key q) (pieces_cells key qs)
      ∙ both (list_all (is_cell_of families) (piece_cells key q)) (list_all (is_cell_of families) (pieces_cells key qs))
      (one q (and_left (test q) (list_all test qs) fits)) (pieces_in test one qs (and_right (test q) (list_all test qs) fits))

  target_in : (r : CellRef) (e : Expr) (sort : Bool) → (ref_fits families keyed r && sort && is_good_expr families keyed has_value e) ≡ true
      → list_all (is_cell_of families) (cell_of r key 0 ∷ expr_cells key e) ≡ true
  target_in r e sort fits =
      let front : (ref_fits families keyed r && sort) ≡ true = and_left (ref_fits families keyed r && sort) (is_good_expr families keyed has_value e) fits in
      both (is_cell_of families (cell_of r key 0)) (list_all (is_cell_of families) (expr_cells key e))
      (key_in (slice_get families r.family) keyed r.at key lt (and_left (ref_fits families keyed r) sort front))
      (good_expr_in e (and_right (ref_fits families keyed r && sort) (is_good_expr families keyed has_value e) fits))

  act_in : (a : Act) → act_fits families keyed has_value a ≡ true → list_all (is_cell_of families) (act_cells key a) ≡ true
  act_in (Add r e) fits = target_in r e _ fits
  act_in (Raise r e) fits = target_in r e _ fits
  act_in (Set r e) fits = target_in r e _ fits
  act_in (Clear r) fits = one_cell r fits
  act_in (ClearFamily f) fits = both (is_cell_of families (cell f 0)) true (first_key_in (slice_get families f) fits) refl
  act_in (Emit qs) fits =
      let test : Piece → Bool = emit_piece_fits families keyed has_value in
      pieces_in test emit_piece_in qs (three_left (list_all test qs) (are_apart qs) (is_short (written_template families qs)) fits)
  act_in (Flush f qs) fits =
      both (is_cell_of families (cell f 0)) (list_all (is_cell_of families) (pieces_cells key qs))
      (first_key_in (slice_get families f) (and_left (is_keyed (slice_get families f)) (flush_template_fits families f has_value qs) fits))
      (pieces_in (flush_piece_fits families f has_value) (flush_piece_in f) qs
      (three_left (list_all (flush_piece_fits families f has_value) qs) (are_apart qs) (is_short (written_template families qs))
      (and_right (is_keyed (slice_get families f)) (flush_template_fits families f has_value qs) fits)))

  actions_in : (all : List Action) → list_all (action_fits families keyed has_value) all ≡ true → list_all (is_cell_of families) (actions_cells key all) ≡ true
  actions_in [] fits = refl
  actions_in (a ∷ all) fits =
      let one : action_fits families keyed has_value a ≡ true =
      and_left (action_fits families keyed has_value a) (list_all (action_fits families keyed has_value) all) fits in
      list_all-append (is_cell_of families) (action_cells key a) (actions_cells key all)
      ∙ both (list_all (is_cell_of families) (action_cells key a)) (list_all (is_cell_of families) (actions_cells key all))
      (list_all-append (is_cell_of families) (guard_cells key a.guard) (act_cells key a.act)
      ∙ both (list_all (is_cell_of families) (guard_cells key a.guard)) (list_all (is_cell_of families) (act_cells key a.act))
      (guard_in a.guard (and_right (act_fits families keyed has_value a.act) (guard_fits families keyed has_value a.guard) one))
      (act_in a.act (and_left (act_fits families keyed has_value a.act) (guard_fits families keyed has_value a.guard) one)))
      (actions_in all (and_right (action_fits families keyed has_value a) (list_all (action_fits families keyed has_value) all) fits))

kind_in : (families : List Family) (kinds : List Kind) (n key : ℕ) → nat_lt key key_count ≡ true → list_all (kind_fits families) kinds ≡ true
    → list_all (is_cell_of families) (actions_cells key (actions_of (slice_get kinds n))) ≡ true
kind_in families [] n key lt fits = refl
kind_in families (k ∷ ks) zero key lt fits =
    actions_in families k.keyed k.has_value key lt k.actions (and_right _ _ (and_left (kind_fits families k) (list_all (kind_fits families) ks) fits))
kind_in families (k ∷ ks) (suc n) key lt fits = kind_in families ks n key lt (and_right (kind_fits families k) (list_all (kind_fits families) ks) fits)

tag_in : (p : Program) (t : Tag) → tag_fits p.kinds t ≡ true
    → list_all (is_cell_of p.families) (actions_cells t.key (actions_of (slice_get p.kinds t.kind))) ≡ true
tag_in p t fits = kind_in p.families p.kinds t.kind t.key (and_right (nat_lt t.kind (length p.kinds)) (nat_lt t.key key_count) fits) p.kinds_fit

pub named_in : (p : Program) (a b : Tag) → (tag_fits p.kinds a && tag_fits p.kinds b) ≡ true → list_all (is_cell_of p.families) (named p a b) ≡ true
named_in p a b fits =
    let first : List Cell = actions_cells a.key (actions_of (slice_get p.kinds a.kind)) in
    let second : List Cell = actions_cells b.key (actions_of (slice_get p.kinds b.kind)) in
    list_all-append (is_cell_of p.families) first second
    ∙ both (list_all (is_cell_of p.families) first) (list_all (is_cell_of p.families) second)
    (tag_in p a (and_left (tag_fits p.kinds a) (tag_fits p.kinds b) fits)) (tag_in p b (and_right (tag_fits p.kinds a) (tag_fits p.kinds b) fits))
