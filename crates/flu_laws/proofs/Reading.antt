-- Expressions, guards and texts depend on the cells alone that they read.
use Rattle.std.proofs.Common.{◌≡◌, ℕ, Bool, true, false, Option, Some, None, List, [], ◌∷◌, ◌++◌, refl, ap, subst}
use Rattle.std.specs.Prelude.{not, ◌==◌, ◌||◌, is_some, neg_ℤ, slice_get}
use Rattle.std.specs.List.{list_any}
use Rattle.std.proofs.lemmas.Bool.{or_left, or_right}
use Rattle.flu_lemmas.proofs.Numbers.{same_number}
use Rattle.flu_lemmas.proofs.Tests.{both, not_both, false_if_not}
use Rattle.flu_lemmas.proofs.TwoNumbers.{made_alike}
use Rattle.flu_model.specs.declared.events.Cell.{Cell}
use Rattle.flu_model.specs.declared.events.Event.{Event}
use Rattle.flu_model.specs.declared.events.Worth.{Worth}
use Rattle.flu_model.specs.declared.jobs.Act.{Act}
use Rattle.flu_model.specs.declared.jobs.Action.{Action}
use Rattle.flu_model.specs.declared.jobs.At.{At}
use Rattle.flu_model.specs.declared.jobs.At.TheVariants.{Alone, OwnKey, OwnItem, Fixed}
use Rattle.flu_model.specs.declared.jobs.CellRef.{CellRef}
use Rattle.flu_model.specs.declared.jobs.Expr.{Expr}
use Rattle.flu_model.specs.declared.jobs.Expr.TheVariants.{Lit, Value, Key, Item, Time, Read, Has, Neg', Not', Two'}
use Rattle.flu_model.specs.declared.jobs.Family.{Family}
use Rattle.flu_model.specs.declared.jobs.Piece.{Piece}
use Rattle.flu_model.specs.declared.jobs.Piece.TheVariants.{Plain, Value as ValueField, Key as KeyField, Item as ItemField, Time as TimeField}
use Rattle.flu_model.specs.declared.jobs.Piece.TheVariants.{Read as ReadField, CellValue, FamilyCell}
use Rattle.flu_model.specs.Contents.{Contents, cell, is_same_cell, number_in}
use Rattle.flu_model.specs.Expressions.{item_of, key_of, cell_of, value_of_expr, clamped, as_number, is_true, result_of}
use Rattle.flu_model.specs.Texts.{Showing, neutral_of, worth_text, key_in, piece_text, pieces_text}
use Rattle.flu_model.specs.Updates.{passes_guard}
use Rattle.flu_model.specs.Modes.{is_at, means, expr_reads, guard_reads, piece_reads, act_reads, act_overwrites}

-- ---- the cell that a reference means at an event is one of those that it means for the event's tag
at_own : (at : At) (key item : ℕ) → is_at at key (key_of at key item) ≡ true
at_own Alone key item = refl
at_own OwnKey key item = same_number key
at_own OwnItem key item = refl
at_own (Fixed k) key item = same_number k

pub own_means : (r : CellRef) (key item : ℕ) → means key (cell_of r key item) r ≡ true
own_means r key item = both (r.family == r.family) _ (same_number r.family) (at_own r.at key item)

pub hit_means : (r : CellRef) (key item : ℕ) (c : Cell) → is_same_cell (cell_of r key item) c ≡ true → means key c r ≡ true
hit_means r key item c e =
    subst (λ (d : Cell). means key d r ≡ true) (made_alike cell r.family (key_of r.at key item) c.family c.key e) (own_means r key item)

pub unmeant : (r : CellRef) (key item : ℕ) (c : Cell) → means key c r ≡ false → is_same_cell (cell_of r key item) c ≡ false
unmeant r key item c e = false_if_not (is_same_cell (cell_of r key item) c) (λ h. not_both (means key c r) (hit_means r key item c h) e)

-- the cells that an act needs: those that it overwrites, and those that it reads
abbrev pub act_needs : ℕ → Cell → Act → Bool
act_needs key c a = act_overwrites key c a || act_reads key c a

abbrev pub action_needs : ℕ → Cell → Action → Bool
action_needs key c a = guard_reads key c a.guard || act_needs key c a.act

-- two states agree where a test holds
abbrev pub Agree : (Cell → Bool) → Contents → Contents → Type 0
Agree p s t = (c : Cell) → p c ≡ true → s c ≡ t c

pub value-agree : (e : Expr) (s t : Contents) (x : Event) (key : ℕ) → Agree (λ c. expr_reads key c e) s t → value_of_expr e s x key ≡ value_of_expr e t x key
value-agree (Lit n) s t x key same = refl
value-agree Value s t x key same = refl
value-agree Key s t x key same = refl
value-agree Item s t x key same = refl
value-agree Time s t x key same = refl
value-agree (Read r) s t x key same = ap number_in (same (cell_of r key (item_of x)) (own_means r key (item_of x)))
value-agree (Has r) s t x key same = ap (λ w. as_number (is_some w)) (same (cell_of r key (item_of x)) (own_means r key (item_of x)))
value-agree (Neg' p e) s t x key same = ap (λ v. clamped (neg_ℤ v)) (value-agree e s t x key same)
value-agree (Not' p e) s t x key same = ap (λ v. as_number (not (is_true v))) (value-agree e s t x key same)
value-agree (Two' op p a q b) s t x key same =
    λ i. result_of op (value-agree a s t x key (λ c h. same c (or_left _ _ h)) i)
    (value-agree b s t x key (λ c h. same c (or_right (expr_reads key c a) _ h)) i)

pub guard-agree : (g : Option Expr) (s t : Contents) (x : Event) (key : ℕ) → Agree (λ c. guard_reads key c g) s t
    → passes_guard g s x key ≡ passes_guard g t x key
guard-agree None s t x key same = refl
guard-agree (Some e) s t x key same = ap is_true (value-agree e s t x key same)

-- ---- the cells that a template reads, for a tag with this key
pub piece-agree : (show : Showing) (families : List Family) (q : Piece) (s t : Contents) (x : Event) (key : ℕ) (held : Option Worth)
    → Agree (λ c. piece_reads key c q) s t → piece_text show families q s x key held ≡ piece_text show families q t x key held
piece-agree show families (Plain u) s t x key held same = refl
piece-agree show families ValueField s t x key held same = refl
piece-agree show families KeyField s t x key held same = refl
piece-agree show families ItemField s t x key held same = refl
piece-agree show families TimeField s t x key held same = refl
piece-agree show families (ReadField r) s t x key held same = ap (worth_text (neutral_of (slice_get families r.family)))
    (same (cell_of r key (item_of x)) (own_means r key (item_of x)))
piece-agree show families CellValue s t x key held same = refl
piece-agree show families (FamilyCell f) s t x key held same =
    ap (worth_text (neutral_of (slice_get families f))) (same (cell f (key_in (slice_get families f) key)) (same_number f))

pub pieces-agree : (show : Showing) (families : List Family) (qs : List Piece) (s t : Contents) (x : Event) (key : ℕ) (held : Option Worth)
    → Agree (λ c. list_any (piece_reads key c) qs) s t → pieces_text show families qs s x key held ≡ pieces_text show families qs t x key held
pieces-agree show families [] s t x key held same = refl
pieces-agree show families (q ∷ qs) s t x key held same =
    λ i. piece-agree show families q s t x key held (λ c h. same c (or_left _ _ h)) i ++ pieces-agree show families qs s t x key held
    (λ c h. same c (or_right (piece_reads key c q) _ h)) i
