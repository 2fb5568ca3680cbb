-- How a part leaves the hand, and how one enters it.
use Rattle.std.specs.Prelude.{◌≡◌, ⊤, ℕ, Some}
use Rattle.flu_fork.specs.declared.content.Content.{Content}
use Rattle.flu_fork.specs.declared.lots.Lot.{Lot}
use Rattle.flu_fork.specs.Lots.{kids, LotFits, LotsPaired, HasJoinedCounts}
use Rattle.flu_worker.specs.declared.holding.Holding.{Holding}
use Rattle.flu_worker.specs.declared.holding.Holding.TheVariants.{Empty, Whole, LendingBoth, LendingLeft, LendingRight, Down, TakingLeft, TakingRight, Gone}

-- ---- lend
pub record Leaves (part lot : Lot) (rest new : Holding) : Type 0 where
  pub lot_is : lot ≡ part
  pub rest_is : new ≡ rest

abbrev pub LeftLeaves : Holding → Lot → Holding → Type 0
LeftLeaves Empty lot new = ⊥
LeftLeaves (Whole here) lot new = ⊥
LeftLeaves (LendingBoth a b) lot new = Leaves a lot (LendingRight b) new
LeftLeaves (LendingLeft a) lot new = Leaves a lot Down new
LeftLeaves (LendingRight b) lot new = ⊥
LeftLeaves Down lot new = ⊥
LeftLeaves (TakingLeft a) lot new = ⊥
LeftLeaves (TakingRight b) lot new = ⊥
LeftLeaves Gone lot new = ⊥

abbrev pub RightLeaves : Holding → Lot → Holding → Type 0
RightLeaves Empty lot new = ⊥
RightLeaves (Whole here) lot new = ⊥
RightLeaves (LendingBoth a b) lot new = Leaves b lot (LendingLeft a) new
RightLeaves (LendingLeft a) lot new = ⊥
RightLeaves (LendingRight b) lot new = Leaves b lot Down new
RightLeaves Down lot new = ⊥
RightLeaves (TakingLeft a) lot new = ⊥
RightLeaves (TakingRight b) lot new = ⊥
RightLeaves Gone lot new = ⊥

-- ---- take
-- the two parts may be joined
pub record AreMates (k : Content) (w : ℕ) (a b : Lot) : Type 0 where
  pub left : (l r : ℕ) → kids k w ≡ Some (l, r) → LotFits k l a
  pub right : (l r : ℕ) → kids k w ≡ Some (l, r) → LotFits k r b
  pub paired : (l r : ℕ) → kids k w ≡ Some (l, r) → LotsPaired k l r a b

abbrev pub AwaitsLeft : Content → ℕ → Holding → Lot → Type 0
AwaitsLeft k w Empty lot = ⊤
AwaitsLeft k w (Whole here) lot = ⊤
AwaitsLeft k w (LendingBoth a b) lot = ⊤
AwaitsLeft k w (LendingLeft a) lot = ⊤
AwaitsLeft k w (LendingRight b) lot = ⊤
AwaitsLeft k w Down lot = ⊤
AwaitsLeft k w (TakingLeft a) lot = ⊤
AwaitsLeft k w (TakingRight b) lot = AreMates k w lot b
AwaitsLeft k w Gone lot = ⊤

abbrev pub AwaitsRight : Content → ℕ → Holding → Lot → Type 0
AwaitsRight k w Empty lot = ⊤
AwaitsRight k w (Whole here) lot = ⊤
AwaitsRight k w (LendingBoth a b) lot = ⊤
AwaitsRight k w (LendingLeft a) lot = ⊤
AwaitsRight k w (LendingRight b) lot = ⊤
AwaitsRight k w Down lot = ⊤
AwaitsRight k w (TakingLeft a) lot = AreMates k w a lot
AwaitsRight k w (TakingRight b) lot = ⊤
AwaitsRight k w Gone lot = ⊤

-- two parts became one lot
pub record Joins (k : Content) (w : ℕ) (a b : Lot) (new : Holding) : Type 0 where
  pub lot : Lot
  pub is : new ≡ Whole lot
  pub fits : LotFits k w lot
  pub counts : HasJoinedCounts k w a b lot

abbrev pub LeftComes : Content → ℕ → Holding → Lot → Holding → Type 0
LeftComes k w Empty lot new = ⊥
LeftComes k w (Whole here) lot new = ⊥
LeftComes k w (LendingBoth a b) lot new = ⊥
LeftComes k w (LendingLeft a) lot new = ⊥
LeftComes k w (LendingRight b) lot new = ⊥
LeftComes k w Down lot new = new ≡ TakingLeft lot
LeftComes k w (TakingLeft a) lot new = ⊥
LeftComes k w (TakingRight b) lot new = Joins k w lot b new
LeftComes k w Gone lot new = ⊥

abbrev pub RightComes : Content → ℕ → Holding → Lot → Holding → Type 0
RightComes k w Empty lot new = ⊥
RightComes k w (Whole here) lot new = ⊥
RightComes k w (LendingBoth a b) lot new = ⊥
RightComes k w (LendingLeft a) lot new = ⊥
RightComes k w (LendingRight b) lot new = ⊥
RightComes k w Down lot new = new ≡ TakingRight lot
RightComes k w (TakingLeft a) lot new = Joins k w a lot new
RightComes k w (TakingRight b) lot new = ⊥
RightComes k w Gone lot new = ⊥

-- the lot of a whole hand
abbrev pub IsWholeOf : Holding → Lot → Type 0
IsWholeOf Empty lot = ⊥
IsWholeOf (Whole here) lot = here ≡ lot
IsWholeOf (LendingBoth a b) lot = ⊥
IsWholeOf (LendingLeft a) lot = ⊥
IsWholeOf (LendingRight b) lot = ⊥
IsWholeOf Down lot = ⊥
IsWholeOf (TakingLeft a) lot = ⊥
IsWholeOf (TakingRight b) lot = ⊥
IsWholeOf Gone lot = ⊥
