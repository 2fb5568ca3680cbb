-- A cell that actions use is covered by something that they touch.
use Rattle.std.proofs.Common.{◌≡◌, ℕ, Bool, true, Option, Some, None, List, [], ◌∷◌, inl, inr, refl, sym, ◌∙◌}
use Rattle.std.specs.Prelude.{◌==◌, ◌&&◌}
use Rattle.std.specs.List.{list_any, list_all}
use Rattle.std.proofs.lemmas.Bool.{or_cases}
use Rattle.flu_lemmas.proofs.Numbers.{same_turns}
use Rattle.flu_lemmas.proofs.Tests.{and_left, and_right, both}
use Rattle.flu_model.specs.declared.events.Cell.{Cell}
use Rattle.flu_model.specs.declared.jobs.At.{At}
use Rattle.flu_model.specs.declared.jobs.At.TheVariants.{Alone, OwnKey, OwnItem, Fixed as FixedKey}
use Rattle.flu_model.specs.declared.jobs.CellRef.{CellRef}
use Rattle.flu_model.specs.declared.jobs.Expr.{Expr}
use Rattle.flu_model.specs.declared.jobs.Expr.TheVariants.{Lit, Value, Key, Item, Time, Read as ReadCell, Has, Neg', Not', Two'}
use Rattle.flu_model.specs.declared.jobs.Piece.{Piece}
use Rattle.flu_model.specs.declared.jobs.Piece.TheVariants.{Plain, Value as ValueField, Key as KeyField, Item as ItemField, Time as TimeField}
use Rattle.flu_model.specs.declared.jobs.Piece.TheVariants.{Read as ReadField, CellValue, FamilyCell}
use Rattle.flu_model.specs.declared.jobs.Act.{Act}
use Rattle.flu_model.specs.declared.jobs.Act.TheVariants.{Add as AddAct, Raise as RaiseAct, Set, Clear, ClearFamily, Emit, Flush}
use Rattle.flu_model.specs.declared.jobs.Action.{Action}
use Rattle.flu_model.specs.Modes.{means, expr_reads, guard_reads, piece_reads, act_reads, action_reads, act_overwrites, act_adds, act_raises}
use Rattle.flu_deps.specs.declared.visits.Way.{Way}
use Rattle.flu_deps.specs.declared.visits.Way.TheVariants.{Read, Add, Raise, Overwrite}
use Rattle.flu_deps.specs.declared.visits.Place.{Place}
use Rattle.flu_deps.specs.declared.visits.Place.TheVariants.{Own, Fixed, All}
use Rattle.flu_deps.specs.LoopVisits.{Test, place_of, expr_all, guard_all, piece_all, act_all, action_all}

-- a place of a family is the one with this key, for a tag with a key
abbrev pub at_place : ℕ → ℕ → Place → Bool
at_place key n Own = key == n
at_place key n (Fixed m) = m == n
at_place key n All = true

abbrev pub covers : ℕ → Cell → ℕ → Place → Bool
covers key c family place = (family == c.family) && at_place key c.key place

at_covers : (key : ℕ) (c : Cell) (family : ℕ) (at : At) → means key c (record { family = family; at = at }) ≡ covers key c family (place_of at)
at_covers key c family Alone = refl
at_covers key c family OwnKey = refl
at_covers key c family OwnItem = refl
at_covers key c family (FixedKey n) = refl

-- something that is touched in this way covers the cell: it passes each test that all touches pass
pub record FoundIn (holds : Test → Bool) (key : ℕ) (c : Cell) (way : Way) : Type 0 where
  pub family : ℕ
  pub place : Place
  pub covered : covers key c family place ≡ true
  pub passes : (test : Test) → holds test ≡ true → test way family place ≡ true

ref_found : (holds : Test → Bool) (key : ℕ) (c : Cell) (r : CellRef) (way : Way) → means key c r ≡ true
    → ((test : Test) → holds test ≡ true → test way r.family (place_of r.at) ≡ true) → FoundIn holds key c way
ref_found holds key c r way meant passes = record {
  family = r.family;
  place = place_of r.at;
  covered = sym (at_covers key c r.family r.at) ∙ meant;
  passes = passes;
}

whole_found : (holds : Test → Bool) (key : ℕ) (c : Cell) (f : ℕ) (way : Way) → (c.family == f) ≡ true
    → ((test : Test) → holds test ≡ true → test way f All ≡ true) → FoundIn holds key c way
whole_found holds key c f way same passes = record {
  family = f;
  place = All;
  covered = both (f == c.family) true (same_turns f c.family ∙ same) refl;
  passes = passes;
}

widened : (holds more : Test → Bool) (key : ℕ) (c : Cell) (way : Way) → ((test : Test) → more test ≡ true → holds test ≡ true) → FoundIn holds key c way
    → FoundIn more key c way
widened holds more key c way weaker found = record {
  family = found.family;
  place = found.place;
  covered = found.covered;
  passes = λ test h. found.passes test (weaker test h);
}

-- ---- what is read
expr_found : (key : ℕ) (c : Cell) (e : Expr) → expr_reads key c e ≡ true → FoundIn (λ test. expr_all test e) key c Read
expr_found key c (Lit n) reads = cc
expr_found key c Value reads = cc
expr_found key c Key reads = cc
expr_found key c Item reads = cc
expr_found key c Time reads = cc
expr_found key c (ReadCell r) reads = ref_found (λ test. expr_all test (ReadCell r)) key c r Read reads (λ test h. h)
expr_found key c (Has r) reads = ref_found (λ test. expr_all test (Has r)) key c r Read reads (λ test h. h)
expr_found key c (Neg' p e) reads = expr_found key c e reads
expr_found key c (Not' p e) reads = expr_found key c e reads
expr_found key c (Two' op p a q b) reads =
    elim (or_cases (expr_reads key c a) (expr_reads key c b) reads) [
      | inl left ↦
          widened (λ test. expr_all test a) (λ test. expr_all test (Two' op p a q b)) key c Read
          (λ test h. and_left (expr_all test a) (expr_all test b) h) (expr_found key c a left)
      | inr right ↦
          widened (λ test. expr_all test b) (λ test. expr_all test (Two' op p a q b)) key c Read
          (λ test h. and_right (expr_all test a) (expr_all test b) h) (expr_found key c b right)
    ]

guard_found : (key : ℕ) (c : Cell) (g : Option Expr) → guard_reads key c g ≡ true → FoundIn (λ test. guard_all test g) key c Read
guard_found key c None reads = cc
guard_found key c (Some e) reads = expr_found key c e reads

piece_found : (key : ℕ) (c : Cell) (q : Piece) → piece_reads key c q ≡ true → FoundIn (λ test. piece_all test q) key c Read
piece_found key c (Plain t) reads = cc
piece_found key c ValueField reads = cc
piece_found key c KeyField reads = cc
piece_found key c ItemField reads = cc
piece_found key c TimeField reads = cc
piece_found key c (ReadField r) reads = ref_found (λ test. piece_all test (ReadField r)) key c r Read reads (λ test h. h)
piece_found key c CellValue reads = cc
piece_found key c (FamilyCell f) reads = whole_found (λ test. piece_all test (FamilyCell f)) key c f Read reads (λ test h. h)

-- of a list, where some element has it
some_found : {X : Type 0} (all : Test → X → Bool) (key : ℕ) (c : Cell) (way : Way) (uses : X → Bool)
    → ((x : X) → uses x ≡ true → FoundIn (λ test. all test x) key c way) → (xs : List X) → list_any uses xs ≡ true
    → FoundIn (λ test. list_all (all test) xs) key c way
some_found all key c way uses one [] any = cc
some_found all key c way uses one (x ∷ xs) any =
    elim (or_cases (uses x) (list_any uses xs) any) [
      | inl here ↦
          widened (λ test. all test x) (λ test. list_all (all test) (x ∷ xs)) key c way
          (λ test h. and_left (all test x) (list_all (all test) xs) h) (one x here)
      | inr later ↦
          widened (λ test. list_all (all test) xs) (λ test. list_all (all test) (x ∷ xs)) key c way
          (λ test h. and_right (all test x) (list_all (all test) xs) h) (some_found all key c way uses one xs later)
    ]

pieces_found : (key : ℕ) (c : Cell) (qs : List Piece) → list_any (piece_reads key c) qs ≡ true → FoundIn (λ test. list_all (piece_all test) qs) key c Read
pieces_found key c qs any = some_found piece_all key c Read (piece_reads key c) (piece_found key c) qs any

behind : (way : Way) (key : ℕ) (c : Cell) (r : CellRef) (e : Expr) → expr_reads key c e ≡ true
    → FoundIn (λ test. test way r.family (place_of r.at) && expr_all test e) key c Read
behind way key c r e reads =
    widened (λ test. expr_all test e) (λ test. test way r.family (place_of r.at) && expr_all test e) key c Read
    (λ test h. and_right (test way r.family (place_of r.at)) (expr_all test e) h) (expr_found key c e reads)

in_front : (way : Way) (key : ℕ) (c : Cell) (r : CellRef) (e : Expr) → means key c r ≡ true
    → FoundIn (λ test. test way r.family (place_of r.at) && expr_all test e) key c way
in_front way key c r e meant =
    ref_found (λ test. test way r.family (place_of r.at) && expr_all test e) key c r way meant
    (λ test h. and_left (test way r.family (place_of r.at)) (expr_all test e) h)

act_read_found : (key : ℕ) (c : Cell) (a : Act) → act_reads key c a ≡ true → FoundIn (λ test. act_all test a) key c Read
act_read_found key c (AddAct r e) reads = behind Add key c r e reads
act_read_found key c (RaiseAct r e) reads = behind Raise key c r e reads
act_read_found key c (Set r e) reads = behind Overwrite key c r e reads
act_read_found key c (Clear r) reads = cc
act_read_found key c (ClearFamily f) reads = cc
act_read_found key c (Emit qs) reads = pieces_found key c qs reads
act_read_found key c (Flush f qs) reads =
    widened (λ test. list_all (piece_all test) qs) (λ test. act_all test (Flush f qs)) key c Read
    (λ test h. and_right (test Overwrite f All) (list_all (piece_all test) qs) h) (pieces_found key c qs reads)

-- ---- what is overwritten, added to and raised
act_overwritten_found : (key : ℕ) (c : Cell) (a : Act) → act_overwrites key c a ≡ true → FoundIn (λ test. act_all test a) key c Overwrite
act_overwritten_found key c (AddAct r e) own = cc
act_overwritten_found key c (RaiseAct r e) own = cc
act_overwritten_found key c (Set r e) own = in_front Overwrite key c r e own
act_overwritten_found key c (Clear r) own = ref_found (λ test. act_all test (Clear r)) key c r Overwrite own (λ test h. h)
act_overwritten_found key c (ClearFamily f) own = whole_found (λ test. act_all test (ClearFamily f)) key c f Overwrite own (λ test h. h)
act_overwritten_found key c (Emit qs) own = cc
act_overwritten_found key c (Flush f qs) own =
    whole_found (λ test. act_all test (Flush f qs)) key c f Overwrite own (λ test h. and_left (test Overwrite f All) (list_all (piece_all test) qs) h)

act_added_found : (key : ℕ) (c : Cell) (a : Act) → act_adds key c a ≡ true → FoundIn (λ test. act_all test a) key c Add
act_added_found key c (AddAct r e) add = in_front Add key c r e add
act_added_found key c (RaiseAct r e) add = cc
act_added_found key c (Set r e) add = cc
act_added_found key c (Clear r) add = cc
act_added_found key c (ClearFamily f) add = cc
act_added_found key c (Emit qs) add = cc
act_added_found key c (Flush f qs) add = cc

act_raised_found : (key : ℕ) (c : Cell) (a : Act) → act_raises key c a ≡ true → FoundIn (λ test. act_all test a) key c Raise
act_raised_found key c (AddAct r e) raise = cc
act_raised_found key c (RaiseAct r e) raise = in_front Raise key c r e raise
act_raised_found key c (Set r e) raise = cc
act_raised_found key c (Clear r) raise = cc
act_raised_found key c (ClearFamily f) raise = cc
act_raised_found key c (Emit qs) raise = cc
act_raised_found key c (Flush f qs) raise = cc

-- ---- actions
in_act : (key : ℕ) (c : Cell) (way : Way) (a : Action) → FoundIn (λ test. act_all test a.act) key c way → FoundIn (λ test. action_all test a) key c way
in_act key c way a found =
    widened (λ test. act_all test a.act) (λ test. action_all test a) key c way (λ test h. and_right (guard_all test a.guard) (act_all test a.act) h) found

action_read_found : (key : ℕ) (c : Cell) (a : Action) → action_reads key c a ≡ true → FoundIn (λ test. action_all test a) key c Read
action_read_found key c a reads =
    elim (or_cases (guard_reads key c a.guard) (act_reads key c a.act) reads) [
      | inl guard ↦
          widened (λ test. guard_all test a.guard) (λ test. action_all test a) key c Read
          (λ test h. and_left (guard_all test a.guard) (act_all test a.act) h) (guard_found key c a.guard guard)
      | inr act ↦ in_act key c Read a (act_read_found key c a.act act)
    ]

-- whether actions use a cell in a way
abbrev pub of_way : Way → Bool → Bool → Bool → Bool → Bool
of_way Read r o a x = r
of_way Overwrite r o a x = o
of_way Add r o a x = a
of_way Raise r o a x = x

pub use_found : (all : List Action) (key : ℕ) (c : Cell) (way : Way)
    → of_way way (list_any (action_reads key c) all) (list_any (λ (a : Action). act_overwrites key c a.act) all)
    (list_any (λ (a : Action). act_adds key c a.act) all) (list_any (λ (a : Action). act_raises key c a.act) all) ≡ true
    → FoundIn (λ test. list_all (action_all test) all) key c way
use_found all key c Read any = some_found action_all key c Read (action_reads key c) (action_read_found key c) all any
use_found all key c Overwrite any =
    some_found action_all key c Overwrite (λ (a : Action). act_overwrites key c a.act)
    (λ a h. in_act key c Overwrite a (act_overwritten_found key c a.act h)) all any
use_found all key c Add any =
    some_found action_all key c Add (λ (a : Action). act_adds key c a.act) (λ a h. in_act key c Add a (act_added_found key c a.act h)) all any
use_found all key c Raise any =
    some_found action_all key c Raise (λ (a : Action). act_raises key c a.act) (λ a h. in_act key c Raise a (act_raised_found key c a.act h)) all any
