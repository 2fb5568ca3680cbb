-- What the versions of the language have, on plain data.
use Rattle.std.proofs.Common.{◌≡◌, ℕ, Bool, true, false, List, [], ◌∷◌, map, Option, Some, None, refl, sym, ap, ◌∙◌}
use Rattle.std.specs.Prelude.{◌&&◌, ◌||◌, not, ◌==◌, if◌then◌else◌, option_map}
use Rattle.std.specs.List.{list_all, list_any}
use Rattle.flu_model.specs.declared.jobs.Family.{Family}
use Rattle.flu_model.specs.declared.jobs.At.{At}
use Rattle.flu_model.specs.declared.jobs.At.TheVariants as at
use Rattle.flu_model.specs.declared.jobs.Expr.{Expr}
use Rattle.flu_model.specs.declared.jobs.Expr.TheVariants.{Lit, Value, Key, Item, Time, Read, Has, Neg', Not', Two'}
use Rattle.flu_model.specs.declared.jobs.Piece.{Piece}
use Rattle.flu_model.specs.declared.jobs.Piece.TheVariants as piece
use Rattle.flu_model.specs.declared.jobs.Act.{Act}
use Rattle.flu_model.specs.declared.jobs.Act.TheVariants.{Add, Raise, Set, Clear, ClearFamily, Emit, Flush}
use Rattle.flu_model.specs.declared.jobs.Action.{Action}
use Rattle.flu_model.specs.declared.jobs.Kind.{Kind}
use Rattle.flu_model.specs.Versions.{at_takes_item, expr_takes_item, piece_takes_item, act_takes_item, guard_takes_item, action_takes_item, items_fit}
use Rattle.flu_model.specs.Versions.{op_divides, expr_divides, piece_names_family, act_is_newer, guard_divides, action_is_newer, is_older_kind}
use Rattle.flu_model.specs.Versions.{is_named_item, fit_version}
use Rattle.flu_model.specs.Erasure.{Term, Literal, EventValue, EventKey, EventItem, EventTime, CellRead, CellHeld, Negative, Negation, Operation, PlainAct}
use Rattle.flu_model.specs.Erasure.{Adding, Raising, Setting, Clearing, ClearingFamily, Emitting, Flushing, PlainAction, PlainKind, term_of, plain_act}
use Rattle.flu_model.specs.Erasure.{plain_action, plain_kind}

-- ---- what may stand under a kind that has items or not, in version 3 or before it
abbrev pub at_suits : Bool → At → Bool
at_suits has_item at.Alone = true
at_suits has_item at.OwnKey = true
at_suits has_item at.OwnItem = has_item
at_suits has_item (at.Fixed k) = true

module _ (has_item newer : Bool) where
  abbrev pub term_suits : Term → Bool
  term_suits (Literal n) = true
  term_suits EventValue = true
  term_suits EventKey = true
  term_suits EventItem = has_item
  term_suits EventTime = true
  term_suits (CellRead r) = at_suits has_item r.at
  term_suits (CellHeld r) = at_suits has_item r.at
  term_suits (Negative e) = term_suits e
  term_suits (Negation e) = term_suits e
  term_suits (Operation op a b) = (newer || not (op_divides op)) && (term_suits a && term_suits b)

  abbrev pub piece_suits : Piece → Bool
  piece_suits (piece.Plain t) = true
  piece_suits piece.Value = true
  piece_suits piece.Key = true
  piece_suits piece.Item = has_item
  piece_suits piece.Time = true
  piece_suits (piece.Read r) = at_suits has_item r.at
  piece_suits piece.CellValue = true
  piece_suits (piece.FamilyCell f) = newer

-- no text that is emitted names a family whole, whatever the version is
module _ (has_item newer : Bool) where
  abbrev pub act_suits : PlainAct → Bool
  act_suits (Adding r e) = at_suits has_item r.at && term_suits has_item newer e
  act_suits (Raising r e) = at_suits has_item r.at && term_suits has_item newer e
  act_suits (Setting r e) = at_suits has_item r.at && term_suits has_item newer e
  act_suits (Clearing r) = at_suits has_item r.at
  act_suits (ClearingFamily f) = newer
  act_suits (Emitting ps) = list_all (piece_suits has_item true) ps
  act_suits (Flushing f ps) = list_all (piece_suits has_item newer) ps

  abbrev pub guard_suits : Option Term → Bool
  guard_suits None = true
  guard_suits (Some e) = term_suits has_item newer e

  abbrev pub action_suits : PlainAction → Bool
  action_suits a = act_suits a.act && guard_suits a.guard

abbrev pub actions_suit : Bool → PlainKind → Bool
actions_suit newer k = list_all (action_suits k.has_item newer) k.actions

abbrev pub items_suit : Bool → PlainKind → Bool
items_suit newer k = newer || not k.has_item

abbrev pub plain_fit_version : ℕ → List Family → List PlainKind → Bool
plain_fit_version version families kinds =
    list_all (items_suit (version == 3)) kinds && list_all (actions_suit (version == 3)) kinds && not ((version == 3) && list_any is_named_item families)

-- ---- of truth values: what asks for an item, and what came with version 3
pub passes_any : (n : Bool) → true ≡ (n || true)
passes_any true = refl
passes_any false = refl

asks_nothing : (h n : Bool) → true ≡ ((h || true) && (n || true))
asks_nothing true true = refl
asks_nothing true false = refl
asks_nothing false true = refl
asks_nothing false false = refl

asks_item : (h n : Bool) → h ≡ ((h || false) && (n || true))
asks_item true true = refl
asks_item true false = refl
asks_item false n = refl

asks_version : (h n : Bool) → n ≡ ((h || true) && (n || false))
asks_version true true = refl
asks_version true false = refl
asks_version false true = refl
asks_version false false = refl

-- of two parts
asks_both : (h n s t d e : Bool) → (((h || not s) && (n || not d)) && ((h || not t) && (n || not e))) ≡ ((h || not (s || t)) && (n || not (d || e)))
asks_both true true s t d e = refl
asks_both true false s t true e = refl
asks_both true false s t false e = refl
asks_both false true true t d e = refl
asks_both false true false true d e = refl
asks_both false true false false d e = refl
asks_both false false true t d e = refl
asks_both false false false true true e = refl
asks_both false false false true false e = refl
asks_both false false false false true e = refl
asks_both false false false false false e = refl

-- and of an operator
asks_operator : (n o h s d : Bool) → ((n || not o) && ((h || not s) && (n || not d))) ≡ ((h || not s) && (n || not (o || d)))
asks_operator true o true s d = refl
asks_operator true o false true d = refl
asks_operator true o false false d = refl
asks_operator false true true s d = refl
asks_operator false true false true d = refl
asks_operator false true false false d = refl
asks_operator false false h s d = refl

module _ (h n : Bool) where
  at-suits : (a : At) → at_suits h a ≡ ((h || not (at_takes_item a)) && (n || true))
  at-suits at.Alone = asks_nothing h n
  at-suits at.OwnKey = asks_nothing h n
  at-suits at.OwnItem = asks_item h n
  at-suits (at.Fixed k) = asks_nothing h n

  term-suits : (e : Expr) → term_suits h n (term_of e) ≡ ((h || not (expr_takes_item e)) && (n || not (expr_divides e)))
  term-suits (Lit m) = asks_nothing h n
  term-suits Value = asks_nothing h n
  term-suits Key = asks_nothing h n
  term-suits Item = asks_item h n
  term-suits Time = asks_nothing h n
  term-suits (Read r) = at-suits r.at
  term-suits (Has r) = at-suits r.at
  term-suits (Neg' p e) = term-suits e
  term-suits (Not' p e) = term-suits e
  term-suits (Two' op p a q b) =
      (λ i. (n || not (op_divides op)) && (term-suits a i && term-suits b i))
      ∙ ap (λ x. (n || not (op_divides op)) && x) (asks_both h n (expr_takes_item a) (expr_takes_item b) (expr_divides a) (expr_divides b))
      ∙ asks_operator n (op_divides op) h (expr_takes_item a || expr_takes_item b) (expr_divides a || expr_divides b)

  piece-suits : (p : Piece) → piece_suits h n p ≡ ((h || not (piece_takes_item p)) && (n || not (piece_names_family p)))
  piece-suits (piece.Plain t) = asks_nothing h n
  piece-suits piece.Value = asks_nothing h n
  piece-suits piece.Key = asks_nothing h n
  piece-suits piece.Item = asks_item h n
  piece-suits piece.Time = asks_nothing h n
  piece-suits (piece.Read r) = at-suits r.at
  piece-suits piece.CellValue = asks_nothing h n
  piece-suits (piece.FamilyCell f) = asks_version h n

-- of all elements
module _ {X : Type 0} (h n : Bool) (suits takes newer : X → Bool) (one : (x : X) → suits x ≡ ((h || not (takes x)) && (n || not (newer x)))) where
  all-suit : (xs : List X) → list_all suits xs ≡ ((h || not (list_any takes xs)) && (n || not (list_any newer xs)))
  all-suit [] = asks_nothing h n
  all-suit (x ∷ xs) = (λ i. one x i && all-suit xs i) ∙ asks_both h n (takes x) (list_any takes xs) (newer x) (list_any newer xs)

module _ (h n : Bool) where
  -- a reference and an expression
  writing : (a : At) (e : Expr)
      → (at_suits h a && term_suits h n (term_of e)) ≡ ((h || not (at_takes_item a || expr_takes_item e)) && (n || not (expr_divides e)))
  writing a e = (λ i. at-suits h n a i && term-suits h n e i) ∙ asks_both h n (at_takes_item a) (expr_takes_item e) false (expr_divides e)

  act-suits : (a : Act) → act_suits h n (plain_act a) ≡ ((h || not (act_takes_item a)) && (n || not (act_is_newer a)))
  act-suits (Add r e) = writing r.at e
  act-suits (Raise r e) = writing r.at e
  act-suits (Set r e) = writing r.at e
  act-suits (Clear r) = at-suits h n r.at
  act-suits (ClearFamily f) = asks_version h n
  act-suits (Emit ps) =
      all-suit h true (piece_suits h true) piece_takes_item piece_names_family (piece-suits h true) ps
      ∙ ap (λ b. (h || not (list_any piece_takes_item ps)) && b) (passes_any n)
  act-suits (Flush f ps) = all-suit h n (piece_suits h n) piece_takes_item piece_names_family (piece-suits h n) ps

  guard-suits : (g : Option Expr) → guard_suits h n (option_map term_of g) ≡ ((h || not (guard_takes_item g)) && (n || not (guard_divides g)))
  guard-suits None = asks_nothing h n
  guard-suits (Some e) = term-suits h n e

  action-suits : (a : Action) → action_suits h n (plain_action a) ≡ ((h || not (action_takes_item a)) && (n || not (action_is_newer a)))
  action-suits a =
      (λ i. act-suits a.act i && guard-suits a.guard i)
      ∙ asks_both h n (act_takes_item a.act) (guard_takes_item a.guard) (act_is_newer a.act) (guard_divides a.guard)

  actions-suit : (xs : List Action)
      → list_all (action_suits h n) (map plain_action xs) ≡ ((h || not (list_any action_takes_item xs)) && (n || not (list_any action_is_newer xs)))
  actions-suit [] = asks_nothing h n
  actions-suit (a ∷ xs) =
      (λ i. action-suits a i && actions-suit xs i)
      ∙ asks_both h n (action_takes_item a) (list_any action_takes_item xs) (action_is_newer a) (list_any action_is_newer xs)

-- ---- kinds
one_kind : (n h t d : Bool) → ((n || not h) && ((h || not t) && (n || not d))) ≡ ((h || not t) && (n || (not h && not d)))
one_kind true true t d = refl
one_kind true false true d = refl
one_kind true false false d = refl
one_kind false true true d = refl
one_kind false true false d = refl
one_kind false false t d = refl

kind-suits : (n : Bool) (k : Kind) → (items_suit n (plain_kind k) && actions_suit n (plain_kind k)) ≡ (items_fit k && (n || is_older_kind k))
kind-suits n k =
    ap (λ b. (n || not k.has_item) && b) (actions-suit k.has_item n k.actions)
    ∙ one_kind n k.has_item (list_any action_takes_item k.actions) (list_any action_is_newer k.actions)

-- of all kinds
four_parts : (a xs b bs : Bool) → ((a && xs) && (b && bs)) ≡ ((a && b) && (xs && bs))
four_parts true true b bs = refl
four_parts true false true bs = refl
four_parts true false false bs = refl
four_parts false xs b bs = refl

more_kinds : (n a xs b bs : Bool) → ((a && (n || b)) && (xs && (n || bs))) ≡ ((a && xs) && (n || (b && bs)))
more_kinds true true xs b bs = refl
more_kinds true false xs b bs = refl
more_kinds false a xs b bs = four_parts a b xs bs

kinds-suit : (n : Bool) (kinds : List Kind)
    → (list_all (items_suit n) (map plain_kind kinds) && list_all (actions_suit n) (map plain_kind kinds))
    ≡ (list_all items_fit kinds && (n || list_all is_older_kind kinds))
kinds-suit n [] = passes_any n
kinds-suit n (k ∷ kinds) =
    let items : Bool = list_all (items_suit n) (map plain_kind kinds) in
    let actions : Bool = list_all (actions_suit n) (map plain_kind kinds) in
    four_parts (items_suit n (plain_kind k)) items (actions_suit n (plain_kind k)) actions
    ∙ (λ i. kind-suits n k i && kinds-suit n kinds i)
    ∙ more_kinds n (items_fit k) (list_all items_fit kinds) (is_older_kind k) (list_all is_older_kind kinds)

by_version : (n a older named : Bool) → (a && (if n then not named else older)) ≡ ((a && (n || older)) && not (n && named))
by_version true true older named = refl
by_version true false older named = refl
by_version false true true named = refl
by_version false true false named = refl
by_version false false older named = refl

pub version-plain : (version : ℕ) (families : List Family) (kinds : List Kind)
    → fit_version version families kinds ≡ plain_fit_version version families (map plain_kind kinds)
version-plain version families kinds =
    let n : Bool = version == 3 in
    by_version n (list_all items_fit kinds) (list_all is_older_kind kinds) (list_any is_named_item families)
    ∙ ap (λ b. b && not (n && list_any is_named_item families)) (sym (kinds-suit n kinds))
