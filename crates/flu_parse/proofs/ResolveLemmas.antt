-- A kind is given its actions.
use Rattle.std.proofs.Common.{◌≡◌, ℕ, zero, suc, ◌<◌, ◌≤◌, List, [], ◌∷◌, map, length, get_or, refl, ap, arith}
use Rattle.std.specs.List.{slice_set}
use Rattle.flu_model.specs.declared.jobs.Kind.{Kind}
use Rattle.flu_model.specs.declared.jobs.Action.{Action}
use Rattle.flu_model.specs.Erasure.{plain_kind, plain_action}
use Rattle.flu_parse.specs.Resolving.{with_actions}

abbrev pub active : Kind → List Action → Kind
active k actions = record { name = k.name; keyed = k.keyed; has_item = k.has_item; list = k.list; has_value = k.has_value; actions = actions }

pub set_kind : (kinds : List Kind) (i : ℕ) (k : Kind) (actions : List Action) → i < length kinds → k ≡ get_or kinds i k
    → map plain_kind (slice_set kinds i (active k actions)) ≡ with_actions (map plain_kind kinds) i (map plain_action actions)
set_kind [] i k actions lt is = absurd (omega arith)
set_kind (q ∷ qs) zero k actions lt is = ap (λ (p : Kind). plain_kind (active p actions) ∷ map plain_kind qs) is
set_kind (q ∷ qs) (suc i) k actions lt is = ap (λ rest. plain_kind q ∷ rest) (set_kind qs i k actions (omega arith) is)

pub no_kind : (kinds : List Kind) (i : ℕ) (actions : List Action) → length kinds ≤ i
    → map plain_kind kinds ≡ with_actions (map plain_kind kinds) i (map plain_action actions)
no_kind [] i actions past = refl
no_kind (q ∷ qs) zero actions past = absurd (omega arith)
no_kind (q ∷ qs) (suc i) actions past = ap (λ rest. plain_kind q ∷ rest) (no_kind qs i actions (omega arith))
