use Rattle.std.proofs.Common.{◌≡◌, ℕ, List, true, false, get_or, subst, refl, arith}
use Rattle.flu_model.specs.Numberings.{Numbering}
use Rattle.flu_model.specs.Rules.{is_same_text}
use Rattle.flu_rows.proofs.ItemNames.{found_at, none_more}
use Rattle.flu_rows.proofs.item_lists.list_of.Goals as goal

pub returns-then-eq : goal.returns-then-eq
returns-then-eq c =
    let kinds = c.args.kinds.now in
    let name = c.args.name.now in
    let i = c.loop-kind.kind-index in
    let kind = c.loop-kind-item.result in
    let same : is_same_text kind.0 name ≡ true = rw (← c.as_str.ensures, ← c.as_bytes.ensures.value, ← c.eq.ensures) c.if-eq.true in
    let here : is_same_text (get_or kinds i kind).0 name ≡ true = subst (λ (e : List ℕ × Numbering). is_same_text e.0 name ≡ true) c.loop-kind-item.is same in
    let found = found_at (λ (e : List ℕ × Numbering). is_same_text e.0 name) kinds i kind (omega arith) c.loop-kind.invariant.none here in
    rw (found, ← c.loop-kind-item.is) refl

pub loop-kind-preserved : goal.loop-kind-preserved
loop-kind-preserved c =
    let kinds = c.args.kinds.now in
    let name = c.args.name.now in
    let i = c.loop-kind.kind-index in
    let kind = c.loop-kind-item.result in
    let other : is_same_text kind.0 name ≡ false = rw (← c.as_str.ensures, ← c.as_bytes.ensures.value, ← c.eq.ensures) c.if-eq.false in
    let here : is_same_text (get_or kinds i kind).0 name ≡ false = subst (λ (e : List ℕ × Numbering). is_same_text e.0 name ≡ false) c.loop-kind-item.is other in
    record { none = none_more (λ (e : List ℕ × Numbering). is_same_text e.0 name) kinds i kind (omega arith) c.loop-kind.invariant.none here }
