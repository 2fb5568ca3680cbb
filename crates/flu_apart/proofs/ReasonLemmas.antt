-- A node has one first reason why it may not be apart, and none if it may.
use Rattle.std.proofs.Common.{◌≡◌, ℕ, Bool, true, false, List, Some, refl, sym, ap, subst, ◌∙◌}
use Rattle.std.specs.Ordering.{nat_cmp, ordering_reverse, ordering_then, is_lt}
use Rattle.std.specs.declared.cmp.Ordering.{Ordering}
use Rattle.std.specs.declared.cmp.Ordering.TheVariants.{Less, Equal, Greater}
use Rattle.std.proofs.lemmas.Bool.{false≢true}
use Rattle.std.proofs.lemmas.Cmp.{nat_cmp_total}
use Rattle.std.proofs.lemmas.Map.Lookups.{exact_unsigned}
use Rattle.flu_model.specs.declared.events.Cell.{Cell}
use Rattle.flu_model.specs.declared.events.Tag.{Tag}
use Rattle.flu_model.specs.declared.jobs.Program.{Program}
use Rattle.flu_model.specs.declared.plans.Node.{Node}
use Rattle.flu_apart.specs.declared.reason.Reason.{Reason}
use Rattle.flu_apart.specs.declared.reason.Reason.TheVariants.{Clock, Shared}
use Rattle.flu_apart.specs.declared.reason.SharedUse.{SharedUse}
use Rattle.flu_apart.specs.Apart.{MayBeApart, IsFirstUse, IsFirstReason}
use Rattle.flu_apart.proofs.ClockLemmas.{some_or_none, no_first}
use Rattle.flu_apart.proofs.SearchLemmas.{no_use}

-- two numbers of which neither is the lesser
neither : (m n : ℕ) (x y : Ordering) → is_lt (ordering_then (nat_cmp m n) x) ≡ false → is_lt (ordering_then (nat_cmp n m) y) ≡ false
    → (m ≡ n) × (is_lt x ≡ false) × (is_lt y ≡ false)
neither m n x y h k = by (nat_cmp m n) refl (nat_cmp n m) (nat_cmp_total.antisymm n m) h k
  where
    by : (o : Ordering) → nat_cmp m n ≡ o → (q : Ordering) → q ≡ ordering_reverse o → is_lt (ordering_then o x) ≡ false
        → is_lt (ordering_then q y) ≡ false → (m ≡ n) × (is_lt x ≡ false) × (is_lt y ≡ false)
    by Less e q r h k = absurd (false≢true (sym h))
    by Equal e q r h k = (exact_unsigned m n e, h, subst (λ (z : Ordering). is_lt (ordering_then z y) ≡ false) r k)
    by Greater e q r h k = absurd (false≢true (sym (subst (λ (z : Ordering). is_lt (ordering_then z y) ≡ false) r k)))

then_assoc : (a b c : Ordering) → ordering_then (ordering_then a b) c ≡ ordering_then a (ordering_then b c)
then_assoc Less b c = refl
then_assoc Equal b c = refl
then_assoc Greater b c = refl

then_equal : (a : Ordering) → a ≡ ordering_then a Equal
then_equal Less = refl
then_equal Equal = refl
then_equal Greater = refl

same_tag : (t u : Tag) → t.kind ≡ u.kind → t.key ≡ u.key → t ≡ u
same_tag t u kind key = λ i. record { kind = kind i; key = key i }

same_cell : (c d : Cell) → c.family ≡ d.family → c.key ≡ d.key → c ≡ d
same_cell c d family key = λ i. record { family = family i; key = key i }

one_use : (p : Program) (nodes : List Node) (w : ℕ) (r s : SharedUse) → IsFirstUse p nodes w r.tag r.cell → IsFirstUse p nodes w s.tag s.cell → r ≡ s
one_use p nodes w r s one other =
    let t = r.tag in
    let u = s.tag in
    let c = r.cell in
    let d = s.cell in
    let first : is_lt (ordering_then (ordering_then (nat_cmp t.kind u.kind) (nat_cmp t.key u.key))
    (ordering_then (nat_cmp c.family d.family) (nat_cmp c.key d.key))) ≡ false = other.first t c one.shared in
    let second : is_lt (ordering_then (ordering_then (nat_cmp u.kind t.kind) (nat_cmp u.key t.key))
    (ordering_then (nat_cmp d.family c.family) (nat_cmp d.key c.key))) ≡ false = one.first u d other.shared in
    let kinds = neither t.kind u.kind (ordering_then (nat_cmp t.key u.key) (ordering_then (nat_cmp c.family d.family) (nat_cmp c.key d.key)))
    (ordering_then (nat_cmp u.key t.key) (ordering_then (nat_cmp d.family c.family) (nat_cmp d.key c.key)))
    (ap is_lt (sym (then_assoc (nat_cmp t.kind u.kind) (nat_cmp t.key u.key) (ordering_then (nat_cmp c.family d.family) (nat_cmp c.key d.key)))) ∙ first)
    (ap is_lt (sym (then_assoc (nat_cmp u.kind t.kind) (nat_cmp u.key t.key) (ordering_then (nat_cmp d.family c.family) (nat_cmp d.key c.key)))) ∙ second) in
    let keys = neither t.key u.key (ordering_then (nat_cmp c.family d.family) (nat_cmp c.key d.key))
    (ordering_then (nat_cmp d.family c.family) (nat_cmp d.key c.key)) kinds.1 kinds.2 in
    let families = neither c.family d.family (nat_cmp c.key d.key) (nat_cmp d.key c.key) keys.1 keys.2 in
    let cell_keys = neither c.key d.key Equal Equal (ap is_lt (sym (then_equal (nat_cmp c.key d.key))) ∙ families.1)
    (ap is_lt (sym (then_equal (nat_cmp d.key c.key))) ∙ families.2) in
    let tags = same_tag t u kinds.0 keys.0 in
    let cells = same_cell c d families.0 cell_keys.0 in
    λ i. record { tag = tags i; cell = cells i }

pub one_reason : (p : Program) (nodes : List Node) (w : ℕ) (r s : Reason) → IsFirstReason p nodes w r → IsFirstReason p nodes w s → r ≡ s
one_reason p nodes w (Clock m) (Clock n) one other =
    let found : Some m ≡ Some n = sym one ∙ other in
    let same : m ≡ n = cc in
    ap (λ (k : ℕ). let r : Reason = Clock k in r) same
one_reason p nodes w (Clock m) (Shared s) one other = absurd (some_or_none m (sym one ∙ other.0))
one_reason p nodes w (Shared r) (Clock n) one other = absurd (some_or_none n (sym other ∙ one.0))
one_reason p nodes w (Shared r) (Shared s) one other =
    ap (λ (u : SharedUse). let reason : Reason = Shared u in reason) (one_use p nodes w r s one.1 other.1)

pub no_reason : (p : Program) (nodes : List Node) (w : ℕ) (r : Reason) → MayBeApart p nodes w → IsFirstReason p nodes w r → ⊥
no_reason p nodes w (Clock number) may is = some_or_none number (sym is ∙ no_first p nodes w may.no_clock)
no_reason p nodes w (Shared u) may is = no_use p nodes w u.tag u.cell is.1.shared may.shares_none
