-- The order of faults, and what the search has passed.
use Rattle.std.proofs.Common.{◌≡◌, ◌<◌, ◌+◌, ℕ, Bool, true, false, Option, Some, None, ◌⊎◌, inl, inr, refl, sym, ap, subst, ◌∙◌, arith}
use Rattle.std.specs.Prelude.{not, ◌&&◌, IfSome, IfNone}
use Rattle.std.specs.Cmp.{IsTotalOrder, IsStrictWeakOrder}
use Rattle.std.specs.Ordering.{ordering_then, is_lt}
use Rattle.std.specs.declared.cmp.Ordering.{Ordering}
use Rattle.std.specs.declared.cmp.Ordering.TheVariants.{Less, Equal, Greater}
use Rattle.std.proofs.lemmas.Bool.{cases_lt}
use Rattle.std.proofs.lemmas.Cmp.{on_total, then_total, tied_itself}
use Rattle.std.proofs.lemmas.List.{get_or_default}
use Rattle.std.proofs.lemmas.List.MinMax.{ranks_by}
use Rattle.flu_lemmas.proofs.Tests.{and_left, and_right, not_both}
use Rattle.flu_lemmas.proofs.Sorting.{both_equal}
use Rattle.flu_model.specs.declared.events.Cell.{Cell}
use Rattle.flu_model.specs.declared.events.Tag.{Tag}
use Rattle.flu_model.specs.declared.jobs.Program.{Program}
use Rattle.flu_model.specs.declared.modes.Mode.{Mode}
use Rattle.flu_model.specs.declared.modes.Mode.TheVariants.{None as NoMode, Add as AddMode, Raise as RaiseMode, Own}
use Rattle.flu_model.specs.Itags.{itags, count_of_itags, is_dependent}
use Rattle.flu_model.specs.Listing.{tag}
use Rattle.flu_model.specs.Modes.{mode_of, modes_conflict, IsInUniverse, IsAccepted}
use Rattle.flu_laws.specs.Lawful.{DependencyTurns}
use Rattle.flu_model.specs.Order.{cell_cmp, is_cell_before, tag_cmp, is_tag_before}
use Rattle.flu_deps.specs.Conflicts.{conflicts_on, IsFirstConflict, NeverConflict}
use Rattle.flu_deps.specs.Dependencies.{ConflictIsMutual}
use Rattle.flu_lemmas.proofs.TwoNumbers.{by_two-total, by_two-ties}
use Rattle.flu_check.specs.declared.search.Fault.{Fault}
use Rattle.flu_check.specs.Faults.{IsCheckFault, fault_cmp, IsFirstCheckFault}
use Rattle.flu_check.specs.LoopFound.{tag_at, is_fault_before, IsFound, IsPassed, Passed, KeepsPassed, PassesPair, PassesTag, is_pair_before, is_sought}

-- ---- the order of faults
cells_total : IsTotalOrder cell_cmp
cells_total = by_two-total (λ (c : Cell). c.family) (λ (c : Cell). c.key)

tags_total : IsTotalOrder tag_cmp
tags_total = by_two-total (λ (t : Tag). t.kind) (λ (t : Tag). t.key)

tags_tie : (a b : Tag) → tag_cmp a b ≡ Equal → a ≡ b
tags_tie a b e =
    let both = by_two-ties (λ (t : Tag). t.kind) (λ (t : Tag). t.key) a b e in
    λ i. record { kind = both.0 i; key = both.1 i }

faults_total : IsTotalOrder (λ (x y : Fault). fault_cmp x.a x.b x.cell y.a y.b y.cell)
faults_total =
    then_total (on_total (λ (f : Fault). f.a) tags_total) (then_total (on_total (λ (f : Fault). f.b) tags_total) (on_total (λ (f : Fault). f.cell) cells_total))

faults_rank : IsStrictWeakOrder is_fault_before
faults_rank = ranks_by faults_total (λ f. f)

-- of the faults of two tags the order is that of the cells
same_tags : (a b : Tag) (c d : Cell) → is_lt (fault_cmp a b c a b d) ≡ is_cell_before c d
same_tags a b c d =
    ap (λ o. is_lt (ordering_then o (ordering_then (tag_cmp b b) (cell_cmp c d)))) (tied_itself tags_total a)
    ∙ ap (λ o. is_lt (ordering_then o (cell_cmp c d))) (tied_itself tags_total b)

-- faults of an earlier pair of tags are earlier
earlier_pair : (o q r : Ordering) → is_lt (ordering_then o q) ≡ true → is_lt (ordering_then o (ordering_then q r)) ≡ true
earlier_pair Less q r e = refl
earlier_pair Equal Less r e = refl
earlier_pair Equal Equal r e = cc
earlier_pair Equal Greater r e = cc
earlier_pair Greater q r e = cc

-- those of no earlier pair are not earlier, or the pairs are equal
later_pair : (o q r : Ordering) → is_lt (ordering_then o q) ≡ false → (is_lt (ordering_then o (ordering_then q r)) ≡ false) ⊎ (ordering_then o q ≡ Equal)
later_pair Less q r e = cc
later_pair Equal Less r e = cc
later_pair Equal Equal r e = inr refl
later_pair Equal Greater r e = inl refl
later_pair Greater q r e = inl refl

record HasItag (p : Program) (t : Tag) : Type 0 where
  number : ℕ
  in_range : number < count_of_itags p
  is : tag_at p number ≡ t

listed_has_itag : (p : Program) (t : Tag) → IsInUniverse p t → HasItag p t
listed_has_itag p t u = record {
  number = u.1.0;
  in_range = u.1.1;
  is = ap (λ (e : Tag × ℕ). e.0) (get_or_default (itags p) u.1.0 (tag 0 0, 0) (t, u.0) u.1.1 ∙ u.1.2);
}

-- where no fault of the two tags would come before the one so far, all are passed
pub not_sought : (p : Program) (a b : Tag) (found : Option Fault) → IfSome found (IsFound p) → is_sought p a b found ≡ false → PassesPair p a b found
not_sought p a b found good e c f =
    at_found found good
    (and_fails (is_tag_before b a) (is_pair_before a b found) (is_dependent p a b) f.in_order f.independent e)
  where
    and_fails : (x y z : Bool) → x ≡ false → z ≡ false → (not x && y && not z) ≡ false → y ≡ false
    and_fails true y z e f g = cc
    and_fails false true true e f g = cc
    and_fails false true false e f g = cc
    and_fails false false z e f g = refl

    at_found : (o : Option Fault) → IfSome o (IsFound p) → is_pair_before a b o ≡ false → IsPassed o (record { a = a; b = b; cell = c })
    at_found None g e = cc
    at_found (Some h) g e =
        elim (later_pair (tag_cmp a h.a) (tag_cmp b h.b) (cell_cmp c h.cell) e) [
          | inl later ↦ Passed later
          | inr tied ↦
              let both = both_equal (tag_cmp a h.a) (tag_cmp b h.b) tied in
              let one : a ≡ h.a = tags_tie a h.a both.0 in
              let two : b ≡ h.b = tags_tie b h.b both.1 in
              let here : conflicts_on p h.a h.b c ≡ true = (λ i. conflicts_on p (sym one i) (sym two i) c) ∙ f.conflict in
              Passed ((λ i. is_lt (fault_cmp (one i) (two i) c h.a h.b h.cell)) ∙ same_tags h.a h.b c h.cell ∙ g.cell.first c here)
        ]

pub sought_keeps : (p : Program) (a b : Tag) (c : Cell) (found : Option Fault) → is_sought p a b found ≡ true
    → KeepsPassed found (Some (record { a = a; b = b; cell = c }))
sought_keeps p a b c found e x passed =
    at_found found (and_right (not (is_tag_before b a)) (is_pair_before a b found)
    (and_left (not (is_tag_before b a) && is_pair_before a b found) (not (is_dependent p a b)) e)) passed
  where
    at_found : (o : Option Fault) → is_pair_before a b o ≡ true → IsPassed o x → IsPassed (Some (record { a = a; b = b; cell = c })) x
    at_found None before passed = elim passed [ ]
    at_found (Some f) before (Passed not_before) =
        Passed (faults_rank.chain x f (record { a = a; b = b; cell = c }) not_before
        (faults_rank.one_way (record { a = a; b = b; cell = c }) f (earlier_pair (tag_cmp a f.a) (tag_cmp b f.b) (cell_cmp c f.cell) before)))

pub first_passes : (p : Program) (a b : Tag) (c : Cell) → IsFirstConflict p a b c → PassesPair p a b (Some (record { a = a; b = b; cell = c }))
first_passes p a b c first d f = Passed (same_tags a b d c ∙ first.first d f.conflict)

-- what never conflicts is passed
pub never_passes : (p : Program) (a b : Tag) (found : Option Fault) → NeverConflict p a b → PassesPair p a b found
never_passes p a b found never c f = absurd (not_both (conflicts_on p a b c) f.conflict (never c))

pub same_pair : (p : Program) (a b d e : Tag) (found : Option Fault) → a ≡ d → b ≡ e → PassesPair p a b found → PassesPair p d e found
same_pair p a b d e found first second passes =
    subst (λ t. PassesPair p t e found) first (subst (λ t. PassesPair p a t found) second passes)

-- ---- all tags
-- all faults are passed
abbrev pub AllPassed : Program → Option Fault → Type 0
AllPassed p found = (i : ℕ) → i < count_of_itags p → PassesTag p (tag_at p i) found

passes : (p : Program) (found : Option Fault) → AllPassed p found → (a b : Tag) (c : Cell) → IsCheckFault p a b c
    → IsPassed found (record { a = a; b = b; cell = c })
passes p found all a b c f =
    let one : HasItag p a = listed_has_itag p a f.a_listed in
    let two : HasItag p b = listed_has_itag p b f.b_listed in
    subst (λ (t : Tag). IsCheckFault p t b c → IsPassed found (record { a = t; b = b; cell = c })) one.is
    (subst (λ (t : Tag). IsCheckFault p (tag_at p one.number) t c → IsPassed found (record { a = tag_at p one.number; b = t; cell = c })) two.is
    (all one.number one.in_range two.number two.in_range c))
    f

pub passed_is_first : (p : Program) (found : Option Fault) → IfSome found (IsFound p) → AllPassed p found
    → IfSome found (λ f. IsFirstCheckFault p f.a f.b f.cell)
passed_is_first p None good all = tt
passed_is_first p (Some f) good all = record {
  fault = good.fault;
  first = λ d e g h. not_before d e g (passes p (Some f) all d e g h);
}
  where
    not_before : (d e : Tag) (g : Cell) → IsPassed (Some f) (record { a = d; b = e; cell = g }) → is_lt (fault_cmp d e g f.a f.b f.cell) ≡ false
    not_before d e g (Passed h) = h

-- a job without a fault is accepted
no_fault : (p : Program) → DependencyTurns → ConflictIsMutual → ((a b : Tag) (c : Cell) → IsCheckFault p a b c → ⊥) → IsAccepted p
no_fault p turns either none a b c in_a in_b conflict = at_test (is_dependent p a b) (is_tag_before b a) refl refl
  where
    at_test : (d o : Bool) → is_dependent p a b ≡ d → is_tag_before b a ≡ o → is_dependent p a b ≡ true
    at_test true o e f = e
    at_test false false e f = absurd (none a b c (record { a_listed = in_a; b_listed = in_b; in_order = f; independent = e; conflict = conflict }))
    at_test false true e f =
        absurd (none b a c (record {
          a_listed = in_b;
          b_listed = in_a;
          in_order = (ranks_by tags_total (λ t. t)).one_way b a f;
          independent = turns p b a ∙ e;
          conflict = either p b a c ∙ conflict;
        }))

pub passed_none : (p : Program) (found : Option Fault) → DependencyTurns → ConflictIsMutual → AllPassed p found → IfNone found (IsAccepted p)
passed_none p None turns either all = no_fault p turns either (λ a b c f. impossible (passes p None all a b c f))
  where
    impossible : {x : Fault} → IsPassed None x → ⊥
    impossible passed = elim passed [ ]
passed_none p (Some f) turns either all = tt
