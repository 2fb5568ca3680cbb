-- Bytes have one first fault at most, and those that have one are no whole partial of what can have been sent.
use Rattle.std.proofs.Common.{◌≡◌, ◌≢◌, ℕ, ◌+◌, ◌⊎◌, inl, inr, Bool, true, false, cond, List, [], ◌∷◌, refl, sym, ap, subst, ◌∙◌, arith}
use Rattle.std.specs.Prelude.{IsTrue, ◌==◌}
use Rattle.std.specs.List.{AllByRecursion, onto_first}
use Rattle.flu_model.specs.declared.jobs.Program.{Program}
use Rattle.flu_partial.specs.declared.fault.LineFault.{LineFault}
use Rattle.flu_partial.specs.declared.fault.LineFault.TheVariants as line_fault
use Rattle.flu_partial.specs.declared.order.Reached.{Reached}
use Rattle.flu_partial.specs.declared.order.Reached.TheVariants.{Head}
use Rattle.flu_partial.specs.declared.values.Contribution.{Contribution}
use Rattle.flu_partial.specs.declared.values.PartialHead.{PartialHead}
use Rattle.flu_partial.specs.Forms.{IsHeadLine, IsContributionLine, IsFaultOf}
use Rattle.flu_partial.specs.Laws.{LawOfContributions}
use Rattle.flu_partial.specs.Order.{may_come, reached_with, AreRest}
use Rattle.flu_partial.specs.Partial.{head_text, contribution_text}
use Rattle.flu_receiving.specs.declared.fault.PartialFault.{PartialFault}
use Rattle.flu_receiving.specs.Faults.{parts_of, fault_at, IsUnread, IsUnfit, IsLineFault, IsNext, IsFaultFrom, IsFaultIn}
use Rattle.flu_receiving.specs.Laws.{BytesHaveOneFault, FaultyBytesAreNotWhole}
use Rattle.flu_receiving.specs.Receiving.{lines_text, HasLine, IsSendableLine}
use Rattle.flu_receiving.proofs.Unbroken.{parts_line, head_unbroken, contribution_unbroken}

-- ---- the first part
pub record HasParts (parts : List (List ℕ)) : Type 0 where
  pub first : List ℕ
  pub more : List (List ℕ)
  pub is : parts ≡ first ∷ more

onto_some : (b : ℕ) (parts : List (List ℕ)) → HasParts (onto_first b parts)
onto_some b [] = record { first = b ∷ []; more = []; is = refl }
onto_some b (part ∷ parts) = record { first = b ∷ part; more = parts; is = refl }

either_some : (hit : Bool) (b : ℕ) (parts : List (List ℕ)) → HasParts (cond hit ([] ∷ parts) (onto_first b parts))
either_some true b parts = record { first = []; more = parts; is = refl }
either_some false b parts = onto_some b parts

pub parts_some : (bytes : List ℕ) → HasParts (parts_of bytes)
parts_some [] = record { first = []; more = []; is = refl }
parts_some (b ∷ bytes) = either_some (b == 10) b (parts_of bytes)

-- ---- the faults of a line and of the lines behind it
abbrev pub IsHereOrBehind : Program → ℕ → Reached → List ℕ → List (List ℕ) → PartialFault → Type 0
IsHereOrBehind p number r line parts e =
    IsLineFault p number r line e ⊎ ((c : Contribution) × IsNext p r c line × IsFaultFrom p (number + 1) (reached_with c.place) parts e)

pub fault_split : (p : Program) (number : ℕ) (r : Reached) (line rest : List ℕ) (e : PartialFault) → IsFaultFrom p number r (line ∷ parts_of rest) e
    → IsHereOrBehind p number r line (parts_of rest) e
fault_split p number r line rest e f =
    let s = parts_some rest in
    let g : IsFaultFrom p number r (line ∷ s.first ∷ s.more) e = subst (λ (parts : List (List ℕ)). IsFaultFrom p number r (line ∷ parts) e) s.is f in
    subst (λ (parts : List (List ℕ)). IsHereOrBehind p number r line parts e) (sym s.is) g

pub fault_join : (p : Program) (number : ℕ) (r : Reached) (line rest : List ℕ) (e : PartialFault) → IsHereOrBehind p number r line (parts_of rest) e
    → IsFaultFrom p number r (line ∷ parts_of rest) e
fault_join p number r line rest e f =
    let s = parts_some rest in
    let g : IsFaultFrom p number r (line ∷ s.first ∷ s.more) e = subst (λ (parts : List (List ℕ)). IsHereOrBehind p number r line parts e) s.is f in
    subst (λ (parts : List (List ℕ)). IsFaultFrom p number r (line ∷ parts) e) (sym s.is) g

abbrev pub IsOfHeadOrBehind : Program → List ℕ → List (List ℕ) → PartialFault → Type 0
IsOfHeadOrBehind p line parts e = IsUnread IsHeadLine 1 line e ⊎ ((h : PartialHead) × IsHeadLine h line × IsFaultFrom p 2 Head parts e)

pub head_split : (p : Program) (line rest : List ℕ) (e : PartialFault) → IsFaultIn p (line ∷ parts_of rest) e → IsOfHeadOrBehind p line (parts_of rest) e
head_split p line rest e f =
    let s = parts_some rest in
    let g : IsFaultIn p (line ∷ s.first ∷ s.more) e = subst (λ (parts : List (List ℕ)). IsFaultIn p (line ∷ parts) e) s.is f in
    subst (λ (parts : List (List ℕ)). IsOfHeadOrBehind p line parts e) (sym s.is) g

pub head_join : (p : Program) (line rest : List ℕ) (e : PartialFault) → IsOfHeadOrBehind p line (parts_of rest) e → IsFaultIn p (line ∷ parts_of rest) e
head_join p line rest e f =
    let s = parts_some rest in
    let g : IsFaultIn p (line ∷ s.first ∷ s.more) e = subst (λ (parts : List (List ℕ)). IsOfHeadOrBehind p line parts e) s.is f in
    subst (λ (parts : List (List ℕ)). IsFaultIn p (line ∷ parts) e) (sym s.is) g

-- ---- one fault at most
one_line_fault : {X : Type 0} (IsLine : X → List ℕ → Type 0) (line : List ℕ) (f g : LineFault) → f ≢ line_fault.NoMemory → g ≢ line_fault.NoMemory
    → IsFaultOf IsLine line f → IsFaultOf IsLine line g → f ≡ g
one_line_fault IsLine line (line_fault.OverLimit a) (line_fault.OverLimit b) ne also one two = ap line_fault.OverLimit (one.1 ∙ sym two.1)
one_line_fault IsLine line (line_fault.OverLimit a) line_fault.NotJson ne also one two = absurd (omega (arith, one.0, two.0))
one_line_fault IsLine line (line_fault.OverLimit a) line_fault.WrongForm ne also one two = absurd (omega (arith, one.0, two.0))
one_line_fault IsLine line (line_fault.OverLimit a) line_fault.NoMemory ne also one two = absurd (also refl)
one_line_fault IsLine line line_fault.NotJson (line_fault.OverLimit b) ne also one two = absurd (omega (arith, one.0, two.0))
one_line_fault IsLine line line_fault.NotJson line_fault.NotJson ne also one two = refl
one_line_fault IsLine line line_fault.NotJson line_fault.WrongForm ne also one two = absurd (one.1 two.1.0 two.1.1)
one_line_fault IsLine line line_fault.NotJson line_fault.NoMemory ne also one two = absurd (also refl)
one_line_fault IsLine line line_fault.WrongForm (line_fault.OverLimit b) ne also one two = absurd (omega (arith, one.0, two.0))
one_line_fault IsLine line line_fault.WrongForm line_fault.NotJson ne also one two = absurd (two.1 one.1.0 one.1.1)
one_line_fault IsLine line line_fault.WrongForm line_fault.WrongForm ne also one two = refl
one_line_fault IsLine line line_fault.WrongForm line_fault.NoMemory ne also one two = absurd (also refl)
one_line_fault IsLine line line_fault.NoMemory g ne also one two = absurd (ne refl)

one_unread : {X : Type 0} (IsLine : X → List ℕ → Type 0) (number : ℕ) (line : List ℕ) (d e : PartialFault) → IsUnread IsLine number line d
    → IsUnread IsLine number line e → d ≡ e
one_unread IsLine number line d e one two =
    one.1.3 ∙ ap (fault_at number) (one_line_fault IsLine line one.1.0 two.1.0 one.1.1 two.1.1 one.1.2 two.1.2) ∙ sym two.1.3

one_of_line : LawOfContributions → (b c : Contribution) (line : List ℕ) → IsContributionLine b line → IsContributionLine c line → b ≡ c
one_of_line law b c line one two = law b c one.contribution two.contribution (sym one.text ∙ two.text)

one_unfit : (p : Program) (number : ℕ) (r : Reached) (c : Contribution) (d e : PartialFault) → IsUnfit p number r c d → IsUnfit p number r c e → d ≡ e
one_unfit p number r c d e (inl one) (inl two) = one.1 ∙ sym two.1
one_unfit p number r c d e (inl one) (inr two) = absurd (one.0 two.0)
one_unfit p number r c d e (inr one) (inl two) = absurd (two.0 one.0)
one_unfit p number r c d e (inr one) (inr two) = one.2 ∙ sym two.2

one_here : LawOfContributions → (p : Program) (number : ℕ) (r : Reached) (line : List ℕ) (d e : PartialFault) → IsLineFault p number r line d
    → IsLineFault p number r line e → d ≡ e
one_here law p number r line d e (inl one) (inl two) = one_unread IsContributionLine number line d e one two
one_here law p number r line d e (inl one) (inr two) = absurd (one.0 two.0 two.1)
one_here law p number r line d e (inr one) (inl two) = absurd (two.0 one.0 one.1)
one_here law p number r line d e (inr one) (inr two) =
    let same = one_of_line law two.0 one.0 line two.1 one.1 in
    one_unfit p number r one.0 d e one.2 (subst (λ (c : Contribution). IsUnfit p number r c e) same two.2)

fit : (p : Program) (number : ℕ) (r : Reached) (c : Contribution) (e : PartialFault) → IsSendableLine p c → IsTrue (may_come r c) → IsUnfit p number r c e → ⊥
fit p number r c e sendable timely (inl h) = h.0 sendable
fit p number r c e sendable timely (inr h) = h.1 timely

right : LawOfContributions → (p : Program) (number : ℕ) (r : Reached) (c : Contribution) (line : List ℕ) (e : PartialFault) → IsContributionLine c line
    → IsSendableLine p c → IsTrue (may_come r c) → IsLineFault p number r line e → ⊥
right law p number r c line e is sendable timely (inl h) = h.0 c is
right law p number r c line e is sendable timely (inr h) =
    fit p number r c e sendable timely (subst (λ (b : Contribution). IsUnfit p number r b e) (one_of_line law h.0 c line h.1 is) h.2)

one_from : LawOfContributions → (p : Program) (number : ℕ) (r : Reached) (parts : List (List ℕ)) (d e : PartialFault) → IsFaultFrom p number r parts d
    → IsFaultFrom p number r parts e → d ≡ e
one_from law p number r [] d e one two = absurd one
one_from law p number r (behind ∷ []) d e one two = one.1 ∙ sym two.1
one_from law p number r (line ∷ next ∷ more) d e (inl one) (inl two) = one_here law p number r line d e one two
one_from law p number r (line ∷ next ∷ more) d e (inl one) (inr two) =
    absurd (right law p number r two.0 line d two.1.is_line two.1.sendable two.1.timely one)
one_from law p number r (line ∷ next ∷ more) d e (inr one) (inl two) =
    absurd (right law p number r one.0 line e one.1.is_line one.1.sendable one.1.timely two)
one_from law p number r (line ∷ next ∷ more) d e (inr one) (inr two) =
    let same = one_of_line law two.0 one.0 line two.1.is_line one.1.is_line in
    one_from law p (number + 1) (reached_with one.0.place) (next ∷ more) d e one.2
    (subst (λ (c : Contribution). IsFaultFrom p (number + 1) (reached_with c.place) (next ∷ more) e) same two.2)

one_in : LawOfContributions → (p : Program) (parts : List (List ℕ)) (d e : PartialFault) → IsFaultIn p parts d → IsFaultIn p parts e → d ≡ e
one_in law p [] d e one two = absurd one
one_in law p (behind ∷ []) d e one two = one ∙ sym two
one_in law p (line ∷ next ∷ more) d e (inl one) (inl two) = one_unread IsHeadLine 1 line d e one two
one_in law p (line ∷ next ∷ more) d e (inl one) (inr two) = absurd (one.0 two.0 two.1)
one_in law p (line ∷ next ∷ more) d e (inr one) (inl two) = absurd (two.0 one.0 one.1)
one_in law p (line ∷ next ∷ more) d e (inr one) (inr two) = one_from law p 2 Head (next ∷ more) d e one.2 two.2

pub one_fault : LawOfContributions → BytesHaveOneFault
one_fault law p bytes d e one two = one_in law p (parts_of bytes) d e one two

-- ---- faulty bytes are not whole
right_from : LawOfContributions → (p : Program) (number : ℕ) (r : Reached) (cs : List Contribution) (e : PartialFault) → AllByRecursion HasLine cs
    → AllByRecursion (IsSendableLine p) cs → AreRest r cs → IsFaultFrom p number r (parts_of (lines_text cs)) e → ⊥
right_from law p number r [] e lines sendable rest f = f.0 (refl, rest)
right_from law p number r (c ∷ cs) e lines sendable rest f =
    let text = contribution_text c in
    let cut = parts_line text (lines_text cs) (contribution_unbroken c lines.0.contribution) in
    let g = subst (λ (parts : List (List ℕ)). IsFaultFrom p number r parts e) cut f in
    elim (fault_split p number r text (lines_text cs) e g) [
      | inl h ↦ right law p number r c text e lines.0 sendable.0 rest.0 h
      | inr h ↦
          let same = one_of_line law h.0 c text h.1.is_line lines.0 in
          right_from law p (number + 1) (reached_with c.place) cs e lines.1 sendable.1 rest.1
          (subst (λ (b : Contribution). IsFaultFrom p (number + 1) (reached_with b.place) (parts_of (lines_text cs)) e) same h.2)
    ]

right_head : LawOfContributions → (p : Program) (h : PartialHead) (cs : List Contribution) (e : PartialFault) → IsHeadLine h (head_text h)
    → AllByRecursion HasLine cs → AllByRecursion (IsSendableLine p) cs → AreRest Head cs
    → IsOfHeadOrBehind p (head_text h) (parts_of (lines_text cs)) e → ⊥
right_head law p h cs e head lines sendable rest (inl f) = f.0 h head
right_head law p h cs e head lines sendable rest (inr f) = right_from law p 2 Head cs e lines sendable rest f.2

pub not_whole : LawOfContributions → FaultyBytesAreNotWhole
not_whole law p bytes e h cs fault whole sendable =
    let cut : parts_of bytes ≡ head_text h ∷ parts_of (lines_text cs) =
    ap parts_of whole.text ∙ parts_line (head_text h) (lines_text cs) (head_unbroken h whole.head.head) in
    right_head law p h cs e whole.head whole.lines sendable whole.order
    (head_split p (head_text h) (lines_text cs) e (subst (λ (parts : List (List ℕ)). IsFaultIn p parts e) cut fault))
