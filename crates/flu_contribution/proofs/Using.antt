-- How events use the cells of a node that may be apart: those inside it, those above it, and the others.
use Rattle.std.proofs.Common.{◌≡◌, ◌<◌, ℕ, Bool, true, false, cond, not, ◌&&◌, List, ◌⊎◌, inl, inr, refl, sym, ap, ◌∙◌, length, None, arith}
use Rattle.std.specs.Prelude.{◌||◌, ◌==◌, Option}
use Rattle.std.proofs.lemmas.Bool.{or_cases}
use Rattle.std.proofs.lemmas.List.Elements.{Contains-get_or}
use Rattle.flu_lemmas.proofs.Ranges.{any_in_range, found_in_range}
use Rattle.flu_lemmas.proofs.Tests.{both, and_left, and_right, not_both, false_if_not, true_eq}
use Rattle.flu_model.specs.declared.events.Cell.{Cell}
use Rattle.flu_model.specs.declared.events.Itag.{Itag}
use Rattle.flu_model.specs.declared.events.Tag.{Tag}
use Rattle.flu_model.specs.declared.events.Worth.{Worth}
use Rattle.flu_model.specs.declared.jobs.Program.{Program}
use Rattle.flu_model.specs.declared.modes.Mode.{Mode}
use Rattle.flu_model.specs.declared.modes.Mode.TheVariants.{None as NoMode, Add as AddMode, Raise as RaiseMode, Read as ReadMode, Own}
use Rattle.flu_model.specs.declared.plans.Node.{Node}
use Rattle.flu_model.specs.Contents.{joined_worth}
use Rattle.flu_model.specs.Itags.{itags, count_of_itags, source_of_itag}
use Rattle.flu_model.specs.Listing.{tag}
use Rattle.flu_model.specs.Modes.{mode_of, uses, IsInUniverse}
use Rattle.flu_model.specs.Owners.{owner_of, subtree_owns, ancestors_own, is_within, are_related}
use Rattle.flu_model.specs.Sorts.{MayHold}
use Rattle.flu_model.specs.Validity.{IsValid}
use Rattle.std.specs.Prelude.{Some}
use Rattle.flu_laws.specs.Consistency.{UpdatesLeft, UpdatesRight}
use Rattle.flu_laws.specs.Lawful.{IsLawful}
use Rattle.flu_laws.specs.Uses.{needs, writes, mixes}
use Rattle.flu_deps.specs.Owners.{IsOwned}
use Rattle.flu_deps.specs.Trees.{IsOrdered, AreApart}
use Rattle.flu_apart.specs.declared.classes.Class.TheVariants.{Unused, Kept, Contributed, Shared}
use Rattle.flu_apart.specs.Apart.{MayBeApart}
use Rattle.flu_apart.specs.Classes.{itag, tag_at, mode_at, inside, outside, some_has, is_used, is_contributed, is_kept}
use Rattle.flu_contribution.specs.Contributions.{is_class_kept, keeps}

-- what the laws of jobs and plans say of a job and a plan for it
pub record Known (p : Program) (nodes : List Node) : Type 0 where
  pub order : IsOrdered nodes
  pub owned : (i : Itag) → i.0 < count_of_itags p → IsOwned p nodes i
  pub valid : IsValid p nodes
  pub lawful : IsLawful p
  pub left : UpdatesLeft p
  pub right : UpdatesRight p

-- ---- modes and tests
pub needed_is_used : (m : Mode) → needs m ≡ true → uses m ≡ true
needed_is_used NoMode e = cc
needed_is_used AddMode e = refl
needed_is_used RaiseMode e = refl
needed_is_used ReadMode e = refl
needed_is_used Own e = refl

pub written_is_used : (m : Mode) → writes m ≡ true → uses m ≡ true
written_is_used NoMode e = cc
written_is_used AddMode e = refl
written_is_used RaiseMode e = refl
written_is_used ReadMode e = refl
written_is_used Own e = refl

used_unneeded : (m : Mode) → uses m ≡ true → needs m ≡ false → writes m ≡ true
used_unneeded NoMode e f = cc
used_unneeded AddMode e f = refl
used_unneeded RaiseMode e f = refl
used_unneeded ReadMode e f = cc
used_unneeded Own e f = refl

class_test : (u k n : Bool) → is_class_kept (cond u (cond k Kept (cond n Contributed Shared)) Unused) ≡ (u && k)
class_test false k n = refl
class_test true true n = refl
class_test true false true = refl
class_test true false false = refl

and_not : (a b : Bool) → (a && not b) ≡ false → a ≡ true → b ≡ true
and_not true true e f = refl
and_not true false e f = cc
and_not false b e f = cc

and_false : (a b : Bool) → (a && b) ≡ false → a ≡ true → b ≡ false
and_false true b e f = e
and_false false b e f = cc

or_first : (a b : Bool) → (a || b) ≡ true → b ≡ false → a ≡ true
or_first true b e f = refl
or_first false b e f = cc

or_second : (a b : Bool) → (a || b) ≡ true → a ≡ false → b ≡ true
or_second true b e f = cc
or_second false b e f = e

not_of_true : (a : Bool) → not a ≡ true → a ≡ false
not_of_true true e = cc
not_of_true false e = refl

not_of_false : (a : Bool) → a ≡ true → not a ≡ false
not_of_false true e = refl
not_of_false false e = cc

module _ (p : Program) (nodes : List Node) where
  pub inside_by : (w v : ℕ) (i : Itag) → owner_of p nodes i ≡ Some v → subtree_owns p nodes w i ≡ is_within nodes w v
  inside_by w v i e = rw e refl

  pub above_by : (w v : ℕ) (i : Itag) → owner_of p nodes i ≡ Some v → ancestors_own p nodes w i ≡ (is_within nodes v w && not (v == w))
  above_by w v i e = rw e refl

  keeps_by : (w : ℕ) (c : Cell) → keeps p nodes w c ≡ (is_used p nodes w c && is_kept p nodes w c)
  keeps_by w c = class_test (is_used p nodes w c) (is_kept p nodes w c) (is_contributed p nodes w c)

  -- ---- what is used, kept and contributed to
  pub used_by : (w i : ℕ) (c : Cell) → i < count_of_itags p → inside p nodes w i ≡ true → uses (mode_at p i c) ≡ true → is_used p nodes w c ≡ true
  used_by w i c lt there used =
      any_in_range (λ k. inside p nodes w k && uses (mode_at p k c)) 0 (count_of_itags p) i (omega arith) (omega arith)
      (both (inside p nodes w i) (uses (mode_at p i c)) there used)

  -- a tag of the subtree that uses a cell
  pub record User (w : ℕ) (c : Cell) : Type 0 where
    pub number : ℕ
    pub in_range : number < count_of_itags p
    pub there : inside p nodes w number ≡ true
    pub uses_it : uses (mode_at p number c) ≡ true

  user : (w : ℕ) (c : Cell) → is_used p nodes w c ≡ true → User w c
  user w c e =
      let found = found_in_range (λ k. inside p nodes w k && uses (mode_at p k c)) 0 (count_of_itags p) e in
      let high = found.high in
      record {
        number = found.number;
        in_range = omega arith;
        there = and_left (inside p nodes w found.number) _ found.passes;
        uses_it = and_right (inside p nodes w found.number) _ found.passes;
      }

  pub kept_unused : (w i : ℕ) (c : Cell) → i < count_of_itags p → inside p nodes w i ≡ false → uses (mode_at p i c) ≡ true → keeps p nodes w c ≡ false
  kept_unused w i c lt elsewhere used =
      false_if_not _ (λ h.
      let kept : is_kept p nodes w c ≡ true = and_right (is_used p nodes w c) _ (sym (keeps_by w c) ∙ h) in
      not_both (some_has p uses (outside p nodes w) c)
      (any_in_range (λ k. outside p nodes w k && uses (mode_at p k c)) 0 (count_of_itags p) i (omega arith) (omega arith)
      (both (outside p nodes w i) (uses (mode_at p i c)) (ap not elsewhere) used))
      (not_of_true (some_has p uses (outside p nodes w) c) kept))

  contributed_unneeded : (w i : ℕ) (c : Cell) → is_contributed p nodes w c ≡ true → i < count_of_itags p → inside p nodes w i ≡ true
      → needs (mode_at p i c) ≡ false
  contributed_unneeded w i c e lt there =
      false_if_not _ (λ h. not_both (some_has p needs (inside p nodes w) c)
      (any_in_range (λ k. inside p nodes w k && needs (mode_at p k c)) 0 (count_of_itags p) i (omega arith) (omega arith)
      (both (inside p nodes w i) (needs (mode_at p i c)) there h))
      (not_of_true (some_has p needs (inside p nodes w) c) e))

  pub needs_kept : (w i : ℕ) (c : Cell) → MayBeApart p nodes w → i < count_of_itags p → inside p nodes w i ≡ true → needs (mode_at p i c) ≡ true
      → keeps p nodes w c ≡ true
  needs_kept w i c may lt there needed =
      let used : uses (mode_at p i c) ≡ true = needed_is_used (mode_at p i c) needed in
      let not_contributed : is_contributed p nodes w c ≡ false =
      false_if_not _ (λ h. not_both (needs (mode_at p i c)) needed (contributed_unneeded w i c h lt there)) in
      keeps_by w c ∙ both _ _ (used_by w i c lt there used) (or_second (is_contributed p nodes w c) _ (may.shares_none i c lt there used) not_contributed)

  -- a cell that tags of the subtree use, and some other uses
  other_contributed : (w i : ℕ) (c : Cell) → MayBeApart p nodes w → i < count_of_itags p → inside p nodes w i ≡ true → uses (mode_at p i c) ≡ true
      → keeps p nodes w c ≡ false → writes (mode_at p i c) && not (needs (mode_at p i c)) ≡ true
  other_contributed w i c may lt there used other =
      let not_kept : is_kept p nodes w c ≡ false = and_false _ _ (sym (keeps_by w c) ∙ other) (used_by w i c lt there used) in
      let is : is_contributed p nodes w c ≡ true = or_first _ _ (may.shares_none i c lt there used) not_kept in
      let unneeded : needs (mode_at p i c) ≡ false = contributed_unneeded w i c is lt there in
      both _ _ (used_unneeded (mode_at p i c) used unneeded) (ap not unneeded)

  pub mixing : (w : ℕ) (c : Cell) → MayBeApart p nodes w → is_used p nodes w c ≡ true → keeps p nodes w c ≡ false
      → (t : Tag) × (mixes (mode_of p t c) ≡ true)
  mixing w c may used other =
      let u = user w c used in
      (tag_at p u.number, other_contributed w u.number c may u.in_range u.there u.uses_it other)

  module _ (known : Known p nodes) where
    -- ---- nodes and owners
    unrelated : (w u v : ℕ) → w < length nodes → u < length nodes → v < length nodes → is_within nodes w u ≡ true → is_within nodes w v ≡ false
        → (is_within nodes v w && not (v == w)) ≡ false → are_related nodes v u ≡ false
    unrelated w u v w_there u_there v_there inner out not_above =
        false_if_not _ (λ h. elim (or_cases (is_within nodes v u) (is_within nodes u v) h) [
          | inl over ↦ elim (known.order.line v w u u_there over inner) [
            | inl above ↦
                let same : v ≡ w = true_eq v w (and_not _ _ not_above above) in
                not_both _ (ap (is_within nodes w) same ∙ known.order.itself w w_there) out
            | inr below ↦ not_both _ below out
          ]
          | inr under ↦ not_both _ (known.order.through w u v v_there under inner) out
        ])

    pub apart_inside : (w q : ℕ) (i : Itag) → i.0 < count_of_itags p → AreApart nodes w q → subtree_owns p nodes w i ≡ true
        → subtree_owns p nodes q i ≡ false
    apart_inside w q i lt apart there =
        let o = known.owned i lt in
        false_if_not _ (λ h. elim (known.order.line w q o.owner o.there (sym (inside_by w o.owner i o.is) ∙ there) (sym (inside_by q o.owner i o.is) ∙ h)) [
          | inl g ↦ not_both _ g apart.0
          | inr g ↦ not_both _ g apart.1
        ])

    pub apart_above : (w q : ℕ) (i : Itag) → i.0 < count_of_itags p → q < length nodes → AreApart nodes w q → subtree_owns p nodes w i ≡ true
        → ancestors_own p nodes q i ≡ false
    apart_above w q i lt q_there apart there =
        let o = known.owned i lt in
        false_if_not _ (λ h. not_both _
        (known.order.through w o.owner q q_there (and_left _ _ (sym (above_by q o.owner i o.is) ∙ h)) (sym (inside_by w o.owner i o.is) ∙ there))
        apart.0)

    in_universe : (i : ℕ) → i < count_of_itags p → IsInUniverse p (tag_at p i)
    in_universe i lt = (source_of_itag p (itag i), Contains-get_or (itags p) i (tag 0 0, 0) lt)

    -- what an event needs that is neither inside a node nor above it, no tag of the subtree uses
    pub unneeded : (w i : ℕ) (c : Cell) → w < length nodes → MayBeApart p nodes w → i < count_of_itags p → inside p nodes w i ≡ false
        → ancestors_own p nodes w (itag i) ≡ false → needs (mode_at p i c) ≡ true → is_used p nodes w c ≡ false
    unneeded w i c w_there may lt out not_above needed =
        false_if_not _ (λ h.
        let u = user w c h in
        let other : keeps p nodes w c ≡ false = kept_unused w i c lt out (needed_is_used (mode_at p i c) needed) in
        let written = and_left _ _ (other_contributed w u.number c may u.in_range u.there u.uses_it other) in
        let dependent = known.lawful.accepted (tag_at p i) (tag_at p u.number) c (in_universe i lt) (in_universe u.number u.in_range) needed written in
        let a = known.owned (itag i) lt in
        let b = known.owned (itag u.number) u.in_range in
        let apart : are_related nodes a.owner b.owner ≡ false =
        unrelated w b.owner a.owner w_there b.there a.there (sym (inside_by w b.owner (itag u.number) b.is) ∙ u.there)
        (sym (inside_by w a.owner (itag i) a.is) ∙ out) (sym (above_by w a.owner (itag i) a.is) ∙ not_above) in
        let independent = known.valid.independent a.owner b.owner (itag i) (itag u.number) lt u.in_range ((a.alone a.owner).1 a.is)
        ((b.alone b.owner).1 b.is) apart in
        not_both _ dependent independent)

    -- what a tag of one node's subtree uses, no node apart from it keeps
    pub used_elsewhere : (w q : ℕ) (c : Cell) → AreApart nodes w q → is_used p nodes w c ≡ true → keeps p nodes q c ≡ false
    used_elsewhere w q c apart used =
        let u = user w c used in
        kept_unused q u.number c u.in_range (apart_inside w q (itag u.number) u.in_range apart u.there) u.uses_it

    pub keeps_used : (w : ℕ) (c : Cell) → keeps p nodes w c ≡ true → is_used p nodes w c ≡ true
    keeps_used w c e = and_left _ _ (sym (keeps_by w c) ∙ e)

    -- ---- amounts that may be joined in any order
    abbrev pub Moves : Cell → Option Worth → Type 0
    Moves c a = (a ≡ None) ⊎ ((t : Tag) × (mixes (mode_of p t c) ≡ true))

    pub swap : (c : Cell) (r a b : Option Worth) → MayHold p.families c r → MayHold p.families c a → MayHold p.families c b → Moves c a
        → joined_worth (joined_worth r a) b ≡ joined_worth (joined_worth r b) a
    swap c r a b hr ha hb (inl none) =
        ap (λ o. joined_worth (joined_worth r o) b) none ∙ ap (λ o. joined_worth o b) (known.lawful.mix_right r)
        ∙ sym (known.lawful.mix_right (joined_worth r b)) ∙ ap (λ o. joined_worth (joined_worth r b) o) (sym none)
    swap c r a b hr ha hb (inr m) =
        known.lawful.mix_groups m.0 c r a b m.1 hr ha hb
        ∙ ap (joined_worth r) (known.lawful.mix_turns m.0 c a b m.1 ha hb)
        ∙ sym (known.lawful.mix_groups m.0 c r b a m.1 hr hb ha)
