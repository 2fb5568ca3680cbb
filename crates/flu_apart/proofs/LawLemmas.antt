-- Which cells the tags of a subtree need, and which those outside it use.
use Rattle.std.proofs.Common.{◌≡◌, ◌<◌, ℕ, Bool, true, false, cond, not, ◌&&◌, List, ◌⊎◌, inl, inr, refl, ap, ◌∙◌, arith}
use Rattle.std.specs.Prelude.{◌||◌, slice_get}
use Rattle.flu_lemmas.proofs.Ranges.{any_in_range}
use Rattle.flu_lemmas.proofs.Tests.{both, not_both, false_if_not}
use Rattle.flu_model.specs.declared.events.Cell.{Cell}
use Rattle.flu_model.specs.declared.events.Event.{Event}
use Rattle.flu_model.specs.declared.jobs.Program.{Program}
use Rattle.flu_model.specs.declared.jobs.Sort.TheVariants.{Sum}
use Rattle.flu_model.specs.declared.modes.Mode.{Mode}
use Rattle.flu_model.specs.declared.modes.Mode.TheVariants.{None as NoMode, Add as AddMode, Raise as RaiseMode, Read as ReadMode, Own}
use Rattle.flu_model.specs.declared.plans.Node.{Node}
use Rattle.flu_model.specs.Contents.{Contents}
use Rattle.flu_model.specs.Itags.{count_of_itags}
use Rattle.flu_model.specs.Modes.{uses}
use Rattle.flu_model.specs.Rules.{has_sort}
use Rattle.flu_laws.specs.Changes.{applied}
use Rattle.flu_laws.specs.Updating.{TextsAreLocal, ChangesAreLocal, UpdatesAreChanges, UnwrittenKeeps, ChangesMix}
use Rattle.flu_laws.specs.Uses.{needs, writes, AgreeOnNeeds}
use Rattle.flu_apart.specs.declared.classes.Class.TheVariants.{Unused, Kept, Contributed, Shared}
use Rattle.flu_apart.specs.Apart.{MayBeApart}
use Rattle.flu_apart.specs.Classes.{tag_at, mode_at, inside, outside, some_has, is_used, is_contributed, is_kept, class_of}
use Rattle.flu_apart.specs.Laws.{IsOutside, AgreeOnOthers, Contributes, LeavesKept, AllUseIt}
use Rattle.flu_apart.proofs.SortLemmas.{one_sort_in, added_is_sum, raised_is_max}

needed_is_used : (m : Mode) → needs m ≡ true → uses m ≡ true
needed_is_used NoMode e = cc
needed_is_used AddMode e = refl
needed_is_used RaiseMode e = refl
needed_is_used ReadMode e = refl
needed_is_used Own e = refl

written_is_used : (m : Mode) → writes m ≡ true → uses m ≡ true
written_is_used NoMode e = cc
written_is_used AddMode e = refl
written_is_used RaiseMode e = refl
written_is_used ReadMode e = refl
written_is_used Own e = refl

-- a class is Kept where it is used and kept
class_kept : (u k n : Bool) → u ≡ true → k ≡ true → cond u (cond k Kept (cond n Contributed Shared)) Unused ≡ Kept
class_kept false k n e f = cc
class_kept true false n e f = cc
class_kept true true n e f = refl

kept_class : (u k n : Bool) → cond u (cond k Kept (cond n Contributed Shared)) Unused ≡ Kept → k ≡ true
kept_class false k n e = cc
kept_class true true n e = refl
kept_class true false true e = cc
kept_class true false false e = cc

second : (a b : Bool) → (not a || b) ≡ true → a ≡ true → b ≡ true
second true b e f = e
second false b e f = cc

not_kept_user : (a : Bool) → not a ≡ true → a ≡ true → ⊥
not_kept_user true e f = cc
not_kept_user false e f = cc

mixed_only : (m : Mode) → uses m ≡ true → (needs m ≡ true → ⊥) → (m ≡ AddMode) ⊎ (m ≡ RaiseMode)
mixed_only NoMode used unneeded = cc
mixed_only AddMode used unneeded = inl refl
mixed_only RaiseMode used unneeded = inr refl
mixed_only ReadMode used unneeded = absurd (unneeded refl)
mixed_only Own used unneeded = absurd (unneeded refl)

module _ (p : Program) (nodes : List Node) (w : ℕ) where
  -- what a tag of the subtree needs is kept
  needed_is_kept : MayBeApart p nodes w → (i : ℕ) (c : Cell) → i < count_of_itags p → inside p nodes w i ≡ true → needs (mode_at p i c) ≡ true
      → class_of p nodes w c ≡ Kept
  needed_is_kept apart i c lt there needed =
      let used : uses (mode_at p i c) ≡ true = needed_is_used (mode_at p i c) needed in
      let some : is_used p nodes w c ≡ true =
      any_in_range (λ k. inside p nodes w k && uses (mode_at p k c)) 0 (count_of_itags p) i (omega arith) (omega arith)
      (both (inside p nodes w i) (uses (mode_at p i c)) there used) in
      let some_needs : some_has p needs (inside p nodes w) c ≡ true =
      any_in_range (λ k. inside p nodes w k && needs (mode_at p k c)) 0 (count_of_itags p) i (omega arith) (omega arith)
      (both (inside p nodes w i) (needs (mode_at p i c)) there needed) in
      class_kept (is_used p nodes w c) (is_kept p nodes w c) (is_contributed p nodes w c) some
      (second (some_has p needs (inside p nodes w) c) (is_kept p nodes w c) (apart.shares_none i c lt there used) some_needs)

  -- no tag outside uses what is kept
  kept_is_unused : (i : ℕ) (c : Cell) → i < count_of_itags p → inside p nodes w i ≡ false → class_of p nodes w c ≡ Kept → uses (mode_at p i c) ≡ true → ⊥
  kept_is_unused i c lt elsewhere is used =
      not_kept_user (some_has p uses (outside p nodes w) c) (kept_class (is_used p nodes w c) (is_kept p nodes w c) (is_contributed p nodes w c) is)
      (any_in_range (λ k. outside p nodes w k && uses (mode_at p k c)) 0 (count_of_itags p) i (omega arith) (omega arith)
      (both (outside p nodes w i) (uses (mode_at p i c)) (ap not elsewhere) used))

  module _ (texts : TextsAreLocal) (local : ChangesAreLocal) (changes : UpdatesAreChanges) (idle : UnwrittenKeeps) (mixing : ChangesMix) where
    pub contributes : MayBeApart p nodes w → Contributes p nodes w
    contributes apart = record {
      joins = λ s x c there sorts other.
          let unneeded : needs (mode_at p x.itag.0 c) ≡ false =
          false_if_not (needs (mode_at p x.itag.0 c)) (λ h. other (needed_is_kept apart x.itag.0 c there.in_range there.there h)) in
          changes p s x c sorts ∙ mixing p s x c (s c) unneeded (sorts c);
      texts = λ s t x there agree. texts p s t x (λ c h. agree c (needed_is_kept apart x.itag.0 c there.in_range there.there h));
      changes = λ s t x c there agree. local p s t x c (λ d h. agree d (needed_is_kept apart x.itag.0 d there.in_range there.there h));
    }

    agree_outside : (s t : Contents) (x : Event) → IsOutside p nodes w x → AgreeOnOthers p nodes w s t → AgreeOnNeeds p x s t
    agree_outside s t x there agree c needed =
        agree c (λ is. kept_is_unused x.itag.0 c there.in_range there.elsewhere is (needed_is_used (mode_at p x.itag.0 c) needed))

    pub leaves_kept : LeavesKept p nodes w
    leaves_kept = record {
      leaves = λ s x c there sorts is.
          let unwritten : writes (mode_at p x.itag.0 c) ≡ false =
          false_if_not (writes (mode_at p x.itag.0 c))
          (λ h. kept_is_unused x.itag.0 c there.in_range there.elsewhere is (written_is_used (mode_at p x.itag.0 c) h)) in
          changes p s x c sorts ∙ ap (λ g. applied g (s c)) (idle p s x c unwritten);
      texts = λ s t x there agree. texts p s t x (agree_outside s t x there agree);
      changes = λ s t x c there agree. local p s t x c (agree_outside s t x there agree);
    }

  pub one_mode : (c : Cell) → is_contributed p nodes w c ≡ true → AllUseIt p nodes w c AddMode ⊎ AllUseIt p nodes w c RaiseMode
  one_mode c e =
      elim (has_sort (slice_get p.families c.family) Sum) as (λ b. has_sort (slice_get p.families c.family) Sum ≡ b
      → AllUseIt p nodes w c AddMode ⊎ AllUseIt p nodes w c RaiseMode) [
        | true ↦ λ sum. inl (λ i lt there used. elim (modes i lt there used) [
          | inl add ↦ add
          | inr raise ↦ absurd (one_sort_in (slice_get p.families c.family) sum (raised_is_max p (tag_at p i) c raise))
        ])
        | false ↦ λ other. inr (λ i lt there used. elim (modes i lt there used) [
          | inl add ↦ absurd (not_both (has_sort (slice_get p.families c.family) Sum) (added_is_sum p (tag_at p i) c add) other)
          | inr raise ↦ raise
        ])
      ] refl
    where
      modes : (i : ℕ) → i < count_of_itags p → inside p nodes w i ≡ true → uses (mode_at p i c) ≡ true
          → (mode_at p i c ≡ AddMode) ⊎ (mode_at p i c ≡ RaiseMode)
      modes i lt there used =
          mixed_only (mode_at p i c) used
          (λ needed. not_kept_user (some_has p needs (inside p nodes w) c) e
          (any_in_range (λ k. inside p nodes w k && needs (mode_at p k c)) 0 (count_of_itags p) i (omega arith) (omega arith)
          (both (inside p nodes w i) (needs (mode_at p i c)) there needed)))
