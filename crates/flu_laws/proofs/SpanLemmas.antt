-- Spans add up over counts.
use Rattle.std.proofs.Common.{inl, inr, ◌≡◌, ◌≤◌, ℕ, true, false, cond, ℤ, Option, Some, None, List, [], ◌∷◌, refl, sym, ap, subst, ◌∙◌, arith}
use Rattle.std.specs.Prelude.{nat_le, nat_lt, ◌&&◌, ◌⊎◌, slice_index, slice_get, ⊤}
use Rattle.std.specs.List.{filter, AllByRecursion}
use Rattle.std.proofs.lemmas.Grind.{common_steps}
use Rattle.flu_lemmas.proofs.Tests.{both}
use Rattle.flu_lemmas.proofs.Numbers.{lt_wider}
use Rattle.flu_model.specs.declared.events.Cell.{Cell}
use Rattle.flu_model.specs.declared.events.Tag.{Tag}
use Rattle.flu_model.specs.declared.events.Worth.{Worth}
use Rattle.flu_model.specs.declared.jobs.Family.{Family}
use Rattle.flu_model.specs.declared.jobs.Program.{Program}
use Rattle.flu_model.specs.declared.jobs.Sort.TheVariants.{Sum as SumSort, Max as MaxSort}
use Rattle.flu_model.specs.declared.modes.Mode.{Mode}
use Rattle.flu_model.specs.declared.modes.Mode.TheVariants.{None as NoMode, Add as AddMode, Raise as RaiseMode, Read as ReadMode, Own}
use Rattle.flu_model.specs.Contents.{joined_worth, added, raised}
use Rattle.flu_model.specs.Itags.{tag_of_itag}
use Rattle.flu_model.specs.Moments.{at_its_time}
use Rattle.flu_model.specs.Rules.{has_sort}
use Rattle.flu_model.specs.Updates.{actions_of, showing_of}
use Rattle.flu_model.specs.Sorts.{MayHold}
use Rattle.flu_laws.specs.Uses.{needs, mode_at}
use Rattle.flu_laws.specs.Changes.{Change, Keep, Put, Gain, Reach, applied, reach, level_reached, change_by}
use Rattle.flu_laws.specs.Spans.{Moment, is_between, change_at, changed_by, AreAtMost, SpansAddUp}
use Rattle.flu_laws.proofs.Algebra.{added-joined, added-holds, joined_sums-comm, raised-joined, raised-holds, joined_maxima-comm}
use Rattle.flu_laws.proofs.Algebra.{added-mixes, raised-mixes, joined_family}
use Rattle.std.proofs.lemmas.Bool.{and_left as and_false_left, and_right as and_false_right}
use Rattle.flu_laws.proofs.Lawful.{added_sort, raised_sort, added_may, raised_may}
use Rattle.flu_laws.proofs.Values.{HoldsSort, holds_sort}

-- an index is in the first part, in the second, or in neither
abbrev Parts : ℕ → ℕ → ℕ → ℕ → Type 0
Parts i a b d =
    (((nat_le a i && nat_lt i b) ≡ true) × ((nat_le b i && nat_lt i d) ≡ false) × ((nat_le a i && nat_lt i d) ≡ true))
    ⊎ ((((nat_le a i && nat_lt i b) ≡ false) × ((nat_le b i && nat_lt i d) ≡ true) × ((nat_le a i && nat_lt i d) ≡ true))
    ⊎ (((nat_le a i && nat_lt i b) ≡ false) × ((nat_le b i && nat_lt i d) ≡ false) × ((nat_le a i && nat_lt i d) ≡ false)))

not_le : (a b i : ℕ) → a ≤ b → nat_le a i ≡ false → nat_le b i ≡ false
not_le a b i ab e = grind (arith, common_steps)

not_le_from_lt : (b i : ℕ) → nat_lt i b ≡ true → nat_le b i ≡ false
not_le_from_lt b i e = grind (arith, common_steps)

le_from_not_lt : (b i : ℕ) → nat_lt i b ≡ false → nat_le b i ≡ true
le_from_not_lt b i e = grind (arith, common_steps)

parts : (i a b d : ℕ) → a ≤ b → b ≤ d → Parts i a b d
parts i a b d ab bd =
    elim (nat_le a i) as (λ t. nat_le a i ≡ t → Parts i a b d) [
      | false ↦ λ e. inr (inr (and_false_left _ _ e, and_false_left _ _ (not_le a b i ab e), and_false_left _ _ e))
      | true ↦ λ e. elim (nat_lt i b) as (λ t. nat_lt i b ≡ t → Parts i a b d) [
        | true ↦ λ f. inl (both _ _ e f, and_false_left _ _ (not_le_from_lt b i f), both _ _ e (lt_wider i b d bd f))
        | false ↦ λ f. elim (nat_lt i d) as (λ t. nat_lt i d ≡ t → Parts i a b d) [
          | true ↦ λ g. inr (inl (and_false_right _ _ f, both _ _ (le_from_not_lt b i f) g, both _ _ e g))
          | false ↦ λ g. inr (inr (and_false_right _ _ f, and_false_right _ _ g, and_false_right _ _ g))
        ] refl
      ] refl
    ] refl

-- ---- changes that mix into a cell of the family's sort
IsMix : List Family → Cell → Change → Type 0
IsMix families c Keep = ⊤
IsMix families c (Put w) = ⊥
IsMix families c (Gain n) = (has_sort (slice_get families c.family) SumSort ≡ true) × MayHold families c (added None n)
IsMix families c (Reach v) = (has_sort (slice_get families c.family) MaxSort ≡ true) × MayHold families c (raised None v)

-- an event that does not need the cell mixes into it, if anything
is_mix : (p : Program) (c : Cell) (m : Moment) → needs (mode_at p m.event c) ≡ false → IsMix p.families c (change_at p c m)
unfolding IsMix
is_mix p c m quiet = at_mode (mode_at p m.event c) refl quiet
  where
    reached : (l : Option ℤ) → (has_sort (slice_get p.families c.family) MaxSort ≡ true) × MayHold p.families c (applied (reach l) None)
        → IsMix p.families c (reach l)
    reached None sort = tt
    reached (Some v) sort = sort

    at_mode : (n : Mode) → mode_at p m.event c ≡ n → needs n ≡ false
        → (let g : Tag = tag_of_itag p m.event.itag in IsMix p.families c
        (change_by (showing_of p g.kind) p.families n (actions_of (slice_get p.kinds g.kind)) m.before (at_its_time p m.event) g.key c))
    at_mode NoMode e q = tt
    at_mode AddMode e q = (added_sort p (tag_of_itag p m.event.itag) c e, added_may p m.before m.event c e)
    at_mode RaiseMode e q =
        let g : Tag = tag_of_itag p m.event.itag in
        reached (level_reached (showing_of p g.kind) p.families (actions_of (slice_get p.kinds g.kind)) m.before (at_its_time p m.event) g.key c)
        (raised_sort p g c e, raised_may p m.before m.event c e)
    at_mode ReadMode e q = cc
    at_mode Own e q = cc

module _ (families : List Family) (c : Cell) where
  -- such a change in the left part of a join, and in the right one
  mix_left : (h : Change) (u v : Option Worth) → IsMix families c h → MayHold families c u → MayHold families c v
      → applied h (joined_worth u v) ≡ joined_worth (applied h u) v
  unfolding IsMix
  mix_left Keep u v g p q = refl
  mix_left (Put w) u v g p q = absurd g
  mix_left (Gain n) u v g p q = added-joined u v n (holds_sort families c SumSort u g.0 p) (holds_sort families c SumSort v g.0 q)
  mix_left (Reach n) u v g p q = raised-joined u v n (holds_sort families c MaxSort u g.0 p) (holds_sort families c MaxSort v g.0 q)

  mix_right : (h : Change) (u v : Option Worth) → IsMix families c h → MayHold families c u → MayHold families c v
      → applied h (joined_worth u v) ≡ joined_worth u (applied h v)
  unfolding IsMix
  mix_right Keep u v g p q = refl
  mix_right (Put w) u v g p q = absurd g
  mix_right (Gain n) u v g p q =
      let hu : HoldsSort SumSort u = holds_sort families c SumSort u g.0 p in
      let hv : HoldsSort SumSort v = holds_sort families c SumSort v g.0 q in
      ap (λ w. added w n) (joined_sums-comm u v hu hv) ∙ added-joined v u n hv hu ∙ joined_sums-comm (added v n) u (added-holds v n) hu
  mix_right (Reach n) u v g p q =
      let hu : HoldsSort MaxSort u = holds_sort families c MaxSort u g.0 p in
      let hv : HoldsSort MaxSort v = holds_sort families c MaxSort v g.0 q in
      ap (λ w. raised w n) (joined_maxima-comm u v hu hv) ∙ raised-joined v u n hv hu ∙ joined_maxima-comm (raised v n) u (raised-holds v n hv) hu

  mix_holds : (h : Change) (u : Option Worth) → IsMix families c h → MayHold families c u → MayHold families c (applied h u)
  unfolding IsMix
  mix_holds Keep u g p = p
  mix_holds (Put w) u g p = absurd g
  mix_holds (Gain n) u g p =
      subst (MayHold families c) (sym (added-mixes u n (holds_sort families c SumSort u g.0 p))) (joined_family families c u (added None n) p g.1)
  mix_holds (Reach n) u g p =
      subst (MayHold families c) (sym (raised-mixes u n (holds_sort families c MaxSort u g.0 p))) (joined_family families c u (raised None n) p g.1)

module _ (p : Program) (c : Cell) (a b d : List ℕ) (ab : AreAtMost a b) (bd : AreAtMost b d) where
  adds : (ms : List Moment) (u v : Option Worth) → AllByRecursion (λ m. is_between a d m ≡ true → needs (mode_at p m.event c) ≡ false) ms
      → MayHold p.families c u → MayHold p.families c v
      → joined_worth (changed_by p c u (filter (is_between a b) ms)) (changed_by p c v (filter (is_between b d) ms)) ≡ changed_by p c (joined_worth u v)
      (filter (is_between a d) ms)
  adds [] u v quiet hu hv = refl
  adds (m ∷ ms) u v quiet hu hv =
      let i : ℕ = m.event.itag.0 in
      let h : Change = change_at p c m in
      elim (parts m.index (slice_index a i) (slice_index b i) (slice_index d i) (ab i) (bd i)) [
        | inl e ↦
            let mix : IsMix p.families c h = is_mix p c m (quiet.0 e.2) in
            (λ k. joined_worth (changed_by p c u (cond (e.0 k) (m ∷ filter (is_between a b) ms) (filter (is_between a b) ms)))
            (changed_by p c v (cond (e.1 k) (m ∷ filter (is_between b d) ms) (filter (is_between b d) ms))))
            ∙ adds ms (applied h u) v quiet.1 (mix_holds p.families c h u mix hu) hv
            ∙ sym (ap (λ w. changed_by p c w (filter (is_between a d) ms)) (mix_left p.families c h u v mix hu hv))
            ∙ sym (λ k. changed_by p c (joined_worth u v) (cond (e.2 k) (m ∷ filter (is_between a d) ms) (filter (is_between a d) ms)))
        | inr (inl e) ↦
            let mix : IsMix p.families c h = is_mix p c m (quiet.0 e.2) in
            (λ k. joined_worth (changed_by p c u (cond (e.0 k) (m ∷ filter (is_between a b) ms) (filter (is_between a b) ms)))
            (changed_by p c v (cond (e.1 k) (m ∷ filter (is_between b d) ms) (filter (is_between b d) ms))))
            ∙ adds ms u (applied h v) quiet.1 hu (mix_holds p.families c h v mix hv)
            ∙ sym (ap (λ w. changed_by p c w (filter (is_between a d) ms)) (mix_right p.families c h u v mix hu hv))
            ∙ sym (λ k. changed_by p c (joined_worth u v) (cond (e.2 k) (m ∷ filter (is_between a d) ms) (filter (is_between a d) ms)))
        | inr (inr e) ↦
            (λ k. joined_worth (changed_by p c u (cond (e.0 k) (m ∷ filter (is_between a b) ms) (filter (is_between a b) ms)))
            (changed_by p c v (cond (e.1 k) (m ∷ filter (is_between b d) ms) (filter (is_between b d) ms))))
            ∙ adds ms u v quiet.1 hu hv
            ∙ sym (λ k. changed_by p c (joined_worth u v) (cond (e.2 k) (m ∷ filter (is_between a d) ms) (filter (is_between a d) ms)))
      ]

pub spans_law : SpansAddUp
spans_law p ms c a b d quiet ab bd = adds p c a b d ab bd ms None None quiet tt tt
