-- The effects of chosen events on a cell.
use Rattle.std.proofs.Common.{◌≡◌, ℕ, Bool, true, false, cond, Option, None, List, [], ◌∷◌, inl, inr, refl, sym, ap, ◌∙◌}
use Rattle.std.specs.Prelude.{◌&&◌, ◌||◌, not, slice_index, ⊤}
use Rattle.std.specs.List.{filter, AllByRecursion}
use Rattle.std.proofs.lemmas.Bool.{cases_Bool}
use Rattle.flu_lemmas.proofs.Numbers.{never_between}
use Rattle.flu_model.specs.declared.events.Cell.{Cell}
use Rattle.flu_model.specs.declared.events.Worth.{Worth}
use Rattle.flu_model.specs.declared.jobs.Program.{Program}
use Rattle.flu_model.specs.Contents.{joined_worth}
use Rattle.flu_model.specs.Itags.{tag_of_itag}
use Rattle.flu_model.specs.Sorts.{MayHold, IsStateOf}
use Rattle.flu_laws.specs.Uses.{needs, writes, mixes, mode_at}
use Rattle.flu_laws.specs.Changes.{Keep, applied}
use Rattle.flu_laws.specs.Lawful.{IsLawful}
use Rattle.flu_laws.specs.Spans.{Moment, is_between, change_at, changed_by, span}
use Rattle.flu_laws.specs.Updating.{UnwrittenKeeps}
use Rattle.flu_fork.specs.LawsBelow.{LawsBelow}

-- ---- tests that choose alike
idle_step : UnwrittenKeeps → (p : Program) (c : Cell) (f : Moment → Bool) (m : Moment) (ms : List Moment) (w : Option Worth)
    → writes (mode_at p m.event c) ≡ false → changed_by p c w (filter f (m ∷ ms)) ≡ changed_by p c w (filter f ms)
idle_step idle p c f m ms w quiet =
    elim (f m) as (λ b. changed_by p c w (cond b (m ∷ filter f ms) (filter f ms)) ≡ changed_by p c w (filter f ms)) [
      | true ↦ ap (λ h. changed_by p c (applied h w) (filter f ms)) (idle p m.before m.event c quiet)
      | false ↦ refl
    ]

same_step : (p : Program) (c : Cell) (f g : Moment → Bool) (m : Moment) (ms : List Moment) (w : Option Worth) → f m ≡ g m
    → ((u : Option Worth) → changed_by p c u (filter f ms) ≡ changed_by p c u (filter g ms))
    → changed_by p c w (filter f (m ∷ ms)) ≡ changed_by p c w (filter g (m ∷ ms))
same_step p c f g m ms w e again =
    ap (λ b. changed_by p c w (cond b (m ∷ filter f ms) (filter f ms))) e
    ∙ (elim (g m) as (λ b. changed_by p c w (cond b (m ∷ filter f ms) (filter f ms)) ≡ changed_by p c w (cond b (m ∷ filter g ms) (filter g ms))) [
      | true ↦ again (applied (change_at p c m) w)
      | false ↦ again w
    ])

-- two tests that differ only where nothing happens to the cell
pub same_effects : UnwrittenKeeps → (p : Program) (c : Cell) (f g : Moment → Bool) (ms : List Moment) (w : Option Worth)
    → AllByRecursion (λ (m : Moment). writes (mode_at p m.event c) ≡ true → f m ≡ g m) ms → changed_by p c w (filter f ms) ≡ changed_by p c w (filter g ms)
same_effects idle p c f g [] w all = refl
same_effects idle p c f g (m ∷ ms) w all =
    elim (cases_Bool (writes (mode_at p m.event c))) [
      | inl write ↦ same_step p c f g m ms w (all.0 write) (λ u. same_effects idle p c f g ms u all.1)
      | inr quiet ↦ idle_step idle p c f m ms w quiet ∙ same_effects idle p c f g ms w all.1 ∙ sym (idle_step idle p c g m ms w quiet)
    ]

-- a test that chooses nothing
pub none_chosen : (p : Program) (c : Cell) (f : Moment → Bool) (ms : List Moment) (w : Option Worth) → ((m : Moment) → f m ≡ false)
    → changed_by p c w (filter f ms) ≡ w
none_chosen p c f [] w none = refl
none_chosen p c f (m ∷ ms) w none = ap (λ b. changed_by p c w (cond b (m ∷ filter f ms) (filter f ms))) (none m) ∙ none_chosen p c f ms w none

pub no_span : (p : Program) (ms : List Moment) (c : Cell) (upto : List ℕ) → span p ms c upto upto ≡ None
no_span p ms c upto = none_chosen p c (is_between upto upto) ms None (λ m. never_between (slice_index upto m.event.itag.0) m.index)

-- ---- changes that mix into a cell
module _ (laws : LawsBelow) (p : Program) (law : IsLawful p) (c : Cell) where
  abbrev Holds : Option Worth → Type 0
  Holds w = MayHold p.families c w

  abbrev amount : Moment → Option Worth
  amount m = applied (change_at p c m) None

  -- an event that does not need the cell mixes its amount into it
  mixed_in : (m : Moment) (u : Option Worth) → needs (mode_at p m.event c) ≡ false → Holds u → applied (change_at p c m) u ≡ joined_worth u (amount m)
  mixed_in m u quiet holds = laws.changes_mix p m.before m.event c u quiet holds

  no_change : (m : Moment) → writes (mode_at p m.event c) ≡ false → change_at p c m ≡ Keep
  no_change m quiet = laws.unwritten_keeps p m.before m.event c quiet

  -- its amount is nothing where it does not write the cell
  no_amount : (m : Moment) → writes (mode_at p m.event c) ≡ false → amount m ≡ None
  no_amount m quiet = ap (λ h. applied h None) (no_change m quiet)

  change_holds : (m : Moment) (u : Option Worth) → IsStateOf p.families m.before → Holds u → Holds (applied (change_at p c m) u)
  change_holds m u sorted holds = laws.changes_keep_sorts p m.before m.event c u sorted holds

  is_mixing : (m : Moment) → writes (mode_at p m.event c) ≡ true → needs (mode_at p m.event c) ≡ false → mixes (mode_at p m.event c) ≡ true
  is_mixing m write quiet = λ i. write i && not (quiet i)

  amount_holds : (m : Moment) → IsStateOf p.families m.before → Holds (amount m)
  amount_holds m sorted = change_holds m None sorted tt

  grouped : (m : Moment) (u v w : Option Worth) → needs (mode_at p m.event c) ≡ false → writes (mode_at p m.event c) ≡ true → Holds u → Holds v → Holds w
      → joined_worth (joined_worth u v) w ≡ joined_worth u (joined_worth v w)
  grouped m u v w quiet write hu hv hw = law.mix_groups (tag_of_itag p m.event.itag) c u v w (is_mixing m write quiet) hu hv hw

  turned : (m : Moment) (u v : Option Worth) → needs (mode_at p m.event c) ≡ false → writes (mode_at p m.event c) ≡ true → Holds u → Holds v
      → joined_worth u v ≡ joined_worth v u
  turned m u v quiet write hu hv = law.mix_turns (tag_of_itag p m.event.itag) c u v (is_mixing m write quiet) hu hv

  -- such a change in the right part of a join, and in the left one
  in_right : (m : Moment) (u v : Option Worth) → IsStateOf p.families m.before → needs (mode_at p m.event c) ≡ false → Holds u → Holds v
      → applied (change_at p c m) (joined_worth u v) ≡ joined_worth u (applied (change_at p c m) v)
  in_right m u v sorted quiet hu hv =
      elim (cases_Bool (writes (mode_at p m.event c))) [
        | inr idle ↦ ap (λ h. applied h (joined_worth u v)) (no_change m idle) ∙ sym (ap (λ h. joined_worth u (applied h v)) (no_change m idle))
        | inl write ↦
            mixed_in m (joined_worth u v) quiet (law.mix_holds c u v hu hv)
            ∙ grouped m u v (amount m) quiet write hu hv (amount_holds m sorted)
            ∙ sym (ap (joined_worth u) (mixed_in m v quiet hv))
      ]

  in_left : (m : Moment) (u v : Option Worth) → IsStateOf p.families m.before → needs (mode_at p m.event c) ≡ false → Holds u → Holds v
      → applied (change_at p c m) (joined_worth u v) ≡ joined_worth (applied (change_at p c m) u) v
  in_left m u v sorted quiet hu hv =
      elim (cases_Bool (writes (mode_at p m.event c))) [
        | inr idle ↦ ap (λ h. applied h (joined_worth u v)) (no_change m idle) ∙ sym (ap (λ h. joined_worth (applied h u) v) (no_change m idle))
        | inl write ↦
            mixed_in m (joined_worth u v) quiet (law.mix_holds c u v hu hv)
            ∙ grouped m u v (amount m) quiet write hu hv (amount_holds m sorted)
            ∙ ap (joined_worth u) (turned m v (amount m) quiet write hv (amount_holds m sorted))
            ∙ sym (grouped m u (amount m) v quiet write hu (amount_holds m sorted) hv)
            ∙ sym (ap (λ x. joined_worth x v) (mixed_in m u quiet hu))
      ]

  -- ---- events that may be counted apart
  -- the new events (by `extra`) are none of the old ones (by `old`), do not need the cell, and are all the others
  pub record IsApart (old extra all : Moment → Bool) (m : Moment) : Type 0 where
    pub disjoint : extra m ≡ true → old m ≡ false
    pub whole : all m ≡ (old m || extra m)
    pub quiet : extra m ≡ true → needs (mode_at p m.event c) ≡ false

  module _ (old extra all : Moment → Bool) where
    abbrev OldIsQuiet : Moment → Type 0
    OldIsQuiet q = old q ≡ true → needs (mode_at p q.event c) ≡ false

    -- behind a new event that writes the cell no old one needs it
    abbrev pub AreOldFirst : List Moment → Type 0
    AreOldFirst [] = ⊤
    AreOldFirst (m ∷ ms) = (extra m ≡ true → writes (mode_at p m.event c) ≡ true → AllByRecursion OldIsQuiet ms) × AreOldFirst ms

    -- the three choices with a moment more
    with_choices : (m : Moment) (ms : List Moment) (u v w : Option Worth) (a b d : Bool) → old m ≡ a → extra m ≡ b → all m ≡ d
        → joined_worth (changed_by p c u (cond a (m ∷ filter old ms) (filter old ms)))
        (changed_by p c v (cond b (m ∷ filter extra ms) (filter extra ms))) ≡ changed_by p c w (cond d (m ∷ filter all ms) (filter all ms))
        → joined_worth (changed_by p c u (filter old (m ∷ ms))) (changed_by p c v (filter extra (m ∷ ms))) ≡ changed_by p c w (filter all (m ∷ ms))
    with_choices m ms u v w a b d ea eb ed e =
        (λ i. joined_worth (changed_by p c u (cond (ea i) (m ∷ filter old ms) (filter old ms)))
        (changed_by p c v (cond (eb i) (m ∷ filter extra ms) (filter extra ms))))
        ∙ e
        ∙ sym (λ i. changed_by p c w (cond (ed i) (m ∷ filter all ms) (filter all ms)))

    -- where neither needs the cell
    blended : (ms : List Moment) (u v : Option Worth) → AllByRecursion (IsApart old extra all) ms → AllByRecursion OldIsQuiet ms
        → AllByRecursion (λ (m : Moment). IsStateOf p.families m.before) ms → Holds u → Holds v
        → joined_worth (changed_by p c u (filter old ms)) (changed_by p c v (filter extra ms)) ≡ changed_by p c (joined_worth u v) (filter all ms)
    blended [] u v apart quiet sorted hu hv = refl
    blended (m ∷ ms) u v apart quiet sorted hu hv =
        elim (cases_Bool (extra m)) [
          | inl new ↦
              let none = apart.0.disjoint new in
              with_choices m ms u v (joined_worth u v) false true true none new (apart.0.whole ∙ (λ i. none i || new i))
              (blended ms u (applied (change_at p c m) v) apart.1 quiet.1 sorted.1 hu (change_holds m v sorted.0 hv)
              ∙ sym (ap (λ w. changed_by p c w (filter all ms)) (in_right m u v sorted.0 (apart.0.quiet new) hu hv)))
          | inr not_new ↦ elim (cases_Bool (old m)) [
            | inl was ↦
                with_choices m ms u v (joined_worth u v) true false true was not_new (apart.0.whole ∙ (λ i. was i || not_new i))
                (blended ms (applied (change_at p c m) u) v apart.1 quiet.1 sorted.1 (change_holds m u sorted.0 hu) hv
                ∙ sym (ap (λ w. changed_by p c w (filter all ms)) (in_left m u v sorted.0 (quiet.0 was) hu hv)))
            | inr was_not ↦
                with_choices m ms u v (joined_worth u v) false false false was_not not_new (apart.0.whole ∙ (λ i. was_not i || not_new i))
                (blended ms u v apart.1 quiet.1 sorted.1 hu hv)
          ]
        ]

    -- later mixes may be counted apart
    pub appended : (ms : List Moment) (u : Option Worth) → AllByRecursion (IsApart old extra all) ms → AreOldFirst ms
        → AllByRecursion (λ (m : Moment). IsStateOf p.families m.before) ms → Holds u
        → joined_worth (changed_by p c u (filter old ms)) (changed_by p c None (filter extra ms)) ≡ changed_by p c u (filter all ms)
    appended [] u apart first sorted hu = law.mix_right u
    appended (m ∷ ms) u apart first sorted hu =
        elim (cases_Bool (extra m)) [
          | inl new ↦
              let none = apart.0.disjoint new in
              let quiet = apart.0.quiet new in
              with_choices m ms u None u false true true none new (apart.0.whole ∙ (λ i. none i || new i))
              (elim (cases_Bool (writes (mode_at p m.event c))) [
                | inl write ↦
                    blended ms u (amount m) apart.1 (first.0 new write) sorted.1 hu (amount_holds m sorted.0)
                    ∙ sym (ap (λ w. changed_by p c w (filter all ms)) (mixed_in m u quiet hu))
                | inr idle ↦
                    ap (λ w. joined_worth (changed_by p c u (filter old ms)) (changed_by p c w (filter extra ms))) (no_amount m idle)
                    ∙ appended ms u apart.1 first.1 sorted.1 hu
                    ∙ sym (ap (λ h. changed_by p c (applied h u) (filter all ms)) (no_change m idle))
              ])
          | inr not_new ↦ elim (cases_Bool (old m)) [
            | inl was ↦
                with_choices m ms u None u true false true was not_new (apart.0.whole ∙ (λ i. was i || not_new i))
                (appended ms (applied (change_at p c m) u) apart.1 first.1 sorted.1 (change_holds m u sorted.0 hu))
            | inr was_not ↦
                with_choices m ms u None u false false false was_not not_new (apart.0.whole ∙ (λ i. was_not i || not_new i))
                (appended ms u apart.1 first.1 sorted.1 hu)
          ]
        ]
