-- Two lists of actions whose modes do not conflict commute.
use Rattle.std.proofs.Common.{◌≡◌, ℕ, Bool, true, false, List, refl, sym, ap, subst, ◌∙◌}
use Rattle.std.specs.List.{list_any, list_all}
use Rattle.flu_model.specs.declared.events.Cell.{Cell}
use Rattle.flu_model.specs.declared.events.Event.{Event}
use Rattle.flu_model.specs.declared.jobs.Family.{Family}
use Rattle.flu_model.specs.declared.jobs.Sort.TheVariants.{Sum as SumSort}
use Rattle.flu_model.specs.declared.jobs.Action.{Action}
use Rattle.flu_model.specs.declared.modes.Mode.{Mode}
use Rattle.flu_model.specs.declared.modes.Mode.TheVariants.{None as NoMode, Add as AddMode, Raise as RaiseMode, Read as ReadMode, Own}
use Rattle.flu_model.specs.Contents.{Contents, added}
use Rattle.flu_model.specs.Texts.{Showing}
use Rattle.flu_model.specs.Updates.{effect_of_actions}
use Rattle.flu_model.specs.Sorts.{IsStateOf}
use Rattle.flu_model.specs.Rules.{action_fits}
use Rattle.flu_model.specs.Modes.{mode_among, modes_conflict}
use Rattle.flu_laws.specs.Uses.{writes}
use Rattle.flu_laws.specs.Changes.{amount_added, level_reached}
use Rattle.flu_laws.proofs.Algebra.{added-swap, added-holds, higher-comm}
use Rattle.flu_laws.proofs.Reading.{Agree, action_needs}
use Rattle.flu_laws.proofs.Uses.{needs_among, quiet_among, sums_among, maxima_among, needed_unwritten, unwritten_by_needed}
use Rattle.flu_laws.proofs.Locality.{texts-agree, cells-agree, amount-agree, level-agree}
use Rattle.flu_laws.proofs.Changing.{raised_to, raised_to-higher, keeps, gains, reaches}
use Rattle.flu_laws.proofs.SortLemmas.{adds-sort, adds_only}
use Rattle.flu_laws.proofs.Values.{HoldsSort, holds_sort}

module _ (version : ℕ) (show shown : Showing) (families : List Family) (k1 v1 k2 v2 : Bool) (x y : Event) (i j : ℕ) (all others : List Action)
    (fits_all : list_all (action_fits families k1 v1) all ≡ true) (fits_others : list_all (action_fits families k2 v2) others ≡ true)
    (apart : (c : Cell) → modes_conflict (mode_among version all i c) (mode_among version others j c) ≡ false)
    (s : Contents) (sorted : IsStateOf families s) where
  abbrev pub first : Contents → Contents
  first u = (effect_of_actions show families all u x i).cells

  abbrev pub second : Contents → Contents
  second u = (effect_of_actions shown families others u y j).cells

  first_stays : (u : Contents) (c : Cell) → writes (mode_among version all i c) ≡ false → first u c ≡ u c
  first_stays u c e = let quiet = quiet_among version all i c e in keeps show families x i c all u quiet.0 quiet.1 quiet.2

  second_stays : (u : Contents) (c : Cell) → writes (mode_among version others j c) ≡ false → second u c ≡ u c
  second_stays u c e = let quiet = quiet_among version others j c e in keeps shown families y j c others u quiet.0 quiet.1 quiet.2

  -- what one list needs the other does not write
  agree_first : Agree (λ c. list_any (action_needs i c) all) (second s) s
  agree_first c o = second_stays s c (needed_unwritten (mode_among version all i c) (mode_among version others j c) (needs_among version all i c ∙ o) (apart c))

  agree_second : Agree (λ c. list_any (action_needs j c) others) (first s) s
  agree_second c o =
      first_stays s c (unwritten_by_needed (mode_among version all i c) (mode_among version others j c) (needs_among version others j c ∙ o) (apart c))

  pub texts_first : (effect_of_actions show families all (second s) x i).texts ≡ (effect_of_actions show families all s x i).texts
  texts_first = texts-agree show families k1 v1 x i all (second s) s fits_all agree_first

  pub texts_second : (effect_of_actions shown families others (first s) y j).texts ≡ (effect_of_actions shown families others s y j).texts
  texts_second = texts-agree shown families k2 v2 y j others (first s) s fits_others agree_second

  -- a cell that only the second list may write, and one that only the first may write
  first_idle : (c : Cell) → writes (mode_among version all i c) ≡ false → second (first s) c ≡ first (second s) c
  first_idle c e = cells-agree shown families k2 v2 y j others (first s) s agree_second c (first_stays s c e) ∙ sym (first_stays (second s) c e)

  second_idle : (c : Cell) → writes (mode_among version others j c) ≡ false → second (first s) c ≡ first (second s) c
  second_idle c e = second_stays (first s) c e ∙ sym (cells-agree show families k1 v1 x i all (second s) s agree_first c (second_stays s c e))

  both_add : (c : Cell) → mode_among version all i c ≡ AddMode → mode_among version others j c ≡ AddMode → second (first s) c ≡ first (second s) c
  both_add c e f =
      let a = sums_among version all i c e in
      let b = sums_among version others j c f in
      let only_a = adds_only families k1 v1 i c all fits_all a.1 in
      let only_b = adds_only families k2 v2 j c others fits_others b.1 in
      let holds : HoldsSort SumSort (s c) = holds_sort families c SumSort (s c) (adds-sort families k1 v1 i c all fits_all a.1) (sorted c) in
      let one : first s c ≡ added (s c) (amount_added show families all s x i c) = gains show families x i c all s a.0 only_a holds in
      let two : second s c ≡ added (s c) (amount_added shown families others s y j c) = gains shown families y j c others s b.0 only_b holds in
      gains shown families y j c others (first s) b.0 only_b (subst (HoldsSort SumSort) (sym one) (added-holds (s c) (amount_added show families all s x i c)))
      ∙ (λ k. added (one k) (amount-agree shown families k2 v2 y j others (first s) s c agree_second k))
      ∙ added-swap (s c) (amount_added show families all s x i c) (amount_added shown families others s y j c)
      ∙ sym (λ k. added (two k) (amount-agree show families k1 v1 x i all (second s) s c agree_first k))
      ∙ sym (gains show families x i c all (second s) a.0 only_a
      (subst (HoldsSort SumSort) (sym two) (added-holds (s c) (amount_added shown families others s y j c))))

  both_raise : (c : Cell) → mode_among version all i c ≡ RaiseMode → mode_among version others j c ≡ RaiseMode → second (first s) c ≡ first (second s) c
  both_raise c e f =
      let a = maxima_among version all i c e in
      let b = maxima_among version others j c f in
      let one : first s c ≡ raised_to (s c) (level_reached show families all s x i c) = reaches show families x i c all s a.0 a.1 in
      let two : second s c ≡ raised_to (s c) (level_reached shown families others s y j c) = reaches shown families y j c others s b.0 b.1 in
      reaches shown families y j c others (first s) b.0 b.1
      ∙ (λ k. raised_to (one k) (level-agree shown families k2 v2 y j others (first s) s c agree_second k))
      ∙ raised_to-higher (s c) (level_reached show families all s x i c) (level_reached shown families others s y j c)
      ∙ ap (raised_to (s c)) (higher-comm (level_reached show families all s x i c) (level_reached shown families others s y j c))
      ∙ sym (raised_to-higher (s c) (level_reached shown families others s y j c) (level_reached show families all s x i c))
      ∙ sym (λ k. raised_to (two k) (level-agree show families k1 v1 x i all (second s) s c agree_first k))
      ∙ sym (reaches show families x i c all (second s) a.0 a.1)

  -- by the modes
  at_cell : (c : Cell) (m n : Mode) → mode_among version all i c ≡ m → mode_among version others j c ≡ n → modes_conflict m n ≡ false
      → second (first s) c ≡ first (second s) c
  at_cell c NoMode n e f ok = first_idle c (ap writes e)
  at_cell c ReadMode n e f ok = first_idle c (ap writes e)
  at_cell c m NoMode e f ok = second_idle c (ap writes f)
  at_cell c m ReadMode e f ok = second_idle c (ap writes f)
  at_cell c AddMode AddMode e f ok = both_add c e f
  at_cell c RaiseMode RaiseMode e f ok = both_raise c e f
  at_cell c AddMode RaiseMode e f ok = cc
  at_cell c AddMode Own e f ok = cc
  at_cell c RaiseMode AddMode e f ok = cc
  at_cell c RaiseMode Own e f ok = cc
  at_cell c Own AddMode e f ok = cc
  at_cell c Own RaiseMode e f ok = cc
  at_cell c Own Own e f ok = cc

  pub cells_commute : second (first s) ≡ first (second s)
  cells_commute = λ k c. at_cell c (mode_among version all i c) (mode_among version others j c) refl refl (apart c) k
