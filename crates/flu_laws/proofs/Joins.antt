-- An update before a join is the update after it.
use Rattle.std.proofs.Common.{◌≡◌, ℕ, Bool, true, false, None, List, refl, sym, ap, ◌∙◌}
use Rattle.std.specs.Prelude.{slice_get}
use Rattle.std.specs.List.{list_any, list_all}
use Rattle.flu_model.specs.declared.events.Cell.{Cell}
use Rattle.flu_model.specs.declared.events.Event.{Event}
use Rattle.flu_model.specs.declared.jobs.Family.{Family}
use Rattle.flu_model.specs.declared.jobs.Sort.TheVariants.{Sum as SumSort, Max as MaxSort}
use Rattle.flu_model.specs.declared.jobs.Action.{Action}
use Rattle.flu_model.specs.declared.modes.Mode.{Mode}
use Rattle.flu_model.specs.declared.modes.Mode.TheVariants.{None as NoMode, Add as AddMode, Raise as RaiseMode, Read as ReadMode, Own}
use Rattle.flu_model.specs.Contents.{Contents, join, joined_worth, added}
use Rattle.flu_model.specs.Texts.{Showing}
use Rattle.flu_model.specs.Updates.{effect_of_actions}
use Rattle.flu_model.specs.Sorts.{IsStateOf}
use Rattle.flu_model.specs.Rules.{action_fits, has_sort}
use Rattle.flu_model.specs.Modes.{mode_among}
use Rattle.flu_laws.specs.Uses.{needs, writes}
use Rattle.flu_laws.specs.Changes.{amount_added, level_reached}
use Rattle.flu_laws.proofs.Algebra.{joined-none, added-joined, added-holds, joined-holds, joined_sums-comm, joined_maxima-comm}
use Rattle.flu_laws.proofs.Reading.{Agree, action_needs}
use Rattle.flu_laws.proofs.Locality.{texts-agree, cells-agree, amount-agree, level-agree}
use Rattle.flu_laws.proofs.Changing.{raised_to, raised_to-joined, raised_to-holds, keeps, gains, reaches}
use Rattle.flu_laws.proofs.SortLemmas.{adds-sort, raises-sort, adds_only}
use Rattle.flu_laws.proofs.Uses.{needs_among, quiet_among, sums_among, maxima_among}
use Rattle.flu_laws.proofs.Values.{HoldsSort, holds_sort}

module _ (version : ℕ) (show : Showing) (families : List Family) (keyed has_value : Bool) (x : Event) (key : ℕ) (all : List Action)
    (fits : list_all (action_fits families keyed has_value) all ≡ true) (s t : Contents) (left : IsStateOf families s) (right : IsStateOf families t) where
  abbrev after : Contents → Contents
  after u = (effect_of_actions show families all u x key).cells

  -- a cell that is not written
  stays : (u : Contents) (c : Cell) → writes (mode_among version all key c) ≡ false → after u c ≡ u c
  stays u c e = let quiet = quiet_among version all key c e in keeps show families x key c all u quiet.0 quiet.1 quiet.2

  -- the cells that the actions need are neutral on the right
  Neutral : Type 0
  Neutral = (c : Cell) → list_any (action_needs key c) all ≡ true → t c ≡ None

  agrees : Neutral → Agree (λ c. list_any (action_needs key c) all) (join s t) s
  unfolding Neutral
  agrees neutral c own = ap (λ w. joined_worth (s c) w) (neutral c own) ∙ joined-none (s c)

  idle : (c : Cell) → writes (mode_among version all key c) ≡ false → after (join s t) c ≡ joined_worth (after s c) (t c)
  idle c e = stays (join s t) c e ∙ sym (ap (λ w. joined_worth w (t c)) (stays s c e))

  -- what the cell c becomes, by its mode
  at_cell : Neutral → (c : Cell) (m : Mode) → mode_among version all key c ≡ m → after (join s t) c ≡ joined_worth (after s c) (t c)
  unfolding Neutral
  at_cell neutral c NoMode e = idle c (ap writes e)
  at_cell neutral c ReadMode e = idle c (ap writes e)
  at_cell neutral c Own e =
      let o : list_any (action_needs key c) all ≡ true = sym (needs_among version all key c) ∙ ap needs e in
      cells-agree show families keyed has_value x key all (join s t) s (agrees neutral) c (agrees neutral c o)
      ∙ sym (ap (λ w. joined_worth (after s c) w) (neutral c o) ∙ joined-none (after s c))
  at_cell neutral c AddMode e =
      let sums = sums_among version all key c e in
      let only = adds_only families keyed has_value key c all fits sums.1 in
      let sort : has_sort (slice_get families c.family) SumSort ≡ true = adds-sort families keyed has_value key c all fits sums.1 in
      let one : HoldsSort SumSort (s c) = holds_sort families c SumSort (s c) sort (left c) in
      let other : HoldsSort SumSort (t c) = holds_sort families c SumSort (t c) sort (right c) in
      gains show families x key c all (join s t) sums.0 only (joined-holds (s c) (t c) one other)
      ∙ ap (λ n. added (joined_worth (s c) (t c)) n) (amount-agree show families keyed has_value x key all (join s t) s c (agrees neutral))
      ∙ added-joined (s c) (t c) (amount_added show families all s x key c) one other
      ∙ sym (ap (λ w. joined_worth w (t c)) (gains show families x key c all s sums.0 only one))
  at_cell neutral c RaiseMode e =
      let maxima = maxima_among version all key c e in
      let sort : has_sort (slice_get families c.family) MaxSort ≡ true = raises-sort families keyed has_value key c all fits maxima.2 in
      let one : HoldsSort MaxSort (s c) = holds_sort families c MaxSort (s c) sort (left c) in
      let other : HoldsSort MaxSort (t c) = holds_sort families c MaxSort (t c) sort (right c) in
      reaches show families x key c all (join s t) maxima.0 maxima.1
      ∙ ap (λ n. raised_to (joined_worth (s c) (t c)) n) (level-agree show families keyed has_value x key all (join s t) s c (agrees neutral))
      ∙ raised_to-joined (s c) (t c) (level_reached show families all s x key c) one other
      ∙ sym (ap (λ w. joined_worth w (t c)) (reaches show families x key c all s maxima.0 maxima.1))

  pub updates_left : ((c : Cell) → list_any (action_needs key c) all ≡ true → t c ≡ None)
      → effect_of_actions show families all (join s t) x key ≡ record { cells = join (after s) t; texts = (effect_of_actions show families all s x key).texts }
  unfolding Neutral
  updates_left neutral =
      let texts : (effect_of_actions show families all (join s t) x key).texts ≡ (effect_of_actions show families all s x key).texts =
      texts-agree show families keyed has_value x key all (join s t) s fits (agrees neutral) in
      λ i. record { cells = λ c. at_cell neutral c (mode_among version all key c) refl i; texts = texts i }

  -- the cells that the actions need are neutral on the left
  NeutralLeft : Type 0
  NeutralLeft = (c : Cell) → list_any (action_needs key c) all ≡ true → s c ≡ None

  agrees_right : NeutralLeft → Agree (λ c. list_any (action_needs key c) all) (join s t) t
  unfolding NeutralLeft
  agrees_right neutral c own = ap (λ w. joined_worth w (t c)) (neutral c own)

  idle_right : (c : Cell) → writes (mode_among version all key c) ≡ false → after (join s t) c ≡ joined_worth (s c) (after t c)
  idle_right c e = stays (join s t) c e ∙ sym (ap (λ w. joined_worth (s c) w) (stays t c e))

  at_cell_right : NeutralLeft → (c : Cell) (m : Mode) → mode_among version all key c ≡ m → after (join s t) c ≡ joined_worth (s c) (after t c)
  unfolding NeutralLeft
  at_cell_right neutral c NoMode e = idle_right c (ap writes e)
  at_cell_right neutral c ReadMode e = idle_right c (ap writes e)
  at_cell_right neutral c Own e =
      let o : list_any (action_needs key c) all ≡ true = sym (needs_among version all key c) ∙ ap needs e in
      cells-agree show families keyed has_value x key all (join s t) t (agrees_right neutral) c (agrees_right neutral c o)
      ∙ sym (ap (λ w. joined_worth w (after t c)) (neutral c o))
  at_cell_right neutral c AddMode e =
      let sums = sums_among version all key c e in
      let only = adds_only families keyed has_value key c all fits sums.1 in
      let sort : has_sort (slice_get families c.family) SumSort ≡ true = adds-sort families keyed has_value key c all fits sums.1 in
      let one : HoldsSort SumSort (s c) = holds_sort families c SumSort (s c) sort (left c) in
      let other : HoldsSort SumSort (t c) = holds_sort families c SumSort (t c) sort (right c) in
      gains show families x key c all (join s t) sums.0 only (joined-holds (s c) (t c) one other)
      ∙ ap (λ n. added (joined_worth (s c) (t c)) n) (amount-agree show families keyed has_value x key all (join s t) t c (agrees_right neutral))
      ∙ ap (λ w. added w (amount_added show families all t x key c)) (joined_sums-comm (s c) (t c) one other)
      ∙ added-joined (t c) (s c) (amount_added show families all t x key c) other one
      ∙ joined_sums-comm (added (t c) (amount_added show families all t x key c)) (s c) (added-holds (t c) (amount_added show families all t x key c)) one
      ∙ sym (ap (λ w. joined_worth (s c) w) (gains show families x key c all t sums.0 only other))
  at_cell_right neutral c RaiseMode e =
      let maxima = maxima_among version all key c e in
      let sort : has_sort (slice_get families c.family) MaxSort ≡ true = raises-sort families keyed has_value key c all fits maxima.2 in
      let one : HoldsSort MaxSort (s c) = holds_sort families c MaxSort (s c) sort (left c) in
      let other : HoldsSort MaxSort (t c) = holds_sort families c MaxSort (t c) sort (right c) in
      reaches show families x key c all (join s t) maxima.0 maxima.1
      ∙ ap (λ n. raised_to (joined_worth (s c) (t c)) n) (level-agree show families keyed has_value x key all (join s t) t c (agrees_right neutral))
      ∙ ap (λ w. raised_to w (level_reached show families all t x key c)) (joined_maxima-comm (s c) (t c) one other)
      ∙ raised_to-joined (t c) (s c) (level_reached show families all t x key c) other one
      ∙ joined_maxima-comm (raised_to (t c) (level_reached show families all t x key c)) (s c)
      (raised_to-holds (t c) (level_reached show families all t x key c) other) one
      ∙ sym (ap (λ w. joined_worth (s c) w) (reaches show families x key c all t maxima.0 maxima.1))

  pub updates_right : ((c : Cell) → list_any (action_needs key c) all ≡ true → s c ≡ None)
      → effect_of_actions show families all (join s t) x key ≡ record { cells = join s (after t); texts = (effect_of_actions show families all t x key).texts }
  unfolding NeutralLeft
  updates_right neutral =
      let texts : (effect_of_actions show families all (join s t) x key).texts ≡ (effect_of_actions show families all t x key).texts =
      texts-agree show families keyed has_value x key all (join s t) t fits (agrees_right neutral) in
      λ i. record { cells = λ c. at_cell_right neutral c (mode_among version all key c) refl i; texts = texts i }
