-- What the owners counted is a prefix for dependent events: each step keeps that.
use Rattle.std.proofs.Common.{◌≡◌, ◌⊎◌, ◌<◌, ◌≤◌, ◌+◌, ℕ, true, Some, List, [], ◌∷◌, ◌++◌, length, inl, inr, sym, ap, subst, ◌∙◌, arith}
use Rattle.std.specs.Prelude.{option_map, slice_get, slice_index}
use Rattle.std.specs.List.{range_with_len}
use Rattle.std.proofs.lemmas.Bool.{cases_eq, cases_lt}
use Rattle.std.proofs.lemmas.Option.{same_Some, slice_get-map, slice_get_within}
use Rattle.std.proofs.Math.ListN.{get_or-map}
use Rattle.flu_lemmas.proofs.Replaced.{slice_get-set_same, slice_get-set_other}
use Rattle.flu_model.specs.declared.events.Event.{Event}
use Rattle.flu_model.specs.declared.events.Itag.{Itag}
use Rattle.flu_model.specs.Itags.{count_of_itags}
use Rattle.flu_model.specs.Merging.{is_before}
use Rattle.flu_deps.specs.Dependencies.{itags_depend}
use Rattle.flu_laws.specs.Lots.{IsExact}
use Rattle.flu_fork.specs.declared.content.Content.{Content}
use Rattle.flu_fork.specs.Classes.{itag, own}
use Rattle.flu_fork.specs.Lots.{job, nodes, setting_of}
use Rattle.flu_fork.specs.Settings.{moments}
use Rattle.flu_fork.specs.Streams.{IsEventAt, IsStreamExact}
use Rattle.flu_worker.specs.Next.{IsExactInHand}
use Rattle.flu_worker.specs.Notes.{WorkerNote}
use Rattle.flu_net.specs.declared.steps.Step.{Step}
use Rattle.flu_net.specs.declared.steps.Step.TheVariants.{Arrive, Handle, Ask, Take, Give, Hold, Lend}
use Rattle.flu_net.specs.Blocking.{AllKeep}
use Rattle.flu_net.specs.Effects.{Handles, IsStepOf, Makes, arrived, seeing}
use Rattle.flu_net.specs.Facts.{IsCounted, OwnersCountPrefixes}
use Rattle.flu_net.specs.LawsBelow.{LawsBelow}
use Rattle.flu_net.specs.Notes.{NetNote}
use Rattle.flu_net.specs.Rule.{Rule}
use Rattle.flu_net.specs.Runs.{Runs}
use Rattle.flu_net.specs.Starting.{IsStart}
use Rattle.flu_net.proofs.Arriving.{mapped_from}
use Rattle.flu_net.proofs.Keeping.{own_at, own_to}
use Rattle.flu_net.proofs.Made.{kept_case}
use Rattle.flu_net.proofs.Owning.{lot_counted, near}
use Rattle.flu_net.proofs.Reached.{made_keep, made_rule}
use Rattle.flu_net.proofs.Starts.{start_rule}

-- the owners' counts are a prefix for dependent events
abbrev IsKept : NetNote → Type 0
IsKept n =
    (i m j l : ℕ) (x y : Event) → IsEventAt (setting_of n.case) i m x → IsEventAt (setting_of n.case) j l y
    → itags_depend (job n.case) (itag i) (itag j) ≡ true → is_before y x ≡ true → IsCounted n i m → IsCounted n j l

-- ---- a step of a worker
module _ (w : ℕ) (old new : NetNote) (s : IsStepOf w old new) where
  within : w < length old.workers
  within = slice_get_within old.workers w s.was s.at

  now : slice_get new.workers w ≡ Some s.is
  now = ap (λ (ws : List WorkerNote). slice_get ws w) s.workers ∙ slice_get-set_same old.workers w s.is within

  owns_was : (u i : ℕ) → own (job new.case) (nodes new.case) u i ≡ true → own (job old.case) (nodes old.case) u i ≡ true
  owns_was u i e = sym (ap (λ (j : Content). own (job j) (nodes j) u i) s.case) ∙ e

  owns_now : (u i : ℕ) → own (job old.case) (nodes old.case) u i ≡ true → own (job new.case) (nodes new.case) u i ≡ true
  owns_now u i e = ap (λ (j : Content). own (job j) (nodes j) u i) s.case ∙ e

  -- what is counted was counted before, or the worker counted it in this step
  counted_was : (i m : ℕ) → IsCounted new i m
      → IsCounted old i m ⊎ ((own (job old.case) (nodes old.case) w i ≡ true) × (slice_index s.was.counts i ≤ m) × (m < slice_index s.is.counts i))
  counted_was i m c = elim (cases_eq c.owner w) [
    | inl same ↦
        (let mine : own (job old.case) (nodes old.case) w i ≡ true =
        sym (ap (λ u. own (job old.case) (nodes old.case) u i) same) ∙ owns_was c.owner i c.owns in
        let is : s.is ≡ c.worker = same_Some s.is c.worker (sym now ∙ sym (ap (slice_get new.workers) same) ∙ c.at) in
        let lt : m < slice_index s.is.counts i = subst (λ (v : WorkerNote). m < slice_index v.counts i) (sym is) c.there in
        elim (cases_lt m (slice_index s.was.counts i)) [
          | inl before ↦ inl (record { owner = w; worker = s.was; at = s.at; owns = mine; there = before })
          | inr later ↦ inr (mine, later, lt)
        ])
    | inr other ↦ inl (record {
      owner = c.owner;
      worker = c.worker;
      at = sym (ap (λ (ws : List WorkerNote). slice_get ws c.owner) s.workers ∙ slice_get-set_other old.workers w c.owner s.is other) ∙ c.at;
      owns = owns_was c.owner i c.owns;
      there = c.there;
    })
  ]

  -- and what was counted still is
  counted_still : ((i : ℕ) → own (job old.case) (nodes old.case) w i ≡ true → slice_index s.was.counts i ≤ slice_index s.is.counts i)
      → (i m : ℕ) → IsCounted old i m → IsCounted new i m
  counted_still grows i m c = elim (cases_eq c.owner w) [
    | inl same ↦
        (let mine : own (job old.case) (nodes old.case) w i ≡ true = sym (ap (λ u. own (job old.case) (nodes old.case) u i) same) ∙ c.owns in
        let is : s.was ≡ c.worker = same_Some s.was c.worker (sym s.at ∙ sym (ap (slice_get old.workers) same) ∙ c.at) in
        let lt : m < slice_index s.was.counts i = subst (λ (v : WorkerNote). m < slice_index v.counts i) (sym is) c.there in
        let more = grows i mine in
        record { owner = w; worker = s.is; at = now; owns = owns_now w i mine; there = omega arith })
    | inr other ↦ record {
      owner = c.owner;
      worker = c.worker;
      at = ap (λ (ws : List WorkerNote). slice_get ws c.owner) s.workers ∙ slice_get-set_other old.workers w c.owner s.is other ∙ c.at;
      owns = owns_now c.owner i c.owns;
      there = c.there;
    }
  ]

  event_was : (i m : ℕ) (x : Event) → IsEventAt (setting_of new.case) i m x → IsEventAt (setting_of old.case) i m x
  event_was i m x e = subst (λ (j : Content). IsEventAt (setting_of j) i m x) s.case e

  depend_was : (i j : ℕ) → itags_depend (job new.case) (itag i) (itag j) ≡ true → itags_depend (job old.case) (itag i) (itag j) ≡ true
  depend_was i j e = subst (λ (c : Content). itags_depend (job c) (itag i) (itag j) ≡ true) s.case e

  -- where no event is counted
  kept_same : IsKept old → ((i : ℕ) → own (job old.case) (nodes old.case) w i ≡ true → slice_index s.is.counts i ≡ slice_index s.was.counts i) → IsKept new
  kept_same kept same i m j l x y at_x at_y depends before c =
      counted_still (λ q mine. (let e = same q mine in omega arith)) j l
      (kept i m j l x y (event_was i m x at_x) (event_was j l y at_y) (depend_was i j depends) before (elim (counted_was i m c) [
        | inl was ↦ was
        | inr now ↦ absurd (let e = same i now.0 in let a = now.1 in let b = now.2 in omega arith)
      ]))

-- ---- the event that a worker handles
module _ (laws : LawsBelow) (w : ℕ) (old new : NetNote) (rule : Rule old) (keep : AllKeep old.workers) (h : Handles w old new) where
  abbrev s : IsStepOf w old new
  s = h.step

  case_is : s.was.case ≡ old.case
  case_is = (rule.ties.placed w s.was s.at).case

  node_is : s.was.node ≡ w
  node_is = (rule.ties.placed w s.was s.at).node

  itag_is : h.counts.moment.event.itag.0 ≡ h.event.itag.0
  itag_is = ap (λ i. i.0) h.counts.itag

  -- only that is counted
  is_the_event : (i m : ℕ) → slice_index s.was.counts i ≤ m → m < slice_index s.is.counts i → (i ≡ h.event.itag.0) × (m ≡ h.event.index)
  is_the_event i m le lt = elim (cases_eq i h.event.itag.0) [
    | inl same ↦
        (let was = h.counts.next in
        let is = (h.counts.counts i).0 same in
        let at : slice_index s.was.counts i ≡ h.event.index = ap (slice_index s.was.counts) same ∙ was in
        (same, omega arith))
    | inr other ↦ absurd (let e = (h.counts.counts i).1 other in omega arith)
  ]

  grows : (i : ℕ) → own (job old.case) (nodes old.case) w i ≡ true → slice_index s.was.counts i ≤ slice_index s.is.counts i
  grows i mine = elim (cases_eq i h.event.itag.0) [
    | inl same ↦
        (let is = (h.counts.counts i).0 same in
        let at : slice_index s.was.counts i ≡ h.event.index = ap (slice_index s.was.counts) same ∙ h.counts.next in
        omega arith)
    | inr other ↦ (let e = (h.counts.counts i).1 other in omega arith)
  ]

  owned : own (job old.case) (nodes old.case) w h.event.itag.0 ≡ true
  owned = own_at old.case w s.was h.event.itag.0 case_is node_is h.does.owned

  -- its lot counts each earlier event on which it depends
  module _ (x y : Event) (j l : ℕ) (at_x : IsEventAt (setting_of old.case) h.event.itag.0 h.event.index x) (at_y : IsEventAt (setting_of old.case) j l y)
      (depends : itags_depend (job old.case) (itag h.event.itag.0) (itag j) ≡ true) (before : is_before y x ≡ true) where
    in_hand : IsExactInHand s.was h.event
    in_hand = laws.next_exact s.was h.event (keep w s.was s.at) h.next

    place : IsEventAt (setting_of old.case) h.event.itag.0 h.event.index h.counts.moment.event
    place =
        subst (λ q. IsEventAt (setting_of old.case) h.event.itag.0 q h.counts.moment.event) h.counts.index
        (subst (λ q. IsEventAt (setting_of old.case) q h.counts.moment.index h.counts.moment.event) itag_is
        (laws.events (setting_of old.case) h.counts.front h.counts.back h.counts.moment (laws.settings old.case) h.counts.stands))

    moment_is : h.counts.moment.event ≡ x
    moment_is = same_Some h.counts.moment.event x (sym place ∙ at_x)

    exact : IsExact (job old.case) h.counts.front h.counts.back h.counts.moment in_hand.lot.upto
    exact =
        subst (λ (c : Content). moments (setting_of c) ≡ h.counts.front ++ h.counts.moment ∷ h.counts.back
        → IsExact (job c) h.counts.front h.counts.back h.counts.moment in_hand.lot.upto) case_is
        (λ stands. in_hand.exact.exact h.counts.front h.counts.back h.counts.moment stands h.counts.itag h.counts.index) h.counts.stands

    in_streams : IsStreamExact (setting_of old.case) h.counts.moment.event.itag.0 h.counts.moment.index h.counts.moment.event in_hand.lot.upto
    in_streams =
        (laws.exactness (setting_of old.case) h.counts.front h.counts.back h.counts.moment in_hand.lot.upto (laws.settings old.case) h.counts.stands).0 exact

    lot_has : IsCounted old j l
    lot_has =
        let known_i = laws.known (setting_of old.case) h.event.itag.0 h.event.index x (laws.settings old.case) at_x in
        let known_j = laws.known (setting_of old.case) j l y (laws.settings old.case) at_y in
        lot_counted laws old rule keep j l known_j w s.was s.at in_hand.lot in_hand.here (near laws old.case w h.event.itag.0 j known_i known_j owned depends)
        ((in_streams.others j l y at_y (ap (λ q. itags_depend (job old.case) (itag q) (itag j)) itag_is ∙ depends)).1 (ap (is_before y) moment_is ∙ before))

  kept_handles : IsKept old → IsKept new
  kept_handles kept i m j l x y at_x at_y depends before c =
      let was_x = event_was w old new s i m x at_x in
      let was_y = event_was w old new s j l y at_y in
      let dep = depend_was w old new s i j depends in
      counted_still w old new s grows j l (elim (counted_was w old new s i m c) [
        | inl was ↦ kept i m j l x y was_x was_y dep before was
        | inr now ↦
            (let e = is_the_event i m now.1 now.2 in
            lot_has x y j l
            (subst (λ q. IsEventAt (setting_of old.case) h.event.itag.0 q x) e.1 (subst (λ q. IsEventAt (setting_of old.case) q m x) e.0 was_x)) was_y
            (ap (λ q. itags_depend (job old.case) (itag q) (itag j)) (sym e.0) ∙ dep) before)
      ])

-- ---- an arrival
module _ (i : Itag) (old : NetNote) where
  abbrev count : ℕ
  count = slice_index old.seen i.0 + 1

  arrived_was : (a m : ℕ) → IsCounted (arrived old i) a m → IsCounted old a m
  arrived_was a m c =
      let from = mapped_from (seeing i.0 count) old.workers c.owner c.worker c.at in
      record {
        owner = c.owner;
        worker = from.0;
        at = from.1;
        owns = c.owns;
        there = subst (λ (v : WorkerNote). m < slice_index v.counts a) (sym from.2) c.there;
      }

  arrived_now : (j l : ℕ) → IsCounted old j l → IsCounted (arrived old i) j l
  arrived_now j l d = record {
    owner = d.owner;
    worker = seeing i.0 count d.worker;
    at = slice_get-map (seeing i.0 count) old.workers d.owner ∙ ap (option_map (seeing i.0 count)) d.at;
    owns = d.owns;
    there = d.there;
  }

  arrived_kept : IsKept old → IsKept (arrived old i)
  arrived_kept kept a m j l x y at_x at_y depends before c = arrived_now j l (kept a m j l x y at_x at_y depends before (arrived_was a m c))

-- ---- the start, and any step
none_counted : (k : Content) (n : NetNote) → IsStart k n → (i m : ℕ) → IsCounted n i m → ⊥
none_counted k n start i m c =
    let zero : slice_index c.worker.counts i ≡ 0 = ap (λ (cs : List ℕ). slice_index cs i) (start.workers.new c.owner c.worker c.at).counts
    ∙ get_or-map (λ (q : ℕ). 0) (range_with_len 0 (count_of_itags (job k))) i 0 in
    let lt = c.there in
    absurd (omega arith)

made_kept : (laws : LawsBelow) (s : Step) (old new : NetNote) → Rule old → AllKeep old.workers → IsKept old → Makes s old new → IsKept new
made_kept laws (Arrive i) old new rule keep kept m = subst IsKept (sym m) (arrived_kept i old kept)
made_kept laws (Handle w) old new rule keep kept m = kept_handles laws w old new rule keep m kept
made_kept laws (Ask w side) old new rule keep kept m = kept_same w old new m.step kept (λ i mine. ap (λ (x : WorkerNote). slice_index x.counts i) m.does.rest)
made_kept laws (Take w side) old new rule keep kept m = kept_same w old new m.step kept (λ i mine. ap (λ c. slice_index c i) m.does.counts)
made_kept laws (Give w) old new rule keep kept m = kept_same w old new m.step kept (λ i mine. ap (λ c. slice_index c i) m.does.counts)
made_kept laws (Hold w) old new rule keep kept m =
    let placed = rule.ties.placed w m.step.was m.step.at in
    kept_same w old new m.step kept (λ i mine. m.does.counts_own i (own_to old.case w m.step.was i placed.case placed.node mine))
made_kept laws (Lend w side) old new rule keep kept m = kept_same w old new m.step kept (λ i mine. ap (λ c. slice_index c i) m.does.counts)

pub owners_count : LawsBelow → OwnersCountPrefixes
owners_count laws k old new steps i m j l x y start run at_x at_y depends before c =
    let last = along steps old start.case (start_rule laws k old start) start.workers.keep
    (λ i m j l x y at_x at_y depends before c. absurd (none_counted k old start i m c)) run in
    last.1 i m j l x y (subst (λ (q : Content). IsEventAt (setting_of q) i m x) (sym last.0) at_x)
    (subst (λ (q : Content). IsEventAt (setting_of q) j l y) (sym last.0) at_y)
    (subst (λ (q : Content). itags_depend (job q) (itag i) (itag j) ≡ true) (sym last.0) depends) before c
  where
    along : (steps : List Step) (n : NetNote) → n.case ≡ k → Rule n → AllKeep n.workers → IsKept n → Runs steps n new → (new.case ≡ k) × IsKept new
    along [] n case rule keep kept run = subst (λ (q : NetNote). (q.case ≡ k) × IsKept q) (sym run) (case, kept)
    along (s ∷ steps) n case rule keep kept run =
        along steps run.0 (kept_case s n run.0 run.1.made ∙ case) (made_rule laws s n run.0 rule run.1) (made_keep laws s n run.0 keep run.1.made)
        (made_kept laws s n run.0 rule keep kept run.1.made) run.2
