-- What a refill of all sources reads of each is what a round reads.
use Rattle.std.proofs.Common.{◌≡◌, inl, inr, ◌⊎◌, ℕ, zero, suc, ◌<◌, ◌≤◌, min, List, [], ◌∷◌, ◌++◌, length, map, Option, Some, None, refl, sym, ap, subst, ◌∙◌}
use Rattle.std.proofs.Common.{append_assoc, arith}
use Rattle.std.specs.Prelude.{slice_get}
use Rattle.std.proofs.lemmas.Bool.{cases_lt}
use Rattle.std.proofs.lemmas.List.{append-nil}
use Rattle.std.proofs.lemmas.Option.{slice_get_within}
use Rattle.flu_lemmas.specs.Elements.{AtEach}
use Rattle.flu_lemmas.proofs.Places.{slice_get-there}
use Rattle.flu_model.specs.declared.jobs.Kind.{Kind}
use Rattle.flu_model.specs.declared.jobs.Source.{Source}
use Rattle.flu_model.specs.declared.jobs.Program.{Program}
use Rattle.flu_model.specs.declared.moments.Timing.{Timing}
use Rattle.flu_model.specs.Moments.{timing_of}
use Rattle.flu_outside.specs.Outside.{Contents, WhereTold}
use Rattle.flu_rows.specs.declared.rows.Next.{Next}
use Rattle.flu_streams.specs.declared.border.Border.{Border}
use Rattle.flu_streams.specs.declared.border.Border.TheVariants.{At, Closed}
use Rattle.flu_streams.specs.declared.held.Stage.{Stage}
use Rattle.flu_streams.specs.declared.inlet.Inlet.{Inlet}
use Rattle.flu_streams.specs.Holding.{Holding, IsHeldBehind, AreHeldBehind, first_itag, still}
use Rattle.flu_streams.specs.LoopHeld.{source_of, earlier_of, earliest, Refills, EndsAt, AreRefilled, AreBehind, AreTimed}
use Rattle.flu_streams.specs.Rounds.{Turn, Open, Shut, Meets, StopsAt, Reads, IsWithin, IsPassed}
use Rattle.flu_streams.proofs.Starts.{to_mapped}

-- ---- what is told
pub told_from : {A : Type 0} (Q P : A → A → Type 0) (a b : Option A) → WhereTold a b Q → ((x y : A) → a ≡ Some x → b ≡ Some y → P x y) → WhereTold a b P
told_from Q P None None q f = tt
told_from Q P None (Some y) q f = absurd q
told_from Q P (Some x) None q f = absurd q
told_from Q P (Some x) (Some y) q f = f x y refl refl

pub at_told : {A : Type 0} (P : A → A → Type 0) (a b : Option A) (x y : A) → a ≡ Some x → b ≡ Some y → WhereTold a b P → P x y
at_told P None b x y e f p = absurd cc
at_told P (Some u) None x y e f p = absurd cc
at_told P (Some u) (Some v) x y e f p = let one : u ≡ x = cc in let two : v ≡ y = cc in subst (λ w. P w y) one (subst (λ w. P u w) two p)

-- ---- one element for each of a list
abbrev pub pick : {Y : Type 0} → Y → (ℕ → Y) → ℕ → Y
pick first rest zero = first
pick first rest (suc i) = rest i

pick_each : {X Y : Type 0} (R : ℕ → X → Y → Type 0) (x : X) (xs : List X) (first : Y) (rest : ℕ → Y) → R zero x first → AtEach (λ i z. R (suc i) z (rest i)) xs
    → AtEach (λ i z. R i z (pick first rest i)) (x ∷ xs)
pick_each R x xs first rest one all zero z e = let same : x ≡ z = cc in subst (λ w. R zero w first) same one
pick_each R x xs first rest one all (suc i) z e = all i z e

pub chosen : {X Y : Type 0} (R : ℕ → X → Y → Type 0) (d : ℕ → Y) (xs : List X) → AtEach (λ i x. (y : Y) × R i x y) xs
    → (f : ℕ → Y) × AtEach (λ i x. R i x (f i)) xs
chosen R d [] all = (d, λ j x e. absurd cc)
chosen R d (x ∷ xs) all =
    let first = all zero x refl in
    let rest = chosen (λ i. R (suc i)) (λ i. d (suc i)) xs (λ j z e. all (suc j) z e) in
    (pick first.0 rest.0, pick_each R x xs first.0 rest.0 first.1 rest.1)

-- ---- the earliest of some borders
abbrev pub turn_of : Border → Turn
turn_of (At u) = Open u
turn_of Closed = Shut

within_first : (a b : Border) (t : ℕ) → earlier_of a b ≡ At t → IsWithin t (turn_of a)
within_first Closed b t e = tt
within_first (At x) Closed t e = let same : x ≡ t = cc in omega (arith, same)
within_first (At x) (At y) t e = let same : min x y ≡ t = cc in omega (arith, same)

within_second : (a b : Border) (t : ℕ) → earlier_of a b ≡ At t → (u : ℕ) → b ≡ At u → t ≤ u
within_second Closed b t e u f = let same : At t ≡ At u = sym e ∙ f in let k : t ≡ u = cc in omega (arith, k)
within_second (At x) Closed t e u f = absurd cc
within_second (At x) (At y) t e u f = let same : min x y ≡ t = cc in let k : y ≡ u = cc in omega (arith, same, k)

within_lower : (turn : Turn) (t u : ℕ) → t ≤ u → IsWithin u turn → IsWithin t turn
within_lower (Open v) t u le is = omega (arith, le, is)
within_lower Shut t u le is = tt
within_lower (Meets row why) t u le is = is

closed_second : (a b : Border) → earlier_of a b ≡ Closed → (a ≡ Closed) × (b ≡ Closed)
closed_second Closed b e = (refl, e)
closed_second (At x) Closed e = absurd cc
closed_second (At x) (At y) e = absurd cc

pub all_closed : (ends : List Border) (i : ℕ) (end : Border) → earliest ends ≡ Closed → slice_get ends i ≡ Some end → end ≡ Closed
all_closed [] i end e at = absurd cc
all_closed (b ∷ ends) zero end e at = let same : b ≡ end = cc in sym same ∙ (closed_second b (earliest ends) e).0
all_closed (b ∷ ends) (suc i) end e at = all_closed ends i end (closed_second b (earliest ends) e).1 at

within_rest : (b rest : Border) (t : ℕ) (end : Border) → earlier_of b rest ≡ At t → (rest ≡ Closed → end ≡ Closed)
    → ((u : ℕ) → rest ≡ At u → IsWithin u (turn_of end)) → IsWithin t (turn_of end)
within_rest b Closed t end e none some = subst (λ x. IsWithin t (turn_of x)) (sym (none refl)) tt
within_rest b (At u) t end e none some = within_lower (turn_of end) t u (within_second b (At u) t e u refl) (some u refl)

pub earliest_within : (ends : List Border) (i t : ℕ) (end : Border) → earliest ends ≡ At t → slice_get ends i ≡ Some end → IsWithin t (turn_of end)
earliest_within [] i t end e at = absurd cc
earliest_within (b ∷ ends) zero t end e at = let same : b ≡ end = cc in subst (λ x. IsWithin t (turn_of x)) same (within_first b (earliest ends) t e)
earliest_within (b ∷ ends) (suc i) t end e at =
    within_rest b (earliest ends) t end e (λ none. all_closed ends i end none at) (λ u some. earliest_within ends i u end some at)

earliest_cases : (a b : Border) (t : ℕ) → earlier_of a b ≡ At t → (a ≡ At t) ⊎ (b ≡ At t)
earliest_cases Closed b t e = inr e
earliest_cases (At x) Closed t e = inl e
earliest_cases (At x) (At y) t e =
    let same : min x y ≡ t = cc in
    elim (cases_lt x y) [ inl lt ↦ inl (ap At (omega (arith, lt, same))) | inr ge ↦ inr (ap At (omega (arith, ge, same))) ]

pub earliest_among : (ends : List Border) (t : ℕ) → earliest ends ≡ At t → (i : ℕ) × (slice_get ends i ≡ Some (At t))
earliest_among [] t e = absurd cc
earliest_among (b ∷ ends) t e = elim (earliest_cases b (earliest ends) t e) [
  | inl first ↦ (zero, ap Some first)
  | inr later ↦ let k = earliest_among ends t later in (suc k.0, k.1)
]

-- ---- one source
reads_of : (timing : Timing) (kinds : List Kind) (s : Source) (first rows : ℕ) (above : Option ℕ) (whole before : List Next) (old new : Inlet)
    (a b : Option Contents) (x y : Contents) (end : Border)
    → (r : Refills timing kinds s first (Some rows) above before old new a b end) → a ≡ Some x → b ≡ Some y
    → whole ≡ before ++ still (source_of old) x
    → Reads timing kinds s rows above whole before (before ++ r.so_far.more) (turn_of end)
reads_of timing kinds s first rows above whole before old new a b x y end r e f all =
    let more = r.so_far.more in
    let rest = still (source_of new) y in
    let told : still (source_of old) x ≡ more ++ rest =
    at_told (λ was at. still (source_of old) was ≡ more ++ still (source_of new) at) a b x y e f r.so_far.told in
    let line : whole ≡ (before ++ more) ++ rest = all ∙ ap (λ (l : List Next). before ++ l) told ∙ sym (append_assoc before more rest) in
    record { more = more; further = refl; sound = r.so_far.behind.sound; shortest = r.so_far.shortest; stops = stops_of end line r.ends }
  where
    stops_of : (end : Border) → whole ≡ (before ++ r.so_far.more) ++ still (source_of new) y
        → EndsAt timing s (Some rows) above (before ++ r.so_far.more) new end
        → StopsAt timing kinds s rows above whole (before ++ r.so_far.more) (turn_of end)
    stops_of (At u) line ends = ((still (source_of new) y, line), ends.0, ends.1)
    stops_of Closed line ends =
        (line ∙ ap (λ (rest : List Next). (before ++ r.so_far.more) ++ rest) (rw ends.0 refl) ∙ append-nil (before ++ r.so_far.more), ends.1)

pub passed : (end : Border) → IsPassed (turn_of end)
passed (At u) = tt
passed Closed = tt

-- what was read of a source by then
pub record IsReadAt (p : Program) (rows : ℕ) (border : Option ℕ) (before : ℕ → List Next) (olds news : List Inlet) (a b : Option Contents) (ends : List Border)
    (i : ℕ) (s : Source) (now : List Next) : Type 0 where
  pub end : Border
  pub old : Inlet
  pub new : Inlet
  pub at_end : slice_get ends i ≡ Some end
  pub was : slice_get olds i ≡ Some old
  pub is : slice_get news i ≡ Some new
  pub reads : Refills (timing_of p i) p.kinds s (first_itag p i) (Some rows) border (before i) old new a b end
  pub now_is : now ≡ before i ++ reads.so_far.more

abbrev pub IsChosen : Program → ℕ → Option ℕ → (ℕ → List Next) → List Inlet → List Inlet → Option Contents → Option Contents → List Border
    → List Next → ℕ → Source → List Next → Type 0
IsChosen p rows border before olds news a b ends more i s now =
    (i < length ends → IsReadAt p rows border before olds news a b ends i s now) × (i ≡ length ends → now ≡ before i ++ more)

pub choose : (p : Program) (rows : ℕ) (border : Option ℕ) (before : ℕ → List Next) (olds news : List Inlet) (a b : Option Contents)
    (ends : List Border) (more : List Next) → length olds ≡ length p.sources → AreTimed p olds
    → AreBehind p border before olds → AreRefilled p rows olds news a b ends
    → (now : ℕ → List Next) × AtEach (λ i s. IsChosen p rows border before olds news a b ends more i s (now i)) p.sources
choose p rows border before olds news a b ends more count timed behind all =
    chosen (IsChosen p rows border before olds news a b ends more) before p.sources (λ i s e. elim (cases_lt i (length ends)) [
      | inl lt ↦
          let end = slice_get-there ends i lt in
          let old = slice_get-there olds i (rw count (slice_get_within p.sources i s e)) in
          let new = slice_get-there news i (rw (all.size, count) (slice_get_within p.sources i s e)) in
          let refills = (all.each i s e end.0 old.0 new.0 end.1 old.1 new.1).reads border (before i) in
          let r = subst (λ timing. IsHeldBehind timing p.kinds (first_itag p i) s border (before i) (source_of old.0)
          → Refills timing p.kinds s (first_itag p i) (Some rows) border (before i) old.0 new.0 a b end.0) (timed i old.0 old.1) refills
          (behind i s e old.0 old.1) in (
            before i ++ r.so_far.more,
            (
              λ _. record { end = end.0; old = old.0; new = new.0; at_end = end.1; was = old.1; is = new.1; reads = r; now_is = refl },
              λ same. absurd (omega (arith, lt, same)),
            ),
          )
      | inr ge ↦ (before i ++ more, (λ lt. absurd (omega (arith, lt, ge)), λ same. refl))
    ])

pub reads_at : (p : Program) (rows : ℕ) (border : Option ℕ) (before : ℕ → List Next) (olds news : List Inlet) (a b : Option Contents)
    (ends : List Border) (i : ℕ) (s : Source) (now whole : List Next) (x y : Contents)
    → (r : IsReadAt p rows border before olds news a b ends i s now) → a ≡ Some x → b ≡ Some y → whole ≡ before i ++ still (source_of r.old) x
    → Reads (timing_of p i) p.kinds s rows border whole (before i) now (turn_of r.end)
reads_at p rows border before olds news a b ends i s now whole x y r e f all =
    subst (λ l. Reads (timing_of p i) p.kinds s rows border whole (before i) l (turn_of r.end)) (sym r.now_is)
    (reads_of (timing_of p i) p.kinds s (first_itag p i) rows border whole (before i) r.old r.new a b x y r.end r.reads e f all)

-- ---- all sources
abbrev pub holding : Program → ℕ → Option ℕ → Stage → List Inlet → Holding
holding p rows border stage inlets = record { program = p; rows = rows; border = border; stage = stage; sources = map source_of inlets }

pub behind_at : (p : Program) (rows : ℕ) (border : Option ℕ) (stage : Stage) (inlets : List Inlet) (lines : ℕ → List Next)
    → AreHeldBehind (holding p rows border stage inlets) lines → AreBehind p border lines inlets
behind_at p rows border stage inlets lines is = λ i s e h f. is.each i s (source_of h) e (to_mapped source_of inlets i h f)
