-- What a node sends does not depend on idle events: when one comes, the open contribution has no event.
use Rattle.std.proofs.Common.{◌≡◌, ℕ, Bool, true, false, cond, not, Option, None, ◌⊎◌, List, [], ◌∷◌, inl, inr, refl, sym, ap, subst, ◌∙◌, arith}
use Rattle.std.specs.Prelude.{Contains}
use Rattle.std.specs.List.{filter, AllByRecursion}
use Rattle.std.proofs.lemmas.Bool.{cases_Bool, or_left, or_right}
use Rattle.std.proofs.lemmas.Grind.{common_steps}
use Rattle.flu_lemmas.proofs.Containing.{contains_here, contains_later, contains_cases, contains_none}
use Rattle.flu_lemmas.proofs.Tests.{not_both}
use Rattle.flu_model.specs.declared.events.Cell.{Cell}
use Rattle.flu_model.specs.declared.events.Event.{Event}
use Rattle.flu_model.specs.declared.events.Worth.{Worth}
use Rattle.flu_model.specs.declared.jobs.Program.{Program}
use Rattle.flu_model.specs.declared.plans.Node.{Node}
use Rattle.flu_model.specs.Contents.{Contents}
use Rattle.flu_model.specs.Merging.{is_before}
use Rattle.flu_contribution.specs.Contributions.{keeps, is_inside, is_above, Contribution, opened, with_event, closed, contributions_from, contributions}
use Rattle.flu_contribution.specs.Sending.{sent, is_idle}
use Rattle.flu_contribution.specs.Sharing.{is_needed, RiseStrictly, IsIdle}
use Rattle.flu_contribution.proofs.Sent.{sent_idle}
use Rattle.flu_contribution.proofs.Needed.{taken, passed, next_inside, next_above, next_other}

-- ---- the order of events
not_before_itself : (x : Event) → is_before x x ≡ true → ⊥
not_before_itself x e = grind (arith, common_steps)

not_before_both : (x y : Event) → is_before x y ≡ true → is_before y x ≡ true → ⊥
not_before_both x y e f = grind (arith, common_steps)

-- what all elements have, each one has that a list contains
all_have : {X : Type 0} (P : X → Type 0) (xs : List X) (y : X) → AllByRecursion P xs → Contains xs y → P y
all_have P [] y all there = absurd (contains_none y there)
all_have P (x ∷ xs) y all there = elim (contains_cases x y xs there) [
  | inl same ↦ subst P same all.0
  | inr later ↦ all_have P xs y all.1 later
]

module _ (p : Program) (nodes : List Node) (w : ℕ) where
  -- an open contribution has only what the node keeps of some state
  abbrev IsFresh : Contribution → Type 0
  IsFresh k = (s : Contents) × (k ≡ opened p nodes w s)

  kept_again : (b : Bool) (v : Option Worth) → cond b (cond b v None) None ≡ cond b v None
  kept_again true v = refl
  kept_again false v = refl

  opened_again : (s : Contents) → opened p nodes w (opened p nodes w s).cells ≡ opened p nodes w s
  opened_again s = λ j. record { cells = λ (c : Cell). kept_again (keeps p nodes w c) (s c) j; outputs = []; count = 0; before = None }

  fresh_again : (k : Contribution) → IsFresh k → opened p nodes w k.cells ≡ k
  fresh_again k fresh = ap (λ (o : Contribution). opened p nodes w o.cells) fresh.1 ∙ opened_again fresh.0 ∙ sym fresh.1

  fresh_idle : (k : Contribution) (y : Event) → IsFresh k → is_idle (closed p nodes w k y) ≡ true
  fresh_idle k y fresh = ap (λ (o : Contribution). is_idle (closed p nodes w o y)) fresh.1

  -- an event above stands between two others
  record Between (xs : List Event) (x y : Event) : Type 0 where
    event : Event
    there : Contains xs event
    above : is_above p nodes w event ≡ true
    after : is_before x event ≡ true
    before : is_before event y ≡ true

  -- an event above comes before another
  record Coming (xs : List Event) (y : Event) : Type 0 where
    event : Event
    there : Contains xs event
    above : is_above p nodes w event ≡ true
    before : is_before event y ≡ true

  -- an event to come is idle after an open contribution
  record IdleAfter (k : Contribution) (xs : List Event) (y : Event) : Type 0 where
    outside : is_inside p nodes w y ≡ false
    fresh : IsFresh k ⊎ Coming xs y
    closed : (x : Event) → Contains xs x → is_inside p nodes w x ≡ true → is_before x y ≡ true → Between xs x y

  module _ (test : Event → Bool) where
    -- all events to come that the node needs and that fail the test are idle
    abbrev AreIdle : Contribution → List Event → Type 0
    AreIdle k xs = (y : Event) → Contains xs y → test y ≡ false → is_needed p nodes w y ≡ true → IdleAfter k xs y

    -- ---- what is between later events is later
    between_later : (x : Event) (xs : List Event) (u y : Event) → AllByRecursion (λ y. is_before x y ≡ true) xs → Contains xs u → Between (x ∷ xs) u y
        → Between xs u y
    between_later x xs u y up in_u z = elim (contains_cases x z.event xs z.there) [
      | inl same ↦
          absurd (not_before_both x u (all_have (λ y. is_before x y ≡ true) xs u up in_u) (ap (is_before u) same ∙ z.after))
      | inr later ↦ record { event = z.event; there = later; above = z.above; after = z.after; before = z.before }
    ]

    -- an event above that comes after the first
    between_coming : (x : Event) (xs : List Event) (y : Event) → Between (x ∷ xs) x y → Coming xs y
    between_coming x xs y z = elim (contains_cases x z.event xs z.there) [
      | inl same ↦ absurd (not_before_itself x (ap (is_before x) same ∙ z.after))
      | inr later ↦ record { event = z.event; there = later; above = z.above; before = z.before }
    ]

    -- one that is not the first
    coming_later : (x : Event) (xs : List Event) (y : Event) → is_above p nodes w x ≡ false → Coming (x ∷ xs) y → Coming xs y
    coming_later x xs y not_over z = elim (contains_cases x z.event xs z.there) [
      | inl same ↦ absurd (not_both (is_above p nodes w x) (ap (is_above p nodes w) same ∙ z.above) not_over)
      | inr later ↦ record { event = z.event; there = later; above = z.above; before = z.before }
    ]

    -- none comes before the first
    none_coming : (x : Event) (xs : List Event) → AllByRecursion (λ y. is_before x y ≡ true) xs → Coming (x ∷ xs) x → ⊥
    none_coming x xs up z = elim (contains_cases x z.event xs z.there) [
      | inl same ↦ not_before_itself x (ap (λ e. is_before e x) same ∙ z.before)
      | inr later ↦ not_before_both x z.event (all_have (λ y. is_before x y ≡ true) xs z.event up later) z.before
    ]

    -- ---- what is idle after the first event
    -- from what is known of the open contribution, the rest stays
    idle_later : (x : Event) (xs : List Event) (k m : Contribution) → AllByRecursion (λ y. is_before x y ≡ true) xs
        → ((y : Event) → Contains xs y → IdleAfter k (x ∷ xs) y → IsFresh m ⊎ Coming xs y) → AreIdle k (x ∷ xs) → AreIdle m xs
    idle_later x xs k m up fresh idle = λ y in_y fails needed.
        let was = idle y (contains_later x y xs in_y) fails needed in
        record {
          outside = was.outside;
          fresh = fresh y in_y was;
          closed = λ u in_u inner before. between_later x xs u y up in_u (was.closed u (contains_later x u xs in_u) inner before);
        }

    after_inside : (x : Event) (xs : List Event) (k m : Contribution) → is_inside p nodes w x ≡ true → AllByRecursion (λ y. is_before x y ≡ true) xs
        → AreIdle k (x ∷ xs) → AreIdle m xs
    after_inside x xs k m inner up idle =
        idle_later x xs k m up
        (λ y in_y was. inr (between_coming x xs y
        (was.closed x (contains_here x xs) inner (all_have (λ y. is_before x y ≡ true) xs y up in_y)))) idle

    after_fresh : (x : Event) (xs : List Event) (k m : Contribution) → IsFresh m → AllByRecursion (λ y. is_before x y ≡ true) xs
        → AreIdle k (x ∷ xs) → AreIdle m xs
    after_fresh x xs k m fresh up idle = idle_later x xs k m up (λ y in_y was. inl fresh) idle

    after_other : (x : Event) (xs : List Event) (k : Contribution) → is_above p nodes w x ≡ false → AllByRecursion (λ y. is_before x y ≡ true) xs
        → AreIdle k (x ∷ xs) → AreIdle k xs
    after_other x xs k not_over up idle =
        idle_later x xs k k up (λ y in_y was. still y was.fresh) idle
      where
        still : (y : Event) → IsFresh k ⊎ Coming (x ∷ xs) y → IsFresh k ⊎ Coming xs y
        still y (inl fresh) = inl fresh
        still y (inr z) = inr (coming_later x xs y not_over z)

    -- ---- event by event
    sent_same : (k : Contribution) (xs : List Event) → RiseStrictly xs → AreIdle k xs
        → sent (contributions_from p nodes w k (filter test xs)) ≡ sent (contributions_from p nodes w k xs)
    sent_same k [] up idle = refl
    sent_same k (x ∷ xs) up idle =
        elim (cases_Bool (is_inside p nodes w x)) [
          | inl inner ↦ elim (cases_Bool (test x)) [
            | inl passes ↦
                ap (λ l. sent (contributions_from p nodes w k l)) (taken test x xs passes)
                ∙ ap sent (next_inside p nodes w k x (filter test xs) inner)
                ∙ sent_same (with_event p k x) xs up.1 (after_inside x xs k (with_event p k x) inner up.0 idle)
                ∙ sym (ap sent (next_inside p nodes w k x xs inner))
            | inr fails ↦
                let was = idle x (contains_here x xs) fails (or_left (is_inside p nodes w x) (is_above p nodes w x) inner) in
                absurd (not_both (is_inside p nodes w x) inner was.outside)
          ]
          | inr out ↦ elim (cases_Bool (is_above p nodes w x)) [
            | inl over ↦
                let next : Contribution = opened p nodes w k.cells in
                let last : Contribution = closed p nodes w k x in
                elim (cases_Bool (test x)) [
                  | inl passes ↦
                      ap (λ l. sent (contributions_from p nodes w k l)) (taken test x xs passes)
                      ∙ ap sent (next_above p nodes w k x (filter test xs) out over)
                      ∙ ap (λ l. cond (not (is_idle last)) (last ∷ l) l)
                      (sent_same next xs up.1 (after_fresh x xs k next (k.cells, refl) up.0 idle))
                      ∙ sym (ap sent (next_above p nodes w k x xs out over))
                  | inr fails ↦
                      let was = idle x (contains_here x xs) fails (or_right (is_inside p nodes w x) (is_above p nodes w x) over) in
                      let fresh : IsFresh k = elim was.fresh [ inl it ↦ it | inr z ↦ absurd (none_coming x xs up.0 z) ] in
                      ap (λ l. sent (contributions_from p nodes w k l)) (passed test x xs fails)
                      ∙ sent_same k xs up.1 (after_fresh x xs k k fresh up.0 idle)
                      ∙ sym (ap sent (next_above p nodes w k x xs out over)
                      ∙ sent_idle last (contributions_from p nodes w next xs) (fresh_idle k x fresh)
                      ∙ ap (λ m. sent (contributions_from p nodes w m xs)) (fresh_again k fresh))
                ]
            | inr not_over ↦
                let more = sent_same k xs up.1 (after_other x xs k not_over up.0 idle) ∙ sym (ap sent (next_other p nodes w k x xs out not_over)) in
                elim (cases_Bool (test x)) [
                  | inl passes ↦
                      ap (λ l. sent (contributions_from p nodes w k l)) (taken test x xs passes)
                      ∙ ap sent (next_other p nodes w k x (filter test xs) out not_over)
                      ∙ more
                  | inr fails ↦ ap (λ l. sent (contributions_from p nodes w k l)) (passed test x xs fails) ∙ more
                ]
          ]
        ]

    -- ---- from the opening state on
    pub idle_dont_matter : (opening : Contents) (xs : List Event) → RiseStrictly xs
        → ((y : Event) → Contains xs y → test y ≡ false → is_needed p nodes w y ≡ true → IsIdle p nodes w xs y)
        → sent (contributions p nodes w opening (filter test xs)) ≡ sent (contributions p nodes w opening xs)
    idle_dont_matter opening xs up idle =
        sent_same (opened p nodes w opening) xs up
        (λ y in_y fails needed.
        let is = idle y in_y fails needed in
        record {
          outside = is.outside;
          fresh = inl (opening, refl);
          closed = λ x in_x inner before.
              let z = is.closed x in_x inner before in
              record { event = z.0; there = z.1; above = z.2; after = z.3; before = z.4 };
        })
