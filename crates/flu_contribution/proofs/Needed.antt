-- The contributions of a node, event by event; and only the events inside and above matter to them.
use Rattle.std.proofs.Common.{◌≡◌, ℕ, Bool, true, false, cond, List, [], ◌∷◌, inl, inr, refl, sym, ap, ◌∙◌}
use Rattle.std.specs.List.{filter}
use Rattle.std.proofs.lemmas.Bool.{cases_Bool, or_left, or_right, or_from}
use Rattle.flu_model.specs.declared.events.Event.{Event}
use Rattle.flu_model.specs.declared.jobs.Program.{Program}
use Rattle.flu_model.specs.declared.plans.Node.{Node}
use Rattle.flu_model.specs.Contents.{Contents}
use Rattle.flu_contribution.specs.Contributions.{is_inside, is_above, Contribution, opened, with_event, closed, contributions_from, contributions}
use Rattle.flu_contribution.specs.Sharing.{is_needed}

-- ---- a test of the first event
pub taken : {X : Type 0} (test : X → Bool) (x : X) (xs : List X) → test x ≡ true → filter test (x ∷ xs) ≡ x ∷ filter test xs
taken test x xs e = ap (λ b. cond b (x ∷ filter test xs) (filter test xs)) e

pub passed : {X : Type 0} (test : X → Bool) (x : X) (xs : List X) → test x ≡ false → filter test (x ∷ xs) ≡ filter test xs
passed test x xs e = ap (λ b. cond b (x ∷ filter test xs) (filter test xs)) e

module _ (p : Program) (nodes : List Node) (w : ℕ) where
  -- ---- the next event
  pub next_inside : (k : Contribution) (x : Event) (xs : List Event) → is_inside p nodes w x ≡ true
      → contributions_from p nodes w k (x ∷ xs) ≡ contributions_from p nodes w (with_event p k x) xs
  next_inside k x xs e =
      ap (λ b. cond b (contributions_from p nodes w (with_event p k x) xs)
      (cond (is_above p nodes w x) (closed p nodes w k x ∷ contributions_from p nodes w (opened p nodes w k.cells) xs)
      (contributions_from p nodes w k xs))) e

  pub next_above : (k : Contribution) (x : Event) (xs : List Event) → is_inside p nodes w x ≡ false → is_above p nodes w x ≡ true
      → contributions_from p nodes w k (x ∷ xs) ≡ closed p nodes w k x ∷ contributions_from p nodes w (opened p nodes w k.cells) xs
  next_above k x xs e f =
      λ j. cond (e j) (contributions_from p nodes w (with_event p k x) xs)
      (cond (f j) (closed p nodes w k x ∷ contributions_from p nodes w (opened p nodes w k.cells) xs) (contributions_from p nodes w k xs))

  pub next_other : (k : Contribution) (x : Event) (xs : List Event) → is_inside p nodes w x ≡ false → is_above p nodes w x ≡ false
      → contributions_from p nodes w k (x ∷ xs) ≡ contributions_from p nodes w k xs
  next_other k x xs e f =
      λ j. cond (e j) (contributions_from p nodes w (with_event p k x) xs)
      (cond (f j) (closed p nodes w k x ∷ contributions_from p nodes w (opened p nodes w k.cells) xs) (contributions_from p nodes w k xs))

  -- ---- only what is needed
  of_needed : (k : Contribution) (xs : List Event)
      → contributions_from p nodes w k (filter (is_needed p nodes w) xs) ≡ contributions_from p nodes w k xs
  of_needed k [] = refl
  of_needed k (x ∷ xs) =
      elim (cases_Bool (is_inside p nodes w x)) [
        | inl inner ↦
            ap (contributions_from p nodes w k) (taken (is_needed p nodes w) x xs (or_left (is_inside p nodes w x) (is_above p nodes w x) inner))
            ∙ next_inside k x (filter (is_needed p nodes w) xs) inner
            ∙ of_needed (with_event p k x) xs
            ∙ sym (next_inside k x xs inner)
        | inr out ↦ elim (cases_Bool (is_above p nodes w x)) [
          | inl over ↦
              ap (contributions_from p nodes w k) (taken (is_needed p nodes w) x xs (or_right (is_inside p nodes w x) (is_above p nodes w x) over))
              ∙ next_above k x (filter (is_needed p nodes w) xs) out over
              ∙ ap (λ l. closed p nodes w k x ∷ l) (of_needed (opened p nodes w k.cells) xs)
              ∙ sym (next_above k x xs out over)
          | inr not_over ↦
              ap (contributions_from p nodes w k) (passed (is_needed p nodes w) x xs (or_from (is_inside p nodes w x) (is_above p nodes w x) out not_over))
              ∙ of_needed k xs
              ∙ sym (next_other k x xs out not_over)
        ]
      ]

  pub only_needed : (opening : Contents) (xs ys : List Event) → filter (is_needed p nodes w) xs ≡ filter (is_needed p nodes w) ys
      → contributions p nodes w opening xs ≡ contributions p nodes w opening ys
  only_needed opening xs ys e =
      sym (of_needed (opened p nodes w opening) xs)
      ∙ ap (contributions_from p nodes w (opened p nodes w opening)) e
      ∙ of_needed (opened p nodes w opening) ys
