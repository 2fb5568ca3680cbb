-- What waits behind some events: a queue is used up where its contributions name some of the events, in their order, and then comes the last one.
use Rattle.std.proofs.Common.{◌≡◌, Bool, true, false, cond, not, Option, Some, None, List, [], ◌∷◌, ◌++◌, ◌⊎◌, inl, inr, refl, sym, ap, subst, ◌∙◌}
use Rattle.std.specs.Prelude.{is_some, ◌==◌, ◌&&◌, map}
use Rattle.std.specs.List.{filter, AllByRecursion}
use Rattle.std.proofs.lemmas.Bool.{cases_Bool}
use Rattle.std.proofs.lemmas.List.{map-id}
use Rattle.std.proofs.lemmas.Simd.{map-map}
use Rattle.flu_lemmas.proofs.Booleans.{and_false}
use Rattle.flu_lemmas.proofs.Searches.{eq_true}
use Rattle.flu_lemmas.proofs.Tests.{both, not_both, not_true}
use Rattle.flu_model.specs.declared.events.Event.{Event}
use Rattle.flu_contribution.specs.Combining.{without_first}
use Rattle.flu_contribution.specs.Contributions.{Contribution}
use Rattle.flu_contribution.specs.Sending.{is_idle, sent, is_named, is_due, without_due}
use Rattle.flu_joining.specs.Joining.{waiting_behind, is_last_alone}

-- ---- one queue
-- what waits in one queue behind some events
abbrev pub rest_behind : List Contribution → List Event → List Contribution
rest_behind ks [] = ks
rest_behind ks (y ∷ ys) = rest_behind (cond (is_due ks y) (without_first ks) ks) ys

pub behind_each : (queues : List (List Contribution)) (ys : List Event) → waiting_behind queues ys ≡ map (λ ks. rest_behind ks ys) queues
behind_each queues [] = sym (map-id queues)
behind_each queues (y ∷ ys) =
    behind_each (without_due y queues) ys
    ∙ map-map (λ (ks : List Contribution). rest_behind ks ys) (λ (ks : List Contribution). cond (is_due ks y) (without_first ks) ks) queues

-- the contributions name some of the events, in order, and one that names none is left
abbrev Embeds : List Contribution → List Event → Type 0
Embeds ks [] = is_last_alone ks ≡ true
Embeds ks (y ∷ ys) = Embeds ks ys ⊎ ((is_due ks y ≡ true) × Embeds (without_first ks) ys)

some_named : (b : Option Event) (y : Event) → is_named b y ≡ true → is_some b ≡ true
some_named None y e = cc
some_named (Some x) y e = refl

-- one that names an event may be left out
not_alone : (k : Contribution) (ks : List Contribution) → is_some k.before ≡ true → is_last_alone (k ∷ ks) ≡ true → ⊥
not_alone k [] e h = not_both (is_some k.before) e (not_true _ h)
not_alone k (j ∷ ks) e h = cc

left_out : (k : Contribution) (ks : List Contribution) (ys : List Event) → is_some k.before ≡ true → Embeds (k ∷ ks) ys → Embeds ks ys
left_out k ks [] e h = absurd (not_alone k ks e h)
left_out k ks (y ∷ ys) e (inl h) = inl (left_out k ks ys e h)
left_out k ks (y ∷ ys) e (inr h) = inl h.1

-- so to join what is due as soon as it is due leaves the rest as good
after_event : (ks : List Contribution) (y : Event) (ys : List Event) (b : Bool) → is_due ks y ≡ b → Embeds ks (y ∷ ys)
    → Embeds (cond b (without_first ks) ks) ys
after_event [] y ys true e h = cc
after_event (k ∷ ks) y ys true e (inl h) = left_out k ks ys (some_named k.before y e) h
after_event (k ∷ ks) y ys true e (inr h) = h.1
after_event ks y ys false e (inl h) = h
after_event ks y ys false e (inr h) = absurd (not_both (is_due ks y) h.0 e)

pub embedded_last : (ks : List Contribution) (ys : List Event) → Embeds ks ys → is_last_alone (rest_behind ks ys) ≡ true
embedded_last ks [] h = h
embedded_last ks (y ∷ ys) h = embedded_last (cond (is_due ks y) (without_first ks) ks) ys (after_event ks y ys (is_due ks y) refl h)

-- ---- what is sent
sent_idle : (k : Contribution) (ks : List Contribution) → is_idle k ≡ true → sent (k ∷ ks) ≡ sent ks
sent_idle k ks e = ap (λ b. cond (not b) (k ∷ sent ks) (sent ks)) e

sent_busy : (k : Contribution) (ks : List Contribution) → is_idle k ≡ false → sent (k ∷ ks) ≡ k ∷ sent ks
sent_busy k ks e = ap (λ b. cond (not b) (k ∷ sent ks) (sent ks)) e

sent_last : (k : Contribution) → k.before ≡ None → sent (k ∷ []) ≡ k ∷ []
sent_last k e = sent_busy k [] (ap (λ o. (k.count == 0) && is_some o) e ∙ and_false (k.count == 0))

names_itself : (x : Event) → is_named (Some x) x ≡ true
names_itself x = both (x.time == x.time) (x.itag.0 == x.itag.0) (eq_true x.time x.time refl) (eq_true x.itag.0 x.itag.0 refl)

abbrev befores : List Contribution → List (Option Event)
befores ks = map (λ (k : Contribution). k.before) ks

taken : {X : Type 0} (test : X → Bool) (x : X) (xs : List X) → test x ≡ true → filter test (x ∷ xs) ≡ x ∷ filter test xs
taken test x xs e = ap (λ b. cond b (x ∷ filter test xs) (filter test xs)) e

passed : {X : Type 0} (test : X → Bool) (x : X) (xs : List X) → test x ≡ false → filter test (x ∷ xs) ≡ filter test xs
passed test x xs e = ap (λ b. cond b (x ∷ filter test xs) (filter test xs)) e

-- one contribution before an event, whether it is sent or not
one_more : (ks : List Contribution) (x : Event) (ys : List Event) (rest : List (Option Event)) → befores ks ≡ Some x ∷ rest
    → ((js : List Contribution) → befores js ≡ rest → Embeds (sent js) ys) → Embeds (sent ks) (x ∷ ys)
one_more [] x ys rest e more = absurd cc
one_more (k ∷ ks) x ys rest e more =
    let here : k.before ≡ Some x = cc in
    let behind : befores ks ≡ rest = cc in
    elim (cases_Bool (is_idle k)) [
      | inl idle ↦ subst (λ l. Embeds l (x ∷ ys)) (sym (sent_idle k ks idle)) (inl (more ks behind))
      | inr busy ↦ subst (λ l. Embeds l (x ∷ ys)) (sym (sent_busy k ks busy)) (inr (ap (λ o. is_named o x) here ∙ names_itself x, more ks behind))
    ]

last_one : (ks : List Contribution) → befores ks ≡ None ∷ [] → is_last_alone (sent ks) ≡ true
last_one [] e = absurd cc
last_one (k ∷ []) e = let here : k.before ≡ None = cc in ap is_last_alone (sent_last k here) ∙ ap (λ o. not (is_some o)) here
last_one (k ∷ j ∷ ks) e = absurd cc

-- contributions that are to be joined before the events that pass a test, one before each, and at the end, where all these are gone through
module _ (above through : Event → Bool) where
  sent_embeds : (ks : List Contribution) (xs : List Event) → befores ks ≡ map Some (filter above xs) ++ (None ∷ [])
      → AllByRecursion (λ (x : Event). above x ≡ true → through x ≡ true) xs → Embeds (sent ks) (filter through xs)
  sent_embeds ks [] e all = last_one ks e
  sent_embeds ks (x ∷ xs) e all =
      elim (cases_Bool (above x)) [
        | inl over ↦
            subst (Embeds (sent ks)) (sym (taken through x xs (all.0 over)))
            (one_more ks x (filter through xs) (map Some (filter above xs) ++ (None ∷ []))
            (e ∙ ap (λ (l : List Event). map Some l ++ (None ∷ [])) (taken above x xs over))
            (λ js f. sent_embeds js xs f all.1))
        | inr not_over ↦
            let rest : Embeds (sent ks) (filter through xs) =
            sent_embeds ks xs (e ∙ ap (λ (l : List Event). map Some l ++ (None ∷ [])) (passed above x xs not_over)) all.1 in
            elim (cases_Bool (through x)) [
              | inl goes ↦ subst (Embeds (sent ks)) (sym (taken through x xs goes)) (inl rest)
              | inr passes ↦ subst (Embeds (sent ks)) (sym (passed through x xs passes)) rest
            ]
      ]

  pub sent_last_alone : (ks : List Contribution) (xs : List Event) → befores ks ≡ map Some (filter above xs) ++ (None ∷ [])
      → AllByRecursion (λ (x : Event). above x ≡ true → through x ≡ true) xs → is_last_alone (rest_behind (sent ks) (filter through xs)) ≡ true
  sent_last_alone ks xs e all = embedded_last (sent ks) (filter through xs) (sent_embeds ks xs e all)
