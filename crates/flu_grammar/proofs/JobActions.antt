-- Actions that are found are what they mean, and the other way round.
use Rattle.std.proofs.Common.{◌≡◌, ℕ, ◌+◌, ◌≤◌, Bool, true, false, List, [], ◌∷◌, ◌++◌, length, Option}
use Rattle.std.proofs.Common.{Some, None, Ok, refl, sym, ap, subst, ◌∙◌, append_assoc, arith}
use Rattle.std.specs.Prelude.{nat_lt, slice_get, ◌==◌, ◌&&◌, if◌then◌else◌}
use Rattle.std.proofs.lemmas.List.{append-nil, length_push}
use Rattle.flu_lemmas.specs.Items.{Pairs}
use Rattle.flu_lemmas.proofs.Loops.{bind_ok}
use Rattle.flu_lemmas.proofs.Booleans.{and_false}
use Rattle.flu_lemmas.proofs.Searches.{eq_true}
use Rattle.flu_lemmas.proofs.Tests.{and_left, and_right, both, not_true, true_eq, true_lt, lt_true}
use Rattle.flu_model.specs.declared.limits.What.TheVariants.{Actions}
use Rattle.flu_model.specs.declared.jobs.Sort.TheVariants.{Sum, Max, Last}
use Rattle.flu_model.specs.declared.jobs.Family.{Family}
use Rattle.flu_model.specs.declared.jobs.CellRef.{CellRef}
use Rattle.flu_model.specs.Erasure.{Term, PlainAct, Adding, Raising, Setting, Clearing, ClearingFamily, Emitting, Flushing, PlainAction}
use Rattle.flu_text.specs.declared.written.WrittenSpan.{WrittenSpan}
use Rattle.flu_syntax.specs.declared.tokens.Verb.TheVariants as verb
use Rattle.flu_syntax.specs.declared.tree.WrittenKey.{WrittenKey}
use Rattle.flu_syntax.specs.declared.tree.WrittenKey.TheVariants as k
use Rattle.flu_syntax.specs.declared.tree.WrittenRef.{WrittenRef}
use Rattle.flu_syntax.specs.Tree.{Tree, Deed, Writes, Clears, Emits, Flushes, Action}
use Rattle.flu_parse.specs.declared.faults.JobFault.TheVariants as f
use Rattle.flu_parse.specs.declared.names.FamilyHead.{FamilyHead}
use Rattle.flu_parse.specs.declared.names.KindHead.{KindHead}
use Rattle.flu_parse.specs.Faults.{Found, ◌>>=◌, ◌>>◌, unless, room, each}
use Rattle.flu_parse.specs.Naming.{Naming, family_of}
use Rattle.flu_parse.specs.Cells.{brackets_fit, resolved_cell}
use Rattle.flu_parse.specs.Terms.{is_alone, expression_of}
use Rattle.flu_parse.specs.Templates.{template_of}
use Rattle.flu_parse.specs.Actions.{clears_whole, resolved_act, guard_of, action_of, with_action, resolved_actions}
use Rattle.flu_grammar.specs.Means.{IfWritten}
use Rattle.flu_grammar.specs.Cells.{MeansCell}
use Rattle.flu_grammar.specs.Terms.{MeansExpression}
use Rattle.flu_grammar.specs.Actions.{MeansKeyedFamily, MeansDeed, means_add, means_raise, means_set, means_clear, means_clear_family}
use Rattle.flu_grammar.specs.Actions.{means_emit, means_flush, MeansAction}
use Rattle.flu_grammar.proofs.Lists.{pairs_weaker}
use Rattle.flu_grammar.proofs.Looks.{ok_same, ok_ok, passed, passes, binds, Finds}
use Rattle.flu_grammar.proofs.JobCells.{family_head, KnowFamilies, under_head, at_found, family_is, family_found, cell_means, cell_found}
use Rattle.flu_grammar.proofs.JobTerms.{alone_is, expression_means, expression_found}
use Rattle.flu_grammar.proofs.JobTemplates.{template_means, template_found}

module _ (text : List ℕ) (n : Naming) (families : List Family) (knows : KnowFamilies n families) (under : KindHead) where
  abbrev Means : Deed → PlainAct → Type 0
  Means d a = MeansDeed text families (under_head n under) d a

  -- what `clear` does, where the family is known
  abbrev cleared : WrittenRef → FamilyHead → Found PlainAct
  cleared r h = if clears_whole n h r.key then Ok (ClearingFamily h.number) else (resolved_cell text n under None r >>= λ cell. Ok (Clearing cell))

  -- the keyed family that is found by its name
  pub keyed_family : (name : WrittenSpan) (h : FamilyHead) → family_of text n name ≡ Ok h → h.keyed ≡ true → MeansKeyedFamily text families name h.number
  keyed_family name h found keyed =
      let head = family_is text n families knows name h found in
      let zero_more : head.place ≡ 0 + head.place = omega arith in
      let number : head.place ≡ h.number = zero_more ∙ ap (λ (x : FamilyHead). x.number) head.is in
      record {
        family = head.declared;
        here = ap (slice_get families) (sym number) ∙ head.here;
        name = head.named;
        keyed = ap (λ (x : FamilyHead). x.keyed) head.is ∙ keyed;
      }

  clear_means : (r : WrittenRef) (a : PlainAct) (h : FamilyHead) → family_of text n r.family ≡ Ok h → (b : Bool) → clears_whole n h r.key ≡ b
      → (if b then Ok (ClearingFamily h.number) else (resolved_cell text n under None r >>= λ cell. Ok (Clearing cell))) ≡ Ok a
      → Means (Clears r) a
  clear_means r a h found true whole q =
      let front = and_left ((n.version == 3) && h.keyed) (is_alone r.key) whole in
      subst (λ (x : PlainAct). Means (Clears r) x) (ok_same (ClearingFamily h.number) a q)
      (means_clear_family r h.number (true_eq n.version 3 (and_left (n.version == 3) h.keyed front))
      (alone_is r.key (and_right ((n.version == 3) && h.keyed) (is_alone r.key) whole))
      (keyed_family r.family h found (and_right (n.version == 3) h.keyed front)))
  clear_means r a h found false part q =
      let one = bind_ok (resolved_cell text n under None r) (λ c. Ok (Clearing c)) a q in
      subst (λ (x : PlainAct). Means (Clears r) x) (ok_same (Clearing one.0) a one.2) (means_clear r one.0
      (cell_means text n families knows under None r one.0 one.1))

  -- a cell is cleared, where no family is cleared whole
  clears_cell : (r : WrittenRef) (c : CellRef) → MeansCell text families (under_head n under) None r c
      → (family_of text n r.family >>= λ h. cleared r h) ≡ Ok (Clearing c)
  clears_cell r c cell =
      let x = cell.family in
      let key = at_found n under x.keyed r.key c.at cell.key in
      let part : clears_whole n (family_head c.family x) r.key ≡ false = by r.key x.keyed key.0 in
      binds (family_of text n r.family) (λ h. cleared r h) (family_head c.family x) (Clearing c)
      (family_found text n families knows r.family c.family x cell.here cell.name)
      (ap (λ b. if b then Ok (ClearingFamily c.family) else (resolved_cell text n under None r >>= λ cell. Ok (Clearing cell))) part
      ∙ ap (λ x. x >>= λ y. Ok (Clearing y)) (cell_found text n families knows under None r c cell))
    where
      by : (key : WrittenKey) (keyed : Bool) → brackets_fit keyed key ≡ true → ((n.version == 3) && keyed && is_alone key) ≡ false
      by k.Alone keyed fits = ap (λ b. (n.version == 3) && b && true) (not_true keyed fits) ∙ ap (λ b. b && true) (and_false (n.version == 3))
      by (k.OwnKey at) keyed fits = and_false ((n.version == 3) && keyed)
      by (k.OwnItem at) keyed fits = and_false ((n.version == 3) && keyed)
      by (k.Fixed m) keyed fits = and_false ((n.version == 3) && keyed)

  clears_family : (r : WrittenRef) (number : ℕ) → n.version ≡ 3 → r.key ≡ k.Alone → MeansKeyedFamily text families r.family number
      → (family_of text n r.family >>= λ h. cleared r h) ≡ Ok (ClearingFamily number)
  clears_family r number third alone family =
      binds (family_of text n r.family) (λ h. cleared r h) (family_head number family.family) (ClearingFamily number)
      (family_found text n families knows r.family number family.family family.here family.name)
      (ap (λ b. if b then Ok (ClearingFamily number) else (resolved_cell text n under None r >>= λ cell. Ok (Clearing cell)))
      (both ((n.version == 3) && family.family.keyed) (is_alone r.key) (both (n.version == 3) family.family.keyed (eq_true n.version 3 third) family.keyed)
      (ap is_alone alone)))

  deed_means : (d : Deed) (a : PlainAct) → resolved_act text n under d ≡ Ok a → MeansDeed text families (under_head n under) d a
  unfolding resolved_act
  deed_means (Writes verb.Add r e) a q =
      let one = bind_ok (resolved_cell text n under (Some Sum) r) (λ c. expression_of text n under e >>= λ t. Ok (Adding c t)) a q in
      let two = bind_ok (expression_of text n under e) (λ t. Ok (Adding one.0 t)) a one.2 in
      subst (λ (x : PlainAct). Means (Writes verb.Add r e) x) (ok_same (Adding one.0 two.0) a two.2)
      (means_add r e one.0 two.0 (cell_means text n families knows under (Some Sum) r one.0 one.1) (expression_means text n families knows under e two.0 two.1))
  deed_means (Writes verb.Raise r e) a q =
      let one = bind_ok (resolved_cell text n under (Some Max) r) (λ c. expression_of text n under e >>= λ t. Ok (Raising c t)) a q in
      let two = bind_ok (expression_of text n under e) (λ t. Ok (Raising one.0 t)) a one.2 in
      subst (λ (x : PlainAct). Means (Writes verb.Raise r e) x) (ok_same (Raising one.0 two.0) a two.2)
      (means_raise r e one.0 two.0 (cell_means text n families knows under (Some Max) r one.0 one.1)
      (expression_means text n families knows under e two.0 two.1))
  deed_means (Writes verb.Set r e) a q =
      let one = bind_ok (resolved_cell text n under (Some Last) r) (λ c. expression_of text n under e >>= λ t. Ok (Setting c t)) a q in
      let two = bind_ok (expression_of text n under e) (λ t. Ok (Setting one.0 t)) a one.2 in
      subst (λ (x : PlainAct). Means (Writes verb.Set r e) x) (ok_same (Setting one.0 two.0) a two.2)
      (means_set r e one.0 two.0 (cell_means text n families knows under (Some Last) r one.0 one.1)
      (expression_means text n families knows under e two.0 two.1))
  deed_means (Clears r) a q =
      let one = bind_ok (family_of text n r.family) (λ h. cleared r h) a q in
      clear_means r a one.0 one.1 (clears_whole n one.0 r.key) refl one.2
  deed_means (Emits s) a q =
      let one = bind_ok (template_of text n under None s) (λ ps. Ok (Emitting ps)) a q in
      subst (λ (x : PlainAct). Means (Emits s) x) (ok_same (Emitting one.0) a one.2) (means_emit s one.0
      (template_means text n families knows under None s one.0 one.1))
  deed_means (Flushes name s) a q =
      let one = bind_ok (family_of text n name)
      (λ h. unless h.keyed (f.WrongShape name.from) >> (template_of text n under (Some h.number) s >>= λ ps. Ok (Flushing h.number ps))) a q in
      let two = passed one.0.keyed (f.WrongShape name.from) (template_of text n under (Some one.0.number) s >>= λ ps. Ok (Flushing one.0.number ps)) a one.2 in
      let three = bind_ok (template_of text n under (Some one.0.number) s) (λ ps. Ok (Flushing one.0.number ps)) a two.1 in
      subst (λ (x : PlainAct). Means (Flushes name s) x) (ok_same (Flushing one.0.number three.0) a three.2)
      (means_flush name s one.0.number three.0 (keyed_family name one.0 one.1 two.0)
      (template_means text n families knows under (Some one.0.number) s three.0 three.1))

  deed_found : {d : Deed} {a : PlainAct} → MeansDeed text families (under_head n under) d a → resolved_act text n under d ≡ Ok a
  unfolding resolved_act
  deed_found (means_add r e c t cell term) =
      binds (resolved_cell text n under (Some Sum) r) (λ c. expression_of text n under e >>= λ t. Ok (Adding c t)) c (Adding c t)
      (cell_found text n families knows under (Some Sum) r c cell)
      (ap (λ x. x >>= λ t. Ok (Adding c t)) (expression_found text n families knows under e t term))
  deed_found (means_raise r e c t cell term) =
      binds (resolved_cell text n under (Some Max) r) (λ c. expression_of text n under e >>= λ t. Ok (Raising c t)) c (Raising c t)
      (cell_found text n families knows under (Some Max) r c cell) (ap (λ x. x >>= λ t. Ok (Raising c t))
      (expression_found text n families knows under e t term))
  deed_found (means_set r e c t cell term) =
      binds (resolved_cell text n under (Some Last) r) (λ c. expression_of text n under e >>= λ t. Ok (Setting c t)) c (Setting c t)
      (cell_found text n families knows under (Some Last) r c cell) (ap (λ x. x >>= λ t. Ok (Setting c t))
      (expression_found text n families knows under e t term))
  deed_found (means_clear r c cell) = clears_cell r c cell
  deed_found (means_clear_family r number third alone family) = clears_family r number third alone family
  deed_found (means_emit s ps is) = ap (λ x. x >>= λ y. Ok (Emitting y)) (template_found text n families knows under None s ps is)
  deed_found (means_flush name s number ps family is) =
      binds (family_of text n name) (λ h. unless h.keyed (f.WrongShape name.from) >>
      (template_of text n under (Some h.number) s >>= λ ps. Ok (Flushing h.number ps)))
      (family_head number family.family) (Flushing number ps) (family_found text n families knows name number family.family family.here family.name)
      (passes family.family.keyed (f.WrongShape name.from) (template_of text n under (Some number) s >>= λ ps. Ok (Flushing number ps)) (Flushing number ps)
      family.keyed
      (ap (λ x. x >>= λ y. Ok (Flushing number y)) (template_found text n families knows under (Some number) s ps is)))

  guard_means : (g : Option Tree) (t : Option Term) → guard_of text n under g ≡ Ok t → IfWritten (MeansExpression text families (under_head n under)) g t
  unfolding guard_of
  guard_means None t e = subst (λ (x : Option Term). IfWritten (MeansExpression text families (under_head n under)) None x) (ok_same None t e) tt
  guard_means (Some g) t e =
      let one = bind_ok (expression_of text n under g) (λ x. Ok (Some x)) t e in
      subst (λ (x : Option Term). IfWritten (MeansExpression text families (under_head n under)) (Some g) x) (ok_same (Some one.0) t one.2)
      (expression_means text n families knows under g one.0 one.1)

  guard_found : (g : Option Tree) (t : Option Term) → IfWritten (MeansExpression text families (under_head n under)) g t → guard_of text n under g ≡ Ok t
  unfolding guard_of
  guard_found None None h = refl
  guard_found None (Some t) h = absurd h
  guard_found (Some g) None h = absurd h
  guard_found (Some g) (Some t) h = ap (λ x. x >>= λ y. Ok (Some y)) (expression_found text n families knows under g t h)

  action_means : (w : Action) (a : PlainAction) → action_of text n under w ≡ Ok a → MeansAction text families (under_head n under) w a
  unfolding action_of
  action_means w a e =
      let one = bind_ok (resolved_act text n under w.deed) (λ act. guard_of text n under w.guard >>= λ guard. Ok (record { act = act; guard = guard })) a e in
      let two = bind_ok (guard_of text n under w.guard) (λ guard. Ok (record { act = one.0; guard = guard })) a one.2 in
      subst (λ (x : PlainAction). MeansAction text families (under_head n under) w x) (ok_same (record { act = one.0; guard = two.0 }) a two.2)
      (record { act = deed_means w.deed one.0 one.1; guard = guard_means w.guard two.0 two.1 })

  action_found : (w : Action) (a : PlainAction) → MeansAction text families (under_head n under) w a → action_of text n under w ≡ Ok a
  unfolding action_of
  action_found w a is =
      binds (resolved_act text n under w.deed) (λ act. guard_of text n under w.guard >>= λ guard. Ok (record { act = act; guard = guard })) a.act a
      (deed_found is.act) (ap (λ x. x >>= λ guard. Ok (record { act = a.act; guard = guard })) (guard_found w.guard a.guard is.guard))

  -- ---- the actions of a kind, of which there are 32 at most

  each_action : (done : List PlainAction) (ws : List Action) (all : List PlainAction) → each (with_action text n under) done ws ≡ Ok all
      → (acts : List PlainAction) × (all ≡ done ++ acts) × Pairs (Finds (action_of text n under)) ws acts × (length done ≤ 32 → length all ≤ 32)
  unfolding each with_action
  each_action done [] all e =
      let same : done ≡ all = ok_same done all e in
      ([], sym same ∙ sym (append-nil done), tt, λ few. subst (λ (l : List PlainAction). length l ≤ 32) same few)
  each_action done (w ∷ ws) all e =
      let one = bind_ok (room Actions 32 (length done) >> (action_of text n under w >>= λ a. Ok (done ++ a ∷ []))) (λ t. each
      (with_action text n under) t ws) all e in
      let two = passed (nat_lt (length done) 32) (f.OverLimit Actions 33) (action_of text n under w >>= λ a. Ok (done ++ a ∷ [])) one.0 one.1 in
      let three = bind_ok (action_of text n under w) (λ a. Ok (done ++ a ∷ [])) one.0 two.1 in
      let grown : one.0 ≡ done ++ three.0 ∷ [] = sym (ok_same (done ++ three.0 ∷ []) one.0 three.2) in
      let more = each_action one.0 ws all one.2 in
      let longer = ap length grown ∙ length_push done three.0 in
      let below = true_lt (length done) 32 two.0 in (
        three.0 ∷ more.0,
        more.1 ∙ ap (λ d. d ++ more.0) grown ∙ append_assoc done (three.0 ∷ []) more.0,
        (three.1, more.2),
        λ few. more.3 (omega (arith, longer, below)),
      )

  each_passes : (done : List PlainAction) (ws : List Action) (acts : List PlainAction) → Pairs (Finds (action_of text n under)) ws acts
      → length done + length acts ≤ 32 → each (with_action text n under) done ws ≡ Ok (done ++ acts)
  unfolding each with_action
  each_passes done [] [] h few = ok_ok done (done ++ []) (sym (append-nil done))
  each_passes done [] (a ∷ acts) h few = absurd h
  each_passes done (w ∷ ws) [] h few = absurd h
  each_passes done (w ∷ ws) (a ∷ acts) h few =
      let longer = length_push done a in
      binds (room Actions 32 (length done) >> (action_of text n under w >>= λ a. Ok (done ++ a ∷ []))) (λ t. each (with_action text n under) t ws)
      (done ++ a ∷ [])
      (done ++ a ∷ acts)
      (passes (nat_lt (length done) 32) (f.OverLimit Actions 33) (action_of text n under w >>= λ a. Ok (done ++ a ∷ [])) (done ++ a ∷ [])
      (lt_true (length done) 32 (omega arith)) (ap (λ x. x >>= λ a. Ok (done ++ a ∷ [])) h.0))
      (each_passes (done ++ a ∷ []) ws acts h.1 (omega (arith, longer)) ∙ ok_ok ((done ++ a ∷ []) ++ acts) (done ++ a ∷ acts) (append_assoc done (a ∷ []) acts))

  pub actions_mean : (ws : List Action) (acts : List PlainAction) → resolved_actions text n under ws ≡ Ok acts
      → Pairs (MeansAction text families (under_head n under)) ws acts × (length acts ≤ 32)
  actions_mean ws acts e =
      let got = each_action [] ws acts e in (
        subst (λ (l : List PlainAction). Pairs (MeansAction text families (under_head n under)) ws l) (sym got.1)
            (pairs_weaker (Finds (action_of text n under)) (MeansAction text families (under_head n under)) action_means ws got.0 got.2),
        got.3 (omega arith),
      )

  pub actions_found : (ws : List Action) (acts : List PlainAction) → Pairs (MeansAction text families (under_head n under)) ws acts → length acts ≤ 32
      → resolved_actions text n under ws ≡ Ok acts
  actions_found ws acts is few =
      each_passes [] ws acts (pairs_weaker (MeansAction text families (under_head n under)) (Finds (action_of text n under)) action_found ws acts is)
      (omega arith)
