-- Actions that are read keep the rules under their kind.
use Rattle.std.proofs.Common.{◌≡◌, ℕ, ◌≤◌, Bool, true, List, [], ◌∷◌, ◌++◌, length, Option, Some, None, Ok, inl, inr, refl, subst, arith}
use Rattle.std.specs.Prelude.{◌&&◌, slice_get}
use Rattle.std.specs.List.{list_all, AllByRecursion}
use Rattle.std.proofs.lemmas.List.{length-append}
use Rattle.flu_lemmas.proofs.Elements.{all_front, all_back, list_all_push}
use Rattle.flu_lemmas.proofs.Tests.{both}
use Rattle.flu_lemmas.proofs.Booleans.{three_left, three_middle}
use Rattle.flu_lemmas.proofs.Prefixes.{chosen}
use Rattle.flu_lemmas.proofs.Loops.{bind_ok, each-keeps}
use Rattle.flu_model.specs.declared.limits.What.TheVariants.{Actions}
use Rattle.flu_model.specs.declared.jobs.Family.{Family}
use Rattle.flu_model.specs.declared.jobs.CellRef.{CellRef}
use Rattle.flu_model.specs.Rules.{is_keyed, ref_fits, ref_has_sort, flush_template_fits}
use Rattle.flu_model.specs.Erasure.{Term, PlainAct, Clearing, ClearingFamily, Emitting, Flushing, PlainAction}
use Rattle.flu_text.specs.declared.words.Token.{Token}
use Rattle.flu_syntax.specs.declared.tokens.Verb.{Verb}
use Rattle.flu_syntax.specs.declared.tokens.Verb.TheVariants as verb
use Rattle.flu_syntax.specs.Tree.{Tree, Writes, Clears, Emits, Flushes}
use Rattle.flu_syntax.specs.Tree.{Deed as WrittenDeed, Action as WrittenDo}
use Rattle.flu_text.specs.Signs.{Stands}
use Rattle.flu_syntax.specs.Words.{cell_words, tree_words, deed_words, guard_words, action_words}
use Rattle.flu_layout.specs.Spelling.{name_of}
use Rattle.flu_layout.specs.Stands.{AreRead}
use Rattle.flu_parse.specs.declared.faults.JobFault.TheVariants as f
use Rattle.flu_parse.specs.declared.names.KindHead.{KindHead}
use Rattle.flu_parse.specs.Faults.{Found, ◌>>=◌}
use Rattle.flu_parse.specs.Naming.{Naming, is_version_3, look_up, known}
use Rattle.flu_parse.specs.Cells.{resolved_cell}
use Rattle.flu_parse.specs.Terms.{is_alone, expression_of}
use Rattle.flu_parse.specs.Templates.{template_of}
use Rattle.flu_parse.specs.Actions.{sort_for, act_with, clears_whole, resolved_act, guard_of, action_of, with_action, resolved_actions}
use Rattle.flu_parse.proofs.Looks.{passed, had_room}
use Rattle.flu_parse.proofs.Kept.Plain.{is_good_term, plain_act_fits, plain_guard_fits, plain_action_fits}
use Rattle.flu_parse.proofs.Kept.Versions.{at_suits, term_suits, act_suits, guard_suits, action_suits}
use Rattle.flu_parse.proofs.Kept.Names.{Numbered, family_number}
use Rattle.flu_parse.proofs.Kept.Terms.{was_known, families_of, keyed_kept, cell_kept, cell_suits, cell_has_sort, expression_kept}
use Rattle.flu_parse.proofs.Kept.Templates.{emit_kept, emit_suits, flush_kept, flush_suits}

writing_fits : (families : List Family) (keyed has_value : Bool) (v : Verb) (cell : CellRef) (term : Term)
    → ref_fits families keyed cell ≡ true → ref_has_sort families (sort_for v) cell ≡ true → is_good_term families keyed has_value term ≡ true
    → plain_act_fits families keyed has_value (act_with v cell term) ≡ true
writing_fits families keyed has_value v cell term fits sort good = by v (all_three (ref_has_sort families (sort_for v) cell) sort)
  where
    all_three : (has_sort : Bool) → has_sort ≡ true → (ref_fits families keyed cell && has_sort && is_good_term families keyed has_value term) ≡ true
    all_three has_sort e =
        both (ref_fits families keyed cell && has_sort) (is_good_term families keyed has_value term) (both (ref_fits families keyed cell) has_sort fits e) good

    by : (v : Verb) → (ref_fits families keyed cell && ref_has_sort families (sort_for v) cell && is_good_term families keyed has_value term) ≡ true
        → plain_act_fits families keyed has_value (act_with v cell term) ≡ true
    by verb.Add h = h
    by verb.Raise h = h
    by verb.Set h = h

writing_suits : (h newer : Bool) (v : Verb) (cell : CellRef) (term : Term) → at_suits h cell.at ≡ true → term_suits h newer term ≡ true
    → act_suits h newer (act_with v cell term) ≡ true
writing_suits h newer v cell term at amount = by v (both (at_suits h cell.at) (term_suits h newer term) at amount)
  where
    by : (v : Verb) → (at_suits h cell.at && term_suits h newer term) ≡ true → act_suits h newer (act_with v cell term) ≡ true
    by verb.Add e = e
    by verb.Raise e = e
    by verb.Set e = e

module _ (bytes : List ℕ) (ts : List Token) (read : AreRead bytes ts) (n : Naming) (numbered : Numbered family_number 0 n.families) (under : KindHead) where
  abbrev families : List Family
  families = families_of bytes n numbered

  abbrev ActKeeps : PlainAct → Type 0
  ActKeeps act = (plain_act_fits families under.keyed under.has_value act ≡ true) × (act_suits under.has_item (is_version_3 n) act ≡ true)

  act_kept : (d : WrittenDeed) (act : PlainAct) → AllByRecursion (Stands ts) (deed_words d) → resolved_act bytes n under d ≡ Ok act → ActKeeps act
  unfolding resolved_act
  act_kept (Writes v r e) act words found =
      let one = bind_ok (resolved_cell bytes n under (Some (sort_for v)) r) _ act found in
      let two = bind_ok (expression_of bytes n under e) (λ term. Ok (act_with v one.0 term)) act one.2 in
      let same : act_with v one.0 two.0 ≡ act = cc in
      let amount = expression_kept bytes n numbered under ts read e two.0 (all_back (Stands ts) (cell_words r) (tree_words e) words) two.1 in
      subst ActKeeps same (
        writing_fits families under.keyed under.has_value v one.0 two.0 (cell_kept bytes n numbered under (Some (sort_for v)) r one.0 one.1)
            (cell_has_sort bytes n numbered under (sort_for v) r one.0 one.1) amount.0,
        writing_suits under.has_item (is_version_3 n) v one.0 two.0 (cell_suits bytes n numbered under (Some (sort_for v)) r one.0 one.1) amount.1,
      )
  act_kept (Clears r) act words found =
      let one = bind_ok (known r.family.from (look_up (name_of bytes r.family) n.families)) _ act found in
      let cleared : Found PlainAct = resolved_cell bytes n under None r >>= λ cell. Ok (Clearing cell) in
      elim (chosen (clears_whole n one.0 r.key) (Ok (ClearingFamily one.0.number)) cleared (Ok act) one.2) [
        | inl g ↦
            let same : ClearingFamily one.0.number ≡ act = cc in
            let is = was_known r.family.from (look_up (name_of bytes r.family) n.families) one.0 one.1 in
            subst ActKeeps same (
              keyed_kept bytes n numbered (name_of bytes r.family) one.0 is (three_middle (is_version_3 n) one.0.keyed (is_alone r.key) g.0),
              three_left (is_version_3 n) one.0.keyed (is_alone r.key) g.0,
            )
        | inr g ↦
            let two = bind_ok (resolved_cell bytes n under None r) (λ cell. Ok (Clearing cell)) act g.1 in
            let same : Clearing two.0 ≡ act = cc in
            subst ActKeeps same (cell_kept bytes n numbered under None r two.0 two.1, cell_suits bytes n numbered under None r two.0 two.1)
      ]
  act_kept (Emits template) act words found =
      let one = bind_ok (template_of bytes n under None template) (λ pieces. Ok (Emitting pieces)) act found in
      let same : Emitting one.0 ≡ act = cc in
      let within = read.texts template words.0 in
      subst ActKeeps same (
        emit_kept bytes read.utf8 n numbered under template one.0 within one.1,
        emit_suits bytes read.utf8 n numbered under template one.0 within one.1,
      )
  act_kept (Flushes family template) act words found =
      let one = bind_ok (known family.from (look_up (name_of bytes family) n.families)) _ act found in
      let two = passed one.0.keyed (f.WrongShape family.from) _ act one.2 in
      let three = bind_ok (template_of bytes n under (Some one.0.number) template) (λ pieces. Ok (Flushing one.0.number pieces)) act two.1 in
      let same : Flushing one.0.number three.0 ≡ act = cc in
      let is = was_known family.from (look_up (name_of bytes family) n.families) one.0 one.1 in
      let within = read.texts template words.1.0 in
      subst ActKeeps same (
        both (is_keyed (slice_get families one.0.number)) (flush_template_fits families one.0.number under.has_value three.0)
            (keyed_kept bytes n numbered (name_of bytes family) one.0 is two.0)
            (flush_kept bytes read.utf8 n numbered under one.0.number template three.0 within three.1),
        flush_suits bytes read.utf8 n numbered under one.0.number template three.0 within three.1,
      )

  abbrev GuardKeeps : Option Term → Type 0
  GuardKeeps guard = (plain_guard_fits families under.keyed under.has_value guard ≡ true) × (guard_suits under.has_item (is_version_3 n) guard ≡ true)

  guard_kept : (g : Option Tree) (guard : Option Term) → AllByRecursion (Stands ts) (guard_words g) → guard_of bytes n under g ≡ Ok guard → GuardKeeps guard
  unfolding guard_of
  guard_kept None guard words found = let same : None ≡ guard = cc in subst GuardKeeps same (refl, refl)
  guard_kept (Some e) guard words found =
      let one = bind_ok (expression_of bytes n under e) (λ t. Ok (Some t)) guard found in
      let same : Some one.0 ≡ guard = cc in
      subst GuardKeeps same (expression_kept bytes n numbered under ts read e one.0 words one.1)

  abbrev ActionKeeps : PlainAction → Type 0
  ActionKeeps action =
      (plain_action_fits families under.keyed under.has_value action ≡ true) × (action_suits under.has_item (is_version_3 n) action ≡ true)

  action_kept : (a : WrittenDo) (action : PlainAction) → AllByRecursion (Stands ts) (action_words a) → action_of bytes n under a ≡ Ok action
      → ActionKeeps action
  unfolding action_of
  action_kept a action words found =
      let one = bind_ok (resolved_act bytes n under a.deed) _ action found in
      let two = bind_ok (guard_of bytes n under a.guard) (λ guard. Ok (record { act = one.0; guard = guard })) action one.2 in
      let same : record { act = one.0; guard = two.0 } ≡ action = cc in
      let act = act_kept a.deed one.0 (all_front (Stands ts) (deed_words a.deed) (guard_words a.guard) words) one.1 in
      let guard = guard_kept a.guard two.0 (all_back (Stands ts) (deed_words a.deed) (guard_words a.guard) words) two.1 in
      subst ActionKeeps same (
        both (plain_act_fits families under.keyed under.has_value one.0) (plain_guard_fits families under.keyed under.has_value two.0) act.0 guard.0,
        both (act_suits under.has_item (is_version_3 n) one.0) (guard_suits under.has_item (is_version_3 n) two.0) act.1 guard.1,
      )

  abbrev ActionsKeep : List PlainAction → Type 0
  ActionsKeep done = (length done ≤ 32) × (list_all (plain_action_fits families under.keyed under.has_value) done ≡ true)
      × (list_all (action_suits under.has_item (is_version_3 n)) done ≡ true)

  one_more : (done : List PlainAction) (a : WrittenDo) (next : List PlainAction) → ActionsKeep done → AllByRecursion (Stands ts) (action_words a)
      → with_action bytes n under done a ≡ Ok next → ActionsKeep next
  unfolding with_action
  one_more done a next keep words found =
      let fits = plain_action_fits families under.keyed under.has_value in
      let one = had_room Actions 32 (length done) _ next found in
      let two = bind_ok (action_of bytes n under a) (λ action. Ok (done ++ action ∷ [])) next one.1 in
      let same : done ++ two.0 ∷ [] ≡ next = cc in
      let kept = action_kept a two.0 words two.1 in
      subst ActionsKeep same (
        omega (arith, one.0, length-append done (two.0 ∷ [])),
        list_all_push fits done two.0 keep.1 kept.0,
        list_all_push (action_suits under.has_item (is_version_3 n)) done two.0 keep.2 kept.1,
      )

  pub actions_kept : (actions : List WrittenDo) (done : List PlainAction) → AllByRecursion (λ a. AllByRecursion (Stands ts) (action_words a)) actions
      → resolved_actions bytes n under actions ≡ Ok done
      → (length done ≤ 32) × (list_all (plain_action_fits families under.keyed under.has_value) done ≡ true)
      × (list_all (action_suits under.has_item (is_version_3 n)) done ≡ true)
  actions_kept actions done words found =
      each-keeps (with_action bytes n under) ActionsKeep (λ a. AllByRecursion (Stands ts) (action_words a)) one_more [] actions done
      (omega arith, refl, refl) words found
