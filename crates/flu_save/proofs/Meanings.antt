-- Bytes that have a fault are no checkpoint, and a checkpoint has one border and one state.
use Rattle.std.proofs.Common.{◌≡◌, inl, inr, Bool, true, false, cond, Some, None, List, [], ◌∷◌, map, length, refl, sym, ap, subst, arith, ◌∙◌}
use Rattle.std.specs.Prelude.{slice_get, ◌||◌}
use Rattle.std.specs.Fmt.{signed_decimal}
use Rattle.std.specs.List.{list_all, list_any, range_with_len}
use Rattle.serde_json.specs.View.{items_of}
use Rattle.flu_lemmas.proofs.Tests.{and_left, and_right}
use Rattle.flu_model.specs.declared.events.Cell.{Cell}
use Rattle.flu_model.specs.declared.events.Worth.{Worth}
use Rattle.flu_model.specs.declared.events.Worth.TheVariants.{Sum, Max, Last}
use Rattle.flu_model.specs.declared.jobs.Family.{Family}
use Rattle.flu_model.specs.declared.jobs.Program.{Program}
use Rattle.flu_model.specs.declared.jobs.Sort.{Sort}
use Rattle.flu_model.specs.declared.jobs.Sort.TheVariants.{Sum as SumSort, Max as MaxSort, Last as LastSort}
use Rattle.flu_model.specs.Contents.{Contents, is_same_cell}
use Rattle.flu_model.specs.Erasure.{job_of}
use Rattle.flu_model.specs.Sorts.{IsWorthOf}
use Rattle.flu_model.specs.Templates.{family_name}
use Rattle.flu_parse.specs.Printing.{normal_form}
use Rattle.flu_save.specs.declared.fault.SaveFault.TheVariants.{OverLimit, NotJson, WrongForm, OtherJob, NoMemory}
use Rattle.flu_save.specs.Checkpoint.{number_held, entry_of, cells_held, entries_of, HasWordWidth, IsSavable}
use Rattle.flu_save.specs.Laws.{LawOfFaults, LawOfOneMeaning}
use Rattle.flu_save.proofs.Families.{saves, found_at, of_some}
use Rattle.flu_save.proofs.Members.{checkpoint_form, checkpoint_parts, same_border, same_items, same_job, same_lists, save_value}
use Rattle.flu_save.proofs.Numbers.{signed_decimal_injective_wide}
use Rattle.flu_save.proofs.States.{among, is_held, all_held, all_filled, from_some, same_cell}

-- ---- faults
pub law_of_faults : LawOfFaults
law_of_faults p bytes (OverLimit count) fault other t s save = omega (arith, fault.0, save.short)
law_of_faults p bytes NotJson fault other t s save = fault.1 save.value save.json
law_of_faults p bytes WrongForm (short, (d, json, inl none)) other t s save = none (checkpoint_form p t s d (save_value p t s bytes d save json))
law_of_faults p bytes WrongForm (short, (d, json, inr wrong)) other t s save = wrong.none t s (save_value p t s bytes d save json)
law_of_faults p bytes OtherJob (short, (d, json, has)) other t s save =
    let parts = checkpoint_parts p t s d (save_value p t s bytes d save json) in
    has.other (same_job d has.parts.border t has.parts.entries (items_of (entries_of p.families s)) has.job (normal_form (job_of p)) has.parts.parts parts)
law_of_faults p bytes NoMemory fault other t s save = other refl

-- ---- what a cell holds, by the text of its number
same_number : (sort : Sort) (v w : Worth) → IsWorthOf sort v → IsWorthOf sort w → HasWordWidth (Some v) → HasWordWidth (Some w)
    → signed_decimal (number_held (Some v)) ≡ signed_decimal (number_held (Some w)) → v ≡ w
same_number SumSort (Sum m) (Sum n) a b c d e = ap Sum (signed_decimal_injective_wide m n (omega (arith, a.1.sfits)) (omega (arith, b.1.sfits)) e)
same_number SumSort (Sum m) (Max v) a b c d e = absurd b
same_number SumSort (Sum m) (Last v) a b c d e = absurd b
same_number SumSort (Max v) w a b c d e = absurd a
same_number SumSort (Last v) w a b c d e = absurd a
same_number MaxSort (Max m) (Max n) a b c d e = ap Max (signed_decimal_injective_wide m n (omega (arith, c.sfits)) (omega (arith, d.sfits)) e)
same_number MaxSort (Max m) (Sum v) a b c d e = absurd b
same_number MaxSort (Max m) (Last v) a b c d e = absurd b
same_number MaxSort (Sum v) w a b c d e = absurd a
same_number MaxSort (Last v) w a b c d e = absurd a
same_number LastSort (Last m) (Last n) a b c d e = ap Last (signed_decimal_injective_wide m n (omega (arith, c.sfits)) (omega (arith, d.sfits)) e)
same_number LastSort (Last m) (Sum v) a b c d e = absurd b
same_number LastSort (Last m) (Max v) a b c d e = absurd b
same_number LastSort (Sum v) w a b c d e = absurd a
same_number LastSort (Max v) w a b c d e = absurd a

-- ---- cells of one entry
module _ (p : Program) (s r : Contents) (first : IsSavable p.families s) (second : IsSavable p.families r) where
  one_entry : (c d : Cell) (v w : Worth) → s c ≡ Some v → r d ≡ Some w → entry_of p.families s c ≡ entry_of p.families r d → (c ≡ d) × (v ≡ w)
  one_entry c d v w holds holds' same =
      let here = saves p s c v first holds in
      let there = saves p r d w second holds' in
      let name : family_name (slice_get p.families c.family) ≡ family_name (slice_get p.families d.family) = cc in
      let key : c.key ≡ d.key = cc in
      let text : signed_decimal (number_held (s c)) ≡ signed_decimal (number_held (r d)) = cc in
      let family : c.family ≡ d.family = of_some c.family d.family
      (sym (found_at p c v here p.families (family_name (slice_get p.families c.family)) refl refl)
      ∙ found_at p d w there p.families (family_name (slice_get p.families c.family)) refl name) in
      let one : here.family ≡ there.family = of_some here.family there.family (sym here.there ∙ ap (slice_get p.families) family ∙ there.there) in (
        (λ i. record { family = family i; key = key i }),
        same_number there.family.sort v w (subst (λ (f : Family). IsWorthOf f.sort v) one here.sort) there.sort here.width there.width
            (ap (λ o. signed_decimal (number_held o)) (sym holds) ∙ text ∙ ap (λ o. signed_decimal (number_held o)) holds'),
      )

  one_more : (c : Cell) (cs ds : List Cell) (v : Worth) → s c ≡ Some v → r c ≡ Some v → among s cs ≡ among r ds → among s (c ∷ cs) ≡ among r (c ∷ ds)
  one_more c cs ds v here there more = λ i e. at e i
    where
      at : (e : Cell) → among s (c ∷ cs) e ≡ among r (c ∷ ds) e
      at e = by_test (is_same_cell e c) refl
        where
          by_test : (b : Bool) → is_same_cell e c ≡ b → cond (b || list_any (is_same_cell e) cs) (s e) None ≡ cond (b || list_any (is_same_cell e) ds)
              (r e) None
          by_test true same = ap s (same_cell e c same) ∙ here ∙ sym there ∙ sym (ap r (same_cell e c same))
          by_test false same = ap (λ f. f e) more

  -- so the states hold the same in the cells of the same entries
  one_list : (cs ds : List Cell) → list_all (is_held s) cs ≡ true → list_all (is_held r) ds ≡ true
      → map (entry_of p.families s) cs ≡ map (entry_of p.families r) ds
      → among s cs ≡ among r ds
  one_list [] [] held held' same = refl
  one_list [] (d ∷ ds) held held' same = absurd cc
  one_list (c ∷ cs) [] held held' same = absurd cc
  one_list (c ∷ cs) (d ∷ ds) held held' same =
      let entries : entry_of p.families s c ≡ entry_of p.families r d = cc in
      let others : map (entry_of p.families s) cs ≡ map (entry_of p.families r) ds = cc in
      let v = from_some (s c) (and_left (is_held s c) (list_all (is_held s) cs) held) in
      let w = from_some (r d) (and_left (is_held r d) (list_all (is_held r) ds) held') in
      let one = one_entry c d v.0 w.0 v.1 w.1 entries in
      let more = one_list cs ds (and_right (is_held s c) (list_all (is_held s) cs) held) (and_right (is_held r d) (list_all (is_held r) ds) held') others in
      one_more c cs ds v.0 v.1 (ap r one.0 ∙ w.1 ∙ ap Some (sym one.1)) more ∙ ap (λ x. among r (x ∷ ds)) one.0

  one_state : entries_of p.families s ≡ entries_of p.families r → s ≡ r
  one_state same =
      let count = range_with_len 0 (length p.families) in
      sym (all_filled p.families s first)
      ∙ one_list (cells_held p.families s) (cells_held p.families r) (all_held s count) (all_held r count) same
      ∙ all_filled p.families r second

pub law_of_one_meaning : LawOfOneMeaning
law_of_one_meaning p bytes t u s r first second =
    let is = first.checkpoint in
    let also = save_value p u r bytes first.value second first.json in
    let parts = checkpoint_parts p t s first.value is in
    let parts' = checkpoint_parts p u r first.value also in (
      same_border first.value t u (items_of (entries_of p.families s)) (items_of (entries_of p.families r)) (normal_form (job_of p))
          (normal_form (job_of p)) parts parts',
      one_state p s r is.state also.state (same_lists (entries_of p.families s) (entries_of p.families r)
          (same_items first.value t u (items_of (entries_of p.families s)) (items_of (entries_of p.families r)) (normal_form (job_of p))
          (normal_form (job_of p)) parts parts')),
    )
