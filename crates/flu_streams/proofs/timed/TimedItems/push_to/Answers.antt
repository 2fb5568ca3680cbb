use Rattle.std.proofs.Common.{◌≡◌, ◌≤◌, ◌<◌, ◌+◌, ◌++◌, ℕ, [], ◌∷◌, true, false, length, take, sym, ap, ◌∙◌, append_assoc, rules, arith}
use Rattle.std.specs.BTreeMap.{values}
use Rattle.std.specs.List.{filter_map}
use Rattle.std.specs.Prelude.{nat_le}
use Rattle.std.proofs.lemmas.Bool.Decides.{nat_tests}
use Rattle.std.proofs.lemmas.Grind.{common_steps}
use Rattle.std.proofs.lemmas.List.{take_all}
use Rattle.flu_lemmas.specs.Late.{rises_from}
use Rattle.flu_model.specs.declared.events.Item.{Item}
use Rattle.flu_model.specs.declared.events.Item.TheVariants.{End}
use Rattle.flu_streams.specs.Lists.{items_of_list, item_for, item_time}
use Rattle.flu_streams.specs.LoopHeld.{taken_by}
use Rattle.flu_streams.proofs.Counting.{take_passing}
use Rattle.flu_streams.proofs.HeldRows.{kept_true}
use Rattle.flu_streams.proofs.Keyed.{front_rises, given_parts}
use Rattle.flu_streams.proofs.timed.TimedItems.push_to.Goals as goal
use Rattle.flu_streams.proofs.timed.TimedItems.push_to.Goals.{in-At, in-Closed}

is_early : (a b : ℕ) → a ≤ b → nat_le a b ≡ true
is_early a b le = grind (arith, nat_tests)

not_early : (a b : ℕ) → b < a → nat_le a b ≡ false
not_early a b lt = grind (arith, nat_tests)

pub count_until-count-requires : goal.count_until-count-requires
count_until-count-requires c =
    let early = c.self.inside.early.items in
    let late = values c.self.inside.late in
    ap (rises_from item_time 0) c.as_slice.ensures.value ∙ front_rises early late (ap (rises_from item_time 0) c.self.view_is ∙ c.requires.rising)

pub returns-clause-each : goal.returns-clause-each
returns-clause-each c = λ i lt.
    let early = c.self.inside.early.items in
    let late = values c.self.inside.late in
    let n = c.match-end.count in
    let f = item_for (c.args.first + i) in
    let old = items_of_list c.args.lists.now i in
    let front : take n early ≡ taken_by c.args.end early = elim c.match-end.branch [
      | in-At w ↦
          let same = w.as_slice.ensures.value in
          let few = rw same at w.count_until-count.ensures.within in
          let before = rw same at w.count_until-count.ensures.earlier in
          let after = rw same at w.count_until-count.ensures.later in
          rw (w.in-At.is, w.count-is) (take_passing (λ (item : Item). nat_le (item_time item) w.in-At.time) End early w.count_until-count.result few
          (λ j le. is_early _ _ (before j le)) (λ j le more. not_early _ _ (after j le more)))
      | in-Closed w ↦ let all : length early ≤ n = grind (arith, common_steps) in rw w.in-Closed.is (take_all n early all ∙ sym (kept_true early))
    ] in
    let given : c.deref.result.now ≡ early = search rules in
    let one : items_of_list c.push_items.new.lists i ≡ old ++ filter_map f (taken_by c.args.end early) =
    c.in_ok-push_items.ensures.each i lt ∙ ap (λ l. old ++ filter_map f l) (ap (take n) given ∙ front) in
    let two : items_of_list c.push_late.new.lists i ≡ items_of_list c.push_items.new.lists i ++ filter_map f (taken_by c.args.end late) =
    c.in_ok-push_late.ensures.each i (rw c.in_ok-push_items.ensures.len lt)
    ∙ ap (λ e. items_of_list c.push_items.new.lists i ++ filter_map f (taken_by e late))
    (elim c.match-end.branch [ in-At w ↦ w.end-is ∙ sym w.in-At.is | in-Closed w ↦ w.end-is ]) in
    let three : items_of_list c.push_each.new.lists i ≡ items_of_list c.push_late.new.lists i ++ End ∷ [] =
    c.in_ok-push_each.ensures.each i (rw (c.in_ok-push_late.ensures.len, c.in_ok-push_items.ensures.len) lt) in
    let whole : filter_map f (taken_by c.args.end c.args.self.now) ≡ filter_map f (taken_by c.args.end early) ++ filter_map f (taken_by c.args.end late) =
    ap (λ l. filter_map f (taken_by c.args.end l)) (sym c.self.view_is) ∙ given_parts (c.args.first + i) c.args.end early late in
    three ∙ ap (λ l. l ++ (End ∷ [])) (two ∙ ap (λ l. l ++ filter_map f (taken_by c.args.end late)) one
    ∙ append_assoc old (filter_map f (taken_by c.args.end early)) (filter_map f (taken_by c.args.end late)) ∙ ap (λ l. old ++ l) (sym whole))
