use Rattle.std.proofs.Common.{◌≡◌, ◌≤◌, ◌<◌, ◌++◌, ℕ, true, false, length, drop, sym, ap, ◌∙◌, rules, arith}
use Rattle.std.specs.BTreeMap.{values}
use Rattle.std.specs.List.{filter}
use Rattle.std.specs.Prelude.{nat_lt}
use Rattle.std.proofs.lemmas.Bool.Decides.{nat_tests}
use Rattle.std.proofs.lemmas.List.Elements.{filter-append}
use Rattle.flu_lemmas.specs.Late.{rises_from}
use Rattle.flu_model.specs.declared.events.Item.{Item}
use Rattle.flu_model.specs.declared.events.Item.TheVariants.{End}
use Rattle.flu_streams.specs.Lists.{item_time}
use Rattle.flu_streams.proofs.Counting.{drop_failing}
use Rattle.flu_streams.proofs.Keyed.{front_rises}
use Rattle.flu_streams.proofs.timed.TimedItems.drop_until.Goals as goal

is_late : (a b : ℕ) → a < b → nat_lt a b ≡ true
is_late a b lt = grind (arith, nat_tests)

not_late : (a b : ℕ) → b ≤ a → nat_lt a b ≡ false
not_late a b le = grind (arith, nat_tests)

pub count_until-count-requires : goal.count_until-count-requires
count_until-count-requires c =
    let early = c.self.inside.early.items in
    let late = values c.self.inside.late in
    ap (rises_from item_time 0) c.as_slice.ensures.value ∙ front_rises early late (ap (rises_from item_time 0) c.self.view_is ∙ c.requires.rising)

pub returns : goal.returns
returns c =
    let early = c.self.inside.early.items in
    let late = values c.self.inside.late in
    let n = c.count_until-count.result in
    let t = c.args.time in
    let same = c.as_slice.ensures.value in
    let few : n ≤ length early = rw same at c.count_until-count.ensures.within in
    let before = rw same at c.count_until-count.ensures.earlier in
    let after = rw same at c.count_until-count.ensures.later in
    let left : drop n early ≡ filter (λ (item : Item). nat_lt t (item_time item)) early =
    drop_failing (λ (item : Item). nat_lt t (item_time item)) End early n few (λ i lt. not_late t _ (before i lt)) (λ i le lt. is_late t _ (after i le lt)) in
    let now : c.drop-drain.new.self.0.items ≡ drop n early = search rules in
    ap (λ l. l ++ values c.drop_late.new.late) (now ∙ left) ∙ ap (λ l. filter (λ (item : Item). nat_lt t (item_time item)) early ++ l) c.drop_late.ensures.left
    ∙ sym (filter-append (λ (item : Item). nat_lt t (item_time item)) early late)
    ∙ ap (filter (λ (item : Item). nat_lt t (item_time item))) c.self.view_is
