use Rattle.std.proofs.Common.{◌≡◌, ◌≤◌, ◌<◌, ◌-◌, ◌++◌, true, length, get_or, ap, ◌∙◌, rules, arith}
use Rattle.std.specs.BTreeMap.{values}
use Rattle.std.specs.Prelude.{nat_le}
use Rattle.std.proofs.lemmas.Grind.{common_steps}
use Rattle.flu_lemmas.specs.Late.{rises_from}
use Rattle.flu_model.specs.declared.events.Item.TheVariants.{End}
use Rattle.flu_streams.specs.Lists.{item_time}
use Rattle.flu_streams.specs.LoopHeld.{count_to}
use Rattle.flu_streams.proofs.Keyed.{count_front, count_behind}
use Rattle.flu_streams.proofs.timed.TimedItems.has_until.Goals as goal

pub returns-then-count-len : goal.returns-then-count-len
returns-then-count-len c =
    let early = c.self.inside.early.items in
    let late = values c.self.inside.late in
    let up : rises_from item_time 0 (early ++ late) ≡ true = ap (rises_from item_time 0) c.self.view_is ∙ c.requires.rising in
    let few : c.args.count ≤ length early = grind (arith, common_steps) in
    let time : c.time_of.result ≡ item_time (get_or early (c.args.count - 1) End) = grind (arith, common_steps) in
    ap (λ t. nat_le t c.args.time) time ∙ count_front c.args.time c.args.count early late up c.requires.some few
    ∙ ap (λ l. nat_le c.args.count (count_to c.args.time l)) c.self.view_is

pub returns : goal.returns
returns c =
    let early = c.self.inside.early.items in
    let late = values c.self.inside.late in
    let up : rises_from item_time 0 (early ++ late) ≡ true = ap (rises_from item_time 0) c.self.view_is ∙ c.requires.rising in
    let size : c.len-2.result ≡ length early = search rules in
    let more : length early < c.args.count = grind (arith, common_steps) in
    ap (λ n. nat_le (c.args.count - n) c.count_late.result) size ∙ ap (nat_le (c.args.count - length early)) c.count_late.ensures
    ∙ count_behind c.args.time c.args.count early late up more ∙ ap (λ l. nat_le c.args.count (count_to c.args.time l)) c.self.view_is
