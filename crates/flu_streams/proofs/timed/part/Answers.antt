use Rattle.std.proofs.Common.{◌≡◌, ◌≤◌, ◌-◌, ◌++◌, [], ◌∷◌, true, length, slice_index_or, ap, ◌∙◌, arith}
use Rattle.std.specs.BTreeMap.{insert_entry, values}
use Rattle.std.specs.Ordering.{nat_cmp}
use Rattle.std.proofs.lemmas.Grind.{common_steps}
use Rattle.flu_lemmas.specs.Late.{rises_from}
use Rattle.flu_model.specs.declared.events.Item.TheVariants.{End}
use Rattle.flu_streams.specs.Lists.{item_time}
use Rattle.flu_streams.proofs.Keyed.{moved, front_rises}
use Rattle.flu_streams.proofs.Placing.{up_to_last}
use Rattle.flu_streams.proofs.timed.part.Goals as goal

pub returns-then-own-time-clause-parted : goal.returns-then-own-time-clause-parted
returns-then-own-time-clause-parted c = λ i lt.
    let early = c.loop-early.early.items in
    let late = values c.loop-early.late in
    let up : rises_from item_time 0 (early ++ late) ≡ true = ap (rises_from item_time 0) c.loop-early.invariant.same ∙ c.requires.rising in
    let last : item_time (slice_index_or early (length early - 1) End) ≤ c.args.time = grind (arith, common_steps) in
    let k = up_to_last early (length early) i (front_rises early late up) (omega arith) lt in
    omega (arith, k, last)

pub loop-early-preserved : goal.loop-early-preserved
loop-early-preserved c =
    let early = c.loop-early.early.items in
    let late = c.loop-early.late in
    let item = c.index.result.now in
    let up : rises_from item_time 0 (early ++ values late) ≡ true = ap (rises_from item_time 0) c.loop-early.invariant.same ∙ c.requires.rising in
    let front : early ≡ c.pop.new.self.items ++ (item ∷ []) = grind (arith, common_steps) in
    let put : c.insert.new.self.entries ≡ insert_entry nat_cmp late.entries (item_time item) item =
    c.in_ok-insert.ensures.entries ∙ ap (λ t. insert_entry nat_cmp late.entries t item) c.time_of-own.ensures in
    let step = moved early c.pop.new.self.items item late.entries c.insert.new.self.entries up c.loop-early.invariant.keyed front put in
    record { same = step.0 ∙ c.loop-early.invariant.same; keyed = step.1 }
