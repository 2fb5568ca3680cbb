use Rattle.std.proofs.Common.{◌≡◌, ◌++◌, [], ◌∷◌, eqb, ap, ◌∙◌, arith}
use Rattle.std.specs.BTreeMap.{insert_entry, values}
use Rattle.std.specs.List.{list_any}
use Rattle.std.specs.Ordering.{nat_cmp}
use Rattle.std.proofs.lemmas.Grind.{common_steps}
use Rattle.flu_lemmas.specs.Late.{put_late}
use Rattle.flu_streams.specs.Lists.{item_time, times_in}
use Rattle.flu_streams.proofs.Keyed.{below_all, pushed_last, pushed_late}
use Rattle.flu_streams.proofs.timed.TimedItems.put.Goals as goal

pub invariant_of-self-in_ok-insert : goal.invariant_of-self-in_ok-insert
invariant_of-self-in_ok-insert c =
    let item = c.args.item in
    let early = c.part.new.early.items in
    let late = c.part.new.late in
    let whole : early ++ values late ≡ c.args.self.now = c.part.ensures.same ∙ c.self.view_is in
    let apart = ap (λ l. list_any (λ t. eqb t (item_time item)) (times_in l)) whole ∙ c.requires.apart in
    let parted = rw c.time_of-time.ensures at c.in_ok-part.ensures.parted in
    let below = below_all early (values late) (item_time item) parted apart in
    let put : c.insert.new.self.entries ≡ insert_entry nat_cmp late.entries (item_time item) item =
    c.in_ok-insert.ensures.entries ∙ ap (λ t. insert_entry nat_cmp late.entries t item) c.time_of-time.ensures in
    rw put (pushed_late item early late.entries below c.part.ensures.keyed apart).1

pub returns-in_ok-insert-clause-put : goal.returns-in_ok-insert-clause-put
returns-in_ok-insert-clause-put c =
    let item = c.args.item in
    let early = c.part.new.early.items in
    let late = c.part.new.late in
    let whole : early ++ values late ≡ c.args.self.now = c.part.ensures.same ∙ c.self.view_is in
    let apart = ap (λ l. list_any (λ t. eqb t (item_time item)) (times_in l)) whole ∙ c.requires.apart in
    let parted = rw c.time_of-time.ensures at c.in_ok-part.ensures.parted in
    let below = below_all early (values late) (item_time item) parted apart in
    let put : c.insert.new.self.entries ≡ insert_entry nat_cmp late.entries (item_time item) item =
    c.in_ok-insert.ensures.entries ∙ ap (λ t. insert_entry nat_cmp late.entries t item) c.time_of-time.ensures in
    rw put ((pushed_late item early late.entries below c.part.ensures.keyed apart).0 ∙ ap (put_late item_time item) whole)

pub returns-in_ok-push-clause-put : goal.returns-in_ok-push-clause-put
returns-in_ok-push-clause-put c =
    let item = c.args.item in
    let early = c.part.new.early.items in
    let late = c.part.new.late in
    let whole : early ++ values late ≡ c.args.self.now = c.part.ensures.same ∙ c.self.view_is in
    let apart = ap (λ l. list_any (λ t. eqb t (item_time item)) (times_in l)) whole ∙ c.requires.apart in
    let parted = rw c.time_of-time.ensures at c.in_ok-part.ensures.parted in
    let below = below_all early (values late) (item_time item) parted apart in
    let none : late.entries ≡ [] = grind (arith, common_steps) in
    let now : c.push.new.self.items ≡ early ++ (item ∷ []) = c.in_ok-push.ensures.items in
    ap (λ l. l ++ values late) now ∙ pushed_last item early late.entries below none ∙ ap (put_late item_time item) whole
