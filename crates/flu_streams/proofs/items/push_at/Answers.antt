use Rattle.std.proofs.Common.{[], ◌≡◌, ◌<◌, length, ◌∙◌, arith}
use Rattle.std.proofs.lemmas.Grind.{common_steps}
use Rattle.std.proofs.lemmas.List.{map-set, get_or-set_other, get_or-set_same, get_or-map}
use Rattle.flu_streams.specs.Lists.{lists_in, items_of_list}
use Rattle.flu_streams.proofs.items.push_at.Goals as goal

pub returns-in_err-push-clause-others : goal.returns-in_err-push-clause-others
returns-in_err-push-clause-others c = λ i ne. rw map-set (get_or-set_other (lists_in c.args.lists.now) c.args.place i c.push.new.self.items [] ne)

pub returns-clause-here : goal.returns-clause-here
returns-clause-here c =
    let few : c.args.place < length c.args.lists.now.items = grind (arith, common_steps) in
    let lt : c.args.place < length (lists_in c.args.lists.now) = grind (arith, common_steps) in
    let was : items_of_list c.args.lists.now c.args.place ≡ c.index_mut.result.now.items = grind (arith, common_steps, get_or-map) in
    rw (map-set, was) (get_or-set_same (lists_in c.args.lists.now) c.args.place c.push.new.self.items [] lt ∙ c.in_ok-push.ensures.items)

pub returns-clause-others : goal.returns-clause-others
returns-clause-others c = λ i ne. rw map-set (get_or-set_other (lists_in c.args.lists.now) c.args.place i c.push.new.self.items [] ne)
