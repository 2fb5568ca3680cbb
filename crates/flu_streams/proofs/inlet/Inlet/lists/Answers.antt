use Rattle.std.proofs.Common.{◌≡◌, ◌++◌, ap, ◌∙◌, [], ◌∷◌}
use Rattle.std.specs.List.{filter_map}
use Rattle.std.specs.Prelude.{◌+◌, ◌<◌, vec_len}
use Rattle.flu_model.specs.declared.events.Item.TheVariants.{End}
use Rattle.flu_streams.specs.Lists.{item_for}
use Rattle.flu_streams.specs.LoopHeld.{taken_by}
use Rattle.flu_streams.specs.LoopMoments.{end_moment}
use Rattle.flu_streams.proofs.Bounds.{few_lists}
use Rattle.flu_streams.proofs.Inlets.{taken_to}
use Rattle.flu_streams.proofs.inlet.Inlet.lists.Goals as goal

pub returns-clause-each : goal.returns-clause-each
returns-clause-each c = λ i lt.
    let h = c.args.self.now in
    let end = end_moment h.timing c.args.end in
    let same : taken_by c.end_moment.result h.items ≡ taken_by end h.items = taken_to h c.end_moment.result end c.end_moment.ensures in
    let within : i < vec_len c.in_ok-lists.lists = rw c.in_ok-lists.ensures.len lt in
    c.in_ok-push_to.ensures.each i within
    ∙ ap (λ l. (l ++ filter_map (item_for (c.args.first + i)) (taken_by c.end_moment.result h.items)) ++ (End ∷ [])) (c.in_ok-lists.ensures.empty i)
    ∙ ap (λ l. filter_map (item_for (c.args.first + i)) l ++ (End ∷ [])) same

pub returns-clause-few : goal.returns-clause-few
returns-clause-few c = λ free. few_lists c.push_to.new.lists c.args.width c.args.first (end_moment c.args.self.now.timing c.args.end) c.args.self.now
    (c.in_ok-push_to.ensures.len ∙ c.in_ok-lists.ensures.len) (returns-clause-each c) free
