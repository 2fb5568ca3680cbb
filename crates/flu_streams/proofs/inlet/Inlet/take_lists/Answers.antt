use Rattle.std.proofs.Common.{◌≡◌, ◌++◌, [], ◌∷◌, ap, subst, ◌∙◌}
use Rattle.std.specs.Global.{Global}
use Rattle.std.specs.Prelude.{IfSome, Vec}
use Rattle.std.specs.List.{filter_map}
use Rattle.flu_model.specs.declared.events.Item.{Item}
use Rattle.flu_model.specs.declared.events.Item.TheVariants.{End}
use Rattle.flu_streams.specs.Lists.{item_for}
use Rattle.flu_streams.proofs.Moved.{alone}
use Rattle.flu_streams.proofs.inlet.Inlet.take_lists.Goals as goal

pub returns-in-Some-clause-each : goal.returns-in-Some-clause-each
returns-in-Some-clause-each c i lt =
    let held = c.args.self.now.items in
    let is : c.in-Some.list.items ≡ filter_map (item_for c.args.first) held ++ End ∷ [] =
    subst (λ list. IfSome list (λ (own : Vec Item Global). own.items ≡ filter_map (item_for c.args.first) held ++ End ∷ [])) c.in-Some.is c.in_ok-list.ensures.list in
    let one : c.push.new.self.items ≡ c.in-Some.list ∷ [] =
    c.in_ok-push.ensures.items ∙ ap (λ (ls : _). ls ++ (c.in-Some.list ∷ [])) c.new-lists.ensures.items in
    alone c.push.new.self c.in-Some.list c.args.first c.args.width i held one is c.if-width-eq1.true lt
