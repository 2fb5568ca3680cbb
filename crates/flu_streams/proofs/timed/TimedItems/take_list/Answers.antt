use Rattle.std.proofs.Common.{◌≡◌, ◌++◌, ℕ, List, map, [], ◌∷◌, true, sym, ap, ◌∙◌, append-nil, arith}
use Rattle.std.proofs.lemmas.Grind.{common_steps}
use Rattle.std.specs.Global.{Global}
use Rattle.std.specs.Prelude.{Vec}
use Rattle.std.specs.List.{filter_map, list_all}
use Rattle.flu_model.specs.declared.events.Item.{Item}
use Rattle.flu_model.specs.declared.events.Item.TheVariants.{End}
use Rattle.flu_streams.specs.Lists.{item_for, is_own}
use Rattle.flu_streams.proofs.Moved.{own_are}
use Rattle.flu_streams.proofs.timed.TimedItems.take_list.Goals as goal

pub returns-clause-list : goal.returns-clause-list
returns-clause-list c =
    let early = c.move_back.new.early.items in
    let empty : c.move_back.new.late.entries ≡ [] = grind (arith, common_steps) in
    let all : early ≡ c.args.self.now =
    sym (append-nil early) ∙ ap (λ (entries : List (ℕ × Item)). early ++ map (λ (e : ℕ × Item). e.1) entries) (sym empty) ∙ c.in_ok-move_back.ensures.same ∙ c.self.view_is in
    let test : c.are_own.result ≡ true = grind (arith, common_steps) in
    let own : list_all (is_own c.args.itag) early ≡ true =
    ap (list_all (is_own c.args.itag)) (sym c.as_slice.ensures.value) ∙ sym c.are_own.ensures ∙ test in
    let moved : c.replace-list.result.items ≡ early = ap (λ (v : Vec Item Global). v.items) c.replace-list.ensures.value in
    c.in_ok-push.ensures.items ∙ ap (λ l. l ++ (End ∷ [])) (moved ∙ sym (own_are c.args.itag early own) ∙ ap (filter_map (item_for c.args.itag)) all)
