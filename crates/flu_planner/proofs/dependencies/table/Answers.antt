use Rattle.std.proofs.Common.{ℕ, Bool, List, sym, ◌∷◌, ◌++◌, [], ◌∙◌, arith}
use Rattle.std.proofs.lemmas.List.FromFn.{map-range_with_len_more}
use Rattle.flu_model.specs.Itags.{count_of_itags}
use Rattle.flu_planner.specs.LoopTables.{row_of}
use Rattle.flu_planner.proofs.dependencies.table.Goals as goal

pub loop-i-preserved : goal.loop-i-preserved
loop-i-preserved c =
    let f : ℕ → List Bool = λ i. row_of c.args.p.now i (count_of_itags c.args.p.now) in
    c.in_ok-push.ensures.items ∙ (λ k. c.loop-i.invariant k ++ (c.of.ensures ∙ c.in_ok-row.ensures) k ∷ [])
    ∙ sym (map-range_with_len_more f 0 c.loop-i.i c.loop-i.i (omega arith))
