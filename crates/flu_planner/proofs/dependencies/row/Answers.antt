use Rattle.std.proofs.Common.{ℕ, Bool, length, sym, ap, ◌∷◌, ◌++◌, [], ◌∙◌, arith}
use Rattle.std.proofs.lemmas.List.FromFn.{map-range_with_len_more}
use Rattle.flu_planner.specs.LoopTables.{are_dependent}
use Rattle.flu_planner.proofs.Tables.{tag_count, tag_at}
use Rattle.flu_planner.proofs.dependencies.row.Goals as goal

pub bounds-tags-i : goal.bounds-tags-i
bounds-tags-i c = omega (arith, ap length c.requires.tags, tag_count c.args.p.now, c.requires.declared)

pub bounds-tags-j : goal.bounds-tags-j
bounds-tags-j c = omega (arith, ap length c.requires.tags, tag_count c.args.p.now)

pub entry-requires-clause-tag : goal.entry-requires-clause-tag
entry-requires-clause-tag c = rw c.requires.tags (tag_at c.args.p.now c.args.i _ c.requires.declared)

pub entry-requires-clause-other : goal.entry-requires-clause-other
entry-requires-clause-other c = rw c.requires.tags (tag_at c.args.p.now c.loop-j.j _ (omega arith))

pub loop-j-preserved : goal.loop-j-preserved
loop-j-preserved c =
    let f : ℕ → Bool = are_dependent c.args.p.now c.args.i in
    c.in_ok-push.ensures.items ∙ (λ k. c.loop-j.invariant k ++ c.entry.ensures k ∷ [])
    ∙ sym (map-range_with_len_more f 0 c.loop-j.j c.loop-j.j (omega arith))
