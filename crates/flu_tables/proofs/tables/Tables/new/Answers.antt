use Rattle.std.proofs.Common.{◌≡◌, List, Bool, map, sym, ap, subst, ◌∙◌}
use Rattle.flu_model.specs.Itags.{count_of_itags}
use Rattle.flu_deps.specs.Checking.{program_of}
use Rattle.flu_deps.specs.Validated.{plan_of}
use Rattle.flu_tables.specs.LoopShares.{AreShares}
use Rattle.flu_tables.specs.LoopRows.{tags_with_none, rows_of, place_in}
use Rattle.flu_tables.specs.LoopTables.{AreTold}
use Rattle.flu_tables.proofs.TableLemmas.{own_listed, above_listed, dependence_told}
use Rattle.flu_tables.proofs.tables.Tables.new.Goals as goal

pub invariant_of-result : goal.invariant_of-result
invariant_of-result c =
    let p = program_of c.args.c.now in
    let nodes = (plan_of c.args.v.now).nodes in
    let shares = c.in_ok-shares.shares.items in
    let n = c.itag_count.result in
    let listed : List (List Bool) = map (λ row. row.items) c.in_ok-rows.rows.items in
    let are = subst (λ q. AreShares q nodes shares) c.program-p.ensures c.in_ok-shares.ensures in
    let rows : listed ≡ rows_of p (tags_with_none p) = c.in_ok-rows.ensures ∙ ap (λ q. rows_of q (tags_with_none q)) c.program-p.ensures in
    let count : n ≡ count_of_itags p = c.itag_count.ensures ∙ ap count_of_itags c.program-p.ensures in
    let told : AreTold p nodes shares n listed = record {
      own = λ w. own_listed p nodes shares w are;
      above = λ w. above_listed p nodes shares w c.plans_are_trees.ensures.children c.args.v.now.plan.one_tree are;
      depend = λ i j. ap (λ k. place_in listed k i j) count ∙ dependence_told p listed i j rows;
    } in
    let job = c.of.ensures ∙ c.program-p.ensures in
    let plan = ap (λ q. q.nodes) (c.of-2.ensures ∙ c.plan.ensures) in
    record { told = subst (λ q. AreTold q c.of-2.result.value.nodes shares n listed) (sym job) (subst (λ ns. AreTold p ns shares n listed) (sym plan) told) }

pub returns : goal.returns
returns c = record { of_job = c.of.ensures ∙ c.program-p.ensures; of_plan = ap (λ q. q.nodes) (c.of-2.ensures ∙ c.plan.ensures) }
