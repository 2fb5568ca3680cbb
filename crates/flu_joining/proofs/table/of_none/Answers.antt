use Rattle.std.proofs.Common.{◌≡◌, ◌<◌, ◌≤◌, false, length, refl, ◌∙◌, arith}
use Rattle.std.specs.Prelude.{slice_index_or}
use Rattle.std.proofs.Math.ListN.{set}
use Rattle.std.proofs.lemmas.Grind.{get_or-set_at}
use Rattle.std.proofs.lemmas.List.{length-set, get_or-set_other}
use Rattle.flu_lemmas.proofs.Numbers.{one_more}
use Rattle.flu_deps.specs.Validated.{plan_of}
use Rattle.flu_model.specs.Itags.{count_of_itags}
use Rattle.flu_contribution.specs.Sharing.{is_itag_of_none}
use Rattle.flu_joining.proofs.table.of_none.Goals as goal

pub loop-i-preserved : goal.loop-i-preserved
loop-i-preserved c =
    let p = c.args.p.now in
    let nodes = (plan_of c.args.v.now).nodes in
    let i = c.loop-i.i in
    let old = c.loop-i.table in
    let one = c.is_of_none-none.result in
    let few : count_of_itags p ≤ 256 = p.few_itags in
    let size = c.loop-i.invariant.0 in
    let within : i < length old = omega arith in (
      length-set old i one ∙ size,
      one_more (λ n. slice_index_or (set old i one) n false ≡ is_itag_of_none p nodes c.args.nodes_apart.now n) i
          (λ n less. get_or-set_other old i n one false (λ e. omega arith) ∙ c.loop-i.invariant.1 n less)
          (get_or-set_at old i i one false refl within ∙ c.is_of_none-none.ensures),
    )
