use Rattle.std.proofs.Common.{◌≡◌, ◌<◌, ◌≤◌, false, length, ◌∙◌, arith}
use Rattle.std.specs.Prelude.{slice_index_or}
use Rattle.std.proofs.Math.ListN.{set}
use Rattle.std.proofs.lemmas.List.{length-set}
use Rattle.flu_lemmas.proofs.Numbers.{one_more}
use Rattle.flu_deps.specs.Validated.{plan_of}
use Rattle.flu_model.specs.Itags.{count_of_itags}
use Rattle.flu_apart.specs.Classes.{inside}
use Rattle.flu_apart.proofs.TableLemmas.{set_there, set_other}
use Rattle.flu_apart.proofs.classes.insides_of.Goals as goal

pub loop-i-preserved : goal.loop-i-preserved
loop-i-preserved c =
    let p = c.args.p.now in
    let nodes = (plan_of c.args.v.now).nodes in
    let i = c.loop-i.i in
    let old = c.loop-i.insides in
    let one = c.is_inside-there.result in
    let few : count_of_itags p ≤ 256 = p.few_itags in
    let size = c.loop-i.invariant.0 in
    let within : i < length old = omega arith in (
      length-set old i one ∙ size,
      one_more (λ n. slice_index_or (set old i one) n false ≡ inside p nodes c.args.w n) i
          (λ n less. set_other old i n one false (λ e. omega arith) ∙ c.loop-i.invariant.1 n less)
          (set_there old i one false within ∙ c.is_inside-there.ensures),
    )
