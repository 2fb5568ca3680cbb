use Rattle.std.proofs.Common.{Vec, Global, sym, ap, ◌∙◌}
use Rattle.flu_model.specs.declared.events.Itag.{Itag}
use Rattle.flu_model.specs.Owners as owners
use Rattle.flu_deps.specs.Validated.{plan_of}
use Rattle.flu_tables.proofs.TableLemmas.{listed_more, listed_still}
use Rattle.flu_tables.proofs.shares.itags_above.Goals as goal
use Rattle.flu_tables.proofs.shares.itags_above.Goals.{then-ancestors_own+in_ok-push, else-ancestors_own}

pub loop-i-preserved : goal.loop-i-preserved
loop-i-preserved c =
    let test = owners.ancestors_own c.args.p.now (plan_of c.args.v.now).nodes c.args.w in
    elim c.if-ancestors_own.branch [
      | then-ancestors_own+in_ok-push w ↦ listed_more test c.loop-i.i _ _ (ap (λ (v : Vec Itag Global). v.items) w.itags-is ∙ w.in_ok-push.ensures.items)
          (sym c.ancestors_own.ensures ∙ w.if-ancestors_own.true) c.loop-i.invariant
      | else-ancestors_own w ↦ ap (λ (v : Vec Itag Global). v.items) w.itags-is
          ∙ listed_still test c.loop-i.i _ (sym c.ancestors_own.ensures ∙ w.if-ancestors_own.false) c.loop-i.invariant
    ]
