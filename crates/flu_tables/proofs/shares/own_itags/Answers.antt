use Rattle.std.proofs.Common.{Vec, Global, sym, ap, ◌∙◌}
use Rattle.flu_model.specs.declared.events.Itag.{Itag}
use Rattle.flu_model.specs.Owners as owners
use Rattle.flu_deps.specs.Validated.{plan_of}
use Rattle.flu_tables.proofs.TableLemmas.{listed_more, listed_still}
use Rattle.flu_tables.proofs.shares.own_itags.Goals as goal
use Rattle.flu_tables.proofs.shares.own_itags.Goals.{then-owns+in_ok-push, else-owns}

pub loop-i-preserved : goal.loop-i-preserved
loop-i-preserved c =
    let test = owners.owns c.args.p.now (plan_of c.args.v.now).nodes c.args.w in
    elim c.if-owns.branch [
      | then-owns+in_ok-push w ↦ listed_more test c.loop-i.i _ _ (ap (λ (v : Vec Itag Global). v.items) w.itags-is ∙ w.in_ok-push.ensures.items)
          (sym c.owns.ensures ∙ w.if-owns.true) c.loop-i.invariant
      | else-owns w ↦ ap (λ (v : Vec Itag Global). v.items) w.itags-is
          ∙ listed_still test c.loop-i.i _ (sym c.owns.ensures ∙ w.if-owns.false) c.loop-i.invariant
    ]
