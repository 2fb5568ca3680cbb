use Rattle.std.proofs.Common.{ap, ◌∙◌}
use Rattle.std.specs.List.{list_all}
use Rattle.flu_lemmas.proofs.Numbers.{one_more}
use Rattle.flu_deps.specs.LoopVisits.{action_all}
use Rattle.flu_deps.specs.LoopClashes.{kind_actions, marked_test, IsDone}
use Rattle.flu_deps.proofs.ClashTables.{kept_through, done_kept}
use Rattle.flu_deps.proofs.clashes.Clashes.note_kind.Goals as goal

pub loop-b-preserved : goal.loop-b-preserved
loop-b-preserved c =
    let p = c.args.p.now in
    let inv = c.loop-b.invariant in
    let before = c.loop-b.self in
    let after = c.note_two.new.self in
    let kept = c.note_two.ensures.kept in
    record {
      version = c.note_two.ensures.version ∙ inv.version;
      marked = ap (λ m. list_all (action_all (marked_test p.version c.args.one m)) (kind_actions p c.args.a)) c.note_two.ensures.marks ∙ inv.marked;
      kept = kept_through c.args.self.now before after inv.kept kept;
      done = one_more (λ b. IsDone p c.args.one c.args.other c.args.a b after) c.loop-b.b
          (λ b lt. done_kept p c.args.one c.args.other c.args.a b before after kept (inv.done b lt)) c.note_two.ensures.done;
    }
