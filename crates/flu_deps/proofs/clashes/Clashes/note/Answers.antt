use Rattle.std.proofs.Common.{◌<◌, ℕ, length, ◌∙◌}
use Rattle.flu_lemmas.proofs.Numbers.{one_more}
use Rattle.flu_deps.specs.LoopClashes.{IsDone}
use Rattle.flu_deps.proofs.ClashTables.{kept_through, done_kept}
use Rattle.flu_deps.proofs.clashes.Clashes.note.Goals as goal

pub loop-a-preserved : goal.loop-a-preserved
loop-a-preserved c =
    let p = c.args.p.now in
    let inv = c.loop-a.invariant in
    let before = c.loop-a.self in
    let after = c.note_kind.new.self in
    let kept = c.note_kind.ensures.kept in
    record {
      version = c.note_kind.ensures.version ∙ inv.version;
      kept = kept_through c.args.self.now before after inv.kept kept;
      done = one_more (λ a. (b : ℕ) → b < length p.kinds → IsDone p c.args.one c.args.other a b after) c.loop-a.a
          (λ a lt b small. done_kept p c.args.one c.args.other a b before after kept (inv.done a lt b small)) c.note_kind.ensures.done;
    }
