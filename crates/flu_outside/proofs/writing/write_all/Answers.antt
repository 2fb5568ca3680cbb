use Rattle.std.proofs.Common.{◌≡◌, ◌<◌, ◌++◌, ℕ, List, length, subst, sym, rules, arith, Option}
use Rattle.std.proofs.lemmas.Grind.{common_steps}
use Rattle.flu_lemmas.proofs.Results.{on_err}
use Rattle.flu_lemmas.proofs.Told.{told_weaker}
use Rattle.flu_outside.specs.Outside.{WhereTold}
use Rattle.flu_outside.specs.Writing.{AppendsPart}
use Rattle.flu_outside.proofs.Parts.{appends_part}
use Rattle.flu_outside.proofs.writing.write_all.Goals as goal

pub returns-in_err-n : goal.returns-in_err-n
returns-in_err-n g c =
    let rest = c.loop-rest.rest.now in
    let bytes = c.args.bytes.now in
    let some : 0 < length rest = grind (arith, common_steps) in
    let part : WhereTold (g.K.Sink.taken c.args.out.now) (g.K.Sink.taken c.loop-rest.out) (AppendsPart bytes) =
    told_weaker (λ (old new : List ℕ). new ++ rest ≡ old ++ bytes) (AppendsPart bytes) _ _
    (λ old new. appends_part bytes rest old new some c.loop-rest.invariant.size) c.loop-rest.invariant.told in
    record {
      all = search rules;
      quiet = search rules;
      part = on_err _ c.from_residual.result (subst (λ (taken : Option (List ℕ)). WhereTold (g.K.Sink.taken c.args.out.now) taken (AppendsPart bytes))
          (sym c.in_err-n.ensures.kept) part);
      failed = search rules;
      counts = search rules;
    }
