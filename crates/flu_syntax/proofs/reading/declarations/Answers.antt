use Rattle.std.proofs.Common.{◌≡◌, ◌∙◌, ◌∷◌, ◌++◌, [], map, length, refl, arith}
use Rattle.std.proofs.lemmas.Result.{err_from_is_err_and}
use Rattle.std.proofs.lemmas.List.{map_push}
use Rattle.std.proofs.lemmas.Grind.{common_steps}
use Rattle.std.proofs.lemmas.Bool.Decides.{nat_tests}
use Rattle.flu_syntax.specs.Tree.{declaration_of}
use Rattle.flu_syntax.proofs.Runs.{Tells-through, job_ends_at}
use Rattle.flu_syntax.proofs.reading.declarations.Goals as goal

pub each-init : goal.each-init
each-init c = record { run = rw c.new-all.ensures.items refl }

pub returns-in_err-declaration : goal.returns-in_err-declaration
returns-in_err-declaration c =
    let p = err_from_is_err_and c.from_residual.result c.from_residual.ensures.1 in
    record { run = rw (p.1, p.2) (Tells-through _ _ _ c.each.invariant.run (c.in_err-declaration.ensures.run (map declaration_of c.each.all.items))) }

pub each-preserved : goal.each-preserved
each-preserved c =
    let items : c.push.new.self.items ≡ c.each.all.items ++ c.in_ok-declaration.declaration ∷ [] = grind (arith, common_steps) in
    record {
      run = rw (items, map_push declaration_of c.each.all.items c.in_ok-declaration.declaration)
          (c.each.invariant.run ∙ c.in_ok-declaration.ensures.run (map declaration_of c.each.all.items));
    }

pub returns : goal.returns
returns c =
    let none : length c.each.rest.now ≡ 0 = grind (arith, nat_tests) in
    record { run = rw c.of.ensures (c.each.invariant.run ∙ job_ends_at c.args.end (map declaration_of c.each.all.items) c.each.rest.now none) }
