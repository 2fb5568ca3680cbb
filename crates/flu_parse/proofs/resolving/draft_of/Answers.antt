use Rattle.std.proofs.Common.{◌∙◌, sym, ap, arith, map}
use Rattle.flu_lemmas.proofs.Loops.{each-next, each-fault, each-end, each-map}
use Rattle.flu_parse.specs.Faults.{each}
use Rattle.flu_parse.specs.Naming.{naming}
use Rattle.flu_parse.specs.Resolving.{drafted, draft_of, first_draft, with_declaration}
use Rattle.flu_syntax.specs.Tree.{declaration_of}
use Rattle.flu_parse.proofs.Steps.{read_written}
use Rattle.flu_parse.proofs.FaultLemmas.{fails_through}
use Rattle.flu_parse.proofs.resolving.draft_of.Goals as goal

pub loop-declaration-init : goal.loop-declaration-init
loop-declaration-init c =
    let n = naming c.args.names.now in
    ap (λ d. each (read_written c.args.text.now n) d c.args.declarations.now) c.in_ok-draft.ensures
    ∙ each-map (with_declaration c.args.text.now n) declaration_of (first_draft n) c.args.declarations.now

pub returns-in-Err : goal.returns-in-Err
returns-in-Err c =
    let step = read_written c.args.text.now (naming c.args.names.now) in
    let d = drafted c.loop-declaration.draft in
    let ds = c.args.declarations.now in
    fails_through _ (step d c.declaration-item.result) (draft_of c.args.text.now (naming c.args.names.now) (map declaration_of ds))
    (λ e h. sym c.loop-declaration.invariant
    ∙ each-fault step d e ds c.loop-declaration.declaration-index c.declaration-item.result c.loop-declaration-test.true c.declaration-item.is h)
    c.in-Err.ensures

pub loop-declaration-preserved : goal.loop-declaration-preserved
loop-declaration-preserved c =
    let step = read_written c.args.text.now (naming c.args.names.now) in
    sym (each-next step (drafted c.loop-declaration.draft)
    (drafted c.add_declaration.new.draft) c.args.declarations.now c.loop-declaration.declaration-index c.declaration-item.result c.loop-declaration-test.true
    c.declaration-item.is c.in-Ok.ensures)
    ∙ c.loop-declaration.invariant

pub returns : goal.returns
returns c =
    sym c.loop-declaration.invariant
    ∙ each-end (read_written c.args.text.now (naming c.args.names.now))
    (drafted c.loop-declaration.draft) c.args.declarations.now c.loop-declaration.declaration-index (omega arith)
