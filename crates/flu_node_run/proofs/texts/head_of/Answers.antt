use Rattle.std.proofs.Common.{◌≡◌, ◌∙◌, ap, get_or, arith}
use Rattle.std.proofs.lemmas.Grind.{common_steps}
use Rattle.flu_model.specs.Listed.{listed}
use Rattle.flu_deps.specs.Checking.{program_of}
use Rattle.flu_deps.specs.Validated.{plan_of}
use Rattle.flu_sending.specs.Lines.{first_time}
use Rattle.flu_node_run.proofs.Assembled.{is_named, is_head}
use Rattle.flu_node_run.proofs.texts.head_of.Goals as goal

pub returns : goal.returns
returns c =
    let nodes = (plan_of c.args.v.now).nodes in
    let node = c.index-items-w.result in
    let name : c.of.result ≡ node.name = grind (arith, common_steps) in
    let at : node ≡ get_or nodes c.args.w node = cc in
    is_head (program_of c.args.c.now) nodes c.args.w (listed c.args.streams.now) _ _ _ _
    (c.first_time.ensures ∙ ap (λ p. first_time p (listed c.args.streams.now)) c.program-p.ensures) (grind (arith, common_steps))
    (name ∙ is_named nodes c.args.w node c.requires.node at) (grind (arith, common_steps))
