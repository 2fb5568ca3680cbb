use Rattle.std.proofs.Common.{◌∙◌, ap, length, codes, ◌++◌, ℕ}
use Rattle.std.specs.Fmt.{decimal}
use Rattle.flu_command.specs.Demos.{lines_in}
use Rattle.flu_top.proofs.demo.summary.Goals as goal

pub returns : goal.returns
returns c =
    c.of.ensures ∙ c.in_ok-text.ensures.ok
    ∙ ap (λ (lines : ℕ). codes "demo events " ++ (decimal c.args.events ++
    (codes " lines " ++ (decimal lines ++ (codes " bytes " ++ (decimal (length c.args.report.now) ++ codes "\n"))))))
    (c.lines_in-lines.ensures ∙ ap lines_in c.as_bytes.ensures.value)
