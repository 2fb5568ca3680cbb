use Rattle.std.proofs.Common.{sym, ap, ◌∙◌, ◌++◌}
use Rattle.std.specs.Prelude.{codes}
use Rattle.flu_lines.specs.Names.{source_name}
use Rattle.flu_lines.specs.PartLines.{file_defect_text}
use Rattle.flu_lines.proofs.Written.{writes_as}
use Rattle.flu_lines.proofs.WrittenParts.{named_steps}
use Rattle.flu_lines.proofs.part_lines.write_file_text.Goals as goal

pub returns-in-SameName : goal.returns-in-SameName
returns-in-SameName g c =
    let p = c.args.program.now in
    writes_as (codes "same as source " ++ (c.as_bytes-name.result.now ++ codes "\n")) _ _ _ _ _ c.write_pieces.result
    (named_steps (codes "same as source ") c.as_bytes-name.result.now (source_name p c.in-SameName.source)
    (c.as_bytes-name.ensures.value ∙ c.source_name.ensures)
    ∙ ap (λ why. file_defect_text p c.args.plan.now.nodes why ++ codes "\n") (sym c.in-SameName.is)) c.write_pieces.ensures
