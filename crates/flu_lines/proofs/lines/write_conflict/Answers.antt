use Rattle.std.proofs.Common.{◌++◌}
use Rattle.std.specs.Prelude.{codes}
use Rattle.flu_model.specs.Reports.{text_of_tag, text_of_cell}
use Rattle.flu_lines.proofs.Written.{writes_front, writes_more, writes_both}
use Rattle.flu_lines.proofs.WrittenConflicts.{conflict_text, conflict_head, conflict_first, conflict_second}
use Rattle.flu_lines.proofs.lines.write_conflict.Goals as goal

pub returns-in_err-write_all : goal.returns-in_err-write_all
returns-in_err-write_all g c =
    let p = c.args.fault.now.program in
    let a = text_of_tag p c.args.fault.now.a in
    let b = text_of_tag p c.args.fault.now.b in
    let on = text_of_cell p c.args.fault.now.cell in
    writes_front (codes "flumina: conflict: ") ((a ++ codes " and ") ++ ((b ++ codes " on ") ++ (on ++ codes "\n")))
    (conflict_text a b on) _ _ _ _ _ c.from_residual.result
    (conflict_head a b on) c.from_residual.ensures.0 c.in_err-write_all.ensures

pub returns-in_err-write_tag : goal.returns-in_err-write_tag
returns-in_err-write_tag g c =
    let p = c.args.fault.now.program in
    let a = text_of_tag p c.args.fault.now.a in
    let b = text_of_tag p c.args.fault.now.b in
    let on = text_of_cell p c.args.fault.now.cell in
    writes_front (codes "flumina: conflict: " ++ (a ++ codes " and ")) ((b ++ codes " on ") ++ (on ++ codes "\n"))
    (conflict_text a b on) _ _ _ _ _ c.from_residual-in_err-write_tag.result
    (conflict_first a b on) c.from_residual-in_err-write_tag.ensures.0
    (writes_more (codes "flumina: conflict: ") (a ++ codes " and ") _ _ _ _ _ _ _ c.in_ok-write_all.ensures c.in_err-write_tag.ensures)

pub returns-in_err-write_tag-2 : goal.returns-in_err-write_tag-2
returns-in_err-write_tag-2 g c =
    let p = c.args.fault.now.program in
    let a = text_of_tag p c.args.fault.now.a in
    let b = text_of_tag p c.args.fault.now.b in
    let on = text_of_cell p c.args.fault.now.cell in
    writes_front ((codes "flumina: conflict: " ++ (a ++ codes " and ")) ++ (b ++ codes " on ")) (on ++ codes "\n")
    (conflict_text a b on) _ _ _ _ _ c.from_residual-in_err-write_tag-2.result
    (conflict_second a b on) c.from_residual-in_err-write_tag-2.ensures.0
    (writes_more (codes "flumina: conflict: " ++ (a ++ codes " and ")) (b ++ codes " on ") _ _ _ _ _ _ _
    (writes_more (codes "flumina: conflict: ") (a ++ codes " and ") _ _ _ _ _ _ _ c.in_ok-write_all.ensures c.in_ok-write_tag.ensures)
    c.in_err-write_tag-2.ensures)

pub returns : goal.returns
returns g c =
    let p = c.args.fault.now.program in
    let a = text_of_tag p c.args.fault.now.a in
    let b = text_of_tag p c.args.fault.now.b in
    let on = text_of_cell p c.args.fault.now.cell in
    writes_both ((codes "flumina: conflict: " ++ (a ++ codes " and ")) ++ (b ++ codes " on ")) (on ++ codes "\n")
    (conflict_text a b on) _ _ _ _ _ _ c.write_cell.result
    (conflict_second a b on)
    (writes_more (codes "flumina: conflict: " ++ (a ++ codes " and ")) (b ++ codes " on ") _ _ _ _ _ _ _
    (writes_more (codes "flumina: conflict: ") (a ++ codes " and ") _ _ _ _ _ _ _ c.in_ok-write_all.ensures c.in_ok-write_tag.ensures)
    c.in_ok-write_tag-2.ensures)
    c.write_cell.ensures
