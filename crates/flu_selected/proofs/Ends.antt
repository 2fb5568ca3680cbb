-- What is read of a source without a row.
use Rattle.std.proofs.Common.{◌≡◌, [], ◌∷◌, refl}
use Rattle.flu_lemmas.specs.Lines.{lines_of}
use Rattle.csv.specs.Machine.{next_record}
use Rattle.csv.specs.Reading.{strip_bom}
use Rattle.flu_rows.specs.declared.row.RowForm.{RowForm}
use Rattle.flu_rows.specs.declared.row.RowForm.TheVariants.{Older, WithItems}
use Rattle.flu_rows.specs.declared.row.Row.TheVariants.{End}
use Rattle.flu_rows.specs.declared.rows.Next.TheVariants.{Row, Done}
use Rattle.flu_rows.specs.Lines.{line_of, line_of_fields}
use Rattle.flu_rows.specs.Reading.{read_lines, read_file}
use Rattle.flu_rows.specs.Row.{row_of, filled_len}
use Rattle.flu_selected.specs.Selecting.{end_line}

-- the end, in line 1, and the file has one line
pub end_read : (form : RowForm) → read_file form end_line ≡ Row 1 End ∷ Done 1 ∷ []
unfolding lines_of read_lines line_of line_of_fields next_record strip_bom row_of filled_len
end_read Older = refl
end_read (WithItems iso lists) = refl
