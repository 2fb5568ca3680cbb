use Rattle.std.proofs.Common.{[], map, take, drop, length, get_or, ◌-◌}
use Rattle.std.specs.List.{concat}
use Rattle.flu_lines.proofs.Written.{writes_as, writes_more, pieces_split}
use Rattle.flu_lines.proofs.pieces.+write_pieces.Goals as goal

pub returns : goal.returns
returns g t c =
    let pieces = c.args.pieces.now in
    let first = (get_or pieces 0 (record { ref_ptr = (0, 0); now = [] })).now in
    let others = concat (map (λ p. p.now) (take (length pieces - 1) (drop 1 pieces))) in
    writes_as _ _ _ _ _ _ c.write_pieces.result (pieces_split (λ p. p.now) pieces _ c.in-len1-up.len_at_least)
    (writes_more first others _ _ _ _ _ _ c.write_pieces.result c.in_ok-write_all.ensures c.write_pieces.ensures)
