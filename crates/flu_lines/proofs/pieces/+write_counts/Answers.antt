use Rattle.std.proofs.Common.{[], map, take, drop, length, get_or, ◌-◌, ◌++◌, ◌∙◌, ℕ, List, Ok, Bor}
use Rattle.std.specs.Fmt.{decimal}
use Rattle.std.specs.List.{concat}
use Rattle.flu_lines.proofs.Written.{writes_as, writes_more, pieces_split, counted_pieces}
use Rattle.flu_lines.proofs.pieces.+write_counts.Goals as goal

pub returns : goal.returns
returns g t c =
    let counts = c.args.counts.now in
    let bytes = λ (e : Bor (List ℕ) × ℕ). e.0.now ++ decimal e.1 in
    let first = get_or counts 0 (record { ref_ptr = (0, 0); now = [] }, 0) in
    let others = concat (map bytes (take (length counts - 1) (drop 1 counts))) in
    let written = writes_as _ (bytes first) _ _ _ _ (Ok tt)
    (counted_pieces c.as_bytes-word.result.now c.as_bytes-digits.result.now first.0.now first.1 c.as_bytes-word.ensures.value
    (c.as_bytes-digits.ensures.value ∙ c.format.ensures.text))
    c.in_ok-write_pieces.ensures in
    writes_as _ _ _ _ _ _ c.write_counts.result (pieces_split bytes counts _ c.in-len1-up.len_at_least)
    (writes_more (bytes first) others _ _ _ _ _ _ c.write_counts.result written c.write_counts.ensures)
