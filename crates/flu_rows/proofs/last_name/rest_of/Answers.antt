use Rattle.std.proofs.Common.{◌≡◌, false, ◌++◌, length, take, drop, get_or, sym, ap, ◌∙◌, rules, arith, List, ℕ}
use Rattle.std.specs.Cmp.Lexicographic.{bytes_decides}
use Rattle.std.proofs.lemmas.Bool.Decides.{nat_tests}
use Rattle.std.proofs.lemmas.List.{take-append-drop}
use Rattle.flu_names.specs.Names.{is_name_byte}
use Rattle.flu_rows.proofs.NameBytes.{none_ends}
use Rattle.flu_rows.proofs.last_name.rest_of.Goals as goal
use Rattle.flu_rows.proofs.last_name.rest_of.Goals.{in_default-via-then-rest-lt1, in_default-via-in-len1-up+else-is_name_byte}

pub returns-in_default : goal.returns-in_default
returns-in_default c =
    let tag = c.args.tag.now in
    let name = c.args.name.now in
    let rest = c.in_ok-rest.rest.now in
    let cases = c.in_ok-rest.ensures.cases in
    let front : take (length name) tag ≡ name = (bytes_decides (take (length name) tag) name).0 cases.0 in
    let ends : is_name_byte (get_or rest 0 0) ≡ false = elim c.in_default.branch [
      | in_default-via-then-rest-lt1 w ↦ none_ends rest (grind (arith, nat_tests))
      | in_default-via-in-len1-up+else-is_name_byte w ↦ search rules
    ] in
    record {
      whole = sym (take-append-drop (length name) tag) ∙ ap (λ (x : List ℕ). x ++ drop (length name) tag) front ∙ ap (λ (x : List ℕ). name ++ x) (sym cases.1);
      ends = ends;
    }
