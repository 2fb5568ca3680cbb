-- The height of a written expression, and its first part.
use Rattle.std.proofs.Common.{◌≡◌, ◌≤◌, ℕ, false, arith}
use Rattle.std.specs.Prelude.{nat_le}
use Rattle.std.proofs.lemmas.Grind.{common_steps}
use Rattle.flu_syntax.specs.Tree.{Tree, NumberTree, ValueTree, KeyTree, TimeTree, ReadTree, HasTree, ParenTree, NegTree, NotTree, TwoTree}
use Rattle.flu_parse.specs.Terms.{height}

pub has_level : (e : Tree) → 1 ≤ height e
has_level (NumberTree n) = omega arith
has_level (ValueTree at) = omega arith
has_level (KeyTree at) = omega arith
has_level (TimeTree at) = omega arith
has_level (ReadTree r) = omega arith
has_level (HasTree at r) = omega arith
has_level (ParenTree at e) = has_level e
has_level (NegTree at e) = omega arith
has_level (NotTree at e) = omega arith
has_level (TwoTree op at a b) = omega arith

pub above_none : (e : Tree) (n : ℕ) → n ≡ 0 → false ≡ nat_le (height e) n
above_none e n none =
    let least : 1 ≤ height e = has_level e in
    grind (arith, common_steps, least, none)
