-- Each expression has a level at least.
use Rattle.std.proofs.Common.{◌≡◌, ◌≤◌, ℕ, false, arith}
use Rattle.std.specs.Prelude.{nat_le}
use Rattle.std.proofs.lemmas.Grind.{common_steps}
use Rattle.flu_model.specs.declared.jobs.Expr.{Expr}
use Rattle.flu_model.specs.declared.jobs.Expr.TheVariants.{Lit, Value, Key, Item, Time, Read, Has, Neg', Not', Two'}
use Rattle.flu_model.specs.Rules.{height}

pub has_level : (e : Expr) → 1 ≤ height e
has_level (Lit n) = omega arith
has_level Value = omega arith
has_level Key = omega arith
has_level Item = omega arith
has_level Time = omega arith
has_level (Read r) = omega arith
has_level (Has r) = omega arith
has_level (Neg' p e) = omega arith
has_level (Not' p e) = omega arith
has_level (Two' op p a q b) = omega arith

pub above_none : (e : Expr) (n : ℕ) → n ≡ 0 → false ≡ nat_le (height e) n
above_none e n none =
    let least : 1 ≤ height e = has_level e in
    grind (arith, common_steps, least, none)
