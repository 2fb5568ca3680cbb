use Rattle.std.proofs.Common.{◌≡◌, ◌≤◌, ◌++◌, List, ℕ, Option, Result, Ok, Err, drop, length, length-append, arith, sym, ap, ◌∙◌}
use Rattle.std.specs.Prelude.{IfOk, OnOk}
use Rattle.std.proofs.lemmas.Grind.{common_steps}
use Rattle.std.proofs.lemmas.List.{drop-append-le}
use Rattle.flu_lemmas.proofs.Told.{told_weaker}
use Rattle.flu_outside.specs.Outside.{Contents, WhereTold}
use Rattle.flu_outside.specs.Taking.{bytes_left, KeepsBytes}
use Rattle.flu_outside.specs.declared.files.TakeFault.{TakeFault}
use Rattle.flu_outside.proofs.lines.LineBuffer.take_more.Goals as goal

-- bytes that are kept are kept behind a front of them
kept_behind : (name : List ℕ) (at : ℕ) (held now : List ℕ) (old new : Contents) → at ≤ length held → at ≤ length now → KeepsBytes name held now old new
    → KeepsBytes name (drop at held) (drop at now) old new
kept_behind name at held now old new few fewer kept =
    sym (drop-append-le at now (bytes_left new name) fewer) ∙ ap (drop at) kept ∙ drop-append-le at held (bytes_left old name) few

-- where a take answered bytes, which are now behind those that were held
kept_where_taken : (r : Result ℕ TakeFault) (name : List ℕ) (at : ℕ) (held now : List ℕ) (old new : Option Contents) → at ≤ length held
    → IfOk r (λ n. (more : List ℕ) × (length more ≡ n) × (now ≡ held ++ more)) → OnOk r (WhereTold old new (KeepsBytes name held now))
    → OnOk r (WhereTold old new (KeepsBytes name (drop at held) (drop at now)))
kept_where_taken (Ok n) name at held now old new few more kept =
    let fewer : at ≤ length now = rw more.2 (omega (arith, few, length-append held more.0)) in
    told_weaker (KeepsBytes name held now) (KeepsBytes name (drop at held) (drop at now)) old new (λ x y k. kept_behind name at held now x y few fewer k) kept
kept_where_taken (Err e) name at held now old new few more kept = tt

pub returns-clause-bytes : goal.returns-clause-bytes
returns-clause-bytes g c =
    let held = c.self.inside.bytes.items in
    let same : drop c.self.inside.at held ≡ c.args.self.now = c.self.view_is ∙ c.move_up.ensures in
    rw (← same) (kept_where_taken c.take_behind.result c.args.file.now c.self.inside.at held c.take_behind.new.bytes.items (g.F.Files.left c.args.files.now)
    (g.F.Files.left c.take_behind.new.files) (grind (arith, common_steps)) c.take_behind.ensures.behind c.take_behind.ensures.kept)
