use Rattle.std.proofs.Common.{◌≡◌, ◌∙◌, sym, ap, ◌<◌, ◌++◌, ◌∷◌, [], length, get_or, true, false, List, ℕ}
use Rattle.std.specs.Prelude.{◌&&◌, not, is_none}
use Rattle.flu_model.specs.declared.jobs.Source.{Source}
use Rattle.flu_selected.proofs.ReadSources.{files_skipped, files_added}
use Rattle.flu_selected.specs.Gathering.{reads}
use Rattle.flu_selected.proofs.gathering.closed_files.Goals as goal
use Rattle.flu_selected.proofs.gathering.closed_files.Goals.{then-is_closed+in_ok-name+in_ok-push, else-is_closed}

pub loop-number-preserved : goal.loop-number-preserved
loop-number-preserved c =
    let sources = c.args.p.now.sources in
    let i = c.loop-number.number in
    let x : Source = c.source-item.result in
    let lt : i < length sources = rw c.items-source-items.ensures at c.loop-number-test.true in
    let is : x ≡ get_or sources i x = rw c.items-source-items.ensures at c.source-item.is in
    elim c.if-is_closed.branch [
      | then-is_closed+in_ok-name+in_ok-push w ↦
          let closed : (is_none x.every && not (reads c.args.is_read.now i)) ≡ true = sym w.if-is_closed.ensures in
          let kept : c.if-is_closed.names.items ≡ w.push.new.self.items = ap (λ v. v.items) w.names-is in
          let text : w.of.result ≡ x.file = cc (w.of.ensures, w.in_ok-name.ensures.ok, w.as_str.ensures) in
          kept ∙ w.in_ok-push.ensures.items ∙ ap (λ (file : List ℕ). c.loop-number.names.items ++ file ∷ []) text
          ∙ ap (λ (names : List (List ℕ)). names ++ x.file ∷ []) c.loop-number.invariant
          ∙ sym (files_added c.args.is_read.now sources i x lt is closed)
      | else-is_closed w ↦
          let open_file : (is_none x.every && not (reads c.args.is_read.now i)) ≡ false = sym w.if-is_closed.ensures in
          let kept : c.if-is_closed.names.items ≡ c.loop-number.names.items = ap (λ v. v.items) w.names-is in
          kept ∙ c.loop-number.invariant ∙ sym (files_skipped c.args.is_read.now sources i x lt is open_file)
    ]
