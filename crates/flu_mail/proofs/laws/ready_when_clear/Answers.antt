use Rattle.std.proofs.Common.{◌≡◌, ℕ, true, List, sym, ap, ◌∙◌}
use Rattle.std.specs.Prelude.{not, ◌==◌, ◌&&◌, ◌||◌, ◌≢◌}
use Rattle.flu_lemmas.proofs.Searches.{eq_true}
use Rattle.flu_lemmas.proofs.Tests.{and_left, not_true, not_both}
use Rattle.flu_model.specs.declared.events.Itag.{Itag}
use Rattle.flu_model.specs.declared.jobs.Program.{Program}
use Rattle.flu_model.specs.declared.plans.Node.{Node}
use Rattle.flu_model.specs.Owners.{owns, ancestors_own}
use Rattle.flu_mail.specs.Waiting.{itag, waits_for, serving_waits_for}
use Rattle.flu_mail.proofs.WaitingLemmas.{all_pass_when_clear}
use Rattle.flu_mail.proofs.laws.ready_when_clear.Goals as goal

another : (p : Program) (nodes : List Node) (w : ℕ) (i : Itag) (j : ℕ) → waits_for p nodes w i j ≡ true → i.0 ≢ j
another p nodes w i j h same =
    not_both (j == i.0) (eq_true j i.0 (sym same))
    (not_true (j == i.0) (and_left (not (j == i.0)) (owns p nodes w (itag j) || ancestors_own p nodes w (itag j))
    (and_left (not (j == i.0) && (owns p nodes w (itag j) || ancestors_own p nodes w (itag j))) _ h)))

pub returns-clause-ready : goal.returns-clause-ready
returns-clause-ready c =
    λ p nodes lists w seen counts x s each all clear. all_pass_when_clear p (waits_for p nodes w x.itag) lists seen counts x s each all
    (another p nodes w x.itag) clear

pub returns-clause-serve : goal.returns-clause-serve
returns-clause-serve c = λ p nodes lists w seen counts x s each all other clear.
    all_pass_when_clear p (serving_waits_for p nodes w x.itag) lists seen counts x s each all
    (λ j waited same. not_both (owns p nodes w x.itag) (ap (λ n. owns p nodes w (itag n)) same ∙ and_left (owns p nodes w (itag j)) _ waited) other)
    clear
