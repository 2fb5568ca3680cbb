-- The line of the steps of a run, of its words and numbers.
use Rattle.std.proofs.Common.{◌≡◌, ap, ◌∙◌, ℕ, List, [], ◌++◌, append_assoc}
use Rattle.std.specs.Prelude.{codes}
use Rattle.std.specs.Fmt.{decimal}
use Rattle.flu_lines.specs.declared.products.DrawnSteps.{DrawnSteps}
use Rattle.flu_lines.specs.Lines.{step_line}

joined_16 : (w a x b y c z d v e u f t g s h end : List ℕ)
    → ((w ++ a) ++ ((x ++ b) ++ ((y ++ c) ++ ((z ++ d) ++ ((v ++ e) ++ ((u ++ f) ++ ((t ++ g) ++ ((s ++ h) ++ [])))))))) ++ end
    ≡ w ++ a ++ x ++ b ++ y ++ c ++ z ++ d ++ v ++ e ++ u ++ f ++ t ++ g ++ s ++ h ++ end
joined_16 w a x b y c z d v e u f t g s h end = simp append_assoc

-- the words and the numbers of some steps, with this mark
abbrev pub step_pieces : DrawnSteps → ℕ → List ℕ
step_pieces s mark =
    (codes "steps arrive " ++ decimal s.counts.arrive)
    ++ ((codes " handle " ++ decimal s.counts.handle)
    ++ ((codes " ask " ++ decimal s.counts.ask)
    ++ ((codes " take " ++ decimal s.counts.take)
    ++ ((codes " give " ++ decimal s.counts.give)
    ++ ((codes " hold " ++ decimal s.counts.hold) ++ ((codes " lend " ++ decimal s.counts.lend) ++ ((codes " mark " ++ decimal mark) ++ [])))))))

pub step_line_of : (s : DrawnSteps) (mark : ℕ) → mark ≡ s.mark → step_pieces s mark ++ codes "\n" ≡ step_line s
step_line_of s mark is =
    ap (λ m. step_pieces s m ++ codes "\n") is
    ∙ joined_16 (codes "steps arrive ") (decimal s.counts.arrive) (codes " handle ") (decimal s.counts.handle) (codes " ask ") (decimal s.counts.ask)
    (codes " take ") (decimal s.counts.take)
    (codes " give ") (decimal s.counts.give) (codes " hold ") (decimal s.counts.hold) (codes " lend ") (decimal s.counts.lend) (codes " mark ")
    (decimal s.mark) (codes "\n")
