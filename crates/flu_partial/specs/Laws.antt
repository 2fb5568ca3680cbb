-- Laws of the lines of a partial.
use Rattle.std.specs.Prelude.{◌≡◌, ℕ, List, IsUtf8}
use Rattle.std.specs.List.{AllByRecursion}
use Rattle.flu_partial.specs.declared.values.PartialHead.{PartialHead}
use Rattle.flu_partial.specs.declared.values.Emitted.{Emitted}
use Rattle.flu_partial.specs.declared.values.Contribution.{Contribution}
use Rattle.flu_partial.specs.Partial.{head_text, contribution_text, IsHead, IsContribution}
use Rattle.flu_partial.specs.Forms.{IsHeadLine, IsContributionLine, IsShort}

-- LAW OF HEADS: a text is that of one head at most
abbrev pub LawOfHeads : Type 0
LawOfHeads = (g h : PartialHead) → IsHead g → IsHead h → head_text g ≡ head_text h → g ≡ h

-- LAW OF CONTRIBUTIONS: a text is that of one contribution at most
abbrev pub LawOfContributions : Type 0
LawOfContributions = (b c : Contribution) → IsContribution b → IsContribution c → contribution_text b ≡ contribution_text c → b ≡ c

-- LAW OF PRINTED HEADS: the text of a head is its line, if its texts are UTF-8 and it is short
abbrev pub LawOfPrintedHeads : Type 0
LawOfPrintedHeads = (h : PartialHead) → IsHead h → IsUtf8 h.job → IsUtf8 h.plan → IsShort (head_text h) → IsHeadLine h (head_text h)

-- LAW OF PRINTED CONTRIBUTIONS: the text of a contribution is its line, if its texts are UTF-8 and it is short
abbrev pub LawOfPrintedContributions : Type 0
LawOfPrintedContributions =
    (c : Contribution) → IsContribution c → AllByRecursion (λ (o : Emitted). IsUtf8 o.tag × IsUtf8 o.text) c.outs → IsShort (contribution_text c)
    → IsContributionLine c (contribution_text c)
