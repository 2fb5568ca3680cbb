-- Bytes are a whole partial of one head and one list of contributions at most, and no proper front of them is one.
use Rattle.std.proofs.Common.{◌≡◌, ℕ, List, [], ◌∷◌, ◌++◌, refl, sym, ap, ap₂, subst, ◌∙◌, append_assoc}
use Rattle.std.specs.Prelude.{IsTrue}
use Rattle.std.specs.List.{AllByRecursion}
use Rattle.flu_partial.specs.declared.order.Reached.{Reached}
use Rattle.flu_partial.specs.declared.order.Reached.TheVariants.{Head, End as AtEnd}
use Rattle.flu_partial.specs.declared.values.Contribution.{Contribution}
use Rattle.flu_partial.specs.declared.values.PartialHead.{PartialHead}
use Rattle.flu_partial.specs.declared.values.Place.{Place}
use Rattle.flu_partial.specs.declared.values.Place.TheVariants.{Before, End}
use Rattle.flu_partial.specs.Forms.{IsHeadLine}
use Rattle.flu_partial.specs.Laws.{LawOfHeads, LawOfContributions}
use Rattle.flu_partial.specs.Order.{may_come, may_come_at, reached_with, AreRest}
use Rattle.flu_partial.specs.Partial.{head_text, contribution_text, line_of}
use Rattle.flu_receiving.specs.Laws.{PartialsHaveOneText, CutPartialsAreNotWhole, PrintedPartialsAreWhole}
use Rattle.flu_receiving.specs.Receiving.{lines_text, HasLine}
use Rattle.flu_receiving.proofs.Unbroken.{same_lines, AreSameLines, head_unbroken, contribution_unbroken}

no_line : (text rest : List ℕ) → line_of text ++ rest ≡ [] → ⊥
no_line [] rest e = cc
no_line (b ∷ text) rest e = cc

-- ---- lines of contributions
same_first : (b c : Contribution) (x y : List ℕ) → HasLine b → HasLine c → line_of (contribution_text b) ++ x ≡ line_of (contribution_text c) ++ y
    → AreSameLines (contribution_text b) (contribution_text c) x y
same_first b c x y one two same =
    same_lines (contribution_text b) (contribution_text c) x y (contribution_unbroken b one.contribution) (contribution_unbroken c two.contribution) same

one_list : LawOfContributions → (bs cs : List Contribution) → AllByRecursion HasLine bs → AllByRecursion HasLine cs → lines_text bs ≡ lines_text cs → bs ≡ cs
one_list law [] [] one two same = refl
one_list law [] (c ∷ cs) one two same = absurd (no_line (contribution_text c) (lines_text cs) (sym same))
one_list law (b ∷ bs) [] one two same = absurd (no_line (contribution_text b) (lines_text bs) same)
one_list law (b ∷ bs) (c ∷ cs) one two same =
    let lines = same_first b c (lines_text bs) (lines_text cs) one.0 two.0 same in
    ap₂ (λ x xs. x ∷ xs) (law b c one.0.contribution two.0.contribution lines.line) (one_list law bs cs one.1 two.1 lines.rest)

none_after_end : (place : Place) (c : Contribution) → IsTrue (may_come_at place AtEnd c) → ⊥
none_after_end (Before time itag) c h = cc
none_after_end (End last) c h = cc

nothing_cut : LawOfContributions → (r : Reached) (cs bs : List Contribution) (behind : List ℕ) → AllByRecursion HasLine cs → AllByRecursion HasLine bs
    → AreRest r cs → AreRest r bs → lines_text cs ++ behind ≡ lines_text bs → behind ≡ []
nothing_cut law r [] [] behind one two rest more same = same
nothing_cut law r [] (b ∷ bs) behind one two rest more same =
    absurd (none_after_end b.place b (subst (λ (s : Reached). IsTrue (may_come s b)) rest more.0))
nothing_cut law r (c ∷ cs) [] behind one two rest more same =
    absurd (no_line (contribution_text c) (lines_text cs ++ behind) (sym (append_assoc (line_of (contribution_text c)) (lines_text cs) behind) ∙ same))
nothing_cut law r (c ∷ cs) (b ∷ bs) behind one two rest more same =
    let lines = same_first c b (lines_text cs ++ behind) (lines_text bs) one.0 two.0
    (sym (append_assoc (line_of (contribution_text c)) (lines_text cs) behind) ∙ same) in
    let first : c ≡ b = law c b one.0.contribution two.0.contribution lines.line in
    let order = subst (λ (x : Contribution). AreRest (reached_with x.place) bs) (sym first) more.1 in
    nothing_cut law (reached_with c.place) cs bs behind one.1 two.1 rest.1 order lines.rest

-- ---- partials
same_heads : (g h : PartialHead) (x y : List ℕ) → IsHeadLine g (head_text g) → IsHeadLine h (head_text h)
    → line_of (head_text g) ++ x ≡ line_of (head_text h) ++ y → AreSameLines (head_text g) (head_text h) x y
same_heads g h x y one two same = same_lines (head_text g) (head_text h) x y (head_unbroken g one.head) (head_unbroken h two.head) same

pub one_text : LawOfHeads → LawOfContributions → PartialsHaveOneText
one_text heads law bytes g h bs cs one two =
    let lines = same_heads g h (lines_text bs) (lines_text cs) one.head two.head (sym one.text ∙ two.text) in
    (heads g h one.head.head two.head.head lines.line, one_list law bs cs one.lines two.lines lines.rest)

pub cut_off : LawOfContributions → CutPartialsAreNotWhole
cut_off law front behind g h bs cs some one two =
    let same : line_of (head_text h) ++ (lines_text cs ++ behind) ≡ line_of (head_text g) ++ lines_text bs =
    sym (append_assoc (line_of (head_text h)) (lines_text cs) behind) ∙ ap (λ (x : List ℕ). x ++ behind) (sym two.text) ∙ one.text in
    let lines = same_heads h g (lines_text cs ++ behind) (lines_text bs) two.head one.head same in
    some (nothing_cut law Head cs bs behind two.lines one.lines two.order one.order lines.rest)

pub printed : PrintedPartialsAreWhole
printed h cs head lines order = record { text = refl; head = head; lines = lines; order = order }
