-- The lines of plans are written name by name.
use Rattle.std.proofs.Common.{◌≡◌, refl, sym, ap, ◌∙◌, ℕ, List, [], ◌++◌, true, nat_lt, append-nil, append_assoc}
use Rattle.std.specs.Prelude.{codes}
use Rattle.flu_model.specs.declared.events.Itag.{Itag}
use Rattle.flu_model.specs.declared.events.Tag.{Tag}
use Rattle.flu_model.specs.declared.jobs.Program.{Program}
use Rattle.flu_model.specs.Itags.{count_of_itags, tag_of_itag, source_of_itag}
use Rattle.flu_model.specs.Reports.{text_of_tag}
use Rattle.flu_lines.specs.Names.{source_name, itag_text}
use Rattle.flu_lines.specs.Lines.{plan_line}
use Rattle.flu_lines.proofs.Written.{joined_4}

-- ---- the steps make up the lines
itag_is : (p : Program) (i : Itag) → nat_lt i.0 (count_of_itags p) ≡ true
    → itag_text p i ≡ text_of_tag p (tag_of_itag p i) ++ codes "@" ++ source_name p (source_of_itag p i)
itag_is p i lt = rw lt refl

pub itag_steps : (p : Program) (i : Itag) (t : Tag) (source behind : List ℕ) → nat_lt i.0 (count_of_itags p) ≡ true → t ≡ tag_of_itag p i
    → source ≡ source_name p (source_of_itag p i) → (text_of_tag p t ++ codes "@") ++ (source ++ (behind ++ [])) ≡ itag_text p i ++ behind
itag_steps p i t source behind lt is are =
    (λ k. (text_of_tag p (is k) ++ codes "@") ++ (are k ++ append-nil behind k))
    ∙ (sym (append_assoc (text_of_tag p (tag_of_itag p i) ++ codes "@") (source_name p (source_of_itag p i)) behind)
    ∙ ap (λ (l : List ℕ). l ++ behind) (sym (itag_is p i lt)))

pub owned_steps : (itag name node behind : List ℕ) → name ≡ node → (itag ++ codes " at ") ++ (name ++ (behind ++ [])) ≡ (itag ++ codes " at " ++ node) ++ behind
owned_steps itag name node behind is =
    (λ k. (itag ++ codes " at ") ++ (is k ++ append-nil behind k)) ∙ sym (append_assoc (itag ++ codes " at ") node behind)

pub unowned_steps : (itag : List ℕ) → codes "flumina: plan: " ++ (itag ++ codes " has no owner\n") ≡ plan_line (itag ++ codes " has no owner")
unowned_steps itag = ap (λ (l : List ℕ). codes "flumina: plan: " ++ l) (sym (append_assoc itag (codes " has no owner") (codes "\n")))

pub twice_steps : (itag first second a b : List ℕ) → first ≡ a → second ≡ b
    → codes "flumina: plan: " ++ ((itag ++ codes " has two owners, ") ++ (first ++ (codes " and " ++ (second ++ codes "\n"))))
    ≡ plan_line (itag ++ codes " has two owners, " ++ a ++ codes " and " ++ b)
twice_steps itag first second a b is are =
    (λ k. codes "flumina: plan: " ++ ((itag ++ codes " has two owners, ") ++ (is k ++ (codes " and " ++ (are k ++ codes "\n")))))
    ∙ ap (λ (l : List ℕ). codes "flumina: plan: " ++ l) (joined_4 (itag ++ codes " has two owners, ") a (codes " and ") b (codes "\n"))

pub clash_steps : (first second : List ℕ) → codes "flumina: plan: clash of " ++ ((first ++ codes " and ") ++ (second ++ codes "\n"))
    ≡ plan_line (codes "clash of " ++ first ++ codes " and " ++ second)
clash_steps first second = ap (λ (l : List ℕ). codes "flumina: plan: clash of " ++ l) (sym (append_assoc (first ++ codes " and ") second (codes "\n")))

-- the same steps, the first two of three together
pub first_two : (a b c line : List ℕ) → a ++ (b ++ c) ≡ line → (a ++ b) ++ c ≡ line
first_two a b c line is = append_assoc a b c ∙ is
