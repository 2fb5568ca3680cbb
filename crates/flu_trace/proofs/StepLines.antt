-- Which step a line says.
use Rattle.std.proofs.Common.{◌≡◌, ◌≢◌, ℕ, ◌+◌, ◌*◌, ◌<◌, ◌≤◌, lit≤, Option, Some, None, List, ◌++◌, get_or, length, length-append, reverse, refl, sym, ap, ◌∙◌}
use Rattle.std.proofs.Common.{arith}
use Rattle.std.specs.Prelude.{codes, IfNone, IfSome}
use Rattle.std.specs.Fmt.{decimal}
use Rattle.std.proofs.lemmas.Fmt.{decimal_injective, length-decimal-le}
use Rattle.std.proofs.lemmas.List.{append_cancel_left, append_cancel_right, reverse-append}
use Rattle.flu_worker.specs.declared.hand.Side.{Side}
use Rattle.flu_worker.specs.declared.hand.Side.TheVariants.{Left, Right}
use Rattle.flu_net.specs.declared.steps.Step.{Step}
use Rattle.flu_net.specs.declared.steps.Step.TheVariants.{Arrive, Handle, Ask, Take, Give, Hold, Lend}
use Rattle.flu_trace.specs.Lines.{IsLineOf, line_of, number_of, side_text}

same_number : (m n : ℕ) → m < 1000 → n < 1000 → decimal m ≡ decimal n → m ≡ n
same_number m n a b e = decimal_injective m n (omega arith) (omega arith) e

-- ---- sides
other_side : (a b : List ℕ) → a ++ codes " left" ≢ b ++ codes " right"
other_side a b e =
    let back : reverse (codes " left") ++ reverse a ≡ reverse (codes " right") ++ reverse b =
    sym (reverse-append a (codes " left")) ∙ ap reverse e ∙ reverse-append b (codes " right") in
    absurd (omega (arith, ap (λ l. get_or l 1 0) back))

pub left_front : (a b : List ℕ) (s : Side) → a ++ codes " left" ≡ b ++ side_text s → (s ≡ Left) × (a ≡ b)
left_front a b Left e = (refl, append_cancel_right a b (codes " left") e)
left_front a b Right e = absurd (other_side a b e)

pub right_front : (a b : List ℕ) (s : Side) → a ++ codes " right" ≡ b ++ side_text s → (s ≡ Right) × (a ≡ b)
right_front a b Left e = absurd (other_side b a (sym e))
right_front a b Right e = (refl, append_cancel_right a b (codes " right") e)

same_edge : (w v : ℕ) (s r : Side) → w < 1000 → v < 1000 → decimal w ++ side_text s ≡ decimal v ++ side_text r → (w ≡ v) × (s ≡ r)
same_edge w v Left r a b e = let k = left_front (decimal w) (decimal v) r e in (same_number w v a b k.1, sym k.0)
same_edge w v Right r a b e = let k = right_front (decimal w) (decimal v) r e in (same_number w v a b k.1, sym k.0)

-- ---- words: their first two letters tell them apart
key : List ℕ → ℕ
key line = get_or line 0 0 * 1000 + get_or line 1 0

at_edge : (make : ℕ → Side → Step) (w v : ℕ) (s r : Side) → (w ≡ v) × (s ≡ r) → make w s ≡ make v r
at_edge make w v s r same = ap (λ n. make n s) same.0 ∙ ap (make v) same.1

-- two steps that are written alike are the same
pub same_step : (s t : Step) → number_of s < 1000 → number_of t < 1000 → line_of s ≡ line_of t → s ≡ t
unfolding key
same_step (Arrive i) (Arrive j) a b e =
    ap (λ n. Arrive (record { 0 = n })) (same_number i.0 j.0 a b (append_cancel_left (codes "arrive ") (decimal i.0) (decimal j.0) e))
same_step (Handle w) (Handle v) a b e = ap Handle (same_number w v a b (append_cancel_left (codes "handle ") (decimal w) (decimal v) e))
same_step (Ask w s) (Ask v r) a b e =
    at_edge Ask w v s r (same_edge w v s r a b (append_cancel_left (codes "ask ") (decimal w ++ side_text s) (decimal v ++ side_text r) e))
same_step (Take w s) (Take v r) a b e =
    at_edge Take w v s r (same_edge w v s r a b (append_cancel_left (codes "take ") (decimal w ++ side_text s) (decimal v ++ side_text r) e))
same_step (Give w) (Give v) a b e = ap Give (same_number w v a b (append_cancel_left (codes "give ") (decimal w) (decimal v) e))
same_step (Hold w) (Hold v) a b e = ap Hold (same_number w v a b (append_cancel_left (codes "hold ") (decimal w) (decimal v) e))
same_step (Lend w s) (Lend v r) a b e =
    at_edge Lend w v s r (same_edge w v s r a b (append_cancel_left (codes "lend ") (decimal w ++ side_text s) (decimal v ++ side_text r) e))
same_step s t a b e = absurd (omega (arith, ap key e))

pub same_as : (s t : Step) (line : List ℕ) → IsLineOf s line → number_of t < 1000 → line ≡ line_of t → Some t ≡ Some s
same_as s t line is few e = ap Some (same_step t s few is.number (sym e ∙ is.is))

-- ---- what stands behind a word
pub not_edge : (line word edge number : List ℕ) (side : Side) → line ≡ word ++ edge → edge ≡ number ++ side_text side
    → ((n : ℕ) → n < 1000 → number ≢ decimal n)
    → (n : ℕ) (s : Side) → n < 1000 → line ≢ word ++ (decimal n ++ side_text s)
not_edge line word edge number side front back none n s lt e =
    none n lt (by_side side (sym back ∙ append_cancel_left word edge (decimal n ++ side_text s) (sym front ∙ e)))
  where
    by_side : (side : Side) → number ++ side_text side ≡ decimal n ++ side_text s → number ≡ decimal n
    by_side Left same = (left_front number (decimal n) s same).1
    by_side Right same = (right_front number (decimal n) s same).1

pub is_edge : (line word edge number : List ℕ) (side : Side) (n : ℕ) → line ≡ word ++ edge → edge ≡ number ++ side_text side → number ≡ decimal n
    → line ≡ word ++ (decimal n ++ side_text side)
is_edge line word edge number side n front back is = front ∙ ap (λ l. word ++ l) (back ∙ ap (λ l. l ++ side_text side) is)

-- ---- clauses of what may be none
pub if_none : {A : Type 0} {P : Type 0} (r : Option A) → P → IfNone r P
if_none None p = p
if_none (Some x) p = tt

pub if_some : {A : Type 0} (P Q : A → Type 0) (r : Option A) → ((x : A) → P x → Q x) → IfSome r P → IfSome r Q
if_some P Q None weaken p = tt
if_some P Q (Some x) weaken p = weaken x p

-- ---- how long a line is
side_len : (s : Side) → length (side_text s) ≤ 6
side_len Left = lit≤ tt
side_len Right = lit≤ tt

number_len : (n : ℕ) → n < 1000 → length (decimal n) ≤ 3
number_len n lt = length-decimal-le 3 n (omega arith) lt (omega arith)

word_len : (word : List ℕ) (n : ℕ) → n < 1000 → length word ≤ 7 → length (word ++ decimal n) ≤ 24
word_len word n lt short = let few = number_len n lt in omega (arith, length-append word (decimal n), few)

edge_len : (word : List ℕ) (n : ℕ) (s : Side) → n < 1000 → length word ≤ 7 → length (word ++ (decimal n ++ side_text s)) ≤ 24
edge_len word n s lt short =
    let few = number_len n lt in
    let side = side_len s in
    omega (arith, length-append word (decimal n ++ side_text s), length-append (decimal n) (side_text s), few, side)

step_len : (s : Step) → number_of s < 1000 → length (line_of s) ≤ 24
step_len (Arrive i) lt = word_len (codes "arrive ") i.0 lt (lit≤ tt)
step_len (Handle w) lt = word_len (codes "handle ") w lt (lit≤ tt)
step_len (Ask w s) lt = edge_len (codes "ask ") w s lt (lit≤ tt)
step_len (Take w s) lt = edge_len (codes "take ") w s lt (lit≤ tt)
step_len (Give w) lt = word_len (codes "give ") w lt (lit≤ tt)
step_len (Hold w) lt = word_len (codes "hold ") w lt (lit≤ tt)
step_len (Lend w s) lt = edge_len (codes "lend ") w s lt (lit≤ tt)

pub not_so_long : (line : List ℕ) → 24 < length line → (s : Step) → ¬ IsLineOf s line
not_so_long line long s is = let few = step_len s is.number in absurd (omega (arith, ap length is.is, few))
