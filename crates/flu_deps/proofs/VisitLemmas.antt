-- Words of numbers, and what stays in a walk over actions.
use Rattle.std.proofs.Common.{◌≡◌, ◌<◌, ◌+◌, ◌*◌, ◌^◌, ◌%◌, ◌/◌, ℕ, Bool, true, false, cond, List, [], ◌∷◌, ◌++◌}
use Rattle.std.proofs.Common.{length, take, get_or, bit_and, bit_or, w64, inl, inr, refl, sym, ap, ◌∙◌, arith}
use Rattle.std.specs.Prelude.{◌==◌, ◌||◌, not, min}
use Rattle.std.specs.Int.{bit_at}
use Rattle.std.specs.List.{list_all}
use Rattle.std.proofs.lemmas.Bool.{cases_eq, ne_eqb}
use Rattle.std.proofs.lemmas.List.{take_more}
use Rattle.std.proofs.lemmas.Nat.Bits.{shr_and_one, bit_at-zero, bit_at_and, bit_at_set_same, bit_at_set_other}
use Rattle.flu_lemmas.proofs.Elements.{list_all_push}
use Rattle.flu_lemmas.proofs.Searches.{eq_true}
use Rattle.flu_lemmas.proofs.Tests.{true_eq}
use Rattle.flu_deps.specs.declared.visits.Class.{Class}
use Rattle.flu_deps.specs.declared.visits.Marks.{Marks}
use Rattle.flu_deps.specs.declared.visits.Visit.{Visit}
use Rattle.flu_deps.specs.LoopVisits.{Test, has, in_class, is_marked, is_met}
use Rattle.flu_deps.specs.LoopClashes.{marked_test, met_test}
use Rattle.flu_deps.specs.LoopFollows.{KeepsMarks, is_told, Follows}

-- ---- words
pub has_is : (word n : ℕ) → (bit_and (word / 2 ^ (n % 64)) 1 == 1) ≡ has word n
unfolding has
has_is word n = ap (λ b. b == 1) (shr_and_one word (n % 64))

below_64 : (n : ℕ) → n % 64 < 64
below_64 n = omega arith

abbrev pub set_in : ℕ → ℕ → ℕ
set_in word n = bit_or word (1 * 2 ^ (n % 64) % 18446744073709551616)

pub with_there : (word n : ℕ) → has (set_in word n) n ≡ true
unfolding has
with_there word n = eq_true (bit_at (set_in word n) (n % 64)) 1 (bit_at_set_same w64 word (n % 64) (below_64 n))

pub with_kept : (word n k : ℕ) → has word k ≡ true → has (set_in word n) k ≡ true
unfolding has
with_kept word n k h =
    elim (cases_eq (k % 64) (n % 64)) [
      | inl same ↦ eq_true (bit_at (set_in word n) (k % 64)) 1 (ap (bit_at (set_in word n)) same ∙ bit_at_set_same w64 word (n % 64) (below_64 n))
      | inr other ↦
          eq_true (bit_at (set_in word n) (k % 64)) 1
          (bit_at_set_other w64 word (n % 64) (below_64 n) (k % 64) other ∙ true_eq (bit_at word (k % 64)) 1 h)
    ]

-- ---- walks
still : (x a b c d mk : Bool) → mk ≡ true → (a ≡ true → c ≡ true) → (x || cond mk a b) ≡ true → (x || cond mk c d) ≡ true
still true a b c d mk e f h = refl
still false a b c d true e f h = f h
still false a b c d false e f h = cc

not_true_false : (b : Bool) → b ≡ true → b ≡ false → ⊥
not_true_false b e f = cc

pub marked_follows : (v : Visit) (m : Marks) → v.marking ≡ true → KeepsMarks v.marks m
    → Follows v (record { version = v.version; class = v.class; marking = v.marking; marks = m; meeting = v.meeting })
marked_follows v m marking keeps = record {
  version = refl;
  class = refl;
  marking = refl;
  marks = λ e. absurd (not_true_false v.marking marking e);
  kept =
      λ way family place h. still (not (in_class v.version v.class way)) (is_marked v.marks family place) (is_met v.marks v.meeting family place)
      (is_marked m family place) (is_met m v.meeting family place) v.marking marking (keeps family place) h;
}

pub follows_itself : (v : Visit) → Follows v v
follows_itself v = record { version = refl; class = refl; marking = refl; marks = λ e. refl; kept = λ way family place h. h }

pub follows_through : (u v w : Visit) → Follows u v → Follows v w → Follows u w
follows_through u v w f g = record {
  version = g.version ∙ f.version;
  class = g.class ∙ f.class;
  marking = g.marking ∙ f.marking;
  marks = λ e. g.marks (f.marking ∙ e) ∙ f.marks e;
  kept = λ way family place h. g.kept way family place (f.kept way family place h);
}

-- what is told of the first elements and of one more
pub told_more : {X : Type 0} (test : X → Bool) (xs : List X) (i : ℕ) (x : X) → i < length xs → x ≡ get_or xs i x → list_all test (take i xs) ≡ true
    → test x ≡ true → list_all test (take (i + 1) xs) ≡ true
told_more test xs i x lt is all here = ap (list_all test) (take_more xs i x lt ∙ ap (λ y. take i xs ++ y ∷ []) (sym is))
    ∙ list_all_push test (take i xs) x all here

-- ---- what a walk leaves
pub marked_told : (v : Visit) (class : Class) → v.class ≡ class → v.marking ≡ true → (holds : Test → Bool) → holds (is_told v) ≡ true
    → holds (marked_test v.version class v.marks) ≡ true
marked_told v class same marking holds told =
    sym (ap (λ b. holds (λ way family place. not (in_class v.version class way)
    || cond b (is_marked v.marks family place) (is_met v.marks v.meeting family place))) marking)
    ∙ sym (ap (λ k. holds (λ way family place. not (in_class v.version k way)
    || cond v.marking (is_marked v.marks family place) (is_met v.marks v.meeting family place))) same)
    ∙ told

pub met_told : (v : Visit) (class : Class) → v.class ≡ class → v.marking ≡ false → (holds : Test → Bool) → holds (is_told v) ≡ true
    → holds (met_test v.version class v.marks v.meeting) ≡ true
met_told v class same marking holds told =
    sym (ap (λ b. holds (λ way family place. not (in_class v.version class way)
    || cond b (is_marked v.marks family place) (is_met v.marks v.meeting family place))) marking)
    ∙ sym (ap (λ k. holds (λ way family place. not (in_class v.version k way)
    || cond v.marking (is_marked v.marks family place) (is_met v.marks v.meeting family place))) same)
    ∙ told

one_is_not_none : (x y i : ℕ) → bit_at x i ≡ 1 → bit_at y i ≡ 1 → bit_and x y ≡ 0 → ⊥
one_is_not_none x y i one other none =
    let zero_there : bit_at (bit_and x y) i ≡ 0 = ap (λ n. bit_at n i) none ∙ bit_at-zero i in
    let one_there : bit_at (bit_and x y) i ≡ 1 = bit_at_and x y i ∙ (λ k. min (one k) (other k)) in
    not_one (sym one_there ∙ zero_there)
  where
    not_one : ◌≡◌ {A = ℕ} 1 0 → ⊥
    not_one e = cc

pub in_common : (x y n : ℕ) → has x n ≡ true → has y n ≡ true → not (bit_and x y == 0) ≡ true
unfolding has
in_common x y n one other =
    ap not (ne_eqb (bit_and x y) 0 (one_is_not_none x y (n % 64) (true_eq (bit_at x (n % 64)) 1 one) (true_eq (bit_at y (n % 64)) 1 other)))
