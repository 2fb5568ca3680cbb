-- One piece of taking after another.
use Rattle.std.proofs.Common.{◌≡◌, ◌≢◌, inl, inr, ℕ, ◌≤◌, ◌+◌, ◌-◌, ◌^◌, min, List, [], ◌++◌, Bool, true, false, Option, Some, None, refl, sym, ap, ◌∙◌}
use Rattle.std.proofs.Common.{append_assoc, arith}
use Rattle.std.specs.Prelude.{is_some, unwrap_or}
use Rattle.std.specs.Str.{bytes_eq}
use Rattle.std.proofs.lemmas.Bool.{false≢true}
use Rattle.std.proofs.lemmas.Slice.Eq.{bytes_eq-Decides}
use Rattle.flu_lemmas.specs.Told.{WhereTold}
use Rattle.flu_lemmas.specs.Named.{Contents, bytes_left, TakesFrom, TookFronts, KeepsBytes, IsThere, CountApart, CountsOf}
use Rattle.flu_lemmas.proofs.Told.{told_then, told_weaker, told_same}

-- ---- bytes that go from the front of a name
takes_from-then : (name : List ℕ) (a b c : Contents) → TakesFrom name a b → TakesFrom name b c → TakesFrom name a c
takes_from-then name a b c p q = record {
  front = (p.front.0 ++ q.front.0, p.front.1 ∙ ap (λ (x : List ℕ). p.front.0 ++ x) q.front.1 ∙ sym (append_assoc p.front.0 q.front.0 (bytes_left c name)));
  there = q.there ∙ p.there;
  others = λ other ne. q.others other ne ∙ p.others other ne;
}

takes_none : (name : List ℕ) (x : Contents) → TakesFrom name x x
takes_none name x = record { front = ([], refl); there = refl; others = λ other ne. refl }

pub none_taken : (name : List ℕ) (a : Option Contents) → WhereTold a a (TakesFrom name)
none_taken name a = told_same (TakesFrom name) a (takes_none name)

pub taken_then : (name : List ℕ) (a b c : Option Contents) → WhereTold a b (TakesFrom name) → WhereTold b c (TakesFrom name) → WhereTold a c (TakesFrom name)
taken_then name a b c p q = told_then (TakesFrom name) (TakesFrom name) (TakesFrom name) a b c (takes_from-then name) p q

-- ---- the front of each name
was_there : (front rest : List ℕ) (o : Option (List ℕ)) → is_some o ≡ true → unwrap_or o [] ≡ front ++ rest → o ≡ Some (front ++ rest)
was_there front rest None there is = cc
was_there front rest (Some bytes) there is = ap Some is

front_of_one : (name : List ℕ) (old new : Contents) → TakesFrom name old new → TookFronts old new
front_of_one name old new t other rest left = by_test (bytes_eq other name) refl
  where
    by_test : (b : Bool) → bytes_eq other name ≡ b → (front : List ℕ) × (old other ≡ Some (front ++ rest))
    by_test true e =
        let same : other ≡ name = (bytes_eq-Decides other name).0 e in
        let here : new name ≡ Some rest = ap new (sym same) ∙ left in
        let was : unwrap_or (old name) [] ≡ t.front.0 ++ rest = t.front.1 ∙ ap (λ (o : Option (List ℕ)). t.front.0 ++ unwrap_or o []) here in
        (t.front.0, ap old same ∙ was_there t.front.0 rest (old name) (sym t.there ∙ ap is_some here) was)
    by_test false e = ([], sym (t.others other (λ same. false≢true (sym e ∙ (bytes_eq-Decides other name).1 same))) ∙ left)

fronts_join : (x y z : Contents) → TookFronts x y → TookFronts y z → TookFronts x z
fronts_join x y z f g name rest left =
    let second = g name rest left in
    let first = f name (second.0 ++ rest) second.1 in
    (first.0 ++ second.0, first.1 ∙ ap Some (sym (append_assoc first.0 second.0 rest)))

pub fronts_at : (name : List ℕ) (a b : Option Contents) → WhereTold a b (TakesFrom name) → WhereTold a b TookFronts
fronts_at name a b t = told_weaker (TakesFrom name) TookFronts a b (front_of_one name) t

pub fronts_then : (a b c : Option Contents) → WhereTold a b TookFronts → WhereTold b c TookFronts → WhereTold a c TookFronts
fronts_then a b c p q = told_then TookFronts TookFronts TookFronts a b c fronts_join p q

-- ---- the bytes that are held
pub kept_then : (name held mid now : List ℕ) (a b c : Option Contents) → WhereTold a b (KeepsBytes name held mid) → WhereTold b c (KeepsBytes name mid now)
    → WhereTold a c (KeepsBytes name held now)
kept_then name held mid now a b c p q = told_then (KeepsBytes name held mid) (KeepsBytes name mid now) (KeepsBytes name held now) a b c (λ x y z h k. k ∙ h) p q

-- ---- the counts
there_before : (name n : List ℕ) (a b : Option Contents) → WhereTold a b (TakesFrom name) → n ≢ name → IsThere a n → IsThere b n
there_before name n None None t ne there = there
there_before name n None (Some new) t ne there = absurd t
there_before name n (Some old) None t ne there = absurd t
there_before name n (Some old) (Some new) t ne there = rw (t.others n ne) there

there_still : (name : List ℕ) (a b : Option Contents) → WhereTold a b (TakesFrom name) → IsThere a name → IsThere b name
there_still name None None t there = there
there_still name None (Some new) t there = absurd t
there_still name (Some old) None t there = absurd t
there_still name (Some old) (Some new) t there = t.there ∙ there

apart_still : (name n : List ℕ) (a b : Option Contents) → WhereTold a b (TakesFrom name) → CountApart a name n → CountApart b name n
apart_still name n a b t apart =
    (apart.0, elim apart.1 [ inl there ↦ inl (there_still name a b t there) | inr there ↦ inr (there_before name n a b t (λ e. apart.0 (sym e)) there) ])

pub no_counts : (name : List ℕ) (a : Option Contents) (x : List ℕ → ℕ) → CountsOf a name x x
no_counts name a x = record { rise = λ n. omega arith; apart = λ n apart. refl }

pub counts_then : (name : List ℕ) (a b : Option Contents) (x y z : List ℕ → ℕ) → WhereTold a b (TakesFrom name) → CountsOf a name x y → CountsOf b name y z
    → CountsOf a name x z
counts_then name a b x y z t p q = record {
  rise = λ n. omega (arith, p.rise n, q.rise n);
  apart = λ n apart. q.apart n (apart_still name n a b t apart) ∙ p.apart n apart;
}

-- a count rose that had not fallen before
pub rose_behind : (x y z : ℕ) → x ≤ y → min (y + 1) (2 ^ 64 - 1) ≤ z → min (x + 1) (2 ^ 64 - 1) ≤ z
rose_behind x y z le rose = omega arith
