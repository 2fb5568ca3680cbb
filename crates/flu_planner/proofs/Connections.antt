-- Walks in a graph of which each edge leads both ways.
use Rattle.std.proofs.Common.{◌≡◌, ℕ, true, List, [], ◌∷◌, ◌++◌, inl, inr, refl, ap, subst, ◌∙◌}
use Rattle.std.specs.Prelude.{Contains}
use Rattle.std.proofs.lemmas.Bool.{and_parts, and_from}
use Rattle.std.proofs.lemmas.List.Elements.{Contains-append_cases}
use Rattle.flu_planner.specs.Graphs.{Graph, AreConnected, is_walk, end_of_walk}
use Rattle.flu_lemmas.proofs.Containing.{contains_here, contains_later, contains_cases, contains_none}

-- ---- what each step of a walk keeps holds at its end
pub kept_along : (g : Graph) (itags : List ℕ) (Q : ℕ → Type 0) → ((i j : ℕ) → Q i → Contains itags j → g i j ≡ true → Q j) → (i : ℕ) (walk : List ℕ) → Q i
    → is_walk g i walk ≡ true → ((k : ℕ) → Contains walk k → Contains itags k) → Q (end_of_walk i walk)
kept_along g itags Q step i [] here joined inside = here
kept_along g itags Q step i (j ∷ walk) here joined inside =
    let parts = and_parts (g i j) (is_walk g j walk) joined in
    kept_along g itags Q step j walk (step i j here (inside j (contains_here j walk)) parts.0) parts.1 (λ k there. inside k (contains_later j k walk there))

pub kept_where_connected : (g : Graph) (itags : List ℕ) (Q : ℕ → Type 0) → ((i j : ℕ) → Q i → Contains itags j → g i j ≡ true → Q j) → (i j : ℕ)
    → AreConnected g itags i j → Q i → Q j
kept_where_connected g itags Q step i j c here = subst Q c.ends (kept_along g itags Q step i c.walk here c.joined c.inside)

-- ---- walks one after another
pub connected_itself : (g : Graph) (itags : List ℕ) (i : ℕ) → AreConnected g itags i i
connected_itself g itags i = record { walk = []; joined = refl; inside = λ k there. absurd (contains_none k there); ends = refl }

walk_append : (g : Graph) (i : ℕ) (one other : List ℕ) → is_walk g i one ≡ true → is_walk g (end_of_walk i one) other ≡ true → is_walk g i (one ++ other) ≡ true
walk_append g i [] other a b = b
walk_append g i (j ∷ one) other a b =
    let parts = and_parts (g i j) (is_walk g j one) a in
    and_from (g i j) (is_walk g j (one ++ other)) parts.0 (walk_append g j one other parts.1 b)

end_append : (i : ℕ) (one other : List ℕ) → end_of_walk i (one ++ other) ≡ end_of_walk (end_of_walk i one) other
end_append i [] other = refl
end_append i (j ∷ one) other = end_append j one other

pub connected_on : (g : Graph) (itags : List ℕ) (i j k : ℕ) → AreConnected g itags i j → AreConnected g itags j k → AreConnected g itags i k
connected_on g itags i j k a b = record {
  walk = a.walk ++ b.walk;
  joined = walk_append g i a.walk b.walk a.joined (ap (λ n. is_walk g n b.walk) a.ends ∙ b.joined);
  inside = λ n there. elim (Contains-append_cases a.walk b.walk n there) [ inl one ↦ a.inside n one | inr other ↦ b.inside n other ];
  ends = end_append i a.walk b.walk ∙ ap (λ n. end_of_walk n b.walk) a.ends ∙ b.ends;
}

-- one more step
pub connected_step : (g : Graph) (itags : List ℕ) (i j k : ℕ) → AreConnected g itags i j → g j k ≡ true → Contains itags k → AreConnected g itags i k
connected_step g itags i j k a joined there =
    connected_on g itags i j k a (record {
      walk = k ∷ [];
      joined = and_from (g j k) true joined refl;
      inside = λ n here. elim (contains_cases k n [] here) [ inl e ↦ subst (Contains itags) e there | inr none ↦ absurd (contains_none n none) ];
      ends = refl;
    })

-- ---- walks over more itags, and back
pub connected_within : (g : Graph) (itags more : List ℕ) (i j : ℕ) → ((k : ℕ) → Contains itags k → Contains more k) → AreConnected g itags i j
    → AreConnected g more i j
connected_within g itags more i j within a = record { walk = a.walk; joined = a.joined; inside = λ k there. within k (a.inside k there); ends = a.ends }

-- the itags of which a walk leads back to one, of those that can be reached from it
IsBack : Graph → List ℕ → ℕ → ℕ → Type 0
IsBack g itags i j = AreConnected g itags j i × Contains itags j

pub connected_back : (g : Graph) (itags : List ℕ) → ((i j : ℕ) → g i j ≡ g j i) → (i j : ℕ) → Contains itags i → AreConnected g itags i j
    → AreConnected g itags j i
unfolding IsBack
connected_back g itags both i j there a =
    (kept_where_connected g itags (IsBack g itags i)
    (λ k n here inside joined. (
      connected_on g itags n k i (connected_step g itags n n k (connected_itself g itags n)
          (both n k ∙ joined) here.1) here.0,
      inside,
    ))
    i j a (connected_itself g itags i, there)).0
