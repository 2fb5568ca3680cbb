-- Each step keeps the rule of the arrival words.
use Rattle.std.proofs.Common.{◌≡◌, ℕ, zero, suc, ◌+◌, ◌-◌, ◌<◌, ◌≤◌, true, false, List, [], ◌∷◌, ◌++◌, length, take, get_or, set, sym, refl, ap, ◌∙◌, subst}
use Rattle.std.proofs.Common.{⊎_elim, add-one, length-set, get_or-set_same, get_or-set_other, arith}
use Rattle.std.proofs.lemmas.List.{get_or_default}
use mathlib.Core.Logic.{dite}
use mathlib.Core.Option.{none, some, some-injective}
use native.Mathlib.Decide.{ℕ_discrete}
use lib.ListN.{get_elem?}
use lib.Seq.{set-get_or}
use Rattle.atomic_table.specs.Table.{State, step, keeps, opening, Allows, Splits}
use Rattle.atomic_table.proofs.Lists.{at_set, at_snoc}
use Rattle.flu_arrive.specs.declared.note.Note.{Note}
use Rattle.flu_arrive.specs.Notes.{note, feeding, watching, zeros}
use Rattle.flu_arrive.specs.Rule.{Knows, Kept, Sat}
use Rattle.flu_arrive.specs.Steps.{fed, looked}

pub none_yet : (limits : List ℕ) (i : ℕ) → get_or (zeros limits) i 0 ≡ 0
none_yet [] i = refl
none_yet (n ∷ ns) zero = refl
none_yet (n ∷ ns) (suc i) = none_yet ns i

pub zeros_long : (limits : List ℕ) → length (zeros limits) ≡ length limits
zeros_long [] = refl
zeros_long (n ∷ ns) = ap suc (zeros_long ns)

abbrev St : Type 0
St = State (Unit {0}) Note

pub starts : (limits : List ℕ) → Kept limits (opening (0 ∷ zeros limits) [] (feeding limits))
starts limits = record {
  feeder = 0;
  counts = zeros limits;
  words_are = refl;
  long = zeros_long limits;
  below = λ i. let z = none_yet limits i in omega arith;
  each = each;
}
  where
    each : (seat : ℕ) (v : Note) → get_elem? (feeding limits ∷ []) seat ≡ some v → Knows limits (zeros limits) 0 seat v
    each zero v e = subst (Knows limits (zeros limits) 0 0) (some-injective (feeding limits) v e) record {
      limits_are = refl;
      long = zeros_long limits;
      feeds = λ _. (refl, refl);
      watches = λ wrong i. cc;
    }
    each (suc j) v e = cc

-- the other notes stay true where the words only rise, and only the feeder raises them
stays : (limits counts counts' : List ℕ) (feeder seat : ℕ) (v : Note) → ((i : ℕ) → get_or counts i 0 ≤ get_or counts' i 0)
    → (v.feeds ≡ true → counts ≡ counts') → Knows limits counts feeder seat v → Knows limits counts' feeder seat v
stays limits counts counts' feeder seat v rise same k = record {
  limits_are = k.limits_are;
  long = k.long;
  feeds = λ it. let f = k.feeds it in (f.0, f.1 ∙ same it);
  watches = λ it i. let a = k.watches it i in let b = rise i in omega arith;
}

raised : (counts : List ℕ) (i c : ℕ) → get_or counts i 0 ≤ c → (k : ℕ) → get_or counts k 0 ≤ get_or (set counts i c) k 0
raised [] i c le k = omega arith
raised (n ∷ ns) zero c le zero = le
raised (n ∷ ns) zero c le (suc k) = omega arith
raised (n ∷ ns) (suc i) c le zero = omega arith
raised (n ∷ ns) (suc i) c le (suc k) = raised ns i c le k

bounded : (counts limits : List ℕ) (i c : ℕ) → i < length counts → c ≤ get_or limits i 0 → ((k : ℕ) → get_or counts k 0 ≤ get_or limits k 0) → (k : ℕ)
    → get_or (set counts i c) k 0 ≤ get_or limits k 0
bounded counts limits i c near le below k = dite (ℕ_discrete k i)
    (λ e. subst (λ (j : ℕ). get_or (set counts i c) j 0 ≤ get_or limits j 0) (sym e) (let g = get_or-set_same counts i c 0 near in omega arith))
    (λ ne. let g = get_or-set_other counts i k c 0 ne in let b = below k in omega arith)

back : (i : ℕ) → (i + 1) - 1 ≡ i
back i = omega arith

pub feeds : (limits : List ℕ) (n id : ℕ) (m : Sat) (i c : ℕ) → m.0.feeds ≡ true → i < length m.0.counts → get_or m.0.counts i 0 ≤ c
    → c ≤ get_or m.0.limits i 0
    → Allows (Kept limits) n id m (i + 1) (λ _. c) (λ _. fed (step n (i + 1) c 0 none) m c)
feeds limits n id m i c it near more fits s r wide at small =
    let k = r.each id m.0 at in let f = k.feeds it in
    let w : Note = note m.0.feeds m.0.limits (set m.0.counts (i + 1 - 1) c) m.0.looks in
    let counts' : List ℕ = set r.counts i c in
    let was : get_or m.0.counts i 0 ≡ get_or r.counts i 0 = ap (λ l. get_or l i 0) f.1 in
    let near' : i < length r.counts = subst (λ l. i < length l) f.1 near in
    let fits' : c ≤ get_or limits i 0 = subst (λ l. c ≤ get_or l i 0) k.limits_are fits in (
      w,
      keeps,
      tt,
      record {
        feeder = r.feeder;
        counts = counts';
        words_are = ap (λ ws. set ws (i + 1) c) r.words_are ∙ (rw add-one refl);
        long = length-set r.counts i c ∙ r.long;
        below = bounded r.counts limits i c near' fits' r.below;
        each = λ seat v e. ⊎_elim
            (λ t. subst (Knows limits counts' r.feeder seat) t.1 record {
              limits_are = k.limits_are;
              long = length-set m.0.counts (i + 1 - 1) c ∙ k.long;
              feeds = λ _. (t.0 ∙ f.0, rw (back, f.1) refl);
              watches = λ wrong j. cc;
            })
            (λ t. let k' = r.each seat v t.1 in
            stays limits r.counts counts' r.feeder seat v (raised r.counts i c (omega arith)) (λ too. absurd (t.0 ((k'.feeds too).0 ∙ sym f.0))) k')
            (at_set s.views id seat w v e);
      },
      refl,
    )

pub looks : (limits : List ℕ) (n id : ℕ) (m : Sat) (i : ℕ) → m.0.feeds ≡ false → i < length m.0.counts
    → Allows (Kept limits) n id m (i + 1) (λ y. y) (looked (step n (i + 1) 0 0 none) m)
looks limits n id m i it near s r wide at small =
    let k = r.each id m.0 at in
    let y : ℕ = get_or s.words (i + 1) 0 in
    let found : y ≡ get_or r.counts i 0 = ap (λ ws. get_or ws (i + 1) 0) r.words_are ∙ (rw add-one refl) in
    let w : Note = note m.0.feeds m.0.limits (set m.0.counts (i + 1 - 1) y) (m.0.looks + 1) in
    let most : y ≤ get_or m.0.limits i 0 = (let b = r.below i in let l : get_or m.0.limits i 0 ≡ get_or limits i 0 = ap (λ l. get_or l i 0) k.limits_are in
    omega arith) in
    let least : get_or m.0.counts i 0 ≤ y = (let b = k.watches it i in omega arith) in (
      w,
      keeps,
      tt,
      record {
        feeder = r.feeder;
        counts = r.counts;
        words_are = set-get_or s.words (i + 1) 0 ∙ r.words_are;
        long = r.long;
        below = r.below;
        each = λ seat v e. ⊎_elim
            (λ t. subst (Knows limits r.counts r.feeder seat) t.1 record {
              limits_are = k.limits_are;
              long = length-set m.0.counts (i + 1 - 1) y ∙ k.long;
              feeds = λ wrong. cc;
              watches = λ _ j. rw back (bounded m.0.counts r.counts i y near (omega arith) (k.watches it) j);
            })
            (λ t. r.each seat v t.1)
            (at_set s.views id seat w v e);
      },
      (refl, rw back most, rw back least),
    )

pub splits : (limits : List ℕ) (id : ℕ) (v : Note) → Splits (Kept limits) id v v (watching v.limits)
splits limits id v s r at = record {
  feeder = r.feeder;
  counts = r.counts;
  words_are = r.words_are;
  long = r.long;
  below = r.below;
  each = λ seat u e. ⊎_elim
      (λ t. ⊎_elim (λ (p : (seat ≡ id) × (v ≡ u)). subst (λ (z : ℕ × Note). Knows limits r.counts r.feeder z.0 z.1) (λ j. (sym p.0 j, p.1 j))
      (r.each id v at)) (λ p. r.each seat u p.1) (at_set s.views id seat v u t))
      (λ t. subst (Knows limits r.counts r.feeder seat) t record {
        limits_are = (r.each id v at).limits_are;
        long = zeros_long v.limits ∙ ap length (r.each id v at).limits_are;
        feeds = λ wrong. cc;
        watches = λ _ i. let z = none_yet v.limits i in omega arith;
      })
      (at_snoc (set s.views id v) (watching v.limits) u seat e);
}

pub near_of : (limits : List ℕ) (i n : ℕ) → n < get_or limits i 0 → i < length limits
near_of [] i n h = absurd (omega arith)
near_of (m ∷ ms) zero n h = omega arith
near_of (m ∷ ms) (suc i) n h = let t = near_of ms i n h in omega arith

-- what the feeder reads is its count
pub reads : (counts items : List ℕ) (i x : ℕ) → items ≡ counts → i < length counts → x ≡ get_or items i x → x ≡ get_or counts i 0
reads counts items i x same near is = is ∙ (ap (λ l. get_or l i x) same ∙ get_or_default counts i x 0 near)

pub one_more : (limits : List ℕ) (i : ℕ) → i < length limits → zeros (take (i + 1) limits) ≡ zeros (take i limits) ++ 0 ∷ []
one_more limits i h = rw add-one (go limits i h)
  where
    go : (limits : List ℕ) (i : ℕ) → i < length limits → zeros (take (suc i) limits) ≡ zeros (take i limits) ++ 0 ∷ []
    go [] i h = absurd (omega arith)
    go (n ∷ ns) zero h = refl
    go (n ∷ ns) (suc i) h = ap (λ l. 0 ∷ l) (go ns i (omega arith))
