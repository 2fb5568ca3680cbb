-- Items that are put one before another: what is written of them, what holds of them, and how they are read again item by item.
use Rattle.std.proofs.Common.{◌≡◌, Bool, true, List, [], ◌∷◌, ◌++◌, refl, sym, ap, subst, ◌∙◌, append_assoc}
use Rattle.std.specs.List.{list_all, flat_map}
use Rattle.flu_lemmas.specs.Items.{items_before, lines_before, Pairs, Begins}
use Rattle.flu_lemmas.proofs.Tests.{and_left, and_right}

-- ---- what is written
regroup_items : {A : Type 0} (a b c d e : List A) → a ++ (b ++ ((c ++ d) ++ e)) ≡ (a ++ ((b ++ c) ++ d)) ++ e
regroup_items a b c d e = simp append_assoc

pub items_out : {X R A : Type 0} (item : X → List A → R → R) (between : R → R) (out : R → List A) (text : X → List A) (mark : List A)
    → ((x : X) (behind : List A) (rest : R) → out (item x behind rest) ≡ text x ++ (behind ++ out rest))
    → ((rest : R) → out (between rest) ≡ mark ++ out rest)
    → (x : X) (xs : List X) (behind : List A) (rest : R)
    → out (items_before item [] between x xs behind rest) ≡ (text x ++ flat_map (λ y. mark ++ text y) xs) ++ (behind ++ out rest)
items_out item between out text mark each marked x [] behind rest = rw (each x behind rest) (simp append_assoc)
items_out item between out text mark each marked x (y ∷ ys) behind rest =
    each x [] (between (items_before item [] between y ys behind rest))
    ∙ ap (λ l. text x ++ l) (marked (items_before item [] between y ys behind rest))
    ∙ ap (λ l. text x ++ (mark ++ l)) (items_out item between out text mark each marked y ys behind rest)
    ∙ regroup_items (text x) mark (text y) (flat_map (λ y. mark ++ text y) ys) (behind ++ out rest)

pub lines_out : {X R A : Type 0} (line : X → R → R) (out : R → List A) (text : X → List A) → ((x : X) (rest : R) → out (line x rest) ≡ text x ++ out rest)
    → (xs : List X) (rest : R) → out (lines_before line xs rest) ≡ flat_map text xs ++ out rest
lines_out line out text each [] rest = refl
lines_out line out text each (x ∷ xs) rest = rw (each x (lines_before line xs rest), lines_out line out text each xs rest) (simp append_assoc)

-- ---- what holds
pub items_hold : {X B R : Type 0} (item : X → B → R → R) (none : B) (between : R → R) (test : X → Bool) (P : R → Type 0) (Q : B → R → Type 0)
    → ((x : X) (behind : B) (rest : R) → test x ≡ true → Q behind rest → P (item x behind rest)) → ((rest : R) → P rest → Q none (between rest))
    → (x : X) (xs : List X) (behind : B) (rest : R) → list_all test (x ∷ xs) ≡ true → Q behind rest → P (items_before item none between x xs behind rest)
items_hold item none between test P Q each marked x [] behind rest all q = each x behind rest (and_left (test x) true all) q
items_hold item none between test P Q each marked x (y ∷ ys) behind rest all q =
    each x none (between (items_before item none between y ys behind rest)) (and_left (test x) (list_all test (y ∷ ys)) all)
    (marked (items_before item none between y ys behind rest)
    (items_hold item none between test P Q each marked y ys behind rest (and_right (test x) (list_all test (y ∷ ys)) all) q))

pub lines_hold : {X R : Type 0} (line : X → R → R) (test : X → Bool) (P : R → Type 0) → ((x : X) (rest : R) → test x ≡ true → P rest → P (line x rest))
    → (xs : List X) (rest : R) → list_all test xs ≡ true → P rest → P (lines_before line xs rest)
lines_hold line test P each [] rest all p = p
lines_hold line test P each (x ∷ xs) rest all p =
    each x (lines_before line xs rest) (and_left (test x) (list_all test xs) all)
    (lines_hold line test P each xs rest (and_right (test x) (list_all test xs) all) p)

-- ---- how they are read again
pub begins_append : {S T : Type 0} (is : S → T → Type 0) (a b : List S) (ts more rest : List T) → Begins is a ts more → Begins is b more rest
    → Begins is (a ++ b) ts rest
begins_append is [] b ts more rest first second = subst (λ l. Begins is b l rest) (sym first) second
begins_append is (s ∷ a) b ts more rest first second =
    (first.0, first.1, first.2, first.3, begins_append is a b first.1 more rest first.4 second)

module _ {S T R : Type 0} (matches : S → T → Type 0) (Stand : R → List T → Type 0) where
  -- the list begins with these signs, and what is left stands for what follows
  pub record Took (signs : List S) (r : R) (ts : List T) : Type 0 where
    pub rest : List T
    pub begins : Begins matches signs ts rest
    pub stand : Stand r rest

  pub took_none : (r : R) (ts : List T) → Stand r ts → Took [] r ts
  took_none r ts h = record { rest = ts; begins = refl; stand = h }

  pub took_more : (a b : List S) (q r : R) (ts : List T) → (h : Took a q ts) → Took b r h.rest → Took (a ++ b) r ts
  took_more a b q r ts h more =
      record { rest = more.rest; begins = begins_append matches a b ts h.rest more.rest h.begins more.begins; stand = more.stand }

  -- an item, as it is read
  pub record ItemIs {X W : Type 0} (signs : W → List S) (Means : X → W → Type 0) (x : X) (r : R) (ts : List T) : Type 0 where
    pub written : W
    pub took : Took (signs written) r ts
    pub is : Means x written

  -- items with a sign between each two, as they are read
  pub record ItemsAre {X W : Type 0} (signs : W → List S) (Means : X → W → Type 0) (mark : S) (x : X) (xs : List X) (r : R) (ts : List T) : Type 0 where
    pub first : W
    pub others : List W
    pub took : Took (signs first ++ flat_map (λ w. mark ∷ signs w) others) r ts
    pub are : Pairs Means (x ∷ xs) (first ∷ others)

  no_more : {W : Type 0} (signs : W → List S) (mark : S) (first : W) (r : R) (ts : List T) → Took (signs first) r ts
      → Took (signs first ++ flat_map (λ w. mark ∷ signs w) []) r ts
  no_more signs mark first r ts h = record { rest = h.rest; begins = begins_append matches (signs first) [] ts h.rest h.rest h.begins refl; stand = h.stand }

  pub read_items : {X W B : Type 0} (item : X → B → R → R) (none : B) (between : R → R) (signs : W → List S) (Means : X → W → Type 0)
      (test : X → Bool) (mark : S)
      → ((x : X) (behind : B) (r : R) (ts : List T) → test x ≡ true → Stand (item x behind r) ts → ItemIs signs Means x r ts)
      → ((r : R) (ts : List T) → Stand (between r) ts → (t : T) × (more : List T) × (ts ≡ t ∷ more) × matches mark t × Stand r more)
      → (x : X) (xs : List X) (behind : B) (r : R) (ts : List T) → list_all test (x ∷ xs) ≡ true → Stand (items_before item none between x xs behind r) ts
      → ItemsAre signs Means mark x xs r ts
  read_items item none between signs Means test mark each marked x [] behind r ts all h =
      let first = each x behind r ts (and_left (test x) true all) h in
      record { first = first.written; others = []; took = no_more signs mark first.written r ts first.took; are = (first.is, tt) }
  read_items item none between signs Means test mark each marked x (y ∷ ys) behind r ts all h =
      let first = each x none (between (items_before item none between y ys behind r)) ts (and_left (test x) (list_all test (y ∷ ys)) all) h in
      let sign = marked (items_before item none between y ys behind r) first.took.rest first.took.stand in
      let more = read_items item none between signs Means test mark each marked y ys behind r sign.1 (and_right (test x) (list_all test (y ∷ ys)) all) sign.4 in
      record {
        first = first.written;
        others = more.first ∷ more.others;
        took = record {
          rest = more.took.rest;
          begins = begins_append matches (signs first.written) (mark ∷ (signs more.first ++ flat_map (λ w. mark ∷ signs w) more.others)) ts
              first.took.rest more.took.rest
              first.took.begins (sign.0, sign.1, sign.2, sign.3, more.took.begins);
          stand = more.took.stand;
        };
        are = (first.is, more.are);
      }
