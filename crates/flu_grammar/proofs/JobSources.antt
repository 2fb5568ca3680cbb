-- Dependencies and sources that are found are what they mean, and the other way round.
use Rattle.flu_lemmas.proofs.Searches.{eq_true}
use Rattle.flu_lemmas.proofs.Tests.{true_eq}
use Rattle.std.specs.Prelude.{◌==◌}
use Rattle.std.proofs.Common.{◌^◌}
use Rattle.flu_parse.specs.Naming.{is_version_3}
use Rattle.flu_model.specs.Rules.{file_of_source}
use Rattle.std.specs.List.{filter_map}
use Rattle.std.proofs.Common.{◌≡◌, ◌≢◌, ◌⊎◌, inl, inr, ℕ, ◌+◌, ◌<◌, ◌≤◌, Bool, true, false, List, [], ◌∷◌, ◌++◌}
use Rattle.std.proofs.Common.{map, length, Option, Some, None, Ok, refl, sym, ap, subst, ◌∙◌, append_assoc, arith}
use Rattle.std.specs.Prelude.{not, ◌&&◌, nat_lt, nat_le, slice_get}
use Rattle.std.specs.List.{list_any}
use Rattle.std.proofs.lemmas.List.{append-nil}
use Rattle.flu_lemmas.specs.Items.{Pairs}
use Rattle.flu_lemmas.specs.Totals.{total}
use Rattle.flu_lemmas.proofs.Elements.{fails_at}
use Rattle.flu_lemmas.proofs.Loops.{bind_ok}
use Rattle.flu_lemmas.proofs.Places.{slice_get-behind, slice_get_push}
use Rattle.flu_lemmas.proofs.Tests.{and_left, and_right, both, not_true, true_le, le_true, true_lt, lt_true}
use Rattle.flu_model.specs.declared.limits.What.TheVariants.{Itags, Rate, Slack}
use Rattle.flu_model.specs.declared.jobs.Depend.{Depend}
use Rattle.flu_model.specs.declared.jobs.Keys.{Keys}
use Rattle.flu_model.specs.declared.jobs.Keys.TheVariants as keys
use Rattle.flu_model.specs.declared.jobs.TagRef.{TagRef}
use Rattle.flu_model.specs.declared.jobs.Source.{Source}
use Rattle.flu_model.specs.Listing.{listed_keys}
use Rattle.flu_model.specs.Rules.{is_same_text}
use Rattle.flu_rules.specs.Keys.{share_tag}
use Rattle.flu_text.specs.declared.written.WrittenSpan.{WrittenSpan}
use Rattle.flu_text.specs.declared.written.WrittenNumber.{WrittenNumber}
use Rattle.flu_text.specs.declared.written.WrittenKeys.{WrittenKeys}
use Rattle.flu_text.specs.declared.written.WrittenKeys.TheVariants as w
use Rattle.flu_syntax.specs.declared.tree.WrittenTag.{WrittenTag}
use Rattle.flu_syntax.specs.declared.tree.WrittenRelation.{WrittenRelation}
use Rattle.flu_syntax.specs.declared.tree.WrittenRelation.TheVariants as r
use Rattle.flu_layout.specs.Spelling.{name_of, inside, written_value}
use Rattle.flu_parse.specs.declared.faults.JobFault.TheVariants as f
use Rattle.flu_parse.specs.declared.names.KindHead.{KindHead}
use Rattle.flu_parse.specs.Faults.{Found, ◌>>=◌, ◌>>◌, unless, each}
use Rattle.flu_parse.specs.Naming.{Naming, look_up, known, kind_of}
use Rattle.flu_parse.specs.Cells.{resolved_key}
use Rattle.flu_parse.specs.Listings.{are_bracketed, written_keys, keys_of, tag_count, Listed, with_tag, tags_of, rate_of, slack_of, file_of, period_of}
use Rattle.flu_parse.specs.Listings.{is_tick_head, alone, tick_of}
use Rattle.flu_parse.specs.Resolving.{Drafted, same_of, with_depend, with_source, with_clock}
use Rattle.flu_grammar.specs.Means.{AllDiffer}
use Rattle.flu_grammar.specs.Declared.{DeclaredKind, WrittenDepend, WrittenSource, WrittenClock}
use Rattle.flu_grammar.specs.Sources.{MeansKind, MeansRelation, MeansDepend, MeansListedKeys, MeansTag, MeansNumber, AreApart, MeansSource, MeansClock}
use Rattle.flu_grammar.proofs.Lists.{get_front, get_below, any_none}
use Rattle.flu_grammar.proofs.Looks.{ok_same, ok_ok, passed, passes, binds}
use Rattle.flu_grammar.proofs.Heads.{heads, HeadFound, looked_up, looks_up}
use Rattle.flu_grammar.proofs.JobCells.{known_is, key_is, key_found}
use Rattle.flu_grammar.proofs.JobNames.{kind_name, kind_head}

-- the names of a job know these kinds
pub record KnowKinds (n : Naming) (kinds : List DeclaredKind) : Type 0 where
  pub heads_are : n.kinds ≡ heads kind_name kind_head 0 kinds
  pub differ : AllDiffer (map kind_name kinds)

-- ---- keys and numbers

keys_are : (keyed : Bool) (ks : WrittenKeys) (k : Keys) → are_bracketed keyed ks ≡ true → keys_of ks ≡ Ok k → MeansListedKeys keyed ks k × (written_keys ks ≡ k)
keys_are keyed w.Alone k fits e =
    let same : keys.Alone ≡ k = ok_same keys.Alone k e in
    (subst (λ (x : Keys). MeansListedKeys keyed w.Alone x) same (not_true keyed fits), same)
keys_are keyed (w.One x) k fits e =
    let one = bind_ok (resolved_key x) (λ key. Ok (keys.One key)) k e in
    let same : keys.One one.0 ≡ k = ok_same (keys.One one.0) k one.2 in
    let is = key_is x one.0 one.1 in
    (subst (λ (y : Keys). MeansListedKeys keyed (w.One x) y) same (fits, is), ap keys.One (sym is.0) ∙ same)
keys_are keyed (w.Range lo hi) k fits e =
    let rises = passed (nat_le (written_value lo.value) (written_value hi.value)) (f.WrongShape lo.at)
    (resolved_key lo >>= λ first. resolved_key hi >>= λ last. Ok (keys.Range first last)) k e in
    let one = bind_ok (resolved_key lo) (λ first. resolved_key hi >>= λ last. Ok (keys.Range first last)) k rises.1 in
    let two = bind_ok (resolved_key hi) (λ last. Ok (keys.Range one.0 last)) k one.2 in
    let same : keys.Range one.0 two.0 ≡ k = ok_same (keys.Range one.0 two.0) k two.2 in
    let low = key_is lo one.0 one.1 in
    let high = key_is hi two.0 two.1 in
    let order = true_le (written_value lo.value) (written_value hi.value) rises.0 in
    let low_is = low.0 in
    let high_is = high.0 in
    let rising : one.0 ≤ two.0 = omega (arith, order, low_is, high_is) in
    (subst (λ (y : Keys). MeansListedKeys keyed (w.Range lo hi) y) same (fits, rising, low, high), (λ i. keys.Range (sym low.0 i) (sym high.0 i)) ∙ same)

pub keys_found : (keyed : Bool) (ks : WrittenKeys) (k : Keys) → MeansListedKeys keyed ks k
    → (are_bracketed keyed ks ≡ true) × (keys_of ks ≡ Ok k) × (written_keys ks ≡ k)
keys_found keyed w.Alone keys.Alone h = (ap not h, refl, refl)
keys_found keyed (w.One x) (keys.One k) h = (h.0, ap (λ z. z >>= λ key. Ok (keys.One key)) (key_found x k h.1), ap keys.One (sym h.1.0))
keys_found keyed (w.Range lo hi) (keys.Range a b) h =
    let rises = h.1 in
    let low_is = h.2.0 in
    let high_is = h.3.0 in (
      h.0,
      passes (nat_le (written_value lo.value) (written_value hi.value)) (f.WrongShape lo.at)
          (resolved_key lo >>= λ first. resolved_key hi >>= λ last. Ok (keys.Range first last)) (keys.Range a b)
          (le_true (written_value lo.value) (written_value hi.value) (omega (arith, rises, low_is, high_is)))
          (binds (resolved_key lo) (λ first. resolved_key hi >>= λ last. Ok (keys.Range first last)) a (keys.Range a b) (key_found lo a h.2)
          (ap (λ z. z >>= λ last. Ok (keys.Range a last)) (key_found hi b h.3))),
      λ i. keys.Range (sym low_is i) (sym high_is i),
    )
keys_found keyed w.Alone (keys.One k) h = absurd h
keys_found keyed w.Alone (keys.Range a b) h = absurd h
keys_found keyed (w.One x) keys.Alone h = absurd h
keys_found keyed (w.One x) (keys.Range a b) h = absurd h
keys_found keyed (w.Range lo hi) keys.Alone h = absurd h
keys_found keyed (w.Range lo hi) (keys.One k) h = absurd h

rate_is : (o : Option WrittenNumber) (n : ℕ) → rate_of o ≡ Ok n → MeansNumber 1 1000000000 o n
rate_is None n e = sym (ok_same 1 n e)
rate_is (Some x) n e =
    let one = passed (nat_le (written_value x.value) 1000000000) (f.OverLimit Rate (written_value x.value)) (Ok (written_value x.value)) n e in
    let same : written_value x.value ≡ n = ok_same (written_value x.value) n one.1 in
    (sym same, subst (λ (m : ℕ). m ≤ 1000000000) same (true_le (written_value x.value) 1000000000 one.0))

rate_found : (o : Option WrittenNumber) (n : ℕ) → MeansNumber 1 1000000000 o n → rate_of o ≡ Ok n
rate_found None n h = ok_ok 1 n (sym h)
rate_found (Some x) n h =
    passes (nat_le (written_value x.value) 1000000000) (f.OverLimit Rate (written_value x.value)) (Ok (written_value x.value)) n
    (le_true (written_value x.value) 1000000000 (subst (λ (m : ℕ). m ≤ 1000000000) h.0 h.1)) (ok_ok (written_value x.value) n (sym h.0))

slack_is : (o : Option WrittenNumber) (n : ℕ) → slack_of o ≡ Ok n → MeansNumber 0 60000 o n
slack_is None n e = sym (ok_same 0 n e)
slack_is (Some x) n e =
    let one = passed (nat_le (written_value x.value) 60000) (f.OverLimit Slack (written_value x.value)) (Ok (written_value x.value)) n e in
    let same : written_value x.value ≡ n = ok_same (written_value x.value) n one.1 in
    (sym same, subst (λ (m : ℕ). m ≤ 60000) same (true_le (written_value x.value) 60000 one.0))

slack_found : (o : Option WrittenNumber) (n : ℕ) → MeansNumber 0 60000 o n → slack_of o ≡ Ok n
slack_found None n h = ok_ok 0 n (sym h)
slack_found (Some x) n h =
    passes (nat_le (written_value x.value) 60000) (f.OverLimit Slack (written_value x.value)) (Ok (written_value x.value)) n
    (le_true (written_value x.value) 60000 (subst (λ (m : ℕ). m ≤ 60000) h.0 h.1)) (ok_ok (written_value x.value) n (sym h.0))

-- ---- parts of a list that are apart

pub apart_none : AreApart []
apart_none = λ i j a b lt x y. cc

apart_push : (tags : List TagRef) (t : TagRef) → list_any (share_tag t) tags ≡ false → AreApart tags → AreApart (tags ++ t ∷ [])
apart_push tags t new apart = λ i j a b lt x y. at i j a b lt (slice_get_push tags t i a x) (slice_get_push tags t j b y)
  where
    at : (i j : ℕ) (a b : TagRef) → i < j → (slice_get tags i ≡ Some a) ⊎ ((i ≡ length tags) × (t ≡ a))
        → (slice_get tags j ≡ Some b) ⊎ ((j ≡ length tags) × (t ≡ b)) → share_tag b a ≡ false
    at i j a b lt (inl x) (inl y) = apart i j a b lt x y
    at i j a b lt (inl x) (inr y) = ap (λ (s : TagRef). share_tag s a) (sym y.1) ∙ fails_at (share_tag t) tags i a new x
    at i j a b lt (inr x) (inl y) = let below = get_below tags j b y in let first = x.0 in absurd (omega (arith, below, first, lt))
    at i j a b lt (inr x) (inr y) = let one = x.0 in let two = y.0 in absurd (omega (arith, one, two, lt))

apart_before : (tags : List TagRef) (t : TagRef) (rest : List TagRef) → AreApart (tags ++ t ∷ rest) → list_any (share_tag t) tags ≡ false
apart_before tags t rest apart =
    any_none (share_tag t) tags (λ i a here. apart i (length tags) a t (get_below tags i a here) (get_front tags (t ∷ rest) i a here)
    (slice_get-behind tags t rest))

-- how many tags a part of a list is
abbrev pub part_count : TagRef → ℕ
part_count t = length (listed_keys t.keys)

module _ (text : List ℕ) (n : Naming) (kinds : List DeclaredKind) (knows : KnowKinds n kinds) where
  -- ---- kinds

  pub kind_is : (s : WrittenSpan) (h : KindHead) → kind_of text n s ≡ Ok h → HeadFound kind_name kind_head kinds (name_of text s) 0 h
  kind_is s h e =
      looked_up kind_name kind_head 0 kinds (name_of text s) h (ap (look_up (name_of text s)) (sym knows.heads_are) ∙ known_is s.from (look_up
      (name_of text s) n.kinds) h e)

  pub kind_found : (s : WrittenSpan) (i : ℕ) (k : DeclaredKind) → slice_get kinds i ≡ Some k → k.name ≡ name_of text s → kind_of text n s ≡ Ok (kind_head i k)
  kind_found s i k here named =
      let zero_more : 0 + i ≡ i = omega arith in
      ap (known s.from) ((λ j. look_up (sym named j) (knows.heads_are j)) ∙ looks_up kind_name kind_head 0 kinds i k knows.differ here
      ∙ ap (λ (m : ℕ). Some (kind_head m k)) zero_more)

  abbrev pub kind_means : (s : WrittenSpan) (h : KindHead) → HeadFound kind_name kind_head kinds (name_of text s) 0 h → MeansKind text kinds s h.number
  kind_means s h found =
      let zero_more : found.place ≡ 0 + found.place = omega arith in
      let number : found.place ≡ h.number = zero_more ∙ ap (λ (x : KindHead). x.number) found.is in
      record { kind = found.declared; here = ap (slice_get kinds) (sym number) ∙ found.here; name = found.named }

  -- ---- dependencies

  same_is : (relation : WrittenRelation) (a b : KindHead) (same : Bool) → same_of relation a b ≡ Ok same → MeansRelation a.keyed b.keyed relation same
  same_is r.None a b same e = sym (ok_same false same e)
  same_is r.All a b same e = sym (ok_same false same e)
  same_is (r.Same at) a b same e =
      let one = passed (a.keyed && b.keyed) (f.WrongShape at) (Ok true) same e in
      (sym (ok_same true same one.1), and_left a.keyed b.keyed one.0, and_right a.keyed b.keyed one.0)

  same_found : (relation : WrittenRelation) (a b : KindHead) (same : Bool) → MeansRelation a.keyed b.keyed relation same → same_of relation a b ≡ Ok same
  same_found r.None a b same h = ok_ok false same (sym h)
  same_found r.All a b same h = ok_ok false same (sym h)
  same_found (r.Same at) a b same h = passes (a.keyed && b.keyed) (f.WrongShape at) (Ok true) same (both a.keyed b.keyed h.1 h.2) (ok_ok true same (sym h.0))

  abbrev pub with_one_depend : Drafted → Depend → Drafted
  with_one_depend d x = record d { depends = d.depends ++ x ∷ [] }

  pub depend_is : (d : Drafted) (a b : WrittenSpan) (relation : WrittenRelation) (more : Drafted) → with_depend text n d a b relation ≡ Ok more
      → (x : Depend) × MeansDepend text kinds (record { a = a; b = b; relation = relation }) x × (with_one_depend d x ≡ more)
  unfolding with_depend
  depend_is d a b relation more e =
      let one = bind_ok (kind_of text n a) (λ first. kind_of text n b >>= λ second. same_of relation first second >>= λ same. Ok (record d {
        depends = d.depends ++ record { a = first.number; b = second.number; same = same } ∷ [];
      })) more e in
      let two = bind_ok (kind_of text n b) (λ second. same_of relation one.0 second >>= λ same. Ok (record d {
        depends = d.depends ++ record { a = one.0.number; b = second.number; same = same } ∷ [];
      })) more one.2 in
      let three = bind_ok (same_of relation one.0 two.0) (λ same. Ok (record d {
        depends = d.depends ++ record { a = one.0.number; b = two.0.number; same = same } ∷ [];
      })) more two.2 in
      let x : Depend = record { a = one.0.number; b = two.0.number; same = three.0 } in
      let first = kind_is a one.0 one.1 in
      let second = kind_is b two.0 two.1 in
      let same = same_is relation one.0 two.0 three.0 three.1 in
      let left = subst (λ (k : Bool). MeansRelation k two.0.keyed relation three.0) (ap (λ (h : KindHead). h.keyed) (sym first.is)) same in
      let right = subst (λ (k : Bool). MeansRelation first.declared.keyed k relation three.0) (ap (λ (h : KindHead). h.keyed) (sym second.is)) left in
      (x, record { a = kind_means a one.0 first; b = kind_means b two.0 second; same = right }, ok_same (with_one_depend d x) more three.2)

  pub depend_found : (d : Drafted) (v : WrittenDepend) (x : Depend) → MeansDepend text kinds v x
      → with_depend text n d v.a v.b v.relation ≡ Ok (with_one_depend d x)
  unfolding with_depend
  depend_found d v x is =
      let first = kind_head x.a is.a.kind in
      let second = kind_head x.b is.b.kind in
      binds (kind_of text n v.a) (λ first. kind_of text n v.b >>= λ second. same_of v.relation first second >>= λ same. Ok (record d {
        depends = d.depends ++ record { a = first.number; b = second.number; same = same } ∷ [];
      })) first (with_one_depend d x) (kind_found v.a x.a is.a.kind is.a.here is.a.name)
      (binds (kind_of text n v.b) (λ second. same_of v.relation first second >>= λ same. Ok (record d {
        depends = d.depends ++ record { a = x.a; b = second.number; same = same } ∷ [];
      })) second (with_one_depend d x) (kind_found v.b x.b is.b.kind is.b.here is.b.name)
      (ap (λ z. z >>= λ same. Ok (record d { depends = d.depends ++ record { a = x.a; b = x.b; same = same } ∷ [] }))
      (same_found v.relation first second x.same is.same)))

  -- ---- tags

  abbrev with_one_tag : Listed → TagRef → Listed
  with_one_tag done t = record { tags = done.tags ++ t ∷ []; itags = done.itags + part_count t }

  record OneTag (done : Listed) (v : WrittenTag) (more : Listed) : Type 0 where
    tag : TagRef
    means : MeansTag text kinds v tag
    apart : list_any (share_tag tag) done.tags ≡ false
    few : done.itags + part_count tag ≤ 256
    is : with_one_tag done tag ≡ more

  -- the looks at a tag behind that at its kind
  abbrev tag_looks : Listed → WrittenTag → KindHead → Found Listed
  tag_looks done v kind =
      unless (are_bracketed kind.keyed v.keys) (f.WrongShape v.kind.from)
      >> (unless (nat_le (done.itags + tag_count v.keys) 256) (f.OverLimit Itags 257)
      >> (unless (not (list_any (share_tag (record { kind = kind.number; keys = written_keys v.keys })) done.tags)) (f.TwiceNamed v.kind.from)
      >> (keys_of v.keys >>= λ k. Ok (record { tags = done.tags ++ record { kind = kind.number; keys = k } ∷ []; itags = done.itags + tag_count v.keys }))))

  tag_is : (done : Listed) (v : WrittenTag) (more : Listed) → with_tag text n done v ≡ Ok more → OneTag done v more
  unfolding with_tag
  tag_is done v more e =
      let one = bind_ok (kind_of text n v.kind) (tag_looks done v) more e in
      let h = one.0 in
      let last = keys_of v.keys >>= λ k. Ok (record { tags = done.tags ++ record { kind = h.number; keys = k } ∷ []; itags = done.itags + tag_count v.keys }) in
      let third = unless (not (list_any (share_tag (record { kind = h.number; keys = written_keys v.keys })) done.tags)) (f.TwiceNamed v.kind.from) >> last in
      let a = passed (are_bracketed h.keyed v.keys) (f.WrongShape v.kind.from) (unless (nat_le (done.itags + tag_count v.keys) 256)
      (f.OverLimit Itags 257) >> third)
      more one.2 in
      let b = passed (nat_le (done.itags + tag_count v.keys) 256) (f.OverLimit Itags 257) third more a.1 in
      let c = passed (not (list_any (share_tag (record { kind = h.number; keys = written_keys v.keys })) done.tags)) (f.TwiceNamed v.kind.from) last more b.1 in
      let two = bind_ok (keys_of v.keys) (λ k. Ok
      (record { tags = done.tags ++ record { kind = h.number; keys = k } ∷ []; itags = done.itags + tag_count v.keys })) more c.1 in
      let head = kind_is v.kind h one.1 in
      let ks = keys_are h.keyed v.keys two.0 a.0 two.1 in
      let t : TagRef = record { kind = h.number; keys = two.0 } in
      let many : tag_count v.keys ≡ part_count t = ap (λ (k : Keys). length (listed_keys k)) ks.1 in
      let room_left = true_le (done.itags + tag_count v.keys) 256 b.0 in record {
        tag = t;
        means = record {
          kind = kind_means v.kind h head;
          keys = subst (λ (k : Bool). MeansListedKeys k v.keys two.0) (ap (λ (x : KindHead). x.keyed) (sym head.is)) ks.0;
        };
        apart =
            ap (λ (k : Keys). list_any (share_tag (record { kind = h.number; keys = k })) done.tags) (sym ks.1)
            ∙ not_true (list_any (share_tag (record { kind = h.number; keys = written_keys v.keys })) done.tags) c.0;
        few = omega (arith, many, room_left);
        is = (λ i. record { tags = done.tags ++ t ∷ []; itags = done.itags + sym many i }) ∙ ok_same
            (record { tags = done.tags ++ t ∷ []; itags = done.itags + tag_count v.keys }) more two.2;
      }

  tag_found : (done : Listed) (v : WrittenTag) (t : TagRef) → MeansTag text kinds v t → list_any (share_tag t) done.tags ≡ false
      → done.itags + part_count t ≤ 256
      → with_tag text n done v ≡ Ok (with_one_tag done t)
  unfolding with_tag
  tag_found done v t is apart few =
      let k = is.kind.kind in
      let h = kind_head t.kind k in
      let ks = keys_found k.keyed v.keys t.keys is.keys in
      let many : tag_count v.keys ≡ part_count t = ap (λ (x : Keys). length (listed_keys x)) ks.2 in
      let last : Found Listed = keys_of v.keys >>= λ k. Ok
      (record { tags = done.tags ++ record { kind = t.kind; keys = k } ∷ []; itags = done.itags + tag_count v.keys }) in
      let third : Found Listed = unless (not (list_any (share_tag (record { kind = t.kind; keys = written_keys v.keys })) done.tags))
      (f.TwiceNamed v.kind.from) >> last in
      binds (kind_of text n v.kind) (tag_looks done v) h (with_one_tag done t) (kind_found v.kind t.kind k is.kind.here is.kind.name)
      (passes (are_bracketed k.keyed v.keys) (f.WrongShape v.kind.from) (unless (nat_le (done.itags + tag_count v.keys) 256) (f.OverLimit Itags 257) >> third)
      (with_one_tag done t) ks.0
      (passes (nat_le (done.itags + tag_count v.keys) 256) (f.OverLimit Itags 257) third (with_one_tag done t)
      (le_true (done.itags + tag_count v.keys) 256 (omega (arith, many, few)))
      (passes (not (list_any (share_tag (record { kind = t.kind; keys = written_keys v.keys })) done.tags)) (f.TwiceNamed v.kind.from) last
      (with_one_tag done t)
      (ap (λ (x : Keys). not (list_any (share_tag (record { kind = t.kind; keys = x })) done.tags)) ks.2 ∙ ap not apart)
      (binds (keys_of v.keys) (λ k. Ok (record { tags = done.tags ++ record { kind = t.kind; keys = k } ∷ []; itags = done.itags + tag_count v.keys })) t.keys
      (with_one_tag done t) ks.1
      (ok_ok (record { tags = done.tags ++ t ∷ []; itags = done.itags + tag_count v.keys }) (with_one_tag done t)
      (λ i. record { tags = done.tags ++ t ∷ []; itags = done.itags + many i }))))))

  pub record AllTags (done : Listed) (vs : List WrittenTag) (all : Listed) : Type 0 where
    pub new : List TagRef
    pub tags : done.tags ++ new ≡ all.tags
    pub itags : done.itags + total part_count new ≡ all.itags
    pub means : Pairs (MeansTag text kinds) vs new
    pub apart : AreApart all.tags
    pub few : done.itags ≤ 256 → all.itags ≤ 256

  pub tags_are : (done : Listed) (vs : List WrittenTag) (all : Listed) → each (with_tag text n) done vs ≡ Ok all → AreApart done.tags → AllTags done vs all
  unfolding each
  tags_are done [] all e apart =
      let same : done ≡ all = ok_same done all e in record {
        new = [];
        tags = append-nil done.tags ∙ ap (λ (l : Listed). l.tags) same;
        itags = (let kept = ap (λ (l : Listed). l.itags) same in omega (arith, kept));
        means = tt;
        apart = subst (λ (l : Listed). AreApart l.tags) same apart;
        few = λ le. subst (λ (l : Listed). l.itags ≤ 256) same le;
      }
  tags_are done (v ∷ vs) all e apart =
      let one = bind_ok (with_tag text n done v) (λ t. each (with_tag text n) t vs) all e in
      let tag = tag_is done v one.0 one.1 in
      let grown : done.tags ++ tag.tag ∷ [] ≡ one.0.tags = ap (λ (l : Listed). l.tags) tag.is in
      let counted : done.itags + part_count tag.tag ≡ one.0.itags = ap (λ (l : Listed). l.itags) tag.is in
      let more = tags_are one.0 vs all one.2 (subst (λ (l : List TagRef). AreApart l) grown (apart_push done.tags tag.tag tag.apart apart)) in
      let rest = more.itags in
      let room_left = tag.few in record {
        new = tag.tag ∷ more.new;
        tags = sym (append_assoc done.tags (tag.tag ∷ []) more.new) ∙ ap (λ l. l ++ more.new) grown ∙ more.tags;
        itags = omega (arith, counted, rest);
        means = (tag.means, more.means);
        apart = more.apart;
        few = λ le. more.few (omega (arith, counted, room_left));
      }

  tags_found : (done : Listed) (vs : List WrittenTag) (ts : List TagRef) → Pairs (MeansTag text kinds) vs ts → AreApart (done.tags ++ ts)
      → done.itags + total part_count ts ≤ 256
      → each (with_tag text n) done vs ≡ Ok (record { tags = done.tags ++ ts; itags = done.itags + total part_count ts })
  unfolding each
  tags_found done [] [] h apart few =
      let none : done.itags ≡ done.itags + 0 = omega arith in
      ok_ok done (record { tags = done.tags ++ []; itags = done.itags + 0 }) (λ i. record { tags = sym (append-nil done.tags) i; itags = none i })
  tags_found done [] (t ∷ ts) h apart few = absurd h
  tags_found done (v ∷ vs) [] h apart few = absurd h
  tags_found done (v ∷ vs) (t ∷ ts) h apart few =
      let grouped = append_assoc done.tags (t ∷ []) ts in
      let counted : done.itags + part_count t + total part_count ts ≡ done.itags + (part_count t + total part_count ts) = omega arith in
      binds (with_tag text n done v) (λ x. each (with_tag text n) x vs) (with_one_tag done t)
      (record { tags = done.tags ++ t ∷ ts; itags = done.itags + (part_count t + total part_count ts) })
      (tag_found done v t h.0 (apart_before done.tags t ts apart) (omega arith))
      (tags_found (with_one_tag done t) vs ts h.1 (subst (λ (l : List TagRef). AreApart l) (sym grouped) apart) (omega arith)
      ∙ ok_ok (record { tags = (done.tags ++ t ∷ []) ++ ts; itags = done.itags + part_count t + total part_count ts })
      (record { tags = done.tags ++ t ∷ ts; itags = done.itags + (part_count t + total part_count ts) }) (λ i. record { tags = grouped i; itags = counted i }))

  -- ---- sources

  abbrev pub with_one_source : Drafted → Source → Drafted
  with_one_source d s = record d { sources = d.sources ++ s ∷ []; itags = d.itags + total part_count s.tags }

  pub record OneSource (d : Drafted) (v : WrittenSource) (more : Drafted) : Type 0 where
    pub source : Source
    pub means : MeansSource text kinds v source
    pub own_file : list_any (is_same_text source.file) (filter_map file_of_source d.sources) ≡ false
    pub few : d.itags ≤ 256 → d.itags + total part_count source.tags ≤ 256
    pub is : with_one_source d source ≡ more

  some_bytes : (bs : List ℕ) → 0 < length bs → bs ≢ []
  some_bytes [] some e = omega arith
  some_bytes (b ∷ bs) some e = cc

  bytes_some : (bs : List ℕ) → bs ≢ [] → 0 < length bs
  bytes_some [] some = absurd (some refl)
  bytes_some (b ∷ bs) some = omega arith

  pub source_is : (d : Drafted) (v : WrittenSource) (more : Drafted) → with_source text n d v.name v.file v.rate v.slack v.tags ≡ Ok more → OneSource d v more
  unfolding with_source
  source_is d v more e =
      let made = λ (bytes : List ℕ) (rate slack : ℕ) (listed : Listed). record d {
        sources = d.sources ++ record { name = name_of text v.name; file = bytes; every = None; rate = rate; slack = slack; tags = listed.tags } ∷ [];
        itags = listed.itags;
      } in
      let one = bind_ok (file_of text d.sources v.file)
      (λ bytes. rate_of v.rate >>= λ rate. slack_of v.slack >>= λ slack. tags_of text n d.itags v.tags >>= λ listed. Ok (record d {
        sources = d.sources ++ record { name = name_of text v.name; file = bytes; every = None; rate = rate; slack = slack; tags = listed.tags } ∷ [];
        itags = listed.itags;
      })) more e in
      let two = bind_ok (rate_of v.rate) (λ rate. slack_of v.slack >>= λ slack. tags_of text n d.itags v.tags >>= λ listed. Ok (record d {
        sources = d.sources ++ record { name = name_of text v.name; file = one.0; every = None; rate = rate; slack = slack; tags = listed.tags } ∷ [];
        itags = listed.itags;
      })) more one.2 in
      let three = bind_ok (slack_of v.slack) (λ slack. tags_of text n d.itags v.tags >>= λ listed. Ok (record d {
        sources = d.sources ++ record { name = name_of text v.name; file = one.0; every = None; rate = two.0; slack = slack; tags = listed.tags } ∷ [];
        itags = listed.itags;
      })) more two.2 in
      let four = bind_ok (tags_of text n d.itags v.tags) (λ listed. Ok (record d {
        sources = d.sources ++ record { name = name_of text v.name; file = one.0; every = None; rate = two.0; slack = three.0; tags = listed.tags } ∷ [];
        itags = listed.itags;
      })) more three.2 in
      let last = unless (not (list_any (is_same_text (inside text v.file)) (filter_map file_of_source d.sources))) (f.TwiceNamed v.file.from) >> Ok
      (inside text v.file) in
      let some = passed (nat_lt 0 (length (inside text v.file))) (f.WrongShape v.file.from) last one.0 one.1 in
      let new = passed (not (list_any (is_same_text (inside text v.file)) (filter_map file_of_source d.sources))) (f.TwiceNamed v.file.from) (Ok
      (inside text v.file)) one.0 some.1 in
      let file : inside text v.file ≡ one.0 = ok_same (inside text v.file) one.0 new.1 in
      let none = not_true (list_any (is_same_text (inside text v.file)) (filter_map file_of_source d.sources)) new.0 in
      let tags = tags_are (record { tags = []; itags = d.itags }) v.tags four.0 four.1 apart_none in
      let source : Source = record { name = name_of text v.name; file = one.0; every = None; rate = two.0; slack = three.0; tags = four.0.tags } in
      let listed : total part_count tags.new ≡ total part_count four.0.tags = ap (total part_count) tags.tags in
      let count = tags.itags in
      let counted : d.itags + total part_count four.0.tags ≡ four.0.itags = omega (arith, count, listed) in record {
        source = source;
        means = record {
          name = refl;
          file = sym file;
          some_file = subst (λ (b : List ℕ). b ≢ []) file (some_bytes (inside text v.file) (true_lt 0 (length (inside text v.file)) some.0));
          no_period = refl;
          rate = rate_is v.rate two.0 two.1;
          slack = slack_is v.slack three.0 three.1;
          tags = subst (λ (l : List TagRef). Pairs (MeansTag text kinds) v.tags l) tags.tags tags.means;
          apart = tags.apart;
        };
        own_file = ap (λ (b : List ℕ). list_any (is_same_text b) (filter_map file_of_source d.sources)) (sym file) ∙ none;
        few = λ le. (let most = tags.few le in omega (arith, most, counted));
        is = (λ i. record d { sources = d.sources ++ source ∷ []; itags = counted i }) ∙ ok_same (made one.0 two.0 three.0 four.0) more four.2;
      }

  pub source_found : (d : Drafted) (v : WrittenSource) (s : Source) → MeansSource text kinds v s
      → list_any (is_same_text s.file) (filter_map file_of_source d.sources) ≡ false → d.itags + total part_count s.tags ≤ 256
      → with_source text n d v.name v.file v.rate v.slack v.tags ≡ Ok (with_one_source d s)
  unfolding with_source
  source_found d v s is own few =
      let last = unless (not (list_any (is_same_text (inside text v.file)) (filter_map file_of_source d.sources))) (f.TwiceNamed v.file.from) >> Ok
      (inside text v.file) in
      let file : file_of text d.sources v.file ≡ Ok s.file =
      passes (nat_lt 0 (length (inside text v.file))) (f.WrongShape v.file.from) last s.file
      (lt_true 0 (length (inside text v.file)) (bytes_some (inside text v.file) (subst (λ (b : List ℕ). b ≢ []) is.file is.some_file)))
      (passes (not (list_any (is_same_text (inside text v.file)) (filter_map file_of_source d.sources))) (f.TwiceNamed v.file.from)
      (Ok (inside text v.file)) s.file
      (ap (λ (b : List ℕ). not (list_any (is_same_text b) (filter_map file_of_source d.sources))) (sym is.file) ∙ ap not own) (ok_ok (inside text v.file) s.file
      (sym is.file))) in
      let listed : Listed = record { tags = s.tags; itags = d.itags + total part_count s.tags } in
      binds (file_of text d.sources v.file)
      (λ bytes. rate_of v.rate >>= λ rate. slack_of v.slack >>= λ slack. tags_of text n d.itags v.tags >>= λ listed. Ok (record d {
        sources = d.sources ++ record { name = name_of text v.name; file = bytes; every = None; rate = rate; slack = slack; tags = listed.tags } ∷ [];
        itags = listed.itags;
      })) s.file (with_one_source d s) file
      (binds (rate_of v.rate) (λ rate. slack_of v.slack >>= λ slack. tags_of text n d.itags v.tags >>= λ listed. Ok (record d {
        sources = d.sources ++ record { name = name_of text v.name; file = s.file; every = None; rate = rate; slack = slack; tags = listed.tags } ∷ [];
        itags = listed.itags;
      })) s.rate (with_one_source d s) (rate_found v.rate s.rate is.rate)
      (binds (slack_of v.slack) (λ slack. tags_of text n d.itags v.tags >>= λ listed. Ok (record d {
        sources = d.sources ++ record { name = name_of text v.name; file = s.file; every = None; rate = s.rate; slack = slack; tags = listed.tags } ∷ [];
        itags = listed.itags;
      })) s.slack (with_one_source d s) (slack_found v.slack s.slack is.slack)
      (binds (tags_of text n d.itags v.tags) (λ listed. Ok (record d {
        sources = d.sources ++ record { name = name_of text v.name; file = s.file; every = None; rate = s.rate; slack = s.slack; tags = listed.tags } ∷ [];
        itags = listed.itags;
      })) listed (with_one_source d s) (tags_found (record { tags = []; itags = d.itags }) v.tags s.tags is.tags is.apart few)
      (ok_ok (record d {
        sources = d.sources ++ record {
          name = name_of text v.name;
          file = s.file;
          every = None;
          rate = s.rate;
          slack = s.slack;
          tags = s.tags;
        } ∷ [];
        itags = d.itags + total part_count s.tags;
      })
      (with_one_source d s)
      (λ i. record d {
        sources = d.sources ++ record { name = sym is.name i; file = s.file; every = sym is.no_period i; rate = s.rate; slack = s.slack; tags = s.tags } ∷ [];
        itags = d.itags + total part_count s.tags;
      })))))

  -- ---- clocks

  -- the one tag of a clock
  one_part : (ts : List TagRef) (tag : WrittenSpan) → Pairs (MeansTag text kinds) (alone tag ∷ []) ts
      → (t : TagRef) × (ts ≡ t ∷ []) × MeansTag text kinds (alone tag) t
  one_part [] tag h = absurd h
  one_part (t ∷ []) tag h = (t, refl, h.0)
  one_part (t ∷ u ∷ ts) tag h = absurd h.1

  record OneTick (itags : ℕ) (tag : WrittenSpan) (listed : Listed) : Type 0 where
    number : ℕ
    kind : MeansKind text kinds tag number
    ticks : is_tick_head (kind_head number kind.kind) ≡ true
    tags : listed.tags ≡ record { kind = number; keys = keys.Alone } ∷ []
    counted : itags + total part_count listed.tags ≡ listed.itags
    few : itags ≤ 256 → listed.itags ≤ 256

  tick_is : (itags : ℕ) (tag : WrittenSpan) (listed : Listed) → tick_of text n itags tag ≡ Ok listed → OneTick itags tag listed
  tick_is itags tag listed e =
      let one = bind_ok (kind_of text n tag) (λ kind. unless (is_tick_head kind) (f.WrongShape tag.from) >> tags_of text n itags (alone tag ∷ [])) listed e in
      let two = passed (is_tick_head one.0) (f.WrongShape tag.from) (tags_of text n itags (alone tag ∷ [])) listed one.2 in
      let tags = tags_are (record { tags = []; itags = itags }) (alone tag ∷ []) listed two.1 apart_none in
      let part = one_part tags.new tag tags.means in
      let t = part.0 in
      let kind : MeansKind text kinds tag t.kind = part.2.kind in
      let found = kind_found tag t.kind kind.kind kind.here kind.name in
      let same : one.0 ≡ kind_head t.kind kind.kind = ok_same one.0 (kind_head t.kind kind.kind) (sym one.1 ∙ found) in
      let keys_are : keys.Alone ≡ t.keys = (keys_found kind.kind.keyed w.Alone t.keys part.2.keys).2 in
      let tag_is : t ≡ record { kind = t.kind; keys = keys.Alone } = (λ i. record { kind = t.kind; keys = sym keys_are i }) in
      let new : tags.new ≡ record { kind = t.kind; keys = keys.Alone } ∷ [] = part.1 ∙ ap (λ (r : TagRef). r ∷ []) tag_is in
      let all : listed.tags ≡ tags.new = sym tags.tags in
      let many : total part_count tags.new ≡ total part_count listed.tags = ap (total part_count) (sym all) in
      let count = tags.itags in
      record {
        number = t.kind;
        kind = kind;
        ticks = subst (λ (h : KindHead). is_tick_head h ≡ true) same two.0;
        tags = all ∙ new;
        counted = omega (arith, count, many);
        few = tags.few;
      }

  pub record OneClock (d : Drafted) (v : WrittenClock) (more : Drafted) : Type 0 where
    pub source : Source
    pub means : MeansClock text kinds v source
    pub third : n.version ≡ 3
    pub few : d.itags ≤ 256 → d.itags + total part_count source.tags ≤ 256
    pub is : with_one_source d source ≡ more

  pub clock_is : (d : Drafted) (at : ℕ) (v : WrittenClock) (more : Drafted) → with_clock text n d at v.name v.every v.rate v.tag ≡ Ok more → OneClock d v more
  unfolding with_clock
  clock_is d at v more e =
      let made = λ (period rate : ℕ) (listed : Listed). record d {
        sources = d.sources ++ record { name = name_of text v.name; file = []; every = Some period; rate = rate; slack = 0; tags = listed.tags } ∷ [];
        itags = listed.itags;
      } in
      let last = λ (period rate : ℕ). tick_of text n d.itags v.tag >>= λ listed. Ok (record d {
        sources = d.sources ++ record { name = name_of text v.name; file = []; every = Some period; rate = rate; slack = 0; tags = listed.tags } ∷ [];
        itags = listed.itags;
      }) in
      let one = passed (is_version_3 n) (f.WrongShape at) (period_of v.every >>= λ period. rate_of v.rate >>= λ rate. last period rate) more e in
      let two = bind_ok (period_of v.every) (λ period. rate_of v.rate >>= λ rate. last period rate) more one.1 in
      let three = bind_ok (rate_of v.rate) (λ rate. last two.0 rate) more two.2 in
      let four = bind_ok (tick_of text n d.itags v.tag) (λ listed. Ok (record d {
        sources = d.sources ++ record { name = name_of text v.name; file = []; every = Some two.0; rate = three.0; slack = 0; tags = listed.tags } ∷ [];
        itags = listed.itags;
      })) more three.2 in
      let value = written_value v.every.value in
      let within = passed (nat_le 1 value && nat_le value (2 ^ 62)) (f.WrongShape v.every.at) (Ok value) two.0 two.1 in
      let period : value ≡ two.0 = ok_same value two.0 within.1 in
      let tick = tick_is d.itags v.tag four.0 four.1 in
      let k = tick.kind.kind in
      let front = and_left (not k.keyed && not k.has_item) (not k.has_value) tick.ticks in
      let source : Source = record { name = name_of text v.name; file = []; every = Some two.0; rate = three.0; slack = 0; tags = four.0.tags } in
      let counted = tick.counted in record {
        source = source;
        means = record {
          name = refl;
          no_file = refl;
          period = ap (λ (m : ℕ). Some m) (sym period);
          some_period = true_le 1 value (and_left (nat_le 1 value) (nat_le value (2 ^ 62)) within.0);
          few_period = true_le value (2 ^ 62) (and_right (nat_le 1 value) (nat_le value (2 ^ 62)) within.0);
          rate = rate_is v.rate three.0 three.1;
          slack = refl;
          number = tick.number;
          kind = tick.kind;
          no_key = not_true k.keyed (and_left (not k.keyed) (not k.has_item) front);
          no_item = not_true k.has_item (and_right (not k.keyed) (not k.has_item) front);
          no_value = not_true k.has_value (and_right (not k.keyed && not k.has_item) (not k.has_value) tick.ticks);
          tags = tick.tags;
        };
        third = true_eq n.version 3 one.0;
        few = λ le. (let most = tick.few le in omega (arith, most, counted));
        is = (λ i. record d { sources = d.sources ++ source ∷ []; itags = counted i }) ∙ ok_same (made two.0 three.0 four.0) more four.2;
      }

  tick_found : (itags : ℕ) (tag : WrittenSpan) (number : ℕ) (kind : MeansKind text kinds tag number) → kind.kind.keyed ≡ false
      → kind.kind.has_item ≡ false → kind.kind.has_value ≡ false
      → itags + total part_count (record { kind = number; keys = keys.Alone } ∷ []) ≤ 256
      → tick_of text n itags tag ≡ Ok (record {
        tags = record { kind = number; keys = keys.Alone } ∷ [];
        itags = itags + total part_count (record { kind = number; keys = keys.Alone } ∷ []);
      })
  tick_found itags tag number kind no_key no_item no_value few =
      let t : TagRef = record { kind = number; keys = keys.Alone } in
      let listed : Listed = record { tags = t ∷ []; itags = itags + total part_count (t ∷ []) } in
      let head = kind_head number kind.kind in
      let k = kind.kind in
      let ticks : is_tick_head head ≡ true = (λ i. not (no_key i) && not (no_item i) && not (no_value i)) in
      binds (kind_of text n tag) (λ kind. unless (is_tick_head kind) (f.WrongShape tag.from) >> tags_of text n itags (alone tag ∷ [])) head listed
      (kind_found tag number k kind.here kind.name)
      (passes (is_tick_head head) (f.WrongShape tag.from) (tags_of text n itags (alone tag ∷ [])) listed ticks
      (tags_found (record { tags = []; itags = itags }) (alone tag ∷ []) (t ∷ []) (record { kind = kind; keys = no_key }, tt)
      (apart_push [] t refl apart_none) few))

  pub clock_found : (d : Drafted) (at : ℕ) (v : WrittenClock) (s : Source) → MeansClock text kinds v s → n.version ≡ 3
      → d.itags + total part_count s.tags ≤ 256 → with_clock text n d at v.name v.every v.rate v.tag ≡ Ok (with_one_source d s)
  unfolding with_clock
  clock_found d at v s is third few =
      let value = written_value v.every.value in
      let t : TagRef = record { kind = is.number; keys = keys.Alone } in
      let listed : Listed = record { tags = t ∷ []; itags = d.itags + total part_count (t ∷ []) } in
      let within : (nat_le 1 value && nat_le value (2 ^ 62)) ≡ true =
      both (nat_le 1 value) (nat_le value (2 ^ 62)) (le_true 1 value is.some_period) (le_true value (2 ^ 62) is.few_period) in
      let last = λ (period rate : ℕ). tick_of text n d.itags v.tag >>= λ listed. Ok (record d {
        sources = d.sources ++ record { name = name_of text v.name; file = []; every = Some period; rate = rate; slack = 0; tags = listed.tags } ∷ [];
        itags = listed.itags;
      }) in
      passes (is_version_3 n) (f.WrongShape at) (period_of v.every >>= λ period. rate_of v.rate >>= λ rate. last period rate) (with_one_source d s)
      (eq_true n.version 3 third)
      (binds (period_of v.every) (λ period. rate_of v.rate >>= λ rate. last period rate) value (with_one_source d s)
      (passes (nat_le 1 value && nat_le value (2 ^ 62)) (f.WrongShape v.every.at) (Ok value) value within refl)
      (binds (rate_of v.rate) (λ rate. last value rate) s.rate (with_one_source d s) (rate_found v.rate s.rate is.rate)
      (binds (tick_of text n d.itags v.tag) (λ listed. Ok (record d {
        sources = d.sources ++ record { name = name_of text v.name; file = []; every = Some value; rate = s.rate; slack = 0; tags = listed.tags } ∷ [];
        itags = listed.itags;
      })) listed (with_one_source d s)
      (tick_found d.itags v.tag is.number is.kind is.no_key is.no_item is.no_value
      (subst (λ (ts : List TagRef). d.itags + total part_count ts ≤ 256) is.tags few))
      (ok_ok (record d {
        sources = d.sources ++ record { name = name_of text v.name; file = []; every = Some value; rate = s.rate; slack = 0; tags = t ∷ [] } ∷ [];
        itags = d.itags + total part_count (t ∷ []);
      })
      (with_one_source d s)
      (λ i. record d {
        sources = d.sources ++ record {
          name = sym is.name i;
          file = sym is.no_file i;
          every = sym is.period i;
          rate = s.rate;
          slack = sym is.slack i;
          tags = sym is.tags i;
        } ∷ [];
        itags = d.itags + total part_count (sym is.tags i);
      })))))
