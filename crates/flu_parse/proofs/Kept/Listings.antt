-- Sources that are read keep the rules: their names, files and rates, and the tags that they list.
use Rattle.std.proofs.Common.{◌≡◌, ℕ, ◌+◌, ◌<◌, ◌≤◌, Bool, true, false, List, [], ◌∷◌, ◌++◌, map, length, Option, Some, None, Ok, refl, sym, ap, subst, ◌∙◌}
use Rattle.std.proofs.Common.{arith}
use Rattle.std.specs.Prelude.{◌&&◌, ◌==◌, ◌^◌, ◌≢◌, not, nat_lt, nat_le, slice_get, option_map}
use Rattle.std.specs.List.{list_all, list_any, filter_map, flat_map}
use Rattle.std.proofs.lemmas.List.{length-append, length-map, append-nil}
use Rattle.std.proofs.lemmas.Option.{slice_get-map}
use Rattle.flu_lemmas.specs.Totals.{total}
use Rattle.flu_lemmas.proofs.Elements.{list_all_push}
use Rattle.flu_lemmas.proofs.Numbers.{met_either_way}
use Rattle.flu_lemmas.proofs.Tests.{both, lt_true, le_true, true_le, not_true}
use Rattle.flu_lemmas.proofs.Loops.{bind_ok, each-keeps-any, each-counts}
use Rattle.flu_model.specs.declared.limits.What.TheVariants.{Itags, Rate, Slack}
use Rattle.flu_model.specs.declared.jobs.Keys.{Keys}
use Rattle.flu_model.specs.declared.jobs.Keys.TheVariants as keys
use Rattle.flu_model.specs.declared.jobs.TagRef.{TagRef}
use Rattle.flu_model.specs.declared.jobs.Source.{Source}
use Rattle.flu_model.specs.Listing.{tag, listed_keys, listed_tags, tags_of_source}
use Rattle.flu_model.specs.Rules.{is_file_text, is_same_tag, is_same_text, are_distinct, keys_fit, file_of_source}
use Rattle.flu_names.specs.Names.{is_name, is_text_byte}
use Rattle.flu_rules.specs.Keys.{first_key, last_key, share_tag, TagsMeet, TagsDiffer}
use Rattle.flu_text.specs.declared.written.WrittenSpan.{WrittenSpan}
use Rattle.flu_text.specs.declared.written.WrittenNumber.{WrittenNumber}
use Rattle.flu_text.specs.declared.written.WrittenKeys.{WrittenKeys}
use Rattle.flu_text.specs.declared.written.WrittenKeys.TheVariants as w
use Rattle.flu_syntax.specs.declared.tree.WrittenTag.{WrittenTag}
use Rattle.flu_layout.specs.Spelling.{name_of, inside, written_value}
use Rattle.flu_layout.specs.Stands.{IsQuoted}
use Rattle.flu_parse.specs.declared.faults.JobFault.TheVariants as f
use Rattle.flu_parse.specs.declared.names.KindHead.{KindHead}
use Rattle.flu_parse.specs.Naming.{Naming, look_up, known}
use Rattle.flu_parse.specs.Cells.{resolved_key}
use Rattle.flu_parse.specs.Faults.{each}
use Rattle.flu_parse.specs.Listings.{are_bracketed, written_keys, keys_of, tag_count, Listed, with_tag, tags_of, rate_of, slack_of, file_of, period_of}
use Rattle.flu_parse.specs.Listings.{is_tick_head, alone, tick_of}
use Rattle.flu_parse.proofs.Distinct.{distinct_with}
use Rattle.flu_parse.proofs.Looks.{passed}
use Rattle.flu_parse.proofs.Kept.Plain.{keys_fit_at, lists_kind, is_source, keyed_at, ticks_kind}
use Rattle.flu_parse.proofs.Kept.Names.{Numbered, kind_number, at_number}
use Rattle.flu_parse.proofs.Kept.Terms.{was_known, key_kept}

-- ---- keys
keys_kept : (keyed : Bool) (ks : WrittenKeys) (found : Keys) → are_bracketed keyed ks ≡ true → keys_of ks ≡ Ok found
    → (written_keys ks ≡ found) × (keys_fit keyed found ≡ true)
keys_kept keyed w.Alone found fits e = let same : keys.Alone ≡ found = cc in (same, ap (keys_fit keyed) (sym same) ∙ fits)
keys_kept keyed (w.One k) found fits e =
    let one = bind_ok (resolved_key k) (λ key. Ok (keys.One key)) found e in
    let same : keys.One one.0 ≡ found = cc in
    let kept = key_kept k one.0 one.1 in
    (ap keys.One kept.1 ∙ same, ap (keys_fit keyed) (sym same) ∙ both keyed (nat_lt one.0 65536) fits kept.0)
keys_kept keyed (w.Range lo hi) found fits e =
    let rising = passed (nat_le (written_value lo.value) (written_value hi.value)) (f.WrongShape lo.at) _ found e in
    let one = bind_ok (resolved_key lo) _ found rising.1 in
    let two = bind_ok (resolved_key hi) (λ last. Ok (keys.Range one.0 last)) found one.2 in
    let same : keys.Range one.0 two.0 ≡ found = cc in
    let low = key_kept lo one.0 one.1 in
    let high = key_kept hi two.0 two.1 in
    let rises : nat_le one.0 two.0 ≡ true = sym (λ i. nat_le (low.1 i) (high.1 i)) ∙ rising.0 in (
      (λ i. keys.Range (low.1 i) (high.1 i)) ∙ same,
      ap (keys_fit keyed) (sym same)
          ∙ both (keyed && nat_le one.0 two.0) (nat_lt two.0 65536) (both keyed (nat_le one.0 two.0) fits rises) high.0,
    )

-- ---- tags
pub share_symm : TagsMeet → (a b : TagRef) → share_tag a b ≡ share_tag b a
share_symm meet a b = meet a b ∙ met_either_way a.kind b.kind (first_key a.keys) (first_key b.keys) (last_key a.keys) (last_key b.keys) ∙ sym (meet b a)

-- no tag is listed twice where no two parts of the list have one in common
distinct_more : TagsMeet → TagsDiffer → (rs : List TagRef) (r : TagRef) → are_distinct is_same_tag (flat_map listed_tags rs) ≡ true
    → list_any (share_tag r) rs ≡ false → are_distinct is_same_tag (flat_map listed_tags (rs ++ r ∷ [])) ≡ true
distinct_more meet differ rs r apart other =
    let none : rs ++ [] ≡ rs = append-nil rs in
    differ (rs ++ r ∷ [])
    ∙ distinct_with share_tag (share_symm meet) rs [] r (ap (are_distinct share_tag) none ∙ sym (differ rs) ∙ apart) (ap (list_any (share_tag r)) none ∙ other)

-- how many tags a part of a list has
count_more : (rs : List TagRef) (r : TagRef) → length (flat_map listed_tags (rs ++ r ∷ [])) ≡ length (flat_map listed_tags rs) + length (listed_keys r.keys)
count_more [] r = ap length (append-nil (listed_tags r)) ∙ length-map (listed_keys r.keys) (λ k. tag r.kind k) ∙ omega arith
count_more (q ∷ rs) r =
    let rest = count_more rs r in
    let all = length-append (listed_tags q) (flat_map listed_tags (rs ++ r ∷ [])) in
    let before = length-append (listed_tags q) (flat_map listed_tags rs) in
    omega (arith, rest, all, before)

abbrev pub files_in : List Source → List (List ℕ)
files_in sources = filter_map file_of_source sources

module _ (text : List ℕ) (n : Naming) (numbered : Numbered kind_number 0 n.kinds) where
  -- which kinds are keyed
  abbrev pub keyed_heads : List Bool
  keyed_heads = map (λ h. h.1.keyed) n.kinds

  -- a kind that is looked up is declared at its number
  pub kind_at : (name : List ℕ) (head : KindHead) → look_up name n.kinds ≡ Some head → slice_get keyed_heads head.number ≡ Some head.keyed
  kind_at name head e =
      let h = at_number kind_number n.kinds name head numbered e in
      slice_get-map (λ h. h.1.keyed) n.kinds head.number ∙ ap (option_map (λ h. h.1.keyed)) h.1 ∙ ap (λ (x : KindHead). Some x.keyed) h.2

  -- and which of them may tick
  abbrev pub ticking_heads : List Bool
  ticking_heads = map (λ h. is_tick_head h.1) n.kinds

  ticking_at : (name : List ℕ) (head : KindHead) → look_up name n.kinds ≡ Some head → slice_get ticking_heads head.number ≡ Some (is_tick_head head)
  ticking_at name head e =
      let h = at_number kind_number n.kinds name head numbered e in
      slice_get-map (λ h. is_tick_head h.1) n.kinds head.number ∙ ap (option_map (λ h. is_tick_head h.1)) h.1 ∙ ap (λ (x : KindHead). Some (is_tick_head x)) h.2

  -- What the tags keep that a source lists so far, where the sources before it list so many.
  record ListKeeps (before : ℕ) (l : Listed) : Type 0 where
    fit : list_all (lists_kind keyed_heads) l.tags ≡ true
    distinct : are_distinct is_same_tag (flat_map listed_tags l.tags) ≡ true
    count : l.itags ≡ before + length (flat_map listed_tags l.tags)
    few : l.itags ≤ 256

  -- what is listed with one reference more
  added_tag : (l : Listed) (t : WrittenTag) (next : Listed) → with_tag text n l t ≡ Ok next
      → (head : KindHead) × (found : Keys) × (look_up (name_of text t.kind) n.kinds ≡ Some head) × (written_keys t.keys ≡ found)
      × (keys_fit head.keyed found ≡ true)
      × (l.itags + tag_count t.keys ≤ 256) × (list_any (share_tag (record { kind = head.number; keys = found })) l.tags ≡ false)
      × (record { tags = l.tags ++ record { kind = head.number; keys = found } ∷ []; itags = l.itags + tag_count t.keys } ≡ next)
  unfolding with_tag
  added_tag l t next e =
      let one = bind_ok (known t.kind.from (look_up (name_of text t.kind) n.kinds)) _ next e in
      let bracketed = passed (are_bracketed one.0.keyed t.keys) (f.WrongShape t.kind.from) _ next one.2 in
      let few = passed (nat_le (l.itags + tag_count t.keys) 256) (f.OverLimit Itags 257) _ next bracketed.1 in
      let fresh = passed (not (list_any (share_tag (record { kind = one.0.number; keys = written_keys t.keys })) l.tags))
      (f.TwiceNamed t.kind.from) _ next few.1 in
      let two = bind_ok (keys_of t.keys)
      (λ ks. Ok (record { tags = l.tags ++ record { kind = one.0.number; keys = ks } ∷ []; itags = l.itags + tag_count t.keys })) next fresh.1 in
      let kept = keys_kept one.0.keyed t.keys two.0 bracketed.0 two.1 in (
        one.0,
        two.0,
        was_known t.kind.from (look_up (name_of text t.kind) n.kinds) one.0 one.1,
        kept.0,
        kept.1,
        true_le (l.itags + tag_count t.keys) 256 few.0,
        ap (λ (ks : Keys). list_any (share_tag (record { kind = one.0.number; keys = ks })) l.tags) (sym kept.0)
            ∙ not_true (list_any (share_tag (record { kind = one.0.number; keys = written_keys t.keys })) l.tags) fresh.0,
        cc,
      )

  one_more : TagsMeet → TagsDiffer → (before : ℕ) (l : Listed) (t : WrittenTag) (next : Listed) → ListKeeps before l → with_tag text n l t ≡ Ok next
      → ListKeeps before next
  one_more meet differ before l t next keep e =
      let a = added_tag l t next e in
      let r : TagRef = record { kind = a.0.number; keys = a.1 } in
      let fits : lists_kind keyed_heads r ≡ true = ap (λ o. keys_fit_at o a.1) (kind_at (name_of text t.kind) a.0 a.2) ∙ a.4 in
      let many : tag_count t.keys ≡ length (listed_keys a.1) = ap (λ (ks : Keys). length (listed_keys ks)) a.3 in
      let counted = count_more l.tags r in
      subst (ListKeeps before) a.7 (
      record {
        fit = list_all_push (lists_kind keyed_heads) l.tags r keep.fit fits;
        distinct = distinct_more meet differ l.tags r keep.distinct a.6;
        count = omega (arith, keep.count, many, counted);
        few = a.5;
      }
      )

  longer : (l : Listed) (t : WrittenTag) (next : Listed) → with_tag text n l t ≡ Ok next → length next.tags ≡ length l.tags + 1
  longer l t next e =
      let a = added_tag l t next e in
      ap (λ (m : Listed). length m.tags) (sym a.7) ∙ length-append l.tags (record { kind = a.0.number; keys = a.1 } ∷ [])

  -- the tags of a source
  tags_kept : TagsMeet → TagsDiffer → (before : ℕ) (ts : List WrittenTag) (l : Listed) → before ≤ 256 → tags_of text n before ts ≡ Ok l → ListKeeps before l
  tags_kept meet differ before ts l few e =
      each-keeps-any (with_tag text n) (ListKeeps before) (one_more meet differ before) (record { tags = []; itags = before }) ts l
      (record { fit = refl; distinct = refl; count = omega arith; few = few }) e

  some_tags : (before : ℕ) (ts : List WrittenTag) (l : Listed) → ts ≢ [] → tags_of text n before ts ≡ Ok l → 0 < length l.tags
  some_tags before [] l some e = absurd (some refl)
  some_tags before (t ∷ ts) l some e =
      let count : length l.tags ≡ 0 + (1 + total (λ (x : WrittenTag). 1) ts) =
      each-counts (with_tag text n) (λ (m : Listed). length m.tags) (λ (x : WrittenTag). 1) longer (record { tags = []; itags = before }) (t ∷ ts) l e in
      omega (arith, count)

  rate_kept : (written : Option WrittenNumber) (rate : ℕ) → rate_of written ≡ Ok rate → rate ≤ 1000000000
  rate_kept None rate e = let same : 1 ≡ rate = cc in omega arith
  rate_kept (Some r) rate e =
      let h = passed (nat_le (written_value r.value) 1000000000) (f.OverLimit Rate (written_value r.value)) (Ok (written_value r.value)) rate e in
      let same : written_value r.value ≡ rate = cc in
      let le = true_le (written_value r.value) 1000000000 h.0 in
      omega arith

  slack_kept : (written : Option WrittenNumber) (slack : ℕ) → slack_of written ≡ Ok slack → slack ≤ 60000
  slack_kept None slack e = let same : 0 ≡ slack = cc in omega arith
  slack_kept (Some r) slack e =
      let h = passed (nat_le (written_value r.value) 60000) (f.OverLimit Slack (written_value r.value)) (Ok (written_value r.value)) slack e in
      let same : written_value r.value ≡ slack = cc in
      let le = true_le (written_value r.value) 60000 h.0 in
      omega arith

  -- a file that no source before reads
  file_kept : (sources : List Source) (s : WrittenSpan) (file : List ℕ) → IsQuoted text s → file_of text sources s ≡ Ok file
      → (is_file_text file ≡ true) × (list_any (is_same_text file) (files_in sources) ≡ false)
  file_kept sources s file within e =
      let bytes = inside text s in
      let some = passed (nat_lt 0 (length bytes)) (f.WrongShape s.from) _ file e in
      let fresh = passed (not (list_any (is_same_text bytes) (files_in sources))) (f.TwiceNamed s.from) (Ok bytes) file some.1 in
      let same : bytes ≡ file = cc in
      subst (λ (t : List ℕ). (is_file_text t ≡ true) × (list_any (is_same_text t) (files_in sources) ≡ false)) same (
        both (nat_lt 0 (length bytes) && nat_le (length bytes) 256) (list_all is_text_byte bytes)
            (both (nat_lt 0 (length bytes)) (nat_le (length bytes) 256) some.0 (le_true (length bytes) 256 within.short)) within.bytes,
        not_true (list_any (is_same_text bytes) (files_in sources)) fresh.0,
      )

  -- the period of a clock
  period_kept : (written : WrittenNumber) (period : ℕ) → period_of written ≡ Ok period → (nat_le 1 period && nat_le period (2 ^ 62)) ≡ true
  period_kept written period e =
      let value = written_value written.value in
      let within : Bool = nat_le 1 value && nat_le value (2 ^ 62) in
      let h = passed within (f.WrongShape written.at) (Ok value) period e in
      let same : value ≡ period = cc in
      ap (λ p. nat_le 1 p && nat_le p (2 ^ 62)) (sym same) ∙ h.0

  -- the tag of a clock is of a kind that may tick
  record TickKeeps (before : ℕ) (l : Listed) : Type 0 where
    list : ListKeeps before l
    one : length l.tags ≡ 1
    ticks : list_all (ticks_kind ticking_heads) l.tags ≡ true

  one_ticks : (before : ℕ) (tag : WrittenSpan) (kind : KindHead) (l : Listed) → look_up (name_of text tag) n.kinds ≡ Some kind → is_tick_head kind ≡ true
      → with_tag text n (record { tags = []; itags = before }) (alone tag) ≡ Ok l → list_all (ticks_kind ticking_heads) l.tags ≡ true
  one_ticks before tag kind l known ticks e =
      let a = added_tag (record { tags = []; itags = before }) (alone tag) l e in
      let same : kind ≡ a.0 = cc in
      let at : slice_get ticking_heads a.0.number ≡ Some (is_tick_head a.0) = ticking_at (name_of text tag) a.0 a.2 in
      ap (λ (m : Listed). list_all (ticks_kind ticking_heads) m.tags) (sym a.7)
      ∙ ap (λ o. keyed_at o && true) at ∙ ap (λ (h : KindHead). is_tick_head h && true) (sym same) ∙ ap (λ b. b && true) ticks

  first_only : (before : ℕ) (tag : WrittenSpan) (l : Listed) → tags_of text n before (alone tag ∷ []) ≡ Ok l
      → with_tag text n (record { tags = []; itags = before }) (alone tag) ≡ Ok l
  unfolding each
  first_only before tag l e =
      let h = bind_ok (with_tag text n (record { tags = []; itags = before }) (alone tag)) (λ s. each (with_tag text n) s []) l e in
      let same : h.0 ≡ l = cc in
      subst (λ (m : Listed). with_tag text n (record { tags = []; itags = before }) (alone tag) ≡ Ok m) same h.1

  tick_kept : TagsMeet → TagsDiffer → (before : ℕ) (tag : WrittenSpan) (l : Listed) → before ≤ 256 → tick_of text n before tag ≡ Ok l → TickKeeps before l
  tick_kept meet differ before tag l few e =
      let one = bind_ok (known tag.from (look_up (name_of text tag) n.kinds)) _ l e in
      let two = passed (is_tick_head one.0) (f.WrongShape tag.from) (tags_of text n before (alone tag ∷ [])) l one.2 in
      let found = was_known tag.from (look_up (name_of text tag) n.kinds) one.0 one.1 in
      let count : length l.tags ≡ 0 + (1 + total (λ (x : WrittenTag). 1) []) =
      each-counts (with_tag text n) (λ (m : Listed). length m.tags) (λ (x : WrittenTag). 1) longer (record { tags = []; itags = before })
      (alone tag ∷ []) l two.1 in
      record {
        list = tags_kept meet differ before (alone tag ∷ []) l few two.1;
        one = omega (arith, count);
        ticks = one_ticks before tag one.0 l found two.0 (first_only before tag l two.1);
      }

  -- What a source is that is read, where the sources before it list so many tags.
  pub record IsRead (before : ℕ) (sources : List Source) (s : Source) (itags : ℕ) : Type 0 where
    pub fits : is_source keyed_heads ticking_heads s ≡ true
    pub fresh : list_any (is_same_text s.file) (files_in sources) ≡ false
    pub count : itags ≡ before + length (tags_of_source s)
    pub few : itags ≤ 256

  pub source_kept : TagsMeet → TagsDiffer
      → (before : ℕ) (sources : List Source) (name file : WrittenSpan) (written late : Option WrittenNumber) (ts : List WrittenTag)
      (bytes : List ℕ) (rate slack : ℕ) (l : Listed)
      → is_name (name_of text name) ≡ true → IsQuoted text file → ts ≢ [] → before ≤ 256
      → file_of text sources file ≡ Ok bytes → rate_of written ≡ Ok rate → slack_of late ≡ Ok slack → tags_of text n before ts ≡ Ok l
      → IsRead before sources (record { name = name_of text name; file = bytes; every = None; rate = rate; slack = slack; tags = l.tags }) l.itags
  source_kept meet differ before sources name file written late ts bytes rate slack l named within some few by_file by_rate by_slack by_tags =
      let kept = tags_kept meet differ before ts l few by_tags in
      let filed = file_kept sources file bytes within by_file in
      let is_named = is_name (name_of text name) in
      let has_file = is_file_text bytes in
      let has_rate = nat_le rate 1000000000 in
      let has_slack = nat_le slack 60000 in
      let has_tags = nat_lt 0 (length l.tags) in
      let lists = list_all (lists_kind keyed_heads) l.tags in
      let differs = are_distinct is_same_tag (flat_map listed_tags l.tags) in
      let one = both is_named has_file named filed.0 in
      let two = both (is_named && has_file) has_rate one (le_true rate 1000000000 (rate_kept written rate by_rate)) in
      let three = both (is_named && has_file && has_rate) has_slack two (le_true slack 60000 (slack_kept late slack by_slack)) in
      let four = both (is_named && has_file && has_rate && has_slack) has_tags three (lt_true 0 (length l.tags) (some_tags before ts l some by_tags)) in
      let five = both (is_named && has_file && has_rate && has_slack && has_tags) lists four kept.fit in
      record {
        fits = both (is_named && has_file && has_rate && has_slack && has_tags && lists) differs five kept.distinct;
        fresh = filed.1;
        count = kept.count;
        few = kept.few;
      }

  -- What a clock is that is read.
  pub record IsTicking (before : ℕ) (s : Source) (itags : ℕ) : Type 0 where
    pub fits : is_source keyed_heads ticking_heads s ≡ true
    pub count : itags ≡ before + length (tags_of_source s)
    pub few : itags ≤ 256

  pub clock_kept : TagsMeet → TagsDiffer
      → (before : ℕ) (name : WrittenSpan) (every : WrittenNumber) (written : Option WrittenNumber) (tag : WrittenSpan) (period rate : ℕ) (l : Listed)
      → is_name (name_of text name) ≡ true → before ≤ 256 → period_of every ≡ Ok period → rate_of written ≡ Ok rate → tick_of text n before tag ≡ Ok l
      → IsTicking before (record { name = name_of text name; file = []; every = Some period; rate = rate; slack = 0; tags = l.tags }) l.itags
  clock_kept meet differ before name every written tag period rate l named few by_period by_rate by_tag =
      let kept = tick_kept meet differ before tag l few by_tag in
      let is_named = is_name (name_of text name) in
      let within : Bool = nat_le 1 period && nat_le period (2 ^ 62) in
      let is_one : Bool = length l.tags == 1 in
      let ticks : Bool = list_all (ticks_kind ticking_heads) l.tags in
      let origin : Bool = within && true && true && is_one && ticks in
      let has_rate = nat_le rate 1000000000 in
      let has_tags = nat_lt 0 (length l.tags) in
      let lists = list_all (lists_kind keyed_heads) l.tags in
      let differs = are_distinct is_same_tag (flat_map listed_tags l.tags) in
      let one_is : is_one ≡ true = ap (λ k. k == 1) kept.one in
      let has_origin : origin ≡ true = both (within && true && true && is_one) ticks (both (within && true && true) is_one
      (both (within && true) true (both within true (period_kept every period by_period) refl) refl) one_is) kept.ticks in
      let one = both is_named origin named has_origin in
      let two = both (is_named && origin) has_rate one (le_true rate 1000000000 (rate_kept written rate by_rate)) in
      let three = both (is_named && origin && has_rate) true two refl in
      let four = both (is_named && origin && has_rate && true) has_tags three (lt_true 0 (length l.tags) (omega (arith, kept.one))) in
      let five = both (is_named && origin && has_rate && true && has_tags) lists four kept.list.fit in
      record {
        fits = both (is_named && origin && has_rate && true && has_tags && lists) differs five kept.list.distinct;
        count = kept.list.count;
        few = kept.list.few;
      }
