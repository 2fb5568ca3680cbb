-- The tags of a source in normal form are read as what was printed.
use Rattle.std.proofs.Common.{◌≡◌, ◌≤◌, ◌+◌, ℕ, pos, Bool, true, false, ◌||◌, List, [], ◌∷◌, ◌++◌, length, Some, Ok, refl, sym, ap, ◌∙◌, append_assoc}
use Rattle.std.proofs.Common.{length-append, arith}
use Rattle.std.specs.Prelude.{nat_lt, nat_le, not, slice_get}
use Rattle.std.specs.List.{list_all, list_any, flat_map}
use Rattle.std.specs.Str.{IsUtf8}
use Rattle.std.proofs.lemmas.List.{append-nil, length-map}
use Rattle.std.proofs.lemmas.List.Folds.{list_any-append}
use Rattle.flu_lemmas.proofs.Tests.{and_left, and_right, le_true, not_true}
use Rattle.flu_lemmas.proofs.Booleans.{or_false_left, or_false_right}
use Rattle.flu_lemmas.proofs.Items.{Took, ItemIs}
use Rattle.flu_lemmas.specs.Items.{Pairs}
use Rattle.flu_text.specs.declared.words.Token.{Token}
use Rattle.flu_text.specs.Layout.{Piece as Laid}
use Rattle.flu_model.specs.declared.limits.What.TheVariants.{Key, Itags}
use Rattle.flu_model.specs.declared.jobs.Keys.{Keys}
use Rattle.flu_model.specs.declared.jobs.Keys.TheVariants as keys
use Rattle.flu_model.specs.declared.jobs.TagRef.{TagRef}
use Rattle.flu_model.specs.Contents.{key_count}
use Rattle.flu_model.specs.Erasure.{PlainKind}
use Rattle.flu_model.specs.Listing.{tag, listed_keys, listed_tags}
use Rattle.flu_model.specs.Rules.{keys_fit, are_distinct}
use Rattle.flu_rules.specs.Keys.{share_tag, TagsMeet}
use Rattle.flu_text.specs.declared.written.WrittenKeys.{WrittenKeys}
use Rattle.flu_text.specs.declared.written.WrittenKeys.TheVariants as w
use Rattle.flu_syntax.specs.declared.tree.WrittenTag.{WrittenTag}
use Rattle.flu_text.specs.Signs.{is_name_word, span_of}
use Rattle.flu_text.specs.Signs.{IsSign}
use Rattle.flu_text.specs.Signs.{keys_signs}
use Rattle.flu_syntax.specs.Grammar.{tag_signs}
use Rattle.flu_names.specs.Names.{is_name}
use Rattle.flu_layout.specs.Lists.{keys_words}
use Rattle.flu_layout.specs.Stands.{Stand}
use Rattle.flu_parse.specs.declared.faults.JobFault.TheVariants as f
use Rattle.flu_parse.specs.declared.names.KindHead.{KindHead}
use Rattle.flu_parse.specs.Faults.{Found, ◌>>=◌, ◌>>◌, unless, each}
use Rattle.flu_parse.specs.Naming.{Naming, look_up, known, kind_of}
use Rattle.flu_parse.specs.Listings.{are_bracketed, written_keys, keys_of, tag_count, Listed, with_tag}
use Rattle.flu_parse.specs.Printing.{kind_name}
use Rattle.flu_parse.proofs.Kept.Listings.{share_symm}
use Rattle.flu_parse.proofs.Printed.Rules.{plain_tag_fits}
use Rattle.flu_parse.proofs.Printed.Words.{tag_words}
use Rattle.flu_parse.proofs.Printed.LaidLines.{tag_at, low_high, low_small}
use Rattle.flu_parse.specs.Cells.{resolved_key}

abbrev pub kind_head : ℕ → PlainKind → KindHead
kind_head i k = record { number = i; keyed = k.keyed; has_item = k.has_item; has_value = k.has_value }

-- each kind is looked up by its name
abbrev pub KindsKnown : List PlainKind → Naming → Type 0
KindsKnown kinds n = (i : ℕ) (k : PlainKind) → slice_get kinds i ≡ Some k → look_up k.name n.kinds ≡ Some (kind_head i k)

key_is : (k : ℕ) (at : ℕ) → nat_lt k key_count ≡ true → resolved_key (record { value = pos k; at = at }) ≡ Ok k
key_is k at small = ap (λ b. unless b (f.OverLimit Key k) >> Ok k) small

-- the tags of a list of references
abbrev pub all_tags : List TagRef → ℕ
all_tags ts = length (flat_map listed_tags ts)

-- a reference shares no tag with one before it
none_shared : TagsMeet → (done : List TagRef) (t : TagRef) (ts : List TagRef) → are_distinct share_tag (done ++ t ∷ ts) ≡ true
    → list_any (share_tag t) done ≡ false
none_shared meet [] t ts h = refl
none_shared meet (d ∷ done) t ts h =
    let later : Bool = list_any (share_tag d) (done ++ t ∷ ts) in
    let rest : Bool = are_distinct share_tag (done ++ t ∷ ts) in
    let none : list_any (share_tag d) (done ++ t ∷ ts) ≡ false = not_true later (and_left (not later) rest h) in
    let split : (list_any (share_tag d) done || (share_tag d t || list_any (share_tag d) ts)) ≡ false = sym (list_any-append (share_tag d) done (t ∷ ts))
    ∙ none in
    let here : share_tag d t ≡ false = or_false_left (share_tag d t) (list_any (share_tag d) ts)
    (or_false_right (list_any (share_tag d) done) (share_tag d t || list_any (share_tag d) ts) split) in
    ap (λ b. b || list_any (share_tag t) done) (share_symm meet t d ∙ here) ∙ none_shared meet done t ts (and_right (not later) rest h)

module _ (whole : List ℕ) (utf8 : IsUtf8 whole) (kinds : List PlainKind) (named_kinds : list_all (λ (k : PlainKind). is_name k.name) kinds ≡ true)
    (n : Naming) (known_kinds : KindsKnown kinds n) where
  -- keys that were printed, as they are read
  record KeysAre (ks : Keys) (keyed : Bool) (rest : List Laid) (ts : List Token) : Type 0 where
    written : WrittenKeys
    took : Took IsSign (Stand whole) (keys_signs written) rest ts
    bracketed : are_bracketed keyed written ≡ true
    same : written_keys written ≡ ks
    means : keys_of written ≡ Ok ks

  read_keys : (ks : Keys) (keyed : Bool) (behind : List ℕ) (rest : List Laid) (ts : List Token) → keys_fit keyed ks ≡ true
      → Stand whole (keys_words ks behind rest) ts → KeysAre ks keyed rest ts
  read_keys keys.Alone keyed behind rest ts fits h = record {
    written = w.Alone;
    took = record { rest = ts; begins = refl; stand = h };
    bracketed =
        fits;
    same = refl;
    means = refl;
  }
  read_keys (keys.One k) keyed behind rest ts fits h = record {
    written = w.One (record { value = pos k; at = h.4.0.from });
    took = record {
      rest = h.4.4.1;
      begins = (
        h.0,
        h.1,
        h.2,
        h.3.word,
        (
          h.4.0,
          h.4.1,
          h.4.2,
          (h.4.3.word, refl),
          (h.4.4.0, h.4.4.1, h.4.4.2, h.4.4.3.word, refl),
        ),
      );
      stand = h.4.4.4;
    };
    bracketed = and_left keyed (nat_lt k key_count) fits;
    same = refl;
    means = ap (λ (found : Found ℕ). found >>= λ key. Ok (keys.One key)) (key_is k h.4.0.from (and_right keyed (nat_lt k key_count) fits));
  }
  read_keys (keys.Range low high) keyed behind rest ts fits h =
      let ends = low_high keyed low high fits in
      let a = h.4 in
      let dots = a.4 in
      let b = dots.4 in
      let close = b.4 in
      record {
        written = w.Range (record { value = pos low; at = a.0.from }) (record { value = pos high; at = b.0.from });
        took = record {
          rest = close.1;
          begins = (
            h.0,
            h.1,
            h.2,
            h.3.word,
            (
              a.0,
              a.1,
              a.2,
              (a.3.word, refl),
              (dots.0, dots.1, dots.2, dots.3.word, (b.0, b.1, b.2, (b.3.word, refl), (close.0, close.1, close.2, close.3.word, refl))),
            ),
          );
          stand = close.4;
        };
        bracketed = ends.keyed_is;
        same = refl;
        means =
            ap (λ t. unless t (f.WrongShape a.0.from) >> (resolved_key (record { value = pos low; at = a.0.from }) >>=
            λ first. resolved_key (record { value = pos high; at = b.0.from }) >>= λ last. Ok (keys.Range first last))) ends.rises
            ∙ ap (λ (found : Found ℕ). found >>= λ first. resolved_key (record { value = pos high; at = b.0.from }) >>= λ last. Ok (keys.Range first last))
            (key_is low a.0.from (low_small low high ends.rises ends.small))
            ∙ ap (λ (found : Found ℕ). found >>= λ last. Ok (keys.Range low last)) (key_is high b.0.from ends.small);
      }

  -- a tag reference that was written means this one
  pub record Lists (t : TagRef) (v : WrittenTag) : Type 0 where
    pub kind : PlainKind
    pub found : slice_get kinds t.kind ≡ Some kind
    pub looked : kind_of whole n v.kind ≡ Ok (kind_head t.kind kind)
    pub bracketed : are_bracketed kind.keyed v.keys ≡ true
    pub same : written_keys v.keys ≡ t.keys
    pub means : keys_of v.keys ≡ Ok t.keys

  pub read_tag : (t : TagRef) (behind : List ℕ) (rest : List Laid) (ts : List Token) → plain_tag_fits kinds t ≡ true
      → Stand whole (tag_words kinds t behind rest) ts → ItemIs IsSign (Stand whole) tag_signs Lists t rest ts
  read_tag t behind rest ts fits h =
      let at_kind = tag_at kinds t fits in
      let k = read_keys t.keys at_kind.kind.keyed behind rest h.1 at_kind.fits h.4 in
      let span = span_of h.0 in
      record {
        written = record { kind = span; keys = k.written };
        took = record { rest = k.took.rest; begins = (h.0, h.1, h.2, (ap is_name_word h.3.word, refl, refl), k.took.begins); stand = k.took.stand };
        is = record {
          kind = at_kind.kind;
          found = at_kind.found;
          looked =
              ap (λ name. known span.from (look_up name n.kinds)) (h.3.named refl ∙ ap kind_name at_kind.found)
              ∙ ap (known span.from) (known_kinds t.kind at_kind.kind at_kind.found);
          bracketed = k.bracketed;
          same = k.same;
          means = k.means;
        };
      }

  -- the tags of a source in order
  pub list_all_tags : TagsMeet → (done ts : List TagRef) (vs : List WrittenTag) (itags : ℕ) → itags + all_tags ts ≤ 256
      → are_distinct share_tag (done ++ ts) ≡ true → Pairs Lists ts vs
      → each (with_tag whole n) (record { tags = done; itags = itags }) vs ≡ Ok (record { tags = done ++ ts; itags = itags + all_tags ts })
  unfolding each with_tag
  list_all_tags meet done [] [] itags few apart h =
      ap (λ tags. Ok (let l : Listed = record { tags = tags; itags = itags } in l)) (sym (append-nil done))
      ∙ ap (λ m. Ok (let l : Listed = record { tags = done ++ []; itags = m } in l)) (let same : itags ≡ itags + 0 = omega arith in same)
  list_all_tags meet done [] (v ∷ vs) itags few apart h = absurd h
  list_all_tags meet done (t ∷ ts) [] itags few apart h = absurd h
  list_all_tags meet done (t ∷ ts) (v ∷ vs) itags few apart h =
      let l = h.0 in
      let count : tag_count v.keys ≡ length (listed_tags t) = ap (λ ks. length (listed_keys ks)) l.same
      ∙ sym (length-map (listed_keys t.keys) (λ k. tag t.kind k)) in
      let sizes : all_tags (t ∷ ts) ≡ length (listed_tags t) + all_tags ts = length-append (listed_tags t) (flat_map listed_tags ts) in
      let room : nat_le (itags + tag_count v.keys) 256 ≡ true = le_true (itags + tag_count v.keys) 256 (omega (arith, few, count, sizes)) in
      let new : List TagRef = done ++ t ∷ [] in
      let more : ℕ = itags + tag_count v.keys in
      let unshared : not (list_any (share_tag (record { kind = t.kind; keys = written_keys v.keys })) done) ≡ true =
      ap (λ ks. not (list_any (share_tag (record { kind = t.kind; keys = ks })) done)) l.same ∙ ap not (none_shared meet done t ts apart) in
      let end : Keys → Found Listed = λ keys. Ok (record { tags = done ++ record { kind = t.kind; keys = keys } ∷ []; itags = more }) in
      let step : with_tag whole n (record { tags = done; itags = itags }) v ≡ Ok (record { tags = new; itags = more }) =
      ap (λ (found : Found KindHead). found >>= λ kind. unless (are_bracketed kind.keyed v.keys) (f.WrongShape v.kind.from) >>
      (unless (nat_le more 256) (f.OverLimit Itags 257) >> (unless (not
      (list_any (share_tag (record { kind = kind.number; keys = written_keys v.keys })) done)) (f.TwiceNamed v.kind.from) >>
      (keys_of v.keys >>= λ keys. Ok (let r : Listed = record { tags = done ++ record { kind = kind.number; keys = keys } ∷ []; itags = more } in
      r))))) l.looked
      ∙ ap (λ b. unless b (f.WrongShape v.kind.from) >> (unless (nat_le more 256) (f.OverLimit Itags 257) >>
      (unless (not (list_any (share_tag (record { kind = t.kind; keys = written_keys v.keys })) done)) (f.TwiceNamed v.kind.from) >>
      (keys_of v.keys >>= end)))) l.bracketed
      ∙ ap (λ b. unless b (f.OverLimit Itags 257) >> (unless (not (list_any (share_tag (record { kind = t.kind; keys = written_keys v.keys })) done))
      (f.TwiceNamed v.kind.from) >> (keys_of v.keys >>= end))) room
      ∙ ap (λ b. unless b (f.TwiceNamed v.kind.from) >> (keys_of v.keys >>= end)) unshared
      ∙ ap (λ (found : Found Keys). found >>= end) l.means in
      let apart_more : are_distinct share_tag (new ++ ts) ≡ true = ap (are_distinct share_tag) (append_assoc done (t ∷ []) ts) ∙ apart in
      ap (λ (found : Found Listed). found >>= λ s. each (with_tag whole n) s vs) step
      ∙ list_all_tags meet new ts vs more (omega (arith, few, count, sizes)) apart_more h.1
      ∙ ap (λ tags. Ok (let r : Listed = record { tags = tags; itags = more + all_tags ts } in r)) (append_assoc done (t ∷ []) ts)
      ∙ ap (λ m. Ok (let r : Listed = record { tags = done ++ t ∷ ts; itags = m } in r))
      (let same : more + all_tags ts ≡ itags + all_tags (t ∷ ts) = omega (arith, count, sizes) in same)
