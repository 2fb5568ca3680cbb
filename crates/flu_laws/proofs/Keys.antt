-- The keys of tags and of the cells that references mean are in range.
use Rattle.std.proofs.Common.{◌≡◌, ◌≤◌, ◌+◌, ◌-◌, ◌<◌, ℕ, zero, suc, Bool, true, false, Option, Some, None, List, [], ◌∷◌, map, get_or, cond, refl, ◌∙◌, arith}
use Rattle.std.specs.Prelude.{nat_lt, nat_le, ◌==◌, ◌&&◌, ◌||◌, not, slice_get}
use Rattle.std.specs.List.{list_all, flat_map}
use Rattle.std.proofs.lemmas.Bool.{or_left}
use Rattle.std.proofs.lemmas.List.Folds.{list_all-append, list_all-map}
use Rattle.flu_lemmas.proofs.Ranges.{all_below}
use Rattle.flu_lemmas.proofs.Tests.{and_left, and_right, both, true_lt, true_le}
use Rattle.flu_model.specs.declared.events.Event.{Event}
use Rattle.flu_model.specs.declared.events.Itag.{Itag}
use Rattle.flu_model.specs.declared.events.Tag.{Tag}
use Rattle.flu_model.specs.declared.jobs.At.{At}
use Rattle.flu_model.specs.declared.jobs.At.TheVariants.{Alone, OwnKey, OwnItem, Fixed}
use Rattle.flu_model.specs.declared.jobs.CellRef.{CellRef}
use Rattle.flu_model.specs.declared.jobs.Family.{Family}
use Rattle.flu_model.specs.declared.jobs.Kind.{Kind}
use Rattle.flu_model.specs.declared.jobs.Keys.{Keys}
use Rattle.flu_model.specs.declared.jobs.Keys.TheVariants.{Alone as AloneKeys, One, Range}
use Rattle.flu_model.specs.declared.jobs.Program.{Program}
use Rattle.flu_model.specs.declared.jobs.Source.{Source}
use Rattle.flu_model.specs.declared.jobs.TagRef.{TagRef}
use Rattle.flu_model.specs.Contents.{key_count}
use Rattle.flu_model.specs.Expressions.{item_of, key_of, cell_of}
use Rattle.flu_model.specs.Itags.{itags, tag_of_itag}
use Rattle.flu_model.specs.Listing.{tag, listed_keys, listed_tags, tags_of_source, itags_of_sources}
use Rattle.flu_model.specs.Rules.{keys_fit, listed_kind_fits, tag_ref_fits, source_fits, are_sources, key_fits, family_fits, ref_fits}
use Rattle.flu_model.specs.Sorts.{key_is_in, is_cell_of}

-- ---- tags
keys_below : (keyed : Bool) (keys : Keys) → keys_fit keyed keys ≡ true → list_all (λ k. nat_lt k key_count) (listed_keys keys) ≡ true
keys_below keyed AloneKeys e = refl
keys_below keyed (One k) e = both (nat_lt k key_count) true (and_right keyed (nat_lt k key_count) e) refl
keys_below keyed (Range lo hi) e =
    let last : hi < key_count = true_lt hi key_count (and_right (keyed && nat_le lo hi) (nat_lt hi key_count) e) in
    let rises : lo ≤ hi = true_le lo hi (and_right keyed (nat_le lo hi) (and_left (keyed && nat_le lo hi) (nat_lt hi key_count) e)) in
    all_below lo (hi + 1 - lo) key_count (omega (arith, last, rises))

listed_below : (o : Option Kind) (keys : Keys) → listed_kind_fits o keys ≡ true → list_all (λ k. nat_lt k key_count) (listed_keys keys) ≡ true
listed_below None keys e = cc
listed_below (Some k) keys e = keys_below k.keyed keys e

abbrev is_below : Tag → Bool
is_below t = nat_lt t.key key_count

refs_below : (kinds : List Kind) (rs : List TagRef) → list_all (tag_ref_fits kinds) rs ≡ true → list_all is_below (flat_map listed_tags rs) ≡ true
refs_below kinds [] e = refl
refs_below kinds (r ∷ rs) e =
    list_all-append is_below (listed_tags r) (flat_map listed_tags rs)
    ∙ both (list_all is_below (listed_tags r)) _
    (list_all-map is_below (λ k. tag r.kind k) (listed_keys r.keys) ∙ listed_below (slice_get kinds r.kind) r.keys (and_left (tag_ref_fits kinds r) _ e))
    (refs_below kinds rs (and_right (tag_ref_fits kinds r) _ e))

sources_below : (kinds : List Kind) (n : ℕ) (ss : List Source) → are_sources kinds ss ≡ true
    → list_all (λ (e : Tag × ℕ). is_below e.0) (itags_of_sources n ss) ≡ true
sources_below kinds n [] e = refl
sources_below kinds n (s ∷ ss) e =
    list_all-append (λ (e : Tag × ℕ). is_below e.0) (map (λ t. (t, n)) (tags_of_source s)) (itags_of_sources (n + 1) ss)
    ∙ both _ _
    (list_all-map (λ (e : Tag × ℕ). is_below e.0) (λ t. (t, n)) (tags_of_source s) ∙ refs_below kinds s.tags
    (and_right _ _ (and_left _ _ (and_left (source_fits kinds s) _ e))))
    (sources_below kinds (n + 1) ss (and_right (source_fits kinds s) _ e))

one_below : (ts : List (Tag × ℕ)) (i : ℕ) → list_all (λ (e : Tag × ℕ). is_below e.0) ts ≡ true → is_below (get_or ts i (tag 0 0, 0)).0 ≡ true
one_below [] i e = refl
one_below (t ∷ ts) zero e = and_left (is_below t.0) _ e
one_below (t ∷ ts) (suc i) e = one_below ts i (and_right (is_below t.0) _ e)

pub key_in_range : (p : Program) (i : Itag) → nat_lt (tag_of_itag p i).key key_count ≡ true
key_in_range p i = one_below (itags p) i.0 (sources_below p.kinds 0 p.sources p.sources_fit)

-- ---- items
pub item_in_range : (x : Event) → nat_lt (item_of x) key_count ≡ true
item_in_range x =
    elim (nat_lt x.item key_count) as (λ b. nat_lt x.item key_count ≡ b → nat_lt (cond b x.item 0) key_count ≡ true) [
      | true ↦ λ e. e
      | false ↦ λ e. refl
    ] refl

-- ---- references
key_is_there : (keyed own : Bool) (at : At) (key item : ℕ) → nat_lt key key_count ≡ true → nat_lt item key_count ≡ true → key_fits keyed own at ≡ true
    → ((keyed && nat_lt (key_of at key item) key_count) || (not keyed && (key_of at key item == 0))) ≡ true
key_is_there true own Alone key item lt in_items e = cc
key_is_there false own Alone key item lt in_items e = refl
key_is_there true own OwnKey key item lt in_items e = or_left _ _ lt
key_is_there false own OwnKey key item lt in_items e = cc
key_is_there true own OwnItem key item lt in_items e = or_left _ _ in_items
key_is_there false own OwnItem key item lt in_items e = cc
key_is_there true own (Fixed k) key item lt in_items e = or_left _ _ e
key_is_there false own (Fixed k) key item lt in_items e = cc

in_family : (o : Option Family) (own : Bool) (at : At) (key item : ℕ) → nat_lt key key_count ≡ true → nat_lt item key_count ≡ true
    → family_fits o own at ≡ true → key_is_in o (key_of at key item) ≡ true
in_family None own at key item lt in_items e = cc
in_family (Some f) own at key item lt in_items e = key_is_there f.keyed own at key item lt in_items e

-- a reference that fits means a cell of the job, for each tag and each event
pub cell_is_there : (families : List Family) (keyed : Bool) (r : CellRef) (key : ℕ) (x : Event) → nat_lt key key_count ≡ true
    → ref_fits families keyed r ≡ true → is_cell_of families (cell_of r key (item_of x)) ≡ true
cell_is_there families keyed r key x lt e = in_family (slice_get families r.family) keyed r.at key (item_of x) lt (item_in_range x) e
