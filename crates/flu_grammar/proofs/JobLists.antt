-- Lists of names that are found are what is written, and the other way round; and families and kinds with the lists that name their keys
-- and items.
use Rattle.std.proofs.Common.{◌≡◌, ℕ, suc, ◌+◌, ◌<◌, ◌≤◌, true, false, List, [], ◌∷◌, ◌++◌, map, length}
use Rattle.std.proofs.Common.{Option, Some, None, Ok, refl, sym, ap, subst, ◌∙◌, append_assoc, arith}
use Rattle.std.specs.Prelude.{not, nat_lt, slice_get, position}
use Rattle.std.specs.List.{list_any, list_all}
use Rattle.std.specs.Str.{bytes_eq}
use Rattle.std.proofs.lemmas.List.{append-nil, length-map}
use Rattle.flu_lemmas.specs.Items.{Pairs}
use Rattle.flu_lemmas.proofs.Bytes.{bytes_itself, bytes_is}
use Rattle.flu_lemmas.proofs.Elements.{fails_at, passes_at, list_all_push}
use Rattle.flu_lemmas.proofs.Loops.{bind_ok}
use Rattle.flu_lemmas.proofs.Places.{slice_get-behind, position_passes}
use Rattle.flu_lemmas.proofs.Searches.{eq_true}
use Rattle.flu_lemmas.proofs.Tests.{false_if_not, lt_true, not_both, not_true, true_eq, true_lt}
use Rattle.flu_model.specs.declared.jobs.Family.{Family}
use Rattle.flu_model.specs.declared.limits.What.TheVariants.{Names as NamesLimit}
use Rattle.flu_model.specs.Contents.{key_count}
use Rattle.flu_model.specs.Erasure.{PlainKind}
use Rattle.flu_model.specs.ListRules.{is_listed_text}
use Rattle.flu_model.specs.Numberings.{Numbering}
use Rattle.flu_text.specs.declared.written.WrittenSpan.{WrittenSpan}
use Rattle.flu_syntax.specs.declared.tree.WrittenBy.{WrittenBy}
use Rattle.flu_layout.specs.Spelling.{name_of, inside}
use Rattle.flu_parse.specs.declared.faults.JobFault.TheVariants as f
use Rattle.flu_parse.specs.Faults.{Found, ◌>>=◌, ◌>>◌, unless, room, each}
use Rattle.flu_parse.specs.Lists.{with_text, list_of, listed_families, listed_kinds}
use Rattle.flu_parse.specs.Naming.{Naming, is_version_3, known}
use Rattle.flu_grammar.specs.Means.{AllDiffer, IfWritten}
use Rattle.flu_grammar.specs.Declared.{WrittenNames, IsListIn}
use Rattle.flu_grammar.specs.Jobs.{MeansNames, MeansList, without_list}
use Rattle.flu_grammar.proofs.Lists.{get_front, get_below, differ_none, differ_push, any_none, position_only}
use Rattle.flu_grammar.proofs.Looks.{ok_same, ok_ok, passed, passes, binds}
use Rattle.flu_grammar.proofs.JobCells.{known_is}

-- ---- the texts of a list

-- texts that a list may have, no two the same, and not too many
pub record ListedTexts (texts : List (List ℕ)) : Type 0 where
  pub allowed : list_all is_listed_text texts ≡ true
  pub differ : AllDiffer texts
  pub few : length texts ≤ key_count

pub no_texts : ListedTexts []
no_texts = record { allowed = refl; differ = differ_none; few = omega arith }

module _ (text : List ℕ) where
  -- what is looked at before a text is taken
  record TextFits (done : List (List ℕ)) (s : WrittenSpan) : Type 0 where
    allowed : is_listed_text (inside text s) ≡ true
    few : length done < 65536
    new : list_any (bytes_eq (inside text s)) done ≡ false

  text_is : (done : List (List ℕ)) (s : WrittenSpan) (more : List (List ℕ)) → with_text text done s ≡ Ok more
      → TextFits done s × (done ++ inside text s ∷ [] ≡ more)
  unfolding with_text
  text_is done s more e =
      let t = inside text s in
      let last : Found (List (List ℕ)) = Ok (done ++ t ∷ []) in
      let third : Found (List (List ℕ)) = unless (not (list_any (bytes_eq t) done)) (f.TwiceNamed s.from) >> last in
      let second : Found (List (List ℕ)) = room NamesLimit 65536 (length done) >> third in
      let one = passed (is_listed_text t) (f.WrongShape s.from) second more e in
      let two = passed (nat_lt (length done) 65536) (f.OverLimit NamesLimit 65537) third more one.1 in
      let three = passed (not (list_any (bytes_eq t) done)) (f.TwiceNamed s.from) last more two.1 in (
        record {
          allowed = one.0;
          few = true_lt (length done) 65536 two.0;
          new = not_true (list_any (bytes_eq t) done) three.0;
        },
        ok_same (done ++ t ∷ []) more three.1,
      )

  text_found : (done : List (List ℕ)) (s : WrittenSpan) → TextFits done s → with_text text done s ≡ Ok (done ++ inside text s ∷ [])
  unfolding with_text
  text_found done s fits =
      let t = inside text s in
      let more = done ++ t ∷ [] in
      let last : Found (List (List ℕ)) = Ok (done ++ t ∷ []) in
      let third : Found (List (List ℕ)) = unless (not (list_any (bytes_eq t) done)) (f.TwiceNamed s.from) >> last in
      let second : Found (List (List ℕ)) = room NamesLimit 65536 (length done) >> third in
      passes (is_listed_text t) (f.WrongShape s.from) second more fits.allowed
      (passes (nat_lt (length done) 65536) (f.OverLimit NamesLimit 65537) third more (lt_true (length done) 65536 fits.few)
      (passes (not (list_any (bytes_eq t) done)) (f.TwiceNamed s.from) last more (ap not fits.new) refl))

  text_taken : (done : List (List ℕ)) (s : WrittenSpan) → TextFits done s → ListedTexts done → ListedTexts (done ++ inside text s ∷ [])
  text_taken done s fits listed =
      let t = inside text s in
      let many = length_push done t in
      let few = fits.few in record {
        allowed = list_all_push is_listed_text done t listed.allowed fits.allowed;
        differ =
            differ_push done t (λ i here. not_both (bytes_eq t t) (bytes_itself t) (fails_at (bytes_eq t) done i t fits.new here)) listed.differ;
        few = omega (arith, many, few);
      }
    where
      length_push : (xs : List (List ℕ)) (x : List ℕ) → length (xs ++ x ∷ []) ≡ length xs + 1
      length_push [] x = omega arith
      length_push (y ∷ xs) x = let more = length_push xs x in omega (arith, more)

  pub texts_are : (done : List (List ℕ)) (ss : List WrittenSpan) (all : List (List ℕ)) → each (with_text text) done ss ≡ Ok all → ListedTexts done
      → (all ≡ done ++ map (inside text) ss) × ListedTexts all
  unfolding each
  texts_are done [] all e listed =
      let same : done ≡ all = ok_same done all e in
      (sym same ∙ sym (append-nil done), subst (λ (l : List (List ℕ)). ListedTexts l) same listed)
  texts_are done (s ∷ ss) all e listed =
      let one = bind_ok (with_text text done s) (λ t. each (with_text text) t ss) all e in
      let is = text_is done s one.0 one.1 in
      let taken = subst (λ (l : List (List ℕ)). ListedTexts l) is.1 (text_taken done s is.0 listed) in
      let more = texts_are one.0 ss all one.2 taken in (
        more.0 ∙ ap (λ (l : List (List ℕ)). l ++ map (inside text) ss) (sym is.1) ∙ append_assoc done (inside text s ∷ []) (map (inside text) ss),
        more.1,
      )

  -- a text that stands in a list behind others fits there
  text_fits : (done : List (List ℕ)) (s : WrittenSpan) (rest : List (List ℕ)) → ListedTexts (done ++ inside text s ∷ rest) → TextFits done s
  text_fits done s rest listed =
      let t = inside text s in
      let here = slice_get-behind done t rest in
      let below = get_below (done ++ t ∷ rest) (length done) t here in
      let most = listed.few in record {
        allowed = passes_at is_listed_text (done ++ t ∷ rest) (length done) t listed.allowed here;
        few = omega (arith, below, most);
        new = any_none (bytes_eq t) done (λ i y at. false_if_not (bytes_eq t y) (λ same. (
            let place : i ≡ length done = listed.differ i (length done) t
            (get_front done (t ∷ rest) i y at ∙ ap (λ (z : List ℕ). Some z) (sym (bytes_is t y same))) here in
            let before = get_below done i y at in
            omega (arith, place, before))));
      }

  pub texts_found : (done : List (List ℕ)) (ss : List WrittenSpan) → ListedTexts (done ++ map (inside text) ss)
      → each (with_text text) done ss ≡ Ok (done ++ map (inside text) ss)
  unfolding each
  texts_found done [] listed = ok_ok done (done ++ []) (sym (append-nil done))
  texts_found done (s ∷ ss) listed =
      let t = inside text s in
      let grouped : (done ++ t ∷ []) ++ map (inside text) ss ≡ done ++ t ∷ map (inside text) ss = append_assoc done (t ∷ []) (map (inside text) ss) in
      binds (with_text text done s) (λ x. each (with_text text) x ss) (done ++ t ∷ []) (done ++ t ∷ map (inside text) ss)
      (text_found done s (text_fits done s (map (inside text) ss) listed))
      (texts_found (done ++ t ∷ []) ss (subst (λ (l : List (List ℕ)). ListedTexts l) (sym grouped) listed)
      ∙ ok_ok ((done ++ t ∷ []) ++ map (inside text) ss) (done ++ t ∷ map (inside text) ss) grouped)

  -- ---- a list

  pub names_mean : (v : WrittenNames) (texts : List (List ℕ)) → each (with_text text) [] v.texts ≡ Ok texts
      → MeansNames text v (record { name = name_of text v.name; texts = texts })
  names_mean v texts e =
      let is = texts_are [] v.texts texts e no_texts in
      record { name = refl; texts = is.0; allowed = is.1.allowed; differ = is.1.differ; few = is.1.few }

  pub names_found : (v : WrittenNames) (list : Numbering) → MeansNames text v list → each (with_text text) [] v.texts ≡ Ok list.texts
  names_found v list means =
      let listed : ListedTexts list.texts = record { allowed = means.allowed; differ = means.differ; few = means.few } in
      texts_found [] v.texts (subst (λ (l : List (List ℕ)). ListedTexts l) means.texts listed)
      ∙ ok_ok (map (inside text) v.texts) list.texts (sym means.texts)

  pub names_same : (v : WrittenNames) (a b : Numbering) → MeansNames text v a → MeansNames text v b → a ≡ b
  names_same v a b x y =
      let name : a.name ≡ b.name = x.name ∙ sym y.name in
      let texts : a.texts ≡ b.texts = x.texts ∙ sym y.texts in
      λ i. record { name = name i; texts = texts i }

  -- ---- a list that is named

  pub list_is : (n : Naming) (o : Option WrittenBy) (l : Option ℕ) → list_of text n o ≡ Ok l
      → IfWritten (MeansList text n.lists) o l × IsListIn n.version o
  list_is n None l e = (subst (λ (x : Option ℕ). IfWritten (MeansList text n.lists) None x) (ok_same None l e) tt, tt)
  list_is n (Some written) l e =
      let name = name_of text written.list in
      let place = position (bytes_eq name) n.lists in
      let one = passed (is_version_3 n) (f.WrongShape written.at) (known written.list.from place >>= λ number. Ok (Some number)) l e in
      let two = bind_ok (known written.list.from place) (λ number. Ok (Some number)) l one.1 in
      let here = position_passes (bytes_eq name) n.lists two.0 (known_is written.list.from place two.0 two.1) in (
        subst (λ (x : Option ℕ). IfWritten (MeansList text n.lists) (Some written) x) (ok_same (Some two.0) l two.2)
            (here.1 ∙ ap (λ (z : List ℕ). Some z) (sym (bytes_is name here.0 here.2))),
        true_eq n.version 3 one.0,
      )

  -- a name has one number
  list_only : (names : List (List ℕ)) → AllDiffer names → (name : List ℕ) (i : ℕ) → slice_get names i ≡ Some name
      → position (bytes_eq name) names ≡ Some i
  list_only names differ name i here =
      position_only (bytes_eq name) names i name here (bytes_itself name)
      (λ j y at same. differ j i name (at ∙ ap (λ (z : List ℕ). Some z) (sym (bytes_is name y same))) here)

  pub list_found : (n : Naming) (o : Option WrittenBy) (l : Option ℕ) → AllDiffer n.lists → IsListIn n.version o
      → IfWritten (MeansList text n.lists) o l → list_of text n o ≡ Ok l
  list_found n None None differ third means = refl
  list_found n None (Some i) differ third means = absurd means
  list_found n (Some written) None differ third means = absurd means
  list_found n (Some written) (Some i) differ third means =
      let name = name_of text written.list in
      let place = position (bytes_eq name) n.lists in
      passes (is_version_3 n) (f.WrongShape written.at) (known written.list.from place >>= λ number. Ok (Some number)) (Some i) (eq_true n.version 3 third)
      (binds (known written.list.from place) (λ number. Ok (Some number)) i (Some i)
      (ap (known written.list.from) (list_only n.lists differ name i means)) refl)

  pub list_same : (names : List (List ℕ)) → AllDiffer names → (o : Option WrittenBy) (a b : Option ℕ) → IfWritten (MeansList text names) o a
      → IfWritten (MeansList text names) o b → a ≡ b
  list_same names differ None None None x y = refl
  list_same names differ None None (Some j) x y = absurd y
  list_same names differ None (Some i) b x y = absurd x
  list_same names differ (Some written) None b x y = absurd x
  list_same names differ (Some written) (Some i) None x y = absurd y
  list_same names differ (Some written) (Some i) (Some j) x y =
      ap (λ (z : ℕ). let o : Option ℕ = Some z in o) (differ i j (name_of text written.list) x y)

-- ---- families with their lists

abbrev pub family_list : Family → Option ℕ
family_list family = family.list

pub families_listed : (fs : List Family) (ls : List (Option ℕ)) → length ls ≡ length fs → map family_list (listed_families fs ls) ≡ ls
families_listed [] [] many = refl
families_listed [] (l ∷ ls) many = absurd (omega (arith, many))
families_listed (x ∷ fs) [] many = absurd (omega (arith, many))
families_listed (x ∷ fs) (l ∷ ls) many = ap (λ (z : List (Option ℕ)). l ∷ z) (families_listed fs ls (omega (arith, many)))

pub families_kept : (fs : List Family) (ls : List (Option ℕ)) → map without_list (listed_families fs ls) ≡ map without_list fs
families_kept [] ls = refl
families_kept (x ∷ fs) [] = refl
families_kept (x ∷ fs) (l ∷ ls) = ap (λ (z : List Family). without_list x ∷ z) (families_kept fs ls)

pub families_again : (fs : List Family) → listed_families (map without_list fs) (map family_list fs) ≡ fs
families_again [] = refl
families_again (x ∷ fs) = ap (λ (z : List Family). x ∷ z) (families_again fs)

-- ---- and kinds

abbrev pub kind_list : PlainKind → Option ℕ
kind_list kind = kind.list

abbrev pub unlisted : PlainKind → PlainKind
unlisted kind = record kind { list = None }

pub kinds_listed : (ks : List PlainKind) (ls : List (Option ℕ)) → length ls ≡ length ks → map kind_list (listed_kinds ks ls) ≡ ls
kinds_listed [] [] many = refl
kinds_listed [] (l ∷ ls) many = absurd (omega (arith, many))
kinds_listed (k ∷ ks) [] many = absurd (omega (arith, many))
kinds_listed (k ∷ ks) (l ∷ ls) many = ap (λ (z : List (Option ℕ)). l ∷ z) (kinds_listed ks ls (omega (arith, many)))

-- what is said of a kind whatever its list
pub kinds_so : {X : Type 0} (R : X → PlainKind → Type 0) → ((x : X) (k : PlainKind) (l : Option ℕ) → R x k → R x (record k { list = l }))
    → (xs : List X) (ks : List PlainKind) (ls : List (Option ℕ)) → Pairs R xs ks → Pairs R xs (listed_kinds ks ls)
kinds_so R so [] [] ls pairs = tt
kinds_so R so [] (k ∷ ks) ls pairs = absurd pairs
kinds_so R so (x ∷ xs) [] ls pairs = absurd pairs
kinds_so R so (x ∷ xs) (k ∷ ks) [] pairs = pairs
kinds_so R so (x ∷ xs) (k ∷ ks) (l ∷ ls) pairs = (so x k l pairs.0, kinds_so R so xs ks ls pairs.1)

pub as_many_kinds : (ks : List PlainKind) (ls : List (Option ℕ)) → length (listed_kinds ks ls) ≡ length ks
as_many_kinds [] ls = refl
as_many_kinds (k ∷ ks) [] = refl
as_many_kinds (k ∷ ks) (l ∷ ls) = ap (λ (m : ℕ). suc m) (as_many_kinds ks ls)

-- where each has a list, it does not matter which it had before
kinds_relisted : (ks : List PlainKind) (ls : List (Option ℕ)) → length ls ≡ length ks → listed_kinds (map unlisted ks) ls ≡ listed_kinds ks ls
kinds_relisted [] ls many = refl
kinds_relisted (k ∷ ks) [] many = absurd (omega (arith, many))
kinds_relisted (k ∷ ks) (l ∷ ls) many = ap (λ (z : List PlainKind). record k { list = l } ∷ z) (kinds_relisted ks ls (omega (arith, many)))

kinds_own : (ks : List PlainKind) → listed_kinds ks (map kind_list ks) ≡ ks
kinds_own [] = refl
kinds_own (k ∷ ks) = ap (λ (z : List PlainKind). k ∷ z) (kinds_own ks)

pub kinds_again : (ks js : List PlainKind) → map unlisted ks ≡ map unlisted js → length ks ≡ length js → listed_kinds ks (map kind_list js) ≡ js
kinds_again ks js same many =
    sym (kinds_relisted ks (map kind_list js) (length-map js kind_list ∙ sym many))
    ∙ ap (λ (l : List PlainKind). listed_kinds l (map kind_list js)) same
    ∙ kinds_relisted js (map kind_list js) (length-map js kind_list) ∙ kinds_own js
