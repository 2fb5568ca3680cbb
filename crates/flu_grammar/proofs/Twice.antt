-- A name that is told to be named twice was named before, by its rule.
use Rattle.flu_layout.specs.Spelling.{written_value}
use Rattle.std.specs.Prelude.{is_some, if◌then◌else◌, ◌||◌}
use Rattle.std.proofs.Common.{None, suc, Option}
use Rattle.std.specs.List.{cons_option}
use Rattle.flu_model.specs.Rules.{file_of_source}
use Rattle.std.specs.List.{filter_map}
use Rattle.std.proofs.Common.{◌≡◌, inl, inr, ℕ, ◌+◌, Bool, true, false, List, [], ◌∷◌, ◌++◌, length, Some, Ok, Err, refl, sym, ap, subst, ◌∙◌, arith}
use Rattle.std.specs.Prelude.{not, ◌==◌, nat_lt, slice_get}
use Rattle.std.specs.List.{list_any, flat_map, position_or_len}
use Rattle.flu_lemmas.specs.Loops.{◌>>=◌, ◌>>◌}
use Rattle.flu_lemmas.proofs.Tests.{true_eq}
use Rattle.flu_lemmas.proofs.Bytes.{bytes_is}
use Rattle.flu_model.specs.declared.jobs.Family.{Family}
use Rattle.flu_model.specs.declared.jobs.Source.{Source}
use Rattle.flu_model.specs.Rules.{is_same_text}
use Rattle.flu_text.specs.declared.written.WrittenSpan.{WrittenSpan}
use Rattle.flu_syntax.specs.Tree.{Action, Declarations}
use Rattle.flu_layout.specs.Spelling.{name_of, inside}
use Rattle.flu_parse.specs.declared.faults.JobFault.{JobFault}
use Rattle.flu_parse.specs.declared.faults.JobFault.TheVariants as f
use Rattle.flu_parse.specs.declared.names.KindHead.{KindHead}
use Rattle.flu_parse.specs.Faults.{Found, unless}
use Rattle.flu_parse.specs.Naming.{Naming, in_version, kind_of}
use Rattle.flu_parse.specs.Actions.{resolved_actions}
use Rattle.flu_parse.specs.Listings.{file_of}
use Rattle.flu_parse.specs.Resolving.{Drafted, with_actions, with_on}
use Rattle.flu_grammar.specs.Means.{IsNamed}
use Rattle.flu_grammar.specs.Declared.{DeclaredKind, WrittenSource, WrittenFeed, OfFile, OfClock, ons_in, sources_in}
use Rattle.flu_grammar.specs.Sources.{MeansSource, MeansFeed}
use Rattle.flu_grammar.specs.Faults.{IsOnTwice, IsFileTwice, TwiceNamedIsOnTwice, TwiceNamedIsFileTwice}
use Rattle.flu_grammar.proofs.Lists.{some_same, met_at, pairs_right}
use Rattle.flu_grammar.proofs.TextFaults.{fault_from, fault_then}
use Rattle.flu_grammar.proofs.FaultKinds.{Plain, kind_faults, actions_faults}
use Rattle.flu_grammar.proofs.JobCells.{KnowFamilies}
use Rattle.flu_grammar.proofs.JobNames.{kind_name, all_families, all_kinds, naming_is}
use Rattle.flu_grammar.proofs.JobSources.{KnowKinds, kind_is}
use Rattle.flu_grammar.proofs.JobDrafts.{Drafts, drafts_are}
use Rattle.flu_grammar.proofs.JobTexts.{know_families, know_kinds, families_in_version, kinds_in_version}

-- a fault that is not of something named twice
abbrev NotTwice : JobFault → Type 0
NotTwice (f.TwiceNamed at) = ⊥
NotTwice _ = Unit {0}

not_twice : Plain NotTwice
not_twice = record { unknown = λ at. tt; shape = λ at. tt; limit = λ what count is. tt }

module _ (text : List ℕ) (n : Naming) (families : List Family) (kinds : List DeclaredKind) (know : KnowFamilies n families) (knows : KnowKinds n kinds)
    (done : Declarations) (x : Drafted) (drafts : Drafts text n families kinds know knows done x) where
  -- a kind whose `on` was met has an earlier one
  pub given_twice : (kind : WrittenSpan) (h : KindHead) → kind_of text n kind ≡ Ok h → list_any (λ g. g == h.number) x.given ≡ true
      → IsOnTwice text done kind kind.from
  given_twice kind h is any =
      let met = met_at (λ g. g == h.number) x.given any in
      let got = pairs_right (λ (z : List ℕ) (m : ℕ). IsNamed kind_name kinds z m) (flat_map (ons_in text) done) x.given drafts.given
      (position_or_len (λ g. g == h.number) x.given) met.0 met.1 in
      let head = kind_is text n kinds knows kind h is in
      let zero_more : head.place ≡ 0 + head.place = omega arith in
      let number : head.place ≡ met.0 = zero_more ∙ ap (λ (z : KindHead). z.number) head.is ∙ sym (true_eq met.0 h.number met.2) in
      let same : head.declared ≡ got.2.0 = some_same head.declared got.2.0 (sym head.here ∙ ap (slice_get kinds) number ∙ got.2.1) in
      let name : got.0 ≡ name_of text kind = sym got.2.2 ∙ ap (λ (z : DeclaredKind). z.name) (sym same) ∙ head.named in
      record {
        here = refl;
        place = position_or_len (λ g. g == h.number) x.given;
        earlier = got.1 ∙ ap (λ (z : List ℕ). Some z) name;
      }

  -- a second `on` of a kind
  pub on_twice : (kind : WrittenSpan) (actions : List Action) (at : ℕ) → with_on text n x kind actions ≡ Err (f.TwiceNamed at) → IsOnTwice text done kind at
  unfolding with_on
  on_twice kind actions at e =
      elim (fault_from (kind_of text n kind) (λ h. unless (not (list_any (λ g. g == h.number) x.given)) (f.TwiceNamed kind.from)
      >> (resolved_actions text n h actions >>= λ acts. Ok (record x { kinds = with_actions x.kinds h.number acts; given = x.given ++ h.number ∷ [] })))
      (f.TwiceNamed at) e) [
        | inl unknown ↦ absurd (kind_faults NotTwice not_twice text n kind (f.TwiceNamed at) unknown)
        | inr found ↦
            elim (fault_then (not (list_any (λ g. g == found.0.number) x.given)) (f.TwiceNamed kind.from)
            (resolved_actions text n found.0 actions
            >>= λ acts. Ok (record x { kinds = with_actions x.kinds found.0.number acts; given = x.given ++ found.0.number ∷ [] })) (f.TwiceNamed at) found.2) [
              | inl again ↦ given found.0 found.1 (list_any (λ g. g == found.0.number) x.given) refl again.0 again.1
              | inr later ↦
                  elim (fault_from (resolved_actions text n found.0 actions)
                  (λ acts. Ok (record x { kinds = with_actions x.kinds found.0.number acts; given = x.given ++ found.0.number ∷ [] }))
                  (f.TwiceNamed at) later.1) [
                    | inl fault ↦ absurd (actions_faults NotTwice not_twice text n found.0 actions (f.TwiceNamed at) fault)
                    | inr fine ↦ absurd (ok_no_fault fine.2)
                  ]
            ]
      ]
    where
      ok_no_fault : {y : Drafted} → (let r : Found Drafted = Ok y in r) ≡ Err (f.TwiceNamed at) → ⊥
      ok_no_fault e = cc

      given : (h : KindHead) → kind_of text n kind ≡ Ok h → (b : Bool) → list_any (λ g. g == h.number) x.given ≡ b → not b ≡ false
          → f.TwiceNamed kind.from ≡ f.TwiceNamed at
          → IsOnTwice text done kind at
      given h is false any bad place = absurd cc
      given h is true any bad place = let same : kind.from ≡ at = cc in subst (λ (m : ℕ). IsOnTwice text done kind m) same (given_twice kind h is any)

  -- the source that has a file
  record FileAt (file : List ℕ) (ss : List Source) : Type 0 where
    place : ℕ
    source : Source
    here : slice_get ss place ≡ Some source
    no_period : source.every ≡ None
    same : is_same_text file source.file ≡ true

  further : (file : List ℕ) (s : Source) (ss : List Source) → FileAt file ss → FileAt file (s ∷ ss)
  further file s ss at = record { place = suc at.place; source = at.source; here = at.here; no_period = at.no_period; same = at.same }

  one_file_at : (file : List ℕ) (s : Source) (ss : List Source) (every : Option ℕ) → s.every ≡ every
      → list_any (is_same_text file) (filter_map file_of_source (s ∷ ss)) ≡ true
      → (list_any (is_same_text file) (filter_map file_of_source ss) ≡ true → FileAt file ss) → FileAt file (s ∷ ss)
  one_file_at file s ss (Some every) is any more =
      let none : file_of_source s ≡ None = ap (λ (o : Option ℕ). if is_some o then None else Some s.file) is in
      further file s ss (more (ap (λ (o : Option (List ℕ)). list_any (is_same_text file) (cons_option o (filter_map file_of_source ss))) (sym none) ∙ any))
  one_file_at file s ss None is any more =
      let has : file_of_source s ≡ Some s.file = ap (λ (o : Option ℕ). if is_some o then None else Some s.file) is in
      by (is_same_text file s.file) refl
      (ap (λ (o : Option (List ℕ)). list_any (is_same_text file) (cons_option o (filter_map file_of_source ss))) (sym has) ∙ any)
    where
      by : (b : Bool) → is_same_text file s.file ≡ b → (is_same_text file s.file || list_any (is_same_text file) (filter_map file_of_source ss)) ≡ true
          → FileAt file (s ∷ ss)
      by true e any = record { place = 0; source = s; here = refl; no_period = is; same = e }
      by false e any = further file s ss (more (ap (λ b. b || list_any (is_same_text file) (filter_map file_of_source ss)) (sym e) ∙ any))

  file_at : (file : List ℕ) (ss : List Source) → list_any (is_same_text file) (filter_map file_of_source ss) ≡ true → FileAt file ss
  file_at file [] any = absurd cc
  file_at file (s ∷ ss) any = one_file_at file s ss s.every refl any (file_at file ss)

  -- which is not a clock
  of_file : (w : WrittenFeed) (s : Source) → MeansFeed text kinds w s → s.every ≡ None → (v : WrittenSource) × (w ≡ OfFile v) × MeansSource text kinds v s
  of_file (OfFile v) s means none = (v, refl, means)
  of_file (OfClock v) s means none = absurd (let both : None ≡ Some (written_value v.every.value) = sym none ∙ means.period in cc)

  -- a file that was met is that of an earlier source
  pub read_twice : (file : WrittenSpan) → list_any (is_same_text (inside text file)) (filter_map file_of_source x.sources) ≡ true
      → IsFileTwice text done file file.from
  read_twice file any =
      let met = file_at (inside text file) x.sources any in
      let got = pairs_right (MeansFeed text kinds) (flat_map sources_in done) x.sources drafts.sources met.place met.source met.here in
      let filed = of_file got.0 met.source got.2 met.no_period in
      record {
        here = refl;
        place = met.place;
        source = filed.0;
        earlier = got.1 ∙ ap (λ (w : WrittenFeed). Some w) filed.1;
        same = sym filed.2.file ∙ sym (bytes_is (inside text file) met.source.file met.same);
      }

  -- a file that an earlier source reads
  pub file_twice : (file : WrittenSpan) (at : ℕ) → file_of text x.sources file ≡ Err (f.TwiceNamed at) → IsFileTwice text done file at
  file_twice file at e =
      elim (fault_then (nat_lt 0 (length (inside text file))) (f.WrongShape file.from)
      (unless (not (list_any (is_same_text (inside text file)) (filter_map file_of_source x.sources))) (f.TwiceNamed file.from) >> Ok (inside text file))
      (f.TwiceNamed at) e) [
        | inl empty ↦ absurd (let bad : f.WrongShape file.from ≡ f.TwiceNamed at = empty.1 in cc)
        | inr some ↦
            elim (fault_then (not (list_any (is_same_text (inside text file)) (filter_map file_of_source x.sources))) (f.TwiceNamed file.from)
            (let r : Found (List ℕ) = Ok (inside text file) in r) (f.TwiceNamed at) some.1) [
              | inl again ↦ read (list_any (is_same_text (inside text file)) (filter_map file_of_source x.sources)) refl again.0 again.1
              | inr fine ↦ absurd (let bad : (let r : Found (List ℕ) = Ok (inside text file) in r) ≡ Err (f.TwiceNamed at) = fine.1 in cc)
            ]
      ]
    where
      read : (b : Bool) → list_any (is_same_text (inside text file)) (filter_map file_of_source x.sources) ≡ b → not b ≡ false
          → f.TwiceNamed file.from ≡ f.TwiceNamed at
          → IsFileTwice text done file at
      read false any bad place = absurd cc
      read true any bad place = let same : file.from ≡ at = cc in subst (λ (m : ℕ). IsFileTwice text done file m) same (read_twice file any)

pub is_on_twice : TwiceNamedIsOnTwice
is_on_twice = λ text ds before n version x kind actions at named drafted e. (
    let names = naming_is text ds n named in
    let m = in_version n version in
    let know = families_in_version n version (all_families text ds) (know_families text ds n names.0 names.1.own) in
    let knows = kinds_in_version n version (all_kinds text ds) (know_kinds text ds n names.0 names.1.own) in
    on_twice text m (all_families text ds) (all_kinds text ds) know knows before x
    (drafts_are text m (all_families text ds) (all_kinds text ds) know knows before x drafted) kind actions at e)

pub is_file_twice : TwiceNamedIsFileTwice
is_file_twice = λ text ds before n version x file at named drafted e. (
    let names = naming_is text ds n named in
    let m = in_version n version in
    let know = families_in_version n version (all_families text ds) (know_families text ds n names.0 names.1.own) in
    let knows = kinds_in_version n version (all_kinds text ds) (know_kinds text ds n names.0 names.1.own) in
    file_twice text m (all_families text ds) (all_kinds text ds) know knows before x
    (drafts_are text m (all_families text ds) (all_kinds text ds) know knows before x drafted) file at e)
