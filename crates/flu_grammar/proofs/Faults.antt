-- What the faults of the readers say.
use Rattle.std.proofs.Common.{◌≡◌, ℕ, ◌+◌, Bool, true, false, List, [], ◌∷◌, ◌++◌, map, length}
use Rattle.std.proofs.Common.{Option, Some, None, Ok, Err, refl, sym, ap, subst, ◌∙◌, append_assoc}
use Rattle.std.specs.Prelude.{not, nat_lt, slice_get, is_some, if◌then◌else◌}
use Rattle.std.specs.List.{list_any, flat_map, position, position_or_len}
use Rattle.std.specs.Str.{bytes_eq}
use Rattle.std.proofs.lemmas.List.{map-append}
use Rattle.flu_lemmas.proofs.Elements.{fails_at}
use Rattle.flu_lemmas.proofs.Tests.{lt_true, not_both}
use Rattle.flu_lemmas.proofs.Bytes.{bytes_itself, bytes_is}
use Rattle.flu_model.specs.declared.limits.What.{What}
use Rattle.flu_model.specs.declared.limits.What.TheVariants.{Families, Kinds, Lists, Sources, Depends}
use Rattle.flu_model.specs.declared.jobs.Kind.{Kind}
use Rattle.flu_model.specs.declared.jobs.Source.{Source}
use Rattle.flu_model.specs.Rules.{is_same_text}
use Rattle.flu_text.specs.declared.written.WrittenSpan.{WrittenSpan}
use Rattle.flu_syntax.specs.Tree.{Declaration, Declarations}
use Rattle.flu_syntax.specs.Tree as d
use Rattle.flu_layout.specs.Spelling.{name_of}
use Rattle.flu_parse.specs.declared.faults.JobFault.{JobFault}
use Rattle.flu_parse.specs.declared.faults.JobFault.TheVariants as j
use Rattle.flu_parse.specs.Faults.{Found as JobFound, ◌>>=◌, ◌>>◌, unless as job_unless, room, each}
use Rattle.flu_parse.specs.Naming.{Naming, has_keys, look_up, is_declared, known, fresh_name, with_family, with_kind, with_list, with_source, declare}
use Rattle.flu_parse.specs.Naming.{no_names}
use Rattle.flu_plan.specs.declared.fault.PlanFault.TheVariants as p
use Rattle.flu_plan.specs.declared.written.WrittenNode.{WrittenNode}
use Rattle.flu_plan.specs.Faults.{unless as plan_unless}
use Rattle.flu_plan.specs.Resolving.{with_name, known as plan_known, kind_named, source_named}
use Rattle.flu_grammar.specs.Means.{AllDiffer}
use Rattle.flu_grammar.specs.Declared.{families_in, kinds_in}
use Rattle.flu_grammar.specs.Laws.{JobsAreGrammar, PlansAreGrammar}
use Rattle.flu_grammar.specs.Faults.{RefusedIsNoJob, RefusedIsNoPlan, FamilyIsUnknown, KindIsUnknown, PlanKindIsUnknown, PlanSourceIsUnknown}
use Rattle.flu_grammar.specs.Faults.{ChildIsUnknown, spans_in, IsDeclaredTwice, TwiceNamedIsDeclaredTwice, IsNodeTwice, NoTreeIsNodeTwice}
use Rattle.flu_grammar.proofs.Lists.{no_some, get_below, differ_none, differ_push, any_there, met_at}
use Rattle.flu_grammar.proofs.PlanRead.{written_name}
use Rattle.flu_grammar.proofs.JobCells.{family_head, look_up_found}
use Rattle.flu_grammar.proofs.JobNames.{all_names, Named, OwnNames, declare_is, named_next, own_next, none_named, none_own, naming_is}
use Rattle.flu_grammar.proofs.JobSources.{kind_found}
use Rattle.flu_grammar.proofs.JobTexts.{know_families, know_kinds}

-- ---- a fault, and no text

pub refused_is_no_job : JobsAreGrammar → RefusedIsNoJob
refused_is_no_job grammar = λ bytes fault job e is. (let found = (grammar bytes job).1 is in let both : Err fault ≡ Ok job = sym e ∙ found in absurd cc)

pub refused_is_no_plan : PlansAreGrammar → RefusedIsNoPlan
refused_is_no_plan grammar = λ program bytes fault plan e is.
    (let found = (grammar program bytes plan).1 is in let both : Err fault ≡ Ok plan = sym e ∙ found in absurd cc)

-- ---- unknown names

unknown_is : {X : Type 0} (here : ℕ) (o : Option X) (at : ℕ) → known here o ≡ Err (j.UnknownName at) → (o ≡ None) × (at ≡ here)
unknown_is here None at e = (refl, cc)
unknown_is here (Some x) at e = absurd cc

pub family_is_unknown : FamilyIsUnknown
family_is_unknown = λ text ds n s at named e. (
    let names = naming_is text ds n named in
    let knows = know_families text ds n names.0 names.1.own in
    let unknown = unknown_is s.from (look_up (name_of text s) n.families) at e in
    record {
      here = unknown.1;
      unknown = λ i x there same. no_some (family_head i x)
          (sym unknown.0 ∙ look_up_found text n (flat_map (families_in text) ds) knows s i x there same);
    })

pub kind_is_unknown : KindIsUnknown
kind_is_unknown = λ text ds n s at named e. (
    let names = naming_is text ds n named in
    let knows = know_kinds text ds n names.0 names.1.own in
    let unknown = unknown_is s.from (look_up (name_of text s) n.kinds) at e in
    record {
      here = unknown.1;
      unknown = λ i x there same. (
          let found = kind_found text n (flat_map (kinds_in text) ds) knows s i x there same in
          let both = sym e ∙ found in
          ok_no_err both);
    })
  where
    ok_no_err : {A : Type 0} {x : A} {fault : JobFault} → (let r : JobFound A = Err fault in let s : JobFound A = Ok x in r ≡ s) → ⊥
    ok_no_err e = cc

plan_unknown_is : (here : ℕ) (o : Option ℕ) (at : ℕ) → plan_known here o ≡ Err (p.UnknownName at) → (o ≡ None) × (at ≡ here)
plan_unknown_is here None at e = (refl, cc)
plan_unknown_is here (Some x) at e = absurd cc

plan_unknown_then : (here : ℕ) (o : Option ℕ) (at : ℕ) → (plan_known here o >>= λ n. Ok (Some n)) ≡ Err (p.UnknownName at) → (o ≡ None) × (at ≡ here)
plan_unknown_then here None at e = (refl, cc)
plan_unknown_then here (Some x) at e = absurd cc

-- where no place is found, no element passes
pub no_place : {X : Type 0} (q : X → Bool) (xs : List X) (i : ℕ) (x : X) → position q xs ≡ None → slice_get xs i ≡ Some x → q x ≡ true → ⊥
no_place q xs i x none there passes =
    let found = met_at q xs (any_there q xs i x there passes) in
    let below = get_below xs (position_or_len q xs) found.0 found.1 in
    let some : position q xs ≡ Some (position_or_len q xs) = ap (λ b. if b then Some (position_or_len q xs) else None) (lt_true (position_or_len q xs)
    (length xs) below) in
    no_some (position_or_len q xs) (sym none ∙ some)

pub plan_kind_is_unknown : PlanKindIsUnknown
plan_kind_is_unknown = λ program text s at e. (
    let unknown = plan_unknown_then s.from (kind_named program.kinds (name_of text s)) at e in
    record {
      here = unknown.1;
      unknown = λ i x there same. no_place (λ (k : Kind). is_same_text (name_of text s) k.name) program.kinds i x unknown.0 there
          (subst (λ (n : List ℕ). is_same_text (name_of text s) n ≡ true) (sym same) (bytes_itself (name_of text s)));
    })

pub plan_source_is_unknown : PlanSourceIsUnknown
plan_source_is_unknown = λ program text s at e. (
    let unknown = plan_unknown_then s.from (source_named program.sources (name_of text s)) at e in
    record {
      here = unknown.1;
      unknown = λ i x there same. no_place (λ (k : Source). is_same_text (name_of text s) k.name) program.sources i x unknown.0 there
          (subst (λ (n : List ℕ). is_same_text (name_of text s) n ≡ true) (sym same) (bytes_itself (name_of text s)));
    })

pub child_is_unknown : ChildIsUnknown
child_is_unknown = λ text names s at e. (
    let unknown = plan_unknown_is s.from (position (bytes_eq (name_of text s)) names) at e in
    record {
      here = unknown.1;
      unknown = λ i x there same. no_place (bytes_eq (name_of text s)) names i x unknown.0 there
          (subst (λ (n : List ℕ). bytes_eq (name_of text s) n ≡ true) (sym same) (bytes_itself (name_of text s)));
    })

-- ---- names that are declared twice

module _ (text : List ℕ) where
  -- a name that is declared is one of those before
  pub declared_before : (done : Declarations) (n : Naming) (name : List ℕ) → Named text done n → is_declared n name ≡ true
      → (i : ℕ) × (slice_get (all_names text done) i ≡ Some name)
  declared_before done n name named e =
      let met = met_at (bytes_eq name) (all_names text done) (sym (named.declared name) ∙ e) in
      (position_or_len (bytes_eq name) (all_names text done), met.1 ∙ ap (λ (x : List ℕ). Some x) (sym (bytes_is name met.0 met.2)))

  room_not_twice : (what : What) (limit count : ℕ) (m : Naming) (at : ℕ) → (room what limit count >> Ok m) ≡ Err (j.TwiceNamed at) → ⊥
  room_not_twice what limit count m at e = by (nat_lt count limit) e
    where
      by : (b : Bool) → (job_unless b (j.OverLimit what (limit + 1)) >> Ok m) ≡ Err (j.TwiceNamed at) → ⊥
      by true e = cc
      by false e = cc

  fresh_fault : (n : Naming) (s : WrittenSpan) (limit count : ℕ) (made : List ℕ → Naming) (w : What) (at : ℕ)
      → (fresh_name text n s >>= λ name. room w limit count >> Ok (made name)) ≡ Err (j.TwiceNamed at) → (is_declared n (name_of text s) ≡ true) × (at ≡ s.from)
  fresh_fault n s limit count made w at e = by (is_declared n (name_of text s)) refl e
    where
      by : (b : Bool) → is_declared n (name_of text s) ≡ b
          → ((job_unless (not b) (j.TwiceNamed s.from) >> Ok (name_of text s)) >>= λ name. room w limit count >> Ok (made name)) ≡ Err (j.TwiceNamed at)
          → (is_declared n (name_of text s) ≡ true) × (at ≡ s.from)
      by true is e = (is, cc)
      by false is e = absurd (room_not_twice w limit count (made (name_of text s)) at e)

  -- a declaration that is refused for its name
  record Again (done : Declarations) (x : Declaration) (at : ℕ) : Type 0 where
    name : WrittenSpan
    named : spans_in x ≡ name ∷ []
    here : at ≡ name.from
    place : ℕ
    earlier : slice_get (all_names text done) place ≡ Some (name_of text name)

  again : (done : Declarations) (n : Naming) (x : Declaration) (at : ℕ) → Named text done n → declare text n x ≡ Err (j.TwiceNamed at) → Again done x at
  unfolding declare with_family with_kind with_list with_source
  again done n (d.Cell s cells sort) at named e =
      let fault = fresh_fault n s 64 (length n.families) (λ name. record n {
        families = n.families ++ (name, record { number = length n.families; keyed = has_keys cells; sort = sort }) ∷ [];
      }) Families at e in
      let before = declared_before done n (name_of text s) named fault.0 in
      record { name = s; named = refl; here = fault.1; place = before.0; earlier = before.1 }
  again done n (d.Tag s keyed item has_value) at named e =
      let fault = fresh_fault n s 64 (length n.kinds) (λ name. record n {
        kinds = n.kinds ++ (name, record { number = length n.kinds; keyed = keyed; has_item = is_some item; has_value = has_value }) ∷ [];
      }) Kinds at e in
      let before = declared_before done n (name_of text s) named fault.0 in
      record { name = s; named = refl; here = fault.1; place = before.0; earlier = before.1 }
  again done n (d.Names place s texts) at named e =
      let fault = fresh_fault n s 64 (length n.lists) (λ name. record n { lists = n.lists ++ name ∷ [] }) Lists at e in
      let before = declared_before done n (name_of text s) named fault.0 in
      record { name = s; named = refl; here = fault.1; place = before.0; earlier = before.1 }
  again done n (d.Depends a b relation) at named e = absurd (room_not_twice Depends 4096 n.depends (record n { depends = n.depends + 1 }) at e)
  again done n (d.On kind actions) at named e = absurd cc
  again done n (d.Source s file rate slack tags) at named e =
      let fault = fresh_fault n s 64 (length n.sources) (λ name. record n { sources = n.sources ++ name ∷ [] }) Sources at e in
      let before = declared_before done n (name_of text s) named fault.0 in
      record { name = s; named = refl; here = fault.1; place = before.0; earlier = before.1 }
  again done n (d.Clock place s every rate tag) at named e =
      let fault = fresh_fault n s 64 (length n.sources) (λ name. record n { sources = n.sources ++ name ∷ [] }) Sources at e in
      let before = declared_before done n (name_of text s) named fault.0 in
      record { name = s; named = refl; here = fault.1; place = before.0; earlier = before.1 }

  -- the first look of a loop that finds a fault
  first_twice : (done ds : Declarations) (n : Naming) (at : ℕ) → Named text done n → OwnNames text done → each (declare text) n ds ≡ Err (j.TwiceNamed at)
      → IsDeclaredTwice text (done ++ ds) at
  unfolding each
  first_twice done [] n at named own e = absurd cc
  first_twice done (x ∷ ds) n at named own e = by (declare text n x) refl e (λ m is rest. first_twice (done ++ x ∷ []) ds m at
      (subst (λ (k : Naming). Named text (done ++ x ∷ []) k) (declare_is text n x m is).1 (named_next text done n x named))
      (own_next text done n x named (declare_is text n x m is).0 own) rest)
    where
      by : (r : JobFound Naming) → declare text n x ≡ r → (r >>= λ t. each (declare text) t ds) ≡ Err (j.TwiceNamed at)
          → ((m : Naming) → declare text n x ≡ Ok m → each (declare text) m ds ≡ Err (j.TwiceNamed at) → IsDeclaredTwice text ((done ++ x ∷ []) ++ ds) at)
          → IsDeclaredTwice text (done ++ x ∷ ds) at
      by (Ok m) is e more = subst (λ (l : Declarations). IsDeclaredTwice text l at) (append_assoc done (x ∷ []) ds) (more m is e)
      by (Err fault) is e more =
          let found = again done n x at named (is ∙ e) in
          record {
            before = done;
            again = x;
            after = ds;
            is = refl;
            name = found.name;
            named = found.named;
            here = found.here;
            first = own.own;
            place = found.place;
            earlier = found.earlier;
          }

pub twice_named : TwiceNamedIsDeclaredTwice
twice_named = λ text ds at e. first_twice text [] ds no_names at (none_named text) (none_own text) e

-- ---- and nodes

module _ (text : List ℕ) where
  first_node : (done ws : List WrittenNode) (name : List ℕ) → AllDiffer (map (written_name text) done)
      → each (with_name text) (map (written_name text) done) ws ≡ Err (p.NotATree name) → IsNodeTwice text (done ++ ws) name
  unfolding each with_name
  first_node done [] name own e = absurd cc
  first_node done (v ∷ ws) name own e =
      by (list_any (bytes_eq (written_name text v)) (map (written_name text) done)) refl e (λ new rest. first_node (done ++ v ∷ []) ws name new rest)
    where
      names : List (List ℕ)
      names = map (written_name text) done

      longer : map (written_name text) (done ++ v ∷ []) ≡ map (written_name text) done ++ written_name text v ∷ []
      longer = map-append (written_name text) done (v ∷ [])

      by : (b : Bool) → list_any (bytes_eq (written_name text v)) (map (written_name text) done) ≡ b
          → ((plan_unless (not b) (p.NotATree (written_name text v)) >> Ok (map (written_name text) done ++ written_name text v ∷ [])) >>= λ t. each
          (with_name text) t ws)
          ≡ Err (p.NotATree name)
          → (AllDiffer (map (written_name text) (done ++ v ∷ [])) → each (with_name text) (map (written_name text) (done ++ v ∷ [])) ws ≡ Err (p.NotATree name)
          → IsNodeTwice text ((done ++ v ∷ []) ++ ws) name)
          → IsNodeTwice text (done ++ v ∷ ws) name
      by true is e more =
          let met = met_at (bytes_eq (written_name text v)) (map (written_name text) done) is in
          let same : written_name text v ≡ name = cc in
          record {
            before = done;
            again = v;
            after = ws;
            is = refl;
            named = sym same;
            first = own;
            place = position_or_len (bytes_eq (written_name text v)) (map (written_name text) done);
            earlier = met.1 ∙ ap (λ (x : List ℕ). Some x) (sym (bytes_is (written_name text v) met.0 met.2) ∙ same);
          }
      by false is e more =
          let new : AllDiffer (map (written_name text) done ++ written_name text v ∷ []) =
          differ_push (map (written_name text) done) (written_name text v) (λ i here. not_both (bytes_eq (written_name text v) (written_name text v))
          (bytes_itself (written_name text v))
          (fails_at (bytes_eq (written_name text v)) (map (written_name text) done) i (written_name text v) is here)) own in
          subst (λ (l : List WrittenNode). IsNodeTwice text l name) (append_assoc done (v ∷ []) ws)
          (more (subst (λ (l : List (List ℕ)). AllDiffer l) (sym longer) new)
          (ap (λ (l : List (List ℕ)). each (with_name text) l ws) longer ∙ e))

pub node_twice : NoTreeIsNodeTwice
node_twice = λ text nodes name e. first_node text [] nodes name differ_none e
