-- What gathering by reads and by targets comes to.
use Rattle.std.proofs.Common.{◌≡◌, ◌<◌, ◌+◌, ℕ, zero, suc, Bool, true, false, List, [], ◌∷◌, ◌++◌, length, take, get_or, inl, inr, refl, sym, ap, ◌∙◌, arith}
use Rattle.std.specs.Prelude.{◌≢◌, ◌&&◌, ◌||◌, not, slice_get}
use Rattle.std.specs.BTreeSet.{contains}
use Rattle.std.specs.List.{list_any, range_with_len}
use Rattle.std.proofs.lemmas.Bool.{cases_Bool, or_left}
use Rattle.std.proofs.lemmas.List.{take_more}
use Rattle.std.proofs.lemmas.List.Folds.{list_any-append}
use Rattle.flu_lemmas.proofs.Booleans.{or_assoc, or_false, and_false}
use Rattle.flu_lemmas.proofs.Searches.{list_any_or, list_any_within, list_any_never}
use Rattle.flu_lemmas.proofs.Tests.{false_if_not, not_both}
use Rattle.flu_model.specs.declared.events.Cell.{Cell}
use Rattle.flu_model.specs.declared.events.Tag.{Tag}
use Rattle.flu_model.specs.declared.jobs.Action.{Action}
use Rattle.flu_model.specs.declared.jobs.Program.{Program}
use Rattle.flu_model.specs.Itags.{count_of_itags, tag_of_itag}
use Rattle.flu_model.specs.Modes.{mode_of, action_reads, act_overwrites, act_adds, act_raises}
use Rattle.flu_model.specs.Updates.{actions_of}
use Rattle.flu_model.specs.Order.{cell_cmp}
use Rattle.flu_cells.specs.Sets.{has_family, is_in, is_in_but}
use Rattle.flu_cells.specs.declared.sets.CellSet.{CellSet}
use Rattle.flu_laws.specs.Uses.{needs, writes, NeedsByActions, WritesByActions}
use Rattle.flu_fork.specs.Classes.{Itags, itag, mode_by, some_has, is_copied}
use Rattle.flu_fork.specs.Gathering.{is_target, reads_by}
use Rattle.flu_fork.proofs.Cells.{some_there}

-- ---- one more element of a list
pub some_turn : {X : Type 0} (test : X → Bool) (xs : List X) (i : ℕ) (x : X) (first before after : Bool) → i < length xs → x ≡ get_or xs i x
    → before ≡ (first || list_any test (take i xs)) → after ≡ (before || test x) → after ≡ (first || list_any test (take (i + 1) xs))
some_turn test xs i x first before after lt is kept grown =
    grown
    ∙ ap (λ b. b || test x) kept
    ∙ or_assoc first (list_any test (take i xs)) (test x)
    ∙ ap (λ b. first || b)
    (sym (ap (list_any test) (take_more xs i x lt ∙ ap (λ y. take i xs ++ y ∷ []) (sym is))
    ∙ list_any-append test (take i xs) (x ∷ [])
    ∙ ap (λ b. list_any test (take i xs) || b) (or_false (test x))))

-- the same for a cell that is left out, or not
pub unless_turn : {X : Type 0} (test : X → Bool) (xs : List X) (i : ℕ) (x : X) (first before after out : Bool) → i < length xs → x ≡ get_or xs i x
    → before ≡ (first || (not out && list_any test (take i xs))) → after ≡ (before || (not out && test x))
    → after ≡ (first || (not out && list_any test (take (i + 1) xs)))
unless_turn test xs i x first before after true lt is kept grown = grown ∙ ap (λ b. b || false) kept ∙ or_false (first || false)
unless_turn test xs i x first before after false lt is kept grown = some_turn test xs i x first before after lt is kept grown

module _ (key : ℕ) (c : Cell) (all : List Action) where
  abbrev overwrites : Bool
  overwrites = list_any (λ (a : Action). act_overwrites key c a.act) all

  -- the targets alone that are overwritten, and all targets
  overwritten : list_any (λ (a : Action). is_target false key c a.act) all ≡ overwrites
  overwritten =
      list_any_within (λ (a : Action). is_target false key c a.act) (λ (a : Action). act_overwrites key c a.act) all
      (λ a. or_false (act_overwrites key c a.act))

  written : list_any (λ (a : Action). is_target true key c a.act) all
      ≡ (overwrites || (list_any (λ (a : Action). act_adds key c a.act) all || list_any (λ (a : Action). act_raises key c a.act) all))
  written =
      list_any_or (λ (a : Action). act_overwrites key c a.act) (λ (a : Action). act_adds key c a.act || act_raises key c a.act) all
      ∙ ap (λ b. overwrites || b) (list_any_or (λ (a : Action). act_adds key c a.act) (λ (a : Action). act_raises key c a.act) all)

and_true : (a : Bool) → (a && true) ≡ a
and_true true = refl
and_true false = refl

-- without the cells of an empty set a set is the same
but_nothing : (set nothing : CellSet) (c : Cell) → is_in nothing c ≡ false → is_in_but nothing set c ≡ is_in set c
but_nothing set nothing c none =
    ap (λ b. (has_family set c.family && not b) || contains cell_cmp set.single c) none
    ∙ ap (λ b. b || contains cell_cmp set.single c) (and_true (has_family set c.family))

pub grown_alike : (old new nothing : CellSet) (c : Cell) (more : Bool) → is_in nothing c ≡ false
    → is_in_but nothing new c ≡ (is_in_but nothing old c || more) → is_in new c ≡ (is_in old c || more)
grown_alike old new nothing c more none grown =
    sym (but_nothing new nothing c none) ∙ grown ∙ ap (λ b. b || more) (but_nothing old nothing c none)

-- reads that are put in after nothing is left out, and targets after them
two_steps : (old mid new nothing reads targets : Bool) → nothing ≡ false → mid ≡ (old || (not nothing && reads)) → new ≡ (mid || targets)
    → new ≡ (old || (reads || targets))
two_steps old mid new nothing reads targets none first second =
    second ∙ ap (λ b. b || targets) (first ∙ ap (λ b. old || (not b && reads)) none) ∙ or_assoc old reads targets

pub needed_grows : NeedsByActions → (p : Program) (t : Tag) (c : Cell) (old mid new nothing : Bool)
    → (let all = actions_of (slice_get p.kinds t.kind) in
    nothing ≡ false → mid ≡ (old || (not nothing && list_any (action_reads t.key c) all))
    → new ≡ (mid || list_any (λ (a : Action). is_target false t.key c a.act) all) → new ≡ (old || needs (mode_of p t c)))
needed_grows law p t c old mid new nothing none first second =
    let all = actions_of (slice_get p.kinds t.kind) in
    two_steps old mid new nothing (list_any (action_reads t.key c) all) (list_any (λ (a : Action). is_target false t.key c a.act) all) none first second
    ∙ ap (λ b. old || (list_any (action_reads t.key c) all || b)) (overwritten t.key c all)
    ∙ ap (λ b. old || b) (sym (law p t c))

pub written_grows : WritesByActions → (p : Program) (t : Tag) (c : Cell) (old new : Bool) → p.version ≢ 1
    → new ≡ (old || list_any (λ (a : Action). is_target true t.key c a.act) (actions_of (slice_get p.kinds t.kind))) → new ≡ (old || writes (mode_of p t c))
written_grows law p t c old new later grown =
    grown ∙ ap (λ b. old || b) (written t.key c (actions_of (slice_get p.kinds t.kind)) ∙ sym (law p t c later))

-- ---- what is read and not written is what is copied
any_alike : (f g : ℕ → Bool) (lo n : ℕ) → ((i : ℕ) → i < lo + n → f i ≡ g i) → list_any f (range_with_len lo n) ≡ list_any g (range_with_len lo n)
any_alike f g lo zero same = refl
any_alike f g lo (suc n) same = λ k. same lo (omega arith) k || any_alike f g (lo + 1) n (λ i lt. same i (omega arith)) k

under : (b r n : Bool) → (b ≡ true → r ≡ n) → (b && r) ≡ (b && n)
under true r n same = same refl
under false r n same = refl

module _ (needed : NeedsByActions) (by_actions : WritesByActions) (p : Program) (later : p.version ≢ 1) (set : Itags) (c : Cell) where
  abbrev count : ℕ
  count = count_of_itags p

  -- where no itag of the set writes the cell, those that need it read it
  read_is_needed : some_has p writes set c ≡ false → (i : ℕ) → i < count → set i ≡ true → reads_by p i c ≡ needs (mode_by p i c)
  read_is_needed none i lt here =
      let t : Tag = tag_of_itag p (itag i) in
      let all = actions_of (slice_get p.kinds t.kind) in
      let unwritten : list_any (λ (a : Action). act_overwrites t.key c a.act) all ≡ false =
      false_if_not _ (λ h. not_both _ (some_there p writes set c i lt here (by_actions p t c later ∙ or_left _ _ h)) none) in
      sym (needed p t c ∙ ap (λ b. list_any (action_reads t.key c) all || b) unwritten ∙ or_false _)

  pub copied_are_read : (written : Bool) → written ≡ some_has p writes set c
      → list_any (λ i. set i && (not written && reads_by p i c)) (range_with_len 0 count) ≡ is_copied p set c
  copied_are_read written is =
      ap (λ w. list_any (λ i. set i && (not w && reads_by p i c)) (range_with_len 0 count)) is
      ∙ (elim (cases_Bool (some_has p writes set c)) [
        | inl some ↦
            ap (λ w. list_any (λ i. set i && (not w && reads_by p i c)) (range_with_len 0 count)) some
            ∙ list_any_within (λ i. set i && false) (λ i. false) (range_with_len 0 count) (λ i. and_false (set i))
            ∙ list_any_never (range_with_len 0 count)
            ∙ sym (ap (λ w. some_has p needs set c && not w) some ∙ and_false (some_has p needs set c))
        | inr none ↦
            ap (λ w. list_any (λ i. set i && (not w && reads_by p i c)) (range_with_len 0 count)) none
            ∙ any_alike (λ i. set i && reads_by p i c) (λ i. set i && needs (mode_by p i c)) 0 count
            (λ i lt. under (set i) (reads_by p i c) (needs (mode_by p i c)) (λ here. read_is_needed none i (omega arith) here))
            ∙ sym (ap (λ w. some_has p needs set c && not w) none ∙ and_true (some_has p needs set c))
      ])
