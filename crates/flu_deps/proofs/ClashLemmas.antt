-- Where two tags conflict on a cell, something clashes that a quick test has noted.
use Rattle.std.proofs.Common.{◌≡◌, ◌<◌, ◌%◌, ℕ, Bool, true, false, cond, List, length, refl, sym, ap, ◌∙◌}
use Rattle.std.specs.Prelude.{not, nat_lt, ◌==◌, ◌&&◌, ◌||◌, slice_index}
use Rattle.std.specs.List.{list_any, list_all}
use Rattle.std.proofs.lemmas.Bool.{or_left, or_right}
use Rattle.flu_lemmas.proofs.Booleans.{second_of}
use Rattle.flu_lemmas.proofs.Searches.{eq_true}
use Rattle.flu_lemmas.proofs.Tests.{and_left, and_right, both, true_eq, true_lt, false_if_not, not_both}
use Rattle.flu_model.specs.declared.events.Cell.{Cell}
use Rattle.flu_model.specs.declared.events.Tag.{Tag}
use Rattle.flu_model.specs.declared.jobs.Action.{Action}
use Rattle.flu_model.specs.declared.jobs.Program.{Program}
use Rattle.flu_model.specs.declared.modes.Mode.{Mode}
use Rattle.flu_model.specs.declared.modes.Mode.TheVariants.{None as NoMode, Add as AddMode, Raise as RaiseMode, Read as ReadMode, Own as OwnMode}
use Rattle.flu_model.specs.Itags.{count_of_itags}
use Rattle.flu_model.specs.Modes.{action_reads, act_overwrites, act_adds, act_raises, mode_in_version_1, mode_with_reads, mode_from, mode_of, modes_conflict}
use Rattle.flu_model.specs.Rules.{tag_fits}
use Rattle.flu_deps.specs.declared.visits.Way.{Way}
use Rattle.flu_deps.specs.declared.visits.Way.TheVariants.{Read, Add, Raise, Overwrite}
use Rattle.flu_deps.specs.declared.visits.Place.{Place}
use Rattle.flu_deps.specs.declared.visits.Place.TheVariants.{Own, Fixed, All}
use Rattle.flu_deps.specs.declared.visits.Class.{Class}
use Rattle.flu_deps.specs.declared.visits.Class.TheVariants.{Needs, Writes, Adds, Raises}
use Rattle.flu_deps.specs.declared.visits.Marks.{Marks}
use Rattle.flu_deps.specs.declared.clashes.Clashes.{Clashes}
use Rattle.flu_deps.specs.Conflicts.{conflicts_on}
use Rattle.flu_deps.specs.LoopVisits.{has, word_at, in_class, is_marked, is_met, action_all}
use Rattle.flu_deps.specs.LoopClashes.{kind_actions, tag_at, marked_test, met_test, IsDone, Noted, Apart, HasMarks, IsNoted, AreApart, AreDone, FindsClashes, may_clash}
use Rattle.flu_deps.proofs.TouchLemmas.{FoundIn, at_place, covers, of_way, use_found}

-- ---- two modes that conflict, and the ways of which they are
-- a way of a class in which the cell is used
record Wit (v : ℕ) (class : Class) (r o a x : Bool) : Type 0 where
  way : Way
  holds : of_way way r o a x ≡ true
  is : in_class v class way ≡ true

abbrev Carry : ℕ → Bool → Bool → Bool → Bool → Mode → Type 0
Carry v r o a x NoMode = Unit {0}
Carry v r o a x AddMode = Wit v Writes r o a x × Wit v Adds r o a x
Carry v r o a x RaiseMode = Wit v Writes r o a x × Wit v Raises r o a x
Carry v r o a x ReadMode = Wit v Needs r o a x
Carry v r o a x OwnMode = Wit v Needs r o a x × Wit v Writes r o a x

carried_after : (v : ℕ) (r o a x : Bool) → Carry v r o a x (mode_with_reads r o a x)
carried_after v r true a x = (record { way = Overwrite; holds = refl; is = refl }, record { way = Overwrite; holds = refl; is = refl })
carried_after v true false true x = (record { way = Read; holds = refl; is = refl }, record { way = Add; holds = refl; is = refl })
carried_after v true false false true = (record { way = Read; holds = refl; is = refl }, record { way = Raise; holds = refl; is = refl })
carried_after v true false false false = record { way = Read; holds = refl; is = refl }
carried_after v false false true x = (record { way = Add; holds = refl; is = refl }, record { way = Add; holds = refl; is = refl })
carried_after v false false false true = (record { way = Raise; holds = refl; is = refl }, record { way = Raise; holds = refl; is = refl })
carried_after v false false false false = tt

carried_1 : (v : ℕ) (r o a x : Bool) → (v == 1) ≡ true → Carry v r o a x (mode_in_version_1 r o a x)
carried_1 v true o a x e = (record { way = Read; holds = refl; is = refl }, record { way = Read; holds = refl; is = e })
carried_1 v false true a x e = (record { way = Overwrite; holds = refl; is = refl }, record { way = Overwrite; holds = refl; is = refl })
carried_1 v false false true x e = (record { way = Add; holds = refl; is = refl }, record { way = Add; holds = refl; is = refl })
carried_1 v false false false true e = (record { way = Raise; holds = refl; is = refl }, record { way = Raise; holds = refl; is = refl })
carried_1 v false false false false e = tt

carried : (v : ℕ) (r o a x : Bool) → Carry v r o a x (mode_from v r o a x)
carried v r o a x =
    elim (v == 1) as (λ b. (v == 1) ≡ b → Carry v r o a x (cond b (mode_in_version_1 r o a x) (mode_with_reads r o a x))) [
      | true ↦ λ e. carried_1 v r o a x e
      | false ↦ λ e. carried_after v r o a x
    ] refl

data IsPair : Class → Class → Type 0 where
  NeedsWrites : IsPair Needs Writes
  WritesNeeds : IsPair Writes Needs
  AddsRaises : IsPair Adds Raises
  RaisesAdds : IsPair Raises Adds

turned : (one other : Class) → IsPair one other → IsPair other one
turned one other NeedsWrites = WritesNeeds
turned one other WritesNeeds = NeedsWrites
turned one other AddsRaises = RaisesAdds
turned one other RaisesAdds = AddsRaises

noted : (p : Program) (t : Clashes) (one other : Class) → FindsClashes p t → IsPair one other → AreDone p one other t
noted p t one other finds NeedsWrites = finds.needs_writes
noted p t one other finds WritesNeeds = finds.writes_needs
noted p t one other finds AddsRaises = finds.adds_raises
noted p t one other finds RaisesAdds = finds.raises_adds

record Clashing (v : ℕ) (r o a x r2 o2 a2 x2 : Bool) : Type 0 where
  one : Class
  other : Class
  pair : IsPair one other
  first : Wit v one r o a x
  second : Wit v other r2 o2 a2 x2

module _ (v : ℕ) (r o a x r2 o2 a2 x2 : Bool) where
  paired : (m n : Mode) → modes_conflict m n ≡ true → Carry v r o a x m → Carry v r2 o2 a2 x2 n → Clashing v r o a x r2 o2 a2 x2
  paired NoMode n e f g = cc
  paired AddMode NoMode e f g = cc
  paired AddMode AddMode e f g = cc
  paired AddMode RaiseMode e f g = record { one = Adds; other = Raises; pair = AddsRaises; first = f.1; second = g.1 }
  paired AddMode ReadMode e f g = record { one = Writes; other = Needs; pair = WritesNeeds; first = f.0; second = g }
  paired AddMode OwnMode e f g = record { one = Writes; other = Needs; pair = WritesNeeds; first = f.0; second = g.0 }
  paired RaiseMode NoMode e f g = cc
  paired RaiseMode AddMode e f g = record { one = Raises; other = Adds; pair = RaisesAdds; first = f.1; second = g.1 }
  paired RaiseMode RaiseMode e f g = cc
  paired RaiseMode ReadMode e f g = record { one = Writes; other = Needs; pair = WritesNeeds; first = f.0; second = g }
  paired RaiseMode OwnMode e f g = record { one = Writes; other = Needs; pair = WritesNeeds; first = f.0; second = g.0 }
  paired ReadMode NoMode e f g = cc
  paired ReadMode AddMode e f g = record { one = Needs; other = Writes; pair = NeedsWrites; first = f; second = g.0 }
  paired ReadMode RaiseMode e f g = record { one = Needs; other = Writes; pair = NeedsWrites; first = f; second = g.0 }
  paired ReadMode ReadMode e f g = cc
  paired ReadMode OwnMode e f g = record { one = Needs; other = Writes; pair = NeedsWrites; first = f; second = g.1 }
  paired OwnMode NoMode e f g = cc
  paired OwnMode AddMode e f g = record { one = Needs; other = Writes; pair = NeedsWrites; first = f.0; second = g.0 }
  paired OwnMode RaiseMode e f g = record { one = Needs; other = Writes; pair = NeedsWrites; first = f.0; second = g.0 }
  paired OwnMode ReadMode e f g = record { one = Writes; other = Needs; pair = WritesNeeds; first = f.1; second = g }
  paired OwnMode OwnMode e f g = record { one = Needs; other = Writes; pair = NeedsWrites; first = f.0; second = g.1 }

-- ---- what is marked and met at one cell
module _ (p : Program) (t : Clashes) (i j : ℕ) (li : i < count_of_itags p) (lj : j < count_of_itags p) (one other : Class)
    (done : IsNoted p one other (tag_at p i).kind (tag_at p j).kind t) (back : IsNoted p other one (tag_at p j).kind (tag_at p i).kind t) where
  abbrev a : Tag
  a = tag_at p i

  abbrev b : Tag
  b = tag_at p j

  abbrev always_has : Bool
  always_has = has (slice_index t.always (a.kind % 64)) b.kind

  abbrev same_has : Bool
  same_has = (a.key == b.key) && has (slice_index t.same_key (a.kind % 64)) b.kind

  abbrev third : Bool
  third = has (slice_index t.fixed j) a.kind

  abbrev fourth : Bool
  fourth = has (slice_index t.fixed i) b.kind

  by_always : done.meeting.always ≡ true → may_clash t i a j b ≡ true
  by_always h = or_left ((always_has || same_has) || third) fourth (or_left (always_has || same_has) third (or_left always_has same_has (done.always h)))

  by_key : (a.key == b.key) ≡ true → done.meeting.same_key ≡ true → may_clash t i a j b ≡ true
  by_key same h =
      or_left ((always_has || same_has) || third) fourth
      (or_left (always_has || same_has) third
      (or_right always_has same_has (both (a.key == b.key) (has (slice_index t.same_key (a.kind % 64)) b.kind) same (done.same_key h))))

  by_third : (f : ℕ) → has (word_at done.marks b.key) f ≡ true → has done.meeting.own f ≡ true → may_clash t i a j b ≡ true
  by_third f there own = or_left ((always_has || same_has) || third) fourth (or_right (always_has || same_has) third (done.fixed j lj refl f there own))

  by_fourth : (f : ℕ) → has (word_at back.marks a.key) f ≡ true → has back.meeting.own f ≡ true → may_clash t i a j b ≡ true
  by_fourth f there own = or_right ((always_has || same_has) || third) fourth (back.fixed i li refl f there own)

  same_number : (m n k : ℕ) → (m == k) ≡ true → (n == k) ≡ true → m ≡ n
  same_number m n k e f = true_eq m k e ∙ sym (true_eq n k f)

  noted_at : (f n : ℕ) (x y : Place) → at_place a.key n x ≡ true → at_place b.key n y ≡ true
      → is_marked done.marks f x ≡ true → is_met done.marks done.meeting f y ≡ true
      → is_marked back.marks f y ≡ true → is_met back.marks back.meeting f x ≡ true → may_clash t i a j b ≡ true
  noted_at f n All Own ax ay mx my bx by =
      by_always (second_of (has done.marks.whole f) done.meeting.always (and_right (has done.marks.any f) (has done.marks.whole f) mx)
      (and_left (not (has done.marks.whole f) || done.meeting.always) (has done.meeting.own f)
      (and_right (not (has done.marks.own f) || done.meeting.same_key) ((not (has done.marks.whole f) || done.meeting.always) && has done.meeting.own f) my)))
  noted_at f n All (Fixed m) ax ay mx my bx by =
      by_always (second_of (has done.marks.whole f) done.meeting.always (and_right (has done.marks.any f) (has done.marks.whole f) mx)
      (and_right (not (has (word_at done.marks m) f) || done.meeting.always) (not (has done.marks.whole f) || done.meeting.always) my))
  noted_at f n All All ax ay mx my bx by =
      by_always (second_of (has done.marks.any f) done.meeting.always (and_left (has done.marks.any f) (has done.marks.whole f) mx) my)
  noted_at f n Own All ax ay mx my bx by =
      by_always (second_of (has done.marks.any f) done.meeting.always (and_left (has done.marks.any f) (has done.marks.own f) mx) my)
  noted_at f n (Fixed m) All ax ay mx my bx by =
      by_always (second_of (has done.marks.any f) done.meeting.always (and_left (has done.marks.any f) (has (word_at done.marks m) f) mx) my)
  noted_at f n Own Own ax ay mx my bx by =
      by_key (eq_true a.key b.key (same_number a.key b.key n ax ay))
      (second_of (has done.marks.own f) done.meeting.same_key (and_right (has done.marks.any f) (has done.marks.own f) mx)
      (and_left (not (has done.marks.own f) || done.meeting.same_key) ((not (has done.marks.whole f) || done.meeting.always) && has done.meeting.own f) my))
  noted_at f n (Fixed m) (Fixed k) ax ay mx my bx by =
      by_always (second_of (has (word_at done.marks k) f) done.meeting.always
      (ap (λ (l : ℕ). has (word_at done.marks l) f) (sym (same_number m k n ax ay)) ∙ and_right (has done.marks.any f) (has (word_at done.marks m) f) mx)
      (and_left (not (has (word_at done.marks k) f) || done.meeting.always) (not (has done.marks.whole f) || done.meeting.always) my))
  noted_at f n (Fixed m) Own ax ay mx my bx by =
      by_third f
      (ap (λ (l : ℕ). has (word_at done.marks l) f) (sym (same_number m b.key n ax ay)) ∙ and_right (has done.marks.any f) (has (word_at done.marks m) f) mx)
      (and_right (not (has done.marks.whole f) || done.meeting.always) (has done.meeting.own f)
      (and_right (not (has done.marks.own f) || done.meeting.same_key) ((not (has done.marks.whole f) || done.meeting.always) && has done.meeting.own f) my))
  noted_at f n Own (Fixed m) ax ay mx my bx by =
      by_fourth f
      (ap (λ (l : ℕ). has (word_at back.marks l) f) (same_number a.key m n ax ay) ∙ and_right (has back.marks.any f) (has (word_at back.marks m) f) bx)
      (and_right (not (has back.marks.whole f) || back.meeting.always) (has back.meeting.own f)
      (and_right (not (has back.marks.own f) || back.meeting.same_key) ((not (has back.marks.whole f) || back.meeting.always) && has back.meeting.own f) by))

-- ---- kinds that are apart
same_family : (key : ℕ) (c : Cell) (family : ℕ) (place : Place) → covers key c family place ≡ true → family ≡ c.family
same_family key c family place covered = true_eq family c.family (and_left (family == c.family) (at_place key c.key place) covered)

any_has : (m : Marks) (f : ℕ) (place : Place) → is_marked m f place ≡ true → has m.any f ≡ true
any_has m f Own h = and_left (has m.any f) (has m.own f) h
any_has m f (Fixed n) h = and_left (has m.any f) (has (word_at m n) f) h
any_has m f All h = and_left (has m.any f) (has m.whole f) h

-- what a kind touches by a class is in one of its families
family_has : (p : Program) (k : Class) (a families key : ℕ) (c : Cell) (way : Way) → HasMarks p k a families → in_class p.version k way ≡ true
    → FoundIn (λ test. list_all (action_all test) (kind_actions p a)) key c way → has families c.family ≡ true
family_has p k a families key c way has_marks is found =
    let m = has_marks.marks in
    let marked : is_marked m found.family found.place ≡ true =
    second_of (in_class p.version k way) (is_marked m found.family found.place) is (found.passes (marked_test p.version k m) has_marks.marked) in
    ap (λ w. has w c.family) has_marks.any ∙ ap (λ f. has m.any f) (sym (same_family key c found.family found.place found.covered))
    ∙ any_has m found.family found.place marked

never_apart : (p : Program) (k l : Class) (a b key other_key : ℕ) (c : Cell) (way other_way : Way) → in_class p.version k way ≡ true
    → in_class p.version l other_way ≡ true → FoundIn (λ test. list_all (action_all test) (kind_actions p a)) key c way
    → FoundIn (λ test. list_all (action_all test) (kind_actions p b)) other_key c other_way → AreApart p k l a b → ⊥
never_apart p k l a b key other_key c way other_way is other_is found other apart =
    apart.none c.family (family_has p k a apart.ours key c way apart.here is found) (family_has p l b apart.theirs other_key c other_way apart.there other_is other)

-- ---- conflicts
module _ (p : Program) (t : Clashes) (finds : FindsClashes p t) (i j : ℕ) (li : i < count_of_itags p) (lj : j < count_of_itags p)
    (fits : (tag_fits p.kinds (tag_at p i) && tag_fits p.kinds (tag_at p j)) ≡ true) (c : Cell) where
  abbrev first : Tag
  first = tag_at p i

  abbrev second : Tag
  second = tag_at p j

  abbrev ours : List Action
  ours = kind_actions p first.kind

  abbrev theirs : List Action
  theirs = kind_actions p second.kind

  first_kind : first.kind < length p.kinds
  first_kind =
      true_lt first.kind (length p.kinds) (and_left (nat_lt first.kind (length p.kinds)) _ (and_left (tag_fits p.kinds first) (tag_fits p.kinds second) fits))

  second_kind : second.kind < length p.kinds
  second_kind =
      true_lt second.kind (length p.kinds)
      (and_left (nat_lt second.kind (length p.kinds)) _ (and_right (tag_fits p.kinds first) (tag_fits p.kinds second) fits))

  where_noted : (k l : Class) (ways others : Way) → in_class p.version k ways ≡ true → in_class p.version l others ≡ true
      → FoundIn (λ test. list_all (action_all test) ours) first.key c ways → FoundIn (λ test. list_all (action_all test) theirs) second.key c others
      → IsDone p k l first.kind second.kind t → IsDone p l k second.kind first.kind t → may_clash t i first j second ≡ true
  where_noted k l ways others is_one is_other one other (Noted done) (Noted back) =
      let one_family = same_family first.key c one.family one.place one.covered in
      let other_family = same_family second.key c other.family other.place other.covered in
      let marked : is_marked done.marks one.family one.place ≡ true =
      second_of (in_class p.version k ways) (is_marked done.marks one.family one.place) is_one (one.passes (marked_test p.version k done.marks) done.marked) in
      let met : is_met done.marks done.meeting other.family other.place ≡ true =
      second_of (in_class p.version l others) (is_met done.marks done.meeting other.family other.place) is_other
      (other.passes (met_test p.version l done.marks done.meeting) done.met) in
      let marked_back : is_marked back.marks other.family other.place ≡ true =
      second_of (in_class p.version l others) (is_marked back.marks other.family other.place) is_other
      (other.passes (marked_test p.version l back.marks) back.marked) in
      let met_back : is_met back.marks back.meeting one.family one.place ≡ true =
      second_of (in_class p.version k ways) (is_met back.marks back.meeting one.family one.place) is_one
      (one.passes (met_test p.version k back.marks back.meeting) back.met) in
      noted_at p t i j li lj k l done back c.family c.key one.place other.place
      (and_right (one.family == c.family) (at_place first.key c.key one.place) one.covered)
      (and_right (other.family == c.family) (at_place second.key c.key other.place) other.covered)
      (ap (λ (f : ℕ). is_marked done.marks f one.place) (sym one_family) ∙ marked)
      (ap (λ (f : ℕ). is_met done.marks done.meeting f other.place) (sym other_family) ∙ met)
      (ap (λ (f : ℕ). is_marked back.marks f other.place) (sym other_family) ∙ marked_back)
      (ap (λ (f : ℕ). is_met back.marks back.meeting f one.place) (sym one_family) ∙ met_back)
  where_noted k l ways others is_one is_other one other (Apart apart) back =
      absurd (never_apart p k l first.kind second.kind first.key second.key c ways others is_one is_other one other apart)
  where_noted k l ways others is_one is_other one other (Noted done) (Apart apart) =
      absurd (never_apart p l k second.kind first.kind second.key first.key c others ways is_other is_one other one apart)

  may_where_conflict : conflicts_on p first second c ≡ true → may_clash t i first j second ≡ true
  may_where_conflict conflict =
      let r : Bool = list_any (action_reads first.key c) ours in
      let o : Bool = list_any (λ (a : Action). act_overwrites first.key c a.act) ours in
      let a : Bool = list_any (λ (a : Action). act_adds first.key c a.act) ours in
      let x : Bool = list_any (λ (a : Action). act_raises first.key c a.act) ours in
      let r2 : Bool = list_any (action_reads second.key c) theirs in
      let o2 : Bool = list_any (λ (a : Action). act_overwrites second.key c a.act) theirs in
      let a2 : Bool = list_any (λ (a : Action). act_adds second.key c a.act) theirs in
      let x2 : Bool = list_any (λ (a : Action). act_raises second.key c a.act) theirs in
      let clash : Clashing p.version r o a x r2 o2 a2 x2 =
      paired p.version r o a x r2 o2 a2 x2 (mode_of p first c) (mode_of p second c) conflict (carried p.version r o a x) (carried p.version r2 o2 a2 x2) in
      let done = noted p t clash.one clash.other finds clash.pair first.kind second.kind first_kind second_kind in
      let back = noted p t clash.other clash.one finds (turned clash.one clash.other clash.pair) second.kind first.kind second_kind first_kind in
      where_noted clash.one clash.other clash.first.way clash.second.way clash.first.is clash.second.is (use_found ours first.key c clash.first.way clash.first.holds)
      (use_found theirs second.key c clash.second.way clash.second.holds) done back

  pub no_conflict : may_clash t i first j second ≡ false → conflicts_on p first second c ≡ false
  no_conflict none = false_if_not (conflicts_on p first second c) (λ h. not_both (may_clash t i first j second) (may_where_conflict h) none)
