-- What a quick test of conflicts notes. No theorem's meaning depends on these: they serve the test alone.
use Rattle.std.specs.Prelude.{◌≡◌, ℕ, ◌<◌, ◌%◌, Bool, true, not, ◌==◌, ◌&&◌, ◌||◌, List, length, slice_get, slice_index}
use Rattle.std.specs.List.{list_all}
use Rattle.flu_model.specs.declared.events.Tag.{Tag}
use Rattle.flu_model.specs.declared.jobs.Action.{Action}
use Rattle.flu_model.specs.declared.jobs.Program.{Program}
use Rattle.flu_model.specs.Itags.{count_of_itags, tag_of_itag}
use Rattle.flu_model.specs.Updates.{actions_of}
use Rattle.flu_deps.specs.declared.visits.Class.{Class}
use Rattle.flu_deps.specs.declared.visits.Class.TheVariants.{Needs, Writes, Adds, Raises}
use Rattle.flu_deps.specs.declared.visits.Marks.{Marks}
use Rattle.flu_deps.specs.declared.visits.Meeting.{Meeting}
use Rattle.flu_deps.specs.declared.clashes.Tags.{Tags}
use Rattle.flu_deps.specs.declared.clashes.Clashes.{Clashes}
use Rattle.flu_deps.specs.LoopVisits.{Test, has, word_at, in_class, is_marked, is_met, action_all}

abbrev pub kind_actions : Program → ℕ → List Action
kind_actions p a = actions_of (slice_get p.kinds a)

abbrev pub tag_at : Program → ℕ → Tag
tag_at p i = tag_of_itag p (record { 0 = i })

-- tables have the kinds and keys of the itags before n
pub record HasTagsBelow (p : Program) (t : Tags) (n : ℕ) : Type 0 where
  pub kind : (i : ℕ) → i < n → slice_index t.kinds i ≡ (tag_at p i).kind
  pub key : (i : ℕ) → i < n → slice_index t.keys i ≡ (tag_at p i).key

abbrev pub HasTags : Program → Tags → Type 0
HasTags p t = HasTagsBelow p t (count_of_itags p)

-- a touch of the class is marked, or met
abbrev pub marked_test : ℕ → Class → Marks → Test
marked_test version class m = λ way family place. not (in_class version class way) || is_marked m family place

abbrev pub met_test : ℕ → Class → Marks → Meeting → Test
met_test version class m n = λ way family place. not (in_class version class way) || is_met m n family place

-- itag j is noted with kind a if it is of kind b, and that kind touches the cell at its key in a family in which kind a marked that key
abbrev pub IsFixedNoted : Program → Marks → Meeting → ℕ → ℕ → Clashes → ℕ → Type 0
IsFixedNoted p m n a b t j =
    (tag_at p j).kind ≡ b → (family : ℕ) → has (word_at m (tag_at p j).key) family ≡ true → has n.own family ≡ true → has (slice_index t.fixed j) a ≡ true

-- these families are touched by a class in some actions, and are marked
pub record HasMarks (p : Program) (class : Class) (a families : ℕ) : Type 0 where
  pub marks : Marks
  pub marked : list_all (action_all (marked_test p.version class marks)) (kind_actions p a) ≡ true
  pub any : families ≡ marks.any

-- a table has the families that each of the kinds before n touches by a class
abbrev pub HasFamiliesBelow : Program → Class → List ℕ → ℕ → Type 0
HasFamiliesBelow p class table n = (a : ℕ) → a < n → HasMarks p class a (slice_index table (a % 64))

abbrev pub HasFamilies : Program → Class → List ℕ → Type 0
HasFamilies p class table = HasFamiliesBelow p class table (length p.kinds)

-- where two kinds meet by these classes, that is noted
pub record IsNoted (p : Program) (one other : Class) (a b : ℕ) (t : Clashes) : Type 0 where
  pub marks : Marks
  pub meeting : Meeting
  pub marked : list_all (action_all (marked_test p.version one marks)) (kind_actions p a) ≡ true
  pub met : list_all (action_all (met_test p.version other marks meeting)) (kind_actions p b) ≡ true
  pub always : meeting.always ≡ true → has (slice_index t.always (a % 64)) b ≡ true
  pub same_key : meeting.same_key ≡ true → has (slice_index t.same_key (a % 64)) b ≡ true
  pub fixed : (j : ℕ) → j < count_of_itags p → IsFixedNoted p marks meeting a b t j

-- no family is touched by both kinds, each by its own one of these classes
pub record AreApart (p : Program) (one other : Class) (a b : ℕ) : Type 0 where
  pub ours : ℕ
  pub theirs : ℕ
  pub here : HasMarks p one a ours
  pub there : HasMarks p other b theirs
  pub none : (family : ℕ) → has ours family ≡ true → has theirs family ≡ true → ⊥

-- the clashes of two kinds by these classes are noted
pub data IsDone (p : Program) (one other : Class) (a b : ℕ) (t : Clashes) : Type 0 where
  Noted : IsNoted p one other a b t → IsDone p one other a b t
  Apart : AreApart p one other a b → IsDone p one other a b t

abbrev pub AreDone : Program → Class → Class → Clashes → Type 0
AreDone p one other t = (a b : ℕ) → a < length p.kinds → b < length p.kinds → IsDone p one other a b t

-- what is noted stays noted
pub record KeepsClashes (old new : Clashes) : Type 0 where
  pub always : (i n : ℕ) → has (slice_index old.always i) n ≡ true → has (slice_index new.always i) n ≡ true
  pub same_key : (i n : ℕ) → has (slice_index old.same_key i) n ≡ true → has (slice_index new.same_key i) n ≡ true
  pub fixed : (i n : ℕ) → has (slice_index old.fixed i) n ≡ true → has (slice_index new.fixed i) n ≡ true

pub record FindsClashes (p : Program) (t : Clashes) : Type 0 where
  pub needs_writes : AreDone p Needs Writes t
  pub writes_needs : AreDone p Writes Needs t
  pub adds_raises : AreDone p Adds Raises t
  pub raises_adds : AreDone p Raises Adds t

abbrev pub may_clash : Clashes → ℕ → Tag → ℕ → Tag → Bool
may_clash t i a j b =
    has (slice_index t.always (a.kind % 64)) b.kind
    || ((a.key == b.key) && has (slice_index t.same_key (a.kind % 64)) b.kind)
    || has (slice_index t.fixed j) a.kind
    || has (slice_index t.fixed i) b.kind
