-- Cases are settings, and the parts of a lot are those of the laws.
use Rattle.std.proofs.Common.{◌≡◌, ℕ, Bool, true, false, cond, Option, Some, None, List, [], ◌∷◌, ◌++◌, inl, inr, length, map, refl, sym, ap, subst, ◌∙◌, arith}
use Rattle.std.proofs.Math.Logic.{∥∥₁_elim}
use Rattle.std.proofs.Props.{props}
use Rattle.std.specs.Prelude.{not, ◌&&◌, slice_get, slice_index}
use Rattle.std.specs.List.{range_with_len}
use Rattle.std.proofs.lemmas.List.FromFn.{length-map-range_with_len, get_or-map-range_with_len}
use Rattle.flu_model.specs.declared.events.Cell.{Cell}
use Rattle.flu_model.specs.declared.events.Worth.{Worth}
use Rattle.flu_model.specs.declared.events.Worth.TheVariants.{Sum, Max, Last}
use Rattle.flu_model.specs.declared.jobs.Sort.{Sort}
use Rattle.flu_model.specs.declared.jobs.Sort.TheVariants.{Sum as SumSort, Max as MaxSort, Last as LastSort}
use Rattle.flu_model.specs.declared.jobs.Family.{Family}
use Rattle.flu_model.specs.declared.jobs.Program.{Program}
use Rattle.flu_model.specs.declared.plans.Node.{Node}
use Rattle.flu_model.specs.Contents.{Contents, cell, join, joined_worth}
use Rattle.flu_model.specs.Itags.{count_of_itags}
use Rattle.flu_model.specs.Sorts.{IsWorthOf, IsWorthIn, is_cell_of, MayHold, IsStateOf}
use Rattle.flu_cells.specs.Holding.{held}
use Rattle.flu_cells.specs.Sets as cells
use Rattle.flu_laws.specs.Consistency.{JoinsSplits}
use Rattle.flu_laws.specs.Uses.{writes}
use Rattle.flu_fork.specs.declared.content.Content.{Content}
use Rattle.flu_fork.specs.declared.rights.Right.{Right}
use Rattle.flu_fork.specs.Settings.{Setting, IsSetting}
use Rattle.flu_fork.specs.Classes.{some_has, is_needed, is_copied, below}
use Rattle.flu_fork.specs.Fitting.{Fits}
use Rattle.flu_fork.specs.Parts.{left_part, right_part, joined_state, joined_counts, ArePaired}
use Rattle.flu_fork.specs.Lots.{job, nodes, setting_of}
use Rattle.flu_fork.specs.Tables.{is_copied_by, IsRight, IsRightAt, count_by, counts_by}
use Rattle.flu_lemmas.proofs.Ranges.{map_range_alike}
use Rattle.flu_lemmas.proofs.Places.{slice_get_push}

IsWorthOf-prop : (sort : Sort) (w : Worth) → IsProp (IsWorthOf sort w)
IsWorthOf-prop SumSort (Sum n) = hlevel props
IsWorthOf-prop SumSort (Max v) = hlevel
IsWorthOf-prop SumSort (Last v) = hlevel
IsWorthOf-prop MaxSort (Sum n) = hlevel
IsWorthOf-prop MaxSort (Max v) = hlevel
IsWorthOf-prop MaxSort (Last v) = hlevel
IsWorthOf-prop LastSort (Sum n) = hlevel
IsWorthOf-prop LastSort (Max v) = hlevel
IsWorthOf-prop LastSort (Last v) = hlevel

IsWorthIn-prop : (o : Option Family) (w : Worth) → IsProp (IsWorthIn o w)
IsWorthIn-prop None w = hlevel
IsWorthIn-prop (Some f) w = IsWorthOf-prop f.sort w

IsTrue-prop : (b : Bool) → IsProp (b ≡ true)
IsTrue-prop b = hlevel props

MayHold-prop : (families : List Family) (c : Cell) (w : Option Worth) → IsProp (MayHold families c w)
MayHold-prop families c None = hlevel
MayHold-prop families c (Some w) =
    λ x y i. (IsTrue-prop (is_cell_of families c) x.0 y.0 i, IsWorthIn-prop (slice_get families c.family) w x.1 y.1 i)

IsStateOf-prop : (families : List Family) (s : Contents) → IsProp (IsStateOf families s)
IsStateOf-prop families s = λ x y i c. MayHold-prop families c (s c) (x c) (y c) i

-- a case has an accepted job, a plan that is valid for it, a stream for each itag, and an opening state of the job's sorts
pub setting_holds : (k : Content) → IsSetting (setting_of k)
setting_holds k = record {
  accepted = k.checked.accepted;
  one_tree = k.valid.plan.one_tree;
  valid = k.of_job.valid;
  one_each = k.one_each;
  streams = k.streams.good;
  opening_sorts = ∥∥₁_elim k.opening_sorts (IsStateOf-prop (job k).families (held k.opening)) (λ sorts. sorts);
}

-- ---- the parts

-- what is joined with nothing stays
with_nothing : JoinsSplits → (w : Option Worth) → joined_worth w None ≡ w
with_nothing law w = λ i. law (λ c. w) (λ c. false) (λ c. false) (λ c e. refl) i (cell 0 0)

-- a cell's value in the left part: what is needed is taken out, and comes back where no itag there writes it
left_at : JoinsSplits → (need write : Bool) (w : Option Worth)
    → joined_worth (cond (not need) w None) (cond (need && not write) (cond need w None) None) ≡ cond (need && write) None w
left_at law true true w = refl
left_at law true false w = refl
left_at law false write w = with_nothing law w

pub left_is : JoinsSplits → (p : Program) (nodes : List Node) (r : ℕ) (table : Right) (s t : Contents) → IsRight p nodes r table
    → t ≡ cells.within table.needed s
    → join (cells.outside table.needed s) (cells.only (is_copied_by table.copied) t) ≡ left_part p nodes r s
left_is law p nodes r table s t is taken = λ i c.
    ((λ j. joined_worth (cond (not (is.needed c j)) (s c) None) (cond (is.copied c j) (taken j c) None))
    ∙ (λ j. joined_worth (cond (not (need c)) (s c) None) (cond (is_copied p (below p nodes r) c) (cond (is.needed c j) (s c) None) None))
    ∙ left_at law (need c) (some_has p writes (below p nodes r) c) (s c)) i
  where
    need : Cell → Bool
    need c = is_needed p (below p nodes r) c

pub right_is : (p : Program) (nodes : List Node) (r : ℕ) (table : Right) (s : Contents) → IsRight p nodes r table
    → cells.within table.needed s ≡ right_part p nodes r s
right_is p nodes r table s is = λ i c. cond (is.needed c i) (s c) None

kept_where_not : (b : Bool) (o : Option Worth) → cond (not b) o None ≡ cond b None o
kept_where_not true o = refl
kept_where_not false o = refl

pub joined_is : (p : Program) (nodes : List Node) (r : ℕ) (table : Right) (s t : Contents) → IsRight p nodes r table
    → join s (cells.only (λ c. not (is_copied_by table.copied c)) t) ≡ joined_state p nodes r s t
joined_is p nodes r table s t is = λ i c.
    joined_worth (s c) ((kept_where_not (is_copied_by table.copied c) (t c) ∙ ap (λ b. cond b None (t c)) (is.copied c)) i)

-- ---- what fits, in other words for the same

pub fits_as : (k : Setting) (w : ℕ) (s t : Contents) (a b x y : List ℕ) → t ≡ s → b ≡ a → y ≡ x → Fits k w s a x → Fits k w t b y
fits_as k w s t a b x y es ea ex fits =
    subst (λ (u : Contents). Fits k w u b y) (sym es) (subst (λ (u : List ℕ). Fits k w s u y) (sym ea) (subst (λ (u : List ℕ). Fits k w s a u) (sym ex) fits))

pub paired_as : (p : Program) (nodes : List Node) (l r : ℕ) (a a' b b' c c' d d' : List ℕ) → a' ≡ a → b' ≡ b → c' ≡ c → d' ≡ d
    → ArePaired p nodes l r a b c d → ArePaired p nodes l r a' b' c' d'
paired_as p nodes l r a a' b b' c c' d d' ea eb ec ed paired =
    subst (λ (u : List ℕ). ArePaired p nodes l r u b' c' d') (sym ea)
    (subst (λ (u : List ℕ). ArePaired p nodes l r a u c' d') (sym eb)
    (subst (λ (u : List ℕ). ArePaired p nodes l r a b u d') (sym ec)
    (subst (λ (u : List ℕ). ArePaired p nodes l r a b c u) (sym ed) paired)))

-- ---- the counts

pub counts_are : (p : Program) (nodes : List Node) (r : ℕ) (table : Right) (lefts rights : List ℕ) → IsRight p nodes r table
    → counts_by table.itags.items lefts rights ≡ joined_counts p nodes r lefts rights
counts_are p nodes r table lefts rights is =
    let n = count_of_itags p in
    let inside = below p nodes r in
    ap (λ bs. counts_by bs lefts rights) is.itags
    ∙ ap (λ m. map (count_by (map inside (range_with_len 0 n)) lefts rights) (range_with_len 0 m)) (length-map-range_with_len inside 0 n)
    ∙ map_range_alike (count_by (map inside (range_with_len 0 n)) lefts rights) (λ i. cond (inside i) (slice_index rights i) (slice_index lefts i)) 0 n
    (λ i lt. ap (λ b. cond b (slice_index rights i) (slice_index lefts i)) (get_or-map-range_with_len inside 0 n i i false (omega arith) (omega arith)))

-- ---- one more table

pub tables_turn : (p : Program) (nodes : List Node) (n : ℕ) (old new : List Right) (one : Right) → new ≡ old ++ one ∷ [] → length old ≡ n
    → IsRightAt p nodes n one → ((w : ℕ) (table : Right) → slice_get old w ≡ Some table → IsRightAt p nodes w table) → (w : ℕ) (table : Right)
    → slice_get new w ≡ Some table → IsRightAt p nodes w table
tables_turn p nodes n old new one grown so_many last kept w table e =
    elim (slice_get_push old one w table (ap (λ ts. slice_get ts w) (sym grown) ∙ e)) as (λ q. IsRightAt p nodes w table) [
      | inl f ↦ kept w table f
      | inr at ↦ subst (λ v. IsRightAt p nodes v table) (sym (at.0 ∙ so_many)) (subst (IsRightAt p nodes n) at.1 last)
    ]
