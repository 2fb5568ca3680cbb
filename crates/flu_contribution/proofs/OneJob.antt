-- Programs of one job: the same nodes may be apart, contribute the same, and are joined alike.
use Rattle.std.proofs.Common.{◌≡◌, refl, sym, ap, ◌∙◌, subst, ℕ, ◌<◌, List, [], ◌∷◌, ◌++◌, Bool, ◌&&◌, ◌||◌, not}
use Rattle.std.specs.Prelude.{◌+◌, false, None, Some, option_map, position, slice_get, if◌then◌else◌}
use Rattle.std.specs.List.{list_any, filter, range_with_len, AllByRecursion}
use Rattle.std.specs.Option.{option_map_or}
use Rattle.flu_model.specs.declared.events.Cell.{Cell}
use Rattle.flu_model.specs.declared.events.Event.{Event}
use Rattle.flu_model.specs.declared.events.Item.{Item}
use Rattle.flu_model.specs.declared.events.Tag.{Tag}
use Rattle.flu_model.specs.declared.jobs.Program.{Program}
use Rattle.flu_model.specs.declared.plans.Node.{Node}
use Rattle.flu_model.specs.Contents.{Contents}
use Rattle.flu_model.specs.Erasure.{IsSameJob}
use Rattle.flu_model.specs.Itags.{count_of_itags}
use Rattle.flu_model.specs.Merging.{merged}
use Rattle.flu_model.specs.Modes.{uses}
use Rattle.flu_model.specs.Rules.{is_clock}
use Rattle.flu_model.specs.Sorts.{IsStateOf}
use Rattle.flu_laws.specs.Consistency.{within, outside as without}
use Rattle.flu_laws.specs.OneJob.{JobsHaveTheSameItags, JobsDoTheSame, JobsAreAcceptedAlike, JobsHaveTheSameOwners}
use Rattle.flu_laws.specs.Uses.{needs}
use Rattle.flu_apart.specs.declared.classes.Class.TheVariants.{Unused, Kept, Contributed, Shared}
use Rattle.flu_apart.specs.declared.reason.Reason.{Reason}
use Rattle.flu_apart.specs.declared.reason.Reason.TheVariants.{Clock, Shared as SharedReason}
use Rattle.flu_apart.specs.Apart.{MayBeApart, first_clock, IsSharedUse, IsFirstReason}
use Rattle.flu_apart.specs.Classes.{itag, inside, mode_at, has_ticks, is_used, is_contributed, is_kept}
use Rattle.flu_contribution.specs.Combining.{Combined, with_effect, is_of_none}
use Rattle.flu_contribution.specs.Contributions.{is_class_kept, keeps, Contribution, opened, with_event, closed, contributions_from, contributions}
use Rattle.flu_contribution.specs.Laws.{IsApart, IsSetting}
use Rattle.flu_contribution.specs.OneJob.{MayBeApartAlike, ContributeTheSame}
use Rattle.flu_contribution.specs.Sending.{sent, with_due, without_due, joined_from, start_of}
use Rattle.flu_contribution.specs.Sharing.{is_itag_of_none, all_sent, joined_parts}

-- what is the same of two programs of a job, by the laws of jobs
pub record LawsOfJobs : Type 0 where
  pub itags : JobsHaveTheSameItags
  pub updates : JobsDoTheSame
  pub acceptance : JobsAreAcceptedAlike
  pub owners : JobsHaveTheSameOwners

module _ (laws : LawsOfJobs) (p q : Program) (same : IsSameJob p q) where
  -- ---- classes
  same_inside : inside p ≡ inside q
  same_inside = λ j nodes w i. (laws.owners p q same).below j nodes w (itag i)

  same_mode_at : mode_at p ≡ mode_at q
  same_mode_at = λ j i c. (laws.acceptance p q same).modes j ((laws.itags p q same).tags j (itag i)) c

  same_used : is_used p ≡ is_used q
  same_used = λ j nodes w c.
      list_any (λ i. same_inside j nodes w i && uses (same_mode_at j i c)) (range_with_len 0 ((laws.itags p q same).count j))

  same_contributed : is_contributed p ≡ is_contributed q
  same_contributed = λ j nodes w c.
      not (list_any (λ i. same_inside j nodes w i && needs (same_mode_at j i c)) (range_with_len 0 ((laws.itags p q same).count j)))

  same_kept : is_kept p ≡ is_kept q
  same_kept = λ j nodes w c.
      not (list_any (λ i. not (same_inside j nodes w i) && uses (same_mode_at j i c)) (range_with_len 0 ((laws.itags p q same).count j)))

  same_keeps : keeps p ≡ keeps q
  same_keeps = λ j nodes w c. is_class_kept (if same_used j nodes w c then (if same_kept j nodes w c then Kept
      else (if same_contributed j nodes w c then Contributed else Shared)) else Unused)

  -- ---- which nodes may be apart
  back : (i : ℕ) → i < count_of_itags q → i < count_of_itags p
  back i lt = subst (λ n. i < n) (sym (laws.itags p q same).count) lt

  same_ticks : has_ticks p ≡ has_ticks q
  same_ticks = λ j i. option_map_or is_clock (slice_get (same j).sources ((laws.itags p q same).sources j (itag i))) false

  same_first_clock : (nodes : List Node) (w : ℕ) → first_clock p nodes w ≡ first_clock q nodes w
  same_first_clock nodes w = λ j.
      option_map (λ i. (laws.itags p q same).sources j (itag i))
      (position (λ i. same_inside j nodes w i && same_ticks j i) (range_with_len 0 ((laws.itags p q same).count j)))

  same_may : (nodes : List Node) (w : ℕ) → MayBeApart p nodes w → MayBeApart q nodes w
  same_may nodes w may = record {
    no_clock = λ i lt inner. sym (λ j. same_ticks j i) ∙ may.no_clock i (back i lt) ((λ j. same_inside j nodes w i) ∙ inner);
    shares_none = λ i c lt inner used.
        sym (λ j. same_contributed j nodes w c || same_kept j nodes w c)
        ∙ may.shares_none i c (back i lt) ((λ j. same_inside j nodes w i) ∙ inner) ((λ j. uses (same_mode_at j i c)) ∙ used);
  }

  each_may : (nodes : List Node) (ws : List ℕ) → AllByRecursion (IsApart p nodes) ws → AllByRecursion (IsApart q nodes) ws
  each_may nodes [] all = all
  each_may nodes (w ∷ ws) (first, others) = (record { there = first.there; may = same_may nodes w first.may }, each_may nodes ws others)

  same_use : (nodes : List Node) (w : ℕ) (t : Tag) (c : Cell) → IsSharedUse p nodes w t c → IsSharedUse q nodes w t c
  same_use nodes w t c r = record {
    itag = r.itag;
    in_range = subst (λ n. r.itag < n) (laws.itags p q same).count r.in_range;
    of_subtree = sym (λ j. same_inside j nodes w r.itag) ∙ r.of_subtree;
    tag = sym (λ j. (laws.itags p q same).tags j (itag r.itag)) ∙ r.tag;
    used = sym (λ j. uses ((laws.acceptance p q same).modes j t c)) ∙ r.used;
    not_contributed = sym (λ j. same_contributed j nodes w c) ∙ r.not_contributed;
    not_kept = sym (λ j. same_kept j nodes w c) ∙ r.not_kept;
  }

  same_setting : (nodes : List Node) (opening : Contents) → IsSetting p nodes opening → IsSetting q nodes opening
  same_setting nodes opening setting = record {
    accepted = (laws.acceptance p q same).accepted setting.accepted;
    tree = setting.tree;
    valid = (laws.owners p q same).valid nodes setting.valid;
    sorts = subst (λ families. IsStateOf families opening) (ap (λ j. j.families) same) setting.sorts;
  }

  -- ---- contributions
  module _ (nodes : List Node) (w : ℕ) where
    same_opened : (s : Contents) → opened p nodes w s ≡ opened q nodes w s
    same_opened s = ap (λ (of_node : List Node → ℕ → Cell → Bool). opened_by (of_node nodes w) s) same_keeps
      where
        opened_by : (Cell → Bool) → Contents → Contribution
        opened_by kept s = record { cells = within kept s; outputs = []; count = 0; before = None }

    same_event : (k : Contribution) (x : Event) → with_event p k x ≡ with_event q k x
    same_event k x = λ j.
        let e = (laws.updates p q same).effect j k.cells x in
        record { cells = e.cells; outputs = k.outputs ++ (laws.updates p q same).with_texts j x e.texts; count = k.count + 1; before = None }

    same_closed : (k : Contribution) (y : Event) → closed p nodes w k y ≡ closed q nodes w k y
    same_closed k y = λ j. record { cells = without (same_keeps j nodes w) k.cells; outputs = k.outputs; count = k.count; before = Some y }

    same_from : (k : Contribution) (xs : List Event) → contributions_from p nodes w k xs ≡ contributions_from q nodes w k xs
    same_from k [] = refl
    same_from k (x ∷ xs) =
        let inner = same_from (with_event p k x) xs ∙ ap (λ m. contributions_from q nodes w m xs) (same_event k x) in
        let next = same_from (opened p nodes w k.cells) xs ∙ ap (λ m. contributions_from q nodes w m xs) (same_opened k.cells) in
        let other = same_from k xs in
        λ j. if (laws.owners p q same).below j nodes w x.itag then inner j
        else (if (laws.owners p q same).above j nodes w x.itag then same_closed k x j ∷ next j else other j)

  same_contributions : contributions p ≡ contributions q
  same_contributions = λ j nodes w opening xs.
      (same_from nodes w (opened p nodes w opening) xs ∙ ap (λ m. contributions_from q nodes w m xs) (same_opened nodes w opening)) j

  -- ---- joining
  same_joined : (r : Combined) (queues : List (List Contribution)) (ys : List Event) → joined_from p r queues ys ≡ joined_from q r queues ys
  same_joined r queues [] = refl
  same_joined r queues (y ∷ ys) =
      let now = with_due y r queues in
      same_joined (with_effect p now y) (without_due y queues) ys
      ∙ ap (λ s. joined_from q s (without_due y queues) ys) (same_effect now y)
    where
      same_effect : (s : Combined) (y : Event) → with_effect p s y ≡ with_effect q s y
      same_effect s y = λ j.
          let e = (laws.updates p q same).effect j s.cells y in
          record { cells = e.cells; outputs = s.outputs ++ (laws.updates p q same).with_texts j y e.texts }

  same_start : start_of p ≡ start_of q
  same_start = λ j nodes ws opening. record { cells = without (λ c. list_any (λ w. same_keeps j nodes w c) ws) opening; outputs = [] }

  same_rest : is_itag_of_none p ≡ is_itag_of_none q
  same_rest = λ j nodes ws i. not (list_any (λ w. same_inside j nodes w i) ws)

  all_alike : (nodes : List Node) (opening : Contents) (ws : List ℕ) (parts : List (List (List Item)))
      → all_sent p nodes opening ws parts ≡ all_sent q nodes opening ws parts
  all_alike nodes opening [] parts = refl
  all_alike nodes opening (w ∷ ws) [] = refl
  all_alike nodes opening (w ∷ ws) (part ∷ parts) = λ j.
      sent (same_contributions j nodes w opening (merged part)) ∷ all_alike nodes opening ws parts j

  joined_alike : joined_from p ≡ joined_from q
  joined_alike = λ j r queues ys. same_joined r queues ys j

  same_of_none : is_of_none p ≡ is_of_none q
  same_of_none = λ j nodes ws x. not (list_any (λ w. (laws.owners p q same).below j nodes w x.itag) ws)

  same_parts : joined_parts p ≡ joined_parts q
  same_parts = λ j nodes ws opening parts rest.
      joined_alike j (same_start j nodes ws opening) (all_alike nodes opening ws parts j) (filter (same_of_none j nodes ws) (merged rest))

  pub contribute_same : ContributeTheSame p q
  contribute_same = record {
    needed = λ j nodes w i. same_inside j nodes w i || (laws.owners p q same).above j nodes w (itag i);
    sent = same_contributions;
    rest = same_rest;
    start = same_start;
    joined = joined_alike;
    parts = same_parts;
  }

pub apart_alike : (laws : LawsOfJobs) (p q : Program) → IsSameJob p q → MayBeApartAlike p q
apart_alike laws p q same = record {
  may = same_may laws p q same;
  apart = λ nodes ws apart. record { each = each_may laws p q same nodes ws apart.each; none_within = apart.none_within };
  reason = first_alike;
  setting = same_setting laws p q same;
}
  where
    first_alike : (nodes : List Node) (w : ℕ) (r : Reason) → IsFirstReason p nodes w r → IsFirstReason q nodes w r
    first_alike nodes w (Clock number) is = sym (same_first_clock laws p q same nodes w) ∙ is
    first_alike nodes w (SharedReason u) is = (
      sym (same_first_clock laws p q same nodes w) ∙ is.0,
      record {
        shared = same_use laws p q same nodes w u.tag u.cell is.1.shared;
        first = λ v d other. is.1.first v d (same_use laws q p (sym same) nodes w v d other);
      },
    )
