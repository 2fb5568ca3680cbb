-- The graph that is read from the table of a job.
use Rattle.std.proofs.Common.{◌≡◌, ◌<◌, ◌≤◌, ℕ, Bool, cond, List, map, length, get_or, inl, inr, Some, sym, ap, ◌∙◌, arith}
use Rattle.std.specs.Prelude.{◌&&◌, slice_get}
use Rattle.std.specs.List.{range_with_len}
use Rattle.std.proofs.lemmas.Bool.{cases_lt, cases_order, lt-ltb, le-ltb, le-leb}
use Rattle.std.proofs.lemmas.List.FromFn.{length-map-range_with_len, get_or-map-range_with_len}
use Rattle.std.proofs.lemmas.Option.{slice_get-get_or}
use Rattle.flu_lemmas.proofs.Ranges.{range_below}
use Rattle.flu_model.specs.declared.events.Tag.{Tag}
use Rattle.flu_model.specs.declared.jobs.Program.{Program}
use Rattle.flu_model.specs.Itags.{count_of_itags, tag_of_itag}
use Rattle.flu_laws.specs.Lawful.{DependencyTurns}
use Rattle.flu_planner.specs.Graphs.{dependencies}
use Rattle.flu_planner.specs.Plans.{all_itags}
use Rattle.flu_planner.specs.LoopTables.{tags_of, read, is_set, in_row, row_of, are_dependent, table_of, graph_of}
use Rattle.flu_planner.proofs.Agreement.{Agree}

-- each edge leads both ways
pub graph_turns : (table : List (List Bool)) (i j : ℕ) → graph_of table i j ≡ graph_of table j i
unfolding graph_of
graph_turns table i j =
    elim (cases_order i j) [
      | inl same ↦ ap (λ n. graph_of table n j) same ∙ ap (λ n. graph_of table j n) (sym same)
      | inr order ↦ elim order [
        | inl less ↦
            ap (λ b. cond b (read table i j) (read table j i)) (lt-ltb i j less)
            ∙ sym (ap (λ b. cond b (read table j i) (read table i j)) (le-ltb j i (omega arith)))
        | inr more ↦
            ap (λ b. cond b (read table i j) (read table j i)) (le-ltb i j (omega arith))
            ∙ sym (ap (λ b. cond b (read table j i) (read table i j)) (lt-ltb j i more))
      ]
    ]

-- ---- the table of a job
-- what stands at a place of a list that is made of a run of numbers
made_at : {X : Type 0} (f : ℕ → X) (n i : ℕ) → i < n → slice_get (map f (range_with_len 0 n)) i ≡ Some (f i)
made_at f n i lt =
    slice_get-get_or (map f (range_with_len 0 n)) i (f i) (omega (arith, length-map-range_with_len f 0 n))
    ∙ ap Some (get_or-map-range_with_len f 0 n i i (f i) lt (omega arith))

pub tag_count : (p : Program) → length (tags_of p) ≡ count_of_itags p
tag_count p = length-map-range_with_len (λ i. tag_of_itag p (record { 0 = i })) 0 (count_of_itags p)

pub tag_at : (p : Program) (i : ℕ) (d : Tag) → i < count_of_itags p → get_or (tags_of p) i d ≡ tag_of_itag p (record { 0 = i })
tag_at p i d lt = get_or-map-range_with_len (λ i. tag_of_itag p (record { 0 = i })) 0 (count_of_itags p) i i d lt (omega arith)

read_is : (p : Program) (i j : ℕ) → i ≤ j → j < count_of_itags p → read (table_of p) i j ≡ dependencies p i j
unfolding table_of
read_is p i j le other =
    ap (λ row. in_row row j) (made_at (λ k. row_of p k (count_of_itags p)) (count_of_itags p) i (omega arith))
    ∙ ap is_set (made_at (are_dependent p i) (count_of_itags p) j other)
    ∙ ap (λ b. b && dependencies p i j) (le-leb i j le)

pub agrees_with_table : DependencyTurns → (p : Program) → Agree (graph_of (table_of p)) (dependencies p) (all_itags p)
unfolding graph_of
agrees_with_table law p = record {
  same = λ i j one other.
      (let a : i < count_of_itags p = range_below (count_of_itags p) i one in
      let b : j < count_of_itags p = range_below (count_of_itags p) j other in
      let table : List (List Bool) = table_of p in
      elim (cases_lt i j) [
        | inl less ↦ ap (λ c. cond c (read table i j) (read table j i)) (lt-ltb i j less) ∙ read_is p i j (omega arith) b
        | inr le ↦
            ap (λ c. cond c (read table i j) (read table j i)) (le-ltb i j le) ∙ read_is p j i le a
            ∙ law p (tag_of_itag p (record { 0 = j })) (tag_of_itag p (record { 0 = i }))
      ]);
}
