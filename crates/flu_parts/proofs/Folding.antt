-- What is combined of the texts that other processes wrote is the report of the fold.
use Rattle.std.proofs.Common.{◌≡◌, ◌<◌, ◌≤◌, ℕ, Bool, true, false, Option, Some, List, [], ◌∷◌, ◌++◌, length, refl, sym, ap, subst, ◌∙◌}
use Rattle.std.specs.Prelude.{◌||◌, not, if◌then◌else◌, IsTrue}
use Rattle.std.specs.List.{AllByRecursion, list_any}
use Rattle.flu_lemmas.proofs.Places.{position_below}
use Rattle.flu_outside.specs.Outside.{Contents}
use Rattle.flu_outside.specs.Taking.{bytes_left}
use Rattle.flu_model.specs.declared.events.Item.{Item}
use Rattle.flu_model.specs.declared.jobs.Program.{Program}
use Rattle.flu_model.specs.declared.plans.Node.{Node}
use Rattle.flu_model.specs.Contents.{nothing_held}
use Rattle.flu_model.specs.Erasure.{job_of, IsSameJob}
use Rattle.flu_model.specs.Rules.{is_clock, is_same_text}
use Rattle.flu_model.specs.Streaming.{are_streams}
use Rattle.flu_contribution.specs.Contributions.{Contribution}
use Rattle.flu_contribution.specs.Laws.{IsSetting}
use Rattle.flu_grammar.specs.Jobs.{IsJobText}
use Rattle.flu_grammar.specs.Plans.{IsPlanText}
use Rattle.flu_grammar.specs.Laws.{TextsHaveOneJob, JobsHaveOnePlan, PlansAreGrammar, NormalFormIsUtf8}
use Rattle.flu_plan.specs.Laws.{PlansHaveText}
use Rattle.flu_streams.specs.Good.{AreGood}
use Rattle.flu_selected.specs.Gathering.{IsRead}
use Rattle.flu_selected.specs.Laws.{selected, read_ranks, LawOfDefects, LawOfLength, LawOfRanks}
use Rattle.flu_selected.specs.OneJob.{JobsSelectTheSame}
use Rattle.flu_selected.specs.Spans.{span_of_ranks, span_told, moments_fit}
use Rattle.flu_readers.specs.Laws.{FilesThatAreReadMatter, GoodSourcesGiveStreams}
use Rattle.flu_readers.specs.OneJob.{JobsReadTheSameParts}
use Rattle.flu_readers.specs.Reading.{reads, reads_rest, part_read, all_told, IsReadGood, EachReadsGood}
use Rattle.flu_partial.specs.declared.values.Contribution as partial
use Rattle.flu_partial.specs.declared.values.PartialHead.{PartialHead}
use Rattle.flu_sending.specs.Lines.{first_time, last_time, sent_by}
use Rattle.flu_node_run.specs.Laws.{JobsHaveOnePartial}
use Rattle.flu_node_run.specs.Partials.{text_of_partial, IsPartialOf as IsPartialFrom}
use Rattle.flu_readable.specs.Laws.{WhatIsReadIsReadable, WhatIsReadTellsItsRows}
use Rattle.flu_receiving.specs.Laws.{PartialsHaveOneText}
use Rattle.flu_receiving.specs.Receiving.{last_of}
use Rattle.flu_combine.specs.Laws.{sent_of_each, told_of_each, PartialsAreCombined, TextsAreWholePartials, TextsTellTheirRows}
use Rattle.flu_combine.specs.Names.{read_out}
use Rattle.flu_combine.specs.Partials.{most_bytes, node_named, told_by, times_fit, IsPartialOf, ArePartials, TellsRows, AllTellRows}
use Rattle.flu_words.specs.Parts.{Combine}
use Rattle.flu_command.specs.Behind.{Named, plan_behind}
use Rattle.flu_parts.specs.Planned.{behind}
use Rattle.flu_parts.specs.Laws.{IsMadeOf, PartialsCombinedAreTheFold}

-- the laws of the crates below
pub record Lawful : Type 0 where
  pub one_job : TextsHaveOneJob
  pub one_plan : JobsHaveOnePlan
  pub grammar : PlansAreGrammar
  pub utf8 : NormalFormIsUtf8
  pub has_text : PlansHaveText
  pub size : LawOfLength
  pub ranks : LawOfRanks
  pub defects : LawOfDefects
  pub select_same : JobsSelectTheSame
  pub files : FilesThatAreReadMatter
  pub streams : GoodSourcesGiveStreams
  pub read_same : JobsReadTheSameParts
  pub one_partial : JobsHaveOnePartial
  pub readable : WhatIsReadIsReadable
  pub tells_rows : WhatIsReadTellsItsRows
  pub one_text : PartialsHaveOneText
  pub are_whole : TextsAreWholePartials
  pub tell : TextsTellTheirRows
  pub combined : PartialsAreCombined

-- ---- what is told, in a job with a clock or in another
module _ (p : Program) where
  -- times have to fit where there is a clock
  fit_of : (clocks : Bool) → list_any is_clock p.sources ≡ clocks → (first last : Option ℕ) → (clocks ≡ true → moments_fit p first last ≡ true)
      → times_fit p first last ≡ true
  fit_of true is first last fit = ap (λ (b : Bool). not b || moments_fit p first last) is ∙ fit refl
  fit_of false is first last fit = ap (λ (b : Bool). not b || moments_fit p first last) is

  -- and tell where the first and the last of some rows stand
  told_of : (clocks : Bool) → list_any is_clock p.sources ≡ clocks → (first last : Option ℕ) (ranks : List ℕ)
      → (clocks ≡ true → span_told p first last ≡ span_of_ranks ranks)
      → told_by p first last ≡ (if list_any is_clock p.sources then span_of_ranks ranks else [])
  told_of true is first last ranks told =
      ap (λ (b : Bool). if b then span_told p first last else []) is ∙ told refl ∙ sym (ap (λ (b : Bool). if b then span_of_ranks ranks else []) is)
  told_of false is first last ranks told =
      ap (λ (b : Bool). if b then span_told p first last else []) is ∙ sym (ap (λ (b : Bool). if b then span_of_ranks ranks else []) is)

-- nothing is told of nothing
none_told : (clocks : Bool) (none : List ℕ) → (if clocks then none else none) ≡ none
none_told true none = refl
none_told false none = refl

-- what is told first, and what is told then
told_in_turn : (clocks : Bool) (first later : List ℕ)
    → (if clocks then first ++ later else []) ≡ (if clocks then first else []) ++ (if clocks then later else [])
told_in_turn true first later = refl
told_in_turn false first later = refl

-- a job and a plan for it, and what all their sources have
module _ (law : Lawful) (p : Program) (nodes : List Node) (job plan : List ℕ) (has : IsJobText job (job_of p)) (planned : IsPlanText p plan nodes)
    (whole : Contents) where
  -- a text is the partial of a node of the sources that it reads, which have no defect
  pub record IsMadeAt (text : List ℕ) (w : ℕ) : Type 0 where
    there : w < length nodes
    good : IsReadGood p [] (reads p nodes w) whole
    is : text ≡ text_of_partial p nodes w (part_read p nodes whole w)

  -- ---- one process
  -- a program of the same job reads the same files
  same_read : (q : Program) (w : ℕ) (name : List ℕ) → IsSameJob q p → IsRead p (reads p nodes w) name → IsRead q (reads q nodes w) name
  same_read q w name same read =
      subst (λ (r : List Node → ℕ → ℕ → Bool). IsRead q (r nodes w) name) (law.read_same p q (sym same)).sources
      ((law.select_same p q (sym same)).read (reads p nodes w) name read)

  -- and writes the same partial
  made_at : (q : Program) (w : ℕ) (text : List ℕ) (left now : Contents) → IsSameJob q p → w < length nodes → IsPartialFrom q nodes w text left now
      → ((name : List ℕ) → IsRead q (reads q nodes w) name → left name ≡ whole name) → IsMadeAt text w
  made_at q w text left now same there wrote files =
      let mine = (law.one_partial q p same).partial nodes w text left now wrote in
      let alike = law.files p (reads p nodes w) left whole (λ name read. files name (same_read q w name same read)) in
      record {
        there = there;
        good = sym (alike.faults []) ∙ mine.good;
        is = mine.is ∙ ap (λ (lists : List (List Item)). text_of_partial p nodes w lists) (alike.lists []);
      }

  -- its plan has the same nodes
  made_of : (q : Program) (others : List Node) (w : ℕ) (text : List ℕ) (left now : Contents) → IsSameJob q p → others ≡ nodes → w < length others
      → IsPartialFrom q others w text left now → ((name : List ℕ) → IsRead q (reads q others w) name → left name ≡ whole name) → IsMadeAt text w
  made_of q others w text left now same plans there wrote files =
      made_at q w text left now same (subst (λ (ns : List Node). w < length ns) plans there)
      (subst (λ (ns : List Node). IsPartialFrom q ns w text left now) plans wrote)
      (subst (λ (ns : List Node). (name : List ℕ) → IsRead q (reads q ns w) name → left name ≡ whole name) plans files)

  made : (text : List ℕ) → IsMadeOf whole job plan text → (w : ℕ) × IsMadeAt text w
  made text of =
      let q = of.wrote.p in
      let others = of.wrote.nodes in
      let w = of.wrote.is.0 in
      let same : IsSameJob q p =
      law.one_job job (job_of q) (job_of p) (subst (λ (bytes : List ℕ). IsJobText bytes (job_of q)) of.same_job of.wrote.planned.has) has in
      let plans : others ≡ nodes =
      law.one_plan q p same plan others nodes (subst (λ (bytes : List ℕ). IsPlanText q bytes others) of.same_plan of.wrote.planned.plan) planned in
      let there : w < length others = position_below (λ (n : Node). is_same_text n.name of.node) others w of.wrote.is.1.named in
      (w, made_of q others w text _ of.now same plans there of.wrote.is.2 of.same_sources)

  -- ---- its text is a whole partial
  are_good : (w : ℕ) → IsReadGood p [] (reads p nodes w) whole → AreGood p (selected p (reads p nodes w) whole)
  are_good w good = law.defects p [] (reads p nodes w) whole ∙ good

  is_partial : (text : List ℕ) (w : ℕ) → IsMadeAt text w → length text ≤ most_bytes
      → IsPartialOf p nodes text w (sent_by p nodes w (part_read p nodes whole w))
  is_partial text w at few =
      let read = selected p (reads p nodes w) whole in
      let lists = part_read p nodes whole w in
      subst (λ (bytes : List ℕ). IsPartialOf p nodes bytes w (sent_by p nodes w lists)) (sym at.is)
      (law.are_whole p nodes w lists (law.utf8 job (job_of p) has) (law.has_text p plan nodes ((law.grammar p plan nodes).1 planned))
      planned.means.rules.own_names at.there (law.size p [] read) (law.streams p read (are_good w at.good)) (law.readable p read (are_good w at.good))
      (subst (λ (bytes : List ℕ). length bytes ≤ most_bytes) at.is few))

  -- and tells where the first and the last of the node's rows stand
  abbrev told_at : ℕ → List ℕ
  told_at w = if list_any is_clock p.sources then span_of_ranks (read_ranks p (reads p nodes w) whole) else []

  tells_rows : (text : List ℕ) (w : ℕ) → IsMadeAt text w → length text ≤ most_bytes → TellsRows p text (told_at w)
  tells_rows text w at few =
      let read = selected p (reads p nodes w) whole in
      let lists = part_read p nodes whole w in
      let first = first_time p lists in
      let last = last_time p lists in
      let told = told_of p (list_any is_clock p.sources) refl first last (read_ranks p (reads p nodes w) whole)
      (λ clocks. (law.tells_rows p read clocks (are_good w at.good)).told ∙ ap span_of_ranks (law.ranks p (reads p nodes w) whole)) in
      subst (λ (bytes : List ℕ). TellsRows p bytes (told_at w)) (sym at.is)
      (subst (λ (ranks : List ℕ). TellsRows p (text_of_partial p nodes w lists) ranks) told
      (law.tell p nodes w lists (law.utf8 job (job_of p) has) (law.has_text p plan nodes ((law.grammar p plan nodes).1 planned))
      planned.means.rules.own_names at.there (law.size p [] read) (law.streams p read (are_good w at.good)) (law.readable p read (are_good w at.good))
      (subst (λ (bytes : List ℕ). length bytes ≤ most_bytes) at.is few)
      (fit_of p (list_any is_clock p.sources) refl first last (λ clocks. (law.tells_rows p read clocks (are_good w at.good)).fits))))

  -- bytes are a partial of one node
  same_node : (bytes : List ℕ) (v w : ℕ) (js ks : List Contribution) → IsPartialOf p nodes bytes v js → IsPartialOf p nodes bytes w ks → v ≡ w
  same_node bytes v w js ks one other =
      let same = law.one_text bytes one.head other.head one.lines other.lines one.whole other.whole in
      let node : Some v ≡ Some w =
      sym one.of_node.node ∙ ap (λ (h : PartialHead). node_named nodes h.node) same.0 ∙ other.of_node.node in
      cc

  -- and tell one thing
  same_rows : (bytes one other : List ℕ) → TellsRows p bytes one → TellsRows p bytes other → one ≡ other
  same_rows bytes one other first second =
      let same = law.one_text bytes first.head second.head first.lines second.lines first.whole second.whole in
      first.tells ∙ ap (λ (h : PartialHead). told_by p h.first (last_of first.lines)) same.0
      ∙ ap (λ (lines : List partial.Contribution). told_by p second.head.first (last_of lines)) same.1 ∙ sym second.tells

  pub all_same_rows : (old : Contents) (names : List (List ℕ)) (one other : List ℕ) → AllTellRows p old names one → AllTellRows p old names other
      → one ≡ other
  all_same_rows old [] one other first second = first ∙ sym second
  all_same_rows old (name ∷ names) one other first second =
      let here = same_rows (bytes_left old name) first.0 second.0 first.2 second.2 in
      let later = all_same_rows old names first.1 second.1 first.3 second.3 in
      first.4 ∙ (λ i. here i ++ later i) ∙ sym second.4

  -- ---- all processes
  pub all_made : (old : Contents) (names : List (List ℕ)) (ws : List ℕ) (queues : List (List Contribution)) → ArePartials p nodes old names ws queues
      → AllByRecursion (λ name. IsMadeOf whole job plan (bytes_left old name)) names
      → EachReadsGood p nodes whole ws × ArePartials p nodes old names ws (sent_of_each p nodes whole ws)
      × AllTellRows p old names (told_of_each p nodes whole ws)
  all_made old [] [] [] are all = (tt, tt, none_told (list_any is_clock p.sources) [])
  all_made old [] [] (sent ∷ queues) are all = absurd are
  all_made old [] (w ∷ ws) queues are all = absurd are
  all_made old (name ∷ names) [] queues are all = absurd are
  all_made old (name ∷ names) (w ∷ ws) [] are all = absurd are
  all_made old (name ∷ names) (w ∷ ws) (sent ∷ queues) are all =
      let bytes = bytes_left old name in
      let here = made bytes all.0 in
      let partial = is_partial bytes here.0 here.1 are.0.few in
      let same : here.0 ≡ w = same_node bytes here.0 w (sent_by p nodes here.0 (part_read p nodes whole here.0)) sent partial are.0 in
      let more = all_made old names ws queues are.1 all.1 in (
        (subst (λ (v : ℕ). IsReadGood p [] (reads p nodes v) whole) same here.1.good, more.0),
        (subst (λ (v : ℕ). IsPartialOf p nodes bytes v (sent_by p nodes v (part_read p nodes whole v))) same partial, more.1),
        (
          told_at w,
          told_of_each p nodes whole ws,
          subst (λ (v : ℕ). TellsRows p bytes (told_at v)) same (tells_rows bytes here.0 here.1 are.0.few),
          more.2,
          told_in_turn (list_any is_clock p.sources) (span_of_ranks (read_ranks p (reads p nodes w) whole)) (all_told p nodes whole ws),
        ),
      )

pub combined_fold : Lawful → PartialsCombinedAreTheFold
combined_fold law whole left now job plan partials text wrote made same =
    let p = wrote.p in
    let nodes = wrote.nodes in
    let old = behind (Combine job plan partials) left in
    let is = wrote.is.1 in
    let setting : IsSetting p nodes nothing_held = record {
      accepted = wrote.planned.accepted;
      tree = wrote.planned.plan.means.rules.one_tree;
      valid = wrote.planned.valid;
      sorts = λ c. tt;
    } in
    let bytes = bytes_left left job in
    let plan_bytes = plan_behind (Named job) plan left in
    let all =
    all_made law p nodes bytes plan_bytes wrote.planned.has wrote.planned.plan whole old partials is.ws is.queues is.accepted.partials made in
    let told : is.told ≡ told_of_each p nodes whole is.ws =
    all_same_rows law p nodes bytes plan_bytes wrote.planned.has wrote.planned.plan whole old partials is.told (told_of_each p nodes whole is.ws)
    is.accepted.tell all.2 in
    let rest = law.files p (reads_rest p nodes is.ws) (read_out partials old) whole same in
    let good : IsReadGood p (told_of_each p nodes whole is.ws) (reads_rest p nodes is.ws) whole =
    subst (λ (ranks : List ℕ). IsReadGood p ranks (reads_rest p nodes is.ws) whole) told (sym (rest.faults is.told) ∙ is.good) in
    law.combined p nodes is.ws partials text whole old now setting is.accepted.apart all.0 good all.1 all.2 same is
