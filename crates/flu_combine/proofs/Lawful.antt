-- What is combined of the partials of all nodes apart is the report of all sources.
use Rattle.std.proofs.Common.{◌≡◌, ℕ, Bool, Some, List, [], ◌∷◌, ◌++◌, refl, sym, ap, subst, ◌∙◌, cond}
use Rattle.std.specs.Prelude.{map, IsTrue}
use Rattle.std.specs.List.{AllByRecursion}
use Rattle.flu_lemmas.specs.Items.{Pairs}
use Rattle.flu_model.specs.declared.events.Item.{Item}
use Rattle.flu_model.specs.declared.jobs.Program.{Program}
use Rattle.flu_model.specs.declared.plans.Node.{Node}
use Rattle.flu_model.specs.Contents.{nothing_held}
use Rattle.flu_model.specs.Reports.{report}
use Rattle.flu_model.specs.Streaming.{are_streams}
use Rattle.flu_outside.specs.Outside.{Contents}
use Rattle.flu_outside.specs.Taking.{bytes_left}
use Rattle.flu_contribution.specs.Combining.{Combined}
use Rattle.flu_contribution.specs.Contributions.{Contribution}
use Rattle.flu_contribution.specs.Laws.{IsApart}
use Rattle.flu_contribution.specs.Sending.{joined_from}
use Rattle.flu_contribution.specs.Sharing.{ArePartsFor}
use Rattle.flu_partial.specs.declared.values.Contribution as partial
use Rattle.flu_partial.specs.declared.values.PartialHead.{PartialHead}
use Rattle.flu_handover.specs.Handing.{IsLineOf}
use Rattle.flu_handover.specs.Laws.{LinesDetermine}
use Rattle.flu_streams.specs.Good.{lists_of}
use Rattle.flu_selected.specs.Laws.{LawOfLength}
use Rattle.flu_readers.specs.Laws.{FilesThatAreReadMatter, GoodPartsGiveStreams, ANodeReadsItsPart, TheRestIsRead}
use Rattle.flu_readers.specs.Reading.{reads_rest, part_read, rest_read, all_told, EachReadsGood}
use Rattle.flu_receiving.specs.Laws.{PartialsHaveOneText}
use Rattle.flu_receiving.specs.Receiving.{last_of}
use Rattle.flu_joining.specs.Joining.{events_of_none, nothing_joined}
use Rattle.flu_joining.specs.Laws.{AreAllAlike, AreQueuesAlike, EmptyOpeningsStartEmpty, WhatWasSentGivesTheReport}
use Rattle.flu_combine.specs.Laws.{sent_of_each, told_of_each, PartialsAreCombined}
use Rattle.flu_combine.specs.Names.{read_out}
use Rattle.flu_combine.specs.Partials.{node_named, told_by, IsPartialOf, ArePartials, TellsRows, AllTellRows}

-- what has the same lines is alike
pairs_alike : LinesDetermine → (p : Program) (cs : List partial.Contribution) (js ks : List Contribution) → Pairs (IsLineOf p) cs js → Pairs (IsLineOf p) cs ks
    → AreAllAlike p js ks
pairs_alike determine p [] [] [] one other = tt
pairs_alike determine p [] [] (k ∷ ks) one other = absurd other
pairs_alike determine p [] (j ∷ js) ks one other = absurd one
pairs_alike determine p (c ∷ cs) [] ks one other = absurd one
pairs_alike determine p (c ∷ cs) (j ∷ js) [] one other = absurd other
pairs_alike determine p (c ∷ cs) (j ∷ js) (k ∷ ks) one other =
    (determine p one.0.1.0 other.0.1.0 j k one.0.0 other.0.0 (sym one.0.1.1 ∙ other.0.1.1), pairs_alike determine p cs js ks one.1 other.1)

-- one partial is of one node, and of one thing that was sent
pub one_alike : PartialsHaveOneText → LinesDetermine → (p : Program) (nodes : List Node) (bytes : List ℕ) (v w : ℕ) (js ks : List Contribution)
    → IsPartialOf p nodes bytes v js → IsPartialOf p nodes bytes w ks → (v ≡ w) × AreAllAlike p js ks
one_alike one_text determine p nodes bytes v w js ks one other =
    let same = one_text bytes one.head other.head one.lines other.lines one.whole other.whole in
    let node : Some v ≡ Some w =
    sym one.of_node.node ∙ ap (λ (h : PartialHead). node_named nodes h.node) same.0 ∙ other.of_node.node in
    let number : v ≡ w = cc in
    let lines : Pairs (IsLineOf p) one.lines ks = subst (λ (cs : List partial.Contribution). Pairs (IsLineOf p) cs ks) (sym same.1) other.said in
    (number, pairs_alike determine p one.lines js ks one.said lines)

push_same : (v w : ℕ) (vs ws : List ℕ) → v ≡ w → vs ≡ ws → v ∷ vs ≡ w ∷ ws
push_same v w vs ws one more = cc

pub all_alike : PartialsHaveOneText → LinesDetermine → (p : Program) (nodes : List Node) (left : Contents) (names : List (List ℕ)) (vs ws : List ℕ)
    (js ks : List (List Contribution)) → ArePartials p nodes left names vs js → ArePartials p nodes left names ws ks → (vs ≡ ws) × AreQueuesAlike p js ks
all_alike one_text determine p nodes left [] [] [] [] [] one other = (refl, tt)
all_alike one_text determine p nodes left [] [] [] [] (k ∷ ks) one other = absurd other
all_alike one_text determine p nodes left [] [] (w ∷ ws) [] ks one other = absurd other
all_alike one_text determine p nodes left [] [] ws (j ∷ js) ks one other = absurd one
all_alike one_text determine p nodes left [] (v ∷ vs) ws js ks one other = absurd one
all_alike one_text determine p nodes left (name ∷ names) [] ws js ks one other = absurd one
all_alike one_text determine p nodes left (name ∷ names) (v ∷ vs) ws [] ks one other = absurd one
all_alike one_text determine p nodes left (name ∷ names) (v ∷ vs) [] (j ∷ js) ks one other = absurd other
all_alike one_text determine p nodes left (name ∷ names) (v ∷ vs) (w ∷ ws) (j ∷ js) [] one other = absurd other
all_alike one_text determine p nodes left (name ∷ names) (v ∷ vs) (w ∷ ws) (j ∷ js) (k ∷ ks) one other =
    let here = one_alike one_text determine p nodes (bytes_left left name) v w j k one.0 other.0 in
    let more = all_alike one_text determine p nodes left names vs ws js ks one.1 other.1 in
    (push_same v w vs ws here.0 more.0, (here.1, more.1))

-- one partial tells one thing of its rows
tells_alike : PartialsHaveOneText → (p : Program) (bytes these those : List ℕ) → TellsRows p bytes these → TellsRows p bytes those → these ≡ those
tells_alike one_text p bytes these those one other =
    let same = one_text bytes one.head other.head one.lines other.lines one.whole other.whole in
    one.tells
    ∙ ap (λ (h : PartialHead). told_by p h.first (last_of one.lines)) same.0
    ∙ ap (λ (cs : List partial.Contribution). told_by p other.head.first (last_of cs)) same.1
    ∙ sym other.tells

pub all_tell_alike : PartialsHaveOneText → (p : Program) (left : Contents) (names : List (List ℕ)) (these those : List ℕ) → AllTellRows p left names these
    → AllTellRows p left names those → these ≡ those
all_tell_alike one_text p left [] these those one other = one ∙ sym other
all_tell_alike one_text p left (name ∷ names) these those one other =
    one.4
    ∙ ap (λ (xs : List ℕ). xs ++ one.1) (tells_alike one_text p (bytes_left left name) one.0 other.0 one.2 other.2)
    ∙ ap (λ (xs : List ℕ). other.0 ++ xs) (all_tell_alike one_text p left names one.1 other.1 one.3 other.3)
    ∙ sym other.4

-- each node has read its part
parts_are : ANodeReadsItsPart → (p : Program) (nodes : List Node) (left : Contents) (ws : List ℕ) → AllByRecursion (IsApart p nodes) ws
    → IsTrue (are_streams 0 (lists_of p left)) → EachReadsGood p nodes left ws
    → ArePartsFor p nodes (lists_of p left) ws (map (part_read p nodes left) ws)
parts_are reads_part p nodes left [] apart streams good = tt
parts_are reads_part p nodes left (w ∷ ws) apart streams good =
    (reads_part p nodes w left apart.0.may streams good.0, parts_are reads_part p nodes left ws apart.1 streams good.1)

pub partials_combined : PartialsHaveOneText → LinesDetermine → LawOfLength → FilesThatAreReadMatter → GoodPartsGiveStreams → ANodeReadsItsPart → TheRestIsRead
    → EmptyOpeningsStartEmpty → WhatWasSentGivesTheReport → PartialsAreCombined
partials_combined one_text determine size files streams reads_part reads_others start gives p nodes ws names text left old new setting apart each good partials
    tell same_files combined =
    let told = told_of_each p nodes left ws in
    let alike = all_alike one_text determine p nodes old names combined.ws ws combined.queues (sent_of_each p nodes left ws)
    combined.accepted.partials partials in
    let same_told : combined.told ≡ told = all_tell_alike one_text p old names combined.told told combined.accepted.tell tell in
    let rest : rest_read p nodes ws told (read_out names old) ≡ rest_read p nodes ws told left =
    (files p (reads_rest p nodes ws) (read_out names old) left same_files).lists told in
    let are = streams p nodes ws told left each good in
    let whole = gives p nodes ws nothing_held (lists_of p left) (map (part_read p nodes left) ws) (rest_read p nodes ws told left) combined.queues setting
    apart (size p [] left) are (parts_are reads_part p nodes left ws apart.each are each)
    (reads_others p nodes ws told left (λ clocks. ap (λ (b : Bool). cond b (all_told p nodes left ws) []) clocks) are good) alike.1 in
    combined.is
    ∙ ap (λ (vs : List ℕ). report p (joined_from p nothing_joined combined.queues (events_of_none p nodes vs
    (rest_read p nodes vs combined.told (read_out names old)))).outputs)
    alike.0
    ∙ ap (λ (ts : List ℕ). report p (joined_from p nothing_joined combined.queues (events_of_none p nodes ws
    (rest_read p nodes ws ts (read_out names old)))).outputs)
    same_told
    ∙ ap (λ (l : List (List Item)). report p (joined_from p nothing_joined combined.queues (events_of_none p nodes ws l)).outputs) rest
    ∙ ap (λ (r : Combined). report p (joined_from p r combined.queues (events_of_none p nodes ws (rest_read p nodes ws told left))).outputs)
    (sym (start p nodes ws))
    ∙ whole.same_report
