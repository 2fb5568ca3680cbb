use Rattle.std.proofs.Common.{◌≡◌, ℕ, Bool, List, ap, ◌∙◌, arith}
use Rattle.std.specs.Prelude.{◌==◌, ◌&&◌, ◌||◌}
use Rattle.std.specs.List.{list_any, range_with_len}
use Rattle.flu_lemmas.proofs.Listed.{test_turn}
use Rattle.flu_model.specs.declared.jobs.Program.{Program}
use Rattle.flu_model.specs.declared.plans.Node.{Node}
use Rattle.flu_model.specs.Itags.{count_of_itags, source_of_itag}
use Rattle.flu_deps.specs.Validated.{plan_of}
use Rattle.flu_apart.specs.Classes.{itag}
use Rattle.flu_contribution.specs.Sharing.{is_itag_of_none}
use Rattle.flu_selected.specs.Gathering.{reads as is_read_by}
use Rattle.flu_readers.specs.Reading.{reads_rest}
use Rattle.flu_readers.proofs.readers.sources_of_rest.Goals as goal

-- an itag passes the test, and is of the source
abbrev listed_by : Program → List Node → List ℕ → ℕ → ℕ → Bool
listed_by p nodes ws s i = is_itag_of_none p nodes ws i && (source_of_itag p (itag i) == s)

pub loop-i-preserved : goal.loop-i-preserved
loop-i-preserved c = λ s.
    let p = c.program-p.result.now in
    let nodes = (plan_of c.args.v.now).nodes in
    let i = c.loop-i.i in
    let was = is_read_by c.loop-i.read s in
    let same = ap (λ b. was || (b && (source_of_itag p (itag i) == s))) c.is_of_none-wanted.ensures in
    test_turn (listed_by p nodes c.args.apart.now s) i was (is_read_by c.note.new.self s) (c.note.ensures s ∙ same) (c.loop-i.invariant s)

pub returns : goal.returns
returns c =
    let p = c.program-p.result.now in
    let nodes = (plan_of c.args.v.now).nodes in
    let all : c.loop-i.i ≡ count_of_itags p = omega arith in
    let each : (s : ℕ) → is_read_by c.loop-i.read s ≡ reads_rest p nodes c.args.apart.now s =
    λ s. c.loop-i.invariant s ∙ ap (λ n. list_any (listed_by p nodes c.args.apart.now s) (range_with_len 0 n)) all in
    record { read = (λ k s. each s k) ∙ ap (λ q. reads_rest q nodes c.args.apart.now) c.program-p.ensures }
