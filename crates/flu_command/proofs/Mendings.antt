-- The rounds of a run before it meets a defect are those of the mended sources.
use Rattle.std.proofs.Common.{ap, ◌∙◌, ℕ, List, Option}
use Rattle.flu_lemmas.specs.Elements.{AtEach}
use Rattle.flu_model.specs.declared.events.Item.{Item}
use Rattle.flu_model.specs.declared.jobs.Kind.{Kind}
use Rattle.flu_model.specs.declared.jobs.Source.{Source}
use Rattle.flu_model.specs.declared.jobs.Program.{Program}
use Rattle.flu_model.specs.declared.moments.Timing.{Timing}
use Rattle.flu_model.specs.Moments.{timing_of}
use Rattle.flu_model.specs.Contents.{Contents as State}
use Rattle.flu_rows.specs.declared.rows.Next.{Next}
use Rattle.flu_streams.specs.declared.border.Border.{Border}
use Rattle.flu_streams.specs.declared.border.Border.TheVariants.{At, Closed}
use Rattle.flu_streams.specs.Rounds.{Turn, Open, Shut, Meets, StopsAt, Reads, IsWithin, IsFull, BySource, ByTick, IsRoundAt, IsRound, ComesFrom, Starts, GoesOn}
use Rattle.flu_streams.specs.Rounds.{defect_in}
use Rattle.flu_rounds.specs.Written.{RanFrom, WouldWriteFrom}
use Rattle.flu_command.specs.Mending.{IsMended, MendedRoundsGoOn}

-- ---- one source
-- where it stopped behind enough rows, or behind all, it stops there of the mended lines
stops_open : (timing : Timing) (kinds : List Kind) (s : Source) (rows : ℕ) (above : Option ℕ) (whole mended before now : List Next) (u : ℕ)
    → IsMended timing kinds s whole mended
    → Reads timing kinds s rows above whole before now (Open u) → StopsAt timing kinds s rows above mended now (Open u)
stops_open timing kinds s rows above whole mended before now u mends reads =
    (mends.fronts now reads.stops.0.0 reads.stops.0.1 reads.sound, reads.stops.1, reads.stops.2)

stops_shut : (timing : Timing) (kinds : List Kind) (s : Source) (rows : ℕ) (above : Option ℕ) (whole mended before now : List Next)
    → IsMended timing kinds s whole mended
    → Reads timing kinds s rows above whole before now Shut → StopsAt timing kinds s rows above mended now Shut
stops_shut timing kinds s rows above whole mended before now mends reads =
    (mends.good (ap (defect_in timing kinds s) reads.stops.0 ∙ reads.sound) ∙ reads.stops.0, reads.stops.1)

read_open : (timing : Timing) (kinds : List Kind) (s : Source) (rows : ℕ) (above : Option ℕ) (whole mended before now : List Next) (u : ℕ)
    → IsMended timing kinds s whole mended
    → Reads timing kinds s rows above whole before now (Open u) → Reads timing kinds s rows above mended before now (Open u)
read_open timing kinds s rows above whole mended before now u mends reads = record {
  more = reads.more;
  further = reads.further;
  sound = reads.sound;
  shortest = reads.shortest;
  stops = stops_open timing kinds s rows above whole mended before now u mends reads;
}

read_shut : (timing : Timing) (kinds : List Kind) (s : Source) (rows : ℕ) (above : Option ℕ) (whole mended before now : List Next)
    → IsMended timing kinds s whole mended
    → Reads timing kinds s rows above whole before now Shut → Reads timing kinds s rows above mended before now Shut
read_shut timing kinds s rows above whole mended before now mends reads = record {
  more = reads.more;
  further = reads.further;
  sound = reads.sound;
  shortest = reads.shortest;
  stops = stops_shut timing kinds s rows above whole mended before now mends reads;
}

read_within : (timing : Timing) (kinds : List Kind) (s : Source) (rows t : ℕ) (above : Option ℕ) (whole mended before now : List Next) (turn : Turn)
    → IsWithin t turn
    → IsMended timing kinds s whole mended → Reads timing kinds s rows above whole before now turn → Reads timing kinds s rows above mended before now turn
read_within timing kinds s rows t above whole mended before now (Open u) within mends reads =
    read_open timing kinds s rows above whole mended before now u mends reads
read_within timing kinds s rows t above whole mended before now Shut within mends reads =
    read_shut timing kinds s rows above whole mended before now mends reads
read_within timing kinds s rows t above whole mended before now (Meets row why) within mends reads = absurd within

-- ---- rounds
module _ (p : Program) (rows : ℕ) (whole mended : ℕ → List Next)
    (mends : AtEach (λ i s. IsMended (timing_of p i) p.kinds s (whole i) (mended i)) p.sources) where
  -- what a round is full by, of its own lines
  full_at : (above : Option ℕ) (before now : ℕ → List Next) (t : ℕ) → IsFull p rows above whole before now t → IsFull p rows above mended before now t
  full_at above before now t (BySource i s at reads) =
      BySource i s at (read_open (timing_of p i) p.kinds s rows above (whole i) (mended i) (before i) (now i) t (mends i s at) reads)
  full_at above before now t (ByTick i s at last) = ByTick i s at last

  round_at : (above : Option ℕ) (before now : ℕ → List Next) (t : ℕ) → IsRoundAt p rows above whole before now t → IsRoundAt p rows above mended before now t
  round_at above before now t was = record {
    each = λ i s e.
        let turn = was.each i s e in
        (turn.0, read_within (timing_of p i) p.kinds s rows t above (whole i) (mended i) (before i) (now i) turn.0 turn.2 (mends i s e) turn.1, turn.2);
    few = was.few;
    full = full_at above before now t was.full;
  }

  pub round_of_mended : (above : Option ℕ) (before now : ℕ → List Next) (end : Border) → IsRound p rows above whole before now end
      → IsRound p rows above mended before now end
  round_of_mended above before now (At t) was = round_at above before now t was
  round_of_mended above before now Closed was = record {
    each = λ i s e. read_shut (timing_of p i) p.kinds s rows above (whole i) (mended i) (before i) (now i) (mends i s e) (was.each i s e);
    few = was.few;
  }

  pub rounds_of_mended : (start : Option ℕ) (done : List (List (List Item))) (above : Option ℕ) (before : ℕ → List Next)
      → ComesFrom p rows whole start done above before → ComesFrom p rows mended start done above before
  rounds_of_mended start done above before (Starts reads none) = Starts reads none
  rounds_of_mended start done above before (GoesOn done' above' before' now t came was) =
      GoesOn done' above' before' now t (rounds_of_mended start done' above' before' came) (round_at above' before' now t was)

  -- what was run of the lines was run of the mended ones
  abbrev ran_of_mended : (border : Option ℕ) (opening : State) (above : Option ℕ) (text : List ℕ) → RanFrom p rows border opening whole above text
      → RanFrom p rows border opening mended above text
  ran_of_mended border opening above text ran = record {
    done = ran.done;
    before = ran.before;
    comes = rounds_of_mended border ran.done above ran.before ran.comes;
    text = ran.text;
  }

  -- and so it is with a round more
  next_of_mended : (border : Option ℕ) (opening : State) (above : Option ℕ) (before now : ℕ → List Next) (end : Border) (text : List ℕ)
      → WouldWriteFrom p rows border opening whole above before now end text → WouldWriteFrom p rows border opening mended above before now end text
  next_of_mended border opening above before now end text would = record { round = round_of_mended above before now end would.round; text = would.text }

pub goes_on_mended : MendedRoundsGoOn
goes_on_mended p rows whole mended mends border opening above text ran = (
  ran_of_mended p rows whole mended mends border opening above text ran,
  λ now end more would. next_of_mended p rows whole mended mends border opening above ran.before now end more would,
)
