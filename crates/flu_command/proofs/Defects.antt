-- Good sources have no defect, and a defect that refuses a command is there.
use Rattle.std.proofs.Common.{sym, ◌∙◌, ℕ, List, Option}
use Rattle.flu_outside.specs.Outside.{Contents}
use Rattle.flu_model.specs.declared.jobs.Program.{Program}
use Rattle.flu_model.specs.Moments.{timing_of}
use Rattle.flu_rows.specs.declared.rows.Next.{Next}
use Rattle.flu_streams.specs.declared.faults.SourceFault.{SourceFault}
use Rattle.flu_streams.specs.Fronts.{LawOfMeeting}
use Rattle.flu_words.specs.Words.{Command}
use Rattle.flu_command.specs.Causes.{IsMet}
use Rattle.flu_command.specs.Openings.{Opening}
use Rattle.flu_command.specs.Reading.{Reading, Unread, Whole, InRounds, AreSourcesGood, HasDefectIn, HasDefect, MeetsDefect, lines_behind}
use Rattle.flu_command.specs.Wants.{texts_named}

pub good_or_bad : (reading : Reading) (texts : List (List ℕ)) (left : Contents) (p : Program) → AreSourcesGood reading texts left p
    → HasDefect reading texts left p → ⊥
good_or_bad Unread texts left p good bad = bad
good_or_bad Whole texts left p good bad = let e = sym good ∙ bad.1 in cc
good_or_bad InRounds texts left p good bad = let e = sym (good bad.at bad.source bad.is) ∙ bad.defect in cc

met_in_round : LawOfMeeting → (p : Program) (o : Opening) (lines : ℕ → List Next) (text : List ℕ) (put : Option (List ℕ)) (fault : SourceFault)
    → MeetsDefect p o lines text put fault → HasDefectIn p lines
met_in_round meeting p o lines text put fault met =
    let found = met.meets.source in record {
      at = fault.source;
      source = found.0;
      is = found.1;
      row = fault.row;
      why = fault.why;
      defect = meeting (timing_of p fault.source) p.kinds found.0 o.rows met.border (lines fault.source) (met.ran.before fault.source)
          (met.meets.now fault.source)
          fault.row fault.why found.2;
    }

pub met_defect : LawOfMeeting → (reading : Reading) (command : Command) (left now : Contents) (p : Program) (text : List ℕ) (fault : SourceFault)
    → IsMet reading command left now p text fault → HasDefect reading (texts_named command) left p
met_defect meeting Unread command left now p text fault met = met
met_defect meeting Whole command left now p text fault met = (fault, met)
met_defect meeting InRounds command left now p text fault met = met_in_round meeting p met.opening
    (lines_behind (texts_named command) left p) text met.put fault met.met
