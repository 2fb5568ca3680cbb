-- What an ending says of the status, of out and of err.
use Rattle.std.proofs.Common.{◌≡◌, ◌≢◌, refl, sym, ap, ◌∙◌, subst, ℕ, List, [], Option, None, Result, Ok, Err, inl, inr, ◌⊎◌, arith}
use Rattle.std.specs.Prelude.{IfOk, IfErr}
use Rattle.std.proofs.lemmas.List.{append-nil}
use Rattle.flu_outside.specs.Outside.{WhereTold, Rose}
use Rattle.flu_outside.specs.Taking.{TookFronts}
use Rattle.flu_outside.specs.Writing.{AppendsAll}
use Rattle.flu_lemmas.proofs.Told.{told_same, told_weaker}
use Rattle.flu_outside.specs.Outside.{Contents}
use Rattle.flu_lines.specs.declared.refusals.Refusal.{Refusal}
use Rattle.flu_lines.specs.declared.refusals.Refusal.TheVariants as refusals
use Rattle.flu_words.specs.Words.{Command, command_in}
use Rattle.flu_command.specs.Taking.{TookOnly, TookFrontsBut}
use Rattle.flu_command.specs.Behind.{WantedJob, Named, Fixed}
use Rattle.flu_command.specs.Reading.{Reading, Unread, Whole, InRounds}
use Rattle.flu_lines.specs.declared.products.Said.{Said}
use Rattle.flu_top.specs.declared.products.Product.{Product}
use Rattle.flu_command.specs.Wants.{want, job_wanted, how_read}
use Rattle.flu_command.specs.Starting.{Leaves}
use Rattle.flu_command.specs.Done.{IsWritten, IsDone, IsPartlyDone, WhereKnown, Wrote, WroteSome, WrotePart, IsReadName, IsReadBy, IsPutAt, IsSavedBy, MayBePut}
use Rattle.flu_command.specs.ReadFaults.{HasReadFault, InJob, InPlan, InCheckpoint, InSources, InRows, InTrace}
use Rattle.flu_top.specs.Refusing.{IsRefusal}
use Rattle.flu_lines.specs.Products.{line_said}
use Rattle.flu_top.specs.Products.{MaySay}
use Rattle.flu_lines.specs.Lines.{IsSaid}
use Rattle.flu_lines.specs.Answer.{code_after, line_of, IsHeard}
use Rattle.flu_top.specs.Ending.{Call, WroteNothing, HasAll, IsStopped, IsEnding, Ends}
use Rattle.flu_top.specs.Writing.{IsPutAll, IsPutPart, IsPut, as_product}

-- ---- what is known of the files
pub known_weaker : (job : WantedJob) (P Q : Contents → Contents → Type 0) (a b : Option Contents) → ((x y : Contents) → P x y → Q x y) → WhereKnown job a b P
    → WhereKnown job a b Q
known_weaker (Named name) P Q a b weaken known = told_weaker P Q a b weaken known
known_weaker (Fixed job) P Q a b weaken known = λ left. weaken left left (known left)

-- ---- what was written where nothing was
wrote_none : (reading : Reading) (had has : Option (List ℕ)) → has ≡ had → Wrote reading [] had has
wrote_none Unread had has same = same
wrote_none Whole had has same = same
wrote_none InRounds had has same = subst (λ (o : Option (List ℕ)). WhereTold had o (AppendsAll [])) (sym same)
    (told_same (AppendsAll []) had (λ bytes. sym (append-nil bytes)))

-- where a command reads in rounds, nothing was put either
abbrev pub LeavesAll : Reading → Command → Option Contents → Option Contents → Type 0
LeavesAll reading command a b = reading ≡ InRounds → WhereTold a b (Leaves command None)

some_none : (reading : Reading) (command : Command) (a b : Option Contents) (had has : Option (List ℕ)) → LeavesAll reading command a b → has ≡ had
    → WroteSome reading command a b had has
some_none Unread command a b had has leaves same = same
some_none Whole command a b had has leaves same = same
some_none InRounds command a b had has leaves same = inl (record { nothing = same; as_before = leaves refl })

part_of_all : (reading : Reading) (command : Command) (a b : Option Contents) (had has : Option (List ℕ)) → reading ≢ InRounds
    → WhereKnown (job_wanted command) a b (IsPartlyDone command had has) → WrotePart reading command a b had has
part_of_all Unread command a b had has other partly = partly
part_of_all Whole command a b had has other partly = partly
part_of_all InRounds command a b had has other partly = absurd (other refl)

-- ---- the making of an ending
-- a command that was refused before it wrote anything
pub stopped : (c : Call) (command : Command) (refusal : Refusal) → IsRefusal command c.left c.left_after c.counts c.counts_after refusal
    → LeavesAll (how_read command) command c.left c.left_after → WroteNothing c → IsStopped c command refusal
stopped c command (refusals.BadWords bad) why leaves nothing = why
stopped c command (refusals.JobFault fault text) why leaves nothing = (why, nothing)
stopped c command (refusals.Conflict fault) why leaves nothing = (why, nothing)
stopped c command (refusals.PlanDefect defect) why leaves nothing = (why, nothing)
stopped c command (refusals.SourceFault job fault) why leaves nothing =
    record { text = []; why = why; wrote = wrote_none (how_read command) c.taken c.taken_after nothing }
stopped c command refusals.ReadFault why leaves nothing = record {
  why = why;
  wrote =
      some_none (how_read command) command c.left c.left_after c.taken c.taken_after leaves nothing;
}
stopped c command refusals.WriteFault why leaves nothing = absurd why
stopped c command refusals.NoMemory why leaves nothing = inl (some_none (how_read command) command c.left c.left_after c.taken c.taken_after leaves nothing)
stopped c command (refusals.SaveDefect defect) why leaves nothing = (why, nothing)
stopped c command refusals.PutFault why leaves nothing = absurd why
stopped c command (refusals.TraceFault fault) why leaves nothing = (why, nothing)

put_all : (c : Call) (command : Command) (product : Product) (said : Option Said)
    → WhereKnown (job_wanted command) c.left c.left_after (IsWritten command product.text (line_said product.says))
    → MaySay (want command).says product.says → IsPutAll product c.taken c.taken_after said → HasAll c command said
put_all c command product said written may_say is = subst (λ (s : Option Said). HasAll c command s) (sym is.says) (record {
  done = known_weaker (job_wanted command) (IsWritten command product.text (line_said product.says))
      (IsDone command c.taken c.taken_after (line_said product.says)) c.left c.left_after
      (λ x y w. (w.0, product.text, w.1, w.2, w.3, is.all)) written;
  may_say = may_say;
})

put_part : (c : Call) (command : Command) (product : Product) (refusal : Refusal) → how_read command ≢ InRounds
    → WhereKnown (job_wanted command) c.left c.left_after (IsWritten command product.text (line_said product.says))
    → IsPutPart product c.taken c.taken_after c.count c.count_after refusal → IsStopped c command refusal
put_part c command product refusal other written is = subst (IsStopped c command) (sym is.is) (record {
  rose = is.rose;
  partly = part_of_all (how_read command) command c.left c.left_after c.taken c.taken_after other
      (known_weaker (job_wanted command) (IsWritten command product.text (line_said product.says))
      (IsPartlyDone command c.taken c.taken_after) c.left c.left_after
      (λ x y w. (w.0, product.text, w.1, w.2, is.part)) written);
})

-- a command that does not read in rounds: what it produced was put out
put_out : (c : Call) (command : Command) (produced : Result Product Refusal) (result : Result (Option Said) Refusal) → how_read command ≢ InRounds
    → IfOk produced (λ (product : Product). WhereKnown (job_wanted command) c.left c.left_after (IsWritten command product.text (line_said product.says)))
    → IfOk produced (λ (product : Product). MaySay (want command).says product.says)
    → IfErr produced (IsRefusal command c.left c.left_after c.counts c.counts_after)
    → IsPut produced c.taken c.taken_after c.count c.count_after result → IsEnding c command result
put_out c command (Ok product) (Ok said) other written says refused put = put_all c command product said written says put
put_out c command (Ok product) (Err refusal) other written says refused put = put_part c command product refusal other written put
put_out c command (Err why) (Ok said) other written says refused put = absurd put
put_out c command (Err why) (Err refusal) other written says refused put =
    subst (IsStopped c command) (sym put.is) (stopped c command why refused (λ rounds. absurd (other rounds)) put.nothing)

-- what refused a command refuses it once nothing is written
pub not_refused : (produced : Result Product Refusal) (had has : Option (List ℕ)) (before now : ℕ) (result : Result (Option Said) Refusal)
    (refusal : Refusal) → IsPut produced had has before now result → result ≢ Err refusal → produced ≢ Err refusal
not_refused (Ok product) had has before now result refusal put other is = cc
not_refused (Err why) had has before now (Ok said) refusal put other is = absurd put
not_refused (Err why) had has before now (Err answered) refusal put other is = let same : why ≡ refusal = cc in other (ap Err (put.is ∙ same))

pub text_not_refused : (text : Result (List ℕ) Refusal) (had has : Option (List ℕ)) (before now : ℕ) (result : Result (Option Said) Refusal)
    (refusal : Refusal) → IsPut (as_product text) had has before now result → result ≢ Err refusal → text ≢ Err refusal
text_not_refused text had has before now result refusal put other is =
    not_refused (as_product text) had has before now result refusal put other (ap as_product is)

pub ends_product : (c : Call) (whole command : Command) (produced : Result Product Refusal) (result : Result (Option Said) Refusal) → whole ≡ command
    → how_read command ≢ InRounds
    → IfOk produced (λ (product : Product). WhereKnown (job_wanted command) c.left c.left_after (IsWritten command product.text (line_said product.says)))
    → IfOk produced (λ (product : Product). MaySay (want command).says product.says)
    → IfErr produced (IsRefusal command c.left c.left_after c.counts c.counts_after)
    → IsPut produced c.taken c.taken_after c.count c.count_after result → IsEnding c whole result
ends_product c whole command produced result same other written says refused put =
    subst (λ (d : Command). IsEnding c d result) (sym same) (put_out c command produced result other written says refused put)

-- the same of a text where nothing is said
pub ends_text : (c : Call) (whole command : Command) (text : Result (List ℕ) Refusal) (result : Result (Option Said) Refusal) → whole ≡ command
    → how_read command ≢ InRounds
    → MaySay (want command).says None
    → IfOk text (λ (bytes : List ℕ). WhereKnown (job_wanted command) c.left c.left_after (IsWritten command bytes []))
    → IfErr text (IsRefusal command c.left c.left_after c.counts c.counts_after)
    → IsPut (as_product text) c.taken c.taken_after c.count c.count_after result → IsEnding c whole result
ends_text c whole command (Ok bytes) result same other quiet written refused put =
    ends_product c whole command (Ok (record { text = bytes; says = None })) result same other written quiet tt put
ends_text c whole command (Err why) result same other quiet written refused put = ends_product c whole command (Err why) result same other tt tt refused put

pub ends_command : (words : List (List ℕ)) (c : Call) (command : Command) (ended : Result (Option Said) Refusal) → command_in words ≡ Ok command
    → IsEnding c command ended → Ends words c ended
ends_command words c command ended word ending = record { how = inl (command, word, ending) }

-- ---- the names that a call reads, and those that it may have put
-- where bytes were taken of fronts, and none were put
pub fronts_of_all : (IsPut : List ℕ → Type 0) (a b : Option Contents) → WhereTold a b TookFronts → WhereTold a b (TookFrontsBut IsPut)
fronts_of_all IsPut a b fronts = told_weaker TookFronts (TookFrontsBut IsPut) a b (λ x y took name rest unput left. took name rest left) fronts

-- the same command by another name
pub only_of_command : (whole command : Command) (status : ℕ) (a b : Option Contents) → whole ≡ command → WhereTold a b (TookOnly (IsReadName a command))
    → WhereTold a b (TookOnly (λ name. IsReadName a whole name ⊎ IsPutAt whole status name))
only_of_command whole command status a b same only =
    told_weaker (TookOnly (IsReadName a command)) (TookOnly (λ name. IsReadName a whole name ⊎ IsPutAt whole status name)) a b
    (λ x y took name unread. took name (λ read. unread (inl (subst (λ (d : Command). IsReadName a d name) (sym same) read)))) only

pub fronts_wider : (words : List (List ℕ)) (command : Command) (status : ℕ) (a b : Option Contents) → command_in words ≡ Ok command
    → WhereTold a b (TookFrontsBut (IsPutAt command status))
    → WhereTold a b (TookFrontsBut (MayBePut words status))
fronts_wider words command status a b is fronts =
    told_weaker (TookFrontsBut (IsPutAt command status)) (TookFrontsBut (MayBePut words status)) a b
    (λ x y took name rest unput left. took name rest (λ put. unput (command, is, put)) left) fronts

pub only_wider : (words : List (List ℕ)) (command : Command) (status : ℕ) (a b : Option Contents) → command_in words ≡ Ok command
    → WhereTold a b (TookOnly (λ name. IsReadName a command name ⊎ IsPutAt command status name))
    → WhereTold a b (TookOnly (λ name. IsReadBy words a name ⊎ MayBePut words status name))
only_wider words command status a b is only =
    told_weaker (TookOnly (λ name. IsReadName a command name ⊎ IsPutAt command status name))
    (TookOnly (λ name. IsReadBy words a name ⊎ MayBePut words status name)) a b
    (λ x y took name untouched. took name (λ touched. untouched (elim touched [ inl read ↦ inl (command, is, read) | inr put ↦ inr (command, is, put) ]))) only

-- ---- which ending has a status
of_read_fault : (ended : Result (Option Said) Refusal) → code_after ended ≡ 7 → ended ≡ Err refusals.ReadFault
of_read_fault (Err refusals.ReadFault) is = refl
of_read_fault ended is = absurd (omega arith)

of_write_fault : (ended : Result (Option Said) Refusal) → code_after ended ≡ 8 → ended ≡ Err refusals.WriteFault
of_write_fault (Err refusals.WriteFault) is = refl
of_write_fault ended is = absurd (omega arith)

of_put_fault : (ended : Result (Option Said) Refusal) → code_after ended ≡ 12 → ended ≡ Err refusals.PutFault
of_put_fault (Err refusals.PutFault) is = refl
of_put_fault ended is = absurd (omega arith)

-- the ending of a call whose status is not that of bad words
ending_at : (words : List (List ℕ)) (c : Call) (ended : Result (Option Said) Refusal) → Ends words c ended → code_after ended ≢ 2
    → (command : Command) × (command_in words ≡ Ok command) × IsEnding c command ended
ending_at words c ended ends apart = elim ends.how [ inl ending ↦ ending | inr refused ↦ absurd (apart (ap code_after refused.2.words)) ]

pub read_fault_of : (words : List (List ℕ)) (c : Call) (ended : Result (Option Said) Refusal) → Ends words c ended → code_after ended ≡ 7
    → (command : Command) × (command_in words ≡ Ok command) × HasReadFault command c.left c.left_after c.counts c.counts_after
read_fault_of words c ended ends is =
    let ending = ending_at words c ended ends (λ e. omega arith) in
    (ending.0, ending.1, (subst (IsEnding c ending.0) (of_read_fault ended is) ending.2).why)

-- the name that failed is one that the command reads
name_that_failed : (command : Command) (old new : Option Contents) (before now : List ℕ → ℕ) → HasReadFault command old new before now
    → (name : List ℕ) × IsReadName old command name × Rose (before name) (now name)
name_that_failed command old new before now (InJob name named rose few) = (name, inl named, rose)
name_that_failed command old new before now (InPlan name plan rose few) = (name, inr (inl plan), rose)
name_that_failed command old new before now (InCheckpoint name checkpoint rose few) = (name, inr (inr (inl checkpoint)), rose)
name_that_failed command old new before now (InSources name file whole rose hides) = (name, inr (inr (inr (inl file))), rose)
name_that_failed command old new before now (InRows name file rounds rose hides) = (name, inr (inr (inr (inl file))), rose)
name_that_failed command old new before now (InTrace name trace rose) = (name, inr (inr (inr (inr trace))), rose)

pub read_fault_at : (words : List (List ℕ)) (c : Call) (ended : Result (Option Said) Refusal) → Ends words c ended → code_after ended ≡ 7
    → (name : List ℕ) × IsReadBy words c.left name × Rose (c.counts name) (c.counts_after name)
read_fault_at words c ended ends is =
    let fault = read_fault_of words c ended ends is in
    let found = name_that_failed fault.0 c.left c.left_after c.counts c.counts_after fault.2 in
    (found.0, (fault.0, fault.1, found.1), found.2)

pub write_fault_at : (words : List (List ℕ)) (c : Call) (ended : Result (Option Said) Refusal) → Ends words c ended → code_after ended ≡ 8
    → Rose c.count c.count_after
write_fault_at words c ended ends is =
    let ending = ending_at words c ended ends (λ e. omega arith) in
    (subst (IsEnding c ending.0) (of_write_fault ended is) ending.2).rose

pub put_fault_at : (words : List (List ℕ)) (c : Call) (ended : Result (Option Said) Refusal) → Ends words c ended → code_after ended ≡ 12
    → (name : List ℕ) × IsSavedBy words name × Rose (c.puts name) (c.puts_after name)
put_fault_at words c ended ends is =
    let ending = ending_at words c ended ends (λ e. omega arith) in
    let fault = subst (IsEnding c ending.0) (of_put_fault ended is) ending.2 in
    (fault.name, (ending.0, ending.1, fault.named), fault.rose)

-- the line that is said of what refused
pub said_of : (ended : Result (Option Said) Refusal) (refusal : Refusal) (old new : Option (List ℕ)) (before now : ℕ) → IsHeard ended old new before now
    → ended ≡ Err refusal → IsSaid (line_of refusal) old new before now
said_of ended refusal old new before now heard is = subst (λ (r : Result (Option Said) Refusal). IsHeard r old new before now) is heard
