-- Programs of one job: a node apart has one partial.
use Rattle.std.proofs.Common.{◌≡◌, sym, ◌∙◌, subst, ℕ, ◌<◌, min, max, List, [], ◌++◌, length, Bool, Option, Some}
use Rattle.std.specs.List.{reduce}
use Rattle.flu_model.specs.declared.jobs.Program.{Program}
use Rattle.flu_model.specs.declared.jobs.Source.{Source}
use Rattle.flu_model.specs.declared.plans.Node.{Node}
use Rattle.flu_model.specs.Erasure.{IsSameJob}
use Rattle.flu_outside.specs.Outside.{Contents, WhereTold}
use Rattle.flu_parse.specs.Printing.{normal_form}
use Rattle.flu_partial.specs.Partial.{head_text, line_of}
use Rattle.flu_plan.specs.Laws.{JobsReadPlansAlike}
use Rattle.flu_readers.specs.OneJob.{JobsReadTheSameParts}
use Rattle.flu_readers.specs.Reading.{reads}
use Rattle.flu_selected.specs.Gathering.{IsRead}
use Rattle.flu_selected.specs.OneJob.{JobsSelectTheSame}
use Rattle.flu_streams.specs.declared.faults.SourceFault.{SourceFault}
use Rattle.flu_sending.specs.Laws.{JobsSendTheSame}
use Rattle.flu_node_run.specs.declared.faults.PartFault.{PartFault}
use Rattle.flu_node_run.specs.declared.faults.PartFault.TheVariants.{Source as SourceFaulty, ReadFault, WriteFault, NoMemory}
use Rattle.flu_node_run.specs.Faults.{IsFirstPartFault}
use Rattle.flu_node_run.specs.Laws.{HaveOnePartial}
use Rattle.flu_node_run.specs.Partials.{name_of_node, head_of, text_of_partial, IsPartialOf}

-- what is the same of two programs of a job, by the laws below
pub record LawsBelow : Type 0 where
  pub plans : JobsReadPlansAlike
  pub selecting : JobsSelectTheSame
  pub reading : JobsReadTheSameParts
  pub sending : JobsSendTheSame

module _ (laws : LawsBelow) (p q : Program) (same : IsSameJob p q) where
  same_head : head_of p ≡ head_of q
  same_head = λ j nodes w lists.
      record { first = reduce min ((laws.sending p q same).times j lists); job = normal_form (same j); node = name_of_node nodes w; plan = (laws.plans p q same).prints j nodes }

  same_texts : text_of_partial p ≡ text_of_partial q
  same_texts = λ j nodes w lists.
      line_of (head_text (same_head j nodes w lists))
      ++ (laws.sending p q same).lines j (reduce max ((laws.sending p q same).times j lists)) ((laws.sending p q same).sent j nodes w lists)

  same_partial : (nodes : List Node) (w : ℕ) (text : List ℕ) (old new : Contents) → IsPartialOf p nodes w text old new → IsPartialOf q nodes w text old new
  same_partial nodes w text old new is = record {
    good = sym (λ j. (laws.selecting p q same).faults j [] ((laws.reading p q same).sources j nodes w) old) ∙ is.good;
    ends = λ name read. is.ends name (back name read);
    is = is.is ∙ (λ j. same_texts j nodes w ((laws.reading p q same).part j nodes old w));
  }
    where
      back : (name : List ℕ) → IsRead q (reads q nodes w) name → IsRead p (reads p nodes w) name
      back name read = (laws.selecting q p (sym same)).read (reads p nodes w) name
          (subst (λ is_read. IsRead q is_read name) (λ j. (sym (laws.reading p q same).sources) j nodes w) read)

  same_fault : (is_read : ℕ → Bool) (left left' : Option Contents) (fault : PartFault) → IsFirstPartFault p is_read left left' fault
      → IsFirstPartFault q is_read left left' fault
  same_fault is_read left left' (SourceFaulty f) (declared, told) = (
    subst (λ (sources : List Source). f.source < length sources) (λ j. (same j).sources) declared,
    subst (λ (first : List ℕ → (ℕ → Bool) → Contents → Option SourceFault). WhereTold left left' (λ was now. first [] is_read was ≡ Some f))
        (laws.selecting p q same).faults told,
  )
  same_fault is_read left left' ReadFault first = first
  same_fault is_read left left' WriteFault first = first
  same_fault is_read left left' NoMemory first = first

  pub one_partial : HaveOnePartial p q
  one_partial = record { texts = same_texts; partial = same_partial; fault = same_fault }
