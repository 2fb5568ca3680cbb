use Rattle.flu_top.proofs.LawsOfOutcome.{job_fault_law, conflict_law, plan_defect_law, save_defect_law, source_fault_law, trace_fault_law}
use Rattle.flu_top.proofs.laws.of_refusals.Goals as goal

pub returns-clause-job_fault : goal.returns-clause-job_fault
returns-clause-job_fault c = job_fault_law

pub returns-clause-conflict : goal.returns-clause-conflict
returns-clause-conflict c = conflict_law

pub returns-clause-plan_defect : goal.returns-clause-plan_defect
returns-clause-plan_defect c = plan_defect_law

pub returns-clause-save_defect : goal.returns-clause-save_defect
returns-clause-save_defect c = save_defect_law

pub returns-clause-source_fault : goal.returns-clause-source_fault
returns-clause-source_fault c = source_fault_law

pub returns-clause-trace_fault : goal.returns-clause-trace_fault
returns-clause-trace_fault c = trace_fault_law
