use Rattle.flu_top.proofs.LawsOfOutcome.{read_fault_law, read_fault_line_law, write_fault_law, partial_law, write_fault_line_law, put_fault_law}
use Rattle.flu_top.proofs.LawsOfOutcome.{not_passed_over_law, put_fault_round_law, no_memory_line_law}
use Rattle.flu_top.proofs.laws.of_faults.Goals as goal

pub returns-clause-read_fault : goal.returns-clause-read_fault
returns-clause-read_fault c = read_fault_law

pub returns-clause-read_fault_line : goal.returns-clause-read_fault_line
returns-clause-read_fault_line c = read_fault_line_law

pub returns-clause-write_fault : goal.returns-clause-write_fault
returns-clause-write_fault c = write_fault_law

pub returns-clause-partial : goal.returns-clause-partial
returns-clause-partial c = partial_law

pub returns-clause-write_fault_line : goal.returns-clause-write_fault_line
returns-clause-write_fault_line c = write_fault_line_law

pub returns-clause-put_fault : goal.returns-clause-put_fault
returns-clause-put_fault c = put_fault_law

pub returns-clause-others : goal.returns-clause-others
returns-clause-others c = not_passed_over_law

pub returns-clause-behind_a_round : goal.returns-clause-behind_a_round
returns-clause-behind_a_round c = put_fault_round_law

pub returns-clause-no_memory_line : goal.returns-clause-no_memory_line
returns-clause-no_memory_line c = no_memory_line_law
