use Rattle.script_lang.proofs.faults.FaultLaw.{none_of_script, read_fault, other_bytes, read_faulty}
use Rattle.script_lang.proofs.fault_law.other_bytes_have_one_fault.Goals as goal

pub returns-clause-faulty : goal.returns-clause-faulty
returns-clause-faulty c = read_faulty

pub returns-clause-fault : goal.returns-clause-fault
returns-clause-fault c = read_fault

pub returns-clause-one : goal.returns-clause-one
returns-clause-one c = λ live bytes no_text. (other_bytes live bytes no_text).1

pub returns-clause-none : goal.returns-clause-none
returns-clause-none c = none_of_script
