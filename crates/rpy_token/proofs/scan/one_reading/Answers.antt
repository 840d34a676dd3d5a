use Rattle.rpy_token.proofs.Causes.{never_memory}
use Rattle.rpy_token.proofs.Whole.{always_one, never_both, one_list, one_fault}
use Rattle.rpy_token.proofs.scan.one_reading.Goals as goal

pub returns : goal.returns
returns c = record { some = always_one; never_both = never_both; no_mem = never_memory; one_list = one_list; one_fault = one_fault }
