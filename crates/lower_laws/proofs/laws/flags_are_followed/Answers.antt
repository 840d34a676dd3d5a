use Rattle.lower_laws.proofs.Single.{truth_is_followed, not_is_followed, flag_copy_is_followed}
use Rattle.lower_laws.proofs.Inline.{flag_number_is_followed}
use Rattle.lower_laws.proofs.laws.flags_are_followed.Goals as goal

pub returns-clause-truth : goal.returns-clause-truth
returns-clause-truth c = truth_is_followed

pub returns-clause-opposite : goal.returns-clause-opposite
returns-clause-opposite c = not_is_followed

pub returns-clause-copy : goal.returns-clause-copy
returns-clause-copy c = flag_copy_is_followed

pub returns-clause-number : goal.returns-clause-number
returns-clause-number c = flag_number_is_followed
