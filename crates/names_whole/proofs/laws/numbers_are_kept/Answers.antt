use Rattle.names_whole.proofs.Numbers.{kept, few_functions, few_classes, few_sites}
use Rattle.names_whole.proofs.laws.numbers_are_kept.Goals as goal

pub returns-clause-kept : goal.returns-clause-kept
returns-clause-kept c = kept

pub returns-clause-functions : goal.returns-clause-functions
returns-clause-functions c = few_functions

pub returns-clause-classes : goal.returns-clause-classes
returns-clause-classes c = few_classes

pub returns-clause-sites : goal.returns-clause-sites
returns-clause-sites c = few_sites
