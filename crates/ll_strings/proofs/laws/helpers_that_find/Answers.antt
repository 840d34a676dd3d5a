use Rattle.ll_strings.proofs.Finding.{starts_is, ends_is, find_is, contains_is}
use Rattle.ll_strings.proofs.laws.helpers_that_find.Goals as goal

pub returns-clause-starts : goal.returns-clause-starts
returns-clause-starts c = starts_is

pub returns-clause-ends : goal.returns-clause-ends
returns-clause-ends c = ends_is

pub returns-clause-find : goal.returns-clause-find
returns-clause-find c = find_is

pub returns-clause-contains : goal.returns-clause-contains
returns-clause-contains c = contains_is
