use Rattle.list_copy_laws.proofs.Extends.{lists_are_extended, lists_are_added_to}
use Rattle.list_copy_laws.proofs.laws.lists_are_extended.Goals as goal

pub returns-clause-method : goal.returns-clause-method
returns-clause-method c = lists_are_extended

pub returns-clause-sum : goal.returns-clause-sum
returns-clause-sum c = lists_are_added_to
