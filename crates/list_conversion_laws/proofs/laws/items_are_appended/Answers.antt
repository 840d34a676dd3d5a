use Rattle.list_conversion_laws.proofs.Added.{method_appends, comprehension_appends}
use Rattle.list_conversion_laws.proofs.laws.items_are_appended.Goals as goal

pub returns-clause-method : goal.returns-clause-method
returns-clause-method c = method_appends

pub returns-clause-comprehension : goal.returns-clause-comprehension
returns-clause-comprehension c = comprehension_appends
