use Rattle.conversion_laws.proofs.Deciding.{at_least_is_done, at_most_is_done, greater_is_done, less_is_done}
use Rattle.conversion_laws.proofs.laws.bytes_are_ordered.Goals as goal

pub returns-clause-less : goal.returns-clause-less
returns-clause-less c = less_is_done

pub returns-clause-at_most : goal.returns-clause-at_most
returns-clause-at_most c = at_most_is_done

pub returns-clause-greater : goal.returns-clause-greater
returns-clause-greater c = greater_is_done

pub returns-clause-at_least : goal.returns-clause-at_least
returns-clause-at_least c = at_least_is_done
