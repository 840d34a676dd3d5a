use Rattle.lower_laws.proofs.Bridged.{followed_is_done, helped_is_done}
use Rattle.lower_laws.proofs.done.first_laws_are_laws.Goals as goal

pub returns-clause-followed : goal.returns-clause-followed
returns-clause-followed c = followed_is_done

pub returns-clause-helped : goal.returns-clause-helped
returns-clause-helped c = helped_is_done
