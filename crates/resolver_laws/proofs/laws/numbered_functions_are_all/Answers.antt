use Rattle.resolver_laws.proofs.Listed.{modules_count}
use Rattle.resolver_laws.proofs.laws.numbered_functions_are_all.Goals as goal

pub returns : goal.returns
returns c = λ p first. modules_count p first p.modules
