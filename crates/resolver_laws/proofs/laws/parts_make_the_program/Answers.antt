use Rattle.resolver_laws.proofs.Listed.{resolved_same}
use Rattle.resolver_laws.proofs.laws.parts_make_the_program.Goals as goal

pub returns : goal.returns
returns c = resolved_same
