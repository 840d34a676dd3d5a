use Rattle.block_laws.proofs.Passing.{links_are_passed}
use Rattle.block_laws.proofs.laws.links_are_passed.Goals as goal

pub returns : goal.returns
returns c = links_are_passed
