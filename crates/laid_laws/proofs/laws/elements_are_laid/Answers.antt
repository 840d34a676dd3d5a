use Rattle.laid_laws.proofs.Laying.{elements_are_laid}
use Rattle.laid_laws.proofs.laws.elements_are_laid.Goals as goal

pub returns : goal.returns
returns c = elements_are_laid
