use Rattle.reading_laws.proofs.Steps.{steps_follow}
use Rattle.reading_laws.proofs.laws.steps_follow.Goals as goal

pub returns : goal.returns
returns c = steps_follow
