use Rattle.growth_laws.proofs.Growing.{growth_is_one, helpers_grow, smalls_grow, statics_grow}
use Rattle.growth_laws.proofs.laws.asking_only_grows.Goals as goal

pub returns-clause-helpers : goal.returns-clause-helpers
returns-clause-helpers c = helpers_grow

pub returns-clause-smalls : goal.returns-clause-smalls
returns-clause-smalls c = smalls_grow

pub returns-clause-statics : goal.returns-clause-statics
returns-clause-statics c = statics_grow

pub returns-clause-several : goal.returns-clause-several
returns-clause-several c = growth_is_one
