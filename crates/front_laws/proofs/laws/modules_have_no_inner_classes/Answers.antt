use Rattle.front_laws.proofs.Flat.{module_flat, texts_flat}
use Rattle.front_laws.proofs.laws.modules_have_no_inner_classes.Goals as goal

pub returns-clause-tokens : goal.returns-clause-tokens
returns-clause-tokens c = module_flat

pub returns-clause-texts : goal.returns-clause-texts
returns-clause-texts c = texts_flat
