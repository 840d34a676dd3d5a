use Rattle.key_laws.proofs.Growing.{programs_have_keys}
use Rattle.key_laws.proofs.laws.programs_have_keys.Goals as goal

pub returns : goal.returns
returns c = programs_have_keys
