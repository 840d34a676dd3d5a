use Rattle.dict_laws.proofs.Looking.{finds_keys}
use Rattle.dict_laws.proofs.laws.keys_are_found.Goals as goal

pub returns : goal.returns
returns c = finds_keys
