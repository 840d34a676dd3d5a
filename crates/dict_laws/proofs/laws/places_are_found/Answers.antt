use Rattle.dict_laws.proofs.Placing.{finds_places}
use Rattle.dict_laws.proofs.laws.places_are_found.Goals as goal

pub returns : goal.returns
returns g c = finds_places _
