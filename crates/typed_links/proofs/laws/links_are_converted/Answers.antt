use Rattle.typed_links.proofs.Linking.{links_are_converted}
use Rattle.typed_links.proofs.laws.links_are_converted.Goals as goal

pub returns : goal.returns
returns c = links_are_converted
