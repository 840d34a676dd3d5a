-- What goes from one element to another is converted.
use Rattle.rtyper_layout.specs.Types.{type_seen}
use Rattle.conversion_laws.specs.Asked.{asks_for}
use Rattle.conversion_laws.proofs.Converting.{values_are_converted}
use Rattle.block_laws.specs.Links.{ElementsAreConverted}

pub elements_are_converted : ElementsAreConverted
elements_are_converted s numbers from to x w strings goes stands = record {
  asks = asks_for s.around.layout (type_seen s.around.layout from) (type_seen s.around.layout to);
  is = values_are_converted s.known s.around.layout from to x w strings goes;
  stood = stands;
}
