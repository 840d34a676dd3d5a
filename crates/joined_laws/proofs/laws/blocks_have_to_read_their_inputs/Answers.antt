use Rattle.joined_laws.proofs.Asked.{another}
use Rattle.joined_laws.proofs.laws.blocks_have_to_read_their_inputs.Goals as goal

pub returns : goal.returns
returns c = another
