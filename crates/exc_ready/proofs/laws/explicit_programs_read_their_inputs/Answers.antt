use Rattle.exc_ready.proofs.Reading.{explicit_reads_inputs}
use Rattle.exc_ready.proofs.laws.explicit_programs_read_their_inputs.Goals as goal

pub returns : goal.returns
returns c p passes f g of n block is v h = explicit_reads_inputs p passes f g of n block is v h
