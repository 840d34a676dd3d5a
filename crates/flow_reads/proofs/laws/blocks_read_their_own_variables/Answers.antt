use Rattle.flow_reads.proofs.Functions.{block_reads}
use Rattle.flow_reads.proofs.laws.blocks_read_their_own_variables.Goals as goal

pub returns : goal.returns
returns c = λ program gs functions stand f function is b code there. block_reads program gs functions stand f function is b code there
