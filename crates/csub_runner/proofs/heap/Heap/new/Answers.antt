use Rattle.csub_runner.specs.Heap.{find}
use Rattle.csub_runner.proofs.Blocks.{table_zero}
use Rattle.csub_runner.proofs.heap.Heap.new.Goals as goal

pub returns-clause-blocks : goal.returns-clause-blocks
returns-clause-blocks c = table_zero (λ n. find n _) 0
