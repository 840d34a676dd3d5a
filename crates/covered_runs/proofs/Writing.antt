-- Operations of blocks, by their laws.
use Rattle.std.proofs.Common.{◌++◌, length, subst}
use Rattle.ll_code.specs.State.{At}
use Rattle.rpy_meaning.specs.Operations.{op}
use Rattle.rtyper_program.specs.Blocks.{op_of}
use Rattle.object_laws.specs.Done.{references}
use Rattle.object_laws.specs.Represents.{Represents}
use Rattle.block_laws.specs.Links.{setting}
use Rattle.rtyped_runs.proofs.Acting.{follows_so}
use Rattle.rtyped_runs.specs.Laws.{Standing}
use Rattle.covered_runs.specs.Writing.{OperationsAreWrittenWhile}

pub operations_are_written_while : (Has : Standing) → OperationsAreWrittenWhile Has
unfolding op_of
operations_are_written_while Has l known graphs p arguments numbers blocks o asks w has inside throws stands law = record {
  ops = law.ops;
  new = law.new;
  written = law.written;
  types = law.types;
  is = λ rest e frames core g world vs memory left room given good.
      follows_so (setting l known graphs p arguments) l.number o (length w.body.types) (At (law.ops ++ rest) e frames core) rest e frames core g world memory left blocks (references world.heap vs) (op known.program o.covered o.op vs world) (λ r w' h. throws g core world w' vs r memory given h)
      (law.follows p numbers known.exception arguments rest e frames core g world vs has (stands core g world.heap (subst (λ n. Represents l.world.around.layout known g world.heap n core.blocks core.statics) left memory)) memory left room inside.result inside.operands given tt);
}
