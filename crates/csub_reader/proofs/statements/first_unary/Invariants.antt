use Rattle.std.proofs.Common.{◌≡◌, drop}
use Rattle.csub_tree.specs.Spelling.{unary_name}
use Rattle.csub_text.specs.ReadStatement as pure
use Rattle.csub_reader.proofs.statements.first_unary.Given as goal

abbrev pub invariant-loop-op : goal.invariant-loop-op
invariant-loop-op l = pure.first_called unary_name l.ops l.bytes ≡ pure.first_called unary_name (drop l.op-index l.ops) l.bytes
