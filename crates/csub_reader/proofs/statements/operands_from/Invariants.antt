use Rattle.std.proofs.Common.{◌≡◌, ◌<◌, ◌++◌, ◌-◌, ◌∷◌, length}
use Rattle.csub_tree.specs.Spelling.{listed, operand_text}
use Rattle.csub_reader.proofs.statements.operands_from.Given as goal
use Rattle.csub_text.specs.Read as read
use Rattle.csub_text.specs.Read.{mapped}
use Rattle.csub_text.specs.ReadStatement.{rest_of}
use Rattle.csub_reader.specs.Parts.{extended}

abbrev pub invariant-loop-turn : goal.invariant-loop-turn
invariant-loop-turn l = record {
  some : 0 < length l.xs;
  text : operand_text l.fn.first ++ l.initial.bytes ≡ listed operand_text l.xs ++ l.bytes;
  reads : mapped (λ ys. l.fn.first ∷ ys) (rest_of read.operand (length l.initial.bytes) l.initial.bytes) ≡ extended l.xs (rest_of read.operand (l._turn-end - l._turn) l.bytes);
}
