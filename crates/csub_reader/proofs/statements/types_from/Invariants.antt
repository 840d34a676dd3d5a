use Rattle.std.proofs.Common.{◌≡◌, ◌<◌, ◌++◌, ◌-◌, ◌∷◌, length}
use Rattle.csub_tree.specs.Spelling.{listed_or_void, type_alone}
use Rattle.csub_reader.proofs.statements.types_from.Given as goal
use Rattle.csub_text.specs.Read as read
use Rattle.csub_text.specs.Read.{mapped}
use Rattle.csub_text.specs.ReadStatement.{rest_of}
use Rattle.csub_reader.specs.Parts.{extended}

abbrev pub invariant-loop-turn : goal.invariant-loop-turn
invariant-loop-turn l = record {
  some : 0 < length l.kinds;
  text : type_alone l.fn.first ++ l.initial.bytes ≡ listed_or_void type_alone l.kinds ++ l.bytes;
  reads : mapped (λ ys. l.fn.first ∷ ys) (rest_of read.type_alone (length l.initial.bytes) l.initial.bytes) ≡ extended l.kinds (rest_of read.type_alone (l._turn-end - l._turn) l.bytes);
}
