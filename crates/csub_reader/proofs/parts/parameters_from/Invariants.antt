use Rattle.std.proofs.Common.{◌≡◌, ◌<◌, ◌++◌, ◌-◌, ◌∷◌, length, codes}
use Rattle.csub_tree.specs.Spelling.{parameter, parameters}
use Rattle.csub_text.specs.Read.{begins, mapped}
use Rattle.csub_text.specs.ReadFile as pure
use Rattle.csub_reader.specs.Parts.{extended}
use Rattle.csub_reader.proofs.parts.parameters_from.Given as goal

abbrev pub invariant-loop-turn : goal.invariant-loop-turn
invariant-loop-turn l = record {
  some : 0 < length l.kinds;
  text : parameter 0 l.fn.first ++ l.initial.bytes ≡ parameters l.kinds ++ l.bytes;
  reads : mapped (λ ys. l.fn.first ∷ ys) (pure.parts_while (begins (codes ", ")) pure.more_parameter (length l.initial.bytes) 1 l.initial.bytes)
      ≡ extended l.kinds (pure.parts_while (begins (codes ", ")) pure.more_parameter (l._turn-end - l._turn) (length l.kinds) l.bytes);
}
