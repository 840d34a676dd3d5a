use Rattle.std.proofs.Common.{◌≡◌, ◌++◌, take}
use Rattle.flow_graph.specs.GraphText.{numbered, block_text}
use Rattle.flow_graph.proofs.text.put_blocks.Given as goal

abbrev pub invariant-loop-i : goal.invariant-loop-i
invariant-loop-i l = l.text ≡ l.initial.text ++ numbered (block_text l.classes) 0 (take l.i l.blocks)
