use Rattle.std.proofs.Common.{◌≡◌, drop}
use Rattle.csub_tree.specs.Checked.{keeps_blocks}
use Rattle.csub_tree.proofs.check.statements.blocks_ok.Given as goal

abbrev pub invariant-loop-block : goal.invariant-loop-block
invariant-loop-block l = keeps_blocks l.file l.function (drop l.block-index l.blocks) ≡ keeps_blocks l.file l.function l.blocks
