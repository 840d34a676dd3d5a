use Rattle.std.proofs.Common.{◌≡◌, drop}
use Rattle.csub_tree.specs.Checked.{keeps_block}
use Rattle.csub_tree.proofs.check.statements.block_ok.Given as goal

abbrev pub invariant-loop-i : goal.invariant-loop-i
invariant-loop-i l = keeps_block l.file l.function (drop l.i l.statements) ≡ keeps_block l.file l.function l.statements
