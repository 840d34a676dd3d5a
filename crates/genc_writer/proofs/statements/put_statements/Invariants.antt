use Rattle.std.proofs.Common.{◌≡◌, ◌++◌, take}
use Rattle.std.specs.List.{flat_map}
use Rattle.csub_tree.specs.Spelling.{statement_line}
use Rattle.genc_writer.proofs.statements.put_statements.Given as goal

abbrev pub invariant-loop-statement : goal.invariant-loop-statement
invariant-loop-statement l = l.text ≡ l.initial.text ++ flat_map statement_line (take l.statement-index l.statements)
