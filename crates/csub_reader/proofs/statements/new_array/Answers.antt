use Rattle.std.proofs.Common.{◌++◌, rules, codes}
use Rattle.csub_tree.specs.Spelling.{target, cast, struct_name, operand_text}
use Rattle.csub_reader.proofs.Pieces.{five_after}
use Rattle.csub_reader.proofs.statements.new_array.Goals as goal

pub returns-clause-spelled : goal.returns-clause-spelled
returns-clause-spelled c =
    five_after (target c.args.a ++ cast c.args.m) (codes "RPY_NEWARRAY(struct ") (struct_name c.in_ok-made.made.0) (codes ", ")
    (operand_text c.in_ok-made.made.1) (codes ");") c.args.bytes.now c.sized.new.bytes (search rules)
