use Rattle.std.proofs.Common.{false, sym, ◌∙◌, arith}
use Rattle.flow_trees.specs.Tree.{none}
use Rattle.flow_space.proofs.Items.{none_of, both_are}
use Rattle.flow_space.proofs.Opposites.{ways_one, ways_wide}
use Rattle.flow_space.specs.Trees.{expr_of}
use Rattle.flow_space.proofs.negated.by_ways.Goals as goal

pub returns-in-empty : goal.returns-in-empty
returns-in-empty c =
    let e = none_of c.args.others.now (omega arith) in
    λ sites. rw e (c.both.ensures ∙ both_are (c.denies-by_op.ensures 0 false none) (c.has_ways-by_operand.ensures sites) ∙ sym (ways_one c.args.op.now (expr_of sites c.args.a.now)))

pub returns-in-len1-up : goal.returns-in-len1-up
returns-in-len1-up c = λ sites. sym (ways_wide sites c.args.op.now (expr_of sites c.args.a.now) c.args.others.now (omega arith))
