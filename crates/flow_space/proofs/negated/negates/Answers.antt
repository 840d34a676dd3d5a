use Rattle.std.proofs.Common.{false, sym, ◌∙◌, arith}
use Rattle.flow_trees.specs.Tree.{none}
use Rattle.flow_space.proofs.Items.{none_of}
use Rattle.flow_space.proofs.Opposites.{negates_one, negates_wide}
use Rattle.flow_space.proofs.negated.negates.Goals as goal

pub returns-in-empty : goal.returns-in-empty
returns-in-empty c =
    let e = none_of c.args.others.now (omega arith) in
    λ sites a. rw e (c.denies.ensures 0 false none ∙ sym (negates_one c.args.op.now a))

pub returns-in-len1-up : goal.returns-in-len1-up
returns-in-len1-up c = λ sites a. sym (negates_wide sites c.args.op.now a c.args.others.now (omega arith))
