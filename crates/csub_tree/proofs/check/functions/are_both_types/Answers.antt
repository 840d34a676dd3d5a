use Rattle.std.proofs.Common.{◌&&◌, sym, ap, ◌∙◌}
use Rattle.csub_tree.specs.Checked.{are_types}
use Rattle.csub_tree.proofs.Walks.{types_of_both}
use Rattle.csub_tree.proofs.check.functions.are_both_types.Goals as goal

pub returns-then-are_types : goal.returns-then-are_types
returns-then-are_types c = c.are_types-then-are_types.ensures
    ∙ sym (ap (λ b. b && are_types c.args.structs.now c.args.more.now) (sym c.are_types.ensures ∙ c.if-are_types.true))
    ∙ types_of_both c.args.structs.now c.args.kinds.now c.args.more.now

pub returns-else-are_types : goal.returns-else-are_types
returns-else-are_types c = c.if-are_types.false
    ∙ sym (ap (λ b. b && are_types c.args.structs.now c.args.more.now) (sym c.are_types.ensures ∙ c.if-are_types.false))
    ∙ types_of_both c.args.structs.now c.args.kinds.now c.args.more.now
