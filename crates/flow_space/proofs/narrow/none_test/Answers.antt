use Rattle.std.proofs.Common.{sym, ap, ◌∙◌}
use Rattle.flow_trees.specs.Tells.{of_none, is_none}
use Rattle.flow_trees.specs.Tree.{Local}
use Rattle.flow_space.specs.Trees.{expr_of}
use Rattle.flow_space.proofs.Narrows.{none_some, none_none}
use Rattle.flow_space.proofs.narrow.none_test.Goals as goal

pub returns-in-None : goal.returns-in-None
returns-in-None c = λ sites. sym (none_none (expr_of sites c.args.a.now) (is_none (expr_of sites c.args.b.now)) c.args.truth (sym c.in-None.is ∙ c.local_of.ensures sites))

pub returns-in-Some : goal.returns-in-Some
returns-in-Some c = λ sites.
    c.none_told.ensures ∙ ap (λ named. of_none (Local 0 c.in-Some.local) named c.args.truth) (c.is_none.ensures sites)
    ∙ sym (none_some c.in-Some.local (expr_of sites c.args.a.now) (is_none (expr_of sites c.args.b.now)) c.args.truth (sym c.in-Some.is ∙ c.local_of.ensures sites))
