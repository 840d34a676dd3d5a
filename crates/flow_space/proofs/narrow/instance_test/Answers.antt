use Rattle.std.proofs.Common.{sym, ◌∙◌}
use Rattle.flow_space.specs.Trees.{expr_of}
use Rattle.flow_space.proofs.Narrows.{class_some, class_none}
use Rattle.flow_space.proofs.narrow.instance_test.Goals as goal

pub returns-in-None : goal.returns-in-None
returns-in-None c = λ sites. sym (class_none c.args.class (expr_of sites c.args.a.now) c.args.truth (sym c.in-None.is ∙ c.local_of.ensures sites))

pub returns-in-Some : goal.returns-in-Some
returns-in-Some c = λ sites. c.class_told.ensures ∙ sym (class_some c.args.class c.in-Some.local (expr_of sites c.args.a.now) c.args.truth (sym c.in-Some.is ∙ c.local_of.ensures sites))
