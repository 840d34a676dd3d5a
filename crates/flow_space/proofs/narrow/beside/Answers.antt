use Rattle.std.proofs.Common.{sym, ap, ◌∙◌}
use Rattle.flow_space.specs.Trees.{expr_of}
use Rattle.flow_space.specs.Placed.{place_of, told_beside}
use Rattle.flow_space.proofs.Narrows.{least_some, least_none}
use Rattle.flow_space.proofs.narrow.beside.Goals as goal

pub returns-in-None : goal.returns-in-None
returns-in-None c = λ sites. sym (least_none (expr_of sites c.args.local.now) (expr_of sites c.args.other.now) (place_of c.args.side) (sym c.in-None.is ∙ c.local_of.ensures sites))

pub returns-in-Some : goal.returns-in-Some
returns-in-Some c = λ sites.
    c.beside_told.ensures ∙ ap (told_beside c.in-Some.local c.args.side) (c.binds.ensures sites)
    ∙ sym (least_some c.in-Some.local (expr_of sites c.args.local.now) (expr_of sites c.args.other.now) (place_of c.args.side) (sym c.in-Some.is ∙ c.local_of.ensures sites))
