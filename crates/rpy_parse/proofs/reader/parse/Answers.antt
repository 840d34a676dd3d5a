use Rattle.std.proofs.Common.{◌≡◌, ◌∙◌, ◌<◌, Ok, subst, length, arith}
use Rattle.rpy_parse.specs.Input.{Input}
use Rattle.rpy_parse.specs.Shapes.{Whole}
use Rattle.rpy_parse.specs.Rows.{reading}
use Rattle.rpy_parse.proofs.Answered.{whole_left}
use Rattle.rpy_parse.proofs.reader.parse.Goals as goal

pub returns-else-left-eq0-clause-dead : goal.returns-else-left-eq0-clause-dead
returns-else-left-eq0-clause-dead c =
    let same : c.new-cursor.result ≡ c.args.tokens.now = c.new-cursor.ensures ∙ c.as_slice.ensures in
    let reads : reading Whole tt c.args.tokens.now ≡ Ok (c.in-Ok.module, c.whole.new.tokens) = subst (λ (w : Input). reading Whole tt w ≡ Ok (c.in-Ok.module, c.whole.new.tokens)) same c.in-Ok.ensures.reads in
    let lt : 0 < length c.whole.new.tokens = omega (arith, c.if-left-eq0.false, c.left.ensures) in
    let dead = whole_left c.args.tokens.now c.in-Ok.module c.whole.new.tokens reads lt in
    rw (c.len.ensures, c.left-else-left-eq0.ensures) dead
