use Rattle.std.proofs.Common.{rules, ◌≡◌, ◌∙◌}
use Rattle.exc_checks.proofs.Alike.{tested, tested_same}
use Rattle.exc_checks.proofs.whole.is_raisable.Goals as goal

-- src/whole.rt:12:1
pub returns : goal.returns
returns c = (let is : c.if-raisable.result ≡ tested c.args.program.now = search rules in is ∙ tested_same c.args.program.now)
