use Rattle.std.proofs.Common.{sym, ◌∙◌}
use Rattle.rpy_token.proofs.ScanLemmas.{one_wider, none_wider}
use Rattle.rpy_token.proofs.scan.close_indents.Goals as goal

pub loop-scan-preserved : goal.loop-scan-preserved
loop-scan-preserved c =
    one_wider c.args.width c.args.place.now c.args.scan.now c.loop-scan.scan c.put.new.scan c.pop.result c.pop.new.self c.loop-scan.invariant c.in_ok-put.ensures (sym c.is_wider.ensures ∙ c.loop-scan-test.true) c.pop.ensures

pub returns : goal.returns
returns c = sym (none_wider c.args.width c.args.place.now c.loop-scan.scan (sym c.is_wider.ensures ∙ c.loop-scan-test.false)) ∙ c.loop-scan.invariant
